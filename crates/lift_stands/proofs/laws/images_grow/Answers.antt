use Rattle.lift_stands.proofs.Images.{extends_same, extends_more, extends_one, next_image}
use Rattle.lift_stands.proofs.laws.images_grow.Goals as goal

pub returns : goal.returns
returns c = record { same = extends_same; more = extends_more; one = extends_one; next = next_image }
