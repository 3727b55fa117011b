use Rattle.lift_stands.proofs.Images.{place_stays, value_stays, cells_stay}
use Rattle.lift_stands.proofs.laws.stays_below.Goals as goal

pub returns : goal.returns
returns c = record { place = place_stays; value = value_stays; cells = cells_stay }
