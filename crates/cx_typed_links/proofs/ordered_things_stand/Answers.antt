use Rattle.cx_typed_links.proofs.Ordered.{ordered_things_stand}
use Rattle.cx_typed_links.proofs.ordered_things_stand.Goals as goal

pub returns : goal.returns
returns c = ordered_things_stand
