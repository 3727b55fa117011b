use Rattle.cx_typed_links.proofs.Stays.{things_stay_typed}
use Rattle.cx_typed_links.proofs.things_stay_typed.Goals as goal

pub returns : goal.returns
returns c = things_stay_typed
