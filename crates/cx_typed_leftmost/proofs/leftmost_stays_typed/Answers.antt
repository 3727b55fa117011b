use Rattle.cx_typed_leftmost.proofs.leftmost_stays_typed.Goals as goal
use Rattle.cx_typed_leftmost.proofs.Values.{leftmost_stays_typed}

pub returns : goal.returns
returns c = leftmost_stays_typed
