use Rattle.lift_stands.proofs.Kept.{nothing_keeps, both_keep, fewer_keep}
use Rattle.lift_stands.proofs.laws.pieces_keep_others.Goals as goal

pub returns : goal.returns
returns c = record { nothing = nothing_keeps; both = both_keep; fewer = fewer_keep }
