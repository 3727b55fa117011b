use Rattle.std.proofs.Common.{length}
use Rattle.rs_parse.proofs.CargoLaws.{IsLeft}
use Rattle.rs_parse.proofs.cargo.other_line.Given as goal

abbrev pub invariant-loop-rest : goal.invariant-loop-rest
invariant-loop-rest l = IsLeft l.text l.lines l.rest l.left

abbrev pub decreases-loop-rest : goal.decreases-loop-rest
decreases-loop-rest l = length l.rest
