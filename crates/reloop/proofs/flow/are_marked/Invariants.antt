use Rattle.std.proofs.Common.{◌≡◌, drop}
use Rattle.reloop.specs.Checks.{all_marked}
use Rattle.reloop.proofs.flow.are_marked.Given as goal

abbrev pub invariant-loop-mark : goal.invariant-loop-mark
invariant-loop-mark l = all_marked (drop l.mark-index l.marks) ≡ all_marked l.marks
