use Rattle.std.proofs.Common.{◌≡◌, ◌++◌, drop}
use Rattle.whole_locals.proofs.blocks.put_numbers.Given as goal

abbrev pub invariant-loop-one : goal.invariant-loop-one
invariant-loop-one l = l.found ++ drop l.one-index l.numbers ≡ l.fn.found ++ l.numbers
