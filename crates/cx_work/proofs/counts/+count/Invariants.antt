use Rattle.cx_work.proofs.Summed.{IsLeft}
use Rattle.cx_work.proofs.counts.+count.Given as goal

-- what was counted, with what is left, is the count of all
abbrev pub invariant-counted_among-loop-one : goal.invariant-counted_among-loop-one
invariant-counted_among-loop-one l = IsLeft l.operands l.count l.one-index
