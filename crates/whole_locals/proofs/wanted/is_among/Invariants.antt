use Rattle.std.proofs.Common.{◌≡◌, drop}
use Rattle.whole_names.specs.FunctionNames.{is_among}
use Rattle.whole_locals.proofs.wanted.is_among.Given as goal

-- what is left answers for all
abbrev pub invariant-loop-one : goal.invariant-loop-one
invariant-loop-one l = is_among l.numbers l.number ≡ is_among (drop l.one-index l.numbers) l.number
