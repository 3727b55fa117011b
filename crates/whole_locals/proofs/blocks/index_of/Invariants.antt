use Rattle.std.proofs.Common.{◌≡◌, ℕ, ◌||◌, drop}
use Rattle.whole_keys.specs.Called.{is_in}
use Rattle.whole_names.specs.FunctionNames.{is_among}
use Rattle.whole_locals.proofs.blocks.index_of.Given as goal

-- what is noted and what is left answer for all
abbrev pub invariant-loop-one : goal.invariant-loop-one
invariant-loop-one l = (number : ℕ) → (is_in l.index number || is_among (drop l.one-index l.numbers) number) ≡ is_among l.numbers number
