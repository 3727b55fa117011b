use Rattle.std.proofs.Common.{◌≡◌, ◌+◌, ℕ, length}
use Rattle.cx_renumber.specs.Views.{number_in}
use Rattle.cx_linked.proofs.numbers.own_numbers.Given as goal

abbrev pub invariant-loop-number : goal.invariant-loop-number
invariant-loop-number l = (length l.table ≡ l.number) × ((n : ℕ) → number_in l.table l.before n ≡ l.before + n)
