use Rattle.std.proofs.Common.{◌≡◌, ℕ, ◌||◌, map, drop}
use Rattle.whole_keys.specs.Called.{is_in}
use Rattle.whole_keys.specs.Views.{view_call}
use Rattle.whole_names.specs.Keys.{is_called_bare}
use Rattle.whole_keys.proofs.called.called_bare.Given as goal

-- what is noted and what is left answer for all
abbrev pub invariant-loop-one : goal.invariant-loop-one
invariant-loop-one l =
    (number : ℕ) → (is_in l.called number || is_called_bare (map view_call (drop l.one-index l.calls)) number) ≡ is_called_bare (map view_call l.calls) number
