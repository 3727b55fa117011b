use Rattle.std.proofs.Common.{ℕ, ◌<◌}
use Rattle.cx_core.specs.Views.{view_types}
use Rattle.cx_grounded.specs.Grounded.{IsGroundedAt}
use Rattle.cx_grounded.proofs.grounded.are_grounded_by.Given as goal

abbrev pub invariant-loop-number : goal.invariant-loop-number
invariant-loop-number l = (number : ℕ) → number < l.number → IsGroundedAt (view_types l.types) l.ranks number
