use Rattle.std.proofs.Common.{◌≡◌, map, drop}
use Rattle.cx_context.specs.Views.{scope_of}
use Rattle.cx_scope.specs.Views.{view_thing}
use Rattle.cx_unit_ends.proofs.tentative.first_refused.Given as goal
use Rattle.cx_unit_ends.specs.Refused as first

-- the earliest so far and what is left answer for all
abbrev pub invariant-loop-one : goal.invariant-loop-one
invariant-loop-one l =
    first.earlier l.earliest (first.first_refused (scope_of l.context) (map view_thing (drop l.one-index l.things)))
    ≡ first.first_refused (scope_of l.context) (map view_thing l.things)
