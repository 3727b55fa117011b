use Rattle.std.proofs.Common.{◌≡◌, map, drop}
use Rattle.cx_core.specs.Views.{view_type}
use Rattle.cx_init.specs.Views.{view_stored}
use Rattle.cx_kinds.specs.Known.{types_in}
use Rattle.cx_rules.specs.Initial.{kept_by}
use Rattle.cx_init.proofs.order.kept_by.Given as goal

-- those that are left answer for all
abbrev pub invariant-loop-other : goal.invariant-loop-other
invariant-loop-other l =
    kept_by (types_in l.known) (view_type l.t) (map view_stored (drop l.other-index l.later)) (view_stored l.one) ≡ kept_by (types_in l.known) (view_type l.t) (map view_stored l.later) (view_stored l.one)
