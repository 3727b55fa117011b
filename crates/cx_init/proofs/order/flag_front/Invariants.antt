use Rattle.std.proofs.Common.{◌≡◌, ◌++◌, map, drop}
use Rattle.cx_core.specs.Views.{view_type}
use Rattle.cx_init.specs.Views.{view_stored}
use Rattle.cx_kinds.specs.Known.{types_in}
use Rattle.cx_rules.specs.Initial.{kept_by}
use Rattle.cx_init.proofs.order.flag_front.Given as goal

-- the flags so far, and those of the values that are left
abbrev pub invariant-loop-one : goal.invariant-loop-one
invariant-loop-one l =
    l.flags ++ map (kept_by (types_in l.known) (view_type l.t) (map view_stored l.later)) (map view_stored (drop l.one-index l.front))
    ≡ l.initial.flags ++ map (kept_by (types_in l.known) (view_type l.t) (map view_stored l.later)) (map view_stored l.front)
