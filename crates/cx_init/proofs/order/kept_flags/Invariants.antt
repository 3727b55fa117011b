use Rattle.std.proofs.Common.{◌≡◌, ◌≤◌, ◌++◌, ◌-◌, map, drop, length}
use Rattle.cx_core.specs.Views.{view_type}
use Rattle.cx_init.specs.Orders.{kept_flags}
use Rattle.cx_init.specs.Views.{view_stored}
use Rattle.cx_kinds.specs.Known.{types_in}
use Rattle.cx_init.proofs.order.kept_flags.Given as goal

-- those that are left give the rest
abbrev pub invariant-loop-start : goal.invariant-loop-start
invariant-loop-start l = record {
  flagged : l.flags ++ kept_flags (types_in l.known) (view_type l.t) (map view_stored (drop l.start l.stored)) ≡ kept_flags (types_in l.known) (view_type l.t) (map view_stored l.stored);
  within : l.start ≤ length l.stored;
}

abbrev pub decreases-loop-start : goal.decreases-loop-start
decreases-loop-start l = length l.stored - l.start
