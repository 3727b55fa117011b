use Rattle.std.proofs.Common.{◌≡◌, ◌+◌, map, drop}
use Rattle.cx_core.specs.Views.{view_type}
use Rattle.cx_init.specs.Orders.{rising_front}
use Rattle.cx_init.specs.Views.{view_stored}
use Rattle.cx_kinds.specs.Known.{types_in}
use Rattle.cx_init.proofs.order.rising_front.Given as goal

-- those that are left rise so far
abbrev pub invariant-loop-index : goal.invariant-loop-index
invariant-loop-index l =
    l.index + rising_front (types_in l.known) (view_type l.t) (map view_stored (drop l.index l.stored)) ≡ rising_front (types_in l.known) (view_type l.t) (map view_stored l.stored)
