use Rattle.std.proofs.Common.{◌≡◌, map, drop}
use Rattle.cx_core.specs.Views.{puts_of, view_put}
use Rattle.lift_exprs.specs.Objects.{leave_bits}
use Rattle.lift_stores.specs.Names.{lift_names}
use Rattle.rs_items.specs.Known.{view_names}
use Rattle.lift_objects.proofs.covered.leave_bits.Given as goal

abbrev pub invariant-loop-one : goal.invariant-loop-one
invariant-loop-one l =
    leave_bits (lift_names (view_names l.names)) (puts_of (map view_put (drop l.one-index l.puts))) l.covered l.all
    ≡ leave_bits (lift_names (view_names l.names)) (puts_of (map view_put l.puts)) 0 l.all
