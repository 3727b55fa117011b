use Rattle.std.proofs.Common.{◌≡◌, ◌++◌, map, drop}
use Rattle.cx_core.specs.Views.{view_order, view_unit}
use Rattle.cx_links.specs.Program.{from_each}
use Rattle.cx_linked.specs.Linking.{units_in}
use Rattle.cx_linked.specs.Named.{all_orders, order_alone}
use Rattle.cx_linked.proofs.parts.Linking.orders.Given as goal

abbrev pub invariant-loop-unit : goal.invariant-loop-unit
invariant-loop-unit l = map view_order l.all ++ from_each (order_alone (units_in l.self)) l.unit (map view_unit (drop l.unit l.self.named.units.now))
    ≡ all_orders (units_in l.self)
