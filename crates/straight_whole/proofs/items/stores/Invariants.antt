use Rattle.std.proofs.Common.{◌≡◌, ◌++◌, map, drop}
use Rattle.straight_core.specs.Views.{view_object}
use Rattle.straight_lift.specs.Coded.{names_of}
use Rattle.straight_rust_tree.specs.View.{stmt_view}
use Rattle.straight_whole.specs.Coded.{stores_of}
use Rattle.straight_whole.proofs.items.stores.Given as goal

abbrev pub invariant-loop-one : goal.invariant-loop-one
invariant-loop-one l = map stmt_view l.made ++ stores_of (names_of l.names) (map view_object (drop l.one-index l.objects)) ≡ stores_of (names_of l.names) (map view_object l.objects)
