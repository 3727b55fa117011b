use Rattle.std.proofs.Common.{◌≡◌, ◌++◌, map, drop}
use Rattle.straight_core.specs.Views.{view_object}
use Rattle.straight_rust_tree.specs.View.{item_view}
use Rattle.straight_whole.specs.CrateOf.{static_of}
use Rattle.straight_whole.proofs.items.statics.Given as goal

abbrev pub invariant-loop-one : goal.invariant-loop-one
invariant-loop-one l = map item_view l.made ++ map static_of (map view_object (drop l.one-index l.objects)) ≡ map static_of (map view_object l.objects)
