use Rattle.std.proofs.Common.{◌≡◌, map, drop}
use Rattle.cx_core.specs.Views.{view_object}
use Rattle.rs_tree.specs.Views.{item_view}
use Rattle.whole_given.specs.Whole.{named}
use Rattle.whole_statics.specs.Statics.{statics_behind}
use Rattle.whole_statics.proofs.statics.put_statics.Given as goal

abbrev pub invariant-loop-one : goal.invariant-loop-one
invariant-loop-one l =
    statics_behind (named l.whole) l.unit (map view_object (drop l.one-index l.objects)) (map item_view l.items)
    ≡ statics_behind (named l.whole) l.unit (map view_object l.objects) (map item_view l.fn.items)
