use Rattle.std.proofs.Common.{◌≡◌, map, drop}
use Rattle.rs_tree.specs.Views.{outer_view}
use Rattle.whole_given.specs.Whole.{named}
use Rattle.whole_keys.specs.Views.{view_key}
use Rattle.whole_statics.specs.Outers.{outers_behind}
use Rattle.whole_statics.proofs.outers.put_keys.Given as goal

abbrev pub invariant-loop-one : goal.invariant-loop-one
invariant-loop-one l =
    outers_behind (named l.whole) l.unit l.called l.for_malloc (map view_key (drop l.one-index l.keys)) (map outer_view l.outers)
    ≡ outers_behind (named l.whole) l.unit l.called l.for_malloc (map view_key l.keys) (map outer_view l.fn.outers)
