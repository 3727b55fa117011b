use Rattle.std.proofs.Common.{List, map, ap, ◌∙◌}
use Rattle.cx_core.specs.Views.{view_object}
use Rattle.cx_core.specs.declared.program.CoreObject.{CoreObject}
use Rattle.cx_core.specs.declared.program.Parts.{Parts}
use Rattle.rs_tree.specs.Views.{item_view}
use Rattle.rs_tree.specs.declared.item.Item.{Item}
use Rattle.whole_given.specs.Whole.{named}
use Rattle.whole_statics.proofs.Objects.{all_statics}
use Rattle.whole_statics.proofs.statics.static_items.Goals as goal

pub returns : goal.returns
returns c =
    all_statics (named c.args.whole.now) c.args.unit (map view_object c.as_slice.result.now) (map item_view c.new-items.result) (map item_view c.put_statics.new.items)
    (ap (λ (list : List CoreObject). map view_object list) (c.as_slice.ensures ∙ ap (λ (parts : Parts). parts.objects) c.parts.ensures))
    (ap (λ (list : List Item). map item_view list) c.new-items.ensures) c.in_ok-put_statics.ensures
