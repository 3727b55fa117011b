use Rattle.std.proofs.Common.{◌∙◌, sym, ap, map, option_map, List}
use Rattle.rs_layout.specs.Found.{callee_view}
use Rattle.rs_layout.proofs.Found.{callee_of_items}
use Rattle.rs_mean.specs.Laws.{bodies_of}
use Rattle.rs_tree.specs.declared.item.Item.{Item}
use Rattle.rs_tree.specs.Views.{item_view, module_view}
use Rattle.rs_exec.proofs.Started.{called_in}
use Rattle.rs_exec.proofs.program.call_in.Goals as goal

pub returns : goal.returns
returns g c = called_in (bodies_of (map module_view c.args.scene.modules.now)) (option_map callee_view c.callee_among-callee.result) _
    (c.callee_among-callee.ensures ∙ sym (callee_of_items c.args.name.now (map item_view c.as_slice.result.now)) ∙ ap (λ (items : List Item). Rattle.rs_mean.specs.Lookups.callee_among c.args.name.now (map item_view items)) c.as_slice.ensures)
    c.call_found.ensures
