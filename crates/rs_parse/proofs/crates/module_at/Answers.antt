use Rattle.rs_tree.specs.Views.{item_view}
use Rattle.std.proofs.Common.{not, ◌&&◌, List, map, codes, ap, ◌∙◌}
use Rattle.rs_tree.specs.declared.item.Item.{Item}
use Rattle.std.specs.List.{list_any}
use Rattle.rs_text.specs.Valid.{is_function}
use Rattle.rs_parse.specs.Reading.{FileHas}
use Rattle.rs_parse.proofs.ModuleFiles.{file_has, no_main_at, main_at, wrong_at}
use Rattle.rs_parse.proofs.crates.module_at.Goals as goal

pub returns-then-lacks_main : goal.returns-then-lacks_main
returns-then-lacks_main c =
    let has : FileHas c.args.files.now c.args.number (map item_view c.in-Ok.items) =
    file_has c.args.files.now c.args.number c.index-files-number.result c.as_slice.result.now c.read_items.result c.in-Ok.items c.requires c.index-files-number.is c.as_slice.ensures c.read_items.ensures c.in-Ok.is in
    wrong_at c.args.files.now c.args.number c.args.name.now c.args.is_entry c.at_file-then-lacks_main.result c.at_file-then-lacks_main.ensures
    (no_main_at c.args.files.now c.args.number c.args.is_entry (map item_view c.in-Ok.items) has (c.if-lacks_main.ensures ∙ ap (λ (l : List Item). c.args.is_entry && not (list_any (is_function (codes "main_0")) (map item_view l))) c.as_slice-2.ensures))

pub returns : goal.returns
returns c =
    let has : FileHas c.args.files.now c.args.number (map item_view c.in-Ok.items) =
    file_has c.args.files.now c.args.number c.index-files-number.result c.as_slice.result.now c.read_items.result c.in-Ok.items c.requires c.index-files-number.is c.as_slice.ensures c.read_items.ensures c.in-Ok.is in
    (c.in_ok-name.ensures, has, main_at c.args.is_entry _ (c.if-lacks_main.ensures ∙ ap (λ (l : List Item). c.args.is_entry && not (list_any (is_function (codes "main_0")) (map item_view l))) c.as_slice-2.ensures))
