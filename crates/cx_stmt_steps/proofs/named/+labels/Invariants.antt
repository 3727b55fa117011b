use Rattle.std.proofs.Common.{◌≡◌, map, drop}
use Rattle.cx_stmt_steps.specs.Labels.{items_labels_behind}
use Rattle.cx_tree.specs.Views.{item_view, items as item_trees}
use Rattle.cx_stmt_steps.proofs.named.+labels.Given as goal

-- the labels of the items that are left stand behind those that were found
abbrev pub invariant-add_items_labels-loop-one : goal.invariant-add_items_labels-loop-one
invariant-add_items_labels-loop-one l =
    items_labels_behind l.found (item_trees (map item_view (drop l.one-index l.items)))
    ≡ items_labels_behind l.fn.found (item_trees (map item_view l.fn.items))
