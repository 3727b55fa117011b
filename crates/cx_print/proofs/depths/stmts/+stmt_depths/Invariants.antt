use Rattle.std.proofs.Common.{◌≡◌, ◌-◌, ◌^◌, min, max, map, drop}
use Rattle.cx_tree.specs.Depth.{items_depth}
use Rattle.cx_tree.specs.Views.{item_view, items}
use Rattle.cx_print.proofs.depths.stmts.+stmt_depths.Given as goal

abbrev pub invariant-items_depth-loop-item : goal.invariant-items_depth-loop-item
invariant-items_depth-loop-item l = max l.deepest (min (items_depth (items (map item_view (drop l.item-index l.list)))) (2 ^ 64 - 1)) ≡ min (items_depth (items (map item_view l.list))) (2 ^ 64 - 1)
