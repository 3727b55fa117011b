use Rattle.std.proofs.Common.{◌≡◌, map, drop}
use Rattle.rs_text.specs.Valid.{are_in_order}
use Rattle.rs_tree.specs.Views.{item_view}
use Rattle.rs_valid.proofs.crates.are_in_order.Given as goal

-- what is left answers for all
abbrev pub invariant-loop-item : goal.invariant-loop-item
invariant-loop-item l = are_in_order l.first (map item_view (drop l.item-index l.items)) ≡ are_in_order 0 (map item_view l.items)
