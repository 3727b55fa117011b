use Rattle.std.proofs.Common.{◌≡◌, map, drop}
use Rattle.std.specs.List.{list_all}
use Rattle.rs_text.specs.Valid.{valid_item}
use Rattle.rs_tree.specs.Views.{item_view}
use Rattle.rs_valid.proofs.crates.are_valid.Given as goal

-- what is left answers for all
abbrev pub invariant-loop-item : goal.invariant-loop-item
invariant-loop-item l = list_all valid_item (map item_view (drop l.item-index l.items)) ≡ list_all valid_item (map item_view l.items)
