use Rattle.std.proofs.Common.{◌≡◌, map, drop, codes}
use Rattle.std.specs.List.{list_any}
use Rattle.rs_text.specs.Valid.{is_function}
use Rattle.rs_tree.specs.Views.{item_view}
use Rattle.rs_valid.proofs.crates.have_main.Given as goal

-- what is left answers for all
abbrev pub invariant-loop-item : goal.invariant-loop-item
invariant-loop-item l = list_any (is_function (codes "main_0")) (map item_view (drop l.item-index l.items)) ≡ list_any (is_function (codes "main_0")) (map item_view l.items)
