use Rattle.std.proofs.Common.{◌≡◌, map, drop, false}
use Rattle.rs_tree.specs.Views.{item_view}
use Rattle.rs_valid.specs.Lists.{ends_from}
use Rattle.rs_valid.proofs.crates.last_is_initialiser.Given as goal

-- what is left answers for all
abbrev pub invariant-loop-item : goal.invariant-loop-item
invariant-loop-item l = ends_from l.ends (map item_view (drop l.item-index l.items)) ≡ ends_from false (map item_view l.items)
