use Rattle.std.proofs.Common.{◌≡◌, ◌+◌, map, drop}
use Rattle.rs_tree.specs.Views.{item_view}
use Rattle.rs_valid.specs.Lists.{valid_front}
use Rattle.rs_valid.proofs.crates.valid_front.Given as goal

-- those that were passed, and what is said of those that are left
abbrev pub invariant-loop-index : goal.invariant-loop-index
invariant-loop-index l = l.index + valid_front l.first (map item_view (drop l.index l.items)) ≡ valid_front 0 (map item_view l.items)
