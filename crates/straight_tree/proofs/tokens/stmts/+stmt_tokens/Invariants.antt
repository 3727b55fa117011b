use Rattle.std.proofs.Common.{◌≡◌, ◌++◌, map, drop}
use Rattle.straight_tree.specs.Tokens.{joined, items_tokens}
use Rattle.straight_tree.specs.Views.{item_view, items}
use Rattle.straight_tree.proofs.tokens.stmts.+stmt_tokens.Given as goal

abbrev pub invariant-put_items-loop-item : goal.invariant-put_items-loop-item
invariant-put_items-loop-item l = l.out ++ joined (items_tokens (items (map item_view (drop l.item-index l.list)))) ≡ l.fn.out ++ joined (items_tokens (items (map item_view l.list)))
