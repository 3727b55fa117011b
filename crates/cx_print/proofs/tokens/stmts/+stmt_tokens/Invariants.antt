use Rattle.std.proofs.Common.{map, drop}
use Rattle.cx_print.specs.Printing.{Appends, grown}
use Rattle.cx_tree.specs.Tokens.{items_tokens}
use Rattle.cx_tree.specs.Views.{item_view, items}
use Rattle.cx_print.proofs.tokens.stmts.+stmt_tokens.Given as goal

abbrev pub invariant-put_block-loop-item : goal.invariant-put_block-loop-item
invariant-put_block-loop-item l = Appends l.initial.out (grown l.out (items_tokens (items (map item_view (drop l.item-index l.item-items))))) (items_tokens (items (map item_view l.item-items)))
