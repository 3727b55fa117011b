use Rattle.std.proofs.Common.{map, drop}
use Rattle.cx_print.specs.Printing.{Appends, grown}
use Rattle.cx_tree.specs.Tokens.{externals_tokens}
use Rattle.cx_tree.specs.Views.{external_view}
use Rattle.cx_print.proofs.tokens.put_externals.Given as goal

abbrev pub invariant-loop-part : goal.invariant-loop-part
invariant-loop-part l = Appends l.fn.out (grown l.out (externals_tokens (map external_view (drop l.part-index l.parts)))) (externals_tokens (map external_view l.parts))
