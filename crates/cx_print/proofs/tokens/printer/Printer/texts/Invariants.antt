use Rattle.std.proofs.Common.{drop}
use Rattle.cx_print.specs.Printing.{Appends, grown}
use Rattle.cx_tree.specs.Tokens.{texts_tokens}
use Rattle.cx_print.proofs.tokens.printer.Printer.texts.Given as goal

abbrev pub invariant-loop-part : goal.invariant-loop-part
invariant-loop-part l = Appends l.fn.self (grown l.self (texts_tokens (drop l.part-index l.part-items) l.ahead)) (texts_tokens l.part-items l.fn.lines)
