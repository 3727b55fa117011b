use Rattle.std.proofs.Common.{map, drop}
use Rattle.std.proofs.Common.{◌≡◌}
use Rattle.cx_print.specs.Printing.{Appends, grown}
use Rattle.cx_tree.specs.Tokens as tokens
use Rattle.cx_print.proofs.tokens.printer.Printer.keys.Given as goal

abbrev pub invariant-loop-word : goal.invariant-loop-word
invariant-loop-word l = Appends l.fn.self (grown l.self (tokens.owns (tokens.keys (drop l.word-index l.word-items)) l.ahead)) (tokens.owns (tokens.keys l.word-items) l.fn.lines) × (l.ahead ≡ drop l.word-index l.fn.lines)
