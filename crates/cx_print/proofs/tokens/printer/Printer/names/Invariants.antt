use Rattle.std.proofs.Common.{map, drop}
use Rattle.cx_print.specs.Printing.{Appends, grown}
use Rattle.cx_tree.specs.Tokens as tokens
use Rattle.cx_print.proofs.tokens.printer.Printer.names.Given as goal

abbrev pub invariant-loop-name : goal.invariant-loop-name
invariant-loop-name l = Appends l.initial.self (grown l.self (tokens.behind_names (drop l.name-index l.others) l.ahead)) (tokens.behind_names l.others l.initial.ahead)
