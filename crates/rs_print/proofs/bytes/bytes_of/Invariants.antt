use Rattle.std.proofs.Common.{◌≡◌, ◌++◌, drop}
use Rattle.rs_text.specs.Lines.{text_of_lines}
use Rattle.rs_print.proofs.bytes.bytes_of.Given as goal

-- what is written, and what is left to write, are all that is written
abbrev pub invariant-loop-line : goal.invariant-loop-line
invariant-loop-line l = l.bytes.items ++ text_of_lines (drop l.line-index l.lines) ≡ text_of_lines l.lines
