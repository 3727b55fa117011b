use Rattle.std.proofs.Common.{◌≡◌, ◌++◌}
use Rattle.rs_text.specs.Lines.{indentation}
use Rattle.rs_print.proofs.bytes.indentation.Given as goal

-- the blanks of the braces so far are written
abbrev pub invariant-loop-level : goal.invariant-loop-level
invariant-loop-level l = l.bytes.items ≡ l.fn.bytes.items ++ indentation l._level
