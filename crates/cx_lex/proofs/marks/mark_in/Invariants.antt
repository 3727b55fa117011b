use Rattle.std.proofs.Common.{◌≡◌, drop, map}
use Rattle.cx_lex.specs.Mirror.{mark_in}
use Rattle.cx_lex.proofs.marks.mark_in.Given as goal

abbrev pub invariant-loop-entry : goal.invariant-loop-entry
invariant-loop-entry l =
    mark_in (map (λ entry. (entry.0.now, entry.1)) (drop l.entry-index l.table)) l.bytes ≡ mark_in (map (λ entry. (entry.0.now, entry.1)) l.table) l.bytes
