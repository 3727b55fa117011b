use Rattle.std.proofs.Common.{◌≡◌, drop, map}
use Rattle.cx_lex.specs.Words.{entry_of}
use Rattle.cx_lex.proofs.words.entry_of.Given as goal

abbrev pub invariant-loop-entry : goal.invariant-loop-entry
invariant-loop-entry l =
    entry_of (map (λ entry. (entry.0.now, entry.1)) (drop l.entry-index l.table)) l.word ≡ entry_of (map (λ entry. (entry.0.now, entry.1)) l.table) l.word
