use Rattle.std.proofs.Common.{◌≡◌, drop, map}
use Rattle.rs_text.specs.Tokens.{first_mark}
use Rattle.rs_lex.proofs.marks.first_mark.Given as goal

abbrev pub invariant-loop-entry : goal.invariant-loop-entry
invariant-loop-entry l = first_mark (map (λ entry. entry.now) (drop l.entry-index l.table)) l.bytes ≡ first_mark (map (λ entry. entry.now) l.table) l.bytes
