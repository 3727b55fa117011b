-- The table of marks.
use Rattle.std.proofs.Common.{◌≡◌, ℕ, List, ap, refl}
use Rattle.rs_text.specs.Tokens.{marks, first_mark}
use Rattle.rs_lex.specs.Table.{mark_table}

tables_agree : mark_table ≡ marks
unfolding marks mark_table
tables_agree = refl

pub same_marks : (text : List ℕ) → first_mark mark_table text ≡ first_mark marks text
same_marks text = ap (λ table. first_mark table text) tables_agree
