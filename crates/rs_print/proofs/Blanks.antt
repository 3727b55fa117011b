-- Blanks before lines.
use Rattle.std.proofs.Common.{◌≡◌, ℕ, ◌+◌, ◌*◌, List, ◌++◌, replicate, codes, sym, ap, ◌∙◌, append_assoc, arith}
use Rattle.std.proofs.lemmas.List.{replicate-append-replicate}
use Rattle.rs_text.specs.Lines.{indentation}

-- one brace more has four blanks more
one_level_more : (depth : ℕ) → indentation (depth + 1) ≡ indentation depth ++ codes "    "
one_level_more depth =
    let count : 4 * (depth + 1) ≡ 4 * depth + 4 = omega arith in
    ap (λ n. replicate n 32) count ∙ sym (replicate-append-replicate (4 * depth) 4 32)

-- what is written with four blanks more
pub four_more : (before one two : List ℕ) (depth : ℕ) → one ≡ before ++ indentation depth → two ≡ one ++ codes "    " →
    two ≡ before ++ indentation (depth + 1)
four_more before one two depth e f =
    f ∙ (ap (λ q. q ++ codes "    ") e ∙ (append_assoc before (indentation depth) (codes "    ") ∙ ap (λ q. before ++ q) (sym (one_level_more depth))))
