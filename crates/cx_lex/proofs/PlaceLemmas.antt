-- The line of a place, and whether a line begins there, behind a front.
use Rattle.std.proofs.Common.{◌≡◌, ℕ, ◌+◌, ◌==◌, Bool, true, false, not, ◌&&◌, ◌||◌, cond, List, [], ◌∷◌, ◌++◌, take, reverse, fold, refl, sym, ap, ◌∙◌, arith, append_assoc, append-nil, one-add, count_by}
use Rattle.std.specs.List.{list_all, prefix_len}
use Rattle.std.proofs.lemmas.List.{reverse-append}
use Rattle.std.proofs.lemmas.List.Sums.{sum_by-append}
use Rattle.cx_lex.specs.Bytes.{newline, is_margin}
use Rattle.cx_lex.specs.Place.{is_in_line, line_of, begins_line}
use Rattle.cx_lex.specs.Mirror.{stays_first}

pub line_of-append : (before front : List ℕ) → line_of (before ++ front) ≡ line_of before + count_by (λ b. b == newline) front
line_of-append before front = omega (arith, sum_by-append (λ b. cond (b == newline) 1 0) before front)

and_swap : (a b : Bool) → (a && b) ≡ (b && a)
and_swap true true = refl
and_swap true false = refl
and_swap false true = refl
and_swap false false = refl

margin_more : (ends margin : Bool) (b k : ℕ) (back : List ℕ) → is_margin b ≡ margin
    → list_all is_margin (take (cond (not ends) (1 + k) 0) (b ∷ back)) ≡ (ends || (list_all is_margin (take k back) && margin))
margin_more true margin b k back is = refl
margin_more false margin b k back is =
    ap (λ (n : ℕ). list_all is_margin (take n (b ∷ back))) (one-add k) ∙ ap (λ (m : Bool). m && list_all is_margin (take k back)) is ∙ and_swap margin (list_all is_margin (take k back))

begins_line-push : (before : List ℕ) (b : ℕ) → begins_line (before ++ b ∷ []) ≡ stays_first (begins_line before) b
begins_line-push before b =
    ap (λ (back : List ℕ). list_all is_margin (take (prefix_len is_in_line back) back)) (reverse-append before (b ∷ []))
    ∙ margin_more (b == newline) (is_margin b) b (prefix_len is_in_line (reverse before)) (reverse before) refl

pub begins_line-append : (before front : List ℕ) → begins_line (before ++ front) ≡ fold stays_first (begins_line before) front
begins_line-append before [] = ap begins_line (append-nil before)
begins_line-append before (b ∷ front) =
    ap begins_line (sym (append_assoc before (b ∷ []) front)) ∙ begins_line-append (before ++ b ∷ []) front
    ∙ ap (λ (first : Bool). fold stays_first first front) (begins_line-push before b)
