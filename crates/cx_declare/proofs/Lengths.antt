-- Qualifiers, `static` and a length in brackets.
use Rattle.std.proofs.Common.{◌≡◌, ℕ, List, [], ◌∷◌, ◌++◌, Some, sym, ap, ◌∙◌, append_assoc}
use Rattle.cx_cursor.specs.Reading.{State, bind}
use Rattle.cx_cursor.specs.Sights.{key, mark}
use Rattle.cx_expr.specs.Below.{Below}
use Rattle.cx_expr.specs.Declarators.{BracketsRead, brackets_read, qualifiers_read, static_last}
use Rattle.cx_lex.specs.declared.token.Keyword.{Keyword}
use Rattle.cx_lex.specs.declared.token.Keyword.TheVariants as keywords
use Rattle.cx_lex.specs.declared.token.Punct.TheVariants.{RightBracket}
use Rattle.cx_tree.specs.Trees.{BracketsTree, ExprTree, StaticLast}

pub static_last_is : (below : Below) (list : List Keyword) (lines one all : List ℕ) (first last : ℕ) (e : ExprTree) (b : BracketsTree) (s t u v : State)
    → key keywords.Static s ≡ Some (first, t) → below.expr 2 t ≡ Some (e, u) → mark RightBracket u ≡ Some (last, v)
    → one ≡ lines ++ first ∷ [] → all ≡ one ++ last ∷ [] → b ≡ StaticLast list e
    → static_last below (qualifiers_read list lines) s ≡ Some (brackets_read b all, v)
unfolding static_last bind
static_last_is below list lines one all first last e b s t u v read_key read_expr read_mark more whole is =
    let joined : all ≡ lines ++ first ∷ last ∷ [] = whole ∙ ap (λ (l : List ℕ). l ++ last ∷ []) more ∙ append_assoc lines (first ∷ []) (last ∷ []) in
    rw (read_key, read_expr, read_mark) (ap (λ (l : List ℕ). Some (brackets_read (StaticLast list e) l, v)) (sym joined) ∙ ap (λ (tree : BracketsTree). Some (brackets_read tree all, v)) (sym is))
