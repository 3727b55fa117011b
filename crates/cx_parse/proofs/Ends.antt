-- One of two marks ends an expression.
use Rattle.std.proofs.Common.{◌≡◌, ℕ, ◌<◌, false, List, sym, ap, ◌∙◌, subst, refl, inl, inr, lit≤}
use Rattle.std.specs.Prelude.{◌⊎◌}
use Rattle.cx_cursor.specs.Sights.{same_mark}
use Rattle.cx_words.specs.Continuations.{continuation_of_mark, continuation_of_other, strength}
use Rattle.cx_lex.specs.declared.token.Punct.{Punct}
use Rattle.cx_lex.specs.declared.token.Punct.TheVariants as punct
use Rattle.cx_lex.specs.declared.token.Token.{Token}
use Rattle.cx_parse.proofs.Stood.{EndsExpr, EndsAt}
use Rattle.cx_tree.specs.Levels.{binary_level, is_assignment_operator}

weak_among : (one other p : Punct) (least : ℕ) → strength (continuation_of_mark one) < least → strength (continuation_of_mark other) < least → (p ≡ one) ⊎ (p ≡ other)
    → strength (continuation_of_mark p) < least
weak_among one other p least first second (inl is) = subst (λ (p : Punct). strength (continuation_of_mark p) < least) (sym is) first
weak_among one other p least first second (inr is) = subst (λ (p : Punct). strength (continuation_of_mark p) < least) (sym is) second

apart_among : (one other p q : Punct) → same_mark one q ≡ false → same_mark other q ≡ false → (p ≡ one) ⊎ (p ≡ other) → same_mark p q ≡ false
apart_among one other p q first second (inl is) = ap (λ (p : Punct). same_mark p q) is ∙ first
apart_among one other p q first second (inr is) = ap (λ (p : Punct). same_mark p q) is ∙ second

-- one of two marks that don't continue an expression of a level
pub ends_at_both : (one other : Punct) (least : ℕ) (rest : List Token) → strength (continuation_of_mark one) < least → strength (continuation_of_mark other) < least
    → same_mark one punct.LeftBrace ≡ false → same_mark other punct.LeftBrace ≡ false → EndsAt one other rest → EndsExpr least rest
ends_at_both one other least rest first second no_first no_second ends = record {
  front = ends.front;
  weak = weak_among one other ends.front.punct least first second ends.among;
  no_brace = apart_among one other ends.front.punct punct.LeftBrace no_first no_second ends.among;
}

-- a comma or a closing parenthesis ends an argument
pub arg_ends : (rest : List Token) → EndsAt punct.Comma punct.RightParenthesis rest → EndsExpr 2 rest
unfolding continuation_of_mark continuation_of_other binary_level is_assignment_operator same_mark
arg_ends rest ends = ends_at_both punct.Comma punct.RightParenthesis 2 rest (lit≤ tt) (lit≤ tt) refl refl ends

-- a comma or a closing brace ends the initialiser of an entry
pub entry_ends : (rest : List Token) → EndsAt punct.Comma punct.RightBrace rest → EndsExpr 2 rest
unfolding continuation_of_mark continuation_of_other binary_level is_assignment_operator same_mark
entry_ends rest ends = ends_at_both punct.Comma punct.RightBrace 2 rest (lit≤ tt) (lit≤ tt) refl refl ends

-- a comma or a semicolon ends the initialiser of a declarator
pub init_ends : (rest : List Token) → EndsAt punct.Comma punct.Semicolon rest → EndsExpr 2 rest
unfolding continuation_of_mark continuation_of_other binary_level is_assignment_operator same_mark
init_ends rest ends = ends_at_both punct.Comma punct.Semicolon 2 rest (lit≤ tt) (lit≤ tt) refl refl ends
