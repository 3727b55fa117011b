-- When two marks are the same.
use Rattle.std.proofs.Common.{◌≡◌, ◌≤◌, ◌<◌, nat_lt, true, false, refl, sym, ◌∙◌, lit≤, arith}
use Rattle.std.proofs.lemmas.Bool.Decides.{nat_tests}
use Rattle.std.proofs.lemmas.Bool.{eq-eqb, true≢false, cond-true, cond-false}
use denote.Enum.Bare.{same_true}
use denote.Enum.Declared.{tag_of}
use Rattle.cx_lex.specs.contracts.token.Punct.{the_type}
use Rattle.cx_lex.specs.declared.token.Punct.{Punct}
use Rattle.cx_lex.specs.declared.token.Punct.TheVariants.{LeftParenthesis, RightParenthesis, LeftBrace, RightBrace, Ampersand, Star, Plus, Minus, Slash, Percent, ShiftLeft, ShiftRight, Less, Greater, LessEqual, GreaterEqual, EqualEqual, NotEqual, Caret, Bar, AndAnd, BarBar, Equal, Comma, Semicolon}
use Rattle.straight_parse.specs.declared.continuation.Continuation.TheVariants.{Nothing, Operates, Assigns, Calls}
use Rattle.straight_parse.specs.Continuations.{continuation_of_mark}
use Rattle.straight_parse.specs.Sights.{same_mark}
use Rattle.straight_tree.specs.Levels.{binary_level, is_unary_operator, is_assignment_operator}

pub same_mark_same : (a b : Punct) → same_mark a b ≡ true → a ≡ b
unfolding same_mark
same_mark_same a b h = same_true the_type tt a b h

pub same_mark_refl : (a : Punct) → same_mark a a ≡ true
unfolding same_mark
same_mark_refl a = eq-eqb (tag_of the_type a) (tag_of the_type a) refl

-- ---- operators

pub binary_level_most : (p : Punct) → binary_level p ≤ 13
unfolding binary_level
binary_level_most Star = lit≤ tt
binary_level_most _ = lit≤ tt

pub assignment_no_level : (p : Punct) → is_assignment_operator p ≡ true → binary_level p ≡ 0
unfolding binary_level is_assignment_operator
assignment_no_level Equal h = refl
assignment_no_level _ h = absurd (true≢false (sym h))

pub unary_no_parenthesis : (p : Punct) → is_unary_operator p ≡ true → same_mark p LeftParenthesis ≡ false
unfolding is_unary_operator same_mark
unary_no_parenthesis Minus h = refl
unary_no_parenthesis _ h = absurd (true≢false (sym h))

pub binary_level_least : (p : Punct) → 0 < binary_level p → 4 ≤ binary_level p
unfolding binary_level
binary_level_least Star h = lit≤ tt
binary_level_least Slash h = lit≤ tt
binary_level_least Percent h = lit≤ tt
binary_level_least Plus h = lit≤ tt
binary_level_least Minus h = lit≤ tt
binary_level_least ShiftLeft h = lit≤ tt
binary_level_least ShiftRight h = lit≤ tt
binary_level_least Less h = lit≤ tt
binary_level_least Greater h = lit≤ tt
binary_level_least LessEqual h = lit≤ tt
binary_level_least GreaterEqual h = lit≤ tt
binary_level_least EqualEqual h = lit≤ tt
binary_level_least NotEqual h = lit≤ tt
binary_level_least Ampersand h = lit≤ tt
binary_level_least Caret h = lit≤ tt
binary_level_least Bar h = lit≤ tt
binary_level_least AndAnd h = lit≤ tt
binary_level_least BarBar h = lit≤ tt
binary_level_least _ h = absurd (omega arith)

-- ---- what continues an operand

pub operates : (p : Punct) → 0 < binary_level p → continuation_of_mark p ≡ Operates (binary_level p)
unfolding continuation_of_mark
operates p some = cond-true (nat_lt 0 (binary_level p)) _ _ (grind (arith, nat_tests))

pub assigns : (p : Punct) → is_assignment_operator p ≡ true → continuation_of_mark p ≡ Assigns
unfolding continuation_of_mark
assigns p is =
    let none : binary_level p ≡ 0 = assignment_no_level p is in
    cond-false (nat_lt 0 (binary_level p)) _ _ (grind (arith, nat_tests)) ∙ cond-true (is_assignment_operator p) _ _ is

pub calls : continuation_of_mark LeftParenthesis ≡ Calls
unfolding continuation_of_mark binary_level is_assignment_operator same_mark
calls = refl

pub comma_continues : continuation_of_mark Comma ≡ Nothing
unfolding continuation_of_mark binary_level is_assignment_operator same_mark
comma_continues = refl

pub parenthesis_continues : continuation_of_mark RightParenthesis ≡ Nothing
unfolding continuation_of_mark binary_level is_assignment_operator same_mark
parenthesis_continues = refl

pub semicolon_continues : continuation_of_mark Semicolon ≡ Nothing
unfolding continuation_of_mark binary_level is_assignment_operator same_mark
semicolon_continues = refl

-- marks that aren't the same
pub parenthesis_no_comma : same_mark RightParenthesis Comma ≡ false
unfolding same_mark
parenthesis_no_comma = refl

pub semicolon_no_comma : same_mark Semicolon Comma ≡ false
unfolding same_mark
semicolon_no_comma = refl

-- a mark that begins no expression
pub record BeginsNone (p : Punct) : Type 0 where
  pub no_parenthesis : same_mark p LeftParenthesis ≡ false
  pub no_operator : is_unary_operator p ≡ false

pub parenthesis_begins_none : BeginsNone RightParenthesis
unfolding same_mark is_unary_operator
parenthesis_begins_none = record { no_parenthesis = refl; no_operator = refl }

pub semicolon_begins_none : BeginsNone Semicolon
unfolding same_mark is_unary_operator
semicolon_begins_none = record { no_parenthesis = refl; no_operator = refl }

pub brace_begins_none : BeginsNone RightBrace
unfolding same_mark is_unary_operator
brace_begins_none = record { no_parenthesis = refl; no_operator = refl }

pub left_brace_begins_none : BeginsNone LeftBrace
unfolding same_mark is_unary_operator
left_brace_begins_none = record { no_parenthesis = refl; no_operator = refl }

pub closing_no_opening : same_mark RightParenthesis LeftParenthesis ≡ false
unfolding same_mark
closing_no_opening = refl

pub comma_no_opening : same_mark Comma LeftParenthesis ≡ false
unfolding same_mark
comma_no_opening = refl

pub semicolon_no_opening : same_mark Semicolon LeftParenthesis ≡ false
unfolding same_mark
semicolon_no_opening = refl

pub equal_no_opening : same_mark Equal LeftParenthesis ≡ false
unfolding same_mark
equal_no_opening = refl

pub comma_no_equal : same_mark Comma Equal ≡ false
unfolding same_mark
comma_no_equal = refl

pub semicolon_no_equal : same_mark Semicolon Equal ≡ false
unfolding same_mark
semicolon_no_equal = refl

pub semicolon_no_left_brace : same_mark Semicolon LeftBrace ≡ false
unfolding same_mark
semicolon_no_left_brace = refl

pub semicolon_no_right_brace : same_mark Semicolon RightBrace ≡ false
unfolding same_mark
semicolon_no_right_brace = refl

pub left_brace_no_right_brace : same_mark LeftBrace RightBrace ≡ false
unfolding same_mark
left_brace_no_right_brace = refl

pub left_brace_no_opening : same_mark LeftBrace LeftParenthesis ≡ false
unfolding same_mark
left_brace_no_opening = refl

pub comma_no_left_brace : same_mark Comma LeftBrace ≡ false
unfolding same_mark
comma_no_left_brace = refl

pub equal_no_left_brace : same_mark Equal LeftBrace ≡ false
unfolding same_mark
equal_no_left_brace = refl
