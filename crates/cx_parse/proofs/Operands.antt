-- The left operand that an expression begins with, and what stands behind it.
use Rattle.std.proofs.Common.{◌≡◌, ℕ, suc, ◌<◌, ◌≤◌, Bool, true, false, nat_lt, List, [], ◌∷◌, ◌++◌, get_or, drop, refl, sym, ap, ◌∙◌, subst, arith, lit≤}
use Rattle.std.proofs.lemmas.Bool.{cond-true, cond-false, true≢false}
use Rattle.std.proofs.lemmas.Bool.Decides.{nat_tests}
use Rattle.std.proofs.lemmas.List.{append-nil}
use Rattle.cx_cursor.specs.Reading.{at}
use Rattle.cx_cursor.specs.Sights.{sight, same_mark}
use Rattle.cx_words.specs.Continuations.{continuation_of, continuation_of_mark, continuation_of_other, strength, needs, goes_on}
use Rattle.cx_expr.specs.Tails.{TailTree, indexed, called, dotted, pointed, up, down, operated, chosen, assigned, sequenced, join}
use Rattle.cx_words.specs.declared.continuation.Continuation.{Continuation}
use Rattle.cx_words.specs.declared.continuation.Continuation.TheVariants.{Operates, Assigns, Chooses, Commas, Indexes, Calls, Picks, Steps}
use Rattle.cx_lex.specs.declared.token.Punct.{Punct}
use Rattle.cx_lex.specs.declared.token.Punct.TheVariants as punct
use Rattle.cx_lex.specs.declared.token.Token.{Token}
use Rattle.cx_lex.specs.declared.token.TokenKind.TheVariants as kind
use Rattle.cx_parse.proofs.ReadsRules.{ends_at}
use Rattle.cx_parse.proofs.Stood.{EndsExpr}
use Rattle.cx_tree.specs.Depth.{expr_depth}
use Rattle.cx_tree.specs.Levels.{level, binary_level, is_assignment_operator}
use Rattle.cx_tree.specs.Names.{Binding, new_expr, new_exprs, ExprStands}
use Rattle.cx_tree.specs.Tokens.{mark, word, listed, ended, expr_tokens, exprs_tokens}
use Rattle.cx_tree.specs.Trees.{ExprTree, Name, Number, Letter, Text, Paren, Index, Call, Dot, Arrow, PostUp, PostDown, Literal, PreUp, PreDown, Unary, SizeofExpr, SizeofType, Cast, Binary, Cond, Assign, Comma}
use Rattle.cx_tree.specs.Valid.{IsValidExpr}

-- ---- operators

pub binary_level_most : (p : Punct) → binary_level p ≤ 13
unfolding binary_level
binary_level_most punct.Star = lit≤ tt
binary_level_most _ = lit≤ tt

pub binary_level_least : (p : Punct) → 0 < binary_level p → 4 ≤ binary_level p
unfolding binary_level
binary_level_least punct.Star h = lit≤ tt
binary_level_least punct.Slash h = lit≤ tt
binary_level_least punct.Percent h = lit≤ tt
binary_level_least punct.Plus h = lit≤ tt
binary_level_least punct.Minus h = lit≤ tt
binary_level_least punct.ShiftLeft h = lit≤ tt
binary_level_least punct.ShiftRight h = lit≤ tt
binary_level_least punct.Less h = lit≤ tt
binary_level_least punct.Greater h = lit≤ tt
binary_level_least punct.LessEqual h = lit≤ tt
binary_level_least punct.GreaterEqual h = lit≤ tt
binary_level_least punct.EqualEqual h = lit≤ tt
binary_level_least punct.NotEqual h = lit≤ tt
binary_level_least punct.Ampersand h = lit≤ tt
binary_level_least punct.Caret h = lit≤ tt
binary_level_least punct.Bar h = lit≤ tt
binary_level_least punct.AndAnd h = lit≤ tt
binary_level_least punct.BarBar h = lit≤ tt
binary_level_least _ h = absurd (omega arith)

assignment_no_level : (p : Punct) → is_assignment_operator p ≡ true → binary_level p ≡ 0
unfolding binary_level is_assignment_operator
assignment_no_level punct.Equal h = refl
assignment_no_level punct.StarEqual h = refl
assignment_no_level punct.SlashEqual h = refl
assignment_no_level punct.PercentEqual h = refl
assignment_no_level punct.PlusEqual h = refl
assignment_no_level punct.MinusEqual h = refl
assignment_no_level punct.ShiftLeftEqual h = refl
assignment_no_level punct.ShiftRightEqual h = refl
assignment_no_level punct.AmpersandEqual h = refl
assignment_no_level punct.CaretEqual h = refl
assignment_no_level punct.BarEqual h = refl
assignment_no_level _ h = absurd (true≢false (sym h))

pub operates_is : (p : Punct) → 0 < binary_level p → continuation_of_mark p ≡ Operates (binary_level p)
unfolding continuation_of_mark
operates_is p some = cond-true (nat_lt 0 (binary_level p)) _ _ (grind (arith, nat_tests))

pub assigns_is : (p : Punct) → is_assignment_operator p ≡ true → continuation_of_mark p ≡ Assigns
unfolding continuation_of_mark
assigns_is p is =
    let none : binary_level p ≡ 0 = assignment_no_level p is in
    cond-false (nat_lt 0 (binary_level p)) _ _ (grind (arith, nat_tests)) ∙ cond-true (is_assignment_operator p) _ _ is

-- a mark that continues something isn't `{`
continues_no_brace : (p : Punct) → 0 < strength (continuation_of_mark p) → same_mark p punct.LeftBrace ≡ false
unfolding continuation_of_mark continuation_of_other binary_level is_assignment_operator same_mark
continues_no_brace punct.LeftBrace h = absurd (omega (arith, h))
continues_no_brace _ h = refl

-- no expression is asked for behind an operand at level 14
pub strength_gap : (p : Punct) → strength (continuation_of_mark p) < 15 → strength (continuation_of_mark p) < 14
unfolding continuation_of_mark continuation_of_other binary_level is_assignment_operator
strength_gap punct.LeftBracket h = absurd (omega (arith, h))
strength_gap punct.LeftParenthesis h = absurd (omega (arith, h))
strength_gap punct.Dot h = absurd (omega (arith, h))
strength_gap punct.Arrow h = absurd (omega (arith, h))
strength_gap punct.PlusPlus h = absurd (omega (arith, h))
strength_gap punct.MinusMinus h = absurd (omega (arith, h))
strength_gap _ h = lit≤ tt

-- ---- what stands behind a left operand

abbrev pub tail_tokens : TailTree → List Token
tail_tokens (indexed index lines) = mark lines 0 punct.LeftBracket ∷ (expr_tokens index ++ mark lines 1 punct.RightBracket ∷ [])
tail_tokens (called args lines) = mark lines 0 punct.LeftParenthesis ∷ listed (ended punct.RightParenthesis) (exprs_tokens args) (drop 1 lines)
tail_tokens (dotted member lines) = mark lines 0 punct.Dot ∷ word lines 1 member ∷ []
tail_tokens (pointed member lines) = mark lines 0 punct.Arrow ∷ word lines 1 member ∷ []
tail_tokens (up lines) = mark lines 0 punct.PlusPlus ∷ []
tail_tokens (down lines) = mark lines 0 punct.MinusMinus ∷ []
tail_tokens (operated op right lines) = mark lines 0 op ∷ expr_tokens right
tail_tokens (chosen if_true if_false lines) = mark lines 0 punct.Question ∷ (expr_tokens if_true ++ (mark lines 1 punct.Colon ∷ expr_tokens if_false))
tail_tokens (assigned op right lines) = mark lines 0 op ∷ expr_tokens right
tail_tokens (sequenced right lines) = mark lines 0 punct.Comma ∷ expr_tokens right

abbrev pub new_tail : TailTree → List Binding
new_tail (indexed index lines) = new_expr index
new_tail (called args lines) = new_exprs args
new_tail (dotted member lines) = []
new_tail (pointed member lines) = []
new_tail (up lines) = []
new_tail (down lines) = []
new_tail (operated op right lines) = new_expr right
new_tail (chosen if_true if_false lines) = new_expr if_true ++ new_expr if_false
new_tail (assigned op right lines) = new_expr right
new_tail (sequenced right lines) = new_expr right

-- the mark that it begins with
abbrev pub tail_mark : TailTree → Punct
tail_mark (indexed index lines) = punct.LeftBracket
tail_mark (called args lines) = punct.LeftParenthesis
tail_mark (dotted member lines) = punct.Dot
tail_mark (pointed member lines) = punct.Arrow
tail_mark (up lines) = punct.PlusPlus
tail_mark (down lines) = punct.MinusMinus
tail_mark (operated op right lines) = op
tail_mark (chosen if_true if_false lines) = punct.Question
tail_mark (assigned op right lines) = op
tail_mark (sequenced right lines) = punct.Comma

abbrev pub continues : TailTree → Continuation
continues (indexed index lines) = Indexes
continues (called args lines) = Calls
continues (dotted member lines) = Picks
continues (pointed member lines) = Picks
continues (up lines) = Steps
continues (down lines) = Steps
continues (operated op right lines) = Operates (binary_level op)
continues (chosen if_true if_false lines) = Chooses
continues (assigned op right lines) = Assigns
continues (sequenced right lines) = Commas

pub joined_tokens : (left : ExprTree) (tail : TailTree) → expr_tokens (join left tail) ≡ expr_tokens left ++ tail_tokens tail
joined_tokens left (indexed index lines) = refl
joined_tokens left (called args lines) = refl
joined_tokens left (dotted member lines) = refl
joined_tokens left (pointed member lines) = refl
joined_tokens left (up lines) = refl
joined_tokens left (down lines) = refl
joined_tokens left (operated op right lines) = refl
joined_tokens left (chosen if_true if_false lines) = refl
joined_tokens left (assigned op right lines) = refl
joined_tokens left (sequenced right lines) = refl

pub joined_names : (left : ExprTree) (tail : TailTree) → new_expr (join left tail) ≡ new_expr left ++ new_tail tail
joined_names left (indexed index lines) = refl
joined_names left (called args lines) = refl
joined_names left (dotted member lines) = sym (append-nil (new_expr left))
joined_names left (pointed member lines) = sym (append-nil (new_expr left))
joined_names left (up lines) = sym (append-nil (new_expr left))
joined_names left (down lines) = sym (append-nil (new_expr left))
joined_names left (operated op right lines) = refl
joined_names left (chosen if_true if_false lines) = refl
joined_names left (assigned op right lines) = refl
joined_names left (sequenced right lines) = refl

-- ---- the left edge and the right edge of a tree

-- how many operators stand on the left edge
abbrev pub spine : ExprTree → ℕ
spine (Index of index lines) = suc (spine of)
spine (Call of args lines) = suc (spine of)
spine (Dot of member lines) = suc (spine of)
spine (Arrow of member lines) = suc (spine of)
spine (PostUp of lines) = suc (spine of)
spine (PostDown of lines) = suc (spine of)
spine (Binary left op right lines) = suc (spine left)
spine (Cond condition if_true if_false lines) = suc (spine condition)
spine (Assign left op right lines) = suc (spine left)
spine (Comma left right lines) = suc (spine left)
spine (Name name lines) = 0
spine (Number value ty lines) = 0
spine (Letter value lines) = 0
spine (Text parts lines) = 0
spine (Paren inner lines) = 0
spine (Literal of list lines) = 0
spine (PreUp on lines) = 0
spine (PreDown on lines) = 0
spine (Unary op on lines) = 0
spine (SizeofExpr on lines) = 0
spine (SizeofType of lines) = 0
spine (Cast to on lines) = 0

pub spine_deep : (t : ExprTree) → spine t < expr_depth t
spine_deep (Index of index lines) = let a = spine_deep of in omega (arith, a)
spine_deep (Call of args lines) = let a = spine_deep of in omega (arith, a)
spine_deep (Dot of member lines) = let a = spine_deep of in omega (arith, a)
spine_deep (Arrow of member lines) = let a = spine_deep of in omega (arith, a)
spine_deep (PostUp of lines) = let a = spine_deep of in omega (arith, a)
spine_deep (PostDown of lines) = let a = spine_deep of in omega (arith, a)
spine_deep (Binary left op right lines) = let a = spine_deep left in omega (arith, a)
spine_deep (Cond condition if_true if_false lines) = let a = spine_deep condition in omega (arith, a)
spine_deep (Assign left op right lines) = let a = spine_deep left in omega (arith, a)
spine_deep (Comma left right lines) = let a = spine_deep left in omega (arith, a)
spine_deep _ = omega arith

-- the level at which the operand on the right edge was asked for; 18 where there is none
abbrev pub bound : ExprTree → ℕ
bound (Name name lines) = 18
bound (Number value ty lines) = 18
bound (Letter value lines) = 18
bound (Text parts lines) = 18
bound (Paren inner lines) = 18
bound (Index of index lines) = 18
bound (Call of args lines) = 18
bound (Dot of member lines) = 18
bound (Arrow of member lines) = 18
bound (PostUp of lines) = 18
bound (PostDown of lines) = 18
bound (Literal of list lines) = 18
bound (SizeofType of lines) = 18
bound (PreUp on lines) = 15
bound (PreDown on lines) = 15
bound (SizeofExpr on lines) = 15
bound (Unary op on lines) = 14
bound (Cast to on lines) = 14
bound (Binary left op right lines) = suc (binary_level op)
bound (Cond condition if_true if_false lines) = 3
bound (Assign left op right lines) = 2
bound (Comma left right lines) = 2

pub bound_level : (t : ExprTree) (k : ℕ) → k ≤ 14 → k ≤ level t → k ≤ bound t
bound_level (Binary left op right lines) k low le = omega (arith, low, le)
bound_level _ k low le = omega (arith, low, le)

bound_operand : (t : ExprTree) (k : ℕ) → 4 ≤ k → k ≤ 13 → k ≤ level t → k < bound t
bound_operand (Binary left op right lines) k some low le = omega (arith, some, low, le)
bound_operand _ k some low le = omega (arith, some, low, le)

bound_logical : (t : ExprTree) → 4 ≤ level t → 4 ≤ bound t
bound_logical (Binary left op right lines) le = omega (arith, le)
bound_logical _ le = omega (arith, le)

bound_unary : (t : ExprTree) → 15 ≤ level t → 14 ≤ bound t
bound_unary (Binary left op right lines) le = let a = binary_level_most op in absurd (omega (arith, a, le))
bound_unary _ le = omega (arith, le)

bound_postfix : (t : ExprTree) → 16 ≤ level t → 18 ≤ bound t
bound_postfix (Binary left op right lines) le = let a = binary_level_most op in absurd (omega (arith, a, le))
bound_postfix _ le = omega (arith, le)

bound_some : (t : ExprTree) → 1 ≤ level t → 2 ≤ bound t
bound_some (Binary left op right lines) le = omega (arith, le)
bound_some _ le = omega (arith, le)

-- ---- a valid expression with a left operand

pub record Operand (left : ExprTree) (tail : TailTree) (names : List Binding) : Type 0 where
  pub valid : IsValidExpr left
  pub stands : ExprStands names left
  pub deep : expr_depth left < expr_depth (join left tail)
  pub spined : spine (join left tail) ≡ suc (spine left)
  pub begins : continuation_of_mark (tail_mark tail) ≡ continues tail
  pub some : 0 < strength (continues tail)
  pub reached : level (join left tail) ≡ strength (continues tail)
  pub enough : needs (continues tail) ≤ level left
  pub lower : level (join left tail) ≤ level left
  pub weak : strength (continues tail) < bound left

pub operand : (left : ExprTree) (tail : TailTree) (names : List Binding) → IsValidExpr (join left tail) → ExprStands names (join left tail) → Operand left tail names
unfolding continuation_of_mark continuation_of_other binary_level is_assignment_operator
operand left (indexed index lines) names v stands =
    let le : 16 ≤ level left = v.first.level in
    record {
      valid = v.first.valid;
      stands = stands.0;
      deep = omega arith;
      spined = refl;
      begins = refl;
      some = lit≤ tt;
      reached = refl;
      enough = le;
      lower = le;
      weak = omega (arith, bound_postfix left le);
    }
operand left (called args lines) names v stands =
    let le : 16 ≤ level left = v.first.level in
    record {
      valid = v.first.valid;
      stands = stands.0;
      deep = omega arith;
      spined = refl;
      begins = refl;
      some = lit≤ tt;
      reached = refl;
      enough = le;
      lower = le;
      weak = omega (arith, bound_postfix left le);
    }
operand left (dotted member lines) names v stands =
    let le : 16 ≤ level left = v.part.level in
    record {
      valid = v.part.valid;
      stands = stands;
      deep = omega arith;
      spined = refl;
      begins = refl;
      some = lit≤ tt;
      reached = refl;
      enough = le;
      lower = le;
      weak = omega (arith, bound_postfix left le);
    }
operand left (pointed member lines) names v stands =
    let le : 16 ≤ level left = v.part.level in
    record {
      valid = v.part.valid;
      stands = stands;
      deep = omega arith;
      spined = refl;
      begins = refl;
      some = lit≤ tt;
      reached = refl;
      enough = le;
      lower = le;
      weak = omega (arith, bound_postfix left le);
    }
operand left (up lines) names v stands =
    let le : 16 ≤ level left = v.part.level in
    record {
      valid = v.part.valid;
      stands = stands;
      deep = omega arith;
      spined = refl;
      begins = refl;
      some = lit≤ tt;
      reached = refl;
      enough = le;
      lower = le;
      weak = omega (arith, bound_postfix left le);
    }
operand left (down lines) names v stands =
    let le : 16 ≤ level left = v.part.level in
    record {
      valid = v.part.valid;
      stands = stands;
      deep = omega arith;
      spined = refl;
      begins = refl;
      some = lit≤ tt;
      reached = refl;
      enough = le;
      lower = le;
      weak = omega (arith, bound_postfix left le);
    }
operand left (operated op right lines) names v stands =
    let some : 0 < binary_level op = v.operator in
    let le : binary_level op ≤ level left = v.left.level in
    record {
      valid = v.left.valid;
      stands = stands.0;
      deep = omega arith;
      spined = refl;
      begins = operates_is op some;
      some = some;
      reached = refl;
      enough = le;
      lower = le;
      weak = bound_operand left (binary_level op) (binary_level_least op some) (binary_level_most op) le;
    }
operand left (chosen if_true if_false lines) names v stands =
    let le : 4 ≤ level left = v.first.level in
    record {
      valid = v.first.valid;
      stands = stands.first;
      deep = omega arith;
      spined = refl;
      begins = refl;
      some = lit≤ tt;
      reached = refl;
      enough = le;
      lower = omega (arith, le);
      weak = omega (arith, bound_logical left le);
    }
operand left (assigned op right lines) names v stands =
    let le : 15 ≤ level left = v.left.level in
    record {
      valid = v.left.valid;
      stands = stands.0;
      deep = omega arith;
      spined = refl;
      begins = assigns_is op v.operator;
      some = lit≤ tt;
      reached = refl;
      enough = le;
      lower = omega (arith, le);
      weak = omega (arith, bound_unary left le);
    }
operand left (sequenced right lines) names v stands =
    let le : 1 ≤ level left = v.first.level in
    record {
      valid = v.first.valid;
      stands = stands.0;
      deep = omega arith;
      spined = refl;
      begins = refl;
      some = lit≤ tt;
      reached = refl;
      enough = le;
      lower = le;
      weak = omega (arith, bound_some left le);
    }

-- a line of the mark, and what stands behind it
pub record BeginsTail (tail : TailTree) : Type 0 where
  pub line : ℕ
  pub more : List Token
  pub is : tail_tokens tail ≡ record { kind = kind.Mark (tail_mark tail); line = line } ∷ more

pub begins_tail : (tail : TailTree) → BeginsTail tail
begins_tail (indexed index lines) = record { line = get_or lines 0 0; more = _; is = refl }
begins_tail (called args lines) = record { line = get_or lines 0 0; more = _; is = refl }
begins_tail (dotted member lines) = record { line = get_or lines 0 0; more = _; is = refl }
begins_tail (pointed member lines) = record { line = get_or lines 0 0; more = _; is = refl }
begins_tail (up lines) = record { line = get_or lines 0 0; more = _; is = refl }
begins_tail (down lines) = record { line = get_or lines 0 0; more = _; is = refl }
begins_tail (operated op right lines) = record { line = get_or lines 0 0; more = _; is = refl }
begins_tail (chosen if_true if_false lines) = record { line = get_or lines 0 0; more = _; is = refl }
begins_tail (assigned op right lines) = record { line = get_or lines 0 0; more = _; is = refl }
begins_tail (sequenced right lines) = record { line = get_or lines 0 0; more = _; is = refl }

-- what stands behind the left operand ends it
pub tail_ends : (left : ExprTree) (tail : TailTree) (names : List Binding) (rest : List Token) → Operand left tail names → EndsExpr (bound left) (tail_tokens tail ++ rest)
tail_ends left tail names rest part =
    let front : BeginsTail tail = begins_tail tail in
    let strong : strength (continuation_of_mark (tail_mark tail)) ≡ strength (continues tail) = ap strength part.begins in
    subst (λ (ts : List Token). EndsExpr (bound left) (ts ++ rest)) (sym front.is)
    (ends_at (tail_mark tail) front.line (front.more ++ rest) (bound left) (omega (arith, strong, part.weak)) (continues_no_brace (tail_mark tail) (omega (arith, strong, part.some))))

-- and continues it
pub tail_continues : (left : ExprTree) (tail : TailTree) (names here : List Binding) (rest : List Token) → Operand left tail names
    → continuation_of (sight (at (tail_tokens tail ++ rest) here)) ≡ continues tail
tail_continues left tail names here rest part =
    let front : BeginsTail tail = begins_tail tail in
    ap (λ (ts : List Token). continuation_of (sight (at (ts ++ rest) here))) front.is ∙ part.begins

-- ---- where an expression goes on

pub goes_on_true : (least : ℕ) (c : Continuation) (lv : ℕ) → 0 < strength c → least ≤ strength c → needs c ≤ lv → goes_on least c lv ≡ true
unfolding goes_on
goes_on_true least c lv some strong enough = grind (arith, nat_tests)

pub goes_on_false : (least : ℕ) (c : Continuation) (lv : ℕ) → strength c < least → goes_on least c lv ≡ false
unfolding goes_on
goes_on_false least c lv weak = grind (arith, nat_tests)

-- nothing continues an expression that ends there
pub ends_weak : (least : ℕ) (rest : List Token) (names : List Binding) → EndsExpr least rest → strength (continuation_of (sight (at rest names))) < least
ends_weak least rest names ends =
    subst (λ (ts : List Token). strength (continuation_of (sight (at ts names))) < least) (sym ends.front.is) ends.weak

-- an expression that ends where it was asked for at a level ends at its right edge
pub ends_bound : (t : ExprTree) (least : ℕ) (rest : List Token) → least ≤ 15 → least ≤ level t → EndsExpr least rest → EndsExpr (bound t) rest
ends_bound t least rest low le ends =
    record { front = ends.front; weak = weak_by (nat_lt 14 least) refl; no_brace = ends.no_brace } where
      weak_by : (b : Bool) → nat_lt 14 least ≡ b → strength (continuation_of_mark ends.front.punct) < bound t
      weak_by true is =
          let large : 14 < least = grind (arith, nat_tests) in
          let w = ends.weak in
          let far = strength_gap ends.front.punct (omega (arith, w, low)) in
          let enough : 14 ≤ bound t = bound_unary t (omega (arith, large, le)) in
          omega (arith, far, enough)
      weak_by false is =
          let small : least ≤ 14 = grind (arith, nat_tests) in
          let w = ends.weak in
          let enough : least ≤ bound t = bound_level t least small le in
          omega (arith, w, enough)
