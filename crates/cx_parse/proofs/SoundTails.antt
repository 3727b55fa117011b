-- What is read behind a left operand stood there, and makes a larger expression of it.
use Rattle.std.proofs.Common.{◌≡◌, ℕ, suc, ◌<◌, ◌≤◌, max, Bool, true, false, nat_lt, cond, List, [], ◌∷◌, ◌++◌, refl, sym, ap, ◌∙◌, subst, arith, append_assoc, length-append, inl, inr, lit≤}
use Rattle.std.proofs.lemmas.Bool.Decides.{nat_tests}
use Rattle.std.proofs.lemmas.List.{append-nil}
use Rattle.std.specs.Prelude.{⊤, ◌⊎◌, drop}
use Rattle.cx_cursor.specs.Lists.{no_comma}
use Rattle.cx_cursor.specs.Reading.{State, at}
use Rattle.cx_cursor.specs.Sights.{sight_in, sees_mark, same_mark}
use Rattle.cx_cursor.proofs.Readers.{Gives, token}
use Rattle.cx_expr.specs.Below.{Below}
use Rattle.cx_words.specs.Continuations.{continuation_of, continuation_of_mark, continuation_of_other, strength, needs}
use Rattle.cx_expr.specs.Exprs.{picked, picks, stepped, steps, indexes, operates, assigns, chooses, commas, args, some_args, calls}
use Rattle.cx_expr.specs.Tails.{TailTree, indexed, called, dotted, pointed, up, down, operated, chosen, assigned, sequenced, join, tail_depth}
use Rattle.cx_words.specs.declared.continuation.Continuation.{Continuation}
use Rattle.cx_words.specs.declared.continuation.Continuation.TheVariants.{Nothing, Operates, Assigns, Chooses, Commas, Indexes, Calls, Picks, Steps}
use Rattle.cx_lex.specs.declared.token.Punct.{Punct}
use Rattle.cx_lex.specs.declared.token.Punct.TheVariants as punct
use Rattle.cx_lex.specs.declared.token.Token.{Token}
use Rattle.cx_lex.specs.declared.token.TokenKind.TheVariants as kind
use Rattle.cx_parse.proofs.SoundLists.{Listing, no_items, commas_sound, on_listing, listed_ahead}
use Rattle.cx_parse.proofs.SoundParts.{exprs_tokens_are, exprs_new, exprs_many, exprs_valid, exprs_stand, exprs_deep}
use Rattle.cx_parse.proofs.SoundRules.{on_mark, on_operator, on_word, on_part, on_test, given, stood, first, both}
use Rattle.cx_parse.proofs.Stood.{ExprFits, Stood, AllSound}
use Rattle.cx_tree.specs.Depth.{expr_depth}
use Rattle.cx_tree.specs.Levels.{binary_level, is_assignment_operator, level, expression_level, assignment_level, conditional_level}
use Rattle.cx_tree.specs.Names.{Binding, new_expr, new_exprs, ExprStands, ExprsStand}
use Rattle.cx_tree.specs.Tokens as tree
use Rattle.cx_tree.specs.Tokens.{expr_tokens, exprs_tokens, listed, ended}
use Rattle.cx_tree.specs.Trees.{ExprTree}
use Rattle.cx_tree.specs.Valid.{IsValidExpr}

-- ---- what a mark behind an operand is

abbrev pub Continues : Punct → Continuation → Type 0
Continues p (Operates lv) = (lv ≡ binary_level p) × (0 < lv)
Continues p Assigns = is_assignment_operator p ≡ true
Continues p Picks = (p ≡ punct.Dot) ⊎ (p ≡ punct.Arrow)
Continues p Steps = (p ≡ punct.PlusPlus) ⊎ (p ≡ punct.MinusMinus)
Continues p Commas = p ≡ punct.Comma
Continues p Chooses = ⊤
Continues p Indexes = ⊤
Continues p Calls = ⊤
Continues p Nothing = ⊤

continues_other : (p : Punct) → Continues p (continuation_of_other p)
unfolding continuation_of_other
continues_other punct.Dot = inl refl
continues_other punct.Arrow = inr refl
continues_other punct.PlusPlus = inl refl
continues_other punct.MinusMinus = inr refl
continues_other punct.Comma = refl
continues_other _ = tt

continues_by : (p : Punct) (b1 b2 : Bool) → nat_lt 0 (binary_level p) ≡ b1 → is_assignment_operator p ≡ b2
    → Continues p (cond b1 (Operates (binary_level p)) (cond b2 Assigns (continuation_of_other p)))
continues_by p true b2 e f = (refl, grind (arith, nat_tests))
continues_by p false true e f = f
continues_by p false false e f = continues_other p

pub continues : (p : Punct) → Continues p (continuation_of_mark p)
unfolding continuation_of_mark
continues p = continues_by p (nat_lt 0 (binary_level p)) (is_assignment_operator p) refl refl

-- the mark that stands ahead continues an operand so
pub continues_ahead : (p : Punct) (line : ℕ) (rest tokens : List Token) (names : List Binding) (c : Continuation) → tokens ≡ token (kind.Mark p) line ∷ rest
    → continuation_of (sight_in names tokens) ≡ c → Continues p c
continues_ahead p line rest tokens names c ahead is =
    subst (Continues p) (sym (ap (λ (ts : List Token). continuation_of (sight_in names ts)) ahead) ∙ is) (continues p)

pub binary_level_most : (p : Punct) → binary_level p ≤ 13
unfolding binary_level
binary_level_most punct.Star = lit≤ tt
binary_level_most _ = lit≤ tt

-- ---- the parts of what stands behind an operand

abbrev pub tail_tokens : TailTree → List Token
tail_tokens (indexed index lines) = tree.mark lines 0 punct.LeftBracket ∷ (expr_tokens index ++ tree.mark lines 1 punct.RightBracket ∷ [])
tail_tokens (called args lines) = tree.mark lines 0 punct.LeftParenthesis ∷ listed (ended punct.RightParenthesis) (exprs_tokens args) (drop 1 lines)
tail_tokens (dotted member lines) = tree.mark lines 0 punct.Dot ∷ tree.word lines 1 member ∷ []
tail_tokens (pointed member lines) = tree.mark lines 0 punct.Arrow ∷ tree.word lines 1 member ∷ []
tail_tokens (up lines) = tree.mark lines 0 punct.PlusPlus ∷ []
tail_tokens (down lines) = tree.mark lines 0 punct.MinusMinus ∷ []
tail_tokens (operated op right lines) = tree.mark lines 0 op ∷ expr_tokens right
tail_tokens (chosen if_true if_false lines) = tree.mark lines 0 punct.Question ∷ (expr_tokens if_true ++ (tree.mark lines 1 punct.Colon ∷ expr_tokens if_false))
tail_tokens (assigned op right lines) = tree.mark lines 0 op ∷ expr_tokens right
tail_tokens (sequenced right lines) = tree.mark lines 0 punct.Comma ∷ expr_tokens right

abbrev pub new_tail : TailTree → List Binding
new_tail (indexed index lines) = new_expr index
new_tail (called args lines) = new_exprs args
new_tail (dotted member lines) = []
new_tail (pointed member lines) = []
new_tail (up lines) = []
new_tail (down lines) = []
new_tail (operated op right lines) = new_expr right
new_tail (chosen if_true if_false lines) = new_expr if_true ++ new_expr if_false
new_tail (assigned op right lines) = new_expr right
new_tail (sequenced right lines) = new_expr right

abbrev pub TailStands : List Binding → TailTree → Type 0
TailStands names (indexed index lines) = ExprStands names index
TailStands names (called args lines) = ExprsStand names args
TailStands names (dotted member lines) = ⊤
TailStands names (pointed member lines) = ⊤
TailStands names (up lines) = ⊤
TailStands names (down lines) = ⊤
TailStands names (operated op right lines) = ExprStands names right
TailStands names (chosen if_true if_false lines) = ExprStands names if_true × ExprStands (names ++ new_expr if_true) if_false
TailStands names (assigned op right lines) = ExprStands names right
TailStands names (sequenced right lines) = ExprStands names right

pub join_tokens : (left : ExprTree) (t : TailTree) → expr_tokens (join left t) ≡ expr_tokens left ++ tail_tokens t
join_tokens left (indexed index lines) = refl
join_tokens left (called args lines) = refl
join_tokens left (dotted member lines) = refl
join_tokens left (pointed member lines) = refl
join_tokens left (up lines) = refl
join_tokens left (down lines) = refl
join_tokens left (operated op right lines) = refl
join_tokens left (chosen if_true if_false lines) = refl
join_tokens left (assigned op right lines) = refl
join_tokens left (sequenced right lines) = refl

pub join_new : (left : ExprTree) (t : TailTree) → new_expr (join left t) ≡ new_expr left ++ new_tail t
join_new left (indexed index lines) = refl
join_new left (called args lines) = refl
join_new left (dotted member lines) = sym (append-nil (new_expr left))
join_new left (pointed member lines) = sym (append-nil (new_expr left))
join_new left (up lines) = sym (append-nil (new_expr left))
join_new left (down lines) = sym (append-nil (new_expr left))
join_new left (operated op right lines) = refl
join_new left (chosen if_true if_false lines) = refl
join_new left (assigned op right lines) = refl
join_new left (sequenced right lines) = refl

pub join_stands : (names : List Binding) (left : ExprTree) (t : TailTree) → ExprStands names left → TailStands (names ++ new_expr left) t → ExprStands names (join left t)
join_stands names left (indexed index lines) s more = (s, more)
join_stands names left (called args lines) s more = (s, more)
join_stands names left (dotted member lines) s more = s
join_stands names left (pointed member lines) s more = s
join_stands names left (up lines) s more = s
join_stands names left (down lines) s more = s
join_stands names left (operated op right lines) s more = (s, more)
join_stands names left (chosen if_true if_false lines) s more = record { first = s; second = more.0; third = more.1 }
join_stands names left (assigned op right lines) s more = (s, more)
join_stands names left (sequenced right lines) s more = (s, more)

pub join_depth : (left : ExprTree) (t : TailTree) → expr_depth (join left t) ≡ suc (max (expr_depth left) (tail_depth t))
join_depth left (indexed index lines) = refl
join_depth left (called args lines) = refl
join_depth left (dotted member lines) = omega arith
join_depth left (pointed member lines) = omega arith
join_depth left (up lines) = omega arith
join_depth left (down lines) = omega arith
join_depth left (operated op right lines) = refl
join_depth left (chosen if_true if_false lines) = refl
join_depth left (assigned op right lines) = refl
join_depth left (sequenced right lines) = refl

-- what continues an operand so makes a valid expression of one of the level that it needs
pub record TailFits (most : ℕ) (c : Continuation) (names : List Binding) (t : TailTree) : Type 0 where
  pub valid : (left : ExprTree) → IsValidExpr left → needs c ≤ level left → IsValidExpr (join left t)
  pub strong : (left : ExprTree) → strength c ≤ level (join left t)
  pub stands : TailStands names t
  pub deep : tail_depth t ≤ most

abbrev pub TailStood : ℕ → Continuation → State → TailTree → State → Type 0
TailStood most c state t after = Stood (tail_tokens t) (new_tail t) (TailFits most c state.names t) state after

-- ---- member and step

picked_stood : (most : ℕ) (tokens rest r : List Token) (names : List Binding) (op : Punct) (line : ℕ) (w : List ℕ × ℕ) → (op ≡ punct.Dot) ⊎ (op ≡ punct.Arrow)
    → tokens ≡ token (kind.Mark op) line ∷ r → r ≡ token (kind.Word w.0) w.1 ∷ rest
    → TailStood most Picks (at tokens names) (picked op w.0 (line ∷ w.1 ∷ [])) (at rest names)
unfolding same_mark
picked_stood most tokens rest r names op line w (inl e) e1 e2 =
    subst (λ (p : Punct). TailStood most Picks (at tokens names) (picked p w.0 (line ∷ w.1 ∷ [])) (at rest names)) (sym e)
    (stood (first (e1 ∙ ap (λ (p : Punct). token (kind.Mark p) line ∷ r) e) e2) (sym (append-nil names))
    (record { valid = λ left v low. record { part = record { valid = v; level = low }; own = refl }; strong = λ left. omega arith; stands = tt; deep = omega arith }))
picked_stood most tokens rest r names op line w (inr e) e1 e2 =
    subst (λ (p : Punct). TailStood most Picks (at tokens names) (picked p w.0 (line ∷ w.1 ∷ [])) (at rest names)) (sym e)
    (stood (first (e1 ∙ ap (λ (p : Punct). token (kind.Mark p) line ∷ r) e) e2) (sym (append-nil names))
    (record { valid = λ left v low. record { part = record { valid = v; level = low }; own = refl }; strong = λ left. omega arith; stands = tt; deep = omega arith }))

stepped_stood : (most : ℕ) (tokens rest : List Token) (names : List Binding) (op : Punct) (line : ℕ) → (op ≡ punct.PlusPlus) ⊎ (op ≡ punct.MinusMinus)
    → tokens ≡ token (kind.Mark op) line ∷ rest → TailStood most Steps (at tokens names) (stepped op (line ∷ [])) (at rest names)
unfolding same_mark
stepped_stood most tokens rest names op line (inl e) e1 =
    subst (λ (p : Punct). TailStood most Steps (at tokens names) (stepped p (line ∷ [])) (at rest names)) (sym e)
    (stood (e1 ∙ ap (λ (p : Punct). token (kind.Mark p) line ∷ rest) e) (sym (append-nil names))
    (record { valid = λ left v low. record { part = record { valid = v; level = low }; own = refl }; strong = λ left. omega arith; stands = tt; deep = omega arith }))
stepped_stood most tokens rest names op line (inr e) e1 =
    subst (λ (p : Punct). TailStood most Steps (at tokens names) (stepped p (line ∷ [])) (at rest names)) (sym e)
    (stood (e1 ∙ ap (λ (p : Punct). token (kind.Mark p) line ∷ rest) e) (sym (append-nil names))
    (record { valid = λ left v low. record { part = record { valid = v; level = low }; own = refl }; strong = λ left. omega arith; stands = tt; deep = omega arith }))

pub picks_sound : (most : ℕ) (tokens : List Token) (names : List Binding) → continuation_of (sight_in names tokens) ≡ Picks
    → Gives picks (TailStood most Picks (at tokens names)) (at tokens names)
unfolding picks
picks_sound most tokens names is =
    on_operator _ _ (λ op r1 e1. on_word _ _ (λ w r2 e2.
    given _ (picked_stood most tokens r2 r1 names op.0 op.1 w (continues_ahead op.0 op.1 r1 tokens names Picks e1 is) e1 e2)))

pub steps_sound : (most : ℕ) (tokens : List Token) (names : List Binding) → continuation_of (sight_in names tokens) ≡ Steps
    → Gives steps (TailStood most Steps (at tokens names)) (at tokens names)
unfolding steps
steps_sound most tokens names is =
    on_operator _ _ (λ op r1 e1. given _ (stepped_stood most tokens r1 names op.0 op.1 (continues_ahead op.0 op.1 r1 tokens names Steps e1 is) e1))

module _ (below : Below) (most : ℕ) (sound : AllSound below most) where
  pub indexes_sound : (tokens : List Token) (names : List Binding) → Gives (indexes below) (TailStood most Indexes (at tokens names)) (at tokens names)
  unfolding indexes
  indexes_sound tokens names =
      on_mark punct.LeftBracket _ _ (λ open_line r1 e1.
      on_part _ _ _ expr_tokens new_expr (ExprFits most expression_level names) (sound.expr expression_level (at r1 names) (omega arith)) (λ index r2 e2 fit.
      on_mark punct.RightBracket _ _ (λ last r3 e3.
      given _ (stood (first e1 (both _ _ _ e2 e3)) refl
      (record {
        valid = λ left v low. record { first = record { valid = v; level = low }; second = fit.valid; own = refl };
        strong = λ left. omega arith;
        stands = fit.stands;
        deep = fit.deep;
      })))))

  -- a part to the right of one operator
  pub operates_sound : (lv : ℕ) (tokens : List Token) (names : List Binding) → continuation_of (sight_in names tokens) ≡ Operates lv
      → Gives (operates below lv) (TailStood most (Operates lv) (at tokens names)) (at tokens names)
  unfolding operates
  operates_sound lv tokens names is =
      on_operator _ _ (λ op r1 e1.
      let known : Continues op.0 (Operates lv) = continues_ahead op.0 op.1 r1 tokens names (Operates lv) e1 is in
      let lv_is : lv ≡ binary_level op.0 = known.0 in
      let some : 0 < lv = known.1 in
      let low : binary_level op.0 ≤ 13 = binary_level_most op.0 in
      on_part _ _ _ expr_tokens new_expr (ExprFits most (suc lv) names) (sound.expr (suc lv) (at r1 names) (omega arith)) (λ right r2 e2 fit.
      let high : suc lv ≤ level right = fit.valid.level in
      given _ (stood (first e1 e2) refl
      (record {
        valid = λ left v enough. record { operator = omega arith; left = record { valid = v; level = omega arith }; right = record { valid = fit.valid.valid; level = omega arith }; own = refl };
        strong = λ left. omega arith;
        stands = fit.stands;
        deep = fit.deep;
      }))))

  pub assigns_sound : (tokens : List Token) (names : List Binding) → continuation_of (sight_in names tokens) ≡ Assigns
      → Gives (assigns below) (TailStood most Assigns (at tokens names)) (at tokens names)
  unfolding assigns
  assigns_sound tokens names is =
      on_operator _ _ (λ op r1 e1.
      on_part _ _ _ expr_tokens new_expr (ExprFits most assignment_level names) (sound.expr assignment_level (at r1 names) (omega arith)) (λ right r2 e2 fit.
      given _ (stood (first e1 e2) refl
      (record {
        valid = λ left v enough. record {
          operator = continues_ahead op.0 op.1 r1 tokens names Assigns e1 is;
          left = record { valid = v; level = enough };
          right = fit.valid;
          own = refl;
        };
        strong = λ left. omega arith;
        stands = fit.stands;
        deep = fit.deep;
      }))))

  pub sequences_sound : (tokens : List Token) (names : List Binding) → continuation_of (sight_in names tokens) ≡ Commas
      → Gives (commas below) (TailStood most Commas (at tokens names)) (at tokens names)
  unfolding commas
  sequences_sound tokens names is =
      on_operator _ _ (λ op r1 e1.
      on_part _ _ _ expr_tokens new_expr (ExprFits most assignment_level names) (sound.expr assignment_level (at r1 names) (omega arith)) (λ right r2 e2 fit.
      let comma : op.0 ≡ punct.Comma = continues_ahead op.0 op.1 r1 tokens names Commas e1 is in
      given _ (stood (first (e1 ∙ ap (λ (p : Punct). token (kind.Mark p) op.1 ∷ r1) comma) e2) refl
      (record {
        valid = λ left v enough. record { first = record { valid = v; level = enough }; second = fit.valid; own = refl };
        strong = λ left. omega arith;
        stands = fit.stands;
        deep = fit.deep;
      }))))

  pub chooses_sound : (tokens : List Token) (names : List Binding) → Gives (chooses below) (TailStood most Chooses (at tokens names)) (at tokens names)
  unfolding chooses
  chooses_sound tokens names =
      on_mark punct.Question _ _ (λ first_line r1 e1.
      on_part _ _ _ expr_tokens new_expr (ExprFits most expression_level names) (sound.expr expression_level (at r1 names) (omega arith)) (λ if_true r2 e2 fit.
      on_mark punct.Colon _ _ (λ second_line r3 e3.
      on_part _ _ _ expr_tokens new_expr (ExprFits most conditional_level (names ++ new_expr if_true)) (sound.expr conditional_level (at r3 (names ++ new_expr if_true)) (omega arith)) (λ if_false r4 e4 other.
      given _ (stood (first e1 (both _ _ _ e2 (first e3 e4))) (append_assoc names (new_expr if_true) (new_expr if_false))
      (record {
        valid = λ left v enough. record { first = record { valid = v; level = enough }; second = fit.valid; third = other.valid; own = refl };
        strong = λ left. omega arith;
        stands = (fit.stands, other.stands);
        deep = let a = fit.deep in let b = other.deep in omega arith;
      }))))))

  args_sound : (first_line : ℕ) (tokens : List Token) (names : List Binding)
      → Gives (args below first_line) (Listing expr_tokens new_expr (ExprFits most assignment_level) (first_line ∷ []) (at tokens names)) (at tokens names)
  unfolding args some_args
  args_sound first_line tokens names =
      on_test (sees_mark punct.RightParenthesis (at tokens names)) _
      (λ _. given _ (no_items expr_tokens new_expr (ExprFits most assignment_level) (first_line ∷ []) (at tokens names)))
      (λ _. λ read after e. (commas_sound (below.expr assignment_level) expr_tokens new_expr (ExprFits most assignment_level) (λ state. sound.expr assignment_level state (omega arith))
      no_comma (first_line ∷ []) (at tokens names) read after e).list)

  pub calls_sound : (tokens : List Token) (names : List Binding) → Gives (calls below) (TailStood most Calls (at tokens names)) (at tokens names)
  unfolding calls
  calls_sound tokens names =
      on_mark punct.LeftParenthesis _ _ (λ first_line r1 e1.
      on_listing (args below first_line) _ _ expr_tokens new_expr (ExprFits most assignment_level) (first_line ∷ []) (args_sound first_line r1 names) (λ items marks front r2 of e2.
      on_mark punct.RightParenthesis _ _ (λ last r3 e3.
      given _ (stood
      (first e1 (listed_ahead (ended punct.RightParenthesis) _ _ (marks ++ last ∷ []) (last ∷ []) front r3 (exprs_tokens_are items) (of.text (ended punct.RightParenthesis) (last ∷ [])) e2 e3))
      (ap (λ (bs : List Binding). names ++ bs) (sym (exprs_new items)))
      (record {
        valid = λ left v enough. record {
          first = record { valid = v; level = enough };
          second = exprs_valid most names items of.fine;
          own = let a = of.count in let b = exprs_many items in let c = length-append marks (last ∷ []) in omega (arith, a, b, c);
        };
        strong = λ left. omega arith;
        stands = exprs_stand most names items of.fine;
        deep = exprs_deep most names items of.fine;
      })))))
