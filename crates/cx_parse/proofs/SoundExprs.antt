-- What the reader of expressions gives stood in front.
use Rattle.std.proofs.Common.{◌≡◌, ℕ, zero, suc, ◌≤◌, Bool, true, false, ◌||◌, nat_lt, nat_le, Some, List, [], ◌∷◌, ◌++◌, length, fold, refl, sym, ap, ◌∙◌, subst, arith, append_assoc, inl, inr}
use Rattle.std.proofs.lemmas.Bool.Decides.{nat_tests}
use Rattle.std.proofs.lemmas.List.{append-nil}
use Rattle.std.specs.Prelude.{⊤, ◌⊎◌, IsTrue}
use Rattle.cx_cursor.specs.Lists.{ListRead, list_read, many_ahead, taking}
use Rattle.cx_cursor.specs.Reading.{State, at, bind}
use Rattle.cx_cursor.specs.Sights.{sight, sight_in, word_sight, sees_mark, same_mark, number, letter, text, operator}
use Rattle.cx_cursor.specs.declared.sight.Sight.{Sight}
use Rattle.cx_cursor.specs.declared.sight.Sight.TheVariants as sights
use Rattle.cx_cursor.proofs.Readers.{Gives, gives_bind, TookOne, took_one, token, number_gives, letter_gives, text_gives, same_mark_same}
use Rattle.cx_expr.specs.Below.{Below}
use Rattle.cx_words.specs.Continuations.{continuation_of, strength, needs, goes_on}
use Rattle.cx_expr.specs.Exprs.{name, constant, character, texts, no_text, with_text, TypeRead, stepped_of, tail, operation, climb, typed, literal_of, cast_of, behind_type, paren, parenthesised, pre_step, unary, start_mark, sizeof_typed, sizeof_expr, sizeof_behind, sizeof, start_by, start, expr_from, literal_from}
use Rattle.cx_words.specs.Beginnings.{sees_type}
use Rattle.cx_expr.specs.Tails.{TailTree, join}
use Rattle.cx_words.specs.declared.continuation.Continuation.{Continuation}
use Rattle.cx_words.specs.declared.continuation.Continuation.TheVariants.{Nothing, Operates, Assigns, Chooses, Commas, Indexes, Calls, Picks, Steps}
use Rattle.cx_lex.specs.declared.token.Keyword.TheVariants as keywords
use Rattle.cx_lex.specs.declared.token.Punct.{Punct}
use Rattle.cx_lex.specs.declared.token.Punct.TheVariants as punct
use Rattle.cx_lex.specs.declared.token.Token.{Token}
use Rattle.cx_lex.specs.declared.token.TokenKind.TheVariants as kind
use Rattle.cx_parse.proofs.Lists.{each_of, Items, many_ahead_sound}
use Rattle.cx_parse.proofs.SoundRules.{on_mark, on_key, on_operator, on_word, on_one, on_part, on_part_at, on_test, on_choice, given, refused, stood, first, both}
use Rattle.cx_parse.proofs.SoundTails.{tail_tokens, new_tail, TailFits, TailStood, join_tokens, join_new, join_stands, join_depth, indexes_sound, calls_sound, picks_sound, steps_sound, operates_sound, assigns_sound, chooses_sound, sequences_sound}
use Rattle.cx_parse.proofs.Stood.{ExprFits, TypeNameFits, ListFits, ExprStood, TypeStood, AllSound}
use Rattle.cx_tree.specs.Depth.{expr_depth, type_name_depth}
use Rattle.cx_tree.specs.Levels.{level, is_unary_operator, expression_level, cast_level, unary_level}
use Rattle.cx_tree.specs.Names.{Binding, is_type, new_expr, new_type_name, new_initialiser_list}
use Rattle.cx_tree.specs.Tokens.{expr_tokens, type_name_tokens, initialiser_list_tokens, texts_tokens}
use Rattle.cx_tree.specs.Trees.{ExprTree, Text, TypeNameTree}

-- ---- what stands by itself

pub plain_word : (b : Bool) → word_sight b ≡ sights.Word → b ≡ false
plain_word true e = cc
plain_word false e = refl

name_sound : (most least : ℕ) (tokens : List Token) (names : List Binding) → least ≤ unary_level → sight_in names tokens ≡ sights.Word
    → Gives name (ExprStood (suc most) least (at tokens names)) (at tokens names)
unfolding name
name_sound most least tokens names low is =
    on_word _ _ (λ w r1 e1.
    given _ (stood e1 (sym (append-nil names))
    (record {
      valid = record { valid = refl; level = omega arith };
      stands = plain_word (is_type names w.0) (sym (ap (λ (ts : List Token). sight_in names ts) e1) ∙ is);
      deep = omega arith;
    })))

constant_sound : (most least : ℕ) (tokens : List Token) (names : List Binding) → least ≤ unary_level
    → Gives constant (ExprStood (suc most) least (at tokens names)) (at tokens names)
unfolding constant
constant_sound most least tokens names low =
    on_one number _ _ (λ n. token (kind.Number n.0 n.1) n.2) (number_gives (at tokens names)) (λ n r1 e1.
    given _ (stood e1 (sym (append-nil names)) (record { valid = record { valid = refl; level = omega arith }; stands = tt; deep = omega arith })))

character_sound : (most least : ℕ) (tokens : List Token) (names : List Binding) → least ≤ unary_level
    → Gives character (ExprStood (suc most) least (at tokens names)) (at tokens names)
unfolding character
character_sound most least tokens names low =
    on_one letter _ _ (λ n. token (kind.Letter n.0) n.1) (letter_gives (at tokens names)) (λ n r1 e1.
    given _ (stood e1 (sym (append-nil names)) (record { valid = record { valid = refl; level = omega arith }; stands = tt; deep = omega arith })))

-- a string literal and its line
abbrev text_tokens : List ℕ × ℕ → List Token
text_tokens w = token (kind.Text w.0) w.1 ∷ []

abbrev no_new : List ℕ × ℕ → List Binding
no_new w = []

abbrev AnyText : ListRead (List ℕ) → List Binding → List ℕ × ℕ → Type 0
AnyText all names w = ⊤

abbrev parts_of : List (List ℕ × ℕ) → List (List ℕ)
parts_of [] = []
parts_of (w ∷ ws) = w.0 ∷ parts_of ws

abbrev text_lines : List (List ℕ × ℕ) → List ℕ
text_lines [] = []
text_lines (w ∷ ws) = w.1 ∷ text_lines ws

fold_texts : (ws : List (List ℕ × ℕ)) (list : List (List ℕ)) (lines : List ℕ) → fold with_text (list_read list lines) ws ≡ list_read (list ++ parts_of ws) (lines ++ text_lines ws)
fold_texts [] list lines = λ i. list_read (sym (append-nil list) i) (sym (append-nil lines) i)
fold_texts (w ∷ ws) list lines =
    fold_texts ws (list ++ w.0 ∷ []) (lines ++ w.1 ∷ [])
    ∙ (λ i. list_read (append_assoc list (w.0 ∷ []) (parts_of ws) i) (append_assoc lines (w.1 ∷ []) (text_lines ws) i))

texts_are : (ws : List (List ℕ × ℕ)) → each_of text_tokens ws ≡ texts_tokens (parts_of ws) (text_lines ws)
texts_are [] = refl
texts_are (w ∷ ws) = ap (λ (ts : List Token). token (kind.Text w.0) w.1 ∷ ts) (texts_are ws)

nothing_new : (ws : List (List ℕ × ℕ)) → each_of no_new ws ≡ []
nothing_new [] = refl
nothing_new (w ∷ ws) = nothing_new ws

as_many_lines : (ws : List (List ℕ × ℕ)) → length (text_lines ws) ≡ length (parts_of ws)
as_many_lines [] = refl
as_many_lines (w ∷ ws) = ap suc (as_many_lines ws)

texts_sound : (most least : ℕ) (tokens : List Token) (names : List Binding) → least ≤ unary_level
    → Gives texts (ExprStood (suc most) least (at tokens names)) (at tokens names)
unfolding texts taking
texts_sound most least tokens names low =
    let state : State = at tokens names in
    let Q : ExprTree → State → Type 0 = ExprStood (suc most) least state in
    gives_bind (taking text with_text (list_read [] [])) _ (λ l mid. (w : List ℕ × ℕ) × (l ≡ list_read (w.0 ∷ []) (w.1 ∷ [])) × TookOne (token (kind.Text w.0) w.1) state mid) Q state
    (gives_bind text _ (λ w mid. TookOne (token (kind.Text w.0) w.1) state mid) _ state (text_gives state) (λ w mid one. given _ (w, refl, one)))
    (λ l mid one.
    let w = one.0 in
    let start : ListRead (List ℕ) = list_read (w.0 ∷ []) (w.1 ∷ []) in
    subst (λ (l : ListRead (List ℕ)). Gives (bind (many_ahead no_text (taking text with_text) l) (λ all. λ s. Some (Text all.list all.lines, s))) Q mid) (sym one.1)
    (gives_bind (many_ahead no_text (taking text with_text) start) _ (Items AnyText text_tokens no_new with_text no_text start mid) Q mid
    (many_ahead_sound AnyText text_tokens no_new with_text no_text text (λ all s go. λ a after e. (took_one (token (kind.Text a.0) a.1) s after (text_gives s a after e), tt)) start mid)
    (λ made after found.
    let ws = found.items in
    let made_is : made ≡ list_read (parts_of (w ∷ ws)) (text_lines (w ∷ ws)) = found.taken ∙ fold_texts ws (w.0 ∷ []) (w.1 ∷ []) in
    subst (λ (l : ListRead (List ℕ)). Gives (λ s. Some (Text l.list l.lines, s)) Q after) (sym made_is)
    (given _ (stood
    (first one.2.ahead (found.took.spelled ∙ ap (λ (ts : List Token). ts ++ after.tokens) (texts_are ws)))
    (found.took.scope ∙ ap (λ (bs : List Binding). mid.names ++ bs) (nothing_new ws) ∙ append-nil mid.names ∙ one.2.same ∙ sym (append-nil names))
    (record {
      valid = record { valid = record { part = omega arith; own = ap suc (as_many_lines ws) }; level = omega arith };
      stands = tt;
      deep = omega arith;
    }))))))

-- ---- what begins with a mark or a keyword

or_either : (a b : Bool) → (a || b) ≡ true → (a ≡ true) ⊎ (b ≡ true)
or_either true b e = inl refl
or_either false b e = inr e

-- a step in front of its operand
stepped_of_stood : (most least : ℕ) (tokens r1 rest : List Token) (names : List Binding) (op : Punct) (line : ℕ) (on : ExprTree) → least ≤ unary_level
    → (op ≡ punct.PlusPlus) ⊎ (op ≡ punct.MinusMinus) → tokens ≡ token (kind.Mark op) line ∷ r1 → r1 ≡ expr_tokens on ++ rest → ExprFits most unary_level names on
    → ExprStood (suc most) least (at tokens names) (stepped_of op on (line ∷ [])) (at rest (names ++ new_expr on))
unfolding same_mark
stepped_of_stood most least tokens r1 rest names op line on low (inl e) e1 e2 fit =
    subst (λ (p : Punct). ExprStood (suc most) least (at tokens names) (stepped_of p on (line ∷ [])) (at rest (names ++ new_expr on))) (sym e)
    (stood (first (e1 ∙ ap (λ (p : Punct). token (kind.Mark p) line ∷ r1) e) e2) refl
    (record { valid = record { valid = record { part = fit.valid; own = refl }; level = omega arith }; stands = fit.stands; deep = let d = fit.deep in omega arith }))
stepped_of_stood most least tokens r1 rest names op line on low (inr e) e1 e2 fit =
    subst (λ (p : Punct). ExprStood (suc most) least (at tokens names) (stepped_of p on (line ∷ [])) (at rest (names ++ new_expr on))) (sym e)
    (stood (first (e1 ∙ ap (λ (p : Punct). token (kind.Mark p) line ∷ r1) e) e2) refl
    (record { valid = record { valid = record { part = fit.valid; own = refl }; level = omega arith }; stands = fit.stands; deep = let d = fit.deep in omega arith }))

-- the mark ahead is the one that is seen
seen_mark : (p q : Punct) (line : ℕ) (rest tokens : List Token) (names : List Binding) → tokens ≡ token (kind.Mark p) line ∷ rest → sight_in names tokens ≡ sights.Mark q → q ≡ p
seen_mark p q line rest tokens names e is = let same : sights.Mark q ≡ sights.Mark p = sym is ∙ ap (λ (ts : List Token). sight_in names ts) e in cc

module _ (below : Below) (most : ℕ) (sound : AllSound below most) where
  -- a type name in parentheses, at most `most` nodes deep
  record TypeFound (state : State) (read : TypeRead) (after : State) : Type 0 where
    found : TypeStood read.type read.lines state after
    deep : type_name_depth read.type ≤ most

  typed_sound : (tokens : List Token) (names : List Binding) → Gives (typed below) (TypeFound (at tokens names)) (at tokens names)
  unfolding typed
  typed_sound tokens names =
      on_mark punct.LeftParenthesis _ _ (λ first_line r1 e1.
      on_part below.type_name _ _ type_name_tokens new_type_name (TypeNameFits most names) (sound.type_name (at r1 names)) (λ type r2 e2 fit.
      on_mark punct.RightParenthesis _ _ (λ last r3 e3.
      given (TypeFound (at tokens names)) (record {
        found = record { took = record { spelled = first e1 (both _ _ _ e2 e3); scope = refl }; valid = fit.valid; stands = fit.stands; own = refl };
        deep = fit.deep;
      }))))

  -- behind a type name in parentheses, with what stands behind it
  behind_tokens : (a b : Token) (type more rest origin mid : List Token) → origin ≡ (a ∷ (type ++ b ∷ [])) ++ mid → mid ≡ more ++ rest → origin ≡ (a ∷ (type ++ (b ∷ more))) ++ rest
  behind_tokens a b type more rest origin mid e f =
      e ∙ ap (λ (ts : List Token). (a ∷ (type ++ b ∷ [])) ++ ts) f ∙ ap (λ (ts : List Token). a ∷ ts)
      (append_assoc type (b ∷ []) (more ++ rest) ∙ sym (append_assoc type (b ∷ more) rest))

  literal_of_sound : (least : ℕ) (type : TypeNameTree) (lines : List ℕ) (origin mid : State) → least ≤ 16 → TypeStood type lines origin mid → type_name_depth type ≤ most
      → Gives (literal_of below type lines) (ExprStood (suc most) least origin) mid
  unfolding literal_of
  literal_of_sound least type lines origin mid low found deep =
      on_part_at mid (origin.names ++ new_type_name type) found.took.scope below.list _ _ initialiser_list_tokens new_initialiser_list (ListFits most (origin.names ++ new_type_name type)) (sound.list (at mid.tokens (origin.names ++ new_type_name type))) (λ list r e fit.
      given _ (stood (behind_tokens _ _ (type_name_tokens type) (initialiser_list_tokens list) r origin.tokens mid.tokens found.took.spelled e)
      (append_assoc origin.names (new_type_name type) (new_initialiser_list list))
      (record {
        valid = record { valid = record { first = found.valid; second = fit.valid; own = found.own }; level = omega arith };
        stands = (found.stands, fit.stands);
        deep = let d = fit.deep in omega arith;
      })))

  cast_of_sound : (least : ℕ) (read : TypeRead) (origin mid : State) → least ≤ cast_level → TypeFound origin read mid
      → Gives (cast_of below read) (ExprStood (suc most) least origin) mid
  unfolding cast_of
  cast_of_sound least read origin mid low t =
      let found = t.found in
      let names : List Binding = origin.names ++ new_type_name read.type in
      on_part_at mid names found.took.scope (below.expr cast_level) _ _ expr_tokens new_expr (ExprFits most cast_level names) (sound.expr cast_level (at mid.tokens names) (omega arith)) (λ on r e fit.
      given _ (stood (behind_tokens _ _ (type_name_tokens read.type) (expr_tokens on) r origin.tokens mid.tokens found.took.spelled e)
      (append_assoc origin.names (new_type_name read.type) (new_expr on))
      (record {
        valid = record { valid = record { first = found.valid; second = fit.valid; own = found.own }; level = low };
        stands = (found.stands, fit.stands);
        deep = let d = fit.deep in let e = t.deep in omega arith;
      })))

  behind_type_sound : (least : ℕ) (read : TypeRead) (origin mid : State) → least ≤ unary_level → TypeFound origin read mid
      → Gives (behind_type below least read) (ExprStood (suc most) least origin) mid
  unfolding behind_type
  behind_type_sound least read origin mid low t =
      on_test (sees_mark punct.LeftBrace mid) _
      (λ _. literal_of_sound least read.type read.lines origin mid (omega arith) t.found t.deep)
      (λ _. on_test (nat_le least cast_level) _ (λ is. cast_of_sound least read origin mid (grind (arith, nat_tests)) t) (λ _. refused _))

  paren_sound : (least : ℕ) (tokens : List Token) (names : List Binding) → least ≤ unary_level → Gives (paren below) (ExprStood (suc most) least (at tokens names)) (at tokens names)
  unfolding paren
  paren_sound least tokens names low =
      on_mark punct.LeftParenthesis _ _ (λ first_line r1 e1.
      on_part _ _ _ expr_tokens new_expr (ExprFits most expression_level names) (sound.expr expression_level (at r1 names) (omega arith)) (λ inner r2 e2 fit.
      on_mark punct.RightParenthesis _ _ (λ last r3 e3.
      given _ (stood (first e1 (both _ _ _ e2 e3)) refl
      (record { valid = record { valid = record { part = fit.valid; own = refl }; level = omega arith }; stands = fit.stands; deep = let d = fit.deep in omega arith })))))

  parenthesised_sound : (least : ℕ) (tokens : List Token) (names : List Binding) → least ≤ unary_level
      → Gives (parenthesised below least) (ExprStood (suc most) least (at tokens names)) (at tokens names)
  unfolding parenthesised
  parenthesised_sound least tokens names low =
      on_test (sees_type (at tokens names)) _
      (λ _. gives_bind (typed below) _ (TypeFound (at tokens names)) _ (at tokens names) (typed_sound tokens names)
      (λ read mid t. behind_type_sound least read (at tokens names) mid low t))
      (λ _. paren_sound least tokens names low)

  pre_step_sound : (least : ℕ) (p : Punct) (tokens : List Token) (names : List Binding) → least ≤ unary_level → sight_in names tokens ≡ sights.Mark p
      → (p ≡ punct.PlusPlus) ⊎ (p ≡ punct.MinusMinus) → Gives (pre_step below) (ExprStood (suc most) least (at tokens names)) (at tokens names)
  unfolding pre_step
  pre_step_sound least p tokens names low is step =
      on_operator _ _ (λ op r1 e1.
      on_part _ _ _ expr_tokens new_expr (ExprFits most unary_level names) (sound.expr unary_level (at r1 names) (omega arith)) (λ on r2 e2 fit.
      let same : p ≡ op.0 = seen_mark op.0 p op.1 r1 tokens names e1 is in
      given _ (stepped_of_stood most least tokens r1 r2 names op.0 op.1 on low
      (subst (λ (q : Punct). (q ≡ punct.PlusPlus) ⊎ (q ≡ punct.MinusMinus)) same step) e1 e2 fit)))

  unary_sound : (least : ℕ) (p : Punct) (tokens : List Token) (names : List Binding) → least ≤ unary_level → sight_in names tokens ≡ sights.Mark p
      → is_unary_operator p ≡ true → Gives (unary below) (ExprStood (suc most) least (at tokens names)) (at tokens names)
  unfolding unary
  unary_sound least p tokens names low is operator =
      on_operator _ _ (λ op r1 e1.
      on_part _ _ _ expr_tokens new_expr (ExprFits most cast_level names) (sound.expr cast_level (at r1 names) (omega arith)) (λ on r2 e2 fit.
      let same : p ≡ op.0 = seen_mark op.0 p op.1 r1 tokens names e1 is in
      given _ (stood (first e1 e2) refl
      (record {
        valid = record { valid = record { operator = subst (λ (q : Punct). IsTrue (is_unary_operator q)) same operator; operand = fit.valid; own = refl }; level = low };
        stands = fit.stands;
        deep = let d = fit.deep in omega arith;
      }))))

  step_marks : (p : Punct) → (same_mark p punct.PlusPlus ≡ true) ⊎ (same_mark p punct.MinusMinus ≡ true) → (p ≡ punct.PlusPlus) ⊎ (p ≡ punct.MinusMinus)
  step_marks p (inl e) = inl (same_mark_same p punct.PlusPlus e)
  step_marks p (inr e) = inr (same_mark_same p punct.MinusMinus e)

  start_mark_sound : (least : ℕ) (p : Punct) (tokens : List Token) (names : List Binding) → least ≤ unary_level → sight_in names tokens ≡ sights.Mark p
      → Gives (start_mark below least p) (ExprStood (suc most) least (at tokens names)) (at tokens names)
  unfolding start_mark
  start_mark_sound least p tokens names low is =
      on_choice (same_mark p punct.LeftParenthesis) _ _ _ (at tokens names)
      (λ _. parenthesised_sound least tokens names low)
      (λ _. on_choice (same_mark p punct.PlusPlus || same_mark p punct.MinusMinus) _ _ _ (at tokens names)
      (λ step. pre_step_sound least p tokens names low is (step_marks p (or_either (same_mark p punct.PlusPlus) (same_mark p punct.MinusMinus) step)))
      (λ _. on_choice (is_unary_operator p) _ _ _ (at tokens names)
      (λ operator. unary_sound least p tokens names low is operator)
      (λ _. refused _)))

  -- ---- `sizeof`

  sizeof_typed_sound : (least line : ℕ) (tokens r1 : List Token) (names : List Binding) (read : TypeRead) (mid : State) → least ≤ unary_level
      → tokens ≡ token (kind.Key keywords.Sizeof) line ∷ r1 → TypeFound (at r1 names) read mid
      → Gives (sizeof_typed below line read) (ExprStood (suc most) least (at tokens names)) mid
  unfolding sizeof_typed
  sizeof_typed_sound least line tokens r1 names read mid low e1 t =
      on_test (sees_mark punct.LeftBrace mid) _
      (λ _. gives_bind (below.literal read.type read.lines) _ (ExprStood most unary_level (at r1 names)) _ mid (sound.literal read.type read.lines (at r1 names) mid t.found) (λ on after inner.
      given _ (stood (first e1 inner.took.spelled) inner.took.scope
      (record { valid = record { valid = record { part = inner.fits.valid; own = refl }; level = low }; stands = inner.fits.stands; deep = let d = inner.fits.deep in omega arith }))))
      (λ _. given _ (stood (first e1 t.found.took.spelled) t.found.took.scope
      (record {
        valid = record { valid = record { part = t.found.valid; own = let two = t.found.own in omega arith }; level = low };
        stands = t.found.stands;
        deep = let d = t.deep in omega arith;
      })))

  sizeof_sound : (least : ℕ) (tokens : List Token) (names : List Binding) → least ≤ unary_level → Gives (sizeof below) (ExprStood (suc most) least (at tokens names)) (at tokens names)
  unfolding sizeof sizeof_behind sizeof_expr
  sizeof_sound least tokens names low =
      on_key keywords.Sizeof _ _ (λ line r1 e1.
      on_test (sees_type (at r1 names)) _
      (λ _. gives_bind (typed below) _ (TypeFound (at r1 names)) _ (at r1 names) (typed_sound r1 names) (λ read mid t. sizeof_typed_sound least line tokens r1 names read mid low e1 t))
      (λ _. on_part (below.expr unary_level) _ _ expr_tokens new_expr (ExprFits most unary_level names) (sound.expr unary_level (at r1 names) (omega arith)) (λ on r2 e2 fit.
      given _ (stood (first e1 e2) refl
      (record { valid = record { valid = record { part = fit.valid; own = refl }; level = low }; stands = fit.stands; deep = let d = fit.deep in omega arith })))))

  -- ---- heads

  start_by_sound : (least : ℕ) (s : Sight) (tokens : List Token) (names : List Binding) → least ≤ unary_level → sight_in names tokens ≡ s
      → Gives (start_by below least s) (ExprStood (suc most) least (at tokens names)) (at tokens names)
  start_by_sound least sights.Word tokens names low is = name_sound most least tokens names low is
  start_by_sound least sights.Number tokens names low is = constant_sound most least tokens names low
  start_by_sound least sights.Letter tokens names low is = character_sound most least tokens names low
  start_by_sound least sights.Text tokens names low is = texts_sound most least tokens names low
  start_by_sound least (sights.Mark p) tokens names low is = start_mark_sound least p tokens names low is
  start_by_sound least (sights.Key k) tokens names low is = sizeof_sound least tokens names low
  start_by_sound least sights.End tokens names low is = refused _
  start_by_sound least sights.TypeWord tokens names low is = refused _

  start_sound : (least : ℕ) (state : State) → least ≤ unary_level → Gives (start below least) (ExprStood (suc most) least state) state
  unfolding start
  start_sound least state low = start_by_sound least (sight state) state.tokens state.names low refl

  -- ---- what continues a left operand

  record GoesOn (least : ℕ) (c : Continuation) (lv : ℕ) : Type 0 where
    strong : least ≤ strength c
    enough : needs c ≤ lv

  goes_on_parts : (least : ℕ) (c : Continuation) (lv : ℕ) → goes_on least c lv ≡ true → GoesOn least c lv
  unfolding goes_on
  goes_on_parts least c lv h = record { strong = grind (arith, nat_tests); enough = grind (arith, nat_tests) }

  tail_sound : (c : Continuation) (tokens : List Token) (names : List Binding) → continuation_of (sight_in names tokens) ≡ c
      → Gives (tail below c) (TailStood most c (at tokens names)) (at tokens names)
  tail_sound Indexes tokens names is = indexes_sound below most sound tokens names
  tail_sound Calls tokens names is = calls_sound below most sound tokens names
  tail_sound Picks tokens names is = picks_sound most tokens names is
  tail_sound Steps tokens names is = steps_sound most tokens names is
  tail_sound (Operates lv) tokens names is = operates_sound below most sound lv tokens names is
  tail_sound Assigns tokens names is = assigns_sound below most sound tokens names is
  tail_sound Chooses tokens names is = chooses_sound below most sound tokens names
  tail_sound Commas tokens names is = sequences_sound below most sound tokens names is
  tail_sound Nothing tokens names is = refused _

  joined : (least : ℕ) (c : Continuation) (origin : State) (left : ExprTree) (mid rest : List Token) (names : List Binding) (t : TailTree) → GoesOn least c (level left)
      → origin.tokens ≡ expr_tokens left ++ mid → ExprFits (suc most) least origin.names left → expr_depth left ≤ most
      → mid ≡ tail_tokens t ++ rest → TailFits most c (origin.names ++ new_expr left) t
      → ExprStood (suc most) least origin (join left t) (at rest ((origin.names ++ new_expr left) ++ new_tail t))
  joined least c origin left mid rest names t goes e fit shallow f tail_fit =
      stood
      (both (expr_tokens left) (tail_tokens t) rest e f ∙ ap (λ (ts : List Token). ts ++ rest) (sym (join_tokens left t)))
      (append_assoc origin.names (new_expr left) (new_tail t) ∙ ap (λ (bs : List Binding). origin.names ++ bs) (sym (join_new left t)))
      (record {
        valid = record { valid = tail_fit.valid left fit.valid.valid goes.enough; level = let a = goes.strong in let b = tail_fit.strong left in omega (arith, a, b) };
        stands = join_stands origin.names left t fit.stands tail_fit.stands;
        deep = let d = join_depth left t in let e = tail_fit.deep in omega (arith, d, e, shallow);
      })

  operation_sound : (least : ℕ) (origin : State) (left : ExprTree) (mid : State) → ExprStood (suc most) least origin left mid
      → goes_on least (continuation_of (sight mid)) (level left) ≡ true
      → Gives (operation below most (continuation_of (sight mid)) left) (ExprStood (suc most) least origin) mid
  unfolding operation
  operation_sound least origin left mid stands goes =
      let c : Continuation = continuation_of (sight mid) in
      let names : List Binding = origin.names ++ new_expr left in
      on_test (nat_lt most (expr_depth left)) _ (λ _. refused _)
      (λ test. let shallow : expr_depth left ≤ most = grind (arith, nat_tests) in
      on_part_at mid names stands.took.scope (tail below c) _ _ tail_tokens new_tail (TailFits most c names)
      (tail_sound c mid.tokens names (ap (λ (ns : List Binding). continuation_of (sight_in ns mid.tokens)) (sym stands.took.scope))) (λ t r e fit.
      given _ (joined least c origin left mid.tokens r names t (goes_on_parts least c (level left) goes) stands.took.spelled stands.fits shallow e fit)))

  climb_sound : (least : ℕ) (origin : State) (turns : ℕ) (left : ExprTree) (mid : State) → ExprStood (suc most) least origin left mid
      → Gives (climb below most least turns left) (ExprStood (suc most) least origin) mid
  unfolding climb
  climb_sound least origin zero left mid stands = refused _
  climb_sound least origin (suc turns) left mid stands =
      on_test (goes_on least (continuation_of (sight mid)) (level left)) _
      (λ goes. gives_bind (operation below most (continuation_of (sight mid)) left) _ (ExprStood (suc most) least origin) _ mid (operation_sound least origin left mid stands goes)
      (λ next behind more. climb_sound least origin turns next behind more))
      (λ _. given _ stands)

  pub expr_from_sound : (least : ℕ) (state : State) → least ≤ unary_level → Gives (expr_from below most least) (ExprStood (suc most) least state) state
  unfolding expr_from
  expr_from_sound least state low =
      gives_bind (start below least) _ (ExprStood (suc most) least state) _ state (start_sound least state low) (λ left mid stands. climb_sound least state (suc most) left mid stands)

  pub literal_from_sound : (type : TypeNameTree) (lines : List ℕ) (origin state : State) → TypeStood type lines origin state
      → Gives (literal_from below most type lines) (ExprStood (suc most) unary_level origin) state
  unfolding literal_from
  literal_from_sound type lines origin state found =
      on_test (nat_lt most (type_name_depth type)) _ (λ _. refused _)
      (λ test. gives_bind (literal_of below type lines) _ (ExprStood (suc most) unary_level origin) _ state
      (literal_of_sound unary_level type lines origin state (omega arith) found (grind (arith, nat_tests))) (λ left mid stands. climb_sound unary_level origin (suc most) left mid stands))
