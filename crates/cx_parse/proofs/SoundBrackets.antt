-- What is read of qualifiers and of the brackets of an array stood there.
use Rattle.std.proofs.Common.{◌≡◌, ℕ, suc, ◌<◌, ◌≤◌, Bool, true, false, not, List, [], ◌∷◌, ◌++◌, length, fold, drop, refl, sym, ap, ◌∙◌, subst, arith, append_assoc, length-append}
use Rattle.std.proofs.lemmas.List.{append-nil}
use Rattle.cx_cursor.specs.Lists.{many_ahead, taking}
use Rattle.cx_cursor.specs.Reading.{State, at, Reader, bind}
use Rattle.cx_cursor.specs.Sights.{sight_in, sees_mark, sees_key, keyword}
use Rattle.cx_cursor.proofs.Readers.{Gives, gives_bind, Took, TookOne, took_one, token, keyword_gives}
use Rattle.cx_expr.specs.Below.{Below}
use Rattle.cx_expr.specs.Declarators.{QualifiersRead, qualifiers_read, with_qualifier, stops_qualifiers, qualifiers, BracketsRead, without_size, star, static_first, static_last, sized, behind_qualifiers, in_brackets}
use Rattle.cx_words.specs.Beginnings.{is_no_qualifier, sees_star}
use Rattle.cx_lex.specs.declared.token.Keyword.{Keyword}
use Rattle.cx_lex.specs.declared.token.Keyword.TheVariants as keywords
use Rattle.cx_lex.specs.declared.token.Punct.TheVariants as punct
use Rattle.cx_lex.specs.declared.token.Token.{Token}
use Rattle.cx_lex.specs.declared.token.TokenKind.{TokenKind}
use Rattle.cx_lex.specs.declared.token.TokenKind.TheVariants as kind
use Rattle.cx_parse.proofs.Lists.{each_of, Each, Items, many_ahead_sound}
use Rattle.cx_parse.proofs.SoundRules.{on_mark, on_key, on_part, on_test, given, first, both}
use Rattle.cx_parse.proofs.Stood.{ExprFits, AllSound}
use Rattle.cx_tree.specs.Depth.{brackets_depth}
use Rattle.cx_tree.specs.Levels.{assignment_level}
use Rattle.cx_tree.specs.Names.{Binding, new_expr, new_brackets, BracketsStand}
use Rattle.cx_tree.specs.Tokens.{expr_tokens, owns, keys, brackets_front, length_tokens}
use Rattle.cx_tree.specs.Valid.{AreQualifiers, AreValidBrackets}
use Rattle.cx_tree.specs.Words.{is_qualifier}

-- ---- tokens side by side

pub owns_append : (kinds more : List TokenKind) (lines ends : List ℕ) → length lines ≡ length kinds → owns (kinds ++ more) (lines ++ ends) ≡ owns kinds lines ++ owns more ends
owns_append [] more [] ends e = refl
owns_append [] more (l ∷ lines) ends e = absurd (omega arith)
owns_append (k ∷ kinds) more [] ends e = absurd (omega arith)
owns_append (k ∷ kinds) more (l ∷ lines) ends e = ap (λ (ts : List Token). token k l ∷ ts) (owns_append kinds more lines ends (omega arith))

pub owns_front : (kinds : List TokenKind) (lines ends : List ℕ) → length lines ≡ length kinds → owns kinds (lines ++ ends) ≡ owns kinds lines
owns_front [] [] ends e = refl
owns_front [] (l ∷ lines) ends e = absurd (omega arith)
owns_front (k ∷ kinds) [] ends e = absurd (omega arith)
owns_front (k ∷ kinds) (l ∷ lines) ends e = ap (λ (ts : List Token). token k l ∷ ts) (owns_front kinds lines ends (omega arith))

pub drop_front : (kinds : List TokenKind) (lines ends : List ℕ) → length lines ≡ length kinds → drop (length kinds) (lines ++ ends) ≡ ends
drop_front [] [] ends e = refl
drop_front [] (l ∷ lines) ends e = absurd (omega arith)
drop_front (k ∷ kinds) [] ends e = absurd (omega arith)
drop_front (k ∷ kinds) (l ∷ lines) ends e = drop_front kinds lines ends (omega arith)

-- ---- qualifiers

abbrev key_tokens : Keyword × ℕ → List Token
key_tokens k = token (kind.Key k.0) k.1 ∷ []

abbrev no_new : Keyword × ℕ → List Binding
no_new k = []

abbrev Qualifies : QualifiersRead → List Binding → Keyword × ℕ → Type 0
Qualifies all names k = is_qualifier k.0 ≡ true

abbrev words_of : List (Keyword × ℕ) → List Keyword
words_of [] = []
words_of (k ∷ ks) = k.0 ∷ words_of ks

abbrev lines_of : List (Keyword × ℕ) → List ℕ
lines_of [] = []
lines_of (k ∷ ks) = k.1 ∷ lines_of ks

fold_qualifiers : (ks : List (Keyword × ℕ)) (list : List Keyword) (lines : List ℕ)
    → fold with_qualifier (qualifiers_read list lines) ks ≡ qualifiers_read (list ++ words_of ks) (lines ++ lines_of ks)
fold_qualifiers [] list lines = λ i. qualifiers_read (sym (append-nil list) i) (sym (append-nil lines) i)
fold_qualifiers (k ∷ ks) list lines =
    fold_qualifiers ks (list ++ k.0 ∷ []) (lines ++ k.1 ∷ [])
    ∙ (λ i. qualifiers_read (append_assoc list (k.0 ∷ []) (words_of ks) i) (append_assoc lines (k.1 ∷ []) (lines_of ks) i))

keys_are : (ks : List (Keyword × ℕ)) → each_of key_tokens ks ≡ owns (keys (words_of ks)) (lines_of ks)
keys_are [] = refl
keys_are (k ∷ ks) = ap (λ (ts : List Token). token (kind.Key k.0) k.1 ∷ ts) (keys_are ks)

nothing_new : (ks : List (Keyword × ℕ)) → each_of no_new ks ≡ []
nothing_new [] = refl
nothing_new (k ∷ ks) = nothing_new ks

as_many : (ks : List (Keyword × ℕ)) → length (lines_of ks) ≡ length (words_of ks)
as_many [] = refl
as_many (k ∷ ks) = ap suc (as_many ks)

all_qualify : (all : QualifiersRead) (names : List Binding) (ks : List (Keyword × ℕ)) → Each Qualifies no_new with_qualifier all names ks → AreQualifiers (words_of ks)
all_qualify all names [] good = tt
all_qualify all names (k ∷ ks) good = (good.0, all_qualify (with_qualifier all k) (names ++ []) ks good.1)

not_not : (b : Bool) → not b ≡ false → b ≡ true
not_not true e = refl
not_not false e = cc

keyword_sound : (all : QualifiersRead) (state : State) → stops_qualifiers all state ≡ false
    → Gives keyword (λ k after. Took (key_tokens k) (no_new k) state after × Qualifies all state.names k) state
keyword_sound all state goes k after e =
    let one : TookOne (token (kind.Key k.0) k.1) state after = keyword_gives state k after e in
    let here : is_no_qualifier (sight_in state.names state.tokens) ≡ not (is_qualifier k.0) = ap (λ (ts : List Token). is_no_qualifier (sight_in state.names ts)) one.ahead in
    (took_one (token (kind.Key k.0) k.1) state after one, not_not (is_qualifier k.0) (sym here ∙ goes))

pub on_qualifiers : {B : Type 0} {ts : List Token} {names : List Binding} (lines : List ℕ) (go : QualifiersRead → Reader B) (Q : B → State → Type 0)
    → ((words : List Keyword) (own : List ℕ) (rest : List Token) → length own ≡ length words → AreQualifiers words → ts ≡ owns (keys words) own ++ rest
    → Gives (go (qualifiers_read words (lines ++ own))) Q (at rest names))
    → Gives (bind (qualifiers lines) go) Q (at ts names)
unfolding qualifiers
on_qualifiers {B} {ts} {names} lines go Q next =
    let start : QualifiersRead = qualifiers_read [] lines in
    gives_bind (many_ahead stops_qualifiers (taking keyword with_qualifier) start) go (Items Qualifies key_tokens no_new with_qualifier stops_qualifiers start (at ts names)) Q (at ts names)
    (many_ahead_sound Qualifies key_tokens no_new with_qualifier stops_qualifiers keyword keyword_sound start (at ts names)) (λ read mid f.
    let ks = f.items in
    let made : read ≡ qualifiers_read (words_of ks) (lines ++ lines_of ks) = f.taken ∙ fold_qualifiers ks [] lines in
    let same : mid.names ≡ names = f.took.scope ∙ ap (λ (bs : List Binding). names ++ bs) (nothing_new ks) ∙ append-nil names in
    subst (λ (q : QualifiersRead). Gives (go q) Q mid) (sym made)
    (subst (λ (ns : List Binding). Gives (go (qualifiers_read (words_of ks) (lines ++ lines_of ks))) Q (at mid.tokens ns)) (sym same)
    (next (words_of ks) (lines_of ks) mid.tokens (as_many ks) (all_qualify start names ks f.good) (f.took.spelled ∙ ap (λ (ts : List Token). ts ++ mid.tokens) (keys_are ks)))))

-- ---- brackets

-- what was read in the brackets of an array, behind the first of them
pub record BracketsFound (most : ℕ) (first_line : ℕ) (ts : List Token) (names : List Binding) (read : BracketsRead) (after : State) : Type 0 where
  pub own : List ℕ
  pub last : ℕ
  pub lines_are : read.lines ≡ own ++ last ∷ []
  pub count : length own ≡ length (brackets_front read.brackets)
  pub spelled : token (kind.Mark punct.LeftBracket) first_line ∷ ts
      ≡ owns (brackets_front read.brackets) own ++ (length_tokens read.brackets ++ token (kind.Mark punct.RightBracket) last ∷ after.tokens)
  pub scope : after.names ≡ names ++ new_brackets read.brackets
  pub valid : AreValidBrackets read.brackets
  pub stands : BracketsStand names read.brackets
  pub deep : brackets_depth read.brackets ≤ most

keys_many : (words : List Keyword) → length (keys words) ≡ length words
keys_many [] = refl
keys_many (w ∷ ws) = ap suc (keys_many ws)

-- a keyword stands only behind a qualifier, where it didn't stand in front of them
some_qualifiers : (words : List Keyword) (own : List ℕ) (ts rest : List Token) (names : List Binding) → sees_key keywords.Static (at ts names) ≡ false → sees_key keywords.Static (at rest names) ≡ true
    → ts ≡ owns (keys words) own ++ rest → 0 < length words
some_qualifiers [] own ts rest names none there e =
    let same : sees_key keywords.Static (at ts names) ≡ sees_key keywords.Static (at rest names) = ap (λ (ts : List Token). sees_key keywords.Static (at ts names)) e in
    cc
some_qualifiers (w ∷ ws) own ts rest names none there e = omega arith

module _ (below : Below) (most : ℕ) (sound : AllSound below most) where
  static_first_sound : (first_line : ℕ) (ts : List Token) (names : List Binding) → Gives (static_first below (first_line ∷ [])) (BracketsFound most first_line ts names) (at ts names)
  unfolding static_first
  static_first_sound first_line ts names =
      on_key keywords.Static _ _ (λ line r1 e1.
      on_qualifiers (first_line ∷ line ∷ []) _ _ (λ words own r2 count qualify e2.
      on_part (below.expr assignment_level) _ _ expr_tokens new_expr (ExprFits most assignment_level names) (sound.expr assignment_level (at r2 names) (omega arith)) (λ size r3 e3 fit.
      on_mark punct.RightBracket _ _ (λ last r4 e4.
      given (BracketsFound most first_line ts names) (record {
        own = first_line ∷ line ∷ own;
        last = last;
        lines_are = refl;
        count = let k = keys_many words in omega (arith, count, k);
        spelled = first refl (first e1 (e2 ∙ ap (λ (ts : List Token). owns (keys words) own ++ ts) (e3 ∙ ap (λ (ts : List Token). expr_tokens size ++ ts) e4)));
        scope = refl;
        valid = (qualify, fit.valid);
        stands = fit.stands;
        deep = fit.deep;
      })))))

  behind_qualifiers_sound : (first_line : ℕ) (ts rest : List Token) (names : List Binding) (words : List Keyword) (own : List ℕ) → length own ≡ length words → AreQualifiers words
      → ts ≡ owns (keys words) own ++ rest → sees_key keywords.Static (at ts names) ≡ false
      → Gives (behind_qualifiers below (qualifiers_read words (first_line ∷ own))) (BracketsFound most first_line ts names) (at rest names)
  unfolding behind_qualifiers static_last without_size star sized
  behind_qualifiers_sound first_line ts rest names words own count qualify e no_static =
      let k = keys_many words in
      on_test (sees_key keywords.Static (at rest names)) _
      (λ static. on_key {names = names} keywords.Static _ _ (λ line r1 e1.
      on_part (below.expr assignment_level) _ _ expr_tokens new_expr (ExprFits most assignment_level names) (sound.expr assignment_level (at r1 names) (omega arith)) (λ size r2 e2 fit.
      on_mark {names = names ++ new_expr size} punct.RightBracket _ _ (λ last r3 e3.
      given (BracketsFound most first_line ts names) (record {
        own = first_line ∷ (own ++ line ∷ []);
        last = last;
        lines_are = ap (λ (ls : List ℕ). first_line ∷ ls) (sym (append_assoc own (line ∷ []) (last ∷ [])));
        count = let a = length-append own (line ∷ []) in let b = length-append (keys words) (kind.Key keywords.Static ∷ []) in omega (arith, count, k, a, b);
        spelled = first refl (both (owns (keys words) own) (token (kind.Key keywords.Static) line ∷ []) _ e (first e1 (e2 ∙ ap (λ (ts : List Token). expr_tokens size ++ ts) e3))
            ∙ ap (λ (ts : List Token). ts ++ (expr_tokens size ++ token (kind.Mark punct.RightBracket) last ∷ r3))
            (sym (owns_append (keys words) (kind.Key keywords.Static ∷ []) own (line ∷ []) (omega (arith, count, k)))));
        scope = refl;
        valid = (record { present = some_qualifiers words own ts rest names no_static static e; each = qualify }, fit.valid);
        stands = fit.stands;
        deep = fit.deep;
      })))))
      (λ _. on_test (sees_mark punct.RightBracket (at rest names)) _
      (λ _. on_mark {names = names} punct.RightBracket _ _ (λ last r1 e1.
      given (BracketsFound most first_line ts names) (record {
        own = first_line ∷ own;
        last = last;
        lines_are = refl;
        count = omega (arith, count, k);
        spelled = first refl (e ∙ ap (λ (ts : List Token). owns (keys words) own ++ ts) e1);
        scope = sym (append-nil names);
        valid = qualify;
        stands = tt;
        deep = omega arith;
      })))
      (λ _. on_test (sees_star (at rest names)) _
      (λ _. on_mark {names = names} punct.Star _ _ (λ line r1 e1. on_mark {names = names} punct.RightBracket _ _ (λ last r2 e2.
      given (BracketsFound most first_line ts names) (record {
        own = first_line ∷ (own ++ line ∷ []);
        last = last;
        lines_are = ap (λ (ls : List ℕ). first_line ∷ ls) (sym (append_assoc own (line ∷ []) (last ∷ [])));
        count = let a = length-append own (line ∷ []) in let b = length-append (keys words) (kind.Mark punct.Star ∷ []) in omega (arith, count, k, a, b);
        spelled = first refl (both (owns (keys words) own) (token (kind.Mark punct.Star) line ∷ []) _ e (first e1 e2)
            ∙ ap (λ (ts : List Token). ts ++ (token (kind.Mark punct.RightBracket) last ∷ r2))
            (sym (owns_append (keys words) (kind.Mark punct.Star ∷ []) own (line ∷ []) (omega (arith, count, k)))));
        scope = sym (append-nil names);
        valid = qualify;
        stands = tt;
        deep = omega arith;
      }))))
      (λ _. on_part (below.expr assignment_level) _ _ expr_tokens new_expr (ExprFits most assignment_level names) (sound.expr assignment_level (at rest names) (omega arith)) (λ size r1 e1 fit.
      on_mark {names = names ++ new_expr size} punct.RightBracket _ _ (λ last r2 e2.
      given (BracketsFound most first_line ts names) (record {
        own = first_line ∷ own;
        last = last;
        lines_are = refl;
        count = omega (arith, count, k);
        spelled = first refl (e ∙ ap (λ (ts : List Token). owns (keys words) own ++ ts) (e1 ∙ ap (λ (ts : List Token). expr_tokens size ++ ts) e2));
        scope = refl;
        valid = (qualify, fit.valid);
        stands = fit.stands;
        deep = fit.deep;
      }))))))

  pub in_brackets_sound : (first_line : ℕ) (ts : List Token) (names : List Binding) → Gives (in_brackets below (first_line ∷ [])) (BracketsFound most first_line ts names) (at ts names)
  unfolding in_brackets
  in_brackets_sound first_line ts names =
      on_test (sees_key keywords.Static (at ts names)) _
      (λ _. static_first_sound first_line ts names)
      (λ no_static. on_qualifiers (first_line ∷ []) _ _ (λ words own r1 count qualify e1. behind_qualifiers_sound first_line ts r1 names words own count qualify e1 no_static))
