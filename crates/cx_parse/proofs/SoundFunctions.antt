-- What is read of the parameters of a function, or of its list of identifiers, stood there.
use Rattle.std.proofs.Common.{◌≡◌, ℕ, ◌<◌, ◌+◌, ◌-◌, ◌*◌, true, false, Option, Some, None, List, [], ◌∷◌, ◌++◌, length, fold, take, drop, refl, sym, ap, ◌∙◌, subst, arith, append_assoc, length-append}
use Rattle.std.proofs.lemmas.List.{append-nil}
use Rattle.cx_cursor.specs.Lists.{ListRead, list_read, no_comma}
use Rattle.cx_cursor.specs.Reading.{State, at, Reader, onward}
use Rattle.cx_cursor.specs.Sights.{sight, sight_in, sees_mark}
use Rattle.cx_cursor.specs.declared.sight.Sight.{Sight}
use Rattle.cx_cursor.specs.declared.sight.Sight.TheVariants as sights
use Rattle.cx_cursor.proofs.Readers.{Gives, gives_bind, Took, TookOne, token, word_gives}
use Rattle.cx_expr.specs.Below.{Below}
use Rattle.cx_expr.specs.Declarators.{no_param, with_name, plain_word, with_comma_name, comma_name, ParamsRead, ScopedRead, params_end, some_names, names_in, params_in, scoped_params}
use Rattle.cx_words.specs.Beginnings.{is_plain}
use Rattle.cx_lex.specs.declared.token.Punct.TheVariants as punct
use Rattle.cx_lex.specs.declared.token.Token.{Token}
use Rattle.cx_lex.specs.declared.token.TokenKind.TheVariants as kind
use Rattle.cx_parse.proofs.Lists.{each_of, Each, Items, many_ahead_sound}
use Rattle.cx_parse.proofs.SoundExprs.{plain_word as plain_name}
use Rattle.cx_parse.proofs.SoundLists.{ListOf, Commas, commas_sound, listed_ahead}
use Rattle.cx_parse.proofs.SoundParts.{params_tokens_are}
use Rattle.cx_parse.proofs.SoundRules.{Answered, on_mark, on_test, given, refused, first, both}
use Rattle.cx_parse.proofs.Stood.{ParamFits, AllSound}
use Rattle.cx_tree.specs.Names.{Binding, is_type, new_param, AreOrdinary}
use Rattle.cx_tree.specs.Tokens.{param_tokens, params_tokens, names_tokens, behind_names, listed, parenthesis}
use Rattle.cx_tree.specs.Trees.{ParamTree}
use Rattle.cx_tree.specs.Valid.{one_if}
use Rattle.cx_tree.specs.Views.{params}

-- ---- names that end with a list

take_front : (a b : List Binding) → take (length a) (a ++ b) ≡ a
take_front [] b = refl
take_front (x ∷ a) b = ap (λ (bs : List Binding). x ∷ bs) (take_front a b)

drop_front : (a b : List Binding) → drop (length a) (a ++ b) ≡ b
drop_front [] b = refl
drop_front (x ∷ a) b = drop_front a b

on_onward : {A B : Type 0} (answer : Option (A × State)) (go : A → Reader B) (P : A → State → Type 0) (Q : B → State → Type 0) → Answered answer P
    → ((a : A) (mid : State) → P a mid → Answered (go a mid) Q) → Answered (onward answer go) Q
on_onward None go P Q h next = refused Q
on_onward (Some read) go P Q h next = next read.0 read.1 (h read.0 read.1 refl)

-- ---- parameters

-- parameters with commas between them, whose names went out of scope behind them
pub record ScopedFound (most : ℕ) (first_line : ℕ) (ts : List Token) (names : List Binding) (read : ScopedRead) (after : State) : Type 0 where
  pub items : List ParamTree
  pub marks : List ℕ
  pub front : List Token
  pub is : read.list ≡ list_read items (first_line ∷ marks)
  pub of : ListOf param_tokens new_param (ParamFits most) names items marks front
  pub some : 0 < length items
  pub spelled : ts ≡ front ++ after.tokens
  pub same : after.names ≡ names
  pub declared : read.declared ≡ each_of new_param items

module _ (below : Below) (most : ℕ) (sound : AllSound below most) where
  pub scoped_sound : (first_line : ℕ) (ts : List Token) (names : List Binding) → Gives (scoped_params below first_line) (ScopedFound most first_line ts names) (at ts names)
  unfolding scoped_params params_in
  scoped_sound first_line ts names =
      on_onward (params_in below first_line (at ts names)) _ (Commas param_tokens new_param (ParamFits most) no_param (first_line ∷ []) (at ts names)) _
      (commas_sound below.param param_tokens new_param (ParamFits most) sound.param no_param (first_line ∷ []) (at ts names)) (λ all mid c.
      let l = c.list in
      let scope : mid.names ≡ names ++ each_of new_param l.items = l.took.scope in
      given (ScopedFound most first_line ts names) (record {
        items = l.items;
        marks = l.marks;
        front = l.front;
        is = l.is;
        of = l.of;
        some = c.some;
        spelled = l.took.spelled;
        same = ap (λ (ns : List Binding). take (length names) ns) scope ∙ take_front names (each_of new_param l.items);
        declared = ap (λ (ns : List Binding). drop (length names) ns) scope ∙ drop_front names (each_of new_param l.items);
      }))

-- the parameters of a list, and its end
pub record ParamsFound (items : List ParamTree) (first_line : ℕ) (before : List Token) (names : List Binding) (read : ParamsRead) (after : State) : Type 0 where
  pub own : List ℕ
  pub params_are : read.params ≡ items
  pub lines_are : read.lines ≡ first_line ∷ own
  pub count : length own ≡ (length items - 1) + 2 * one_if read.variadic + 1
  pub spelled : before ≡ listed (parenthesis read.variadic) (params_tokens (params items)) own ++ after.tokens
  pub same : after.names ≡ names

pub params_end_sound : (most : ℕ) (first_line : ℕ) (before ts : List Token) (names inside : List Binding) (items : List ParamTree) (marks : List ℕ) (front : List Token)
    → ListOf param_tokens new_param (ParamFits most) inside items marks front → before ≡ front ++ ts
    → Gives (params_end (list_read items (first_line ∷ marks))) (ParamsFound items first_line before names) (at ts names)
unfolding params_end
params_end_sound most first_line before ts names inside items marks front of e =
    on_test (sees_mark punct.Comma (at ts names)) _
    (λ _. on_mark punct.Comma _ _ (λ comma r1 e1. on_mark punct.Ellipsis _ _ (λ dots r2 e2. on_mark punct.RightParenthesis _ _ (λ last r3 e3.
    given (ParamsFound items first_line before names) (record {
      own = marks ++ comma ∷ dots ∷ last ∷ [];
      params_are = refl;
      lines_are = refl;
      count = let a = of.count in let b = length-append marks (comma ∷ dots ∷ last ∷ []) in omega (arith, a, b);
      spelled = listed_ahead (parenthesis true) _ _ (marks ++ comma ∷ dots ∷ last ∷ []) (comma ∷ dots ∷ last ∷ []) front r3 (params_tokens_are items)
          (of.text (parenthesis true) (comma ∷ dots ∷ last ∷ [])) e (first e1 (first e2 e3));
      same = refl;
    })))))
    (λ _. on_mark punct.RightParenthesis _ _ (λ last r1 e1.
    given (ParamsFound items first_line before names) (record {
      own = marks ++ last ∷ [];
      params_are = refl;
      lines_are = refl;
      count = let a = of.count in let b = length-append marks (last ∷ []) in omega (arith, a, b);
      spelled = listed_ahead (parenthesis false) _ _ (marks ++ last ∷ []) (last ∷ []) front r1 (params_tokens_are items) (of.text (parenthesis false) (last ∷ [])) e e1;
      same = refl;
    })))

-- ---- identifiers

-- an identifier behind a comma: the comma's line, the name and its line
abbrev Next : Type 0
Next = ℕ × (List ℕ × ℕ)

abbrev next_tokens : Next → List Token
next_tokens n = token (kind.Mark punct.Comma) n.0 ∷ token (kind.Word n.1.0) n.1.1 ∷ []

abbrev no_new : Next → List Binding
no_new n = []

abbrev Ordinary : ListRead (List ℕ) → List Binding → Next → Type 0
Ordinary all names n = is_type names n.1.0 ≡ false

abbrev names_of : List Next → List (List ℕ)
names_of [] = []
names_of (n ∷ ns) = n.1.0 ∷ names_of ns

abbrev lines_of : List Next → List ℕ
lines_of [] = []
lines_of (n ∷ ns) = n.0 ∷ n.1.1 ∷ lines_of ns

fold_names : (ns : List Next) (list : List (List ℕ)) (lines : List ℕ) → fold with_comma_name (list_read list lines) ns ≡ list_read (list ++ names_of ns) (lines ++ lines_of ns)
fold_names [] list lines = λ i. list_read (sym (append-nil list) i) (sym (append-nil lines) i)
fold_names (n ∷ ns) list lines =
    fold_names ns (list ++ n.1.0 ∷ []) ((lines ++ n.0 ∷ []) ++ n.1.1 ∷ [])
    ∙ (λ i. list_read (append_assoc list (n.1.0 ∷ []) (names_of ns) i) ((append_assoc (lines ++ n.0 ∷ []) (n.1.1 ∷ []) (lines_of ns) ∙ append_assoc lines (n.0 ∷ []) (n.1.1 ∷ lines_of ns)) i))

nothing_new : (ns : List Next) → each_of no_new ns ≡ []
nothing_new [] = refl
nothing_new (n ∷ ns) = nothing_new ns

two_lines : (ns : List Next) → length (lines_of ns) ≡ 2 * length (names_of ns)
two_lines [] = omega arith
two_lines (n ∷ ns) = omega (arith, two_lines ns)

names_are : (ns : List Next) (last : ℕ) → each_of next_tokens ns ++ token (kind.Mark punct.RightParenthesis) last ∷ [] ≡ behind_names (names_of ns) (lines_of ns ++ last ∷ [])
names_are [] last = refl
names_are (n ∷ ns) last = ap (λ (ts : List Token). token (kind.Mark punct.Comma) n.0 ∷ token (kind.Word n.1.0) n.1.1 ∷ ts) (names_are ns last)

all_ordinary : (all : ListRead (List ℕ)) (names : List Binding) (ns : List Next) → Each Ordinary no_new with_comma_name all names ns → AreOrdinary names (names_of ns)
all_ordinary all names [] good = tt
all_ordinary all names (n ∷ ns) good =
    (good.0, subst (λ (bs : List Binding). AreOrdinary bs (names_of ns)) (append-nil names) (all_ordinary (with_comma_name all n) (names ++ []) ns good.1))

plain_sight : (s : Sight) → is_plain s ≡ true → s ≡ sights.Word
plain_sight sights.Word e = refl
plain_sight _ e = cc

-- an identifier that is no typedef name
record PlainFound (ts : List Token) (names : List Binding) (w : List ℕ × ℕ) (after : State) : Type 0 where
  one : TookOne (token (kind.Word w.0) w.1) (at ts names) after
  ordinary : is_type names w.0 ≡ false

plain_word_sound : (ts : List Token) (names : List Binding) → Gives plain_word (PlainFound ts names) (at ts names)
unfolding plain_word
plain_word_sound ts names =
    on_test (is_plain (sight (at ts names))) _
    (λ plain. λ w after e.
    let one : TookOne (token (kind.Word w.0) w.1) (at ts names) after = word_gives (at ts names) w after e in
    record {
      one = one;
      ordinary = plain_name (is_type names w.0) (sym (ap (λ (ts : List Token). sight_in names ts) one.ahead) ∙ plain_sight (sight (at ts names)) plain);
    })
    (λ _. refused _)

comma_name_sound : (ts : List Token) (names : List Binding)
    → Gives comma_name (λ n after. Took (next_tokens n) (no_new n) (at ts names) after × (is_type names n.1.0 ≡ false)) (at ts names)
unfolding comma_name
comma_name_sound ts names =
    on_mark punct.Comma _ _ (λ comma r1 e1.
    gives_bind plain_word _ (PlainFound r1 names) _ (at r1 names) (plain_word_sound r1 names) (λ w after p.
    given _ (record { spelled = first e1 p.one.ahead; scope = p.one.same ∙ sym (append-nil names) }, p.ordinary)))

-- what was read of a list of identifiers, behind the parenthesis
pub record NamesFound (first_line : ℕ) (ts : List Token) (names : List Binding) (read : ListRead (List ℕ)) (after : State) : Type 0 where
  pub list : List (List ℕ)
  pub own : List ℕ
  pub is : read ≡ list_read list (first_line ∷ own)
  pub count : length own ≡ length list + (length list - 1)
  pub ordinary : AreOrdinary names list
  pub text : (last : ℕ) (rest : List Token) → after.tokens ≡ token (kind.Mark punct.RightParenthesis) last ∷ rest → ts ≡ names_tokens list (own ++ last ∷ []) ++ rest
  pub same : after.names ≡ names
  pub empty : sees_mark punct.RightParenthesis (at ts names) ≡ true → list ≡ []

some_names_sound : (first_line : ℕ) (ts : List Token) (names : List Binding) → sees_mark punct.RightParenthesis (at ts names) ≡ false
    → Gives (some_names first_line) (NamesFound first_line ts names) (at ts names)
unfolding some_names
some_names_sound first_line ts names no_end =
    gives_bind plain_word _ (PlainFound ts names) _ (at ts names) (plain_word_sound ts names) (λ w mid p.
    let start : ListRead (List ℕ) = with_name (list_read [] (first_line ∷ [])) w in
    λ read after e.
    let found : Items Ordinary next_tokens no_new with_comma_name no_comma start mid read after =
    many_ahead_sound Ordinary next_tokens no_new with_comma_name no_comma comma_name (λ all s go. comma_name_sound s.tokens s.names) start mid read after e in
    let ns = found.items in
    record {
      list = w.0 ∷ names_of ns;
      own = w.1 ∷ lines_of ns;
      is = found.taken ∙ fold_names ns (w.0 ∷ []) (first_line ∷ w.1 ∷ []);
      count = let two = two_lines ns in omega (arith, two);
      ordinary = (p.ordinary, subst (λ (bs : List Binding). AreOrdinary bs (names_of ns)) p.one.same (all_ordinary start mid.names ns found.good));
      text = λ last rest end. first p.one.ahead (both (each_of next_tokens ns) (token (kind.Mark punct.RightParenthesis) last ∷ []) rest found.took.spelled end
          ∙ ap (λ (ts : List Token). ts ++ rest) (names_are ns last));
      same = found.took.scope ∙ ap (λ (bs : List Binding). mid.names ++ bs) (nothing_new ns) ∙ append-nil mid.names ∙ p.one.same;
      empty = λ end. cc;
    })

pub names_in_sound : (first_line : ℕ) (ts : List Token) (names : List Binding) → Gives (names_in first_line) (NamesFound first_line ts names) (at ts names)
unfolding names_in
names_in_sound first_line ts names =
    on_test (sees_mark punct.RightParenthesis (at ts names)) _
    (λ _. given (NamesFound first_line ts names) (record {
      list = [];
      own = [];
      is = refl;
      count = omega arith;
      ordinary = tt;
      text = λ last rest end. end;
      same = refl;
      empty = λ _. refl;
    }))
    (λ no_end. some_names_sound first_line ts names no_end)
