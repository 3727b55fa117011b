-- What is read of a declarator that doesn't begin with `*` stood there.
use Rattle.std.proofs.Common.{◌≡◌, ℕ, zero, suc, ◌≤◌, nat_lt, Bool, true, false, cond, not, ◌||◌, ◌&&◌, Some, List, [], ◌∷◌, ◌++◌, length, drop, refl, sym, ap, ◌∙◌, subst, arith, append_assoc, length-append}
use Rattle.std.proofs.lemmas.Bool.Decides.{nat_tests}
use Rattle.std.proofs.lemmas.List.{append-nil}
use Rattle.std.specs.Prelude.{⊤}
use Rattle.cx_cursor.specs.Lists.{ListRead, list_read, many, many_ahead}
use Rattle.cx_cursor.specs.Reading.{State, at, Reader, bind}
use Rattle.cx_cursor.specs.Sights.{sight, sight_in, sight_behind, shows_mark, shows_word, sees_mark, same_mark, mark}
use Rattle.cx_cursor.specs.declared.sight.Sight.{Sight}
use Rattle.cx_cursor.proofs.Readers.{Gives, gives_bind, Took, token, same_mark_refl}
use Rattle.cx_expr.specs.Below.{Below, DeclaratorRead, declarator_read}
use Rattle.cx_expr.specs.Declarators.{may_name, no_declarator, identifier, params_end, function_of, names_in, identifiers, in_brackets, array, scoped_params, function, in_parentheses, function_or_identifiers, tail, group, abstract_head, head}
use Rattle.cx_words.specs.Beginnings.{begins_declarator, begins_params, begins_group}
use Rattle.cx_words.specs.Beginnings.{shows_spec}
use Rattle.cx_words.specs.declared.form.Form.{Form}
use Rattle.cx_words.specs.declared.form.Form.TheVariants.{Named, Abstract, Parameter}
use Rattle.cx_lex.specs.declared.token.Punct.TheVariants as punct
use Rattle.cx_lex.specs.declared.token.Token.{Token}
use Rattle.cx_lex.specs.declared.token.TokenKind.TheVariants as kind
use Rattle.cx_parse.proofs.SoundBrackets.{owns_front, drop_front, BracketsFound, in_brackets_sound}
use Rattle.cx_parse.proofs.SoundFunctions.{ScopedFound, scoped_sound, ParamsFound, params_end_sound, NamesFound, names_in_sound}
use Rattle.cx_parse.proofs.SoundMembers.{on_declarator}
use Rattle.cx_parse.proofs.SoundParts.{params_new, params_many, params_valid, params_stand, params_deep}
use Rattle.cx_parse.proofs.SoundRules.{on_mark, on_word, on_test, given, refused, first, both, with_names}
use Rattle.cx_parse.proofs.SoundSpecs.{behind_specs}
use Rattle.cx_parse.proofs.Stood.{is_parameter, IsNamed, AllSound}
use Rattle.cx_tree.specs.Depth.{declarator_depth}
use Rattle.cx_tree.specs.Names.{Binding, new_brackets, new_declarator, new_params, is_identifier, own_params, first_name, IsOrdinary, StandsInGroup, DeclaratorStands}
use Rattle.cx_tree.specs.Tokens as tree
use Rattle.cx_tree.specs.Tokens.{declarator_tokens, specs_tokens, owns, keys, brackets_front, length_tokens, behind_front, names_tokens}
use Rattle.cx_tree.specs.Trees.{DeclaratorTree, Missing, Identifier, Group, Pointer, Array, Function, Identifiers, ParamTree, ParamTrees}
use Rattle.cx_tree.specs.Valid.{IsValidDeclarator, has_name, is_present, is_direct, may_list}
use Rattle.cx_tree.specs.Views.{params}

-- ---- a loop of steps that keep a fact

module _ {A : Type 0} (P : A → State → Type 0) (stops : A → State → Bool) (step : A → Reader A)
    (keeps : (all : A) (state : State) → P all state → Gives (step all) P state) where
  -- the fact, and that the loop stopped
  pub record Kept (made : A) (after : State) : Type 0 where
    pub so : P made after
    pub stopped : stops made after ≡ true

  many_keeps : (turns : ℕ) (all : A) (state : State) → P all state → Gives (many stops step turns all) Kept state
  unfolding many
  many_keeps zero all state p = refused Kept
  many_keeps (suc turns) all state p =
      on_test (stops all state) Kept
      (λ stop. given Kept (record { so = p; stopped = stop }))
      (λ _. gives_bind (step all) (many stops step turns) P Kept state (keeps all state p) (λ next mid q. many_keeps turns next mid q))

  pub many_ahead_keeps : (all : A) (state : State) → P all state → Gives (many_ahead stops step all) Kept state
  unfolding many_ahead
  many_ahead_keeps all state p = many_keeps (suc (length state.tokens)) all state p

-- ---- truth values

pub or_none : (a b : Bool) → (a || b) ≡ false → (a ≡ false) × (b ≡ false)
or_none true b e = cc
or_none false b e = (refl, e)

pub both_true : (a b : Bool) → a ≡ true → b ≡ false → (a && not b) ≡ true
both_true true true e f = cc
both_true true false e f = refl
both_true false b e f = cc

pub not_true : (b : Bool) → not b ≡ true → b ≡ false
not_true true e = cc
not_true false e = refl

and_right : (a b : Bool) → (a && b) ≡ true → b ≡ true
and_right true b e = e
and_right false b e = cc

-- ---- forms

named_same : (form : Form) (d e : DeclaratorTree) → has_name d ≡ has_name e → IsNamed form d → IsNamed form e
named_same Named d e same named = sym same ∙ named
named_same Abstract d e same named = sym same ∙ named
named_same Parameter d e same named = tt

pub named_present : (d : DeclaratorTree) → has_name d ≡ true → is_present d ≡ true
named_present Missing e = cc
named_present _ e = refl

-- a declarator without a name begins with none
pub nameless : (names : List Binding) (d : DeclaratorTree) → has_name d ≡ false → IsOrdinary names (first_name d)
nameless names Missing e = tt
nameless names (Identifier name lines) e = cc
nameless names (Group inner lines) e = tt
nameless names (Pointer qualifiers of lines) e = tt
nameless names (Array of brackets lines) e = nameless names of e
nameless names (Function of _ variadic lines) e = nameless names of e
nameless names (Identifiers of listed lines) e = nameless names of e

-- no identifier that may be the declarator's name stands ahead
abbrev pub LacksName : Form → State → Type 0
LacksName Named state = ⊤
LacksName Abstract state = ⊤
LacksName Parameter state = shows_word (sight state) ≡ false

pub missing_named : (form : Form) (s : Sight) → begins_declarator form s ≡ false → IsNamed form Missing
missing_named Named s e = cc
missing_named Abstract s e = refl
missing_named Parameter s e = tt

-- ---- what was read of a declarator that doesn't begin with `*`, from this state on

pub record Direct (most : ℕ) (form : Form) (start : State) (d : DeclaratorRead) (after : State) : Type 0 where
  pub took : Took (declarator_tokens d.tree) (new_declarator d.tree) start after
  pub valid : IsValidDeclarator d.tree
  pub stands : DeclaratorStands (is_parameter form) start.names d.tree
  pub deep : declarator_depth d.tree ≤ most
  pub named : IsNamed form d.tree
  pub own : d.own ≡ new_params (own_params d.tree)
  pub direct : is_direct d.tree ≡ true
  pub lacking : is_present d.tree ≡ false → (sight after ≡ sight start) × LacksName form start

identifier_sound : (most : ℕ) (form : Form) (tokens : List Token) (names : List Binding) → IsNamed form (Identifier [] []) → Gives identifier (Direct (suc most) form (at tokens names)) (at tokens names)
unfolding identifier
identifier_sound most form tokens names named =
    on_word _ _ (λ w r1 e1.
    given (Direct (suc most) form (at tokens names)) (record {
      took = record { spelled = e1; scope = sym (append-nil names) };
      valid = refl;
      stands = tt;
      deep = omega arith;
      named = named_same form (Identifier [] []) (Identifier w.0 (w.1 ∷ [])) refl named;
      own = refl;
      direct = refl;
      lacking = λ e. cc;
    }))

-- nothing, where no declarator begins
missing_sound : (most : ℕ) (form : Form) (state : State) → IsNamed form Missing → LacksName form state → Direct (suc most) form state no_declarator state
missing_sound most form state named lacks = record {
  took = record { spelled = refl; scope = sym (append-nil state.names) };
  valid = tt;
  stands = tt;
  deep = omega arith;
  named = named;
  own = refl;
  direct = refl;
  lacking = λ _. (refl, lacks);
}

-- ---- declarators in parentheses

-- behind a parenthesis, no list of parameters begins
abbrev InGroup : Form → List Token → List Binding → Type 0
InGroup Named tokens names = ⊤
InGroup Abstract tokens names = begins_params (sight_in names tokens) ≡ false
InGroup Parameter tokens names = begins_params (sight_in names tokens) ≡ false

not_ended : (tokens rest : List Token) (names : List Binding) (line : ℕ) (d : DeclaratorTree) → begins_params (sight_in names tokens) ≡ false
    → tokens ≡ declarator_tokens d ++ token (kind.Mark punct.RightParenthesis) line ∷ rest → is_present d ≡ true
not_ended tokens rest names line Missing goes e =
    let none = (or_none (shows_mark punct.RightParenthesis (sight_in names tokens)) (shows_spec true false (sight_in names tokens)) goes).0 in
    let seen : shows_mark punct.RightParenthesis (sight_in names tokens) ≡ same_mark punct.RightParenthesis punct.RightParenthesis =
    ap (λ (ts : List Token). shows_mark punct.RightParenthesis (sight_in names ts)) e in
    let same = same_mark_refl punct.RightParenthesis in
    cc
not_ended tokens rest names line _ goes e = refl

group_present : (form : Form) (tokens rest : List Token) (names : List Binding) (line : ℕ) (d : DeclaratorTree) → InGroup form tokens names → IsNamed form d
    → tokens ≡ declarator_tokens d ++ token (kind.Mark punct.RightParenthesis) line ∷ rest → is_present d ≡ true
group_present Named tokens rest names line d goes named e = named_present d named
group_present Abstract tokens rest names line d goes named e = not_ended tokens rest names line d goes e
group_present Parameter tokens rest names line d goes named e = not_ended tokens rest names line d goes e

group_stands : (form : Form) (tokens rest : List Token) (names : List Binding) (d : DeclaratorTree) → InGroup form tokens names → tokens ≡ declarator_tokens d ++ rest
    → StandsInGroup (is_parameter form) names d
group_stands Named tokens rest names d goes e = tt
group_stands Abstract tokens rest names d goes e = tt
group_stands Parameter tokens rest names d goes e =
    behind_specs true false d tokens rest names (or_none (shows_mark punct.RightParenthesis (sight_in names tokens)) (shows_spec true false (sight_in names tokens)) goes).1 e

-- ---- the parameters of the function itself

own_of : (b : Bool) (declared own : List Binding) (ps inner : ParamTrees) → declared ≡ new_params ps → own ≡ new_params inner → cond b declared own ≡ new_params (cond b ps inner)
own_of true declared own ps inner e f = e
own_of false declared own ps inner e f = f

listing : (list : List (List ℕ)) (of : DeclaratorTree) → (has_name of ≡ false → list ≡ []) → may_list list of ≡ true
listing [] of only = refl
listing (n ∷ ns) of only = by_name (has_name of) refl where
  by_name : (b : Bool) → has_name of ≡ b → has_name of ≡ true
  by_name true e = e
  by_name false e = let none : (n ∷ ns) ≡ [] = only e in cc

or_second : (a b : Bool) → (a || b) ≡ true → a ≡ false → b ≡ true
or_second true b e f = cc
or_second false b e f = e

module _ (below : Below) (most : ℕ) (sound : AllSound below most) where
  group_sound : (form : Form) (tokens r1 : List Token) (names : List Binding) (line : ℕ) → tokens ≡ token (kind.Mark punct.LeftParenthesis) line ∷ r1 → InGroup form r1 names
      → Gives (bind (below.declarator form) (λ inner. bind (mark punct.RightParenthesis) (λ last. λ s. Some (declarator_read (Group inner.tree (line ∷ last ∷ [])) inner.own, s))))
      (Direct (suc most) form (at tokens names)) (at r1 names)
  group_sound form tokens r1 names line e1 goes =
      on_declarator below most sound form _ _ (λ inner r2 s.
      let fit = s.stood.fits in
      let e2 : r1 ≡ declarator_tokens inner.tree ++ r2 = s.stood.took.spelled in
      on_mark {names = names ++ new_declarator inner.tree} punct.RightParenthesis _ _ (λ last r3 e3.
      let whole = e2 ∙ ap (λ (ts : List Token). declarator_tokens inner.tree ++ ts) e3 in
      given (Direct (suc most) form (at tokens names)) (record {
        took = record { spelled = first e1 (both (declarator_tokens inner.tree) _ r3 e2 e3); scope = refl };
        valid = record { first = group_present form r1 r3 names last inner.tree goes s.named whole; second = fit.valid; own = refl };
        stands = (group_stands form r1 r2 names inner.tree goes e2, fit.stands);
        deep = let d = fit.deep in omega (arith, d);
        named = named_same form inner.tree (Group inner.tree (line ∷ last ∷ [])) refl s.named;
        own = s.own;
        direct = refl;
        lacking = λ e. cc;
      })))

  group_at : (form : Form) (tokens : List Token) (names : List Binding) → ((line : ℕ) (r1 : List Token) → tokens ≡ token (kind.Mark punct.LeftParenthesis) line ∷ r1 → InGroup form r1 names)
      → Gives (group below form) (Direct (suc most) form (at tokens names)) (at tokens names)
  unfolding group
  group_at form tokens names goes = on_mark punct.LeftParenthesis _ _ (λ line r1 e1. group_sound form tokens r1 names line e1 (goes line r1 e1))

  behind_is : (form : Form) (tokens : List Token) (names : List Binding) → not (begins_params (sight_behind (at tokens names))) ≡ true
      → (line : ℕ) (r1 : List Token) → tokens ≡ token (kind.Mark punct.LeftParenthesis) line ∷ r1 → begins_params (sight_in names r1) ≡ false
  behind_is form tokens names goes line r1 e1 =
      ap (λ (ts : List Token). begins_params (sight_in names (drop 1 ts))) (sym e1) ∙ not_true (begins_params (sight_behind (at tokens names))) goes

  pub head_sound : (form : Form) (state : State) → Gives (head below form) (Direct (suc most) form state) state
  unfolding head abstract_head
  head_sound Named state =
      on_test (sees_mark punct.LeftParenthesis state) (Direct (suc most) Named state)
      (λ _. group_at Named state.tokens state.names (λ line r1 e1. tt))
      (λ _. identifier_sound most Named state.tokens state.names refl)
  head_sound Abstract state =
      on_test (sees_mark punct.LeftParenthesis state && begins_group Abstract state) (Direct (suc most) Abstract state)
      (λ goes. group_at Abstract state.tokens state.names (behind_is Abstract state.tokens state.names (and_right (sees_mark punct.LeftParenthesis state) (begins_group Abstract state) goes)))
      (λ _. given (Direct (suc most) Abstract state) (missing_sound most Abstract state refl tt))
  head_sound Parameter state =
      on_test (shows_word (sight state)) (Direct (suc most) Parameter state)
      (λ _. identifier_sound most Parameter state.tokens state.names tt)
      (λ none. on_test (sees_mark punct.LeftParenthesis state && begins_group Parameter state) (Direct (suc most) Parameter state)
      (λ goes. group_at Parameter state.tokens state.names (behind_is Parameter state.tokens state.names (and_right (sees_mark punct.LeftParenthesis state) (begins_group Parameter state) goes)))
      (λ _. given (Direct (suc most) Parameter state) (missing_sound most Parameter state tt none)))

  -- ---- arrays and functions of what was read

  module _ (form : Form) (start : State) (of : DeclaratorRead) (mid : State) (d : Direct (suc most) form start of mid) (shallow : declarator_depth of.tree ≤ most) where
    abbrev names_here : List Binding
    names_here = start.names ++ new_declarator of.tree

    array_sound : Gives (array below of) (Direct (suc most) form start) mid
    unfolding array
    array_sound =
        with_names (array below of) (Direct (suc most) form start) mid names_here d.took.scope
        (on_mark {names = names_here} punct.LeftBracket _ _ (λ line r1 e1.
        gives_bind (in_brackets below (line ∷ [])) _ (BracketsFound most line r1 names_here) _ (at r1 names_here) (in_brackets_sound below most sound line r1 names_here) (λ read after b.
        let front = brackets_front read.brackets in
        let rest = length_tokens read.brackets in
        let lines : List ℕ = b.own ++ b.last ∷ [] in
        let closes : token (kind.Mark punct.RightBracket) b.last ≡ tree.mark (behind_front read.brackets lines) 0 punct.RightBracket =
        ap (λ (ls : List ℕ). tree.mark ls 0 punct.RightBracket) (sym (drop_front front b.own (b.last ∷ []) b.count)) in
        let text : mid.tokens ≡ (owns front lines ++ (rest ++ tree.mark (behind_front read.brackets lines) 0 punct.RightBracket ∷ [])) ++ after.tokens =
        e1 ∙ b.spelled
        ∙ ap (λ (ts : List Token). owns front b.own ++ ts) (sym (append_assoc rest (token (kind.Mark punct.RightBracket) b.last ∷ []) after.tokens))
        ∙ sym (append_assoc (owns front b.own) (rest ++ token (kind.Mark punct.RightBracket) b.last ∷ []) after.tokens)
        ∙ ap (λ (ts : List Token). (ts ++ (rest ++ token (kind.Mark punct.RightBracket) b.last ∷ [])) ++ after.tokens) (sym (owns_front front b.own (b.last ∷ []) b.count))
        ∙ ap (λ (t : Token). (owns front lines ++ (rest ++ t ∷ [])) ++ after.tokens) closes in
        let P : List ℕ → Type 0 = λ ls. Direct (suc most) form start (declarator_read (Array of.tree read.brackets ls) of.own) after in
        given (Direct (suc most) form start) (subst P (sym b.lines_are) (record {
          took = record {
            spelled = both (declarator_tokens of.tree) _ after.tokens d.took.spelled text;
            scope = b.scope ∙ append_assoc start.names (new_declarator of.tree) (new_brackets read.brackets);
          };
          valid = record { of = d.valid; direct = d.direct; behind = b.valid; own = let a = length-append b.own (b.last ∷ []) in let c = b.count in omega (arith, a, c) };
          stands = (d.stands, b.stands);
          deep = let a = b.deep in omega (arith, a, shallow);
          named = named_same form of.tree (Array of.tree read.brackets lines) refl d.named;
          own = d.own;
          direct = refl;
          lacking = λ e. cc;
        })))))

    function_sound : (line : ℕ) (r1 : List Token) → mid.tokens ≡ token (kind.Mark punct.LeftParenthesis) line ∷ r1
        → Gives (function below of line) (Direct (suc most) form start) (at r1 names_here)
    unfolding function
    function_sound line r1 e1 =
        gives_bind (scoped_params below line) _ (ScopedFound most line r1 names_here) _ (at r1 names_here) (scoped_sound below most sound line r1 names_here) (λ all m2 sc.
        let items = sc.items in
        let many = params_many items in
        subst (λ (l : ListRead ParamTree). Gives (bind (params_end l) (λ read. λ s. Some (function_of of read all.declared, s))) (Direct (suc most) form start) m2) (sym sc.is)
        (with_names (bind (params_end (list_read items (line ∷ sc.marks))) (λ read. λ s. Some (function_of of read all.declared, s))) (Direct (suc most) form start) m2 names_here sc.same
        (gives_bind (params_end (list_read items (line ∷ sc.marks))) _ (ParamsFound items line r1 names_here) _ (at m2.tokens names_here)
        (params_end_sound most line r1 m2.tokens names_here names_here items sc.marks sc.front sc.of sc.spelled) (λ read after p.
        let P : List ParamTree → List ℕ → Type 0 = λ ps ls. Direct (suc most) form start (declarator_read (Function of.tree (params ps) read.variadic ls) (cond (is_identifier of.tree) all.declared of.own)) after in
        given (Direct (suc most) form start)
        (subst (λ (ps : List ParamTree). P ps read.lines) (sym p.params_are) (subst (λ (ls : List ℕ). P items ls) (sym p.lines_are) (record {
          took = record { spelled = both (declarator_tokens of.tree) _ after.tokens d.took.spelled (first e1 p.spelled); scope = p.same };
          valid = record {
            of = d.valid;
            direct = d.direct;
            behind = record { present = let some = sc.some in omega (arith, many, some); each = params_valid most names_here items sc.of.fine };
            own = let c = p.count in omega (arith, many, c);
          };
          stands = (d.stands, params_stand most names_here items sc.of.fine);
          deep = let a = params_deep most names_here items sc.of.fine in omega (arith, a, shallow);
          named = named_same form of.tree (Function of.tree (params items) read.variadic (line ∷ p.own)) refl d.named;
          own = own_of (is_identifier of.tree) all.declared of.own (params items) (own_params of.tree) (sc.declared ∙ sym (params_new items)) d.own;
          direct = refl;
          lacking = λ e. cc;
        })))))))

    identifiers_sound : (line : ℕ) (r1 : List Token) → mid.tokens ≡ token (kind.Mark punct.LeftParenthesis) line ∷ r1 → may_name of (at r1 names_here) ≡ true
        → Gives (identifiers of line) (Direct (suc most) form start) (at r1 names_here)
    unfolding identifiers
    identifiers_sound line r1 e1 may =
        gives_bind (names_in line) _ (NamesFound line r1 names_here) _ (at r1 names_here) (names_in_sound line r1 names_here) (λ all m2 n.
        with_names (bind (mark punct.RightParenthesis) (λ last. λ s. Some (declarator_read (Identifiers of.tree all.list (all.lines ++ last ∷ [])) of.own, s))) (Direct (suc most) form start) m2 names_here n.same
        (on_mark {names = names_here} punct.RightParenthesis _ _ (λ last r3 e3.
        let P : ListRead (List ℕ) → Type 0 = λ l. Direct (suc most) form start (declarator_read (Identifiers of.tree l.list (l.lines ++ last ∷ [])) of.own) (at r3 names_here) in
        given (Direct (suc most) form start) (subst P (sym n.is) (record {
          took = record { spelled = both (declarator_tokens of.tree) _ r3 d.took.spelled (first e1 (n.text last r3 e3)); scope = refl };
          valid = record {
            of = d.valid;
            direct = d.direct;
            behind = listing n.list of.tree (λ nameless. n.empty (or_second (has_name of.tree) (sees_mark punct.RightParenthesis (at r1 names_here)) may nameless));
            own = let c = n.count in let a = length-append n.own (last ∷ []) in omega (arith, c, a);
          };
          stands = (d.stands, n.ordinary);
          deep = omega (arith, shallow);
          named = named_same form of.tree (Identifiers of.tree n.list (line ∷ (n.own ++ last ∷ []))) refl d.named;
          own = d.own;
          direct = refl;
          lacking = λ e. cc;
        })))))

    parentheses_sound : Gives (function_or_identifiers below of) (Direct (suc most) form start) mid
    unfolding function_or_identifiers in_parentheses
    parentheses_sound =
        with_names (function_or_identifiers below of) (Direct (suc most) form start) mid names_here d.took.scope
        (on_mark {names = names_here} punct.LeftParenthesis _ _ (λ line r1 e1.
        on_test (shows_spec true false (sight (at r1 names_here))) _
        (λ _. function_sound line r1 e1)
        (λ _. on_test (may_name of (at r1 names_here)) _ (λ may. identifiers_sound line r1 e1 may) (λ _. refused _))))

  pub tail_sound : (form : Form) (start : State) (of : DeclaratorRead) (mid : State) → Direct (suc most) form start of mid → Gives (tail below most of) (Direct (suc most) form start) mid
  unfolding tail
  tail_sound form start of mid d =
      on_test (nat_lt most (declarator_depth of.tree)) _ (λ _. refused _)
      (λ test. let shallow : declarator_depth of.tree ≤ most = grind (arith, nat_tests) in
      on_test (sees_mark punct.LeftBracket mid) _ (λ _. array_sound form start of mid d shallow) (λ _. parentheses_sound form start of mid d shallow))
