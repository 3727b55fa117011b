-- Declarations are sound: what is read of them stood in front.
use Rattle.std.proofs.Common.{◌≡◌, ℕ, zero, suc, ◌+◌, ◌-◌, ◌<◌, ◌≤◌, nat_lt, Bool, true, false, Some, None, List, [], ◌∷◌, ◌++◌, length, map, refl, sym, ap, ◌∙◌, subst, arith, append_assoc, length-append}
use Rattle.std.proofs.lemmas.Bool.{true≢false}
use Rattle.std.proofs.lemmas.Bool.Decides.{nat_tests}
use Rattle.std.proofs.lemmas.List.{append-nil}
use Rattle.cx_cursor.specs.Lists.{ListRead, list_read, with_next, no_comma, comma_item, behind_commas}
use Rattle.cx_cursor.specs.Reading.{State, at, bind, declaring}
use Rattle.cx_cursor.specs.Sights.{sight, sees_mark, mark}
use Rattle.cx_cursor.proofs.Readers.{Gives, gives_bind, gives_pure, gives_none, gives_if, same_answer, Took, TookOne, took_both, took_one, one_then, then_one, token, mark_gives}
use Rattle.cx_expr.specs.Below.{DeclaratorRead}
use Rattle.cx_expr.specs.Initialisers.{initialiser}
use Rattle.cx_expr.specs.Knot.{readers}
use Rattle.cx_expr.specs.Specifiers.{SpecsRead, specs_from}
use Rattle.cx_words.specs.Beginnings.{shows_spec}
use Rattle.cx_words.specs.declared.form.Form.TheVariants.{Named}
use Rattle.cx_lex.specs.declared.token.Punct.TheVariants.{Equal, Semicolon}
use Rattle.cx_lex.specs.declared.token.Token.{Token}
use Rattle.cx_lex.specs.declared.token.TokenKind.TheVariants as kind
use Rattle.cx_parse.proofs.Lists.{each_of, Each, Items, many_ahead_sound, comma_tokens, comma_new, lines_of, items_of, taken_in, behind_commas_is, comma_item_sound}
use Rattle.cx_parse.proofs.Stood.{AllSound, IsDeclarator, DeclaratorStood, InitialiserStood}
use Rattle.cx_parse.proofs.StoodStmts.{SpecsStood, InitDeclaratorFits, InitDeclaratorStood, DeclStood}
use Rattle.cx_stmt.specs.Declarations.{init_declarator_tree, decl_tree, init, init_or_none, behind_declarator, init_declarator, behind_first, no_declarators, behind_specs, decl_from, decl}
use Rattle.cx_tree.specs.Depth.{declarator_depth, init_declarators_depth}
use Rattle.cx_tree.specs.Names.{Binding, has_type_specifier, bound, new_declarator, new_declared, new_init_declarator, new_init_declarators, new_specs, InitialiserStands, StandsBehind, DeclaratorStands, InitDeclaratorsStand}
use Rattle.cx_tree.specs.Tokens as tree
use Rattle.cx_tree.specs.Tokens.{listed, ended, declarator_tokens, initialiser_tokens, init_tokens, init_declarator_tokens, init_declarators_tokens, specs_tokens}
use Rattle.cx_tree.specs.Trees.{SpecTrees, DeclaratorTree, Missing, InitDeclaratorTree, DeclTree}
use Rattle.cx_tree.specs.Valid.{Lines, commas, has_name, is_present, AreValidInitDeclarators}
use Rattle.cx_tree.specs.Views.{specs as specs_of}

pub gives_declaring : {A : Type 0} (new : List Binding) (a : A) (Q : A → State → Type 0) (state : State) → Q a (at state.tokens (state.names ++ new)) → Gives (declaring new a) Q state
gives_declaring new a Q state q b after e = same_answer Q a (at state.tokens (state.names ++ new)) b after e q

-- ---- declarators of one declaration

pub tokens_of_declarators : (ds : List InitDeclaratorTree) → init_declarators_tokens ds ≡ map init_declarator_tokens ds
tokens_of_declarators [] = refl
tokens_of_declarators (d ∷ ds) = ap (λ (ts : List (List Token)). init_declarator_tokens d ∷ ts) (tokens_of_declarators ds)

pub same_lengths : {A : Type 0} (nexts : List (ℕ × A)) → length (lines_of nexts) ≡ length (items_of nexts)
same_lengths [] = refl
same_lengths (next ∷ nexts) = ap suc (same_lengths nexts)

pub new_of_nexts : (specs : SpecTrees) (nexts : List (ℕ × InitDeclaratorTree)) → each_of (comma_new (new_init_declarator specs)) nexts ≡ new_init_declarators specs (items_of nexts)
new_of_nexts specs [] = refl
new_of_nexts specs (next ∷ nexts) = ap (λ (bs : List Binding). new_init_declarator specs next.1 ++ bs) (new_of_nexts specs nexts)

abbrev pub IsNext : ℕ → SpecTrees → ListRead InitDeclaratorTree → List Binding → ℕ × InitDeclaratorTree → Type 0
IsNext most specs all names next = InitDeclaratorFits most specs names next.1

pub record DeclaratorsFit (most : ℕ) (specs : SpecTrees) (names : List Binding) (ds : List InitDeclaratorTree) : Type 0 where
  pub valid : AreValidInitDeclarators ds
  pub stands : InitDeclaratorsStand specs names ds
  pub deep : init_declarators_depth ds ≤ most

pub nexts_fit : (most : ℕ) (specs : SpecTrees) (nexts : List (ℕ × InitDeclaratorTree)) (all : ListRead InitDeclaratorTree) (names : List Binding)
    → Each (IsNext most specs) (comma_new (new_init_declarator specs)) with_next all names nexts → DeclaratorsFit most specs names (items_of nexts)
nexts_fit most specs [] all names good = record { valid = tt; stands = tt; deep = omega arith }
nexts_fit most specs (next ∷ nexts) all names good =
    let rest = nexts_fit most specs nexts (with_next all next) (names ++ new_init_declarator specs next.1) good.1 in
    let one : InitDeclaratorFits most specs names next.1 = good.0 in
    record { valid = (one.valid, rest.valid); stands = (one.stands, rest.stands); deep = let a = one.deep in let b = rest.deep in omega (arith, a, b) }

-- ---- a declarator with what stands behind it

-- a declarator with a name isn't missing
pub named_present : (d : DeclaratorTree) → has_name d ≡ true → is_present d ≡ true
named_present Missing e = absurd (true≢false (sym e))
named_present _ e = refl

pub as_named : (most : ℕ) (state after : State) (d : DeclaratorRead) → DeclaratorStood most Named state d after → IsDeclarator Named d.tree
as_named most state after d one = record { valid = one.stood.fits.valid; present = named_present d.tree one.named; named = one.named }

-- with this declarator
pub record InitStood (most : ℕ) (specs : SpecTrees) (declarator : DeclaratorTree) (state : State) (d : InitDeclaratorTree) (after : State) : Type 0 where
  pub stood : InitDeclaratorStood most specs state d after
  pub same : d.declarator ≡ declarator

-- the declarators of a declaration, and the semicolon
pub record RestStood (most : ℕ) (under : SpecTrees) (declarator : DeclaratorTree) (state : State) (d : DeclTree) (after : State) : Type 0 where
  pub first : InitDeclaratorTree
  pub others : List InitDeclaratorTree
  pub list : d.list ≡ first ∷ others
  pub specs : d.specs ≡ under
  pub same : first.declarator ≡ declarator
  pub took : Took (listed (ended Semicolon) (init_declarators_tokens d.list) d.lines) (new_init_declarators under d.list) state after
  pub own : Lines d.lines (commas (length d.list) + 1)
  pub fit : DeclaratorsFit most under state.names d.list

module _ (sound : (depth : ℕ) → AllSound (readers depth) depth)
    (initialiser_sound : (depth : ℕ) (state : State) → Gives (initialiser (readers depth)) (InitialiserStood depth state) state)
    (specs_sound : (depth : ℕ) (all : Bool) (state : State) → Gives (specs_from (readers depth) all) (SpecsStood depth all state) state)
    (stands_behind : (all typed : Bool) (d : DeclaratorTree) (new : List Binding) (state after : State) → shows_spec all typed (sight state) ≡ false
    → Took (declarator_tokens d) new state after → StandsBehind typed state.names d) where
  -- behind a declarator, whose name is in scope
  module _ (depth : ℕ) (specs : SpecTrees) (d : DeclaratorTree) (start mid : State) (took : Took (declarator_tokens d) (new_declared specs d) start mid)
      (is : IsDeclarator Named d) (stands : DeclaratorStands false start.names d) (shallow : declarator_depth d < depth) where
    none_stood : InitStood depth specs d start (init_declarator_tree d None []) mid
    none_stood = record {
      stood = record {
        took = subst (λ (ts : List Token). Took ts (new_declared specs d ++ []) start mid) (sym (append-nil (declarator_tokens d)))
            (subst (λ (bs : List Binding). Took (declarator_tokens d) bs start mid) (sym (append-nil (new_declared specs d))) took);
        fits = record { valid = record { declarator = is.valid; fits = is.named; behind = tt; own = refl }; stands = (stands, tt); deep = omega (arith, shallow) };
      };
      same = refl;
    }

    init_sound : Gives (init (depth - 1) d) (InitStood depth specs d start) mid
    unfolding init
    init_sound =
        gives_bind (mark Equal) _ _ _ mid (mark_gives Equal mid) (λ line s1 one.
        gives_bind (initialiser (readers (depth - 1))) _ _ _ s1 (initialiser_sound (depth - 1) s1) (λ i s2 two.
        gives_pure (init_declarator_tree d (Some i) (line ∷ [])) (InitStood depth specs d start) s2 (record {
          stood = record {
            took = took_both (declarator_tokens d) (token (kind.Mark Equal) line ∷ initialiser_tokens i) (new_declared specs d) _ start mid s2 took
                (one_then (token (kind.Mark Equal) line) (initialiser_tokens i) _ mid s1 s2 one two.took);
            fits = record {
              valid = record { declarator = is.valid; fits = is.named; behind = two.fits.valid; own = refl };
              stands = (stands, subst (λ (names : List Binding). InitialiserStands names i) (one.same ∙ took.scope) two.fits.stands);
              deep = let a = two.fits.deep in omega (arith, a, shallow);
            };
          };
          same = refl;
        })))

    init_or_none_sound : Gives (init_or_none (depth - 1) d) (InitStood depth specs d start) mid
    unfolding init_or_none
    init_or_none_sound =
        gives_if (sees_mark Equal) (init (depth - 1) d) (λ s. Some (init_declarator_tree d None [], s)) (InitStood depth specs d start) mid
        (λ _. init_sound) (λ _. gives_pure (init_declarator_tree d None []) (InitStood depth specs d start) mid none_stood)

  behind_sound : (depth : ℕ) (specs : SpecTrees) (d : DeclaratorTree) (start state : State) → Took (declarator_tokens d) (new_declarator d) start state
      → IsDeclarator Named d → DeclaratorStands false start.names d → Gives (behind_declarator depth specs d) (InitStood depth specs d start) state
  unfolding behind_declarator
  behind_sound depth specs d start state took is stands =
      gives_if (λ _. nat_lt (declarator_depth d) depth) (bind (declaring (bound specs d) d) (λ d. init_or_none (depth - 1) d)) (λ s. None) (InitStood depth specs d start) state
      (λ small. gives_bind (declaring (bound specs d) d) (λ d. init_or_none (depth - 1) d)
      (λ found after. (found ≡ d) × (after ≡ at state.tokens (state.names ++ bound specs d))) (InitStood depth specs d start) state
      (gives_declaring (bound specs d) d (λ found after. (found ≡ d) × (after ≡ at state.tokens (state.names ++ bound specs d))) state (refl, refl))
      (λ found mid known.
      let in_scope : Took (declarator_tokens d) (new_declared specs d) start mid = subst (λ (s : State). Took (declarator_tokens d) (new_declared specs d) start s) (sym known.1)
      (record { spelled = took.spelled; scope = ap (λ (bs : List Binding). bs ++ bound specs d) took.scope ∙ append_assoc start.names (new_declarator d) (bound specs d) }) in
      let shallow : declarator_depth d < depth = grind (arith, nat_tests) in
      subst (λ (found : DeclaratorTree). Gives (init_or_none (depth - 1) found) (InitStood depth specs d start) mid) (sym known.0)
      (init_or_none_sound depth specs d start mid in_scope is stands shallow)))
      (λ _. gives_none (InitStood depth specs d start) state)

  init_declarator_sound : (depth : ℕ) (specs : SpecTrees) (state : State) → Gives (init_declarator depth specs) (InitDeclaratorStood depth specs state) state
  unfolding init_declarator
  init_declarator_sound depth specs state =
      gives_bind ((readers depth).declarator Named) _ _ _ state ((sound depth).declarator Named state) (λ d mid one i after e.
      let whole = behind_sound depth specs d.tree state mid one.stood.took (as_named depth state mid d one) one.stood.fits.stands i after e in whole.stood)

  -- ---- the declarators of a declaration

  next_sound : (depth : ℕ) (specs : SpecTrees) (state : State)
      → Gives (comma_item (init_declarator depth specs)) (λ next after. Took (comma_tokens init_declarator_tokens next) (comma_new (new_init_declarator specs) next) state after
      × InitDeclaratorFits depth specs state.names next.1) state
  next_sound depth specs state =
      comma_item_sound (init_declarator depth specs) init_declarator_tokens (new_init_declarator specs) (λ names d. InitDeclaratorFits depth specs names d)
      (λ state d after e. let one = init_declarator_sound depth specs state d after e in (one.took, one.fits)) state

  first_sound : (depth : ℕ) (specs : SpecTrees) (d : DeclaratorTree) (start state : State) → Took (declarator_tokens d) (new_declarator d) start state
      → IsDeclarator Named d → DeclaratorStands false start.names d → Gives (behind_first depth specs d) (RestStood depth specs d start) state
  unfolding behind_first
  first_sound depth specs d start state took is stands =
      gives_bind (behind_declarator depth specs d) _ _ _ state (behind_sound depth specs d start state took is stands) (λ one s1 a.
      gives_bind (behind_commas (init_declarator depth specs) (list_read (one ∷ []) [])) _ _ _ s1
      (many_ahead_sound (IsNext depth specs) (comma_tokens init_declarator_tokens) (comma_new (new_init_declarator specs)) with_next no_comma (comma_item (init_declarator depth specs))
      (λ all state _. next_sound depth specs state) (list_read (one ∷ []) []) s1) (λ all s2 b.
      gives_bind (mark Semicolon) _ _ _ s2 (mark_gives Semicolon s2) (λ last s3 c.
      gives_pure (decl_tree specs all.list (all.lines ++ last ∷ [])) (RestStood depth specs d start) s3 (rest_of depth specs d start s1 s2 s3 one all last a b c)))) where
        rest_of : (depth : ℕ) (specs : SpecTrees) (d : DeclaratorTree) (start s1 s2 s3 : State) (one : InitDeclaratorTree) (all : ListRead InitDeclaratorTree) (last : ℕ)
            → InitStood depth specs d start one s1
            → Items (IsNext depth specs) (comma_tokens init_declarator_tokens) (comma_new (new_init_declarator specs)) with_next no_comma (list_read (one ∷ []) []) s1 all s2
            → TookOne (token (kind.Mark Semicolon) last) s2 s3 → RestStood depth specs d start (decl_tree specs all.list (all.lines ++ last ∷ [])) s3
        rest_of depth specs d start s1 s2 s3 one all last a b c =
            let nexts = b.items in
            let are : all ≡ list_read (one ∷ items_of nexts) (lines_of nexts) = b.taken ∙ taken_in nexts (one ∷ []) [] in
            let fit = nexts_fit depth specs nexts (list_read (one ∷ []) []) s1.names b.good in
            let behind_text : List Token = each_of (comma_tokens init_declarator_tokens) nexts ++ token (kind.Mark Semicolon) last ∷ [] in
            let text : init_declarator_tokens one ++ (each_of (comma_tokens init_declarator_tokens) nexts ++ token (kind.Mark Semicolon) last ∷ [])
            ≡ init_declarator_tokens one ++ tree.behind_commas (ended Semicolon) (init_declarators_tokens (items_of nexts)) (lines_of nexts ++ last ∷ []) =
            ap (λ (ts : List Token). init_declarator_tokens one ++ ts) (sym (behind_commas_is init_declarator_tokens (ended Semicolon) nexts (last ∷ []))
            ∙ ap (λ (ts : List (List Token)). tree.behind_commas (ended Semicolon) ts (lines_of nexts ++ last ∷ [])) (sym (tokens_of_declarators (items_of nexts)))) in
            subst (λ (all : ListRead InitDeclaratorTree). RestStood depth specs d start (decl_tree specs all.list (all.lines ++ last ∷ [])) s3) (sym are) (record {
              first = one;
              others = items_of nexts;
              list = refl;
              specs = refl;
              same = a.same;
              took = subst (λ (ts : List Token). Took ts (new_init_declarators specs (one ∷ items_of nexts)) start s3) text
                  (subst (λ (bs : List Binding). Took (init_declarator_tokens one ++ behind_text) (new_init_declarator specs one ++ bs) start s3) (new_of_nexts specs nexts)
                  (took_both (init_declarator_tokens one) behind_text (new_init_declarator specs one) (each_of (comma_new (new_init_declarator specs)) nexts) start s1 s3 a.stood.took
                  (then_one (token (kind.Mark Semicolon) last) (each_of (comma_tokens init_declarator_tokens) nexts) (each_of (comma_new (new_init_declarator specs)) nexts) s1 s2 s3 b.took c)));
              own = let k = same_lengths nexts in let l = length-append (lines_of nexts) (last ∷ []) in omega (arith, k, l);
              fit = record {
                valid = (a.stood.fits.valid, fit.valid);
                stands = (a.stood.fits.stands, subst (λ (names : List Binding). InitDeclaratorsStand specs names (items_of nexts)) a.stood.took.scope fit.stands);
                deep = let k = a.stood.fits.deep in let l = fit.deep in omega (arith, k, l);
              };
            })

  -- ---- declarations

  -- behind specifiers that stood, and at which declarators end
  decl_of : (depth : ℕ) (state mid after : State) (read : SpecsRead) (declarator : DeclaratorTree) (behind : State) (d : DeclTree) → SpecsStood depth true state read mid
      → Took (declarator_tokens declarator) (new_declarator declarator) mid behind → RestStood depth (specs_of read.list) declarator mid d after → DeclStood (suc depth) state d after
  decl_of depth state mid after read declarator behind d one two three =
      let ss = specs_of read.list in
      let same_d : d ≡ decl_tree ss (three.first ∷ three.others) d.lines = λ i. decl_tree (three.specs i) (three.list i) d.lines in
      let behind_specs : StandsBehind (has_type_specifier ss) (state.names ++ new_specs ss) three.first.declarator =
      subst (λ (x : DeclaratorTree). StandsBehind (has_type_specifier ss) (state.names ++ new_specs ss) x) (sym three.same)
      (subst (λ (names : List Binding). StandsBehind (has_type_specifier ss) names declarator) one.stood.took.scope
      (subst (λ (b : Bool). StandsBehind b mid.names declarator) one.typed (stands_behind true read.typed declarator (new_declarator declarator) mid behind one.stopped two))) in
      let P : List InitDeclaratorTree → Type 0 = λ list. Took (listed (ended Semicolon) (init_declarators_tokens list) d.lines) (new_init_declarators ss list) mid after in
      let fit = subst (λ (list : List InitDeclaratorTree). DeclaratorsFit depth ss mid.names list) three.list three.fit in
      let own : Lines d.lines (commas (length (three.first ∷ three.others)) + 1) = subst (λ (list : List InitDeclaratorTree). Lines d.lines (commas (length list) + 1)) three.list three.own in
      subst (λ (d : DeclTree). DeclStood (suc depth) state d after) (sym same_d) (record {
        took = took_both (specs_tokens ss) _ (new_specs ss) _ state mid after one.stood.took (subst P three.list three.took);
        fits = record {
          valid = record { first = one.stood.fits.valid; second = fit.valid; own = own };
          stands = record {
            specs = one.stood.fits.stands;
            behind = behind_specs;
            declared = subst (λ (names : List Binding). InitDeclaratorsStand ss names (three.first ∷ three.others)) one.stood.took.scope fit.stands;
          };
          deep = let k = one.stood.fits.deep in let l = fit.deep in omega (arith, k, l);
        };
      })

  pub bare_sound : (depth : ℕ) (state mid : State) (read : SpecsRead) → SpecsStood depth true state read mid
      → Gives (no_declarators (specs_of read.list)) (DeclStood (suc depth) state) mid
  unfolding no_declarators
  bare_sound depth state mid read one =
      gives_bind (mark Semicolon) _ _ _ mid (mark_gives Semicolon mid) (λ last s1 two.
      gives_pure (decl_tree (specs_of read.list) [] (last ∷ [])) (DeclStood (suc depth) state) s1 (record {
        took = took_both (specs_tokens (specs_of read.list)) (token (kind.Mark Semicolon) last ∷ []) (new_specs (specs_of read.list)) [] state mid s1 one.stood.took
            (took_one (token (kind.Mark Semicolon) last) mid s1 two);
        fits = record {
          valid = record { first = one.stood.fits.valid; second = tt; own = refl };
          stands = record { specs = one.stood.fits.stands; behind = tt; declared = tt };
          deep = let k = one.stood.fits.deep in omega (arith, k);
        };
      }))

  pub declared_sound : (depth : ℕ) (state mid behind : State) (read : SpecsRead) (d : DeclaratorRead) → SpecsStood depth true state read mid → DeclaratorStood depth Named mid d behind
      → Gives (behind_first depth (specs_of read.list) d.tree) (DeclStood (suc depth) state) behind
  declared_sound depth state mid behind read d one two made after e =
      decl_of depth state mid after read d.tree behind made one two.stood.took
      (first_sound depth (specs_of read.list) d.tree mid behind two.stood.took (as_named depth mid behind d two) two.stood.fits.stands made after e)

  decl_from_sound : (depth : ℕ) (state : State) → Gives (decl_from depth) (DeclStood (suc depth) state) state
  unfolding decl_from behind_specs
  decl_from_sound depth state =
      gives_bind (specs_from (readers depth) true) _ _ _ state (specs_sound depth true state) (λ read mid one.
      gives_if (sees_mark Semicolon) (no_declarators (specs_of read.list))
      (bind ((readers depth).declarator Named) (λ d. behind_first depth (specs_of read.list) d.tree)) (DeclStood (suc depth) state) mid
      (λ _. bare_sound depth state mid read one)
      (λ _. gives_bind ((readers depth).declarator Named) _ _ _ mid ((sound depth).declarator Named mid) (λ d behind two.
      declared_sound depth state mid behind read d one two)))

  pub decl_sound : (depth : ℕ) (state : State) → Gives (decl depth) (DeclStood depth state) state
  unfolding decl
  decl_sound zero state = gives_none (DeclStood zero state) state
  decl_sound (suc depth) state = decl_from_sound depth state
