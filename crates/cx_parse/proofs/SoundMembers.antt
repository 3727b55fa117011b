-- What the readers of members and of enumerators give stood in front.
use Rattle.std.proofs.Common.{◌≡◌, ℕ, suc, ◌≤◌, Bool, true, false, not, ◌||◌, List, [], ◌∷◌, ◌++◌, map, refl, sym, ap, ◌∙◌, subst, arith, append_assoc, length-append}
use Rattle.std.proofs.lemmas.List.{append-nil}
use Rattle.cx_cursor.specs.Lists.{no_comma}
use Rattle.cx_cursor.specs.Reading.{State, at, Reader, bind}
use Rattle.cx_cursor.specs.Scopes.{binding}
use Rattle.cx_cursor.specs.Sights.{sight_in, sees_mark}
use Rattle.cx_cursor.proofs.Readers.{Gives, gives_bind, token}
use Rattle.cx_expr.specs.Below.{Below, DeclaratorRead}
use Rattle.cx_expr.specs.Specifiers.{declarators, member_from, width_of, behind_member, member_declarator_from, enumerator_value, enumerator_from}
use Rattle.cx_words.specs.Beginnings.{shows_spec}
use Rattle.cx_words.specs.declared.form.Form.{Form}
use Rattle.cx_words.specs.declared.form.Form.TheVariants.{Named}
use Rattle.cx_lex.specs.declared.token.Punct.TheVariants as punct
use Rattle.cx_lex.specs.declared.token.Token.{Token}
use Rattle.cx_lex.specs.declared.token.TokenKind.{TokenKind}
use Rattle.cx_lex.specs.declared.token.TokenKind.TheVariants as kind
use Rattle.cx_parse.proofs.Lists.{each_of}
use Rattle.cx_parse.proofs.SoundLists.{Commas, commas_sound, on_commas, listed_ahead}
use Rattle.cx_parse.proofs.SoundParts.{member_declarators_tokens_are, member_declarators_new, member_declarators_many, member_declarators_valid, member_declarators_stand, member_declarators_deep}
use Rattle.cx_parse.proofs.SoundRules.{on_mark, on_word, on_part, on_test, given, stood, first, both, with_names}
use Rattle.cx_parse.proofs.SoundSpecs.{on_specs, behind_specs}
use Rattle.cx_parse.proofs.Stood.{ExprFits, MemberDeclaratorFits, MemberDeclStood, MemberDeclaratorStood, EnumeratorStood, DeclaratorStood, AllSound}
use Rattle.cx_tree.specs.Depth.{declarator_depth}
use Rattle.cx_tree.specs.Levels.{conditional_level}
use Rattle.cx_tree.specs.Names.{Binding, new_expr, new_specs, new_member_declarator, new_declarator, MembersStandBehind, DeclaratorStands}
use Rattle.cx_tree.specs.Tokens.{expr_tokens, specs_tokens, member_declarator_tokens, declarator_tokens, listed, ended}
use Rattle.cx_tree.specs.Trees.{DeclaratorTree, Missing, MemberDeclaratorTree, MemberDeclarator}
use Rattle.cx_tree.specs.Valid.{has_name, is_present, IsValidDeclarator}
use Rattle.cx_tree.specs.Views.{specs, member_declarators}

-- the first declarator of members belongs behind the specifiers
members_behind : (typed : Bool) (items : List MemberDeclaratorTree) (closing : List TokenKind) (lines : List ℕ) (tokens rest : List Token) (names : List Binding)
    → shows_spec false typed (sight_in names tokens) ≡ false → tokens ≡ listed closing (map member_declarator_tokens items) lines ++ rest
    → MembersStandBehind typed names (member_declarators items)
members_behind typed [] closing lines tokens rest names stop e = tt
members_behind typed (MemberDeclarator d width own ∷ items) closing lines tokens rest names stop e =
    behind_specs false typed d tokens _ names stop
    (e ∙ append_assoc (declarator_tokens d ++ _) _ rest ∙ append_assoc (declarator_tokens d) _ _)

either_named : (named present : Bool) → named ≡ true → (named || not present) ≡ true
either_named true present e = refl
either_named false present e = cc

module _ (below : Below) (most : ℕ) (sound : AllSound below most) where
  -- a declarator, and what is read behind it
  pub on_declarator : {B : Type 0} {ts : List Token} {names : List Binding} (form : Form) (go : DeclaratorRead → Reader B) (Q : B → State → Type 0)
      → ((d : DeclaratorRead) (rest : List Token) → DeclaratorStood most form (at ts names) d (at rest (names ++ new_declarator d.tree))
      → Gives (go d) Q (at rest (names ++ new_declarator d.tree)))
      → Gives (bind (below.declarator form) go) Q (at ts names)
  on_declarator {B} {ts} {names} form go Q next =
      gives_bind (below.declarator form) go (DeclaratorStood most form (at ts names)) Q (at ts names) (sound.declarator form (at ts names)) (λ d mid s.
      let scope : mid.names ≡ names ++ new_declarator d.tree = s.stood.took.scope in
      with_names (go d) Q mid (names ++ new_declarator d.tree) scope
      (next d mid.tokens (subst (λ (ns : List Binding). DeclaratorStood most form (at ts names) d (at mid.tokens ns)) scope s)))

  -- ---- members

  declarators_sound : (tokens : List Token) (names : List Binding)
      → Gives (declarators below) (Commas member_declarator_tokens new_member_declarator (MemberDeclaratorFits most) no_comma [] (at tokens names)) (at tokens names)
  unfolding declarators
  declarators_sound tokens names =
      commas_sound below.member_declarator member_declarator_tokens new_member_declarator (MemberDeclaratorFits most) sound.member_declarator no_comma [] (at tokens names)

  pub member_from_sound : (state : State) → Gives (member_from below) (MemberDeclStood (suc most) state) state
  unfolding member_from
  member_from_sound state =
      on_specs below most sound false _ _ (λ s r1 f.
      let so = f.read_so in
      let ss = specs s.list in
      let names : List Binding = state.names ++ new_specs ss in
      on_commas (declarators below) _ _ member_declarator_tokens new_member_declarator (MemberDeclaratorFits most) no_comma [] (declarators_sound r1 names) (λ items marks front r2 of some e2.
      on_mark punct.Semicolon _ _ (λ last r3 e3.
      let text : r1 ≡ listed (ended punct.Semicolon) (map member_declarator_tokens items) (marks ++ last ∷ []) ++ r3 =
      listed_ahead (ended punct.Semicolon) _ _ (marks ++ last ∷ []) (last ∷ []) front r3 refl (of.text (ended punct.Semicolon) (last ∷ [])) e2 e3 in
      let many = member_declarators_many items in
      given (MemberDeclStood (suc most) state) (stood
      (both (specs_tokens ss) _ r3 so.stood.took.spelled
      (text ∙ ap (λ (ps : List (List Token)). listed (ended punct.Semicolon) ps (marks ++ last ∷ []) ++ r3) (sym (member_declarators_tokens_are items))))
      (append_assoc state.names (new_specs ss) (each_of new_member_declarator items) ∙ ap (λ (bs : List Binding). state.names ++ (new_specs ss ++ bs)) (sym (member_declarators_new items)))
      (record {
        valid = record {
          specs = so.stood.fits.valid;
          fit = f.qualifies refl;
          list = record { present = omega (arith, many, some); each = member_declarators_valid most names items of.fine };
          own = let a = of.count in let c = length-append marks (last ∷ []) in omega (arith, a, many, c, some);
        };
        stands = record {
          specs = so.stood.fits.stands;
          behind = subst (λ (b : Bool). MembersStandBehind b names (member_declarators items)) so.typed
              (members_behind s.typed items (ended punct.Semicolon) (marks ++ last ∷ []) r1 r3 names so.stopped text);
          declared = member_declarators_stand most names items of.fine;
        };
        deep = let a = so.stood.fits.deep in let b = member_declarators_deep most names items of.fine in omega (arith, a, b);
      })))))

  -- the width of a bit-field behind a declarator
  width_sound : (start : State) (d : DeclaratorTree) (mid : List Token) → start.tokens ≡ declarator_tokens d ++ mid → IsValidDeclarator d → DeclaratorStands false start.names d
      → declarator_depth d ≤ most → (has_name d || not (is_present d)) ≡ true
      → Gives (width_of below d) (MemberDeclaratorStood (suc most) start) (at mid (start.names ++ new_declarator d))
  unfolding width_of
  width_sound start d mid e valid stands deep fits =
      let names : List Binding = start.names ++ new_declarator d in
      on_mark punct.Colon _ _ (λ line r1 e1.
      on_part (below.expr conditional_level) _ _ expr_tokens new_expr (ExprFits most conditional_level names) (sound.expr conditional_level (at r1 names) (omega arith)) (λ width r2 e2 fit.
      given (MemberDeclaratorStood (suc most) start) (stood (both (declarator_tokens d) _ r2 e (first e1 e2)) (append_assoc start.names (new_declarator d) (new_expr width))
      (record {
        valid = record { declarator = valid; fits = fits; behind = fit.valid; own = refl };
        stands = (stands, fit.stands);
        deep = let a = fit.deep in omega (arith, a, deep);
      }))))

  pub member_declarator_from_sound : (state : State) → Gives (member_declarator_from below) (MemberDeclaratorStood (suc most) state) state
  unfolding member_declarator_from behind_member
  member_declarator_from_sound state =
      on_test (sees_mark punct.Colon state) _
      (λ _. with_names (width_of below Missing) (MemberDeclaratorStood (suc most) state) state (state.names ++ []) (sym (append-nil state.names))
      (width_sound state Missing state.tokens refl tt tt (omega arith) refl))
      (λ _. on_declarator Named _ _ (λ d rest s.
      let fit = s.stood.fits in
      on_test (sees_mark punct.Colon (at rest (state.names ++ new_declarator d.tree))) _
      (λ _. width_sound state d.tree rest s.stood.took.spelled fit.valid fit.stands fit.deep (either_named (has_name d.tree) (is_present d.tree) s.named))
      (λ _. given (MemberDeclaratorStood (suc most) state) (stood
      (s.stood.took.spelled ∙ ap (λ (ts : List Token). ts ++ rest) (sym (append-nil (declarator_tokens d.tree))))
      (ap (λ (bs : List Binding). state.names ++ bs) (sym (append-nil (new_declarator d.tree))))
      (record {
        valid = record { declarator = fit.valid; fits = s.named; behind = tt; own = refl };
        stands = (fit.stands, tt);
        deep = let a = fit.deep in omega (arith, a);
      })))))

  -- ---- enumerators

  enumerator_value_sound : (name : List ℕ) (line : ℕ) (tokens r1 : List Token) (names : List Binding) → tokens ≡ token (kind.Word name) line ∷ r1
      → Gives (enumerator_value below name line) (EnumeratorStood (suc most) (at tokens names)) (at r1 names)
  unfolding enumerator_value
  enumerator_value_sound name line tokens r1 names e1 =
      on_mark punct.Equal _ _ (λ equal r2 e2.
      on_part (below.expr conditional_level) _ _ expr_tokens new_expr (ExprFits most conditional_level names) (sound.expr conditional_level (at r2 names) (omega arith)) (λ value r3 e3 fit.
      given (EnumeratorStood (suc most) (at tokens names)) (stood (first e1 (first e2 e3)) (append_assoc names (new_expr value) (binding name false ∷ []))
      (record { valid = record { part = fit.valid; own = refl }; stands = fit.stands; deep = let d = fit.deep in omega (arith, d) }))))

  pub enumerator_from_sound : (state : State) → Gives (enumerator_from below) (EnumeratorStood (suc most) state) state
  unfolding enumerator_from
  enumerator_from_sound state =
      on_word _ _ (λ name r1 e1.
      on_test (sees_mark punct.Equal (at r1 state.names)) _
      (λ _. enumerator_value_sound name.0 name.1 state.tokens r1 state.names e1)
      (λ _. given (EnumeratorStood (suc most) state) (stood e1 refl (record { valid = record { part = tt; own = refl }; stands = tt; deep = omega arith }))))
