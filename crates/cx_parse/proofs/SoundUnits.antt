-- Statements of any depth, function definitions and units are sound.
use Rattle.std.proofs.Common.{◌≡◌, ℕ, zero, suc, ◌≤◌, Bool, true, false, cond, Some, List, [], ◌∷◌, ◌++◌, fold, refl, sym, ap, ◌∙◌, subst, arith, append_assoc}
use Rattle.std.proofs.lemmas.Bool.{true≢false}
use Rattle.std.proofs.lemmas.List.{append-nil}
use Rattle.cx_cursor.specs.Lists.{many_ahead, taking}
use Rattle.cx_cursor.specs.Reading.{State, at, Reader, bind, declaring, scoped}
use Rattle.cx_cursor.specs.Sights.{word_sight, sight_of, sight, sees_mark, shows_end}
use Rattle.cx_cursor.specs.declared.sight.Sight.{Sight}
use Rattle.cx_cursor.specs.declared.sight.Sight.TheVariants as sights
use Rattle.cx_cursor.proofs.Readers.{Gives, gives_bind, gives_pure, gives_none, gives_if, Took}
use Rattle.cx_expr.specs.Below.{DeclaratorRead}
use Rattle.cx_expr.specs.Initialisers.{initialiser}
use Rattle.cx_expr.specs.Knot.{readers}
use Rattle.cx_expr.specs.Specifiers.{SpecsRead, specs_from}
use Rattle.cx_words.specs.Beginnings.{shows_spec}
use Rattle.cx_words.specs.declared.form.Form.TheVariants.{Named}
use Rattle.cx_lex.specs.declared.token.Keyword.{Keyword}
use Rattle.cx_lex.specs.declared.token.Keyword.TheVariants as keywords
use Rattle.cx_lex.specs.declared.token.Punct.TheVariants.{LeftBrace, Semicolon}
use Rattle.cx_lex.specs.declared.token.Token.{Token}
use Rattle.cx_lex.specs.declared.token.TokenKind.{TokenKind}
use Rattle.cx_lex.specs.declared.token.TokenKind.TheVariants as kind
use Rattle.cx_parse.proofs.Lists.{each_of, Each, Items, many_ahead_sound}
use Rattle.cx_parse.proofs.SoundBranches.{PartStood, IsScope, IsBlock, gives_more, switch_sound, while_sound, do_sound, if_sound, for_sound, block_sound}
use Rattle.cx_parse.proofs.SoundDecls.{gives_declaring, bare_sound, declared_sound, decl_sound}
use Rattle.cx_parse.proofs.SoundStmts.{Left, scoped_gives, left_names, expr_stmt_sound, return_sound, goto_sound, continue_sound, break_sound, label_sound, default_sound, case_sound}
use Rattle.cx_parse.proofs.Stood.{AllSound, DeclaratorStood, InitialiserStood}
use Rattle.cx_parse.proofs.StoodStmts.{SpecsStood, DeclStood, StmtFits, StmtStood, ExternalFits, ExternalStood}
use Rattle.cx_stmt.specs.Declarations.{decl, behind_first, no_declarators}
use Rattle.cx_words.specs.Beginnings.{sees_label}
use Rattle.cx_stmt.specs.Stmts.{label, block_from, if_stmt, switch_stmt, while_stmt, do_stmt, for_stmt, keyword_stmt, stmt_by, stmt_from, stmt}
use Rattle.cx_stmt.specs.Units.{definition_tree, block, body, definition, behind_declarator, behind_specs, external, at_end, with_external, unit_tree, unit}
use Rattle.cx_tree.specs.Depth.{externals_depth, unit_depth}
use Rattle.cx_tree.specs.Names.{Binding, bound, has_type_specifier, new_specs, new_declarator, new_declared, new_params, own_params, new_external, StandsBehind, DeclaratorStands, StmtStands, ExternalsStand, UnitStands}
use Rattle.cx_tree.specs.Tokens.{specs_tokens, declarator_tokens, stmt_tokens, external_tokens, externals_tokens, unit_tokens}
use Rattle.cx_tree.specs.Trees.{DeclaratorTree, StmtTree, ExternalTree, Defined, Declaration, UnitTree}
use Rattle.cx_tree.specs.Valid.{is_block, AreValidExternals, IsValidUnit}
use Rattle.cx_tree.specs.Views.{specs as specs_of}

-- a statement that is a scope brings nothing into scope
scope_stood : (most : ℕ) (state : State) (s : StmtTree) (after : State) → PartStood IsScope most state s after → StmtStood most state s after
scope_stood most state s after part = record {
  stood = record { took = subst (λ (bs : List Binding). Took (stmt_tokens s) bs state after) (sym part.quiet) part.took; fits = part.fits };
  closed = part.closed;
}

block_scope : (most : ℕ) (state : State) (s : StmtTree) (after : State) → PartStood IsBlock most state s after → PartStood IsScope most state s after
block_scope most state s after part = record { took = part.took; fits = part.fits; closed = part.closed; quiet = part.quiet.0 }

as_stmt : (read : Reader StmtTree) (most : ℕ) (state : State) → Gives read (PartStood IsScope most state) state → Gives read (StmtStood most state) state
as_stmt read most state gives = gives_more read (PartStood IsScope most state) (StmtStood most state) state (λ s after part. scope_stood most state s after part) gives

module _ (stmt : Reader StmtTree) (depth : ℕ) (sound : AllSound (readers depth) depth) (stmt_sound : (state : State) → Gives stmt (StmtStood depth state) state)
    (decl_sound : (state : State) → Gives (decl depth) (DeclStood depth state) state) where
  keyword_sound : (k : Keyword) (state : State) → Gives (keyword_stmt stmt depth k) (StmtStood (suc depth) state) state
  keyword_sound keywords.Case state = case_sound stmt depth sound stmt_sound state
  keyword_sound keywords.Default state = default_sound stmt depth sound stmt_sound state
  keyword_sound keywords.If state = as_stmt (if_stmt stmt depth) (suc depth) state (if_sound stmt depth sound stmt_sound decl_sound state)
  keyword_sound keywords.Switch state = as_stmt (switch_stmt stmt depth) (suc depth) state (switch_sound stmt depth sound stmt_sound decl_sound state)
  keyword_sound keywords.While state = as_stmt (while_stmt stmt depth) (suc depth) state (while_sound stmt depth sound stmt_sound decl_sound state)
  keyword_sound keywords.Do state = as_stmt (do_stmt stmt depth) (suc depth) state (do_sound stmt depth sound stmt_sound decl_sound state)
  keyword_sound keywords.For state = as_stmt (for_stmt stmt depth) (suc depth) state (for_sound stmt depth sound stmt_sound decl_sound state)
  keyword_sound keywords.Goto state = goto_sound depth state
  keyword_sound keywords.Continue state = continue_sound depth state
  keyword_sound keywords.Break state = break_sound depth state
  keyword_sound keywords.Return state = return_sound depth sound state
  keyword_sound _ state = expr_stmt_sound depth sound state

  by_sight : (s : Sight) (state : State) → Gives (stmt_by stmt depth s) (StmtStood (suc depth) state) state
  by_sight (sights.Key k) state = keyword_sound k state
  by_sight _ state = expr_stmt_sound depth sound state

  stmt_from_sound : (state : State) → Gives (stmt_from stmt depth) (StmtStood (suc depth) state) state
  unfolding stmt_from
  stmt_from_sound state =
      gives_if sees_label (label stmt depth) (λ s. cond (sees_mark LeftBrace s) (block_from stmt depth s) (stmt_by stmt depth (sight s) s)) (StmtStood (suc depth) state) state
      (λ _. label_sound stmt depth sound stmt_sound state)
      (λ _. gives_if (sees_mark LeftBrace) (block_from stmt depth) (λ s. stmt_by stmt depth (sight s) s) (StmtStood (suc depth) state) state
      (λ _. as_stmt (block_from stmt depth) (suc depth) state (gives_more (block_from stmt depth) (PartStood IsBlock (suc depth) state) (PartStood IsScope (suc depth) state) state (λ s after part. block_scope (suc depth) state s after part)
      (block_sound stmt depth sound stmt_sound decl_sound state)))
      (λ _. by_sight (sight state) state))

module _ (sound : (depth : ℕ) → AllSound (readers depth) depth)
    (initialiser_sound : (depth : ℕ) (state : State) → Gives (initialiser (readers depth)) (InitialiserStood depth state) state)
    (specs_sound : (depth : ℕ) (all : Bool) (state : State) → Gives (specs_from (readers depth) all) (SpecsStood depth all state) state)
    (stands_behind : (all typed : Bool) (d : DeclaratorTree) (new : List Binding) (state after : State) → shows_spec all typed (sight state) ≡ false
    → Took (declarator_tokens d) new state after → StandsBehind typed state.names d) where
  pub stmt_sound : (depth : ℕ) (state : State) → Gives (stmt depth) (StmtStood depth state) state
  unfolding stmt
  stmt_sound zero state = gives_none (StmtStood zero state) state
  stmt_sound (suc depth) state =
      stmt_from_sound (stmt depth) depth (sound depth) (λ state. stmt_sound depth state) (λ state. decl_sound sound initialiser_sound specs_sound stands_behind depth state) state

  -- ---- function definitions (6.9.1)

  block_any : (depth : ℕ) (state : State) → Gives (block depth) (PartStood IsBlock depth state) state
  unfolding block
  block_any zero state = gives_none (PartStood IsBlock zero state) state
  block_any (suc depth) state =
      block_sound (stmt depth) depth (sound depth) (λ state. stmt_sound depth state) (λ state. decl_sound sound initialiser_sound specs_sound stands_behind depth state) state

  -- the body, in which these names are in scope too; behind it they are gone
  record BodyStood (depth : ℕ) (own : List Binding) (state : State) (s : StmtTree) (after : State) : Type 0 where
    took : Took (stmt_tokens s) [] state after
    fits : StmtFits depth (state.names ++ own) s
    is : is_block s ≡ true

  -- a block that was read where these names are in scope too
  abbrev InBody : ℕ → List Binding → State → StmtTree → State → Type 0
  InBody depth own state s mid = PartStood IsBlock depth (at state.tokens (state.names ++ own)) s mid

  body_left : (depth : ℕ) (own : List Binding) (state : State) (s : StmtTree) (after : State) → Left (InBody depth own state) state s after → BodyStood depth own state s after
  body_left depth own state s after left =
      let part = left.held in
      record {
        took = left_names (stmt_tokens s) (own ++ []) state left.mid after
            (record { spelled = part.took.spelled; scope = part.took.scope ∙ append_assoc state.names own [] }) left.is;
        fits = part.fits;
        is = part.quiet.1;
      }

  body_sound : (depth : ℕ) (own : List Binding) (state : State) → Gives (body depth own) (BodyStood depth own state) state
  unfolding body
  body_sound depth own state =
      gives_more (scoped _) (Left (InBody depth own state) state) (BodyStood depth own state) state (λ s after left. body_left depth own state s after left)
      (scoped_gives _ (InBody depth own state) state
      (gives_bind (declaring own own) (λ names. block depth) (λ names mid. mid ≡ at state.tokens (state.names ++ own)) (InBody depth own state) state
      (gives_declaring own own (λ names mid. mid ≡ at state.tokens (state.names ++ own)) state refl)
      (λ names mid is. subst (λ (s : State). Gives (block depth) (PartStood IsBlock depth s) mid) is (block_any depth mid))))

  -- what stands behind specifiers and a declarator that stood
  module _ (depth : ℕ) (state mid behind : State) (read : SpecsRead) (d : DeclaratorRead) (one : SpecsStood depth true state read mid) (two : DeclaratorStood depth Named mid d behind) where
    definition_of : (s2 after : State) (b : StmtTree) → s2 ≡ at behind.tokens (behind.names ++ bound (specs_of read.list) d.tree) → BodyStood depth d.own s2 b after
        → ExternalStood (suc depth) state (Defined (definition_tree (specs_of read.list) d.tree b)) after
    definition_of s2 after b is three =
        let ss = specs_of read.list in
        let names : s2.names ≡ state.names ++ (new_specs ss ++ new_declared ss d.tree) =
        ap (λ (s : State). s.names) is ∙ ap (λ (bs : List Binding). bs ++ bound ss d.tree) two.stood.took.scope ∙ append_assoc mid.names (new_declarator d.tree) (bound ss d.tree)
        ∙ ap (λ (bs : List Binding). bs ++ new_declared ss d.tree) one.stood.took.scope ∙ append_assoc state.names (new_specs ss) (new_declared ss d.tree) in
        let names_in : s2.names ++ d.own ≡ (state.names ++ (new_specs ss ++ new_declared ss d.tree)) ++ new_params (own_params d.tree) =
        ap (λ (bs : List Binding). bs ++ d.own) names ∙ ap (λ (bs : List Binding). (state.names ++ (new_specs ss ++ new_declared ss d.tree)) ++ bs) two.own in
        record {
          took = record {
            spelled = one.stood.took.spelled ∙ ap (λ (ts : List Token). specs_tokens ss ++ ts) (two.stood.took.spelled
                ∙ ap (λ (ts : List Token). declarator_tokens d.tree ++ ts) (sym (ap (λ (s : State). s.tokens) is) ∙ three.took.spelled)
                ∙ sym (append_assoc (declarator_tokens d.tree) (stmt_tokens b) after.tokens))
                ∙ sym (append_assoc (specs_tokens ss) (declarator_tokens d.tree ++ stmt_tokens b) after.tokens);
            scope = three.took.scope ∙ append-nil s2.names ∙ names;
          };
          fits = record {
            valid = record {
              specs = one.stood.fits.valid;
              declarator = two.stood.fits.valid;
              named = two.named;
              body = three.fits.valid;
              block = three.is;
              own = refl;
            };
            stands = record {
              specs = one.stood.fits.stands;
              behind = subst (λ (names : List Binding). StandsBehind (has_type_specifier ss) names d.tree) one.stood.took.scope
                  (subst (λ (b : Bool). StandsBehind b mid.names d.tree) one.typed
                  (stands_behind true read.typed d.tree (new_declarator d.tree) mid behind one.stopped two.stood.took));
              declarator = subst (λ (names : List Binding). DeclaratorStands false names d.tree) one.stood.took.scope two.stood.fits.stands;
              body = subst (λ (names : List Binding). StmtStands names b) names_in three.fits.stands;
            };
            deep = let a = one.stood.fits.deep in let c = two.stood.fits.deep in let e = three.fits.deep in omega (arith, a, c, e);
          };
        }

    definition_sound : Gives (definition depth (specs_of read.list) d) (ExternalStood (suc depth) state) behind
    unfolding definition
    definition_sound =
        gives_bind (declaring (bound (specs_of read.list) d.tree) d) _ (λ found s2. (found ≡ d) × (s2 ≡ at behind.tokens (behind.names ++ bound (specs_of read.list) d.tree)))
        (ExternalStood (suc depth) state) behind
        (gives_declaring (bound (specs_of read.list) d.tree) d (λ found s2. (found ≡ d) × (s2 ≡ at behind.tokens (behind.names ++ bound (specs_of read.list) d.tree))) behind (refl, refl))
        (λ found s2 known.
        gives_bind (body depth found.own) _ (BodyStood depth d.own s2) (ExternalStood (suc depth) state) s2
        (subst (λ (x : DeclaratorRead). Gives (body depth x.own) (BodyStood depth d.own s2) s2) (sym known.0) (body_sound depth d.own s2))
        (λ b after three. gives_pure (Defined (definition_tree (specs_of read.list) d.tree b)) (ExternalStood (suc depth) state) after (definition_of s2 after b known.1 three)))

    as_external : (read : Reader _) → Gives read (DeclStood (suc depth) state) behind → Gives (bind read (λ d. λ s. Some (Declaration d, s))) (ExternalStood (suc depth) state) behind
    as_external read gives =
        gives_bind read _ (DeclStood (suc depth) state) (ExternalStood (suc depth) state) behind gives (λ made after three.
        gives_pure (Declaration made) (ExternalStood (suc depth) state) after
        (record { took = three.took; fits = record { valid = three.fits.valid; stands = three.fits.stands; deep = three.fits.deep } }))

    behind_sound : Gives (behind_declarator depth (specs_of read.list) d) (ExternalStood (suc depth) state) behind
    unfolding behind_declarator
    behind_sound =
        gives_if (sees_mark LeftBrace) (definition depth (specs_of read.list) d) (bind (behind_first depth (specs_of read.list) d.tree) (λ d. λ s. Some (Declaration d, s)))
        (ExternalStood (suc depth) state) behind
        (λ _. definition_sound)
        (λ _. as_external (behind_first depth (specs_of read.list) d.tree)
        (declared_sound sound initialiser_sound specs_sound stands_behind depth state mid behind read d one two))

  external_sound : (depth : ℕ) (state : State) → Gives (external depth) (ExternalStood (suc depth) state) state
  unfolding external behind_specs
  external_sound depth state =
      gives_bind (specs_from (readers depth) true) _ _ _ state (specs_sound depth true state) (λ read mid one.
      gives_if (sees_mark Semicolon) (bind (no_declarators (specs_of read.list)) (λ d. λ s. Some (Declaration d, s)))
      (bind ((readers depth).declarator Named) (λ d. behind_declarator depth (specs_of read.list) d)) (ExternalStood (suc depth) state) mid
      (λ _. gives_bind (no_declarators (specs_of read.list)) _ (DeclStood (suc depth) state) (ExternalStood (suc depth) state) mid
      (bare_sound sound initialiser_sound specs_sound stands_behind depth state mid read one) (λ made after three.
      gives_pure (Declaration made) (ExternalStood (suc depth) state) after
      (record { took = three.took; fits = record { valid = three.fits.valid; stands = three.fits.stands; deep = three.fits.deep } })))
      (λ _. gives_bind ((readers depth).declarator Named) _ _ _ mid ((sound depth).declarator Named mid) (λ d behind two.
      behind_sound depth state mid behind read d one two)))

  -- ---- units (6.9)

  abbrev IsExternal : ℕ → List ExternalTree → List Binding → ExternalTree → Type 0
  IsExternal depth all names e = ExternalFits (suc depth) names e

  -- a unit whose tokens were all that stood ahead
  pub record UnitStood (depth : ℕ) (state : State) (u : UnitTree) (after : State) : Type 0 where
    pub spelled : state.tokens ≡ unit_tokens u
    pub valid : IsValidUnit u
    pub stands : UnitStands state.names u
    pub deep : unit_depth u ≤ suc (suc depth)

  record ExternalsFit (most : ℕ) (names : List Binding) (es : List ExternalTree) : Type 0 where
    valid : AreValidExternals es
    stands : ExternalsStand names es
    deep : externals_depth es ≤ most

  externals_fit : (depth : ℕ) (es all : List ExternalTree) (names : List Binding) → Each (IsExternal depth) new_external with_external all names es → ExternalsFit (suc depth) names es
  externals_fit depth [] all names good = record { valid = tt; stands = tt; deep = omega arith }
  externals_fit depth (e ∷ es) all names good =
      let rest = externals_fit depth es (with_external all e) (names ++ new_external e) good.1 in
      let one : ExternalFits (suc depth) names e = good.0 in
      record { valid = (one.valid, rest.valid); stands = (one.stands, rest.stands); deep = let a = one.deep in let b = rest.deep in omega (arith, a, b) }

  tokens_of_externals : (es : List ExternalTree) → externals_tokens es ≡ each_of external_tokens es
  tokens_of_externals [] = refl
  tokens_of_externals (e ∷ es) = ap (λ (ts : List Token). external_tokens e ++ ts) (tokens_of_externals es)

  all_externals : (es all : List ExternalTree) → fold with_external all es ≡ all ++ es
  all_externals [] all = sym (append-nil all)
  all_externals (e ∷ es) all = all_externals es (all ++ e ∷ []) ∙ append_assoc all (e ∷ []) es

  word_no_end : (b : Bool) → shows_end (word_sight b) ≡ true → {C : Type 0} → C
  word_no_end true e = absurd (true≢false (sym e))
  word_no_end false e = absurd (true≢false (sym e))

  kind_no_end : (k : TokenKind) (names : List Binding) → shows_end (sight_of names k) ≡ true → {C : Type 0} → C
  kind_no_end (kind.Word name) names e = word_no_end _ e
  kind_no_end (kind.Key found) names e = absurd (true≢false (sym e))
  kind_no_end (kind.Number value ty) names e = absurd (true≢false (sym e))
  kind_no_end (kind.Letter value) names e = absurd (true≢false (sym e))
  kind_no_end (kind.Text bytes) names e = absurd (true≢false (sym e))
  kind_no_end (kind.Mark punct) names e = absurd (true≢false (sym e))

  no_more : (tokens : List Token) (names : List Binding) → shows_end (sight (at tokens names)) ≡ true → tokens ≡ []
  no_more [] names e = refl
  no_more (t ∷ rest) names e = kind_no_end t.kind names e

  -- the first external declaration and those behind it
  unit_of : (depth : ℕ) (state s1 after : State) (one : ExternalTree) (parts : List ExternalTree) → ExternalStood (suc depth) state one s1
      → Items (IsExternal depth) external_tokens new_external with_external at_end (one ∷ []) s1 parts after → UnitStood depth state (unit_tree parts) after
  unit_of depth state s1 after one parts a b =
      let es = b.items in
      let are : parts ≡ one ∷ es = b.taken ∙ all_externals es (one ∷ []) in
      let fit = externals_fit depth es (one ∷ []) s1.names b.good in
      let end : after.tokens ≡ [] = no_more after.tokens after.names b.stopped in
      subst (λ (parts : List ExternalTree). UnitStood depth state (unit_tree parts) after) (sym are) (record {
        spelled = a.took.spelled ∙ ap (λ (ts : List Token). external_tokens one ++ ts) (b.took.spelled ∙ ap (λ (ts : List Token). each_of external_tokens es ++ ts) end
            ∙ append-nil (each_of external_tokens es) ∙ sym (tokens_of_externals es));
        valid = record { part = record { present = omega arith; each = (a.fits.valid, fit.valid) }; own = refl };
        stands = (a.fits.stands, subst (λ (names : List Binding). ExternalsStand names es) a.took.scope fit.stands);
        deep = let k = a.fits.deep in let l = fit.deep in omega (arith, k, l);
      })

  record Begun (depth : ℕ) (state : State) (first : List ExternalTree) (s1 : State) : Type 0 where
    one : ExternalTree
    is : first ≡ one ∷ []
    stood : ExternalStood (suc depth) state one s1

  pub unit_sound : (depth : ℕ) (state : State) → Gives (unit depth) (UnitStood depth state) state
  unfolding unit taking
  unit_sound depth state =
      gives_bind (taking (external depth) with_external []) _ (λ first s1. Begun depth state first s1) (UnitStood depth state) state
      (gives_bind (external depth) _ _ _ state (external_sound depth state) (λ one s1 a.
      gives_pure (one ∷ []) (λ first s1. Begun depth state first s1) s1 (record { one = one; is = refl; stood = a })))
      (λ first s1 begun.
      gives_bind (many_ahead at_end (taking (external depth) with_external) first) _ _ _ s1
      (many_ahead_sound (IsExternal depth) external_tokens new_external with_external at_end (external depth)
      (λ all state _. gives_more (external depth) (ExternalStood (suc depth) state) (λ e after. Took (external_tokens e) (new_external e) state after × IsExternal depth all state.names e) state
      (λ e after stood. (stood.took, stood.fits)) (external_sound depth state)) first s1) (λ parts after b.
      gives_pure (unit_tree parts) (UnitStood depth state) after
      (unit_of depth state s1 after begun.one parts begun.stood
      (subst (λ (all : List ExternalTree). Items (IsExternal depth) external_tokens new_external with_external at_end all s1 parts after) begun.is b))))
