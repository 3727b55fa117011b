-- Function definitions and units are read.
use Rattle.std.proofs.Common.{◌≡◌, ℕ, suc, ◌<◌, ◌≤◌, Bool, true, false, ◌⊎◌, inl, inr, Option, Some, None, List, [], ◌∷◌, ◌++◌, length, fold, get_or, refl, sym, ap, ◌∙◌, subst, arith, append_assoc, length-append}
use Rattle.std.proofs.lemmas.Bool.{cond-true, cond-false, true≢false}
use Rattle.std.proofs.lemmas.List.{append-nil}
use Rattle.std.specs.Prelude.{⊤}
use Rattle.cx_cursor.specs.Lists.{many_ahead, taking}
use Rattle.cx_cursor.specs.Reading.{State, at, bind, declaring}
use Rattle.cx_cursor.specs.Sights.{sight, sight_in, sight_of, word_sight, same_mark, shows_end, sees_mark, mark}
use Rattle.cx_cursor.proofs.Readers.{bind_some, token, mark_reads, same_mark_refl}
use Rattle.cx_expr.specs.Below.{DeclaratorRead, declarator_read}
use Rattle.cx_expr.specs.Initialisers.{initialiser}
use Rattle.cx_expr.specs.Knot.{readers}
use Rattle.cx_expr.specs.Specifiers.{specs_read, specs_from}
use Rattle.cx_words.specs.Beginnings.{shows_spec}
use Rattle.cx_words.specs.declared.form.Form.TheVariants.{Named}
use Rattle.cx_lex.specs.declared.token.Punct.TheVariants.{LeftBrace, Comma, Equal, Semicolon}
use Rattle.cx_lex.specs.declared.token.Token.{Token}
use Rattle.cx_lex.specs.declared.token.TokenKind.{TokenKind}
use Rattle.cx_lex.specs.declared.token.TokenKind.TheVariants as kind
use Rattle.cx_parse.proofs.Lists.{each_of, Each, many_ahead_reads}
use Rattle.cx_parse.proofs.ReadsDecls.{EndsInit, others_end, named_reads, first_reads, declared_behind, init_stop}
use Rattle.cx_parse.proofs.ReadsRules.{reads_is}
use Rattle.cx_parse.proofs.ReadsSights.{declarator_no_mark, semicolon_other, comma_end, semicolon_end}
use Rattle.cx_parse.proofs.ReadsSpecs.{spec_list, specs_of_list}
use Rattle.cx_parse.proofs.ReadsSteps.{both_read, one_line, no_line, no_brace_shown}
use Rattle.cx_parse.proofs.ReadsUnits.{body_reads}
use Rattle.cx_parse.proofs.SoundDecls.{named_present}
use Rattle.cx_parse.proofs.Stood.{Reads, EndsExpr, EndsDeclarator, NoBrace, AllRead, InitialiserFits}
use Rattle.cx_parse.proofs.StoodStmts.{InitDeclaratorFits, DeclFits, StmtFits, ExternalFits}
use Rattle.cx_parse.proofs.StmtEdges.{specs_some}
use Rattle.cx_stmt.specs.Declarations.{decl_tree, behind_first, no_declarators, decl}
use Rattle.cx_stmt.specs.Units.{definition_tree, body, definition, behind_declarator, behind_specs, external, at_end, with_external, unit_tree, unit}
use Rattle.cx_tree.specs.Depth.{specs_depth, externals_depth, unit_depth}
use Rattle.cx_tree.specs.Levels.{assignment_level}
use Rattle.cx_tree.specs.Names.{Binding, has_type_specifier, bound, new_specs, new_declarator, new_declared, new_definition, new_decl, new_initialiser, new_init_declarators, new_params, own_params, new_external, SpecsStand, ExternalsStand, UnitStands}
use Rattle.cx_tree.specs.Tokens as tree
use Rattle.cx_tree.specs.Tokens.{ended, specs_tokens, declarator_tokens, initialiser_tokens, init_tokens, init_declarator_tokens, init_declarators_tokens, decl_tokens, stmt_tokens, definition_tokens, external_tokens, externals_tokens, unit_tokens}
use Rattle.cx_tree.specs.Trees.{SpecTrees, DeclaratorTree, InitialiserTree, InitDeclaratorTree, DeclTree, StmtTree, Label, Case, Default, Block, ExprStmt, If, Switch, While, Do, For, Goto, Continue, Break, Return, ItemTrees, DefinitionTree, ExternalTree, Defined, Declaration, UnitTree}
use Rattle.cx_tree.specs.Valid.{OneOrMore, specs_count, AreValidSpecs, are_qualifying, is_present, AreValidExternals, IsValidUnit}
use Rattle.cx_tree.specs.Views.{specs as specs_of}

-- ---- what stands behind a declarator

brace_end : (line : ℕ) (more : List Token) → EndsDeclarator (token (kind.Mark LeftBrace) line ∷ more)
unfolding same_mark
brace_end line more = record { front = record { punct = LeftBrace; line = line; more = more; is = refl }; no_star = refl; no_parenthesis = refl; no_bracket = refl }

equal_no_brace : same_mark Equal LeftBrace ≡ false
unfolding same_mark
equal_no_brace = refl

-- no `{` stands behind a declarator of a declaration
inits_no_brace : (lines : List ℕ) (i : Option InitialiserTree) (names : List Binding) (rest : List Token) → EndsInit rest → sees_mark LeftBrace (at (init_tokens lines i ++ rest) names) ≡ false
inits_no_brace lines (Some i) names rest ends = equal_no_brace
inits_no_brace lines None names rest ends = ap (λ (ts : List Token). sees_mark LeftBrace (at ts names)) ends.front.is ∙ by_mark ends.among where
  by_mark : (ends.front.punct ≡ Comma) ⊎ (ends.front.punct ≡ Semicolon) → same_mark ends.front.punct LeftBrace ≡ false
  by_mark (inl e) = ap (λ (p : _). same_mark p LeftBrace) e ∙ comma_end.brace
  by_mark (inr e) = ap (λ (p : _). same_mark p LeftBrace) e ∙ semicolon_end.brace

module _ (reads : (depth : ℕ) → AllRead (readers depth) depth)
    (initialiser_reads : (depth : ℕ) (i : InitialiserTree) (names : List Binding) (rest : List Token) → InitialiserFits depth names i → EndsExpr assignment_level rest
    → Reads (initialiser (readers depth)) (initialiser_tokens i) (new_initialiser i) i names rest)
    (specs_reads : (depth : ℕ) (all : Bool) (ss : SpecTrees) (names : List Binding) (rest : List Token) → OneOrMore (specs_count ss) (AreValidSpecs ss) → SpecsStand names false ss
    → (all ≡ false → are_qualifying ss ≡ true) → specs_depth ss ≤ depth → shows_spec all (has_type_specifier ss) (sight_in (names ++ new_specs ss) rest) ≡ false → NoBrace rest
    → Reads (specs_from (readers depth) all) (specs_tokens ss) (new_specs ss) (specs_read (spec_list ss) (has_type_specifier ss)) names rest)
    (decls_read : (depth : ℕ) (d : DeclTree) (names : List Binding) (rest : List Token) → DeclFits depth names d → Reads (decl depth) (decl_tokens d) (new_decl d) d names rest) where
  -- ---- declarations outside functions

  declaration_reads : (depth : ℕ) (under : SpecTrees) (ds : List InitDeclaratorTree) (lines : List ℕ) (names : List Binding) (rest : List Token) → DeclFits (suc depth) names (decl_tree under ds lines)
      → Reads (external depth) (decl_tokens (decl_tree under ds lines)) (new_specs under ++ new_init_declarators under ds) (Declaration (decl_tree under ds lines)) names rest
  unfolding external behind_specs no_declarators behind_declarator
  declaration_reads depth under [] lines names rest fits =
      let deep = fits.deep in
      let line = get_or lines 0 0 in
      let closing : List Token = token (kind.Mark Semicolon) line ∷ [] in
      let here = names ++ new_specs under in
      reads_is (external depth) (specs_tokens under ++ closing) (new_specs under ++ []) (Declaration (decl_tree under [] (line ∷ []))) (Declaration (decl_tree under [] lines)) names rest
      (ap (λ (ls : List ℕ). Declaration (decl_tree under [] ls)) (one_line lines fits.valid.own))
      (both_read (specs_from (readers depth) true) (λ s. behind_specs depth (specs_of s.list)) (specs_tokens under) closing (new_specs under) [] (specs_read (spec_list under) (has_type_specifier under))
      (Declaration (decl_tree under [] (line ∷ []))) names rest
      (specs_reads depth true under names (closing ++ rest) fits.valid.first fits.stands.specs (λ e. absurd (true≢false e)) (omega (arith, deep)) refl
      (no_brace_shown here (closing ++ rest) semicolon_end.brace))
      (ap (λ (ss : SpecTrees). behind_specs depth ss (at (closing ++ rest) here)) (specs_of_list under)
      ∙ cond-true (same_mark Semicolon Semicolon) _ _ (same_mark_refl Semicolon)
      ∙ bind_some (no_declarators under) (λ d. λ s. Some (Declaration d, s)) (at (closing ++ rest) here) (decl_tree under [] (line ∷ [])) (at rest here)
      (bind_some (mark Semicolon) (λ last. λ s. Some (decl_tree under [] (last ∷ []), s)) (at (closing ++ rest) here) line (at rest here) (mark_reads Semicolon line rest here))
      ∙ ap (λ (bs : List Binding). Some (Declaration (decl_tree under [] (line ∷ [])), at rest bs)) (sym (append-nil here))))
  declaration_reads depth under (d ∷ ds) lines names rest fits =
      let deep = fits.deep in
      let here = names ++ new_specs under in
      let others : List Token = tree.behind_commas (ended Semicolon) (init_declarators_tokens ds) lines in
      let inits : List Token = init_tokens d.lines d.init ++ (others ++ rest) in
      let behind : List Token = init_declarator_tokens d ++ others in
      let present : is_present d.declarator ≡ true = named_present d.declarator fits.valid.second.0.fits in
      let text : behind ++ rest ≡ declarator_tokens d.declarator ++ inits =
      append_assoc (init_declarator_tokens d) others rest ∙ append_assoc (declarator_tokens d.declarator) (init_tokens d.lines d.init) (others ++ rest) in
      let ends : EndsInit (others ++ rest) = others_end ds lines rest in
      let stops = declared_behind reads initialiser_reads specs_reads under d.declarator names inits present fits.stands.behind
      (init_stop reads initialiser_reads specs_reads d.lines d.init under names (others ++ rest) ends) in
      let fit : InitDeclaratorFits depth under here d = record { valid = fits.valid.second.0; stands = fits.stands.declared.0; deep = omega (arith, deep) } in
      let read : DeclaratorRead = declarator_read d.declarator (new_params (own_params d.declarator)) in
      let there = here ++ new_declarator d.declarator in
      let after : State = at rest (here ++ new_init_declarators under (d ∷ ds)) in
      both_read (specs_from (readers depth) true) (λ s. behind_specs depth (specs_of s.list)) (specs_tokens under) behind (new_specs under) (new_init_declarators under (d ∷ ds))
      (specs_read (spec_list under) (has_type_specifier under)) (Declaration (decl_tree under (d ∷ ds) lines)) names rest
      (specs_reads depth true under names (behind ++ rest) fits.valid.first fits.stands.specs (λ e. absurd (true≢false e)) (omega (arith, deep))
      (ap (λ (ts : List Token). shows_spec true (has_type_specifier under) (sight_in here ts)) text ∙ stops.stop)
      (subst NoBrace (sym text) stops.brace))
      (ap (λ (ss : SpecTrees). behind_specs depth ss (at (behind ++ rest) here)) (specs_of_list under)
      ∙ ap (λ (ts : List Token). behind_specs depth under (at ts here)) text
      ∙ cond-false (sees_mark Semicolon (at (declarator_tokens d.declarator ++ inits) here)) _ _
      (declarator_no_mark Semicolon d.declarator here inits semicolon_other (λ none. absurd (true≢false (sym present ∙ none))))
      ∙ bind_some ((readers depth).declarator Named) (λ d. behind_declarator depth under d) (at (declarator_tokens d.declarator ++ inits) here) read (at inits there)
      (named_reads reads initialiser_reads specs_reads depth under d here (others ++ rest) fit ends)
      ∙ cond-false (sees_mark LeftBrace (at inits there)) _ _ (inits_no_brace d.lines d.init there (others ++ rest) ends)
      ∙ bind_some (behind_first depth under d.declarator) (λ d. λ s. Some (Declaration d, s)) (at inits there) (decl_tree under (d ∷ ds) lines) after
      (first_reads reads initialiser_reads specs_reads depth under d ds lines here rest (let a = fits.valid.own in omega (arith, a)) fits.valid.second fits.stands.declared (omega (arith, deep))))

  -- ---- function definitions (6.9.1)

  -- behind the specifiers and the declarator
  definition_behind : (depth : ℕ) (under : SpecTrees) (d : DeclaratorTree) (is : ItemTrees) (lines : List ℕ) (names : List Binding) (rest : List Token)
      → StmtFits depth ((names ++ (new_specs under ++ new_declared under d)) ++ new_params (own_params d)) (Block is lines)
      → definition depth under (declarator_read d (new_params (own_params d))) (at (stmt_tokens (Block is lines) ++ rest) ((names ++ new_specs under) ++ new_declarator d))
      ≡ Some (Defined (definition_tree under d (Block is lines)), at rest (names ++ (new_specs under ++ new_declared under d)))
  unfolding definition
  definition_behind depth under d is lines names rest fits =
      let own = new_params (own_params d) in
      let text : List Token = stmt_tokens (Block is lines) ++ rest in
      let here = (names ++ new_specs under) ++ new_declarator d in
      let there = names ++ (new_specs under ++ new_declared under d) in
      let made : ExternalTree = Defined (definition_tree under d (Block is lines)) in
      let names_are : here ++ bound under d ≡ there =
      append_assoc (names ++ new_specs under) (new_declarator d) (bound under d) ∙ append_assoc names (new_specs under) (new_declared under d) in
      bind_some (declaring (bound under d) (declarator_read d own)) (λ r. bind (body depth r.own) (λ b. λ s. Some (Defined (definition_tree under d b), s))) (at text here) (declarator_read d own)
      (at text (here ++ bound under d)) refl
      ∙ ap (λ (bs : List Binding). bind (body depth own) (λ b. λ s. Some (Defined (definition_tree under d b), s)) (at text bs)) names_are
      ∙ bind_some (body depth own) (λ b. λ s. Some (Defined (definition_tree under d b), s)) (at text there) (Block is lines) (at rest (there ++ []))
      (body_reads reads decls_read depth own is lines there rest fits)
      ∙ ap (λ (bs : List Binding). Some (made, at rest bs)) (append-nil there)

  defined_reads : (depth : ℕ) (under : SpecTrees) (d : DeclaratorTree) (is : ItemTrees) (lines : List ℕ) (names : List Binding) (rest : List Token)
      → ExternalFits (suc depth) names (Defined (definition_tree under d (Block is lines)))
      → Reads (external depth) (specs_tokens under ++ (declarator_tokens d ++ stmt_tokens (Block is lines))) (new_specs under ++ new_declared under d)
      (Defined (definition_tree under d (Block is lines))) names rest
  unfolding external behind_specs behind_declarator
  defined_reads depth under d is lines names rest fits =
      let deep = fits.deep in
      let here = names ++ new_specs under in
      let there = here ++ new_declarator d in
      let text : List Token = stmt_tokens (Block is lines) ++ rest in
      let behind : List Token = declarator_tokens d ++ stmt_tokens (Block is lines) in
      let read : DeclaratorRead = declarator_read d (new_params (own_params d)) in
      let present : is_present d ≡ true = named_present d fits.valid.named in
      let same : behind ++ rest ≡ declarator_tokens d ++ text = append_assoc (declarator_tokens d) (stmt_tokens (Block is lines)) rest in
      let made : ExternalTree = Defined (definition_tree under d (Block is lines)) in
      let stops = declared_behind reads initialiser_reads specs_reads under d names text present fits.stands.behind refl in
      both_read (specs_from (readers depth) true) (λ s. behind_specs depth (specs_of s.list)) (specs_tokens under) behind (new_specs under) (new_declared under d)
      (specs_read (spec_list under) (has_type_specifier under)) made names rest
      (specs_reads depth true under names (behind ++ rest) fits.valid.specs fits.stands.specs (λ e. absurd (true≢false e)) (omega (arith, deep))
      (ap (λ (ts : List Token). shows_spec true (has_type_specifier under) (sight_in here ts)) same ∙ stops.stop)
      (subst NoBrace (sym same) stops.brace))
      (ap (λ (ss : SpecTrees). behind_specs depth ss (at (behind ++ rest) here)) (specs_of_list under)
      ∙ ap (λ (ts : List Token). behind_specs depth under (at ts here)) same
      ∙ cond-false (sees_mark Semicolon (at (declarator_tokens d ++ text) here)) _ _
      (declarator_no_mark Semicolon d here text semicolon_other (λ none. absurd (true≢false (sym present ∙ none))))
      ∙ bind_some ((readers depth).declarator Named) (λ d. behind_declarator depth under d) (at (declarator_tokens d ++ text) here) read (at text there)
      ((reads depth).declarator Named d here text
      (record { valid = record { valid = fits.valid.declarator; present = present; named = fits.valid.named }; stands = fits.stands.declarator; deep = omega (arith, deep) })
      (brace_end (get_or lines 0 0) _))
      ∙ cond-true (same_mark LeftBrace LeftBrace) _ _ (same_mark_refl LeftBrace)
      ∙ definition_behind depth under d is lines names rest (record { valid = fits.valid.body; stands = fits.stands.body; deep = omega (arith, deep) })
      ∙ ap (λ (bs : List Binding). Some (made, at rest bs)) (sym (append_assoc names (new_specs under) (new_declared under d))))

  definition_reads : (depth : ℕ) (under : SpecTrees) (d : DeclaratorTree) (b : StmtTree) (names : List Binding) (rest : List Token) → ExternalFits (suc depth) names (Defined (definition_tree under d b))
      → Reads (external depth) (definition_tokens (definition_tree under d b)) (new_definition (definition_tree under d b)) (Defined (definition_tree under d b)) names rest
  definition_reads depth under d (Block is lines) names rest fits = defined_reads depth under d is lines names rest fits
  definition_reads depth under d (Label name s lines) names rest fits = absurd (true≢false (sym fits.valid.block))
  definition_reads depth under d (Case value s lines) names rest fits = absurd (true≢false (sym fits.valid.block))
  definition_reads depth under d (Default s lines) names rest fits = absurd (true≢false (sym fits.valid.block))
  definition_reads depth under d (ExprStmt e lines) names rest fits = absurd (true≢false (sym fits.valid.block))
  definition_reads depth under d (If condition branch otherwise lines) names rest fits = absurd (true≢false (sym fits.valid.block))
  definition_reads depth under d (Switch on body lines) names rest fits = absurd (true≢false (sym fits.valid.block))
  definition_reads depth under d (While condition body lines) names rest fits = absurd (true≢false (sym fits.valid.block))
  definition_reads depth under d (Do body condition lines) names rest fits = absurd (true≢false (sym fits.valid.block))
  definition_reads depth under d (For first second third body lines) names rest fits = absurd (true≢false (sym fits.valid.block))
  definition_reads depth under d (Goto name lines) names rest fits = absurd (true≢false (sym fits.valid.block))
  definition_reads depth under d (Continue lines) names rest fits = absurd (true≢false (sym fits.valid.block))
  definition_reads depth under d (Break lines) names rest fits = absurd (true≢false (sym fits.valid.block))
  definition_reads depth under d (Return value lines) names rest fits = absurd (true≢false (sym fits.valid.block))

  external_reads : (depth : ℕ) (e : ExternalTree) (names : List Binding) (rest : List Token) → ExternalFits (suc depth) names e → Reads (external depth) (external_tokens e) (new_external e) e names rest
  external_reads depth (Declaration d) names rest fits = declaration_reads depth d.specs d.list d.lines names rest (record { valid = fits.valid; stands = fits.stands; deep = fits.deep })
  external_reads depth (Defined d) names rest fits =
      let same : d ≡ definition_tree d.specs d.declarator d.body = λ i. record { specs = d.specs; declarator = d.declarator; body = d.body; lines = sym (no_line d.lines fits.valid.own) i } in
      subst (λ (x : DefinitionTree). Reads (external depth) (definition_tokens d) (new_definition d) (Defined x) names rest) (sym same)
      (definition_reads depth d.specs d.declarator d.body names rest (subst (λ (x : DefinitionTree). ExternalFits (suc depth) names (Defined x)) same fits))

  -- ---- units (6.9)

  abbrev IsExternal : ℕ → List ExternalTree → List Binding → ExternalTree → Type 0
  IsExternal depth all names e = ExternalFits (suc depth) names e

  externals_good : (depth : ℕ) (es all : List ExternalTree) (names : List Binding) → AreValidExternals es → ExternalsStand names es → externals_depth es ≤ suc depth
      → Each (IsExternal depth) new_external with_external all names es
  externals_good depth [] all names valid stands deep = tt
  externals_good depth (e ∷ es) all names valid stands deep = (
    record { valid = valid.0; stands = stands.0; deep = omega (arith, deep) },
    externals_good depth es (with_external all e) (names ++ new_external e) valid.1 stands.1 (omega (arith, deep)),
  )

  externals_tokens_are : (es : List ExternalTree) → externals_tokens es ≡ each_of external_tokens es
  externals_tokens_are [] = refl
  externals_tokens_are (e ∷ es) = ap (λ (ts : List Token). external_tokens e ++ ts) (externals_tokens_are es)

  all_in : (es all : List ExternalTree) → fold with_external all es ≡ all ++ es
  all_in [] all = sym (append-nil all)
  all_in (e ∷ es) all = all_in es (all ++ e ∷ []) ∙ append_assoc all (e ∷ []) es

  external_some : (depth : ℕ) (e : ExternalTree) (names : List Binding) → ExternalFits (suc depth) names e → 0 < length (external_tokens e)
  external_some depth (Declaration d) names fits =
      let a = specs_some d.specs fits.valid.first.present in
      let b = length-append (specs_tokens d.specs) (tree.listed (ended Semicolon) (init_declarators_tokens d.list) d.lines) in
      omega (arith, a, b)
  external_some depth (Defined d) names fits =
      let a = specs_some d.specs fits.valid.specs.present in
      let b = length-append (specs_tokens d.specs) (declarator_tokens d.declarator ++ stmt_tokens d.body) in
      omega (arith, a, b)

  word_no_end : (b : Bool) → shows_end (word_sight b) ≡ false
  word_no_end true = refl
  word_no_end false = refl

  kind_no_end : (k : TokenKind) (names : List Binding) → shows_end (sight_of names k) ≡ false
  kind_no_end (kind.Word name) names = word_no_end _
  kind_no_end (kind.Key found) names = refl
  kind_no_end (kind.Number value ty) names = refl
  kind_no_end (kind.Letter value) names = refl
  kind_no_end (kind.Text bytes) names = refl
  kind_no_end (kind.Mark punct) names = refl

  some_no_end : (front rest : List Token) (names : List Binding) → 0 < length front → shows_end (sight (at (front ++ rest) names)) ≡ false
  some_no_end [] rest names some = absurd (omega arith)
  some_no_end (t ∷ front) rest names some = kind_no_end t.kind names

  parts_read : (depth : ℕ) (e : ExternalTree) (es : List ExternalTree) (names : List Binding) → AreValidExternals (e ∷ es) → ExternalsStand names (e ∷ es) → externals_depth (e ∷ es) ≤ suc depth
      → unit depth (at (externals_tokens (e ∷ es)) names) ≡ Some (unit_tree (e ∷ es), at [] ((names ++ new_external e) ++ each_of new_external es))
  unfolding unit taking
  parts_read depth e es names valid stands deep =
      let here = names ++ new_external e in
      let after : State = at [] (here ++ each_of new_external es) in
      let text : externals_tokens es ≡ each_of external_tokens es ++ [] = externals_tokens_are es ∙ sym (append-nil (each_of external_tokens es)) in
      bind_some (bind (external depth) (λ a. λ s. Some (with_external [] a, s))) _ (at (external_tokens e ++ externals_tokens es) names) (e ∷ []) (at (externals_tokens es) here)
      (bind_some (external depth) (λ a. λ s. Some (with_external [] a, s)) (at (external_tokens e ++ externals_tokens es) names) e (at (externals_tokens es) here)
      (external_reads depth e names (externals_tokens es) (record { valid = valid.0; stands = stands.0; deep = omega (arith, deep) })))
      ∙ bind_some (many_ahead at_end (taking (external depth) with_external) (e ∷ [])) (λ parts. λ s. Some (unit_tree parts, s)) (at (externals_tokens es) here) (fold with_external (e ∷ []) es) after
      (ap (λ (ts : List Token). many_ahead at_end (taking (external depth) with_external) (e ∷ []) (at ts here)) text
      ∙ many_ahead_reads (IsExternal depth) external_tokens new_external with_external at_end (external depth) (λ rest. ⊤)
      (λ all names x rest fit. some_no_end (external_tokens x) rest names (external_some depth x names fit))
      (λ all names x rest fit. tt)
      (λ all names x rest fit end. external_reads depth x names rest fit)
      (λ all names x fit. external_some depth x names fit)
      es (e ∷ []) here [] (externals_good depth es (e ∷ []) here valid.1 stands.1 (omega (arith, deep))) tt refl)
      ∙ ap (λ (parts : List ExternalTree). Some (unit_tree parts, after)) (all_in es (e ∷ []))

  -- what was read of all of these tokens
  pub record WholeUnit (depth : ℕ) (u : UnitTree) : Type 0 where
    pub names : List Binding
    pub read : unit depth (at (unit_tokens u) []) ≡ Some (u, at [] names)

  whole_unit : (depth : ℕ) (parts : List ExternalTree) (lines : List ℕ) → IsValidUnit (record { parts = parts; lines = lines }) → UnitStands [] (record { parts = parts; lines = lines })
      → externals_depth parts ≤ suc depth → WholeUnit depth (record { parts = parts; lines = lines })
  whole_unit depth [] lines valid stands deep = let some = valid.part.present in absurd (omega (arith, some))
  whole_unit depth (e ∷ es) lines valid stands deep =
      let same : unit_tree (e ∷ es) ≡ record { parts = e ∷ es; lines = lines } = λ i. record { parts = e ∷ es; lines = no_line lines valid.own i } in
      record {
        names = new_external e ++ each_of new_external es;
        read = parts_read depth e es [] valid.part.each stands deep ∙ ap (λ (u : UnitTree). Some (u, at [] (new_external e ++ each_of new_external es))) same;
      }

  pub unit_reads : (depth : ℕ) (u : UnitTree) → IsValidUnit u → UnitStands [] u → unit_depth u ≤ suc (suc depth) → WholeUnit depth u
  unit_reads depth u valid stands deep = whole_unit depth u.parts u.lines valid stands (omega (arith, deep))
