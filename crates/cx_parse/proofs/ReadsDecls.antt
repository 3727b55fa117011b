-- Declarations are read.
use Rattle.std.proofs.Common.{◌≡◌, ℕ, zero, suc, ◌+◌, ◌-◌, ◌<◌, ◌≤◌, nat_lt, Bool, true, false, ◌⊎◌, inl, inr, Option, Some, None, List, [], ◌∷◌, ◌++◌, length, map, get_or, take, drop, refl, sym, ap, ◌∙◌, subst, arith, append_assoc}
use Rattle.std.proofs.lemmas.Bool.{cond-true, cond-false, true≢false}
use Rattle.std.proofs.lemmas.Bool.Decides.{nat_tests}
use Rattle.std.proofs.lemmas.List.{append-nil}
use Rattle.cx_cursor.specs.Lists.{list_read, many_ahead, next_item, no_comma}
use Rattle.cx_cursor.specs.Lists as lists
use Rattle.cx_cursor.specs.Reading.{at, declaring}
use Rattle.cx_cursor.specs.Sights.{sight_in, same_mark, sees_mark, mark}
use Rattle.cx_cursor.proofs.Readers.{bind_some, token, mark_reads, same_mark_refl}
use Rattle.cx_expr.specs.Below.{declarator_read}
use Rattle.cx_words.specs.Continuations.{continuation_of_mark, continuation_of_other, strength}
use Rattle.cx_expr.specs.Initialisers.{initialiser}
use Rattle.cx_expr.specs.Knot.{readers}
use Rattle.cx_expr.specs.Specifiers.{specs_read, specs_from}
use Rattle.cx_words.specs.Beginnings.{shows_spec}
use Rattle.cx_words.specs.declared.form.Form.TheVariants.{Named}
use Rattle.cx_lex.specs.declared.token.Punct.TheVariants.{LeftBrace, Comma, Equal, Semicolon, LeftBracket, LeftParenthesis, Star}
use Rattle.cx_lex.specs.declared.token.Token.{Token}
use Rattle.cx_lex.specs.declared.token.TokenKind.TheVariants as kind
use Rattle.cx_parse.proofs.Lists.{each_of}
use Rattle.cx_parse.proofs.ReadsCommas.{AllGood, behind_commas_read, last_line}
use Rattle.cx_parse.proofs.ReadsSights.{declarator_no_spec, declarator_no_mark, semicolon_other, brace_other, mark_end, IsEnd, comma_end, semicolon_end}
use Rattle.cx_parse.proofs.ReadsSpecs.{spec_list, specs_of_list}
use Rattle.cx_parse.proofs.ReadsSteps.{both_read, read_as, mark_then, one_line, no_line, no_brace_shown}
use Rattle.cx_parse.proofs.ReadsRules.{reads_is}
use Rattle.cx_parse.proofs.SoundDecls.{named_present, tokens_of_declarators}
use Rattle.cx_parse.proofs.Stood.{Reads, EndsAt, EndsExpr, EndsDeclarator, NoBrace, AllRead, InitialiserFits}
use Rattle.cx_parse.proofs.StoodStmts.{InitDeclaratorFits, DeclFits}
use Rattle.cx_stmt.specs.Declarations.{init_declarator_tree, decl_tree, init, init_or_none, behind_declarator, init_declarator, behind_first, no_declarators, behind_specs, decl_from, decl}
use Rattle.cx_tree.specs.Depth.{specs_depth, declarator_depth, init_depth, init_declarators_depth}
use Rattle.cx_tree.specs.Levels.{binary_level, is_assignment_operator, assignment_level}
use Rattle.cx_tree.specs.Names.{Binding, has_type_specifier, bound, new_specs, new_declarator, new_declared, new_init, new_init_declarator, new_init_declarators, new_decl, new_initialiser, new_params, own_params, SpecsStand, StandsBehind, InitStands, InitDeclaratorsStand}
use Rattle.cx_tree.specs.Tokens as tree
use Rattle.cx_tree.specs.Tokens.{owns, ended, listed, specs_tokens, declarator_tokens, initialiser_tokens, init_tokens, init_declarator_tokens, init_declarators_tokens, decl_tokens}
use Rattle.cx_tree.specs.Trees.{SpecTrees, DeclaratorTree, InitialiserTree, InitDeclaratorTree, DeclTree}
use Rattle.cx_tree.specs.Valid.{OneOrMore, specs_count, AreValidSpecs, are_qualifying, AreValidInitDeclarators, IsValidInit, init_own, is_present}
use Rattle.cx_tree.specs.Views.{specs as specs_of}

-- ---- what stands behind a declarator

equal_end : IsEnd Equal
unfolding same_mark
equal_end = record { star = refl; parenthesis = refl; bracket = refl; brace = refl }

-- behind a declarator with an initialiser stands a comma or a semicolon
abbrev pub EndsInit : List Token → Type 0
EndsInit rest = EndsAt Comma Semicolon rest

comma_weak : strength (continuation_of_mark Comma) < 2
unfolding continuation_of_mark continuation_of_other binary_level is_assignment_operator
comma_weak = omega arith

semicolon_weak : strength (continuation_of_mark Semicolon) < 2
unfolding continuation_of_mark continuation_of_other binary_level is_assignment_operator
semicolon_weak = omega arith

comma_apart : same_mark Comma Equal ≡ false
unfolding same_mark
comma_apart = refl

semicolon_apart : same_mark Semicolon Equal ≡ false
unfolding same_mark
semicolon_apart = refl

semicolon_comma : same_mark Semicolon Comma ≡ false
unfolding same_mark
semicolon_comma = refl

-- it ends an expression, and isn't `=`
init_end : (rest : List Token) → EndsInit rest → EndsExpr assignment_level rest
init_end rest ends = by_mark ends.among where
  by_mark : (ends.front.punct ≡ Comma) ⊎ (ends.front.punct ≡ Semicolon) → EndsExpr assignment_level rest
  by_mark (inl e) = record {
    front = ends.front;
    weak = subst (λ (p : _). strength (continuation_of_mark p) < 2) (sym e) comma_weak;
    no_brace = ap (λ (p : _). same_mark p LeftBrace) e ∙ comma_end.brace;
  }
  by_mark (inr e) = record {
    front = ends.front;
    weak = subst (λ (p : _). strength (continuation_of_mark p) < 2) (sym e) semicolon_weak;
    no_brace = ap (λ (p : _). same_mark p LeftBrace) e ∙ semicolon_end.brace;
  }

no_equal : (rest : List Token) (names : List Binding) → EndsInit rest → sees_mark Equal (at rest names) ≡ false
no_equal rest names ends = ap (λ (ts : List Token). sees_mark Equal (at ts names)) ends.front.is ∙ by_mark ends.among where
  by_mark : (ends.front.punct ≡ Comma) ⊎ (ends.front.punct ≡ Semicolon) → same_mark ends.front.punct Equal ≡ false
  by_mark (inl e) = ap (λ (p : _). same_mark p Equal) e ∙ comma_apart
  by_mark (inr e) = ap (λ (p : _). same_mark p Equal) e ∙ semicolon_apart

declarator_end : (rest : List Token) → EndsInit rest → EndsDeclarator rest
declarator_end rest ends = by_mark ends.among where
  by_mark : (ends.front.punct ≡ Comma) ⊎ (ends.front.punct ≡ Semicolon) → EndsDeclarator rest
  by_mark (inl e) = record {
    front = ends.front;
    no_star = ap (λ (p : _). same_mark p Star) e ∙ comma_end.star;
    no_parenthesis = ap (λ (p : _). same_mark p LeftParenthesis) e ∙ comma_end.parenthesis;
    no_bracket = ap (λ (p : _). same_mark p LeftBracket) e ∙ comma_end.bracket;
  }
  by_mark (inr e) = record {
    front = ends.front;
    no_star = ap (λ (p : _). same_mark p Star) e ∙ semicolon_end.star;
    no_parenthesis = ap (λ (p : _). same_mark p LeftParenthesis) e ∙ semicolon_end.parenthesis;
    no_bracket = ap (λ (p : _). same_mark p LeftBracket) e ∙ semicolon_end.bracket;
  }

init_ends : (lines : List ℕ) (i : Option InitialiserTree) (rest : List Token) → EndsInit rest → EndsDeclarator (init_tokens lines i ++ rest)
init_ends lines None rest ends = declarator_end rest ends
init_ends lines (Some i) rest ends = mark_end Equal (get_or lines 0 0) (initialiser_tokens i ++ rest) equal_end

-- the declarators behind the first and the semicolon begin with a comma or the semicolon
pub others_end : (ds : List InitDeclaratorTree) (lines : List ℕ) (rest : List Token) → EndsInit (tree.behind_commas (ended Semicolon) (init_declarators_tokens ds) lines ++ rest)
others_end [] lines rest = record { front = record { punct = Semicolon; line = get_or lines 0 0; more = rest; is = refl }; among = inr refl }
others_end (d ∷ ds) lines rest = record {
  front = record { punct = Comma; line = get_or lines 0 0; more = (init_declarator_tokens d ++ tree.behind_commas (ended Semicolon) (init_declarators_tokens ds) (drop 1 lines)) ++ rest; is = refl };
  among = inl refl;
}

-- ---- a list of declarators

all_fit : (most : ℕ) (under : SpecTrees) (ds : List InitDeclaratorTree) (names : List Binding) → AreValidInitDeclarators ds → InitDeclaratorsStand under names ds → init_declarators_depth ds ≤ most
    → AllGood (λ names d. InitDeclaratorFits most under names d) (new_init_declarator under) names ds
all_fit most under [] names valid stands deep = tt
all_fit most under (d ∷ ds) names valid stands deep =
    (record { valid = valid.0; stands = stands.0; deep = omega (arith, deep) }, all_fit most under ds (names ++ new_init_declarator under d) valid.1 stands.1 (omega (arith, deep)))

new_of_declarators : (under : SpecTrees) (ds : List InitDeclaratorTree) → each_of (new_init_declarator under) ds ≡ new_init_declarators under ds
new_of_declarators under [] = refl
new_of_declarators under (d ∷ ds) = ap (λ (bs : List Binding). new_init_declarator under d ++ bs) (new_of_declarators under ds)

module _ (reads : (depth : ℕ) → AllRead (readers depth) depth)
    (initialiser_reads : (depth : ℕ) (i : InitialiserTree) (names : List Binding) (rest : List Token) → InitialiserFits depth names i → EndsExpr assignment_level rest
    → Reads (initialiser (readers depth)) (initialiser_tokens i) (new_initialiser i) i names rest)
    (specs_reads : (depth : ℕ) (all : Bool) (ss : SpecTrees) (names : List Binding) (rest : List Token) → OneOrMore (specs_count ss) (AreValidSpecs ss) → SpecsStand names false ss
    → (all ≡ false → are_qualifying ss ≡ true) → specs_depth ss ≤ depth → shows_spec all (has_type_specifier ss) (sight_in (names ++ new_specs ss) rest) ≡ false → NoBrace rest
    → Reads (specs_from (readers depth) all) (specs_tokens ss) (new_specs ss) (specs_read (spec_list ss) (has_type_specifier ss)) names rest) where
  -- behind a declarator, whose name is in scope
  init_reads : (depth : ℕ) (d : DeclaratorTree) (i : Option InitialiserTree) (lines : List ℕ) (names : List Binding) (rest : List Token) → length lines ≡ init_own i
      → IsValidInit i → InitStands names i → init_depth i ≤ depth → EndsInit rest
      → Reads (init_or_none depth d) (init_tokens lines i) (new_init i) (init_declarator_tree d i lines) names rest
  unfolding init_or_none init
  init_reads depth d None lines names rest count valid stands deep ends =
      reads_is (init_or_none depth d) [] [] (init_declarator_tree d None []) (init_declarator_tree d None lines) names rest (ap (λ (ls : List ℕ). init_declarator_tree d None ls) (no_line lines count))
      (cond-false (sees_mark Equal (at rest names)) _ _ (no_equal rest names ends) ∙ ap (λ (bs : List Binding). Some (init_declarator_tree d None [], at rest bs)) (sym (append-nil names)))
  init_reads depth d (Some i) lines names rest count valid stands deep ends =
      let line = get_or lines 0 0 in
      reads_is (init_or_none depth d) (init_tokens lines (Some i)) (new_initialiser i) (init_declarator_tree d (Some i) (line ∷ [])) (init_declarator_tree d (Some i) lines) names rest
      (ap (λ (ls : List ℕ). init_declarator_tree d (Some i) ls) (one_line lines count))
      (cond-true (same_mark Equal Equal) _ _ (same_mark_refl Equal)
      ∙ mark_then Equal _ line (initialiser_tokens i) (new_initialiser i) (init_declarator_tree d (Some i) (line ∷ [])) names rest
      (read_as (initialiser (readers depth)) (λ i. init_declarator_tree d (Some i) (line ∷ [])) (initialiser_tokens i) (new_initialiser i) i names rest
      (initialiser_reads depth i names rest (record { valid = valid; stands = stands; deep = deep }) (init_end rest ends))))

  behind_reads : (depth : ℕ) (under : SpecTrees) (d : InitDeclaratorTree) (names : List Binding) (rest : List Token) → InitDeclaratorFits depth under names d → EndsInit rest
      → behind_declarator depth under d.declarator (at (init_tokens d.lines d.init ++ rest) (names ++ new_declarator d.declarator)) ≡ Some (d, at rest (names ++ new_init_declarator under d))
  unfolding behind_declarator
  behind_reads depth under d names rest fits ends =
      let deep = fits.deep in
      let shallow : declarator_depth d.declarator < depth = omega (arith, deep) in
      let small : nat_lt (declarator_depth d.declarator) depth ≡ true = grind (arith, nat_tests) in
      let here : (names ++ new_declarator d.declarator) ++ bound under d.declarator ≡ names ++ new_declared under d.declarator =
      append_assoc names (new_declarator d.declarator) (bound under d.declarator) in
      cond-true (nat_lt (declarator_depth d.declarator) depth) _ _ small
      ∙ bind_some (declaring (bound under d.declarator) d.declarator) (λ d. init_or_none (depth - 1) d) (at (init_tokens d.lines d.init ++ rest) (names ++ new_declarator d.declarator)) d.declarator
      (at (init_tokens d.lines d.init ++ rest) ((names ++ new_declarator d.declarator) ++ bound under d.declarator)) refl
      ∙ ap (λ (bs : List Binding). init_or_none (depth - 1) d.declarator (at (init_tokens d.lines d.init ++ rest) bs)) here
      ∙ init_reads (depth - 1) d.declarator d.init d.lines (names ++ new_declared under d.declarator) rest fits.valid.own fits.valid.behind fits.stands.1 (omega (arith, deep)) ends
      ∙ ap (λ (bs : List Binding). Some (d, at rest bs)) (append_assoc names (new_declared under d.declarator) (new_init d.init))

  -- the declarator of a declaration
  pub named_reads : (depth : ℕ) (under : SpecTrees) (d : InitDeclaratorTree) (names : List Binding) (rest : List Token) → InitDeclaratorFits depth under names d → EndsInit rest
      → Reads ((readers depth).declarator Named) (declarator_tokens d.declarator) (new_declarator d.declarator) (declarator_read d.declarator (new_params (own_params d.declarator))) names
      (init_tokens d.lines d.init ++ rest)
  named_reads depth under d names rest fits ends =
      let deep = fits.deep in
      (reads depth).declarator Named d.declarator names (init_tokens d.lines d.init ++ rest)
      (record {
        valid = record { valid = fits.valid.declarator; present = named_present d.declarator fits.valid.fits; named = fits.valid.fits };
        stands = fits.stands.0;
        deep = omega (arith, deep);
      })
      (init_ends d.lines d.init rest ends)

  init_declarator_reads : (depth : ℕ) (under : SpecTrees) (d : InitDeclaratorTree) (names : List Binding) (rest : List Token) → InitDeclaratorFits depth under names d → EndsInit rest
      → Reads (init_declarator depth under) (init_declarator_tokens d) (new_init_declarator under d) d names rest
  unfolding init_declarator
  init_declarator_reads depth under d names rest fits ends =
      ap (λ (ts : List Token). init_declarator depth under (at ts names)) (append_assoc (declarator_tokens d.declarator) (init_tokens d.lines d.init) rest)
      ∙ bind_some ((readers depth).declarator Named) (λ r. behind_declarator depth under r.tree) (at (declarator_tokens d.declarator ++ (init_tokens d.lines d.init ++ rest)) names)
      (declarator_read d.declarator (new_params (own_params d.declarator))) (at (init_tokens d.lines d.init ++ rest) (names ++ new_declarator d.declarator)) (named_reads depth under d names rest fits ends)
      ∙ behind_reads depth under d names rest fits ends

  -- ---- from behind the first declarator on

  pub first_reads : (depth : ℕ) (under : SpecTrees) (d : InitDeclaratorTree) (ds : List InitDeclaratorTree) (lines : List ℕ) (names : List Binding) (rest : List Token)
      → length lines ≡ length ds + 1 → AreValidInitDeclarators (d ∷ ds) → InitDeclaratorsStand under names (d ∷ ds) → init_declarators_depth (d ∷ ds) ≤ depth
      → behind_first depth under d.declarator
      (at (init_tokens d.lines d.init ++ (tree.behind_commas (ended Semicolon) (init_declarators_tokens ds) lines ++ rest)) (names ++ new_declarator d.declarator))
      ≡ Some (decl_tree under (d ∷ ds) lines, at rest (names ++ new_init_declarators under (d ∷ ds)))
  unfolding behind_first
  first_reads depth under d ds lines names rest count valid stands deep =
      let others : List Token = tree.behind_commas (ended Semicolon) (init_declarators_tokens ds) lines in
      let here = names ++ new_init_declarator under d in
      let last = get_or (drop (length ds) lines) 0 0 in
      let there = here ++ each_of (new_init_declarator under) ds in
      let all = list_read ((d ∷ []) ++ ds) ([] ++ take (length ds) lines) in
      let fit : InitDeclaratorFits depth under names d = record { valid = valid.0; stands = stands.0; deep = omega (arith, deep) } in
      let text : others ≡ tree.behind_commas (ended Semicolon) (map init_declarator_tokens ds) lines =
      ap (λ (ts : List (List Token)). tree.behind_commas (ended Semicolon) ts lines) (tokens_of_declarators ds) in
      bind_some (behind_declarator depth under d.declarator) _ (at (init_tokens d.lines d.init ++ (others ++ rest)) (names ++ new_declarator d.declarator)) d (at (others ++ rest) here)
      (behind_reads depth under d names (others ++ rest) fit (others_end ds lines rest))
      ∙ bind_some (lists.behind_commas (init_declarator depth under) (list_read (d ∷ []) [])) _ (at (others ++ rest) here) all (at (token (kind.Mark Semicolon) last ∷ rest) there)
      (ap (λ (ts : List Token). lists.behind_commas (init_declarator depth under) (list_read (d ∷ []) []) (at (ts ++ rest) here)) text
      ∙ behind_commas_read (init_declarator depth under) init_declarator_tokens (new_init_declarator under) (λ names d. InitDeclaratorFits depth under names d) Semicolon semicolon_comma
      (λ d names rest fits ends. init_declarator_reads depth under d names rest fits ends) ds (d ∷ []) [] lines here rest count
      (all_fit depth under ds here valid.1 stands.1 (omega (arith, deep))))
      ∙ bind_some (mark Semicolon) _ (at (token (kind.Mark Semicolon) last ∷ rest) there) last (at rest there) (mark_reads Semicolon last rest there)
      ∙ ap (λ (ls : List ℕ). Some (decl_tree under (d ∷ ds) ls, at rest there)) (last_line (length ds) lines count)
      ∙ ap (λ (bs : List Binding). Some (decl_tree under (d ∷ ds) lines, at rest bs))
      (append_assoc names (new_init_declarator under d) (each_of (new_init_declarator under) ds)
      ∙ ap (λ (bs : List Binding). names ++ (new_init_declarator under d ++ bs)) (new_of_declarators under ds))

  -- ---- declarations

  -- behind the specifiers of a declaration no further specifier and no `{` stands
  pub record BehindSpecs (under : SpecTrees) (names : List Binding) (rest : List Token) : Type 0 where
    pub stop : shows_spec true (has_type_specifier under) (sight_in (names ++ new_specs under) rest) ≡ false
    pub brace : NoBrace rest

  pub declared_behind : (under : SpecTrees) (d : DeclaratorTree) (names : List Binding) (rest : List Token) → is_present d ≡ true
      → StandsBehind (has_type_specifier under) (names ++ new_specs under) d → shows_spec true (has_type_specifier under) (sight_in (names ++ new_specs under) rest) ≡ false
      → BehindSpecs under names (declarator_tokens d ++ rest)
  declared_behind under d names rest present stands stop =
      let here = names ++ new_specs under in
      record {
        stop = declarator_no_spec true (has_type_specifier under) d here rest stands stop;
        brace = no_brace_shown here (declarator_tokens d ++ rest) (declarator_no_mark LeftBrace d here rest brace_other (λ none. absurd (true≢false (sym present ∙ none))));
      }

  -- a mark stops specifiers
  pub mark_behind : (p : _) (line : ℕ) (under : SpecTrees) (names : List Binding) (rest : List Token) → shows_spec true (has_type_specifier under) (sight_in (names ++ new_specs under) (token (kind.Mark p) line ∷ rest)) ≡ false
  mark_behind p line under names rest = refl

  pub init_stop : (lines : List ℕ) (i : Option InitialiserTree) (under : SpecTrees) (names : List Binding) (rest : List Token) → EndsInit rest
      → shows_spec true (has_type_specifier under) (sight_in (names ++ new_specs under) (init_tokens lines i ++ rest)) ≡ false
  init_stop lines None under names rest ends = ap (λ (ts : List Token). shows_spec true (has_type_specifier under) (sight_in (names ++ new_specs under) ts)) ends.front.is
  init_stop lines (Some i) under names rest ends = refl

  decl_from_reads : (depth : ℕ) (under : SpecTrees) (ds : List InitDeclaratorTree) (lines : List ℕ) (names : List Binding) (rest : List Token) → DeclFits (suc depth) names (decl_tree under ds lines)
      → Reads (decl_from depth) (decl_tokens (decl_tree under ds lines)) (new_specs under ++ new_init_declarators under ds) (decl_tree under ds lines) names rest
  unfolding decl_from behind_specs no_declarators
  decl_from_reads depth under [] lines names rest fits =
      let deep = fits.deep in
      let line = get_or lines 0 0 in
      let closing : List Token = token (kind.Mark Semicolon) line ∷ [] in
      let here = names ++ new_specs under in
      reads_is (decl_from depth) (specs_tokens under ++ closing) (new_specs under ++ []) (decl_tree under [] (line ∷ [])) (decl_tree under [] lines) names rest
      (ap (λ (ls : List ℕ). decl_tree under [] ls) (one_line lines fits.valid.own))
      (both_read (specs_from (readers depth) true) (λ s. behind_specs depth (specs_of s.list)) (specs_tokens under) closing (new_specs under) [] (specs_read (spec_list under) (has_type_specifier under))
      (decl_tree under [] (line ∷ [])) names rest
      (specs_reads depth true under names (closing ++ rest) fits.valid.first fits.stands.specs (λ e. absurd (true≢false e)) (omega (arith, deep)) refl
      (no_brace_shown here (closing ++ rest) semicolon_end.brace))
      (ap (λ (ss : SpecTrees). behind_specs depth ss (at (closing ++ rest) here)) (specs_of_list under)
      ∙ cond-true (same_mark Semicolon Semicolon) _ _ (same_mark_refl Semicolon)
      ∙ bind_some (mark Semicolon) (λ last. λ s. Some (decl_tree under [] (last ∷ []), s)) (at (closing ++ rest) here) line (at rest here) (mark_reads Semicolon line rest here)
      ∙ ap (λ (bs : List Binding). Some (decl_tree under [] (line ∷ []), at rest bs)) (sym (append-nil here))))
  decl_from_reads depth under (d ∷ ds) lines names rest fits =
      let deep = fits.deep in
      let here = names ++ new_specs under in
      let others : List Token = tree.behind_commas (ended Semicolon) (init_declarators_tokens ds) lines in
      let inits : List Token = init_tokens d.lines d.init ++ (others ++ rest) in
      let behind : List Token = init_declarator_tokens d ++ others in
      let present : is_present d.declarator ≡ true = named_present d.declarator fits.valid.second.0.fits in
      let text : behind ++ rest ≡ declarator_tokens d.declarator ++ inits =
      append_assoc (init_declarator_tokens d) others rest ∙ append_assoc (declarator_tokens d.declarator) (init_tokens d.lines d.init) (others ++ rest) in
      let ends : EndsInit (others ++ rest) = others_end ds lines rest in
      let stops : BehindSpecs under names (declarator_tokens d.declarator ++ inits) =
      declared_behind under d.declarator names inits present fits.stands.behind (init_stop d.lines d.init under names (others ++ rest) ends) in
      let fit : InitDeclaratorFits depth under here d = record { valid = fits.valid.second.0; stands = fits.stands.declared.0; deep = omega (arith, deep) } in
      both_read (specs_from (readers depth) true) (λ s. behind_specs depth (specs_of s.list)) (specs_tokens under) behind (new_specs under) (new_init_declarators under (d ∷ ds))
      (specs_read (spec_list under) (has_type_specifier under)) (decl_tree under (d ∷ ds) lines) names rest
      (specs_reads depth true under names (behind ++ rest) fits.valid.first fits.stands.specs (λ e. absurd (true≢false e)) (omega (arith, deep))
      (ap (λ (ts : List Token). shows_spec true (has_type_specifier under) (sight_in here ts)) text ∙ stops.stop)
      (subst NoBrace (sym text) stops.brace))
      (ap (λ (ss : SpecTrees). behind_specs depth ss (at (behind ++ rest) here)) (specs_of_list under)
      ∙ ap (λ (ts : List Token). behind_specs depth under (at ts here)) text
      ∙ cond-false (sees_mark Semicolon (at (declarator_tokens d.declarator ++ inits) here)) _ _
      (declarator_no_mark Semicolon d.declarator here inits semicolon_other (λ none. absurd (true≢false (sym present ∙ none))))
      ∙ bind_some ((readers depth).declarator Named) (λ r. behind_first depth under r.tree) (at (declarator_tokens d.declarator ++ inits) here)
      (declarator_read d.declarator (new_params (own_params d.declarator))) (at inits (here ++ new_declarator d.declarator)) (named_reads depth under d here (others ++ rest) fit ends)
      ∙ first_reads depth under d ds lines here rest (let a = fits.valid.own in omega (arith, a)) fits.valid.second fits.stands.declared (omega (arith, deep)))

  pub decl_reads : (depth : ℕ) (d : DeclTree) (names : List Binding) (rest : List Token) → DeclFits depth names d → Reads (decl depth) (decl_tokens d) (new_decl d) d names rest
  unfolding decl
  decl_reads zero d names rest fits = let deep = fits.deep in absurd (omega (arith, deep))
  decl_reads (suc depth) d names rest fits = decl_from_reads depth d.specs d.list d.lines names rest (record { valid = fits.valid; stands = fits.stands; deep = fits.deep })
