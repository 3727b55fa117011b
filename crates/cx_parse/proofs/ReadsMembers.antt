-- Enumerators, declarators of members and members are read.
use Rattle.std.proofs.Common.{◌≡◌, ℕ, suc, ◌+◌, ◌<◌, ◌≤◌, Bool, true, false, not, ◌||◌, ◌⊎◌, Some, List, [], ◌∷◌, ◌++◌, length, map, get_or, take, drop, refl, sym, ap, ◌∙◌, subst, inl, inr, arith, append_assoc, append-nil}
use Rattle.std.proofs.lemmas.Bool.{cond-true, cond-false, true≢false}
use Rattle.cx_cursor.specs.Lists.{ListRead, list_read}
use Rattle.cx_cursor.specs.Reading.{State, at, Reader, bind}
use Rattle.cx_cursor.specs.Scopes.{binding}
use Rattle.cx_cursor.specs.Sights.{sight_in, shows_mark, sees_mark, same_mark, mark, word}
use Rattle.cx_cursor.proofs.Readers.{bind_some, token, mark_reads, word_reads, same_mark_refl}
use Rattle.cx_cursor.specs.declared.sight.Sight.{Sight}
use Rattle.cx_expr.specs.Below.{Below, declarator_read}
use Rattle.cx_words.specs.Continuations.{continuation_of_mark, continuation_of_other, strength}
use Rattle.cx_expr.specs.Specifiers.{specs_from, declarators, member_from, width_of, behind_member, member_declarator_from, enumerator_value, enumerator_from, specs_read}
use Rattle.cx_words.specs.Beginnings.{shows_spec}
use Rattle.cx_words.specs.declared.form.Form.TheVariants.{Named}
use Rattle.cx_lex.specs.declared.token.Punct.{Punct}
use Rattle.cx_lex.specs.declared.token.Punct.TheVariants as punct
use Rattle.cx_lex.specs.declared.token.Token.{Token}
use Rattle.cx_lex.specs.declared.token.TokenKind.TheVariants as kind
use Rattle.cx_tree.specs.Depth.{member_declarators_depth}
use Rattle.cx_tree.specs.Levels.{conditional_level, binary_level, is_assignment_operator}
use Rattle.cx_tree.specs.Names.{Binding, new_expr, new_specs, new_declarator, new_option, new_params, own_params, ExprStands, new_member_declarator, new_member_declarators, new_member_decl, new_enumerator, has_type_specifier, MemberDeclaratorsStand, MembersStandBehind}
use Rattle.cx_tree.specs.Tokens as tree
use Rattle.cx_tree.specs.Tokens.{expr_tokens, specs_tokens, declarator_tokens, prefixed_tokens, member_decl_tokens, member_declarator_tokens, member_declarators_tokens, enumerator_tokens}
use Rattle.cx_tree.specs.Trees.{ExprTree, OptionExprTree, no_expr, some_expr, SpecTrees, MemberDeclTree, MemberDecl, DeclaratorTree, Missing, Identifier, Group, Pointer, Array, Function, Identifiers, MemberDeclaratorTree, MemberDeclarator, MemberDeclaratorTrees, no_member_declarators, more_member_declarators, EnumeratorTree, Enumerator}
use Rattle.cx_tree.specs.Valid.{has_name, is_present, is_member, IsValidMemberDeclarator, AreValidMemberDeclarators, member_declarators_count}
use Rattle.cx_tree.specs.Views.{specs, member_declarators}
use Rattle.cx_parse.proofs.Lists.{each_of}
use Rattle.cx_parse.proofs.ReadsCommas.{AllGood, ended_read, last_line, ends_first, ends_second}
use Rattle.cx_parse.proofs.ReadsSights.{declarator_no_mark, declarator_no_spec, colon_other, brace_other, mark_no_spec, mark_shown, among_apart, among_end, mark_end, comma_end, semicolon_end, colon_end}
use Rattle.cx_parse.proofs.ReadsSpecs.{spec_list, specs_of_list, specs_from_reads}
use Rattle.cx_parse.proofs.ReadsSteps.{both_read, no_line, one_line, two_lines, no_brace_shown}
use Rattle.cx_parse.proofs.Stood.{ExprFits, MemberDeclFits, MemberDeclaratorFits, EnumeratorFits, EndsExpr, EndsDeclarator, EndsAt, NoBrace, Reads, AllRead}

-- ---- marks behind an expression

-- a mark that ends an expression of a level
pub record EndsLevel (least : ℕ) (p : Punct) : Type 0 where
  pub weak : strength (continuation_of_mark p) < least
  pub brace : same_mark p punct.LeftBrace ≡ false

among_weak : (p one other : Punct) (least : ℕ) → (p ≡ one) ⊎ (p ≡ other) → strength (continuation_of_mark one) < least → strength (continuation_of_mark other) < least
    → strength (continuation_of_mark p) < least
among_weak p one other least (inl e) a b = subst (λ (p : Punct). strength (continuation_of_mark p) < least) (sym e) a
among_weak p one other least (inr e) a b = subst (λ (p : Punct). strength (continuation_of_mark p) < least) (sym e) b

pub among_ends : (least : ℕ) (rest : List Token) (one other : Punct) → EndsAt one other rest → EndsLevel least one → EndsLevel least other → EndsExpr least rest
among_ends least rest one other ends a b = record {
  front = ends.front;
  weak = among_weak ends.front.punct one other least ends.among a.weak b.weak;
  no_brace = among_apart ends.front.punct one other punct.LeftBrace ends.among a.brace b.brace;
}

pub mark_ends : (least : ℕ) (p : Punct) (line : ℕ) (more : List Token) → EndsLevel least p → EndsExpr least (token (kind.Mark p) line ∷ more)
mark_ends least p line more a = record { front = record { punct = p; line = line; more = more; is = refl }; weak = a.weak; no_brace = a.brace }

comma_strength : strength (continuation_of_mark punct.Comma) ≡ 1
unfolding continuation_of_mark binary_level is_assignment_operator continuation_of_other same_mark
comma_strength = refl

semicolon_strength : strength (continuation_of_mark punct.Semicolon) ≡ 0
unfolding continuation_of_mark binary_level is_assignment_operator continuation_of_other same_mark
semicolon_strength = refl

brace_strength : strength (continuation_of_mark punct.RightBrace) ≡ 0
unfolding continuation_of_mark binary_level is_assignment_operator continuation_of_other same_mark
brace_strength = refl

bracket_strength : strength (continuation_of_mark punct.RightBracket) ≡ 0
unfolding continuation_of_mark binary_level is_assignment_operator continuation_of_other same_mark
bracket_strength = refl

comma_brace : same_mark punct.Comma punct.LeftBrace ≡ false
unfolding same_mark
comma_brace = refl

semicolon_brace : same_mark punct.Semicolon punct.LeftBrace ≡ false
unfolding same_mark
semicolon_brace = refl

closing_brace_brace : same_mark punct.RightBrace punct.LeftBrace ≡ false
unfolding same_mark
closing_brace_brace = refl

bracket_brace : same_mark punct.RightBracket punct.LeftBrace ≡ false
unfolding same_mark
bracket_brace = refl

pub comma_ends : (least : ℕ) → 2 ≤ least → EndsLevel least punct.Comma
comma_ends least some = record { weak = omega (arith, comma_strength); brace = comma_brace }

pub semicolon_ends : (least : ℕ) → 1 ≤ least → EndsLevel least punct.Semicolon
semicolon_ends least some = record { weak = omega (arith, semicolon_strength); brace = semicolon_brace }

pub brace_ends : (least : ℕ) → 1 ≤ least → EndsLevel least punct.RightBrace
brace_ends least some = record { weak = omega (arith, brace_strength); brace = closing_brace_brace }

pub bracket_ends : (least : ℕ) → 1 ≤ least → EndsLevel least punct.RightBracket
bracket_ends least some = record { weak = omega (arith, bracket_strength); brace = bracket_brace }

-- marks that aren't there
comma_equal : same_mark punct.Comma punct.Equal ≡ false
unfolding same_mark
comma_equal = refl

closing_equal : same_mark punct.RightBrace punct.Equal ≡ false
unfolding same_mark
closing_equal = refl

comma_colon : same_mark punct.Comma punct.Colon ≡ false
unfolding same_mark
comma_colon = refl

semicolon_colon : same_mark punct.Semicolon punct.Colon ≡ false
unfolding same_mark
semicolon_colon = refl

semicolon_comma : same_mark punct.Semicolon punct.Comma ≡ false
unfolding same_mark
semicolon_comma = refl

among_shows_none : (p one other : Punct) (rest : List Token) (names : List Binding) → EndsAt one other rest → same_mark one p ≡ false → same_mark other p ≡ false
    → shows_mark p (sight_in names rest) ≡ false
among_shows_none p one other rest names ends a b =
    ap (λ (s : Sight). shows_mark p s) (mark_shown rest names ends.front) ∙ among_apart ends.front.punct one other p ends.among a b

-- ---- the list that a tree of declarators of members is

abbrev member_list : MemberDeclaratorTrees → List MemberDeclaratorTree
member_list no_member_declarators = []
member_list (more_member_declarators m ms) = m ∷ member_list ms

members_of_list : (ms : MemberDeclaratorTrees) → member_declarators (member_list ms) ≡ ms
members_of_list no_member_declarators = refl
members_of_list (more_member_declarators m ms) = ap (λ (t : MemberDeclaratorTrees). more_member_declarators m t) (members_of_list ms)

members_texts : (ms : MemberDeclaratorTrees) → map member_declarator_tokens (member_list ms) ≡ member_declarators_tokens ms
members_texts no_member_declarators = refl
members_texts (more_member_declarators m ms) = ap (λ (ts : List (List Token)). member_declarator_tokens m ∷ ts) (members_texts ms)

members_new : (ms : MemberDeclaratorTrees) → each_of new_member_declarator (member_list ms) ≡ new_member_declarators ms
members_new no_member_declarators = refl
members_new (more_member_declarators m ms) = ap (λ (bs : List Binding). new_member_declarator m ++ bs) (members_new ms)

members_count : (ms : MemberDeclaratorTrees) → length (member_list ms) ≡ member_declarators_count ms
members_count no_member_declarators = refl
members_count (more_member_declarators m ms) = ap suc (members_count ms)

members_good : (most : ℕ) (ms : MemberDeclaratorTrees) (names : List Binding) → AreValidMemberDeclarators ms → MemberDeclaratorsStand names ms → member_declarators_depth ms ≤ most
    → AllGood (MemberDeclaratorFits most) new_member_declarator names (member_list ms)
members_good most no_member_declarators names valid stands deep = tt
members_good most (more_member_declarators m ms) names valid stands deep =
    (record { valid = valid.0; stands = stands.0; deep = omega arith }, members_good most ms (names ++ new_member_declarator m) valid.1 stands.1 (omega arith))

-- a declarator is missing, or stands there
pub missing_or_present : (d : DeclaratorTree) → (d ≡ Missing) ⊎ (is_present d ≡ true)
missing_or_present Missing = inl refl
missing_or_present (Identifier name lines) = inr refl
missing_or_present (Group inner lines) = inr refl
missing_or_present (Pointer qualifiers of lines) = inr refl
missing_or_present (Array of brackets lines) = inr refl
missing_or_present (Function of _ variadic lines) = inr refl
missing_or_present (Identifiers of names lines) = inr refl

member_named : (d : DeclaratorTree) (width : OptionExprTree) → is_member d width ≡ true → is_present d ≡ true → has_name d ≡ true
member_named d no_expr is present = is
member_named d (some_expr e) is present = by_name (has_name d) (is_present d) is present where
  by_name : (named present : Bool) → (named || not present) ≡ true → present ≡ true → named ≡ true
  by_name true present is here = refl
  by_name false true is here = is
  by_name false false is here = absurd (true≢false (sym here))

colon_brace : same_mark punct.Colon punct.LeftBrace ≡ false
unfolding same_mark
colon_brace = refl

-- what stands behind the first declarator's specifiers begins no specifier
member_no_spec : (all typed : Bool) (m : MemberDeclaratorTree) (names : List Binding) (rest : List Token) → IsValidMemberDeclarator m
    → MembersStandBehind typed names (more_member_declarators m no_member_declarators)
    → EndsAt punct.Comma punct.Semicolon rest → shows_spec all typed (sight_in names (member_declarator_tokens m ++ rest)) ≡ false
member_no_spec all typed (MemberDeclarator d width lines) names rest valid stands ends =
    ap (λ (ts : List Token). shows_spec all typed (sight_in names ts)) (append_assoc (declarator_tokens d) (prefixed_tokens (tree.mark lines 0 punct.Colon) width) rest)
    ∙ declarator_no_spec all typed d names (prefixed_tokens (tree.mark lines 0 punct.Colon) width ++ rest) stands (behind_width width) where
      behind_width : (width : OptionExprTree) → shows_spec all typed (sight_in names (prefixed_tokens (tree.mark lines 0 punct.Colon) width ++ rest)) ≡ false
      behind_width no_expr = mark_no_spec all typed rest names ends.front
      behind_width (some_expr e) = refl

member_no_brace : (m : MemberDeclaratorTree) (rest : List Token) → EndsAt punct.Comma punct.Semicolon rest → NoBrace (member_declarator_tokens m ++ rest)
member_no_brace (MemberDeclarator d width lines) rest ends =
    no_brace_shown [] (member_declarator_tokens (MemberDeclarator d width lines) ++ rest)
    (ap (λ (ts : List Token). shows_mark punct.LeftBrace (sight_in [] ts)) (append_assoc (declarator_tokens d) (prefixed_tokens (tree.mark lines 0 punct.Colon) width) rest)
    ∙ declarator_no_mark punct.LeftBrace d [] (prefixed_tokens (tree.mark lines 0 punct.Colon) width ++ rest) brace_other (λ missing. behind_width width)) where
      behind_width : (width : OptionExprTree) → shows_mark punct.LeftBrace (sight_in [] (prefixed_tokens (tree.mark lines 0 punct.Colon) width ++ rest)) ≡ false
      behind_width no_expr = among_shows_none punct.LeftBrace punct.Comma punct.Semicolon rest [] ends comma_brace semicolon_brace
      behind_width (some_expr e) = colon_brace

module _ (below : Below) (most : ℕ) (reads : AllRead below most) where
  -- ---- enumerators

  enumerator_valued : (name : List ℕ) (v : ExprTree) (lines : List ℕ) (names : List Binding) (rest : List Token) → length lines ≡ 2 → ExprFits most conditional_level names v
      → EndsAt punct.Comma punct.RightBrace rest
      → Reads (enumerator_value below name (get_or lines 0 0)) (tree.mark lines 1 punct.Equal ∷ expr_tokens v) (new_expr v ++ binding name false ∷ []) (Enumerator name (some_expr v) lines) names rest
  unfolding enumerator_value
  enumerator_valued name v lines names rest own fits ends =
      let inside : List Token = expr_tokens v ++ rest in
      let one = get_or lines 1 0 in
      bind_some (mark punct.Equal) _ (at (token (kind.Mark punct.Equal) one ∷ inside) names) one (at inside names) (mark_reads punct.Equal one inside names)
      ∙ bind_some (below.expr conditional_level) _ (at inside names) v (at rest (names ++ new_expr v))
      (reads.expr v conditional_level names rest (omega arith) (omega arith) fits
      (among_ends conditional_level rest punct.Comma punct.RightBrace ends (comma_ends conditional_level (omega arith)) (brace_ends conditional_level (omega arith))))
      ∙ (λ i. Some (Enumerator name (some_expr v) (two_lines lines own i), at rest (append_assoc names (new_expr v) (binding name false ∷ []) i)))

  pub enumerator_from_reads : (e : EnumeratorTree) (names : List Binding) (rest : List Token) → EnumeratorFits (suc most) names e → EndsAt punct.Comma punct.RightBrace rest
      → Reads (enumerator_from below) (enumerator_tokens e) (new_enumerator e) e names rest
  unfolding enumerator_from
  enumerator_from_reads (Enumerator name no_expr lines) names rest fits ends =
      let line = get_or lines 0 0 in
      bind_some word _ (at (token (kind.Word name) line ∷ rest) names) (name, line) (at rest names) (word_reads name line rest names)
      ∙ cond-false (sees_mark punct.Equal (at rest names)) _ _ (among_shows_none punct.Equal punct.Comma punct.RightBrace rest names ends comma_equal closing_equal)
      ∙ ap (λ (ls : List ℕ). Some (Enumerator name no_expr ls, at rest (names ++ binding name false ∷ []))) (one_line lines fits.valid.own)
  enumerator_from_reads (Enumerator name (some_expr v) lines) names rest fits ends =
      let line = get_or lines 0 0 in
      let inside : List Token = tree.mark lines 1 punct.Equal ∷ (expr_tokens v ++ rest) in
      let deep = fits.deep in
      bind_some word _ (at (token (kind.Word name) line ∷ inside) names) (name, line) (at inside names) (word_reads name line inside names)
      ∙ cond-true (sees_mark punct.Equal (at inside names)) _ _ (same_mark_refl punct.Equal)
      ∙ enumerator_valued name v lines names rest fits.valid.own (record { valid = fits.valid.part; stands = fits.stands; deep = omega (arith, deep) }) ends

  -- ---- declarators of members

  width_reads : (d : DeclaratorTree) (w : ExprTree) (lines : List ℕ) (names : List Binding) (rest : List Token) → length lines ≡ 1 → ExprFits most conditional_level names w
      → EndsAt punct.Comma punct.Semicolon rest
      → Reads (width_of below d) (tree.mark lines 0 punct.Colon ∷ expr_tokens w) (new_expr w) (MemberDeclarator d (some_expr w) lines) names rest
  unfolding width_of
  width_reads d w lines names rest own fits ends =
      let inside : List Token = expr_tokens w ++ rest in
      let line = get_or lines 0 0 in
      bind_some (mark punct.Colon) _ (at (token (kind.Mark punct.Colon) line ∷ inside) names) line (at inside names) (mark_reads punct.Colon line inside names)
      ∙ bind_some (below.expr conditional_level) _ (at inside names) w (at rest (names ++ new_expr w))
      (reads.expr w conditional_level names rest (omega arith) (omega arith) fits
      (among_ends conditional_level rest punct.Comma punct.Semicolon ends (comma_ends conditional_level (omega arith)) (semicolon_ends conditional_level (omega arith))))
      ∙ ap (λ (ls : List ℕ). Some (MemberDeclarator d (some_expr w) ls, at rest (names ++ new_expr w))) (one_line lines own)

  behind_reads : (d : DeclaratorTree) (width : OptionExprTree) (lines : List ℕ) (names : List Binding) (rest : List Token) → MemberDeclaratorFits (suc most) names (MemberDeclarator d width lines)
      → EndsAt punct.Comma punct.Semicolon rest
      → Reads (behind_member below d) (prefixed_tokens (tree.mark lines 0 punct.Colon) width) (new_option width) (MemberDeclarator d width lines) (names ++ new_declarator d) rest
  unfolding behind_member
  behind_reads d no_expr lines names rest fits ends =
      cond-false (sees_mark punct.Colon (at rest (names ++ new_declarator d))) _ _
      (among_shows_none punct.Colon punct.Comma punct.Semicolon rest (names ++ new_declarator d) ends comma_colon semicolon_colon)
      ∙ (λ i. Some (MemberDeclarator d no_expr (no_line lines fits.valid.own i), at rest (sym (append-nil (names ++ new_declarator d)) i)))
  behind_reads d (some_expr w) lines names rest fits ends =
      let deep = fits.deep in
      let inside : List Token = tree.mark lines 0 punct.Colon ∷ (expr_tokens w ++ rest) in
      cond-true (sees_mark punct.Colon (at inside (names ++ new_declarator d))) _ _ (same_mark_refl punct.Colon)
      ∙ width_reads d w lines (names ++ new_declarator d) rest fits.valid.own (record { valid = fits.valid.behind; stands = fits.stands.1; deep = omega (arith, deep) }) ends

  width_ends : (width : OptionExprTree) (lines : List ℕ) (rest : List Token) → EndsAt punct.Comma punct.Semicolon rest → EndsDeclarator (prefixed_tokens (tree.mark lines 0 punct.Colon) width ++ rest)
  width_ends no_expr lines rest ends = among_end rest punct.Comma punct.Semicolon ends comma_end semicolon_end
  width_ends (some_expr w) lines rest ends = mark_end punct.Colon (get_or lines 0 0) (expr_tokens w ++ rest) colon_end

  missing_member : (width : OptionExprTree) (lines : List ℕ) (names : List Binding) (rest : List Token) → MemberDeclaratorFits (suc most) names (MemberDeclarator Missing width lines)
      → EndsAt punct.Comma punct.Semicolon rest
      → Reads (member_declarator_from below) (member_declarator_tokens (MemberDeclarator Missing width lines)) (new_option width) (MemberDeclarator Missing width lines) names rest
  unfolding member_declarator_from
  missing_member no_expr lines names rest fits ends = absurd (true≢false (sym fits.valid.fits))
  missing_member (some_expr w) lines names rest fits ends =
      let deep = fits.deep in
      let inside : List Token = tree.mark lines 0 punct.Colon ∷ (expr_tokens w ++ rest) in
      let stands = subst (λ (bs : List Binding). ExprStands bs w) (append-nil names) fits.stands.1 in
      cond-true (sees_mark punct.Colon (at inside names)) _ _ (same_mark_refl punct.Colon)
      ∙ width_reads Missing w lines names rest fits.valid.own (record { valid = fits.valid.behind; stands = stands; deep = omega (arith, deep) }) ends

  present_member : (d : DeclaratorTree) (width : OptionExprTree) (lines : List ℕ) (names : List Binding) (rest : List Token) → is_present d ≡ true
      → MemberDeclaratorFits (suc most) names (MemberDeclarator d width lines) → EndsAt punct.Comma punct.Semicolon rest
      → Reads (member_declarator_from below) (member_declarator_tokens (MemberDeclarator d width lines)) (new_declarator d ++ new_option width) (MemberDeclarator d width lines) names rest
  unfolding member_declarator_from
  present_member d width lines names rest present fits ends =
      let more : List Token = prefixed_tokens (tree.mark lines 0 punct.Colon) width in
      let deep = fits.deep in
      let no_colon : shows_mark punct.Colon (sight_in names ((declarator_tokens d ++ more) ++ rest)) ≡ false =
      ap (λ (ts : List Token). shows_mark punct.Colon (sight_in names ts)) (append_assoc (declarator_tokens d) more rest)
      ∙ declarator_no_mark punct.Colon d names (more ++ rest) colon_other (λ missing. absurd (true≢false (sym present ∙ missing))) in
      cond-false (sees_mark punct.Colon (at ((declarator_tokens d ++ more) ++ rest) names)) _ _ no_colon
      ∙ both_read (below.declarator Named) (λ d. behind_member below d.tree) (declarator_tokens d) more (new_declarator d) (new_option width) (declarator_read d (new_params (own_params d)))
      (MemberDeclarator d width lines) names rest
      (reads.declarator Named d names (more ++ rest) (record { valid = record { valid = fits.valid.declarator; present = present; named = member_named d width fits.valid.fits present }; stands = fits.stands.0; deep = omega (arith, deep) })
      (width_ends width lines rest ends))
      (behind_reads d width lines names rest fits ends)

  pub member_declarator_from_reads : (m : MemberDeclaratorTree) (names : List Binding) (rest : List Token) → MemberDeclaratorFits (suc most) names m → EndsAt punct.Comma punct.Semicolon rest
      → Reads (member_declarator_from below) (member_declarator_tokens m) (new_member_declarator m) m names rest
  member_declarator_from_reads (MemberDeclarator d width lines) names rest fits ends = by_presence (missing_or_present d) where
    by_presence : (d ≡ Missing) ⊎ (is_present d ≡ true) → Reads (member_declarator_from below) (member_declarator_tokens (MemberDeclarator d width lines)) (new_member_declarator (MemberDeclarator d width lines)) (MemberDeclarator d width lines) names rest
    by_presence (inr present) = present_member d width lines names rest present fits ends
    by_presence (inl missing) =
        subst (λ (d : DeclaratorTree). MemberDeclaratorFits (suc most) names (MemberDeclarator d width lines)
        → Reads (member_declarator_from below) (member_declarator_tokens (MemberDeclarator d width lines)) (new_member_declarator (MemberDeclarator d width lines)) (MemberDeclarator d width lines) names rest)
        (sym missing) (λ fits. missing_member width lines names rest fits ends) fits

  -- ---- declarations of members

  member_next : (m : MemberDeclaratorTree) (names : List Binding) (rest : List Token) → MemberDeclaratorFits most names m → EndsAt punct.Comma punct.Semicolon rest
      → Reads below.member_declarator (member_declarator_tokens m) (new_member_declarator m) m names rest
  member_next m names rest fits ends = reads.member_declarator m names rest fits ends

  members_end : (ms : MemberDeclaratorTrees) (lines : List ℕ) (rest : List Token)
      → EndsAt punct.Comma punct.Semicolon (tree.behind_commas (tree.ended punct.Semicolon) (member_declarators_tokens ms) lines ++ rest)
  members_end no_member_declarators lines rest = ends_second punct.Comma punct.Semicolon (get_or lines 0 0) rest
  members_end (more_member_declarators m ms) lines rest = ends_first punct.Comma punct.Semicolon (get_or lines 0 0) _

  first_behind : (typed : Bool) (names : List Binding) (m : MemberDeclaratorTree) (ms : MemberDeclaratorTrees) → MembersStandBehind typed names (more_member_declarators m ms)
      → MembersStandBehind typed names (more_member_declarators m no_member_declarators)
  first_behind typed names (MemberDeclarator d width lines) ms stands = stands

  -- what stands behind the specifiers
  declarators_read : (ss : SpecTrees) (m : MemberDeclaratorTree) (ms : MemberDeclaratorTrees) (lines : List ℕ) (names : List Binding) (rest : List Token)
      → length lines ≡ member_declarators_count ms + 1 → AllGood (MemberDeclaratorFits most) new_member_declarator names (m ∷ member_list ms)
      → Reads (bind (declarators below) (λ all. bind (mark punct.Semicolon) (λ last. λ s. Some (MemberDecl (specs (spec_list ss)) (member_declarators all.list) (all.lines ++ last ∷ []), s))))
      (tree.listed (tree.ended punct.Semicolon) (member_declarators_tokens (more_member_declarators m ms)) lines) (new_member_declarators (more_member_declarators m ms))
      (MemberDecl ss (more_member_declarators m ms) lines) names rest
  unfolding declarators
  declarators_read ss m ms lines names rest count good =
      let xs = member_list ms in
      let n = length xs in
      let go : ListRead MemberDeclaratorTree → Reader MemberDeclTree =
      λ all. bind (mark punct.Semicolon) (λ last. λ s. Some (MemberDecl (specs (spec_list ss)) (member_declarators all.list) (all.lines ++ last ∷ []), s)) in
      let line = get_or (drop n lines) 0 0 in
      let behind = names ++ each_of new_member_declarator (m ∷ xs) in
      let closing : State = at (token (kind.Mark punct.Semicolon) line ∷ rest) behind in
      let many = members_count ms in
      let count_is : length lines ≡ n + 1 = omega (arith, many, count) in
      ap (λ (ts : List (List Token)). bind (declarators below) go (at (tree.listed (tree.ended punct.Semicolon) (member_declarator_tokens m ∷ ts) lines ++ rest) names)) (sym (members_texts ms))
      ∙ bind_some (declarators below) go (at (tree.listed (tree.ended punct.Semicolon) (map member_declarator_tokens (m ∷ xs)) lines ++ rest) names) (list_read (m ∷ xs) (take n lines)) closing
      (ended_read below.member_declarator member_declarator_tokens new_member_declarator
      (MemberDeclaratorFits most) punct.Semicolon semicolon_comma member_next m xs [] [] lines names rest count_is good)
      ∙ bind_some (mark punct.Semicolon) _ closing line (at rest behind) (mark_reads punct.Semicolon line rest behind)
      ∙ (λ i. Some (
        MemberDecl (specs_of_list ss i) (more_member_declarators m (members_of_list ms i)) (last_line n lines count_is i),
        at rest
            (names ++ (new_member_declarator m ++ members_new ms i)),
      ))

  pub member_from_reads : (m : MemberDeclTree) (names : List Binding) (rest : List Token) → MemberDeclFits (suc most) names m
      → Reads (member_from below) (member_decl_tokens m) (new_member_decl m) m names rest
  unfolding member_from
  member_from_reads (MemberDecl ss no_member_declarators lines) names rest fits = let some : 0 < 0 = fits.valid.list.present in absurd (omega arith)
  member_from_reads (MemberDecl ss (more_member_declarators m ms) lines) names rest fits =
      let typed = has_type_specifier ss in
      let inside = names ++ new_specs ss in
      let behind : List Token = tree.behind_commas (tree.ended punct.Semicolon) (member_declarators_tokens ms) lines in
      let deep = fits.deep in
      let own = fits.valid.own in
      let front_is : (member_declarator_tokens m ++ behind) ++ rest ≡ member_declarator_tokens m ++ (behind ++ rest) = append_assoc (member_declarator_tokens m) behind rest in
      let absent : shows_spec false typed (sight_in inside ((member_declarator_tokens m ++ behind) ++ rest)) ≡ false =
      ap (λ (ts : List Token). shows_spec false typed (sight_in inside ts)) front_is
      ∙ member_no_spec false typed m inside (behind ++ rest) fits.valid.list.each.0 (first_behind typed inside m ms fits.stands.behind) (members_end ms lines rest) in
      let free : NoBrace ((member_declarator_tokens m ++ behind) ++ rest) = subst NoBrace (sym front_is) (member_no_brace m (behind ++ rest) (members_end ms lines rest)) in
      both_read (specs_from below false) _ (specs_tokens ss) (tree.listed (tree.ended punct.Semicolon) (member_declarators_tokens (more_member_declarators m ms)) lines) (new_specs ss)
      (new_member_declarators (more_member_declarators m ms)) (specs_read (spec_list ss) typed) (MemberDecl ss (more_member_declarators m ms) lines) names rest
      (specs_from_reads below most reads false ss names ((member_declarator_tokens m ++ behind) ++ rest) fits.valid.specs fits.stands.specs (λ e. fits.valid.fit) (omega (arith, deep)) absent free)
      (declarators_read ss m ms lines inside rest (omega (arith, own)) (members_good most (more_member_declarators m ms) inside fits.valid.list.each fits.stands.declared (omega (arith, deep))))
