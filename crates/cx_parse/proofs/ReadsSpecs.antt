-- Each list of specifiers that isn't too deep is read from its tokens.
use Rattle.std.proofs.Common.{◌≡◌, ℕ, ◌<◌, ◌≤◌, Bool, true, false, not, ◌||◌, List, [], ◌∷◌, ◌++◌, length, fold, refl, sym, ap, ◌∙◌, subst, arith, append_assoc, append-nil}
use Rattle.std.proofs.lemmas.Bool.{cond-false}
use Rattle.cx_cursor.specs.Lists.{many_ahead, taking}
use Rattle.cx_cursor.specs.Reading.{at}
use Rattle.cx_cursor.specs.Sights.{sight_in}
use Rattle.cx_expr.specs.Below.{Below}
use Rattle.cx_expr.specs.Specifiers.{SpecsRead, specs_read, with_spec, stops_specs, specs_from}
use Rattle.cx_words.specs.Beginnings.{shows_spec}
use Rattle.cx_lex.specs.declared.token.Punct.TheVariants as punct
use Rattle.cx_lex.specs.declared.token.Token.{Token}
use Rattle.cx_tree.specs.Depth.{spec_depth, specs_depth}
use Rattle.cx_tree.specs.Names.{Binding, new_spec, new_specs, is_type_specifier, has_type_specifier, SpecStands, SpecsStand}
use Rattle.cx_tree.specs.Tokens.{spec_tokens, specs_tokens}
use Rattle.cx_tree.specs.Trees.{SpecTree, Key, Typedef, Record, Enum, SpecTrees, no_specs, more_specs}
use Rattle.cx_tree.specs.Valid.{is_qualifying, are_qualifying, specs_count, IsValidSpec, AreValidSpecs, OneOrMore}
use Rattle.cx_tree.specs.Views.{specs}
use Rattle.cx_parse.proofs.Lists.{each_of, Each, many_ahead_reads}
use Rattle.cx_parse.proofs.ReadsSights.{spec_shows, specs_show, spec_no_mark, qualifying_first, qualifying_others}
use Rattle.cx_parse.proofs.ReadsSteps.{no_brace_shown}
use Rattle.cx_parse.proofs.Stood.{Reads, NoBrace, AllRead}

-- ---- the list that a tree of specifiers is

abbrev pub spec_list : SpecTrees → List SpecTree
spec_list no_specs = []
spec_list (more_specs s ss) = s ∷ spec_list ss

pub specs_of_list : (ss : SpecTrees) → specs (spec_list ss) ≡ ss
specs_of_list no_specs = refl
specs_of_list (more_specs s ss) = ap (λ (t : SpecTrees). more_specs s t) (specs_of_list ss)

list_tokens : (ss : SpecTrees) → each_of spec_tokens (spec_list ss) ≡ specs_tokens ss
list_tokens no_specs = refl
list_tokens (more_specs s ss) = ap (λ (ts : List Token). spec_tokens s ++ ts) (list_tokens ss)

list_new : (ss : SpecTrees) → each_of new_spec (spec_list ss) ≡ new_specs ss
list_new no_specs = refl
list_new (more_specs s ss) = ap (λ (bs : List Binding). new_spec s ++ bs) (list_new ss)

or_false : (a : Bool) → a ≡ (a || false)
or_false true = refl
or_false false = refl

or_assoc : (a b c : Bool) → ((a || b) || c) ≡ (a || (b || c))
or_assoc true b c = refl
or_assoc false b c = refl

same_specs : (a b : List SpecTree) (s t : Bool) → a ≡ b → s ≡ t → specs_read a s ≡ specs_read b t
same_specs a b s t e f = λ i. specs_read (e i) (f i)

list_taken : (ss : SpecTrees) (list : List SpecTree) (typed : Bool) → fold with_spec (specs_read list typed) (spec_list ss) ≡ specs_read (list ++ spec_list ss) (typed || has_type_specifier ss)
list_taken no_specs list typed = same_specs list (list ++ []) typed (typed || false) (sym (append-nil list)) (or_false typed)
list_taken (more_specs s ss) list typed =
    list_taken ss (list ++ s ∷ []) (typed || is_type_specifier s)
    ∙ same_specs _ _ _ _ (append_assoc list (s ∷ []) (spec_list ss)) (or_assoc typed (is_type_specifier s) (has_type_specifier ss))

-- ---- specifiers one after the other

-- a specifier that may stand in such a list
record IsNext (most : ℕ) (all : Bool) (before : SpecsRead) (names : List Binding) (s : SpecTree) : Type 0 where
  valid : IsValidSpec s
  stands : SpecStands names before.typed s
  only : all ≡ false → is_qualifying s ≡ true
  deep : spec_depth s ≤ most

each_next : (most : ℕ) (all typed : Bool) (list : List SpecTree) (ss : SpecTrees) (names : List Binding) → AreValidSpecs ss → SpecsStand names typed ss
    → (all ≡ false → are_qualifying ss ≡ true) → specs_depth ss ≤ most → Each (IsNext most all) new_spec with_spec (specs_read list typed) names (spec_list ss)
each_next most all typed list no_specs names valid stands only deep = tt
each_next most all typed list (more_specs s ss) names valid stands only deep = (
  record { valid = valid.0; stands = stands.0; only = λ e. qualifying_first (is_qualifying s) (are_qualifying ss) (only e); deep = omega arith },
  each_next most all (typed || is_type_specifier s) (list ++ s ∷ []) ss (names ++ new_spec s) valid.1 stands.1 (λ e. qualifying_others (is_qualifying s) (are_qualifying ss) (only e)) (omega arith),
)

-- where a specifier stands, it stands behind no type specifier too
untyped : (names : List Binding) (typed : Bool) (s : SpecTree) → SpecStands names typed s → SpecStands names false s
untyped names typed (Key word lines) stands = tt
untyped names typed (Typedef name lines) stands = (stands.0, refl)
untyped names typed (Record is_union tag _ lines) stands = stands
untyped names typed (Enum tag list last_comma lines) stands = stands

spec_no_brace : (s : SpecTree) (rest : List Token) → NoBrace (spec_tokens s ++ rest)
spec_no_brace s rest = no_brace_shown [] (spec_tokens s ++ rest) (spec_no_mark punct.LeftBrace s [] rest)

pub spec_some : (s : SpecTree) → 0 < length (spec_tokens s)
spec_some (Key word lines) = omega arith
spec_some (Typedef name lines) = omega arith
spec_some (Record is_union tag _ lines) = omega arith
spec_some (Enum tag list last_comma lines) = omega arith

module _ (below : Below) (most : ℕ) (reads : AllRead below most) where
  next_reads : (all : Bool) (before : SpecsRead) (names : List Binding) (s : SpecTree) (rest : List Token) → IsNext most all before names s → NoBrace rest
      → Reads below.spec (spec_tokens s) (new_spec s) s names rest
  next_reads all before names s rest next absent = reads.spec s names rest (record { valid = next.valid; stands = untyped names before.typed s next.stands; deep = next.deep }) absent

  listed_reads : (all : Bool) (ss : SpecTrees) (names : List Binding) (rest : List Token) → AreValidSpecs ss → SpecsStand names false ss
      → (all ≡ false → are_qualifying ss ≡ true) → specs_depth ss ≤ most → shows_spec all (has_type_specifier ss) (sight_in (names ++ new_specs ss) rest) ≡ false → NoBrace rest
      → Reads (many_ahead (stops_specs all) (taking below.spec with_spec) (specs_read [] false)) (specs_tokens ss) (new_specs ss) (specs_read (spec_list ss) (has_type_specifier ss)) names rest
  listed_reads all ss names rest valid stands only deep stop absent =
      let R : SpecsRead → List Token → List Binding → Type 0 = λ made front new.
      Reads (many_ahead (stops_specs all) (taking below.spec with_spec) (specs_read [] false)) front new made names rest in
      let S : SpecsRead → List Binding → Type 0 = λ made new. stops_specs all made (at rest (names ++ new)) ≡ true in
      let last : stops_specs all (specs_read (spec_list ss) (has_type_specifier ss)) (at rest (names ++ new_specs ss)) ≡ true = ap not stop in
      let stopped : stops_specs all (fold with_spec (specs_read [] false) (spec_list ss)) (at rest (names ++ each_of new_spec (spec_list ss))) ≡ true =
      subst (λ (made : SpecsRead). S made (each_of new_spec (spec_list ss))) (sym (list_taken ss [] false))
      (subst (λ (new : List Binding). S (specs_read (spec_list ss) (has_type_specifier ss)) new) (sym (list_new ss)) last) in
      let read = many_ahead_reads (IsNext most all) spec_tokens new_spec with_spec (stops_specs all) below.spec NoBrace
      (λ before names s rest next. ap not (spec_shows all before.typed s names rest next.valid next.stands next.only))
      (λ before names s rest next. spec_no_brace s rest)
      (λ before names s rest next absent. next_reads all before names s rest next absent)
      (λ before names s next. spec_some s)
      (spec_list ss) (specs_read [] false) names rest (each_next most all false [] ss names valid stands only deep) absent stopped in
      subst (λ (made : SpecsRead). R made (specs_tokens ss) (new_specs ss)) (list_taken ss [] false)
      (subst (λ (new : List Binding). R (fold with_spec (specs_read [] false) (spec_list ss)) (specs_tokens ss) new) (list_new ss)
      (subst (λ (front : List Token). R (fold with_spec (specs_read [] false) (spec_list ss)) front (each_of new_spec (spec_list ss))) (list_tokens ss) read))

  -- one specifier or more, where what stands behind begins none
  pub specs_from_reads : (all : Bool) (ss : SpecTrees) (names : List Binding) (rest : List Token) → OneOrMore (specs_count ss) (AreValidSpecs ss) → SpecsStand names false ss
      → (all ≡ false → are_qualifying ss ≡ true) → specs_depth ss ≤ most → shows_spec all (has_type_specifier ss) (sight_in (names ++ new_specs ss) rest) ≡ false → NoBrace rest
      → Reads (specs_from below all) (specs_tokens ss) (new_specs ss) (specs_read (spec_list ss) (has_type_specifier ss)) names rest
  unfolding specs_from
  specs_from_reads all ss names rest valid stands only deep stop absent =
      cond-false (stops_specs all (specs_read [] false) (at (specs_tokens ss ++ rest) names)) _ _ (ap not (specs_show all false ss names rest valid.present valid.each stands only))
      ∙ listed_reads all ss names rest valid.each stands only deep stop absent
