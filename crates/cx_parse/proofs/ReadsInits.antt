-- Each valid initialiser that isn't too deep is read from its tokens.
use Rattle.std.proofs.Common.{◌≡◌, ℕ, suc, ◌+◌, ◌<◌, ◌≤◌, Bool, true, false, not, ◌||◌, Option, Some, None, List, [], ◌∷◌, ◌++◌, length, map, fold, get_or, drop, refl, sym, ap, ◌∙◌, subst, arith, lit≤, append_assoc}
use Rattle.std.specs.Prelude.{⊤}
use Rattle.std.proofs.lemmas.Bool.{cond-true, cond-false}
use Rattle.std.proofs.lemmas.List.{append-nil}
use Rattle.cx_cursor.specs.Lists.{many_ahead, taking}
use Rattle.cx_cursor.specs.Reading.{State, at, Reader, onward, bind}
use Rattle.cx_cursor.specs.Sights as read
use Rattle.cx_cursor.specs.Sights.{sight, sight_in, shows_mark, same_mark, sees_mark}
use Rattle.cx_cursor.proofs.Readers.{bind_some, token, mark_reads, word_reads}
use Rattle.cx_expr.specs.Below.{Below}
use Rattle.cx_words.specs.Continuations.{continuation_of_mark, continuation_of_other}
use Rattle.cx_expr.specs.Initialisers.{no_designator, with_designator, member, initialiser, list_from, designated, entry_from, element, designator_from}
use Rattle.cx_words.specs.Beginnings.{sees_designator}
use Rattle.cx_expr.specs.Knot.{above}
use Rattle.cx_expr.specs.Specifiers.{braced_read, braced}
use Rattle.cx_lex.specs.declared.token.Punct.{Punct}
use Rattle.cx_lex.specs.declared.token.Punct.TheVariants as punct
use Rattle.cx_lex.specs.declared.token.Token.{Token}
use Rattle.cx_lex.specs.declared.token.TokenKind.TheVariants as kind
use Rattle.cx_parse.proofs.Ends.{entry_ends}
use Rattle.cx_parse.proofs.ExprEdges.{expr_no_mark, begins_mark}
use Rattle.cx_parse.proofs.Lists.{each_of, Each, many_ahead_reads}
use Rattle.cx_parse.proofs.ReadsCommas.{AllGood, braced_reads}
use Rattle.cx_parse.proofs.ReadsSteps.{no_line, one_line, two_lines}
use Rattle.cx_parse.proofs.ReadsRules.{reads_is, reads_none, part_then, part_last, mark_then, part_closed, ends_by}
use Rattle.cx_parse.proofs.ReadsTails.{expr_reads}
use Rattle.cx_parse.proofs.Starts.{list_begins}
use Rattle.cx_parse.proofs.Stood.{Reads, InitialiserFits, ListFits, EntryFits, DesignatorFits, EndsExpr, EndsAt, AllRead}
use Rattle.cx_tree.specs.Depth.{entries_depth, designators_depth}
use Rattle.cx_tree.specs.Levels.{binary_level, is_assignment_operator}
use Rattle.cx_tree.specs.Names.{Binding, new_expr, new_initialiser, new_initialiser_list, new_entry, new_entries, new_designator, new_designators, InitialiserStands, EntryStands, EntriesStand, DesignatorsStand}
use Rattle.cx_tree.specs.Tokens.{mark, word, listed, brace, expr_tokens, initialiser_tokens, initialiser_list_tokens, entry_tokens, entries_tokens, designator_tokens, designators_tokens}
use Rattle.cx_tree.specs.Trees.{InitialiserTree, Single, Braced, InitialiserListTree, InitialiserList, EntryTree, Entry, EntryTrees, no_entries, more_entries, DesignatorTree, Element, Member, DesignatorTrees, no_designators, more_designators}
use Rattle.cx_tree.specs.Valid.{one_if, entries_count, IsValidInitialiser, IsValidEntry, AreValidEntries, AreValidDesignators}
use Rattle.cx_tree.specs.Views.{entries, designators}

-- ---- what an initialiser and an entry begin with

pub initialiser_no_mark : (p : Punct) (i : InitialiserTree) (names : List Binding) (rest : List Token) → IsValidInitialiser i → InitialiserStands names i → begins_mark p ≡ false
    → same_mark punct.LeftBrace p ≡ false → sees_mark p (at (initialiser_tokens i ++ rest) names) ≡ false
initialiser_no_mark p (Single e) names rest v stands none other = expr_no_mark p e names rest v.valid stands none
initialiser_no_mark p (Braced (InitialiserList _ last_comma lines)) names rest v stands none other = other

designator_sight : (d : DesignatorTree) (names : List Binding) (rest : List Token) → sees_designator (at (designator_tokens d ++ rest) names) ≡ true
unfolding same_mark
designator_sight (Element at lines) names rest = refl
designator_sight (Member name lines) names rest = refl

designator_no_brace : (d : DesignatorTree) (names : List Binding) (rest : List Token) → shows_mark punct.RightBrace (sight_in names (designator_tokens d ++ rest)) ≡ false
unfolding same_mark
designator_no_brace (Element at lines) names rest = refl
designator_no_brace (Member name lines) names rest = refl

designator_some : (d : DesignatorTree) → 0 < length (designator_tokens d)
designator_some (Element at lines) = omega arith
designator_some (Member name lines) = omega arith

-- no entry begins with a closing brace
pub entry_no_brace : (e : EntryTree) (names : List Binding) (rest : List Token) → IsValidEntry e → EntryStands names e
    → shows_mark punct.RightBrace (sight_in names (entry_tokens e ++ rest)) ≡ false
unfolding same_mark
entry_no_brace (Entry no_designators init lines) names rest v stands =
    let same : names ++ [] ≡ names = append-nil names in
    initialiser_no_mark punct.RightBrace init names rest v.second (subst (λ (names : List Binding). InitialiserStands names init) same stands.1) refl refl
entry_no_brace (Entry (more_designators d ds) init lines) names rest v stands =
    ap (λ (ts : List Token). shows_mark punct.RightBrace (sight_in names ts))
    (append_assoc (designator_tokens d ++ (designators_tokens ds ++ mark lines 0 punct.Equal ∷ [])) (initialiser_tokens init) rest
    ∙ append_assoc (designator_tokens d) (designators_tokens ds ++ mark lines 0 punct.Equal ∷ []) (initialiser_tokens init ++ rest))
    ∙ designator_no_brace d names _

-- ---- designators as a list

abbrev designators_of : DesignatorTrees → List DesignatorTree
designators_of no_designators = []
designators_of (more_designators d ds) = d ∷ designators_of ds

designators_spelled : (ds : DesignatorTrees) → each_of designator_tokens (designators_of ds) ≡ designators_tokens ds
designators_spelled no_designators = refl
designators_spelled (more_designators d ds) = ap (λ (ts : List Token). designator_tokens d ++ ts) (designators_spelled ds)

designators_names : (ds : DesignatorTrees) → each_of new_designator (designators_of ds) ≡ new_designators ds
designators_names no_designators = refl
designators_names (more_designators d ds) = ap (λ (bs : List Binding). new_designator d ++ bs) (designators_names ds)

designators_are : (ds : DesignatorTrees) → designators (designators_of ds) ≡ ds
designators_are no_designators = refl
designators_are (more_designators d ds) = ap (λ (ds : DesignatorTrees). more_designators d ds) (designators_are ds)

all_taken : (ds all : List DesignatorTree) → fold with_designator all ds ≡ all ++ ds
all_taken [] all = sym (append-nil all)
all_taken (d ∷ ds) all = all_taken ds (all ++ d ∷ []) ∙ append_assoc all (d ∷ []) ds

designators_fit : (most : ℕ) (ds : DesignatorTrees) (all : List DesignatorTree) (names : List Binding) → AreValidDesignators ds → DesignatorsStand names ds
    → designators_depth ds ≤ most
    → Each (λ all names d. DesignatorFits most names d) new_designator with_designator all names (designators_of ds)
designators_fit most no_designators all names v stands deep = tt
designators_fit most (more_designators d ds) all names v stands deep = (
  record { valid = v.0; stands = stands.0; deep = omega (arith, deep) },
  designators_fit most ds (with_designator all d) (names ++ new_designator d) v.1 stands.1 (omega (arith, deep)),
)

-- ---- entries as a list

abbrev entries_of : EntryTrees → List EntryTree
entries_of no_entries = []
entries_of (more_entries e es) = e ∷ entries_of es

entries_spelled : (es : EntryTrees) → entries_tokens es ≡ map entry_tokens (entries_of es)
entries_spelled no_entries = refl
entries_spelled (more_entries e es) = ap (λ (ts : List (List Token)). entry_tokens e ∷ ts) (entries_spelled es)

entries_names : (es : EntryTrees) → each_of new_entry (entries_of es) ≡ new_entries es
entries_names no_entries = refl
entries_names (more_entries e es) = ap (λ (bs : List Binding). new_entry e ++ bs) (entries_names es)

entries_are : (es : EntryTrees) → entries (entries_of es) ≡ es
entries_are no_entries = refl
entries_are (more_entries e es) = ap (λ (es : EntryTrees). more_entries e es) (entries_are es)

entries_long : (es : EntryTrees) → length (entries_of es) ≡ entries_count es
entries_long no_entries = refl
entries_long (more_entries e es) = ap suc (entries_long es)

entries_fit : (most : ℕ) (es : EntryTrees) (names : List Binding) → AreValidEntries es → EntriesStand names es → entries_depth es ≤ most
    → AllGood (EntryFits most) new_entry names (entries_of es)
entries_fit most no_entries names v stands deep = tt
entries_fit most (more_entries e es) names v stands deep =
    (record { valid = v.0; stands = stands.0; deep = omega (arith, deep) }, entries_fit most es (names ++ new_entry e) v.1 stands.1 (omega (arith, deep)))

brace_long : (last_comma : Bool) → length (brace last_comma) ≡ one_if last_comma + 1
brace_long true = refl
brace_long false = refl

-- a sequence of three
onward_both : {A B C : Type 0} (r : Option (A × State)) (go : A → Reader B) (then : B → Reader C) → onward r (λ a. bind (go a) then) ≡ onward (onward r go) then
unfolding bind
onward_both None go then = refl
onward_both (Some read) go then = refl

bind_both : {A B C : Type 0} (first : Reader A) (go : A → Reader B) (then : B → Reader C) (state : State) → bind first (λ a. bind (go a) then) state ≡ bind (bind first go) then state
unfolding bind
bind_both first go then state = onward_both (first state) go then

module _ (below : Below) (most : ℕ) (reads : AllRead below most) where
  -- ---- initialisers

  pub initialiser_reads : (i : InitialiserTree) (names : List Binding) (rest : List Token) → InitialiserFits most names i → EndsExpr 2 rest
      → Reads (initialiser below) (initialiser_tokens i) (new_initialiser i) i names rest
  unfolding initialiser
  initialiser_reads (Single e) names rest fits ends =
      cond-false (sees_mark punct.LeftBrace (at (expr_tokens e ++ rest) names)) _ _ (expr_no_mark punct.LeftBrace e names rest fits.valid.valid fits.stands refl)
      ∙ part_last (below.expr 2) _ (expr_tokens e) (new_expr e) e (Single e) names rest
      (expr_reads below most reads e 2 names rest (lit≤ tt) (lit≤ tt) fits.valid fits.stands fits.deep ends) refl
  initialiser_reads (Braced list) names rest fits ends =
      cond-true (sees_mark punct.LeftBrace (at (initialiser_list_tokens list ++ rest) names)) _ _ (list_begins list names rest)
      ∙ part_last below.list _ (initialiser_list_tokens list) (new_initialiser_list list) list (Braced list) names rest
      (reads.list list names rest (record { valid = fits.valid; stands = fits.stands; deep = fits.deep })) refl

  -- ---- designators

  pub designator_from_reads : (d : DesignatorTree) (names : List Binding) (rest : List Token) → DesignatorFits (suc most) names d
      → Reads (above below most).designator (designator_tokens d) (new_designator d) d names rest
  unfolding designator_from element member continuation_of_mark continuation_of_other binary_level is_assignment_operator same_mark
  designator_from_reads (Element e lines) names rest fits =
      let first = get_or lines 0 0 in
      let last = get_or lines 1 0 in
      let deep = fits.deep in
      reads_is (element below) (designator_tokens (Element e lines)) (new_expr e) (Element e (first ∷ last ∷ [])) (Element e lines) names rest
      (ap (λ (ls : List ℕ). Element e ls) (two_lines lines fits.valid.own))
      (mark_then _ punct.LeftBracket first (expr_tokens e ++ token (kind.Mark punct.RightBracket) last ∷ []) (new_expr e) (Element e (first ∷ last ∷ [])) names rest
      (part_closed (below.expr 3) (λ e last. Element e (first ∷ last ∷ [])) punct.RightBracket last (expr_tokens e) (new_expr e) e names rest
      (expr_reads below most reads e 3 names _ (lit≤ tt) (lit≤ tt) fits.valid.part fits.stands (omega (arith, deep)) (ends_by punct.RightBracket last rest 3 (lit≤ tt) refl refl))))
  designator_from_reads (Member name lines) names rest fits =
      let first = get_or lines 0 0 in
      let last = get_or lines 1 0 in
      reads_none member (designator_tokens (Member name lines)) (Member name lines) names rest
      (bind_some (read.mark punct.Dot) _ (at (mark lines 0 punct.Dot ∷ word lines 1 name ∷ rest) names) first (at (word lines 1 name ∷ rest) names)
      (mark_reads punct.Dot first (word lines 1 name ∷ rest) names)
      ∙ bind_some read.word _ (at (word lines 1 name ∷ rest) names) (name, last) (at rest names) (word_reads name last rest names)
      ∙ ap (λ (ls : List ℕ). Some (Member name ls, at rest names)) (two_lines lines fits.valid))

  -- one designator or more
  abbrev designation : Reader (List DesignatorTree)
  designation = bind (taking below.designator with_designator []) (many_ahead no_designator (taking below.designator with_designator))

  designators_read : (d : DesignatorTree) (ds : DesignatorTrees) (names : List Binding) (rest : List Token) → AreValidDesignators (more_designators d ds)
      → DesignatorsStand names (more_designators d ds) → designators_depth (more_designators d ds) ≤ most
      → sees_designator (at rest (names ++ new_designators (more_designators d ds))) ≡ false
      → Reads designation
      (designators_tokens (more_designators d ds)) (new_designators (more_designators d ds)) (d ∷ designators_of ds) names rest
  unfolding taking
  designators_read d ds names rest v stands deep stop =
      let items : List DesignatorTree = designators_of ds in
      let spelled = designators_spelled ds in
      let named = designators_names ds in
      let here : List Binding = names ++ new_designator d in
      let behind : List Binding = here ++ each_of new_designator items in
      let behind_is : behind ≡ names ++ new_designators (more_designators d ds) =
      append_assoc names (new_designator d) (each_of new_designator items) ∙ ap (λ (bs : List Binding). names ++ (new_designator d ++ bs)) named in
      let taken : fold with_designator (d ∷ []) items ≡ d ∷ items = all_taken items (d ∷ []) in
      let more : Reads (many_ahead no_designator (taking below.designator with_designator) (d ∷ [])) (each_of designator_tokens items) (each_of new_designator items)
      (fold with_designator (d ∷ []) items) here rest =
      many_ahead_reads (λ all names d. DesignatorFits most names d) designator_tokens new_designator with_designator no_designator below.designator (λ rest. ⊤)
      (λ all names d rest good. ap not (designator_sight d names rest)) (λ all names d rest good. tt) (λ all names d rest good end. reads.designator d names rest good)
      (λ all names d good. designator_some d) items (d ∷ []) here rest (designators_fit most ds (d ∷ []) here v.1 stands.1 (omega (arith, deep))) tt
      (ap not (ap (λ (bs : List Binding). sees_designator (at rest bs)) behind_is ∙ stop)) in
      let one : Reads (taking below.designator with_designator []) (designator_tokens d) (new_designator d) (d ∷ []) names (each_of designator_tokens items ++ rest) =
      part_last below.designator _ (designator_tokens d) (new_designator d) d (d ∷ []) names _
      (reads.designator d names _ (record { valid = v.0; stands = stands.0; deep = omega (arith, deep) })) refl in
      let both = part_then (taking below.designator with_designator []) (many_ahead no_designator (taking below.designator with_designator)) (designator_tokens d)
      (each_of designator_tokens items)
      (new_designator d) (each_of new_designator items) (d ∷ []) (fold with_designator (d ∷ []) items) names rest one more in
      subst (λ (ts : List Token). Reads designation
      (designator_tokens d ++ ts) (new_designator d ++ new_designators ds) (d ∷ items) names rest) spelled
      (subst (λ (bs : List Binding). Reads designation
      (designator_tokens d ++ each_of designator_tokens items) (new_designator d ++ bs) (d ∷ items) names rest) named
      (reads_is designation (designator_tokens d ++ each_of designator_tokens items) (new_designator d ++ each_of new_designator items) (fold with_designator (d ∷ []) items) (d ∷ items) names rest taken both))

  -- ---- entries

  plain_entry : (init : InitialiserTree) (lines : List ℕ) (names : List Binding) (rest : List Token) → EntryFits (suc most) names (Entry no_designators init lines)
      → EndsAt punct.Comma punct.RightBrace rest → Reads (entry_from below) (initialiser_tokens init) (new_initialiser init) (Entry no_designators init lines) names rest
  unfolding entry_from same_mark
  plain_entry init lines names rest fits ends =
      let state : State = at (initialiser_tokens init ++ rest) names in
      let deep = fits.deep in
      let v : IsValidInitialiser init = fits.valid.second in
      let stands : InitialiserStands names init = subst (λ (names : List Binding). InitialiserStands names init) (append-nil names) fits.stands.1 in
      cond-false (sees_designator state) _ _
      (ap (λ (b : Bool). b || sees_mark punct.Dot state) (initialiser_no_mark punct.LeftBracket init names rest v stands refl refl) ∙ initialiser_no_mark punct.Dot init names rest v stands refl refl)
      ∙ part_last (initialiser below) _ (initialiser_tokens init) (new_initialiser init) init (Entry no_designators init lines) names rest
      (initialiser_reads init names rest (record { valid = v; stands = stands; deep = omega (arith, deep) }) (entry_ends rest ends))
      (ap (λ (ls : List ℕ). Some (Entry no_designators init ls, at rest (names ++ new_initialiser init))) (no_line lines fits.valid.own))

  designated_entry : (d : DesignatorTree) (ds : DesignatorTrees) (init : InitialiserTree) (lines : List ℕ) (names : List Binding) (rest : List Token)
      → EntryFits (suc most) names (Entry (more_designators d ds) init lines) → EndsAt punct.Comma punct.RightBrace rest
      → Reads (entry_from below) (designators_tokens (more_designators d ds) ++ (mark lines 0 punct.Equal ∷ initialiser_tokens init)) (new_entry (Entry (more_designators d ds) init lines))
      (Entry (more_designators d ds) init lines) names rest
  unfolding entry_from designated same_mark
  designated_entry d ds init lines names rest fits ends =
      let line = get_or lines 0 0 in
      let all : DesignatorTrees = more_designators d ds in
      let list : List DesignatorTree = d ∷ designators_of ds in
      let made : EntryTree = Entry all init lines in
      let more : List Token = mark lines 0 punct.Equal ∷ initialiser_tokens init in
      let front : List Token = designators_tokens all ++ more in
      let here : List Binding = names ++ new_designators all in
      let deep = fits.deep in
      let init_stands : InitialiserStands here init = fits.stands.1 in
      let made_is : Entry (designators list) init (line ∷ []) ≡ made =
      ap (λ (ds : DesignatorTrees). Entry (more_designators d ds) init (line ∷ [])) (designators_are ds) ∙ ap (λ (ls : List ℕ). Entry all init ls) (one_line lines fits.valid.own) in
      let seen : sees_designator (at (front ++ rest) names) ≡ true =
      ap (λ (ts : List Token). sees_designator (at ts names))
      (append_assoc (designator_tokens d ++ designators_tokens ds) more rest ∙ append_assoc (designator_tokens d) (designators_tokens ds) (more ++ rest))
      ∙ designator_sight d names (designators_tokens ds ++ (more ++ rest)) in
      cond-true (sees_designator (at (front ++ rest) names)) _ _ seen
      ∙ bind_both (taking below.designator with_designator []) (many_ahead no_designator (taking below.designator with_designator)) _ (at (front ++ rest) names)
      ∙ part_then designation _ (designators_tokens all) more (new_designators all) (new_initialiser init) list made names rest
      (designators_read d ds names (more ++ rest) fits.valid.first fits.stands.0 (omega (arith, deep)) refl)
      (mark_then _ punct.Equal line (initialiser_tokens init) (new_initialiser init) made here rest
      (part_last (initialiser below) _ (initialiser_tokens init) (new_initialiser init) init made here rest
      (initialiser_reads init here rest (record { valid = fits.valid.second; stands = init_stands; deep = omega (arith, deep) }) (entry_ends rest ends))
      (ap (λ (e : EntryTree). Some (e, at rest (here ++ new_initialiser init))) made_is)))

  pub entry_from_reads : (e : EntryTree) (names : List Binding) (rest : List Token) → EntryFits (suc most) names e → EndsAt punct.Comma punct.RightBrace rest
      → Reads (above below most).entry (entry_tokens e) (new_entry e) e names rest
  entry_from_reads (Entry no_designators init lines) names rest fits ends = plain_entry init lines names rest fits ends
  entry_from_reads (Entry (more_designators d ds) init lines) names rest fits ends =
      let equal : List Token = mark lines 0 punct.Equal ∷ [] in
      let spelled : designators_tokens (more_designators d ds) ++ (equal ++ initialiser_tokens init) ≡ entry_tokens (Entry (more_designators d ds) init lines) =
      sym (append_assoc (designator_tokens d ++ designators_tokens ds) equal (initialiser_tokens init))
      ∙ ap (λ (ts : List Token). ts ++ initialiser_tokens init) (append_assoc (designator_tokens d) (designators_tokens ds) equal) in
      subst (λ (ts : List Token). Reads (entry_from below) ts (new_entry (Entry (more_designators d ds) init lines)) (Entry (more_designators d ds) init lines) names rest) spelled
      (designated_entry d ds init lines names rest fits ends)

  -- ---- lists

  pub list_from_reads : (l : InitialiserListTree) (names : List Binding) (rest : List Token) → ListFits (suc most) names l
      → Reads (above below most).list (initialiser_list_tokens l) (new_initialiser_list l) l names rest
  unfolding list_from
  list_from_reads (InitialiserList no_entries last_comma lines) names rest fits = let a : 0 < 0 = fits.valid.part.present in absurd (omega (arith, a))
  list_from_reads (InitialiserList (more_entries e es) last_comma lines) names rest fits =
      let all : EntryTrees = more_entries e es in
      let items : List EntryTree = e ∷ entries_of es in
      let made : InitialiserListTree = InitialiserList all last_comma lines in
      let valid : AreValidEntries all = fits.valid.part.each in
      let lined = fits.valid.own in
      let long = entries_long es in
      let closed = brace_long last_comma in
      let deep = fits.deep in
      let one : Reads (braced below.entry []) (mark lines 0 punct.LeftBrace ∷ listed (brace last_comma) (map entry_tokens items) (drop 1 lines)) (each_of new_entry items)
      (braced_read items last_comma lines) names rest =
      braced_reads below.entry entry_tokens new_entry (EntryFits most) (λ e names rest good ends. reads.entry e names rest good ends)
      (λ e names rest good. entry_no_brace e names rest good.valid good.stands) e (entries_of es) last_comma [] lines names rest (omega (arith, lined, long, closed))
      (entries_fit most all names valid fits.stands (omega (arith, deep))) in
      let whole : Reads (list_from below) (mark lines 0 punct.LeftBrace ∷ listed (brace last_comma) (map entry_tokens items) (drop 1 lines))
      (each_of new_entry items) made names rest =
      part_last (braced below.entry []) _ (mark lines 0 punct.LeftBrace ∷ listed (brace last_comma) (map entry_tokens items) (drop 1 lines)) (each_of new_entry items)
      (braced_read items last_comma lines) made names rest one
      (ap (λ (es : EntryTrees). Some (InitialiserList (more_entries e es) last_comma lines, at rest (names ++ each_of new_entry items))) (entries_are es)) in
      subst (λ (ts : List (List Token)). Reads (list_from below) (mark lines 0 punct.LeftBrace ∷ listed (brace last_comma) ts (drop 1 lines)) (new_entries all) made names rest)
      (sym (entries_spelled all))
      (subst (λ (bs : List Binding). Reads (list_from below) (mark lines 0 punct.LeftBrace ∷ listed (brace last_comma) (map entry_tokens items) (drop 1 lines)) bs made names rest)
      (entries_names all) whole)
