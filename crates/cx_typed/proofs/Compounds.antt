-- The walk over compound literals (ISO C99, 6.5.2.5).
use Rattle.std.proofs.Common.{◌≡◌, ◌⊎◌, inl, inr, ⊎_elim, ℕ, zero, suc, ◌+◌, ◌<◌, ◌≤◌, ◌==◌, nat_le, Bool, true, false, ◌||◌, ◌&&◌, not, if◌then◌else◌, List, [], ◌∷◌, ◌++◌, length, Option, None, Some, is_some, option_map, slice_get, slice_set, refl, sym, ap, ◌∙◌, subst, arith}
use Rattle.std.proofs.lemmas.Bool.{cases_eq}
use Rattle.std.specs.Prelude.{IsSome, IfSome}
use Rattle.std.specs.List.{list_any}
use Rattle.std.specs.Option.{option_and_then}
use Rattle.cr_base.specs.declared.layout.Laid.{Laid}
use Rattle.cr_base.specs.declared.layout.Piece.{Piece}
use Rattle.cr_base.specs.Layout.{most_bytes, laid_of, laid_record}
use Rattle.cx_core.specs.Layouts.{CRow, row_at, row_of_pieces, pieces_of, passes, completed_count, layouts_of, within_most}
use Rattle.cx_core.specs.Linked.{IsTypedObject, IsStatic, home_of}
use Rattle.cx_core.specs.Trees.{CTy, ty, void, basic, enum_type, pointer, array, record_type, function, form_of_type, CTypes, CPuts, expr, object, literal}
use Rattle.cx_core.specs.Typing.{CHome, AreTypedPuts}
use Rattle.cr_base.specs.declared.refusal.Place.{Place as TextPlace}
use Rattle.cx_core.specs.ValidTypes.{IsTypeIn, IsComplete, IsObjectForm}
use Rattle.cx_layout.proofs.Builds.{layouts_are}
use Rattle.cx_layout.specs.Calls.{record_at}
use Rattle.cx_rules.proofs.NodesAgree.{s_literal_begins, s_literal_ends, s_list_walk}
use Rattle.cx_rules.specs.Initial.{CStored, completed_type, puts_of}
use Rattle.cx_rules.specs.Lines.{own_line}
use Rattle.cx_rules.specs.Nodes.{literal_node}
use Rattle.cx_rules.specs.Operands.{COperand, value_of}
use Rattle.cx_rules.specs.Readings.{seen_chain}
use Rattle.cx_rules.specs.Pieces.{is_name, at_line, with_literal, literal_made, literal_meaning, if_outside, whole_target, object_of_type, made_static, object_static}
use Rattle.cx_rules.specs.Scope.{CMade, CScope, with_made_at}
use Rattle.cx_rules.specs.Types.{is_void, is_function}
use Rattle.cx_tree.specs.Trees.{ExprTree, Literal, TypeNameTree, InitialiserListTree}
use Rattle.cx_typed.proofs.DeclaredForms.{object_declared}
use Rattle.cx_typed.proofs.Filled.{values_fill, completed_known}
use Rattle.cx_typed.proofs.Goes.{go_gives, go_becomes, go_here_then, go_chain, go_changed}
use Rattle.cx_typed.proofs.Growing.{type_stays, complete_stays}
use Rattle.cx_typed.proofs.Initialising.{stored_none, list_nowhere}
use Rattle.cx_typed.proofs.Listed.{basic_complete}
use Rattle.cx_typed.proofs.Members.{row_is}
use Rattle.cx_typed.proofs.Names.{names}
use Rattle.cx_typed.proofs.OfNumbers.{no_place_operand}
use Rattle.cx_typed.proofs.Placed.{then_found, map_found, row_with}
use Rattle.cx_typed.proofs.Promoted.{neither}
use Rattle.cx_typed.proofs.Puts.{whole_there}
use Rattle.cx_typed.proofs.Numbered.{one_number, either_more}
use Rattle.cx_typed.proofs.Scopes.{grows_not, kept_before, pushed_at, set_at, set_other, within, part_of, passes_on}
use Rattle.cx_typed.proofs.Walked.{standing_of}
use Rattle.cx_typed.specs.Constants.{IsOfNumbers}
use Rattle.cx_typed.specs.Initialised.{CWhole, IsKnownWhole, IsOpened, IsListed, ListGoes}
use Rattle.cx_typed.specs.Names.{IsLiteralServed}
use Rattle.cx_typed.specs.Scopes.{object_made, IsMade, Serves, Passes, Keeps, TakesNumbers, AreTypedLiterals, IsWellMade}
use Rattle.cx_typed.specs.Sound.{AreSound}
use Rattle.cx_typed.specs.Unbroken.{IsUnbroken}
use Rattle.cx_typed.specs.Walked.{IsGood, Ends, IsExpr, IsTypeName, ExprGoes, TypeNameGoes}

-- ---- complete types

small_laid : (is_union : Bool) (pieces : List Piece) (test : Bool) (laid : Laid) → nat_le (laid_of is_union pieces).size most_bytes ≡ test → (if test then Some (laid_of is_union pieces) else None) ≡ Some laid
    → nat_le laid.size most_bytes ≡ true
small_laid is_union pieces true laid e is = subst (λ l. nat_le l.size most_bytes ≡ true) (let same : laid_of is_union pieces ≡ laid = cc in same) e
small_laid is_union pieces false laid e is = absurd cc

small_row : (types : CTypes) (number : ℕ) (row : CRow) → row_at (layouts_of types) number ≡ Some row → nat_le row.laid.size most_bytes ≡ true
small_row types number row is =
    let found = row_is types (completed_count types.records) number row (sym (ap (λ all. row_at all number) (layouts_are types)) ∙ is) in
    let pieces = then_found (row_of_pieces found.one.is_union) (pieces_of (passes found.passed types) found.one.members) row found.row_is in
    let laid = map_found (row_with found.one.is_union pieces.0) (laid_record found.one.is_union pieces.0) row pieces.2 in
    subst (λ r. nat_le r.laid.size most_bytes ≡ true) laid.2 (small_laid found.one.is_union pieces.0 (nat_le (laid_of found.one.is_union pieces.0).size most_bytes) laid.0 refl laid.1)

pub within_some : (laid : Laid) → nat_le laid.size most_bytes ≡ true → IsSome (within_most laid)
within_some laid small = by_test (nat_le laid.size most_bytes) small
  where
    by_test : (test : Bool) → test ≡ true → IsSome (if test then Some laid else None)
    by_test true e = refl
    by_test false e = absurd cc

pub row_complete : (types : CTypes) (number : ℕ) (is_const : Bool) (found : Option CRow) → row_at (layouts_of types) number ≡ found → IsSome found → IsComplete types (ty (record_type number) is_const)
row_complete types number is_const None e is = absurd cc
row_complete types number is_const (Some row) e is =
    ap (λ one. is_some (option_and_then within_most (option_map (λ r. r.laid) one))) e ∙ within_some row.laid (small_row types number row e)

some_of : {X : Type 0} (found : Option X) → IsSome found → (x : X) × (found ≡ Some x)
some_of None is = absurd cc
some_of (Some x) is = (x, refl)

record_complete : (opens : List ℕ) (types : CTypes) (unit number : ℕ) (is_const : Bool) → AreSound opens types unit → slice_get types.record_units number ≡ Some unit → IsSome (record_at types number)
    → IsComplete types (ty (record_type number) is_const)
record_complete opens types unit number is_const sound there is =
    let one = some_of (record_at types number) is in
    row_complete types number is_const (row_at (layouts_of types) number) refl (sound.types_are.records number unit one.0 (whole_there (slice_get types.records number) one.0 one.1) there).laid

-- the type of an object that is initialised is complete (6.2.5p1)
completed_complete : (opens : List ℕ) (types : CTypes) (unit : ℕ) (type : CTy) (stored : List CStored) → AreSound opens types unit → IsOpened types type → IsKnownWhole opens types unit (completed_type type stored)
    → IsComplete types (completed_type type stored)
completed_complete opens types unit (ty (array element None) is_const) stored sound opened held = held.known.type_in.1.length.1
completed_complete opens types unit (ty (array element (Some count)) is_const) stored sound opened held = held.known.type_in.1.length.1
completed_complete opens types unit (ty (record_type number) is_const) stored sound opened held = record_complete opens types unit number is_const sound held.known.type_in opened
completed_complete opens types unit (ty (basic which) is_const) stored sound opened held = basic_complete types which is_const
completed_complete opens types unit (ty (enum_type number) is_const) stored sound opened held = refl
completed_complete opens types unit (ty (pointer to) is_const) stored sound opened held = refl
completed_complete opens types unit (ty void is_const) stored sound opened held = absurd held.object
completed_complete opens types unit (ty (function result params variadic) is_const) stored sound opened held = absurd held.object

-- ---- the literal that is completed

and_false : (test : Bool) → (test && false) ≡ false
and_false true = refl
and_false false = refl

set_static : (number : ℕ) (xs : List CMade) (index : ℕ) (old new : CMade) → slice_get xs index ≡ Some old → made_static number old ≡ false → list_any (made_static number) xs ≡ true
    → list_any (made_static number) (slice_set xs index new) ≡ true
set_static number [] index old new is none held = absurd cc
set_static number (first ∷ xs) zero old new is none held = by_first (made_static number first) (ap (made_static number) (same_made is) ∙ none) held
  where
    same_made : Some first ≡ Some old → first ≡ old
    same_made is = cc

    by_first : (test : Bool) → test ≡ false → (test || list_any (made_static number) xs) ≡ true → (made_static number new || list_any (made_static number) xs) ≡ true
    by_first true e is = absurd cc
    by_first false e is = either_more false (list_any (made_static number) xs) (made_static number new) (list_any (made_static number) xs) (λ no. absurd cc) (λ yes. yes) is
set_static number (first ∷ xs) (suc index) old new is none held =
    either_more (made_static number first) (list_any (made_static number) xs) (made_static number first) (list_any (made_static number) (slice_set xs index new)) (λ yes. yes) (set_static number xs index old new is none) held

object_by : (type : CTy) → is_void type ≡ false → is_function type ≡ false → IsObjectForm (form_of_type type)
object_by (ty void is_const) no_void no_code = absurd cc
object_by (ty (function result params variadic) is_const) no_void no_code = absurd cc
object_by (ty (basic which) is_const) no_void no_code = tt
object_by (ty (enum_type number) is_const) no_void no_code = tt
object_by (ty (pointer to) is_const) no_void no_code = tt
object_by (ty (array element length) is_const) no_void no_code = tt
object_by (ty (record_type number) is_const) no_void no_code = tt

strictly : (a b : ℕ) → a ≤ b → (b ≡ a → ⊥) → suc a ≤ b
strictly zero zero le apart = absurd (apart refl)
strictly zero (suc b) le apart = omega arith
strictly (suc a) zero le apart = absurd (omega arith)
strictly (suc a) (suc b) le apart = (let h : suc a ≤ b = strictly a b (omega arith) (λ same. apart (ap suc same)) in omega (arith, h))

one_longer : {X : Type 0} (xs : List X) (x : X) → length (xs ++ x ∷ []) ≡ suc (length xs)
one_longer [] x = refl
one_longer (first ∷ xs) x = ap suc (one_longer xs x)

module _ (opens : List ℕ) (scope : CScope) (type : CTy) where
  abbrev pub begun : CScope
  begun = with_literal type scope

  abbrev new_literal : CMade
  new_literal = record { object = scope.next_object; type = type; is_text = false; fixed = None }

  pub begun_passes : Passes opens scope begun
  begun_passes = record {
    unit_is = refl;
    grows = grows_not opens scope.types;
    declared = λ name meant thing is. is;
    mentions = λ number x is. is;
    literals = λ number x is. kept_before scope.literals (new_literal ∷ []) number x is;
    front = [];
    declared_is = refl;
    begins_is = refl;
    rest_is = refl;
    numbers = one_number scope new_literal refl;
  }

  module _ (after : CScope) (passes : Passes opens begun after) (made : CMade) (number_is : made.object ≡ scope.next_object) where
    abbrev pub last : CScope
    last = with_made_at (length scope.literals) made after

    there_before : slice_get after.literals (length scope.literals) ≡ Some new_literal
    there_before = passes.literals (length scope.literals) new_literal (pushed_at scope.literals new_literal)

    pub there_last : slice_get last.literals (length scope.literals) ≡ Some made
    there_last = set_at after.literals (length scope.literals) made new_literal there_before

    kept_last : (number : ℕ) → (number ≡ length scope.literals → ⊥) → slice_get last.literals number ≡ slice_get after.literals number
    kept_last number apart = set_other after.literals (length scope.literals) number made apart

    above : (number : ℕ) → length begun.literals ≤ number → number ≡ length scope.literals → ⊥
    above number from same = (let h : length begun.literals ≡ suc (length scope.literals) = one_longer scope.literals new_literal in omega (arith, from, same, h))

    below : (number : ℕ) (x : CMade) → slice_get scope.literals number ≡ Some x → number ≡ length scope.literals → ⊥
    below number x is same = (let h : number < length scope.literals = within scope.literals number x is in omega (arith, same, h))

    -- the literals that were made in it keep their places
    pub last_kept : Keeps opens (length begun.mentions) (length begun.literals) after last
    last_kept = record {
      grows = grows_not opens after.types;
      mentions = λ number from x is. is;
      literals = λ number from x is. kept_last number (above number from) ∙ is;
      statics = λ number is.
          either_more (list_any (made_static number) after.literals) (list_any (object_static number) after.objects) (list_any (made_static number) last.literals) (list_any (object_static number) last.objects)
          (set_static number after.literals (length scope.literals) new_literal made there_before (and_false (scope.next_object == number))) (λ yes. yes) is;
    }

    -- a place among the literals that are there then: that of the literal itself, or one behind it
    pub self_or_behind : (number : ℕ) → length scope.literals ≤ number → (number ≡ length scope.literals) ⊎ (length begun.literals ≤ number)
    self_or_behind number from =
        ⊎_elim (λ same. inl same) (λ apart. inr (let h : length begun.literals ≡ suc (length scope.literals) = one_longer scope.literals new_literal in behind number from apart h)) (cases_eq number (length scope.literals))
      where
        behind : (number : ℕ) → length scope.literals ≤ number → (number ≡ length scope.literals → ⊥) → length begun.literals ≡ suc (length scope.literals) → length begun.literals ≤ number
        behind number from apart h = subst (λ n. n ≤ number) (sym h) (strictly (length scope.literals) number from apart)

    pub is_self : (number : ℕ) (one : CMade) → number ≡ length scope.literals → slice_get last.literals number ≡ Some one → one ≡ made
    is_self number one same is = (let h : Some made ≡ Some one = sym there_last ∙ ap (slice_get last.literals) (sym same) ∙ is in let e : made ≡ one = cc in sym e)

    pub is_behind : (number : ℕ) (one : CMade) → length begun.literals ≤ number → slice_get last.literals number ≡ Some one → slice_get after.literals number ≡ Some one
    is_behind number one from is = sym (kept_last number (above number from)) ∙ is

    last_numbers : TakesNumbers scope last
    last_numbers = record {
      grows = (let h : scope.next_object + 1 ≤ after.next_object = passes.numbers.grows in omega (arith, h));
      literals = λ number one from is.
          ⊎_elim
          (λ same. (let e : one.object ≡ scope.next_object = ap (λ m. m.object) (is_self number one same is) ∙ number_is in let h : scope.next_object + 1 ≤ after.next_object = passes.numbers.grows in
          (omega (arith, e), omega (arith, e, h))))
          (λ behind. (let h = passes.numbers.literals number one behind (is_behind number one behind is) in (omega (arith, h.0), h.1)))
          (self_or_behind number from);
      in_order = λ first second one other from less is there.
          ⊎_elim
          (λ same.
          let e : one.object ≡ scope.next_object = ap (λ m. m.object) (is_self first one same is) ∙ number_is in
          let more : length begun.literals ≤ second = (let h : length begun.literals ≡ suc (length scope.literals) = one_longer scope.literals new_literal in omega (arith, h, same, less)) in
          let k = passes.numbers.literals second other more (is_behind second other more there) in
          omega (arith, e, k.0))
          (λ behind.
          let more : length begun.literals ≤ second = omega (arith, behind, less) in
          passes.numbers.in_order first second one other behind less (is_behind first one behind is) (is_behind second other more there))
          (self_or_behind first from);
    }

    pub last_passes : Passes opens scope last
    last_passes = record {
      unit_is = passes.unit_is;
      grows = passes.grows;
      declared = passes.declared;
      mentions = passes.mentions;
      literals = λ number x is. kept_last number (below number x is) ∙ passes.literals number x (kept_before scope.literals (new_literal ∷ []) number x is);
      front = passes.front;
      declared_is = passes.declared_is;
      begins_is = passes.begins_is;
      rest_is = passes.rest_is;
      numbers = last_numbers;
    }

-- ---- what it means

served_by : (in_function : Bool) (home : CHome) (number : ℕ) (type : CTy) (puts : CPuts) → IsMade home (literal_made in_function number type puts) → AreTypedPuts home type puts
    → IsLiteralServed in_function home number type puts
served_by true home number type puts made stored = (made, stored)
served_by false home number type puts made stored = made

place_none : (in_function : Bool) (at : TextPlace) (number : ℕ) (type : CTy) (puts : CPuts) → IsOfNumbers (value_of (literal_meaning in_function at number type puts)) → ⊥
place_none true at number type puts is = no_place_operand false (expr type at (literal number puts)) is
place_none false at number type puts is = no_place_operand false (expr type at (object number)) is

module _ (opens : List ℕ) (tree : ExprTree) (no_name : is_name tree ≡ true → ⊥) (scope middle : CScope) (type : CTy) (named : IsTypeName opens scope type middle) (stored : List CStored) (after : CScope)
    (listed : IsListed opens (record { is_static = not middle.in_function; type = type }) (whole_target (not middle.in_function) (Some type)) (begun opens middle type) (begun opens middle type) stored after)
    (line : ℕ) (unbroken : IsUnbroken after after.types (literal_node (completed_type type stored)))
  where
    abbrev whole : CWhole
    whole = record { is_static = not middle.in_function; type = type }

    abbrev full : CTy
    full = completed_type type stored

    abbrev puts : CPuts
    puts = puts_of after.types type stored

    abbrev literal_is : CMade
    literal_is = literal_made after.in_function middle.next_object full puts

    abbrev behind : CScope
    behind = last opens middle type after listed.stored.passes literal_is refl

    full_known : IsKnownWhole opens after.types after.unit full
    full_known = completed_known opens after.types after.unit type stored listed.stored.object listed.stored.parts listed.some unbroken.m3

    full_complete : IsComplete after.types full
    full_complete = completed_complete opens after.types after.unit type stored listed.stored.good.sound listed.opened full_known

    whole_passes : Passes opens scope behind
    whole_passes = passes_on opens scope middle behind named.passes (last_passes opens middle type after listed.stored.passes literal_is refl)

    inner_serves : (home : CHome) → Serves home opens scope behind → Serves home opens (begun opens middle type) after
    inner_serves home serves =
        part_of opens home scope (begun opens middle type) after behind serves (passes_on opens scope middle (begun opens middle type) named.passes (begun_passes opens middle type))
        (last_kept opens middle type after listed.stored.passes literal_is refl)

    from_middle : (number : ℕ) → length scope.literals ≤ number → length middle.literals ≤ number
    from_middle number from = subst (λ all. length all ≤ number) (sym named.makes_none) from

    same_count : length scope.literals ≤ length middle.literals
    same_count = subst (λ all. length scope.literals ≤ length all) (sym named.makes_none) (omega arith)

    literal_there : (home : CHome) → Serves home opens scope behind → IsMade home literal_is
    literal_there home serves = serves.literals (length middle.literals) literal_is same_count (there_last opens middle type after listed.stored.passes literal_is refl)

    unit_there : (home : CHome) → Serves home opens scope behind → home.unit ≡ after.unit
    unit_there home serves = serves.unit_is ∙ sym whole_passes.unit_is

    static_there : (in_function : Bool) → after.in_function ≡ in_function → in_function ≡ false → not middle.in_function ≡ true
    static_there in_function e outside = ap not (sym (ap (λ rest. rest.in_function) listed.stored.passes.rest_is) ∙ e ∙ outside)

    static_by : (in_function : Bool) → after.in_function ≡ in_function → (home : CHome) → Serves home opens scope behind
        → IfSome (if_outside in_function puts) (IsStatic (home_of home.program home.mentions home.unit) full)
    static_by true e home serves = tt
    static_by false e home serves =
        let fill = values_fill opens whole stored (begun opens middle type) after listed.stored in
        record {
          complete = complete_stays opens after.types home.program.types serves.grows full full_complete;
          typed = fill.outside home (inner_serves home serves) (static_there false e refl);
          constant = fill.constant home (inner_serves home serves) (static_there false e refl);
        }

    literal_typed : (home : CHome) → Serves home opens scope behind → IsTypedObject home.program home.mentions (object_made home.unit literal_is)
    literal_typed home serves = record {
      type_in = type_stays opens after.types home.program.types serves.grows home.unit full (subst (λ unit. IsTypeIn after.types unit full) (sym (unit_there home serves)) full_known.known.type_in);
      object = object_declared (object_made home.unit literal_is).linkage (form_of_type full) full_known.object;
      named = λ linked. absurd cc;
      text = λ is_text. absurd cc;
      static = static_by after.in_function refl home serves;
    }

    all_made : AreTypedLiterals opens scope behind
    all_made = record {
      well = λ number one from is.
          ⊎_elim
          (λ same.
          subst (IsWellMade after.types) (sym (is_self opens middle type after listed.stored.passes literal_is refl number one same is)) (record { complete = λ none. full_complete; no_text = λ none. refl }))
          (λ more. listed.stored.made.well number one more (is_behind opens middle type after listed.stored.passes literal_is refl number one more is))
          (self_or_behind opens middle type after listed.stored.passes literal_is refl number (from_middle number from));
      typed = λ home serves number one from is.
          ⊎_elim
          (λ same.
          subst (λ made. IsTypedObject home.program home.mentions (object_made home.unit made)) (sym (is_self opens middle type after listed.stored.passes literal_is refl number one same is)) (literal_typed home serves))
          (λ more. listed.stored.made.typed home (inner_serves home serves) number one more (is_behind opens middle type after listed.stored.passes literal_is refl number one more is))
          (self_or_behind opens middle type after listed.stored.passes literal_is refl number (from_middle number from));
    }

    pub literal_expr : IsExpr opens tree scope (literal_meaning after.in_function (at_line after line) middle.next_object full puts) behind
    literal_expr =
        let served = (names (standing_of opens after line)).compound after.in_function middle.next_object full puts full_known.known full_known.object in
        record {
          good = record { sound = listed.stored.good.sound; known = listed.stored.good.known; tags = listed.stored.good.tags };
          passes = whole_passes;
          known = served.known;
          typed = λ home serves.
              served.typed home (unit_there home serves) serves.grows
              (served_by after.in_function home middle.next_object full puts (literal_there home serves)
              ((values_fill opens whole stored (begun opens middle type) after listed.stored).typed home (inner_serves home serves)));
          named = λ is. absurd (no_name is);
          made = all_made;
          makes_none = λ is. absurd (place_none after.in_function (at_line after line) middle.next_object full puts is);
        }

-- ---- the walk

record IsLiteralBegun (opens : List ℕ) (scope : CScope) (type : CTy) (value after : CScope) : Type 0 where
  value_is : value ≡ scope
  after_is : after ≡ begun opens scope type

literal_begins : (opens : List ℕ) (type : CTy) (scope : CScope) → Ends (s_literal_begins type) scope (IsLiteralBegun opens scope type)
literal_begins opens type scope =
    go_here_then _ _ scope _ (go_chain _ _ _ _ scope (λ done after. after ≡ begun opens scope type) _ (go_becomes (begun opens scope type) scope (λ done after. after ≡ begun opens scope type) refl) (λ done after is.
    go_gives scope after _ (record { value_is = refl; after_is = is })))

module _ (of : TypeNameTree) (list : InitialiserListTree) (lines : List ℕ) (second : ListGoes list) (opens : List ℕ) (scope middle : CScope) (type : CTy) (named : IsTypeName opens scope type middle) where
  begun_good : IsGood opens (begun opens middle type)
  begun_good = record { sound = named.good.sound; known = named.good.known; tags = named.good.tags }

  list_by : (test : Bool) → (is_void type || is_function type) ≡ test
      → Ends (seen_chain (List CStored) COperand (s_list_walk (whole_target (not middle.in_function) (if test then None else Some type)) [] list) (λ stored. s_literal_ends middle (own_line lines) type stored))
      (begun opens middle type) (IsExpr opens (Literal of list lines) scope)
  list_by true e =
      go_chain _ _ _ _ (begun opens middle type) (λ stored last. ⊥) _ (list_nowhere list second opens (not middle.in_function) (begun opens middle type) begun_good) (λ stored last nothing. absurd nothing)
  list_by false e =
      let whole : CWhole = record { is_static = not middle.in_function; type = type } in
      go_chain _ _ _ _ (begun opens middle type) (IsListed opens whole (whole_target (not middle.in_function) (Some type)) (begun opens middle type) (begun opens middle type)) _
      (second opens whole (whole_target (not middle.in_function) (Some type)) [] (begun opens middle type) (begun opens middle type) (record { is_static = refl; base = record { there = refl; named = refl } })
      (stored_none opens whole (begun opens middle type) begun_good (record { known = named.known; object = object_by type (neither e).0 (neither e).1 }))) (λ stored after listed.
      go_here_then _ _ after _ (go_changed _ after (own_line lines) _ _ _ after _ (λ unbroken.
      literal_expr opens (Literal of list lines) (λ is. absurd cc) scope middle type named stored after listed (own_line lines) unbroken)))

pub literal_goes : (of : TypeNameTree) (list : InitialiserListTree) (lines : List ℕ) → TypeNameGoes of → ListGoes list → ExprGoes (Literal of list lines)
literal_goes of list lines first second opens scope good =
    go_chain _ _ _ _ scope (IsTypeName opens scope) _ (first opens scope good) (λ type middle named.
    go_chain _ _ _ _ middle (IsLiteralBegun opens middle type) _ (literal_begins opens type middle) (λ before start begins.
    subst (λ value. Ends (seen_chain (List CStored) COperand (s_list_walk (object_of_type (not value.in_function) type) [] list) (λ stored. s_literal_ends value (own_line lines) type stored)) start (IsExpr opens (Literal of list lines) scope))
    (sym begins.value_is)
    (subst (λ from. Ends (seen_chain (List CStored) COperand (s_list_walk (object_of_type (not middle.in_function) type) [] list) (λ stored. s_literal_ends middle (own_line lines) type stored)) from (IsExpr opens (Literal of list lines) scope))
    (sym begins.after_is) (list_by of list lines second opens scope middle type named (is_void type || is_function type) refl))))
