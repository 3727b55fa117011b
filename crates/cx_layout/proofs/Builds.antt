-- All records of a program are laid out, one after the other.
use Rattle.std.proofs.lemmas.Bool.{cases_eq, and_from}
use Rattle.std.proofs.lemmas.Option.{slice_get_within}
use Rattle.std.proofs.Common.{◌≡◌, ◌⊎◌, inl, inr, ℕ, zero, suc, ◌+◌, ◌<◌, ◌≤◌, true, false, List, [], ◌∷◌, length, get_or, map, Option, None, Some, is_some, IsSome, IfSome, IfOk, Result, Ok, Err, option_map, slice_get, refl, sym, ap, ◌∙◌, arith, subst, if◌then◌else◌, All}
use Rattle.std.proofs.lemmas.List.Elements.{All-head, All-tail}
use Rattle.std.specs.Option.{option_and_then, option_flatten}
use Rattle.cr_base.specs.declared.layout.Laid.{Laid}
use Rattle.cr_base.specs.Layout.{most_bytes}
use Rattle.cx_core.specs.declared.ty.RecordTy.{RecordTy}
use Rattle.cx_core.specs.Layouts.{CLayouts, CRow, row_at, array_extent, whole_extent, row_of, passes, completed_count, layouts_of}
use Rattle.cx_core.specs.Trees.{CTy, ty, void, basic, enum_type, pointer, array, record_type, function, CMember, CRecord, CTypes}
use Rattle.cx_core.specs.Views.{view_record}
use Rattle.cx_layout.specs.Building.{unlaid, unlaid_from, are_complete, AreBuilt, IsNoneReady, AddsNew}
use Rattle.cx_layout.specs.Calls.{record_at, record_extent, IsTooLarge, HasTooLarge, HoldsOnly, AreGrounded, AreLayoutsOf, AreAllLaidOut}
use Rattle.std.proofs.lemmas.List.{length-map}
use Rattle.cx_layout.proofs.RowLemmas.{same_rows}
use Rattle.cx_layout.proofs.Passes.{Extends, row_more, record_more, row_at-pass, passes_none, passes_more, passes_after}

-- ---- the records of a list

pub record_found : (records : List (Option RecordTy)) (index : ℕ) (item : Option RecordTy) (one : RecordTy) → index < length records → item ≡ get_or records index item → item ≡ Some one
    → option_flatten (slice_get (map (option_map view_record) records) index) ≡ Some (view_record one)
record_found [] index item one within is found = absurd (omega arith)
record_found (first ∷ records) zero item one within is found = ap (option_map view_record) (sym is ∙ found)
record_found (first ∷ records) (suc n) item one within is found = record_found records n item one (omega arith) is found

pub record_missing : (records : List (Option RecordTy)) (index : ℕ) (item : Option RecordTy) → index < length records → item ≡ get_or records index item → item ≡ None
    → option_flatten (slice_get (map (option_map view_record) records) index) ≡ None
record_missing [] index item within is nothing = absurd (omega arith)
record_missing (first ∷ records) zero item within is nothing = ap (option_map view_record) (sym is ∙ nothing)
record_missing (first ∷ records) (suc n) item within is nothing = record_missing records n item (omega arith) is nothing

flat_some : {X : Type 0} (o : Option (Option X)) (x : X) → option_flatten o ≡ Some x → o ≡ Some (Some x)
flat_some None x is = absurd cc
flat_some (Some None) x is = absurd cc
flat_some (Some (Some y)) x is = ap (λ o. Some o) is

-- ---- how many aren't laid out

abbrev one_by : Option CRow → ℕ
one_by found = if is_some found then 0 else 1

unlaid_same : (start : ℕ) (records : List (Option CRecord)) (old new : CLayouts) → ((k : ℕ) → start ≤ k → row_at new k ≡ row_at old k) → unlaid_from start records new ≡ unlaid_from start records old
unlaid_same start [] old new same = refl
unlaid_same start (None ∷ others) old new same = unlaid_same (suc start) others old new (λ k above. same k (omega arith))
unlaid_same start (Some one ∷ others) old new same =
    ap (λ o. one_by o + unlaid_from (suc start) others new) (same start (omega arith))
    ∙ ap (λ n. one_by (row_at old start) + n) (unlaid_same (suc start) others old new (λ k above. same k (omega arith)))

apart_after : (start j : ℕ) → start ≡ start + suc j → ⊥
apart_after start j same = omega arith

next_place : (start j : ℕ) → suc start + j ≡ start + suc j
next_place start j = omega arith

falls_here : (old_row new_row : Option CRow) (rest rest_new : ℕ) → old_row ≡ None → IsSome new_row → rest_new ≡ rest → (one_by new_row + rest_new) + 1 ≡ one_by old_row + rest
falls_here None None rest rest_new before now same = absurd cc
falls_here None (Some row) rest rest_new before now same = omega arith
falls_here (Some row) new_row rest rest_new before now same = absurd cc

falls_later : (old_row new_row : Option CRow) (rest rest_new : ℕ) → new_row ≡ old_row → rest_new + 1 ≡ rest → (one_by new_row + rest_new) + 1 ≡ one_by old_row + rest
falls_later old_row new_row rest rest_new same falls = ap (λ o. (one_by o + rest_new) + 1) same ∙ omega arith

unlaid_falls : (start j : ℕ) (records : List (Option CRecord)) (one : CRecord) (old new : CLayouts) → slice_get records j ≡ Some (Some one) → row_at old (start + j) ≡ None → IsSome (row_at new (start + j))
    → ((k : ℕ) → (k ≡ start + j → ⊥) → row_at new k ≡ row_at old k) → unlaid_from start records new + 1 ≡ unlaid_from start records old
unlaid_falls start j [] one old new found before now others = absurd cc
unlaid_falls start zero (None ∷ rest) one old new found before now others = absurd cc
unlaid_falls start zero (Some first ∷ rest) one old new found before now others =
    let here : start + 0 ≡ start = omega arith in
    falls_here (row_at old start) (row_at new start) _ _ (subst (λ k. row_at old k ≡ None) here before) (subst (λ k. IsSome (row_at new k)) here now)
    (unlaid_same (suc start) rest old new (λ k above. others k (λ e. omega arith)))
unlaid_falls start (suc j) (None ∷ rest) one old new found before now others =
    let e : suc start + j ≡ start + suc j = next_place start j in
    unlaid_falls (suc start) j rest one old new found (subst (λ k. row_at old k ≡ None) (sym e) before) (subst (λ k. IsSome (row_at new k)) (sym e) now)
    (λ k apart. others k (λ same. apart (same ∙ sym e)))
unlaid_falls start (suc j) (Some first ∷ rest) one old new found before now others =
    let e : suc start + j ≡ start + suc j = next_place start j in
    falls_later (row_at old start) (row_at new start) _ _ (others start (apart_after start j))
    (unlaid_falls (suc start) j rest one old new found (subst (λ k. row_at old k ≡ None) (sym e) before) (subst (λ k. IsSome (row_at new k)) (sym e) now)
    (λ k apart. others k (λ same. apart (same ∙ sym e))))

-- ---- one record more

pub some_of : {X : Type 0} (o : Option X) → IsSome o → (x : X) × (o ≡ Some x)
some_of None some = absurd cc
some_of (Some x) some = (x, refl)

module _ (types : CTypes) (old new : CLayouts) (number : ℕ) (one : CRecord) (found : record_at types number ≡ Some one) (number_is : one.number ≡ number) (adds : AddsNew old one new) where
  row_here : row_at new number ≡ row_of old one
  row_here = subst (λ n. row_at new n ≡ row_of old one) number_is adds.adds.here

  others_same : (k : ℕ) → (k ≡ number → ⊥) → row_at new k ≡ row_at old k
  others_same k apart = adds.adds.others k (λ same. apart (same ∙ number_is))

  pub falls : unlaid types new + 1 ≡ unlaid types old
  falls =
      let e : 0 + number ≡ number = omega arith in
      unlaid_falls 0 number types.records one old new (flat_some (slice_get types.records number) one found)
      (subst (λ n. row_at old n ≡ None) (number_is ∙ sym e) adds.unlaid_before)
      (subst (λ n. IsSome (row_at new n)) (sym e) (subst IsSome (sym row_here) adds.adds.laid_out))
      (λ k apart. others_same k (λ same. apart (same ∙ sym e)))

  sound_at : (stage : ℕ) → Extends old (passes stage types) → (k : ℕ) (row : CRow) → row_at new k ≡ Some row → ((k ≡ number) ⊎ (k ≡ number → ⊥)) → row_at (passes (suc stage) types) k ≡ Some row
  sound_at stage sound k row is (inl same) =
      let here : row_of old one ≡ Some row = sym row_here ∙ ap (row_at new) (sym same) ∙ is in
      ap (row_at (passes (suc stage) types)) same
      ∙ row_at-pass types (passes stage types) number
      ∙ ap (option_and_then (row_of (passes stage types))) found
      ∙ row_more old (passes stage types) sound one row here
  sound_at stage sound k row is (inr apart) =
      passes_more types stage k row (sound k row (sym (others_same k apart) ∙ is))

  pub built_new : AreBuilt types old → AreBuilt types new
  built_new built = record {
    stage = suc built.stage;
    counted = omega (arith, falls, built.counted);
    sound = λ k row is. sound_at built.stage built.sound k row is (cases_eq k number);
  }

-- ---- the whole

pub layouts_are : (types : CTypes) → layouts_of types ≡ passes (completed_count types.records) types
unfolding layouts_of
layouts_are types = refl

-- what is laid out so far is as it will be
pub built_below : (types : CTypes) (layouts : CLayouts) → AreBuilt types layouts → Extends layouts (layouts_of types)
built_below types layouts built number row is =
    let k : built.stage + unlaid types layouts ≡ completed_count types.records = built.counted in
    ap (λ l. row_at l number) (layouts_are types)
    ∙ ap (λ n. row_at (passes n types) number) (sym k)
    ∙ passes_after types built.stage (unlaid types layouts) number row (built.sound number row is)

large_by : (few many : CLayouts) (one : CRecord) (o : Option Laid) → record_extent few one ≡ o → Extends few many → IsTooLarge few one → IsTooLarge many one
large_by few many one None same extends large = absurd (let h : IsSome {T = Laid} None = subst IsSome same large.0 in cc)
large_by few many one (Some laid) same extends large =
    let e : record_extent many one ≡ Some laid = record_more few many extends one laid same in (
      subst IsSome (sym e) refl,
      subst (λ o. IfSome o (λ l. most_bytes < l.size)) (same ∙ sym e) large.1,
    )

pub has_large : (types : CTypes) (layouts : CLayouts) (number : ℕ) (one : CRecord) → AreBuilt types layouts → record_at types number ≡ Some one → IsTooLarge layouts one → HasTooLarge types
has_large types layouts number one built found large = record {
  number = number;
  one = one;
  completed = found;
  too_large = large_by layouts (layouts_of types) one (record_extent layouts one) refl (built_below types layouts built) large;
}

-- none is laid out yet
unlaid_all : (start : ℕ) (records : List (Option CRecord)) → unlaid_from start records [] ≡ completed_count records
unlaid_all start [] = refl
unlaid_all start (None ∷ others) = unlaid_all (suc start) others
unlaid_all start (Some one ∷ others) = omega (arith, unlaid_all (suc start) others)

pub built_none : (types : CTypes) (layouts : CLayouts) → layouts ≡ [] → AreBuilt types layouts
built_none types layouts empty = subst (AreBuilt types) (sym empty) (record {
  stage = 0;
  counted = omega (arith, unlaid_all 0 types.records);
  sound = λ number row is. absurd cc;
})

-- ---- nothing is left

extent_map : {X Y : Type 0} (f : X → Y) (o : Option X) → IsSome o → IsSome (option_map f o)
extent_map f None some = some
extent_map f (Some x) some = refl

elements_some : (length_is : Option ℕ) (element : Option Laid) → IfSome length_is (λ count. 0 < count) → IsSome length_is → IsSome element → IsSome (array_extent length_is element)
elements_some None element positive known some = absurd cc
elements_some (Some zero) element positive known some = absurd (omega arith)
elements_some (Some (suc n)) element positive known some = extent_map _ element some

-- an object whose records are laid out has a size
holds_extent : (P : ℕ → Type 0) (layouts : CLayouts) → ((inner : ℕ) → P inner → IsSome (row_at layouts inner)) → (type : CTy) → HoldsOnly P type → IsSome (whole_extent layouts type)
holds_extent P layouts laid (ty (basic which) is_const) holds = refl
holds_extent P layouts laid (ty (enum_type number) is_const) holds = refl
holds_extent P layouts laid (ty (pointer to) is_const) holds = refl
holds_extent P layouts laid (ty (array element length_is) is_const) holds =
    elements_some length_is (whole_extent layouts element) holds.1 holds.2 (holds_extent P layouts laid element holds.0)
holds_extent P layouts laid (ty (record_type number) is_const) holds = extent_map _ (row_at layouts number) (laid number holds)
holds_extent P layouts laid (ty void is_const) holds = absurd holds
holds_extent P layouts laid (ty (function result params variadic) is_const) holds = absurd holds

members_extent : (P : ℕ → Type 0) (layouts : CLayouts) → ((inner : ℕ) → P inner → IsSome (row_at layouts inner)) → (members : List CMember) → All (λ member. HoldsOnly P member.type) members → are_complete layouts members ≡ true
members_extent P layouts laid [] all = refl
members_extent P layouts laid (one ∷ others) all =
    and_from _ _ (holds_extent P layouts laid one.type (All-head (λ member. HoldsOnly P member.type) one others all))
    (members_extent P layouts laid others (All-tail (λ member. HoldsOnly P member.type) one others all))

module _ (types : CTypes) (layouts : CLayouts) (grounded : AreGrounded types) (none_ready : IsNoneReady types layouts (length types.records)) where
  within : (number : ℕ) (one : CRecord) → record_at types number ≡ Some one → number < length types.records
  within number one found = slice_get_within types.records number (Some one) (flat_some (slice_get types.records number) one found)

  laid_by : (number : ℕ) (one : CRecord) (row : Option CRow) → row_at layouts number ≡ row → record_at types number ≡ Some one → are_complete layouts one.members ≡ true → IsSome (row_at layouts number)
  laid_by number one (Some row) is found complete = subst IsSome (sym is) refl
  laid_by number one None is found complete =
      absurd (let h : true ≡ false = sym complete ∙ none_ready number one (within number one found) found is in cc)

  laid_below : (k number : ℕ) (one : CRecord) → grounded.rank number < k → record_at types number ≡ Some one → IsSome (row_at layouts number)
  laid_below zero number one below found = absurd (omega arith)
  laid_below (suc k) number one below found =
      let ground = grounded.grounded number one found in
      laid_by number one (row_at layouts number) refl found
      (members_extent (λ inner. IsSome (record_at types inner) × (grounded.rank inner < grounded.rank number)) layouts
      (λ inner holds. let held = some_of (record_at types inner) holds.0 in laid_below k inner held.0 (omega (arith, holds.1)) held.1)
      one.members ground.holds)

  pub all_laid : AreAllLaidOut types layouts
  all_laid number some =
      let held = some_of (record_at types number) some in
      laid_below (suc (grounded.rank number)) number held.0 (omega arith) held.1

  missing_by : (number : ℕ) (one : Option CRecord) → record_at types number ≡ one → row_at layouts number ≡ None → record_at types number ≡ None
  missing_by number None found nothing = found
  missing_by number (Some one) found nothing =
      absurd (let h : IsSome {T = CRow} None = subst IsSome nothing (all_laid number (subst IsSome (sym found) refl)) in cc)

  no_row : (n number : ℕ) → record_at types number ≡ None → row_at (passes n types) number ≡ None
  no_row zero number missing = passes_none types number
  no_row (suc n) number missing =
      row_at-pass types (passes n types) number ∙ ap (option_and_then (row_of (passes n types))) missing

  same_by : AreBuilt types layouts → (number : ℕ) (row : Option CRow) → row_at layouts number ≡ row → row_at layouts number ≡ row_at (layouts_of types) number
  same_by built number (Some row) is = is ∙ sym (built_below types layouts built number row is)
  same_by built number None is =
      is ∙ sym (ap (λ l. row_at l number) (layouts_are types) ∙ no_row (completed_count types.records) number (missing_by number (record_at types number) refl is))

  pub all_same : AreBuilt types layouts → AreLayoutsOf types layouts
  all_same built number = same_by built number (row_at layouts number) refl

-- ---- as many rows as there are records

passes_long : (n : ℕ) (types : CTypes) → length (passes n types) ≡ length types.records
passes_long zero types = length-map types.records _
passes_long (suc n) types = length-map types.records _

pub fitted_is : (types : CTypes) (layouts fit : CLayouts) → AreLayoutsOf types layouts → length fit ≡ length types.records →
    ((number : ℕ) → number < length types.records → row_at fit number ≡ row_at layouts number) → fit ≡ layouts_of types
fitted_is types layouts fit are long same =
    same_rows fit (layouts_of types)
    (long ∙ sym (ap length (layouts_are types) ∙ passes_long (completed_count types.records) types))
    (λ number within. same number (subst (λ (count : ℕ). number < count) long within) ∙ are number)

-- the same of what is found
pub fits_whole : {F : Type 0} (types : CTypes) (layouts : CLayouts) (result : Result CLayouts F) (count : ℕ) → AreLayoutsOf types layouts → count ≡ length types.records →
    IfOk result (λ fit. length fit ≡ count) → IfOk result (λ fit. (number : ℕ) → number < count → row_at fit number ≡ row_at layouts number) → IfOk result (λ fit. fit ≡ layouts_of types)
fits_whole types layouts (Ok fit) count are counted long same =
    fitted_is types layouts fit are (long ∙ counted) (λ number within. same number (subst (λ (most : ℕ). number < most) (sym counted) within))
fits_whole types layouts (Err fault) count are counted long same = tt

pub whole_same : {F : Type 0} (types : CTypes) (result : Result CLayouts F) → IfOk result (λ fit. fit ≡ layouts_of types) → IfOk result (λ fit. AreLayoutsOf types fit)
whole_same types (Ok fit) is = subst (λ (layouts : CLayouts). AreLayoutsOf types layouts) (sym is) (λ number. refl)
whole_same types (Err fault) is = tt

pub whole_all : {F : Type 0} (types : CTypes) (layouts : CLayouts) (result : Result CLayouts F) → AreLayoutsOf types layouts → AreAllLaidOut types layouts → IfOk result (λ fit. fit ≡ layouts_of types) →
    IfOk result (λ fit. AreAllLaidOut types fit)
whole_all types layouts (Ok fit) are all is =
    subst (λ (one : CLayouts). AreAllLaidOut types one) (sym is) (λ number completed. subst (λ (row : Option CRow). IsSome row) (are number) (all number completed))
whole_all types layouts (Err fault) are all is = tt
