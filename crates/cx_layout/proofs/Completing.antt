-- Completing a record adds just its row to the layouts of a program.
use Rattle.std.proofs.Common.{◌≡◌, ◌⊎◌, inl, inr, ℕ, zero, suc, List, [], ◌∷◌, Option, None, Some, IsSome, slice_get, slice_set, refl, sym, ap, ◌∙◌, subst}
use Rattle.std.proofs.lemmas.Bool.{cases_eq}
use Rattle.std.specs.Option.{option_and_then, option_flatten}
use Rattle.cx_core.specs.Layouts.{CLayouts, row_at, row_of, pass, passes, completed_count, layouts_of}
use Rattle.cx_core.specs.Trees.{CRecord, CTypes}
use Rattle.cx_layout.specs.Calls.{record_at, AreLayoutsOf, AreAllLaidOut, AddsRecord, Completes}
use Rattle.cx_layout.proofs.Builds.{layouts_are, some_of}
use Rattle.cx_layout.proofs.Passes.{Extends, Gives, row_more, row_at-pass, passes_none, passes_more}

-- ---- the records then

set_here : (records : List (Option CRecord)) (number : ℕ) (one : CRecord) → slice_get records number ≡ Some None → option_flatten (slice_get (slice_set records number (Some one)) number) ≡ Some one
set_here [] number one there = absurd cc
set_here (first ∷ others) zero one there = refl
set_here (first ∷ others) (suc n) one there = set_here others n one there

set_other : (records : List (Option CRecord)) (number other : ℕ) (one : CRecord) → (other ≡ number → ⊥) → option_flatten (slice_get (slice_set records number (Some one)) other) ≡ option_flatten (slice_get records other)
set_other [] number other one apart = refl
set_other (first ∷ others) zero zero one apart = absurd (apart refl)
set_other (first ∷ others) zero (suc k) one apart = refl
set_other (first ∷ others) (suc n) zero one apart = refl
set_other (first ∷ others) (suc n) (suc k) one apart = set_other others n k one (λ e. apart (ap suc e))

set_count : (records : List (Option CRecord)) (number : ℕ) (one : CRecord) → slice_get records number ≡ Some None → completed_count (slice_set records number (Some one)) ≡ suc (completed_count records)
set_count [] number one there = absurd cc
set_count (None ∷ others) zero one there = refl
set_count (Some first ∷ others) zero one there = absurd cc
set_count (None ∷ others) (suc n) one there = set_count others n one there
set_count (Some first ∷ others) (suc n) one there = ap suc (set_count others n one there)

-- ---- what is laid out stays

module _ (types new_types : CTypes) (one : CRecord) (completes : Completes types one new_types) where
  here : record_at new_types one.number ≡ Some one
  here = ap (λ r. option_flatten (slice_get r one.number)) completes.records_are ∙ set_here types.records one.number one completes.incomplete

  before : record_at types one.number ≡ None
  before = ap option_flatten completes.incomplete

  others_same : (n : ℕ) → (n ≡ one.number → ⊥) → record_at new_types n ≡ record_at types n
  others_same n apart = ap (λ r. option_flatten (slice_get r n)) completes.records_are ∙ set_other types.records one.number n one apart

  counts : completed_count new_types.records ≡ suc (completed_count types.records)
  counts = ap completed_count completes.records_are ∙ set_count types.records one.number one completes.incomplete

  more_by : (n : ℕ) (r : CRecord) → record_at types n ≡ Some r → ((n ≡ one.number) ⊎ (n ≡ one.number → ⊥)) → record_at new_types n ≡ Some r
  more_by n r found (inl same) = absurd (let h : None ≡ Some r = sym before ∙ sym (ap (record_at types) same) ∙ found in cc)
  more_by n r found (inr apart) = others_same n apart ∙ found

  record_stays : (n : ℕ) (r : CRecord) → record_at types n ≡ Some r → record_at new_types n ≡ Some r
  record_stays n r found = more_by n r found (cases_eq n one.number)

  pass_stays : (few many : CLayouts) → Extends few many → (n : ℕ) (found : Option CRecord) → record_at types n ≡ found → Gives (option_and_then (row_of few) found) (row_at (pass new_types many) n)
  pass_stays few many extends n None found row is = absurd cc
  pass_stays few many extends n (Some r) found row is =
      row_at-pass new_types many n ∙ ap (option_and_then (row_of many)) (record_stays n r found) ∙ row_more few many extends r row is

  passes_stay : (k : ℕ) → Extends (passes k types) (passes k new_types)
  passes_stay zero n row is = absurd (let h : None ≡ Some row = sym (passes_none types n) ∙ is in cc)
  passes_stay (suc k) n row is =
      pass_stays (passes k types) (passes k new_types) (passes_stay k) n (record_at types n) refl row
      (sym (row_at-pass types (passes k types) n) ∙ is)

  module _ (layouts new_layouts : CLayouts) (are : AreLayoutsOf types layouts) (all : AreAllLaidOut types layouts) (adds : AddsRecord layouts one new_layouts) where
    -- what was laid out is so after as many passes as before
    stays_in : Extends layouts (passes (completed_count types.records) new_types)
    stays_in n row is =
        passes_stay (completed_count types.records) n row (sym (ap (λ l. row_at l n) (layouts_are types)) ∙ sym (are n) ∙ is)

    then_is : (n : ℕ) → row_at (layouts_of new_types) n ≡ row_at (passes (suc (completed_count types.records)) new_types) n
    then_is n = ap (λ l. row_at l n) (layouts_are new_types) ∙ ap (λ k. row_at (passes k new_types) n) counts

    none_then : (n : ℕ) → record_at new_types n ≡ None → row_at (layouts_of new_types) n ≡ None
    none_then n missing =
        then_is n ∙ row_at-pass new_types (passes (completed_count types.records) new_types) n
        ∙ ap (option_and_then (row_of (passes (completed_count types.records) new_types))) missing

    none_now : (k n : ℕ) → record_at types n ≡ None → row_at (passes k types) n ≡ None
    none_now zero n missing = passes_none types n
    none_now (suc k) n missing = row_at-pass types (passes k types) n ∙ ap (option_and_then (row_of (passes k types))) missing

    -- the record that was completed
    same_here : row_at new_layouts one.number ≡ row_at (layouts_of new_types) one.number
    same_here =
        let row = some_of (row_of layouts one) adds.laid_out in
        adds.here ∙ row.1
        ∙ sym (then_is one.number ∙ row_at-pass new_types (passes (completed_count types.records) new_types) one.number
        ∙ ap (option_and_then (row_of (passes (completed_count types.records) new_types))) here
        ∙ row_more layouts (passes (completed_count types.records) new_types) stays_in one row.0 row.1)

    other_by : (n : ℕ) → (n ≡ one.number → ⊥) → (found : Option CRecord) → record_at types n ≡ found → row_at layouts n ≡ row_at (layouts_of new_types) n
    other_by n apart None found =
        are n ∙ ap (λ l. row_at l n) (layouts_are types) ∙ none_now (completed_count types.records) n found
        ∙ sym (none_then n (others_same n apart ∙ found))
    other_by n apart (Some r) found =
        let row = some_of (row_at layouts n) (all n (subst IsSome (sym found) refl)) in
        row.1 ∙ sym (then_is n ∙ passes_more new_types (completed_count types.records) n row.0 (stays_in n row.0 row.1))

    same_by : (n : ℕ) → ((n ≡ one.number) ⊎ (n ≡ one.number → ⊥)) → row_at new_layouts n ≡ row_at (layouts_of new_types) n
    same_by n (inl same) = subst (λ m. row_at new_layouts m ≡ row_at (layouts_of new_types) m) (sym same) same_here
    same_by n (inr apart) = adds.others n apart ∙ other_by n apart (record_at types n) refl

    pub completed_layouts : AreLayoutsOf new_types new_layouts
    completed_layouts n = same_by n (cases_eq n one.number)

    all_by : (n : ℕ) → IsSome (record_at new_types n) → ((n ≡ one.number) ⊎ (n ≡ one.number → ⊥)) → IsSome (row_at new_layouts n)
    all_by n some (inl same) = subst (λ m. IsSome (row_at new_layouts m)) (sym same) (subst IsSome (sym adds.here) adds.laid_out)
    all_by n some (inr apart) = subst IsSome (sym (adds.others n apart)) (all n (subst IsSome (others_same n apart) some))

    pub completed_all : AreAllLaidOut new_types new_layouts
    completed_all n some = all_by n some (cases_eq n one.number)
