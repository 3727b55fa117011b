-- One sweep over the records of a program.
use Rattle.std.proofs.Common.{◌≡◌, ◌⊎◌, inl, inr, ℕ, ◌+◌, ◌<◌, ◌≤◌, ◌||◌, Bool, true, false, None, Some, refl, sym, ap, ◌∙◌, arith, subst}
use Rattle.std.proofs.lemmas.Bool.{cases_eq}
use Rattle.cx_core.specs.Layouts.{CLayouts, row_at}
use Rattle.cx_core.specs.Trees.{CRecord, CTypes}
use Rattle.cx_layout.specs.Building.{unlaid, are_complete, AreBuilt, IsNoneReady, AddsNew, IsPassed}
use Rattle.cx_layout.specs.Calls.{record_at}
use Rattle.cx_layout.proofs.Builds.{falls, built_new}

-- a sweep came to an index: whether a record was laid out, and that none in front of the index can be laid out next otherwise
pub record Sweeps (types : CTypes) (start layouts : CLayouts) (added : Bool) (index : ℕ) : Type 0 where
  pub built : AreBuilt types layouts
  pub no_more : unlaid types layouts ≤ unlaid types start
  pub goes_on : added ≡ true → unlaid types layouts < unlaid types start
  pub passed : added ≡ false → IsNoneReady types layouts index

before_or_here : (n index : ℕ) → n < index + 1 → ((n ≡ index) ⊎ (n ≡ index → ⊥)) → ((n ≡ index) ⊎ (n < index))
before_or_here n index below (inl same) = inl same
before_or_here n index below (inr apart) = inr (omega arith)

missing_case : (types : CTypes) (layouts : CLayouts) (index n : ℕ) (one : CRecord) → record_at types index ≡ None → IsNoneReady types layouts index → record_at types n ≡ Some one → row_at layouts n ≡ None
    → ((n ≡ index) ⊎ (n < index)) → are_complete layouts one.members ≡ false
missing_case types layouts index n one missing passed found nothing (inl same) =
    absurd (let h : Some one ≡ None = sym found ∙ ap (record_at types) same ∙ missing in cc)
missing_case types layouts index n one missing passed found nothing (inr before) = passed n one before found nothing

passed_case : (types : CTypes) (layouts : CLayouts) (index n : ℕ) (here one : CRecord) → record_at types index ≡ Some here → here.number ≡ index → IsPassed layouts here → IsNoneReady types layouts index
    → record_at types n ≡ Some one → row_at layouts n ≡ None → ((n ≡ index) ⊎ (n < index)) → are_complete layouts one.members ≡ false
passed_case types layouts index n here one here_is number_is here_passed passed found nothing (inl same) =
    let h : Some here ≡ Some one = sym here_is ∙ sym (ap (record_at types) same) ∙ found in
    let e : here ≡ one = cc in
    ap (λ r. are_complete layouts r.members) (sym e) ∙ here_passed (ap (row_at layouts) (number_is ∙ sym same) ∙ nothing)
passed_case types layouts index n here one here_is number_is here_passed passed found nothing (inr before) = passed n one before found nothing

-- no record stands at the index
pub missing_next : (types : CTypes) (start layouts : CLayouts) (added : Bool) (index : ℕ) → Sweeps types start layouts added index → record_at types index ≡ None → Sweeps types start layouts added (index + 1)
missing_next types start layouts added index so_far missing = record {
  built = so_far.built;
  no_more = so_far.no_more;
  goes_on = so_far.goes_on;
  passed = λ not_added n one below found nothing.
      missing_case types layouts index n one missing (so_far.passed not_added) found nothing (before_or_here n index below (cases_eq n index));
}

-- a record stands at the index, and was laid out
took_next : (types : CTypes) (start old new : CLayouts) (added : Bool) (index : ℕ) (one : CRecord) → Sweeps types start old added index → record_at types index ≡ Some one → one.number ≡ index → AddsNew old one new
    → Sweeps types start new true (index + 1)
took_next types start old new added index one so_far found number_is adds =
    let less : unlaid types new + 1 ≡ unlaid types old = falls types old new index one found number_is adds in
    record {
      built = built_new types old new index one found number_is adds so_far.built;
      no_more = omega (arith, so_far.no_more);
      goes_on = λ _. omega (arith, so_far.no_more);
      passed = λ not_added. absurd cc;
    }

-- a record stands at the index, and was passed
passed_next : (types : CTypes) (start old : CLayouts) (added : Bool) (index : ℕ) (one : CRecord) → Sweeps types start old added index → record_at types index ≡ Some one → one.number ≡ index → IsPassed old one
    → Sweeps types start old added (index + 1)
passed_next types start old added index one so_far found number_is here_passed = record {
  built = so_far.built;
  no_more = so_far.no_more;
  goes_on = so_far.goes_on;
  passed = λ not_added n other below other_found nothing.
      passed_case types old index n one other found number_is here_passed (so_far.passed not_added) other_found nothing (before_or_here n index below (cases_eq n index));
}

either_false : (added : Bool) → added || false ≡ added
either_false true = refl
either_false false = refl

either_true : (added : Bool) → added || true ≡ true
either_true true = refl
either_true false = refl

-- a record stands at the index, and was laid out or passed
pub record_next : (types : CTypes) (start old new : CLayouts) (added taken next : Bool) (index : ℕ) (one : CRecord) → Sweeps types start old added index → record_at types index ≡ Some one → one.number ≡ index
    → next ≡ (added || taken) → (taken ≡ true → AddsNew old one new) → (taken ≡ false → (new ≡ old) × IsPassed old one) → Sweeps types start new next (index + 1)
record_next types start old new added true next index one so_far found number_is next_is takes passes =
    subst (λ b. Sweeps types start new b (index + 1)) (sym (next_is ∙ either_true added)) (took_next types start old new added index one so_far found number_is (takes refl))
record_next types start old new added false next index one so_far found number_is next_is takes passes =
    let passing = passes refl in
    subst (λ b. Sweeps types start new b (index + 1)) (sym (next_is ∙ either_false added))
    (subst (λ l. Sweeps types start l added (index + 1)) (sym passing.0) (passed_next types start old added index one so_far found number_is passing.1))
