-- Ranks of records.
use Rattle.std.proofs.Common.{arith, ◌≡◌, ℕ, suc, ◌<◌, ◌≤◌, All, List, [], ◌∷◌, length, Some, None, sym, ap, ◌∙◌, subst, ⊎_elim}
use Rattle.std.proofs.lemmas.List.Elements.{All-cons, All-nil}
use Rattle.std.proofs.lemmas.Bool.{cases_eq, cases_lt}
use Rattle.std.proofs.lemmas.Option.{slice_get_past}
use Rattle.std.specs.Option.{option_flatten}
use Rattle.cx_core.specs.Trees.{CMember, CRecord, CTypes}
use Rattle.cx_layout.specs.Calls.{AreGrounded, HasFittingBits, IsGrounded, record_at}
use Rattle.cx_grounded.specs.Grounded.{AllFit, HoldsLower, IsGroundedAt, rank_in}

bits_fit : (types : CTypes) (ranks : List ℕ) (rank : ℕ) (members : List CMember) → AllFit types ranks rank members → All HasFittingBits members
bits_fit types ranks rank [] fit = All-nil HasFittingBits
bits_fit types ranks rank (one ∷ others) fit = All-cons HasFittingBits one others fit.0.0 (bits_fit types ranks rank others fit.1)

all_hold : (types : CTypes) (ranks : List ℕ) (rank : ℕ) (members : List CMember) → AllFit types ranks rank members → All (λ (one : CMember). HoldsLower types ranks rank one.type) members
all_hold types ranks rank [] fit = All-nil (λ (one : CMember). HoldsLower types ranks rank one.type)
all_hold types ranks rank (one ∷ others) fit = All-cons (λ (one : CMember). HoldsLower types ranks rank one.type) one others fit.0.1 (all_hold types ranks rank others fit.1)

pub grounded_is : (types : CTypes) (ranks : List ℕ) (number : ℕ) (one : CRecord) → one.number ≡ number → AllFit types ranks (rank_in ranks number) one.members
    → IsGrounded types (rank_in ranks) number one
grounded_is types ranks number one is fit = record {
  number_is = is;
  bits = bits_fit types ranks (rank_in ranks number) one.members fit;
  holds = all_hold types ranks (rank_in ranks number) one.members fit;
}

none_is : (one : CRecord) → None ≡ Some one → ⊥
none_is one same = cc

-- a record that is there stands within the table
inside : (types : CTypes) (number : ℕ) (one : CRecord) → record_at types number ≡ Some one → number < length types.records
inside types number one is = ⊎_elim
    (λ (within : number < length types.records). within)
    (λ (behind : length types.records ≤ number). absurd (none_is one (sym (ap option_flatten (slice_get_past types.records number behind)) ∙ is)))
    (cases_lt number (length types.records))

within_count : (n count number : ℕ) → n ≤ count → number < n → number < count
within_count n count number enough below = omega (arith, enough, below)

pub all_grounded : (types : CTypes) (ranks : List ℕ) (count : ℕ) → length types.records ≤ count → ((number : ℕ) → number < count → IsGroundedAt types ranks number) → AreGrounded types
all_grounded types ranks count enough each = record {
  rank = rank_in ranks;
  grounded = λ number one is. each number (within_count (length types.records) count number enough (inside types number one is)) one is;
}

below_next : (number count next : ℕ) → next ≡ suc count → number < next → (number ≡ count → ⊥) → number < count
below_next number count next is below apart = ⊎_elim (λ (less : number < count). less) (λ (more : count ≤ number). absurd (apart (omega (arith, is, below, more)))) (cases_lt number count)

pub one_more : (types : CTypes) (ranks : List ℕ) (count next : ℕ) → next ≡ suc count → ((number : ℕ) → number < count → IsGroundedAt types ranks number) → IsGroundedAt types ranks count
    → (number : ℕ) → number < next → IsGroundedAt types ranks number
one_more types ranks count next is each last number below = ⊎_elim
    (λ (same : number ≡ count). subst (λ n. IsGroundedAt types ranks n) (sym same) last)
    (λ (apart : number ≡ count → ⊥). each number (below_next number count next is below apart))
    (cases_eq number count)
