-- The pairs that are gathered from two types on are the least good set under which they agree; where none is found, there is no
-- good set at all.
use Rattle.std.proofs.Common.{◌≡◌, ℕ, zero, suc, ◌+◌, ◌<◌, ◌≤◌, ◌==◌, ◌&&◌, Bool, true, false, List, [], ◌∷◌, ◌++◌, length, take, get_or, None, Some, refl, sym, ap, ◌∙◌, subst, slice_get, ⊎_elim, ◌⊎◌, inl, inr, if◌then◌else◌, arith, add-one, length-append, append_assoc, append-nil}
use Rattle.std.proofs.Math.Seq.{take-suc, take-length}
use Rattle.std.proofs.lemmas.Bool.{and_from, and_parts, or_left, or_right, or_cases, eqb-true}
use Rattle.std.proofs.lemmas.Bool.Decides.{nat_tests}
use Rattle.std.proofs.lemmas.List.{take-append-le}
use Rattle.std.proofs.lemmas.List.Folds.{list_all-append, list_any-append}
use Rattle.std.proofs.lemmas.Option.{slice_get_within, get_or_from_slice_get, slice_get_cases}
use Rattle.std.specs.List.{list_all}
use Rattle.cx_core.specs.declared.compatibility.RecordPair.{RecordPair}
use Rattle.cx_core.specs.Compatible.{agree, pair_agrees, in_pairs, AreCompatible}
use Rattle.cx_core.specs.Needed.{Need, needed, needed_by_pair, with_pair, with_pairs, gathered}
use Rattle.cx_core.specs.Trees.{CTy, CTypes}
use Rattle.cx_core.proofs.Agree.{counts_pair, covers, agree_needed, pair_needed_is}

-- every pair of a list counts
abbrev Count : (ℕ → ℕ → Bool) → List RecordPair → Type 0
Count counts pairs = list_all (counts_pair counts) pairs ≡ true

-- what counts by the first counts by the second
abbrev Below : (ℕ → ℕ → Bool) → (ℕ → ℕ → Bool) → Type 0
Below few many = (m n : ℕ) → few m n ≡ true → many m n ≡ true

count_more : (few many : ℕ → ℕ → Bool) (pairs : List RecordPair) → Below few many → Count few pairs → Count many pairs
count_more few many [] below holds = refl
count_more few many (pair ∷ pairs) below holds =
    let parts = and_parts (counts_pair few pair) (list_all (counts_pair few) pairs) holds in
    and_from _ _ (below pair.first pair.second parts.0) (count_more few many pairs below parts.1)

covers_more : (few many : ℕ → ℕ → Bool) (need : Need) → Below few many → covers few need ≡ true → covers many need ≡ true
covers_more few many None below holds = holds
covers_more few many (Some pairs) below holds = count_more few many pairs below holds

-- ---- pairs in a list

abbrev is_pair : ℕ → ℕ → RecordPair → Bool
is_pair m n pair = (pair.first == m) && (pair.second == n)

in_more : (xs ys : List RecordPair) → Below (in_pairs xs) (in_pairs (xs ++ ys))
in_more xs ys m n found = list_any-append (is_pair m n) xs ys ∙ or_left _ _ found

same_number : (n : ℕ) → (n == n) ≡ true
same_number n = grind (arith, nat_tests)

in_one : (one : RecordPair) (xs : List RecordPair) → in_pairs (one ∷ xs) one.first one.second ≡ true
in_one one xs = or_left _ _ (and_from _ _ (same_number one.first) (same_number one.second))

in_last : (xs : List RecordPair) (one : RecordPair) → in_pairs (xs ++ one ∷ []) one.first one.second ≡ true
in_last xs one = list_any-append (is_pair one.first one.second) xs (one ∷ []) ∙ or_right _ _ (in_one one [])

-- ---- one pair more

abbrev put_by : Bool → List RecordPair → RecordPair → List RecordPair
put_by found old one = if found then old else old ++ one ∷ []

put_more : (found : Bool) (old : List RecordPair) (one : RecordPair) → Below (in_pairs old) (in_pairs (put_by found old one))
put_more true old one = λ m n h. h
put_more false old one = in_more old (one ∷ [])

put_there : (found : Bool) (old : List RecordPair) (one : RecordPair) → in_pairs old one.first one.second ≡ found → in_pairs (put_by found old one) one.first one.second ≡ true
put_there true old one is = is
put_there false old one is = in_last old one

put_count : (found : Bool) (counts : ℕ → ℕ → Bool) (old : List RecordPair) (one : RecordPair) → Count counts old → counts_pair counts one ≡ true → Count counts (put_by found old one)
put_count true counts old one all here = all
put_count false counts old one all here = list_all-append (counts_pair counts) old (one ∷ []) ∙ and_from _ _ all (and_from _ _ here refl)

put_extends : (found : Bool) (old : List RecordPair) (one : RecordPair) → (more : List RecordPair) × (put_by found old one ≡ old ++ more)
put_extends true old one = ([], sym (append-nil old))
put_extends false old one = (one ∷ [], refl)

-- ---- more pairs

with_more : (old more : List RecordPair) → Below (in_pairs old) (in_pairs (with_pairs old more))
with_more old [] m n found = found
with_more old (one ∷ others) m n found =
    with_more (with_pair old one) others m n (put_more (in_pairs old one.first one.second) old one m n found)

with_there : (old more : List RecordPair) → Count (in_pairs (with_pairs old more)) more
with_there old [] = refl
with_there old (one ∷ others) =
    and_from _ _ (with_more (with_pair old one) others one.first one.second (put_there (in_pairs old one.first one.second) old one refl))
    (with_there (with_pair old one) others)

with_count : (counts : ℕ → ℕ → Bool) (old more : List RecordPair) → Count counts old → Count counts more → Count counts (with_pairs old more)
with_count counts old [] all all_more = all
with_count counts old (one ∷ others) all all_more =
    let parts = and_parts (counts_pair counts one) (list_all (counts_pair counts) others) all_more in
    with_count counts (with_pair old one) others (put_count (in_pairs old one.first one.second) counts old one all parts.0) parts.1

with_extends : (old more : List RecordPair) → (rest : List RecordPair) × (with_pairs old more ≡ old ++ rest)
with_extends old [] = ([], sym (append-nil old))
with_extends old (one ∷ others) =
    let first = put_extends (in_pairs old one.first one.second) old one in
    let last = with_extends (with_pair old one) others in
    (first.0 ++ last.0, last.1 ∙ ap (λ xs. xs ++ last.0) first.1 ∙ append_assoc old first.0 last.0)

-- ---- what is gathered

pub record Gathered (types : CTypes) (first second : CTy) (pairs : List RecordPair) (index : ℕ) : Type 0 where
  pub within : index ≤ length pairs
  pub meet : agree types (in_pairs pairs) first second ≡ true
  -- the pairs in front of the index meet what they need
  pub done : list_all (pair_agrees types (in_pairs pairs)) (take index pairs) ≡ true
  -- every good set under which the types agree has all of them
  pub least : (other : AreCompatible types first second) → list_all (counts_pair (in_pairs other.pairs)) pairs ≡ true

same_end : (index size : ℕ) → index ≤ size → size ≤ index → index ≡ size
same_end index size within past = omega arith

-- every element passes a test, so the one at an index does
passes_at : (test : RecordPair → Bool) (pairs : List RecordPair) (index : ℕ) (pair : RecordPair) → slice_get pairs index ≡ Some pair → list_all test pairs ≡ true → test pair ≡ true
passes_at test [] index pair found all = absurd cc
passes_at test (one ∷ pairs) zero pair found all =
    let e : one ≡ pair = cc in
    ap test (sym e) ∙ (and_parts (test one) (list_all test pairs) all).0
passes_at test (one ∷ pairs) (suc index) pair found all =
    passes_at test pairs index pair found (and_parts (test one) (list_all test pairs) all).1

same_pair : (one pair : RecordPair) → is_pair pair.first pair.second one ≡ true → one ≡ pair
same_pair one pair same =
    let parts = and_parts (one.first == pair.first) (one.second == pair.second) same in
    let first : one.first ≡ pair.first = eqb-true _ _ parts.0 in
    let second : one.second ≡ pair.second = eqb-true _ _ parts.1 in
    ap (λ m. record { first = m; second = one.second }) first ∙ ap (λ n. record { first = pair.first; second = n }) second

-- every pair of a list passes a test, so one that is in the list does
good_at : (test : RecordPair → Bool) (pairs : List RecordPair) (pair : RecordPair) → in_pairs pairs pair.first pair.second ≡ true → list_all test pairs ≡ true → test pair ≡ true
good_at test [] pair there all = absurd cc
good_at test (one ∷ pairs) pair there all =
    let parts = and_parts (test one) (list_all test pairs) all in
    ⊎_elim (λ here. ap test (sym (same_pair one pair here)) ∙ parts.0) (λ later. good_at test pairs pair later parts.1)
    (or_cases (is_pair pair.first pair.second one) (in_pairs pairs pair.first pair.second) there)

-- pairs that agree go on to do so
agree_more : (types : CTypes) (few many : ℕ → ℕ → Bool) (pairs : List RecordPair) → Below few many → list_all (pair_agrees types few) pairs ≡ true → list_all (pair_agrees types many) pairs ≡ true
agree_more types few many [] below all = refl
agree_more types few many (pair ∷ pairs) below all =
    let parts = and_parts (pair_agrees types few pair) (list_all (pair_agrees types few) pairs) all in
    and_from _ _ (pair_needed_is types many pair ∙ covers_more few many (needed_by_pair types pair) below (sym (pair_needed_is types few pair) ∙ parts.0))
    (agree_more types few many pairs below parts.1)

taken_next : (pairs rest new : List RecordPair) (index : ℕ) (pair : RecordPair) → index < length pairs → pair ≡ get_or pairs index pair → new ≡ pairs ++ rest → take (index + 1) new ≡ take index pairs ++ pair ∷ []
taken_next pairs rest new index pair below pair_is longer =
    ap (take (index + 1)) longer ∙ take-append-le (index + 1) pairs rest (omega arith)
    ∙ rw (add-one, take-suc pairs index pair below) (ap (λ x. take index pairs ++ x ∷ []) (sym pair_is))

module _ (types : CTypes) (first second : CTy) where
  covered : (other : AreCompatible types first second) → covers (in_pairs other.pairs) (needed types first second) ≡ true
  covered other = sym (agree_needed types (in_pairs other.pairs) first second) ∙ other.meet

  begins_with : (pairs : List RecordPair) (need : Need) → needed types first second ≡ need → Some pairs ≡ gathered [] need → Gathered types first second pairs 0
  begins_with pairs None same found = absurd cc
  begins_with pairs (Some more) same found =
      let e : pairs ≡ with_pairs [] more = cc in
      record {
        within = omega arith;
        meet = agree_needed types (in_pairs pairs) first second ∙ ap (covers (in_pairs pairs)) same
            ∙ ap (λ p. list_all (counts_pair (in_pairs p)) more) e ∙ with_there [] more;
        done = refl;
        least = λ other. ap (list_all (counts_pair (in_pairs other.pairs))) e
            ∙ with_count (in_pairs other.pairs) [] more refl (sym (ap (covers (in_pairs other.pairs)) same) ∙ covered other);
      }

  pub begins : (start pairs : List RecordPair) → start ≡ [] → Some pairs ≡ gathered start (needed types first second) → Gathered types first second pairs 0
  begins start pairs empty found = begins_with pairs (needed types first second) refl (found ∙ ap (λ p. gathered p (needed types first second)) empty)

  nothing_gathered : (old : List RecordPair) (need : Need) → None ≡ gathered old need → need ≡ None
  nothing_gathered old None nothing = refl
  nothing_gathered old (Some more) nothing = absurd cc

  pub never : (start : List RecordPair) → None ≡ gathered start (needed types first second) → AreCompatible types first second → ⊥
  never start nothing other =
      let e : covers (in_pairs other.pairs) (needed types first second) ≡ false = ap (covers (in_pairs other.pairs)) (nothing_gathered start (needed types first second) nothing) in
      let h : true ≡ false = sym (covered other) ∙ e in
      cc

  module _ (pairs : List RecordPair) (index : ℕ) (pair : RecordPair) (so_far : Gathered types first second pairs index) (found : slice_get pairs index ≡ Some pair) where
    -- the pair at the index is in every good set, so what it needs is too
    needs_covered : (other : AreCompatible types first second) → covers (in_pairs other.pairs) (needed_by_pair types pair) ≡ true
    needs_covered other =
        let here = passes_at (counts_pair (in_pairs other.pairs)) pairs index pair found (so_far.least other) in
        sym (pair_needed_is types (in_pairs other.pairs) pair) ∙ good_at (pair_agrees types (in_pairs other.pairs)) other.pairs pair here other.good

    pub never_by : None ≡ gathered pairs (needed_by_pair types pair) → AreCompatible types first second → ⊥
    never_by nothing other =
        let e : covers (in_pairs other.pairs) (needed_by_pair types pair) ≡ false = ap (covers (in_pairs other.pairs)) (nothing_gathered pairs (needed_by_pair types pair) nothing) in
        let h : true ≡ false = sym (needs_covered other) ∙ e in
        cc

    goes_with : (new : List RecordPair) (need : Need) → needed_by_pair types pair ≡ need → Some new ≡ gathered pairs need → Gathered types first second new (index + 1)
    goes_with new None same gathers = absurd cc
    goes_with new (Some more) same gathers =
        let e : new ≡ with_pairs pairs more = cc in
        let grows : Below (in_pairs pairs) (in_pairs new) = subst (λ p. Below (in_pairs pairs) (in_pairs p)) (sym e) (with_more pairs more) in
        let rest = with_extends pairs more in
        let longer : new ≡ pairs ++ rest.0 = e ∙ rest.1 in
        let met : covers (in_pairs new) (needed_by_pair types pair) ≡ true =
        ap (covers (in_pairs new)) same ∙ ap (λ p. list_all (counts_pair (in_pairs p)) more) e ∙ with_there pairs more in
        record {
          within = omega (arith, ap length longer, length-append pairs rest.0, slice_get_within pairs index pair found);
          meet = agree_needed types (in_pairs new) first second
              ∙ covers_more (in_pairs pairs) (in_pairs new) (needed types first second) grows (sym (agree_needed types (in_pairs pairs) first second) ∙ so_far.meet);
          done = ap (list_all (pair_agrees types (in_pairs new))) (taken_next pairs rest.0 new index pair (slice_get_within pairs index pair found) (sym (get_or_from_slice_get pairs index pair pair found)) longer)
              ∙ list_all-append (pair_agrees types (in_pairs new)) (take index pairs) (pair ∷ [])
              ∙ and_from _ _ (agree_more types (in_pairs pairs) (in_pairs new) (take index pairs) grows so_far.done)
              (and_from _ _ (pair_needed_is types (in_pairs new) pair ∙ met) refl);
          least = λ other. ap (list_all (counts_pair (in_pairs other.pairs))) e
              ∙ with_count (in_pairs other.pairs) pairs more (so_far.least other)
              (sym (ap (covers (in_pairs other.pairs)) same) ∙ needs_covered other);
        }

    pub goes : (new : List RecordPair) → Some new ≡ gathered pairs (needed_by_pair types pair) → Gathered types first second new (index + 1)
    goes new gathers = goes_with new (needed_by_pair types pair) refl gathers

  pub ends : (pairs : List RecordPair) (index : ℕ) → Gathered types first second pairs index → length pairs ≤ index → AreCompatible types first second
  ends pairs index so_far past =
      let e : take index pairs ≡ pairs = ap (λ k. take k pairs) (same_end index (length pairs) so_far.within past) ∙ take-length pairs in
      record {
        pairs = pairs;
        good = sym (ap (list_all (pair_agrees types (in_pairs pairs))) e) ∙ so_far.done;
        meet = so_far.meet;
      }

past_in : {X : Type 0} (xs : List X) (i : ℕ) → slice_get xs i ≡ None → ((x : X) × (i < length xs) × (slice_get xs i ≡ Some x) × (get_or xs i x ≡ x)) ⊎ ((length xs ≤ i) × (slice_get xs i ≡ None)) → length xs ≤ i
past_in xs i nothing (inl found) = absurd (let h : None ≡ Some found.0 = sym nothing ∙ found.2 in cc)
past_in xs i nothing (inr past) = past.0

pub past_end : {X : Type 0} (xs : List X) (i : ℕ) → slice_get xs i ≡ None → length xs ≤ i
past_end xs i nothing = past_in xs i nothing (slice_get_cases xs i).1
