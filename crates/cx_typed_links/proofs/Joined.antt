-- Lists that the units of a list give, one behind another: where the rows of each unit stand, and from which unit a row comes.
use Rattle.std.proofs.Common.{◌≡◌, ℕ, zero, suc, ◌+◌, List, [], ◌∷◌, ◌++◌, length, All, Some, slice_get, refl, sym, ap, ◌∙◌, arith, subst}
use Rattle.std.proofs.lemmas.List.{length-append}
use Rattle.std.proofs.lemmas.List.Elements.{All-head, All-tail}

-- ---- two lists, one behind the other

in_first : {X : Type 0} (xs ys : List X) (number : ℕ) (x : X) → slice_get xs number ≡ Some x → slice_get (xs ++ ys) number ≡ Some x
in_first [] ys number x is = absurd cc
in_first (first ∷ others) ys zero x is = is
in_first (first ∷ others) ys (suc n) x is = in_first others ys n x is

next_on : (first number : ℕ) → suc first + number ≡ suc (first + number)
next_on first number = omega arith

pub none_on : (number : ℕ) → 0 + number ≡ number
none_on number = omega arith

in_second : {X : Type 0} (xs ys : List X) (number : ℕ) → slice_get (xs ++ ys) (length xs + number) ≡ slice_get ys number
in_second [] ys number = ap (slice_get ys) (none_on number)
in_second (first ∷ others) ys number =
    ap (slice_get (first ∷ (others ++ ys))) (next_on (length others) number) ∙ in_second others ys number

-- a place in two lists is one in the first, or one in the second
pub data IsEither {X : Type 0} (xs ys : List X) (place : ℕ) (x : X) : Type 0 where
  before : slice_get xs place ≡ Some x → IsEither xs ys place x
  behind : (number : ℕ) → place ≡ length xs + number → slice_get ys number ≡ Some x → IsEither xs ys place x

further : {X : Type 0} (first : X) (xs ys : List X) (place : ℕ) (x : X) → IsEither xs ys place x → IsEither (first ∷ xs) ys (suc place) x
further first xs ys place x (before is) = before is
further first xs ys place x (behind number at is) = behind number (omega (arith, at)) is

either_place : {X : Type 0} (xs ys : List X) (place : ℕ) (x : X) → slice_get (xs ++ ys) place ≡ Some x → IsEither xs ys place x
either_place [] ys place x is = behind place (sym (none_on place)) is
either_place (first ∷ others) ys zero x is = before is
either_place (first ∷ others) ys (suc place) x is = further first others ys place x (either_place others ys place x is)

-- ---- the rows of all units

-- how many rows the first units have, and all of them
abbrev pub rows_before : {U : Type 0} → (U → ℕ) → ℕ → List U → ℕ
rows_before size zero units = 0
rows_before size (suc count) [] = 0
rows_before size (suc count) (one ∷ others) = size one + rows_before size count others

abbrev pub all_rows : {U : Type 0} → (U → ℕ) → List U → ℕ
all_rows size [] = 0
all_rows size (one ∷ others) = size one + all_rows size others

-- each unit's rows, by its number
abbrev pub joined : {U A : Type 0} → (ℕ → U → List A) → ℕ → List U → List A
joined rows unit [] = []
joined rows unit (one ∷ others) = rows unit one ++ joined rows (suc unit) others

module _ {U A : Type 0} (rows : ℕ → U → List A) (size : U → ℕ) where
  module _ (P : U → Type 0) (sized : (unit : ℕ) (one : U) → P one → length (rows unit one) ≡ size one) where
    nothing_more : (unit : ℕ) → unit + 0 ≡ unit
    nothing_more unit = omega arith

    one_later : (unit number : ℕ) → unit + suc number ≡ suc unit + number
    one_later unit number = omega arith

    further_on : (first inner number : ℕ) → (first + inner) + number ≡ first + (inner + number)
    further_on first inner number = omega arith

    -- a row of a unit stands behind those of the units before it
    pub row_stands : (unit : ℕ) (units : List U) → All P units → (at : ℕ) (one : U) → slice_get units at ≡ Some one
        → (number : ℕ) (row : A) → slice_get (rows (unit + at) one) number ≡ Some row
        → slice_get (joined rows unit units) (rows_before size at units + number) ≡ Some row
    row_stands unit [] all at one is number row there = absurd cc
    row_stands unit (first ∷ others) all zero one is number row there =
        let same : first ≡ one = cc (is) in
        ap (slice_get (rows unit first ++ joined rows (suc unit) others)) (none_on number)
        ∙ in_first (rows unit first) (joined rows (suc unit) others) number row
        (subst (λ found. slice_get (rows unit found) number ≡ Some row) (sym same)
        (subst (λ n. slice_get (rows n one) number ≡ Some row) (nothing_more unit) there))
    row_stands unit (first ∷ others) all (suc at) one is number row there =
        let long : length (rows unit first) ≡ size first = sized unit first (All-head P first others all) in
        ap (slice_get (rows unit first ++ joined rows (suc unit) others))
        (further_on (size first) (rows_before size at others) number ∙ ap (λ n. n + (rows_before size at others + number)) (sym long))
        ∙ in_second (rows unit first) (joined rows (suc unit) others) (rows_before size at others + number)
        ∙ row_stands (suc unit) others (All-tail P first others all) at one is number row
        (subst (λ n. slice_get (rows n one) number ≡ Some row) (one_later unit at) there)

    -- a row comes from a unit
    pub record IsFrom (unit : ℕ) (units : List U) (place : ℕ) (row : A) : Type 0 where
      pub at : ℕ
      pub one : U
      pub unit_is : slice_get units at ≡ Some one
      pub number : ℕ
      pub place_is : place ≡ rows_before size at units + number
      pub there : slice_get (rows (unit + at) one) number ≡ Some row

    from_first : (unit : ℕ) (first : U) (others : List U) (place : ℕ) (row : A) → slice_get (rows unit first) place ≡ Some row → IsFrom unit (first ∷ others) place row
    from_first unit first others place row is = record {
      at = 0;
      one = first;
      unit_is = refl;
      number = place;
      place_is = sym (none_on place);
      there = subst (λ n. slice_get (rows n first) place ≡ Some row) (sym (nothing_more unit)) is;
    }

    from_later : (unit : ℕ) (first : U) (others : List U) (place inner : ℕ) (row : A) → length (rows unit first) ≡ size first
        → place ≡ length (rows unit first) + inner → IsFrom (suc unit) others inner row → IsFrom unit (first ∷ others) place row
    from_later unit first others place inner row long is from = record {
      at = suc from.at;
      one = from.one;
      unit_is = from.unit_is;
      number = from.number;
      place_is = is ∙ ap (λ n. n + inner) long ∙ ap (λ n. size first + n) from.place_is ∙ sym (further_on (size first) (rows_before size from.at others) from.number);
      there = subst (λ n. slice_get (rows n from.one) from.number ≡ Some row) (sym (one_later unit from.at)) from.there;
    }

    row_from_either : (unit : ℕ) (first : U) (others : List U) → length (rows unit first) ≡ size first → (place : ℕ) (row : A)
        → ((number : ℕ) → slice_get (joined rows (suc unit) others) number ≡ Some row → IsFrom (suc unit) others number row)
        → IsEither (rows unit first) (joined rows (suc unit) others) place row → IsFrom unit (first ∷ others) place row
    row_from_either unit first others long place row later (before is) = from_first unit first others place row is
    row_from_either unit first others long place row later (behind number at is) =
        from_later unit first others place number row long at (later number is)

    pub row_from : (unit : ℕ) (units : List U) → All P units → (place : ℕ) (row : A) → slice_get (joined rows unit units) place ≡ Some row
        → IsFrom unit units place row
    row_from unit [] all place row is = absurd cc
    row_from unit (first ∷ others) all place row is =
        row_from_either unit first others (sized unit first (All-head P first others all)) place row
        (λ number there. row_from (suc unit) others (All-tail P first others all) number row there)
        (either_place (rows unit first) (joined rows (suc unit) others) place row is)

    -- as many as all units have
    pub joined_long : (unit : ℕ) (units : List U) → All P units → length (joined rows unit units) ≡ all_rows size units
    joined_long unit [] all = refl
    joined_long unit (first ∷ others) all =
        length-append (rows unit first) (joined rows (suc unit) others)
        ∙ ap (λ n. n + length (joined rows (suc unit) others)) (sized unit first (All-head P first others all))
        ∙ ap (λ n. size first + n) (joined_long (suc unit) others (All-tail P first others all))
