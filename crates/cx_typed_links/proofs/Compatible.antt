-- Types of a unit that are compatible are so in the program (ISO C99, 6.2.7): all records of a unit are of one unit, so that none of them counts as
-- compatible with another.
use Rattle.std.proofs.Common.{◌≡◌, ℕ, zero, suc, ◌+◌, ◌==◌, not, Bool, true, false, ◌||◌, ◌&&◌, List, [], ◌∷◌, All, Option, None, Some, slice_get, refl, sym, ap, ◌∙◌, arith, subst}
use Rattle.std.specs.List.{list_all}
use Rattle.std.proofs.lemmas.Bool.Decides.{nat_tests}
use Rattle.std.proofs.lemmas.List.Elements.{All-head, All-tail}
use Rattle.cx_core.specs.declared.ty.Basic.{Basic}
use Rattle.cx_core.specs.Compatible.{agree, forms_agree, params_agree, lists_agree, in_pairs, meet_in_basic, same_basics, enums_agree, of_two_units, are_of_two, pair_agrees, is_kept_by_promotions, are_kept_by_promotions, AreCompatible}
use Rattle.cx_core.specs.Conversions.{basic_of}
use Rattle.cx_core.specs.Trees.{CTy, ty, CTyForm, void, basic, enum_type, pointer, array, record_type, function, CParams, unlisted, listed, CTys, no_types, more_types, CTypes}
use Rattle.cx_renumber.specs.Numbers.{CCounts, type_there, form_there, params_there, types_there}
use Rattle.cx_typed_links.proofs.Types.{basic_there}
use Rattle.cx_typed_links.specs.Embedding.{Gives, IsInside, AreUnitTypes}

-- ---- tests

pub both : {a b : Bool} → (a && b) ≡ true → (a ≡ true) × (b ≡ true)
both {a = true} {b = true} is = (refl, refl)
both {a = true} {b = false} is = absurd cc
both {a = false} {b = b} is = absurd cc

pub together_true : {a b : Bool} → a ≡ true → b ≡ true → (a && b) ≡ true
together_true {a = true} {b = b} first second = second
together_true {a = false} {b = b} first second = absurd cc

basics_stay : (first second more others : Option Basic) → Gives first more → Gives second others → same_basics first second ≡ true → same_basics more others ≡ true
basics_stay None second more others gives also is = absurd cc
basics_stay (Some one) None more others gives also is = absurd cc
basics_stay (Some one) (Some other) more others gives also is =
    ap (λ found. same_basics found others) (gives one refl) ∙ ap (same_basics (Some one)) (also other refl) ∙ is

units_stay : (first second more others : Option ℕ) → Gives first more → Gives second others → are_of_two first second ≡ true → are_of_two more others ≡ true
units_stay None second more others gives also is = absurd cc
units_stay (Some one) None more others gives also is = absurd cc
units_stay (Some one) (Some other) more others gives also is =
    ap (λ found. are_of_two found others) (gives one refl) ∙ ap (are_of_two (Some one)) (also other refl) ∙ is

either_stays : (a b c d : Bool) → (a ≡ true → c ≡ true) → (b ≡ true → d ≡ true) → (a || b) ≡ true → (c || d) ≡ true
either_stays true b c d first second is = ap (λ held. held || d) (first refl)
either_stays false b true d first second is = refl
either_stays false b false d first second is = second is

-- numbers that are the same are so behind the same numbers
same_moved : (base first second : ℕ) → (first == second) ≡ true → (base + first == base + second) ≡ true
same_moved base first second is = grind (arith, nat_tests, is)

module _ (before : CCounts) (one whole : CTypes) (inside : IsInside before one whole) where
  -- ---- types, where no records count as compatible

  meet_there : (first second : CTyForm) → meet_in_basic one first second ≡ true → meet_in_basic whole (form_there before first) (form_there before second) ≡ true
  meet_there first second =
      basics_stay (basic_of one first) (basic_of one second) (basic_of whole (form_there before first)) (basic_of whole (form_there before second))
      (basic_there before one whole inside first) (basic_there before one whole inside second)

  enums_there : (first second : ℕ) → enums_agree one first second ≡ true → enums_agree whole (before.enums + first) (before.enums + second) ≡ true
  enums_there first second = either_stays (first == second)
      (of_two_units one.enum_units first second && meet_in_basic one (enum_type first) (enum_type second))
      (before.enums + first == before.enums + second)
      (of_two_units whole.enum_units (before.enums + first) (before.enums + second)
      && meet_in_basic whole (enum_type (before.enums + first)) (enum_type (before.enums + second)))
      (same_moved before.enums first second)
      (λ is. together_true
      (units_stay (slice_get one.enum_units first) (slice_get one.enum_units second)
      (slice_get whole.enum_units (before.enums + first)) (slice_get whole.enum_units (before.enums + second))
      (inside.enum_units first) (inside.enum_units second) (both is).0)
      (meet_there (enum_type first) (enum_type second) (both is).1))

  records_there : (first second : ℕ) → ((first == second) || false) ≡ true → ((before.records + first == before.records + second) || false) ≡ true
  records_there first second =
      either_stays (first == second) false (before.records + first == before.records + second) false (same_moved before.records first second) (λ is. is)

  kept_form_there : (form : CTyForm) → is_kept_by_promotions (form_there before form) ≡ is_kept_by_promotions form
  kept_form_there void = refl
  kept_form_there (basic which) = refl
  kept_form_there (enum_type number) = refl
  kept_form_there (pointer to) = refl
  kept_form_there (array element length) = refl
  kept_form_there (record_type number) = refl
  kept_form_there (function result params variadic) = refl

  kept_there : (types : CTys) → are_kept_by_promotions (types_there before types) ≡ are_kept_by_promotions types
  kept_there no_types = refl
  kept_there (more_types (ty form is_const) others) =
      ap (λ held. held && are_kept_by_promotions (types_there before others)) (kept_form_there form)
      ∙ ap (λ held. is_kept_by_promotions form && held) (kept_there others)

  mutual
    pub agree_there : (first second : CTy) → agree one (in_pairs []) first second ≡ true
        → agree whole (in_pairs []) (type_there before first) (type_there before second) ≡ true
    agree_there (ty first first_const) (ty second second_const) is = together_true (both is).0 (forms_agree_there first second (both is).1)

    forms_agree_there : (first second : CTyForm) → forms_agree one (in_pairs []) first second ≡ true
        → forms_agree whole (in_pairs []) (form_there before first) (form_there before second) ≡ true
    forms_agree_there void void is = is
    forms_agree_there (basic first) (basic second) is = is
    forms_agree_there (basic first) (enum_type second) is = meet_there (basic first) (enum_type second) is
    forms_agree_there (enum_type first) (basic second) is = meet_there (enum_type first) (basic second) is
    forms_agree_there (enum_type first) (enum_type second) is = enums_there first second is
    forms_agree_there (pointer first) (pointer second) is = agree_there first second is
    forms_agree_there (array first first_length) (array second second_length) is = together_true (both is).0 (agree_there first second (both is).1)
    forms_agree_there (record_type first) (record_type second) is = records_there first second is
    forms_agree_there (function first first_params first_more) (function second second_params second_more) is =
        together_true (agree_there first second (both is).0) (params_agree_there first_params first_more second_params second_more (both is).1)
    forms_agree_there first second is = is

    params_agree_there : (first : CParams) (first_more : Bool) (second : CParams) (second_more : Bool)
        → params_agree one (in_pairs []) first first_more second second_more ≡ true
        → params_agree whole (in_pairs []) (params_there before first) first_more (params_there before second) second_more ≡ true
    params_agree_there unlisted first_more unlisted second_more is = is
    params_agree_there unlisted first_more (listed types) second_more is = ap (λ held. not second_more && held) (kept_there types) ∙ is
    params_agree_there (listed types) first_more unlisted second_more is = ap (λ held. not first_more && held) (kept_there types) ∙ is
    params_agree_there (listed first) first_more (listed second) second_more is = together_true (both is).0 (lists_agree_there first second (both is).1)

    lists_agree_there : (first second : CTys) → lists_agree one (in_pairs []) first second ≡ true
        → lists_agree whole (in_pairs []) (types_there before first) (types_there before second) ≡ true
    lists_agree_there no_types no_types is = is
    lists_agree_there (more_types (ty first first_const) firsts) (more_types (ty second second_const) seconds) is =
        together_true (forms_agree_there first second (both is).0) (lists_agree_there firsts seconds (both is).1)
    lists_agree_there no_types (more_types second seconds) is = is
    lists_agree_there (more_types (ty first first_const) firsts) no_types is = is

-- ---- no two records of one unit count as compatible

same_number : (n : ℕ) → not (n == n) ≡ true → ⊥
same_number n is = grind (arith, nat_tests, is)

unit_of : (unit : ℕ) (units : List ℕ) (number known : ℕ) → All (λ other. other ≡ unit) units → slice_get units number ≡ Some known → known ≡ unit
unit_of unit [] number known all is = absurd cc
unit_of unit (first ∷ others) zero known all is = (let h : first ≡ known = cc (is) in sym h) ∙ All-head (λ other. other ≡ unit) first others all
unit_of unit (first ∷ others) (suc n) known all is = unit_of unit others n known (All-tail (λ other. other ≡ unit) first others all) is

of_one : (unit : ℕ) (first second : Option ℕ) → ((known : ℕ) → first ≡ Some known → known ≡ unit) → ((known : ℕ) → second ≡ Some known → known ≡ unit)
    → are_of_two first second ≡ true → ⊥
of_one unit None second here also is = absurd cc
of_one unit (Some one) None here also is = absurd cc
of_one unit (Some one) (Some other) here also is =
    same_number unit (subst (λ n. not (n == unit) ≡ true) (here one refl) (subst (λ n. not (one == n) ≡ true) (also other refl) is))

none_passes : {P : Type 0} (test : P → Bool) (pairs : List P) → ((pair : P) → test pair ≡ true → ⊥) → list_all test pairs ≡ true → pairs ≡ []
none_passes test [] fails all = refl
none_passes test (pair ∷ pairs) fails all = absurd (fails pair (both all).0)

pub none_of_two : (unit : ℕ) (units : List ℕ) → All (λ number. number ≡ unit) units → (first second : ℕ) → of_two_units units first second ≡ true → ⊥
none_of_two unit units all first second = of_one unit (slice_get units first) (slice_get units second)
    (λ known is. unit_of unit units first known all is)
    (λ known is. unit_of unit units second known all is)

-- ---- compatible types

pub compatible_there : (unit : ℕ) (before : CCounts) (one whole : CTypes) → AreUnitTypes unit before one whole → (first second : CTy)
    → AreCompatible one first second → AreCompatible whole (type_there before first) (type_there before second)
compatible_there unit before one whole in_unit first second held = record {
  pairs = [];
  good = refl;
  meet = agree_there before one whole in_unit.inside first second
      (subst (λ pairs. agree one (in_pairs pairs) first second ≡ true)
      (none_passes (pair_agrees one (in_pairs held.pairs)) held.pairs
      (λ pair is. none_of_two unit one.record_units in_unit.records_here pair.first pair.second (both is).0) held.good)
      held.meet);
}
