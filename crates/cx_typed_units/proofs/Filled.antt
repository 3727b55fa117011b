-- A composite type says no less than either of its parts (ISO C99, 6.2.7p3).
use Rattle.std.proofs.Common.{◌≡◌, ℕ, ◌==◌, Bool, true, false, not, ◌&&◌, ◌||◌, List, [], Option, None, Some, slice_get, refl, sym, ◌∙◌, subst, arith}
use Rattle.std.proofs.lemmas.Bool.Decides.{nat_tests}
use Rattle.cx_core.specs.declared.ty.Basic.{Basic}
use Rattle.cx_core.specs.Compatible.{agree, forms_agree, params_agree, lists_agree, lengths_agree, of_two_units, are_of_two, meet_in_basic, same_basics, in_pairs}
use Rattle.cx_core.specs.Conversions.{basic_of, same_basic}
use Rattle.cx_core.specs.Trees.{CTy, ty, CTyForm, void, basic, enum_type, pointer, array, record_type, function, CParams, unlisted, listed, CTys, no_types, more_types, CTypes}
use Rattle.cx_core.specs.ValidTypes.{IsTypeIn, IsFormIn, AreParamsIn, AreTypesIn}
use Rattle.cx_rules.specs.Types.{composite, composite_form, composite_params, composite_types, known_length}
use Rattle.cx_typed.proofs.Same.{both, basic_is, bool_is, number_is}
use Rattle.cx_typed.proofs.Stays.{agree_stays}
use Rattle.cx_typed.specs.Growth.{Grows, IsSettled, IsSettledForm, AreSettledParams, AreSettled}
use Rattle.cx_typed_units.proofs.Covering.{basic_itself, form_itself, types_itself}
use Rattle.cx_typed_units.specs.Covers.{Covers, CoversForm, CoversParams, CoversTypes, CoversLength}

meet_back : (found : Option Basic) (one : Basic) → same_basics found (Some one) ≡ true → same_basics (Some one) found ≡ true
meet_back None one held = absurd cc
meet_back (Some which) one held = subst (λ x. same_basic one x ≡ true) (sym (basic_is which one held)) (basic_itself one)

-- ---- lengths

length_first : (one other : Option ℕ) → CoversLength (known_length one other) one
length_first (Some count) other = refl
length_first None other = tt

length_second : (one other : Option ℕ) → lengths_agree one other ≡ true → CoversLength (known_length one other) other
length_second one None is = tt
length_second (Some one) (Some other) is = number_is one other is
length_second None (Some other) is = refl

unit_apart : (n : ℕ) (same : Bool) → (n == n) ≡ same → not same ≡ true → ⊥
unit_apart n true is held = absurd cc
unit_apart n false is held = let h : (n == n) ≡ true = grind (arith, nat_tests) in let k : true ≡ false = sym h ∙ is in absurd cc

not_true : (a : Bool) → not a ≡ true → a ≡ false
not_true true is = absurd cc
not_true false is = refl

or_none : (a b : Bool) → a ≡ false → b ≡ false → (a || b) ≡ false
or_none true b first second = absurd cc
or_none false b first second = second

or_first : (a b : Bool) → b ≡ false → (a || b) ≡ a
or_first true b held = refl
or_first false b held = held

or_second : (a b : Bool) → a ≡ false → (a || b) ≡ b
or_second true b held = absurd cc
or_second false b held = refl

or_same : (a b : Bool) → a ≡ b → (a || b) ≡ a
or_same true b held = refl
or_same false b held = sym held

or_nothing : (a : Bool) → (a || false) ≡ true → a ≡ true
or_nothing true held = refl
or_nothing false held = held

module _ (opens : List ℕ) (before now : CTypes) (grows : Grows opens before now) (unit : ℕ) where
  -- ---- enumerated types

  same_enums : (one other : ℕ) (same : Bool) → (one == other) ≡ same → slice_get before.enum_units one ≡ Some unit → slice_get before.enum_units other ≡ Some unit
      → (same || (of_two_units before.enum_units one other && meet_in_basic before (enum_type one) (enum_type other))) ≡ true → one ≡ other
  same_enums one other true is first second held = number_is one other is
  same_enums one other false is first second held =
      let differs : are_of_two (Some unit) (Some unit) ≡ true =
      subst (λ x. are_of_two x (Some unit) ≡ true) first (subst (λ x. are_of_two (slice_get before.enum_units one) x ≡ true) second (both held).0) in
      absurd (unit_apart unit (unit == unit) refl differs)

  meets_now : (which : Basic) (number : ℕ) → IsSettledForm opens (enum_type number) → same_basics (Some which) (basic_of before (enum_type number)) ≡ true
      → same_basics (Some which) (basic_of now (enum_type number)) ≡ true
  meets_now which number settled held = agree_stays opens before now grows (ty (basic which) false) (ty (enum_type number) false) tt settled held

  -- ---- the first part

  mutual
    pub first_type : (one other : CTy) → IsTypeIn before unit one → IsTypeIn before unit other → IsSettled opens one → IsSettled opens other
        → agree before (in_pairs []) one other ≡ true → Covers now (composite one other) one
    first_type (ty one one_const) (ty other other_const) i1 i2 s1 s2 is = (refl, first_form one other one_const other_const i1 i2 s1 s2 (both is).1)

    first_form : (one other : CTyForm) (one_const other_const : Bool) → IsFormIn before unit one_const one → IsFormIn before unit other_const other → IsSettledForm opens one → IsSettledForm opens other
        → forms_agree before (in_pairs []) one other ≡ true → CoversForm now (composite_form one other) one
    first_form (basic one) (enum_type other) one_const other_const i1 i2 s1 s2 is = meets_now one other s2 is
    first_form (pointer one) (pointer other) one_const other_const i1 i2 s1 s2 is = first_type one other i1 i2 s1 s2 is
    first_form (array one one_length) (array other other_length) one_const other_const i1 i2 s1 s2 is =
        (length_first one_length other_length, first_type one other i1.0 i2.0 s1 s2 (both is).1)
    first_form (function one ones one_more) (function other others other_more) one_const other_const i1 i2 s1 s2 is =
        (first_type one other i1.0 i2.0 s1.0 s2.0 (both is).0, first_params ones others one_more other_more i1.2 i2.2 s1.1 s2.1 (both is).1)
    first_form void other one_const other_const i1 i2 s1 s2 is = tt
    first_form (basic one) other one_const other_const i1 i2 s1 s2 is = refl
    first_form (enum_type one) other one_const other_const i1 i2 s1 s2 is = refl
    first_form (pointer one) other one_const other_const i1 i2 s1 s2 is = form_itself now (pointer one)
    first_form (array one one_length) other one_const other_const i1 i2 s1 s2 is = form_itself now (array one one_length)
    first_form (record_type one) other one_const other_const i1 i2 s1 s2 is = refl
    first_form (function one ones one_more) other one_const other_const i1 i2 s1 s2 is = form_itself now (function one ones one_more)

    first_params : (ones others : CParams) (one_more other_more : Bool) → AreParamsIn before unit one_more ones → AreParamsIn before unit other_more others
        → AreSettledParams opens ones → AreSettledParams opens others → params_agree before (in_pairs []) ones one_more others other_more ≡ true
        → CoversParams now (composite_params ones others) (one_more || other_more) ones one_more
    first_params unlisted unlisted one_more other_more i1 i2 s1 s2 is = or_first one_more other_more i2
    first_params unlisted (listed others) one_more other_more i1 i2 s1 s2 is = (or_none one_more other_more i1 (not_true other_more (both is).0), (both is).1)
    first_params (listed ones) unlisted one_more other_more i1 i2 s1 s2 is = (or_first one_more other_more i2, types_itself now ones)
    first_params (listed ones) (listed others) one_more other_more i1 i2 s1 s2 is =
        (or_same one_more other_more (bool_is one_more other_more (both is).0), first_lists ones others i1.1 i2.1 s1 s2 (both is).1)

    first_lists : (ones others : CTys) → AreTypesIn before unit ones → AreTypesIn before unit others → AreSettled opens ones → AreSettled opens others
        → lists_agree before (in_pairs []) ones others ≡ true → CoversTypes now (composite_types ones others) ones
    first_lists no_types others i1 i2 s1 s2 is = tt
    first_lists (more_types (ty one one_const) ones) (more_types (ty other other_const) others) i1 i2 s1 s2 is =
        (first_form one other one_const other_const i1.0 i2.0 s1.0 s2.0 (both is).0, first_lists ones others i1.2 i2.2 s1.1 s2.1 (both is).1)
    first_lists (more_types (ty one one_const) ones) no_types i1 i2 s1 s2 is = absurd cc

  -- ---- the second part

  mutual
    pub second_type : (one other : CTy) → IsTypeIn before unit one → IsTypeIn before unit other → IsSettled opens one → IsSettled opens other
        → agree before (in_pairs []) one other ≡ true → Covers now (composite one other) other
    second_type (ty one one_const) (ty other other_const) i1 i2 s1 s2 is = (bool_is one_const other_const (both is).0, second_form one other one_const other_const i1 i2 s1 s2 (both is).1)

    second_form : (one other : CTyForm) (one_const other_const : Bool) → IsFormIn before unit one_const one → IsFormIn before unit other_const other → IsSettledForm opens one → IsSettledForm opens other
        → forms_agree before (in_pairs []) one other ≡ true → CoversForm now (composite_form one other) other
    second_form void void one_const other_const i1 i2 s1 s2 is = tt
    second_form (basic one) (basic other) one_const other_const i1 i2 s1 s2 is = basic_is one other is
    second_form (basic one) (enum_type other) one_const other_const i1 i2 s1 s2 is = refl
    second_form (enum_type one) (basic other) one_const other_const i1 i2 s1 s2 is = meets_now other one s1 (meet_back (basic_of before (enum_type one)) other is)
    second_form (enum_type one) (enum_type other) one_const other_const i1 i2 s1 s2 is = same_enums one other (one == other) refl i1 i2 is
    second_form (record_type one) (record_type other) one_const other_const i1 i2 s1 s2 is = number_is one other (or_nothing (one == other) is)
    second_form (pointer one) (pointer other) one_const other_const i1 i2 s1 s2 is = second_type one other i1 i2 s1 s2 is
    second_form (array one one_length) (array other other_length) one_const other_const i1 i2 s1 s2 is =
        (length_second one_length other_length (both is).0, second_type one other i1.0 i2.0 s1 s2 (both is).1)
    second_form (function one ones one_more) (function other others other_more) one_const other_const i1 i2 s1 s2 is =
        (second_type one other i1.0 i2.0 s1.0 s2.0 (both is).0, second_params ones others one_more other_more i1.2 i2.2 s1.1 s2.1 (both is).1)
    second_form one other one_const other_const i1 i2 s1 s2 is = absurd cc

    second_params : (ones others : CParams) (one_more other_more : Bool) → AreParamsIn before unit one_more ones → AreParamsIn before unit other_more others
        → AreSettledParams opens ones → AreSettledParams opens others → params_agree before (in_pairs []) ones one_more others other_more ≡ true
        → CoversParams now (composite_params ones others) (one_more || other_more) others other_more
    second_params unlisted unlisted one_more other_more i1 i2 s1 s2 is = or_second one_more other_more i1
    second_params unlisted (listed others) one_more other_more i1 i2 s1 s2 is = (or_second one_more other_more i1, types_itself now others)
    second_params (listed ones) unlisted one_more other_more i1 i2 s1 s2 is = (or_none one_more other_more (not_true one_more (both is).0) i2, (both is).1)
    second_params (listed ones) (listed others) one_more other_more i1 i2 s1 s2 is =
        let same : one_more ≡ other_more = bool_is one_more other_more (both is).0 in
        (or_same one_more other_more same ∙ same, second_lists ones others i1.1 i2.1 s1 s2 (both is).1)

    second_lists : (ones others : CTys) → AreTypesIn before unit ones → AreTypesIn before unit others → AreSettled opens ones → AreSettled opens others
        → lists_agree before (in_pairs []) ones others ≡ true → CoversTypes now (composite_types ones others) others
    second_lists no_types no_types i1 i2 s1 s2 is = tt
    second_lists no_types (more_types other others) i1 i2 s1 s2 is = absurd cc
    second_lists (more_types (ty one one_const) ones) (more_types (ty other other_const) others) i1 i2 s1 s2 is =
        (second_form one other one_const other_const i1.0 i2.0 s1.0 s2.0 (both is).0, second_lists ones others i1.2 i2.2 s1.1 s2.1 (both is).1)
    second_lists (more_types (ty one one_const) ones) no_types i1 i2 s1 s2 is = absurd cc
