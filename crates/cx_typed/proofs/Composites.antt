-- Composite types are types of their unit, as large as both of which they are made (ISO C99, 6.2.7p3).
use Rattle.std.proofs.Common.{◌≡◌, ℕ, zero, suc, ◌==◌, ◌<◌, ◌/◌, Bool, true, false, ◌||◌, List, [], Option, None, Some, option_map, slice_get, refl, sym, ap, ◌∙◌, subst}
use Rattle.std.specs.Prelude.{IsSome, IfSome}
use Rattle.cr_base.specs.declared.layout.Laid.{Laid}
use Rattle.cx_core.specs.declared.ty.Basic.{Basic}
use Rattle.cx_core.specs.declared.ty.Basic.TheVariants.{Int, Unsigned}
use Rattle.cx_core.specs.Compatible.{agree, forms_agree, params_agree, lists_agree, in_pairs, same_basics, lengths_agree}
use Rattle.cx_core.specs.Conversions.{basic_of_enum, width_of_basic}
use Rattle.cx_core.specs.Layouts.{CLayouts, bytes, elements, array_extent, whole_extent, whole_extent_of, extent, within_most, layouts_of}
use Rattle.cx_core.specs.Trees.{CTy, ty, CTyForm, void, basic, enum_type, pointer, array, record_type, function, CParams, unlisted, listed, CTys, no_types, more_types, CTypes}
use Rattle.cx_core.specs.ValidTypes.{IsTypeIn, IsFormIn, AreParamsIn, AreTypesIn, IsComplete, IsResultForm, IsParamForm, MayVary}
use Rattle.cx_rules.specs.Types.{composite, composite_form, composite_params, composite_types, known_length}
use Rattle.cx_typed.proofs.Fitting.{no_more}
use Rattle.cx_typed.proofs.Growing.{map_gives, some_stays, then_gives}
use Rattle.cx_typed.proofs.Same.{both, basic_is, bool_is, number_is}
use Rattle.cx_typed.specs.Growth.{Gives, IsSettled, IsSettledForm, AreSettledParams, AreSettled}

-- ---- sizes

elements_give : (count : ℕ) (few many : Option Laid) → Gives few many → Gives (elements count few) (elements count many)
elements_give zero few many gives = λ laid is. absurd cc
elements_give (suc n) few many gives = map_gives _ few many gives

first_array : (one other : Option ℕ) (few many : Option Laid) → Gives few many → Gives (array_extent one few) (array_extent (known_length one other) many)
first_array None other few many gives = λ laid is. absurd cc
first_array (Some count) other few many gives = elements_give count few many gives

second_array : (one other : Option ℕ) (few many : Option Laid) → lengths_agree one other ≡ true → Gives few many → Gives (array_extent other few) (array_extent (known_length one other) many)
second_array one None few many agrees gives = λ laid is. absurd cc
second_array None (Some count) few many agrees gives = elements_give count few many gives
second_array (Some other) (Some count) few many agrees gives = λ laid is.
    elements_give other few many gives laid (subst (λ n. elements n few ≡ Some laid) (sym (number_is other count agrees)) is)

module _ (types : CTypes) (layouts : CLayouts) where
  -- an integer type that goes with an enumerated type has its size
  met : (which : Basic) (found : Option Bool) → same_basics (Some which) (option_map basic_of_enum found) ≡ true → bytes 4 ≡ bytes (width_of_basic which / 8)
  met which None is = absurd cc
  met which (Some true) is = sym (ap (λ one. bytes (width_of_basic one / 8)) (basic_is which Int is))
  met which (Some false) is = sym (ap (λ one. bytes (width_of_basic one / 8)) (basic_is which Unsigned is))

  met_back : (which : Basic) (found : Option Bool) → same_basics (option_map basic_of_enum found) (Some which) ≡ true → bytes 4 ≡ bytes (width_of_basic which / 8)
  met_back which None is = absurd cc
  met_back which (Some true) is = ap (λ one. bytes (width_of_basic one / 8)) (basic_is Int which is)
  met_back which (Some false) is = ap (λ one. bytes (width_of_basic one / 8)) (basic_is Unsigned which is)

  mutual
    first_extent : (one other : CTy) → agree types (in_pairs []) one other ≡ true → Gives (whole_extent layouts one) (whole_extent layouts (composite one other))
    first_extent (ty one one_const) (ty other other_const) is = first_form one other (both is).1

    pub first_form : (one other : CTyForm) → forms_agree types (in_pairs []) one other ≡ true → Gives (whole_extent_of layouts one) (whole_extent_of layouts (composite_form one other))
    first_form (basic one) (enum_type other) is = λ laid found. ap Some (met one (slice_get types.enums other) is) ∙ found
    first_form (pointer one) (pointer other) is = λ laid found. found
    first_form (array one one_length) (array other other_length) is =
        first_array one_length other_length (whole_extent layouts one) (whole_extent layouts (composite one other)) (first_extent one other (both is).1)
    first_form (function one one_params one_more) (function other other_params other_more) is = λ laid found. found
    first_form void other is = λ laid found. found
    first_form (basic one) other is = λ laid found. found
    first_form (enum_type one) other is = λ laid found. found
    first_form (pointer one) other is = λ laid found. found
    first_form (array one one_length) other is = λ laid found. found
    first_form (record_type one) other is = λ laid found. found
    first_form (function one one_params one_more) other is = λ laid found. found

  mutual
    second_extent : (one other : CTy) → agree types (in_pairs []) one other ≡ true → Gives (whole_extent layouts other) (whole_extent layouts (composite one other))
    second_extent (ty one one_const) (ty other other_const) is = second_form one other (both is).1

    pub second_form : (one other : CTyForm) → forms_agree types (in_pairs []) one other ≡ true → Gives (whole_extent_of layouts other) (whole_extent_of layouts (composite_form one other))
    second_form void void is = λ laid found. found
    second_form (basic one) (basic other) is = λ laid found. ap (λ which. Some (bytes (width_of_basic which / 8))) (basic_is one other is) ∙ found
    second_form (basic one) (enum_type other) is = λ laid found. found
    second_form (enum_type one) (basic other) is = λ laid found. ap Some (met_back other (slice_get types.enums one) is) ∙ found
    second_form (enum_type one) (enum_type other) is = λ laid found. found
    second_form (pointer one) (pointer other) is = λ laid found. found
    second_form (array one one_length) (array other other_length) is =
        second_array one_length other_length (whole_extent layouts other) (whole_extent layouts (composite one other)) (both is).0 (second_extent one other (both is).1)
    second_form (record_type one) (record_type other) is = λ laid found.
        ap (λ number. whole_extent_of layouts (record_type number)) (number_is one other (no_more (one == other) is)) ∙ found
    second_form (function one one_params one_more) (function other other_params other_more) is = λ laid found. found
    second_form one other is = absurd cc

pub complete_from : (layouts : CLayouts) (one other : CTy) → Gives (whole_extent layouts one) (whole_extent layouts other) → IsSome (extent layouts one) → IsSome (extent layouts other)
complete_from layouts one other gives is =
    some_stays (extent layouts one) (extent layouts other)
    (then_gives within_most within_most (whole_extent layouts one) (whole_extent layouts other) gives (λ laid found held. held)) is

-- ---- forms

result_of : (types : CTypes) (one other : CTyForm) → forms_agree types (in_pairs []) one other ≡ true → IsResultForm one → IsResultForm (composite_form one other)
result_of types (basic one) (enum_type other) is held = tt
result_of types (pointer one) (pointer other) is held = tt
result_of types (array one one_length) (array other other_length) is held = absurd held
result_of types (function one one_params one_more) (function other other_params other_more) is held = absurd held
result_of types void other is held = held
result_of types (basic one) other is held = held
result_of types (enum_type one) other is held = held
result_of types (pointer one) other is held = held
result_of types (array one one_length) other is held = absurd held
result_of types (record_type one) other is held = held
result_of types (function one one_params one_more) other is held = absurd held

param_of : (types : CTypes) (one other : CTyForm) → forms_agree types (in_pairs []) one other ≡ true → IsParamForm one → IsParamForm (composite_form one other)
param_of types (basic one) (enum_type other) is held = tt
param_of types (pointer one) (pointer other) is held = tt
param_of types (array one one_length) (array other other_length) is held = absurd held
param_of types (function one one_params one_more) (function other other_params other_more) is held = absurd held
param_of types void other is held = absurd held
param_of types (basic one) other is held = held
param_of types (enum_type one) other is held = held
param_of types (pointer one) other is held = held
param_of types (array one one_length) other is held = absurd held
param_of types (record_type one) other is held = held
param_of types (function one one_params one_more) other is held = absurd held

may_vary : (ones others : CTys) (variadic : Bool) → MayVary ones variadic → MayVary (composite_types ones others) variadic
may_vary no_types others variadic held = held
may_vary (more_types one ones) no_types variadic held = held
may_vary (more_types one ones) (more_types other others) variadic held = tt

or_false : (a b : Bool) → a ≡ false → (a || b) ≡ b
or_false false b is = refl
or_false true b is = absurd cc

or_same : (a b : Bool) → a ≡ b → (a || b) ≡ a
or_same true b is = refl
or_same false b is = sym is

-- ---- types of the unit

module _ (types : CTypes) (unit : ℕ) where
  length_of : (one other : CTy) (one_length other_length : Option ℕ) → agree types (in_pairs []) one other ≡ true → lengths_agree one_length other_length ≡ true
      → IfSome one_length (λ count. (0 < count) × IsComplete types (ty (array one one_length) false))
      → IfSome other_length (λ count. (0 < count) × IsComplete types (ty (array other other_length) false))
      → IfSome (known_length one_length other_length) (λ count. (0 < count) × IsComplete types (ty (array (composite one other) (known_length one_length other_length)) false))
  length_of one other (Some count) other_length is agrees first second = (
    first.0,
    complete_from (layouts_of types) (ty (array one (Some count)) false) (ty (array (composite one other) (Some count)) false)
        (first_array (Some count) other_length (whole_extent (layouts_of types) one) (whole_extent (layouts_of types) (composite one other)) (first_extent types (layouts_of types) one other is)) first.1,
  )
  length_of one other None (Some count) is agrees first second = (
    second.0,
    complete_from (layouts_of types) (ty (array other (Some count)) false) (ty (array (composite one other) (Some count)) false)
        (elements_give count (whole_extent (layouts_of types) other) (whole_extent (layouts_of types) (composite one other)) (second_extent types (layouts_of types) one other is)) second.1,
  )
  length_of one other None None is agrees first second = first

  mutual
    pub composite_in : (one other : CTy) → agree types (in_pairs []) one other ≡ true → IsTypeIn types unit one → IsTypeIn types unit other → IsTypeIn types unit (composite one other)
    composite_in (ty one one_const) (ty other other_const) is first second = form_in one_const other_const one other (both is).1 first second

    pub form_in : (one_const other_const : Bool) (one other : CTyForm) → forms_agree types (in_pairs []) one other ≡ true
        → IsFormIn types unit one_const one → IsFormIn types unit other_const other → IsFormIn types unit one_const (composite_form one other)
    form_in one_const other_const (basic one) (enum_type other) is first second = second
    form_in one_const other_const (pointer one) (pointer other) is first second = composite_in one other is first second
    form_in one_const other_const (array one one_length) (array other other_length) is first second = (
      composite_in one other (both is).1 first.0 second.0,
      record {
        plain = first.1.plain;
        complete = complete_from (layouts_of types) one (composite one other) (first_extent types (layouts_of types) one other (both is).1) first.1.complete;
        length = length_of one other one_length other_length (both is).1 (both is).0 first.1.length second.1.length;
      },
    )
    form_in one_const other_const (function (ty one one_result) one_params one_more) (function (ty other other_result) other_params other_more) is first second = (
      composite_in (ty one one_result) (ty other other_result) (both is).0 first.0 second.0,
      result_of types one other (both (both is).0).1 first.1,
      params_in one_more other_more one_params other_params (both is).1 first.2 second.2,
    )
    form_in one_const other_const void other is first second = first
    form_in one_const other_const (basic one) other is first second = first
    form_in one_const other_const (enum_type one) other is first second = first
    form_in one_const other_const (pointer one) other is first second = first
    form_in one_const other_const (array one one_length) other is first second = first
    form_in one_const other_const (record_type one) other is first second = first
    form_in one_const other_const (function one one_params one_more) other is first second = first

    params_in : (one_more other_more : Bool) (ones others : CParams) → params_agree types (in_pairs []) ones one_more others other_more ≡ true
        → AreParamsIn types unit one_more ones → AreParamsIn types unit other_more others → AreParamsIn types unit (one_more || other_more) (composite_params ones others)
    params_in one_more other_more unlisted unlisted is first second = or_false one_more other_more first ∙ second
    params_in one_more other_more unlisted (listed others) is first second =
        subst (λ more. AreParamsIn types unit more (listed others)) (sym (or_false one_more other_more first)) second
    params_in one_more other_more (listed ones) unlisted is first second =
        subst (λ more. AreParamsIn types unit more (listed ones)) (sym (or_same_false one_more other_more second)) first
      where
        or_same_false : (a b : Bool) → b ≡ false → (a || b) ≡ a
        or_same_false true b held = refl
        or_same_false false b held = held
    params_in one_more other_more (listed ones) (listed others) is first second =
        subst (λ more. AreParamsIn types unit more (listed (composite_types ones others))) (sym (or_same one_more other_more (bool_is one_more other_more (both is).0)))
        (may_vary ones others one_more first.0, types_in ones others (both is).1 first.1 second.1)

    types_in : (ones others : CTys) → lists_agree types (in_pairs []) ones others ≡ true → AreTypesIn types unit ones → AreTypesIn types unit others → AreTypesIn types unit (composite_types ones others)
    types_in no_types others is first second = tt
    types_in (more_types (ty one one_const) ones) (more_types (ty other other_const) others) is first second =
        (form_in one_const other_const one other (both is).0 first.0 second.0, param_of types one other (both is).0 first.1, types_in ones others (both is).1 first.2 second.2)
    types_in (more_types one ones) no_types is first second = first

-- ---- no enumerated type whose list hasn't ended

module _ (opens : List ℕ) where
  mutual
    pub composite_settled : (one other : CTy) → IsSettled opens one → IsSettled opens other → IsSettled opens (composite one other)
    composite_settled (ty one one_const) (ty other other_const) first second = form_settled one other first second

    pub form_settled : (one other : CTyForm) → IsSettledForm opens one → IsSettledForm opens other → IsSettledForm opens (composite_form one other)
    form_settled (basic one) (enum_type other) first second = second
    form_settled (pointer one) (pointer other) first second = composite_settled one other first second
    form_settled (array one one_length) (array other other_length) first second = composite_settled one other first second
    form_settled (function one one_params one_more) (function other other_params other_more) first second =
        (composite_settled one other first.0 second.0, params_settled one_params other_params first.1 second.1)
    form_settled void other first second = first
    form_settled (basic one) other first second = first
    form_settled (enum_type one) other first second = first
    form_settled (pointer one) other first second = first
    form_settled (array one one_length) other first second = first
    form_settled (record_type one) other first second = first
    form_settled (function one one_params one_more) other first second = first

    params_settled : (ones others : CParams) → AreSettledParams opens ones → AreSettledParams opens others → AreSettledParams opens (composite_params ones others)
    params_settled unlisted unlisted first second = first
    params_settled unlisted (listed others) first second = second
    params_settled (listed ones) unlisted first second = first
    params_settled (listed ones) (listed others) first second = types_settled ones others first second

    types_settled : (ones others : CTys) → AreSettled opens ones → AreSettled opens others → AreSettled opens (composite_types ones others)
    types_settled no_types others first second = first
    types_settled (more_types one ones) (more_types other others) first second = (composite_settled one other first.0 second.0, types_settled ones others first.1 second.1)
    types_settled (more_types one ones) no_types first second = first
