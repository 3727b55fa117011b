-- The types of declarators that break no rule are known (ISO C99, 6.7.5).
use Rattle.std.proofs.Common.{◌≡◌, ℕ, zero, suc, ◌<◌, Bool, true, false, ◌&&◌, not, List, [], ◌∷◌, Option, None, Some, is_some, refl, arith}
use Rattle.std.specs.Prelude.{IsSome, IfSome}
use Rattle.std.specs.Option.{option_and_then}
use Rattle.cr_base.specs.declared.layout.Laid.{Laid}
use Rattle.cx_core.specs.Layouts.{CLayouts, layouts_of, elements, whole_extent, within_most}
use Rattle.cx_core.specs.Trees.{CTy, ty, void, basic, enum_type, pointer, array, record_type, function, form_of_type, CTypes}
use Rattle.cx_core.specs.ValidTypes.{IsComplete, IsResultForm, IsArrayOf}
use Rattle.cx_rules.specs.Shapes.{CStep, to_pointer, to_array, to_function, step_on, derived, of_incomplete, of_function, some_step}
use Rattle.cx_rules.specs.Types.{is_array, is_function, is_incomplete, has_size, exceeds, too_large}
use Rattle.cx_typed.proofs.Called.{within_is}
use Rattle.cx_typed.proofs.Promoted.{neither, not_not}
use Rattle.cx_typed.specs.Derived.{IsKnownStep, AreKnownSteps, DerivedTypesAreKnown}
use Rattle.cx_typed.specs.Operands.{IsKnownType}

-- ---- sizes

-- what a type is derived from isn't too large where it isn't
small_inner : (layouts : CLayouts) (type : CTy) (step : CStep) → too_large layouts (step_on type step) ≡ false → too_large layouts type ≡ false
small_inner layouts type (to_pointer is_const is_restrict) small = small
small_inner layouts type (to_array length) small = (neither small).1
small_inner layouts type (to_function params variadic within) small = small

small_before : (layouts : CLayouts) (type : CTy) (steps : List CStep) → too_large layouts (derived type steps) ≡ false → too_large layouts type ≡ false
small_before layouts type [] small = small
small_before layouts type (step ∷ steps) small = small_inner layouts type step (small_before layouts (step_on type step) steps small)

pub small_whole : (layouts : CLayouts) (type : CTy) → too_large layouts type ≡ false → exceeds (whole_extent layouts type) ≡ false
small_whole layouts (ty form is_const) small = (neither small).0

pub fits_by : (found : Option Laid) → is_some found ≡ true → exceeds found ≡ false → IsSome (option_and_then within_most found)
fits_by None some small = absurd cc
fits_by (Some laid) some small = within_is laid (not_not small)

pub elements_some : (count : ℕ) (found : Option Laid) → 0 < count → is_some found ≡ true → is_some (elements count found) ≡ true
elements_some zero found more some = absurd (omega arith)
elements_some (suc n) None more some = absurd cc
elements_some (suc n) (Some laid) more some = refl

pub sized_by : (of_code : Bool) (sized : Bool) → of_code ≡ false → (not of_code && not sized) ≡ false → sized ≡ true
sized_by false true is fine = refl
sized_by false false is fine = absurd cc
sized_by true sized is fine = absurd cc

module _ (types : CTypes) where
  element_complete : (element : CTy) → is_function element ≡ false → is_incomplete types element ≡ false → too_large (layouts_of types) element ≡ false → IsComplete types element
  element_complete element no_code complete small =
      fits_by (whole_extent (layouts_of types) element) (sized_by (is_function element) (has_size types element) no_code complete) (small_whole (layouts_of types) element small)

  array_of : (element : CTy) (length : Option ℕ) → IfSome length (λ count. 0 < count) → is_function element ≡ false → is_incomplete types element ≡ false
      → too_large (layouts_of types) (ty (array element length) false) ≡ false → IsArrayOf types false element length
  array_of element None some no_code complete small = record { plain = refl; complete = element_complete element no_code complete small; length = tt }
  array_of element (Some count) some no_code complete small = record {
    plain = refl;
    complete = element_complete element no_code complete (neither small).1;
    length = (
      some,
      fits_by (elements count (whole_extent (layouts_of types) element))
          (elements_some count (whole_extent (layouts_of types) element) some (sized_by (is_function element) (has_size types element) no_code complete)) (neither small).0,
    );
  }

result_form : (type : CTy) → is_function type ≡ false → is_array type ≡ false → IsResultForm (form_of_type type)
result_form (ty void is_const) no_code no_array = tt
result_form (ty (basic which) is_const) no_code no_array = tt
result_form (ty (enum_type number) is_const) no_code no_array = tt
result_form (ty (pointer to) is_const) no_code no_array = tt
result_form (ty (array element length) is_const) no_code no_array = absurd cc
result_form (ty (record_type number) is_const) no_code no_array = tt
result_form (ty (function result params variadic) is_const) no_code no_array = absurd cc

-- ---- steps

module _ (opens : List ℕ) (types : CTypes) (unit : ℕ) where
  step_known : (type : CTy) (step : CStep) → IsKnownType opens types unit type → IsKnownStep opens types unit step → of_incomplete types type step ≡ false → of_function type step ≡ false
      → too_large (layouts_of types) (step_on type step) ≡ false → IsKnownType opens types unit (step_on type step)
  step_known type (to_pointer is_const is_restrict) known held complete no_code small = record { type_in = known.type_in; settled = known.settled }
  step_known type (to_array length) known held complete no_code small = record {
    type_in = (known.type_in, array_of types type length held no_code complete small);
    settled = known.settled;
  }
  step_known type (to_function (Some params) variadic within) known held complete no_code small = record {
    type_in = (known.type_in, result_form type (neither no_code).0 (neither no_code).1, (held.0, held.1));
    settled = (known.settled, held.2);
  }
  step_known type (to_function None variadic within) known held complete no_code small = record {
    type_in = (known.type_in, result_form type (neither no_code).0 (neither no_code).1, held);
    settled = (known.settled, tt);
  }

  steps_known : (type : CTy) (steps : List CStep) → IsKnownType opens types unit type → AreKnownSteps opens types unit steps → some_step (of_incomplete types) type steps ≡ false
      → some_step of_function type steps ≡ false → too_large (layouts_of types) (derived type steps) ≡ false → IsKnownType opens types unit (derived type steps)
  steps_known type [] known held complete no_code small = known
  steps_known type (step ∷ steps) known held complete no_code small =
      steps_known (step_on type step) steps
      (step_known type step known held.0 (neither complete).0 (neither no_code).0 (small_before (layouts_of types) (step_on type step) steps small))
      held.1 (neither complete).1 (neither no_code).1 small

pub derived_known : DerivedTypesAreKnown
derived_known opens scope types unit from steps known held unbroken = steps_known opens types unit from steps known held unbroken.k5 unbroken.k7 unbroken.m3
