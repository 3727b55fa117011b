-- A type of a unit, renumbered, is a type of that unit in the program, and means what it meant (ISO C99, 6.2.5, 6.3.1.1).
use Rattle.std.proofs.Common.{◌≡◌, ℕ, zero, suc, ◌+◌, Bool, false, List, [], ◌∷◌, length, Option, None, Some, option_map, slice_get, refl, sym, ap, ◌∙◌, arith, subst}
use Rattle.std.specs.Prelude.{IsSome, IfSome, ◌<◌}
use Rattle.cr_base.specs.declared.scalar.Scalar.{Scalar}
use Rattle.cx_core.specs.declared.ty.Basic.{Basic}
use Rattle.cx_core.specs.Conversions.{basic_of, basic_of_enum, scalar_of, scalar_of_basic, scalar_of_pointer, promoted, promoted_basic, common_type, IsIntegerType, IsScalarType, IsPromoted}
use Rattle.cx_core.specs.Linked.{IsDeclaredForm}
use Rattle.cx_core.specs.Trees.{CTy, ty, CTyForm, void, basic, enum_type, pointer, array, record_type, function, CParams, unlisted, listed, CTys, no_types, more_types, form_of_type, is_const_type, unqualified, CTypes}
use Rattle.cx_core.specs.ValidTypes.{IsObjectForm, IsResultForm, IsParamForm, IsComplete, IsArrayOf, MayVary, IsTypeIn, IsFormIn, AreParamsIn, AreTypesIn}
use Rattle.cx_core.specs.declared.program.Linkage.{Linkage}
use Rattle.cx_renumber.specs.Numbers.{CCounts, type_there, form_there, params_there, types_there}
use Rattle.cx_typed_links.proofs.Sizes.{map_gives, complete_there}
use Rattle.cx_typed_links.specs.Embedding.{Gives, IsInside}

-- ---- a number that one list holds is one of each list of the same length

pub held_by : {X Y : Type 0} (xs : List X) (ys : List Y) (number : ℕ) (y : Y) → length ys ≡ length xs → slice_get ys number ≡ Some y
    → (x : X) × (slice_get xs number ≡ Some x)
held_by xs [] number y same is = absurd cc
held_by [] (first ∷ ys) number y same is = absurd (omega (arith, same))
held_by (x ∷ xs) (first ∷ ys) zero y same is = (x, refl)
held_by (x ∷ xs) (first ∷ ys) (suc n) y same is = held_by xs ys n y (omega (arith, same)) is

module _ (before : CCounts) where
  -- ---- what the form of a type says

  pub object_form_there : (form : CTyForm) → IsObjectForm form → IsObjectForm (form_there before form)
  object_form_there void held = held
  object_form_there (basic which) held = held
  object_form_there (enum_type number) held = held
  object_form_there (pointer to) held = held
  object_form_there (array element length) held = held
  object_form_there (record_type number) held = held
  object_form_there (function result params variadic) held = held

  pub result_form_there : (form : CTyForm) → IsResultForm form → IsResultForm (form_there before form)
  result_form_there void held = held
  result_form_there (basic which) held = held
  result_form_there (enum_type number) held = held
  result_form_there (pointer to) held = held
  result_form_there (array element length) held = held
  result_form_there (record_type number) held = held
  result_form_there (function result params variadic) held = held

  param_form_there : (form : CTyForm) → IsParamForm form → IsParamForm (form_there before form)
  param_form_there void held = held
  param_form_there (basic which) held = held
  param_form_there (enum_type number) held = held
  param_form_there (pointer to) held = held
  param_form_there (array element length) held = held
  param_form_there (record_type number) held = held
  param_form_there (function result params variadic) held = held

  -- the form of a renumbered type
  pub form_of_there : (type : CTy) → form_of_type (type_there before type) ≡ form_there before (form_of_type type)
  form_of_there (ty form is_const) = refl

  pub const_of_there : (type : CTy) → is_const_type (type_there before type) ≡ is_const_type type
  const_of_there (ty form is_const) = refl

  pub unqualified_there : (type : CTy) → type_there before (unqualified type) ≡ unqualified (type_there before type)
  unqualified_there (ty form is_const) = refl

  pub of_object_there : (type : CTy) → IsObjectForm (form_of_type type) → IsObjectForm (form_of_type (type_there before type))
  of_object_there (ty form is_const) held = object_form_there form held

  pub declared_there : (linkage : Linkage) (type : CTy) → IsDeclaredForm linkage (form_of_type type) → IsDeclaredForm linkage (form_of_type (type_there before type))
  declared_there linkage (ty void is_const) held = held
  declared_there linkage (ty (basic which) is_const) held = held
  declared_there linkage (ty (enum_type number) is_const) held = held
  declared_there linkage (ty (pointer to) is_const) held = held
  declared_there linkage (ty (array element length) is_const) held = held
  declared_there linkage (ty (record_type number) is_const) held = held
  declared_there linkage (ty (function result params variadic) is_const) held = held

  pub of_result_there : (type : CTy) → IsResultForm (form_of_type type) → IsResultForm (form_of_type (type_there before type))
  of_result_there (ty form is_const) held = result_form_there form held

  of_param_there : (type : CTy) → IsParamForm (form_of_type type) → IsParamForm (form_of_type (type_there before type))
  of_param_there (ty form is_const) held = param_form_there form held

  may_vary_there : (types : CTys) (variadic : Bool) → MayVary types variadic → MayVary (types_there before types) variadic
  may_vary_there no_types variadic held = held
  may_vary_there (more_types first others) variadic held = held

  -- ---- promoted types

  pub is_promoted_there : (type : CTy) → IsPromoted type → IsPromoted (type_there before type)
  is_promoted_there (ty void is_const) held = held
  is_promoted_there (ty (basic which) is_const) held = held
  is_promoted_there (ty (enum_type number) is_const) held = held
  is_promoted_there (ty (pointer to) is_const) held = held
  is_promoted_there (ty (array element length) is_const) held = held
  is_promoted_there (ty (record_type number) is_const) held = held
  is_promoted_there (ty (function result params variadic) is_const) held = held

  pub common_type_there : (first second : CTy) → common_type (type_there before first) (type_there before second) ≡ type_there before (common_type first second)
  common_type_there (ty void first_const) (ty second second_const) = refl
  common_type_there (ty (basic first) first_const) (ty void second_const) = refl
  common_type_there (ty (basic first) first_const) (ty (basic second) second_const) = refl
  common_type_there (ty (basic first) first_const) (ty (enum_type second) second_const) = refl
  common_type_there (ty (basic first) first_const) (ty (pointer second) second_const) = refl
  common_type_there (ty (basic first) first_const) (ty (array second length) second_const) = refl
  common_type_there (ty (basic first) first_const) (ty (record_type second) second_const) = refl
  common_type_there (ty (basic first) first_const) (ty (function result params variadic) second_const) = refl
  common_type_there (ty (enum_type first) first_const) (ty second second_const) = refl
  common_type_there (ty (pointer first) first_const) (ty second second_const) = refl
  common_type_there (ty (array first length) first_const) (ty second second_const) = refl
  common_type_there (ty (record_type first) first_const) (ty second second_const) = refl
  common_type_there (ty (function result params variadic) first_const) (ty second second_const) = refl

  pub pointer_scalar_there : (to : CTy) → scalar_of_pointer (type_there before to) ≡ scalar_of_pointer to
  pointer_scalar_there (ty void is_const) = refl
  pointer_scalar_there (ty (basic which) is_const) = refl
  pointer_scalar_there (ty (enum_type number) is_const) = refl
  pointer_scalar_there (ty (pointer to) is_const) = refl
  pointer_scalar_there (ty (array element length) is_const) = refl
  pointer_scalar_there (ty (record_type number) is_const) = refl
  pointer_scalar_there (ty (function result params variadic) is_const) = refl

  module _ (one whole : CTypes) (inside : IsInside before one whole) where
    -- ---- types of the unit

    length_there : (element : CTy) (length : Option ℕ)
        → IfSome length (λ count. (0 < count) × IsComplete one (ty (array element length) false))
        → IfSome length (λ count. (0 < count) × IsComplete whole (ty (array (type_there before element) length) false))
    length_there element None held = held
    length_there element (Some count) held =
        (held.0, complete_there before one whole inside (ty (array element (Some count)) false) held.1)

    pub array_there : (is_const : Bool) (element : CTy) (length : Option ℕ) → IsArrayOf one is_const element length
        → IsArrayOf whole is_const (type_there before element) length
    array_there is_const element length held = record {
      plain = held.plain;
      complete = complete_there before one whole inside element held.complete;
      length = length_there element length held.length;
    }

    module _ (unit : ℕ) where
      mutual
        pub type_in_there : (type : CTy) → IsTypeIn one unit type → IsTypeIn whole unit (type_there before type)
        type_in_there (ty form is_const) held = form_in_there is_const form held

        form_in_there : (is_const : Bool) (form : CTyForm) → IsFormIn one unit is_const form → IsFormIn whole unit is_const (form_there before form)
        form_in_there is_const void held = held
        form_in_there is_const (basic which) held = held
        form_in_there is_const (enum_type number) held = inside.enum_units number unit held
        form_in_there is_const (pointer to) held = type_in_there to held
        form_in_there is_const (array element length) held = (type_in_there element held.0, array_there is_const element length held.1)
        form_in_there is_const (record_type number) held = inside.record_units number unit held
        form_in_there is_const (function result params variadic) held =
            (type_in_there result held.0, of_result_there result held.1, params_in_there variadic params held.2)

        pub params_in_there : (variadic : Bool) (params : CParams) → AreParamsIn one unit variadic params
            → AreParamsIn whole unit variadic (params_there before params)
        params_in_there variadic unlisted held = held
        params_in_there variadic (listed types) held = (may_vary_there types variadic held.0, types_in_there types held.1)

        pub types_in_there : (types : CTys) → AreTypesIn one unit types → AreTypesIn whole unit (types_there before types)
        types_in_there no_types held = held
        types_in_there (more_types first others) held =
            (type_in_there first held.0, of_param_there first held.1, types_in_there others held.2)

    -- ---- integer and scalar types

    pub basic_there : (form : CTyForm) → Gives (basic_of one form) (basic_of whole (form_there before form))
    basic_there void which is = is
    basic_there (basic known) which is = is
    basic_there (enum_type number) which is =
        map_gives basic_of_enum (slice_get one.enums number) (slice_get whole.enums (before.enums + number)) (inside.enums number) which is
    basic_there (pointer to) which is = is
    basic_there (array element length) which is = is
    basic_there (record_type number) which is = is
    basic_there (function result params variadic) which is = is

    -- the enumerated types of the unit have their entries
    module _ (enum_units : length one.enum_units ≡ length one.enums) (unit : ℕ) where
      enum_same : (number : ℕ) → slice_get one.enum_units number ≡ Some unit → slice_get whole.enums (before.enums + number) ≡ slice_get one.enums number
      enum_same number held =
          let found = held_by one.enums one.enum_units number unit enum_units held in
          inside.enums number found.0 found.1 ∙ sym found.1

      basic_form_same : (is_const : Bool) (form : CTyForm) → IsFormIn one unit is_const form → basic_of whole (form_there before form) ≡ basic_of one form
      basic_form_same is_const void held = refl
      basic_form_same is_const (basic which) held = refl
      basic_form_same is_const (enum_type number) held = ap (option_map basic_of_enum) (enum_same number held)
      basic_form_same is_const (pointer to) held = refl
      basic_form_same is_const (array element length) held = refl
      basic_form_same is_const (record_type number) held = refl
      basic_form_same is_const (function result params variadic) held = refl

      scalar_form_same : (is_const : Bool) (form : CTyForm) → IsFormIn one unit is_const form → scalar_of whole (form_there before form) ≡ scalar_of one form
      scalar_form_same is_const void held = refl
      scalar_form_same is_const (basic which) held = refl
      scalar_form_same is_const (enum_type number) held = ap (option_map (λ is_int. scalar_of_basic (basic_of_enum is_int))) (enum_same number held)
      scalar_form_same is_const (pointer to) held = ap (λ scalar. Some scalar) (pointer_scalar_there to)
      scalar_form_same is_const (array element length) held = refl
      scalar_form_same is_const (record_type number) held = refl
      scalar_form_same is_const (function result params variadic) held = refl

      pub basic_same : (type : CTy) → IsTypeIn one unit type → basic_of whole (form_of_type (type_there before type)) ≡ basic_of one (form_of_type type)
      basic_same (ty form is_const) held = basic_form_same is_const form held

      pub scalar_same : (type : CTy) → IsTypeIn one unit type → scalar_of whole (form_of_type (type_there before type)) ≡ scalar_of one (form_of_type type)
      scalar_same (ty form is_const) held = scalar_form_same is_const form held

      pub integer_there : (type : CTy) → IsTypeIn one unit type → IsIntegerType one type → IsIntegerType whole (type_there before type)
      integer_there type type_in held = subst (λ (found : Option Basic). IsSome found) (sym (basic_same type type_in)) held

      pub is_scalar_there : (type : CTy) → IsTypeIn one unit type → IsScalarType one type → IsScalarType whole (type_there before type)
      is_scalar_there type type_in held = subst (λ (found : Option Scalar). IsSome found) (sym (scalar_same type type_in)) held

      abbrev promoted_by : CTy → Option ℕ → Option Basic → CTy
      promoted_by type bits None = unqualified type
      promoted_by type bits (Some which) = ty (basic (promoted_basic which bits)) false

      promoted_as_there : (type : CTy) (bits : Option ℕ) (found : Option Basic) → promoted_by (type_there before type) bits found ≡ type_there before (promoted_by type bits found)
      promoted_as_there type bits None = sym (unqualified_there type)
      promoted_as_there type bits (Some which) = refl

      pub promoted_there : (type : CTy) (bits : Option ℕ) → IsTypeIn one unit type → promoted whole (type_there before type) bits ≡ type_there before (promoted one type bits)
      promoted_there type bits type_in =
          ap (promoted_by (type_there before type) bits) (basic_same type type_in) ∙ promoted_as_there type bits (basic_of one (form_of_type type))
