-- Types that a test takes for the same are the same, and records of one unit that are compatible are the same.
use Rattle.std.proofs.Common.{◌≡◌, ℕ, ◌==◌, Bool, true, false, ◌&&◌, Option, None, Some, refl, ap, ◌∙◌, arith}
use Rattle.std.proofs.lemmas.Bool.Decides.{nat_tests}
use Rattle.std.specs.Bool.{beq}
use denote.Enum.Bare.{same_true}
use Rattle.cx_core.specs.contracts.ty.Basic.{the_type}
use Rattle.cx_core.specs.Conversions.{same_basic}
use Rattle.cx_core.specs.declared.ty.Basic.{Basic}
use Rattle.cx_core.specs.Trees.{CTy, ty, CTyForm, void, basic, enum_type, pointer, array, record_type, function, CParams, unlisted, listed, CTys, no_types, more_types}
use Rattle.cx_rules.specs.Types.{same_type, same_form, same_params, same_types, same_length}

pub both : {a b : Bool} → (a && b) ≡ true → (a ≡ true) × (b ≡ true)
both {a = true} {b = true} is = (refl, refl)
both {a = true} {b = false} is = absurd cc
both {a = false} {b = b} is = absurd cc

pub basic_is : (one other : Basic) → same_basic one other ≡ true → one ≡ other
unfolding same_basic
basic_is one other is = same_true the_type tt one other is

pub bool_is : (one other : Bool) → beq one other ≡ true → one ≡ other
bool_is true true is = refl
bool_is false false is = refl
bool_is true false is = absurd cc
bool_is false true is = absurd cc

pub number_is : (one other : ℕ) → (one == other) ≡ true → one ≡ other
number_is one other is = grind (arith, nat_tests)

length_is : (one other : Option ℕ) → same_length one other ≡ true → one ≡ other
length_is None None is = refl
length_is (Some one) (Some other) is = ap Some (number_is one other is)
length_is None (Some other) is = absurd cc
length_is (Some one) None is = absurd cc

mutual
  pub type_is : (one other : CTy) → same_type one other ≡ true → one ≡ other
  type_is (ty one one_const) (ty other other_const) is =
      ap (λ form. ty form one_const) (form_is one other (both is).1) ∙ ap (ty other) (bool_is one_const other_const (both is).0)

  form_is : (one other : CTyForm) → same_form one other ≡ true → one ≡ other
  form_is void void is = refl
  form_is (basic one) (basic other) is = ap basic (basic_is one other is)
  form_is (enum_type one) (enum_type other) is = ap enum_type (number_is one other is)
  form_is (pointer one) (pointer other) is = ap pointer (type_is one other is)
  form_is (array one one_length) (array other other_length) is =
      ap (λ element. array element one_length) (type_is one other (both is).1) ∙ ap (array other) (length_is one_length other_length (both is).0)
  form_is (record_type one) (record_type other) is = ap record_type (number_is one other is)
  form_is (function one one_params one_more) (function other other_params other_more) is =
      ap (λ result. function result one_params one_more) (type_is one other (both (both is).1).0)
      ∙ ap (λ params. function other params one_more) (params_is one_params other_params (both (both is).1).1)
      ∙ ap (function other other_params) (bool_is one_more other_more (both is).0)
  form_is one other is = absurd cc

  params_is : (one other : CParams) → same_params one other ≡ true → one ≡ other
  params_is unlisted unlisted is = refl
  params_is (listed one) (listed other) is = ap listed (types_are one other is)
  params_is one other is = absurd cc

  types_are : (one other : CTys) → same_types one other ≡ true → one ≡ other
  types_are no_types no_types is = refl
  types_are (more_types one ones) (more_types other others) is =
      ap (λ first. more_types first ones) (type_is one other (both is).0) ∙ ap (more_types other) (types_are ones others (both is).1)
  types_are one other is = absurd cc
