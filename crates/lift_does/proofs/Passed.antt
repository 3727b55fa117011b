-- A value is passed in another type of the crate that has the same scalar, as it is (ISO C99, 6.5.2.2p7; the Rust Reference, "Type cast expressions").
use Rattle.std.proofs.Common.{◌≡◌, ℕ, ℤ, Bool, true, false, Some, Result, Ok, refl, sym, ap, subst, ◌∙◌}
use Rattle.cr_base.specs.Scalar.{IsInRange}
use Rattle.cr_base.specs.declared.scalar.Scalar.{Scalar}
use Rattle.cr_base.specs.declared.scalar.Scalar.TheVariants as scalars
use Rattle.cr_world.specs.World.{World}
use Rattle.cr_runs.specs.Runs.{came}
use Rattle.lift_does.proofs.BitLoads.{whole_range}
use Rattle.lift_does.proofs.CallRuns.{cast_if, transmuted_if, passes}
use Rattle.lift_forms.proofs.SameTypes.{type_is}
use Rattle.lift_forms_laws.proofs.Runs.{pure_is, fails_is}
use Rattle.rs_mean.specs.Values.{Typed, typed, cast_of, transmuted}
use Rattle.rs_mean.specs.declared.cause.Cause.{Cause}
use Rattle.lift_forms.specs.Operators.{as_type}
use Rattle.lift_forms_laws.proofs.Operands.{as_type_gives, cast_to_number}
use Rattle.lift_forms_laws.proofs.Numbers.{converted_same}
use Rattle.lift_forms_laws.specs.Gives.{GivesAt}
use Rattle.lift_stands.specs.Stands.{Images}
use Rattle.mem_bytes.specs.Coding.{IsValueOf}
use Rattle.mem_bytes.specs.declared.value.Value.{Value}
use Rattle.mem_bytes.specs.declared.value.Value.TheVariants.{Whole, Null, Object, Code as Function}
use Rattle.rs_mean.specs.Run.{Frame}
use Rattle.rs_mean.specs.Scalars.{integer_scalar, scalar_of, same_type}
use Rattle.rs_text.specs.Tree.{Ty, Tys, OptionTy, Integer, Boolean, Void, Pointer, Array, Code, Record, Expr}
use Rattle.rs_text.specs.declared.integer.IntegerTy.{IntegerTy}
use Rattle.rs_text.specs.declared.integer.IntegerTy.TheVariants.{I8, I16, I32, I64, U8, U16, U32, U64, Isize, Usize}

-- ---- integers

abbrev is_whole : Scalar → Bool
is_whole (scalars.Whole size signed) = true
is_whole _ = false

integer_whole : (which : IntegerTy) → is_whole (integer_scalar which) ≡ true
integer_whole I8 = refl
integer_whole I16 = refl
integer_whole I32 = refl
integer_whole I64 = refl
integer_whole U8 = refl
integer_whole U16 = refl
integer_whole U32 = refl
integer_whole U64 = refl
integer_whole Isize = refl
integer_whole Usize = refl

whole_number : (kind : Scalar) (other : Value) → is_whole kind ≡ true → IsValueOf kind other → (number : ℤ) × (other ≡ Whole number)
whole_number kind (Whole number) whole is = (number, refl)
whole_number (scalars.Whole size signed) Null whole is = absurd is
whole_number (scalars.Whole size signed) (Object at) whole is = absurd is
whole_number (scalars.Whole size signed) (Function number) whole is = absurd is
whole_number scalars.Truth other whole is = let clash : false ≡ true = whole in cc (clash)
whole_number scalars.Object other whole is = let clash : false ≡ true = whole in cc (clash)
whole_number scalars.Code other whole is = let clash : false ≡ true = whole in cc (clash)

no_whole : (which : IntegerTy) (kind : Scalar) → integer_scalar which ≡ kind → is_whole kind ≡ false → ⊥
no_whole which kind same e = let clash : true ≡ false = sym (integer_whole which) ∙ (ap is_whole same ∙ e) in cc (clash)

-- ---- the value in the other type

module _ (images : Images) (frame : Frame) (world : World) where
  integer_passed : (from to : IntegerTy) (e : Expr) (other : Value) → integer_scalar from ≡ integer_scalar to → IsValueOf (integer_scalar to) other → GivesAt frame world e (Integer from) other → GivesAt frame world (as_type (Integer from) (Integer to) e) (Integer to) other
  integer_passed from to e other same is gives =
      let number = whole_number (integer_scalar to) other (integer_whole to) is in
      let range = whole_range to number.0 (subst (IsValueOf (integer_scalar to)) number.1 is) in
      let cast = cast_to_number images frame world e (Integer from) to number.0 (subst (GivesAt frame world e (Integer from)) number.1 gives) refl (subst (λ (k : Scalar). IsInRange k number.0) (sym same) range) in
      subst (GivesAt frame world (as_type (Integer from) (Integer to) e) (Integer to)) (sym number.1)
      (subst (λ (n : ℤ). GivesAt frame world (as_type (Integer from) (Integer to) e) (Integer to) (Whole n)) (converted_same to number.0 range) cast)

  pub passed_gives : (from to : Ty) (kind : Scalar) (e : Expr) (other : Value) → scalar_of from ≡ Some kind → scalar_of to ≡ Some kind → IsValueOf kind other → GivesAt frame world e from other → GivesAt frame world (as_type from to e) to other
  passed_gives (Integer from) (Integer to) kind e other one two is gives =
      let from_is : integer_scalar from ≡ kind = cc (one) in
      let to_is : integer_scalar to ≡ kind = cc (two) in
      integer_passed from to e other (from_is ∙ sym to_is) (subst (λ (k : Scalar). IsValueOf k other) (sym to_is) is) gives
  passed_gives Boolean Boolean kind e other one two is gives = gives
  passed_gives (Pointer from) (Pointer to) kind e other one two is gives = as_type_gives images frame world (Pointer from) (Pointer to) e other gives refl
  passed_gives (Code params result) (Code others back) kind e other one two is gives = as_type_gives images frame world (Code params result) (Code others back) e other gives refl
  passed_gives (Integer from) Boolean kind e other one two is gives = let from_is : integer_scalar from ≡ kind = cc (one) in let to_is : scalars.Truth ≡ kind = cc (two) in absurd (no_whole from kind from_is (ap is_whole (sym to_is)))
  passed_gives (Integer from) (Pointer to) kind e other one two is gives = let from_is : integer_scalar from ≡ kind = cc (one) in let to_is : scalars.Object ≡ kind = cc (two) in absurd (no_whole from kind from_is (ap is_whole (sym to_is)))
  passed_gives (Integer from) (Code others back) kind e other one two is gives = let from_is : integer_scalar from ≡ kind = cc (one) in let to_is : scalars.Code ≡ kind = cc (two) in absurd (no_whole from kind from_is (ap is_whole (sym to_is)))
  passed_gives Boolean (Integer to) kind e other one two is gives = let to_is : integer_scalar to ≡ kind = cc (two) in let from_is : scalars.Truth ≡ kind = cc (one) in absurd (no_whole to kind to_is (ap is_whole (sym from_is)))
  passed_gives (Pointer from) (Integer to) kind e other one two is gives = let to_is : integer_scalar to ≡ kind = cc (two) in let from_is : scalars.Object ≡ kind = cc (one) in absurd (no_whole to kind to_is (ap is_whole (sym from_is)))
  passed_gives (Code params result) (Integer to) kind e other one two is gives = let to_is : integer_scalar to ≡ kind = cc (two) in let from_is : scalars.Code ≡ kind = cc (one) in absurd (no_whole to kind to_is (ap is_whole (sym from_is)))
  passed_gives Boolean (Pointer to) kind e other one two is gives = let clash : scalars.Truth ≡ scalars.Object = cc (one, two) in cc (clash)
  passed_gives Boolean (Code others back) kind e other one two is gives = let clash : scalars.Truth ≡ scalars.Code = cc (one, two) in cc (clash)
  passed_gives (Pointer from) Boolean kind e other one two is gives = let clash : scalars.Object ≡ scalars.Truth = cc (one, two) in cc (clash)
  passed_gives (Pointer from) (Code others back) kind e other one two is gives = let clash : scalars.Object ≡ scalars.Code = cc (one, two) in cc (clash)
  passed_gives (Code params result) Boolean kind e other one two is gives = let clash : scalars.Code ≡ scalars.Truth = cc (one, two) in cc (clash)
  passed_gives (Code params result) (Pointer to) kind e other one two is gives = let clash : scalars.Code ≡ scalars.Object = cc (one, two) in cc (clash)
  passed_gives Void to kind e other one two is gives = cc (one)
  passed_gives (Array element size) to kind e other one two is gives = cc (one)
  passed_gives (Record m y) to kind e other one two is gives = cc (one)
  passed_gives from Void kind e other one two is gives = cc (two)
  passed_gives from (Array element size) kind e other one two is gives = cc (two)
  passed_gives from (Record m y) kind e other one two is gives = cc (two)

-- ---- and where it isn't given at once

integer_passes : (from to : IntegerTy) (value : Value) (test : Bool) (world : World) (units : ℕ) → same_type (Integer from) (Integer to) ≡ test → integer_scalar from ≡ integer_scalar to → IsValueOf (integer_scalar to) value →
    cast_if test (Integer to) (typed (Integer from) value) world units ≡ came (typed (Integer to) value) world units
integer_passes from to value true world units e same is = pure_is (typed (Integer from) value) world units ∙ ap (λ (t : Ty). came (typed t value) world units) (type_is (Integer from) (Integer to) e)
integer_passes from to value false world units e same is =
    let number = whole_number (integer_scalar to) value (integer_whole to) is in
    let range = whole_range to number.0 (subst (IsValueOf (integer_scalar to)) number.1 is) in
    let cast : cast_of (Integer to) (typed (Integer from) value) ≡ Ok (typed (Integer to) value) =
    ap (λ (v : Value). cast_of (Integer to) (typed (Integer from) v)) number.1
    ∙ (ap (λ (n : ℤ). ok_typed (typed (Integer to) (Whole n))) (converted_same to number.0 range) ∙ ap (λ (v : Value). ok_typed (typed (Integer to) v)) (sym number.1)) in
    fails_is (cast_of (Integer to) (typed (Integer from) value)) world units (typed (Integer to) value) cast
  where
    ok_typed : Typed → Result Typed Cause
    ok_typed one = Ok one

pointer_passes : (from to : Ty) (value : Value) (test : Bool) (world : World) (units : ℕ) → same_type (Pointer from) (Pointer to) ≡ test →
    cast_if test (Pointer to) (typed (Pointer from) value) world units ≡ came (typed (Pointer to) value) world units
pointer_passes from to value true world units e = pure_is (typed (Pointer from) value) world units ∙ ap (λ (t : Ty). came (typed t value) world units) (type_is (Pointer from) (Pointer to) e)
pointer_passes from to value false world units e = fails_is (cast_of (Pointer to) (typed (Pointer from) value)) world units (typed (Pointer to) value) refl

code_passes : (params others : Tys) (result back : OptionTy) (value : Value) (test : Bool) (world : World) (units : ℕ) → same_type (Code params result) (Code others back) ≡ test →
    transmuted_if test (Code others back) (typed (Code params result) value) world units ≡ came (typed (Code others back) value) world units
code_passes params others result back value true world units e = pure_is (typed (Code params result) value) world units ∙ ap (λ (t : Ty). came (typed t value) world units) (type_is (Code params result) (Code others back) e)
code_passes params others result back value false world units e = fails_is (transmuted (Code others back) (typed (Code params result) value)) world units (typed (Code others back) value) refl

pub value_passes : (from to : Ty) (kind : Scalar) (value : Value) (world : World) (units : ℕ) → scalar_of from ≡ Some kind → scalar_of to ≡ Some kind → IsValueOf kind value → passes from to (typed from value) world units ≡ came (typed to value) world units
value_passes (Integer from) (Integer to) kind value world units one two is =
    let from_is : integer_scalar from ≡ kind = cc (one) in
    let to_is : integer_scalar to ≡ kind = cc (two) in
    integer_passes from to value (same_type (Integer from) (Integer to)) world units refl (from_is ∙ sym to_is) (subst (λ (k : Scalar). IsValueOf k value) (sym to_is) is)
value_passes Boolean Boolean kind value world units one two is = pure_is (typed Boolean value) world units
value_passes (Pointer from) (Pointer to) kind value world units one two is = pointer_passes from to value (same_type (Pointer from) (Pointer to)) world units refl
value_passes (Code params result) (Code others back) kind value world units one two is = code_passes params others result back value (same_type (Code params result) (Code others back)) world units refl
value_passes (Integer from) Boolean kind value world units one two is = let from_is : integer_scalar from ≡ kind = cc (one) in let to_is : scalars.Truth ≡ kind = cc (two) in absurd (no_whole from kind from_is (ap is_whole (sym to_is)))
value_passes (Integer from) (Pointer to) kind value world units one two is = let from_is : integer_scalar from ≡ kind = cc (one) in let to_is : scalars.Object ≡ kind = cc (two) in absurd (no_whole from kind from_is (ap is_whole (sym to_is)))
value_passes (Integer from) (Code others back) kind value world units one two is = let from_is : integer_scalar from ≡ kind = cc (one) in let to_is : scalars.Code ≡ kind = cc (two) in absurd (no_whole from kind from_is (ap is_whole (sym to_is)))
value_passes Boolean (Integer to) kind value world units one two is = let to_is : integer_scalar to ≡ kind = cc (two) in let from_is : scalars.Truth ≡ kind = cc (one) in absurd (no_whole to kind to_is (ap is_whole (sym from_is)))
value_passes (Pointer from) (Integer to) kind value world units one two is = let to_is : integer_scalar to ≡ kind = cc (two) in let from_is : scalars.Object ≡ kind = cc (one) in absurd (no_whole to kind to_is (ap is_whole (sym from_is)))
value_passes (Code params result) (Integer to) kind value world units one two is = let to_is : integer_scalar to ≡ kind = cc (two) in let from_is : scalars.Code ≡ kind = cc (one) in absurd (no_whole to kind to_is (ap is_whole (sym from_is)))
value_passes Boolean (Pointer to) kind value world units one two is = let clash : scalars.Truth ≡ scalars.Object = cc (one, two) in cc (clash)
value_passes Boolean (Code others back) kind value world units one two is = let clash : scalars.Truth ≡ scalars.Code = cc (one, two) in cc (clash)
value_passes (Pointer from) Boolean kind value world units one two is = let clash : scalars.Object ≡ scalars.Truth = cc (one, two) in cc (clash)
value_passes (Pointer from) (Code others back) kind value world units one two is = let clash : scalars.Object ≡ scalars.Code = cc (one, two) in cc (clash)
value_passes (Code params result) Boolean kind value world units one two is = let clash : scalars.Code ≡ scalars.Truth = cc (one, two) in cc (clash)
value_passes (Code params result) (Pointer to) kind value world units one two is = let clash : scalars.Code ≡ scalars.Object = cc (one, two) in cc (clash)
value_passes Void to kind value world units one two is = cc (one)
value_passes (Array element size) to kind value world units one two is = cc (one)
value_passes (Record m y) to kind value world units one two is = cc (one)
value_passes from Void kind value world units one two is = cc (two)
value_passes from (Array element size) kind value world units one two is = cc (two)
value_passes from (Record m y) kind value world units one two is = cc (two)
