-- Conversions, and conditions of which the second is evaluated by the first.
use Rattle.std.proofs.Common.{◌≡◌, ℕ, ℤ, Bool, true, false, ◌&&◌, ◌||◌, if◌then◌else◌, Some, Result, Ok, Err, refl, sym, ap, subst, ◌∙◌}
use Rattle.cr_base.specs.Scalar.{converted as converted_number}
use Rattle.cr_base.specs.declared.rule.URule.TheVariants.{U11}
use Rattle.cr_base.specs.declared.scalar.Scalar.{Scalar}
use Rattle.cr_base.specs.declared.scalar.Scalar.TheVariants as scalar
use Rattle.cr_runs.specs.Runs.{came}
use Rattle.cr_world.specs.World.{World}
use Rattle.cx_mean.specs.Operands.{by_pointers}
use Rattle.cx_mean.specs.Values.{is_of_kind, is_true, to_pointer, to_scalar}
use Rattle.cx_numbers.specs.Numbers.{stuck, number_of_truth as c_number_of_truth}
use Rattle.mem_bytes.specs.Memory.{Blocks}
use Rattle.mem_bytes.specs.Pointers.{usable, object_size}
use Rattle.mem_bytes.specs.declared.pointer.PointerFault.{PointerFault}
use Rattle.mem_bytes.specs.declared.value.Value.{Value}
use Rattle.mem_bytes.specs.declared.value.Value.TheVariants.{Whole, Null, Object, Code as Function}
use Rattle.mem_bytes.proofs.Reached.{and_then_ok}
use Rattle.rs_mean.specs.Numbers.{number_of_truth}
use Rattle.rs_mean.specs.Run.{Frame, run_expr, tests}
use Rattle.rs_mean.specs.Scalars.{integer_scalar, scalar_of}
use Rattle.rs_mean.specs.Typing.{casts, is_bits, is_pointer, is_code}
use Rattle.rs_mean.specs.Values.{Typed, typed, truth as truth_typed, test_of as test_of_typed}
use Rattle.rs_mean.specs.World.{Run, pure, seq, either}
use Rattle.rs_text.specs.declared.integer.IntegerTy.{IntegerTy}
use Rattle.rs_text.specs.declared.integer.IntegerTy.TheVariants.{I8, I16, I32, I64, U8, U16, U32, U64, Isize, Usize}
use Rattle.rs_text.specs.Tree.{Ty, Integer, Boolean, Pointer, Code, Tys, OptionTy, Expr, And, Or, Choose}
use Rattle.lift_forms.specs.Given.{Given}
use Rattle.lift_forms.specs.LawsTyping.{converts}
use Rattle.lift_forms.specs.Operators.{Operand, as_type, value_of, integer_as, test_of, converted}
use Rattle.lift_forms.proofs.Typed.{is_same_sort}
use Rattle.lift_stands.specs.Stands.{Images, ValueBelow}
use Rattle.lift_forms_laws.specs.Gives.{GivesAt, GivesBelow, truth_number, GivenStands, OperandStands, IsOf}
use Rattle.lift_forms_laws.specs.LawsMeaning.{Standing}
use Rattle.lift_forms_laws.proofs.Operands.{value_gives, integer_gives, as_type_gives, test_gives}
use Rattle.lift_forms_laws.proofs.Runs.{seq_is, fails_is, pure_is}
use Rattle.lift_forms_laws.proofs.Unary.{same_truth, number_stands}

-- what may be used of a pointer is the pointer
usable_same : (memory : Blocks) (value one : Value) → usable memory value ≡ Ok one → value ≡ one
usable_same memory Null one e = cc (e)
usable_same memory (Function number) one e = cc (e)
usable_same memory (Object at) one e =
    let parts = and_then_ok (object_size memory at) (λ _. Ok (Object at)) one e in
    let same : Object at ≡ one = cc (parts.2) in same
usable_same memory (Whole number) one e = absurd cc

by_pointers_ok : (result : Result Value PointerFault) (other : Value) → by_pointers U11 result ≡ Ok other → result ≡ Ok other
by_pointers_ok (Ok one) other e = let same : one ≡ other = cc (e) in ap Ok same
by_pointers_ok (Err fault) other e = absurd cc

pointer_same : (kind : Scalar) (memory : Blocks) (of_c new : Value) → to_pointer kind memory of_c ≡ Ok new → of_c ≡ new
pointer_same kind memory of_c new e = by_kind (is_of_kind kind of_c) e
  where
    by_kind : (test : Bool) → (if test then by_pointers U11 (usable memory of_c) else Err stuck) ≡ Ok new → of_c ≡ new
    by_kind true e = usable_same memory of_c new (by_pointers_ok (usable memory of_c) new e)
    by_kind false e = absurd cc

bits_cast : (from : Ty) (which : IntegerTy) → is_bits from ≡ true → casts from (Integer which) ≡ true
bits_cast (Integer from) which is = refl
bits_cast Boolean which is = refl
bits_cast from which is = absurd cc

-- the number of an integer type that C converts to
to_whole : (which : IntegerTy) (memory : Blocks) (number : ℤ) (new : Value) → to_scalar (integer_scalar which) memory (Whole number) ≡ Ok new →
    Whole (converted_number (integer_scalar which) number) ≡ new
to_whole I8 memory number new e = cc (e)
to_whole I16 memory number new e = cc (e)
to_whole I32 memory number new e = cc (e)
to_whole I64 memory number new e = cc (e)
to_whole U8 memory number new e = cc (e)
to_whole U16 memory number new e = cc (e)
to_whole U32 memory number new e = cc (e)
to_whole U64 memory number new e = cc (e)
to_whole Isize memory number new e = cc (e)
to_whole Usize memory number new e = cc (e)

bits_number : (from : Ty) (of_c : Value) → is_bits from ≡ true → IsOf from of_c → (number : ℤ) × (of_c ≡ Whole number)
bits_number (Integer which) (Whole number) b is = (number, refl)
bits_number Boolean (Whole number) b is = (number, refl)
bits_number (Integer which) Null b is = absurd is
bits_number (Integer which) (Object at) b is = absurd is
bits_number (Integer which) (Function number) b is = absurd is
bits_number Boolean Null b is = absurd is
bits_number Boolean (Object at) b is = absurd is
bits_number Boolean (Function number) b is = absurd is
bits_number from of_c b is = absurd cc

module _ (images : Images) (frame : Frame) (world : World) (memory : Blocks) (standing : Standing images memory world) where
  to_integer : (which : IntegerTy) (operand : Operand) (of_c new : Value) → OperandStands images frame world operand of_c → IsOf operand.ty of_c → is_bits operand.ty ≡ true →
      to_scalar (integer_scalar which) memory of_c ≡ Ok new → GivesBelow images frame world (integer_as which operand) (Integer which) new
  to_integer which operand of_c new h is b e =
      let number = bits_number operand.ty of_c b is in
      let there : OperandStands images frame world operand (Whole number.0) = subst (OperandStands images frame world operand) number.1 h in
      let within : IsOf operand.ty (Whole number.0) = subst (IsOf operand.ty) number.1 is in
      subst (GivesBelow images frame world (integer_as which operand) (Integer which)) (to_whole which memory number.0 new (subst (λ v. to_scalar (integer_scalar which) memory v ≡ Ok new) number.1 e))
      (number_stands images frame world (integer_as which operand) (Integer which) (converted_number (integer_scalar which) number.0)
      (integer_gives images frame world which operand number.0 there (bits_cast operand.ty which b) within))

  to_truth : (operand : Operand) (of_c new : Value) → OperandStands images frame world operand of_c → IsOf operand.ty of_c → to_scalar scalar.Truth memory of_c ≡ Ok new →
      GivesBelow images frame world (test_of operand) Boolean new
  to_truth operand of_c new h is e =
      let parts = and_then_ok (is_true memory of_c) (λ test. Ok (Whole (c_number_of_truth test))) new e in
      let number : Whole (c_number_of_truth parts.0) ≡ new = cc (parts.2) in
      subst (GivesBelow images frame world (test_of operand) Boolean) (ap Whole (sym (same_truth parts.0)) ∙ number)
      (number_stands images frame world (test_of operand) Boolean (number_of_truth parts.0) (test_gives images frame world memory standing.stands operand of_c parts.0 h is parts.1))

  pub as_type_stands : (from to : Ty) (given : Given) (of_c new : Value) → OperandStands images frame world (record { ty = from; given = given }) of_c → is_same_sort from to ≡ true →
      of_c ≡ new → GivesBelow images frame world (as_type from to (value_of (record { ty = from; given = given }))) to new
  as_type_stands from to given of_c new h sort same =
      let there = value_gives images frame world (record { ty = from; given = given }) of_c h in
      record {
        other = there.other;
        gives = as_type_gives images frame world from to (value_of (record { ty = from; given = given })) there.other there.gives sort;
        below = subst (λ v. ValueBelow images v there.other) same there.below;
      }

  to_object : (from target : Ty) (given : Given) (of_c new : Value) → OperandStands images frame world (record { ty = from; given = given }) of_c → is_pointer from ≡ true →
      to_scalar scalar.Object memory of_c ≡ Ok new → GivesBelow images frame world (as_type from (Pointer target) (value_of (record { ty = from; given = given }))) (Pointer target) new
  to_object (Pointer from) target given of_c new h b e = as_type_stands (Pointer from) (Pointer target) given of_c new h refl (pointer_same scalar.Object memory of_c new e)
  to_object from target given of_c new h b e = absurd cc

  to_function : (from : Ty) (params : Tys) (result : OptionTy) (given : Given) (of_c new : Value) → OperandStands images frame world (record { ty = from; given = given }) of_c →
      is_code from ≡ true → to_scalar scalar.Code memory of_c ≡ Ok new →
      GivesBelow images frame world (as_type from (Code params result) (value_of (record { ty = from; given = given }))) (Code params result) new
  to_function (Code others gives) params result given of_c new h b e =
      as_type_stands (Code others gives) (Code params result) given of_c new h refl (pointer_same scalar.Code memory of_c new e)
  to_function from params result given of_c new h b e = absurd cc

  pub converted_by : (kind : Scalar) (operand : Operand) (to : Ty) (of_c new : Value) → OperandStands images frame world operand of_c → IsOf operand.ty of_c →
      converts operand.ty to ≡ true → scalar_of to ≡ Some kind → to_scalar kind memory of_c ≡ Ok new → GivenStands images frame world to (converted to operand) new
  converted_by kind operand (Integer which) of_c new h is c k e =
      to_integer which operand of_c new h is c (let same : integer_scalar which ≡ kind = cc (k) in subst (λ x. to_scalar x memory of_c ≡ Ok new) (sym same) e)
  converted_by kind operand Boolean of_c new h is c k e =
      to_truth operand of_c new h is (let same : scalar.Truth ≡ kind = cc (k) in subst (λ x. to_scalar x memory of_c ≡ Ok new) (sym same) e)
  converted_by kind operand (Pointer target) of_c new h is c k e =
      to_object operand.ty target operand.given of_c new h c (let same : scalar.Object ≡ kind = cc (k) in subst (λ x. to_scalar x memory of_c ≡ Ok new) (sym same) e)
  converted_by kind operand (Code params result) of_c new h is c k e =
      to_function operand.ty params result operand.given of_c new h c (let same : scalar.Code ≡ kind = cc (k) in subst (λ x. to_scalar x memory of_c ≡ Ok new) (sym same) e)
  converted_by kind operand to of_c new h is c k e = absurd (let clash : false ≡ true = c in cc)

-- ---- conditions of which the second is evaluated by the first

module _ (frame : Frame) (world : World) where
  tested : (e whole : Expr) (test : Bool) (ty : Ty) (given : Value) (next : Bool → Run Typed) →
      ((units : ℕ) → run_expr frame whole world units ≡ seq (run_expr frame e) (λ value. seq (tests value) next) world units) →
      GivesAt frame world e Boolean (truth_number test) → ((units : ℕ) → next test world units ≡ came (typed ty given) world units) → GivesAt frame world whole ty given
  tested e whole test ty given next is h goes = record {
    runs = λ units. is units ∙ seq_is (run_expr frame e) (λ one. seq (tests one) next) world units (typed Boolean (truth_number test)) (h.runs units)
        ∙ seq_is (tests (typed Boolean (truth_number test))) next world units test (fails_is _ world units test (tells test)) ∙ goes units;
  }
    where
      tells : (test : Bool) → test_of_typed (typed Boolean (truth_number test)) ≡ Ok test
      tells true = refl
      tells false = refl

  pub both_stand : (left right : Expr) (test other : Bool) → GivesAt frame world left Boolean (truth_number test) →
      (test ≡ true → GivesAt frame world right Boolean (truth_number other)) → GivesAt frame world (And left right) Boolean (truth_number (test && other))
  both_stand left right true other h k =
      tested left (And left right) true Boolean (truth_number other) (λ test. either test (run_expr frame right) (pure (truth_typed false))) (λ units. refl) h (λ units. (k refl).runs units)
  both_stand left right false other h k =
      tested left (And left right) false Boolean (truth_number false) (λ test. either test (run_expr frame right) (pure (truth_typed false))) (λ units. refl) h
      (λ units. pure_is (truth_typed false) world units)

  pub either_stands : (left right : Expr) (test other : Bool) → GivesAt frame world left Boolean (truth_number test) →
      (test ≡ false → GivesAt frame world right Boolean (truth_number other)) → GivesAt frame world (Or left right) Boolean (truth_number (test || other))
  either_stands left right true other h k =
      tested left (Or left right) true Boolean (truth_number true) (λ test. either test (pure (truth_typed true)) (run_expr frame right)) (λ units. refl) h
      (λ units. pure_is (truth_typed true) world units)
  either_stands left right false other h k =
      tested left (Or left right) false Boolean (truth_number other) (λ test. either test (pure (truth_typed true)) (run_expr frame right)) (λ units. refl) h (λ units. (k refl).runs units)

  pub choice_stands : (condition if_true if_false : Expr) (test : Bool) (ty : Ty) (given : Value) → GivesAt frame world condition Boolean (truth_number test) →
      (test ≡ true → GivesAt frame world if_true ty given) → (test ≡ false → GivesAt frame world if_false ty given) →
      GivesAt frame world (Choose condition if_true if_false) ty given
  choice_stands condition if_true if_false true ty given h k l =
      tested condition (Choose condition if_true if_false) true ty given (λ test. either test (run_expr frame if_true) (run_expr frame if_false)) (λ units. refl) h (λ units. (k refl).runs units)
  choice_stands condition if_true if_false false ty given h k l =
      tested condition (Choose condition if_true if_false) false ty given (λ test. either test (run_expr frame if_true) (run_expr frame if_false)) (λ units. refl) h (λ units. (l refl).runs units)
