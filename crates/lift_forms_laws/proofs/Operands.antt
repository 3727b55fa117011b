-- What operands give: their values, as numbers of an integer type, and as conditions.
use Rattle.std.proofs.Common.{◌≡◌, zero, suc, ℤ, pos, negsuc, Bool, true, false, not, Ok, refl, sym, ap, subst, ◌∙◌, arith}
use Rattle.std.proofs.lemmas.Int.{ints}
use Rattle.std.specs.Ordering.{int_eq}
use Rattle.cr_base.specs.Scalar.{IsInRange, converted}
use Rattle.cr_base.specs.declared.scalar.Scalar.TheVariants.{Truth as TruthScalar}
use Rattle.cr_world.specs.World.{World}
use Rattle.cx_mean.specs.Values.{is_true}
use Rattle.mem_bytes.specs.Memory.{Blocks}
use Rattle.mem_bytes.specs.declared.value.Value.{Value}
use Rattle.mem_bytes.specs.declared.value.Value.TheVariants.{Whole, Null, Object, Code as Function}
use Rattle.rs_mean.specs.Numbers.{number_of_truth}
use Rattle.rs_mean.specs.Run.{Frame}
use Rattle.rs_mean.specs.Scalars.{integer_scalar, same_type}
use Rattle.rs_mean.specs.Typing.{casts}
use Rattle.rs_mean.specs.Values.{typed, truth as truth_typed}
use Rattle.rs_text.specs.declared.integer.IntegerTy.{IntegerTy}
use Rattle.rs_text.specs.declared.integer.IntegerTy.TheVariants.{I32}
use Rattle.rs_text.specs.declared.operator.Operator.TheVariants as rust
use Rattle.rs_text.specs.Tree.{Ty, Integer, Boolean, Pointer, Code, Expr, Literal, Read, IsNull, IsNone, Transmute, Not, Cast, Binary}
use Rattle.lift_forms.specs.Given.{Given, nothing, truth, value, place}
use Rattle.lift_forms.specs.Operators.{Operand, cast_to, as_type, value_of, integer_as, is_not_zero, is_zero, test_of, opposite_of}
use Rattle.lift_forms.proofs.SameTypes.{type_is}
use Rattle.lift_forms.proofs.Typed.{by_test, is_same_sort}
use Rattle.lift_stands.specs.Stands.{Images, ValueBelow, StandsFor}
use Rattle.lift_stands.proofs.Forms.{number_below}
use Rattle.lift_stands_pointers.specs.LawsOperators.{IsAddress}
use Rattle.lift_stands_pointers.proofs.Operators.{tests}
use Rattle.lift_forms_laws.specs.Gives.{GivesAt, GivesBelow, truth_number, GivenStands, OperandStands, IsOf}
use Rattle.lift_forms_laws.proofs.Numbers.{converted_same}
use Rattle.lift_forms_laws.proofs.Runs.{cast_gives, transmute_gives, binary_gives, not_gives, is_null_gives, is_none_gives, literal_gives}

truth_converted : (test : Bool) → converted (integer_scalar I32) (number_of_truth test) ≡ number_of_truth test
truth_converted true = refl
truth_converted false = refl

module _ (images : Images) (frame : Frame) (world : World) where
  -- ---- values

  given_value : (ty : Ty) (given : Given) (of_c : Value) → GivenStands images frame world ty given of_c →
      GivesBelow images frame world (value_of (record { ty = ty; given = given })) ty of_c
  given_value ty nothing of_c h = absurd h
  given_value ty (truth e) of_c h = record {
    other = truth_number h.test;
    gives = subst (λ t. GivesAt frame world (Cast e (Integer I32)) t (truth_number h.test)) (sym h.is_int)
        (cast_gives frame world e Boolean (Integer I32) (truth_number h.test) (truth_number h.test) h.gives (ap (λ n. Ok (typed (Integer I32) (Whole n))) (truth_converted h.test)));
    below = subst (λ v. ValueBelow images v (truth_number h.test)) (sym h.is_number) (ValueBelow.same_number (number_of_truth h.test));
  }
  given_value ty (value e) of_c h = h
  given_value ty (place p) of_c h = h

  pub value_gives : (operand : Operand) (of_c : Value) → OperandStands images frame world operand of_c → GivesBelow images frame world (value_of operand) operand.ty of_c
  value_gives operand of_c h = given_value operand.ty operand.given of_c h

  number_at : (e : Expr) (ty : Ty) (number : ℤ) → GivesBelow images frame world e ty (Whole number) → GivesAt frame world e ty (Whole number)
  number_at e ty number h = subst (GivesAt frame world e ty) (number_below images number h.other h.below) h.gives

  pub number_gives : (operand : Operand) (number : ℤ) → OperandStands images frame world operand (Whole number) → GivesAt frame world (value_of operand) operand.ty (Whole number)
  number_gives operand number h = number_at (value_of operand) operand.ty number (value_gives operand (Whole number) h)

  -- ---- numbers of an integer type

  cast_number : (e : Expr) (from : Ty) (which : IntegerTy) (number : ℤ) → GivesAt frame world e from (Whole number) → casts from (Integer which) ≡ true →
      GivesAt frame world (Cast e (Integer which)) (Integer which) (Whole (converted (integer_scalar which) number))
  cast_number e (Integer from) which number h c =
      cast_gives frame world e (Integer from) (Integer which) (Whole number) (Whole (converted (integer_scalar which) number)) h refl
  cast_number e Boolean which number h c = cast_gives frame world e Boolean (Integer which) (Whole number) (Whole (converted (integer_scalar which) number)) h refl
  cast_number e from which number h c = absurd cc

  pub cast_to_number : (e : Expr) (from : Ty) (which : IntegerTy) (number : ℤ) → GivesAt frame world e from (Whole number) → casts from (Integer which) ≡ true →
      IsOf from (Whole number) → GivesAt frame world (cast_to from (Integer which) e) (Integer which) (Whole (converted (integer_scalar which) number))
  cast_to_number e from which number h c is =
      by_test (λ x. GivesAt frame world x (Integer which) (Whole (converted (integer_scalar which) number))) (same_type from (Integer which)) e (Cast e (Integer which))
      (λ same. let t : from ≡ Integer which = type_is from (Integer which) same in
      subst (λ n. GivesAt frame world e (Integer which) (Whole n)) (sym (converted_same which number (subst (λ x. IsOf x (Whole number)) t is)))
      (subst (λ x. GivesAt frame world e x (Whole number)) t h))
      (λ _. cast_number e from which number h c)

  given_integer : (which : IntegerTy) (ty : Ty) (given : Given) (number : ℤ) → GivenStands images frame world ty given (Whole number) → casts ty (Integer which) ≡ true →
      IsOf ty (Whole number) → GivesAt frame world (integer_as which (record { ty = ty; given = given })) (Integer which) (Whole (converted (integer_scalar which) number))
  given_integer which ty nothing number h c is = absurd h
  given_integer which ty (truth e) number h c is =
      let same : number_of_truth h.test ≡ number = cc (h.is_number) in
      subst (λ n. GivesAt frame world (Cast e (Integer which)) (Integer which) (Whole (converted (integer_scalar which) n))) same
      (cast_number e Boolean which (number_of_truth h.test) h.gives refl)
  given_integer which ty (value e) number h c is = cast_to_number e ty which number (number_at e ty number h) c is
  given_integer which ty (place p) number h c is = cast_to_number (Read p) ty which number (number_at (Read p) ty number h) c is

  pub integer_gives : (which : IntegerTy) (operand : Operand) (number : ℤ) → OperandStands images frame world operand (Whole number) →
      casts operand.ty (Integer which) ≡ true → IsOf operand.ty (Whole number) →
      GivesAt frame world (integer_as which operand) (Integer which) (Whole (converted (integer_scalar which) number))
  integer_gives which operand number h c is = given_integer which operand.ty operand.given number h c is

  -- ---- pointers of another type

  pub as_type_gives : (from to : Ty) (e : Expr) (other : Value) → GivesAt frame world e from other → is_same_sort from to ≡ true → GivesAt frame world (as_type from to e) to other
  as_type_gives (Pointer from) (Pointer target) e other h c =
      by_test (λ x. GivesAt frame world x (Pointer target) other) (same_type (Pointer from) (Pointer target)) e (Cast e (Pointer target))
      (λ same. subst (λ t. GivesAt frame world e t other) (type_is (Pointer from) (Pointer target) same) h)
      (λ _. cast_gives frame world e (Pointer from) (Pointer target) other other h refl)
  as_type_gives (Code params result) (Code others gives) e other h c =
      by_test (λ x. GivesAt frame world x (Code others gives) other) (same_type (Code params result) (Code others gives)) e (Transmute (Code params result) (Code others gives) e)
      (λ same. subst (λ t. GivesAt frame world e t other) (type_is (Code params result) (Code others gives) same) h)
      (λ _. transmute_gives frame world e (Code params result) (Code others gives) (Code params result) other other h refl)
  as_type_gives from to e other h c = absurd cc

  -- ---- conditions

  module _ (memory : Blocks) (stands : StandsFor images memory world.held.blocks) where
    truth_is : (number : ℤ) (test : Bool) → IsInRange TruthScalar number → not (int_eq number (pos 0)) ≡ test → number ≡ number_of_truth test
    truth_is (pos zero) true r e = absurd cc
    truth_is (pos zero) false r e = refl
    truth_is (pos (suc zero)) true r e = refl
    truth_is (pos (suc zero)) false r e = absurd cc
    truth_is (pos (suc (suc n))) test r e = let high = r.1 in absurd (omega (arith, ints, high))
    truth_is (negsuc n) test r e = let low = r.0 in absurd (omega (arith, ints, low))

    turned : (test : Bool) → not (not test) ≡ test
    turned true = refl
    turned false = refl

    not_truth : (e : Expr) (test : Bool) → GivesAt frame world e Boolean (truth_number test) → GivesAt frame world (Not e) Boolean (truth_number (not test))
    not_truth e true h = not_gives frame world e Boolean (truth_number true) (truth_number false) h refl
    not_truth e false h = not_gives frame world e Boolean (truth_number false) (truth_number true) h refl

    null_test : (e : Expr) (target : Ty) (of_c other : Value) (test : Bool) → GivesAt frame world e (Pointer target) other → ValueBelow images of_c other → IsAddress of_c →
        is_true memory of_c ≡ Ok test → GivesAt frame world (IsNull e) Boolean (truth_number (not test))
    null_test e target of_c other test h below is t =
        is_null_gives frame world e (Pointer target) other (not test) h (ap (λ b. Ok (truth_typed b)) (tests images memory world.held.blocks of_c other test stands below is t))

    none_test : (e : Expr) (params : _) (result : _) (of_c other : Value) (test : Bool) → GivesAt frame world e (Code params result) other → ValueBelow images of_c other → IsAddress of_c →
        is_true memory of_c ≡ Ok test → GivesAt frame world (IsNone e) Boolean (truth_number (not test))
    none_test e params result of_c other test h below is t =
        is_none_gives frame world e (Code params result) other (not test) h (ap (λ b. Ok (truth_typed b)) (tests images memory world.held.blocks of_c other test stands below is t))

    pointer_is_address : (target : Ty) (of_c : Value) → IsOf (Pointer target) of_c → IsAddress of_c
    pointer_is_address target Null is = tt
    pointer_is_address target (Object at) is = tt
    pointer_is_address target (Whole number) is = absurd is
    pointer_is_address target (Function number) is = absurd is

    code_is_address : (params : _) (result : _) (of_c : Value) → IsOf (Code params result) of_c → IsAddress of_c
    code_is_address params result Null is = tt
    code_is_address params result (Object at) is = absurd is
    code_is_address params result (Whole number) is = absurd is
    code_is_address params result (Function number) is = tt

    -- the opposite condition of a value
    zero_gives : (e : Expr) (ty : Ty) (of_c : Value) (test : Bool) → GivesBelow images frame world e ty of_c → IsOf ty of_c → is_true memory of_c ≡ Ok test →
        GivesAt frame world (is_zero ty e) Boolean (truth_number (not test))
    zero_gives e (Integer which) (Whole number) test h is t =
        let same : not (int_eq number (pos 0)) ≡ test = cc in
        subst (λ b. GivesAt frame world (Binary e rust.Equal (Literal (pos 0) which)) Boolean (truth_number b)) (sym (turned (int_eq number (pos 0))) ∙ ap not same)
        (binary_gives frame world e (Literal (pos 0) which) rust.Equal (Integer which) (Integer which) Boolean (Whole number) (Whole (pos 0)) (truth_number (int_eq number (pos 0)))
        (number_at e (Integer which) number h) (literal_gives frame world (pos 0) which) refl)
    zero_gives e Boolean (Whole number) test h is t =
        let same : not (int_eq number (pos 0)) ≡ test = cc in
        not_truth e test (subst (λ n. GivesAt frame world e Boolean (Whole n)) (truth_is number test is same) (number_at e Boolean number h))
    zero_gives e (Pointer target) of_c test h is t = null_test e target of_c h.other test h.gives h.below (pointer_is_address target of_c is) t
    zero_gives e (Code params result) of_c test h is t = none_test e params result of_c h.other test h.gives h.below (code_is_address params result of_c is) t
    zero_gives e ty of_c test h is t = absurd is

    not_zero_gives : (e : Expr) (ty : Ty) (of_c : Value) (test : Bool) → GivesBelow images frame world e ty of_c → IsOf ty of_c → is_true memory of_c ≡ Ok test →
        GivesAt frame world (is_not_zero ty e) Boolean (truth_number test)
    not_zero_gives e (Integer which) (Whole number) test h is t =
        let same : not (int_eq number (pos 0)) ≡ test = cc in
        subst (λ b. GivesAt frame world (Binary e rust.NotEqual (Literal (pos 0) which)) Boolean (truth_number b)) same
        (binary_gives frame world e (Literal (pos 0) which) rust.NotEqual (Integer which) (Integer which) Boolean (Whole number) (Whole (pos 0)) (truth_number (not (int_eq number (pos 0))))
        (number_at e (Integer which) number h) (literal_gives frame world (pos 0) which) refl)
    not_zero_gives e Boolean (Whole number) test h is t =
        let same : not (int_eq number (pos 0)) ≡ test = cc in
        subst (λ n. GivesAt frame world e Boolean (Whole n)) (truth_is number test is same) (number_at e Boolean number h)
    not_zero_gives e (Pointer target) of_c test h is t =
        subst (λ b. GivesAt frame world (Not (IsNull e)) Boolean (truth_number b)) (turned test)
        (not_truth (IsNull e) (not test) (null_test e target of_c h.other test h.gives h.below (pointer_is_address target of_c is) t))
    not_zero_gives e (Code params result) of_c test h is t =
        subst (λ b. GivesAt frame world (Not (IsNone e)) Boolean (truth_number b)) (turned test)
        (not_truth (IsNone e) (not test) (none_test e params result of_c h.other test h.gives h.below (code_is_address params result of_c is) t))
    not_zero_gives e ty of_c test h is t = absurd is

    -- what C's 0 or 1 is as a condition
    number_tested : (of_c : Value) (test tested : Bool) → of_c ≡ truth_number test → is_true memory of_c ≡ Ok tested → test ≡ tested
    number_tested of_c test tested is t = by_truth test (subst (λ v. is_true memory v ≡ Ok tested) is t)
      where
        by_truth : (test : Bool) → is_true memory (truth_number test) ≡ Ok tested → test ≡ tested
        by_truth true e = cc
        by_truth false e = cc

    given_test : (ty : Ty) (given : Given) (of_c : Value) (test : Bool) → GivenStands images frame world ty given of_c → IsOf ty of_c → is_true memory of_c ≡ Ok test →
        GivesAt frame world (test_of (record { ty = ty; given = given })) Boolean (truth_number test)
    given_test ty nothing of_c test h is t = absurd h
    given_test ty (truth e) of_c test h is t =
        subst (λ b. GivesAt frame world e Boolean (truth_number b)) (number_tested of_c h.test test h.is_number t) h.gives
    given_test ty (value e) of_c test h is t = not_zero_gives e ty of_c test h is t
    given_test ty (place p) of_c test h is t = not_zero_gives (Read p) ty of_c test h is t

    pub test_gives : (operand : Operand) (of_c : Value) (test : Bool) → OperandStands images frame world operand of_c → IsOf operand.ty of_c → is_true memory of_c ≡ Ok test →
        GivesAt frame world (test_of operand) Boolean (truth_number test)
    test_gives operand of_c test h is t = given_test operand.ty operand.given of_c test h is t

    given_opposite : (ty : Ty) (given : Given) (of_c : Value) (test : Bool) → GivenStands images frame world ty given of_c → IsOf ty of_c → is_true memory of_c ≡ Ok test →
        GivesAt frame world (opposite_of (record { ty = ty; given = given })) Boolean (truth_number (not test))
    given_opposite ty nothing of_c test h is t = absurd h
    given_opposite ty (truth e) of_c test h is t =
        not_truth e test (subst (λ b. GivesAt frame world e Boolean (truth_number b)) (number_tested of_c h.test test h.is_number t) h.gives)
    given_opposite ty (value e) of_c test h is t = zero_gives e ty of_c test h is t
    given_opposite ty (place p) of_c test h is t = zero_gives (Read p) ty of_c test h is t

    pub opposite_gives : (operand : Operand) (of_c : Value) (test : Bool) → OperandStands images frame world operand of_c → IsOf operand.ty of_c → is_true memory of_c ≡ Ok test →
        GivesAt frame world (opposite_of operand) Boolean (truth_number (not test))
    opposite_gives operand of_c test h is t = given_opposite operand.ty operand.given of_c test h is t
