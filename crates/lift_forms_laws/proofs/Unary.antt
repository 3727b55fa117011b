-- Operators with one operand, and minus.
use Rattle.std.proofs.Common.{◌≡◌, ℤ, neg_ℤ, Bool, true, false, not, if◌then◌else◌, Option, Some, None, Ok, Err, refl, sym, ap, subst, ◌∙◌}
use Rattle.cr_base.specs.declared.scalar.Scalar.{Scalar}
use Rattle.cr_base.specs.declared.rule.URule.TheVariants.{U2}
use Rattle.cr_runs.specs.Runs.{Ran, came, halted, bad, out}
use Rattle.cr_world.specs.World.{World, Stop}
use Rattle.cx_core.specs.declared.expr.Op1.{Op1}
use Rattle.cx_core.specs.declared.expr.Op1.TheVariants.{Plus, Minus, Complement, Not as Negates}
use Rattle.cx_core.specs.Trees.{CTy}
use Rattle.cx_mean.specs.Settings.{CSetting, scalar_in_type}
use Rattle.cx_mean.specs.Values.{is_true, unary_of, unary_value}
use Rattle.cx_numbers.specs.Numbers.{number_of_truth as c_number_of_truth, in_type, number_of_unary}
use Rattle.mem_bytes.specs.Access.{and_then}
use Rattle.mem_bytes.specs.Memory.{Blocks}
use Rattle.mem_bytes.specs.declared.value.Value.{Value}
use Rattle.mem_bytes.specs.declared.value.Value.TheVariants.{Whole, Null, Object, Code as Function}
use Rattle.mem_bytes.proofs.Reached.{and_then_ok}
use Rattle.rs_mean.specs.declared.cause.Cause.{Cause}
use Rattle.rs_mean.specs.declared.cause.Cause.TheVariants.{Overflow}
use Rattle.rs_mean.specs.Numbers.{number_of_truth, wrapped_in, complement}
use Rattle.rs_mean.specs.Run.{Frame}
use Rattle.rs_mean.specs.Scalars.{integer_scalar, is_signed_integer, fits_integer, is_scalar, scalar_of}
use Rattle.rs_mean.specs.Values.{Typed, typed, numbered}
use Rattle.rs_mean.specs.World.{pure}
use Rattle.rs_text.specs.declared.integer.IntegerTy.{IntegerTy}
use Rattle.rs_text.specs.declared.integer.IntegerTy.TheVariants.{I32}
use Rattle.rs_text.specs.Tree.{Ty, Integer, Expr, Literal, Neg, Not, WrappingNeg}
use Rattle.lift_forms.specs.Given.{Given, truth}
use Rattle.lift_forms.specs.LawsTyping.{unary_result}
use Rattle.lift_forms.specs.Operators.{Operand, value_of, minus, literal_or_minus, minus_literal, negated, unary_form, opposite_of}
use Rattle.lift_forms.proofs.Typed.{by_test, if_some}
use Rattle.lift_stands.specs.Stands.{Images, ValueBelow}
use Rattle.lift_forms_laws.specs.Gives.{GivesAt, GivesBelow, GivenStands, OperandStands, IsOf}
use Rattle.lift_forms_laws.specs.LawsMeaning.{Standing}
use Rattle.lift_forms_laws.proofs.Numbers.{signed_type, unsigned_type, represented_is}
use Rattle.lift_forms_laws.proofs.Operands.{number_gives, opposite_gives}
use Rattle.lift_forms_laws.proofs.Runs.{neg_gives, wrapping_neg_gives, not_gives, literal_gives}

pub same_truth : (test : Bool) → c_number_of_truth test ≡ number_of_truth test
same_truth true = refl
same_truth false = refl

-- the value to which a run came
abbrev value_come : Ran (Stop Cause) World Typed → Value
value_come (came given world units) = given.value
value_come (halted status world) = Null
value_come (bad why world) = Null
value_come (out world) = Null

module _ (images : Images) (frame : Frame) (world : World) where
  pub number_stands : (e : Expr) (ty : Ty) (number : ℤ) → GivesAt frame world e ty (Whole number) → GivesBelow images frame world e ty (Whole number)
  number_stands e ty number h = record { other = Whole number; gives = h; below = ValueBelow.same_number number }

  -- ---- minus

  neg_at : (which : IntegerTy) (e : Expr) (number : ℤ) → GivesAt frame world e (Integer which) (Whole number) → fits_integer which (neg_ℤ number) ≡ true →
      GivesAt frame world (Neg e) (Integer which) (Whole (neg_ℤ number))
  neg_at which e number h fits =
      neg_gives frame world e (Integer which) (Whole number) (Whole (neg_ℤ number)) h
      (ap (λ (b : Bool). numbered which (if b then Ok (neg_ℤ number) else Err Overflow)) fits)

  literal_at : (which ty : IntegerTy) (n number : ℤ) → GivesAt frame world (Literal n ty) (Integer which) (Whole number) → n ≡ number
  unfolding pure
  literal_at which ty n number h = let same : Whole n ≡ Whole number = ap value_come (h.runs 0) in cc (same)

  minus_of_literal : (which : IntegerTy) (number : ℤ) → fits_integer which (neg_ℤ number) ≡ true →
      GivesAt frame world (minus_literal which number) (Integer which) (Whole (neg_ℤ number))
  minus_of_literal which number fits =
      subst (λ (b : Bool). GivesAt frame world (literal_or_minus (if b then Some (neg_ℤ number) else None) which number) (Integer which) (Whole (neg_ℤ number)))
      (sym fits) (literal_gives frame world (neg_ℤ number) which)

  pub minus_gives : (which : IntegerTy) (e : Expr) (number : ℤ) → GivesAt frame world e (Integer which) (Whole number) → fits_integer which (neg_ℤ number) ≡ true →
      GivesAt frame world (minus which e) (Integer which) (Whole (neg_ℤ number))
  minus_gives which (Literal n ty) number h fits =
      let same : number ≡ n = sym (literal_at which ty n number h) in
      subst (λ m. GivesAt frame world (minus_literal which n) (Integer which) (Whole (neg_ℤ m))) (sym same)
      (minus_of_literal which n (subst (λ m. fits_integer which (neg_ℤ m) ≡ true) same fits))
  minus_gives which e number h fits = neg_at which e number h fits

  negated_gives : (which : IntegerTy) (e : Expr) (number m : ℤ) → GivesAt frame world e (Integer which) (Whole number) → in_type U2 (integer_scalar which) (neg_ℤ number) ≡ Ok m →
      GivesAt frame world (negated (Integer which) e) (Integer which) (Whole m)
  negated_gives which e number m h is =
      by_test (λ x. GivesAt frame world x (Integer which) (Whole m)) (is_signed_integer which) (minus which e) (WrappingNeg e)
      (λ signed. let parts = represented_is (fits_integer which (neg_ℤ number)) U2 (neg_ℤ number) m (sym (signed_type which U2 (neg_ℤ number) signed) ∙ is) in
      subst (λ n. GivesAt frame world (minus which e) (Integer which) (Whole n)) parts.1 (minus_gives which e number h parts.0))
      (λ unsigned. let same : wrapped_in which (neg_ℤ number) ≡ m = cc (sym (unsigned_type which U2 (neg_ℤ number) unsigned) ∙ is) in
      wrapping_neg_gives frame world e (Integer which) (Whole number) (Whole m) h (ap (λ n. Ok (typed (Integer which) (Whole n))) same))

  -- ---- the operators

  complemented : (which : IntegerTy) (e : Expr) (number m : ℤ) → GivesAt frame world e (Integer which) (Whole number) → number_of_unary Complement (integer_scalar which) number ≡ Ok m →
      GivesAt frame world (Not e) (Integer which) (Whole m)
  complemented which e number m h is =
      let same : complement which number ≡ m = cc (is) in
      not_gives frame world e (Integer which) (Whole number) (Whole m) h (ap (λ n. Ok (typed (Integer which) (Whole n))) same)

  module _ (memory : Blocks) (setting : CSetting) (type : CTy) where
    found : (op : Op1) (kind : Scalar) (of_c new : Value) → scalar_in_type setting type ≡ Some kind → unary_value setting op type memory of_c ≡ Ok new →
        (n : ℤ) × (unary_of op (Some kind) memory of_c ≡ Ok n) × (new ≡ Whole n)
    found op kind of_c new is e =
        let parts = and_then_ok (unary_of op (scalar_in_type setting type) memory of_c) (λ n. Ok (Whole n)) new e in
        (parts.0, subst (λ k. unary_of op k memory of_c ≡ Ok parts.0) is parts.1, (let same : new ≡ Whole parts.0 = cc (parts.2) in same))

    negates : (operand : Operand) (of_c new : Value) → Standing images memory world → OperandStands images frame world operand of_c → IsOf operand.ty of_c →
        (kind : Option Scalar) → and_then (unary_of Negates kind memory of_c) (λ n. Ok (Whole n)) ≡ Ok new → (ty : Ty) → Integer I32 ≡ ty →
        GivenStands images frame world ty (truth (opposite_of operand)) new
    negates operand of_c new standing h is kind e ty int =
        let outer = and_then_ok (unary_of Negates kind memory of_c) (λ n. Ok (Whole n)) new e in
        let inner = and_then_ok (is_true memory of_c) (λ test. Ok (c_number_of_truth (not test))) outer.0 outer.1 in
        let number : c_number_of_truth (not inner.0) ≡ outer.0 = cc (inner.2) in
        let whole : Whole outer.0 ≡ new = cc (outer.2) in
        record {
          test = not inner.0;
          gives = opposite_gives images frame world memory standing.stands operand of_c inner.0 h is inner.1;
          is_number = sym whole ∙ ap Whole (sym number ∙ same_truth (not inner.0));
          is_int = sym int;
        }

    plus_by : (which : IntegerTy) (operand : Operand) (number : ℤ) (new : Value) → GivesAt frame world (value_of operand) (Integer which) (Whole number) →
        scalar_in_type setting type ≡ Some (integer_scalar which) → unary_value setting Plus type memory (Whole number) ≡ Ok new →
        GivesBelow images frame world (value_of operand) (Integer which) new
    plus_by which operand number new h s e =
        let parts = found Plus (integer_scalar which) (Whole number) new s e in
        let same : number ≡ parts.0 = cc (parts.1) in
        subst (GivesBelow images frame world (value_of operand) (Integer which)) (ap Whole same ∙ sym parts.2) (number_stands (value_of operand) (Integer which) number h)

    minus_by : (which : IntegerTy) (operand : Operand) (number : ℤ) (new : Value) → GivesAt frame world (value_of operand) (Integer which) (Whole number) →
        scalar_in_type setting type ≡ Some (integer_scalar which) → unary_value setting Minus type memory (Whole number) ≡ Ok new →
        GivesBelow images frame world (negated (Integer which) (value_of operand)) (Integer which) new
    minus_by which operand number new h s e =
        let parts = found Minus (integer_scalar which) (Whole number) new s e in
        subst (GivesBelow images frame world (negated (Integer which) (value_of operand)) (Integer which)) (sym parts.2)
        (number_stands (negated (Integer which) (value_of operand)) (Integer which) parts.0 (negated_gives which (value_of operand) number parts.0 h parts.1))

    complement_by : (which : IntegerTy) (operand : Operand) (number : ℤ) (new : Value) → GivesAt frame world (value_of operand) (Integer which) (Whole number) →
        scalar_in_type setting type ≡ Some (integer_scalar which) → unary_value setting Complement type memory (Whole number) ≡ Ok new →
        GivesBelow images frame world (Not (value_of operand)) (Integer which) new
    complement_by which operand number new h s e =
        let parts = found Complement (integer_scalar which) (Whole number) new s e in
        subst (GivesBelow images frame world (Not (value_of operand)) (Integer which)) (sym parts.2)
        (number_stands (Not (value_of operand)) (Integer which) parts.0 (complemented which (value_of operand) number parts.0 h parts.1))

    -- an operator of a result type that is known
    retyped : (e : Expr) (ty gives : Ty) (new : Value) → ty ≡ gives → GivesBelow images frame world e ty new → GivesBelow images frame world e gives new
    retyped e ty gives new same h = subst (λ t. GivesBelow images frame world e t new) same h

    kind_is : (ty : Ty) (which : IntegerTy) → Integer which ≡ ty → scalar_in_type setting type ≡ scalar_of ty → scalar_in_type setting type ≡ Some (integer_scalar which)
    kind_is ty which same s = s ∙ ap scalar_of (sym same)

    unary_by : (op : Op1) (one : Ty) (given : Given) (ty : Ty) (of_c new : Value) → Standing images memory world →
        OperandStands images frame world (record { ty = one; given = given }) of_c → IsOf one of_c → unary_result op one ≡ Some ty →
        scalar_in_type setting type ≡ scalar_of ty → unary_value setting op type memory of_c ≡ Ok new →
        GivenStands images frame world ty (unary_form op (record { ty = one; given = given })) new
    unary_by Negates one given ty of_c new standing h is r s e =
        negates (record { ty = one; given = given }) of_c new standing h is (scalar_in_type setting type) e ty (if_some (is_scalar one) (Integer I32) ty r).1
    unary_by Plus (Integer which) given ty (Whole number) new standing h is r s e =
        let same : Integer which ≡ ty = cc (r) in
        retyped _ (Integer which) ty new same (plus_by which (record { ty = Integer which; given = given }) number new
        (number_gives images frame world (record { ty = Integer which; given = given }) number h) (kind_is ty which same s) e)
    unary_by Minus (Integer which) given ty (Whole number) new standing h is r s e =
        let same : Integer which ≡ ty = cc (r) in
        retyped _ (Integer which) ty new same (minus_by which (record { ty = Integer which; given = given }) number new
        (number_gives images frame world (record { ty = Integer which; given = given }) number h) (kind_is ty which same s) e)
    unary_by Complement (Integer which) given ty (Whole number) new standing h is r s e =
        let same : Integer which ≡ ty = cc (r) in
        retyped _ (Integer which) ty new same (complement_by which (record { ty = Integer which; given = given }) number new
        (number_gives images frame world (record { ty = Integer which; given = given }) number h) (kind_is ty which same s) e)
    unary_by op (Integer which) given ty Null new standing h is r s e = absurd is
    unary_by op (Integer which) given ty (Object at) new standing h is r s e = absurd is
    unary_by op (Integer which) given ty (Function number) new standing h is r s e = absurd is
    unary_by op one given ty of_c new standing h is r s e = absurd cc

    pub unary_stands : (op : Op1) (operand : Operand) (ty : Ty) (of_c new : Value) → Standing images memory world → OperandStands images frame world operand of_c →
        IsOf operand.ty of_c → unary_result op operand.ty ≡ Some ty → scalar_in_type setting type ≡ scalar_of ty → unary_value setting op type memory of_c ≡ Ok new →
        GivenStands images frame world ty (unary_form op operand) new
    unary_stands op operand ty of_c new standing h is r s e = unary_by op operand.ty operand.given ty of_c new standing h is r s e
