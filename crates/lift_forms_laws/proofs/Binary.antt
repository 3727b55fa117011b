-- Operators between two numbers.
use Rattle.std.proofs.Common.{◌≡◌, ℤ, ◌+ℤ◌, ◌-ℤ◌, ◌*ℤ◌, int_lt, int_le, Bool, true, false, not, if◌then◌else◌, Option, Some, None, Result, Ok, refl, sym, ap, subst, ◌∙◌}
use Rattle.std.specs.Ordering.{int_eq}
use Rattle.cr_base.specs.Scalar.{converted}
use Rattle.cr_base.specs.declared.rule.URule.TheVariants.{U2}
use Rattle.cr_base.specs.declared.scalar.Scalar.{Scalar}
use Rattle.cr_world.specs.World.{World}
use Rattle.cx_core.specs.declared.expr.Op2.{Op2}
use Rattle.cx_core.specs.declared.expr.Op2.TheVariants as op2
use Rattle.cx_core.specs.Trees.{CTy}
use Rattle.cx_mean.specs.Operands.{needed}
use Rattle.cx_mean.specs.Settings.{CSetting, scalar_in_type}
use Rattle.cx_mean.specs.Values.{two_numbers}
use Rattle.cx_numbers.specs.Numbers.{number_of_truth as c_number_of_truth, CWhy, in_type, number_of_binary}
use Rattle.mem_bytes.specs.Access.{and_then}
use Rattle.mem_bytes.specs.declared.value.Value.{Value}
use Rattle.mem_bytes.specs.declared.value.Value.TheVariants.{Whole}
use Rattle.mem_bytes.proofs.Reached.{and_then_ok}
use Rattle.rs_mean.specs.declared.cause.Cause.{Cause}
use Rattle.rs_mean.specs.declared.cause.Cause.TheVariants.{Overflow}
use Rattle.rs_mean.specs.Numbers.{computed, checked, wrapping, wrapped_in}
use Rattle.rs_mean.specs.Run.{Frame}
use Rattle.rs_mean.specs.Scalars.{integer_scalar, is_signed_integer, same_integer, scalar_of}
use Rattle.rs_mean.specs.Values.{typed, numbered, by_type}
use Rattle.rs_text.specs.declared.integer.IntegerTy.{IntegerTy}
use Rattle.rs_text.specs.declared.integer.IntegerTy.TheVariants.{I32, U32}
use Rattle.rs_text.specs.declared.operator.Operator.{Operator}
use Rattle.rs_text.specs.declared.operator.Operator.TheVariants as rust
use Rattle.rs_text.specs.declared.operator.Wrapping.{Wrapping}
use Rattle.rs_text.specs.declared.operator.Wrapping.TheVariants.{WrappingAdd, WrappingSub, WrappingMul}
use Rattle.rs_text.specs.Tree.{Ty, Integer, Boolean, Expr, Wrapped, Binary}
use Rattle.lift_forms.specs.Given.{truth}
use Rattle.lift_forms.specs.LawsTyping.{is_comparison, numbers_result}
use Rattle.lift_forms.specs.Operators.{Operand, value_of, count_of, summed, integers_form}
use Rattle.lift_forms.proofs.SameTypes.{integer_is}
use Rattle.lift_forms.proofs.Typed.{by_test, if_some}
use Rattle.lift_stands.specs.Stands.{Images}
use Rattle.lift_forms_laws.specs.Gives.{GivesAt, GivesBelow, truth_number, GivenStands}
use Rattle.lift_forms_laws.proofs.Numbers.{signed_type, unsigned_type, checked_is, quotient_is, remainder_is, left_is, right_is}
use Rattle.lift_forms_laws.proofs.Runs.{binary_gives, wrapped_gives}
use Rattle.lift_forms_laws.proofs.Unary.{same_truth, number_stands}

-- a number that C gives, and one that Rust gives
abbrev pub c_gives : ℤ → Result ℤ CWhy
c_gives n = Ok n

abbrev gives_number : ℤ → Result ℤ Cause
gives_number n = Ok n

bits_are : {n m : ℤ} → c_gives n ≡ c_gives m → gives_number n ≡ gives_number m
bits_are {n} {m} e = let same : n ≡ m = cc (e) in ap gives_number same

pub needed_is : {A : Type 0} (found : Option A) (value : A) → needed found ≡ Ok value → found ≡ Some value
needed_is (Some one) value e = let same : one ≡ value = cc (e) in ap Some same
needed_is None value e = absurd cc

compared_alike : (op : Op2) (kind other : Scalar) (l r : ℤ) → is_comparison op ≡ true → number_of_binary op other l r ≡ number_of_binary op kind l r
compared_alike op2.Less kind other l r is = refl
compared_alike op2.Greater kind other l r is = refl
compared_alike op2.LessOrEqual kind other l r is = refl
compared_alike op2.GreaterOrEqual kind other l r is = refl
compared_alike op2.Equal kind other l r is = refl
compared_alike op2.NotEqual kind other l r is = refl
compared_alike op kind other l r is = absurd cc

computed_result : (test same : Bool) (one : IntegerTy) (gives : Ty) → test ≡ false → (if same then Some (if test then Integer I32 else Integer one) else None) ≡ Some gives → gives ≡ Integer one
computed_result false true one gives is e = cc (e)
computed_result false false one gives is e = absurd cc
computed_result true same one gives is e = absurd cc

result_is : (op : Op2) (one other : IntegerTy) (gives : Ty) → is_comparison op ≡ false → numbers_result op one other ≡ Some gives → gives ≡ Integer one
result_is op2.ShiftLeft one other gives is e = cc (e)
result_is op2.ShiftRight one other gives is e = cc (e)
result_is op2.Multiply one other gives is e = computed_result false (same_integer one other) one gives is e
result_is op2.Divide one other gives is e = computed_result false (same_integer one other) one gives is e
result_is op2.Remainder one other gives is e = computed_result false (same_integer one other) one gives is e
result_is op2.Add one other gives is e = computed_result false (same_integer one other) one gives is e
result_is op2.Subtract one other gives is e = computed_result false (same_integer one other) one gives is e
result_is op2.BitAnd one other gives is e = computed_result false (same_integer one other) one gives is e
result_is op2.BitXor one other gives is e = computed_result false (same_integer one other) one gives is e
result_is op2.BitOr one other gives is e = computed_result false (same_integer one other) one gives is e
result_is op one other gives is e = absurd cc

module _ (images : Images) (frame : Frame) (world : World) where
  -- an operator that computes a number
  computed_gives : (operator : Operator) (which other : IntegerTy) (left right : Expr) (l r m : ℤ) → GivesAt frame world left (Integer which) (Whole l) →
      GivesAt frame world right (Integer other) (Whole r) →
      by_type world.held.blocks operator (Integer which) (Whole l) (Whole r) ≡ numbered which (computed operator which l r) → computed operator which l r ≡ Ok m →
      GivesAt frame world (Binary left operator right) (Integer which) (Whole m)
  computed_gives operator which other left right l r m h k is e =
      binary_gives frame world left right operator (Integer which) (Integer other) (Integer which) (Whole l) (Whole r) (Whole m) h k (is ∙ ap (numbered which) e)

  summed_gives : (operator : Operator) (operation : Wrapping) (which : IntegerTy) (left right : Expr) (l r n m : ℤ) → GivesAt frame world left (Integer which) (Whole l) →
      GivesAt frame world right (Integer which) (Whole r) →
      by_type world.held.blocks operator (Integer which) (Whole l) (Whole r) ≡ numbered which (computed operator which l r) →
      computed operator which l r ≡ checked Overflow which n → wrapping operation which l r ≡ wrapped_in which n → in_type U2 (integer_scalar which) n ≡ Ok m →
      GivesAt frame world (summed which operator operation left right) (Integer which) (Whole m)
  summed_gives operator operation which left right l r n m h k is plain wraps e =
      by_test (λ x. GivesAt frame world x (Integer which) (Whole m)) (is_signed_integer which) (Binary left operator right) (Wrapped left operation right)
      (λ signed. computed_gives operator which which left right l r m h k is (plain ∙ checked_is which U2 Overflow n m (sym (signed_type which U2 n signed) ∙ e)))
      (λ unsigned. let same : wrapped_in which n ≡ m = cc (sym (unsigned_type which U2 n unsigned) ∙ e) in
      wrapped_gives frame world left right operation (Integer which) (Integer which) (Integer which) (Whole l) (Whole r) (Whole m) h k
      (ap (λ x. Ok (typed (Integer which) (Whole x))) (wraps ∙ same)))

  -- a comparison
  pub compared_stands : (operator : Operator) (ty gives : Ty) (left right : Expr) (lv rv : Value) (test : Bool) (m : ℤ) → GivesAt frame world left ty lv → GivesAt frame world right ty rv →
      by_type world.held.blocks operator ty lv rv ≡ Ok (typed Boolean (truth_number test)) → c_gives (c_number_of_truth test) ≡ c_gives m → Integer I32 ≡ gives →
      GivenStands images frame world gives (truth (Binary left operator right)) (Whole m)
  compared_stands operator ty gives left right lv rv test m h k is e int =
      let number : c_number_of_truth test ≡ m = cc (e) in
      record {
        test = test;
        gives = binary_gives frame world left right operator ty ty Boolean lv rv (truth_number test) h k is;
        is_number = ap Whole (sym number ∙ same_truth test);
        is_int = sym int;
      }

  given_number : (e : Expr) (which : IntegerTy) (gives : Ty) (m : ℤ) → GivesAt frame world e (Integer which) (Whole m) → Integer which ≡ gives →
      GivesBelow images frame world e gives (Whole m)
  given_number e which gives m h same = number_stands images frame world e gives m (subst (λ t. GivesAt frame world e t (Whole m)) same h)

  integers_stand : (op : Op2) (which : IntegerTy) (left right : Operand) (l r m : ℤ) (gives : Ty) → GivesAt frame world (value_of left) (Integer which) (Whole l) →
      GivesAt frame world (value_of right) (Integer which) (Whole r) → (if is_comparison op then Integer I32 else Integer which) ≡ gives →
      GivesAt frame world (count_of right) (Integer U32) (Whole (converted (integer_scalar U32) r)) → number_of_binary op (integer_scalar which) l r ≡ Ok m →
      GivenStands images frame world gives (integers_form op which left right) (Whole m)
  integers_stand op2.Multiply which left right l r m gives h k same c e =
      given_number _ which gives m (summed_gives rust.Mul WrappingMul which (value_of left) (value_of right) l r (l *ℤ r) m h k refl refl refl e) same
  integers_stand op2.Divide which left right l r m gives h k same c e =
      given_number _ which gives m (computed_gives rust.Div which which (value_of left) (value_of right) l r m h k refl (quotient_is which l r m e)) same
  integers_stand op2.Remainder which left right l r m gives h k same c e =
      given_number _ which gives m (computed_gives rust.Rem which which (value_of left) (value_of right) l r m h k refl (remainder_is which l r m e)) same
  integers_stand op2.Add which left right l r m gives h k same c e =
      given_number _ which gives m (summed_gives rust.Add WrappingAdd which (value_of left) (value_of right) l r (l +ℤ r) m h k refl refl refl e) same
  integers_stand op2.Subtract which left right l r m gives h k same c e =
      given_number _ which gives m (summed_gives rust.Sub WrappingSub which (value_of left) (value_of right) l r (l -ℤ r) m h k refl refl refl e) same
  integers_stand op2.ShiftLeft which left right l r m gives h k same c e =
      given_number _ which gives m (computed_gives rust.Shl which U32 (value_of left) (count_of right) l (converted (integer_scalar U32) r) m h c refl (left_is which l r m e)) same
  integers_stand op2.ShiftRight which left right l r m gives h k same c e =
      given_number _ which gives m (computed_gives rust.Shr which U32 (value_of left) (count_of right) l (converted (integer_scalar U32) r) m h c refl (right_is which l r m e)) same
  integers_stand op2.Less which left right l r m gives h k same c e = compared_stands rust.Less (Integer which) gives (value_of left) (value_of right) (Whole l) (Whole r) (int_lt l r) m h k refl e same
  integers_stand op2.Greater which left right l r m gives h k same c e = compared_stands rust.Greater (Integer which) gives (value_of left) (value_of right) (Whole l) (Whole r) (int_lt r l) m h k refl e same
  integers_stand op2.LessOrEqual which left right l r m gives h k same c e = compared_stands rust.LessEqual (Integer which) gives (value_of left) (value_of right) (Whole l) (Whole r) (int_le l r) m h k refl e same
  integers_stand op2.GreaterOrEqual which left right l r m gives h k same c e = compared_stands rust.GreaterEqual (Integer which) gives (value_of left) (value_of right) (Whole l) (Whole r) (int_le r l) m h k refl e same
  integers_stand op2.Equal which left right l r m gives h k same c e = compared_stands rust.Equal (Integer which) gives (value_of left) (value_of right) (Whole l) (Whole r) (int_eq l r) m h k refl e same
  integers_stand op2.NotEqual which left right l r m gives h k same c e = compared_stands rust.NotEqual (Integer which) gives (value_of left) (value_of right) (Whole l) (Whole r) (not (int_eq l r)) m h k refl e same
  integers_stand op2.BitAnd which left right l r m gives h k same c e =
      given_number _ which gives m (computed_gives rust.BitAnd which which (value_of left) (value_of right) l r m h k refl (bits_are e)) same
  integers_stand op2.BitXor which left right l r m gives h k same c e =
      given_number _ which gives m (computed_gives rust.BitXor which which (value_of left) (value_of right) l r m h k refl (bits_are e)) same
  integers_stand op2.BitOr which left right l r m gives h k same c e =
      given_number _ which gives m (computed_gives rust.BitOr which which (value_of left) (value_of right) l r m h k refl (bits_are e)) same

  -- ---- by the types of the operands

  shift_stands : (operator : Operator) (one : IntegerTy) (left right : Operand) (l r m : ℤ) (gives : Ty) → GivesAt frame world (value_of left) (Integer one) (Whole l) →
      GivesAt frame world (count_of right) (Integer U32) (Whole (converted (integer_scalar U32) r)) →
      by_type world.held.blocks operator (Integer one) (Whole l) (Whole (converted (integer_scalar U32) r)) ≡ numbered one (computed operator one l (converted (integer_scalar U32) r)) →
      computed operator one l (converted (integer_scalar U32) r) ≡ Ok m → Integer one ≡ gives → GivesBelow images frame world (Binary (value_of left) operator (count_of right)) gives (Whole m)
  shift_stands operator one left right l r m gives h c is e same =
      given_number (Binary (value_of left) operator (count_of right)) one gives m
      (computed_gives operator one U32 (value_of left) (count_of right) l (converted (integer_scalar U32) r) m h c is e) same

  same_stand : (op : Op2) (one other : IntegerTy) (left right : Operand) (l r m : ℤ) (gives : Ty) → GivesAt frame world (value_of left) (Integer one) (Whole l) →
      GivesAt frame world (value_of right) (Integer other) (Whole r) → GivesAt frame world (count_of right) (Integer U32) (Whole (converted (integer_scalar U32) r)) →
      (if same_integer one other then Some (if is_comparison op then Integer I32 else Integer one) else None) ≡ Some gives →
      number_of_binary op (integer_scalar one) l r ≡ Ok m → GivenStands images frame world gives (integers_form op one left right) (Whole m)
  same_stand op one other left right l r m gives h k c result e =
      let parts = if_some (same_integer one other) (if is_comparison op then Integer I32 else Integer one) gives result in
      integers_stand op one left right l r m gives h (subst (λ t. GivesAt frame world (value_of right) t (Whole r)) (ap Integer (sym (integer_is one other parts.0))) k) parts.1 c e

  numbers_stand : (op : Op2) (one other : IntegerTy) (left right : Operand) (l r m : ℤ) (gives : Ty) → GivesAt frame world (value_of left) (Integer one) (Whole l) →
      GivesAt frame world (value_of right) (Integer other) (Whole r) → GivesAt frame world (count_of right) (Integer U32) (Whole (converted (integer_scalar U32) r)) →
      numbers_result op one other ≡ Some gives → number_of_binary op (integer_scalar one) l r ≡ Ok m → GivenStands images frame world gives (integers_form op one left right) (Whole m)
  numbers_stand op2.ShiftLeft one other left right l r m gives h k c result e =
      shift_stands rust.Shl one left right l r m gives h c refl (left_is one l r m e) (let same : Integer one ≡ gives = cc (result) in same)
  numbers_stand op2.ShiftRight one other left right l r m gives h k c result e =
      shift_stands rust.Shr one left right l r m gives h c refl (right_is one l r m e) (let same : Integer one ≡ gives = cc (result) in same)
  numbers_stand op2.Multiply one other left right l r m gives h k c result e = same_stand op2.Multiply one other left right l r m gives h k c result e
  numbers_stand op2.Divide one other left right l r m gives h k c result e = same_stand op2.Divide one other left right l r m gives h k c result e
  numbers_stand op2.Remainder one other left right l r m gives h k c result e = same_stand op2.Remainder one other left right l r m gives h k c result e
  numbers_stand op2.Add one other left right l r m gives h k c result e = same_stand op2.Add one other left right l r m gives h k c result e
  numbers_stand op2.Subtract one other left right l r m gives h k c result e = same_stand op2.Subtract one other left right l r m gives h k c result e
  numbers_stand op2.Less one other left right l r m gives h k c result e = same_stand op2.Less one other left right l r m gives h k c result e
  numbers_stand op2.Greater one other left right l r m gives h k c result e = same_stand op2.Greater one other left right l r m gives h k c result e
  numbers_stand op2.LessOrEqual one other left right l r m gives h k c result e = same_stand op2.LessOrEqual one other left right l r m gives h k c result e
  numbers_stand op2.GreaterOrEqual one other left right l r m gives h k c result e = same_stand op2.GreaterOrEqual one other left right l r m gives h k c result e
  numbers_stand op2.Equal one other left right l r m gives h k c result e = same_stand op2.Equal one other left right l r m gives h k c result e
  numbers_stand op2.NotEqual one other left right l r m gives h k c result e = same_stand op2.NotEqual one other left right l r m gives h k c result e
  numbers_stand op2.BitAnd one other left right l r m gives h k c result e = same_stand op2.BitAnd one other left right l r m gives h k c result e
  numbers_stand op2.BitXor one other left right l r m gives h k c result e = same_stand op2.BitXor one other left right l r m gives h k c result e
  numbers_stand op2.BitOr one other left right l r m gives h k c result e = same_stand op2.BitOr one other left right l r m gives h k c result e

  -- ---- with C's type of the result

  -- the kind in which an operator of numbers computes is that of its first operand, but for comparisons, where it plays no part
  kind_plays : (op : Op2) (one other : IntegerTy) (gives : Ty) (kind : Scalar) (l r m : ℤ) → numbers_result op one other ≡ Some gives → scalar_of gives ≡ Some kind →
      number_of_binary op kind l r ≡ Ok m → number_of_binary op (integer_scalar one) l r ≡ Ok m
  kind_plays op one other gives kind l r m result is e = by_comparison (is_comparison op) refl
    where
      not_compared : (test : Bool) → is_comparison op ≡ test → (gives ≡ Integer one) → number_of_binary op (integer_scalar one) l r ≡ Ok m
      not_compared test compares same =
          let kinds : integer_scalar one ≡ kind = cc (sym (ap scalar_of same) ∙ is) in
          subst (λ k. number_of_binary op k l r ≡ Ok m) (sym kinds) e

      by_comparison : (test : Bool) → is_comparison op ≡ test → number_of_binary op (integer_scalar one) l r ≡ Ok m
      by_comparison true compares = compared_alike op kind (integer_scalar one) l r compares ∙ e
      by_comparison false compares = not_compared false compares (result_is op one other gives compares result)

  pub two_numbers_stand : (setting : CSetting) (op : Op2) (type : CTy) (one other : IntegerTy) (left right : Operand) (l r : ℤ) (new : Value) (gives : Ty) →
      GivesAt frame world (value_of left) (Integer one) (Whole l) → GivesAt frame world (value_of right) (Integer other) (Whole r) →
      GivesAt frame world (count_of right) (Integer U32) (Whole (converted (integer_scalar U32) r)) → numbers_result op one other ≡ Some gives →
      scalar_in_type setting type ≡ scalar_of gives → two_numbers setting op type l r ≡ Ok new → GivenStands images frame world gives (integers_form op one left right) new
  two_numbers_stand setting op type one other left right l r new gives h k c result s e =
      let outer = and_then_ok (needed (scalar_in_type setting type)) (λ kind. and_then (number_of_binary op kind l r) (λ number. Ok (Whole number))) new e in
      let inner = and_then_ok (number_of_binary op outer.0 l r) (λ number. Ok (Whole number)) new outer.2 in
      let whole : Whole inner.0 ≡ new = cc (inner.2) in
      let kind : scalar_of gives ≡ Some outer.0 = sym s ∙ needed_is (scalar_in_type setting type) outer.0 outer.1 in
      subst (GivenStands images frame world gives (integers_form op one left right)) whole
      (numbers_stand op one other left right l r inner.0 gives h k c result (kind_plays op one other gives outer.0 l r inner.0 result kind inner.1))
