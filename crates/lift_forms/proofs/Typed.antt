-- Each form has the type of its result.
use Rattle.std.proofs.Common.{◌≡◌, ℕ, ℤ, pos, neg_ℤ, Bool, true, false, if◌then◌else◌, List, Option, Some, None, refl, sym, ap, ◌∙◌, subst}
use Rattle.cx_core.specs.declared.expr.Op1.{Op1}
use Rattle.cx_core.specs.declared.expr.Op1.TheVariants.{Plus, Minus, Complement, Not as Negates}
use Rattle.cx_core.specs.declared.expr.Op2.{Op2}
use Rattle.cx_core.specs.declared.expr.Op2.TheVariants as op2
use Rattle.rs_mean.specs.Scalars.{fits_integer, is_scalar, is_signed_integer, same_integer, same_type}
use Rattle.rs_mean.specs.Typing.{Scope, Kind, of, only_if, casts, kind_of, place_type, type_stands, target_type, is_function_of, own_function_at, binary_kind, is_target, is_code, is_bits, is_pointer, own_type}
use Rattle.rs_text.specs.declared.integer.IntegerTy.{IntegerTy}
use Rattle.rs_text.specs.declared.integer.IntegerTy.TheVariants.{I8, I16, I32, I64, U8, U16, U32, U64, Isize, Usize}
use Rattle.rs_text.specs.declared.operator.Operator.{Operator}
use Rattle.rs_text.specs.declared.operator.Operator.TheVariants as rust
use Rattle.rs_text.specs.declared.operator.Wrapping.{Wrapping}
use Rattle.rs_text.specs.declared.operator.Wrapping.TheVariants.{WrappingAdd, WrappingSub, WrappingMul}
use Rattle.rs_text.specs.Tree.{Ty, Integer, Boolean, Void, Pointer, Array, Code, Record, Tys, OptionTy, Place, Local, Static, Deref, Field, Expr, Literal, SomeFunction, Read, Wrapped, WrappingNeg, Offset, OffsetFrom, Transmute, Neg, Cast, Binary, And, Or, Choose}
use Rattle.lift_forms.specs.Given.{Given, nothing, truth, value, place, address_of, pointed}
use Rattle.lift_forms.specs.LawsTyping.{IsOfType, IsGivenAs, IsOperand, unary_result, is_comparison, numbers_result, moved_result, pointers_result, functions_result, added_result, binary_result, converts}
use Rattle.lift_forms.specs.Operators.{Operand, cast_to, transmute_to, as_type, value_of, integer_as, is_not_zero, is_zero, test_of, opposite_of, minus, literal_or_minus, minus_literal, negated, unary_form, summed, count_of, elements_of, integers_form, beside, moved_form, pointers_form, binary_form, constant, null_of, zero_of, and_form, or_form, choice_form, function_form, converted}
use Rattle.lift_forms.specs.Places.{Kept, object_place, address_form}
use Rattle.lift_forms.proofs.SameTypes.{same_integer_itself, integer_is, same_itself, type_is}

zero_fits : (which : IntegerTy) → fits_integer which (pos 0) ≡ true
zero_fits I8 = refl
zero_fits I16 = refl
zero_fits I32 = refl
zero_fits I64 = refl
zero_fits U8 = refl
zero_fits U16 = refl
zero_fits U32 = refl
zero_fits U64 = refl
zero_fits Isize = refl
zero_fits Usize = refl

pub by_test : {A : Type 0} (P : A → Type 0) (test : Bool) (one other : A) → (test ≡ true → P one) → (test ≡ false → P other) → P (if test then one else other)
by_test P true one other p q = p refl
by_test P false one other p q = q refl

pub if_some : (test : Bool) (one other : Ty) → (if test then Some one else None) ≡ Some other → (test ≡ true) × (one ≡ other)
if_some true one other e = (refl, cc)
if_some false one other e = absurd cc

-- two pointers to objects, or two to functions
abbrev pub is_same_sort : Ty → Ty → Bool
is_same_sort (Pointer from) (Pointer target) = true
is_same_sort (Code params result) (Code others gives) = true
is_same_sort from to = false

as_kind : {one other : Ty} → one ≡ other → Some (of one) ≡ Some (of other)
as_kind is = ap (λ t. Some (of t)) is

pointed_is : (kind : Option Kind) (ty : Ty) → target_type (own_type kind) ≡ Some ty → kind ≡ Some (of (Pointer ty))
pointed_is (Some (of (Pointer target))) ty e = let is : target ≡ ty = cc in ap (λ t. Some (of (Pointer t))) is
pointed_is kind ty e = absurd cc

module _ (scope : Scope) where
  -- ---- expressions, by the kinds of their parts

  pub zero_literal : (which : IntegerTy) → IsOfType scope (Literal (pos 0) which) (Integer which)
  zero_literal which = ap (λ b. only_if b (Integer which)) (zero_fits which)

  pub cast_typed : (from to : Ty) (e : Expr) → IsOfType scope e from → casts from to ≡ true → type_stands scope.modules to ≡ true → IsOfType scope (Cast e to) to
  cast_typed from to e h c s = rw (h, c, s) refl

  pub cast_to_typed : (from to : Ty) (e : Expr) → IsOfType scope e from → casts from to ≡ true → type_stands scope.modules to ≡ true →
      IsOfType scope (cast_to from to e) to
  cast_to_typed from to e h c s =
      by_test (λ x. IsOfType scope x to) (same_type from to) e (Cast e to) (λ is. h ∙ ap (λ t. Some (of t)) (type_is from to is)) (λ _. cast_typed from to e h c s)

  pub transmute_typed : (from to : Ty) (e : Expr) → IsOfType scope e from → is_code from ≡ true → is_code to ≡ true →
      type_stands scope.modules from ≡ true → type_stands scope.modules to ≡ true → IsOfType scope (Transmute from to e) to
  transmute_typed from to e h c d s t = rw (h, c, d, s, t, same_itself from) refl

  pub transmute_to_typed : (from to : Ty) (e : Expr) → IsOfType scope e from → is_code from ≡ true → is_code to ≡ true →
      type_stands scope.modules from ≡ true → type_stands scope.modules to ≡ true → IsOfType scope (transmute_to from to e) to
  transmute_to_typed from to e h c d s t =
      by_test (λ x. IsOfType scope x to) (same_type from to) e (Transmute from to e) (λ is. h ∙ ap (λ t. Some (of t)) (type_is from to is)) (λ _. transmute_typed from to e h c d s t)

  pub compared_typed : (operator : Operator) (ty : Ty) (left right : Expr) → IsOfType scope left ty → IsOfType scope right ty →
      binary_kind operator (Some (of ty)) (Some (of ty)) ≡ Some (of Boolean) → IsOfType scope (Binary left operator right) Boolean
  compared_typed operator ty left right h k b = rw (h, k) b

  -- ---- operands

  given_typed : (ty : Ty) (given : Given) → IsGivenAs scope ty given → IsOfType scope (value_of (record { ty = ty; given = given })) ty
  given_typed ty nothing h = absurd h
  given_typed ty (truth e) h = rw (h.0) (ap (λ t. Some (of t)) (sym h.1))
  given_typed ty (value e) h = h
  given_typed ty (place p) h = rw (h.0, h.1) refl

  pub value_typed : (operand : Operand) → IsOperand scope operand → IsOfType scope (value_of operand) operand.ty
  value_typed operand h = given_typed operand.ty operand.given h

  as_integer : (which : IntegerTy) (ty : Ty) (given : Given) → IsGivenAs scope ty given → casts ty (Integer which) ≡ true →
      IsOfType scope (integer_as which (record { ty = ty; given = given })) (Integer which)
  as_integer which ty nothing h c = absurd h
  as_integer which ty (truth e) h c = rw (h.0) refl
  as_integer which ty (value e) h c = cast_to_typed ty (Integer which) e h c refl
  as_integer which ty (place p) h c = cast_to_typed ty (Integer which) (Read p) (given_typed ty (place p) h) c refl

  pub integer_typed : (which : IntegerTy) (operand : Operand) → IsOperand scope operand → casts operand.ty (Integer which) ≡ true →
      IsOfType scope (integer_as which operand) (Integer which)
  integer_typed which operand h c = as_integer which operand.ty operand.given h c

  equal_typed : (operator : Operator) (which : IntegerTy) (e : Expr) → IsOfType scope e (Integer which) →
      binary_kind operator (Some (of (Integer which))) (Some (of (Integer which))) ≡ Some (of Boolean) →
      IsOfType scope (Binary e operator (Literal (pos 0) which)) Boolean
  equal_typed operator which e h b = compared_typed operator (Integer which) e (Literal (pos 0) which) h (zero_literal which) b

  pub not_zero_typed : (ty : Ty) (e : Expr) → IsOfType scope e ty → is_scalar ty ≡ true → IsOfType scope (is_not_zero ty e) Boolean
  not_zero_typed (Integer which) e h s = equal_typed rust.NotEqual which e h (rw (same_integer_itself which) refl)
  not_zero_typed Boolean e h s = h
  not_zero_typed Void e h s = absurd cc
  not_zero_typed (Pointer target) e h s = rw h refl
  not_zero_typed (Array element size) e h s = absurd cc
  not_zero_typed (Code params result) e h s = rw h refl
  not_zero_typed (Record m x) e h s = absurd cc

  pub zero_typed : (ty : Ty) (e : Expr) → IsOfType scope e ty → is_scalar ty ≡ true → IsOfType scope (is_zero ty e) Boolean
  zero_typed (Integer which) e h s = equal_typed rust.Equal which e h (rw (same_integer_itself which) refl)
  zero_typed Boolean e h s = rw h refl
  zero_typed Void e h s = absurd cc
  zero_typed (Pointer target) e h s = rw h refl
  zero_typed (Array element size) e h s = absurd cc
  zero_typed (Code params result) e h s = rw h refl
  zero_typed (Record m x) e h s = absurd cc

  tested : (ty : Ty) (given : Given) → IsGivenAs scope ty given → is_scalar ty ≡ true → IsOfType scope (test_of (record { ty = ty; given = given })) Boolean
  tested ty nothing h s = absurd h
  tested ty (truth e) h s = h.0
  tested ty (value e) h s = not_zero_typed ty e h s
  tested ty (place p) h s = not_zero_typed ty (Read p) (given_typed ty (place p) h) s

  pub test_typed : (operand : Operand) → IsOperand scope operand → is_scalar operand.ty ≡ true → IsOfType scope (test_of operand) Boolean
  test_typed operand h s = tested operand.ty operand.given h s

  turned : (ty : Ty) (given : Given) → IsGivenAs scope ty given → is_scalar ty ≡ true → IsOfType scope (opposite_of (record { ty = ty; given = given })) Boolean
  turned ty nothing h s = absurd h
  turned ty (truth e) h s = rw (h.0) refl
  turned ty (value e) h s = zero_typed ty e h s
  turned ty (place p) h s = zero_typed ty (Read p) (given_typed ty (place p) h) s

  pub opposite_typed : (operand : Operand) → IsOperand scope operand → is_scalar operand.ty ≡ true → IsOfType scope (opposite_of operand) Boolean
  opposite_typed operand h s = turned operand.ty operand.given h s

  -- ---- operators with one operand

  literal_is : (test : Bool) (ty which : IntegerTy) → only_if test (Integer ty) ≡ Some (of (Integer which)) → (test ≡ true) × (ty ≡ which)
  literal_is true ty which h = (refl, cc)
  literal_is false ty which h = absurd cc

  subtracted : (which : IntegerTy) (left right : Expr) → IsOfType scope left (Integer which) → IsOfType scope right (Integer which) →
      IsOfType scope (Binary left rust.Sub right) (Integer which)
  subtracted which left right h k = rw (h, k, same_integer_itself which) refl

  minus_literal_typed : (which ty : IntegerTy) (number : ℤ) → IsOfType scope (Literal number ty) (Integer which) → IsOfType scope (minus_literal which number) (Integer which)
  minus_literal_typed which ty number h =
      let parts = literal_is (fits_integer ty number) ty which h in
      let literal : IsOfType scope (Literal number which) (Integer which) = subst (λ t. IsOfType scope (Literal number t) (Integer which)) parts.1 h in
      by_test (λ o. IsOfType scope (literal_or_minus o which number) (Integer which)) (fits_integer which (neg_ℤ number)) (Some (neg_ℤ number)) None
      (λ fits. ap (λ b. only_if b (Integer which)) fits)
      (λ _. subtracted which (Literal (pos 0) which) (Literal number which) (zero_literal which) literal)

  neg_typed : (which : IntegerTy) (e : Expr) → IsOfType scope e (Integer which) → is_signed_integer which ≡ true → IsOfType scope (Neg e) (Integer which)
  neg_typed which e h s = rw (h, s) refl

  pub minus_typed : (which : IntegerTy) (e : Expr) → IsOfType scope e (Integer which) → is_signed_integer which ≡ true → IsOfType scope (minus which e) (Integer which)
  minus_typed which (Literal number ty) h s = minus_literal_typed which ty number h
  minus_typed which e h s = neg_typed which e h s

  negated_typed : (which : IntegerTy) (e : Expr) → IsOfType scope e (Integer which) → IsOfType scope (negated (Integer which) e) (Integer which)
  negated_typed which e h =
      by_test (λ x. IsOfType scope x (Integer which)) (is_signed_integer which) (minus which e) (WrappingNeg e) (minus_typed which e h) (λ _. rw h refl)

  unary_by : (op : Op1) (ty : Ty) (given : Given) (gives : Ty) → IsGivenAs scope ty given → unary_result op ty ≡ Some gives →
      IsGivenAs scope gives (unary_form op (record { ty = ty; given = given }))
  unary_by Negates ty given gives h r =
      let parts = if_some (is_scalar ty) (Integer I32) gives r in (turned ty given h parts.0, sym parts.1)
  unary_by Plus (Integer which) given gives h r = given_typed (Integer which) given h ∙ ap (λ t. Some (of t)) (let e : Integer which ≡ gives = cc in e)
  unary_by Minus (Integer which) given gives h r = negated_typed which _ (given_typed (Integer which) given h) ∙ ap (λ t. Some (of t)) (let e : Integer which ≡ gives = cc in e)
  unary_by Complement (Integer which) given gives h r = rw (given_typed (Integer which) given h) (ap (λ t. Some (of t)) (let e : Integer which ≡ gives = cc in e))
  unary_by op ty given gives h r = absurd cc

  pub unary_typed : (op : Op1) (operand : Operand) (gives : Ty) → IsOperand scope operand → unary_result op operand.ty ≡ Some gives →
      IsGivenAs scope gives (unary_form op operand)
  unary_typed op operand gives h r = unary_by op operand.ty operand.given gives h r

  -- ---- two integers

  computed_typed : (operator : Operator) (which : IntegerTy) (left right : Expr) → IsOfType scope left (Integer which) → IsOfType scope right (Integer which) →
      binary_kind operator (Some (of (Integer which))) (Some (of (Integer which))) ≡ Some (of (Integer which)) →
      IsOfType scope (Binary left operator right) (Integer which)
  computed_typed operator which left right h k b = rw (h, k) b

  wrapped_typed : (operation : Wrapping) (which : IntegerTy) (left right : Expr) → IsOfType scope left (Integer which) → IsOfType scope right (Integer which) →
      IsOfType scope (Wrapped left operation right) (Integer which)
  wrapped_typed operation which left right h k = rw (h, k, same_integer_itself which) refl

  summed_typed : (operator : Operator) (wrapping : Wrapping) (which : IntegerTy) (left right : Expr) → IsOfType scope left (Integer which) → IsOfType scope right (Integer which) →
      binary_kind operator (Some (of (Integer which))) (Some (of (Integer which))) ≡ Some (of (Integer which)) →
      IsOfType scope (summed which operator wrapping left right) (Integer which)
  summed_typed operator wrapping which left right h k b =
      by_test (λ x. IsOfType scope x (Integer which)) (is_signed_integer which) (Binary left operator right) (Wrapped left wrapping right)
      (λ _. computed_typed operator which left right h k b) (λ _. wrapped_typed wrapping which left right h k)

  shifted_typed : (operator : Operator) (which : IntegerTy) (left right : Expr) → IsOfType scope left (Integer which) → IsOfType scope right (Integer U32) →
      binary_kind operator (Some (of (Integer which))) (Some (of (Integer U32))) ≡ Some (of (Integer which)) →
      IsOfType scope (Binary left operator right) (Integer which)
  shifted_typed operator which left right h k b = rw (h, k) b

  integers_typed : (op : Op2) (which : IntegerTy) (left right : Operand) → IsOfType scope (value_of left) (Integer which) → IsOfType scope (value_of right) (Integer which) →
      (gives : Ty) → (if is_comparison op then Integer I32 else Integer which) ≡ gives →
      IsOfType scope (count_of right) (Integer U32) → IsGivenAs scope gives (integers_form op which left right)
  integers_typed op2.Multiply which left right h k gives is c = (summed_typed rust.Mul WrappingMul which (value_of left) (value_of right) h k (rw (same_integer_itself which) refl)) ∙ as_kind is
  integers_typed op2.Divide which left right h k gives is c = (computed_typed rust.Div which (value_of left) (value_of right) h k (rw (same_integer_itself which) refl)) ∙ as_kind is
  integers_typed op2.Remainder which left right h k gives is c = (computed_typed rust.Rem which (value_of left) (value_of right) h k (rw (same_integer_itself which) refl)) ∙ as_kind is
  integers_typed op2.Add which left right h k gives is c = (summed_typed rust.Add WrappingAdd which (value_of left) (value_of right) h k (rw (same_integer_itself which) refl)) ∙ as_kind is
  integers_typed op2.Subtract which left right h k gives is c = (summed_typed rust.Sub WrappingSub which (value_of left) (value_of right) h k (rw (same_integer_itself which) refl)) ∙ as_kind is
  integers_typed op2.ShiftLeft which left right h k gives is c = (shifted_typed rust.Shl which (value_of left) (count_of right) h c refl) ∙ as_kind is
  integers_typed op2.ShiftRight which left right h k gives is c = (shifted_typed rust.Shr which (value_of left) (count_of right) h c refl) ∙ as_kind is
  integers_typed op2.Less which left right h k gives is c = (compared_typed rust.Less (Integer which) (value_of left) (value_of right) h k (rw (same_integer_itself which) refl), sym is)
  integers_typed op2.Greater which left right h k gives is c = (compared_typed rust.Greater (Integer which) (value_of left) (value_of right) h k (rw (same_integer_itself which) refl), sym is)
  integers_typed op2.LessOrEqual which left right h k gives is c = (compared_typed rust.LessEqual (Integer which) (value_of left) (value_of right) h k (rw (same_integer_itself which) refl), sym is)
  integers_typed op2.GreaterOrEqual which left right h k gives is c = (compared_typed rust.GreaterEqual (Integer which) (value_of left) (value_of right) h k (rw (same_integer_itself which) refl), sym is)
  integers_typed op2.Equal which left right h k gives is c = (compared_typed rust.Equal (Integer which) (value_of left) (value_of right) h k (rw (same_integer_itself which) refl), sym is)
  integers_typed op2.NotEqual which left right h k gives is c = (compared_typed rust.NotEqual (Integer which) (value_of left) (value_of right) h k (rw (same_integer_itself which) refl), sym is)
  integers_typed op2.BitAnd which left right h k gives is c = (computed_typed rust.BitAnd which (value_of left) (value_of right) h k (rw (same_integer_itself which) refl)) ∙ as_kind is
  integers_typed op2.BitXor which left right h k gives is c = (computed_typed rust.BitXor which (value_of left) (value_of right) h k (rw (same_integer_itself which) refl)) ∙ as_kind is
  integers_typed op2.BitOr which left right h k gives is c = (computed_typed rust.BitOr which (value_of left) (value_of right) h k (rw (same_integer_itself which) refl)) ∙ as_kind is

  shift_typed : (op : Op2) (operator : Operator) (one : IntegerTy) (left right : Operand) (gives : Ty) → IsOfType scope (value_of left) (Integer one) →
      IsOfType scope (count_of right) (Integer U32) → binary_kind operator (Some (of (Integer one))) (Some (of (Integer U32))) ≡ Some (of (Integer one)) →
      numbers_result op2.ShiftLeft one one ≡ Some gives → IsOfType scope (Binary (value_of left) operator (count_of right)) gives
  shift_typed op operator one left right gives h c b r = (shifted_typed operator one (value_of left) (count_of right) h c b) ∙ as_kind (let e : Integer one ≡ gives = cc in e)

  numbers_same : (op : Op2) (one other : IntegerTy) (left right : Operand) (gives : Ty) → IsOfType scope (value_of left) (Integer one) →
      IsOfType scope (value_of right) (Integer other) → IsOfType scope (count_of right) (Integer U32) →
      (if same_integer one other then Some (if is_comparison op then Integer I32 else Integer one) else None) ≡ Some gives →
      IsGivenAs scope gives (integers_form op one left right)
  numbers_same op one other left right gives h k c r =
      let parts = if_some (same_integer one other) (if is_comparison op then Integer I32 else Integer one) gives r in
      integers_typed op one left right h (k ∙ as_kind (ap Integer (sym (integer_is one other parts.0)))) gives parts.1 c

  numbers_typed : (op : Op2) (one other : IntegerTy) (left right : Operand) (gives : Ty) → IsOfType scope (value_of left) (Integer one) →
      IsOfType scope (value_of right) (Integer other) → IsOfType scope (count_of right) (Integer U32) → numbers_result op one other ≡ Some gives →
      IsGivenAs scope gives (integers_form op one left right)
  numbers_typed op2.ShiftLeft one other left right gives h k c r = shift_typed op2.ShiftLeft rust.Shl one left right gives h c refl r
  numbers_typed op2.ShiftRight one other left right gives h k c r = shift_typed op2.ShiftRight rust.Shr one left right gives h c refl r
  numbers_typed op2.Multiply one other left right gives h k c r = numbers_same op2.Multiply one other left right gives h k c r
  numbers_typed op2.Divide one other left right gives h k c r = numbers_same op2.Divide one other left right gives h k c r
  numbers_typed op2.Remainder one other left right gives h k c r = numbers_same op2.Remainder one other left right gives h k c r
  numbers_typed op2.Add one other left right gives h k c r = numbers_same op2.Add one other left right gives h k c r
  numbers_typed op2.Subtract one other left right gives h k c r = numbers_same op2.Subtract one other left right gives h k c r
  numbers_typed op2.Less one other left right gives h k c r = numbers_same op2.Less one other left right gives h k c r
  numbers_typed op2.Greater one other left right gives h k c r = numbers_same op2.Greater one other left right gives h k c r
  numbers_typed op2.LessOrEqual one other left right gives h k c r = numbers_same op2.LessOrEqual one other left right gives h k c r
  numbers_typed op2.GreaterOrEqual one other left right gives h k c r = numbers_same op2.GreaterOrEqual one other left right gives h k c r
  numbers_typed op2.Equal one other left right gives h k c r = numbers_same op2.Equal one other left right gives h k c r
  numbers_typed op2.NotEqual one other left right gives h k c r = numbers_same op2.NotEqual one other left right gives h k c r
  numbers_typed op2.BitAnd one other left right gives h k c r = numbers_same op2.BitAnd one other left right gives h k c r
  numbers_typed op2.BitXor one other left right gives h k c r = numbers_same op2.BitXor one other left right gives h k c r
  numbers_typed op2.BitOr one other left right gives h k c r = numbers_same op2.BitOr one other left right gives h k c r

  -- ---- pointers

  offset_typed : (target gives : Ty) (at count : Expr) → IsOfType scope at (Pointer target) → IsOfType scope count (Integer Isize) →
      (if is_target target then Some (Pointer target) else None) ≡ Some gives → IsOfType scope (Offset at count) gives
  offset_typed target gives at count h k r =
      let parts = if_some (is_target target) (Pointer target) gives r in
      rw (h, k, parts.0) (ap (λ t. Some (of t)) parts.1)

  moved_typed : (op : Op2) (target gives : Ty) (at count : Operand) → IsOfType scope (value_of at) (Pointer target) → IsOfType scope (elements_of count) (Integer Isize) →
      moved_result op target ≡ Some gives → IsGivenAs scope gives (moved_form op at count)
  moved_typed op2.Add target gives at count h k r = offset_typed target gives (value_of at) (elements_of count) h k r
  moved_typed op2.Subtract target gives at count h k r = offset_typed target gives (value_of at) (minus Isize (elements_of count)) h (minus_typed Isize (elements_of count) k refl) r
  moved_typed op target gives at count h k r = absurd cc

  as_type_typed : (from to : Ty) (e : Expr) → IsOfType scope e from → is_same_sort from to ≡ true →
      type_stands scope.modules from ≡ true → type_stands scope.modules to ≡ true → IsOfType scope (as_type from to e) to
  as_type_typed (Pointer from) (Pointer target) e h c s t = cast_to_typed (Pointer from) (Pointer target) e h refl t
  as_type_typed (Code params result) (Code others gives) e h c s t = transmute_to_typed (Code params result) (Code others gives) e h refl refl s t
  as_type_typed from to e h c s t = absurd cc

  ordered_typed : (operator : Operator) (ty gives : Ty) (left right : Expr) → IsOfType scope left ty → IsOfType scope right ty →
      binary_kind operator (Some (of ty)) (Some (of ty)) ≡ Some (of Boolean) → Some (Integer I32) ≡ Some gives → IsGivenAs scope gives (truth (Binary left operator right))
  ordered_typed operator ty gives left right h k b r = (compared_typed operator ty left right h k b, (let e : gives ≡ Integer I32 = cc in e))

  apart_typed : (target gives : Ty) (left right : Expr) → IsOfType scope left (Pointer target) → IsOfType scope right (Pointer target) →
      (if is_target target then Some (Integer I64) else None) ≡ Some gives → IsOfType scope (Cast (OffsetFrom left right) (Integer I64)) gives
  apart_typed target gives left right h k r =
      let parts = if_some (is_target target) (Integer I64) gives r in
      rw (h, k, parts.0, same_itself target) (ap (λ t. Some (of t)) parts.1)

  pointers_typed : (op : Op2) (target gives : Ty) (left right : Operand) → IsOfType scope (value_of left) (Pointer target) → IsOfType scope (beside left right) (Pointer target) →
      pointers_result op target ≡ Some gives → IsGivenAs scope gives (pointers_form op left right)
  pointers_typed op2.Subtract target gives left right h k r = apart_typed target gives (value_of left) (beside left right) h k r
  pointers_typed op2.Less target gives left right h k r = ordered_typed rust.Less (Pointer target) gives (value_of left) (beside left right) h k (rw (same_itself target) refl) r
  pointers_typed op2.Greater target gives left right h k r = ordered_typed rust.Greater (Pointer target) gives (value_of left) (beside left right) h k (rw (same_itself target) refl) r
  pointers_typed op2.LessOrEqual target gives left right h k r = ordered_typed rust.LessEqual (Pointer target) gives (value_of left) (beside left right) h k (rw (same_itself target) refl) r
  pointers_typed op2.GreaterOrEqual target gives left right h k r = ordered_typed rust.GreaterEqual (Pointer target) gives (value_of left) (beside left right) h k (rw (same_itself target) refl) r
  pointers_typed op2.Equal target gives left right h k r = ordered_typed rust.Equal (Pointer target) gives (value_of left) (beside left right) h k (rw (same_itself target) refl) r
  pointers_typed op2.NotEqual target gives left right h k r = ordered_typed rust.NotEqual (Pointer target) gives (value_of left) (beside left right) h k (rw (same_itself target) refl) r
  pointers_typed op target gives left right h k r = absurd cc

  functions_typed : (op : Op2) (params : Tys) (result : OptionTy) (gives : Ty) (left right : Operand) → IsOfType scope (value_of left) (Code params result) →
      IsOfType scope (beside left right) (Code params result) → functions_result op ≡ Some gives → IsGivenAs scope gives (pointers_form op left right)
  functions_typed op2.Equal params result gives left right h k r = ordered_typed rust.Equal (Code params result) gives (value_of left) (beside left right) h k (rw (same_itself (Code params result)) refl) r
  functions_typed op2.NotEqual params result gives left right h k r = ordered_typed rust.NotEqual (Code params result) gives (value_of left) (beside left right) h k (rw (same_itself (Code params result)) refl) r
  functions_typed op params result gives left right h k r = absurd cc

  -- ---- operators with two operands

  added_typed : (op : Op2) (target gives : Ty) (at count : Operand) → IsOfType scope (value_of at) (Pointer target) → IsOfType scope (elements_of count) (Integer Isize) →
      added_result op target ≡ Some gives → IsGivenAs scope gives (moved_form op at count)
  added_typed op2.Add target gives at count h k r = moved_typed op2.Add target gives at count h k r
  added_typed op target gives at count h k r = absurd cc

  binary_by_types : (op : Op2) (one other gives : Ty) (first second : Given) → IsGivenAs scope one first → IsGivenAs scope other second →
      type_stands scope.modules one ≡ true → type_stands scope.modules other ≡ true → binary_result op one other ≡ Some gives →
      IsGivenAs scope gives (binary_form op (record { ty = one; given = first }) (record { ty = other; given = second }))
  binary_by_types op (Integer one) (Integer other) gives first second h k s t r =
      numbers_typed op one other (record { ty = Integer one; given = first }) (record { ty = Integer other; given = second }) gives (given_typed _ first h) (given_typed _ second k) (as_integer U32 (Integer other) second k refl) r
  binary_by_types op (Pointer target) (Integer which) gives first second h k s t r =
      moved_typed op target gives (record { ty = Pointer target; given = first }) (record { ty = Integer which; given = second }) (given_typed _ first h) (as_integer Isize (Integer which) second k refl) r
  binary_by_types op (Integer which) (Pointer target) gives first second h k s t r =
      added_typed op target gives (record { ty = Pointer target; given = second }) (record { ty = Integer which; given = first }) (given_typed _ second k) (as_integer Isize (Integer which) first h refl) r
  binary_by_types op (Pointer target) Boolean gives first second h k s t r =
      moved_typed op target gives (record { ty = Pointer target; given = first }) (record { ty = Boolean; given = second }) (given_typed _ first h) (as_integer Isize Boolean second k refl) r
  binary_by_types op Boolean (Pointer target) gives first second h k s t r =
      added_typed op target gives (record { ty = Pointer target; given = second }) (record { ty = Boolean; given = first }) (given_typed _ second k) (as_integer Isize Boolean first h refl) r
  binary_by_types op (Pointer target) (Pointer other) gives first second h k s t r =
      pointers_typed op target gives (record { ty = Pointer target; given = first }) (record { ty = Pointer other; given = second }) (given_typed (Pointer target) first h)
      (as_type_typed (Pointer other) (Pointer target) (value_of (record { ty = Pointer other; given = second })) (given_typed _ second k) refl t s) r
  binary_by_types op (Code params result) (Code others behind) gives first second h k s t r =
      functions_typed op params result gives (record { ty = Code params result; given = first }) (record { ty = Code others behind; given = second }) (given_typed (Code params result) first h)
      (as_type_typed (Code others behind) (Code params result) (value_of (record { ty = Code others behind; given = second })) (given_typed _ second k) refl t s) r
  binary_by_types op one other gives first second h k s t r = absurd cc

  pub binary_typed : (op : Op2) (left right : Operand) (gives : Ty) → type_stands scope.modules left.ty ≡ true → type_stands scope.modules right.ty ≡ true →
      IsOperand scope left → IsOperand scope right → binary_result op left.ty right.ty ≡ Some gives → IsGivenAs scope gives (binary_form op left right)
  binary_typed op left right gives s t h k r = binary_by_types op left.ty right.ty gives left.given right.given h k s t r

  -- ---- `&&`, `||` and `?:`

  pub both_typed : (left right : Expr) → IsOfType scope left Boolean → IsOfType scope right Boolean → IsOfType scope (And left right) Boolean
  both_typed left right h k = rw (h, k) refl

  pub either_typed : (left right : Expr) → IsOfType scope left Boolean → IsOfType scope right Boolean → IsOfType scope (Or left right) Boolean
  either_typed left right h k = rw (h, k) refl

  pub choice_typed : (ty : Ty) (condition if_true if_false : Expr) → IsOfType scope condition Boolean → IsOfType scope if_true ty → IsOfType scope if_false ty →
      IsOfType scope (Choose condition if_true if_false) ty
  choice_typed ty condition if_true if_false c h k = rw (c, h, k, same_itself ty) refl

  pub both_forms : (left right : Operand) → IsOperand scope left → IsOperand scope right → is_scalar left.ty ≡ true → is_scalar right.ty ≡ true →
      IsGivenAs scope (Integer I32) (and_form left right)
  both_forms left right h k s t = (both_typed (test_of left) (test_of right) (test_typed left h s) (test_typed right k t), refl)

  pub either_forms : (left right : Operand) → IsOperand scope left → IsOperand scope right → is_scalar left.ty ≡ true → is_scalar right.ty ≡ true →
      IsGivenAs scope (Integer I32) (or_form left right)
  either_forms left right h k s t = (either_typed (test_of left) (test_of right) (test_typed left h s) (test_typed right k t), refl)

  pub choice_forms : (condition if_true if_false : Operand) → IsOperand scope condition → IsOperand scope if_true → IsOperand scope if_false →
      is_scalar condition.ty ≡ true → if_true.ty ≡ if_false.ty → IsGivenAs scope if_true.ty (choice_form condition if_true if_false)
  choice_forms condition if_true if_false c h k s same =
      choice_typed if_true.ty (test_of condition) (value_of if_true) (value_of if_false) (test_typed condition c s) (value_typed if_true h)
      (value_typed if_false k ∙ as_kind (sym same))

  -- ---- conversions

  bits_cast : (from : Ty) (which : IntegerTy) → is_bits from ≡ true → casts from (Integer which) ≡ true
  bits_cast (Integer from) which is = refl
  bits_cast Boolean which is = refl
  bits_cast from which is = absurd cc

  to_pointer : (from target : Ty) (given : Given) → type_stands scope.modules from ≡ true → type_stands scope.modules (Pointer target) ≡ true →
      IsGivenAs scope from given → is_pointer from ≡ true → IsGivenAs scope (Pointer target) (converted (Pointer target) (record { ty = from; given = given }))
  to_pointer (Pointer from) target given s t h c =
      as_type_typed (Pointer from) (Pointer target) (value_of (record { ty = Pointer from; given = given })) (given_typed (Pointer from) given h) refl s t
  to_pointer from target given s t h c = absurd cc

  to_code : (from : Ty) (params : Tys) (result : OptionTy) (given : Given) → type_stands scope.modules from ≡ true →
      type_stands scope.modules (Code params result) ≡ true → IsGivenAs scope from given → is_code from ≡ true →
      IsGivenAs scope (Code params result) (converted (Code params result) (record { ty = from; given = given }))
  to_code (Code others gives) params result given s t h c =
      as_type_typed (Code others gives) (Code params result) (value_of (record { ty = Code others gives; given = given })) (given_typed (Code others gives) given h) refl s t
  to_code from params result given s t h c = absurd cc

  converted_by : (from to : Ty) (given : Given) → type_stands scope.modules from ≡ true → type_stands scope.modules to ≡ true →
      IsGivenAs scope from given → converts from to ≡ true → IsGivenAs scope to (converted to (record { ty = from; given = given }))
  converted_by from (Integer which) given s t h c = as_integer which from given h (bits_cast from which c)
  converted_by from Boolean given s t h c = tested from given h c
  converted_by from (Pointer target) given s t h c = to_pointer from target given s t h c
  converted_by from (Code params result) given s t h c = to_code from params result given s t h c
  converted_by from to given s t h c = absurd cc

  pub converted_typed : (operand : Operand) (to : Ty) → type_stands scope.modules operand.ty ≡ true → type_stands scope.modules to ≡ true →
      IsOperand scope operand → converts operand.ty to ≡ true → IsGivenAs scope to (converted to operand)
  converted_typed operand to s t h c = converted_by operand.ty to operand.given s t h c

  -- ---- constants and functions

  pub number_typed : (which : IntegerTy) (number : ℤ) → fits_integer which number ≡ true → IsOfType scope (Literal number which) (Integer which)
  number_typed which number fits = ap (λ b. only_if b (Integer which)) fits

  pub truth_constant_typed : (number : ℤ) → IsOfType scope (constant Boolean number) Boolean
  truth_constant_typed number = refl

  pub null_typed : (target : Ty) → type_stands scope.modules (Pointer target) ≡ true → IsOfType scope (null_of (Pointer target)) (Pointer target)
  null_typed target s = ap (λ b. only_if b (Pointer target)) s

  none_typed : (params : Tys) (result : OptionTy) → type_stands scope.modules (Code params result) ≡ true → IsOfType scope (null_of (Code params result)) (Code params result)
  none_typed params result s = rw s refl

  pub zero_of_typed : (ty : Ty) → type_stands scope.modules ty ≡ true → is_scalar ty ≡ true → IsOfType scope (zero_of ty) ty
  zero_of_typed (Integer which) t s = zero_literal which
  zero_of_typed Boolean t s = refl
  zero_of_typed Void t s = absurd cc
  zero_of_typed (Pointer target) t s = null_typed target t
  zero_of_typed (Array element size) t s = absurd cc
  zero_of_typed (Code params result) t s = none_typed params result t
  zero_of_typed (Record m x) t s = absurd cc

  some_typed : (m x : List ℕ) (params : Tys) (result : OptionTy) → type_stands scope.modules (Code params result) ≡ true →
      is_function_of params result (own_function_at scope.modules m x) ≡ true → IsOfType scope (SomeFunction m x params result) (Code params result)
  some_typed m x params result s f = rw (s, f) refl

  pub function_typed : (m x : List ℕ) (params : Tys) (result : OptionTy) (ty : Ty) → is_code ty ≡ true → type_stands scope.modules ty ≡ true →
      type_stands scope.modules (Code params result) ≡ true → is_function_of params result (own_function_at scope.modules m x) ≡ true →
      IsGivenAs scope ty (function_form m x (Code params result) ty)
  function_typed m x params result (Code others gives) c t s f =
      as_type_typed (Code params result) (Code others gives) (SomeFunction m x params result) (some_typed m x params result s f) refl s t
  function_typed m x params result ty c t s f = absurd cc

  -- ---- places

  pub address_typed : (ty : Ty) (p : Place) → place_type scope p ≡ Some ty → is_target ty ≡ true → IsOfType scope (address_of p) (Pointer ty)
  address_typed ty (Local x) h t = rw (h, t) refl
  address_typed ty (Static m x) h t = rw (h, t) refl
  address_typed ty (Field p f) h t = rw (h, t) refl
  address_typed ty (Deref e) h t = pointed_is (kind_of scope e) ty h

  pub object_typed : (kept : Kept) (ty : Ty) → place_type scope kept.place ≡ Some kept.ty → is_target kept.ty ≡ true →
      type_stands scope.modules (Pointer ty) ≡ true → place_type scope (object_place kept ty) ≡ Some ty
  object_typed kept ty h t s =
      by_test (λ p. place_type scope p ≡ Some ty) (same_type kept.ty ty) kept.place (pointed (Cast (address_of kept.place) (Pointer ty)))
      (λ is. h ∙ ap Some (type_is kept.ty ty is))
      (λ _. rw (cast_typed (Pointer kept.ty) (Pointer ty) (address_of kept.place) (address_typed kept.ty kept.place h t) refl s) refl)

  pub address_form_typed : (ty target : Ty) (p : Place) → place_type scope p ≡ Some ty → is_target ty ≡ true → type_stands scope.modules (Pointer target) ≡ true →
      IsGivenAs scope (Pointer target) (address_form ty target p)
  address_form_typed ty target p h t s = cast_to_typed (Pointer ty) (Pointer target) (address_of p) (address_typed ty p h t) refl s
