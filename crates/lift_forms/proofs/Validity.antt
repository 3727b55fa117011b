-- Each form is valid.
use Rattle.std.proofs.Common.{◌≡◌, ℕ, ℤ, pos, negsuc, neg_ℤ, Bool, true, false, ◌&&◌, if◌then◌else◌, List, Option, Some, None, int_le, int_lt, tests, refl, arith}
use Rattle.std.proofs.lemmas.Bool.Decides.{nat_tests}
use Rattle.std.proofs.lemmas.Int.{ints}
use Rattle.cx_core.specs.declared.expr.Op1.{Op1}
use Rattle.cx_core.specs.declared.expr.Op1.TheVariants.{Plus, Minus, Complement, Not as Negates}
use Rattle.cx_core.specs.declared.expr.Op2.{Op2}
use Rattle.cr_base.specs.Scalar.{least, above}
use Rattle.rs_mean.specs.Scalars.{integer_scalar, fits_integer, is_signed_integer, same_type}
use Rattle.rs_text.specs.declared.integer.IntegerTy.{IntegerTy}
use Rattle.rs_text.specs.declared.integer.IntegerTy.TheVariants.{I8, I16, I32, I64, U8, U16, U32, U64, Isize, Usize}
use Rattle.rs_text.specs.declared.operator.Operator.{Operator}
use Rattle.rs_text.specs.declared.operator.Wrapping.{Wrapping}
use Rattle.rs_text.specs.Forms.{is_literal}
use Rattle.rs_text.specs.Tree.{Ty, Integer, Boolean, Void, Pointer, Array, Code, Record, Place, Local, Static, Deref, Field, Expr, Literal, NoFunction, Read, Wrapped, WrappingNeg, Offset, OffsetFrom, Transmute, Neg, Cast, Binary}
use Rattle.rs_text.specs.Valid.{is_value, valid_expr, valid_path, valid_place, valid_target, valid_ty, valid_tys, valid_result}
use Rattle.lift_forms.specs.Given.{Given, nothing, truth, value, place, address_of, pointed}
use Rattle.lift_forms.specs.LawsValid.{IsValidGiven}
use Rattle.lift_forms.specs.Operators.{Operand, cast_to, transmute_to, as_type, constant, zero_of, given_value, value_of, integer_as, is_not_zero, is_zero, test_of, opposite_of, literal_or_minus, minus_literal, minus, negated, unary_form, summed, wrapping_of, operator_of, is_comparison, is_shift, count_of, computed, joined, integers_form, elements_of, moves, is_back, moved, beside, pointers_joined, pointers_form, binary_by, binary_form, and_form, or_form, choice_form, function_of_type, function_form, converted}
use Rattle.lift_forms.specs.Places.{Kept, object_place, address_form}
use Rattle.lift_forms.proofs.SameTypes.{both, both_are_true}
use Rattle.lift_forms.proofs.Typed.{by_test}

two : (a b : Bool) → a ≡ true → b ≡ true → (a && b) ≡ true
two a b h k = both_are_true a b h k

cast_valid : (e : Expr) (ty : Ty) → valid_expr e ≡ true → valid_ty ty ≡ true → valid_expr (Cast e ty) ≡ true
cast_valid e ty h t = two (valid_expr e) (valid_ty ty) h t

cast_to_valid : (from to : Ty) (e : Expr) → valid_expr e ≡ true → valid_ty to ≡ true → valid_expr (cast_to from to e) ≡ true
cast_to_valid from to e h t = by_test (λ x. valid_expr x ≡ true) (same_type from to) e (Cast e to) (λ _. h) (λ _. cast_valid e to h t)

transmute_valid : (from to : Ty) (e : Expr) → valid_expr e ≡ true → valid_ty from ≡ true → valid_ty to ≡ true → valid_expr (Transmute from to e) ≡ true
transmute_valid from to e h s t = rw (s, t, h) refl

transmute_to_valid : (from to : Ty) (e : Expr) → valid_expr e ≡ true → valid_ty from ≡ true → valid_ty to ≡ true → valid_expr (transmute_to from to e) ≡ true
transmute_to_valid from to e h s t = by_test (λ x. valid_expr x ≡ true) (same_type from to) e (Transmute from to e) (λ _. h) (λ _. transmute_valid from to e h s t)

as_type_valid : (from to : Ty) (e : Expr) → valid_expr e ≡ true → valid_ty from ≡ true → valid_ty to ≡ true → valid_expr (as_type from to e) ≡ true
as_type_valid from (Integer which) e h s t = cast_to_valid from (Integer which) e h t
as_type_valid from (Pointer target) e h s t = cast_to_valid from (Pointer target) e h t
as_type_valid from (Code params result) e h s t = transmute_to_valid from (Code params result) e h s t
as_type_valid from Boolean e h s t = h
as_type_valid from Void e h s t = h
as_type_valid from (Array element size) e h s t = h
as_type_valid from (Record m x) e h s t = h

-- ---- operands

given_valid : (given : Given) → IsValidGiven given → valid_expr (given_value given) ≡ true
given_valid nothing h = refl
given_valid (truth e) h = cast_valid e (Integer I32) h refl
given_valid (value e) h = h
given_valid (place p) h = h

pub value_valid : (operand : Operand) → IsValidGiven operand.given → valid_expr (value_of operand) ≡ true
value_valid operand h = given_valid operand.given h

integer_valid : (which : IntegerTy) (ty : Ty) (given : Given) → IsValidGiven given → valid_expr (integer_as which (record { ty = ty; given = given })) ≡ true
integer_valid which ty nothing h = refl
integer_valid which ty (truth e) h = cast_valid e (Integer which) h refl
integer_valid which ty (value e) h = cast_to_valid ty (Integer which) e h refl
integer_valid which ty (place p) h = cast_to_valid ty (Integer which) (Read p) h refl

not_zero_valid : (ty : Ty) (e : Expr) → valid_expr e ≡ true → valid_expr (is_not_zero ty e) ≡ true
not_zero_valid (Integer which) e h = rw h refl
not_zero_valid Boolean e h = h
not_zero_valid Void e h = h
not_zero_valid (Pointer target) e h = h
not_zero_valid (Array element size) e h = h
not_zero_valid (Code params result) e h = h
not_zero_valid (Record m x) e h = h

zero_valid : (ty : Ty) (e : Expr) → valid_expr e ≡ true → valid_expr (is_zero ty e) ≡ true
zero_valid (Integer which) e h = rw h refl
zero_valid Boolean e h = h
zero_valid Void e h = h
zero_valid (Pointer target) e h = h
zero_valid (Array element size) e h = h
zero_valid (Code params result) e h = h
zero_valid (Record m x) e h = h

tested : (ty : Ty) (given : Given) → IsValidGiven given → valid_expr (test_of (record { ty = ty; given = given })) ≡ true
tested ty nothing h = refl
tested ty (truth e) h = h
tested ty (value e) h = not_zero_valid ty e h
tested ty (place p) h = not_zero_valid ty (Read p) h

pub test_valid : (operand : Operand) → IsValidGiven operand.given → valid_expr (test_of operand) ≡ true
test_valid operand h = tested operand.ty operand.given h

turned : (ty : Ty) (given : Given) → IsValidGiven given → valid_expr (opposite_of (record { ty = ty; given = given })) ≡ true
turned ty nothing h = refl
turned ty (truth e) h = h
turned ty (value e) h = zero_valid ty e h
turned ty (place p) h = zero_valid ty (Read p) h

-- ---- minus

small_value : (number : ℤ) → int_le (negsuc 9223372036854775807) number ≡ true → int_lt number (pos 18446744073709551616) ≡ true → is_value number ≡ true
small_value (pos n) low high = grind (arith, nat_tests, ints, tests, low, high)
small_value (negsuc n) low high = grind (arith, nat_tests, ints, tests, low, high)

range_of : (which : IntegerTy) (number : ℤ) → fits_integer which number ≡ true →
    (int_le (least (integer_scalar which)) number ≡ true) × (int_lt number (above (integer_scalar which)) ≡ true)
range_of which number fits = both {a = int_le (least (integer_scalar which)) number} {b = int_lt number (above (integer_scalar which))} fits

fits_value : (which : IntegerTy) (number : ℤ) → fits_integer which number ≡ true → is_value number ≡ true
fits_value which number fits = small_value number (low which fits) (high which fits)
  where
    low : (which : IntegerTy) → fits_integer which number ≡ true → int_le (negsuc 9223372036854775807) number ≡ true
    low I8 fits = let r = range_of I8 number fits in let a = r.0 in let b = r.1 in grind (arith, ints, tests, a, b)
    low I16 fits = let r = range_of I16 number fits in let a = r.0 in let b = r.1 in grind (arith, ints, tests, a, b)
    low I32 fits = let r = range_of I32 number fits in let a = r.0 in let b = r.1 in grind (arith, ints, tests, a, b)
    low I64 fits = let r = range_of I64 number fits in let a = r.0 in let b = r.1 in grind (arith, ints, tests, a, b)
    low U8 fits = let r = range_of U8 number fits in let a = r.0 in let b = r.1 in grind (arith, ints, tests, a, b)
    low U16 fits = let r = range_of U16 number fits in let a = r.0 in let b = r.1 in grind (arith, ints, tests, a, b)
    low U32 fits = let r = range_of U32 number fits in let a = r.0 in let b = r.1 in grind (arith, ints, tests, a, b)
    low U64 fits = let r = range_of U64 number fits in let a = r.0 in let b = r.1 in grind (arith, ints, tests, a, b)
    low Isize fits = let r = range_of Isize number fits in let a = r.0 in let b = r.1 in grind (arith, ints, tests, a, b)
    low Usize fits = let r = range_of Usize number fits in let a = r.0 in let b = r.1 in grind (arith, ints, tests, a, b)

    high : (which : IntegerTy) → fits_integer which number ≡ true → int_lt number (pos 18446744073709551616) ≡ true
    high I8 fits = let r = range_of I8 number fits in let a = r.0 in let b = r.1 in grind (arith, ints, tests, a, b)
    high I16 fits = let r = range_of I16 number fits in let a = r.0 in let b = r.1 in grind (arith, ints, tests, a, b)
    high I32 fits = let r = range_of I32 number fits in let a = r.0 in let b = r.1 in grind (arith, ints, tests, a, b)
    high I64 fits = let r = range_of I64 number fits in let a = r.0 in let b = r.1 in grind (arith, ints, tests, a, b)
    high U8 fits = let r = range_of U8 number fits in let a = r.0 in let b = r.1 in grind (arith, ints, tests, a, b)
    high U16 fits = let r = range_of U16 number fits in let a = r.0 in let b = r.1 in grind (arith, ints, tests, a, b)
    high U32 fits = let r = range_of U32 number fits in let a = r.0 in let b = r.1 in grind (arith, ints, tests, a, b)
    high U64 fits = let r = range_of U64 number fits in let a = r.0 in let b = r.1 in grind (arith, ints, tests, a, b)
    high Isize fits = let r = range_of Isize number fits in let a = r.0 in let b = r.1 in grind (arith, ints, tests, a, b)
    high Usize fits = let r = range_of Usize number fits in let a = r.0 in let b = r.1 in grind (arith, ints, tests, a, b)

minus_literal_valid : (which : IntegerTy) (number : ℤ) → is_value number ≡ true → valid_expr (minus_literal which number) ≡ true
minus_literal_valid which number h =
    by_test (λ o. valid_expr (literal_or_minus o which number) ≡ true) (fits_integer which (neg_ℤ number)) (Some (neg_ℤ number)) None
    (λ fits. fits_value which (neg_ℤ number) fits) (λ _. h)

neg_valid : (e : Expr) → is_literal e ≡ false → valid_expr e ≡ true → valid_expr (Neg e) ≡ true
neg_valid e l h = rw (l, h) refl

minus_valid : (which : IntegerTy) (e : Expr) → valid_expr e ≡ true → valid_expr (minus which e) ≡ true
minus_valid which (Literal number ty) h = minus_literal_valid which number h
minus_valid which e h = neg_valid e refl h

negated_valid : (ty : Ty) (e : Expr) → valid_expr e ≡ true → valid_expr (negated ty e) ≡ true
negated_valid (Integer which) e h =
    by_test (λ x. valid_expr x ≡ true) (is_signed_integer which) (minus which e) (WrappingNeg e) (λ _. minus_valid which e h) (λ _. h)
negated_valid ty e h = h

pub unary_valid : (op : Op1) (operand : Operand) → IsValidGiven operand.given → IsValidGiven (unary_form op operand)
unary_valid Plus operand h = value_valid operand h
unary_valid Minus operand h = negated_valid operand.ty (value_of operand) (value_valid operand h)
unary_valid Complement operand h = value_valid operand h
unary_valid Negates operand h = turned operand.ty operand.given h

-- ---- operators with two operands

binary_valid : (left : Expr) (operator : Operator) (right : Expr) → valid_expr left ≡ true → valid_expr right ≡ true → valid_expr (Binary left operator right) ≡ true
binary_valid left operator right h k = two (valid_expr left) (valid_expr right) h k

summed_valid : (which : IntegerTy) (operator : Operator) (wrapping : Wrapping) (left right : Expr) → valid_expr left ≡ true → valid_expr right ≡ true →
    valid_expr (summed which operator wrapping left right) ≡ true
summed_valid which operator wrapping left right h k =
    by_test (λ x. valid_expr x ≡ true) (is_signed_integer which) (Binary left operator right) (Wrapped left wrapping right)
    (λ _. binary_valid left operator right h k) (λ _. two (valid_expr left) (valid_expr right) h k)

computed_valid : (wrapping : Option Wrapping) (operator : Operator) (which : IntegerTy) (left right : Expr) → valid_expr left ≡ true → valid_expr right ≡ true →
    valid_expr (computed wrapping operator which left right) ≡ true
computed_valid (Some wrapping) operator which left right h k = summed_valid which operator wrapping left right h k
computed_valid None operator which left right h k = binary_valid left operator right h k

joined_valid : (op : Op2) (which : IntegerTy) (left right : Expr) → valid_expr left ≡ true → valid_expr right ≡ true → IsValidGiven (joined op which left right)
joined_valid op which left right h k =
    by_test IsValidGiven (is_comparison op) (truth (Binary left (operator_of op) right)) (value (computed (wrapping_of op) (operator_of op) which left right))
    (λ _. binary_valid left (operator_of op) right h k) (λ _. computed_valid (wrapping_of op) (operator_of op) which left right h k)

moved_valid : (op : Op2) (at elements : Expr) → valid_expr at ≡ true → valid_expr elements ≡ true → IsValidGiven (moved op at elements)
moved_valid op at elements h k =
    by_test IsValidGiven (moves op) (value (Offset at (if is_back op then minus Isize elements else elements))) nothing
    (λ _. two (valid_expr at) (valid_expr (if is_back op then minus Isize elements else elements)) h
    (by_test (λ x. valid_expr x ≡ true) (is_back op) (minus Isize elements) elements (λ _. minus_valid Isize elements k) (λ _. k)))
    (λ _. tt)

pointers_valid : (op : Op2) (left right : Expr) → valid_expr left ≡ true → valid_expr right ≡ true → IsValidGiven (pointers_joined op left right)
pointers_valid op left right h k =
    by_test IsValidGiven (is_back op) (value (Cast (OffsetFrom left right) (Integer I64))) (if is_comparison op then truth (Binary left (operator_of op) right) else nothing)
    (λ _. cast_valid (OffsetFrom left right) (Integer I64) (two (valid_expr left) (valid_expr right) h k) refl)
    (λ _. by_test IsValidGiven (is_comparison op) (truth (Binary left (operator_of op) right)) nothing (λ _. binary_valid left (operator_of op) right h k) (λ _. tt))

integers_valid : (op : Op2) (which : IntegerTy) (left right : Operand) → IsValidGiven left.given → IsValidGiven right.given → IsValidGiven (integers_form op which left right)
integers_valid op which left right h k =
    joined_valid op which (value_of left) (if is_shift op then count_of right else value_of right) (value_valid left h)
    (by_test (λ x. valid_expr x ≡ true) (is_shift op) (count_of right) (value_of right) (λ _. integer_valid U32 right.ty right.given k) (λ _. value_valid right k))

two_pointers_valid : (op : Op2) (left right : Operand) → valid_ty left.ty ≡ true → valid_ty right.ty ≡ true → IsValidGiven left.given → IsValidGiven right.given →
    IsValidGiven (pointers_form op left right)
two_pointers_valid op left right s t h k =
    pointers_valid op (value_of left) (beside left right) (value_valid left h) (as_type_valid right.ty left.ty (value_of right) (value_valid right k) t s)

by_types : (op : Op2) (one other : Ty) (left right : Operand) → valid_ty left.ty ≡ true → valid_ty right.ty ≡ true → IsValidGiven left.given → IsValidGiven right.given →
    IsValidGiven (binary_by op one other left right)
by_types op (Integer which) (Integer ty) left right s t h k = integers_valid op which left right h k
by_types op (Pointer target) (Integer ty) left right s t h k = moved_valid op (value_of left) (elements_of right) (value_valid left h) (integer_valid Isize right.ty right.given k)
by_types op (Integer which) (Pointer target) left right s t h k = moved_valid op (value_of right) (elements_of left) (value_valid right k) (integer_valid Isize left.ty left.given h)
by_types op Boolean (Pointer target) left right s t h k = moved_valid op (value_of right) (elements_of left) (value_valid right k) (integer_valid Isize left.ty left.given h)
by_types op (Pointer target) Boolean left right s t h k = moved_valid op (value_of left) (elements_of right) (value_valid left h) (integer_valid Isize right.ty right.given k)
by_types op (Pointer target) (Pointer other) left right s t h k = two_pointers_valid op left right s t h k
by_types op (Code params result) (Code given gives) left right s t h k = two_pointers_valid op left right s t h k
by_types op one other left right s t h k = tt

pub binary_form_valid : (op : Op2) (left right : Operand) → valid_ty left.ty ≡ true → valid_ty right.ty ≡ true → IsValidGiven left.given → IsValidGiven right.given →
    IsValidGiven (binary_form op left right)
binary_form_valid op left right s t h k = by_types op left.ty right.ty left right s t h k

pub both_valid : (left right : Operand) → IsValidGiven left.given → IsValidGiven right.given → IsValidGiven (and_form left right)
both_valid left right h k = two (valid_expr (test_of left)) (valid_expr (test_of right)) (test_valid left h) (test_valid right k)

pub either_valid : (left right : Operand) → IsValidGiven left.given → IsValidGiven right.given → IsValidGiven (or_form left right)
either_valid left right h k = two (valid_expr (test_of left)) (valid_expr (test_of right)) (test_valid left h) (test_valid right k)

pub choice_valid : (condition if_true if_false : Operand) → IsValidGiven condition.given → IsValidGiven if_true.given → IsValidGiven if_false.given →
    IsValidGiven (choice_form condition if_true if_false)
choice_valid condition if_true if_false c h k = rw (test_valid condition c, value_valid if_true h, value_valid if_false k) refl

pub converted_valid : (operand : Operand) (ty : Ty) → valid_ty operand.ty ≡ true → valid_ty ty ≡ true → IsValidGiven operand.given → IsValidGiven (converted ty operand)
converted_valid operand (Integer which) s t h = integer_valid which operand.ty operand.given h
converted_valid operand Boolean s t h = test_valid operand h
converted_valid operand (Pointer target) s t h = as_type_valid operand.ty (Pointer target) (value_of operand) (value_valid operand h) s t
converted_valid operand (Code params result) s t h = as_type_valid operand.ty (Code params result) (value_of operand) (value_valid operand h) s t
converted_valid operand Void s t h = tt
converted_valid operand (Array element size) s t h = tt
converted_valid operand (Record m x) s t h = tt

-- ---- leaves

pub constant_valid : (ty : Ty) (number : ℤ) → is_value number ≡ true → valid_expr (constant ty number) ≡ true
constant_valid (Integer which) number h = h
constant_valid Boolean number h = refl
constant_valid ty number h = h

none_valid : (ty : Ty) → valid_ty ty ≡ true → valid_expr (Transmute ty ty NoFunction) ≡ true
none_valid ty t = rw t refl

pub zero_form_valid : (ty : Ty) → valid_ty ty ≡ true → valid_expr (zero_of ty) ≡ true
zero_form_valid (Integer which) t = refl
zero_form_valid Boolean t = refl
zero_form_valid Void t = refl
zero_form_valid (Pointer target) t = t
zero_form_valid (Array element size) t = refl
zero_form_valid (Code params result) t = none_valid (Code params result) t
zero_form_valid (Record m x) t = refl

function_valid : (m x : List ℕ) (kept : Ty) → valid_path m x ≡ true → valid_ty kept ≡ true → valid_expr (function_of_type m x kept) ≡ true
function_valid m x (Code params result) p t = let parts = both {a = valid_tys params} {b = valid_result result} t in rw (p, parts.0, parts.1) refl
function_valid m x kept p t = refl

pub function_form_valid : (m x : List ℕ) (kept ty : Ty) → valid_path m x ≡ true → valid_ty kept ≡ true → valid_ty ty ≡ true → IsValidGiven (function_form m x kept ty)
function_form_valid m x kept ty p s t = as_type_valid kept ty (function_of_type m x kept) (function_valid m x kept p s) s t

address_valid : (p : Place) → valid_place p ≡ true → valid_expr (address_of p) ≡ true
address_valid (Local x) h = h
address_valid (Static m x) h = h
address_valid (Field p f) h = h
address_valid (Deref e) h = h

pub object_valid : (kept : Kept) (ty : Ty) → valid_place kept.place ≡ true → valid_target ty ≡ true → valid_place (object_place kept ty) ≡ true
object_valid kept ty h t =
    by_test (λ p. valid_place p ≡ true) (same_type kept.ty ty) kept.place (pointed (Cast (address_of kept.place) (Pointer ty))) (λ _. h)
    (λ _. cast_valid (address_of kept.place) (Pointer ty) (address_valid kept.place h) t)

pub address_form_valid : (ty target : Ty) (p : Place) → valid_place p ≡ true → valid_target target ≡ true → IsValidGiven (address_form ty target p)
address_form_valid ty target p h t = cast_to_valid (Pointer ty) (Pointer target) (address_of p) (address_valid p h) t
