-- What operators and conversions find is the same in a later memory in which the objects of their pointers are as large.
use Rattle.std.proofs.Common.{◌≡◌, ℕ, ℤ, pos, neg_ℤ, ◌+ℤ◌, Bool, not, if◌then◌else◌, Option, Some, None, Result, Ok, Err, refl, ap, ◌∙◌}
use Rattle.cr_base.specs.declared.rule.URule.TheVariants.{U11, U12}
use Rattle.cr_base.specs.declared.scalar.Scalar.{Scalar}
use Rattle.cr_base.specs.declared.scalar.Scalar.TheVariants as scalars
use Rattle.cr_world.specs.World.{World, blocks_of}
use Rattle.cx_core.specs.declared.expr.Op1.{Op1}
use Rattle.cx_core.specs.declared.expr.Op1.TheVariants as op1
use Rattle.cx_core.specs.declared.expr.Op2.{Op2}
use Rattle.cx_core.specs.declared.expr.Op2.TheVariants as op2
use Rattle.cx_core.specs.Trees.{CTy, form_of_type}
use Rattle.cx_mean.specs.Operands.{CWhy, needed, by_pointers}
use Rattle.cx_mean.specs.Settings.{CSetting, scalar_in_type, element_extent}
use Rattle.cx_mean.specs.Values.{is_of_kind, is_not_zero, is_true, unary_of, unary_value, bytes_of_elements, moved_by, pointer_and_number, number_and_pointer, two_pointers, ordered, differ_by, binary_of, number_of_pointers, to_scalar}
use Rattle.cx_numbers.specs.Numbers.{stuck, number_of_truth}
use Rattle.lift_does.proofs.Steady.{SameSize}
use Rattle.mem_bytes.specs.Access.{and_then}
use Rattle.mem_bytes.specs.Pointers.{object_size, usable, place_inside, moved, distance_in, distance, in_elements, equality, same_places, are_equal}
use Rattle.mem_bytes.specs.declared.pointer.PointerFault.{PointerFault}
use Rattle.mem_bytes.specs.declared.pointer.PointerFault.TheVariants.{NotWithinOne}
use Rattle.mem_bytes.specs.declared.value.Value.{Value}
use Rattle.mem_bytes.specs.declared.value.Value.TheVariants.{Whole as Number, Null, Object, Code as Function}

module _ (before later : World) where
  abbrev Same : Value → Type 0
  Same value = SameSize before later value

  usable_same : (value : Value) → Same value → usable (blocks_of later) value ≡ usable (blocks_of before) value
  usable_same (Object at) same = ap (λ (size : Result ℕ PointerFault). and_then size (λ _. Ok (Object at))) (same at refl)
  usable_same Null same = refl
  usable_same (Number number) same = refl
  usable_same (Function number) same = refl

  pub true_same : (value : Value) → Same value → is_true (blocks_of later) value ≡ is_true (blocks_of before) value
  true_same (Object at) same = ap (λ (found : Result Value PointerFault). and_then (by_pointers U12 found) (λ one. Ok (is_not_zero one))) (usable_same (Object at) same)
  true_same Null same = refl
  true_same (Number number) same = refl
  true_same (Function number) same = refl

  pub scalar_same : (kind : Scalar) (value : Value) → Same value → to_scalar kind (blocks_of later) value ≡ to_scalar kind (blocks_of before) value
  scalar_same scalars.Truth value same = ap (λ (found : Result Bool CWhy). and_then found (λ truth. Ok (Number (number_of_truth truth)))) (true_same value same)
  scalar_same (scalars.Whole width signed) value same = refl
  scalar_same scalars.Object value same = ap (λ (found : Result Value PointerFault). if is_of_kind scalars.Object value then by_pointers U11 found else Err stuck) (usable_same value same)
  scalar_same scalars.Code value same = ap (λ (found : Result Value PointerFault). if is_of_kind scalars.Code value then by_pointers U11 found else Err stuck) (usable_same value same)

  unary_of_same : (op : Op1) (kind : Option Scalar) (value : Value) → Same value → unary_of op kind (blocks_of later) value ≡ unary_of op kind (blocks_of before) value
  unary_of_same op1.Not kind value same = ap (λ (found : Result Bool CWhy). and_then found (λ truth. Ok (number_of_truth (not truth)))) (true_same value same)
  unary_of_same op1.Plus None value same = refl
  unary_of_same op1.Plus (Some kind) value same = refl
  unary_of_same op1.Minus None value same = refl
  unary_of_same op1.Minus (Some kind) value same = refl
  unary_of_same op1.Complement None value same = refl
  unary_of_same op1.Complement (Some kind) value same = refl

  pub unary_same : (setting : CSetting) (op : Op1) (type : CTy) (value : Value) → Same value → unary_value setting op type (blocks_of later) value ≡ unary_value setting op type (blocks_of before) value
  unary_same setting op type value same = ap (λ (found : Result ℤ CWhy). and_then found (λ number. Ok (Number number))) (unary_of_same op (scalar_in_type setting type) value same)

  moved_same : (value : Value) (bytes : ℤ) → Same value → moved (blocks_of later) value bytes ≡ moved (blocks_of before) value bytes
  moved_same (Object at) bytes same = ap (λ (size : Result ℕ PointerFault). and_then (and_then size (λ n. place_inside at.block n (pos at.offset +ℤ bytes))) (λ new. Ok (Object new))) (same at refl)
  moved_same Null bytes same = refl
  moved_same (Number number) bytes same = refl
  moved_same (Function number) bytes same = refl

  bind_same : {A B E : Type 0} (first : Result A E) (next other : A → Result B E) → ((a : A) → next a ≡ other a) → and_then first next ≡ and_then first other
  bind_same (Ok a) next other same = same a
  bind_same (Err why) next other same = refl

  elements_same : (setting : CSetting) (type : CTy) (value : Value) (count : ℤ) → Same value → moved_by setting (blocks_of later) type value count ≡ moved_by setting (blocks_of before) type value count
  elements_same setting type value count same = bind_same (bytes_of_elements setting type count) _ _ (λ bytes. ap (by_pointers U11) (moved_same value bytes same))

  after_same : (setting : CSetting) (op : Op2) (type : CTy) (value : Value) (count : ℤ) → Same value → pointer_and_number setting op (blocks_of later) type value count ≡ pointer_and_number setting op (blocks_of before) type value count
  after_same setting op2.Add type value count same = elements_same setting type value count same
  after_same setting op2.Subtract type value count same = elements_same setting type value (neg_ℤ count) same
  after_same setting _ type value count same = refl

  front_same : (setting : CSetting) (op : Op2) (type : CTy) (value : Value) (count : ℤ) → Same value → number_and_pointer setting op (blocks_of later) type value count ≡ number_and_pointer setting op (blocks_of before) type value count
  front_same setting op2.Add type value count same = elements_same setting type value count same
  front_same setting _ type value count same = refl

  distance_same : (first second : Value) → Same first → Same second → distance (blocks_of later) first second ≡ distance (blocks_of before) first second
  distance_same (Object one) (Object other) same also =
      ap (λ (size : Result ℕ PointerFault). and_then size (λ _. and_then (object_size (blocks_of later) other) (λ _. distance_in one other))) (same one refl)
      ∙ ap (λ (size : Result ℕ PointerFault). and_then (object_size (blocks_of before) one) (λ _. and_then size (λ _. distance_in one other))) (also other refl)
  distance_same (Object one) Null same also = ap (λ (size : Result ℕ PointerFault). and_then size (λ _. Err NotWithinOne)) (same one refl)
  distance_same Null (Object other) same also = ap (λ (size : Result ℕ PointerFault). and_then size (λ _. Err NotWithinOne)) (also other refl)
  distance_same first second same also = refl

  equality_same : (first second : Value) → Same first → Same second → equality (blocks_of later) first second ≡ equality (blocks_of before) first second
  equality_same (Object one) (Object other) same also =
      ap (λ (size : Result ℕ PointerFault). and_then size (λ n. and_then (object_size (blocks_of later) other) (λ m. same_places one n other m))) (same one refl)
      ∙ ap (λ (size : Result ℕ PointerFault). and_then (object_size (blocks_of before) one) (λ n. and_then size (λ m. same_places one n other m))) (also other refl)
  equality_same (Object one) Null same also = ap (λ (found : Result Value PointerFault). and_then found (λ a. and_then (Ok Null) (λ b. Ok (are_equal a b)))) (usable_same (Object one) same)
  equality_same (Object one) (Number n) same also = ap (λ (found : Result Value PointerFault). and_then found (λ a. and_then (usable (blocks_of before) (Number n)) (λ b. Ok (are_equal a b)))) (usable_same (Object one) same)
  equality_same (Object one) (Function n) same also = ap (λ (found : Result Value PointerFault). and_then found (λ a. and_then (usable (blocks_of before) (Function n)) (λ b. Ok (are_equal a b)))) (usable_same (Object one) same)
  equality_same Null (Object other) same also = ap (λ (found : Result Value PointerFault). and_then found (λ b. Ok (are_equal Null b))) (usable_same (Object other) also)
  equality_same (Function n) (Object other) same also = ap (λ (found : Result Value PointerFault). and_then found (λ b. Ok (are_equal (Function n) b))) (usable_same (Object other) also)
  equality_same (Number n) (Object other) same also = refl
  equality_same first second same also = refl

  difference_same : (setting : CSetting) (type : CTy) (first second : Value) → Same first → Same second → differ_by setting (blocks_of later) type first second ≡ differ_by setting (blocks_of before) type first second
  difference_same setting type first second same also =
      bind_same (needed (element_extent setting (form_of_type type))) _ _ (λ laid. ap (λ (found : Result ℤ PointerFault). by_pointers U11 (and_then found (in_elements laid.size))) (distance_same first second same also))

  ordered_same : (holds : ℤ → Bool) (first second : Value) → Same first → Same second → ordered holds (blocks_of later) first second ≡ ordered holds (blocks_of before) first second
  ordered_same holds first second same also = ap (λ (found : Result ℤ PointerFault). and_then (by_pointers U12 found) (λ bytes. Ok (number_of_truth (holds bytes)))) (distance_same first second same also)

  pointers_same : (setting : CSetting) (op : Op2) (type : CTy) (first second : Value) → Same first → Same second → two_pointers setting op (blocks_of later) type first second ≡ two_pointers setting op (blocks_of before) type first second
  pointers_same setting op2.Subtract type first second same also = difference_same setting type first second same also
  pointers_same setting op2.Less type first second same also = ordered_same _ first second same also
  pointers_same setting op2.Greater type first second same also = ordered_same _ first second same also
  pointers_same setting op2.LessOrEqual type first second same also = ordered_same _ first second same also
  pointers_same setting op2.GreaterOrEqual type first second same also = ordered_same _ first second same also
  pointers_same setting op2.Equal type first second same also = ap (λ (found : Result Bool PointerFault). and_then (by_pointers U12 found) (λ one. Ok (number_of_truth one))) (equality_same first second same also)
  pointers_same setting op2.NotEqual type first second same also = ap (λ (found : Result Bool PointerFault). and_then (by_pointers U12 found) (λ one. Ok (number_of_truth (not one)))) (equality_same first second same also)
  pointers_same setting _ type first second same also = refl

  both_pointers : (setting : CSetting) (op : Op2) (type : CTy) (first second : Value) → Same first → Same second →
      number_of_pointers (two_pointers setting op (blocks_of later) type first second) ≡ number_of_pointers (two_pointers setting op (blocks_of before) type first second)
  both_pointers setting op type first second same also = ap number_of_pointers (pointers_same setting op type first second same also)

  pub binary_same : (setting : CSetting) (op : Op2) (type left right : CTy) (first second : Value) → Same first → Same second →
      binary_of setting op type (blocks_of later) left right first second ≡ binary_of setting op type (blocks_of before) left right first second
  binary_same setting op type left right (Number one) (Number other) same also = refl
  binary_same setting op type left right (Number one) Null same also = front_same setting op right Null one also
  binary_same setting op type left right (Number one) (Object at) same also = front_same setting op right (Object at) one also
  binary_same setting op type left right (Number one) (Function n) same also = front_same setting op right (Function n) one also
  binary_same setting op type left right Null (Number other) same also = after_same setting op left Null other same
  binary_same setting op type left right (Object at) (Number other) same also = after_same setting op left (Object at) other same
  binary_same setting op type left right (Function n) (Number other) same also = after_same setting op left (Function n) other same
  binary_same setting op type left right Null Null same also = both_pointers setting op left Null Null same also
  binary_same setting op type left right Null (Object to) same also = both_pointers setting op left Null (Object to) same also
  binary_same setting op type left right Null (Function n) same also = both_pointers setting op left Null (Function n) same also
  binary_same setting op type left right (Object at) Null same also = both_pointers setting op left (Object at) Null same also
  binary_same setting op type left right (Object at) (Object to) same also = both_pointers setting op left (Object at) (Object to) same also
  binary_same setting op type left right (Object at) (Function n) same also = both_pointers setting op left (Object at) (Function n) same also
  binary_same setting op type left right (Function m) Null same also = both_pointers setting op left (Function m) Null same also
  binary_same setting op type left right (Function m) (Object to) same also = both_pointers setting op left (Function m) (Object to) same also
  binary_same setting op type left right (Function m) (Function n) same also = both_pointers setting op left (Function m) (Function n) same also
