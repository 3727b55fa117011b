-- Operators ask of the type of a pointer how large its elements are, and of compatible types these are one.
use Rattle.std.proofs.Common.{◌≡◌, inl, inr, ℤ, pos, ◌*ℤ◌, neg_ℤ, Bool, true, false, Option, Some, None, IsSome, Ok, refl, sym, ap, ◌∙◌}
use Rattle.cr_base.specs.declared.layout.Laid.{Laid}
use Rattle.cr_base.specs.declared.rule.URule.TheVariants.{U11}
use Rattle.cx_core.specs.Compatible.{AreCompatible}
use Rattle.cx_core.specs.declared.expr.Op2.{Op2}
use Rattle.cx_core.specs.declared.expr.Op2.TheVariants.{Add, Subtract}
use Rattle.cx_core.specs.Layouts.{extent, layouts_of}
use Rattle.cx_core.specs.Trees.{CTy, ty, pointer, form_of_type, unqualified, CProgram}
use Rattle.cx_core.specs.Typing.{PointAlike, IsBinaryOf}
use Rattle.cx_core.specs.ValidTypes.{IsComplete, AreTypes}
use Rattle.cx_mean.specs.Operands.{needed, by_pointers}
use Rattle.cx_mean.specs.Settings.{CSetting, extent_in, element_extent, setting_of}
use Rattle.cx_mean.specs.Values.{moved_by, pointer_and_number, number_and_pointer, two_pointers, number_of_pointers, binary_of}
use Rattle.cx_typed_work.proofs.AlikeRecords.{alike_laid}
use Rattle.mem_bytes.specs.Access.{and_then}
use Rattle.mem_bytes.specs.declared.value.Value.{Value}
use Rattle.mem_bytes.specs.declared.value.Value.TheVariants.{Whole as Number, Null, Object as Pointer, Code as Function}
use Rattle.mem_bytes.specs.Memory.{Blocks}
use Rattle.mem_bytes.specs.Pointers.{moved, difference}
use Rattle.cx_typed_sizes.specs.Laws.{SamePointers}

-- ---- by the size of elements

module _ (setting : CSetting) (blocks : Blocks) (one other : CTy) (same : element_extent setting (form_of_type one) ≡ element_extent setting (form_of_type other)) where
  moved_same : (at : Value) (count : ℤ) → moved_by setting blocks one at count ≡ moved_by setting blocks other at count
  moved_same at count =
      ap (λ (found : Option Laid). and_then (and_then (needed found) (λ laid. Ok (count *ℤ pos laid.size))) (λ bytes. by_pointers U11 (moved blocks at bytes))) same

  pointer_same : (op : Op2) (at : Value) (count : ℤ) → pointer_and_number setting op blocks one at count ≡ pointer_and_number setting op blocks other at count
  pointer_same Add at count = moved_same at count
  pointer_same Subtract at count = moved_same at (neg_ℤ count)
  pointer_same op at count = refl

  number_same : (op : Op2) (at : Value) (count : ℤ) → number_and_pointer setting op blocks one at count ≡ number_and_pointer setting op blocks other at count
  number_same Add at count = moved_same at count
  number_same op at count = refl

  two_same : (op : Op2) (first second : Value) → two_pointers setting op blocks one first second ≡ two_pointers setting op blocks other first second
  two_same Subtract first second =
      ap (λ (found : Option Laid). and_then (needed found) (λ laid. by_pointers U11 (difference blocks laid.size first second))) same
  two_same op first second = refl

  left_same : (op : Op2) (type right : CTy) (first second : Value) → binary_of setting op type blocks one right first second ≡ binary_of setting op type blocks other right first second
  left_same op type right (Number n) (Number k) = refl
  left_same op type right (Number n) Null = refl
  left_same op type right (Number n) (Pointer to) = refl
  left_same op type right (Number n) (Function g) = refl
  left_same op type right Null (Number k) = pointer_same op Null k
  left_same op type right (Pointer at) (Number k) = pointer_same op (Pointer at) k
  left_same op type right (Function f) (Number k) = pointer_same op (Function f) k
  left_same op type right Null Null = ap number_of_pointers (two_same op Null Null)
  left_same op type right Null (Pointer to) = ap number_of_pointers (two_same op Null (Pointer to))
  left_same op type right Null (Function g) = ap number_of_pointers (two_same op Null (Function g))
  left_same op type right (Pointer at) Null = ap number_of_pointers (two_same op (Pointer at) Null)
  left_same op type right (Pointer at) (Pointer to) = ap number_of_pointers (two_same op (Pointer at) (Pointer to))
  left_same op type right (Pointer at) (Function g) = ap number_of_pointers (two_same op (Pointer at) (Function g))
  left_same op type right (Function f) Null = ap number_of_pointers (two_same op (Function f) Null)
  left_same op type right (Function f) (Pointer to) = ap number_of_pointers (two_same op (Function f) (Pointer to))
  left_same op type right (Function f) (Function g) = ap number_of_pointers (two_same op (Function f) (Function g))

  right_same : (op : Op2) (type left : CTy) (first second : Value) → binary_of setting op type blocks left one first second ≡ binary_of setting op type blocks left other first second
  right_same op type left (Number n) (Number k) = refl
  right_same op type left (Number n) Null = number_same op Null n
  right_same op type left (Number n) (Pointer to) = number_same op (Pointer to) n
  right_same op type left (Number n) (Function g) = number_same op (Function g) n
  right_same op type left Null (Number k) = refl
  right_same op type left Null Null = refl
  right_same op type left Null (Pointer to) = refl
  right_same op type left Null (Function g) = refl
  right_same op type left (Pointer at) (Number k) = refl
  right_same op type left (Pointer at) Null = refl
  right_same op type left (Pointer at) (Pointer to) = refl
  right_same op type left (Pointer at) (Function g) = refl
  right_same op type left (Function f) (Number k) = refl
  right_same op type left (Function f) Null = refl
  right_same op type left (Function f) (Pointer to) = refl
  right_same op type left (Function f) (Function g) = refl

-- ---- operators that don't move pointers

abbrev moves : Op2 → Bool
moves Add = true
moves Subtract = true
moves op = false

module _ (setting : CSetting) (blocks : Blocks) (one other : CTy) where
  pointer_free : (op : Op2) (at : Value) (count : ℤ) → moves op ≡ false → pointer_and_number setting op blocks one at count ≡ pointer_and_number setting op blocks other at count
  pointer_free Add at count is = cc
  pointer_free Subtract at count is = cc
  pointer_free op at count is = refl

  number_free : (op : Op2) (at : Value) (count : ℤ) → moves op ≡ false → number_and_pointer setting op blocks one at count ≡ number_and_pointer setting op blocks other at count
  number_free Add at count is = cc
  number_free op at count is = refl

  two_free : (op : Op2) (first second : Value) → moves op ≡ false → two_pointers setting op blocks one first second ≡ two_pointers setting op blocks other first second
  two_free Subtract first second is = cc
  two_free op first second is = refl

-- the types of two pointers play no part
binary_free : (setting : CSetting) (blocks : Blocks) (op : Op2) (type left right one other : CTy) (first second : Value) → moves op ≡ false
    → binary_of setting op type blocks left right first second ≡ binary_of setting op type blocks one other first second
binary_free setting blocks op type left right one other (Number n) (Number k) is = refl
binary_free setting blocks op type left right one other (Number n) Null is = number_free setting blocks right other op Null n is
binary_free setting blocks op type left right one other (Number n) (Pointer to) is = number_free setting blocks right other op (Pointer to) n is
binary_free setting blocks op type left right one other (Number n) (Function g) is = number_free setting blocks right other op (Function g) n is
binary_free setting blocks op type left right one other Null (Number k) is = pointer_free setting blocks left one op Null k is
binary_free setting blocks op type left right one other (Pointer at) (Number k) is = pointer_free setting blocks left one op (Pointer at) k is
binary_free setting blocks op type left right one other (Function f) (Number k) is = pointer_free setting blocks left one op (Function f) k is
binary_free setting blocks op type left right one other Null Null is = ap number_of_pointers (two_free setting blocks left one op Null Null is)
binary_free setting blocks op type left right one other Null (Pointer to) is = ap number_of_pointers (two_free setting blocks left one op Null (Pointer to) is)
binary_free setting blocks op type left right one other Null (Function g) is = ap number_of_pointers (two_free setting blocks left one op Null (Function g) is)
binary_free setting blocks op type left right one other (Pointer at) Null is = ap number_of_pointers (two_free setting blocks left one op (Pointer at) Null is)
binary_free setting blocks op type left right one other (Pointer at) (Pointer to) is = ap number_of_pointers (two_free setting blocks left one op (Pointer at) (Pointer to) is)
binary_free setting blocks op type left right one other (Pointer at) (Function g) is = ap number_of_pointers (two_free setting blocks left one op (Pointer at) (Function g) is)
binary_free setting blocks op type left right one other (Function f) Null is = ap number_of_pointers (two_free setting blocks left one op (Function f) Null is)
binary_free setting blocks op type left right one other (Function f) (Pointer to) is = ap number_of_pointers (two_free setting blocks left one op (Function f) (Pointer to) is)
binary_free setting blocks op type left right one other (Function f) (Function g) is = ap number_of_pointers (two_free setting blocks left one op (Function f) (Function g) is)

-- ---- compatible types

-- two sizes that are there are one
both_found : (first second : Option Laid) → IsSome first → IsSome second → ((laid other : Laid) → first ≡ Some laid → second ≡ Some other → laid ≡ other) → first ≡ second
both_found None second some more same = cc
both_found (Some laid) None some more same = cc
both_found (Some laid) (Some other) some more same = ap Some (same laid other refl refl)

extents_same : (program : CProgram) (first second : CTy) → AreTypes program.types → AreCompatible program.types (unqualified first) (unqualified second) → IsComplete program.types first → IsComplete program.types second
    → extent_in (setting_of program) first ≡ extent_in (setting_of program) second
extents_same program (ty form is_const) (ty other other_const) are by one two =
    both_found (extent (layouts_of program.types) (ty form is_const)) (extent (layouts_of program.types) (ty other other_const)) one two
    (λ laid more is more_is. alike_laid program.types (ty form false) (ty other false) laid more are by is more_is)

-- ---- typed nodes

abbrev BothWays : CSetting → Op2 → CTy → Blocks → CTy → CTy → Value → Value → Type 0
BothWays setting op type blocks left right first second =
    (binary_of setting op type blocks left right first second ≡ binary_of setting op type blocks left left first second)
    × (binary_of setting op type blocks left right first second ≡ binary_of setting op type blocks right right first second)

by_extent : (setting : CSetting) (op : Op2) (type : CTy) (blocks : Blocks) (left right : CTy) (first second : Value) → element_extent setting (form_of_type left) ≡ element_extent setting (form_of_type right)
    → BothWays setting op type blocks left right first second
by_extent setting op type blocks left right first second same =
    (right_same setting blocks right left (sym same) op type left first second, left_same setting blocks left right same op type right first second)

by_type : (setting : CSetting) (op : Op2) (type : CTy) (blocks : Blocks) (left right : CTy) (first second : Value) → left ≡ right → BothWays setting op type blocks left right first second
by_type setting op type blocks left right first second same = by_extent setting op type blocks left right first second (ap (λ (t : CTy). element_extent setting (form_of_type t)) same)

add_same : (program : CProgram) (type left right : CTy) (blocks : Blocks) (first second : Value) → IsBinaryOf program.types Add type left right → PointAlike program.types left right
    → BothWays (setting_of program) Add type blocks left right first second
add_same program type left right blocks first second (inl common) alike = by_type (setting_of program) Add type blocks left right first second (common.left_is ∙ sym common.right_is)
add_same program type (ty (pointer to) is_const) (ty (pointer other) other_const) blocks first second (inr (inl moved)) alike = absurd (cc (moved.integer))
add_same program type (ty (pointer to) is_const) (ty (pointer other) other_const) blocks first second (inr (inr moved)) alike = absurd (cc (moved.integer))
add_same program type left right blocks first second (inr moved) alike = absurd alike

subtract_same : (program : CProgram) (type left right : CTy) (blocks : Blocks) (first second : Value) → AreTypes program.types → IsBinaryOf program.types Subtract type left right → PointAlike program.types left right
    → BothWays (setting_of program) Subtract type blocks left right first second
subtract_same program type left right blocks first second are (inl common) alike = by_type (setting_of program) Subtract type blocks left right first second (common.left_is ∙ sym common.right_is)
subtract_same program type (ty (pointer to) is_const) (ty (pointer other) other_const) blocks first second are (inr (inl moved)) alike = absurd (cc (moved.integer))
subtract_same program type (ty (pointer to) is_const) (ty (pointer other) other_const) blocks first second are (inr (inr apart)) alike =
    by_extent (setting_of program) Subtract type blocks (ty (pointer to) is_const) (ty (pointer other) other_const) first second
    (extents_same program to other are alike apart.left_elements.1 apart.right_elements.1)
subtract_same program type left right blocks first second are (inr moved) alike = absurd alike

operands_same : (program : CProgram) (op : Op2) (type left right : CTy) (blocks : Blocks) (first second : Value) → AreTypes program.types → IsBinaryOf program.types op type left right → PointAlike program.types left right
    → BothWays (setting_of program) op type blocks left right first second
operands_same program Add type left right blocks first second are is alike = add_same program type left right blocks first second is alike
operands_same program Subtract type left right blocks first second are is alike = subtract_same program type left right blocks first second are is alike
operands_same program op type left right blocks first second are is alike =
    (binary_free (setting_of program) blocks op type left right left left first second refl, binary_free (setting_of program) blocks op type left right right right first second refl)

pub same_pointers : SamePointers
same_pointers = record {
  extents = extents_same;
  left = λ setting op type one other right blocks first second same. left_same setting blocks one other same op type right first second;
  right = λ setting op type left one other blocks first second same. right_same setting blocks one other same op type left first second;
  operands = operands_same;
}
