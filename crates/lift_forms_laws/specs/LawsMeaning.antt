-- Laws of meaning: from operands that stand for C's, where the operator or the conversion of C has a meaning, the form gives what stands for C's result, takes no unit and
-- changes nothing (ISO C99, 6.3, 6.5.3.3, 6.5.5 to 6.5.14; the Rust Reference, "Operator expressions" and "Type cast expressions").
use Rattle.std.specs.Prelude.{◌≡◌, ℕ, ◌<◌, ℤ, pos, Bool, true, ◌&&◌, ◌||◌, false, if◌then◌else◌, List, Some, Ok}
use Rattle.cr_base.specs.declared.layout.Laid.{Laid}
use Rattle.cr_base.specs.declared.scalar.Scalar.{Scalar}
use Rattle.cr_world.specs.World.{World}
use Rattle.cx_core.specs.declared.expr.Op1.{Op1}
use Rattle.cx_core.specs.declared.expr.Op2.{Op2}
use Rattle.cx_core.specs.declared.expr.Op2.TheVariants.{Subtract}
use Rattle.cx_core.specs.Trees.{CTy}
use Rattle.cx_mean.specs.Settings.{CSetting, scalar_in_type}
use Rattle.cx_mean.specs.Values.{is_true, unary_value, binary_value, to_scalar}
use Rattle.cx_typed_values.specs.Values.{AreObjects, IsNear}
use Rattle.mem_bytes.specs.Memory.{Blocks}
use Rattle.mem_bytes.specs.Coding.{IsValueOf}
use Rattle.mem_bytes.specs.declared.value.Value.{Value}
use Rattle.mem_bytes.specs.declared.value.Value.TheVariants.{Whole, Null, Code as Function}
use Rattle.rs_mean.specs.Layout.{laid_of}
use Rattle.rs_mean.specs.Calls.{Spot, spot}
use Rattle.rs_mean.specs.Lookups.{function_number}
use Rattle.rs_mean.specs.Numbers.{number_of_truth}
use Rattle.rs_mean.specs.Run.{Frame, is_base}
use Rattle.rs_mean.specs.Scalars.{is_scalar, scalar_of}
use Rattle.rs_mean.specs.Typing.{is_bits, is_pointer, is_code}
use Rattle.rs_text.specs.declared.integer.IntegerTy.{IntegerTy}
use Rattle.rs_text.specs.Tree.{Ty, Integer, Boolean, Pointer, Code, Tys, OptionTy, Place, Expr, And, Or, Choose}
use Rattle.lift_forms.specs.Given.{address_of}
use Rattle.lift_forms.specs.Places.{Kept, object_place, address_form}
use Rattle.lift_forms.specs.LawsTyping.{unary_result, binary_result, converts}
use Rattle.lift_forms.specs.Operators.{Operand, value_of, test_of, unary_form, binary_form, converted, constant, null_of, zero_of, function_form}
use Rattle.lift_stands.specs.Stands.{Images, ValueBelow, StandsFor}
use Rattle.lift_stands_pointers.specs.LawsOperators.{PointsToSize}
use Rattle.lift_forms_laws.specs.Gives.{GivesAt, GivesPlace, GivesBelow, truth_number, GivenStands, OperandStands, IsOf}

-- the memory of the crate stands for that of C, whose objects aren't larger than the profile allows
pub record Standing (images : Images) (memory : Blocks) (world : World) : Type 0 where
  pub stands : StandsFor images memory world.held.blocks
  pub objects : AreObjects memory

-- an element has one size in both, which isn't 0
pub record ElementsAgree (setting : CSetting) (frame : Frame) (type : CTy) (target : Ty) : Type 0 where
  pub laid : Laid
  pub found : laid_of frame.modules target ≡ Some laid
  pub points : PointsToSize setting type laid
  pub some : 0 < laid.size

-- so it is asked where two pointers are subtracted
abbrev pub Differing : CSetting → Frame → Op2 → CTy → Ty → Type 0
Differing setting frame Subtract type target = ElementsAgree setting frame type target
Differing setting frame op type target = Unit {0}

-- and where a pointer is moved; of numbers nothing is asked
abbrev pub Elements : CSetting → Frame → Op2 → (left right : Ty) → (one other : CTy) → Type 0
Elements setting frame op (Pointer target) (Integer which) one other = ElementsAgree setting frame one target
Elements setting frame op (Integer which) (Pointer target) one other = ElementsAgree setting frame other target
Elements setting frame op (Pointer target) Boolean one other = ElementsAgree setting frame one target
Elements setting frame op Boolean (Pointer target) one other = ElementsAgree setting frame other target
Elements setting frame op (Pointer target) (Pointer behind) one other = Differing setting frame op one target
Elements setting frame op left right one other = Unit {0}

pub record FormsStand : Type 0 where
  -- what C has of a scalar type the crate has of the Rust type with the same one
  pub kinds : (ty : Ty) (kind : Scalar) (of_c : Value) → scalar_of ty ≡ Some kind → IsValueOf kind of_c → IsOf ty of_c
  -- operands: their values, and as conditions (6.8.4.1p2)
  pub values : (images : Images) (frame : Frame) (world : World) (operand : Operand) (of_c : Value) → OperandStands images frame world operand of_c →
      GivesBelow images frame world (value_of operand) operand.ty of_c
  pub tests : (images : Images) (memory : Blocks) (frame : Frame) (world : World) (operand : Operand) (of_c : Value) (test : Bool) → Standing images memory world →
      OperandStands images frame world operand of_c → IsOf operand.ty of_c → is_true memory of_c ≡ Ok test → GivesAt frame world (test_of operand) Boolean (truth_number test)
  pub unary : (images : Images) (memory : Blocks) (frame : Frame) (world : World) (setting : CSetting) (op : Op1) (type : CTy) (operand : Operand) (ty : Ty) (of_c new : Value) →
      Standing images memory world → OperandStands images frame world operand of_c → IsOf operand.ty of_c → unary_result op operand.ty ≡ Some ty →
      scalar_in_type setting type ≡ scalar_of ty → unary_value setting op type memory of_c ≡ Ok new → GivenStands images frame world ty (unary_form op operand) new
  pub binary : (images : Images) (memory : Blocks) (frame : Frame) (world : World) (setting : CSetting) (op : Op2) (type one other : CTy) (left right : Operand) (ty : Ty)
      (first second new : Value) → Standing images memory world → OperandStands images frame world left first → OperandStands images frame world right second →
      IsOf left.ty first → IsOf right.ty second → IsNear first → IsNear second → binary_result op left.ty right.ty ≡ Some ty → scalar_in_type setting type ≡ scalar_of ty →
      Elements setting frame op left.ty right.ty one other →
      binary_value setting op type memory (record { type = one; value = first }) (record { type = other; value = second }) ≡ Ok new →
      GivenStands images frame world ty (binary_form op left right) new
  pub conversions : (images : Images) (memory : Blocks) (frame : Frame) (world : World) (kind : Scalar) (operand : Operand) (ty : Ty) (of_c new : Value) →
      Standing images memory world → OperandStands images frame world operand of_c → IsOf operand.ty of_c → converts operand.ty ty ≡ true → scalar_of ty ≡ Some kind →
      to_scalar kind memory of_c ≡ Ok new → GivenStands images frame world ty (converted ty operand) new

-- conditions of which the second is evaluated by the first
pub record ChoicesStand : Type 0 where
  pub both : (frame : Frame) (world : World) (left right : Expr) (test other : Bool) → GivesAt frame world left Boolean (truth_number test) →
      (test ≡ true → GivesAt frame world right Boolean (truth_number other)) → GivesAt frame world (And left right) Boolean (truth_number (test && other))
  pub either : (frame : Frame) (world : World) (left right : Expr) (test other : Bool) → GivesAt frame world left Boolean (truth_number test) →
      (test ≡ false → GivesAt frame world right Boolean (truth_number other)) → GivesAt frame world (Or left right) Boolean (truth_number (test || other))
  pub chosen : (frame : Frame) (world : World) (condition if_true if_false : Expr) (test : Bool) (ty : Ty) (given : Value) →
      GivesAt frame world condition Boolean (truth_number test) → (test ≡ true → GivesAt frame world if_true ty given) → (test ≡ false → GivesAt frame world if_false ty given) →
      GivesAt frame world (Choose condition if_true if_false) ty given

pub record ConstantsStand : Type 0 where
  pub numbers : (frame : Frame) (world : World) (which : IntegerTy) (number : ℤ) → GivesAt frame world (constant (Integer which) number) (Integer which) (Whole number)
  pub truths : (frame : Frame) (world : World) (test : Bool) → GivesAt frame world (constant Boolean (number_of_truth test)) Boolean (truth_number test)
  pub nulls : (frame : Frame) (world : World) (ty : Ty) → (is_pointer ty || is_code ty) ≡ true → GivesAt frame world (null_of ty) ty Null
  -- zero and `false` are 0, the other types have a null pointer
  pub zeros : (frame : Frame) (world : World) (ty : Ty) → is_scalar ty ≡ true → GivesAt frame world (zero_of ty) ty (if is_bits ty then Whole (pos 0) else Null)
  pub functions : (images : Images) (frame : Frame) (world : World) (m x : List ℕ) (params : Tys) (result : OptionTy) (ty : Ty) (number image : ℕ) → is_code ty ≡ true →
      function_number frame.modules m x ≡ Some image → images.functions number ≡ Some image → GivenStands images frame world ty (function_form m x (Code params result) ty) (Function number)

pub record PlacesStand : Type 0 where
  -- an object that is kept with another type than it is used with is at the same place, which is aligned for this type
  pub objects : (frame : Frame) (world : World) (kept : Kept) (ty : Ty) (at : Value) → GivesPlace frame world kept.place (spot kept.ty at) →
      is_base frame.modules world.held.blocks ty at ≡ true → GivesPlace frame world (object_place kept ty) (spot ty at)
  pub addresses : (frame : Frame) (world : World) (ty : Ty) (p : Place) (where_it_is : Spot) → GivesPlace frame world p where_it_is → where_it_is.ty ≡ ty →
      GivesAt frame world (address_of p) (Pointer ty) where_it_is.at
  pub address_forms : (images : Images) (frame : Frame) (world : World) (ty target : Ty) (p : Place) (where_it_is : Spot) (of_c : Value) → GivesPlace frame world p where_it_is →
      where_it_is.ty ≡ ty → ValueBelow images of_c where_it_is.at → GivenStands images frame world (Pointer target) (address_form ty target p) of_c
