-- What the expressions of a form come to, and when that stands for what C's operand gives (ISO C99, 6.5; the Rust Reference, "Expressions").
use Rattle.std.specs.Prelude.{◌≡◌, ℕ, Bool}
use Rattle.cr_base.specs.Scalar.{IsInRange}
use Rattle.cr_base.specs.declared.scalar.Scalar.TheVariants.{Truth}
use Rattle.cr_runs.specs.Runs.{came}
use Rattle.cr_world.specs.World.{World}
use Rattle.mem_bytes.specs.declared.value.Value.{Value}
use Rattle.mem_bytes.specs.declared.value.Value.TheVariants.{Whole, Null, Object, Code as Function}
use Rattle.rs_mean.specs.Calls.{Spot}
use Rattle.rs_mean.specs.Numbers.{number_of_truth}
use Rattle.rs_mean.specs.Run.{Frame, run_expr, run_place}
use Rattle.rs_mean.specs.Scalars.{integer_scalar}
use Rattle.rs_mean.specs.Values.{typed}
use Rattle.rs_text.specs.declared.integer.IntegerTy.TheVariants.{I32}
use Rattle.rs_text.specs.Tree.{Ty, Integer, Boolean, Pointer, Code, Place, Expr, Read}
use Rattle.lift_forms.specs.Given.{Given, nothing, truth, value, place}
use Rattle.lift_forms.specs.Operators.{Operand}
use Rattle.lift_stands.specs.Stands.{Images, ValueBelow}

-- at every number of units an expression comes to a value of a type, takes no unit and changes nothing
pub record GivesAt (frame : Frame) (world : World) (e : Expr) (ty : Ty) (given : Value) : Type 0 where
  pub runs : (units : ℕ) → run_expr frame e world units ≡ came (typed ty given) world units

-- a place comes to where it is, takes no unit and changes nothing
pub record GivesPlace (frame : Frame) (world : World) (p : Place) (spot : Spot) : Type 0 where
  pub runs : (units : ℕ) → run_place frame p world units ≡ came spot world units

-- so an expression gives a value that stands for one of C
pub record GivesBelow (images : Images) (frame : Frame) (world : World) (e : Expr) (ty : Ty) (of_c : Value) : Type 0 where
  pub other : Value
  pub gives : GivesAt frame world e ty other
  pub below : ValueBelow images of_c other

-- a truth value, as the number that C has
abbrev pub truth_number : Bool → Value
truth_number test = Whole (number_of_truth test)

-- a `bool` that is C's `int` 0 or 1
pub record GivesTruth (frame : Frame) (world : World) (e : Expr) (ty : Ty) (of_c : Value) : Type 0 where
  pub test : Bool
  pub gives : GivesAt frame world e Boolean (truth_number test)
  pub is_number : of_c ≡ truth_number test
  pub is_int : ty ≡ Integer I32

-- what is given stands for a value of C
abbrev pub GivenStands : Images → Frame → World → Ty → Given → Value → Type 0
GivenStands images frame world ty nothing of_c = ⊥
GivenStands images frame world ty (truth e) of_c = GivesTruth frame world e ty of_c
GivenStands images frame world ty (value e) of_c = GivesBelow images frame world e ty of_c
GivenStands images frame world ty (place p) of_c = GivesBelow images frame world (Read p) ty of_c

abbrev pub OperandStands : Images → Frame → World → Operand → Value → Type 0
OperandStands images frame world operand of_c = GivenStands images frame world operand.ty operand.given of_c

-- a value is one of a Rust type
abbrev pub IsOf : Ty → Value → Type 0
IsOf (Integer which) (Whole number) = IsInRange (integer_scalar which) number
IsOf Boolean (Whole number) = IsInRange Truth number
IsOf (Pointer target) Null = Unit {0}
IsOf (Pointer target) (Object at) = Unit {0}
IsOf (Code params result) Null = Unit {0}
IsOf (Code params result) (Function number) = Unit {0}
IsOf ty of_c = ⊥
