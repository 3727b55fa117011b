-- What the crate's form of an operand comes to, and when that stands for what C's operand gives (ISO C99, 6.3.2.1 and 6.5; the Rust Reference, "Place expressions and value expressions").
use Rattle.std.specs.Prelude.{◌≡◌, ◌⊎◌, ℕ, Bool, true, false, List, ◌++◌, Option, Some, None, Ok}
use Rattle.cr_base.specs.declared.layout.Spot.{Spot}
use Rattle.cr_world.specs.World.{World, blocks_of}
use Rattle.cr_base.specs.declared.scalar.Scalar.{Scalar}
use Rattle.cx_core.specs.Trees.{CTy, CExpr, expr, member, type_of}
use Rattle.cx_mean.specs.Operands.{CValue, scalar, cells, names, designates, designates_bits, missing, Frame as CFrame, slot_of}
use Rattle.lift_calls.specs.Programs.{Setting, setting_in}
use Rattle.lift_exprs.specs.Names.{Names, type_in}
use Rattle.lift_exprs.specs.Written.{place_of_given, address_of_given}
use Rattle.lift_forms.specs.Given.{Given, value, address_of}
use Rattle.lift_forms_laws.specs.Gives.{GivesAt, GivesPlace, GivenStands}
use Rattle.lift_stands.specs.Stands.{Images, ValueBelow, PlaceBelow, PlaceHolds}
use Rattle.lift_stands_values.specs.Given.{align_in}
use Rattle.lift_forms.specs.Operators.{given_value}
use Rattle.lift_held.specs.Held.{is_void, is_record}
use Rattle.mem_bytes.specs.Access.{part_at}
use Rattle.mem_bytes.specs.Coding.{IsValueOf}
use Rattle.mem_bytes.specs.Laws.{behind}
use Rattle.mem_bytes.specs.declared.cell.Cell.{Cell}
use Rattle.mem_bytes.specs.declared.value.Ptr.{Ptr}
use Rattle.mem_bytes.specs.declared.value.Value.{Value}
use Rattle.mem_bytes.specs.declared.value.Value.TheVariants.{Object}
use Rattle.rs_mean.specs.Calls.{Spot as RustSpot}
use Rattle.rs_mean.specs.Run.{Frame, is_base}
use Rattle.rs_mean.specs.Scalars.{scalar_of}
use Rattle.rs_text.specs.Tree.{Ty, Pointer, Place, Local, Static, Deref, Field, Expr, AddressOf}

-- not what a pointer points to
abbrev pub IsNoDeref : Place → Type 0
IsNoDeref (Deref e) = ⊥
IsNoDeref (Local name) = Unit {0}
IsNoDeref (Static m name) = Unit {0}
IsNoDeref (Field whole f) = Unit {0}

-- the base of a place is aligned whose address is given, so that what the address points to may be written as the place itself
pub record AddressesBased (frame : Frame) (world : World) (given : Given) : Type 0 where
  pub based : (p : Place) (spot : RustSpot) → given ≡ value (AddressOf p) → GivesPlace frame world p spot → spot.is_based ≡ true
  pub plain : (p : Place) → given ≡ value (AddressOf p) → IsNoDeref p

-- the place of an lvalue: where C's is, of its type. What is a member has an aligned base; of any other place the base is itself.
pub record GivesLvalue (images : Images) (frame : Frame) (world : World) (ty : Ty) (given : Given) (to : Value) : Type 0 where
  pub spot : RustSpot
  pub gives : GivesPlace frame world (place_of_given given) spot
  pub ty_is : spot.ty ≡ ty
  pub below : ValueBelow images to spot.at
  pub based : (spot.is_based ≡ true) ⊎ (spot.is_based ≡ is_base frame.modules (blocks_of world) ty spot.at)
  pub address : AddressesBased frame world (value (address_of (place_of_given given)))

abbrev pub GivesObject : Images → Frame → World → Ty → Given → Option Ptr → Type 0
GivesObject images frame world ty given None = ⊥
GivesObject images frame world ty given (Some at) = GivesLvalue images frame world ty given (Object at)

-- the address of the structure or union of a type in which a bit-field stands, whose first byte is at a place in C
pub record GivesBase (images : Images) (frame : Frame) (world : World) (target : Ty) (given : Given) (spot : Spot) (at : Ptr) : Type 0 where
  pub base : Ptr
  pub gives : GivesAt frame world (address_of_given given) (Pointer target) (Object base)
  pub below : PlaceBelow images at (behind base spot.byte)

abbrev pub GivesField : Names → Images → Frame → World → Given → CExpr → Ptr → Type 0
GivesField names_of images frame world given (expr type place (member of spot)) at = GivesBase images frame world (type_in names_of (type_of of)) given spot at
GivesField names_of images frame world given (expr type place form) at = ⊥

-- a scalar value
pub record GivesScalar (images : Images) (frame : Frame) (world : World) (ty : Ty) (given : Given) (of_c : Value) : Type 0 where
  pub stands : GivenStands images frame world ty given of_c
  pub based : AddressesBased frame world given

-- the address of a place that holds a structure or union
pub record GivesRecord (images : Images) (frame : Frame) (world : World) (ty : Ty) (align : ℕ) (given : Given) (list : List Cell) : Type 0 where
  pub at : Value
  pub gives : GivesAt frame world (address_of_given given) (Pointer ty) at
  pub holds : PlaceHolds images (blocks_of world) align at list
  pub based : AddressesBased frame world given
  pub form : (e : Expr) × (given ≡ value e)

-- a value of a type, whatever it is: what a call gives back where C's function ended without a value (6.9.1p12)
pub record GivesSome (frame : Frame) (world : World) (ty : Ty) (given : Given) : Type 0 where
  pub kind : Scalar
  pub kind_is : scalar_of ty ≡ Some kind
  pub other : Value
  pub gives : GivesAt frame world (given_value given) ty other
  pub of_kind : IsValueOf kind other

-- the address of a place of a size, whatever it holds
pub record GivesRoom (frame : Frame) (world : World) (ty : Ty) (size : ℕ) (given : Given) : Type 0 where
  pub at : Ptr
  pub gives : GivesAt frame world (address_of_given given) (Pointer ty) (Object at)
  pub list : List Cell
  pub there : part_at (blocks_of world) at size ≡ Ok list

abbrev pub MissingAs : (of_void of_record : Bool) → Frame → World → Ty → (size : ℕ) → Given → Type 0
MissingAs true of_record frame world ty size given = Unit {0}
MissingAs false true frame world ty size given = GivesRoom frame world ty size given
MissingAs false false frame world ty size given = GivesSome frame world ty given

abbrev pub GivesMissing : Names → Frame → World → CTy → Given → Type 0
GivesMissing names_of frame world type given =
    MissingAs (is_void type) (is_record type) frame world (type_in names_of type) (names_of.size_of type) given

-- what is given for an operand that has been evaluated
abbrev pub GivesOperand : Setting → Names → Images → CFrame → Frame → World → CExpr → Given → CValue → Type 0
GivesOperand s names_of images c_frame frame world e given (scalar of_c) = GivesScalar images frame world (type_in names_of (type_of e)) given of_c
GivesOperand s names_of images c_frame frame world e given (cells list from) =
    GivesRecord images frame world (type_in names_of (type_of e)) (align_in (setting_in s) (type_of e)) given list
GivesOperand s names_of images c_frame frame world e given (names number) =
    GivesObject images frame world (type_in names_of (type_of e)) given (slot_of (c_frame ++ s.statics) number)
GivesOperand s names_of images c_frame frame world e given (designates to) = GivesLvalue images frame world (type_in names_of (type_of e)) given to
GivesOperand s names_of images c_frame frame world e given (designates_bits at bit width) = GivesField names_of images frame world given e at
GivesOperand s names_of images c_frame frame world e given missing = GivesMissing names_of frame world (type_of e) given

-- where its value is used
abbrev pub GivesWhere : Bool → Setting → Names → Images → CFrame → Frame → World → CExpr → Given → CValue → Type 0
GivesWhere true s names_of images c_frame frame world e given of_c = GivesOperand s names_of images c_frame frame world e given of_c
GivesWhere false s names_of images c_frame frame world e given of_c = Unit {0}
