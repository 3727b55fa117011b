-- What is known where the parts of a body are written (ISO C99, 5.1.2.3, 6.2.4 and 6.5).
use Rattle.std.specs.Prelude.{◌≡◌, ℕ, ◌<◌, ◌==◌, false, List, [], ◌∷◌, Some, None}
use Rattle.cr_base.specs.declared.layout.Laid.{Laid}
use Rattle.cx_core.specs.Linked.{IsLinked}
use Rattle.cx_core.specs.Trees.{CObject, CFun}
use Rattle.cx_core.specs.Typing.{CHome, object_with}
use Rattle.cx_mean.specs.Settings.{extent_in}
use Rattle.cx_typed_runs.specs.States.{AreBegun}
use Rattle.build_flow_nodes.specs.Parts.{BodyNames}
use Rattle.lift_calls.specs.Calls.{Promise}
use Rattle.lift_forms.specs.Places.{Kept}
use Rattle.lift_calls.specs.Frames.{KeptTemporary, FunctionNames, NamesApart}
use Rattle.lift_calls.specs.Programs.{Setting, setting_in}
use Rattle.lift_does.specs.Agree.{NamesMean}
use Rattle.lift_exprs.specs.Names.{type_in}
use Rattle.rs_mean.specs.Layout.{laid_of}
use Rattle.rs_mean.specs.Scalars.{is_scalar}
use Rattle.rs_text.specs.Tree.{Local}

-- what an expression may name where these objects are in scope
abbrev pub home_in : Setting → CFun → List ℕ → CHome
home_in s one scope = record { program = s.program; mentions = None; unit = one.unit; scope = scope }

-- what the parts of a body are written with, below bounds of units and of steps
pub record PartsMean (s : Setting) (names : FunctionNames) (of : BodyNames) (units steps : ℕ) : Type 0 where
  pub linked : IsLinked s.program
  pub begun : AreBegun s.program [] s.statics
  pub means : (home : CHome) → home.program ≡ s.program → NamesMean s home of.names names
  pub apart : NamesApart names
  pub promise : Promise s units steps

-- ---- objects

-- an object of a block has a local of its type
pub record ObjectMeans (s : Setting) (names : FunctionNames) (of : BodyNames) (number : ℕ) : Type 0 where
  pub one : CObject
  pub object_is : object_with number s.program.objects ≡ Some one
  pub laid : Laid
  pub laid_is : extent_in (setting_in s) one.type ≡ Some laid
  pub aligned : 0 < laid.align
  pub kept : Kept
  pub kept_is : names.objects number ≡ Some kept
  pub name : List ℕ
  pub place_is : kept.place ≡ Local name
  pub ty_is : kept.ty ≡ type_in of.names one.type

-- the local of zero bytes from which it becomes zero, as large as the object
pub record ZerosMean (s : Setting) (names : FunctionNames) (of : BodyNames) (number : ℕ) (laid : Laid) : Type 0 where
  pub zero : KeptTemporary
  pub zero_is : names.zeros number ≡ Some zero
  pub name_is : of.zeros number ≡ zero.name
  pub laid_is : laid_of s.modules zero.ty ≡ Some laid

-- it can become zero: it is a scalar, or there is such a local
pub record ZeroMeans (s : Setting) (names : FunctionNames) (of : BodyNames) (number : ℕ) : Type 0 where
  pub object : ObjectMeans s names of number
  pub type_is : of.type_of_object number ≡ object.one.type
  pub some : 0 < object.laid.size
  pub zeros : is_scalar (type_in of.names object.one.type) ≡ false → ZerosMean s names of number object.laid

-- a number is none of a list
abbrev pub NotAmong : ℕ → List ℕ → Type 0
NotAmong number [] = Unit {0}
NotAmong number (one ∷ others) = ((one == number) ≡ false) × NotAmong number others
