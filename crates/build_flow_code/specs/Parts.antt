-- What the parts of a body are written as, for the types that their objects have.
use Rattle.std.specs.Prelude.{false, ℕ, List, [], ◌∷◌, ◌++◌, if◌then◌else◌, Option, Some, None}
use Rattle.build_flow_nodes.specs.Parts.{BodyNames, cleared_where}
use Rattle.cx_core.specs.Trees.{CTy, ty, void, CExpr, CPuts}
use Rattle.lift.specs.Fits.{FieldsFit, PutsFit}
use Rattle.lift_exprs.specs.Lifted.{lifted_puts}
use Rattle.lift_exprs.specs.Names.{type_in}
use Rattle.lift_exprs.specs.Objects.{object_at, is_zeroed}
use Rattle.lift_exprs.specs.Written.{copied}
use Rattle.lift_forms.specs.Given.{address_of}
use Rattle.lift_forms.specs.Operators.{zero_of}
use Rattle.rs_mean.specs.Scalars.{is_scalar}
use Rattle.rs_text.specs.Tree.{Ty, Local, AddressOf, Stmt, Assign}

abbrev pub void_type : CTy
void_type = ty void false

abbrev pub cleared_scalar : BodyNames → CTy → Ty → ℕ → List Stmt
cleared_scalar of type here number = Assign (object_at of.names type number) (zero_of here) ∷ []

abbrev pub cleared_bytes : BodyNames → CTy → ℕ → List Stmt
cleared_bytes of type number = copied (AddressOf (Local (of.zeros number))) (address_of (object_at of.names type number)) (of.names.size_of type) ∷ []

-- an object of a type becomes zero
abbrev pub cleared_as : BodyNames → CTy → ℕ → List Stmt
cleared_as of type number = if is_scalar (type_in of.names type) then cleared_scalar of type (type_in of.names type) number else cleared_bytes of type number

-- a declaration of an object of a type is reached
abbrev pub declared_as : BodyNames → CTy → ℕ → CPuts → (next : ℕ) → List Stmt
declared_as of type number puts next =
    cleared_where (is_zeroed of.names type puts) of number ++ (lifted_puts of.names type (object_at of.names type number) puts next).body

abbrev pub OptionFits : Option CExpr → Type 0
OptionFits None = Unit {0}
OptionFits (Some e) = FieldsFit e

abbrev pub ContentsFit : Option CPuts → Type 0
ContentsFit None = Unit {0}
ContentsFit (Some puts) = PutsFit puts
