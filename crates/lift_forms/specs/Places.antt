-- The places of C's lvalues as Rust writes them (ISO C99, 6.3.2.1, 6.5.2.3 and 6.5.3.2; the Rust Reference, "Place expressions and value expressions").
use Rattle.std.specs.Prelude.{if◌then◌else◌, ℕ, List}
use Rattle.rs_mean.specs.Scalars.{same_type}
use Rattle.rs_text.specs.Tree.{Ty, Pointer, Place, Field, Cast}
use Rattle.lift_forms.specs.Given.{Given, value, address_of, pointed}
use Rattle.lift_forms.specs.Operators.{cast_to}

-- where an object is kept, and the Rust type with which it is declared there
pub record Kept : Type 0 where
  pub place : Place
  pub ty : Ty

-- an object by its name; where it is kept with another type than it has here, by its address
abbrev pub object_place : Kept → Ty → Place
object_place kept ty = if same_type kept.ty ty then kept.place else pointed (Cast (address_of kept.place) (Pointer ty))

-- the field of a place
abbrev pub member_place : Place → List ℕ → Place
member_place p f = Field p f

-- the address of a place of a type, as a pointer to another: of an array that of its first element
abbrev pub address_form : (ty target : Ty) → Place → Given
address_form ty target p = value (cast_to (Pointer ty) (Pointer target) (address_of p))
