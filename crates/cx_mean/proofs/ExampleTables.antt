-- The table of the functions whose meaning is known has the names and the types of those that a typed program may call, in the
-- same order.
use Rattle.std.proofs.Common.{◌≡◌, List, [], ◌∷◌, map, refl}
use Rattle.cr_world.specs.Known.{KnownFunction, KnownType, no_value, int_value, size_value, to_bytes, to_const_bytes, known_table}
use Rattle.cx_core.specs.declared.ty.Basic.TheVariants.{Int, UnsignedLong}
use Rattle.cx_core.specs.Externals.{CKnown, known_functions}
use Rattle.cx_core.specs.Trees.{CTy, ty, void, basic, pointer}
use Rattle.std.proofs.Common.{true, false}

type_of : KnownType → CTy
type_of no_value = ty void false
type_of int_value = ty (basic Int) false
type_of size_value = ty (basic UnsignedLong) false
type_of to_bytes = ty (pointer (ty void false)) false
type_of to_const_bytes = ty (pointer (ty void true)) false

types_of : List KnownType → List CTy
types_of [] = []
types_of (first ∷ others) = type_of first ∷ types_of others

typed : KnownFunction → CKnown
typed one = record { name = one.name; signature = record { result = type_of one.result; params = types_of one.params } }

tables_agree : map typed known_table ≡ known_functions
unfolding known_table known_functions typed type_of types_of
tables_agree = refl
