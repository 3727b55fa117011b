-- Parts of objects, and the puts of what is stored in them. Named by the contracts of parts alone.
use Rattle.std.specs.Prelude.{ℕ, ◌+◌, ◌*◌, max, nat_lt, Bool, false, if◌then◌else◌, List, [], ◌∷◌, Option, None, Some, option_map}
use Rattle.cx_core.specs.Trees.{CTy, ty, array, CTypes, CPut, put}
use Rattle.cx_core.specs.ValidTypes.{CPart, part_at}
use Rattle.cx_core.specs.Views.{view_type}
use Rattle.cx_init.specs.declared.puts.Part.{Part}
use Rattle.cx_rules.specs.Initial.{CStored}
use Rattle.cx_rules.specs.Types.{size_of}

abbrev pub view_part : Part → CPart
view_part part = record { spot = part.spot; type = view_type part.ty.now }

-- a part of a type that begins with a byte
abbrev pub part_from : CTy → ℕ → CPart
part_from type byte = record { spot = record { byte = byte; bit = 0; width = 0 }; type = type }

-- an array of known length has an element with a number
abbrev pub has_index : Option ℕ → ℕ → Bool
has_index None index = false
has_index (Some length) index = nat_lt index length

-- the element of an array with a number
abbrev pub element_part : CTypes → CTy → Option ℕ → ℕ → Option CPart
element_part types element length index =
    if has_index length index then option_map (λ size. part_from element (index * size)) (size_of types element) else None

abbrev pub put_of : CStored → Option CPart → Option CPut
put_of one None = None
put_of one (Some part) = Some (put part.spot part.type one.value)

abbrev pub put_before : Option CPut → List CPut → List CPut
put_before None others = others
put_before (Some one) others = one ∷ others

abbrev pub puts_listed : CTypes → CTy → List CStored → List CPut
puts_listed types type [] = []
puts_listed types type (one ∷ others) = put_before (put_of one (part_at types one.path type)) (puts_listed types type others)

-- an array without length gets this one
abbrev pub completed_by : ℕ → CTy → CTy
completed_by least (ty (array element None) is_const) = ty (array element (Some least)) is_const
completed_by least type = type

-- the least length of an array behind one more value
abbrev pub after_one : List ℕ → ℕ → ℕ
after_one [] least = least
after_one (index ∷ path) least = max (index + 1) least

-- that of an array in which so many elements are needed already
abbrev pub least_from : ℕ → List CStored → ℕ
least_from least [] = least
least_from least (one ∷ others) = least_from (after_one one.path least) others
