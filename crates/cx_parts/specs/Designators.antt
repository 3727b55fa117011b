-- Indexes of arrays in designators. Named by the contracts of parts alone.
use Rattle.std.specs.Prelude.{ℕ, nat_lt, ℤ, pos, negsuc, if◌then◌else◌, Option, None, Some}
use Rattle.cx_core.specs.Trees.{CTy, ty, array, CTypes}
use Rattle.cx_rules.specs.Initial.{most_elements}
use Rattle.cx_rules.specs.Types.{size_of}

-- an array has this many elements, or may have them where its length isn't known
abbrev pub bound_of : CTypes → CTy → Option ℕ → ℕ
bound_of types element None = most_elements (size_of types element)
bound_of types element (Some length) = length

abbrev pub below : ℕ → ℤ → Option ℕ
below bound (pos index) = if nat_lt index bound then Some index else None
below bound (negsuc n) = None

-- the index of an array of which it has an element
abbrev pub index_below : CTypes → CTy → ℤ → Option ℕ
index_below types (ty (array element length) is_const) index = below (bound_of types element length) index
index_below types (ty form is_const) index = None
