-- How the code looks for `const` in a type: through arrays to the innermost element, and from record to record. Named by the
-- contracts of parts alone.
use Rattle.std.specs.Prelude.{ℕ, Bool, false, ◌||◌}
use Rattle.cx_core.specs.Trees.{CTy, ty, CTyForm, array, record_type}

-- the element of an array of arrays that is no array, or the type itself
abbrev pub innermost : CTy → CTy
innermost (ty (array element length) is_const) = innermost element
innermost (ty form is_const) = ty form is_const

-- an array on the way to it, or it itself, is `const`
abbrev pub const_on_way : CTy → Bool
const_on_way (ty (array element length) is_const) = is_const || const_on_way element
const_on_way (ty form is_const) = is_const

abbrev pub if_record : (ℕ → Bool) → CTyForm → Bool
if_record const_records (record_type number) = const_records number
if_record const_records _ = false
