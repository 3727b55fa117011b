-- What a cast asks of its operand, by parts. Named by the contracts of parts alone.
use Rattle.std.specs.Prelude.{Bool, not, ◌&&◌, ◌||◌}
use Rattle.cx_core.specs.Trees.{CTy, CTypes, unqualified}
use Rattle.cx_rules.specs.Types.{is_integer, is_pointer, is_function_pointer, is_object_pointer, same_type, truth_type}

-- a pointer becomes a number that isn't a truth value, or a number becomes a pointer that isn't null
abbrev pub crosses_numbers : CTypes → CTy → CTy → Bool → Bool
crosses_numbers types type from is_null =
    (is_pointer from && (is_integer types type && not (same_type (unqualified type) truth_type)))
    || (is_integer types from && (is_pointer type && not is_null))

-- a pointer to a function becomes one to an object, or the other way round
abbrev pub crosses_functions : CTy → CTy → Bool → Bool
crosses_functions type from is_null =
    not is_null && ((is_function_pointer type && is_object_pointer from) || (is_object_pointer type && is_function_pointer from))
