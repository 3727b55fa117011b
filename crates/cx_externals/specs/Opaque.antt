-- The results and parameters of opaque functions. Named by the contracts of parts alone.
use Rattle.std.specs.Prelude.{Bool, ◌||◌}
use Rattle.cx_core.specs.Externals.{const_text}
use Rattle.cx_core.specs.Trees.{CTy, CTypes, form_of_type}
use Rattle.cx_externals.specs.Functions.{is_void_form}
use Rattle.cx_rules.specs.Types.{is_integer, same_form}

abbrev pub is_opaque_result : CTypes → CTy → Bool
is_opaque_result types type = is_void_form (form_of_type type) || is_integer types type

abbrev pub is_opaque_param : CTypes → CTy → Bool
is_opaque_param types type = same_form (form_of_type type) const_text || is_integer types type
