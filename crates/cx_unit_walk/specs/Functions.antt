-- Bodies of functions.
use Rattle.std.specs.Prelude.{ℕ, List, false, None}
use Rattle.cx_core.specs.Trees.{CTy, CTyForm, function, form_of_type}
use Rattle.cx_rules.specs.Types.{int_type}
use Rattle.cx_rules.specs.UnitWalk.{CWhere}

-- the result of a function type; another form has none
abbrev pub given_by : CTyForm → CTy
given_by (function result params variadic) = result
given_by _ = int_type

abbrev pub result_in : CTy → CTy
result_in type = given_by (form_of_type type)

-- where the body of a function stands, with its result and its labels
abbrev pub in_function : CTy → List (List ℕ) → CWhere
in_function result labels = record { result = result; labels = labels; in_loop = false; in_switch = None }
