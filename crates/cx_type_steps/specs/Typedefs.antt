-- What a typedef name names.
use Rattle.std.specs.Prelude.{Option, Some}
use Rattle.cx_core.specs.Trees.{CTy}
use Rattle.cx_rules.specs.Scope.{CMeant, a_type_name}
use Rattle.cx_rules.specs.Types.{int_type}

-- the type, and `int` of what is no typedef name
abbrev pub named_type : Option CMeant → CTy
named_type (Some (a_type_name type)) = type
named_type _ = int_type
