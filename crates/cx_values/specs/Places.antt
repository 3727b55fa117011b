-- The value of an lvalue, by whether it is an array.
use Rattle.std.specs.Prelude.{if◌then◌else◌}
use Rattle.cx_core.specs.Trees.{CExpr, expr, load, address, type_of, place_of}
use Rattle.cx_operands.specs.Views.{place_value_type}
use Rattle.cx_rules.specs.Types.{is_array}

-- the address of its first element, or what it holds (6.3.2.1p2, p3)
abbrev pub place_value : CExpr → CExpr
place_value core =
    if is_array (type_of core)
    then expr (place_value_type (type_of core)) (place_of core) (address core)
    else expr (place_value_type (type_of core)) (place_of core) (load core)
