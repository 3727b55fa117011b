-- What an initialiser by itself is for.
use Rattle.std.specs.Prelude.{Bool, not, ◌&&◌, ◌||◌, if◌then◌else◌, None, Some}
use Rattle.cx_core.specs.Trees.{CTy, CTypes}
use Rattle.cx_rules.specs.Pieces.{CTarget, whole_target}
use Rattle.cx_rules.specs.Types.{is_array, is_function, has_size}

-- an object has an initialiser where its type is complete, or an array type (6.7.8p3)
abbrev pub may_have_initialiser : CTypes → CTy → Bool
may_have_initialiser types type = not (is_function type) && (has_size types type || is_array type)

-- an object of a type, which is initialised before the program begins or not
abbrev pub declared_target : CTypes → Bool → CTy → CTarget
declared_target types is_static type = whole_target is_static (if may_have_initialiser types type then Some type else None)
