-- What a parameter is, with a number for its object.
use Rattle.std.specs.Prelude.{ℕ, if◌then◌else◌, List, Option, None, Some}
use Rattle.cx_core.specs.Trees.{CTy}
use Rattle.cx_lex.specs.declared.token.Keyword.TheVariants as keyword
use Rattle.cx_rules.specs.Shapes.{CSpecs, CParam, has_storage, adjusted}
use Rattle.cx_rules.specs.Types.{is_void}

-- none is `void` (6.7.5.3p10)
abbrev pub param_at : (number : ℕ) → CSpecs → Option (List ℕ) → CTy → Option CParam
param_at number specs name type =
    if is_void type then None
    else Some (record { name = name; object = number; type = adjusted type; is_register = has_storage keyword.Register specs })
