-- Calls that are dropped.
use Rattle.std.specs.Prelude.{Bool, false, Option, Some, None}
use Rattle.rs_text.specs.Tree.{Exprs}
use Rattle.rs_mean.specs.Lookups.{Signature}
use Rattle.rs_mean.specs.Typing.{Scope, args_fit}

-- arguments fit a function of these types, where there is one
abbrev pub fits_call : Scope → Option Signature → Exprs → Bool
fits_call scope None args = false
fits_call scope (Some types) args = args_fit scope types.params types.variadic args
