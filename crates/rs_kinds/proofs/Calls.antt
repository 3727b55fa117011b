-- Calls that are dropped.
use Rattle.std.proofs.Common.{◌≡◌, refl, Bool, true, false, if◌then◌else◌, Option, Some, None, is_some, option_and_then}
use Rattle.rs_text.specs.Tree.{Exprs}
use Rattle.rs_mean.specs.Lookups.{Signature}
use Rattle.rs_mean.specs.Typing.{Scope, args_fit}
use Rattle.rs_kinds.specs.Calls.{fits_call}

some_if : (test : Bool) (types : Signature) → is_some (if test then Some types else None) ≡ test
some_if true types = refl
some_if false types = refl

pub fits_by : (scope : Scope) (found : Option Signature) (args : Exprs) →
    is_some (option_and_then (λ types. if args_fit scope types.params types.variadic args then Some types else None) found) ≡ fits_call scope found args
fits_by scope None args = refl
fits_by scope (Some types) args = some_if (args_fit scope types.params types.variadic args) types
