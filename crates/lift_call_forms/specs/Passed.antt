-- Arguments, each in the type of the parameter at its index.
use Rattle.std.specs.Prelude.{ℕ, suc, List, [], ◌∷◌, Option, Some, None}
use Rattle.std.specs.List.{slice_get}
use Rattle.lift_exprs.specs.Calls.{Argument}
use Rattle.lift_forms.specs.Operators.{as_type}
use Rattle.rs_text.specs.Tree.{Ty, Expr}

abbrev pub passed_as : Option Ty → Argument → Expr
passed_as None one = one.passed
passed_as (Some param) one = as_type one.ty param one.passed

-- arguments, from an index on
abbrev pub passed_from : List Ty → ℕ → List Argument → List Expr
passed_from params at [] = []
passed_from params at (one ∷ others) = passed_as (slice_get params at) one ∷ passed_from params (suc at) others
