-- Arguments one behind the other.
use Rattle.std.proofs.Common.{◌≡◌, ℕ, suc, List, [], ◌∷◌, ◌==◌, map, length, refl, ap, ◌∙◌}
use Rattle.std.proofs.lemmas.List.{length-map}
use Rattle.std.specs.List.{slice_get}
use Rattle.lift_call_forms.specs.Passed.{passed_as, passed_from}
use Rattle.lift_call_forms.specs.Views.{argument_view}
use Rattle.lift_call_forms.specs.declared.arguments.Argument.{Argument as MadeArgument}
use Rattle.lift_exprs.specs.Calls.{Argument, as_params, are_enough, count_of}
use Rattle.lift_forms.specs.Operators.{as_type}
use Rattle.rs_text.specs.Tree.{Ty, tys}
use Rattle.rs_tree.specs.Views.{ty_view}
use Rattle.rs_tree.specs.declared.ty.RTy.{RTy}

-- behind the first parameter
pub later : (param : Ty) (params : List Ty) (at : ℕ) (args : List Argument) → passed_from (param ∷ params) (suc at) args ≡ passed_from params at args
later param params at [] = refl
later param params at (one ∷ others) = ap (λ rest. passed_as (slice_get params at) one ∷ rest) (later param params (suc at) others)

-- without parameters
pub none_left : (at : ℕ) (args : List Argument) → passed_from [] at args ≡ map (λ (one : Argument). one.passed) args
none_left at [] = refl
none_left at (one ∷ others) = ap (λ rest. one.passed ∷ rest) (none_left (suc at) others)

-- parameters as a list
pub as_list : (params : List Ty) (args : List Argument) → passed_from params 0 args ≡ as_params (tys params) args
as_list [] args = none_left 0 args
as_list (param ∷ params) [] = refl
as_list (param ∷ params) (one ∷ others) =
    ap (λ rest. as_type one.ty param one.passed ∷ rest) (later param params 0 others ∙ as_list params others)

pub counted : (params : List Ty) → count_of (tys params) ≡ length params
counted [] = refl
counted (param ∷ params) = ap suc (counted params)

pub enough : (params : List RTy) (args : List MadeArgument) → are_enough (tys (map ty_view params)) (map argument_view args) ≡ (length params == length args)
enough params args =
    ap (λ n. n == length (map argument_view args)) (counted (map ty_view params) ∙ length-map params ty_view)
    ∙ ap (λ n. length params == n) (length-map args argument_view)
