-- Function types and lists, open one step deep.
use Rattle.std.proofs.Common.{rules, ◌≡◌, refl, ap, ◌∙◌, map, reverse}
use Rattle.std.specs.Prelude.{Bool, true, false, ◌||◌, List, [], ◌∷◌, ◌++◌, Some}
use Rattle.std.specs.List.{list_any}
use Rattle.std.proofs.lemmas.List.{reverse-append}
use Rattle.cx_core.specs.declared.ty.FunctionTy.{FunctionTy, fold_out-FunctionTy}
use Rattle.cx_core.specs.Trees.{CTy, CTypes, function}
use Rattle.cx_core.specs.Views.{types_of, view_function_type, view_params, view_type}
use Rattle.cx_rules.specs.Rules.{any_incomplete}
use Rattle.cx_rules.specs.Shapes.{CStep, last_step}
use Rattle.cx_rules.specs.Types.{is_incomplete}

pub function_view : (f : FunctionTy) → view_function_type f ≡ function (view_type f.result_ty) (view_params f.params) f.is_variadic
function_view f = search (rules, fold_out-FunctionTy)

pub or_false : (a : Bool) → (a || false) ≡ a
or_false true = refl
or_false false = refl

pub incomplete_by_list : (types : CTypes) (params : List CTy) → any_incomplete types (types_of params) ≡ list_any (is_incomplete types) params
incomplete_by_list types [] = refl
incomplete_by_list types (param ∷ params) = ap (λ b. is_incomplete types param || b) (incomplete_by_list types params)

last_behind : (steps : List CStep) (step : CStep) → last_step (steps ++ step ∷ []) ≡ Some step
last_behind [] step = refl
last_behind (one ∷ []) step = refl
last_behind (one ∷ next ∷ steps) step = last_behind (next ∷ steps) step

-- the first of a list that is held the other way round
pub first_is_last : {X : Type 0} (view : X → CStep) (all others : List X) (first : X) → all ≡ first ∷ others → last_step (reverse (map view all)) ≡ Some (view first)
first_is_last view all others first is =
    ap (λ xs. last_step (reverse (map view xs))) is ∙ (ap last_step (reverse-append (view first ∷ []) (map view others)) ∙ last_behind (reverse (map view others)) (view first))
