-- Which function pointer of the meaning one of src/ is, and what calls give back.
use Rattle.std.specs.Prelude.{◌≡◌, Bool, true, false, ◌&&◌, List, [], ◌∷◌, map, option_map, Option, Some, None}
use Rattle.std.specs.Option.{option_copied}
use Rattle.rs_mean.specs.Run as run
use Rattle.rs_mean.specs.Scalars.{alike}
use Rattle.rs_text.specs.Tree.{Ty, Record, Tys, no_tys, more_tys, OptionTy, no_ty, some_ty, tys, option_ty}
use Rattle.rs_tree.specs.declared.ty.RPath.{RPath}
use Rattle.rs_tree.specs.Views.{function_view, ty_view}
use Rattle.rs_scene.specs.declared.values.Pointed.{Pointed}

abbrev pub pointed_view : Pointed → run.Pointed
pointed_view one = record {
  params = tys (map ty_view one.params.now);
  result = option_ty (option_map ty_view (option_copied one.given));
  fun = option_map function_view (option_copied one.fun);
}

-- the path of a record type; other types have none
abbrev pub IsRecordOf : Option RPath → Ty → Type 0
IsRecordOf (Some path) ty = ty ≡ Record path.home path.name
IsRecordOf None (Record m x) = ⊥
IsRecordOf None _ = Unit {0}

-- types of parameters and of results that pass as others
abbrev pub params_alike : List Ty → Tys → Bool
params_alike [] no_tys = true
params_alike (one ∷ others) (more_tys first rest) = alike one first && params_alike others rest
params_alike [] (more_tys first rest) = false
params_alike (one ∷ others) no_tys = false

abbrev pub results_alike : Option Ty → OptionTy → Bool
results_alike None no_ty = true
results_alike (Some one) (some_ty other) = alike one other
results_alike None (some_ty other) = false
results_alike (Some one) no_ty = false

abbrev pub are_alike : List Ty → Tys → Option Ty → OptionTy → Bool
are_alike params types result other = params_alike params types && results_alike result other
