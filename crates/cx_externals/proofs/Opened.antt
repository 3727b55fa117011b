-- What a parameter list stands for, open one node deep.
use Rattle.std.proofs.Common.{rules, ◌≡◌, List, map}
use Rattle.cx_core.specs.declared.ty.Params as params
use Rattle.cx_core.specs.declared.ty.Params.TheFolds.{fold_out-Params}
use Rattle.cx_core.specs.declared.ty.Params.TheViews.{the_lemmas}
use Rattle.cx_core.specs.declared.ty.Ty.{Ty}
use Rattle.cx_core.specs.Trees.{listed}
use Rattle.cx_core.specs.Views.{types_of, view_params, view_type}

pub params_view : (types : List Ty) → view_params (params.Listed types) ≡ listed (types_of (map view_type types))
params_view types = search (rules, the_lemmas, fold_out-Params)
