-- The types of parameters, one by one.
use Rattle.std.proofs.Common.{◌≡◌, refl, ap, ◌∙◌, List, [], ◌∷◌, map}
use Rattle.cx_core.specs.Trees.{CTy, more_types}
use Rattle.cx_core.specs.Views.{view_type, types_of}
use Rattle.cx_rules.specs.Shapes.{param_types}
use Rattle.cx_scope.specs.Views.{view_param}
use Rattle.cx_scope.specs.declared.param.Param.{Param}

of_params : (params : List Param) → types_of (map (λ one. view_type one.ty) params) ≡ param_types (map view_param params)
of_params [] = refl
of_params (one ∷ params) = ap (more_types (view_type one.ty)) (of_params params)

pub types_of_params : (types : List CTy) (params : List Param) → types ≡ map (λ one. view_type one.ty) params → types_of types ≡ param_types (map view_param params)
types_of_params types params e = ap types_of e ∙ of_params params
