use Rattle.std.proofs.Common.{◌≡◌, map, drop}
use Rattle.rs_text.specs.Tree.{tys}
use Rattle.rs_tree.specs.Views.{local_view, module_view}
use Rattle.rs_mean.specs.Typing.{params_stand}
use Rattle.rs_types.proofs.items.params_stand.Given as goal

-- what is left answers for all
abbrev pub invariant-loop-param : goal.invariant-loop-param
invariant-loop-param l = params_stand (map module_view l.modules) (tys (map (λ param. param.ty) (map local_view (drop l.param-index l.params)))) ≡ params_stand (map module_view l.modules) (tys (map (λ param. param.ty) (map local_view l.params)))
