use Rattle.std.proofs.Common.{◌≡◌, map, drop}
use Rattle.rs_mean.specs.Typing.{params_stand}
use Rattle.rs_text.specs.Tree.{tys}
use Rattle.rs_tree.specs.Views.{ty_view, module_view}
use Rattle.rs_kinds.proofs.stands.+stands.Given as goal

-- all stand just where those that are left do
abbrev pub invariant-params_stand-loop-param : goal.invariant-params_stand-loop-param
invariant-params_stand-loop-param l =
    params_stand (map module_view l.modules) (tys (map ty_view (drop l.param-index l.params))) ≡ params_stand (map module_view l.modules) (tys (map ty_view l.params))
