use Rattle.std.proofs.Common.{◌≡◌, map, drop}
use Rattle.std.specs.List.{list_all}
use Rattle.rs_tree.specs.Views.{module_view, ty_view}
use Rattle.rs_mean.specs.Typing.{type_stands}
use Rattle.rs_types.proofs.known.params_stand.Given as goal

-- what is left answers for all
abbrev pub invariant-loop-param : goal.invariant-loop-param
invariant-loop-param l = list_all (type_stands (map module_view l.modules)) (map ty_view (drop l.param-index l.params)) ≡ list_all (type_stands (map module_view l.modules)) (map ty_view l.params)
