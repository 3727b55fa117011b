use Rattle.std.proofs.Common.{◌≡◌, map, drop}
use Rattle.std.specs.List.{list_all}
use Rattle.rs_tree.specs.Views.{local_view, module_view}
use Rattle.rs_mean.specs.Typing.{type_stands}
use Rattle.rs_types.proofs.items.locals_stand.Given as goal

-- what is left answers for all
abbrev pub invariant-loop-local : goal.invariant-loop-local
invariant-loop-local l = list_all (λ local. type_stands (map module_view l.modules) local.ty) (map local_view (drop l.local-index l.locals)) ≡ list_all (λ local. type_stands (map module_view l.modules) local.ty) (map local_view l.locals)
