use Rattle.std.proofs.Common.{◌≡◌, map, drop}
use Rattle.std.specs.List.{list_all}
use Rattle.rs_tree.specs.Views.{ty_view}
use Rattle.rs_mean.specs.Typing.{is_opaque_param}
use Rattle.rs_types.proofs.known.are_opaque_params.Given as goal

-- what is left answers for all
abbrev pub invariant-loop-param : goal.invariant-loop-param
invariant-loop-param l = list_all is_opaque_param (map ty_view (drop l.param-index l.params)) ≡ list_all is_opaque_param (map ty_view l.params)
