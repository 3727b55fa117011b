use Rattle.std.proofs.Common.{◌≡◌, map, drop}
use Rattle.rs_tree.specs.Views.{ty_view}
use Rattle.rs_mean.specs.Typing.{are_known_types}
use Rattle.rs_types.specs.KnownTypes.{params_view}
use Rattle.rs_types.proofs.known.are_known_types.Given as goal

-- what is left answers for all
abbrev pub invariant-loop-one : goal.invariant-loop-one
invariant-loop-one l = are_known_types (params_view (drop l.one-index l.known)) (map ty_view l.rest) ≡ are_known_types (params_view l.known) (map ty_view l.params)
