use Rattle.std.proofs.Common.{◌≡◌, ◌++◌, map, drop}
use Rattle.rs_tree.specs.Views.{ty_view}
use Rattle.rs_makers.proofs.types.+copy.Given as goal

abbrev pub invariant-copy_tys-loop-one : goal.invariant-copy_tys-loop-one
invariant-copy_tys-loop-one l = map ty_view l.made ++ map ty_view (drop l.one-index l.types) ≡ map ty_view l.types
