use Rattle.std.proofs.Common.{◌≡◌, ◌++◌, map, drop}
use Rattle.straight_rust_tree.specs.View.{local_view}
use Rattle.straight_whole.specs.CrateOf.{local_of}
use Rattle.straight_whole.proofs.items.locals.Given as goal

abbrev pub invariant-loop-name : goal.invariant-loop-name
invariant-loop-name l = map local_view l.made ++ map local_of (drop l.name-index l.names) ≡ map local_of l.names
