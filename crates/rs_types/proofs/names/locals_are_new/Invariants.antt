use Rattle.std.proofs.Common.{◌≡◌, map, drop}
use Rattle.rs_tree.specs.Views.{item_view, local_view}
use Rattle.rs_types.specs.Names.{are_new}
use Rattle.rs_types.proofs.names.locals_are_new.Given as goal

-- what is left answers for all
abbrev pub invariant-loop-local : goal.invariant-loop-local
invariant-loop-local l = are_new (map item_view l.items) (map local_view (drop l.local-index l.locals)) ≡ are_new (map item_view l.items) (map local_view l.locals)
