use Rattle.std.proofs.Common.{◌≡◌, map, drop}
use Rattle.rs_mean.specs.Lookups.{local_type}
use Rattle.rs_tree.specs.Views.{local_view}
use Rattle.rs_layout.proofs.lookup.local_named.Given as goal

-- the local stands among those that are left
abbrev pub invariant-loop-local : goal.invariant-loop-local
invariant-loop-local l = local_type l.name (map local_view (drop l.local-index l.locals)) ≡ local_type l.name (map local_view l.locals)
