use Rattle.std.proofs.Common.{◌≡◌, map, drop}
use Rattle.rs_scene.specs.Scenes.{held_local}
use Rattle.rs_mean.specs.Lookups.{local_home}
use Rattle.rs_scene.proofs.lookup.local_home.Given as goal

-- the local stands among those that are left
abbrev pub invariant-loop-one : goal.invariant-loop-one
invariant-loop-one l = local_home l.name (map held_local (drop l.one-index l.locals)) ≡ local_home l.name (map held_local l.locals)
