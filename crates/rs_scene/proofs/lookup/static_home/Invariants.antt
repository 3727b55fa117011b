use Rattle.std.proofs.Common.{◌≡◌, map, drop}
use Rattle.rs_scene.specs.Scenes.{held_static}
use Rattle.rs_mean.specs.Lookups.{static_from}
use Rattle.rs_scene.proofs.lookup.static_home.Given as goal

-- the object stands among those that are left
abbrev pub invariant-loop-index : goal.invariant-loop-index
invariant-loop-index l = static_from l.index l.path.home l.path.name (map held_static (drop l.index l.statics)) ≡ static_from 0 l.path.home l.path.name (map held_static l.statics)
