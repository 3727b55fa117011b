use Rattle.std.proofs.Common.{◌≡◌, map, drop}
use Rattle.rs_scene.specs.Scenes.{held_function}
use Rattle.rs_mean.specs.Lookups.{number_from}
use Rattle.rs_scene.proofs.lookup.function_number.Given as goal

-- the function stands among those that are left
abbrev pub invariant-loop-index : goal.invariant-loop-index
invariant-loop-index l = number_from l.index l.path.home l.path.name (map held_function (drop l.index l.functions)) ≡ number_from 0 l.path.home l.path.name (map held_function l.functions)
