use Rattle.std.proofs.Common.{◌≡◌, ◌++◌, map, drop}
use Rattle.rs_scene.specs.Scenes.{held_static}
use Rattle.rs_mean.specs.Lookups.{statics_of}
use Rattle.rs_tree.specs.Views.{module_view}
use Rattle.rs_scene.proofs.scene.add_all_statics.Given as goal

-- what is listed, and then those of the modules that are left, are all
abbrev pub invariant-loop-unit : goal.invariant-loop-unit
invariant-loop-unit l = map held_static l.list ++ statics_of (map module_view (drop l.unit-index l.modules))
    ≡ map held_static l.fn.list ++ statics_of (map module_view l.modules)
