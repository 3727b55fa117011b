use Rattle.std.proofs.Common.{◌≡◌, ◌++◌, map, drop}
use Rattle.rs_scene.specs.Scenes.{held_function}
use Rattle.rs_mean.specs.Lookups.{functions_of}
use Rattle.rs_tree.specs.Views.{module_view}
use Rattle.rs_scene.proofs.scene.add_all_functions.Given as goal

-- what is listed, and then those of the modules that are left, are all
abbrev pub invariant-loop-unit : goal.invariant-loop-unit
invariant-loop-unit l = map held_function l.list ++ functions_of (map module_view (drop l.unit-index l.modules))
    ≡ map held_function l.fn.list ++ functions_of (map module_view l.modules)
