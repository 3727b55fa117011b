use Rattle.std.proofs.Common.{◌≡◌, map, drop}
use Rattle.rs_mean.specs.Lookups.{module_named}
use Rattle.rs_tree.specs.Views.{module_view}
use Rattle.rs_layout.proofs.lookup.module_named.Given as goal

-- the module stands among those that are left
abbrev pub invariant-loop-unit : goal.invariant-loop-unit
invariant-loop-unit l = module_named l.name (map module_view (drop l.unit-index l.modules)) ≡ module_named l.name (map module_view l.modules)
