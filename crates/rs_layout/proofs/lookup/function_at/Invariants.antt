use Rattle.std.proofs.Common.{◌≡◌, map, drop}
use Rattle.rs_tree.specs.Views.{module_view}
use Rattle.rs_layout.specs.Found.{function_at}
use Rattle.rs_layout.proofs.lookup.function_at.Given as goal

-- the function stands in the modules that are left
abbrev pub invariant-loop-unit : goal.invariant-loop-unit
invariant-loop-unit l = function_at l.path.home l.path.name (map module_view (drop l.unit-index l.modules)) ≡ function_at l.path.home l.path.name (map module_view l.modules)
