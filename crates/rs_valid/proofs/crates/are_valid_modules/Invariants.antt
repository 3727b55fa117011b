use Rattle.std.proofs.Common.{◌≡◌, map, drop}
use Rattle.std.specs.List.{list_all}
use Rattle.rs_text.specs.Valid.{valid_items}
use Rattle.rs_tree.specs.Views.{module_view}
use Rattle.rs_valid.proofs.crates.are_valid_modules.Given as goal

-- what is left answers for all
abbrev pub invariant-loop-module : goal.invariant-loop-module
invariant-loop-module l = list_all (λ unit. valid_items unit.items) (map module_view (drop l.module-index l.modules)) ≡ list_all (λ unit. valid_items unit.items) (map module_view l.modules)
