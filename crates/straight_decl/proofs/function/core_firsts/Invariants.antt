use Rattle.std.proofs.Common.{◌≡◌, ◌++◌, map, drop, option_map}
use Rattle.straight_core.specs.Views.{view_stmt}
use Rattle.straight_tree.specs.Views.{item_view}
use Rattle.straight_decl.specs.CoreOf as spec
use Rattle.straight_decl.specs.Given.{scope_of}
use Rattle.straight_decl.proofs.function.core_firsts.Given as goal

-- the statements so far, and those of what is left
abbrev pub invariant-loop-item : goal.invariant-loop-item
invariant-loop-item l =
    option_map (λ more. map view_stmt l.stmts ++ more) (spec.core_firsts l.unit (scope_of l.scope) (map item_view (drop l.item-index l.items)))
    ≡ spec.core_firsts l.unit (scope_of l.scope) (map item_view l.items)
