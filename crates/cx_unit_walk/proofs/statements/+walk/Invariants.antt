use Rattle.std.proofs.Common.{◌≡◌, map, drop}
use Rattle.cx_context.specs.Views.{scope_of}
use Rattle.cx_unit_walk.specs.Loops.{meant_done}
use Rattle.cx_unit_walk.specs.Walks as walks
use Rattle.cx_decl_steps.specs.Views.{view_meant}
use Rattle.cx_stmt_steps.specs.Views.{view_site}
use Rattle.cx_tree.specs.Views.{item_view, items as item_trees}
use Rattle.cx_unit_walk.proofs.statements.+walk.Given as goal

-- the items that are left give the rest
abbrev pub invariant-items-loop-one : goal.invariant-items-loop-one
invariant-items-loop-one l =
    meant_done (view_meant l.all) (walks.items_walk (view_site l.here) (item_trees (map item_view (drop l.one-index l.list))) (scope_of l.context))
    ≡ walks.items_walk (view_site l.here) (item_trees (map item_view l.fn.list)) (scope_of l.fn.context)
