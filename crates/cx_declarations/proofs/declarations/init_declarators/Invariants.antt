use Rattle.std.proofs.Common.{◌≡◌, map, drop}
use Rattle.cx_context.specs.Views.{scope_of}
use Rattle.cx_decl_steps.specs.Views.{view_meant}
use Rattle.cx_declarations.specs.Loops.{behind}
use Rattle.cx_declarations.specs.Walks as walks
use Rattle.cx_shapes.specs.Views.{view_specs}
use Rattle.cx_tree.specs.Views.{init_declarator_view}
use Rattle.cx_declarations.proofs.declarations.init_declarators.Given as goal

-- what was declared, and what the declarators that are left declare
abbrev pub invariant-loop-one : goal.invariant-loop-one
invariant-loop-one l =
    behind (view_meant l.done) (walks.init_declarators_walk l.place (view_specs l.specs) l.missing (map init_declarator_view (drop l.one-index l.list)) (scope_of l.context))
    ≡ walks.init_declarators_walk l.place (view_specs l.specs) l.missing (map init_declarator_view l.list) (scope_of l.fn.context)
