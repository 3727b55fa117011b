use Rattle.std.proofs.Common.{◌≡◌, ap, sym, ◌∙◌, subst, map}
use Rattle.cx_context.specs.Checks.{Checks}
use Rattle.cx_context.specs.Views.{scope_of}
use Rattle.cx_unit_walk.proofs.Heads.{definition_fine}
use Rattle.cx_unit_walk.specs.Walks as walks
use Rattle.cx_decl_steps.specs.Views.{view_head}
use Rattle.cx_declarations.specs.Walks as declared
use Rattle.cx_rules.specs.Readings.{fine}
use Rattle.cx_tree.specs.Views.{declarator_view, definition_view, spec_view, specs as spec_trees, stmt_view}
use Rattle.cx_unit_walk.proofs.functions.definition.Goals as goal

pub returns : goal.returns
returns c =
    let begun : declared.definition_begins (spec_trees (map spec_view c.args.one.now.specs)) (declarator_view c.args.one.now.declarator) (scope_of c.args.context.now)
    ≡ fine (view_head c.in_ok-head.head) (scope_of c.definition_begins.new.context) =
    ap (λ list. declared.definition_begins (spec_trees (map spec_view list)) (declarator_view c.args.one.now.declarator) (scope_of c.args.context.now)) (sym c.as_slice.ensures)
    ∙ (ap (λ one. declared.definition_begins (spec_trees (map spec_view c.as_slice.result.now)) (declarator_view one) (scope_of c.args.context.now)) (sym c.get.ensures) ∙ c.in_ok-head.ensures) in
    subst (λ walked. Checks (λ (_ : Unit {0}). tt) c.definition_rest.result (scope_of c.definition_rest.new.context) walked)
    (ap (λ body. walks.definition_rest (stmt_view body) (view_head c.in_ok-head.head) (scope_of c.definition_begins.new.context)) c.get-2.ensures
    ∙ definition_fine (definition_view c.args.one.now) (scope_of c.args.context.now) (view_head c.in_ok-head.head) (scope_of c.definition_begins.new.context) begun)
    c.definition_rest.ensures
