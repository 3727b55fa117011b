use Rattle.std.proofs.Common.{◌≡◌, length, ap, sym, ◌∙◌, subst, map, option_map}
use Rattle.cx_context.specs.Checks.{Checks}
use Rattle.cx_context.specs.Views.{scope_of}
use Rattle.cx_core.specs.Views.{view_stmt}
use Rattle.cx_unit_walk.proofs.Opened.{for_view, if_view}
use Rattle.cx_unit_walk.proofs.Rests.{do_fine, for_whole, if_whole, switch_fine, while_fine}
use Rattle.cx_unit_walk.specs.Views.{view_tested}
use Rattle.cx_unit_walk.specs.Walks as walks
use Rattle.cx_rules.specs.Lines.{own_line}
use Rattle.cx_rules.specs.Readings.{fine}
use Rattle.cx_rules.specs.Scope.{entered}
use Rattle.cx_rules.specs.UnitWalk.{in_loop}
use Rattle.cx_stmt_steps.specs.Views.{view_site, view_stated}
use Rattle.cx_tree.specs.Trees.{For, If}
use Rattle.cx_tree.specs.Views.{expr_view, first_view, option_expr, option_stmt, stmt_view}
use Rattle.cx_unit_walk.proofs.statements.+walk.Goals as goal

pub while_form-returns : goal.while_form-returns
while_form-returns n c =
    subst (λ walked. Checks view_stated c.while_rest.result (scope_of c.while_rest.new.context) walked)
    (ap (λ line. walks.while_rest (view_site c.args.here) (view_tested c.in_ok-begun.begun) (stmt_view c.args.body.now) line (scope_of c.tested_begins.new.context)) c.own_line.ensures
    ∙ while_fine (view_site c.args.here) (expr_view c.args.condition.now) (stmt_view c.args.body.now) c.args.lines.now (scope_of c.args.context.now) (view_tested c.in_ok-begun.begun) (scope_of c.tested_begins.new.context) c.in_ok-begun.ensures)
    c.while_rest.ensures

pub switch_form-returns : goal.switch_form-returns
switch_form-returns n c =
    subst (λ walked. Checks view_stated c.switch_rest.result (scope_of c.switch_rest.new.context) walked)
    (ap (λ line. walks.switch_rest (view_site c.args.here) (view_tested c.in_ok-begun.begun) (stmt_view c.args.body.now) line (scope_of c.tested_begins.new.context)) c.own_line.ensures
    ∙ switch_fine (view_site c.args.here) (expr_view c.args.on.now) (stmt_view c.args.body.now) c.args.lines.now (scope_of c.args.context.now) (view_tested c.in_ok-begun.begun) (scope_of c.tested_begins.new.context) c.in_ok-begun.ensures)
    c.switch_rest.ensures

pub do_form-returns : goal.do_form-returns
do_form-returns n c =
    let walked : walks.scoped (walks.stmt_walk (in_loop (view_site c.args.here)) (stmt_view c.args.body.now)) (entered (scope_of c.args.context.now)) ≡ fine (view_stmt c.in_ok-one.one) (scope_of c.scoped.new.context) =
    ap (λ scope. walks.scoped (walks.stmt_walk (in_loop (view_site c.args.here)) (stmt_view c.args.body.now)) scope) (sym c.scope_begins-marks.ensures.scope)
    ∙ (ap (λ place. walks.scoped (walks.stmt_walk place (stmt_view c.args.body.now)) (scope_of c.scope_begins-marks.new.context)) (sym c.in_loop.ensures) ∙ c.in_ok-one.ensures) in
    subst (λ walked. Checks view_stated c.do_ends.result (scope_of c.do_ends.new.context) walked)
    (ap (λ count. walks.do_ends count c.scope_begins-marks.result.begins c.own_line.result (expr_view c.args.condition.now) (view_stmt c.in_ok-one.one) (scope_of c.scoped.new.context)) c.scope_begins-marks.ensures.count
    ∙ (ap (λ begins. walks.do_ends (length (scope_of c.args.context.now).declared) begins c.own_line.result (expr_view c.args.condition.now) (view_stmt c.in_ok-one.one) (scope_of c.scoped.new.context)) c.scope_begins-marks.ensures.begins
    ∙ (ap (λ line. walks.do_ends (length (scope_of c.args.context.now).declared) (scope_of c.args.context.now).begins line (expr_view c.args.condition.now) (view_stmt c.in_ok-one.one) (scope_of c.scoped.new.context)) c.own_line.ensures
    ∙ do_fine (view_site c.args.here) (stmt_view c.args.body.now) (expr_view c.args.condition.now) c.args.lines.now (scope_of c.args.context.now) (view_stmt c.in_ok-one.one) (scope_of c.scoped.new.context) walked)))
    c.do_ends.ensures

pub stmt-returns-in-If : goal.stmt-returns-in-If
stmt-returns-in-If n c =
    let whole : stmt_view c.args.one.now ≡ If (expr_view c.in-If.condition) (stmt_view c.in-If.branch) (option_stmt (option_map stmt_view c.in-If.otherwise)) c.in-If.lines =
    ap stmt_view c.in-If.is ∙ if_view c.in-If.condition c.in-If.branch c.in-If.otherwise c.in-If.lines in
    subst (λ walked. Checks view_stated c.if_form.result (scope_of c.if_form.new.context) walked)
    (ap (λ condition. walks.if_walk (view_site c.args.here) (expr_view condition) (stmt_view c.args.one.now) (scope_of c.args.context.now)) c.get-in-If.ensures
    ∙ (ap (λ tree. walks.if_walk (view_site c.args.here) (expr_view c.in-If.condition) tree (scope_of c.args.context.now)) whole
    ∙ (if_whole (view_site c.args.here) (expr_view c.in-If.condition) (stmt_view c.in-If.branch) (option_stmt (option_map stmt_view c.in-If.otherwise)) c.in-If.lines (scope_of c.args.context.now)
    ∙ ap (λ tree. walks.stmt_walk (view_site c.args.here) tree (scope_of c.args.context.now)) (sym whole))))
    c.if_form.ensures

pub stmt-returns-in-For : goal.stmt-returns-in-For
stmt-returns-in-For n c =
    let whole : stmt_view c.args.one.now ≡ For (first_view c.in-For.first) (option_expr (option_map expr_view c.in-For.second)) (option_expr (option_map expr_view c.in-For.third)) (stmt_view c.in-For.body) c.in-For.lines =
    ap stmt_view c.in-For.is ∙ for_view c.in-For.first c.in-For.second c.in-For.third c.in-For.body c.in-For.lines in
    subst (λ walked. Checks view_stated c.for_form.result (scope_of c.for_form.new.context) walked)
    (ap (λ body. walks.for_walk (view_site c.args.here) (first_view c.in-For.first) (option_expr (option_map expr_view c.in-For.second)) (option_expr (option_map expr_view c.in-For.third)) (stmt_view body) (own_line c.in-For.lines) (scope_of c.args.context.now)) c.get-in-For.ensures
    ∙ (for_whole (view_site c.args.here) (first_view c.in-For.first) (option_expr (option_map expr_view c.in-For.second)) (option_expr (option_map expr_view c.in-For.third)) (stmt_view c.in-For.body) c.in-For.lines (scope_of c.args.context.now)
    ∙ ap (λ tree. walks.stmt_walk (view_site c.args.here) tree (scope_of c.args.context.now)) (sym whole)))
    c.for_form.ensures
