use Rattle.std.proofs.Common.{sym, subst}
use Rattle.cx_check.proofs.Told.{told}
use Rattle.cx_context.specs.Checks.{Checks}
use Rattle.cx_context.specs.Views.{scope_of}
use Rattle.cx_operands.specs.Views.{view_operand}
use Rattle.cx_rules.specs.Units.{check_expr, seen_expr}
use Rattle.cx_scope.specs.Views.{view_scope}
use Rattle.cx_tree.specs.Views.{expr_view}
use Rattle.cx_check.proofs.calls.expr_walked.Goals as goal

pub returns-clause-tells : goal.returns-clause-tells
returns-clause-tells c =
    told view_operand c.expr-found.result (view_scope c.put_back.new.scope) (seen_expr (expr_view c.args.e.now) (view_scope c.args.scope.now)) (check_expr (expr_view c.args.e.now) (view_scope c.args.scope.now))
    (c.expressions_stop.ensures (expr_view c.args.e.now) (view_scope c.args.scope.now))
    (subst (λ after. Checks view_operand c.expr-found.result after (check_expr (expr_view c.args.e.now) (view_scope c.args.scope.now))) (sym c.put_back.ensures.scope)
    (subst (λ before. Checks view_operand c.expr-found.result (scope_of c.expr-found.new.context) (check_expr (expr_view c.args.e.now) before)) c.take-context.ensures c.expr-found.ensures))
