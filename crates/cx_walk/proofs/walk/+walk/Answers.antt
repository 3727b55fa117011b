use Rattle.std.proofs.Common.{ap, sym, ◌∙◌, subst, map, option_map}
use Rattle.cx_walk.proofs.Forms.{call_is, entry_fine, sizeof_is}
use Rattle.cx_walk.proofs.Opened.{call_view, init_view, sizeof_view}
use Rattle.cx_walk.specs.Walks as walks
use Rattle.cx_context.specs.Checks.{Checks}
use Rattle.cx_context.specs.Views.{scope_of}
use Rattle.cx_init.specs.Views.{view_filling, view_target}
use Rattle.cx_operands.specs.Views.{view_operand}
use Rattle.cx_parts.specs.Views.{view_at}
use Rattle.cx_rules.specs.Units.{check_expr}
use Rattle.cx_expr_steps.specs.Steps as steps
use Rattle.cx_tree.specs.Trees.{Call, SizeofExpr}
use Rattle.cx_tree.specs.Views.{entry_view, expr_view, exprs as expr_trees, initialiser_view}
use Rattle.cx_walk.proofs.walk.+walk.Goals as goal

pub call_form-returns-in_ok-given-in-Call : goal.call_form-returns-in_ok-given-in-Call
call_form-returns-in_ok-given-in-Call n c =
    subst (λ walked. Checks view_operand c.call_seen.result (scope_of c.call_seen.new.context) walked)
    (call_is (expr_view c.get-of.result.now) (expr_trees (map expr_view c.as_slice.result.now)) c.in-Call.lines (scope_of c.args.context.now)
    (scope_of c.expr.new.context) (scope_of c.exprs.new.context) (view_operand c.in_ok-callee-in-Call.callee) (map view_operand c.in_ok-given-in-Call.given)
    c.mention_count-mentioned.result c.in_ok-callee-in-Call.ensures c.in_ok-given-in-Call.ensures c.mention_count-mentioned.ensures
    ∙ (ap (λ of. check_expr (Call (expr_view of) (expr_trees (map expr_view c.as_slice.result.now)) c.in-Call.lines) (scope_of c.args.context.now)) c.get-of.ensures
    ∙ (ap (λ args. check_expr (Call (expr_view c.in-Call.of) (expr_trees (map expr_view args)) c.in-Call.lines) (scope_of c.args.context.now)) c.as_slice.ensures
    ∙ (ap (λ tree. check_expr tree (scope_of c.args.context.now)) (sym (call_view c.in-Call.of c.in-Call.args c.in-Call.lines))
    ∙ ap (λ e. check_expr (expr_view e) (scope_of c.args.context.now)) (sym c.in-Call.is)))))
    c.call_seen.ensures

pub sizeof_form-returns-in_ok-one-in-SizeofExpr : goal.sizeof_form-returns-in_ok-one-in-SizeofExpr
sizeof_form-returns-in_ok-one-in-SizeofExpr n c =
    subst (λ walked. Checks view_operand c.sizeof_seen.result (scope_of c.sizeof_seen.new.context) walked)
    (ap (λ line. steps.sized line c.literal_count-literals.result c.mention_count-mentions.result (view_operand c.in_ok-one-in-SizeofExpr.one) (scope_of c.expr.new.context)) c.own_line.ensures
    ∙ (sizeof_is (expr_view c.get-on.result.now) c.in-SizeofExpr.lines (scope_of c.args.context.now) (scope_of c.expr.new.context) (view_operand c.in_ok-one-in-SizeofExpr.one)
    c.literal_count-literals.result c.mention_count-mentions.result c.in_ok-one-in-SizeofExpr.ensures
    (c.expressions_keep.ensures (expr_view c.get-on.result.now) (scope_of c.args.context.now) (view_operand c.in_ok-one-in-SizeofExpr.one) (scope_of c.expr.new.context) c.in_ok-one-in-SizeofExpr.ensures)
    c.literal_count-literals.ensures c.mention_count-mentions.ensures
    ∙ (ap (λ on. check_expr (SizeofExpr (expr_view on) c.in-SizeofExpr.lines) (scope_of c.args.context.now)) c.get-on.ensures
    ∙ (ap (λ tree. check_expr tree (scope_of c.args.context.now)) (sym (sizeof_view c.in-SizeofExpr.on c.in-SizeofExpr.lines))
    ∙ ap (λ e. check_expr (expr_view e) (scope_of c.args.context.now)) (sym c.in-SizeofExpr.is)))))
    c.sizeof_seen.ensures

pub entry_given-returns : goal.entry_given-returns
entry_given-returns n c =
    subst (λ walked. Checks (λ _. view_filling c.given.new.filling) c.given.result (scope_of c.given.new.context) walked)
    (ap (λ init. walks.given_walk (view_target c.args.target.now) (option_map view_at c.in_ok-at.at) (view_filling c.args.filling.now) init (scope_of c.entry_at.new.context))
    (ap initialiser_view c.get.ensures ∙ sym (init_view c.args.one.now))
    ∙ entry_fine (view_target c.args.target.now) (view_filling c.args.filling.now) (entry_view c.args.one.now) (scope_of c.args.context.now)
    (option_map view_at c.in_ok-at.at) (scope_of c.entry_at.new.context) c.in_ok-at.ensures)
    c.given.ensures
