use Rattle.std.proofs.Common.{rules, ◌≡◌, sym, subst, map}
use Rattle.cx_access.specs.Views.{view_setting}
use Rattle.cx_core.specs.declared.expr.Form.TheFolds.{fold_out-CoreExpr, fold_out-Form}
use Rattle.cx_core.specs.declared.expr.Form.TheViews.{the_lemmas as expr_lemmas}
use Rattle.cx_core.specs.Trees.{expr, call_by}
use Rattle.cx_core.specs.Views.{exprs_of, view_expr, view_type}
use Rattle.cx_ready.specs.Steps.{Steps}
use Rattle.cx_mean.specs.Steps.{CStepped}
use Rattle.cx_mean.specs.Work.{operands_in}
use Rattle.cx_work.specs.Views.{view_work, view_works}
use Rattle.cx_ready.proofs.Pointed.{calls_by_pointer}
use Rattle.cx_ready.proofs.nodes.any_call_step.Goals as goal

pub returns-in-CallBy : goal.returns-in-CallBy
returns-in-CallBy c = λ frame blocks.
    let is : view_expr c.args.node.now
    ≡ expr (view_type c.args.node.now.ty) c.args.node.now.place (call_by (view_expr c.in-CallBy.field-0) (exprs_of (map view_expr c.in-CallBy.field-1))) =
    search (rules, c.in-CallBy.is, expr_lemmas, fold_out-CoreExpr, fold_out-Form) in
    subst (λ (found : CStepped). Steps c.call_by_step.result blocks blocks (view_work c.call_by_step.new.work) found)
    (sym (calls_by_pointer (view_setting c.args.setting.now) frame blocks (view_expr c.args.node.now) _ _ _ _ (operands_in (view_works c.args.operands)) is))
    (c.call_by_step.ensures blocks)
