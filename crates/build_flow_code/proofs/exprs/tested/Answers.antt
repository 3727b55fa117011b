use Rattle.std.proofs.Common.{◌≡◌, ◌∙◌, ap, sym, subst, IfOk}
use Rattle.build_flow_code.proofs.Opened.{type_of_view}
use Rattle.build_flow_code.proofs.exprs.tested.Goals as goal
use Rattle.cx_core.specs.Trees.{CTy}
use Rattle.lift_exprs.specs.Names.{type_in}
use Rattle.lift_stores.specs.Names.{lift_names}
use Rattle.rs_items.specs.Known.{view_names}
use Rattle.lift_forms.specs.Operators.{test_of}
use Rattle.lift_forms_code.specs.Views.{given_view}
use Rattle.rs_text.specs.Tree.{Ty, Expr}
use Rattle.rs_tree.specs.Views.{ty_view, expr_view}

-- src/exprs.rt:90:1
pub returns : goal.returns
returns c =
    subst (λ (e : Expr). IfOk c.test_of.result (λ made. expr_view made ≡ e))
    (ap (λ (ty : Ty). test_of (record { ty = ty; given = given_view c.args.given })) (ap ty_view c.get.ensures ∙ c.in_ok-ty.ensures ∙ ap (λ (type : CTy). type_in (lift_names (view_names c.args.names.now)) type) (sym (type_of_view c.args.e.now)))) c.test_of.ensures
