use Rattle.std.proofs.Common.{rules, ◌≡◌, IfOk, subst, sym, ap, ◌∙◌}
use Rattle.cx_core.specs.Trees.{CExpr, expr, member}
use Rattle.cx_core.specs.Views.{view_expr, view_type}
use Rattle.cx_core.specs.declared.expr.Form.TheFolds.{fold_out-CoreExpr, fold_out-Form}
use Rattle.cx_core.specs.declared.expr.Form.TheViews.{the_lemmas as expr_lemmas}
use Rattle.lift.specs.Texts.{lifted_text, names_of, node_text}
use Rattle.lift_exprs.specs.Lifted.{member_given}
use Rattle.lift_held.specs.Held.{whole_of}
use Rattle.lift_held.specs.declared.asked.Asked.{Asked}
use Rattle.lift_nodes.specs.Texts.{then_gives}
use Rattle.lift_stores.specs.Views.{Text, text_view}
use Rattle.lift.proofs.walk.+lifting.Goals as goal

pub lifted_form-returns-in_ok-one-in-Member : goal.lifted_form-returns-in_ok-one-in-Member
lifted_form-returns-in_ok-one-in-Member t c =
    let is : view_expr c.args.e.now ≡ expr (view_type c.args.e.now.ty) c.args.e.now.place (member (view_expr c.in-Member.of) c.in-Member.spot) =
    search (rules, c.in-Member.is, expr_lemmas, fold_out-CoreExpr, fold_out-Form) in
    let names = names_of c.args.names.now in
    let asked : c.whole_of.result ≡ whole_of c.in-Member.spot = search rules in
    let here : c.get-in-Member.result.now ≡ c.in-Member.of = c.get-in-Member.ensures in
    let there : c.get-in-Member-2.result.now ≡ c.in-Member.of = c.get-in-Member-2.ensures in
    let one : text_view c.in_ok-one-in-Member.one ≡ lifted_text names c.whole_of.result (view_expr c.get-in-Member.result.now) c.args.next = c.in_ok-one-in-Member.ensures in
    let same : text_view c.in_ok-one-in-Member.one ≡ lifted_text names (whole_of c.in-Member.spot) (view_expr c.in-Member.of) c.args.next =
    one ∙ ap (λ (a : Asked). lifted_text names a (view_expr c.get-in-Member.result.now) c.args.next) asked
    ∙ ap (λ x. lifted_text names (whole_of c.in-Member.spot) (view_expr x) c.args.next) here in
    let gives = λ (of : CExpr) (shown : Text). then_gives (member_given names (view_type c.args.e.now.ty) of c.in-Member.spot shown.given) shown in
    subst (λ (t : Text). IfOk c.member_node.result (λ made. text_view made ≡ t))
    (ap (λ x. gives (view_expr x) (text_view c.in_ok-one-in-Member.one)) there
    ∙ ap (gives (view_expr c.in-Member.of)) same
    ∙ sym (ap (λ (x : CExpr). node_text names c.args.asked x c.args.next) is))
    c.member_node.ensures
