use Rattle.std.proofs.Common.{◌∙◌, List, ap, map, sym}
use Rattle.build_flow_code.specs.Bodies.{body_of}
use Rattle.lift_exprs.specs.Names.{type_in}
use Rattle.lift_forms.specs.Operators.{zero_of}
use Rattle.rs_text.specs.Tree.{stmts}
use Rattle.rs_tree.specs.Views.{stmt_view}
use Rattle.rs_tree.specs.declared.stmt.RStmt.{RStmt}
use Rattle.whole_bodies.specs.Bodies as spec
use Rattle.whole_texts.proofs.Ended.{return_pushed}
use Rattle.whole_texts.proofs.returns.with_return.Goals as goal

pub returns : goal.returns
returns c =
    return_pushed (zero_of (type_in (body_of c.args.of.now).names (body_of c.args.of.now).result_type)) c.args.body c.push.new.self c.into_inner.result
    (sym (c.ends_in_return.ensures ∙ ap (λ (list : List RStmt). spec.ends_in_return (stmts (map stmt_view list))) c.as_slice.ensures) ∙ c.if-ends_in_return.false)
    c.in_ok-push.ensures.ok (ap stmt_view c.into_inner.ensures ∙ c.in_ok-last.ensures)
