use Rattle.std.proofs.Common.{◌∙◌, ap}
use Rattle.build_flow_code.proofs.exprs.condition.Goals as goal
use Rattle.build_flow_code.specs.Bodies.{body_of}
use Rattle.build_flow_code.specs.Exprs.{tested}
use Rattle.cx_core.specs.Views.{view_expr}
use Rattle.lift_exprs.specs.Lifted.{lifted}
use Rattle.lift_held.specs.declared.asked.Asked.{Asked}
use Rattle.lift_stores.specs.Views.{Text, text_of}

-- src/exprs.rt:99:1
pub returns-clause-test : goal.returns-clause-test
unfolding body_of
returns-clause-test c =
    c.in_ok-test.ensures
    ∙ ap (λ (one : Text). tested (body_of c.args.of.now).names (view_expr c.args.e.now) one.given)
    (c.in_ok-one.ensures ∙ ap (λ (asked : Asked). text_of (lifted (body_of c.args.of.now).names asked (view_expr c.args.e.now) c.args.number)) c.operand-2.ensures)
