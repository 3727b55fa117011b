use Rattle.cx_context.proofs.Settling.{refused_step, settled_no, settled_ok}
use Rattle.cx_context.specs.Checks.{refusal_of}
use Rattle.cx_context.specs.Views.{scope_of}
use Rattle.cx_kinds.specs.Known.{types_in}
use Rattle.cx_operands.specs.Views.{view_operand}
use Rattle.cx_rules.specs.Nodes.{controls_node}
use Rattle.cx_rules.specs.Readings.{check_chain, check_here}
use Rattle.std.proofs.Common.{◌≡◌}
use Rattle.cx_stmt_steps.proofs.simple.controls_seen.Goals as goal

pub returns-in-Some : goal.returns-in-Some
unfolding check_chain check_here
returns-in-Some c = refused_step (λ (_ : Unit {0}). tt) _ (scope_of c.args.context.now) _ (refusal_of (scope_of c.args.context.now).unit c.args.line c.in-Some.rule) c.refused.ensures
    (settled_no _ (types_in c.known-known.result) (scope_of c.args.context.now) c.args.line (controls_node (view_operand c.args.value.now))
    (tt)
    c.controls_rule.result c.in-Some.rule c.known-known.ensures.types (c.controls_rule.ensures (scope_of c.args.context.now) c.args.line) c.in-Some.is)

pub returns : goal.returns
unfolding check_chain check_here
returns c =
    settled_ok _ (types_in c.known-known.result) (scope_of c.args.context.now) c.args.line (controls_node (view_operand c.args.value.now))
    (tt)
    c.controls_rule.result c.known-known.ensures.types (c.controls_rule.ensures (scope_of c.args.context.now) c.args.line) c.in_default.is
