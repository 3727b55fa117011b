use Rattle.cx_context.proofs.Settling.{refused_step, settled_no, settled_ok}
use Rattle.cx_context.specs.Checks.{refusal_of}
use Rattle.cx_context.specs.Views.{scope_of}
use Rattle.cx_core.specs.Trees as core
use Rattle.cx_kinds.specs.Known.{types_in}
use Rattle.cx_operands.specs.Views.{view_operand}
use Rattle.cx_rules.specs.Nodes.{return_node}
use Rattle.cx_rules.specs.Operands.{value_of, fitted}
use Rattle.cx_rules.specs.Pieces.{at_line}
use Rattle.cx_rules.specs.Readings.{fine, check_chain, check_here}
use Rattle.cx_rules.specs.UnitWalk.{stated}
use Rattle.cx_stmt_steps.specs.Literals.{literals_from}
use Rattle.cx_stmt_steps.specs.Views.{view_stated, view_site}
use Rattle.std.proofs.Common.{rules, ◌≡◌, sym, ap, ◌∙◌, Some}
use Rattle.cx_stmt_steps.proofs.jumps.value_returned.Goals as goal

pub returns-in-Some : goal.returns-in-Some
unfolding check_chain check_here
returns-in-Some c = refused_step view_stated _ (scope_of c.args.context.now) _ (refusal_of (scope_of c.args.context.now).unit c.args.line c.in-Some.rule) c.refused.ensures
    (settled_no _ (types_in c.known-known.result) (scope_of c.args.context.now) c.args.line (return_node (view_site c.args.here).result (Some (view_operand c.args.value)))
    (stated (at_line (scope_of c.args.context.now) c.args.line) (core.returns (Some (fitted (scope_of c.args.context.now).types (view_site c.args.here).result (value_of (view_operand c.args.value))))) (literals_from c.args.literals (scope_of c.args.context.now)))
    c.return_rule.result c.in-Some.rule c.known-known.ensures.types (c.return_rule.ensures (scope_of c.args.context.now) c.args.line) c.in-Some.is)

pub returns : goal.returns
unfolding check_chain check_here
returns c =
    let made : view_stated c.in_ok-made.made ≡ (stated (at_line (scope_of c.args.context.now) c.args.line) (core.returns (Some (fitted (scope_of c.args.context.now).types (view_site c.args.here).result (value_of (view_operand c.args.value))))) (literals_from c.args.literals (scope_of c.args.context.now))) = search rules in
    settled_ok _ (types_in c.known-known.result) (scope_of c.args.context.now) c.args.line (return_node (view_site c.args.here).result (Some (view_operand c.args.value)))
    (stated (at_line (scope_of c.args.context.now) c.args.line) (core.returns (Some (fitted (scope_of c.args.context.now).types (view_site c.args.here).result (value_of (view_operand c.args.value))))) (literals_from c.args.literals (scope_of c.args.context.now)))
    c.return_rule.result c.known-known.ensures.types (c.return_rule.ensures (scope_of c.args.context.now) c.args.line) c.in_default.is
    ∙ ap (λ meaning. fine meaning (scope_of c.args.context.now)) (sym made)
