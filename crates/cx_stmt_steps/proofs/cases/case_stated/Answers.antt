use Rattle.cx_breaks.specs.Placed.{placed}
use Rattle.cx_context.proofs.Settling.{refused_step, changed_no, changed_ok}
use Rattle.cx_context.specs.Checks.{refusal_of}
use Rattle.cx_context.specs.Views.{scope_of}
use Rattle.cx_core.specs.Trees.{case}
use Rattle.cx_kinds.specs.Known.{types_in}
use Rattle.cx_operands.specs.Views.{view_operand}
use Rattle.cx_rules.specs.Nodes.{case_node}
use Rattle.cx_rules.specs.Pieces.{at_line}
use Rattle.cx_rules.specs.Readings.{fine, check_chain, check_here}
use Rattle.cx_rules.specs.Rules.{rule_at}
use Rattle.cx_rules.specs.UnitWalk.{labelled, case_number}
use Rattle.cx_stmt_steps.specs.CaseNumbers.{case_for}
use Rattle.cx_stmt_steps.specs.Changes.{with_case}
use Rattle.cx_stmt_steps.specs.Views.{view_stated, view_site}
use Rattle.std.proofs.Common.{rules, ◌≡◌, subst, sym, ap, ◌∙◌}
use Rattle.cx_stmt_steps.proofs.cases.case_stated.Goals as goal

pub returns-in-Some : goal.returns-in-Some
unfolding check_chain check_here
returns-in-Some c = refused_step view_stated _ (scope_of c.args.context.now) _ (refusal_of (scope_of c.args.context.now).unit c.args.line c.in-Some.rule) c.refused.ensures
    (changed_no _ (types_in c.known-known.result) (scope_of c.args.context.now) c.args.line (case_node (view_site c.args.here).in_switch (view_operand c.args.value.now) (scope_of c.args.context.now).body.cases)
    (with_case (case_number (case_for (scope_of c.args.context.now).types (view_site c.args.here).in_switch (view_operand c.args.value.now))) (scope_of c.args.context.now))
    (labelled (at_line (scope_of c.args.context.now) c.args.line) (case (case_number (case_for (scope_of c.args.context.now).types (view_site c.args.here).in_switch (view_operand c.args.value.now)))) (view_stated c.args.inner))
    c.case_rule.result c.in-Some.rule c.known-known.ensures.types (subst (λ list. c.case_rule.result ≡ rule_at (placed (types_in c.known-known.result) (scope_of c.args.context.now) c.args.line (case_node (view_site c.args.here).in_switch (view_operand c.args.value.now) list))) c.cases_so_far-before.ensures (c.case_rule.ensures (scope_of c.args.context.now) c.args.line)) c.in-Some.is)

pub returns : goal.returns
unfolding check_chain check_here
returns c =
    let made : view_stated c.in_ok-made.made ≡ (labelled (at_line (scope_of c.args.context.now) c.args.line) (case (case_number (case_for (scope_of c.args.context.now).types (view_site c.args.here).in_switch (view_operand c.args.value.now)))) (view_stated c.args.inner)) = search rules in
    let after : scope_of c.case_added.new.context ≡ (with_case (case_number (case_for (scope_of c.args.context.now).types (view_site c.args.here).in_switch (view_operand c.args.value.now))) (scope_of c.args.context.now)) = search rules in
    changed_ok _ (types_in c.known-known.result) (scope_of c.args.context.now) c.args.line (case_node (view_site c.args.here).in_switch (view_operand c.args.value.now) (scope_of c.args.context.now).body.cases)
    (with_case (case_number (case_for (scope_of c.args.context.now).types (view_site c.args.here).in_switch (view_operand c.args.value.now))) (scope_of c.args.context.now))
    (labelled (at_line (scope_of c.args.context.now) c.args.line) (case (case_number (case_for (scope_of c.args.context.now).types (view_site c.args.here).in_switch (view_operand c.args.value.now)))) (view_stated c.args.inner))
    c.case_rule.result c.known-known.ensures.types (subst (λ list. c.case_rule.result ≡ rule_at (placed (types_in c.known-known.result) (scope_of c.args.context.now) c.args.line (case_node (view_site c.args.here).in_switch (view_operand c.args.value.now) list))) c.cases_so_far-before.ensures (c.case_rule.ensures (scope_of c.args.context.now) c.args.line)) c.in_default.is
    ∙ (ap (λ meaning. fine meaning (with_case (case_number (case_for (scope_of c.args.context.now).types (view_site c.args.here).in_switch (view_operand c.args.value.now))) (scope_of c.args.context.now))) (sym made) ∙ ap (λ scope. fine (view_stated c.in_ok-made.made) scope) (sym after))
