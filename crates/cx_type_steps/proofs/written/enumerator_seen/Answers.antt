use Rattle.std.proofs.Common.{rules, ◌≡◌, sym, subst, ◌∙◌, option_map, ℤ}
use Rattle.cx_breaks.specs.Placed.{placed}
use Rattle.cx_context.specs.Checks.{refusal_of}
use Rattle.cx_context.specs.Views.{scope_of}
use Rattle.cx_kinds.specs.Known.{types_in}
use Rattle.cx_operands.specs.Views.{view_operand}
use Rattle.cx_rules.specs.Rules.{rule_at}
use Rattle.cx_context.proofs.Settling.{refused_step, changed_no, changed_ok}
use Rattle.cx_rules.specs.Nodes.{enumerator_node}
use Rattle.cx_rules.specs.Scope.{an_enumerator, with_declared}
use Rattle.cx_type_steps.proofs.Numbers.{enumerator_is}
use Rattle.cx_type_steps.specs.Written.{value_given}
use Rattle.cx_type_steps.proofs.written.enumerator_seen.Goals as goal

pub returns-in-Some-clause-value : goal.returns-in-Some-clause-value
returns-in-Some-clause-value c =
    let value : c.value_given-value.result ≡ (value_given (scope_of c.args.context.now).types c.args.next (option_map view_operand c.args.written.now)) = search rules in
    refused_step (λ (one : ℤ). one) _ (scope_of c.args.context.now) _ (refusal_of (scope_of c.args.context.now).unit c.args.line c.in-Some.rule) c.refused.ensures
    (enumerator_is c.args.name.now c.args.line c.args.next (option_map view_operand c.args.written.now) (scope_of c.args.context.now)
    ∙ changed_no _ (types_in c.known-known.result) (scope_of c.args.context.now) c.args.line (enumerator_node c.args.name.now (option_map view_operand c.args.written.now) (value_given (scope_of c.args.context.now).types c.args.next (option_map view_operand c.args.written.now))) (with_declared c.args.name.now (an_enumerator (value_given (scope_of c.args.context.now).types c.args.next (option_map view_operand c.args.written.now))) (scope_of c.args.context.now)) (value_given (scope_of c.args.context.now).types c.args.next (option_map view_operand c.args.written.now))
    c.enumerator_rule.result c.in-Some.rule c.known-known.ensures.types
    (subst (λ one. c.enumerator_rule.result ≡ rule_at (placed (types_in c.known-known.result) (scope_of c.args.context.now) c.args.line (enumerator_node c.args.name.now one (value_given (scope_of c.args.context.now).types c.args.next (option_map view_operand c.args.written.now))))) c.operand_in-given.ensures
    (subst (λ given. c.enumerator_rule.result ≡ rule_at (placed (types_in c.known-known.result) (scope_of c.args.context.now) c.args.line (enumerator_node c.args.name.now (option_map (λ one. view_operand one.now) c.operand_in-given.result) given))) (search rules)
    (c.enumerator_rule.ensures (scope_of c.args.context.now) c.args.line c.args.name.now (sym c.is_taken-taken.ensures)))) c.in-Some.is)

pub returns-clause-value : goal.returns-clause-value
returns-clause-value c =
    let value : c.value_given-value.result ≡ (value_given (scope_of c.args.context.now).types c.args.next (option_map view_operand c.args.written.now)) = search rules in
    let after : scope_of c.add.new.self ≡ (with_declared c.args.name.now (an_enumerator (value_given (scope_of c.args.context.now).types c.args.next (option_map view_operand c.args.written.now))) (scope_of c.args.context.now)) = search rules in
    enumerator_is c.args.name.now c.args.line c.args.next (option_map view_operand c.args.written.now) (scope_of c.args.context.now)
    ∙ (changed_ok _ (types_in c.known-known.result) (scope_of c.args.context.now) c.args.line (enumerator_node c.args.name.now (option_map view_operand c.args.written.now) (value_given (scope_of c.args.context.now).types c.args.next (option_map view_operand c.args.written.now))) (with_declared c.args.name.now (an_enumerator (value_given (scope_of c.args.context.now).types c.args.next (option_map view_operand c.args.written.now))) (scope_of c.args.context.now)) (value_given (scope_of c.args.context.now).types c.args.next (option_map view_operand c.args.written.now))
    c.enumerator_rule.result c.known-known.ensures.types
    (subst (λ one. c.enumerator_rule.result ≡ rule_at (placed (types_in c.known-known.result) (scope_of c.args.context.now) c.args.line (enumerator_node c.args.name.now one (value_given (scope_of c.args.context.now).types c.args.next (option_map view_operand c.args.written.now))))) c.operand_in-given.ensures
    (subst (λ given. c.enumerator_rule.result ≡ rule_at (placed (types_in c.known-known.result) (scope_of c.args.context.now) c.args.line (enumerator_node c.args.name.now (option_map (λ one. view_operand one.now) c.operand_in-given.result) given))) (search rules)
    (c.enumerator_rule.ensures (scope_of c.args.context.now) c.args.line c.args.name.now (sym c.is_taken-taken.ensures)))) c.in_default.is
    ∙ search rules)
