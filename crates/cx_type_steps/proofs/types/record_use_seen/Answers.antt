use Rattle.std.proofs.Common.{rules, ◌≡◌, sym, subst, ap, ◌∙◌, false, length}
use Rattle.cx_breaks.specs.Placed.{placed}
use Rattle.cx_context.specs.Checks.{refusal_of}
use Rattle.cx_context.specs.Views.{scope_of}
use Rattle.cx_core.specs.Trees.{ty, record_type}
use Rattle.cx_kinds.specs.Known.{types_in}
use Rattle.cx_rules.specs.Nodes.{record_use_node}
use Rattle.cx_rules.specs.Pieces.{seen_tag, tag_number, with_used}
use Rattle.cx_rules.specs.Shapes.{with_type}
use Rattle.cx_rules.specs.Readings.{fine, check_chain, check_here}
use Rattle.cx_rules.specs.Rules.{rule_at}
use Rattle.cx_shapes.specs.Views.{view_specs}
use Rattle.cx_context.proofs.Settling.{refused_step, changed_no, changed_ok}
use Rattle.cx_type_steps.proofs.types.record_use_seen.Goals as goal

pub returns-in-Some : goal.returns-in-Some
unfolding check_chain check_here
returns-in-Some c = refused_step (λ (_ : Unit {0}). view_specs c.args.specs.now) _ (scope_of c.args.context.now) _ (refusal_of (scope_of c.args.context.now).unit c.args.line c.in-Some.rule) c.refused.ensures
    (changed_no _ (types_in c.known-known.result) (scope_of c.args.context.now) c.args.line (record_use_node c.args.is_union (seen_tag c.args.alone c.args.name.now (scope_of c.args.context.now)))
    (with_used (seen_tag c.args.alone c.args.name.now (scope_of c.args.context.now)) c.args.name.now c.args.is_union (scope_of c.args.context.now))
    (with_type (ty (record_type (tag_number (length (scope_of c.args.context.now).types.records) (seen_tag c.args.alone c.args.name.now (scope_of c.args.context.now)))) false) (view_specs c.args.specs.now))
    c.record_use_rule.result c.in-Some.rule c.known-known.ensures.types (subst (λ tag. c.record_use_rule.result ≡ rule_at (placed (types_in c.known-known.result) (scope_of c.args.context.now) c.args.line (record_use_node c.args.is_union tag))) c.seen_tag-found.ensures (c.record_use_rule.ensures (scope_of c.args.context.now) c.args.line)) c.in-Some.is)

pub returns : goal.returns
unfolding check_chain check_here
returns c =
    let made : view_specs c.add_record.new.specs ≡ (with_type (ty (record_type (tag_number (length (scope_of c.args.context.now).types.records) (seen_tag c.args.alone c.args.name.now (scope_of c.args.context.now)))) false) (view_specs c.args.specs.now)) = search rules in
    let after : scope_of c.use_record.new.self ≡ (with_used (seen_tag c.args.alone c.args.name.now (scope_of c.args.context.now)) c.args.name.now c.args.is_union (scope_of c.args.context.now)) = search rules in
    changed_ok _ (types_in c.known-known.result) (scope_of c.args.context.now) c.args.line (record_use_node c.args.is_union (seen_tag c.args.alone c.args.name.now (scope_of c.args.context.now)))
    (with_used (seen_tag c.args.alone c.args.name.now (scope_of c.args.context.now)) c.args.name.now c.args.is_union (scope_of c.args.context.now))
    (with_type (ty (record_type (tag_number (length (scope_of c.args.context.now).types.records) (seen_tag c.args.alone c.args.name.now (scope_of c.args.context.now)))) false) (view_specs c.args.specs.now))
    c.record_use_rule.result c.known-known.ensures.types (subst (λ tag. c.record_use_rule.result ≡ rule_at (placed (types_in c.known-known.result) (scope_of c.args.context.now) c.args.line (record_use_node c.args.is_union tag))) c.seen_tag-found.ensures (c.record_use_rule.ensures (scope_of c.args.context.now) c.args.line)) c.in_default.is
    ∙ (ap (λ meaning. fine meaning (with_used (seen_tag c.args.alone c.args.name.now (scope_of c.args.context.now)) c.args.name.now c.args.is_union (scope_of c.args.context.now))) (sym made) ∙ ap (λ scope. fine (view_specs c.add_record.new.specs) scope) (sym after))
