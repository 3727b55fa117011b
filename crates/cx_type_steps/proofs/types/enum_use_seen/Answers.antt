use Rattle.std.proofs.Common.{rules, ◌≡◌, refl, sym, subst, ap, ◌∙◌, false}
use Rattle.cx_breaks.specs.Placed.{placed}
use Rattle.cx_context.specs.Checks.{refusal_of}
use Rattle.cx_context.specs.Views.{scope_of}
use Rattle.cx_core.specs.Trees.{ty, enum_type}
use Rattle.cx_rules.specs.Nodes.{enum_use_node}
use Rattle.cx_rules.specs.Pieces.{seen_tag, tag_number}
use Rattle.cx_rules.specs.Shapes.{with_type}
use Rattle.cx_rules.specs.Readings.{fine, check_chain, check_here}
use Rattle.cx_rules.specs.Rules.{rule_at}
use Rattle.cx_shapes.specs.Views.{view_specs}
use Rattle.cx_context.proofs.Settling.{refused_step, settled_no, settled_ok}
use Rattle.cx_type_steps.proofs.types.enum_use_seen.Goals as goal

pub returns-in-Some : goal.returns-in-Some
unfolding check_chain check_here
returns-in-Some c = refused_step (λ (_ : Unit {0}). view_specs c.args.specs.now) _ (scope_of c.args.context.now) _ (refusal_of (scope_of c.args.context.now).unit c.args.line c.in-Some.rule) c.refused.ensures
    (settled_no _ (scope_of c.args.context.now).types (scope_of c.args.context.now) c.args.line (enum_use_node (seen_tag false c.args.name.now (scope_of c.args.context.now)))
    (with_type (ty (enum_type (tag_number 0 (seen_tag false c.args.name.now (scope_of c.args.context.now)))) false) (view_specs c.args.specs.now))
    c.enum_use_rule.result c.in-Some.rule refl (subst (λ tag. c.enum_use_rule.result ≡ rule_at (placed (scope_of c.args.context.now).types (scope_of c.args.context.now) c.args.line (enum_use_node tag))) c.seen_tag-found.ensures (c.enum_use_rule.ensures (scope_of c.args.context.now).types (scope_of c.args.context.now) c.args.line)) c.in-Some.is)

pub returns : goal.returns
unfolding check_chain check_here
returns c =
    let made : view_specs c.add_enum.new.specs ≡ (with_type (ty (enum_type (tag_number 0 (seen_tag false c.args.name.now (scope_of c.args.context.now)))) false) (view_specs c.args.specs.now)) = search rules in
    settled_ok _ (scope_of c.args.context.now).types (scope_of c.args.context.now) c.args.line (enum_use_node (seen_tag false c.args.name.now (scope_of c.args.context.now)))
    (with_type (ty (enum_type (tag_number 0 (seen_tag false c.args.name.now (scope_of c.args.context.now)))) false) (view_specs c.args.specs.now))
    c.enum_use_rule.result refl (subst (λ tag. c.enum_use_rule.result ≡ rule_at (placed (scope_of c.args.context.now).types (scope_of c.args.context.now) c.args.line (enum_use_node tag))) c.seen_tag-found.ensures (c.enum_use_rule.ensures (scope_of c.args.context.now).types (scope_of c.args.context.now) c.args.line)) c.in_default.is
    ∙ ap (λ meaning. fine meaning (scope_of c.args.context.now)) (sym made)
