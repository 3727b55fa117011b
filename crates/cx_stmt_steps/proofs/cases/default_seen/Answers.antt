use Rattle.cx_breaks.specs.Placed.{placed}
use Rattle.cx_context.proofs.Settling.{refused_step, changed_no, changed_ok}
use Rattle.cx_context.specs.Checks.{refusal_of}
use Rattle.cx_context.specs.Views.{scope_of}
use Rattle.cx_core.specs.Trees.{default}
use Rattle.cx_rules.specs.Nodes.{default_node}
use Rattle.cx_rules.specs.Pieces.{at_line}
use Rattle.cx_rules.specs.Readings.{fine, check_chain, check_here}
use Rattle.cx_rules.specs.Rules.{rule_at}
use Rattle.cx_rules.specs.UnitWalk.{labelled}
use Rattle.cx_stmt_steps.specs.Changes.{with_default}
use Rattle.cx_stmt_steps.specs.Views.{view_stated, view_site}
use Rattle.std.proofs.Common.{rules, ◌≡◌, refl, subst, sym, ap, ◌∙◌}
use Rattle.cx_stmt_steps.proofs.cases.default_seen.Goals as goal

pub returns-in-Some : goal.returns-in-Some
unfolding check_chain check_here
returns-in-Some c = refused_step view_stated _ (scope_of c.args.context.now) _ (refusal_of (scope_of c.args.context.now).unit c.args.line c.in-Some.rule) c.refused.ensures
    (changed_no _ (scope_of c.args.context.now).types (scope_of c.args.context.now) c.args.line (default_node (view_site c.args.here).in_switch (scope_of c.args.context.now).body.has_default)
    (with_default (scope_of c.args.context.now))
    (labelled (at_line (scope_of c.args.context.now) c.args.line) default (view_stated c.args.inner))
    c.default_rule.result c.in-Some.rule refl (subst (λ before. c.default_rule.result ≡ rule_at (placed (scope_of c.args.context.now).types (scope_of c.args.context.now) c.args.line (default_node (view_site c.args.here).in_switch before))) c.had_default-before.ensures (c.default_rule.ensures (scope_of c.args.context.now).types (scope_of c.args.context.now) c.args.line)) c.in-Some.is)

pub returns : goal.returns
unfolding check_chain check_here
returns c =
    let made : view_stated c.in_ok-made.made ≡ (labelled (at_line (scope_of c.args.context.now) c.args.line) default (view_stated c.args.inner)) = search rules in
    let after : scope_of c.default_added.new.context ≡ (with_default (scope_of c.args.context.now)) = search rules in
    changed_ok _ (scope_of c.args.context.now).types (scope_of c.args.context.now) c.args.line (default_node (view_site c.args.here).in_switch (scope_of c.args.context.now).body.has_default)
    (with_default (scope_of c.args.context.now))
    (labelled (at_line (scope_of c.args.context.now) c.args.line) default (view_stated c.args.inner))
    c.default_rule.result refl (subst (λ before. c.default_rule.result ≡ rule_at (placed (scope_of c.args.context.now).types (scope_of c.args.context.now) c.args.line (default_node (view_site c.args.here).in_switch before))) c.had_default-before.ensures (c.default_rule.ensures (scope_of c.args.context.now).types (scope_of c.args.context.now) c.args.line)) c.in_default.is
    ∙ (ap (λ meaning. fine meaning (with_default (scope_of c.args.context.now))) (sym made) ∙ ap (λ scope. fine (view_stated c.in_ok-made.made) scope) (sym after))
