use Rattle.cx_breaks.specs.Placed.{placed}
use Rattle.cx_context.proofs.Settling.{refused_step, settled_no, settled_ok}
use Rattle.cx_context.specs.Checks.{refusal_of}
use Rattle.cx_context.specs.Views.{scope_of}
use Rattle.cx_core.specs.Trees.{break}
use Rattle.cx_rules.specs.Nodes.{jump_node}
use Rattle.cx_rules.specs.Pieces.{at_line}
use Rattle.cx_rules.specs.Readings.{fine, check_chain, check_here}
use Rattle.cx_rules.specs.Rules.{rule_at}
use Rattle.cx_rules.specs.UnitWalk.{stated}
use Rattle.cx_stmt_steps.specs.Views.{view_stated, view_site}
use Rattle.std.proofs.Common.{rules, ◌≡◌, refl, subst, sym, ap, ◌∙◌, [], ◌||◌, is_some}
use Rattle.cx_stmt_steps.proofs.jumps.break_seen.Goals as goal

pub returns-in-Some : goal.returns-in-Some
unfolding check_chain check_here
returns-in-Some c = refused_step view_stated _ (scope_of c.args.context.now) _ (refusal_of (scope_of c.args.context.now).unit c.args.line c.in-Some.rule) c.refused.ensures
    (settled_no _ (scope_of c.args.context.now).types (scope_of c.args.context.now) c.args.line (jump_node ((view_site c.args.here).in_loop || is_some (view_site c.args.here).in_switch))
    (stated (at_line (scope_of c.args.context.now) c.args.line) break [])
    c.jump_rule.result c.in-Some.rule refl (subst (λ inside. c.jump_rule.result ≡ rule_at (placed (scope_of c.args.context.now).types (scope_of c.args.context.now) c.args.line (jump_node inside))) c.may_break-is_inside.ensures (c.jump_rule.ensures (scope_of c.args.context.now).types (scope_of c.args.context.now) c.args.line)) c.in-Some.is)

pub returns : goal.returns
unfolding check_chain check_here
returns c =
    let made : view_stated c.in_ok-made.made ≡ (stated (at_line (scope_of c.args.context.now) c.args.line) break []) = search rules in
    settled_ok _ (scope_of c.args.context.now).types (scope_of c.args.context.now) c.args.line (jump_node ((view_site c.args.here).in_loop || is_some (view_site c.args.here).in_switch))
    (stated (at_line (scope_of c.args.context.now) c.args.line) break [])
    c.jump_rule.result refl (subst (λ inside. c.jump_rule.result ≡ rule_at (placed (scope_of c.args.context.now).types (scope_of c.args.context.now) c.args.line (jump_node inside))) c.may_break-is_inside.ensures (c.jump_rule.ensures (scope_of c.args.context.now).types (scope_of c.args.context.now) c.args.line)) c.in_default.is
    ∙ ap (λ meaning. fine meaning (scope_of c.args.context.now)) (sym made)
