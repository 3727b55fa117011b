use Rattle.cx_context.proofs.Settling.{refused_step, settled_no, settled_ok}
use Rattle.cx_context.specs.Checks.{refusal_of}
use Rattle.cx_context.specs.Views.{scope_of}
use Rattle.cx_core.specs.Trees.{goto}
use Rattle.cx_rules.specs.Nodes.{goto_node}
use Rattle.cx_rules.specs.Pieces.{at_line}
use Rattle.cx_rules.specs.Readings.{fine, check_chain, check_here}
use Rattle.cx_rules.specs.UnitWalk.{stated}
use Rattle.cx_stmt_steps.specs.Views.{view_stated, view_site}
use Rattle.std.proofs.Common.{rules, ◌≡◌, refl, sym, ap, ◌∙◌, []}
use Rattle.cx_stmt_steps.proofs.jumps.goto_seen.Goals as goal

pub returns-in-Some : goal.returns-in-Some
unfolding check_chain check_here
returns-in-Some c = refused_step view_stated _ (scope_of c.args.context.now) _ (refusal_of (scope_of c.args.context.now).unit c.args.line c.in-Some.rule) c.refused.ensures
    (settled_no _ (scope_of c.args.context.now).types (scope_of c.args.context.now) c.args.line (goto_node c.args.name.now (view_site c.args.here).labels)
    (stated (at_line (scope_of c.args.context.now) c.args.line) (goto c.args.name.now) [])
    c.goto_rule.result c.in-Some.rule refl (c.goto_rule.ensures (scope_of c.args.context.now).types (scope_of c.args.context.now) c.args.line) c.in-Some.is)

pub returns : goal.returns
unfolding check_chain check_here
returns c =
    let made : view_stated c.in_ok-made.made ≡ (stated (at_line (scope_of c.args.context.now) c.args.line) (goto c.args.name.now) []) = search rules in
    settled_ok _ (scope_of c.args.context.now).types (scope_of c.args.context.now) c.args.line (goto_node c.args.name.now (view_site c.args.here).labels)
    (stated (at_line (scope_of c.args.context.now) c.args.line) (goto c.args.name.now) [])
    c.goto_rule.result refl (c.goto_rule.ensures (scope_of c.args.context.now).types (scope_of c.args.context.now) c.args.line) c.in_default.is
    ∙ ap (λ meaning. fine meaning (scope_of c.args.context.now)) (sym made)
