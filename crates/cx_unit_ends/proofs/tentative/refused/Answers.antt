use Rattle.std.proofs.Common.{None, Some, ap, ◌∙◌}
use Rattle.cx_context.specs.Checks.{refusal_of}
use Rattle.cx_context.specs.Views.{scope_of}
use Rattle.cx_core.specs.Views.{view_type}
use Rattle.cx_kinds.specs.Known.{types_in}
use Rattle.cx_rules.specs.Nodes.{tentative_node}
use Rattle.cx_rules.specs.UnitWalk as unit
use Rattle.cx_scope.specs.Views.{view_thing}
use Rattle.cx_unit_ends.proofs.FirstRefused.{refused_is}
use Rattle.cx_unit_ends.proofs.tentative.refused.Goals as goal

pub returns-in-Some : goal.returns-in-Some
returns-in-Some c =
    let old = scope_of c.args.context.now in
    let line = unit.tentative_line (view_thing c.args.one.now) in
    ap (λ number. Some (refusal_of number c.tentative_line.result c.in-Some.rule)) c.unit.ensures
    ∙ (ap (λ number. Some (refusal_of old.unit number c.in-Some.rule)) c.tentative_line.ensures
    ∙ refused_is (types_in c.known-known.result) old line (tentative_node (view_type c.args.one.now.ty))
    c.tentative_rule.result (Some c.in-Some.rule) c.known-known.ensures.types (c.tentative_rule.ensures old line) c.in-Some.is)

pub returns : goal.returns
returns c =
    let old = scope_of c.args.context.now in
    let line = unit.tentative_line (view_thing c.args.one.now) in
    refused_is (types_in c.known-known.result) old line (tentative_node (view_type c.args.one.now.ty))
    c.tentative_rule.result None c.known-known.ensures.types (c.tentative_rule.ensures old line) c.in_default.is
