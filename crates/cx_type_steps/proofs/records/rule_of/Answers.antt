use Rattle.std.proofs.Common.{rules, ◌≡◌, subst, map, option_map}
use Rattle.cx_breaks.specs.Placed.{placed}
use Rattle.cx_context.specs.Views.{scope_of}
use Rattle.cx_core.specs.Views.{view_member}
use Rattle.cx_kinds.specs.Known.{types_in}
use Rattle.cx_rules.specs.Nodes.{record_node}
use Rattle.cx_rules.specs.Rules.{rule_at, record_too_large}
use Rattle.cx_scope.specs.Views.{view_tag}
use Rattle.cx_type_steps.proofs.records.rule_of.Goals as goal

pub returns : goal.returns
returns c = λ line.
    let large : record_too_large (types_in c.known-known.result) c.args.one.now.is_union c.args.one.now.number (map view_member c.as_slice-members.result.now) ≡ c.in_ok-too_large.too_large = search rules in
    subst (λ types. c.record_rule.result ≡ rule_at (placed types (scope_of c.args.context.now) line (record_node c.args.one.now.is_union (option_map view_tag c.args.begun.found) c.args.one.now.number (map view_member c.args.one.now.members)))) c.known-known.ensures.types
    (subst (λ list. c.record_rule.result ≡ rule_at (placed (types_in c.known-known.result) (scope_of c.args.context.now) line (record_node c.args.one.now.is_union (option_map view_tag c.args.begun.found) c.args.one.now.number (map view_member list)))) c.as_slice-members.ensures
    (c.record_rule.ensures (scope_of c.args.context.now) line large))
