use Rattle.std.proofs.Common.{◌≡◌, Bool, sym, subst, ap, ◌∙◌}
use Rattle.cx_breaks.specs.Placed.{placed}
use Rattle.cx_context.proofs.Settling.{refused_step, changed_no, changed_ok}
use Rattle.cx_context.specs.Checks.{refusal_of}
use Rattle.cx_context.specs.Views.{scope_of}
use Rattle.cx_kinds.specs.Known.{types_in}
use Rattle.cx_rules.specs.Readings.{fine}
use Rattle.cx_rules.specs.Rules.{rule_at}
use Rattle.cx_core.specs.Trees.{CTy}
use Rattle.cx_core.specs.Views.{view_type}
use Rattle.cx_decl_steps.specs.Steps as steps
use Rattle.cx_decl_steps.specs.Views.{view_begun, view_meant}
use Rattle.cx_init.specs.Views.{view_filled}
use Rattle.cx_rules.specs.Nodes.{declares_node}
use Rattle.cx_rules.specs.Pieces.{at_line}
use Rattle.cx_rules.specs.UnitWalk as unit
use Rattle.cx_shapes.specs.Views.{view_specs}
use Rattle.cx_decl_steps.proofs.ends.ends_once.Goals as goal

pub returns-in-Some : goal.returns-in-Some
returns-in-Some c =
    let old = scope_of c.args.context.now in
    let begun = view_begun c.args.site.name.now c.args.begun.now in
    let behind = λ (type : CTy). unit.clashes_behind c.args.site.has_init old begun type in
    let node = λ (clashes : Bool) (type : CTy). declares_node (record { where_stands = c.args.site.place; specs = view_specs c.args.site.specs.now; type = type; linkage = c.args.begun.now.linkage; clashes = clashes; has_init = c.args.site.has_init }) in
    let type = view_type c.args.filled.ty in
    let rule_is : c.declares_rule.result ≡ rule_at (placed (types_in c.known-known.result) old c.args.site.line (node (behind type) type)) =
    subst (λ t. c.declares_rule.result ≡ rule_at (placed (types_in c.known-known.result) old c.args.site.line (node (behind (view_type t)) (view_type t)))) c.get-t.ensures
    (subst (λ clashes. c.declares_rule.result ≡ rule_at (placed (types_in c.known-known.result) old c.args.site.line (node clashes (view_type c.get-t.result.now)))) c.clashes_behind-clashes.ensures
    (c.declares_rule.ensures old c.args.site.line c.args.site.has_init)) in
    refused_step view_meant _ old _ (refusal_of old.unit c.args.site.line c.in-Some.rule) c.refused.ensures
    (changed_no _ (types_in c.known-known.result) old c.args.site.line (node (behind type) type)
    (unit.with_content_if c.args.site.has_init begun (view_filled c.args.filled) old)
    (steps.declared_meant c.args.literals old (at_line old c.args.site.line) begun c.args.site.has_init (view_filled c.args.filled).puts)
    c.declares_rule.result c.in-Some.rule c.known-known.ensures.types
    rule_is
    c.in-Some.is)

pub returns : goal.returns
returns c =
    let old = scope_of c.args.context.now in
    let begun = view_begun c.args.site.name.now c.args.begun.now in
    let behind = λ (type : CTy). unit.clashes_behind c.args.site.has_init old begun type in
    let node = λ (clashes : Bool) (type : CTy). declares_node (record { where_stands = c.args.site.place; specs = view_specs c.args.site.specs.now; type = type; linkage = c.args.begun.now.linkage; clashes = clashes; has_init = c.args.site.has_init }) in
    let type = view_type c.args.filled.ty in
    let rule_is : c.declares_rule.result ≡ rule_at (placed (types_in c.known-known.result) old c.args.site.line (node (behind type) type)) =
    subst (λ t. c.declares_rule.result ≡ rule_at (placed (types_in c.known-known.result) old c.args.site.line (node (behind (view_type t)) (view_type t)))) c.get-t.ensures
    (subst (λ clashes. c.declares_rule.result ≡ rule_at (placed (types_in c.known-known.result) old c.args.site.line (node clashes (view_type c.get-t.result.now)))) c.clashes_behind-clashes.ensures
    (c.declares_rule.ensures old c.args.site.line c.args.site.has_init)) in
    changed_ok _ (types_in c.known-known.result) old c.args.site.line (node (behind type) type)
    (unit.with_content_if c.args.site.has_init begun (view_filled c.args.filled) old)
    (steps.declared_meant c.args.literals old (at_line old c.args.site.line) begun c.args.site.has_init (view_filled c.args.filled).puts)
    c.declares_rule.result c.known-known.ensures.types
    rule_is
    c.in_default.is
    ∙ (ap (λ meaning. fine meaning (unit.with_content_if c.args.site.has_init begun (view_filled c.args.filled) old)) (sym c.in_ok-made.ensures.meant)
    ∙ ap (fine (view_meant c.in_ok-made.made)) (sym c.in_ok-made.ensures.scope))
