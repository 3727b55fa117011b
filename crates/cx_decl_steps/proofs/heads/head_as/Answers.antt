use Rattle.std.proofs.Common.{◌≡◌, sym, ap, ◌∙◌, true, map, reverse, List, Bool}
use Rattle.cx_breaks.specs.Placed.{placed}
use Rattle.cx_context.proofs.Settling.{refused_step, changed_no, changed_ok}
use Rattle.cx_context.specs.Checks.{refusal_of}
use Rattle.cx_context.specs.Views.{scope_of}
use Rattle.cx_kinds.specs.Known.{types_in}
use Rattle.cx_rules.specs.Readings.{fine}
use Rattle.cx_rules.specs.Rules.{rule_at}
use Rattle.cx_core.specs.Trees.{CTy}
use Rattle.cx_core.specs.Views.{view_type}
use Rattle.cx_rules.specs.Shapes.{CStep}
use Rattle.cx_decl_steps.specs.Steps as steps
use Rattle.cx_decl_steps.specs.Views.{view_head}
use Rattle.cx_entities.specs.Views.{view_declaring}
use Rattle.cx_rules.specs.Declare as declare
use Rattle.cx_rules.specs.Nodes.{head_node}
use Rattle.cx_shapes.specs.Views.{view_step}
use Rattle.cx_decl_steps.proofs.heads.head_as.Goals as goal

pub returns-in-Some : goal.returns-in-Some
returns-in-Some c =
    let old = scope_of c.args.context.now in
    let one = view_declaring c.args.one in
    let list = reverse (map view_step c.args.derivation) in
    let written = view_type c.args.written in
    let node = λ (type : CTy) (all : List CStep) (clash : Bool). head_node (record { specs = one.specs; type = type; steps = all; clashes = clash }) in
    let clash : c.clashes-clash.result ≡ declare.clashes old one.name (declare.is_typedef one.specs) written one.linkage true =
    c.clashes-clash.ensures
    ∙ (ap (λ scope. declare.clashes scope one.name c.is_typedef.result (view_type c.get-t.result.now) one.linkage true) c.scope.ensures
    ∙ (ap (λ typedef. declare.clashes old one.name typedef (view_type c.get-t.result.now) one.linkage true) c.is_typedef.ensures
    ∙ ap (λ t. declare.clashes old one.name (declare.is_typedef one.specs) (view_type t) one.linkage true) c.get-t.ensures)) in
    let rule : c.head_rule.result ≡ rule_at (placed (types_in c.known-known.result) old c.args.one.line (node written list (declare.clashes old one.name (declare.is_typedef one.specs) written one.linkage true))) =
    c.head_rule.ensures old c.args.one.line
    ∙ (ap (λ t. rule_at (placed (types_in c.known-known.result) old c.args.one.line (node (view_type t) (reverse (map view_step c.as_slice.result.now)) c.clashes-clash.result))) c.get-t.ensures
    ∙ (ap (λ all. rule_at (placed (types_in c.known-known.result) old c.args.one.line (node written (reverse (map view_step all)) c.clashes-clash.result))) c.as_slice.ensures
    ∙ ap (λ clashed. rule_at (placed (types_in c.known-known.result) old c.args.one.line (node written list clashed))) clash)) in
    refused_step view_head _ old _ (refusal_of old.unit c.args.one.line c.in-Some.rule) c.refused.ensures
    (changed_no _ (types_in c.known-known.result) old c.args.one.line (node written list (declare.clashes old one.name (declare.is_typedef one.specs) written one.linkage true))
    (declare.with_head one written list old) (steps.head_of old one list written)
    c.head_rule.result c.in-Some.rule c.known-known.ensures.types rule c.in-Some.is)

pub returns : goal.returns
returns c =
    let old = scope_of c.args.context.now in
    let one = view_declaring c.args.one in
    let list = reverse (map view_step c.args.derivation) in
    let written = view_type c.args.written in
    let node = λ (type : CTy) (all : List CStep) (clash : Bool). head_node (record { specs = one.specs; type = type; steps = all; clashes = clash }) in
    let clash : c.clashes-clash.result ≡ declare.clashes old one.name (declare.is_typedef one.specs) written one.linkage true =
    c.clashes-clash.ensures
    ∙ (ap (λ scope. declare.clashes scope one.name c.is_typedef.result (view_type c.get-t.result.now) one.linkage true) c.scope.ensures
    ∙ (ap (λ typedef. declare.clashes old one.name typedef (view_type c.get-t.result.now) one.linkage true) c.is_typedef.ensures
    ∙ ap (λ t. declare.clashes old one.name (declare.is_typedef one.specs) (view_type t) one.linkage true) c.get-t.ensures)) in
    let rule : c.head_rule.result ≡ rule_at (placed (types_in c.known-known.result) old c.args.one.line (node written list (declare.clashes old one.name (declare.is_typedef one.specs) written one.linkage true))) =
    c.head_rule.ensures old c.args.one.line
    ∙ (ap (λ t. rule_at (placed (types_in c.known-known.result) old c.args.one.line (node (view_type t) (reverse (map view_step c.as_slice.result.now)) c.clashes-clash.result))) c.get-t.ensures
    ∙ (ap (λ all. rule_at (placed (types_in c.known-known.result) old c.args.one.line (node written (reverse (map view_step all)) c.clashes-clash.result))) c.as_slice.ensures
    ∙ ap (λ clashed. rule_at (placed (types_in c.known-known.result) old c.args.one.line (node written list clashed))) clash)) in
    changed_ok _ (types_in c.known-known.result) old c.args.one.line (node written list (declare.clashes old one.name (declare.is_typedef one.specs) written one.linkage true))
    (declare.with_head one written list old) (steps.head_of old one list written)
    c.head_rule.result c.known-known.ensures.types rule c.in_default.is
    ∙ (ap (λ meaning. fine meaning (declare.with_head one written list old)) (sym c.in_ok-made.ensures.head)
    ∙ ap (fine (view_head c.in_ok-made.made)) (sym c.in_ok-made.ensures.scope))
