use Rattle.std.proofs.Common.{◌≡◌, rules, ◌-◌, ap, sym, ◌∙◌, arith}
use Rattle.std.proofs.lemmas.Grind.{common_steps}
use Rattle.cx_tree.specs.Depth.{spec_depth}
use Rattle.cx_tree.specs.Views.{spec_view}
use Rattle.cx_tree.specs.declared.specifier.Spec.{Spec}
use Rattle.cx_expr.proofs.Depths.{specs_pushed}
use Rattle.cx_declare.proofs.specifiers.next_spec.Goals as goal

pub returns-clause-depth : goal.returns-clause-depth
returns-clause-depth g c =
    let one : c.in_ok-next.next.depth ≡ spec_depth (spec_view c.into_inner.result) =
    c.in_ok-next.ensures.depth ∙ ap (λ (s : Spec). spec_depth (spec_view s)) (sym c.into_inner.ensures) in
    specs_pushed c.args.specs.list c.into_inner.result _ c.args.specs.depth c.in_ok-next.next.depth _ c.in_ok-push.ensures.ok
    (first_of (search rules, grind (arith, common_steps))) one c.requires.measured
