use Rattle.std.proofs.Common.{◌≡◌, ◌∙◌, ◌+◌, length, map, drop, ap, sym, arith}
use Rattle.std.proofs.lemmas.Grind.{common_steps}
use Rattle.emit_rules.specs.Texts.{case_arms}
use Rattle.emit_texts.specs.Texts.{text_view}
use Rattle.flow.specs.Views.{case_view}
use Rattle.rs_text.specs.Tree.{more_arms}
use Rattle.rs_tree.specs.Views.{arm_view}
use Rattle.emit_texts.proofs.Arms.{arm_more, arms_made, case_step, no_cases_left}
use Rattle.emit_texts.proofs.branches.case_arms.Goals as goal

pub loop-text-preserved : goal.loop-text-preserved
loop-text-preserved c =
    let split = ap length c.in-Some.ensures.steps.0 in
    let counted = c.loop-text.invariant.counted in
    record {
      counted = omega (arith, split, counted);
      made = arm_more arm_view c.loop-text.made _ _ c.push.new.self _ _ c.in_ok-push.ensures.ok
          (case_step c.args.by c.args.cases.now c.loop-text.index _ c.in-Some.text c.loop-text.text-iterator.rest.items c.next.new.self.rest.items (omega (arith, split, counted)) c.in-Some.ensures.steps.0
          ∙ ap (λ arm. more_arms arm (case_arms c.args.by (map case_view (drop (c.loop-text.index + 1) c.args.cases.now)) (map text_view c.next.new.self.rest.items))) (sym c.case_arm.ensures))
          c.loop-text.invariant.made;
    }

pub returns : goal.returns
returns c =
    let none : length c.loop-text.text-iterator.rest.items ≡ 0 = grind (arith, common_steps) in
    arms_made arm_view c.loop-text.made _ _ (no_cases_left c.args.by c.args.cases.now c.loop-text.index c.loop-text.text-iterator.rest.items none c.loop-text.invariant.counted) c.loop-text.invariant.made
