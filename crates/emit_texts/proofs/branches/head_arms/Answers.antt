use Rattle.std.proofs.Common.{◌≡◌, ◌∙◌, get_or, length, ap, refl, sym, arith}
use Rattle.std.proofs.lemmas.Grind.{common_steps}
use Rattle.reloop.specs.Graphs.{is_in}
use Rattle.rs_tree.specs.Views.{arm_view}
use Rattle.emit_texts.proofs.Arms.{arm_more, arms_made, head_kept, no_heads_left}
use Rattle.emit_texts.proofs.branches.head_arms.Goals as goal

pub returns : goal.returns
returns c =
    let none : length c.loop-text.text-iterator.rest.items ≡ 0 = grind (arith, common_steps) in
    arms_made arm_view c.loop-text.made _ _ (no_heads_left c.loop-text.earlier c.args.heads.now c.loop-text.index c.loop-text.text-iterator.rest.items none c.loop-text.invariant.counted) c.loop-text.invariant.made

pub loop-text-preserved : goal.loop-text-preserved
loop-text-preserved c =
    let split = ap length c.in-Some.ensures.steps.0 in
    let counted = c.loop-text.invariant.counted in
    record {
      counted = omega (arith, split, counted);
      made = arm_more arm_view c.loop-text.made _ _ c.push-in-loop-text.new.self _ _ c.in_ok-push-2.ensures.ok
          (head_kept c.loop-text.earlier c.push.new.self c.args.heads.now c.loop-text.index _ _ c.in-Some.text c.loop-text.text-iterator.rest.items c.next.new.self.rest.items _ (omega (arith, split, counted)) refl
          c.in-Some.ensures.steps.0 (ap (is_in (get_or c.args.heads.now c.loop-text.index 0)) (sym c.as_slice.ensures) ∙ sym c.is_among.ensures ∙ c.if-is_among.false) c.in_ok-push.ensures.ok c.head_arm.ensures)
          c.loop-text.invariant.made;
    }
