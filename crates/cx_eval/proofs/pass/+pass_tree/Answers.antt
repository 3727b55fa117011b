use Rattle.std.proofs.Common.{◌≡◌, ◌∙◌, subst, ℕ, ◌+◌, ◌*◌, ◌<◌, drop, set, arith}
use Rattle.cx_access.specs.Views.{view_setting}
use Rattle.cx_core.specs.Views.{view_expr, view_put, view_puts}
use Rattle.cx_mean.specs.Work.{chooses, tests, carried, fills}
use Rattle.cx_work.specs.Views.{view_work}
use Rattle.cx_work.specs.Weights.{weight, weights}
use Rattle.cx_eval.proofs.Around.{chooses_around, tests_around, carried_around, fills_around, through_carried}
use Rattle.cx_eval.proofs.Bridged.{weight_behind, weight_below}
use Rattle.cx_eval.proofs.Going.{then_passes}
use Rattle.cx_ready.proofs.Opened.{chooses_view, tests_view, carries_view, fills_view}
use Rattle.cx_eval.proofs.PartPassed.{part_passes}
use Rattle.cx_eval.proofs.Passed.{first_halts, first_rests, first_through}
use Rattle.cx_eval.proofs.pass.+pass_tree.Goals as goal

below : {index count other : ℕ} → index < count → count ≡ other → index < other
below {index = index} within is = subst (λ (most : ℕ). index < most) is within

twice_below : (one all : ℕ) → one < all → 2 * one + 1 < 2 * all
twice_below one all less = omega (arith, less)

twice_less : (one all : ℕ) → one < all → 2 * one < 2 * all
twice_less one all less = omega (arith, less)

pub pass_tree-returns-in-Through-clause-passes : goal.pass_tree-returns-in-Through-clause-passes
pass_tree-returns-in-Through-clause-passes g t c =
    then_passes (view_setting c.args.setting.now) (g.O.Objects.frame c.args.objects.now) (g.S.Store.memory c.args.store.now) (g.S.Store.memory c.pass_parts.new.store)
    (g.S.Store.memory c.own_step.new.store) c.args.rest.now c.pass_parts.new.rest c.own_step.new.rest (view_work c.args.work.now) (view_work c.pass_parts.new.work)
    (view_work c.own_step.new.work) c.in-Through.ensures.passes.0.0 c.in-Through.ensures.passes.0.1 c.own_step.result c.own_step.new.taken
    (c.own_step.ensures.passes c.in-Through.ensures.passes.1)

pub pass_parts-returns-in-Chooses-clause-passes : goal.pass_parts-returns-in-Chooses-clause-passes
unfolding Rattle.cx_work.specs.declared.work.Work.TheViews.out-Work denote.Hole.Carrier.out
pass_parts-returns-in-Chooses-clause-passes g t c = rw c.in-Chooses.is
    (part_passes _ _ (chooses (view_expr c.in-Chooses.field-0.now)) (chooses_around _ _ _) (λ tree is. is) _ _ _ _ _ _ _ c.in-Chooses.part c.pass_tree.new.work _ _
    (c.get_mut-inner.ensures.value ∙ c.in-Chooses.part-is) (chooses_view _ _) (chooses_view _ _) c.pass_tree.ensures.passes)

pub pass_parts-returns-in-Tests-clause-passes : goal.pass_parts-returns-in-Tests-clause-passes
unfolding Rattle.cx_work.specs.declared.work.Work.TheViews.out-Work denote.Hole.Carrier.out
pass_parts-returns-in-Tests-clause-passes g t c = rw c.in-Tests.is
    (part_passes _ _ (tests (view_expr c.in-Tests.field-0.now) c.in-Tests.field-1) (tests_around _ _ _ _) (λ tree is. is) _ _ _ _ _ _ _ c.in-Tests.part c.pass_tree-in-Tests.new.work _ _
    (c.get_mut-inner-in-Tests.ensures.value ∙ c.in-Tests.part-is) (tests_view _ _ _) (tests_view _ _ _) c.pass_tree-in-Tests.ensures.passes)

pub pass_parts-returns-in-Carries-clause-passes : goal.pass_parts-returns-in-Carries-clause-passes
unfolding Rattle.cx_work.specs.declared.work.Work.TheViews.out-Work denote.Hole.Carrier.out
pass_parts-returns-in-Carries-clause-passes g t c = rw c.in-Carries.is
    (part_passes _ _ (carried (view_expr c.in-Carries.field-0.now) c.in-Carries.field-1) (carried_around _ _ _ _) (through_carried _ _) _ _ _ _ _ _ _ c.in-Carries.part c.pass_tree-in-Carries.new.work _ _
    (c.get_mut-inner-in-Carries.ensures.value ∙ c.in-Carries.part-is) (carries_view _ _ _) (carries_view _ _ _) c.pass_tree-in-Carries.ensures.passes)

pub pass_parts-returns-in-Fills-clause-passes : goal.pass_parts-returns-in-Fills-clause-passes
unfolding Rattle.cx_work.specs.declared.work.Work.TheViews.out-Work denote.Hole.Carrier.out
pass_parts-returns-in-Fills-clause-passes g t c = rw c.in-Fills.is
    (part_passes _ _ (fills (view_expr c.in-Fills.field-0.now) c.in-Fills.field-1 (view_put c.in-Fills.field-2.now) (view_puts c.in-Fills.field-3.now)) (fills_around _ _ _ _ _ _) (λ tree is. is)
    _ _ _ _ _ _ _ c.in-Fills.part c.pass_tree-in-Fills.new.work _ _
    (c.get_mut-inner-in-Fills.ensures.value ∙ c.in-Fills.part-is) (fills_view _ _ _ _ _) (fills_view _ _ _ _ _) c.pass_tree-in-Fills.ensures.passes)

pub pass_from-returns-in-Through-clause-passes : goal.pass_from-returns-in-Through-clause-passes
pass_from-returns-in-Through-clause-passes g t c =
    first_through (view_setting c.args.setting.now) (g.O.Objects.frame c.args.objects.now) (g.S.Store.memory c.args.store.now) (g.S.Store.memory c.pass_tree.new.store)
    c.args.rest.now c.pass_tree.new.rest c.args.index c.args.operands.now c.at_mut-operand.result.now c.pass_tree.new.work c.pass_tree.new.taken
    (below c.if-index-len.false c.len.ensures) c.at_mut-operand.ensures.value
    (g.S.Store.memory c.pass_from.new.store) c.pass_from.new.rest c.pass_from.new.operands c.pass_from.result c.pass_from.new.taken c.in-Through.ensures.passes c.pass_from.ensures.passes

pub pass_from-returns-in-Rests-clause-passes : goal.pass_from-returns-in-Rests-clause-passes
pass_from-returns-in-Rests-clause-passes g t c =
    first_rests (view_setting c.args.setting.now) (g.O.Objects.frame c.args.objects.now) (g.S.Store.memory c.args.store.now) (g.S.Store.memory c.pass_tree.new.store)
    c.args.rest.now c.pass_tree.new.rest c.args.index c.args.operands.now c.at_mut-operand.result.now c.pass_tree.new.work c.pass_tree.new.taken
    (below c.if-index-len.false c.len.ensures) c.at_mut-operand.ensures.value c.in-Rests.ensures.passes

pub pass_from-returns-in-Halted-clause-passes : goal.pass_from-returns-in-Halted-clause-passes
pass_from-returns-in-Halted-clause-passes g t c =
    first_halts (view_setting c.args.setting.now) (g.O.Objects.frame c.args.objects.now) (g.S.Store.memory c.args.store.now) (g.S.Store.memory c.pass_tree.new.store)
    c.args.rest.now c.pass_tree.new.rest c.args.index c.args.operands.now c.at_mut-operand.result.now c.pass_tree.new.work c.pass_tree.new.taken
    (below c.if-index-len.false c.len.ensures) c.at_mut-operand.ensures.value c.in-Halted.ensures.passes

pub pass_from-pass_from-requires : goal.pass_from-pass_from-requires
pass_from-pass_from-requires g t c = λ lifetimes lives. (
  subst (λ (most : ℕ). 2 * weights (drop (c.args.index + 1) (set c.args.operands.now c.args.index c.pass_tree.new.work)) < most) c.decreases
      (twice_less _ _ (weight_behind c.args.operands.now c.args.index c.at_mut-operand.result.now c.pass_tree.new.work (below c.if-index-len.false c.len.ensures) c.at_mut-operand.ensures.value)),
  lives,
)

pub pass_from-pass_tree-requires : goal.pass_from-pass_tree-requires
pass_from-pass_tree-requires g t c = λ lifetimes lives. (
  subst (λ (most : ℕ). 2 * weight c.at_mut-operand.result.now + 1 < most) c.decreases
      (twice_below _ _ (weight_below c.args.operands.now c.args.index c.at_mut-operand.result.now (below c.if-index-len.false c.len.ensures) c.at_mut-operand.ensures.value)),
  lives,
)
