use Rattle.std.proofs.Common.{refl, ◌∙◌, ℕ, ◌<◌, ◌≤◌, ◌≡◌, subst}
use Rattle.cx_core.specs.Views.{view_expr, view_put, view_puts}
use Rattle.cx_mean.specs.Work.{chooses, tests, carried, fills}
use Rattle.cx_work.specs.Weights.{weight}
use Rattle.cx_work.proofs.Carried.{carried_calls}
use Rattle.cx_work.proofs.Opened.{needs_view, chooses_view, tests_view, carries_view, fills_view}
use Rattle.cx_work.proofs.Resumed.{resumes_inside, resumed_carried, all_resume_inside, went_on, went_out, all_went_out}
use Rattle.cx_work.proofs.Filled.{one_is_smaller, kept_on, filled_on, filled_at_end, not_filled}
use Rattle.cx_work.proofs.resuming.+fill.Goals as goal

below : {index count other : ℕ} → index < count → count ≡ other → index < other
below {index = index} within is = subst (λ (most : ℕ). index < most) is within

pub fill-returns-in-Chooses : goal.fill-returns-in-Chooses
unfolding Rattle.cx_work.specs.declared.work.Work.TheViews.out-Work denote.Hole.Carrier.out
fill-returns-in-Chooses t c = rw c.in-Chooses.is
    (resumes_inside (chooses (view_expr c.in-Chooses.field-0.now)) (λ value work. refl) (λ work. refl) _ _ _ _ c.in-Chooses.part c.fill.new.work _ _
    (c.get_mut.ensures.value ∙ c.in-Chooses.part-is) (chooses_view _ _) (chooses_view _ _) c.fill.ensures)

pub fill-returns-in-Tests : goal.fill-returns-in-Tests
unfolding Rattle.cx_work.specs.declared.work.Work.TheViews.out-Work denote.Hole.Carrier.out
fill-returns-in-Tests t c = rw c.in-Tests.is
    (resumes_inside (tests (view_expr c.in-Tests.field-0.now) c.in-Tests.field-1) (λ value work. refl) (λ work. refl) _ _ _ _ c.in-Tests.part c.fill-in-Tests.new.work _ _
    (c.get_mut-in-Tests.ensures.value ∙ c.in-Tests.part-is) (tests_view _ _ _) (tests_view _ _ _) c.fill-in-Tests.ensures)

pub fill-returns-in-Carries : goal.fill-returns-in-Carries
unfolding Rattle.cx_work.specs.declared.work.Work.TheViews.out-Work denote.Hole.Carrier.out
fill-returns-in-Carries t c = rw c.in-Carries.is
    (resumes_inside (carried (view_expr c.in-Carries.field-0.now) c.in-Carries.field-1) (resumed_carried _ _) (carried_calls _ _) _ _ _ _ c.in-Carries.part c.fill-in-Carries.new.work _ _
    (c.get_mut-in-Carries.ensures.value ∙ c.in-Carries.part-is) (carries_view _ _ _) (carries_view _ _ _) c.fill-in-Carries.ensures)

pub fill-returns-in-Fills : goal.fill-returns-in-Fills
unfolding Rattle.cx_work.specs.declared.work.Work.TheViews.out-Work denote.Hole.Carrier.out
fill-returns-in-Fills t c = rw c.in-Fills.is
    (resumes_inside (fills (view_expr c.in-Fills.field-0.now) c.in-Fills.field-1 (view_put c.in-Fills.field-2.now) (view_puts c.in-Fills.field-3.now)) (λ value work. refl) (λ work. refl) _ _ _ _ c.in-Fills.part c.fill-in-Fills.new.work _ _
    (c.get_mut-in-Fills.ensures.value ∙ c.in-Fills.part-is) (fills_view _ _ _ _ _) (fills_view _ _ _ _ _) c.fill-in-Fills.ensures)

pub fill-returns-in-Needs : goal.fill-returns-in-Needs
unfolding Rattle.cx_work.specs.declared.work.Work.TheViews.out-Work denote.Hole.Carrier.out
fill-returns-in-Needs t c = rw c.in-Needs.is
    (all_resume_inside c.in-Needs.field-0 _ _ _ _ c.in-Needs.operands c.fill_all.new.works _ _ c.in-Needs.operands-is (needs_view _ _) (needs_view _ _) c.fill_all.ensures.resumes)

pub fill_all-fill-requires : goal.fill_all-fill-requires
fill_all-fill-requires t c = (subst (λ (most : ℕ). weight c.at_mut.result.now < most) c.decreases (one_is_smaller _ _ _ _ c.loop-index.invariant.kept (below c.loop-index-test.true c.len-index-end.ensures) c.at_mut.ensures.value), tt)

pub fill_all-loop-index-preserved : goal.fill_all-loop-index-preserved
fill_all-loop-index-preserved t c = record {
  kept = kept_on _ _ _ _ c.loop-index.invariant.kept;
  filled = filled_on _ _ _ _ _ _ c.at_mut.result.now _ c.loop-index.invariant.kept (below c.loop-index-test.true c.len-index-end.ensures) c.at_mut.ensures.value
      (went_on _ _ _ _ _ _ c.in_ok-fill.was c.fill.ensures) c.loop-index.invariant.filled;
}

pub fill_all-returns-clause-resumes : goal.fill_all-returns-clause-resumes
fill_all-returns-clause-resumes t c =
    filled_at_end _ _ _ _ _ c.loop-index.invariant.kept.0 (subst (λ (count : ℕ). count ≤ c.loop-index.index) c.len-index-end.ensures c.loop-index-test.false) c.loop-index.invariant.filled

pub fill_all-returns-in_err-fill-clause-resumes : goal.fill_all-returns-in_err-fill-clause-resumes
fill_all-returns-in_err-fill-clause-resumes t c =
    all_went_out _ c.from_residual.result _ _ _ _ c.from_residual.ensures.1
    (not_filled _ _ _ _ _ c.at_mut.result.now c.loop-index.invariant.kept (below c.loop-index-test.true c.len-index-end.ensures) c.at_mut.ensures.value
    (went_out _ _ _ _ _ _ c.in_err-fill.was c.fill.ensures) c.loop-index.invariant.filled)
