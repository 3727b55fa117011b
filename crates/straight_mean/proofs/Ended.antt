-- A run that has ended stays as it is.
use Rattle.std.proofs.Common.{◌≡◌, ℕ, zero, suc, ◌+◌, refl, ap, ◌∙◌, arith}
use Rattle.straight_core.specs.Trees.{CProgram}
use Rattle.straight_mean.specs.Laws.{IsEnd, EndedRunsStay}
use Rattle.straight_mean.specs.Run.{seen_at, progress_at, c_start, c_after}
use Rattle.straight_mean.specs.State.{CControl, begins, evaluates, stores, calls_main, reaches, leaves, gives, has_ended, is_undefined, CState, c_step, step_of}

step_stays : (program : CProgram) (state : CState) (control : CControl) → IsEnd (progress_at control) → step_of program state control ≡ state
step_stays program state (has_ended status) end = refl
step_stays program state (is_undefined fault) end = refl
step_stays program state (begins one more) end = absurd end
step_stays program state (evaluates type place form purpose) end = absurd end
step_stays program state (stores one operand more) end = absurd end
step_stays program state calls_main end = absurd end
step_stays program state (reaches first levels) end = absurd end
step_stays program state leaves end = absurd end
step_stays program state (gives operand) end = absurd end

after_stays : (program : CProgram) (more : ℕ) (state : CState) → IsEnd (progress_at state.control) → c_after program more state ≡ state
after_stays program zero state end = refl
after_stays program (suc more) state end =
    ap (λ (next : CState). c_after program more next) (step_stays program state state.control end) ∙ after_stays program more state end

after_sum : (program : CProgram) (steps more : ℕ) (state : CState) → c_after program (steps + more) state ≡ c_after program more (c_after program steps state)
after_sum program zero more state =
    let same : zero + more ≡ more = omega arith in
    ap (λ (n : ℕ). c_after program n state) same
after_sum program (suc steps) more state =
    let same : suc steps + more ≡ suc (steps + more) = omega arith in
    ap (λ (n : ℕ). c_after program n state) same ∙ after_sum program steps more (c_step program state)

pub ended_runs_stay : EndedRunsStay
ended_runs_stay program order answers steps more end =
    ap seen_at (after_sum program steps more (c_start program order answers)
    ∙ after_stays program more (c_after program steps (c_start program order answers)) end)
