-- A run that has ended, or that goes no further, stays as it is.
use Rattle.std.proofs.Common.{◌≡◌, ℕ, zero, suc, ◌+◌, refl, ap, ◌∙◌, arith}
use Rattle.cx_mean.specs.Laws.{IsEnd, EndedRunsStay}
use Rattle.cx_mean.specs.Run.{seen_at, progress_at, c_start, c_after}
use Rattle.cx_mean.specs.Settings.{CSetting, setting_of}
use Rattle.cx_mean.specs.State.{CControl, begins_static, moves, evaluates, uses, takes, has_ended, has_stopped, CState, c_step, step_of}

pub step_stays : (setting : CSetting) (state : CState) (control : CControl) → IsEnd (progress_at control) → step_of setting state control ≡ state
step_stays setting state (has_ended status) end = refl
step_stays setting state (has_stopped stop) end = refl
step_stays setting state (begins_static one others) end = absurd end
step_stays setting state (moves move) end = absurd end
step_stays setting state (evaluates work purpose) end = absurd end
step_stays setting state (uses operand purpose) end = absurd end
step_stays setting state (takes one) end = absurd end

after_stays : (setting : CSetting) (more : ℕ) (state : CState) → IsEnd (progress_at state.control) → c_after setting more state ≡ state
after_stays setting zero state end = refl
after_stays setting (suc more) state end =
    ap (λ (one : CState). c_step setting one) (after_stays setting more state end) ∙ step_stays setting state state.control end

pub after_sum : (setting : CSetting) (more steps : ℕ) (state : CState) → c_after setting (steps + more) state ≡ c_after setting more (c_after setting steps state)
after_sum setting zero steps state =
    let same : steps + zero ≡ steps = omega arith in ap (λ (n : ℕ). c_after setting n state) same
after_sum setting (suc more) steps state =
    let same : steps + suc more ≡ suc (steps + more) = omega arith in
    ap (λ (n : ℕ). c_after setting n state) same ∙ ap (λ (one : CState). c_step setting one) (after_sum setting more steps state)

pub ended_runs_stay : EndedRunsStay
ended_runs_stay program order terms outside steps more end =
    ap seen_at (after_sum (setting_of program) more steps (c_start program order terms outside)
    ∙ after_stays (setting_of program) more (c_after (setting_of program) steps (c_start program order terms outside)) end)
