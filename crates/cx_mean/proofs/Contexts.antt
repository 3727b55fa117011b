-- Steps of a full expression under the empty order, at a part that is ready.
use Rattle.std.proofs.Common.{◌≡◌, ℕ, zero, suc, ◌<◌, false, true≢false, List, [], ◌++◌, Result, Ok, Err, refl, ap, ◌∙◌}
use Rattle.cr_base.specs.declared.refusal.Place.{Place}
use Rattle.cx_core.specs.Trees.{CTy}
use Rattle.cr_world.specs.World.{World, blocks_of, with_memory}
use Rattle.cx_mean.specs.Leftmost.{CPiece, or_bad, one_step, c_done}
use Rattle.cx_mean.specs.Moves.{CPurpose, drops_it, turns_on, calls_main}
use Rattle.cx_mean.specs.Nodes.{CDone}
use Rattle.cx_mean.specs.Operands.{CWhy, Frame, stops}
use Rattle.cx_mean.specs.Run.{going}
use Rattle.cx_mean.specs.Settings.{CSetting}
use Rattle.cx_mean.specs.State.{CCaller, CControl, moves, evaluates, CState, going_on, own_frame, after_step, c_step}
use Rattle.cx_mean.specs.Steps.{CDid, CStepped, at_node, outcome_of, did_done, inside, step_at, CPick, picked}
use Rattle.cx_mean.specs.Work.{CWork, finished, is_finished, ready}
use Rattle.cx_mean.proofs.Around.{IsAround}
use Rattle.cx_mean.proofs.Reached.{standing, shows, Reaches, reached, reaches_tick, reaches_from, reaches_bad}

-- the state in which this is left of a full expression, one of whose steps was taken
abbrev pub at_work : Frame → List CCaller → CPurpose → CWork → World → CState
at_work statics callers purpose work world = going_on (standing statics callers (moves calls_main) world) world work purpose

pub going_any : (statics : Frame) (callers : List CCaller) (control : CControl) (before world : World) (purpose : CPurpose) (work : CWork) →
    going_on (standing statics callers control before) world work purpose ≡ at_work statics callers purpose work world
going_any statics callers control before world (drops_it site) (finished operand) = refl
going_any statics callers control before world (turns_on site) (finished operand) = refl
going_any statics callers control before world purpose (finished operand) = refl
going_any statics callers control before world purpose work = refl

pub work_evaluates : (statics : Frame) (callers : List CCaller) (purpose : CPurpose) (work : CWork) (world : World) → is_finished work ≡ false →
    at_work statics callers purpose work world ≡ standing statics callers (evaluates work purpose) world
work_evaluates statics callers purpose (finished operand) world not = absurd (true≢false not)
work_evaluates statics callers purpose work world not = refl

picked_empty : (count : ℕ) → picked [] count ≡ record { pick = 0; order = [] }
picked_empty zero = refl
picked_empty (suc zero) = refl
picked_empty (suc (suc n)) = refl

-- the frame of a full expression
abbrev pub frame_in : Frame → CPurpose → Frame
frame_in statics purpose = own_frame purpose ++ statics

evaluates_step : (setting : CSetting) (statics : Frame) (callers : List CCaller) (purpose : CPurpose) (work : CWork) (world : World) →
    c_step setting (standing statics callers (evaluates work purpose) world)
    ≡ after_step setting (standing statics callers (evaluates work purpose) world) purpose
    (step_at setting (frame_in statics purpose) (blocks_of world) 0 work)
evaluates_step setting statics callers purpose work world =
    ap (λ (one : CPick). after_step setting (record (standing statics callers (evaluates work purpose) world) { order = one.order }) purpose
    (step_at setting (frame_in statics purpose) (blocks_of world) one.pick work))
    (picked_empty (ready work))

-- a part with a ready node: the run goes on, and the step is that of the part
pub part_shows : (statics : Frame) (callers : List CCaller) (purpose : CPurpose) (work : CWork) (world : World) → is_finished work ≡ false →
    shows (at_work statics callers purpose work world) world going
part_shows statics callers purpose work world not = rw (work_evaluates statics callers purpose work world not) refl

pub part_step : (setting : CSetting) (statics : Frame) (callers : List CCaller) (purpose : CPurpose) (around : CWork → CWork) → IsAround around →
    (work : CWork) (world : World) → is_finished work ≡ false → 0 < ready work →
    c_step setting (at_work statics callers purpose (around work) world)
    ≡ after_step setting (standing statics callers (evaluates (around work) purpose) world) purpose
    (inside around (step_at setting (frame_in statics purpose) (blocks_of world) 0 work))
part_step setting statics callers purpose around is work world not some =
    ap (λ (one : CState). c_step setting one) (work_evaluates statics callers purpose (around work) world (is.unfinished work not))
    ∙ (evaluates_step setting statics callers purpose (around work) world
    ∙ ap (λ (outcome : CStepped). after_step setting (standing statics callers (evaluates (around work) purpose) world) purpose outcome)
    (is.steps setting (frame_in statics purpose) (blocks_of world) work not some))

outcome_reaches : {A B : Type 0} (setting : CSetting) (statics : Frame) (callers : List CCaller) (purpose : CPurpose) (around : CWork → CWork)
    (control : CControl) (world : World) (place : Place) (outcome : Result A CWhy) (make : A → CDid) (on : A → CPiece B) (next : B → World → CState) (left : ℕ) →
    ((one : A) → Reaches setting 0 left (after_step setting (standing statics callers control world) purpose (inside around (Ok (make one)))) (on one world left) next) →
    Reaches setting 0 left (after_step setting (standing statics callers control world) purpose (inside around (at_node place (outcome_of make outcome))))
    (or_bad place outcome on world left) next
outcome_reaches setting statics callers purpose around control world place (Ok one) make on next left rest = rest one
outcome_reaches setting statics callers purpose around control world place (Err why) make on next left rest =
    reaches_bad setting statics callers (stops why place) world left next

-- a step of a part, and what follows it
pub step_reaches : {A B : Type 0} (setting : CSetting) (statics : Frame) (callers : List CCaller) (purpose : CPurpose) (around : CWork → CWork) → IsAround around →
    (work : CWork) (world : World) → is_finished work ≡ false → 0 < ready work →
    (place : Place) (outcome : Result A CWhy) (make : A → CDid) →
    step_at setting (frame_in statics purpose) (blocks_of world) 0 work ≡ at_node place (outcome_of make outcome) →
    (on : A → CPiece B) (next : B → World → CState) (steps : ℕ) →
    ((one : A) (left : ℕ) → left < steps →
    Reaches setting 0 left (after_step setting (standing statics callers (evaluates (around work) purpose) world) purpose (inside around (Ok (make one)))) (on one world left) next) →
    Reaches setting 1 steps (at_work statics callers purpose (around work) world) (one_step place outcome on world steps) next
step_reaches setting statics callers purpose around is work world not some place outcome make does on next steps rest =
    reaches_tick setting steps (at_work statics callers purpose (around work) world) world (λ left. or_bad place outcome on world left) next
    (part_shows statics callers purpose (around work) world (is.unfinished work not))
    (λ left less. reaches_from setting left
    (c_step setting (at_work statics callers purpose (around work) world))
    (after_step setting (standing statics callers (evaluates (around work) purpose) world) purpose (inside around (at_node place (outcome_of make outcome))))
    (or_bad place outcome on world left) next
    (part_step setting statics callers purpose around is work world not some
    ∙ ap (λ (one : CStepped). after_step setting (standing statics callers (evaluates (around work) purpose) world) purpose (inside around one)) does)
    (outcome_reaches setting statics callers purpose around (evaluates (around work) purpose) world place outcome make on next left (λ one. rest one left less)))

-- a node that is finished by its step, which touches memory alone
pub done_reaches : (setting : CSetting) (statics : Frame) (callers : List CCaller) (purpose : CPurpose) (around : CWork → CWork) → IsAround around →
    (work : CWork) (world : World) → is_finished work ≡ false → 0 < ready work →
    (place : Place) (type : CTy) (outcome : Result CDone CWhy) →
    step_at setting (frame_in statics purpose) (blocks_of world) 0 work ≡ at_node place (outcome_of (did_done type) outcome) → (steps : ℕ) →
    Reaches setting 1 steps (at_work statics callers purpose (around work) world) (c_done place type world outcome steps)
    (λ operand after. at_work statics callers purpose (around (finished operand)) after)
done_reaches setting statics callers purpose around is work world not some place type outcome does steps =
    step_reaches setting statics callers purpose around is work world not some place outcome (did_done type) does _ _ steps
    (λ one left less. reaches_from setting left _
    (at_work statics callers purpose (around (finished (record { type = type; value = one.value; marks = one.marks }))) (with_memory one.blocks world)) _ _
    (going_any statics callers (evaluates (around work) purpose) world (with_memory one.blocks world) purpose
    (around (finished (record { type = type; value = one.value; marks = one.marks }))))
    (reached setting left (record { type = type; value = one.value; marks = one.marks }) (with_memory one.blocks world)
    (λ operand after. at_work statics callers purpose (around (finished operand)) after)))
