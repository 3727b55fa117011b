-- The value of an expression, as the steps give it under the empty order, with anything around it.
use Rattle.std.proofs.Common.{◌≡◌, ℕ, ◌≤◌, ◌<◌, Bool, true, false, List, [], ◌∷◌, ◌++◌, Result, Ok, Err, refl, sym, ap, ◌∙◌, arith, le_trans, le_of_lt}
use Rattle.cr_base.specs.declared.refusal.Place.{Place}
use Rattle.cx_core.specs.Trees.{CTy, CExpr, expr, CForm, whole, null, object, code, load, deref, member, address, convert, unary, binary, and, or, cond, assign, assign_by, step, call, call_by, comma, literal, CExprs, no_exprs, more_exprs, put, CPuts, no_puts, more_puts, place_of, COuter}
use Rattle.cr_world.specs.World.{World, blocks_of, with_memory}
use Rattle.cx_mean.specs.Calls.{CCallee, defined, external, CCalled, CCalling, node_calling, returns_value, ends_with, COutcome, external_call}
use Rattle.cx_mean.specs.Initialisers.{put_stored}
use Rattle.cx_mean.specs.Leftmost.{CPiece, CCalls, c_done, c_update, c_updates, c_returned, c_callee, c_call, c_truth, c_tested, c_carried, c_and, c_or, c_part, c_value, c_form, c_values, c_fill}
use Rattle.cx_mean.specs.Marks.{Marks, at_sequence_point}
use Rattle.cx_mean.specs.Moves.{CPurpose}
use Rattle.cx_mean.specs.Nodes.{CDone, node_done, CUpdating, node_updating, update_computed, update_converted, update_stored, truth_of_value, tested, literal_cleared, marks_after_put, CChoice, chosen, chosen_and, chosen_or, chosen_part}
use Rattle.cx_mean.specs.Operands.{CWhy, scalar, names, COperand, at_once, Frame}
use Rattle.cx_mean.specs.Settings.{CSetting}
use Rattle.cx_mean.specs.State.{CCaller, CControl, evaluates, after_step, values_of_args, calling}
use Rattle.cx_mean.specs.Steps.{CDid, did, at_node, outcome_of, did_done, did_update, did_call, did_clear, finished_with, after_choice, inside, step_at}
use Rattle.cx_mean.specs.Work.{was_loaded, was_computed, was_converted, CWork, finished, needs, chooses, tests, updates, fills, waits, CWorks, no_works, more_works, begun, begun_form, all_begun, is_finished, after_marks, carried, filled, ready, resumed}
use Rattle.cx_mean.proofs.Around.{IsAround, around_both, around_first, around_second, around_put, around_part, behind, around_operand}
use Rattle.cx_mean.proofs.Contexts.{at_work, going_any, frame_in, part_shows, part_step, step_reaches, done_reaches}
use Rattle.cx_mean.proofs.Finished.{CallsReach, all_finished, behind_more, no_quiet, one_quiet_works, map_outcome, least, truth_value, ready_all, step_all}
use Rattle.cx_mean.proofs.Quiet.{all_quiet}
use Rattle.cx_mean.proofs.Reached.{standing, Reaches, reached, reaches_bind, reaches_tick, reaches_from, reaches_weak, reaches_bad, reaches_halted}
use Rattle.mem_bytes.specs.Access.{and_then}
use Rattle.mem_bytes.specs.declared.value.Value.TheVariants.{Whole as Number, Null, Code as Function}

module _ (setting : CSetting) (statics : Frame) (calls : CCalls) (bound : ℕ) (calls_reach : CallsReach setting statics calls bound) where
  -- ---- the steps of each kind of node

  update_reaches : (callers : List CCaller) (purpose : CPurpose) (around : CWork → CWork) → IsAround around →
      (type : CTy) (place : Place) (form : CForm) (one : CUpdating) (world : World) (steps : ℕ) →
      Reaches setting 0 steps (at_work statics callers purpose (around (updates (expr type place form) one.update was_loaded one.marks)) world)
      (c_update setting (frame_in statics purpose) place type one world steps)
      (λ operand after. at_work statics callers purpose (around (finished operand)) after)
  update_reaches callers purpose around is type place form one world steps =
      reaches_weak setting 1 steps _ _ _
      (step_reaches setting statics callers purpose around is (updates (expr type place form) one.update was_loaded one.marks) world refl (omega arith)
      place (update_computed setting (blocks_of world) one.update) (λ new. did (updates (expr type place form) one.update (was_computed new) one.marks) (blocks_of world)) refl
      _ _ steps
      (λ new left less. reaches_from setting left _
      (at_work statics callers purpose (around (updates (expr type place form) one.update (was_computed new) one.marks)) world) _ _
      (going_any statics callers (evaluates (around (updates (expr type place form) one.update was_loaded one.marks)) purpose) world world purpose (around (updates (expr type place form) one.update (was_computed new) one.marks)))
      (reaches_weak setting 1 left _ _ _ (step_reaches setting statics callers purpose around is (updates (expr type place form) one.update (was_computed new) one.marks) world refl (omega arith)
      place (update_converted setting (blocks_of world) one.update new) (λ value. did (updates (expr type place form) one.update (was_converted value) one.marks) (blocks_of world)) refl
      _ _ left
      (λ value more fewer. reaches_from setting more _
      (at_work statics callers purpose (around (updates (expr type place form) one.update (was_converted value) one.marks)) world) _ _
      (going_any statics callers (evaluates (around (updates (expr type place form) one.update (was_computed new) one.marks)) purpose) world world purpose (around (updates (expr type place form) one.update (was_converted value) one.marks)))
      (reaches_weak setting 1 more _ _ _ (done_reaches setting statics callers purpose around is (updates (expr type place form) one.update (was_converted value) one.marks) world refl (omega arith)
      place type (update_stored setting (frame_in statics purpose) (blocks_of world) one.update one.marks value) refl more)))))))

  updates_reach : (callers : List CCaller) (purpose : CPurpose) (around : CWork → CWork) → IsAround around →
      (type : CTy) (place : Place) (form : CForm) (work : CWork) (outcome : Result CUpdating CWhy) (world : World) → is_finished work ≡ false → 0 < ready work →
      step_at setting (frame_in statics purpose) (blocks_of world) 0 work ≡ at_node place (outcome_of (did_update (expr type place form) (blocks_of world)) outcome) → (steps : ℕ) →
      Reaches setting 1 steps (at_work statics callers purpose (around work) world)
      (c_updates setting (frame_in statics purpose) place type world outcome steps)
      (λ operand after. at_work statics callers purpose (around (finished operand)) after)
  updates_reach callers purpose around is type place form work outcome world not some does steps =
      step_reaches setting statics callers purpose around is work world not some place outcome (did_update (expr type place form) (blocks_of world)) does _ _ steps
      (λ one left less. reaches_from setting left _
      (at_work statics callers purpose (around (updates (expr type place form) one.update was_loaded one.marks)) world) _ _
      (going_any statics callers (evaluates (around work) purpose) world world purpose (around (updates (expr type place form) one.update was_loaded one.marks)))
      (update_reaches callers purpose around is type place form one world left))

  -- the end of a call of a function that no unit defines
  returned_reaches : (callers : List CCaller) (purpose : CPurpose) (around : CWork → CWork) → IsAround around →
      (type : CTy) (place : Place) (form : CForm) (marks : Marks) (called : CCalled) (callee : COuter) (control : CControl) (world : World) (left : ℕ) (outcome : COutcome) →
      external_call setting called callee world ≡ outcome →
      Reaches setting 0 left
      (calling setting (standing statics callers control world) (around (waits (expr type place form) marks)) purpose called (external callee))
      (c_returned type marks world left outcome)
      (λ operand after. at_work statics callers purpose (around (finished operand)) after)
  returned_reaches callers purpose around is type place form marks called callee control world left (Ok (returns_value value after)) same =
      reaches_from setting left _ (at_work statics callers purpose (around (finished (record { type = type; value = value; marks = marks }))) after) _ _
      (rw same (going_any statics callers control world after purpose (resumed value (around (waits (expr type place form) marks)))
      ∙ ap (λ (work : CWork). at_work statics callers purpose work after) (is.resumes value (waits (expr type place form) marks) refl)))
      (reached setting left (record { type = type; value = value; marks = marks }) after (λ operand after. at_work statics callers purpose (around (finished operand)) after))
  returned_reaches callers purpose around is type place form marks called callee control world left (Ok (ends_with status after)) same =
      rw same (reaches_halted setting statics callers status after left (λ operand after. at_work statics callers purpose (around (finished operand)) after))
  returned_reaches callers purpose around is type place form marks called callee control world left (Err stop) same =
      rw same (reaches_bad setting statics callers stop world left (λ operand after. at_work statics callers purpose (around (finished operand)) after))

  callee_reaches : (callers : List CCaller) (purpose : CPurpose) (around : CWork → CWork) → IsAround around →
      (type : CTy) (place : Place) (form : CForm) (one : CCalling) (callee : CCallee) (control : CControl) (world : World) (left : ℕ) → left < bound →
      Reaches setting 0 left
      (calling setting (standing statics callers control world) (around (waits (expr type place form) one.marks)) purpose one.called callee)
      (c_callee setting calls type one callee world left)
      (λ operand after. at_work statics callers purpose (around (finished operand)) after)
  callee_reaches callers purpose around is type place form one (defined callee) control world left less =
      reaches_bind setting left _ _ _ _ _
      (calls_reach (record { work = around (waits (expr type place form) one.marks); purpose = purpose } ∷ callers) callee (values_of_args one.called.args) world left less)
      (λ value after more fewer. reaches_from setting more _
      (at_work statics callers purpose (around (finished (record { type = type; value = value; marks = one.marks }))) after) _ _
      (ap (λ (work : CWork). at_work statics callers purpose work after) (is.resumes value (waits (expr type place form) one.marks) refl))
      (reached setting more (record { type = type; value = value; marks = one.marks }) after (λ operand after. at_work statics callers purpose (around (finished operand)) after)))
  callee_reaches callers purpose around is type place form one (external callee) control world left less =
      returned_reaches callers purpose around is type place form one.marks one.called callee control world left (external_call setting one.called callee world) refl

  -- a node that calls
  call_reaches : (callers : List CCaller) (purpose : CPurpose) (around : CWork → CWork) → IsAround around →
      (type : CTy) (place : Place) (form : CForm) (work : CWork) (outcome : Result CCalling CWhy) (world : World) → is_finished work ≡ false → 0 < ready work →
      step_at setting (frame_in statics purpose) (blocks_of world) 0 work ≡ at_node place (outcome_of (did_call (expr type place form)) outcome) →
      (steps : ℕ) → steps ≤ bound →
      Reaches setting 1 steps (at_work statics callers purpose (around work) world) (c_call setting calls place type world outcome steps)
      (λ operand after. at_work statics callers purpose (around (finished operand)) after)
  call_reaches callers purpose around is type place form work outcome world not some does steps within =
      step_reaches setting statics callers purpose around is work world not some place outcome (did_call (expr type place form)) does _ _ steps
      (λ one left less. callee_reaches callers purpose around is type place form one one.called.callee (evaluates (around work) purpose) world left (omega (less, within, arith)))

  -- ---- expressions

  -- a node with one operand that is finished
  one_reaches : (callers : List CCaller) (purpose : CPurpose) (around : CWork → CWork) → IsAround around →
      (type : CTy) (place : Place) (form : CForm) (one : COperand) (world : World) (outcome : Result CDone CWhy) →
      step_at setting (frame_in statics purpose) (blocks_of world) 0 (needs (expr type place form) (more_works (finished one) no_works))
      ≡ at_node place (outcome_of (did_done type) outcome) → (steps : ℕ) →
      Reaches setting 1 steps (at_work statics callers purpose (around (needs (expr type place form) (more_works (finished one) no_works))) world)
      (c_done place type world outcome steps)
      (λ operand after. at_work statics callers purpose (around (finished operand)) after)
  one_reaches callers purpose around is type place form one world outcome does steps =
      done_reaches setting statics callers purpose around is (needs (expr type place form) (more_works (finished one) no_works)) world refl (omega arith)
      place type outcome does steps

  two_reaches : (callers : List CCaller) (purpose : CPurpose) (around : CWork → CWork) → IsAround around →
      (type : CTy) (place : Place) (form : CForm) (one other : COperand) (world : World) (outcome : Result CDone CWhy) →
      step_at setting (frame_in statics purpose) (blocks_of world) 0 (needs (expr type place form) (more_works (finished one) (more_works (finished other) no_works)))
      ≡ at_node place (outcome_of (did_done type) outcome) → (steps : ℕ) →
      Reaches setting 1 steps (at_work statics callers purpose (around (needs (expr type place form) (more_works (finished one) (more_works (finished other) no_works)))) world)
      (c_done place type world outcome steps)
      (λ operand after. at_work statics callers purpose (around (finished operand)) after)
  two_reaches callers purpose around is type place form one other world outcome does steps =
      done_reaches setting statics callers purpose around is (needs (expr type place form) (more_works (finished one) (more_works (finished other) no_works))) world refl (omega arith)
      place type outcome does steps

  -- the second operand of `&&` or `||`
  tested_reaches : (callers : List CCaller) (purpose : CPurpose) (around : CWork → CWork) → IsAround around →
      (type : CTy) (place : Place) (form : CForm) (marks : Marks) (second : CExpr) (part : CPiece COperand) (world : World) (steps : ℕ) →
      Reaches setting 0 steps (at_work statics callers purpose (around (tests (expr type place form) marks (begun second))) world) (part world steps)
      (λ operand after. at_work statics callers purpose (around (tests (expr type place form) marks (finished operand))) after) →
      Reaches setting 0 steps (at_work statics callers purpose (around (tests (expr type place form) marks (begun second))) world)
      (c_tested place type marks part world steps)
      (λ operand after. at_work statics callers purpose (around (finished operand)) after)
  tested_reaches callers purpose around is type place form marks second part world steps first =
      reaches_bind setting steps _ _ _ _ _ first
      (λ other after left less. reaches_weak setting 1 left _ _ _
      (step_reaches setting statics callers purpose around is (tests (expr type place form) marks (finished other)) after refl (omega arith)
      place (tested (blocks_of after) other.value) (λ value. did (finished_with type value (after_marks marks other).marks) (blocks_of after)) refl _ _ left
      (λ value more fewer. reaches_from setting more _
      (at_work statics callers purpose (around (finished (record { type = type; value = value; marks = (after_marks marks other).marks }))) after) _ _
      (going_any statics callers (evaluates (around (tests (expr type place form) marks (finished other))) purpose) after after purpose
      (around (finished (record { type = type; value = value; marks = (after_marks marks other).marks }))))
      (reached setting more (record { type = type; value = value; marks = (after_marks marks other).marks }) after
      (λ operand last. at_work statics callers purpose (around (finished operand)) last)))))

  -- the chosen part of `?:` or a comma
  part_reaches : (callers : List CCaller) (purpose : CPurpose) (around : CWork → CWork) →
      (node : CExpr) (marks : Marks) (chosen_one : CExpr) (part : CPiece COperand) (world : World) (steps : ℕ) →
      Reaches setting 0 steps (at_work statics callers purpose (around (carried node marks (begun chosen_one))) world) (part world steps)
      (λ operand after. at_work statics callers purpose (around (carried node marks (finished operand))) after) →
      Reaches setting 0 steps (at_work statics callers purpose (around (carried node marks (begun chosen_one))) world)
      (c_carried marks part world steps)
      (λ operand after. at_work statics callers purpose (around (finished operand)) after)
  part_reaches callers purpose around node marks chosen_one part world steps first =
      reaches_bind setting steps _ _ _ _ _ first
      (λ other after left less. reached setting left (after_marks marks other) after (λ operand last. at_work statics callers purpose (around (finished operand)) last))

  -- the step behind the first operand of `&&`, `||` and `?:`
  truth_reaches : (callers : List CCaller) (purpose : CPurpose) (around : CWork → CWork) → IsAround around →
      (type : CTy) (place : Place) (form : CForm) (one : COperand) (world : World) (by : Bool → CChoice) →
      chosen form (blocks_of world) one.value ≡ and_then (truth_of_value (blocks_of world) one.value) (λ truth. Ok (by truth)) →
      (on : Bool → CPiece COperand) (steps : ℕ) →
      ((truth : Bool) (left : ℕ) → left < steps →
      Reaches setting 0 left
      (after_step setting (standing statics callers (evaluates (around (chooses (expr type place form) (finished one))) purpose) world) purpose
      (inside around (Ok (after_choice (expr type place form) type (blocks_of world) (at_sequence_point one.marks) (by truth)))))
      (on truth world left) (λ operand after. at_work statics callers purpose (around (finished operand)) after)) →
      Reaches setting 1 steps (at_work statics callers purpose (around (chooses (expr type place form) (finished one))) world)
      (c_truth place one on world steps)
      (λ operand after. at_work statics callers purpose (around (finished operand)) after)
  truth_reaches callers purpose around is type place form one world by same on steps rest =
      step_reaches setting statics callers purpose around is (chooses (expr type place form) (finished one)) world refl (omega arith)
      place (truth_of_value (blocks_of world) one.value)
      (λ truth. after_choice (expr type place form) type (blocks_of world) (at_sequence_point one.marks) (by truth))
      (ap (λ (outcome : Result CChoice CWhy). at_node place (outcome_of (after_choice (expr type place form) type (blocks_of world) (at_sequence_point one.marks)) outcome)) same
      ∙ ap (λ (outcome : Result CDid CWhy). at_node place outcome)
      (map_outcome (after_choice (expr type place form) type (blocks_of world) (at_sequence_point one.marks)) by (truth_of_value (blocks_of world) one.value)))
      on _ steps rest

  mutual
    pub value_reaches : (callers : List CCaller) (purpose : CPurpose) (around : CWork → CWork) → IsAround around →
        (e : CExpr) (world : World) (steps : ℕ) → steps ≤ bound →
        Reaches setting 0 steps (at_work statics callers purpose (around (begun e)) world) (c_value setting calls (frame_in statics purpose) e world steps)
        (λ operand after. at_work statics callers purpose (around (finished operand)) after)
    value_reaches callers purpose around is (expr type place form) world steps within =
        reaches_weak setting (least form) steps _ _ _ (form_reaches callers purpose around is type place form world steps within)

    pub form_reaches : (callers : List CCaller) (purpose : CPurpose) (around : CWork → CWork) → IsAround around →
        (type : CTy) (place : Place) (form : CForm) (world : World) (steps : ℕ) → steps ≤ bound →
        Reaches setting (least form) steps (at_work statics callers purpose (around (begun_form type place form)) world)
        (c_form setting calls (frame_in statics purpose) type place form world steps)
        (λ operand after. at_work statics callers purpose (around (finished operand)) after)
    form_reaches callers purpose around is type place (whole number) world steps within =
        reached setting steps (at_once type (scalar (Number number))) world (λ operand after. at_work statics callers purpose (around (finished operand)) after)
    form_reaches callers purpose around is type place null world steps within =
        reached setting steps (at_once type (scalar Null)) world (λ operand after. at_work statics callers purpose (around (finished operand)) after)
    form_reaches callers purpose around is type place (object number) world steps within =
        reached setting steps (at_once type (names number)) world (λ operand after. at_work statics callers purpose (around (finished operand)) after)
    form_reaches callers purpose around is type place (code number) world steps within =
        reached setting steps (at_once type (scalar (Function number))) world (λ operand after. at_work statics callers purpose (around (finished operand)) after)
    form_reaches callers purpose around is type place (load from) world steps within =
        reaches_bind setting steps _ _ _ _ _
        (value_reaches callers purpose (λ work. around (needs (expr type place (load from)) (more_works work no_works))) (around_both around (λ work. needs (expr type place (load from)) (more_works work no_works)) is (around_operand (expr type place (load from)) [] no_works no_quiet)) from world steps within)
        (λ one after left less. one_reaches callers purpose around is type place (load from) one after
        (node_done setting type (load from) (frame_in statics purpose) (blocks_of after) (one ∷ [])) refl left)
    form_reaches callers purpose around is type place (deref from) world steps within =
        reaches_bind setting steps _ _ _ _ _
        (value_reaches callers purpose (λ work. around (needs (expr type place (deref from)) (more_works work no_works))) (around_both around (λ work. needs (expr type place (deref from)) (more_works work no_works)) is (around_operand (expr type place (deref from)) [] no_works no_quiet)) from world steps within)
        (λ one after left less. one_reaches callers purpose around is type place (deref from) one after
        (node_done setting type (deref from) (frame_in statics purpose) (blocks_of after) (one ∷ [])) refl left)
    form_reaches callers purpose around is type place (member of spot) world steps within =
        reaches_bind setting steps _ _ _ _ _
        (value_reaches callers purpose (λ work. around (needs (expr type place (member of spot)) (more_works work no_works))) (around_both around (λ work. needs (expr type place (member of spot)) (more_works work no_works)) is (around_operand (expr type place (member of spot)) [] no_works no_quiet)) of world steps within)
        (λ one after left less. one_reaches callers purpose around is type place (member of spot) one after
        (node_done setting type (member of spot) (frame_in statics purpose) (blocks_of after) (one ∷ [])) refl left)
    form_reaches callers purpose around is type place (address of) world steps within =
        reaches_bind setting steps _ _ _ _ _
        (value_reaches callers purpose (λ work. around (needs (expr type place (address of)) (more_works work no_works))) (around_both around (λ work. needs (expr type place (address of)) (more_works work no_works)) is (around_operand (expr type place (address of)) [] no_works no_quiet)) of world steps within)
        (λ one after left less. one_reaches callers purpose around is type place (address of) one after
        (node_done setting type (address of) (frame_in statics purpose) (blocks_of after) (one ∷ [])) refl left)
    form_reaches callers purpose around is type place (convert value) world steps within =
        reaches_bind setting steps _ _ _ _ _
        (value_reaches callers purpose (λ work. around (needs (expr type place (convert value)) (more_works work no_works))) (around_both around (λ work. needs (expr type place (convert value)) (more_works work no_works)) is (around_operand (expr type place (convert value)) [] no_works no_quiet)) value world steps within)
        (λ one after left less. one_reaches callers purpose around is type place (convert value) one after
        (node_done setting type (convert value) (frame_in statics purpose) (blocks_of after) (one ∷ [])) refl left)
    form_reaches callers purpose around is type place (unary op value) world steps within =
        reaches_bind setting steps _ _ _ _ _
        (value_reaches callers purpose (λ work. around (needs (expr type place (unary op value)) (more_works work no_works))) (around_both around (λ work. needs (expr type place (unary op value)) (more_works work no_works)) is (around_operand (expr type place (unary op value)) [] no_works no_quiet)) value world steps within)
        (λ one after left less. one_reaches callers purpose around is type place (unary op value) one after
        (node_done setting type (unary op value) (frame_in statics purpose) (blocks_of after) (one ∷ [])) refl left)
    form_reaches callers purpose around is type place (binary op first second) world steps within =
        reaches_bind setting steps _ _ _ _ _
        (value_reaches callers purpose (λ work. around (needs (expr type place (binary op first second)) (more_works work (more_works (begun second) no_works)))) (around_both around (λ work. needs (expr type place (binary op first second)) (more_works work (more_works (begun second) no_works))) is (around_operand (expr type place (binary op first second)) [] (more_works (begun second) no_works) (one_quiet_works second))) first world steps within)
        (λ one after left less. reaches_bind setting left _ _ _ _ _
        (value_reaches callers purpose (λ work. around (needs (expr type place (binary op first second)) (more_works (finished one) (more_works work no_works)))) (around_both around (λ work. needs (expr type place (binary op first second)) (more_works (finished one) (more_works work no_works))) is (around_operand (expr type place (binary op first second)) (one ∷ []) no_works no_quiet)) second after left (le_trans less within))
        (λ other later more fewer. two_reaches callers purpose around is type place (binary op first second) one other later
        (node_done setting type (binary op first second) (frame_in statics purpose) (blocks_of later) (one ∷ other ∷ [])) refl more))
    form_reaches callers purpose around is type place (assign target value) world steps within =
        reaches_bind setting steps _ _ _ _ _
        (value_reaches callers purpose (λ work. around (needs (expr type place (assign target value)) (more_works work (more_works (begun value) no_works)))) (around_both around (λ work. needs (expr type place (assign target value)) (more_works work (more_works (begun value) no_works))) is (around_operand (expr type place (assign target value)) [] (more_works (begun value) no_works) (one_quiet_works value))) target world steps within)
        (λ one after left less. reaches_bind setting left _ _ _ _ _
        (value_reaches callers purpose (λ work. around (needs (expr type place (assign target value)) (more_works (finished one) (more_works work no_works)))) (around_both around (λ work. needs (expr type place (assign target value)) (more_works (finished one) (more_works work no_works))) is (around_operand (expr type place (assign target value)) (one ∷ []) no_works no_quiet)) value after left (le_trans less within))
        (λ other later more fewer. two_reaches callers purpose around is type place (assign target value) one other later
        (node_done setting type (assign target value) (frame_in statics purpose) (blocks_of later) (one ∷ other ∷ [])) refl more))
    form_reaches callers purpose around is type place (assign_by op computes target value) world steps within =
        reaches_bind setting steps _ _ _ _ _
        (value_reaches callers purpose (λ work. around (needs (expr type place (assign_by op computes target value)) (more_works work (more_works (begun value) no_works)))) (around_both around (λ work. needs (expr type place (assign_by op computes target value)) (more_works work (more_works (begun value) no_works))) is (around_operand (expr type place (assign_by op computes target value)) [] (more_works (begun value) no_works) (one_quiet_works value))) target world steps within)
        (λ one after left less. reaches_bind setting left _ _ _ _ _
        (value_reaches callers purpose (λ work. around (needs (expr type place (assign_by op computes target value)) (more_works (finished one) (more_works work no_works)))) (around_both around (λ work. needs (expr type place (assign_by op computes target value)) (more_works (finished one) (more_works work no_works))) is (around_operand (expr type place (assign_by op computes target value)) (one ∷ []) no_works no_quiet)) value after left (le_trans less within))
        (λ other later more fewer. updates_reach callers purpose around is type place (assign_by op computes target value)
        (needs (expr type place (assign_by op computes target value)) (more_works (finished one) (more_works (finished other) no_works)))
        (node_updating setting (assign_by op computes target value) (frame_in statics purpose) (blocks_of later) (one ∷ other ∷ [])) later refl (omega arith) refl more))
    form_reaches callers purpose around is type place (step up post on) world steps within =
        reaches_bind setting steps _ _ _ _ _
        (value_reaches callers purpose (λ work. around (needs (expr type place (step up post on)) (more_works work no_works))) (around_both around (λ work. needs (expr type place (step up post on)) (more_works work no_works)) is (around_operand (expr type place (step up post on)) [] no_works no_quiet)) on world steps within)
        (λ one after left less. updates_reach callers purpose around is type place (step up post on) (needs (expr type place (step up post on)) (more_works (finished one) no_works))
        (node_updating setting (step up post on) (frame_in statics purpose) (blocks_of after) (one ∷ [])) after refl (omega arith) refl left)
    form_reaches callers purpose around is type place (and first second) world steps within =
        reaches_bind setting steps _ _ _ _ _
        (value_reaches callers purpose (λ work. around (chooses (expr type place (and first second)) work)) (around_both around (λ work. chooses (expr type place (and first second)) work) is (around_first (expr type place (and first second)))) first world steps within)
        (λ one after left less. truth_reaches callers purpose around is type place (and first second) one after (chosen_and second) refl
        (c_and place type (at_sequence_point one.marks) (λ later more. c_value setting calls (frame_in statics purpose) second later more)) left
        (λ truth more fewer. elim truth as (λ truth. Reaches setting 0 more
        (after_step setting (standing statics callers (evaluates (around (chooses (expr type place (and first second)) (finished one))) purpose) after) purpose
        (inside around (Ok (after_choice (expr type place (and first second)) type (blocks_of after) (at_sequence_point one.marks) (chosen_and second truth)))))
        (c_and place type (at_sequence_point one.marks) (λ later rest. c_value setting calls (frame_in statics purpose) second later rest) truth after more)
        (λ operand last. at_work statics callers purpose (around (finished operand)) last)) [
          | true ↦ (reaches_from setting more _ (at_work statics callers purpose (around (tests (expr type place (and first second)) (at_sequence_point one.marks) (begun second))) after) _ _
              (going_any statics callers (evaluates (around (chooses (expr type place (and first second)) (finished one))) purpose) after after purpose (around (tests (expr type place (and first second)) (at_sequence_point one.marks) (begun second))))
              (tested_reaches callers purpose around is type place (and first second) (at_sequence_point one.marks) second (λ later rest. c_value setting calls (frame_in statics purpose) second later rest) after more
              (value_reaches callers purpose (λ work. around (tests (expr type place (and first second)) (at_sequence_point one.marks) work)) (around_both around (λ work. tests (expr type place (and first second)) (at_sequence_point one.marks) work) is (around_second (expr type place (and first second)) (at_sequence_point one.marks))) second after more (le_trans (le_of_lt fewer) (le_trans less within)))))
          | false ↦ (reaches_from setting more _ (at_work statics callers purpose (around (finished (record { type = type; value = truth_value false; marks = at_sequence_point one.marks }))) after) _ _
              (going_any statics callers (evaluates (around (chooses (expr type place (and first second)) (finished one))) purpose) after after purpose (around (finished (record { type = type; value = truth_value false; marks = at_sequence_point one.marks }))))
              (reached setting more (record { type = type; value = truth_value false; marks = at_sequence_point one.marks }) after (λ operand last. at_work statics callers purpose (around (finished operand)) last)))
        ]))
    form_reaches callers purpose around is type place (or first second) world steps within =
        reaches_bind setting steps _ _ _ _ _
        (value_reaches callers purpose (λ work. around (chooses (expr type place (or first second)) work)) (around_both around (λ work. chooses (expr type place (or first second)) work) is (around_first (expr type place (or first second)))) first world steps within)
        (λ one after left less. truth_reaches callers purpose around is type place (or first second) one after (chosen_or second) refl
        (c_or place type (at_sequence_point one.marks) (λ later more. c_value setting calls (frame_in statics purpose) second later more)) left
        (λ truth more fewer. elim truth as (λ truth. Reaches setting 0 more
        (after_step setting (standing statics callers (evaluates (around (chooses (expr type place (or first second)) (finished one))) purpose) after) purpose
        (inside around (Ok (after_choice (expr type place (or first second)) type (blocks_of after) (at_sequence_point one.marks) (chosen_or second truth)))))
        (c_or place type (at_sequence_point one.marks) (λ later rest. c_value setting calls (frame_in statics purpose) second later rest) truth after more)
        (λ operand last. at_work statics callers purpose (around (finished operand)) last)) [
          | true ↦ (reaches_from setting more _ (at_work statics callers purpose (around (finished (record { type = type; value = truth_value true; marks = at_sequence_point one.marks }))) after) _ _
              (going_any statics callers (evaluates (around (chooses (expr type place (or first second)) (finished one))) purpose) after after purpose (around (finished (record { type = type; value = truth_value true; marks = at_sequence_point one.marks }))))
              (reached setting more (record { type = type; value = truth_value true; marks = at_sequence_point one.marks }) after (λ operand last. at_work statics callers purpose (around (finished operand)) last)))
          | false ↦ (reaches_from setting more _ (at_work statics callers purpose (around (tests (expr type place (or first second)) (at_sequence_point one.marks) (begun second))) after) _ _
              (going_any statics callers (evaluates (around (chooses (expr type place (or first second)) (finished one))) purpose) after after purpose (around (tests (expr type place (or first second)) (at_sequence_point one.marks) (begun second))))
              (tested_reaches callers purpose around is type place (or first second) (at_sequence_point one.marks) second (λ later rest. c_value setting calls (frame_in statics purpose) second later rest) after more
              (value_reaches callers purpose (λ work. around (tests (expr type place (or first second)) (at_sequence_point one.marks) work)) (around_both around (λ work. tests (expr type place (or first second)) (at_sequence_point one.marks) work) is (around_second (expr type place (or first second)) (at_sequence_point one.marks))) second after more (le_trans (le_of_lt fewer) (le_trans less within)))))
        ]))
    form_reaches callers purpose around is type place (cond test first second) world steps within =
        reaches_bind setting steps _ _ _ _ _
        (value_reaches callers purpose (λ work. around (chooses (expr type place (cond test first second)) work)) (around_both around (λ work. chooses (expr type place (cond test first second)) work) is (around_first (expr type place (cond test first second)))) test world steps within)
        (λ one after left less. truth_reaches callers purpose around is type place (cond test first second) one after (chosen_part first second) refl
        (c_part (at_sequence_point one.marks) (λ later more. c_value setting calls (frame_in statics purpose) first later more) (λ later more. c_value setting calls (frame_in statics purpose) second later more)) left
        (λ truth more fewer. elim truth as (λ truth. Reaches setting 0 more
        (after_step setting (standing statics callers (evaluates (around (chooses (expr type place (cond test first second)) (finished one))) purpose) after) purpose
        (inside around (Ok (after_choice (expr type place (cond test first second)) type (blocks_of after) (at_sequence_point one.marks) (chosen_part first second truth)))))
        (c_part (at_sequence_point one.marks) (λ later rest. c_value setting calls (frame_in statics purpose) first later rest) (λ later rest. c_value setting calls (frame_in statics purpose) second later rest) truth after more)
        (λ operand last. at_work statics callers purpose (around (finished operand)) last)) [
          | true ↦ (reaches_from setting more _ (at_work statics callers purpose (around (carried (expr type place (cond test first second)) (at_sequence_point one.marks) (begun first))) after) _ _
              (going_any statics callers (evaluates (around (chooses (expr type place (cond test first second)) (finished one))) purpose) after after purpose (around (carried (expr type place (cond test first second)) (at_sequence_point one.marks) (begun first))))
              (part_reaches callers purpose around (expr type place (cond test first second)) (at_sequence_point one.marks) first (λ later rest. c_value setting calls (frame_in statics purpose) first later rest) after more
              (value_reaches callers purpose (λ work. around (carried (expr type place (cond test first second)) (at_sequence_point one.marks) work)) (around_both around (λ work. carried (expr type place (cond test first second)) (at_sequence_point one.marks) work) is (around_part (expr type place (cond test first second)) (at_sequence_point one.marks))) first after more (le_trans (le_of_lt fewer) (le_trans less within)))))
          | false ↦ (reaches_from setting more _ (at_work statics callers purpose (around (carried (expr type place (cond test first second)) (at_sequence_point one.marks) (begun second))) after) _ _
              (going_any statics callers (evaluates (around (chooses (expr type place (cond test first second)) (finished one))) purpose) after after purpose (around (carried (expr type place (cond test first second)) (at_sequence_point one.marks) (begun second))))
              (part_reaches callers purpose around (expr type place (cond test first second)) (at_sequence_point one.marks) second (λ later rest. c_value setting calls (frame_in statics purpose) second later rest) after more
              (value_reaches callers purpose (λ work. around (carried (expr type place (cond test first second)) (at_sequence_point one.marks) work)) (around_both around (λ work. carried (expr type place (cond test first second)) (at_sequence_point one.marks) work) is (around_part (expr type place (cond test first second)) (at_sequence_point one.marks))) second after more (le_trans (le_of_lt fewer) (le_trans less within)))))
        ]))
    form_reaches callers purpose around is type place (comma first second) world steps within =
        reaches_bind setting steps _ _ _ _ _
        (value_reaches callers purpose (λ work. around (chooses (expr type place (comma first second)) work)) (around_both around (λ work. chooses (expr type place (comma first second)) work) is (around_first (expr type place (comma first second)))) first world steps within)
        (λ one after left less. reaches_tick setting left (at_work statics callers purpose (around (chooses (expr type place (comma first second)) (finished one))) after) after _ _
        (part_shows statics callers purpose (around (chooses (expr type place (comma first second)) (finished one))) after (is.unfinished (chooses (expr type place (comma first second)) (finished one)) refl))
        (λ more fewer. reaches_from setting more _ (at_work statics callers purpose (around (carried (expr type place (comma first second)) (at_sequence_point one.marks) (begun second))) after) _ _
        (part_step setting statics callers purpose around is (chooses (expr type place (comma first second)) (finished one)) after refl (omega arith)
        ∙ going_any statics callers (evaluates (around (chooses (expr type place (comma first second)) (finished one))) purpose) after after purpose (around (carried (expr type place (comma first second)) (at_sequence_point one.marks) (begun second))))
        (part_reaches callers purpose around (expr type place (comma first second)) (at_sequence_point one.marks) second (λ later rest. c_value setting calls (frame_in statics purpose) second later rest) after more
        (value_reaches callers purpose (λ work. around (carried (expr type place (comma first second)) (at_sequence_point one.marks) work)) (around_both around (λ work. carried (expr type place (comma first second)) (at_sequence_point one.marks) work) is (around_part (expr type place (comma first second)) (at_sequence_point one.marks))) second after more (le_trans (le_of_lt fewer) (le_trans less within))))))
    form_reaches callers purpose around is type place (call number args) world steps within =
        reaches_bind setting steps _ _ _ _ _
        (values_reach callers purpose around is (expr type place (call number args)) [] args world steps within)
        (λ operands after left less. call_reaches callers purpose around is type place (call number args) (needs (expr type place (call number args)) (all_finished operands))
        (node_calling setting type place (call number args) operands) after refl (ready_all (expr type place (call number args)) operands)
        (step_all setting (frame_in statics purpose) (blocks_of after) (expr type place (call number args)) operands) left (le_trans less within))
    form_reaches callers purpose around is type place (call_by callee args) world steps within =
        reaches_bind setting steps _ _ _ _ _
        (value_reaches callers purpose (λ work. around (needs (expr type place (call_by callee args)) (more_works work (all_begun args)))) (around_both around (λ work. needs (expr type place (call_by callee args)) (more_works work (all_begun args))) is (around_operand (expr type place (call_by callee args)) [] (all_begun args) (λ value. all_quiet value args))) callee world steps within)
        (λ one after left less. reaches_bind setting left _ _ _ _ _
        (values_reach callers purpose around is (expr type place (call_by callee args)) (one ∷ []) args after left (le_trans less within))
        (λ operands later more fewer. call_reaches callers purpose around is type place (call_by callee args) (needs (expr type place (call_by callee args)) (all_finished (one ∷ operands)))
        (node_calling setting type place (call_by callee args) (one ∷ operands)) later refl (ready_all (expr type place (call_by callee args)) (one ∷ operands))
        (step_all setting (frame_in statics purpose) (blocks_of later) (expr type place (call_by callee args)) (one ∷ operands)) more (le_trans fewer (le_trans less within))))
    form_reaches callers purpose around is type place (literal number puts) world steps within =
        step_reaches setting statics callers purpose around is (needs (expr type place (literal number puts)) no_works) world refl (omega arith)
        place (literal_cleared setting (frame_in statics purpose) (blocks_of world) number puts) (did_clear (expr type place (literal number puts)) number puts) refl _ _ steps
        (λ one left less. reaches_from setting left _
        (at_work statics callers purpose (around (filled (expr type place (literal number puts)) number one.marks puts)) (with_memory one.blocks world)) _ _
        (going_any statics callers (evaluates (around (needs (expr type place (literal number puts)) no_works)) purpose) world (with_memory one.blocks world) purpose (around (filled (expr type place (literal number puts)) number one.marks puts)))
        (fill_reaches callers purpose around is type place number puts puts one.marks (with_memory one.blocks world) left (le_trans (le_of_lt less) within)))

    -- the puts of a compound literal
    fill_reaches : (callers : List CCaller) (purpose : CPurpose) (around : CWork → CWork) → IsAround around →
        (type : CTy) (place : Place) (number : ℕ) (all puts : CPuts) (marks : Marks) (world : World) (steps : ℕ) → steps ≤ bound →
        Reaches setting 0 steps (at_work statics callers purpose (around (filled (expr type place (literal number all)) number marks puts)) world)
        (c_fill setting calls (frame_in statics purpose) type number puts marks world steps)
        (λ operand after. at_work statics callers purpose (around (finished operand)) after)
    fill_reaches callers purpose around is type place number all no_puts marks world steps within =
        reached setting steps (record { type = type; value = names number; marks = marks }) world (λ operand after. at_work statics callers purpose (around (finished operand)) after)
    fill_reaches callers purpose around is type place number all (more_puts (put spot part value) others) marks world steps within =
        reaches_bind setting steps _ _ _ _ _
        (value_reaches callers purpose (λ work. around (fills (expr type place (literal number all)) marks (put spot part value) others work))
        (around_both around (λ work. fills (expr type place (literal number all)) marks (put spot part value) others work) is
        (around_put (expr type place (literal number all)) marks (put spot part value) others)) value world steps within)
        (λ operand after left less. reaches_weak setting 1 left _ _ _
        (step_reaches setting statics callers purpose around is (fills (expr type place (literal number all)) marks (put spot part value) others (finished operand)) after refl (omega arith)
        (place_of value) (put_stored setting (frame_in statics purpose) (blocks_of after) number spot part operand)
        (λ one. did (filled (expr type place (literal number all)) number (marks_after_put marks one.marks) others) one.blocks) refl _ _ left
        (λ one more fewer. reaches_from setting more _
        (at_work statics callers purpose (around (filled (expr type place (literal number all)) number (marks_after_put marks one.marks) others)) (with_memory one.blocks after)) _ _
        (going_any statics callers (evaluates (around (fills (expr type place (literal number all)) marks (put spot part value) others (finished operand))) purpose) after (with_memory one.blocks after) purpose
        (around (filled (expr type place (literal number all)) number (marks_after_put marks one.marks) others)))
        (fill_reaches callers purpose around is type place number all others (marks_after_put marks one.marks) (with_memory one.blocks after) more
        (le_trans (le_of_lt fewer) (le_trans less within))))))

    -- operands behind others that are finished
    values_reach : (callers : List CCaller) (purpose : CPurpose) (around : CWork → CWork) → IsAround around →
        (node : CExpr) (before : List COperand) (args : CExprs) (world : World) (steps : ℕ) → steps ≤ bound →
        Reaches setting 0 steps (at_work statics callers purpose (around (needs node (behind before (all_begun args)))) world)
        (c_values setting calls (frame_in statics purpose) args world steps)
        (λ operands after. at_work statics callers purpose (around (needs node (behind before (all_finished operands)))) after)
    values_reach callers purpose around is node before no_exprs world steps within =
        reached setting steps [] world (λ operands after. at_work statics callers purpose (around (needs node (behind before (all_finished operands)))) after)
    values_reach callers purpose around is node before (more_exprs first others) world steps within =
        reaches_bind setting steps _ _ _ _ _
        (value_reaches callers purpose (λ work. around (needs node (behind before (more_works work (all_begun others)))))
        (around_both around (λ work. needs node (behind before (more_works work (all_begun others)))) is
        (around_operand node before (all_begun others) (λ value. all_quiet value others))) first world steps within)
        (λ one after left less. reaches_bind setting left _ _ _ _ _
        (reaches_from setting left _ (at_work statics callers purpose (around (needs node (behind (before ++ one ∷ []) (all_begun others)))) after) _ _
        (ap (λ (works : CWorks). at_work statics callers purpose (around (needs node works)) after) (sym (behind_more before one (all_begun others))))
        (values_reach callers purpose around is node (before ++ one ∷ []) others after left (le_trans less within)))
        (λ rest later more fewer. reaches_from setting more _ (at_work statics callers purpose (around (needs node (behind before (all_finished (one ∷ rest))))) later) _ _
        (ap (λ (works : CWorks). at_work statics callers purpose (around (needs node works)) later) (behind_more before one (all_finished rest)))
        (reached setting more (one ∷ rest) later (λ operands last. at_work statics callers purpose (around (needs node (behind before (all_finished operands)))) last))))
