-- What an expression whose calls are quiet didn't write stays, in whatever order it is evaluated: by induction on its steps.
use Rattle.std.proofs.Common.{◌≡◌, ℕ, ◌≤◌, true, List, length, Option, Ok, Err, refl, sym, ap, subst, ◌∙◌, arith}
use Rattle.cr_world.specs.World.{World, blocks_of, wrong}
use Rattle.cx_core.specs.Trees.{CExpr, COuter, CProgram}
use Rattle.cx_mean.proofs.Kept.{Covers}
use Rattle.cx_mean.proofs.KeptWork.{writes_of}
use Rattle.cx_mean.specs.Calls.{CCallee, defined, external, CCalled, returns_value, ends_with, COutcome, external_call}
use Rattle.cx_mean.specs.Marks.{Range}
use Rattle.cx_mean.specs.Moves.{CPurpose}
use Rattle.cx_mean.specs.Operands.{CValue, Frame}
use Rattle.cx_mean.specs.Settings.{CSetting}
use Rattle.cx_mean.specs.State.{CState, frame_for, answered_by, calling, after_step}
use Rattle.cx_mean.specs.Steps.{did, asks_call, CStepped, step_at, CPick, picked}
use Rattle.cx_mean.specs.Unwritten.{KeepsBeside}
use Rattle.cx_mean.specs.Work.{CWork, finished, needs, chooses, tests, carries, updates, fills, waits, CWorks, no_works, more_works, begun, resumed, all_resumed, ready}
use Rattle.mem_bytes.specs.Access.{live_read, part_of, block_value, block_field, record_part_of}
use Rattle.mem_bytes.specs.Laws.{HoldsCells}
use Rattle.mem_bytes.specs.Memory.{Block, Blocks}
use Rattle.cx_stays.proofs.CallLeaves.{OutcomeLeaves, outside_leaves}
use Rattle.cx_stays.proofs.HeldSteps.{step_kept}
use Rattle.cx_stays.proofs.HeldTrees.{IsHeldWork, begun_held, Moved, Asked, StepKept}
use Rattle.cx_stays.proofs.Resumed.{resumed_writes, resumed_held}
use Rattle.cx_stays.proofs.QuietCalls.{Untouched, QuietOutcome, quiet_call}
use Rattle.cx_stays.proofs.QuietSteps.{IsQuietWork, AreQuietWorks, begun_quiet, carried_quiet, StepQuiet, step_quiet}
use Rattle.cx_stays.proofs.QuietWithout.{quiet_without}
use Rattle.cx_stays.proofs.StepLives.{StepLives, step_lives}
use Rattle.cx_stays.specs.Stays.{calls_only_quiet, EvaluatesIn, GoesOnIn, KeepsMadeBeside, IsQuietCallee, CallsQuietly, QuietCallsLeaveRest}

-- ---- the value of a call

mutual
  resumed_quiet : (program : CProgram) (value : CValue) (work : CWork) → IsQuietWork program work → IsQuietWork program (resumed value work)
  resumed_quiet program value (finished operand) is = tt
  resumed_quiet program value (needs node operands) is = (is.0, all_resumed_quiet program value operands is.1)
  resumed_quiet program value (chooses node first) is = (is.0, resumed_quiet program value first is.1)
  resumed_quiet program value (tests node marks second) is = resumed_quiet program value second is
  resumed_quiet program value (carries node marks part) is = carried_quiet program node marks (resumed value part) (resumed_quiet program value part is)
  resumed_quiet program value (updates node update stage marks) is = tt
  resumed_quiet program value (fills node marks one others given) is = (is.0, resumed_quiet program value given is.1)
  resumed_quiet program value (waits node marks) is = tt

  all_resumed_quiet : (program : CProgram) (value : CValue) (works : CWorks) → AreQuietWorks program works → AreQuietWorks program (all_resumed value works)
  all_resumed_quiet program value no_works are = tt
  all_resumed_quiet program value (more_works first others) are = (resumed_quiet program value first are.0, all_resumed_quiet program value others are.1)

-- ---- memories

keeps_same : (ranges : List Range) (memory : Blocks) → KeepsMadeBeside ranges memory memory
keeps_same ranges memory = record {
  cells = λ at count within avoids. refl;
  values = λ at kind within avoids. refl;
  records = λ at size align within avoids. refl;
  fields = λ at bit width within place avoids. refl;
}

-- a step behind others, of which more is known to have been written
keeps_step : (large small : List Range) (before now after : Blocks) → Covers large small → KeepsMadeBeside small before now → KeepsBeside large now after → KeepsMadeBeside large before after
keeps_step large small before now after covers one other = record {
  cells = λ at count within avoids. other.cells at count avoids ∙ one.cells at count within (covers _ avoids);
  values = λ at kind within avoids. other.values at kind avoids ∙ one.values at kind within (covers _ avoids);
  records = λ at size align within avoids. other.records at size align avoids ∙ one.records at size align within (covers _ avoids);
  fields = λ at bit width within place avoids. other.fields at bit width place avoids ∙ one.fields at bit width within place (covers _ avoids);
}

keeps_call : (large small : List Range) (before now after : Blocks) → Covers large small → length before ≤ length now → KeepsMadeBeside small before now → Untouched now after → KeepsMadeBeside large before after
keeps_call large small before now after covers grows one other = record {
  cells = λ at count within avoids.
      ap (λ (slot : Option Block). live_read slot (λ block. part_of block at.offset count)) (other.same at.block (omega (arith, within, grows))) ∙ one.cells at count within (covers _ avoids);
  values = λ at kind within avoids.
      ap (λ (slot : Option Block). live_read slot (λ block. block_value block at.offset kind)) (other.same at.block (omega (arith, within, grows))) ∙ one.values at kind within (covers _ avoids);
  records = λ at size align within avoids.
      ap (λ (slot : Option Block). live_read slot (λ block. record_part_of block at.offset size align)) (other.same at.block (omega (arith, within, grows)))
      ∙ one.records at size align within (covers _ avoids);
  fields = λ at bit width within place avoids.
      ap (λ (slot : Option Block). live_read slot (λ block. block_field block at.offset bit width)) (other.same at.block (omega (arith, within, grows)))
      ∙ one.fields at bit width within place (covers _ avoids);
}

-- ---- runs of steps

-- what holds behind any steps of an expression that began in an earlier world
record Behind (program : CProgram) (before : World) (work : CWork) (now : World) : Type 0 where
  stays : KeepsMadeBeside (writes_of work) (blocks_of before) (blocks_of now)
  held : HoldsCells (blocks_of now)
  work_held : IsHeldWork work
  quiet : IsQuietWork program work
  grows : length (blocks_of before) ≤ length (blocks_of now)

behind_call : (setting : CSetting) (before now after : World) (work next : CWork) (called : CCalled) (callee : COuter) (value : CValue) → Behind setting.program before work now
    → Asked (writes_of work) called next → StepQuiet setting.program (Ok (asks_call called next)) → called.callee ≡ external callee → external_call setting called callee now ≡ Ok (returns_value value after)
    → Behind setting.program before (resumed value next) after
behind_call setting before now after work next called callee value behind asked quiet same answer =
    let left : QuietOutcome now (Ok (returns_value value after)) = subst (QuietOutcome now) answer (quiet_call setting called callee now (subst IsQuietCallee same quiet.0)) in
    let leaves : OutcomeLeaves now (Ok (returns_value value after)) = subst (OutcomeLeaves now) answer (outside_leaves setting called callee now) in
    record {
      stays = subst (λ (ranges : List Range). KeepsMadeBeside ranges (blocks_of before) (blocks_of after)) (sym (resumed_writes value next))
          (keeps_call (writes_of next) (writes_of work) (blocks_of before) (blocks_of now) (blocks_of after) asked.covers behind.grows behind.stays left);
      held = leaves.1.held behind.held;
      work_held = resumed_held value leaves.0 next asked.work_is;
      quiet = resumed_quiet setting.program value next quiet.1;
      grows = omega (arith, behind.grows, leaves.1.lives.grows);
    }

steps_kept : (setting : CSetting) (frame : Frame) (e : CExpr) (before end : World) (last : CWork) → calls_only_quiet setting.program e ≡ true → HoldsCells (blocks_of before)
    → EvaluatesIn setting frame (begun e) before last end → Behind setting.program before last end
steps_kept setting frame e before end last quiet held EvaluatesIn.not_yet = record {
  stays = keeps_same (writes_of (begun e)) (blocks_of before);
  held = held;
  work_held = begun_held e;
  quiet = begun_quiet setting.program e quiet;
  grows = omega arith;
}
steps_kept setting frame e before end last quiet held (EvaluatesIn.and_then_at {work} {next} {now} {after} pick steps same) =
    let behind = steps_kept setting frame e before now work quiet held steps in
    let moved : Moved (writes_of work) (blocks_of now) last after =
    subst (StepKept (writes_of work) (blocks_of now)) same (step_kept setting frame (blocks_of now) behind.held work pick behind.work_held) in
    let lives : StepLives (blocks_of now) (Ok (did last after)) = subst (StepLives (blocks_of now)) same (step_lives setting frame (blocks_of now) work pick) in
    let is_quiet : StepQuiet setting.program (Ok (did last after)) = subst (StepQuiet setting.program) same (step_quiet setting frame (blocks_of now) work pick behind.quiet) in
    record {
      stays = keeps_step (writes_of last) (writes_of work) (blocks_of before) (blocks_of now) after moved.covers behind.stays moved.stays;
      held = moved.held;
      work_held = moved.work_is;
      quiet = is_quiet;
      grows = omega (arith, behind.grows, lives.grows);
    }
steps_kept setting frame e before end last quiet held (EvaluatesIn.and_then_called {work} {next} {now} {after} {called} {callee} {value} pick steps same is answer) =
    let behind = steps_kept setting frame e before now work quiet held steps in
    let asked : Asked (writes_of work) called next =
    subst (StepKept (writes_of work) (blocks_of now)) same (step_kept setting frame (blocks_of now) behind.held work pick behind.work_held) in
    let is_quiet : StepQuiet setting.program (Ok (asks_call called next)) = subst (StepQuiet setting.program) same (step_quiet setting frame (blocks_of now) work pick behind.quiet) in
    behind_call setting before now after work next called callee value behind asked is_quiet is answer

called_quietly : (program : CProgram) (outcome : CStepped) → StepQuiet program outcome → CallsQuietly outcome
called_quietly program (Ok (did work after)) is = tt
called_quietly program (Ok (asks_call called work)) is = is.0
called_quietly program (Err fault) is = tt

-- ---- steps of runs

module _ (setting : CSetting) (state : CState) (e : CExpr) (before : World) (purpose : CPurpose) (work : CWork) (one : CPick) (steps : EvaluatesIn setting (frame_for state purpose) (begun e) before work state.world) where
  goes_after_call : (called : CCalled) (next : CWork) (callee : COuter) → step_at setting (frame_for state purpose) (blocks_of state.world) one.pick work ≡ Ok (asks_call called next)
      → called.callee ≡ external callee → (outcome : COutcome) → external_call setting called callee state.world ≡ outcome
      → GoesOnIn setting state purpose (begun e) before (answered_by (record state { order = one.order }) next purpose outcome)
  goes_after_call called next callee same is (Ok (returns_value value world)) answer = GoesOnIn.goes_on one.order (EvaluatesIn.and_then_called one.pick steps same is answer)
  goes_after_call called next callee same is (Ok (ends_with status world)) answer = GoesOnIn.ends one.order world status
  goes_after_call called next callee same is (Err stop) answer = GoesOnIn.goes_no_further one.order stop

  goes_calling : (called : CCalled) (next : CWork) (callee : CCallee) → step_at setting (frame_for state purpose) (blocks_of state.world) one.pick work ≡ Ok (asks_call called next)
      → called.callee ≡ callee → IsQuietCallee callee → GoesOnIn setting state purpose (begun e) before (calling setting (record state { order = one.order }) next purpose called callee)
  goes_calling called next (defined own) same is quiet = absurd quiet
  goes_calling called next (external outer) same is quiet = goes_after_call called next outer same is (external_call setting called outer state.world) refl

  goes_stepping : (outcome : CStepped) → step_at setting (frame_for state purpose) (blocks_of state.world) one.pick work ≡ outcome → CallsQuietly outcome
      → GoesOnIn setting state purpose (begun e) before (after_step setting (record state { order = one.order }) purpose outcome)
  goes_stepping (Ok (did next blocks)) same quiet = GoesOnIn.goes_on one.order (EvaluatesIn.and_then_at one.pick steps same)
  goes_stepping (Ok (asks_call called next)) same quiet = goes_calling called next called.callee same refl quiet
  goes_stepping (Err fault) same quiet = GoesOnIn.goes_no_further one.order (wrong fault)

-- ---- the law

calls_quietly_on : (setting : CSetting) (frame : Frame) (e : CExpr) (before now : World) (work : CWork) (pick : ℕ) → calls_only_quiet setting.program e ≡ true → HoldsCells (blocks_of before)
    → EvaluatesIn setting frame (begun e) before work now → CallsQuietly (step_at setting frame (blocks_of now) pick work)
calls_quietly_on setting frame e before now work pick quiet held steps =
    let behind = steps_kept setting frame e before now work quiet held steps in
    called_quietly setting.program (step_at setting frame (blocks_of now) pick work) (step_quiet setting frame (blocks_of now) work pick behind.quiet)

pub quiet_calls_leave_rest : QuietCallsLeaveRest
quiet_calls_leave_rest = record {
  without_calls = λ program e none. quiet_without program e none;
  stays = λ setting frame e before after operand quiet held steps. (steps_kept setting frame e before after (finished operand) quiet held steps).stays;
  holds = λ setting frame e before now work quiet held steps. (steps_kept setting frame e before now work quiet held steps).held;
  calls = λ setting frame e before now work pick quiet held steps. calls_quietly_on setting frame e before now work pick quiet held steps;
  runs = λ setting state e before work purpose quiet held steps.
      let one = picked state.order (ready work) in
      goes_stepping setting state e before purpose work one steps (step_at setting (frame_for state purpose) (blocks_of state.world) one.pick work) refl
      (calls_quietly_on setting (frame_for state purpose) e before state.world work one.pick quiet held steps);
}
