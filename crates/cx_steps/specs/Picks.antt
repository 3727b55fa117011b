-- Steps of the full expression that is held.
use Rattle.std.specs.Prelude.{◌≡◌, ℕ, [], Option, Some, None, Result, Ok, Err}
use Rattle.cr_base.specs.declared.memory.Memory.{Memory}
use Rattle.cr_world.specs.World.{World}
use Rattle.cx_eval.specs.declared.step.Last.{Last}
use Rattle.cx_eval.specs.declared.step.Next.{Next}
use Rattle.cx_eval.specs.declared.step.Next.TheVariants as next
use Rattle.cx_eval.specs.Next.{Takes}
use Rattle.cx_eval.specs.Several.{TakesSome}
use Rattle.cx_machine.specs.Answers.{held_work}
use Rattle.cx_machine.specs.declared.machine.Machine.{Machine}
use Rattle.cx_machine.specs.declared.stop.Stop.{Stop}
use Rattle.cx_machine.specs.declared.stop.Stop.TheVariants as stop
use Rattle.cx_machine.specs.Machines.{view_control, view_machine}
use Rattle.cx_machine.specs.Steps.{Advances}
use Rattle.cx_mean.specs.Moves.{CPurpose}
use Rattle.cx_mean.specs.Operands.{CValue}
use Rattle.cx_mean.specs.Settings.{CSetting}
use Rattle.cx_mean.specs.State.{CState, calling, evaluates, going_on}
use Rattle.cx_mean.specs.Steps.{CPick, picked}
use Rattle.cx_mean.specs.Work.{CWork, finished, needs, chooses, tests, carries, updates, fills, waits, ready}
use Rattle.cx_moves.specs.declared.moves.Purpose.{Purpose}
use Rattle.cx_moves.specs.Sites.{view_purpose, view_site}
use Rattle.cx_outside.specs.States.{Around, Quiet}
use Rattle.cx_steps.specs.Choices.{scope_frame, stands_in_body}
use Rattle.cx_work.specs.declared.work.Work.{Work}
use Rattle.cx_work.specs.Views.{view_called, view_work}
use Rattle.mem_bytes.specs.Memory.{Blocks}

-- the node that is taken
abbrev pub pick_in : Machine → CPick
pick_in machine = picked machine.order.now (ready (held_work machine.work))

-- a full expression is held
abbrev pub IsHeld : Option Work → Type 0
IsHeld None = ⊥
IsHeld (Some work) = Unit {0}

-- it is finished, and gives a value
abbrev pub IsValueOf : CWork → CValue → Type 0
IsValueOf (finished operand) value = operand.value ≡ value
IsValueOf (needs node operands) value = ⊥
IsValueOf (chooses node first) value = ⊥
IsValueOf (tests node marks second) value = ⊥
IsValueOf (carries node marks part) value = ⊥
IsValueOf (updates node update stage marks) value = ⊥
IsValueOf (fills node marks one others held) value = ⊥
IsValueOf (waits node marks) value = ⊥

abbrev pub GivesValue : Option Work → CValue → Type 0
GivesValue None value = ⊥
GivesValue (Some work) value = IsValueOf (view_work work) value

-- it takes its step, and beside that only the order changes
pub record HasStepped (result : Result Next Memory) (setting : CSetting) (old new : Machine) (purpose : Purpose) (before later : Blocks) : Type 0 where
  pub takes : Takes result setting (scope_frame old (stands_in_body purpose)) before later (pick_in old).pick (held_work old.work) (held_work new.work)
  pub order : new.order.now ≡ (pick_in old).order
  pub site : new.site ≡ old.site
  pub statics : new.statics ≡ old.statics
  pub callers : new.callers ≡ old.callers
  pub held : IsHeld new.work

abbrev pub IsStepped : Result Next Memory → CSetting → (old new : Machine) → Purpose → (before later : Blocks) → Type 0
IsStepped (Ok next) setting old new purpose before later = HasStepped (Ok next) setting old new purpose before later
IsStepped (Err _) setting old new purpose before later = Unit {0}

-- the full expression that is held takes steps at its leftmost ready nodes, so many at most, and beside that nothing changes
pub record HasGone (result : Result Last Memory) (setting : CSetting) (old new : Machine) (purpose : Purpose) (before later : Blocks) (most : ℕ) : Type 0 where
  pub takes : TakesSome result setting (scope_frame old (stands_in_body purpose)) before later most (held_work old.work) (held_work new.work)
  pub order : new.order.now ≡ old.order.now
  pub site : new.site ≡ old.site
  pub statics : new.statics ≡ old.statics
  pub callers : new.callers ≡ old.callers
  pub held : IsHeld new.work

abbrev pub IsGone : Result Last Memory → CSetting → (old new : Machine) → Purpose → (before later : Blocks) → (most : ℕ) → Type 0
IsGone (Ok last) setting old new purpose before later most = HasGone (Ok last) setting old new purpose before later most
IsGone (Err _) setting old new purpose before later most = Unit {0}

-- what is next behind its step: it goes on, a function is called from it, or the step was undefined
abbrev pub Follows : Next → Result (Unit {0}) Stop → CSetting → (old : Machine) → Purpose → (later : World → CState) → (before after : Around) → Type 0
Follows next.Stepped result setting old purpose later before after =
    Advances (λ world. going_on (view_machine old world) world (held_work old.work) (view_purpose (view_site old.site) purpose)) result later before after
Follows (next.Calls called) result setting old purpose later before after =
    Advances (λ world. calling setting (view_machine old world) (held_work old.work) (view_purpose (view_site old.site) purpose) (view_called called) (view_called called).callee) result later before after
Follows (next.Undefined rule place) result setting old purpose later before after = (result ≡ Err (stop.Undefined rule place)) × Quiet before after

-- a state in which a full expression takes the next step
abbrev pub evaluating_in : CState → CWork → CPurpose → CState
evaluating_in state work purpose = record state { control = evaluates work purpose }

-- the full expression that is held takes the next step, and no number of the order is left
abbrev pub IsUnordered : Machine → Purpose → Type 0
IsUnordered machine purpose = (machine.order.now ≡ []) × (view_control machine ≡ evaluates (held_work machine.work) (view_purpose (view_site machine.site) purpose))
