-- The runs of a program (ISO C99, 5.1.2.3): what is seen of one after so many steps.
use Rattle.std.specs.Prelude.{ℕ, zero, suc, ℤ, List, []}
use Rattle.cr_base.specs.declared.rule.URule.{URule}
use Rattle.straight_core.specs.Trees.{CProgram}
use Rattle.straight_mean.specs.Operands.{CFault, CWorld}
use Rattle.straight_mean.specs.State.{CControl, begins, evaluates, stores, calls_main, reaches, leaves, gives, has_ended, is_undefined, CState, beginning, statics_in, puts_in, c_step}
use Rattle.ext_calls.specs.Outside.{Outside, Events}

-- how far a run has come: it goes on, it has ended with a status, or its next step is undefined, by a
-- rule and at the line of a unit
pub data CProgress : Type 0 where
  going : CProgress
  ended : (status : ℤ) → CProgress
  undefined : (rule : URule) → (unit line : ℕ) → CProgress

-- what is seen of a run
pub record CSeen : Type 0 where
  pub events : Events
  pub progress : CProgress

abbrev pub undefined_by : CFault → CProgress
undefined_by fault = undefined fault.rule fault.place.unit fault.place.line

abbrev pub progress_at : CControl → CProgress
progress_at (begins one more) = going
progress_at (evaluates type place form purpose) = going
progress_at (stores one operand more) = going
progress_at calls_main = going
progress_at (reaches first levels) = going
progress_at leaves = going
progress_at (gives operand) = going
progress_at (has_ended status) = ended status
progress_at (is_undefined fault) = undefined_by fault

abbrev pub seen_at : CState → CSeen
seen_at state = record { events = state.world.events; progress = progress_at state.control }

-- the world before the first step
abbrev pub first_world : Outside → CWorld
first_world answers = record { memory = []; events = []; answers = answers }

-- the state before the first step
abbrev pub c_start : CProgram → List ℕ → Outside → CState
c_start program order answers = record {
  control = beginning [] (statics_in program.objects) (puts_in program.objects);
  frame = [];
  world = first_world answers;
  order = order;
}

-- the state so many steps after another
abbrev pub c_after : CProgram → ℕ → CState → CState
c_after program zero state = state
c_after program (suc steps) state = c_after program steps (c_step program state)

-- what is seen after n steps under an order and an outside
abbrev pub c_run : CProgram → List ℕ → Outside → ℕ → CSeen
c_run program order answers steps = seen_at (c_after program steps (c_start program order answers))

-- the order that always takes the leftmost node
abbrev pub leftmost : List ℕ
leftmost = []
