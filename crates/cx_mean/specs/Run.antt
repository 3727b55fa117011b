-- The runs of a program (ISO C99, 5.1.2.3): what is seen of one after so many steps.
use Rattle.std.specs.Prelude.{ℕ, zero, suc, ℤ, List, [], Option}
use Rattle.cr_base.specs.declared.rule.URule.{URule}
use Rattle.cx_core.specs.Trees.{CProgram}
use Rattle.cr_world.specs.World.{Outside, Terms, open_ended, trail_of, wrong, full, asks, astray, first_world, events_of}
use Rattle.cx_mean.specs.Operands.{CWhy, breaks, stuck, CStop}
use Rattle.cx_mean.specs.Settings.{CSetting, setting_of}
use Rattle.cx_mean.specs.State.{CControl, begins_static, moves, evaluates, uses, takes, has_ended, has_stopped, CState, beginning_statics, statics_in, c_step}
use Rattle.ext_calls.specs.declared.call.Call.{Call}
use Rattle.mem_bytes.specs.Counted.{Limit}

-- how far a run has come
pub data CProgress : Type 0 where
  -- it goes on
  going : CProgress
  -- it has ended with a status
  ended : (status : ℤ) → CProgress
  -- it came to an undefined step, by a rule and at the line of a unit; what is shown is what it had done before
  undefined : (rule : URule) → (unit line : ℕ) → CProgress
  -- its next step is one that no typed program has
  is_stuck : (unit line : ℕ) → CProgress
  -- under a trail: an object goes past the store's limit; a call has no answer; an answer isn't the store's
  is_full : (need left : ℕ) → CProgress
  asks_for : Call → CProgress
  is_astray : CProgress

-- what is seen of a run
pub record CSeen : Type 0 where
  pub events : List Call
  pub progress : CProgress

abbrev pub progress_of_fault : CWhy → ℕ → ℕ → CProgress
progress_of_fault (breaks rule) unit line = undefined rule unit line
progress_of_fault stuck unit line = is_stuck unit line

abbrev pub progress_of_stop : CStop → CProgress
progress_of_stop (wrong fault) = progress_of_fault fault.why fault.place.unit fault.place.line
progress_of_stop (full need left) = is_full need left
progress_of_stop (asks one) = asks_for one
progress_of_stop astray = is_astray

abbrev pub progress_at : CControl → CProgress
progress_at (begins_static one others) = going
progress_at (moves move) = going
progress_at (evaluates work purpose) = going
progress_at (uses operand purpose) = going
progress_at (takes one) = going
progress_at (has_ended status) = ended status
progress_at (has_stopped stop) = progress_of_stop stop

abbrev pub seen_at : CState → CSeen
seen_at state = record { events = events_of state.world; progress = progress_at state.control }

-- the state before the first step
abbrev pub c_start : CProgram → List ℕ → Terms → Outside → CState
c_start program order terms outside = record {
  control = beginning_statics (statics_in program.objects) (statics_in program.objects);
  statics = [];
  callers = [];
  world = first_world terms outside;
  order = order;
}

-- the state so many steps after another
abbrev pub c_after : CSetting → ℕ → CState → CState
c_after setting zero state = state
c_after setting (suc steps) state = c_step setting (c_after setting steps state)

-- what is seen after n steps under an order, on terms, and an outside
abbrev pub c_run_on : CProgram → List ℕ → Terms → Outside → ℕ → CSeen
c_run_on program order terms outside steps =
    seen_at (c_after (setting_of program) steps (c_start program order terms outside))

-- what is seen after n steps under an order and an outside
abbrev pub c_run : CProgram → List ℕ → Outside → ℕ → CSeen
c_run program order outside steps = c_run_on program order open_ended outside steps

-- the same under a trail, over a store with a limit
abbrev pub c_trailed : CProgram → List ℕ → Option Limit → (trail : List ℤ) → ℕ → CSeen
c_trailed program order limit trail steps = c_run_on program order (trail_of limit) (record { answers = trail }) steps

-- the order that always takes the leftmost node
abbrev pub leftmost : List ℕ
leftmost = []
