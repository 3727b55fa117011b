-- A run of a linked program is never stuck (ISO C99, 3.4.3 and 5.1.2.3): it goes on, it ends, or it breaks a rule of undefined steps; and
-- a run under a trail may want an answer or more store, or be given an answer that isn't the store's.
use Rattle.std.specs.Prelude.{ℕ, ℤ, List}
use Rattle.cx_core.specs.Linked.{IsLinked}
use Rattle.cx_core.specs.Trees.{CProgram}
use Rattle.cx_mean.specs.Run.{CProgress, going, ended, undefined, is_stuck, is_full, asks_for, is_astray, c_run_on, c_run, c_start}
use Rattle.cx_mean.specs.Settings.{setting_of}
use Rattle.cx_mean.specs.State.{CState, c_step}
use Rattle.cr_world.specs.World.{Outside, Terms}
use Rattle.cx_typed_runs.specs.States.{IsTypedState}

-- Law: the state before the first step is typed
abbrev pub RunsBeginTyped : Type 0
RunsBeginTyped = (program : CProgram) (order : List ℕ) (terms : Terms) (outside : Outside) → IsLinked program
    → IsTypedState program (c_start program order terms outside)

-- Law: each step keeps a state typed
abbrev pub StatesStayTyped : Type 0
StatesStayTyped = (program : CProgram) (state : CState) → IsLinked program → IsTypedState program state
    → IsTypedState program (c_step (setting_of program) state)

-- every progress but that of a run that is stuck; what a run under a trail may want is among them
abbrev pub HasNamedProgress : CProgress → Type 0
HasNamedProgress (is_stuck unit line) = ⊥
HasNamedProgress going = Unit {0}
HasNamedProgress (ended status) = Unit {0}
HasNamedProgress (undefined rule unit line) = Unit {0}
HasNamedProgress (is_full need left) = Unit {0}
HasNamedProgress (asks_for call) = Unit {0}
HasNamedProgress is_astray = Unit {0}

-- what a run comes to that isn't one under a trail
abbrev pub WantsNothing : CProgress → Type 0
WantsNothing (is_full need left) = ⊥
WantsNothing (asks_for call) = ⊥
WantsNothing is_astray = ⊥
WantsNothing going = Unit {0}
WantsNothing (ended status) = Unit {0}
WantsNothing (undefined rule unit line) = Unit {0}
WantsNothing (is_stuck unit line) = Unit {0}

-- Law: a run of any program that isn't one under a trail never wants for store, nor for an answer
abbrev pub OpenRunsWantNothing : Type 0
OpenRunsWantNothing = (program : CProgram) (order : List ℕ) (outside : Outside) (steps : ℕ) → WantsNothing (c_run program order outside steps).progress

-- Law: no run of a linked program is stuck, after however many steps, under whatever order and outside
abbrev pub RunsAreNeverStuck : Type 0
RunsAreNeverStuck = (program : CProgram) (order : List ℕ) (terms : Terms) (outside : Outside) (steps : ℕ) → IsLinked program
    → HasNamedProgress (c_run_on program order terms outside steps).progress
