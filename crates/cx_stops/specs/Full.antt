-- Where no run stops for want of store (ISO C99, 5.1.2.3 and 6.2.4): over a store without a limit each object begins.
use Rattle.std.specs.Prelude.{ℕ, List, None}
use Rattle.cr_world.specs.World.{Outside, trail_of}
use Rattle.cx_core.specs.Trees.{CProgram}
use Rattle.cx_mean.specs.Run.{CProgress, going, ended, undefined, is_stuck, is_full, asks_for, is_astray, c_run_on}

-- every progress but that of a run for which the store has too little left, whatever it needs
abbrev pub NeverFull : CProgress → Type 0
NeverFull (is_full need left) = ⊥
NeverFull going = Unit {0}
NeverFull (ended status) = Unit {0}
NeverFull (undefined rule unit line) = Unit {0}
NeverFull (is_stuck unit line) = Unit {0}
NeverFull (asks_for call) = Unit {0}
NeverFull is_astray = Unit {0}

-- Law: a run of any program under a trail over a store without a limit never wants for store, after however many steps, under whatever
-- order and outside. No typing is asked for. That a call has no answer, or that an answer isn't the store's, may still stop it.
abbrev pub UnlimitedRunsAreNeverFull : Type 0
UnlimitedRunsAreNeverFull = (program : CProgram) (order : List ℕ) (outside : Outside) (steps : ℕ)
    → NeverFull (c_run_on program order (trail_of None) outside steps).progress
