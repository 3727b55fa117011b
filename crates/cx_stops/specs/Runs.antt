-- Where a run comes to an undefined step (ISO C99, 3.4.3): at a place of its program's text, which names a unit and a line of it (5.1.1.1
-- and 6.10.4).
use Rattle.std.specs.Prelude.{◌≡◌, ℕ, Bool, true, List}
use Rattle.cr_base.specs.declared.rule.URule.{URule}
use Rattle.cr_world.specs.World.{Outside, Terms}
use Rattle.cx_core.specs.Trees.{CProgram}
use Rattle.cx_mean.specs.Run.{undefined, c_run_on}
use Rattle.cx_placed.specs.Places.{StandIn}

-- Of some units: where every place of a program is of one of them, so is the place of each undefined step to which a run of it comes,
-- after however many steps, under whatever order, terms and outside. What has no place of its own in the program's text, as the status
-- that `main` gives back, counts to unit 0. No typing is asked for.
abbrev pub UndefinedStepsStandAmong : (ℕ → Type 0) → Type 0
UndefinedStepsStandAmong Among = (program : CProgram) (order : List ℕ) (terms : Terms) (outside : Outside) (steps : ℕ) (rule : URule) (unit line : ℕ)
    → StandIn Among program.objects program.functions → Among 0
    → (c_run_on program order terms outside steps).progress ≡ undefined rule unit line → Among unit

-- Law: so it is of whatever units, which are given by a test of their numbers
abbrev pub UndefinedStepsStandInUnits : Type 0
UndefinedStepsStandInUnits = (among : ℕ → Bool) → UndefinedStepsStandAmong (λ unit. among unit ≡ true)
