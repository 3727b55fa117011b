-- What the run of units means: that of their linked program, over a store without limit.
use Rattle.std.specs.Prelude.{◌≡◌, ◌⊎◌, ℕ, ℤ, List, None, ⊤}
use Rattle.cr_base.specs.declared.refusal.Stop.{Stop}
use Rattle.cr_base.specs.declared.refusal.Stop.TheVariants.{Refused, Memory}
use Rattle.cx_core.specs.Trees.{CProgram, CUnit}
use Rattle.cx_exec.specs.Exec.{Ran, progress_within, world_within}
use Rattle.cx_links.specs.Program.{linked}
use Rattle.cx_mean.specs.Run.{CProgress}
use Rattle.cx_mean.specs.Run as c
use Rattle.cx_units.specs.Broken.{AreUnbroken}
use Rattle.cx_units.specs.Sources.{AreOf}
use Rattle.cx_units.specs.declared.source.Source.{Source}
use Rattle.ext_calls.specs.Host.{HostState}
use Rattle.run_ends.specs.Runs.{Progress, going, ended, undefined, full, asks_for, astray, Meaning, IsRun, IsWanting}
use Rattle.run_ends.specs.declared.end.End.{End}

-- how far a run of C comes, in the words of both languages
abbrev pub progress_of : CProgress → Progress
progress_of c.going = going
progress_of (c.ended status) = ended status
progress_of (c.undefined rule unit line) = undefined rule unit line
progress_of (c.is_stuck unit line) = astray
progress_of (c.is_full need left) = full need left
progress_of (c.asks_for call) = asks_for call
progress_of c.is_astray = astray

-- a program under an order of evaluation and a trail of answers, over a store without limit
abbrev pub ran_of : CProgram → List ℕ → List ℤ → Ran
ran_of program order trail = record { program = program; order = order; limit = None; trail = trail }

-- what a program means under an order of evaluation, for so many steps
abbrev pub program_meaning : CProgram → List ℕ → ℕ → Meaning
program_meaning program order steps = λ trail. record {
  progress = progress_of (progress_within (ran_of program order trail) steps);
  made = (world_within (ran_of program order trail) steps).made;
  left = (world_within (ran_of program order trail) steps).answers;
}

-- what typed units mean: their linked program
abbrev pub meaning_of : List CUnit → List ℕ → ℕ → Meaning
meaning_of cores order steps = program_meaning (linked cores) order steps

-- units of these bytes break no rule, and this is their linked program
pub record IsProgramOf (units : List (List ℕ)) (program : CProgram) : Type 0 where
  pub cores : List CUnit
  pub unbroken : AreUnbroken units cores
  pub linked : program ≡ linked cores

-- units of these bytes break no rule, and the run of their program came to an end, from a host to a later one
pub record AreRun (units : List (List ℕ)) (order : List ℕ) (steps : ℕ) (host later : HostState) (end : End) : Type 0 where
  pub cores : List CUnit
  pub unbroken : AreUnbroken units cores
  pub run : IsRun (meaning_of cores order steps) host later end

-- units of these bytes break no rule, and memory was wanting in the run of their program
pub record AreWanting (units : List (List ℕ)) (order : List ℕ) (steps : ℕ) (host later : HostState) : Type 0 where
  pub cores : List CUnit
  pub unbroken : AreUnbroken units cores
  pub wants : IsWanting (meaning_of cores order) steps host later

-- where memory ran out, no run had begun and no call was made, or memory was wanting in a run
abbrev pub MayWant : (sources : List Source) → (order : List ℕ) → (steps : ℕ) → Stop → HostState → HostState → Type 0
MayWant sources order steps (Refused refusal) host later = ⊤
MayWant sources order steps Memory host later = (later ≡ host) ⊎ ((units : List (List ℕ)) → AreOf sources units → AreWanting units order steps host later)

-- P, unless memory ran out
abbrev pub UnlessMemory : Stop → Type 0 → Type 0
UnlessMemory (Refused refusal) P = P
UnlessMemory Memory P = ⊤
