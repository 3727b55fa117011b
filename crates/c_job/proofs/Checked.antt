-- What was got of units that break no rule are bytes that mean them.
use Rattle.std.proofs.Common.{inl, inr, refl, subst, ℕ, suc, List, [], ◌∷◌, map, All, None, Result, Ok, Err, IfErr}
use Rattle.std.proofs.lemmas.List.Elements.{All-head, All-tail}
use Rattle.c_job.specs.Meaning.{AreRun, AreWanting, IsProgramOf, MayWant, meaning_of, program_meaning}
use Rattle.cx_core.specs.Trees.{CProgram, CUnit}
use Rattle.cx_sound.specs.Sound.{MeansUnit, MeanUnits, BreakNothing}
use Rattle.cx_units.specs.Broken.{IsTypedAs, AreTyped, AreUnbroken}
use Rattle.cx_units.specs.Sources.{IsGot, AreOf}
use Rattle.cx_units.specs.declared.source.Source.{Source}
use Rattle.cx_units.specs.declared.source.Source.TheVariants.{Bytes, TooLarge}
use Rattle.ext_calls.specs.Host.{HostState}
use Rattle.cr_base.specs.declared.refusal.Stop.TheVariants.{Refused, Memory}
use Rattle.cr_base.specs.declared.refusal.Stop.{Stop}
use Rattle.cx_exec.specs.Exec.{IsShort}
use Rattle.run_ends.specs.Runs.{IsRun, IsWanting}
use Rattle.run_ends.specs.declared.end.End.{End}

abbrev pub bytes_of : Source → List ℕ
bytes_of (Bytes given) = given
bytes_of TooLarge = []

pub are_of : (sources : List Source) → All IsGot sources → AreOf sources (map bytes_of sources)
are_of [] got = tt
are_of (Bytes given ∷ sources) got = (refl, are_of sources (All-tail IsGot (Bytes given) sources got))
are_of (TooLarge ∷ sources) got = absurd (All-head IsGot TooLarge sources got)

means : (number : ℕ) (source : Source) (core : CUnit) → IsGot source → IsTypedAs number (bytes_of source) core → MeansUnit number (bytes_of source) core
means number (Bytes given) core got typed = record {
  are_bytes = got;
  tokens = typed.read.tokens;
  spelled = typed.read.spelled;
  tree = typed.tree;
  derived = typed.read.derived;
  unbroken = typed.unbroken;
  meaning = typed.meaning;
}
means number TooLarge core got typed = absurd got

mean_all : (number : ℕ) (sources : List Source) (cores : List CUnit) → All IsGot sources → AreTyped number (map bytes_of sources) cores
    → MeanUnits number (map bytes_of sources) cores
mean_all number [] [] got typed = tt
mean_all number [] (core ∷ cores) got typed = absurd typed
mean_all number (source ∷ sources) [] got typed = absurd typed
mean_all number (source ∷ sources) (core ∷ cores) got typed =
    (means number source core (All-head IsGot source sources got) typed.0, mean_all (suc number) sources cores (All-tail IsGot source sources got) typed.1)

-- so they break nothing
pub break_nothing : (sources : List Source) (cores : List CUnit) → All IsGot sources → ((units : List (List ℕ)) → AreOf sources units → AreUnbroken units cores)
    → (given : List (List ℕ)) × BreakNothing given cores
break_nothing sources cores got unbroken =
    let units = map bytes_of sources in
    let known : AreUnbroken units cores = unbroken units (are_of sources got) in
    (units, record { mean = mean_all 0 sources cores got known.typed; unbroken = known.linked })

-- a run of their program is a run of them
pub ran : (units : List (List ℕ)) (program : CProgram) (order : List ℕ) (steps : ℕ) (host later : HostState) (end : End) → IsProgramOf units program
    → IsRun (program_meaning program order steps) host later end → AreRun units order steps host later end
ran units program order steps host later end of run = record {
  cores = of.cores;
  unbroken = of.unbroken;
  run = subst (λ one. IsRun (program_meaning one order steps) host later end) of.linked run;
}

-- and so is want of memory in it
wanted : (units : List (List ℕ)) (program : CProgram) (order : List ℕ) (steps : ℕ) (host later : HostState) → IsProgramOf units program
    → IsWanting (program_meaning program order) steps host later → AreWanting units order steps host later
wanted units program order steps host later of wants = record {
  cores = of.cores;
  unbroken = of.unbroken;
  wants = subst (λ one. IsWanting (program_meaning one order) steps host later) of.linked wants;
}

pub may_want : (sources : List Source) (program : CProgram) (order : List ℕ) (steps : ℕ) (why : Stop) (host later : HostState) → ((units : List (List ℕ)) → AreOf sources units → IsProgramOf units program)
    → IsWanting (program_meaning program order) steps host later → MayWant sources order steps why host later
may_want sources program order steps (Refused refusal) host later of wants = tt
may_want sources program order steps Memory host later of wants = inr (λ units are. wanted units program order steps host later (of units are) wants)

-- what a run over a store without limit was asked, in the words of both languages
pub short_wants : (program : CProgram) (order : List ℕ) (steps : ℕ) (host later : HostState) → IsShort program order None steps host later → IsWanting (program_meaning program order) steps host later
short_wants program order steps host later short = record {
  steps = short.steps;
  within = short.within;
  trail = short.trail;
  tied = record { taken = short.answers; told = short.told; given = short.given_by; takes = short.takes };
}

pub on_fault : {A : Type 0} {P : Stop → Type 0} (result : Result A Stop) → ((why : Stop) → P why) → IfErr result P
on_fault (Ok value) holds = tt
on_fault (Err why) holds = holds why

-- no run had begun
pub never_begun : (sources : List Source) (order : List ℕ) (steps : ℕ) (why : Stop) (host : HostState) → MayWant sources order steps why host host
never_begun sources order steps (Refused refusal) host = tt
never_begun sources order steps Memory host = inl refl
