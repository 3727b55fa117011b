-- A job as the program holds it.
use Rattle.std.specs.Prelude.{◌≤◌, List, ◌∷◌, ⊤}
use Rattle.clap.specs.Walk.{Text, texts}
use Rattle.jobs.specs.Job.{Job, transpile, run_c, run_rust}
use Rattle.jobs.specs.declared.job.Files.{Files}
use Rattle.jobs.specs.declared.job.Job.{Job as Held}
use Rattle.jobs.specs.declared.job.Job.TheVariants.{Transpile, RunC, RunRust}

-- the files that are held
abbrev pub files_of : Files → List Text
files_of files = files.first.now ∷ texts files.others

-- the job that is held
abbrev pub asked_of : Held → Job
asked_of (Transpile directory files) = transpile directory.now (files_of files)
asked_of (RunC steps order files) = run_c steps order (files_of files)
asked_of (RunRust steps directory) = run_rust steps directory.now

-- a run has at most 1,000,000,000 steps or units
abbrev pub IsBounded : Held → Type 0
IsBounded (Transpile directory files) = ⊤
IsBounded (RunC steps order files) = steps ≤ 1000000000
IsBounded (RunRust steps directory) = steps ≤ 1000000000
