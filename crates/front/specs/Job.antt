-- The jobs that are done, by the words after the program's name.
use Rattle.std.specs.Prelude.{ℕ, Bool, true, false, List, [], ◌∷◌, length, nat_lt, if◌then◌else◌, Option, Some, None}
use Rattle.clap.specs.Walk.{Text}
use Rattle.cx_links.specs.Rules.{most_units}
use Rattle.jobs.specs.Job.{Job as AnyJob, job_of as any_job_of, transpile as asks_transpile, run_c as asks_run_c, run_rust as asks_run_rust}

-- a job
pub data Job : Type 0 where
  -- translate the units of these files, one to 64, and put the crate under a directory
  transpile : (directory : Text) (files : List Text) → Job
  -- translate or run more units than a program may have
  too_many : Job
  -- run the units of these files, one to 64, for at most so many steps, in an order of evaluation
  run_c : (steps : ℕ) (order : List ℕ) (files : List Text) → Job
  -- run the crate under a directory for at most so many units
  run_rust : (steps : ℕ) (directory : Text) → Job

-- a job of units, unless they are more than a program may have
abbrev pub for_units : List Text → Job → Option Job
for_units [] job = None
for_units (file ∷ files) job = Some (if nat_lt most_units (length (file ∷ files)) then too_many else job)

-- the job to translate the units of these files
abbrev pub translation : Text → List Text → Option Job
translation directory files = for_units files (transpile directory files)

-- a job as it is done
abbrev pub built_of : Option AnyJob → Option Job
built_of None = None
built_of (Some (asks_transpile directory files)) = translation directory files
built_of (Some (asks_run_c steps order files)) = for_units files (run_c steps order files)
built_of (Some (asks_run_rust steps directory)) = Some (run_rust steps directory)

-- the job that the words ask for
abbrev pub job_of : List Text → Option Job
job_of words = built_of (any_job_of words)

-- whether a job runs a program
abbrev pub is_run : Option Job → Bool
is_run None = false
is_run (Some (transpile directory files)) = false
is_run (Some too_many) = false
is_run (Some (run_c steps order files)) = true
is_run (Some (run_rust steps directory)) = true
