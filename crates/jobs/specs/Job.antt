-- What the words after the program's name ask for: the matches that `clap`'s own definition gives them, and what is asked of
-- their values behind that.
use Rattle.std.specs.Prelude.{ℕ, Bool, not, ◌&&◌, ◌==◌, List, [], ◌∷◌, length, Option, Some, None, if◌then◌else◌, bytes_eq, codes, option_and_then}
use Rattle.std.specs.List.{list_all, list_any}
use Rattle.clap.specs.Faults.{fault_of}
use Rattle.clap.specs.Kinds.{Kinds}
use Rattle.clap.specs.Simple.{subcommand_of}
use Rattle.clap.specs.Walk.{Row, Text, all_of, first_of}
use Rattle.jobs.specs.Command.{command}
use Rattle.jobs.specs.Numbers.{at_most, number_of, numbers_of, parts_of, within}

-- a job
pub data Job : Type 0 where
  -- translate the units of these files, and put the crate under a directory
  transpile : (directory : Text) (files : List Text) → Job
  -- run the units of these files for at most so many steps, in an order of evaluation
  run_c : (steps : ℕ) (order : List ℕ) (files : List Text) → Job
  -- run the crate under a directory for at most so many units
  run_rust : (steps : ℕ) (directory : Text) → Job

-- a word that can name a file or a directory: it is neither empty nor `-`
abbrev pub is_path : Text → Bool
is_path word = not (bytes_eq word []) && not (bytes_eq word (codes "-"))

-- ---- the values of options

-- how many steps or units a run may take: 1 to 10 digits, from 1 to 1,000,000,000
abbrev pub steps_of : Text → Option ℕ
steps_of word = within 1 1000000000 (number_of 10 word)

-- the same; a run that isn't told has 1,000,000
abbrev pub steps_in : Option Text → Option ℕ
steps_in None = Some 1000000
steps_in (Some word) = steps_of word

-- an order of evaluation: 1 to 10,000 numbers of 1 to 9 digits, with one comma between two
abbrev pub order_of : Text → Option (List ℕ)
order_of word = at_most 10000 (numbers_of 9 (parts_of word))

-- the same; without it the list is empty
abbrev pub order_in : Option Text → Option (List ℕ)
order_in None = Some []
order_in (Some word) = order_of word

-- one path or more, where each word is one
abbrev pub paths_in : Option (List Text) → Option (List Text)
paths_in None = None
paths_in (Some []) = None
paths_in (Some (first ∷ others)) = if list_all is_path (first ∷ others) then Some (first ∷ others) else None

abbrev pub path_in : Option Text → Option Text
path_in None = None
path_in (Some word) = if is_path word then Some word else None

-- ---- the job of a subcommand's matches

abbrev pub transpile_in : List Row → Option Job
transpile_in rows =
    option_and_then (λ directory. option_and_then (λ files. Some (transpile directory files))
    (paths_in (all_of (codes "files") rows)))
    (path_in (first_of (codes "output") rows))

abbrev pub run_c_in : List Row → Option Job
run_c_in rows =
    option_and_then (λ steps. option_and_then (λ order. option_and_then (λ files. Some (run_c steps order files))
    (paths_in (all_of (codes "files") rows)))
    (order_in (first_of (codes "order") rows)))
    (steps_in (first_of (codes "steps") rows))

abbrev pub run_rust_in : List Row → Option Job
run_rust_in rows =
    option_and_then (λ steps. option_and_then (λ directory. Some (run_rust steps directory))
    (path_in (first_of (codes "directory") rows)))
    (steps_in (first_of (codes "steps") rows))

abbrev pub named_job : Text → List Row → Option Job
named_job name rows =
    if bytes_eq name (codes "transpile") then transpile_in rows
    else if bytes_eq name (codes "run-c") then run_c_in rows
    else if bytes_eq name (codes "run-rust") then run_rust_in rows
    else None

-- the job of the subcommand that was met, by its name and its matches
abbrev pub job_in : Option (Text × List Row) → Option Job
job_in None = None
job_in (Some met) = named_job met.0 met.1

-- ---- the job of words

-- one of the words is `--`
abbrev pub has_end : List Text → Bool
has_end words = list_any (λ word. bytes_eq word (codes "--")) words

abbrev pub finds_none : Kinds → Bool
finds_none kinds = length kinds == 0

-- `clap` takes the words: there is no kind of error, nor a request for help or for the version
abbrev pub is_taken : List Text → Bool
is_taken words = finds_none (fault_of command words)

-- the job that the words ask for, where they ask for one
abbrev pub job_of : List Text → Option Job
job_of words = if not (has_end words) && is_taken words then job_in (subcommand_of command words) else None
