-- How the job to run a crate ends, step by step.
use Rattle.std.specs.Prelude.{◌≡◌, ℕ, ◌⊎◌, false, List, [], map, ⊤}
use Rattle.ext_calls.specs.Host.{HostState}
use Rattle.front.specs.Crates.{path_of}
use Rattle.front.specs.Files.{name_in}
use Rattle.front.specs.Report.{Ending, cannot_read, memory, told, not_rust, ill_typed}
use Rattle.front.specs.declared.unread.Unread.{Unread}
use Rattle.front.specs.declared.unread.Unread.TheVariants.{NotRead, NotMain, Memory}
use Rattle.run_ends.specs.Runs.{HasFailed}
use Rattle.run_ends.specs.Told.{Tale, name_at, tale_of}
use Rattle.run_ends.specs.declared.end.End.{End}
use Rattle.rust_job.specs.Ends.{MayEnd}
use Rattle.rust_job.specs.Meaning.{AreIllTyped, AreNotRust, AreRun, AreWanting}
use Rattle.shelf.specs.declared.file.File.{File}

-- where not all files were got
abbrev pub unread_ending : Unread → Ending
unread_ending (NotRead name) = cannot_read name
unread_ending (NotMain name line) = not_rust name line
unread_ending Memory = memory

-- where files are no crate of the subset: the one with this path is at fault
abbrev pub EndsNotRust : List ℕ → (path : List ℕ) → Ending → Type 0
EndsNotRust directory path (not_rust name line) = name ≡ name_in directory path
EndsNotRust directory path memory = ⊤
EndsNotRust directory path ending = ⊥

-- the crate that files read as was run, and this is told of it
pub record IsTaleOf (files : List File) (steps : ℕ) (tale : Tale) (host later : HostState) : Type 0 where
  pub end : End
  pub tale_is : tale ≡ tale_of [] steps end
  pub run : AreRun files steps host later end
  pub right : MayEnd end
  pub failed : HasFailed host later end

-- where all files were got
abbrev pub EndsGot : List ℕ → List File → (steps : ℕ) → Ending → HostState → HostState → Type 0
EndsGot directory files steps (told tale) host later = IsTaleOf files steps tale host later
EndsGot directory files steps (not_rust name line) host later =
    (number : ℕ) × AreNotRust files number × (name ≡ name_in directory (name_at (map path_of files) number)) × (later ≡ host)
EndsGot directory files steps (ill_typed name item) host later = AreIllTyped files name item × (later ≡ host)
EndsGot directory files steps memory host later = (later ≡ host) ⊎ AreWanting files steps host later
EndsGot directory files steps ending host later = ⊥
