-- What the run of a crate means, over a store without limit; and why files aren't run.
use Rattle.std.specs.Prelude.{◌≡◌, ◌⊎◌, ℕ, true, List, None, Some, ⊤}
use Rattle.cr_world.specs.World.{wrong as is_wrong, full as is_full, asks, astray as goes_astray}
use Rattle.ext_calls.specs.Host.{HostState}
use Rattle.rs_exec.specs.Exec.{progress_within, world_within}
use Rattle.rs_mean.specs.Run.{RProgress}
use Rattle.rs_mean.specs.Run as r
use Rattle.rs_mean.specs.Typing.{ItemPlace, first_ill, well_typed}
use Rattle.rs_parse.specs.Crates.{IsAtFault}
use Rattle.rs_text.specs.Lines.{module_names}
use Rattle.rs_text.specs.Reads.{ReadsAs}
use Rattle.rs_text.specs.Tree.{CrateTree}
use Rattle.run_ends.specs.Runs.{Progress, going, ended, wrong, full, asks_for, astray, Meaning, IsRun, IsWanting}
use Rattle.run_ends.specs.Told.{name_at}
use Rattle.run_ends.specs.declared.end.End.{End}
use Rattle.rust_job.specs.declared.fault.CrateFault.{CrateFault}
use Rattle.rust_job.specs.declared.fault.CrateFault.TheVariants.{NotRust, IllTyped, Memory}
use Rattle.shelf.specs.declared.file.File.{File}

-- how far a run of a crate comes, in the words of both languages
abbrev pub progress_of : RProgress → Progress
progress_of r.going = going
progress_of (r.ended status) = ended status
progress_of (r.stopped (is_wrong cause)) = wrong cause
progress_of (r.stopped (is_full need left)) = full need left
progress_of (r.stopped (asks call)) = asks_for call
progress_of (r.stopped goes_astray) = astray

-- what a crate means for so many units
abbrev pub meaning_of : CrateTree → ℕ → Meaning
meaning_of whole units = λ trail. record {
  progress = progress_of (progress_within whole None trail units);
  made = (world_within whole None trail units).made;
  left = (world_within whole None trail units).answers;
}

-- files read as a well-typed crate, and its run came to an end, from a host to a later one
pub record AreRun (files : List File) (units : ℕ) (host later : HostState) (end : End) : Type 0 where
  pub whole : CrateTree
  pub read : ReadsAs files whole
  pub typed : well_typed whole ≡ true
  pub run : IsRun (meaning_of whole units) host later end

-- no crate is read from files, and the file with this number is at fault
pub record AreNotRust (files : List File) (number : ℕ) : Type 0 where
  pub none : (whole : CrateTree) → ReadsAs files whole → ⊥
  pub fault : IsAtFault files number

-- a crate isn't well typed: this item, counted from 0, of the module with this name is the first that isn't
pub record IsIllAt (whole : CrateTree) (name : List ℕ) (item : ℕ) : Type 0 where
  pub place : ItemPlace
  pub first : first_ill whole ≡ Some place
  pub name_is : name ≡ name_at (module_names whole) place.mod_number
  pub item_is : item ≡ place.item_number

-- the crate that files read as isn't well typed
pub record AreIllTyped (files : List File) (name : List ℕ) (item : ℕ) : Type 0 where
  pub whole : CrateTree
  pub read : ReadsAs files whole
  pub ill : IsIllAt whole name item

-- why a crate isn't run; want of memory says nothing
abbrev pub IsIllTypedBy : CrateTree → CrateFault → Type 0
IsIllTypedBy whole (NotRust file line) = ⊥
IsIllTypedBy whole (IllTyped name item) = IsIllAt whole name item
IsIllTypedBy whole Memory = ⊤

-- why files aren't run; want of memory says nothing
abbrev pub StopsFiles : List File → CrateFault → Type 0
StopsFiles files (NotRust file line) = AreNotRust files file
StopsFiles files (IllTyped name item) = AreIllTyped files name item
StopsFiles files Memory = ⊤

-- files read as a well-typed crate, and memory was wanting in its run
pub record AreWanting (files : List File) (units : ℕ) (host later : HostState) : Type 0 where
  pub whole : CrateTree
  pub read : ReadsAs files whole
  pub typed : well_typed whole ≡ true
  pub wants : IsWanting (meaning_of whole) units host later

-- where memory ran out, no run had begun and no call was made, or memory was wanting in a run
abbrev pub MayWant : (files : List File) → (units : ℕ) → CrateFault → HostState → HostState → Type 0
MayWant files units (NotRust file line) host later = ⊤
MayWant files units (IllTyped name item) host later = ⊤
MayWant files units Memory host later = (later ≡ host) ⊎ AreWanting files units host later

-- P, unless memory ran out
abbrev pub UnlessMemory : CrateFault → Type 0 → Type 0
UnlessMemory (NotRust file line) P = P
UnlessMemory (IllTyped name item) P = P
UnlessMemory Memory P = ⊤
