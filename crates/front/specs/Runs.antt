-- What the jobs that run a program leave, by how they ended.
use Rattle.std.specs.Prelude.{◌≡◌, ℕ, ◌<◌, ◌≤◌, ℤ, ◌⊎◌, true, List, [], length, Option, Some, slice_get, ⊤}
use Rattle.c_job.specs.Ends as c_ends
use Rattle.c_job.specs.Meaning as c
use Rattle.cr_base.specs.Count.{Rose}
use Rattle.cr_base.specs.declared.refusal.Refusal.{Refusal}
use Rattle.cx_core.specs.Trees.{CUnit}
use Rattle.cx_units.specs.Broken.{AreUnbroken}
use Rattle.ext_calls.specs.Host.{HostState}
use Rattle.front.specs.Crates.{AreAll, AreHeldIn, IllTypedBy, IsNext, NotRustBy, most_file_bytes}
use Rattle.front.specs.Files.{WhereTold, name_in, units_of}
use Rattle.front.specs.Job.{Job, transpile, too_many, run_c, run_rust}
use Rattle.front.specs.Refusals.{BreaksProfile, bytes_of}
use Rattle.front.specs.Report.{Ending, done, refused, usage, cannot_read, cannot_write, memory, told, not_rust, ill_typed}
use Rattle.front.specs.Transpile.{IsUnread}
use Rattle.rs_mean.specs.Typing.{well_typed}
use Rattle.rs_text.specs.Reads.{ReadsAs}
use Rattle.rs_text.specs.Tree.{CrateTree}
use Rattle.run_ends.specs.Runs.{Meaning, IsRun, IsTied, HasFailed}
use Rattle.run_ends.specs.Told.{Tale, tale_of}
use Rattle.run_ends.specs.declared.end.End.{End}
use Rattle.rust_job.specs.Ends as rust_ends
use Rattle.rust_job.specs.Meaning as rust
use Rattle.shelf.specs.declared.called.Kind.TheVariants.{Get}
use Rattle.shelf.specs.declared.file.File.{File}
use Rattle.shelf.specs.Shelf.{ShelfState, call_of}

-- ---- what a job runs

-- the units that are held break no rule, and this is what their linked program means
pub record UnitsMean (held : List ℕ → Option (List ℕ)) (steps : ℕ) (order : List ℕ) (names : List (List ℕ)) (meaning : Meaning) : Type 0 where
  pub units : List File
  pub here : units_of held names ≡ Some units
  pub cores : List CUnit
  pub unbroken : AreUnbroken (bytes_of units) cores
  pub meaning_is : meaning ≡ c.meaning_of cores order steps

-- the files that are held under a directory read as a well-typed crate, and this is what it means
pub record CrateMeans (held : List ℕ → Option (List ℕ)) (steps : ℕ) (directory : List ℕ) (meaning : Meaning) : Type 0 where
  pub files : List File
  pub here : AreHeldIn held directory files
  pub all : AreAll files
  pub whole : CrateTree
  pub read : ReadsAs files whole
  pub typed : well_typed whole ≡ true
  pub meaning_is : meaning ≡ rust.meaning_of whole steps

-- what a job runs, by what is held, means this
abbrev pub JobMeans : (List ℕ → Option (List ℕ)) → Job → Meaning → Type 0
JobMeans held (transpile directory names) meaning = ⊥
JobMeans held too_many meaning = ⊥
JobMeans held (run_c steps order names) meaning = UnitsMean held steps order names meaning
JobMeans held (run_rust steps directory) meaning = CrateMeans held steps directory meaning

-- a run of units isn't wrong, and what is undefined stands in one of them; a run of a crate isn't undefined. No object lacks room, since the
-- store has no limit.
abbrev pub MayCome : Job → End → Type 0
MayCome (run_c steps order names) end = c_ends.MayEnd (length names) end
MayCome (run_rust steps directory) end = rust_ends.MayEnd end
MayCome (transpile directory names) end = ⊥
MayCome too_many end = ⊥

-- the run of a job came to an end: no `get` failed and nothing was put; what the shelf held has a meaning, and a run of that, with the answers
-- of the host, came to this end
pub record CameTo (job : Job) (end : End) (before after : ShelfState) (host later : HostState) : Type 0 where
  pub kept : after.held ≡ before.held
  pub unfailed : after.last ≡ before.last
  pub may_come : MayCome job end
  pub failed : HasFailed host later end
  pub run : WhereTold before.held (λ held. (meaning : Meaning) × JobMeans held job meaning × IsRun meaning host later end)

-- ---- what is told of it

-- the names of the units that a job runs, and the steps or units that its run may take
abbrev pub names_of : Job → List (List ℕ)
names_of (transpile directory names) = names
names_of too_many = []
names_of (run_c steps order names) = names
names_of (run_rust steps directory) = []

abbrev pub steps_of : Job → ℕ
steps_of (transpile directory names) = 0
steps_of too_many = 0
steps_of (run_c steps order names) = steps
steps_of (run_rust steps directory) = steps

-- the run of a job came to an end of which this is told
pub record IsToldOf (job : Job) (tale : Tale) (before after : ShelfState) (host later : HostState) : Type 0 where
  pub end : End
  pub tale_is : tale ≡ tale_of (names_of job) (steps_of job) end
  pub came : CameTo job end before after host later

-- ---- want of memory

-- a job with so many steps or units
abbrev pub with_steps : ℕ → Job → Job
with_steps steps (transpile directory names) = transpile directory names
with_steps steps too_many = too_many
with_steps steps (run_c given order names) = run_c steps order names
with_steps steps (run_rust given directory) = run_rust steps directory

-- memory was wanting in the run of a job: within some of its steps or units, what is held has a meaning, and there is a trail of answers of that,
-- tied to the host
pub record WasWanting (held : List ℕ → Option (List ℕ)) (job : Job) (host later : HostState) : Type 0 where
  pub steps : ℕ
  pub within : steps ≤ steps_of job
  pub meaning : Meaning
  pub means : JobMeans held (with_steps steps job) meaning
  pub trail : List ℤ
  pub tied : IsTied (meaning trail) host later

-- memory ran out in a job that runs a program: nothing was put; and no run had begun and no call was made, or memory was wanting in the run
pub record RanShort (job : Job) (before after : ShelfState) (host later : HostState) : Type 0 where
  pub kept : after.held ≡ before.held
  pub asked : (later ≡ host) ⊎ WhereTold before.held (λ held. WasWanting held job host later)

-- ---- what else may come

-- units that are run were refused: the refusal is the first rule of the profile that they break, in this file; nothing was put, and no call made
pub record IsRefusedRun (names : List (List ℕ)) (file : List ℕ) (refusal : Refusal) (before after : ShelfState) (host later : HostState) : Type 0 where
  pub kept : after.held ≡ before.held
  pub unfailed : after.last ≡ before.last
  pub uncalled : later ≡ host
  pub named : slice_get names refusal.unit ≡ Some file
  pub broken : WhereTold before.held (λ held. (units : List File) × (units_of held names ≡ Some units) × BreaksProfile units refusal)

-- a file of a crate that is run couldn't be read: its `get` failed, or it has more bytes than a file may have
abbrev pub FailedOrLarge : (name : List ℕ) → (before after : ShelfState) → Type 0
FailedOrLarge name before after =
    (Rose before.faults after.faults × (after.last ≡ Some (call_of name Get)))
    ⊎ ((after.last ≡ before.last) × WhereTold before.held (λ held. (bytes : List ℕ) × (held name ≡ Some bytes) × (most_file_bytes < length bytes)))

-- a file of a crate that is run couldn't be read: it is read behind files that are all held; nothing was put, and no call made
pub record IsUnreadFile (directory name : List ℕ) (before after : ShelfState) (host later : HostState) : Type 0 where
  pub kept : after.held ≡ before.held
  pub uncalled : later ≡ host
  pub why : FailedOrLarge name before after
  pub path : List ℕ
  pub name_is : name ≡ name_in directory path
  pub files : List File
  pub next : IsNext files path
  pub here : WhereTold before.held (λ held. AreHeldIn held directory files)

-- the files that were got of a crate that is run are those that the shelf held under the directory; no `get` failed, nothing was put, and no
-- call made
pub record AreGotOf (directory : List ℕ) (files : List File) (before after : ShelfState) (host later : HostState) : Type 0 where
  pub kept : after.held ≡ before.held
  pub unfailed : after.last ≡ before.last
  pub uncalled : later ≡ host
  pub here : WhereTold before.held (λ held. AreHeldIn held directory files)

-- the files under a directory are no crate of the subset: this one is at fault
abbrev pub IsNotRust : (directory name : List ℕ) → ShelfState → ShelfState → HostState → HostState → Type 0
IsNotRust directory name before after host later =
    (files : List File) × (path : List ℕ) × AreGotOf directory files before after host later × NotRustBy files path × (name ≡ name_in directory path)

-- the crate under a directory isn't well typed: this item of this module is the first that isn't
abbrev pub IsIllTyped : (directory name : List ℕ) → (item : ℕ) → ShelfState → ShelfState → HostState → HostState → Type 0
IsIllTyped directory name item before after host later =
    (files : List File) × AreGotOf directory files before after host later × IllTypedBy files name item

-- ---- the jobs

-- what the job to run units leaves, by how it ended
abbrev pub RunsUnits : (steps : ℕ) (order : List ℕ) (names : List (List ℕ)) → Ending → ShelfState → ShelfState → HostState → HostState → Type 0
RunsUnits steps order names done before after host later = ⊥
RunsUnits steps order names (refused file refusal) before after host later = IsRefusedRun names file refusal before after host later
RunsUnits steps order names usage before after host later = ⊥
RunsUnits steps order names (cannot_read name) before after host later = IsUnread names name before after × (later ≡ host)
RunsUnits steps order names (cannot_write name) before after host later = ⊥
RunsUnits steps order names memory before after host later = RanShort (run_c steps order names) before after host later
RunsUnits steps order names (told tale) before after host later = IsToldOf (run_c steps order names) tale before after host later
RunsUnits steps order names (not_rust name line) before after host later = ⊥
RunsUnits steps order names (ill_typed name item) before after host later = ⊥

-- what the job to run a crate leaves, by how it ended
abbrev pub RunsCrate : (steps : ℕ) (directory : List ℕ) → Ending → ShelfState → ShelfState → HostState → HostState → Type 0
RunsCrate steps directory done before after host later = ⊥
RunsCrate steps directory (refused file refusal) before after host later = ⊥
RunsCrate steps directory usage before after host later = ⊥
RunsCrate steps directory (cannot_read name) before after host later = IsUnreadFile directory name before after host later
RunsCrate steps directory (cannot_write name) before after host later = ⊥
RunsCrate steps directory memory before after host later = RanShort (run_rust steps directory) before after host later
RunsCrate steps directory (told tale) before after host later = IsToldOf (run_rust steps directory) tale before after host later
RunsCrate steps directory (not_rust name line) before after host later = IsNotRust directory name before after host later
RunsCrate steps directory (ill_typed name item) before after host later = IsIllTyped directory name item before after host later
