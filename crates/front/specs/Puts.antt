-- What putting files one behind another leaves.
use Rattle.std.specs.Prelude.{◌≡◌, ℕ, ◌<◌, ◌≤◌, List, take, length, Some, slice_get, ⊤}
use Rattle.cr_base.specs.Count.{Rose}
use Rattle.shelf.specs.declared.called.Kind.TheVariants.{Put}
use Rattle.shelf.specs.declared.fault.ShelfFault.{ShelfFault}
use Rattle.shelf.specs.declared.fault.ShelfFault.TheVariants.{Failed, Memory}
use Rattle.shelf.specs.declared.file.File.{File}
use Rattle.shelf.specs.Shelf.{ShelfState, without_file, call_of}
use Rattle.front.specs.Files.{with_files}
use Rattle.front.specs.Report.{Ending, done, refused, usage, cannot_read, cannot_write, memory, told, not_rust, ill_typed}

-- every file was put
pub record PutsAll (files : List File) (before after : ShelfState) : Type 0 where
  pub held : after.held ≡ with_files files before.held
  pub later : before.faults ≤ after.faults

-- the put of this name failed, or found no memory
abbrev pub HasPutFault : List ℕ → ShelfFault → ShelfState → ShelfState → Type 0
HasPutFault name Failed before after = Rose before.faults after.faults × (after.last ≡ Some (call_of name Put))
HasPutFault name Memory before after = ⊤

-- the files before this one, number k, were put, and its own put gave no Ok
pub record StopsIn (files : List File) (k : ℕ) (file : File) (fault : ShelfFault) (before after : ShelfState) : Type 0 where
  pub place : slice_get files k ≡ Some file
  pub left : without_file file.name after.held ≡ without_file file.name (with_files (take k files) before.held)
  pub why : HasPutFault file.name fault before after

-- the put of file number k gave no Ok
pub record StopsAt (files : List File) (k : ℕ) (fault : ShelfFault) (before after : ShelfState) : Type 0 where
  pub within : k < length files
  pub stop : (file : File) × StopsIn files k file fault before after

-- how the job ends where the put of file number k gave no Ok
abbrev pub PutFaultAt : List File → ℕ → ShelfFault → Ending → Type 0
PutFaultAt files k Failed ending = (file : File) × (slice_get files k ≡ Some file) × (ending ≡ cannot_write file.name)
PutFaultAt files k Memory ending = ending ≡ memory

-- what putting the files leaves, by how it ended
abbrev pub Puts : List File → Ending → ShelfState → ShelfState → Type 0
Puts files done before after = PutsAll files before after
Puts files (cannot_write name) before after =
    (k : ℕ) × (file : File) × StopsIn files k file Failed before after × (file.name ≡ name)
Puts files memory before after = (k : ℕ) × (file : File) × StopsIn files k file Memory before after
Puts files (refused name refusal) before after = ⊥
Puts files usage before after = ⊥
Puts files (cannot_read name) before after = ⊥
Puts files (told tale) before after = ⊥
Puts files (not_rust name line) before after = ⊥
Puts files (ill_typed name item) before after = ⊥
