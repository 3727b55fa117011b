-- What contracts see of a shelf over memory.
use Rattle.std.specs.Prelude.{ℕ, List, Option, Some}
use Rattle.shelf.specs.declared.called.Called.{Called}
use Rattle.shelf.specs.declared.file.File.{File}
use Rattle.shelf.specs.Files.{bytes_of}
use Rattle.shelf.specs.Shelf.{ShelfState}

-- a shelf over memory: its files, of which the first of a name counts; the numbers, from 0 on, of
-- the calls that fail; how many calls were made and how many failed, which stand still at the last
-- value of a `u64`; and the last call that failed
pub record MemShelfView : Type 0 where
  pub files : List File
  pub fails : List ℕ
  pub calls : ℕ
  pub faults : ℕ
  pub last : Option Called

-- what such a shelf holds and remembers
abbrev pub state_of : MemShelfView → ShelfState
state_of shelf = record {
  held = Some (bytes_of shelf.files);
  faults = shelf.faults;
  last = shelf.last;
}
