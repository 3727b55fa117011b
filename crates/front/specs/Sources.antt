-- What was got of the units of a job, and what stops them.
use Rattle.std.specs.Prelude.{◌≡◌, ℕ, ◌<◌, ◌≤◌, List, [], ◌∷◌, map, length, Some, slice_get, ⊤}
use Rattle.cr_base.specs.declared.refusal.Stop.{Stop}
use Rattle.cr_base.specs.declared.refusal.Stop.TheVariants.{Refused, Memory}
use Rattle.cx_units.specs.Sources.{AreOf}
use Rattle.cx_units.specs.declared.source.Source.{Source}
use Rattle.cx_units.specs.declared.source.Source.TheVariants.{Bytes, TooLarge}
use Rattle.straight_core.specs.Trees.{CProgram}
use Rattle.shelf.specs.Shelf.{ShelfState}
use Rattle.shelf.specs.declared.file.File.{File}
use Rattle.shelf.specs.declared.file.Got.{Got}
use Rattle.shelf.specs.declared.file.Got.TheVariants as got
use Rattle.straight_rust_tree.specs.Text.{file_of}
use Rattle.front.specs.Files.{WhereTold, units_of}
use Rattle.front.specs.Refusals.{CoreOf, FirstBroken, bytes_of}
use Rattle.front.specs.Report.{Ending, refused, memory}
use Rattle.front.specs.Transpile.{IsUnread}
use Rattle.front.specs.declared.ungot.Ungot.{Ungot}
use Rattle.front.specs.declared.ungot.Ungot.TheVariants as ungot

-- what is known of a unit, of which this was got
abbrev pub source_of : Got → Source
source_of (got.Bytes bytes) = Bytes bytes
source_of got.TooLarge = TooLarge

-- all files were got: the shelf held them, and this was got of their bytes; no `get` failed
pub record AreGot (names : List (List ℕ)) (sources : List Source) (before after : ShelfState) : Type 0 where
  pub count : length sources ≡ length names
  pub kept : after.held ≡ before.held
  pub later : before.faults ≤ after.faults
  pub unfailed : after.last ≡ before.last
  pub held : WhereTold before.held (λ held. (units : List File) × (units_of held names ≡ Some units) × AreOf sources (bytes_of units))

-- why not all were got: a `get` failed, or memory ran out
abbrev pub IsUngot : List (List ℕ) → Ungot → ShelfState → ShelfState → Type 0
IsUngot names (ungot.Failed name) before after = IsUnread names name.now before after
IsUngot names ungot.Memory before after = after.held ≡ before.held

-- units of which this was got, the first of them under this name
pub record AreGotAs (first : List ℕ) (sources : List Source) (units : List File) : Type 0 where
  pub first_is : slice_get (map (λ (unit : File). unit.name) units) 0 ≡ Some first
  pub given : AreOf sources (bytes_of units)

-- what was got is all bytes of one unit, and this is its program
pub record IsBuiltOf (first : List ℕ) (sources : List Source) (program : CProgram) : Type 0 where
  pub bytes : List ℕ
  pub one : sources ≡ Bytes bytes ∷ []
  pub core : CoreOf (file_of first bytes ∷ []) program

-- why units are stopped: by the first rule that they break, in one of them, or for want of memory
abbrev pub StopsJob : List ℕ → List Source → Stop → Type 0
StopsJob first sources (Refused refusal) =
    (refusal.unit < length sources) × ((units : List File) → AreGotAs first sources units → FirstBroken units refusal)
StopsJob first sources Memory = ⊤

-- a refusal stands in one of so many units
abbrev pub IsWithin : ℕ → Stop → Type 0
IsWithin count (Refused refusal) = refusal.unit < count
IsWithin count Memory = ⊤

-- how the job ends where its units are stopped
abbrev pub EndsStopped : List (List ℕ) → Stop → Ending → Type 0
EndsStopped names (Refused refusal) ending = (file : List ℕ) × (slice_get names refusal.unit ≡ Some file) × (ending ≡ refused file refusal)
EndsStopped names Memory ending = ending ≡ memory
