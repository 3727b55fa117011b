-- What the job to translate units leaves on the shelf, by how it ended.
use Rattle.std.specs.Prelude.{◌≡◌, ℕ, ◌⊎◌, List, map, take, Some, IsSome, slice_get}
use Rattle.cr_base.specs.Count.{Rose}
use Rattle.cr_base.specs.declared.refusal.Refusal.{Refusal}
use Rattle.shelf.specs.declared.called.Kind.TheVariants.{Get, Put}
use Rattle.shelf.specs.declared.file.File.{File}
use Rattle.shelf.specs.Shelf.{ShelfState, without_file, call_of}
use Rattle.straight_core.specs.Trees.{CProgram}
use Rattle.straight_items.specs.Modules.{module_name}
use Rattle.straight_rust_tree.specs.Text.{text_of}
use Rattle.straight_rust_tree.specs.Tree.{CrateTree}
use Rattle.straight_whole.specs.Right.{IsRight}
use Rattle.front.specs.Refusals.{FirstBroken, CoreOf}
use Rattle.front.specs.Files.{WhereTold, units_of, files_in, with_files, written_names}
use Rattle.cr_base.specs.declared.rule.Rule.TheVariants.{M2}
use Rattle.cx_links.specs.Rules.{nowhere}
use Rattle.front.specs.Report.{Ending, done, refused, usage, cannot_read, cannot_write, memory, told, not_rust, ill_typed}

-- a crate is a right translation of units: it is well typed, has the items of their program in modules that are
-- named after their files, and behaves as that program
pub record Translates (units : List File) (crate : CrateTree) : Type 0 where
  pub program : CProgram
  pub core : CoreOf units program
  pub right : IsRight program (map (λ unit. module_name unit.name) units) crate

-- the units that the shelf held have a right translation, and the shelf was left as P says of its files,
-- put under the directory
abbrev pub WhereTranslated : List ℕ → List (List ℕ) → ShelfState → (List File → Type 0) → Type 0
WhereTranslated directory names before P = WhereTold before.held (λ held.
    (units : List File) × (crate : CrateTree) × (units_of held names ≡ Some units) × Translates units crate × P (files_in directory (text_of crate)))

-- the job was done: the files are those of a right translation, and every other name holds what it held
abbrev pub IsDone : List ℕ → List (List ℕ) → ShelfState → ShelfState → Type 0
IsDone directory names before after =
    WhereTranslated directory names before (λ files. after.held ≡ with_files files before.held)

-- the units were refused: the refusal is the first rule that they break, in this file, and nothing was put
pub record IsRefused (names : List (List ℕ)) (file : List ℕ) (refusal : Refusal) (before after : ShelfState) : Type 0 where
  pub kept : after.held ≡ before.held
  -- the last call that failed is what it was, so no `get` failed
  pub unfailed : after.last ≡ before.last
  pub named : slice_get names refusal.unit ≡ Some file
  pub broken : WhereTold before.held (λ held. (units : List File) × (units_of held names ≡ Some units) × FirstBroken units refusal)

-- a file couldn't be read: it is one of the job, all before it are held, and nothing was put
pub record IsUnread (names : List (List ℕ)) (name : List ℕ) (before after : ShelfState) : Type 0 where
  pub kept : after.held ≡ before.held
  pub rose : Rose before.faults after.faults
  pub last : after.last ≡ Some (call_of name Get)
  pub place : (k : ℕ) × (slice_get names k ≡ Some name) × WhereTold before.held (λ held. IsSome (units_of held (take k names)))

-- the files before number k stand whole, and every other name but that of file k holds what it held
pub record IsLeftAt (directory : List ℕ) (names : List (List ℕ)) (k : ℕ) (name : List ℕ) (before after : ShelfState) : Type 0 where
  pub named : slice_get (written_names directory names) k ≡ Some name
  pub left : WhereTranslated directory names before (λ files. without_file name after.held ≡ without_file name (with_files (take k files) before.held))

-- a file couldn't be written: it is one of the job, and those before it stand whole
pub record IsUnwritten (directory : List ℕ) (names : List (List ℕ)) (name : List ℕ) (before after : ShelfState) : Type 0 where
  pub rose : Rose before.faults after.faults
  pub last : after.last ≡ Some (call_of name Put)
  pub left : (k : ℕ) × IsLeftAt directory names k name before after

-- memory ran out: before anything was put, or at a file, where those before it stand whole
abbrev pub IsOutOfMemory : List ℕ → List (List ℕ) → ShelfState → ShelfState → Type 0
IsOutOfMemory directory names before after =
    (after.held ≡ before.held) ⊎ ((k : ℕ) × (name : List ℕ) × IsLeftAt directory names k name before after)

-- what the job leaves, by how it ended
abbrev pub IsTranspiled : List ℕ → List (List ℕ) → Ending → ShelfState → ShelfState → Type 0
IsTranspiled directory names done before after = IsDone directory names before after
IsTranspiled directory names (refused file refusal) before after = IsRefused names file refusal before after
IsTranspiled directory names usage before after = ⊥
IsTranspiled directory names (cannot_read name) before after = IsUnread names name before after
IsTranspiled directory names (cannot_write name) before after = IsUnwritten directory names name before after
IsTranspiled directory names memory before after = IsOutOfMemory directory names before after
IsTranspiled directory names (told tale) before after = ⊥
IsTranspiled directory names (not_rust name line) before after = ⊥
IsTranspiled directory names (ill_typed name item) before after = ⊥

-- more units than a program may have were refused by M2, which stands in no unit, and nothing was got or put; or memory ran out before
abbrev pub IsTooMany : Ending → ShelfState → ShelfState → Type 0
IsTooMany (refused file refusal) before after = (refusal ≡ nowhere M2) × (after ≡ before)
IsTooMany memory before after = after ≡ before
IsTooMany done before after = ⊥
IsTooMany usage before after = ⊥
IsTooMany (cannot_read name) before after = ⊥
IsTooMany (cannot_write name) before after = ⊥
IsTooMany (told tale) before after = ⊥
IsTooMany (not_rust name line) before after = ⊥
IsTooMany (ill_typed name item) before after = ⊥

-- words that are no job leave the shelf as it was, and so does want of memory while they are read
abbrev pub IsNoJob : Ending → ShelfState → ShelfState → Type 0
IsNoJob usage before after = after ≡ before
IsNoJob done before after = ⊥
IsNoJob (refused file refusal) before after = ⊥
IsNoJob (cannot_read name) before after = ⊥
IsNoJob (cannot_write name) before after = ⊥
IsNoJob (told tale) before after = ⊥
IsNoJob (not_rust name line) before after = ⊥
IsNoJob (ill_typed name item) before after = ⊥
IsNoJob memory before after = after ≡ before
