-- What getting the files of a crate leaves.
use Rattle.std.specs.Prelude.{◌≡◌, ℕ, ◌≤◌, List, [], ◌∷◌, map, take, length, Some, slice_get, ⊤}
use Rattle.front.specs.Crates.{AreAll, AreHeldIn, IsNext, IsNotMain, path_of}
use Rattle.front.specs.Files.{WhereTold, name_in}
use Rattle.front.specs.Runs.{FailedOrLarge}
use Rattle.front.specs.declared.unread.Unread.{Unread}
use Rattle.front.specs.declared.unread.Unread.TheVariants.{NotRead, NotMain, Memory}
use Rattle.rs_parse.specs.Crates.{NamesModules}
use Rattle.rs_text.specs.Text.{main_path, module_path}
use Rattle.shelf.specs.declared.file.File.{File}
use Rattle.shelf.specs.Shelf.{ShelfState}

-- files were got from under a directory
pub record AreGotIn (directory : List ℕ) (files : List File) (before after : ShelfState) : Type 0 where
  pub kept : after.held ≡ before.held
  pub later : before.faults ≤ after.faults
  pub unfailed : after.last ≡ before.last
  pub here : WhereTold before.held (λ held. AreHeldIn held directory files)

-- files with these paths were got
pub record AreGotAll (directory : List ℕ) (paths : List (List ℕ)) (files : List File) (before after : ShelfState) : Type 0 where
  pub named : map path_of files ≡ paths
  pub got : AreGotIn directory files before after

-- a file couldn't be read: those with the paths before it are held
pub record StopsAtFile (directory : List ℕ) (paths : List (List ℕ)) (name : List ℕ) (before after : ShelfState) : Type 0 where
  pub kept : after.held ≡ before.held
  pub why : FailedOrLarge name before after
  pub path : List ℕ
  pub name_is : name ≡ name_in directory path
  pub files : List File
  pub front : map path_of files ≡ take (length files) paths
  pub next : slice_get paths (length files) ≡ Some path
  pub here : WhereTold before.held (λ held. AreHeldIn held directory files)

-- why not all files with these paths were got
abbrev pub StopsGet : List ℕ → List (List ℕ) → Unread → ShelfState → ShelfState → Type 0
StopsGet directory paths (NotRead name) before after = StopsAtFile directory paths name before after
StopsGet directory paths (NotMain name line) before after = ⊥
StopsGet directory paths Memory before after = after.held ≡ before.held

-- one file was got, or why it wasn't
abbrev pub StopsFile : List ℕ → List ℕ → Unread → ShelfState → ShelfState → Type 0
StopsFile directory path (NotRead name) before after = (name ≡ name_in directory path) × (after.held ≡ before.held) × FailedOrLarge name before after
StopsFile directory path (NotMain name line) before after = ⊥
StopsFile directory path Memory before after = after.held ≡ before.held

-- ---- `main.rs`

-- these are the paths of the files of the modules that a text of `main.rs` names
abbrev pub NamesPaths : List ℕ → List (List ℕ) → Type 0
NamesPaths text paths = (names : List (List ℕ)) × NamesModules text names × (paths ≡ map module_path names)

-- `main.rs` isn't of its form; it has the name of this path in a directory
abbrev pub IsNamedAs : List ℕ → List ℕ → Unread → Type 0
IsNamedAs directory path (NotRead name) = ⊥
IsNamedAs directory path (NotMain name line) = name ≡ name_in directory path
IsNamedAs directory path Memory = ⊤

-- why a text of `main.rs` names no modules
abbrev pub StopsMain : List ℕ → List ℕ → Unread → Type 0
StopsMain directory text (NotRead name) = ⊥
StopsMain directory text (NotMain name line) = ((names : List (List ℕ)) → NamesModules text names → ⊥) × (name ≡ name_in directory main_path)
StopsMain directory text Memory = ⊤

-- the files of the modules were got behind `Cargo.toml` and `main.rs`
abbrev pub ModulesAreGot : List ℕ → List File → List File → ShelfState → ShelfState → Type 0
ModulesAreGot directory (cargo ∷ main ∷ []) files before after =
    (modules : List File) × (names : List (List ℕ)) × NamesModules main.bytes names × (files ≡ cargo ∷ main ∷ modules)
    × AreGotAll directory (map module_path names) modules before after
ModulesAreGot directory heads files before after = ⊥

-- why they weren't
abbrev pub StopsModules : List ℕ → List File → Unread → ShelfState → ShelfState → Type 0
StopsModules directory (cargo ∷ main ∷ []) (NotRead name) before after =
    (names : List (List ℕ)) × NamesModules main.bytes names × StopsAtFile directory (map module_path names) name before after
StopsModules directory (cargo ∷ main ∷ []) (NotMain name line) before after = (after ≡ before) × StopsMain directory main.bytes (NotMain name line)
StopsModules directory heads Memory before after = after.held ≡ before.held
StopsModules directory heads why before after = ⊥

-- ---- all files of a crate

-- a file of a crate couldn't be read behind others
pub record StopsAtNext (directory : List ℕ) (name : List ℕ) (before after : ShelfState) : Type 0 where
  pub kept : after.held ≡ before.held
  pub why : FailedOrLarge name before after
  pub path : List ℕ
  pub name_is : name ≡ name_in directory path
  pub files : List File
  pub next : IsNext files path
  pub here : WhereTold before.held (λ held. AreHeldIn held directory files)

-- why not all files of a crate were got
abbrev pub StopsCrate : List ℕ → Unread → ShelfState → ShelfState → Type 0
StopsCrate directory (NotRead name) before after = StopsAtNext directory name before after
StopsCrate directory (NotMain name line) before after =
    (files : List File) × AreGotIn directory files before after × IsNotMain files × (name ≡ name_in directory main_path)
StopsCrate directory Memory before after = after.held ≡ before.held

-- all files of a crate were got
pub record IsGotWhole (directory : List ℕ) (files : List File) (before after : ShelfState) : Type 0 where
  pub all : AreAll files
  pub got : AreGotIn directory files before after
