-- The files of a crate that is run: which they are, and what a shelf holds of them.
use Rattle.std.specs.Prelude.{◌≡◌, ℕ, ◌≤◌, ◌⊎◌, List, [], ◌∷◌, map, take, length, Option, Some, slice_get, ⊤}
use Rattle.front.specs.Files.{name_in}
use Rattle.rs_parse.specs.Crates.{NamesModules}
use Rattle.rs_text.specs.Text.{cargo_path, main_path, module_path}
use Rattle.run_ends.specs.Told.{name_at}
use Rattle.rust_job.specs.Meaning.{AreNotRust, AreIllTyped}
use Rattle.shelf.specs.declared.file.File.{File}

-- the most bytes of a file of a crate that is run
abbrev pub most_file_bytes : ℕ
most_file_bytes = 268435456

abbrev pub path_of : File → List ℕ
path_of file = file.name

-- a file of a crate is held under its directory, within the most bytes
pub record IsHeldIn (held : List ℕ → Option (List ℕ)) (directory : List ℕ) (file : File) : Type 0 where
  pub here : held (name_in directory file.name) ≡ Some file.bytes
  pub small : length file.bytes ≤ most_file_bytes

abbrev pub AreHeldIn : (List ℕ → Option (List ℕ)) → List ℕ → List File → Type 0
AreHeldIn held directory [] = ⊤
AreHeldIn held directory (file ∷ files) = IsHeldIn held directory file × AreHeldIn held directory files

-- the paths of the files of a crate whose `main.rs` names these modules, in the order in which they are read
abbrev pub paths_of : List (List ℕ) → List (List ℕ)
paths_of names = cargo_path ∷ main_path ∷ map module_path names

-- files have the first of these paths, and this is the path that comes next
pub record IsBehind (files : List File) (paths : List (List ℕ)) (path : List ℕ) : Type 0 where
  pub front : map path_of files ≡ take (length files) paths
  pub next : slice_get paths (length files) ≡ Some path

-- the file that is read behind these: first `Cargo.toml`, then `main.rs`, then those of the modules that `main.rs` names, in its order
abbrev pub IsNext : List File → (path : List ℕ) → Type 0
IsNext [] path = path ≡ cargo_path
IsNext (cargo ∷ []) path = (cargo.name ≡ cargo_path) × (path ≡ main_path)
IsNext (cargo ∷ main ∷ modules) path =
    (names : List (List ℕ)) × NamesModules main.bytes names × IsBehind (cargo ∷ main ∷ modules) (paths_of names) path

-- these are all files that are read
abbrev pub AreAll : List File → Type 0
AreAll [] = ⊥
AreAll (cargo ∷ []) = ⊥
AreAll (cargo ∷ main ∷ modules) =
    (names : List (List ℕ)) × NamesModules main.bytes names × (map path_of (cargo ∷ main ∷ modules) ≡ paths_of names)

-- these are `Cargo.toml` and `main.rs`, and that isn't of its form
abbrev pub IsNotMain : List File → Type 0
IsNotMain [] = ⊥
IsNotMain (cargo ∷ []) = ⊥
IsNotMain (cargo ∷ main ∷ []) =
    (cargo.name ≡ cargo_path) × (main.name ≡ main_path) × ((names : List (List ℕ)) → NamesModules main.bytes names → ⊥)
IsNotMain (cargo ∷ main ∷ one ∷ others) = ⊥

-- all files are there, and they are no crate of the subset; this one is at fault
abbrev pub AreNoCrate : List File → (path : List ℕ) → Type 0
AreNoCrate files path = AreAll files × (number : ℕ) × AreNotRust files number × (path ≡ name_at (map path_of files) number)

-- why files aren't a crate of the subset, and which one is at fault
abbrev pub NotRustBy : List File → (path : List ℕ) → Type 0
NotRustBy files path = (IsNotMain files × (path ≡ main_path)) ⊎ AreNoCrate files path

-- all files are there and a crate, whose first ill-typed item is this one
abbrev pub IllTypedBy : List File → (name : List ℕ) → (item : ℕ) → Type 0
IllTypedBy files name item = AreAll files × AreIllTyped files name item
