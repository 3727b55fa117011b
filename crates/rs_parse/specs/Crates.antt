-- Which modules `main.rs` names, and which file is at fault where files are those of no crate.
use Rattle.std.specs.Prelude.{◌≡◌, ⊤, ℕ, ◌+◌, nat_eq, Bool, true, false, ◌&&◌, List, [], ◌∷◌, map, length, take, Some, option_map, slice_get, Result, Ok, Err, IsTrue}
use Rattle.std.specs.List.{list_all}
use Rattle.shelf.specs.declared.file.File.{File}
use Rattle.rs_parse.specs.declared.fault.ReadFault.{ReadFault}
use Rattle.rs_parse.specs.declared.fault.ReadFault.TheVariants.{NotRust, Memory}
use Rattle.rs_text.specs.Lines.{module_names, entry_name}
use Rattle.rs_text.specs.Reads.{IsMain, in_file, spells_cargo, spells_main, spells_module, texts_named}
use Rattle.rs_text.specs.Text.{module_path, main_path, cargo_path}
use Rattle.rs_text.specs.Tree.{CrateTree}
use Rattle.rs_text.specs.Valid.{valid_crate}

-- what is said of the number of the file, where the answer is NotRust
abbrev pub IfNotRust : {A : Type 0} → Result A ReadFault → (ℕ → Type 0) → Type 0
IfNotRust (Ok value) says = ⊤
IfNotRust (Err (NotRust file line)) says = says file
IfNotRust (Err Memory) says = ⊤

-- ---- `main.rs`

-- a text is that of `main.rs` for modules of these names, whichever of them is the entry
abbrev pub NamesModules : List ℕ → List (List ℕ) → Type 0
NamesModules text names = (entry : List ℕ) × IsMain text names entry

-- a text is that of `main.rs` for one list of names at most
abbrev pub OneMain : Type 0
OneMain = (text : List ℕ) (names others : List (List ℕ)) → NamesModules text names → NamesModules text others → names ≡ others

-- the only file `main.rs` names these modules
abbrev pub MainNames : List File → List (List ℕ) → Type 0
MainNames files names = (text : List ℕ) × (texts_named main_path files ≡ text ∷ []) × NamesModules text names

-- ---- the names of files

-- exactly one file has this name
abbrev pub stands_once : List File → List ℕ → Bool
stands_once files name = in_file files name (λ text. true)

-- `Cargo.toml` and `main.rs` are among the files, each once
abbrev pub have_heads : List File → Bool
have_heads files = stands_once files cargo_path && stands_once files main_path

-- the other files are those of modules of these names, each once
abbrev pub are_of_modules : List File → List (List ℕ) → Bool
are_of_modules files names =
    list_all (λ name. stands_once files (module_path name)) names && nat_eq (length files) (length names + 2)

-- ---- the order in which files are read: `Cargo.toml`, `main.rs`, and the modules as `main.rs` names them

-- the names of the files of a crate
abbrev pub paths_of : CrateTree → List (List ℕ)
paths_of whole = cargo_path ∷ main_path ∷ map module_path (module_names whole)

-- whether the tokens of each of these files are those of its part of a crate
abbrev pub are_spelled : List File → CrateTree → List Bool
are_spelled files whole =
    in_file files cargo_path spells_cargo
    ∷ in_file files main_path (λ text. spells_main text (module_names whole) (entry_name whole))
    ∷ map (spells_module files) whole.modules

-- A valid crate has the tokens of the first of these files, so many of them.
pub record HasFirst (files : List File) (count : ℕ) (whole : CrateTree) : Type 0 where
  pub valid : IsTrue (valid_crate whole)
  pub spelled : IsTrue (list_all (λ is. is) (take count (are_spelled files whole)))

-- The file with this number is the first one such that no crate has its tokens and those of the files before it: some crate has those
-- of so many files before it.
pub record IsFirstWrong (files : List File) (number : ℕ) : Type 0 where
  pub count : ℕ
  pub before : CrateTree
  pub right : HasFirst files count before
  pub wrong : (whole : CrateTree) → HasFirst files (count + 1) whole → ⊥
  pub path : List ℕ
  pub next : slice_get (paths_of before) count ≡ Some path
  pub here : option_map (λ file. file.name) (slice_get files number) ≡ Some path

-- Which file is at fault, by its number in the list. It is 0 where `Cargo.toml` or `main.rs` isn't there once, and where the other files
-- aren't those of the modules that `main.rs` names. Otherwise it is the first one, in order, such that no crate has its tokens and those
-- of the files before it.
pub record IsAtFault (files : List File) (number : ℕ) : Type 0 where
  pub heads : have_heads files ≡ false → number ≡ 0
  pub modules : have_heads files ≡ true → (names : List (List ℕ)) → MainNames files names → are_of_modules files names ≡ false → number ≡ 0
  pub first : have_heads files ≡ true → ((names : List (List ℕ)) → MainNames files names → are_of_modules files names ≡ true) → IsFirstWrong files number
