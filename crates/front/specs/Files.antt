-- The files that a job reads and writes.
use Rattle.std.specs.Prelude.{ℕ, List, [], ◌∷◌, ◌++◌, map, Option, Some, None, codes, ⊤}
use Rattle.shelf.specs.declared.file.File.{File}
use Rattle.shelf.specs.Shelf.{with_file}
use Rattle.straight_items.specs.Modules.{module_name}
use Rattle.straight_rust_tree.specs.Text.{file_of}

-- what a shelf holds: where told, for each name its bytes, or none
abbrev pub Held : Type 0
Held = Option (List ℕ → Option (List ℕ))

-- P of what is held, where that is told
abbrev pub WhereTold : Held → ((List ℕ → Option (List ℕ)) → Type 0) → Type 0
WhereTold None P = ⊤
WhereTold (Some held) P = P held

abbrev pub unit_and : List ℕ → Option (List ℕ) → Option (List File) → Option (List File)
unit_and name None others = None
unit_and name (Some bytes) None = None
unit_and name (Some bytes) (Some others) = Some (file_of name bytes ∷ others)

-- the units that stand under these names, where all are held
abbrev pub units_of : (List ℕ → Option (List ℕ)) → List (List ℕ) → Option (List File)
units_of held [] = Some []
units_of held (name ∷ names) = unit_and name (held name) (units_of held names)

-- a name in a directory
abbrev pub name_in : List ℕ → List ℕ → List ℕ
name_in directory name = directory ++ (codes "/" ++ name)

abbrev pub file_in : List ℕ → File → File
file_in directory file = file_of (name_in directory file.name) file.bytes

-- files, put under a directory
abbrev pub files_in : List ℕ → List File → List File
files_in directory files = map (file_in directory) files

-- the names that the job to translate these files writes, in this order
abbrev pub written_names : List ℕ → List (List ℕ) → List (List ℕ)
written_names directory files =
    map (λ file. name_in directory (codes "src/" ++ (module_name file ++ codes ".rs"))) files
    ++ (name_in directory (codes "src/main.rs") ∷ name_in directory (codes "Cargo.toml") ∷ [])

-- what is held once these files were put, one behind another
abbrev pub with_files : List File → Held → Held
with_files [] held = held
with_files (file ∷ files) held = with_files files (with_file file.name file.bytes held)
