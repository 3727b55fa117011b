-- The text of a crate: its files and their bytes.
use Rattle.std.specs.Prelude.{ℕ, List, [], ◌∷◌, ◌++◌, map, codes}
use Rattle.shelf.specs.declared.file.File.{File}
use Rattle.rs_text.specs.Lines.{module_lines, main_lines, cargo_lines, text_of_lines}
use Rattle.rs_text.specs.Tree.{ModuleTree, CrateTree}

-- the path of a module's file
abbrev pub module_path : List ℕ → List ℕ
module_path name = codes "src/" ++ name ++ codes ".rs"

abbrev pub main_path : List ℕ
main_path = codes "src/main.rs"

abbrev pub cargo_path : List ℕ
cargo_path = codes "Cargo.toml"

abbrev pub file_of : List ℕ → List ℕ → File
file_of name bytes = record { name = name; bytes = bytes }

abbrev pub module_file : ModuleTree → File
module_file unit = file_of (module_path unit.name) (text_of_lines (module_lines unit))

-- the files of a crate, in the order in which they are put: the modules, `main.rs`, `Cargo.toml`
abbrev pub text_of : CrateTree → List File
text_of whole =
    map module_file whole.modules
    ++ file_of main_path (text_of_lines (main_lines whole)) ∷ file_of cargo_path (text_of_lines cargo_lines) ∷ []
