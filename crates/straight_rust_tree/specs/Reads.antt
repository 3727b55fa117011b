-- Which crate files are read as.
use Rattle.std.specs.Prelude.{◌≡◌, ℕ, List, [], ◌∷◌, Option, Some}
use Rattle.shelf.specs.declared.file.File.{File}
use Rattle.straight_rust_tree.specs.Spelling.{module_tokens, main_tokens, cargo_tokens}
use Rattle.straight_rust_tree.specs.Text.{module_path, main_path, cargo_path}
use Rattle.straight_rust_tree.specs.Tokens.{RToken, tokens_in}
use Rattle.straight_rust_tree.specs.Tree.{ModuleTree, CrateTree}
use Rattle.straight_rust_tree.specs.Valid.{IsValid}

-- a file of this name whose text spells these tokens
pub record Spells (name : List ℕ) (tokens : Option (List RToken)) (file : File) : Type 0 where
  pub named : file.name ≡ name
  pub spelled : tokens_in file.bytes ≡ tokens

-- a file for each module, in order, and behind them the rest
abbrev pub SpellsModules : List ModuleTree → List File → List File → Type 0
SpellsModules [] files rest = files ≡ rest
SpellsModules (unit ∷ units) [] rest = ⊥
SpellsModules (unit ∷ units) (file ∷ files) rest =
    Spells (module_path unit.name) (Some (module_tokens unit)) file × SpellsModules units files rest

-- files read as a crate: it is a valid tree, and the tokens of each file are those of its part of the crate
pub record ReadsAs (files : List File) (whole : CrateTree) : Type 0 where
  pub valid : IsValid whole
  pub main : File
  pub cargo : File
  pub modules : SpellsModules whole.modules files (main ∷ cargo ∷ [])
  pub main_spelled : Spells main_path (Some (main_tokens whole)) main
  pub cargo_spelled : Spells cargo_path cargo_tokens cargo
