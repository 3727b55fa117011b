-- The files of a right crate.
use Rattle.std.specs.Prelude.{◌≡◌, ℕ, List, [], ◌∷◌}
use Rattle.straight_core.specs.Trees.{CProgram}
use Rattle.straight_rust_tree.specs.Text.{text_of}
use Rattle.straight_rust_tree.specs.Tree.{CrateTree}
use Rattle.shelf.specs.declared.file.File.{File}
use Rattle.straight_whole.specs.Right.{IsRight}
use Rattle.front.specs.Files.{files_in}

-- files are the text of a right crate of a program, whose one module has this name
pub record IsPrinted (program : CProgram) (name : List ℕ) (files : List File) : Type 0 where
  pub crate : CrateTree
  pub right : IsRight program (name ∷ []) crate
  pub text : files ≡ text_of crate

-- files are those of a right crate, under a directory
pub record IsPlaced (directory : List ℕ) (program : CProgram) (name : List ℕ) (files : List File) : Type 0 where
  pub crate : CrateTree
  pub right : IsRight program (name ∷ []) crate
  pub text : files ≡ files_in directory (text_of crate)
