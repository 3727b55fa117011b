-- What the crate of a program is to be.
use Rattle.std.specs.Prelude.{◌≡◌, ℕ, true, List}
use Rattle.straight_core.specs.Trees.{CProgram}
use Rattle.straight_rust_mean.specs.Typing.{WellTyped}
use Rattle.straight_rust_tree.specs.Names.{is_module_name}
use Rattle.straight_rust_tree.specs.Tree.{CrateTree}
use Rattle.straight_whole.specs.Items.{items_in, items_of}
use Rattle.straight_whole.specs.Named.{AreNamesKept}
use Rattle.straight_whole.specs.Same.{BehavesAs}
use Rattle.straight_whole.specs.Straight.{IsStraight}

-- a program that is translated today, with the name of its module: a straight program of one unit, whose names the
-- module keeps
pub record IsTranslatable (program : CProgram) (name : List ℕ) : Type 0 where
  pub straight : IsStraight program
  pub kept : AreNamesKept program
  pub named : is_module_name name ≡ true

-- a crate is a right translation of a program into modules of these names: it is well typed, has the program's items,
-- and behaves as the program
pub record IsRight (program : CProgram) (names : List (List ℕ)) (crate : CrateTree) : Type 0 where
  pub well_typed : WellTyped crate
  pub items : items_in crate ≡ items_of program names
  pub behaves : BehavesAs program crate
