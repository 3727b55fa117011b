-- What the steps from tokens to a program find.
use Rattle.std.specs.Prelude.{◌≡◌, ℕ, List, ⊤, Some}
use Rattle.cr_base.specs.declared.refusal.Stop.{Stop}
use Rattle.cr_base.specs.declared.refusal.Stop.TheVariants.{Refused, Memory}
use Rattle.straight_core.specs.Trees.{CProgram}
use Rattle.straight_decl.specs.CoreOf.{core_of}
use Rattle.cx_lex.specs.declared.token.Token.{Token}
use Rattle.straight_tree.specs.Derives.{Derives}
use Rattle.straight_tree.specs.Trees.{UnitTree}
use Rattle.straight_items.specs.Modules.{module_name, stem_of}
use Rattle.front.specs.Kept.{KeepsNames}
use Rattle.front.specs.Refusals.{not_built}

-- the program of tokens, by their tree
pub record HasProgram (tokens : List Token) (program : CProgram) : Type 0 where
  pub tree : UnitTree
  pub derived : Derives tokens tree
  pub typed : core_of 0 tree ≡ Some program

-- the program of the tokens of a file that is translated today
pub record BuildsAs (file : List ℕ) (tokens : List Token) (program : CProgram) : Type 0 where
  pub plain : module_name file ≡ stem_of file
  pub has : HasProgram tokens program
  pub kept : KeepsNames program

-- a refusal says that there is no such program; want of memory says nothing
abbrev pub StopsAs : (CProgram → Type 0) → Stop → Type 0
StopsAs Has (Refused refusal) = (refusal ≡ not_built) × ((program : CProgram) → ¬ Has program)
StopsAs Has Memory = ⊤
