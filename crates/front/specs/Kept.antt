-- The names that a program declares and that are their own Rust names.
use Rattle.std.specs.Prelude.{ℕ, Bool, true, false, ◌&&◌, IsTrue, List, Option, Some, None}
use Rattle.std.specs.List.{list_all}
use Rattle.straight_core.specs.Trees.{CObject, COuter, CProgram}
use Rattle.straight_items.specs.declared.scope.NameScope.TheVariants.{Module}
use Rattle.straight_items.specs.Names.{keeps_name}
use Rattle.straight_rust_tree.specs.Names.{is_word}

-- a name of C that stands in a module as it is
abbrev pub keeps : List ℕ → Bool
keeps name = is_word name && keeps_name Module name

abbrev pub keeps_option : Option (List ℕ) → Bool
keeps_option None = false
keeps_option (Some name) = keeps name

abbrev pub keeps_object : CObject → Bool
keeps_object one = keeps_option one.name

abbrev pub keeps_outer : COuter → Bool
keeps_outer one = keeps one.name

-- all names of a program do, `main` aside
pub record KeepsNames (program : CProgram) : Type 0 where
  pub objects : IsTrue (list_all keeps_object program.objects)
  pub externals : IsTrue (list_all keeps_outer program.externals)
