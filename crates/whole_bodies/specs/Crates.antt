-- The crate that is written for a program: a module for each unit (ISO C99, 5.1.1.1; the Rust Reference, "Crates and source files").
use Rattle.std.specs.Prelude.{ℕ, zero, suc, List, [], ◌∷◌, length, Option, Some, None}
use Rattle.cx_core.specs.Linked.{main_of}
use Rattle.cx_core.specs.Trees.{CFun, CProgram}
use Rattle.rs_text.specs.Tree.{ModuleTree, CrateTree}
use Rattle.whole_bodies.specs.Bodies.{ShapeOf, written_bodies}
use Rattle.whole_items.specs.Items.{module_tree}
use Rattle.whole_names.specs.Kept.{NamedProgram}

-- a module for each of so many units, from a number on
abbrev pub modules_from : NamedProgram → ShapeOf → (unit left : ℕ) → List ModuleTree
modules_from program shape unit zero = []
modules_from program shape unit (suc left) = module_tree program (written_bodies program shape) unit ∷ modules_from program shape (suc unit) left

-- the unit that has `main`
abbrev pub entry_unit : Option CFun → ℕ
entry_unit None = 0
entry_unit (Some fun) = fun.unit

-- the modules bear these names, one for each unit
abbrev pub crate_of : CProgram → (module_names : List (List ℕ)) → ShapeOf → CrateTree
crate_of program module_names shape =
    record { modules = modules_from (record { program = program; module_names = module_names }) shape 0 (length module_names); entry = entry_unit (main_of program) }
