-- The items that a program's crate has.
use Rattle.std.specs.Prelude.{ℕ, ◌+◌, ◌==◌, List, [], ◌∷◌, ◌++◌, map, Option, Some, None, if◌then◌else◌, bytes_eq, codes}
use Rattle.std.specs.List.{filter}
use Rattle.straight_core.specs.Trees.{CObject, COuter, CProgram}
use Rattle.straight_mean.specs.State.{statics_in}
use Rattle.straight_rust_tree.specs.Tree.{ItemTree, static, extern, defined, CrateTree}
use Rattle.straight_whole.specs.Calls.{functions_of, called_by}

-- what an item is, without types and bodies
pub data Head : Type 0 where
  object : (name : List ℕ) → Head
  externals : (names : List (List ℕ)) → Head
  function : (name : List ℕ) → Head

-- a module: its name and what its items are, in order
pub record Outline : Type 0 where
  pub name : List ℕ
  pub heads : List Head

abbrev pub name_or_empty : Option (List ℕ) → List ℕ
name_or_empty None = []
name_or_empty (Some name) = name

-- the Rust name of a function; `main` is `main_0`
abbrev pub function_name : List ℕ → List ℕ
function_name name = if bytes_eq name (codes "main") then codes "main_0" else name

-- the static objects of a unit that are defined
abbrev pub objects_of : CProgram → ℕ → List CObject
objects_of program unit = statics_in (filter (λ one. one.unit == unit) program.objects)

-- one block of external functions, where some are called
abbrev pub block_of : List COuter → List Head
block_of [] = []
block_of (first ∷ others) = externals (map (λ one. one.name) (first ∷ others)) ∷ []

-- the module of a unit, by its number and its name: its static objects, the external functions that it calls, its
-- functions, and the initialiser
abbrev pub outline_of : CProgram → ℕ → List ℕ → Outline
outline_of program unit name = record {
  name = name;
  heads = map (λ one. object (name_or_empty one.name)) (objects_of program unit)
      ++ (block_of (called_by program unit)
      ++ (map (λ one. function (function_name one.name)) (functions_of program unit)
      ++ function (codes "run_static_initializers") ∷ []));
}

abbrev pub outlines_from : CProgram → ℕ → List (List ℕ) → List Outline
outlines_from program unit [] = []
outlines_from program unit (name ∷ names) = outline_of program unit name ∷ outlines_from program (unit + 1) names

-- what the crate of a program has: a module for each unit, in order, with these names
abbrev pub items_of : CProgram → List (List ℕ) → List Outline
items_of program names = outlines_from program 0 names

abbrev pub head_of : ItemTree → Head
head_of (static one) = object one.name
head_of (extern outers) = externals (map (λ one. one.name) outers)
head_of (defined one) = function one.name

-- what a crate has
abbrev pub items_in : CrateTree → List Outline
items_in crate = map (λ unit. record { name = unit.name; heads = map head_of unit.items }) crate.modules
