-- What the parts of a crate are, by the names of a table. Private contracts name these.
use Rattle.std.specs.Prelude.{◌≡◌, ℕ, List, [], ◌∷◌, ◌++◌, length, map, Option, Some, None, codes}
use Rattle.std.specs.List.{filter}
use Rattle.straight_core.specs.declared.program.CoreObject.{CoreObject}
use Rattle.straight_core.specs.declared.program.Outer.{Outer}
use Rattle.straight_core.specs.declared.program.Parts.{Parts}
use Rattle.straight_core.specs.Trees.{CStmt, CPut, CObject, CProgram}
use Rattle.straight_core.specs.Views.{view_program}
use Rattle.straight_lift.specs.declared.names.Known.{Known}
use Rattle.straight_lift.specs.declared.names.NameTable.{NameTable}
use Rattle.straight_lift.specs.Lifted.{Names, lift_stmt}
use Rattle.straight_items.specs.Temporaries.{AreApart}
use Rattle.straight_rust_tree.specs.declared.tree.Attribute.TheVariants.{Mangled}
use Rattle.straight_rust_tree.specs.Tree.{i32, Stmt, stmts, OuterTree, FunctionTree, ItemTree, extern, defined}
use Rattle.straight_whole.specs.Calls.{calls_in_stmt}
use Rattle.straight_whole.specs.CrateOf.{static_of, outer_of, store_in, local_of, temporaries_of}
use Rattle.straight_whole.specs.Items.{name_or_empty}
use Rattle.straight_whole.specs.Named.{module_names}

-- ---- names

abbrev pub known_object : CoreObject → Known
known_object one = record { number = one.object; name = name_or_empty one.name }

abbrev pub known_outer : Outer → Known
known_outer one = record { number = one.function; name = one.name }

-- names of so many temporaries, which differ from one another and from those that are taken
pub record AreNames (taken : List (List ℕ)) (count : ℕ) (names : List (List ℕ)) : Type 0 where
  pub many : length names ≡ count
  pub apart : AreApart taken names

-- the names of a program's module and of the temporaries of a body
pub record IsTableOf (program : Parts) (home : List ℕ) (body : CStmt) (table : NameTable) : Type 0 where
  pub home_is : table.home ≡ home
  pub objects : table.objects ≡ map known_object program.objects
  pub functions : table.functions ≡ map known_outer program.externals
  pub temporaries : AreNames (module_names (view_program program)) (temporaries_of body) table.temporaries

-- ---- items

-- the stores of what is put in an object
abbrev pub object_stores : Names → ℕ → Option (List CPut) → List Stmt
object_stores names number None = []
object_stores names number (Some puts) = map (store_in names number) puts

-- and in objects, in order
abbrev pub stores_of : Names → List CObject → List Stmt
stores_of names [] = []
stores_of names (one ∷ more) = object_stores names one.object one.puts ++ stores_of names more

abbrev pub main_with : Names → List (List ℕ) → CStmt → FunctionTree
main_with names temporaries body = record {
  attribute = Mangled;
  name = codes "main_0";
  params = [];
  result = Some i32;
  locals = map local_of temporaries;
  body = stmts (lift_stmt names body 0).stmts;
}

abbrev pub initialiser_with : Names → List CObject → FunctionTree
initialiser_with names objects = record {
  attribute = Mangled;
  name = codes "run_static_initializers";
  params = [];
  result = None;
  locals = [];
  body = stmts (stores_of names objects);
}

-- a block of external functions, where there are some
abbrev pub extern_block : List OuterTree → List ItemTree
extern_block [] = []
extern_block (first ∷ others) = extern (first ∷ others) ∷ []

-- the items of a program's module: its static objects, the external functions that are called, `main_0` and the
-- initialiser
abbrev pub module_items : CProgram → Names → List (List ℕ) → CStmt → List ItemTree
module_items program names temporaries body =
    ((map static_of program.objects ++ extern_block (map outer_of (filter (λ one. calls_in_stmt one.function body) program.externals)))
    ++ defined (main_with names temporaries body) ∷ [])
    ++ defined (initialiser_with names program.objects) ∷ []
