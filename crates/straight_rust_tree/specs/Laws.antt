-- Laws of the definitions, which functions with empty bodies carry.
use Rattle.std.specs.Prelude.{◌≡◌, ℕ, pos, Option, List, [], ◌∷◌, map, length, None, Some, codes}
use Rattle.shelf.specs.declared.file.File.{File}
use Rattle.straight_rust_tree.specs.declared.tree.Attribute.TheVariants.{Mangled}
use Rattle.straight_rust_tree.specs.Reads.{ReadsAs}
use Rattle.straight_rust_tree.specs.Text.{text_of}
use Rattle.straight_rust_tree.specs.Tree.{i32, literal, gives, stmts, Stmts, FunctionTree, Ty, defined, CrateTree}

-- a function without parameters, locals and attribute
abbrev pub plain_function : List ℕ → Option Ty → Stmts → FunctionTree
plain_function name result body = record {
  attribute = Mangled;
  name = name;
  params = [];
  result = result;
  locals = [];
  body = body;
}

-- the crate whose one module `a` returns a number
abbrev pub crate_returning : ℕ → CrateTree
crate_returning n = record {
  modules = record {
    name = codes "a";
    items = defined (plain_function (codes "main_0") (Some i32) (stmts (gives (Some (literal (pos n) i32)) ∷ [])))
        ∷ defined (plain_function (codes "run_static_initializers") None (stmts []))
        ∷ [];
  } ∷ [];
  entry = 0;
}

-- how many bytes each file has
abbrev pub sizes : List File → List ℕ
sizes files = map (λ file. length file.bytes) files

-- a worked example: the files of the crate that returns 42 have 118, 185 and 65 bytes, and read as that crate
pub record ReturnsFortyTwo : Type 0 where
  pub bytes : sizes (text_of (crate_returning 42)) ≡ 118 ∷ 185 ∷ 65 ∷ []
  pub reads : ReadsAs (text_of (crate_returning 42)) (crate_returning 42)
