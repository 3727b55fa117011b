-- The crate that is written for a straight program, with the names of its temporaries.
use Rattle.std.specs.Prelude.{ℕ, ℤ, pos, false, List, [], ◌∷◌, ◌++◌, map, Option, Some, None, get_or, codes}
use Rattle.straight_core.specs.Trees.{CTyForm, void, int, function, form_of_type, CExpr, expr, CForm, whole, CStmt, CPut, put, CObject, COuter, CProgram}
use Rattle.straight_core.specs.Typing.{object_with, outer_with}
use Rattle.straight_mean.specs.State.{StaticPut, puts_in}
use Rattle.straight_lift.specs.Agrees.{param_types, result_type}
use Rattle.straight_lift.specs.Lifted.{Names, lift_stmt}
use Rattle.straight_rust_tree.specs.declared.tree.Attribute.TheVariants.{Mangled, NoMangle}
use Rattle.straight_rust_tree.specs.Tree.{i32, static_at, literal, Stmt, assign, stmts, LocalTree, OuterTree, FunctionTree, ItemTree, static, extern, defined, CrateTree}
use Rattle.straight_whole.specs.Calls.{called_by}
use Rattle.straight_whole.specs.Items.{name_or_empty}

-- the name of an object, and of an external function, by its number
abbrev pub name_of_object : Option CObject → List ℕ
name_of_object None = []
name_of_object (Some one) = name_or_empty one.name

abbrev pub name_of_outer : Option COuter → List ℕ
name_of_outer None = []
name_of_outer (Some one) = one.name

-- the names in the module of a program, with those of temporaries
abbrev pub names_of : CProgram → List ℕ → List (List ℕ) → Names
names_of program home temporaries = record {
  home = home;
  objects = λ number. name_of_object (object_with number program.objects);
  functions = λ number. name_of_outer (outer_with number program.externals);
  temporaries = λ number. get_or temporaries number [];
}

-- ---- items

abbrev pub static_of : CObject → ItemTree
static_of one = static (record { attribute = NoMangle; name = name_or_empty one.name; ty = i32 })

-- an external function as it is declared, by its type
abbrev pub declared_outer : List ℕ → CTyForm → OuterTree
declared_outer name (function result params variadic) =
    record { link_name = None; name = name; params = param_types params; variadic = variadic; result = result_type (form_of_type result) }
declared_outer name void = record { link_name = None; name = name; params = []; variadic = false; result = None }
declared_outer name int = record { link_name = None; name = name; params = []; variadic = false; result = None }

abbrev pub outer_of : COuter → OuterTree
outer_of one = declared_outer one.name (form_of_type one.type)

abbrev pub extern_of : List COuter → List ItemTree
extern_of [] = []
extern_of (first ∷ others) = extern (map outer_of (first ∷ others)) ∷ []

abbrev pub local_of : List ℕ → LocalTree
local_of name = record { name = name; ty = i32 }

-- `main_0`: the lifted body, with a local for each temporary
abbrev pub main_of_body : CProgram → CStmt → List ℕ → List (List ℕ) → FunctionTree
main_of_body program body home temporaries = record {
  attribute = Mangled;
  name = codes "main_0";
  params = [];
  result = Some i32;
  locals = map local_of temporaries;
  body = stmts (lift_stmt (names_of program home temporaries) body 0).stmts;
}

-- how many temporaries a body takes
abbrev pub temporaries_of : CStmt → ℕ
temporaries_of body = (lift_stmt (record { home = []; objects = λ n. []; functions = λ n. []; temporaries = λ n. [] }) body 0).next

-- the store of a constant in a static object
abbrev pub value_of_form : CForm → ℤ
value_of_form (whole value) = value
value_of_form _ = pos 0

abbrev pub value_of : CExpr → ℤ
value_of (expr type place form) = value_of_form form

abbrev pub store_in : Names → ℕ → CPut → Stmt
store_in names number (put spot type value) = assign (static_at names.home (names.objects number)) (literal (value_of value) i32)

abbrev pub store_of : CProgram → List ℕ → StaticPut → Stmt
store_of program home one = store_in (names_of program home []) one.object one.stored

-- `run_static_initializers`: a store for each put, in order
abbrev pub initialiser_of : CProgram → List ℕ → FunctionTree
initialiser_of program home = record {
  attribute = Mangled;
  name = codes "run_static_initializers";
  params = [];
  result = None;
  locals = [];
  body = stmts (map (store_of program home) (puts_in program.objects));
}

-- the crate: one module
abbrev pub crate_of : CProgram → CStmt → List ℕ → List (List ℕ) → CrateTree
crate_of program body home temporaries = record {
  modules = record {
    name = home;
    items = map static_of program.objects
        ++ (extern_of (called_by program 0)
        ++ defined (main_of_body program body home temporaries) ∷ defined (initialiser_of program home) ∷ []);
  } ∷ [];
  entry = 0;
}
