-- The items that paths name.
use Rattle.std.specs.Prelude.{ℕ, ◌+◌, Bool, false, ◌&&◌, List, [], ◌∷◌, map, Option, Some, None, find, flat_map, bytes_eq, if◌then◌else◌}
use Rattle.straight_rust_tree.specs.Tree.{Ty, LocalTree, OuterTree, FunctionTree, ItemTree, static, extern, defined, ModuleTree, CrateTree}

-- ---- functions

-- a function that can be called: an external one, or one of the crate
pub data Callee : Type 0 where
  outer : OuterTree → Callee
  own : FunctionTree → Callee

abbrev pub callee_name : Callee → List ℕ
callee_name (outer fun) = fun.name
callee_name (own fun) = fun.name

-- the functions of an item
abbrev pub callees_of : ItemTree → List Callee
callees_of (static object) = []
callees_of (extern outers) = map outer outers
callees_of (defined fun) = own fun ∷ []

-- the function of a name in a module
abbrev pub callee_in : List ℕ → Option ModuleTree → Option Callee
callee_in x None = None
callee_in x (Some unit) = find (λ callee. bytes_eq (callee_name callee) x) (flat_map callees_of unit.items)

abbrev pub module_named : List ℕ → CrateTree → Option ModuleTree
module_named m whole = find (λ unit. bytes_eq unit.name m) whole.modules

-- the function that a path names
abbrev pub callee_at : CrateTree → List ℕ → List ℕ → Option Callee
callee_at whole m x = callee_in x (module_named m whole)

-- what a call must give to a function, and what it gives back
pub record Signature : Type 0 where
  pub params : List Ty
  pub variadic : Bool
  pub result : Option Ty

abbrev pub signature_of : Callee → Signature
signature_of (outer fun) = record { params = fun.params; variadic = fun.variadic; result = fun.result }
signature_of (own fun) = record { params = map (λ param. param.ty) fun.params; variadic = false; result = fun.result }

-- ---- objects

-- a static object: its module, its name and its type
pub record StaticObject : Type 0 where
  pub home : List ℕ
  pub name : List ℕ
  pub ty : Ty

abbrev pub statics_in_item : List ℕ → ItemTree → List StaticObject
statics_in_item m (static object) = record { home = m; name = object.name; ty = object.ty } ∷ []
statics_in_item m (extern outers) = []
statics_in_item m (defined fun) = []

-- the static objects of a crate, in its order
abbrev pub statics_of : CrateTree → List StaticObject
statics_of whole = flat_map (λ unit. flat_map (statics_in_item unit.name) unit.items) whole.modules

-- a block and the type of what it holds
pub record Spot : Type 0 where
  pub block : ℕ
  pub ty : Ty

-- the place of the static object that a path names; the first one of the list has this block
abbrev pub static_spot : ℕ → List ℕ → List ℕ → List StaticObject → Option Spot
static_spot block m x [] = None
static_spot block m x (object ∷ others) =
    if bytes_eq object.home m && bytes_eq object.name x then Some (record { block = block; ty = object.ty })
    else static_spot (block + 1) m x others

-- the place of the parameter or local of a name; the first one of the list has this block
abbrev pub local_spot : ℕ → List ℕ → List LocalTree → Option Spot
local_spot block x [] = None
local_spot block x (local ∷ others) =
    if bytes_eq local.name x then Some (record { block = block; ty = local.ty }) else local_spot (block + 1) x others
