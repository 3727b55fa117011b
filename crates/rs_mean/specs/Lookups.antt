-- The items that paths name (the Rust Reference, "Paths" and "Items").
use Rattle.std.specs.Prelude.{ℕ, ◌+◌, Bool, false, ◌&&◌, List, [], ◌∷◌, map, Option, Some, None, find, flat_map, bytes_eq, if◌then◌else◌, option_map, slice_get}
use Rattle.rs_text.specs.Names.{bare_name}
use Rattle.rs_text.specs.Tree.{Ty, RecordTree, StaticTree, OuterTree, LocalTree, FunctionTree, ItemTree, RecordItem, StaticItem, ExternItem, FunctionItem, ModuleTree}

-- ---- modules

-- the module of a name
abbrev pub module_named : List ℕ → List ModuleTree → Option ModuleTree
module_named m modules = find (λ unit. bytes_eq unit.name m) modules

abbrev pub items_of : Option ModuleTree → List ItemTree
items_of None = []
items_of (Some unit) = unit.items

-- the items of a module, where there is one of this name
abbrev pub items_in : List ModuleTree → List ℕ → List ItemTree
items_in modules m = items_of (module_named m modules)

-- ---- records

abbrev pub record_with : List ℕ → ItemTree → Option RecordTree
record_with x (RecordItem one) = if bytes_eq one.name x then Some one else None
record_with x (StaticItem object) = None
record_with x (ExternItem outers) = None
record_with x (FunctionItem fun) = None

abbrev pub first_record : Option RecordTree → Option RecordTree → Option RecordTree
first_record (Some one) others = Some one
first_record None others = others

-- the record of a name among items
abbrev pub record_among : List ℕ → List ItemTree → Option RecordTree
record_among x [] = None
record_among x (item ∷ items) = first_record (record_with x item) (record_among x items)

-- the record that a path names
abbrev pub record_at : List ModuleTree → List ℕ → List ℕ → Option RecordTree
record_at modules m x = record_among x (items_in modules m)

-- ---- functions

-- a function that can be called: an external one, or one of the crate, which has a number
pub data Callee : Type 0 where
  outer : OuterTree → Callee
  own : FunctionTree → Callee

abbrev pub callee_name : Callee → List ℕ
callee_name (outer fun) = fun.name
callee_name (own fun) = fun.name

-- the functions of an item
abbrev pub callees_of : ItemTree → List Callee
callees_of (RecordItem one) = []
callees_of (StaticItem object) = []
callees_of (ExternItem outers) = map outer outers
callees_of (FunctionItem fun) = own fun ∷ []

-- the function of a name among items
abbrev pub callee_among : List ℕ → List ItemTree → Option Callee
callee_among x items = find (λ callee. bytes_eq (callee_name callee) x) (flat_map callees_of items)

-- the function that a path names
abbrev pub callee_at : List ModuleTree → List ℕ → List ℕ → Option Callee
callee_at modules m x = callee_among x (items_in modules m)

-- a function with a body, and the name of its module
pub record OwnFunction : Type 0 where
  pub home : List ℕ
  pub fun : FunctionTree

abbrev pub own_functions_in : List ℕ → ItemTree → List OwnFunction
own_functions_in m (RecordItem one) = []
own_functions_in m (StaticItem object) = []
own_functions_in m (ExternItem outers) = []
own_functions_in m (FunctionItem fun) = record { home = m; fun = fun } ∷ []

-- the functions with a body of all modules, in the crate's order: a function pointer is the number of one of them
abbrev pub functions_of : List ModuleTree → List OwnFunction
functions_of modules = flat_map (λ unit. flat_map (own_functions_in unit.name) unit.items) modules

abbrev pub is_own : List ℕ → List ℕ → OwnFunction → Bool
is_own m x one = bytes_eq one.home m && bytes_eq one.fun.name x

-- the number of the first function that a path names, counted from a number on
abbrev pub number_from : ℕ → List ℕ → List ℕ → List OwnFunction → Option ℕ
number_from number m x [] = None
number_from number m x (one ∷ others) = if is_own m x one then Some number else number_from (number + 1) m x others

-- the number of the function with a body that a path names
abbrev pub function_number : List ModuleTree → List ℕ → List ℕ → Option ℕ
function_number modules m x = number_from 0 m x (functions_of modules)

-- the function with a number
abbrev pub function_with : List ModuleTree → ℕ → Option FunctionTree
function_with modules number = option_map (λ one. one.fun) (slice_get (functions_of modules) number)

-- what a call must give to a function, and what it gives back
pub record Signature : Type 0 where
  pub params : List Ty
  pub variadic : Bool
  pub result : Option Ty

abbrev pub own_signature : FunctionTree → Signature
own_signature fun = record { params = map (λ param. param.ty) fun.params; variadic = false; result = fun.result }

abbrev pub signature_of : Callee → Signature
signature_of (outer fun) = record { params = fun.params; variadic = fun.variadic; result = fun.result }
signature_of (own fun) = own_signature fun

abbrev pub symbol_or : List ℕ → Option (List ℕ) → List ℕ
symbol_or name None = bare_name name
symbol_or name (Some symbol) = symbol

-- the symbol by which the linker knows an external function ("The `link_name` attribute")
abbrev pub symbol_of : OuterTree → List ℕ
symbol_of fun = symbol_or fun.name fun.link_name

-- ---- static objects

-- a static object and the name of its module
pub record OwnStatic : Type 0 where
  pub home : List ℕ
  pub object : StaticTree

abbrev pub statics_in : List ℕ → ItemTree → List OwnStatic
statics_in m (RecordItem one) = []
statics_in m (StaticItem object) = record { home = m; object = object } ∷ []
statics_in m (ExternItem outers) = []
statics_in m (FunctionItem fun) = []

-- the static objects of a crate, in its order; they have the first blocks
abbrev pub statics_of : List ModuleTree → List OwnStatic
statics_of modules = flat_map (λ unit. flat_map (statics_in unit.name) unit.items) modules

-- a block and the type of what it holds
pub record Home : Type 0 where
  pub block : ℕ
  pub ty : Ty

-- the block of the static object that a path names; the first one of the list has this number
abbrev pub static_from : ℕ → List ℕ → List ℕ → List OwnStatic → Option Home
static_from block m x [] = None
static_from block m x (one ∷ others) =
    if bytes_eq one.home m && bytes_eq one.object.name x
    then Some (record { block = block; ty = one.object.ty })
    else static_from (block + 1) m x others

-- the block of the static object that a path names
abbrev pub static_home : List ModuleTree → List ℕ → List ℕ → Option Home
static_home modules m x = static_from 0 m x (statics_of modules)

-- ---- parameters and locals

-- a parameter or a local with its block
pub record LocalBlock : Type 0 where
  pub name : List ℕ
  pub ty : Ty
  pub block : ℕ

abbrev pub home_of : LocalBlock → Home
home_of local = record { block = local.block; ty = local.ty }

-- the block of the parameter or local of a name
abbrev pub local_home : List ℕ → List LocalBlock → Option Home
local_home x locals = option_map home_of (find (λ local. bytes_eq local.name x) locals)

-- the type of the parameter or local of a name
abbrev pub local_type : List ℕ → List LocalTree → Option Ty
local_type x locals = option_map (λ local. local.ty) (find (λ local. bytes_eq local.name x) locals)
