-- Items that paths name, by search alone, without their numbers.
use Rattle.std.specs.Prelude.{ℕ, ◌&&◌, List, [], ◌∷◌, option_map, Option, Some, None, bytes_eq, if◌then◌else◌}
use Rattle.rs_text.specs.Tree.{RecordTree, StaticTree, OuterTree, FunctionTree, ItemTree, RecordItem, StaticItem, ExternItem, FunctionItem, ModuleTree}
use Rattle.rs_tree.specs.Views.{outer_view, function_view}
use Rattle.rs_mean.specs.Lookups.{Callee, outer, own}
use Rattle.rs_layout.specs.declared.lookup.HeldCallee.{HeldCallee}
use Rattle.rs_layout.specs.declared.lookup.HeldCallee.TheVariants as held

-- the first of two, where it is there
abbrev pub or_else : (A : Type 0) → Option A → Option A → Option A
or_else A (Some one) other = Some one
or_else A None other = other

abbrev pub record_with : List ℕ → ItemTree → Option RecordTree
record_with x (RecordItem one) = if bytes_eq one.name x then Some one else None
record_with x (StaticItem object) = None
record_with x (ExternItem outers) = None
record_with x (FunctionItem fun) = None

-- ---- static objects

-- the static object of a path, in an item of a module
abbrev pub static_with : List ℕ → List ℕ → List ℕ → ItemTree → Option StaticTree
static_with home m x (RecordItem one) = None
static_with home m x (StaticItem object) = if bytes_eq home m && bytes_eq object.name x then Some object else None
static_with home m x (ExternItem outers) = None
static_with home m x (FunctionItem fun) = None

abbrev pub static_among : List ℕ → List ℕ → List ℕ → List ItemTree → Option StaticTree
static_among home m x [] = None
static_among home m x (item ∷ items) = or_else StaticTree (static_with home m x item) (static_among home m x items)

abbrev pub static_at : List ℕ → List ℕ → List ModuleTree → Option StaticTree
static_at m x [] = None
static_at m x (unit ∷ units) = or_else StaticTree (static_among unit.name m x unit.items) (static_at m x units)

-- ---- functions with a body

abbrev pub function_with_name : List ℕ → List ℕ → List ℕ → ItemTree → Option FunctionTree
function_with_name home m x (RecordItem one) = None
function_with_name home m x (StaticItem object) = None
function_with_name home m x (ExternItem outers) = None
function_with_name home m x (FunctionItem fun) = if bytes_eq home m && bytes_eq fun.name x then Some fun else None

abbrev pub function_among : List ℕ → List ℕ → List ℕ → List ItemTree → Option FunctionTree
function_among home m x [] = None
function_among home m x (item ∷ items) = or_else FunctionTree (function_with_name home m x item) (function_among home m x items)

abbrev pub function_at : List ℕ → List ℕ → List ModuleTree → Option FunctionTree
function_at m x [] = None
function_at m x (unit ∷ units) = or_else FunctionTree (function_among unit.name m x unit.items) (function_at m x units)

-- ---- functions that can be called

abbrev pub outer_named : List ℕ → List OuterTree → Option OuterTree
outer_named x [] = None
outer_named x (one ∷ others) = if bytes_eq one.name x then Some one else outer_named x others

abbrev pub callee_in : List ℕ → ItemTree → Option Callee
callee_in x (RecordItem one) = None
callee_in x (StaticItem object) = None
callee_in x (ExternItem outers) = option_map outer (outer_named x outers)
callee_in x (FunctionItem fun) = if bytes_eq fun.name x then Some (own fun) else None

abbrev pub callee_in_items : List ℕ → List ItemTree → Option Callee
callee_in_items x [] = None
callee_in_items x (item ∷ items) = or_else Callee (callee_in x item) (callee_in_items x items)

-- which function a held one is
abbrev pub callee_view : HeldCallee → Callee
callee_view (held.Outer fun) = outer (outer_view fun.now)
callee_view (held.Own fun) = own (function_view fun.now)
