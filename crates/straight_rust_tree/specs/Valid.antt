-- Which trees are crates of the subset.
use Rattle.std.specs.Prelude.{ℕ, ◌<◌, ◌≤◌, Bool, true, false, not, ◌&&◌, List, [], ◌∷◌, map, length, Option, Some, None, bytes_eq, codes, slice_get, IsTrue}
use Rattle.std.specs.List.{list_all, list_any}
use Rattle.straight_rust_tree.specs.declared.tree.Attribute.{Attribute}
use Rattle.straight_rust_tree.specs.declared.tree.Attribute.TheVariants.{Mangled, NoMangle, ExportName}
use Rattle.straight_rust_tree.specs.Names.{is_word, is_identifier, is_module_name}
use Rattle.straight_rust_tree.specs.Tree.{Ty, bool, Place, named, static_at, Expr, Exprs, literal, read, call, neg, binary, no_exprs, expr_and, Stmt, Stmts, assign, eval, gives, no_stmts, stmt_and, LocalTree, OuterTree, FunctionTree, ItemTree, static, extern, defined, ModuleTree, CrateTree}

-- no two of these names are equal
abbrev pub all_differ : List (List ℕ) → Bool
all_differ [] = true
all_differ (name ∷ others) = not (list_any (λ other. bytes_eq other name) others) && all_differ others

-- an integer type, which a literal can have as suffix
abbrev pub is_integer : Ty → Bool
is_integer bool = false
is_integer _ = true

-- ---- forms

abbrev pub is_literal : Expr → Bool
is_literal (literal value ty) = true
is_literal (read place) = false
is_literal (call m x args) = false
is_literal (neg operand) = false
is_literal (binary operator left right) = false

abbrev pub is_call : Expr → Bool
is_call (literal value ty) = false
is_call (read place) = false
is_call (call m x args) = true
is_call (neg operand) = false
is_call (binary operator left right) = false

abbrev pub valid_place : Place → Bool
valid_place (named x) = is_identifier x
valid_place (static_at m x) = is_module_name m && is_identifier x

abbrev mutual
  -- names are names, a literal is an integer, and what unary minus stands before is no literal
  pub valid_expr : Expr → Bool
  valid_expr (literal value ty) = is_integer ty
  valid_expr (read place) = valid_place place
  valid_expr (call m x args) = is_module_name m && is_identifier x && valid_exprs args
  valid_expr (neg operand) = not (is_literal operand) && valid_expr operand
  valid_expr (binary operator left right) = valid_expr left && valid_expr right

  pub valid_exprs : Exprs → Bool
  valid_exprs no_exprs = true
  valid_exprs (expr_and e es) = valid_expr e && valid_exprs es

-- an expression is a statement where it is a call
abbrev pub valid_stmt : Stmt → Bool
valid_stmt (assign place value) = valid_place place && valid_expr value
valid_stmt (eval value) = is_call value && valid_expr value
valid_stmt (gives None) = true
valid_stmt (gives (Some value)) = valid_expr value

abbrev pub valid_stmts : Stmts → Bool
valid_stmts no_stmts = true
valid_stmts (stmt_and s ss) = valid_stmt s && valid_stmts ss

-- ---- items

-- a symbol is an identifier of C (ISO C99, 6.4.2.1)
abbrev pub valid_attribute : Attribute → Bool
valid_attribute Mangled = true
valid_attribute NoMangle = true
valid_attribute (ExportName symbol) = is_word symbol

abbrev pub valid_link_name : Option (List ℕ) → Bool
valid_link_name None = true
valid_link_name (Some symbol) = is_word symbol

abbrev pub valid_local : LocalTree → Bool
valid_local local = is_identifier local.name

abbrev pub valid_outer : OuterTree → Bool
valid_outer outer = is_identifier outer.name && valid_link_name outer.link_name

abbrev pub valid_function : FunctionTree → Bool
valid_function fun =
    valid_attribute fun.attribute && is_identifier fun.name && list_all valid_local fun.params && list_all valid_local fun.locals
    && valid_stmts fun.body

-- an `extern` block isn't empty
abbrev pub valid_item : ItemTree → Bool
valid_item (static object) = valid_attribute object.attribute && is_identifier object.name
valid_item (extern []) = false
valid_item (extern (outer ∷ outers)) = list_all valid_outer (outer ∷ outers)
valid_item (defined fun) = valid_function fun

-- ---- modules

-- the names that an item gives to its module
abbrev pub item_names : ItemTree → List (List ℕ)
item_names (static object) = object.name ∷ []
item_names (extern outers) = map (λ outer. outer.name) outers
item_names (defined fun) = fun.name ∷ []

-- only functions
abbrev pub are_functions : List ItemTree → Bool
are_functions [] = true
are_functions (static object ∷ items) = false
are_functions (extern outers ∷ items) = false
are_functions (defined fun ∷ items) = are_functions items

-- first the static objects, then at most one `extern` block, then the functions
abbrev pub are_in_order : List ItemTree → Bool
are_in_order [] = true
are_in_order (static object ∷ items) = are_in_order items
are_in_order (extern outers ∷ items) = are_functions items
are_in_order (defined fun ∷ items) = are_functions items

abbrev pub is_initialiser : ItemTree → Bool
is_initialiser (static object) = false
is_initialiser (extern outers) = false
is_initialiser (defined fun) = bytes_eq fun.name (codes "run_static_initializers")

-- the last item is the function `run_static_initializers`
abbrev pub ends_with_initialiser : List ItemTree → Bool
ends_with_initialiser [] = false
ends_with_initialiser (item ∷ []) = is_initialiser item
ends_with_initialiser (item ∷ other ∷ others) = ends_with_initialiser (other ∷ others)

abbrev pub valid_module : ModuleTree → Bool
valid_module unit =
    is_module_name unit.name && list_all valid_item unit.items && are_in_order unit.items && ends_with_initialiser unit.items

-- ---- the crate

abbrev pub is_entry : ItemTree → Bool
is_entry (static object) = false
is_entry (extern outers) = false
is_entry (defined fun) = bytes_eq fun.name (codes "main_0")

-- a module has the function `main_0`
abbrev pub has_entry : Option ModuleTree → Bool
has_entry None = false
has_entry (Some unit) = list_any is_entry unit.items

-- a tree of the subset: 1 to 64 modules of different names, each with its initialiser, and the entry has `main_0`
pub record IsValid (whole : CrateTree) : Type 0 where
  pub modules : (0 < length whole.modules) × (length whole.modules ≤ 64)
  pub names : IsTrue (all_differ (map (λ unit. unit.name) whole.modules))
  pub forms : IsTrue (list_all valid_module whole.modules)
  pub entry : IsTrue (has_entry (slice_get whole.modules whole.entry))
