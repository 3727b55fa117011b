-- Which crates of the subset are well typed (the Rust Reference, "Items", "Statements and expressions", "Type system").
use Rattle.std.specs.Prelude.{◌≡◌, ℕ, ◌+◌, Bool, true, false, not, ◌&&◌, ◌||◌, List, [], ◌∷◌, ◌++◌, map, flat_map, Option, Some, None, is_some, option_map, bytes_eq, codes, if◌then◌else◌}
use Rattle.std.specs.List.{list_all, list_any}
use Rattle.straight_rust_mean.specs.Items.{Signature, callee_at, signature_of, Spot, static_spot, statics_of, local_spot}
use Rattle.straight_rust_mean.specs.Scalars.{is_signed, same_type, literal_fits}
use Rattle.straight_rust_tree.specs.Names.{is_among, bare_name}
use Rattle.straight_rust_tree.specs.Tree.{Ty, i32, i64, u32, u64, Place, named, static_at, Expr, Exprs, literal, read, call, neg, binary, no_exprs, expr_and, Stmt, Stmts, assign, eval, gives, no_stmts, stmt_and, LocalTree, OuterTree, FunctionTree, ItemTree, static, extern, defined, ModuleTree, CrateTree}
use Rattle.straight_rust_tree.specs.Valid.{IsValid, all_differ, is_integer, item_names}

-- what the names of a body stand for: the crate, and the parameters and locals of the function
pub record Scope : Type 0 where
  pub whole : CrateTree
  pub locals : List LocalTree

abbrev pub spot_type : Option Spot → Option Ty
spot_type None = None
spot_type (Some spot) = Some spot.ty

-- the type of a place, where its name or path names an object
abbrev pub place_type : Scope → Place → Option Ty
place_type scope (named x) = spot_type (local_spot 0 x scope.locals)
place_type scope (static_at m x) = spot_type (static_spot 0 m x (statics_of scope.whole))

abbrev pub is_type : Ty → Option Ty → Bool
is_type ty None = false
is_type ty (Some other) = same_type ty other

-- ---- expressions

-- a type if a test holds
abbrev pub only_if : Bool → Ty → Option Ty
only_if true ty = Some ty
only_if false ty = None

-- the type of unary minus, by that of its operand, which is signed
abbrev pub neg_type : Option Ty → Option Ty
neg_type None = None
neg_type (Some ty) = only_if (is_signed ty) ty

-- the type of `+ - *`, by those of the operands, which have one integer type
abbrev pub binary_type : Option Ty → Option Ty → Option Ty
binary_type None right = None
binary_type (Some ty) right = only_if (is_integer ty && is_type ty right) ty

-- a type that an argument behind the parameters may have
abbrev pub is_trailing : Option Ty → Bool
is_trailing None = false
is_trailing (Some ty) = same_type ty i32 || same_type ty u32 || same_type ty i64 || same_type ty u64

abbrev pub signature_at : CrateTree → List ℕ → List ℕ → Option Signature
signature_at whole m x = option_map signature_of (callee_at whole m x)

-- the result type of a call, if the function has a result, where there is a function and the arguments fit it
abbrev pub call_type : Option Signature → (Signature → Bool) → Option (Option Ty)
call_type None fits = None
call_type (Some signature) fits = if fits signature then Some signature.result else None

abbrev pub value_type : Option (Option Ty) → Option Ty
value_type None = None
value_type (Some result) = result

abbrev mutual
  -- the type of the value of an expression; none where it is ill typed or has no value
  pub type_of : Scope → Expr → Option Ty
  type_of scope (literal value ty) = only_if (literal_fits ty value) ty
  type_of scope (read place) = place_type scope place
  type_of scope (call m x args) = value_type (call_type (signature_at scope.whole m x) (λ signature. args_fit scope signature.params signature.variadic args))
  type_of scope (neg operand) = neg_type (type_of scope operand)
  type_of scope (binary operator left right) = binary_type (type_of scope left) (type_of scope right)

  -- arguments have the types of the parameters, and those behind them, if there may be some, types that these may have
  pub args_fit : Scope → List Ty → Bool → Exprs → Bool
  args_fit scope [] variadic no_exprs = true
  args_fit scope (ty ∷ tys) variadic no_exprs = false
  args_fit scope [] variadic (expr_and e es) = variadic && is_trailing (type_of scope e) && args_fit scope [] variadic es
  args_fit scope (ty ∷ tys) variadic (expr_and e es) = is_type ty (type_of scope e) && args_fit scope tys variadic es

-- ---- statements

abbrev pub are_one_type : Option Ty → Option Ty → Bool
are_one_type None other = false
are_one_type (Some ty) other = is_type ty other

-- a call whose result is dropped
abbrev pub drops_call : Scope → Expr → Bool
drops_call scope (call m x args) =
    is_some (call_type (signature_at scope.whole m x) (λ signature. args_fit scope signature.params signature.variadic args))
drops_call scope (literal value ty) = false
drops_call scope (read place) = false
drops_call scope (neg operand) = false
drops_call scope (binary operator left right) = false

-- what a `return` gives is of the function's result type
abbrev pub gives_type : Scope → Option Ty → Option Expr → Bool
gives_type scope None None = true
gives_type scope (Some ty) (Some value) = is_type ty (type_of scope value)
gives_type scope None (Some value) = false
gives_type scope (Some ty) None = false

-- a stored value has the type of its place
abbrev pub stmt_typed : Scope → Option Ty → Stmt → Bool
stmt_typed scope result (assign place value) = are_one_type (place_type scope place) (type_of scope value)
stmt_typed scope result (eval value) = drops_call scope value
stmt_typed scope result (gives value) = gives_type scope result value

abbrev pub stmts_typed : Scope → Option Ty → Stmts → Bool
stmts_typed scope result no_stmts = true
stmts_typed scope result (stmt_and s ss) = stmt_typed scope result s && stmts_typed scope result ss

abbrev pub gives_value : Stmt → Bool
gives_value (assign place value) = false
gives_value (eval value) = false
gives_value (gives None) = false
gives_value (gives (Some value)) = true

abbrev pub ends_with_value : Stmts → Bool
ends_with_value no_stmts = false
ends_with_value (stmt_and s no_stmts) = gives_value s
ends_with_value (stmt_and s (stmt_and other others)) = ends_with_value (stmt_and other others)

-- a function with a result ends with a `return` of it
abbrev pub body_ends : Option Ty → Stmts → Bool
body_ends None body = true
body_ends (Some ty) body = ends_with_value body

-- ---- items

-- the external functions that have a meaning of their own (ISO C99, 7.20 and 7.21), which isn't built yet
unfoldable pub known_functions : List (List ℕ)
known_functions =
    codes "malloc" ∷ codes "calloc" ∷ codes "free" ∷ codes "memcpy" ∷ codes "memmove" ∷ codes "memset" ∷ codes "exit" ∷ codes "abort" ∷ []

-- the symbol by which the linker knows an external function
abbrev pub symbol_or : List ℕ → Option (List ℕ) → List ℕ
symbol_or name None = bare_name name
symbol_or name (Some symbol) = symbol

abbrev pub symbol_of : OuterTree → List ℕ
symbol_of fun = symbol_or fun.name fun.link_name

-- each type of today is one that an external function may have
abbrev pub outer_typed : OuterTree → Bool
outer_typed fun = not (is_among known_functions (symbol_of fun))

abbrev pub same_result : Option Ty → Option Ty → Bool
same_result None None = true
same_result (Some ty) other = is_type ty other
same_result None (Some ty) = false

abbrev pub has_no_params : List LocalTree → Bool
has_no_params [] = true
has_no_params (param ∷ params) = false

-- `main_0` has no parameters and gives an `i32`, and `run_static_initializers` has neither
abbrev pub head_typed : FunctionTree → Bool
head_typed fun =
    if bytes_eq fun.name (codes "main_0") then has_no_params fun.params && same_result fun.result (Some i32)
    else (if bytes_eq fun.name (codes "run_static_initializers") then has_no_params fun.params && same_result fun.result None else true)

-- parameters and locals: their names differ, also from those of the module's items
abbrev pub names_typed : ModuleTree → List LocalTree → Bool
names_typed unit locals =
    all_differ (map (λ local. local.name) locals)
    && not (list_any (λ local. is_among (flat_map item_names unit.items) local.name) locals)

abbrev pub function_typed : CrateTree → ModuleTree → FunctionTree → Bool
function_typed whole unit fun =
    head_typed fun && names_typed unit (fun.params ++ fun.locals)
    && stmts_typed (record { whole = whole; locals = fun.params ++ fun.locals }) fun.result fun.body && body_ends fun.result fun.body

abbrev pub item_typed : CrateTree → ModuleTree → ItemTree → Bool
item_typed whole unit (static object) = true
item_typed whole unit (extern outers) = list_all outer_typed outers
item_typed whole unit (defined fun) = function_typed whole unit fun

-- the names of an item differ from one another and from those of the items before it
abbrev pub names_differ : List (List ℕ) → ItemTree → Bool
names_differ earlier item =
    all_differ (item_names item) && not (list_any (is_among earlier) (item_names item))

-- ---- the crate

-- the first item of a module from number k on that breaks a case, behind items of these names
abbrev pub first_ill_item : CrateTree → ModuleTree → List (List ℕ) → ℕ → List ItemTree → Option ℕ
first_ill_item whole unit earlier k [] = None
first_ill_item whole unit earlier k (item ∷ others) =
    if names_differ earlier item && item_typed whole unit item
    then first_ill_item whole unit (item_names item ++ earlier) (k + 1) others
    else Some k

-- a place in a crate: the numbers of a module and of an item in it, from 0
pub record ItemPlace : Type 0 where
  pub mod_number : ℕ
  pub item_number : ℕ

abbrev pub placed_in : ℕ → Option ℕ → Option ItemPlace → Option ItemPlace
placed_in m None rest = rest
placed_in m (Some k) rest = Some (record { mod_number = m; item_number = k })

abbrev pub first_ill_from : CrateTree → ℕ → List ModuleTree → Option ItemPlace
first_ill_from whole m [] = None
first_ill_from whole m (unit ∷ others) =
    placed_in m (first_ill_item whole unit [] 0 unit.items) (first_ill_from whole (m + 1) others)

-- the first item that isn't well typed
abbrev pub first_ill : CrateTree → Option ItemPlace
first_ill whole = first_ill_from whole 0 whole.modules

-- a tree of the subset in which every item is well typed
pub record WellTyped (whole : CrateTree) : Type 0 where
  pub valid : IsValid whole
  pub typed : first_ill whole ≡ None
