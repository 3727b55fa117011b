-- Which trees are crates of the subset.
use Rattle.std.specs.Prelude.{ℕ, suc, ◌^◌, ℤ, pos, negsuc, Bool, true, false, not, ◌&&◌, ◌||◌, nat_eq, nat_lt, nat_le, List, [], ◌∷◌, map, length, Option, Some, None, bytes_eq, codes, slice_get}
use Rattle.std.specs.List.{list_all, list_any}
use Rattle.rs_text.specs.declared.attribute.Attribute.{Attribute}
use Rattle.rs_text.specs.declared.attribute.Attribute.TheVariants.{Mangled, NoMangle, ExportName}
use Rattle.rs_text.specs.declared.integer.IntegerTy.TheVariants.{I8}
use Rattle.rs_text.specs.Forms.{is_literal, is_call}
use Rattle.rs_text.specs.Names.{is_word, is_identifier, is_plain_identifier, is_module_name, is_label}
use Rattle.rs_text.specs.Tree.{Ty, Integer, Boolean, Void, Pointer, Array, Code, Record, Tys, no_tys, more_tys, OptionTy, no_ty, some_ty, Place, Local, Static, Deref, Field, Expr, Literal, Truth, NoFunction, Read, Call, CallBy, Wrapped, WrappingNeg, Offset, OffsetFrom, IsNull, IsNone, AddressOf, NullPointer, SomeFunction, Transmute, Neg, Not, Cast, Binary, And, Or, Choose, Exprs, no_exprs, more_exprs, Stmt, Assign, Eval, CopyBytes, If, Loop, Block, Break, Continue, Match, Return, Stmts, no_stmts, more_stmts, ArmTree, LiteralArm, Arms, no_arms, more_arms, FieldTree, RecordTree, StaticTree, OuterTree, LocalTree, FunctionTree, ItemTree, RecordItem, StaticItem, ExternItem, FunctionItem, ModuleTree, CrateTree, option_ty}

-- no two of these names are equal
abbrev pub all_differ : List (List ℕ) → Bool
all_differ [] = true
all_differ (name ∷ others) = not (list_any (λ other. bytes_eq other name) others) && all_differ others

-- `crate::m::x`
abbrev pub valid_path : List ℕ → List ℕ → Bool
valid_path m x = is_plain_identifier m && is_identifier x

-- ---- types

-- a length is a number of 64 bits
abbrev pub is_length : ℕ → Bool
is_length size = nat_lt size (2 ^ 64)

abbrev pub is_void : Ty → Bool
is_void Void = true
is_void _ = false

abbrev mutual
  -- `core::ffi::c_void` stands only as what a pointer points to
  pub valid_ty : Ty → Bool
  valid_ty (Integer ty) = true
  valid_ty Boolean = true
  valid_ty Void = false
  valid_ty (Pointer target) = is_void target || valid_ty target
  valid_ty (Array element size) = valid_ty element && is_length size
  valid_ty (Code params result) = valid_tys params && valid_result result
  valid_ty (Record m x) = valid_path m x

  pub valid_tys : Tys → Bool
  valid_tys no_tys = true
  valid_tys (more_tys t ts) = valid_ty t && valid_tys ts

  pub valid_result : OptionTy → Bool
  valid_result no_ty = true
  valid_result (some_ty t) = valid_ty t

-- what a pointer may point to
abbrev pub valid_target : Ty → Bool
valid_target target = is_void target || valid_ty target

-- ---- expressions

-- a literal's number without its sign is one of 127 bits; whether it fits its type is asked by typing
abbrev pub is_value : ℤ → Bool
is_value (pos n) = nat_lt n (2 ^ 127)
is_value (negsuc n) = nat_lt (suc n) (2 ^ 127)

abbrev mutual
  pub valid_place : Place → Bool
  valid_place (Local x) = is_identifier x
  valid_place (Static m x) = valid_path m x
  valid_place (Deref e) = valid_expr e
  valid_place (Field p f) = valid_place p && is_identifier f

  -- names are names, types are types, and what unary minus stands before is no literal
  pub valid_expr : Expr → Bool
  valid_expr (Literal value ty) = is_value value
  valid_expr (Truth value) = true
  valid_expr NoFunction = true
  valid_expr (Read p) = valid_place p
  valid_expr (Call m x args) = valid_path m x && valid_exprs args
  valid_expr (CallBy e args) = valid_expr e && valid_exprs args
  valid_expr (Wrapped e op arg) = valid_expr e && valid_expr arg
  valid_expr (WrappingNeg e) = valid_expr e
  valid_expr (Offset e arg) = valid_expr e && valid_expr arg
  valid_expr (OffsetFrom e arg) = valid_expr e && valid_expr arg
  valid_expr (IsNull e) = valid_expr e
  valid_expr (IsNone e) = valid_expr e
  valid_expr (AddressOf p) = valid_place p
  valid_expr (NullPointer ty) = valid_target ty
  valid_expr (SomeFunction m x params result) = valid_path m x && valid_tys params && valid_result result
  valid_expr (Transmute from to e) = valid_ty from && valid_ty to && valid_expr e
  valid_expr (Neg e) = not (is_literal e) && valid_expr e
  valid_expr (Not e) = valid_expr e
  valid_expr (Cast e ty) = valid_expr e && valid_ty ty
  valid_expr (Binary left op right) = valid_expr left && valid_expr right
  valid_expr (And left right) = valid_expr left && valid_expr right
  valid_expr (Or left right) = valid_expr left && valid_expr right
  valid_expr (Choose condition if_true if_false) = valid_expr condition && valid_expr if_true && valid_expr if_false

  pub valid_exprs : Exprs → Bool
  valid_exprs no_exprs = true
  valid_exprs (more_exprs e es) = valid_expr e && valid_exprs es

-- ---- statements

abbrev pub valid_label : Option (List ℕ) → Bool
valid_label None = true
valid_label (Some label) = is_label label

abbrev pub valid_returned : Option Expr → Bool
valid_returned None = true
valid_returned (Some value) = valid_expr value

abbrev mutual
  -- an expression is a statement where it is a call
  pub valid_stmt : Stmt → Bool
  valid_stmt (Assign place value) = valid_place place && valid_expr value
  valid_stmt (Eval value) = is_call value && valid_expr value
  valid_stmt (CopyBytes source target count) = valid_expr source && valid_expr target && valid_expr count
  valid_stmt (If condition if_true if_false) = valid_expr condition && valid_stmts if_true && valid_stmts if_false
  valid_stmt (Loop label body) = valid_label label && valid_stmts body
  valid_stmt (Block label body) = is_label label && valid_stmts body
  valid_stmt (Break label) = is_label label
  valid_stmt (Continue label) = is_label label
  valid_stmt (Match value cases other) = valid_expr value && valid_arms cases && valid_stmts other
  valid_stmt (Return value) = valid_returned value

  pub valid_stmts : Stmts → Bool
  valid_stmts no_stmts = true
  valid_stmts (more_stmts s ss) = valid_stmt s && valid_stmts ss

  pub valid_arm : ArmTree → Bool
  valid_arm (LiteralArm value ty body) = is_value value && valid_stmts body

  pub valid_arms : Arms → Bool
  valid_arms no_arms = true
  valid_arms (more_arms one others) = valid_arm one && valid_arms others

-- ---- items

-- a symbol is an identifier of C (ISO C99, 6.4.2.1)
abbrev pub valid_symbol : Option (List ℕ) → Bool
valid_symbol None = true
valid_symbol (Some symbol) = is_word symbol

abbrev pub valid_attribute : Attribute → Bool
valid_attribute Mangled = true
valid_attribute NoMangle = true
valid_attribute (ExportName symbol) = is_word symbol

abbrev pub valid_align : Option ℕ → Bool
valid_align None = true
valid_align (Some align) = list_any (λ one. nat_eq one align) (1 ∷ 2 ∷ 4 ∷ 8 ∷ 16 ∷ [])

abbrev pub valid_field : FieldTree → Bool
valid_field field = is_identifier field.name && valid_ty field.ty

abbrev pub valid_record : RecordTree → Bool
valid_record of = valid_align of.align && is_identifier of.name && list_all valid_field of.fields

-- only an object of type `[i8; N]` begins as a list, of N literals
abbrev pub valid_values : Option (List ℤ) → Ty → Bool
valid_values None ty = true
valid_values (Some values) (Array (Integer I8) size) = list_all is_value values && nat_eq (length values) size
valid_values (Some values) _ = false

abbrev pub valid_static : StaticTree → Bool
valid_static object =
    valid_attribute object.attribute && is_identifier object.name && valid_ty object.ty && valid_values object.values object.ty

-- `...` stands behind a parameter
abbrev pub valid_variadic : Bool → List Ty → Bool
valid_variadic false params = true
valid_variadic true [] = false
valid_variadic true (param ∷ params) = true

abbrev pub valid_outer : OuterTree → Bool
valid_outer outer =
    valid_symbol outer.link_name && is_identifier outer.name && list_all valid_ty outer.params
    && valid_variadic outer.variadic outer.params && valid_result (option_ty outer.result)

abbrev pub valid_local : LocalTree → Bool
valid_local local = is_identifier local.name && valid_ty local.ty

abbrev pub valid_function : FunctionTree → Bool
valid_function fun =
    valid_attribute fun.attribute && is_identifier fun.name && list_all valid_local fun.params && valid_result (option_ty fun.result)
    && list_all valid_local fun.locals && valid_stmts fun.body

-- an `extern` block isn't empty
abbrev pub valid_item : ItemTree → Bool
valid_item (RecordItem of) = valid_record of
valid_item (StaticItem object) = valid_static object
valid_item (ExternItem []) = false
valid_item (ExternItem (outer ∷ outers)) = list_all valid_outer (outer ∷ outers)
valid_item (FunctionItem fun) = valid_function fun

-- ---- modules

-- the place of an item's kind in a module, and the first kind that may stand behind it: records, then static objects, then at most
-- one `extern` block, then functions
abbrev pub kind : ItemTree → ℕ
kind (RecordItem of) = 0
kind (StaticItem object) = 1
kind (ExternItem outers) = 2
kind (FunctionItem fun) = 3

abbrev pub next_kind : ItemTree → ℕ
next_kind (RecordItem of) = 0
next_kind (StaticItem object) = 1
next_kind (ExternItem outers) = 3
next_kind (FunctionItem fun) = 3

-- items in order, of which the first has this kind or a later one
abbrev pub are_in_order : ℕ → List ItemTree → Bool
are_in_order first [] = true
are_in_order first (item ∷ items) = nat_le first (kind item) && are_in_order (next_kind item) items

-- a function of this name, with a body
abbrev pub is_function : List ℕ → ItemTree → Bool
is_function name (RecordItem of) = false
is_function name (StaticItem object) = false
is_function name (ExternItem outers) = false
is_function name (FunctionItem fun) = bytes_eq fun.name name

-- the last item is the function `run_static_initializers`
abbrev pub ends_with_initialiser : List ItemTree → Bool
ends_with_initialiser [] = false
ends_with_initialiser (item ∷ []) = is_function (codes "run_static_initializers") item
ends_with_initialiser (item ∷ other ∷ others) = ends_with_initialiser (other ∷ others)

-- items in order, each valid, of which the last is the initialiser
abbrev pub valid_items : List ItemTree → Bool
valid_items items = list_all valid_item items && are_in_order 0 items && ends_with_initialiser items

-- ---- the crate

-- a module has the function `main_0`
abbrev pub has_entry : Option ModuleTree → Bool
has_entry None = false
has_entry (Some unit) = list_any (is_function (codes "main_0")) unit.items

-- from 1 to 64 modules
abbrev pub valid_count : ℕ → Bool
valid_count count = nat_le 1 count && nat_le count 64

-- the names of the modules: 1 to 64 different ones
abbrev pub valid_names : List (List ℕ) → Bool
valid_names names = valid_count (length names) && list_all is_module_name names && all_differ names

-- A tree of the subset: 1 to 64 modules of different names, each of valid items with its initialiser, and the entry has `main_0`.
abbrev pub valid_crate : CrateTree → Bool
valid_crate whole =
    valid_names (map (λ unit. unit.name) whole.modules) && list_all (λ unit. valid_items unit.items) whole.modules
    && has_entry (slice_get whole.modules whole.entry)
