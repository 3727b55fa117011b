-- Which crates of the subset are well typed (the Rust Reference, "Type system", "Items" and "Statements and expressions").
use Rattle.std.specs.Prelude.{ℕ, ◌+◌, Bool, true, false, not, ◌&&◌, ◌||◌, nat_le, List, [], ◌∷◌, ◌++◌, map, flat_map, Option, Some, None, is_some, is_none, option_map, option_and_then, find, bytes_eq, codes, ℤ, if◌then◌else◌}
use Rattle.std.specs.List.{list_all, list_any}
use Rattle.std.specs.Ordering.{int_eq}
use Rattle.cr_base.specs.Layout.{most_bytes}
use Rattle.cr_base.specs.declared.layout.Laid.{Laid}
use Rattle.cr_world.specs.Known.{KnownType, no_value, int_value, size_value, to_bytes, to_const_bytes, KnownFunction, known_named}
use Rattle.rs_text.specs.declared.integer.IntegerTy.{IntegerTy}
use Rattle.rs_text.specs.declared.integer.IntegerTy.TheVariants.{I8, I32, I64, U8, U32, U64, Isize, Usize}
use Rattle.rs_text.specs.declared.operator.Operator.{Operator}
use Rattle.rs_text.specs.declared.operator.Operator.TheVariants.{Add, Sub, Mul, Div, Rem, BitAnd, BitOr, BitXor, Shl, Shr, Equal, NotEqual, Less, LessEqual, Greater, GreaterEqual}
use Rattle.rs_text.specs.Names.{is_among}
use Rattle.rs_text.specs.Tree.{Ty, Integer, Boolean, Void, Pointer, Array, Code, Record, Tys, no_tys, more_tys, OptionTy, no_ty, some_ty, Place, Local, Static, Deref, Field, Expr, Literal, Truth, NoFunction, Read, Call, CallBy, Wrapped, WrappingNeg, Offset, OffsetFrom, IsNull, IsNone, AddressOf, NullPointer, SomeFunction, Transmute, Neg, Not, Cast, Binary, And, Or, Choose, Exprs, no_exprs, more_exprs, Stmt, Assign, Eval, CopyBytes, If, Loop, Block, Break, Continue, Match, Return, Stmts, no_stmts, more_stmts, LiteralArm, Arms, no_arms, more_arms, FieldTree, RecordTree, StaticTree, OuterTree, LocalTree, FunctionTree, ItemTree, RecordItem, StaticItem, ExternItem, FunctionItem, ModuleTree, CrateTree, tys, option_ty}
use Rattle.rs_text.specs.Valid.{all_differ, is_void}
use Rattle.rs_mean.specs.Layout.{laid_with, laid_among, record_laid, laid_of}
use Rattle.rs_mean.specs.Lookups.{record_at, outer, callee_at, Signature, signature_of, own_signature, symbol_of, function_number, function_with, static_home, Home, local_type}
use Rattle.rs_mean.specs.Scalars.{is_scalar, is_integer, is_boolean, is_signed_integer, same_integer, fits_integer, same_type, same_types, same_results}

-- ---- types

abbrev pub usize_type : Ty
usize_type = Integer Usize

abbrev pub isize_type : Ty
isize_type = Integer Isize

-- the length of an array
abbrev pub is_length : ℕ → Bool
is_length size = nat_le 1 size && nat_le size most_bytes

abbrev mutual
  -- the records that a type names exist, its arrays have lengths and aren't too large, where their elements are laid out; the types of a
  -- function's parameters and of its result are scalar. That a record can be laid out is asked of its item alone
  pub type_stands : List ModuleTree → Ty → Bool
  type_stands modules (Integer ty) = true
  type_stands modules Boolean = true
  type_stands modules Void = false
  type_stands modules (Pointer target) = is_void target || type_stands modules target
  type_stands modules (Array element size) =
      type_stands modules element && is_length size && (is_none (laid_of modules element) || is_some (laid_of modules (Array element size)))
  type_stands modules (Code params result) = params_stand modules params && result_stands modules result
  type_stands modules (Record m x) = is_some (record_at modules m x)

  pub params_stand : List ModuleTree → Tys → Bool
  params_stand modules no_tys = true
  params_stand modules (more_tys ty others) = is_scalar ty && type_stands modules ty && params_stand modules others

  pub result_stands : List ModuleTree → OptionTy → Bool
  result_stands modules no_ty = true
  result_stands modules (some_ty ty) = is_scalar ty && type_stands modules ty

-- the target of a pointer that is moved, or of an address: a type of objects
abbrev pub is_target : Ty → Bool
is_target target = not (is_void target)

-- ---- what the names of a body stand for

-- a label, and whether it is a loop's
pub record LabelScope : Type 0 where
  pub name : List ℕ
  pub is_loop : Bool

-- what the names of an expression stand for
pub record Scope : Type 0 where
  pub modules : List ModuleTree
  -- the parameters and locals of the function
  pub locals : List LocalTree

-- what those of a statement do
pub record BodyScope : Type 0 where
  pub names : Scope
  -- the type of the function's result, if it has one
  pub result : Option Ty
  -- the labels of the loops and blocks around the place
  pub labels : List LabelScope

-- ---- kinds of values

-- the type of a value; `None` is of every function pointer type
pub data Kind : Type 0 where
  of : Ty → Kind
  of_none : Kind

abbrev pub is_code : Ty → Bool
is_code (Code params result) = true
is_code _ = false

-- a value of a kind is one of a type
abbrev pub is_of : Ty → Kind → Bool
is_of ty (of other) = same_type ty other
is_of ty of_none = is_code ty

abbrev pub is_of_type : Ty → Option Kind → Bool
is_of_type ty None = false
is_of_type ty (Some kind) = is_of ty kind

-- the type of a value, where it has one of its own
abbrev pub own_type : Option Kind → Option Ty
own_type None = None
own_type (Some of_none) = None
own_type (Some (of ty)) = Some ty

abbrev pub only_if : Bool → Ty → Option Kind
only_if true ty = Some (of ty)
only_if false ty = None

-- the one kind of two values
abbrev pub common : Option Kind → Option Kind → Option Kind
common (Some (of ty)) (Some (of other)) = only_if (same_type ty other) ty
common (Some (of ty)) (Some of_none) = only_if (is_code ty) ty
common (Some of_none) (Some (of ty)) = only_if (is_code ty) ty
common (Some of_none) (Some of_none) = Some of_none
common None other = None
common (Some kind) None = None

-- ---- operators

abbrev pub is_signed : Ty → Bool
is_signed (Integer ty) = is_signed_integer ty
is_signed _ = false

abbrev pub is_bits : Ty → Bool
is_bits ty = is_integer ty || is_boolean ty

abbrev pub is_pointer : Ty → Bool
is_pointer (Pointer target) = true
is_pointer _ = false

-- one type of both operands, which meets a test
abbrev pub both_are : (Ty → Bool) → Option Kind → Option Kind → Option Ty
both_are test left right = option_and_then (λ ty. if test ty then Some ty else None) (own_type (common left right))

abbrev pub of_type : Option Ty → Option Kind
of_type None = None
of_type (Some ty) = Some (of ty)

abbrev pub as_truth : Bool → Option Kind
as_truth test = only_if test Boolean

-- a shift: an integer by a `u32`
abbrev pub shift_kind : Option Ty → Option Kind → Option Kind
shift_kind None right = None
shift_kind (Some ty) right = only_if (is_integer ty && is_of_type (Integer U32) right) ty

-- the kind of what an operator gives, by those of its operands
abbrev pub binary_kind : Operator → Option Kind → Option Kind → Option Kind
binary_kind Add left right = of_type (both_are is_integer left right)
binary_kind Sub left right = of_type (both_are is_integer left right)
binary_kind Mul left right = of_type (both_are is_integer left right)
binary_kind Div left right = of_type (both_are is_integer left right)
binary_kind Rem left right = of_type (both_are is_integer left right)
binary_kind BitAnd left right = of_type (both_are is_bits left right)
binary_kind BitOr left right = of_type (both_are is_bits left right)
binary_kind BitXor left right = of_type (both_are is_bits left right)
binary_kind Shl left right = shift_kind (own_type left) right
binary_kind Shr left right = shift_kind (own_type left) right
binary_kind Equal left right = as_truth (is_some (both_are is_scalar left right))
binary_kind NotEqual left right = as_truth (is_some (both_are is_scalar left right))
binary_kind Less left right = as_truth (is_some (both_are (λ ty. is_integer ty || is_pointer ty) left right))
binary_kind LessEqual left right = as_truth (is_some (both_are (λ ty. is_integer ty || is_pointer ty) left right))
binary_kind Greater left right = as_truth (is_some (both_are (λ ty. is_integer ty || is_pointer ty) left right))
binary_kind GreaterEqual left right = as_truth (is_some (both_are (λ ty. is_integer ty || is_pointer ty) left right))

-- an operand of one type that meets a test
abbrev pub where_is : (Ty → Bool) → Option Ty → Option Kind
where_is test None = None
where_is test (Some ty) = only_if (test ty) ty

-- `as` goes from an integer or `bool` to an integer, and from one raw pointer to another
abbrev pub casts : Ty → Ty → Bool
casts (Integer from) (Integer ty) = true
casts Boolean (Integer ty) = true
casts (Pointer from) (Pointer target) = true
casts from ty = false

abbrev pub cast_kind : List ModuleTree → Ty → Option Ty → Option Kind
cast_kind modules ty None = None
cast_kind modules ty (Some from) = only_if (casts from ty && type_stands modules ty) ty

-- `offset` takes an `isize`
abbrev pub offset_kind : Option Ty → Option Kind → Option Kind
offset_kind (Some (Pointer target)) count = only_if (is_target target && is_of_type isize_type count) (Pointer target)
offset_kind _ count = None

-- `offset_from` takes the same pointer type, and gives an `isize`
abbrev pub apart_kind : Option Ty → Option Kind → Option Kind
apart_kind (Some (Pointer target)) other = only_if (is_target target && is_of_type (Pointer target) other) isize_type
apart_kind _ other = None

abbrev pub null_kind : Option Ty → Option Kind
null_kind (Some (Pointer target)) = Some (of Boolean)
null_kind _ = None

abbrev pub none_kind : Option Ty → Option Kind
none_kind (Some (Code params result)) = Some (of Boolean)
none_kind _ = None

-- ---- places

-- the type of the field of a name among fields
abbrev pub field_type_among : List ℕ → List FieldTree → Option Ty
field_type_among f fields = option_map (λ field. field.ty) (find (λ field. bytes_eq field.name f) fields)

abbrev pub field_type_in : List ℕ → Option RecordTree → Option Ty
field_type_in f None = None
field_type_in f (Some one) = field_type_among f one.fields

-- the type of the field of a record
abbrev pub field_type : List ModuleTree → List ℕ → Option Ty → Option Ty
field_type modules f (Some (Record m x)) = field_type_in f (record_at modules m x)
field_type modules f _ = None

abbrev pub home_type : Option Home → Option Ty
home_type None = None
home_type (Some home) = Some home.ty

abbrev pub target_type : Option Ty → Option Ty
target_type (Some (Pointer target)) = Some target
target_type _ = None

-- ---- calls

-- what an argument behind the parameters may be
abbrev pub is_trailing : Option Ty → Bool
is_trailing None = false
is_trailing (Some ty) = list_any (same_type ty)
    (Integer I32 ∷ Integer U32 ∷ Integer I64 ∷ Integer U64 ∷ Pointer (Integer I8) ∷ Pointer (Integer U8) ∷ [])

abbrev pub signature_at : List ModuleTree → List ℕ → List ℕ → Option Signature
signature_at modules m x = option_map signature_of (callee_at modules m x)

abbrev pub listed : Tys → List Ty
listed no_tys = []
listed (more_tys ty others) = ty ∷ listed others

-- the function with a body that a path names has just these types
abbrev pub is_function_of : Tys → OptionTy → Option FunctionTree → Bool
is_function_of params result None = false
is_function_of params result (Some fun) =
    same_types params (tys (own_signature fun).params) && same_results result (option_ty (own_signature fun).result)

abbrev pub own_function_at : List ModuleTree → List ℕ → List ℕ → Option FunctionTree
own_function_at modules m x = option_and_then (function_with modules) (function_number modules m x)

abbrev pub pointed_result : OptionTy → Option Ty
pointed_result no_ty = None
pointed_result (some_ty ty) = Some ty

-- the types of a function that a pointer of a type is to
abbrev pub pointed_types : Option Ty → Option Signature
pointed_types (Some (Code params result)) = Some (record { params = listed params; variadic = false; result = pointed_result result })
pointed_types _ = None

abbrev pub given_kind : OptionTy → Option Kind
given_kind no_ty = None
given_kind (some_ty ty) = Some (of ty)

abbrev pub chosen_kind : Bool → Option Kind → Option Kind
chosen_kind true kind = kind
chosen_kind false kind = None

abbrev mutual
  -- the type of a place
  pub place_type : Scope → Place → Option Ty
  place_type scope (Local x) = local_type x scope.locals
  place_type scope (Static m x) = home_type (static_home scope.modules m x)
  place_type scope (Deref e) = target_type (own_type (kind_of scope e))
  place_type scope (Field p f) = field_type scope.modules f (place_type scope p)

  -- the kind of the value of an expression; none where it is ill typed or has no value
  pub kind_of : Scope → Expr → Option Kind
  kind_of scope (Literal value ty) = only_if (fits_integer ty value) (Integer ty)
  kind_of scope (Truth value) = Some (of Boolean)
  kind_of scope NoFunction = Some of_none
  kind_of scope (Read p) = where_is is_scalar (place_type scope p)
  kind_of scope (Call m x args) =
      option_and_then (λ signature.
      if args_fit scope signature.params signature.variadic args then given_kind (option_ty signature.result) else None)
      (signature_at scope.modules m x)
  kind_of scope (CallBy e args) =
      option_and_then (λ types.
      if args_fit scope types.params types.variadic args then given_kind (option_ty types.result) else None)
      (pointed_types (own_type (kind_of scope e)))
  kind_of scope (Wrapped e op arg) = of_type (both_are is_integer (kind_of scope e) (kind_of scope arg))
  kind_of scope (WrappingNeg e) = where_is is_integer (own_type (kind_of scope e))
  kind_of scope (Offset e arg) = offset_kind (own_type (kind_of scope e)) (kind_of scope arg)
  kind_of scope (OffsetFrom e arg) = apart_kind (own_type (kind_of scope e)) (kind_of scope arg)
  kind_of scope (IsNull e) = null_kind (own_type (kind_of scope e))
  kind_of scope (IsNone e) = none_kind (own_type (kind_of scope e))
  kind_of scope (AddressOf p) = option_and_then (λ ty. only_if (is_target ty) (Pointer ty)) (place_type scope p)
  kind_of scope (NullPointer ty) = only_if (type_stands scope.modules (Pointer ty)) (Pointer ty)
  kind_of scope (SomeFunction m x params result) =
      only_if (type_stands scope.modules (Code params result) && is_function_of params result (own_function_at scope.modules m x)) (Code params result)
  kind_of scope (Transmute from to e) =
      only_if (is_code from && is_code to && type_stands scope.modules from && type_stands scope.modules to && is_of_type from (kind_of scope e)) to
  kind_of scope (Neg e) = where_is is_signed (own_type (kind_of scope e))
  kind_of scope (Not e) = where_is is_bits (own_type (kind_of scope e))
  kind_of scope (Cast e ty) = cast_kind scope.modules ty (own_type (kind_of scope e))
  kind_of scope (Binary left op right) = binary_kind op (kind_of scope left) (kind_of scope right)
  kind_of scope (And left right) = as_truth (is_of_type Boolean (kind_of scope left) && is_of_type Boolean (kind_of scope right))
  kind_of scope (Or left right) = as_truth (is_of_type Boolean (kind_of scope left) && is_of_type Boolean (kind_of scope right))
  kind_of scope (Choose condition if_true if_false) =
      chosen_kind (is_of_type Boolean (kind_of scope condition)) (common (kind_of scope if_true) (kind_of scope if_false))

  -- arguments have the types of the parameters, and those behind them, if there may be some, types that these may have
  pub args_fit : Scope → List Ty → Bool → Exprs → Bool
  args_fit scope [] variadic no_exprs = true
  args_fit scope (ty ∷ types) variadic no_exprs = false
  args_fit scope [] variadic (more_exprs e es) = variadic && is_trailing (own_type (kind_of scope e)) && args_fit scope [] variadic es
  args_fit scope (ty ∷ types) variadic (more_exprs e es) = is_of_type ty (kind_of scope e) && args_fit scope types variadic es

-- ---- statements

-- a call whose result is dropped
abbrev pub drops_call : Scope → Expr → Bool
drops_call scope (Call m x args) =
    is_some (option_and_then (λ signature. if args_fit scope signature.params signature.variadic args then Some signature else None)
    (signature_at scope.modules m x))
drops_call scope (CallBy e args) =
    is_some (option_and_then (λ types. if args_fit scope types.params types.variadic args then Some types else None)
    (pointed_types (own_type (kind_of scope e))))
drops_call scope _ = false

abbrev pub is_scalar_of : Option Ty → Option Kind → Bool
is_scalar_of None value = false
is_scalar_of (Some ty) value = is_scalar ty && is_of_type ty value

-- what a `return` gives is of the function's result type
abbrev pub gives_type : Scope → Option Ty → Option Expr → Bool
gives_type scope None None = true
gives_type scope (Some ty) (Some value) = is_of_type ty (kind_of scope value)
gives_type scope None (Some value) = false
gives_type scope (Some ty) None = false

abbrev pub has_label : (LabelScope → Bool) → List ℕ → BodyScope → Bool
has_label test name scope = list_any (λ label. bytes_eq label.name name && test label) scope.labels

abbrev pub with_label : List ℕ → Bool → BodyScope → BodyScope
with_label name is_loop scope = record scope { labels = record { name = name; is_loop = is_loop } ∷ scope.labels }

-- nested labels differ
abbrev pub is_new_label : BodyScope → List ℕ → Bool
is_new_label scope name = not (has_label (λ label. true) name scope)

abbrev pub in_loop : Option (List ℕ) → BodyScope → BodyScope
in_loop None scope = scope
in_loop (Some name) scope = with_label name true scope

abbrev pub is_new_loop : BodyScope → Option (List ℕ) → Bool
is_new_loop scope None = true
is_new_loop scope (Some name) = is_new_label scope name

-- arms have different literals, each of the matched integer type
abbrev pub arm_differs : ℤ → Arms → Bool
arm_differs value no_arms = true
arm_differs value (more_arms (LiteralArm other ty body) others) = not (int_eq value other) && arm_differs value others

abbrev pub matches : Option Ty → ℤ → IntegerTy → Bool
matches (Some (Integer matched)) value ty = same_integer matched ty && fits_integer ty value
matches _ value ty = false

abbrev pub is_matched : Option Ty → Bool
is_matched None = false
is_matched (Some ty) = is_integer ty

abbrev mutual
  pub stmt_typed : BodyScope → Stmt → Bool
  stmt_typed scope (Assign p e) = is_scalar_of (place_type scope.names p) (kind_of scope.names e)
  stmt_typed scope (Eval e) = drops_call scope.names e
  stmt_typed scope (CopyBytes source target count) =
      is_of_type (Pointer (Integer U8)) (kind_of scope.names source) && is_of_type (Pointer (Integer U8)) (kind_of scope.names target)
      && is_of_type usize_type (kind_of scope.names count)
  stmt_typed scope (If condition if_true if_false) =
      is_of_type Boolean (kind_of scope.names condition) && stmts_typed scope if_true && stmts_typed scope if_false
  stmt_typed scope (Loop label body) = is_new_loop scope label && stmts_typed (in_loop label scope) body
  stmt_typed scope (Block label body) = is_new_label scope label && stmts_typed (with_label label false scope) body
  stmt_typed scope (Break label) = has_label (λ one. true) label scope
  stmt_typed scope (Continue label) = has_label (λ one. one.is_loop) label scope
  stmt_typed scope (Match e cases other) =
      is_matched (own_type (kind_of scope.names e)) && arms_typed scope (own_type (kind_of scope.names e)) cases && stmts_typed scope other
  stmt_typed scope (Return value) = gives_type scope.names scope.result value

  pub stmts_typed : BodyScope → Stmts → Bool
  stmts_typed scope no_stmts = true
  stmts_typed scope (more_stmts s ss) = stmt_typed scope s && stmts_typed scope ss

  pub arms_typed : BodyScope → Option Ty → Arms → Bool
  arms_typed scope matched no_arms = true
  arms_typed scope matched (more_arms (LiteralArm value ty body) others) =
      matches matched value ty && arm_differs value others && stmts_typed scope body && arms_typed scope matched others

abbrev pub gives_value : Stmt → Bool
gives_value (Return (Some value)) = true
gives_value _ = false

abbrev pub ends_with_value : Stmts → Bool
ends_with_value no_stmts = false
ends_with_value (more_stmts s no_stmts) = gives_value s
ends_with_value (more_stmts s (more_stmts other others)) = ends_with_value (more_stmts other others)

-- a function with a result ends with a `return` of it
abbrev pub body_ends : Option Ty → Stmts → Bool
body_ends None body = true
body_ends (Some ty) body = ends_with_value body

-- ---- external functions

-- the types of a known function, where all raw pointers count as one
abbrev pub is_known_type : KnownType → Ty → Bool
is_known_type int_value ty = same_type ty (Integer I32)
is_known_type size_value ty = same_type ty (Integer U64)
is_known_type to_bytes ty = is_pointer ty
is_known_type to_const_bytes ty = is_pointer ty
is_known_type no_value ty = false

abbrev pub is_known_result : KnownType → Option Ty → Bool
is_known_result no_value None = true
is_known_result no_value (Some ty) = false
is_known_result type None = false
is_known_result type (Some ty) = is_known_type type ty

abbrev pub are_known_types : List KnownType → List Ty → Bool
are_known_types [] [] = true
are_known_types (type ∷ types) (ty ∷ others) = is_known_type type ty && are_known_types types others
are_known_types [] (ty ∷ others) = false
are_known_types (type ∷ types) [] = false

abbrev pub known_typed : KnownFunction → OuterTree → Bool
known_typed one fun = not fun.variadic && are_known_types one.params fun.params && is_known_result one.result fun.result

-- any other has parameters of integer type, `bool` or `*mut i8`, and a result of integer type or `bool`, or none
abbrev pub is_opaque_param : Ty → Bool
is_opaque_param ty = is_bits ty || same_type ty (Pointer (Integer I8))

abbrev pub is_opaque_result : Option Ty → Bool
is_opaque_result None = true
is_opaque_result (Some ty) = is_bits ty

abbrev pub opaque_typed : OuterTree → Bool
opaque_typed fun = list_all is_opaque_param fun.params && is_opaque_result fun.result

abbrev pub outer_by : Option KnownFunction → OuterTree → Bool
outer_by (Some one) fun = known_typed one fun
outer_by None fun = opaque_typed fun

abbrev pub has_no_params : List Ty → Bool
has_no_params [] = true
has_no_params (ty ∷ types) = false

abbrev pub takes_nothing : Signature → Bool
takes_nothing types = has_no_params types.params && not types.variadic

abbrev pub head_by : (name : List ℕ) → (takes_nothing : Bool) → (result : Option Ty) → Bool
head_by name takes_nothing result =
    if bytes_eq name (codes "main_0") then takes_nothing && same_results (option_ty result) (some_ty (Integer I32))
    else (if bytes_eq name (codes "run_static_initializers") then takes_nothing && is_none result else true)

-- `main_0` has no parameters and gives an `i32`, and `run_static_initializers` has neither, with a body or without: `main.rs` calls them
abbrev pub head_typed : List ℕ → Signature → Bool
head_typed name types = head_by name (takes_nothing types) types.result

abbrev pub outer_typed : List ModuleTree → OuterTree → Bool
outer_typed modules fun =
    head_typed fun.name (signature_of (outer fun)) && list_all (type_stands modules) fun.params
    && result_stands modules (option_ty fun.result) && outer_by (known_named (symbol_of fun)) fun

-- ---- items

-- the names that an item brings into its module
abbrev pub item_names : ItemTree → List (List ℕ)
item_names (RecordItem one) = one.name ∷ []
item_names (StaticItem object) = object.name ∷ []
item_names (ExternItem outers) = map (λ fun. fun.name) outers
item_names (FunctionItem fun) = fun.name ∷ []

-- a field's record by value stands earlier in the same module
abbrev pub field_stands : List ModuleTree → (Ty → Option Laid) → FieldTree → Bool
field_stands modules layout field = type_stands modules field.ty && is_some (layout field.ty)

abbrev pub has_fields : List FieldTree → Bool
has_fields [] = false
has_fields (field ∷ fields) = true

-- how types are laid out by the records of a module that stand earlier, the last one first
abbrev pub by_earlier : ModuleTree → List ItemTree → Ty → Option Laid
by_earlier unit earlier = laid_with (λ m x. if bytes_eq m unit.name then laid_among unit.name earlier x else None)

-- a record has at least one field, the names of its fields differ, and it isn't too large
abbrev pub record_typed : List ModuleTree → ModuleTree → List ItemTree → RecordTree → Bool
record_typed modules unit earlier one =
    has_fields one.fields && all_differ (map (λ field. field.name) one.fields)
    && list_all (field_stands modules (by_earlier unit earlier)) one.fields && is_some (record_laid (by_earlier unit earlier) one)

abbrev pub values_fit : Option (List ℤ) → Bool
values_fit None = true
values_fit (Some values) = list_all (fits_integer I8) values

abbrev pub static_typed : List ModuleTree → StaticTree → Bool
static_typed modules object = type_stands modules object.ty && values_fit object.values

-- parameters and locals: their names differ, also from those of the module's items
abbrev pub names_typed : ModuleTree → List LocalTree → Bool
names_typed unit locals =
    all_differ (map (λ local. local.name) locals)
    && not (list_any (λ local. is_among (flat_map item_names unit.items) local.name) locals)

-- the types of parameters and of the result are scalar, and those of locals stand
abbrev pub types_stand : List ModuleTree → FunctionTree → Bool
types_stand modules fun =
    params_stand modules (tys (map (λ param. param.ty) fun.params)) && result_stands modules (option_ty fun.result)
    && list_all (λ local. type_stands modules local.ty) fun.locals

abbrev pub names_of : List ModuleTree → FunctionTree → Scope
names_of modules fun = record { modules = modules; locals = fun.params ++ fun.locals }

abbrev pub scope_of : List ModuleTree → FunctionTree → BodyScope
scope_of modules fun = record { names = names_of modules fun; result = fun.result; labels = [] }

abbrev pub function_typed : List ModuleTree → ModuleTree → FunctionTree → Bool
function_typed modules unit fun =
    head_typed fun.name (own_signature fun) && names_typed unit (fun.params ++ fun.locals) && types_stand modules fun
    && stmts_typed (scope_of modules fun) fun.body && body_ends fun.result fun.body

-- an item of a module behind the earlier ones, the last one first
abbrev pub item_typed : List ModuleTree → ModuleTree → List ItemTree → ItemTree → Bool
item_typed modules unit earlier (RecordItem one) = record_typed modules unit earlier one
item_typed modules unit earlier (StaticItem object) = static_typed modules object
item_typed modules unit earlier (ExternItem outers) = list_all (outer_typed modules) outers
item_typed modules unit earlier (FunctionItem fun) = function_typed modules unit fun

-- the names of an item differ from one another and from those of the earlier items
abbrev pub names_differ : List ItemTree → ItemTree → Bool
names_differ earlier item =
    all_differ (item_names item) && not (list_any (is_among (flat_map item_names earlier)) (item_names item))

-- ---- the crate

-- the first item of a module from a number on that breaks a case, behind the earlier ones, the last one first
abbrev pub first_ill_item : List ModuleTree → ModuleTree → List ItemTree → ℕ → List ItemTree → Option ℕ
first_ill_item modules unit earlier number [] = None
first_ill_item modules unit earlier number (item ∷ others) =
    if names_differ earlier item && item_typed modules unit earlier item
    then first_ill_item modules unit (item ∷ earlier) (number + 1) others
    else Some number

-- a place in a crate: the numbers of a module and of an item in it, from 0
pub record ItemPlace : Type 0 where
  pub mod_number : ℕ
  pub item_number : ℕ

abbrev pub placed_in : ℕ → Option ℕ → Option ItemPlace → Option ItemPlace
placed_in number None rest = rest
placed_in number (Some item) rest = Some (record { mod_number = number; item_number = item })

abbrev pub first_ill_from : List ModuleTree → ℕ → List ModuleTree → Option ItemPlace
first_ill_from modules number [] = None
first_ill_from modules number (unit ∷ others) =
    placed_in number (first_ill_item modules unit [] 0 unit.items) (first_ill_from modules (number + 1) others)

-- the first item that isn't well typed
abbrev pub first_ill : CrateTree → Option ItemPlace
first_ill whole = first_ill_from whole.modules 0 whole.modules

-- every item of a crate is well typed
abbrev pub well_typed : CrateTree → Bool
well_typed whole = is_none (first_ill whole)
