-- The trees of the written crates as plain data, without memory (the Rust Reference, "Type system", "Expressions",
-- "Statements" and "Items"). Every definition goes over them; the views of rs_tree say which tree a value of its types is. A name is the
-- list of its bytes, a label stands without its quote.
use Rattle.std.specs.Prelude.{ℕ, ℤ, Bool, List, [], ◌∷◌, Option, Some, None}
use Rattle.rs_text.specs.declared.attribute.Attribute.{Attribute}
use Rattle.rs_text.specs.declared.integer.IntegerTy.{IntegerTy}
use Rattle.rs_text.specs.declared.operator.Operator.{Operator}
use Rattle.rs_text.specs.declared.operator.Wrapping.{Wrapping}

-- ---- types ("Type system")

mutual
  pub data Ty : Type 0 where
    Integer : IntegerTy → Ty
    -- `bool`
    Boolean : Ty
    -- `core::ffi::c_void`
    Void : Ty
    -- `*mut T`
    Pointer : Ty → Ty
    -- `[T; N]`
    Array : Ty → (size : ℕ) → Ty
    -- `Option<unsafe extern "C" fn(T, T) -> T>`
    Code : (params : Tys) → (result : OptionTy) → Ty
    -- `crate::m::x`
    Record : (m x : List ℕ) → Ty

  pub data Tys : Type 0 where
    no_tys : Tys
    more_tys : Ty → Tys → Tys

  -- a type that may be missing
  pub data OptionTy : Type 0 where
    no_ty : OptionTy
    some_ty : Ty → OptionTy

-- ---- places and expressions ("Expressions")

mutual
  pub data Place : Type 0 where
    -- x, a parameter or local
    Local : (x : List ℕ) → Place
    -- `crate::m::x`, a static object
    Static : (m x : List ℕ) → Place
    -- `*o`
    Deref : Expr → Place
    -- `p.f`
    Field : Place → (f : List ℕ) → Place

  pub data Expr : Type 0 where
    -- an integer literal with its type
    Literal : (value : ℤ) → IntegerTy → Expr
    -- `true` or `false`
    Truth : Bool → Expr
    -- `None`
    NoFunction : Expr
    -- a place that is read
    Read : Place → Expr
    -- `crate::m::x(e, e)`
    Call : (m x : List ℕ) → (args : Exprs) → Expr
    -- `o.unwrap()(e, e)`
    CallBy : Expr → (args : Exprs) → Expr
    -- `o.wrapping_add(e)` and its like
    Wrapped : Expr → Wrapping → Expr → Expr
    -- `o.wrapping_neg()`
    WrappingNeg : Expr → Expr
    -- `o.offset(e)` and `o.offset_from(e)`
    Offset : Expr → Expr → Expr
    OffsetFrom : Expr → Expr → Expr
    -- `o.is_null()` and `o.is_none()`
    IsNull : Expr → Expr
    IsNone : Expr → Expr
    -- `core::ptr::addr_of_mut!(p)`
    AddressOf : Place → Expr
    -- `core::ptr::null_mut::<T>()`
    NullPointer : Ty → Expr
    -- `Some(crate::m::x as unsafe extern "C" fn(T) -> T)`
    SomeFunction : (m x : List ℕ) → (params : Tys) → (result : OptionTy) → Expr
    -- `core::mem::transmute::<T, T>(e)`
    Transmute : (from to : Ty) → Expr → Expr
    -- `-o` and `!o`
    Neg : Expr → Expr
    Not : Expr → Expr
    -- `o as T`
    Cast : Expr → Ty → Expr
    -- an operator between two operands that are both evaluated
    Binary : Expr → Operator → Expr → Expr
    -- `o && o` and `o || o`
    And : Expr → Expr → Expr
    Or : Expr → Expr → Expr
    -- `if e { e } else { e }`
    Choose : (condition if_true if_false : Expr) → Expr

  pub data Exprs : Type 0 where
    no_exprs : Exprs
    more_exprs : Expr → Exprs → Exprs

-- ---- statements ("Statements")

mutual
  pub data Stmt : Type 0 where
    -- `p = e;`
    Assign : Place → Expr → Stmt
    -- `e;` for a call
    Eval : Expr → Stmt
    -- `core::ptr::copy(e, e, e);`
    CopyBytes : (source target count : Expr) → Stmt
    -- `if e { .. } else { .. }`, without `else` where the second list is empty
    If : Expr → (if_true if_false : Stmts) → Stmt
    -- `'l: loop { .. }`, or without a label
    Loop : (label : Option (List ℕ)) → Stmts → Stmt
    -- `'l: { .. }`
    Block : (label : List ℕ) → Stmts → Stmt
    -- `break 'l;` and `continue 'l;`
    Break : (label : List ℕ) → Stmt
    Continue : (label : List ℕ) → Stmt
    -- `match e { .. }`: the arms of literals, and the statements of the arm `_`
    Match : Expr → Arms → (other : Stmts) → Stmt
    -- `return e;`, or `return;`
    Return : Option Expr → Stmt

  pub data Stmts : Type 0 where
    no_stmts : Stmts
    more_stmts : Stmt → Stmts → Stmts

  -- `1i32 => { .. }`, an arm of a literal with its type
  pub data ArmTree : Type 0 where
    LiteralArm : (value : ℤ) → IntegerTy → Stmts → ArmTree

  pub data Arms : Type 0 where
    no_arms : Arms
    more_arms : ArmTree → Arms → Arms

-- ---- items ("Items")

-- a field of a record
pub record FieldTree : Type 0 where
  pub name : List ℕ
  pub ty : Ty

-- a struct, or where `is_union` a union; `align` is the N of `align(N)`
pub record RecordTree : Type 0 where
  pub align : Option ℕ
  pub is_union : Bool
  pub name : List ℕ
  pub fields : List FieldTree

-- a static object, and the list of literals that it begins as; without one it begins as zero bytes
pub record StaticTree : Type 0 where
  pub attribute : Attribute
  pub name : List ℕ
  pub ty : Ty
  pub values : Option (List ℤ)

-- an external function
pub record OuterTree : Type 0 where
  pub link_name : Option (List ℕ)
  pub name : List ℕ
  pub params : List Ty
  pub variadic : Bool
  pub result : Option Ty

-- a parameter or a local
pub record LocalTree : Type 0 where
  pub name : List ℕ
  pub ty : Ty

-- a function with a body
pub record FunctionTree : Type 0 where
  pub attribute : Attribute
  pub name : List ℕ
  pub params : List LocalTree
  pub result : Option Ty
  pub locals : List LocalTree
  pub body : Stmts

-- an item of a module
pub data ItemTree : Type 0 where
  RecordItem : RecordTree → ItemTree
  StaticItem : StaticTree → ItemTree
  ExternItem : List OuterTree → ItemTree
  FunctionItem : FunctionTree → ItemTree

-- a module
pub record ModuleTree : Type 0 where
  pub name : List ℕ
  pub items : List ItemTree

-- a crate, and the number of the module that has `main_0`
pub record CrateTree : Type 0 where
  pub modules : List ModuleTree
  pub entry : ℕ

-- ---- lists and options as trees

abbrev pub tys : List Ty → Tys
tys [] = no_tys
tys (t ∷ ts) = more_tys t (tys ts)

abbrev pub option_ty : Option Ty → OptionTy
option_ty None = no_ty
option_ty (Some t) = some_ty t

abbrev pub exprs : List Expr → Exprs
exprs [] = no_exprs
exprs (e ∷ es) = more_exprs e (exprs es)

abbrev pub stmts : List Stmt → Stmts
stmts [] = no_stmts
stmts (s ∷ ss) = more_stmts s (stmts ss)

abbrev pub arms : List ArmTree → Arms
arms [] = no_arms
arms (one ∷ others) = more_arms one (arms others)
