-- The trees of the written crates as plain data, without memory (the Rust Reference, "Items", "Statements and
-- expressions", "Type system"). Every definition goes over them; View says which tree a value of src/tree.rt is.
use Rattle.std.specs.Prelude.{ℕ, ℤ, Bool, List, [], ◌∷◌, Option}
use Rattle.straight_rust_tree.specs.declared.tree.Attribute.{Attribute}
use Rattle.straight_rust_tree.specs.declared.tree.Operator.{Operator}

-- a type
pub data Ty : Type 0 where
  i8 i16 i32 i64 u8 u16 u32 u64 isize usize bool : Ty

-- a place: a parameter or local, by its name, or a static object, by its module and its name
pub data Place : Type 0 where
  named : (x : List ℕ) → Place
  static_at : (m x : List ℕ) → Place

mutual
  -- an expression
  pub data Expr : Type 0 where
    -- an integer literal with its type
    literal : ℤ → Ty → Expr
    -- a place that is read
    read : Place → Expr
    -- a call of a function of a module
    call : (m x : List ℕ) → Exprs → Expr
    -- unary minus
    neg : Expr → Expr
    -- an operator between two operands
    binary : Operator → Expr → Expr → Expr

  -- expressions, from the left
  pub data Exprs : Type 0 where
    no_exprs : Exprs
    expr_and : Expr → Exprs → Exprs

-- a statement
pub data Stmt : Type 0 where
  -- the value of an expression is stored in a place
  assign : Place → Expr → Stmt
  -- a call whose result is dropped
  eval : Expr → Stmt
  -- the function gives back a value, if any
  gives : Option Expr → Stmt

-- statements, from the first
pub data Stmts : Type 0 where
  no_stmts : Stmts
  stmt_and : Stmt → Stmts → Stmts

-- a parameter or a local
pub record LocalTree : Type 0 where
  pub name : List ℕ
  pub ty : Ty

-- a static object
pub record StaticTree : Type 0 where
  pub attribute : Attribute
  pub name : List ℕ
  pub ty : Ty

-- an external function
pub record OuterTree : Type 0 where
  pub link_name : Option (List ℕ)
  pub name : List ℕ
  pub params : List Ty
  pub variadic : Bool
  pub result : Option Ty

-- a function with a body
pub record FunctionTree : Type 0 where
  pub attribute : Attribute
  pub name : List ℕ
  pub params : List LocalTree
  pub result : Option Ty
  pub locals : List LocalTree
  pub body : Stmts

-- an item of a module
pub data ItemTree : Type 0 where
  static : StaticTree → ItemTree
  extern : List OuterTree → ItemTree
  defined : FunctionTree → ItemTree

-- a module
pub record ModuleTree : Type 0 where
  pub name : List ℕ
  pub items : List ItemTree

-- a crate, and the number of the module that has `main_0`
pub record CrateTree : Type 0 where
  pub modules : List ModuleTree
  pub entry : ℕ

-- expressions in a list, as one of the trees
abbrev pub exprs : List Expr → Exprs
exprs [] = no_exprs
exprs (e ∷ es) = expr_and e (exprs es)

-- statements in a list, as one of the trees
abbrev pub stmts : List Stmt → Stmts
stmts [] = no_stmts
stmts (s ∷ ss) = stmt_and s (stmts ss)
