-- The typed program as plain trees, without memory. All that is defined of programs is defined of these.
use Rattle.std.specs.Prelude.{ℕ, ℤ, Bool, false, List, [], ◌∷◌, Option}
use Rattle.cr_base.specs.declared.refusal.Place.{Place}
use Rattle.straight_core.specs.declared.expr.Op1.{Op1}
use Rattle.straight_core.specs.declared.expr.Op2.{Op2}
use Rattle.straight_core.specs.declared.program.Linkage.{Linkage}
use Rattle.straight_core.specs.declared.ty.Spot.{Spot}

-- ---- types (ISO C99, 6.2.5)

mutual
  -- a type beside whether it is qualified by `const` (6.7.3)
  pub data CTy : Type 0 where
    ty : (form : CTyForm) → (is_const : Bool) → CTy

  pub data CTyForm : Type 0 where
    void : CTyForm
    int : CTyForm
    -- a function type (6.7.5.3): its result, its parameters, and whether further arguments may follow
    function : (result : CTy) → (params : CParams) → (variadic : Bool) → CTyForm

  pub data CParams : Type 0 where
    -- there is no parameter list
    unlisted : CParams
    listed : CTys → CParams

  pub data CTys : Type 0 where
    no_types : CTys
    more_types : CTy → CTys → CTys

-- the types of a list
abbrev pub types_in : CTys → List CTy
types_in no_types = []
types_in (more_types first others) = first ∷ types_in others

-- a type without its qualifier
abbrev pub form_of_type : CTy → CTyForm
form_of_type (ty form is_const) = form

-- whether a type is qualified by `const`
abbrev pub is_const_type : CTy → Bool
is_const_type (ty form is_const) = is_const

-- the unqualified version of a type
abbrev pub unqualified : CTy → CTy
unqualified (ty form is_const) = ty form false

-- ---- expressions (6.5)

mutual
  pub data CExpr : Type 0 where
    expr : (type : CTy) → (place : Place) → (form : CForm) → CExpr

  pub data CForm : Type 0 where
    -- a constant (6.4.4)
    whole : ℤ → CForm
    -- the object with a number (6.5.1p2)
    object : ℕ → CForm
    -- the value that an object holds (6.3.2.1p2)
    load : CExpr → CForm
    -- a conversion to the type of the node (6.3)
    convert : CExpr → CForm
    -- an operator with one operand (6.5.3.3) or two (6.5.5 to 6.5.12)
    unary : Op1 → CExpr → CForm
    binary : Op2 → CExpr → CExpr → CForm
    -- a value is stored at an lvalue (6.5.16.1)
    assign : (target : CExpr) → (value : CExpr) → CForm
    -- a call of the function with a number (6.5.2.2)
    call : (callee : ℕ) → CExprs → CForm

  pub data CExprs : Type 0 where
    no_exprs : CExprs
    more_exprs : CExpr → CExprs → CExprs

-- the type of an expression
abbrev pub type_of : CExpr → CTy
type_of (expr type place form) = type

-- where an expression stands
abbrev pub place_of : CExpr → Place
place_of (expr type place form) = place

-- the expressions of a list
abbrev pub exprs_in : CExprs → List CExpr
exprs_in no_exprs = []
exprs_in (more_exprs first others) = first ∷ exprs_in others

-- ---- statements (6.8)

mutual
  -- a statement with its place and the objects whose block it is
  pub data CStmt : Type 0 where
    stmt : (place : Place) → (objects : List ℕ) → (form : CStmtForm) → CStmt

  pub data CStmtForm : Type 0 where
    -- a block (6.8.2)
    block : CStmts → CStmtForm
    -- an expression statement (6.8.3)
    expression : CExpr → CStmtForm
    -- `return` (6.8.6.4)
    returns : Option CExpr → CStmtForm

  pub data CStmts : Type 0 where
    no_stmts : CStmts
    more_stmts : CStmt → CStmts → CStmts

-- ---- programs

-- one value that an initialiser stores (6.7.8): where it stands in its object, the type of that part,
-- and the value
pub data CPut : Type 0 where
  put : (spot : Spot) → (type : CTy) → (value : CExpr) → CPut

-- a member of a record (6.7.2.1), a record, and the types of a program
pub record CMember : Type 0 where
  pub name : Option (List ℕ)
  pub type : CTy
  pub bits : Option ℕ

pub record CRecord : Type 0 where
  pub number : ℕ
  pub tag : Option (List ℕ)
  pub is_union : Bool
  pub members : List CMember

pub record CTypes : Type 0 where
  pub records : List (Option CRecord)
  pub enums : List Bool
  pub record_units : List ℕ
  pub enum_units : List ℕ

-- an object (6.2.4); its puts are what is stored in a static one before the program begins
pub record CObject : Type 0 where
  pub object : ℕ
  pub unit : ℕ
  pub name : Option (List ℕ)
  pub is_text : Bool
  pub type : CTy
  pub linkage : Linkage
  pub puts : Option (List CPut)

-- a function that a unit defines (6.9.1)
pub record CFun : Type 0 where
  pub function : ℕ
  pub name : List ℕ
  pub unit : ℕ
  pub linkage : Linkage
  pub type : CTy
  pub params : List ℕ
  pub body : CStmt

-- a function that is declared and that no unit defines
pub record COuter : Type 0 where
  pub function : ℕ
  pub name : List ℕ
  pub type : CTy

-- a program
pub record CProgram : Type 0 where
  pub types : CTypes
  pub objects : List CObject
  pub functions : List CFun
  pub externals : List COuter
