-- The typed program as plain trees, without memory. All that is defined of programs is defined of these.
use Rattle.std.specs.Prelude.{ℕ, ℤ, Bool, false, List, [], ◌∷◌, Option}
use Rattle.cr_base.specs.declared.layout.Spot.{Spot}
use Rattle.cr_base.specs.declared.refusal.Place.{Place}
use Rattle.cx_core.specs.declared.expr.Op1.{Op1}
use Rattle.cx_core.specs.declared.expr.Op2.{Op2}
use Rattle.cx_core.specs.declared.program.Linkage.{Linkage}
use Rattle.cx_core.specs.declared.ty.Basic.{Basic}

-- ---- types (ISO C99, 6.2.5)

mutual
  -- a type beside whether it is qualified by `const` (6.7.3)
  pub data CTy : Type 0 where
    ty : (form : CTyForm) → (is_const : Bool) → CTy

  pub data CTyForm : Type 0 where
    void : CTyForm
    basic : Basic → CTyForm
    -- an enumerated type by its number (6.7.2.2)
    enum_type : (number : ℕ) → CTyForm
    pointer : (to : CTy) → CTyForm
    -- an array with its length, or none where it isn't known (6.7.5.2)
    array : (element : CTy) → (length : Option ℕ) → CTyForm
    -- a structure or union by its number (6.7.2.1)
    record_type : (number : ℕ) → CTyForm
    -- a function type (6.7.5.3): its result, its parameters, and whether further arguments may follow
    function : (result : CTy) → (params : CParams) → (variadic : Bool) → CTyForm

  pub data CParams : Type 0 where
    -- there is no parameter list
    unlisted : CParams
    listed : CTys → CParams

  pub data CTys : Type 0 where
    no_types : CTys
    more_types : CTy → CTys → CTys

-- the types of a list
abbrev pub types_in : CTys → List CTy
types_in no_types = []
types_in (more_types first others) = first ∷ types_in others

-- a type without its qualifier
abbrev pub form_of_type : CTy → CTyForm
form_of_type (ty form is_const) = form

-- whether a type is qualified by `const`
abbrev pub is_const_type : CTy → Bool
is_const_type (ty form is_const) = is_const

-- the unqualified version of a type
abbrev pub unqualified : CTy → CTy
unqualified (ty form is_const) = ty form false

-- ---- expressions (6.5)

mutual
  pub data CExpr : Type 0 where
    expr : (type : CTy) → (place : Place) → (form : CForm) → CExpr

  pub data CForm : Type 0 where
    -- a constant (6.4.4)
    whole : ℤ → CForm
    -- a null pointer (6.3.2.3p3)
    null : CForm
    -- the object with a number (6.5.1p2)
    object : ℕ → CForm
    -- a pointer to the function with a number (6.3.2.1p4)
    code : ℕ → CForm
    -- the value that an object holds (6.3.2.1p2)
    load : (from : CExpr) → CForm
    -- what a pointer points to (6.5.3.2p4)
    deref : (pointer : CExpr) → CForm
    -- the member at a place of a structure or union (6.5.2.3)
    member : (of : CExpr) → Spot → CForm
    -- the address of an lvalue, or of the first element of an array (6.5.3.2p3, 6.3.2.1p3)
    address : (of : CExpr) → CForm
    -- a conversion to the type of the node (6.3)
    convert : (value : CExpr) → CForm
    -- an operator with one operand (6.5.3.3) or two (6.5.5 to 6.5.12)
    unary : Op1 → CExpr → CForm
    binary : Op2 → CExpr → CExpr → CForm
    -- `&&`, `||` and `?:` (6.5.13 to 6.5.15)
    and : CExpr → CExpr → CForm
    or : CExpr → CExpr → CForm
    cond : (test : CExpr) → (first : CExpr) → (second : CExpr) → CForm
    -- a value is stored at an lvalue (6.5.16.1)
    assign : (target : CExpr) → (value : CExpr) → CForm
    -- what an operator gives of an lvalue's value and another is stored there, computed in a type (6.5.16.2)
    assign_by : Op2 → (computes : CTy) → (target : CExpr) → (value : CExpr) → CForm
    -- `++` or `--`, behind the lvalue or in front of it (6.5.2.4, 6.5.3.1)
    step : (up : Bool) → (post : Bool) → (on : CExpr) → CForm
    -- a call of the function with a number, and of one that a pointer points to (6.5.2.2)
    call : (callee : ℕ) → CExprs → CForm
    call_by : (callee : CExpr) → CExprs → CForm
    -- the comma operator (6.5.17)
    comma : CExpr → CExpr → CForm
    -- a compound literal in a block: its object, and what is stored there (6.5.2.5)
    literal : ℕ → CPuts → CForm

  pub data CExprs : Type 0 where
    no_exprs : CExprs
    more_exprs : CExpr → CExprs → CExprs

  -- one value that an initialiser stores (6.7.8): where it stands in its object, the type of that part, and
  -- the value
  pub data CPut : Type 0 where
    put : (spot : Spot) → (type : CTy) → (value : CExpr) → CPut

  pub data CPuts : Type 0 where
    no_puts : CPuts
    more_puts : CPut → CPuts → CPuts

-- the type of an expression
abbrev pub type_of : CExpr → CTy
type_of (expr type place form) = type

-- where an expression stands
abbrev pub place_of : CExpr → Place
place_of (expr type place form) = place

-- the expressions, and the puts, of a list
abbrev pub exprs_in : CExprs → List CExpr
exprs_in no_exprs = []
exprs_in (more_exprs first others) = first ∷ exprs_in others

abbrev pub puts_in : CPuts → List CPut
puts_in no_puts = []
puts_in (more_puts first others) = first ∷ puts_in others

-- ---- statements (6.8)

mutual
  -- a statement with its place and the objects whose block it is
  pub data CStmt : Type 0 where
    stmt : (place : Place) → (objects : List ℕ) → (form : CStmtForm) → CStmt

  pub data CStmtForm : Type 0 where
    -- labelled statements (6.8.1)
    label : (name : List ℕ) → CStmt → CStmtForm
    case : (value : ℤ) → CStmt → CStmtForm
    default : CStmt → CStmtForm
    -- a block (6.8.2)
    block : CStmts → CStmtForm
    -- an expression statement, or the null statement (6.8.3)
    expression : Option CExpr → CStmtForm
    -- selection (6.8.4)
    if_then : (test : CExpr) → CStmt → COtherwise → CStmtForm
    switch : (value : CExpr) → CStmt → CStmtForm
    -- iteration (6.8.5)
    while : (test : CExpr) → CStmt → CStmtForm
    do_while : CStmt → (test : CExpr) → CStmtForm
    for_loop : (first : CStmts) → (test : Option CExpr) → (next : Option CExpr) → CStmt → CStmtForm
    -- jumps (6.8.6)
    goto : (name : List ℕ) → CStmtForm
    continue : CStmtForm
    break : CStmtForm
    returns : Option CExpr → CStmtForm
    -- the declaration of an object that isn't static is reached (6.2.4p6), with what is stored there
    begin : ℕ → Option CPuts → CStmtForm

  -- what follows `else`
  pub data COtherwise : Type 0 where
    no_else : COtherwise
    else_do : CStmt → COtherwise

  pub data CStmts : Type 0 where
    no_stmts : CStmts
    more_stmts : CStmt → CStmts → CStmts

-- the statements of a list
abbrev pub stmts_in : CStmts → List CStmt
stmts_in no_stmts = []
stmts_in (more_stmts first others) = first ∷ stmts_in others

-- ---- programs

-- a member of a record (6.7.2.1), a record, and the types of a program
pub record CMember : Type 0 where
  pub name : Option (List ℕ)
  pub type : CTy
  pub bits : Option ℕ

pub record CRecord : Type 0 where
  pub number : ℕ
  pub tag : Option (List ℕ)
  pub is_union : Bool
  pub members : List CMember

pub record CRecordTag : Type 0 where
  pub tag : Option (List ℕ)
  pub is_union : Bool

pub record CTypes : Type 0 where
  -- by number: a record, or none where it isn't completed; its tag and kind; its unit
  pub records : List (Option CRecord)
  pub record_tags : List CRecordTag
  pub record_units : List ℕ
  -- by number: whether an enumerated type is compatible with `int` (else with `unsigned int`); its unit
  pub enums : List Bool
  pub enum_units : List ℕ

-- before any is declared
abbrev pub no_types_yet : CTypes
no_types_yet = record { records = []; record_tags = []; record_units = []; enums = []; enum_units = [] }

-- an object (6.2.4); its puts are what is stored in a static one before the program begins
pub record CObject : Type 0 where
  pub object : ℕ
  pub unit : ℕ
  pub name : Option (List ℕ)
  pub is_text : Bool
  pub type : CTy
  pub linkage : Linkage
  pub puts : Option CPuts

-- a function that a unit defines (6.9.1)
pub record CFun : Type 0 where
  pub function : ℕ
  pub name : List ℕ
  pub unit : ℕ
  pub linkage : Linkage
  pub type : CTy
  pub params : List ℕ
  pub body : CStmt

-- a function that is declared and not defined
pub record COuter : Type 0 where
  pub function : ℕ
  pub name : List ℕ
  pub linkage : Linkage
  pub type : CTy

-- ---- the order of declarations

-- what a later stage gives a name of its own: a function, an object or a record by its number, and the function `calloc`. Units declare
-- functions and objects; the others are keys of names alone
pub data CKey : Type 0 where
  a_function : (function : ℕ) → CKey
  an_object : (object : ℕ) → CKey
  a_record : (number : ℕ) → CKey
  a_calloc : CKey

-- the order of a unit's declarations
pub record CDeclaredOrder : Type 0 where
  -- what has linkage, in the order of first declarations: what the unit only declares, and what it declares in blocks alone, too (6.2.2)
  pub things : List CKey
  -- the numbers of records, in the order in which they were completed (6.7.2.3p4)
  pub completed : List ℕ

-- ---- whole programs

-- a program
pub record CProgram : Type 0 where
  pub types : CTypes
  pub objects : List CObject
  pub functions : List CFun
  pub externals : List COuter
  -- of each unit, with the numbers of the program
  pub orders : List CDeclaredOrder

-- ---- units

-- what a unit does with a thing that it names
pub data CDoes : Type 0 where
  declares : CDoes
  defines : CDoes
  -- a call by name, with the types of the arguments behind those that parameters take
  calls : (trailing : List CTy) → CDoes
  uses : CDoes

-- a place in a unit that names an external thing or a static function
pub record CMention : Type 0 where
  pub name : List ℕ
  pub place : Place
  pub type : CTy
  pub linkage : Linkage
  pub does : CDoes

-- a unit: its things, those that it only declares too, and its mentions in text order
pub record CUnit : Type 0 where
  pub types : CTypes
  pub objects : List CObject
  pub functions : List CFun
  pub externals : List COuter
  pub mentions : List CMention
  pub order : CDeclaredOrder
