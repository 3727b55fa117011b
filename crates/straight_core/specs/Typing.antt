-- Typed expressions and statements (ISO C99, 6.5 and 6.8): every conversion is a node, so the types of
-- operands are those that 6.5 asks for after all conversions.
use Rattle.std.specs.Prelude.{◌≡◌, ℕ, ℤ, ◌==◌, Bool, true, false, if◌then◌else◌, List, [], ◌∷◌, Option, Some, None, IfSome, IsSome}
use Rattle.cr_base.specs.Scalar.{IsInRange}
use Rattle.cr_base.specs.declared.scalar.Scalar.{Scalar}
use Rattle.cr_base.specs.declared.scalar.Scalar.TheVariants.{Whole}
use Rattle.straight_core.specs.declared.expr.Op1.{Op1}
use Rattle.straight_core.specs.Trees.{CTy, ty, CTyForm, void, int, function, CParams, unlisted, listed, CTys, no_types, more_types, form_of_type, is_const_type, unqualified, CExpr, expr, CForm, whole, object, load, convert, unary, binary, assign, call, CExprs, no_exprs, more_exprs, type_of, CStmt, stmt, CStmtForm, block, expression, returns, CStmts, no_stmts, more_stmts, CObject, COuter, CProgram}

-- ---- types

-- the scalar type that memory sees in a type (6.2.5p21), or none where it isn't scalar
abbrev pub scalar_of : CTyForm → Option Scalar
scalar_of int = Some (Whole 32 true)
scalar_of void = None
scalar_of (function result params variadic) = None

-- a scalar type
abbrev pub IsScalarType : CTy → Type 0
IsScalarType type = IsSome (scalar_of (form_of_type type))

-- an integer type that the integer promotions leave as it is (6.3.1.1p2)
abbrev pub IsPromoted : CTy → Type 0
IsPromoted (ty int is_const) = Unit {0}
IsPromoted (ty void is_const) = ⊥
IsPromoted (ty (function result params variadic) is_const) = ⊥

-- the type `void`, qualified or not
abbrev pub IsVoid : CTy → Type 0
IsVoid type = form_of_type type ≡ void

-- ---- objects and functions of a program, by their numbers

-- the first object of a list with a number
abbrev pub object_with : ℕ → List CObject → Option CObject
object_with number [] = None
object_with number (one ∷ others) = if one.object == number then Some one else object_with number others

-- the first function of a list with a number
abbrev pub outer_with : ℕ → List COuter → Option COuter
outer_with number [] = None
outer_with number (one ∷ others) = if one.function == number then Some one else outer_with number others

-- an object that an lvalue may name: it has the lvalue's type and is defined. Each such object is static
-- so far.
pub record IsObjectOf (type : CTy) (one : CObject) : Type 0 where
  pub type_is : one.type ≡ type
  pub defined : IsSome one.puts

-- ---- expressions

-- a constant of integer type has a value of that type (6.4.4p2)
pub record IsConstantOf (type : CTy) (value : ℤ) : Type 0 where
  pub plain : is_const_type type ≡ false
  pub in_range : IfSome (scalar_of (form_of_type type)) (λ scalar. IsInRange scalar value)
  pub scalar : IsScalarType type

-- a load gives a value of the unqualified version of the lvalue's type (6.3.2.1p2)
pub record IsLoadOf (type from : CTy) : Type 0 where
  pub scalar : IsScalarType from
  pub type_is : type ≡ unqualified from

-- a conversion goes to `void`, or from a scalar type to one (6.3, 6.5.4)
abbrev pub IsConversion : CTy → CTy → Type 0
IsConversion from (ty void is_const) = is_const ≡ false
IsConversion from (ty int is_const) = (is_const ≡ false) × IsScalarType from
IsConversion from (ty (function result params variadic) is_const) = ⊥

-- an arithmetic operator gives a value of its operand's promoted type (6.5.3.3)
pub record IsUnaryOf (op : Op1) (type value : CTy) : Type 0 where
  pub promoted : IsPromoted type
  pub plain : is_const_type type ≡ false
  pub value_is : value ≡ type

-- one of two operands gives a value of their common type (6.3.1.8, 6.5.5, 6.5.6)
pub record IsBinaryOf (type left right : CTy) : Type 0 where
  pub promoted : IsPromoted type
  pub plain : is_const_type type ≡ false
  pub left_is : left ≡ type
  pub right_is : right ≡ type

-- an assignment stores a value of its lvalue's type, which isn't `const`, and gives that value (6.5.16)
pub record IsAssignOf (type target value : CTy) : Type 0 where
  pub modifiable : is_const_type target ≡ false
  pub scalar : IsScalarType target
  pub type_is : type ≡ target
  pub value_is : value ≡ target

-- the arguments have the unqualified types of the parameters, and those that follow have promoted types
-- (6.5.2.2p6, p7)
abbrev pub AreArguments : CTys → Bool → CExprs → Type 0
AreArguments no_types variadic no_exprs = Unit {0}
AreArguments no_types variadic (more_exprs first others) =
    (variadic ≡ true) × IsPromoted (type_of first) × AreArguments no_types variadic others
AreArguments (more_types type types) variadic no_exprs = ⊥
AreArguments (more_types type types) variadic (more_exprs first others) =
    (type_of first ≡ unqualified type) × AreArguments types variadic others

-- a function without parameter list takes no arguments in this profile
abbrev pub AreArgumentsOf : CParams → Bool → CExprs → Type 0
AreArgumentsOf unlisted variadic args = args ≡ no_exprs
AreArgumentsOf (listed types) variadic args = AreArguments types variadic args

-- a call of a function of a type gives a value of its result type (6.5.2.2)
abbrev pub IsCallOf : CTy → CExprs → CTyForm → Type 0
IsCallOf type args (function result params variadic) =
    (type ≡ unqualified result) × AreArgumentsOf params variadic args
IsCallOf type args void = ⊥
IsCallOf type args int = ⊥

-- a function that a call may name. A call of a function that a unit defines has no typing yet.
abbrev pub IsCallee : CProgram → ℕ → CTy → CExprs → Type 0
IsCallee program callee type args =
    IsSome (outer_with callee program.externals)
    × IfSome (outer_with callee program.externals) (λ one. IsCallOf type args (form_of_type one.type))

-- what an lvalue names (6.3.2.1p1)
abbrev pub IsLvalueForm : CProgram → CTy → CForm → Type 0
IsLvalueForm program type (object number) =
    IsSome (object_with number program.objects)
    × IfSome (object_with number program.objects) (IsObjectOf type)
IsLvalueForm program type _ = ⊥

-- a typed lvalue
abbrev pub IsLvalue : CProgram → CExpr → Type 0
IsLvalue program (expr type place form) = IsLvalueForm program type form

abbrev mutual
  -- a typed expression that gives a value, or nothing where its type is `void`
  pub IsTyped : CProgram → CExpr → Type 0
  IsTyped program (expr type place form) = IsTypedForm program type form

  pub IsTypedForm : CProgram → CTy → CForm → Type 0
  IsTypedForm program type (whole value) = IsConstantOf type value
  IsTypedForm program type (object number) = ⊥
  IsTypedForm program type (load from) = IsLvalue program from × IsLoadOf type (type_of from)
  IsTypedForm program type (convert value) = IsTyped program value × IsConversion (type_of value) type
  IsTypedForm program type (unary op value) = IsTyped program value × IsUnaryOf op type (type_of value)
  IsTypedForm program type (binary op left right) =
      IsTyped program left × IsTyped program right × IsBinaryOf type (type_of left) (type_of right)
  IsTypedForm program type (assign target value) =
      IsLvalue program target × IsTyped program value × IsAssignOf type (type_of target) (type_of value)
  IsTypedForm program type (call callee args) = AreTyped program args × IsCallee program callee type args

  pub AreTyped : CProgram → CExprs → Type 0
  AreTyped program no_exprs = Unit {0}
  AreTyped program (more_exprs first others) = IsTyped program first × AreTyped program others

-- ---- statements

-- `return` in a function with a result type gives a value of it, and in another one none (6.8.6.4)
abbrev pub IsReturnOf : CProgram → CTy → Option CExpr → Type 0
IsReturnOf program result None = IsVoid result
IsReturnOf program result (Some value) =
    IsTyped program value × IsScalarType result × (type_of value ≡ unqualified result)

abbrev mutual
  -- a typed statement of a function with a result type. No object of a block has a typing yet.
  pub IsTypedStmt : CProgram → CTy → CStmt → Type 0
  IsTypedStmt program result (stmt place objects form) = (objects ≡ []) × IsTypedStmtForm program result form

  pub IsTypedStmtForm : CProgram → CTy → CStmtForm → Type 0
  IsTypedStmtForm program result (block stmts) = AreTypedStmts program result stmts
  IsTypedStmtForm program result (expression value) = IsTyped program value × IsVoid (type_of value)
  IsTypedStmtForm program result (returns value) = IsReturnOf program result value

  pub AreTypedStmts : CProgram → CTy → CStmts → Type 0
  AreTypedStmts program result no_stmts = Unit {0}
  AreTypedStmts program result (more_stmts first others) =
      IsTypedStmt program result first × AreTypedStmts program result others
