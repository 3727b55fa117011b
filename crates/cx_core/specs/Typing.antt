-- Typed expressions (ISO C99, 6.5): every conversion is a node, so the types of operands are those that 6.5 asks for after
-- all conversions. Values have unqualified types.
use Rattle.std.specs.Prelude.{◌≡◌, ◌⊎◌, ℕ, ℤ, ◌+◌, ◌*◌, ◌≤◌, ◌==◌, Bool, true, false, List, [], ◌∷◌, Option, Some, None, IfSome, IsSome, All, not, if◌then◌else◌}
use Rattle.std.specs.List.{Contains, find}
use Rattle.cr_base.specs.Scalar.{IsInRange}
use Rattle.cr_base.specs.declared.layout.Spot.{Spot}
use Rattle.cr_base.specs.declared.scalar.Scalar.TheVariants as scalar
use Rattle.cx_core.specs.declared.expr.Op1.{Op1}
use Rattle.cx_core.specs.declared.expr.Op1.TheVariants.{Plus, Minus, Complement, Not}
use Rattle.cx_core.specs.declared.expr.Op2.{Op2}
use Rattle.cx_core.specs.declared.expr.Op2.TheVariants.{Multiply, Divide, Remainder, Add, Subtract, ShiftLeft, ShiftRight, Less, Greater, LessOrEqual, GreaterOrEqual, Equal, NotEqual, BitAnd, BitXor, BitOr}
use Rattle.cx_core.specs.declared.program.Linkage.{Linkage}
use Rattle.cx_core.specs.declared.program.Linkage.TheVariants.{Nothing}
use Rattle.cx_core.specs.declared.ty.Basic.{Basic}
use Rattle.cx_core.specs.declared.ty.Basic.TheVariants.{Truth, Int, Long}
use Rattle.cx_core.specs.Compatible.{AreCompatible}
use Rattle.cx_core.specs.Conversions.{basic_of, promoted, common_type, scalar_of, IsIntegerType, IsPromoted, IsScalarType}
use Rattle.cx_core.specs.Externals.{IsExternalType, IsOpaqueTrailing}
use Rattle.cx_core.specs.Trees.{CTy, ty, CTyForm, void, basic, enum_type, pointer, array, function, CParams, unlisted, listed, CTys, no_types, more_types, form_of_type, is_const_type, unqualified, CExpr, expr, CForm, whole, null, object, code, load, deref, member, address, convert, unary, binary, and, or, cond, assign, assign_by, step, call, call_by, comma, literal, CExprs, no_exprs, more_exprs, CPut, put, CPuts, no_puts, more_puts, type_of, CTypes, CObject, CFun, COuter, CProgram, CDoes, calls, uses, CMention}
use Rattle.cx_core.specs.ValidTypes.{IsTypeIn, IsComplete, IsObjectForm, IsResultForm, IsPartOf, IsMemberOf, IsModifiable}

-- ---- where an expression stands

-- what an expression may name
pub record CHome : Type 0 where
  pub program : CProgram
  -- of a unit by itself: where it names what other units may define; none where all units are there
  pub mentions : Option (List CMention)
  -- the unit of the expression
  pub unit : ℕ
  -- the objects that aren't static and whose block holds the expression (6.2.4p5)
  pub scope : List ℕ

abbrev pub types_of_home : CHome → CTypes
types_of_home home = home.program.types

-- the object, and the function, with a number
abbrev pub object_with : ℕ → List CObject → Option CObject
object_with number objects = find (λ one. one.object == number) objects

abbrev pub function_with : ℕ → List CFun → Option CFun
function_with number functions = find (λ one. one.function == number) functions

abbrev pub outer_with : ℕ → List COuter → Option COuter
outer_with number externals = find (λ one. one.function == number) externals

-- a unit names a thing there with this type, and does this with it
pub record IsMention (name : List ℕ) (linkage : Linkage) (type : CTy) (does : CDoes) (one : CMention) : Type 0 where
  pub name_is : one.name ≡ name
  pub linkage_is : one.linkage ≡ linkage
  pub type_is : one.type ≡ type
  pub does_is : one.does ≡ does

-- what isn't defined may be named in a unit by itself alone, and then a mention says so
pub record IsMentionedIn (mentions : List CMention) (name : List ℕ) (linkage : Linkage) (type : CTy) (does : CDoes) : Type 0 where
  pub one : CMention
  pub among : Contains mentions one
  pub mention : IsMention name linkage type does one

abbrev pub IsMentioned : Option (List CMention) → List ℕ → Linkage → CTy → CDoes → Type 0
IsMentioned None name linkage type does = ⊥
IsMentioned (Some mentions) name linkage type does = IsMentionedIn mentions name linkage type does

-- ---- constants and names (6.4.4, 6.5.1)

-- a constant of integer type has a value of that type (6.4.4p2)
pub record IsConstantOf (types : CTypes) (type : CTy) (value : ℤ) : Type 0 where
  pub plain : is_const_type type ≡ false
  pub integer : IsIntegerType types type
  pub in_range : IfSome (scalar_of types (form_of_type type)) (λ scalar. IsInRange scalar value)

-- a pointer type without qualifier of its own
abbrev pub IsPointer : CTy → Type 0
IsPointer (ty (pointer to) is_const) = is_const ≡ false
IsPointer _ = ⊥

-- what is only declared, in a unit by itself
abbrev IsUsed : CHome → CTy → CObject → Option (List ℕ) → Type 0
IsUsed home type one None = ⊥
IsUsed home type one (Some name) = IsMentioned home.mentions name one.linkage type uses

abbrev IsThereBy : CHome → CTy → CObject → Linkage → Option CPuts → Type 0
IsThereBy home type one linkage (Some puts) = Unit {0}
IsThereBy home type one Nothing None = Contains home.scope one.object
IsThereBy home type one linkage None = IsUsed home type one one.name

-- an object is there: it is static and defined, or its block holds the expression
abbrev pub IsThere : CHome → CTy → CObject → Type 0
IsThere home type one = IsThereBy home type one one.linkage one.puts

-- an object that an lvalue of a type names (6.5.1p2, 6.2.7p2)
pub record IsObjectOf (home : CHome) (type : CTy) (one : CObject) : Type 0 where
  pub compatible : AreCompatible (types_of_home home) type one.type
  pub there : IsThere home type one

-- an lvalue has an object type, or an incomplete one other than `void` (6.3.2.1p1)
abbrev pub IsNamed : CHome → CTy → ℕ → Type 0
IsNamed home type number =
    IsSome (object_with number home.program.objects)
    × IfSome (object_with number home.program.objects) (IsObjectOf home type)

-- ---- functions (6.3.2.1p4, 6.5.2.2)

-- the type of a function, and its declaration where nothing defines it
pub record CCallee : Type 0 where
  pub type : CTy
  pub outer : Option COuter

abbrev callee_in : Option CFun → Option COuter → Option CCallee
callee_in (Some one) outer = Some (record { type = one.type; outer = None })
callee_in None (Some one) = Some (record { type = one.type; outer = Some one })
callee_in None None = None

abbrev pub callee_with : ℕ → CProgram → Option CCallee
callee_with number program = callee_in (function_with number program.functions) (outer_with number program.externals)

-- a function that is used otherwise than in a call by name is defined
abbrev pub IsUsable : CHome → CTy → Option COuter → Type 0
IsUsable home visible None = Unit {0}
IsUsable home visible (Some one) = IsMentioned home.mentions one.name one.linkage visible uses

abbrev IsFunction : CTyForm → Type 0
IsFunction (function result params variadic) = Unit {0}
IsFunction _ = ⊥

-- a pointer to a function: its type there is compatible with that of the function (6.2.7p2)
pub record IsPointerToCode (home : CHome) (visible : CTy) (callee : CCallee) : Type 0 where
  pub is_function : IsFunction (form_of_type visible)
  pub compatible : AreCompatible (types_of_home home) visible callee.type
  pub usable : IsUsable home visible callee.outer

abbrev IsCodeAs : CHome → ℕ → CTy → Type 0
IsCodeAs home number visible =
    IsSome (callee_with number home.program)
    × IfSome (callee_with number home.program) (IsPointerToCode home visible)

abbrev pub IsCodeOf : CHome → ℕ → CTy → Type 0
IsCodeOf home number (ty (pointer visible) is_const) = (is_const ≡ false) × IsCodeAs home number visible
IsCodeOf home number _ = ⊥

-- an argument behind those that parameters take: a value as the default promotions give it (6.5.2.2p7)
abbrev IsTrailingAs : CTy → Option Basic → Type 0
IsTrailingAs type (Some which) = IsPromoted type
IsTrailingAs type None = IsObjectForm (form_of_type type)

abbrev pub IsTrailing : CTypes → CTy → Type 0
IsTrailing types type = IsTrailingAs type (basic_of types (form_of_type type))

-- the arguments have the unqualified types of the parameters, and those that follow are promoted (6.5.2.2p2, p6 and p7)
abbrev pub AreArguments : CTypes → CTys → Bool → CExprs → Type 0
AreArguments types no_types variadic no_exprs = Unit {0}
AreArguments types no_types variadic (more_exprs first others) =
    (variadic ≡ true) × IsTrailing types (type_of first) × AreArguments types no_types variadic others
AreArguments types (more_types param params) variadic no_exprs = ⊥
AreArguments types (more_types param params) variadic (more_exprs first others) =
    (type_of first ≡ unqualified param) × AreArguments types params variadic others

-- a function without parameter list takes no arguments in this profile
abbrev pub AreArgumentsOf : CTypes → CParams → Bool → CExprs → Type 0
AreArgumentsOf types unlisted variadic args = args ≡ no_exprs
AreArgumentsOf types (listed params) variadic args = AreArguments types params variadic args

-- a result that a call may have: `void`, or a value of complete type (6.5.2.2p1)
abbrev pub IsResult : CTypes → CTy → Type 0
IsResult types (ty void is_const) = Unit {0}
IsResult types type = IsComplete types type

-- a call of a function of a type gives a value of its result type (6.5.2.2p5)
abbrev pub IsCallOf : CTypes → CTy → CExprs → CTyForm → Type 0
IsCallOf types type args (function result params variadic) =
    (type ≡ unqualified result) × IsResult types result × AreArgumentsOf types params variadic args
IsCallOf types type args _ = ⊥

-- the types of the arguments behind those that parameters take
abbrev pub trailing_types : CTys → CExprs → List CTy
trailing_types no_types no_exprs = []
trailing_types no_types (more_exprs first others) = type_of first ∷ trailing_types no_types others
trailing_types (more_types param params) no_exprs = []
trailing_types (more_types param params) (more_exprs first others) = trailing_types params others

abbrev pub trailing_of : CTyForm → CExprs → List CTy
trailing_of (function result (listed params) variadic) args = trailing_types params args
trailing_of _ args = []

-- a call of a function that no unit defines
pub record IsExternalCall (types : CTypes) (name : List ℕ) (visible : CTy) (args : CExprs) : Type 0 where
  pub external : IsExternalType types name (form_of_type visible)
  pub trailing : All IsOpaqueTrailing (trailing_of (form_of_type visible) args)

-- a call of a function that isn't defined: in a unit by itself, a mention tells of it
abbrev IsOutsideBy : CHome → CTy → CExprs → COuter → Option (List CMention) → Type 0
IsOutsideBy home visible args one None = IsExternalCall (types_of_home home) one.name visible args
IsOutsideBy home visible args one (Some mentions) =
    IsMentionedIn mentions one.name one.linkage visible (calls (trailing_of (form_of_type visible) args))

abbrev pub IsOutside : CHome → CTy → CExprs → Option COuter → Type 0
IsOutside home visible args None = Unit {0}
IsOutside home visible args (Some one) = IsOutsideBy home visible args one home.mentions

-- a call by name: some type of the function is visible there, compatible with that of its definition, and the call is one of
-- that type. Through a type without parameter list a function with parameters may be called so; that is undefined when it
-- runs (6.5.2.2p6).
pub record IsCalleeOf (home : CHome) (type : CTy) (args : CExprs) (callee : CCallee) : Type 0 where
  pub visible : CTy
  pub compatible : AreCompatible (types_of_home home) visible callee.type
  pub call : IsCallOf (types_of_home home) type args (form_of_type visible)
  pub outside : IsOutside home visible args callee.outer

abbrev pub IsCallee : CHome → ℕ → CTy → CExprs → Type 0
IsCallee home number type args =
    IsSome (callee_with number home.program)
    × IfSome (callee_with number home.program) (IsCalleeOf home type args)

-- a call of what a pointer points to (6.5.2.2p1)
abbrev pub IsCallBy : CTypes → CTy → CExprs → CTy → Type 0
IsCallBy types type args (ty (pointer to) is_const) = IsCallOf types type args (form_of_type to)
IsCallBy types type args _ = ⊥

-- ---- loads, places and addresses (6.3.2.1, 6.5.2.3, 6.5.3.2)

-- a load gives a value of the unqualified version of the lvalue's type, which is complete and no array (6.3.2.1p2)
pub record IsLoadOf (types : CTypes) (type from : CTy) : Type 0 where
  pub complete : IsComplete types from
  pub no_array : IsResultForm (form_of_type from)
  pub type_is : type ≡ unqualified from

-- a pointer to an object type, or to an incomplete one other than `void`, leads to an lvalue of this type (6.5.3.2p4). What
-- `*p` gives for a pointer to `void` is `p` converted to `void`, and `&*p` is `p`.
pub record IsDerefOf (type pointer_type : CTy) : Type 0 where
  pub object : IsObjectForm (form_of_type type)
  pub pointer_is : pointer_type ≡ ty (pointer type) false

-- a member of a value is no array (6.5.2.3p3; the profile has no arrays that aren't lvalues)
pub record IsMemberValue (types : CTypes) (holder : CTy) (spot : Spot) (type : CTy) : Type 0 where
  pub declared : CTy
  pub member : IsMemberOf types holder spot declared
  pub no_array : IsResultForm (form_of_type declared)
  pub type_is : type ≡ unqualified declared

-- the lvalue of a bit-field
abbrev is_bits_form : CForm → Bool
is_bits_form (member of spot) = not (spot.width == 0)
is_bits_form _ = false

abbrev pub is_bit_field : CExpr → Bool
is_bit_field (expr type place form) = is_bits_form form

-- the first element of an array (6.3.2.1p3)
abbrev IsFirstOf : CTy → CTy → Type 0
IsFirstOf type (ty (array element length) is_const) = type ≡ ty (pointer element) false
IsFirstOf type _ = ⊥

-- the address of an lvalue that isn't a bit-field, or of the first element of an array (6.5.3.2p1, p3)
pub record IsAddressOf (type : CTy) (of : CExpr) : Type 0 where
  pub no_bits : is_bit_field of ≡ false
  pub type_is : (type ≡ ty (pointer (type_of of)) false) ⊎ IsFirstOf type (type_of of)

-- ---- conversions (6.3, 6.5.4)

abbrev IsToBasic : CTypes → CTy → Basic → Type 0
IsToBasic types from Truth = IsScalarType types from
IsToBasic types from _ = IsIntegerType types from

abbrev IsConversionTo : CTypes → CTy → CTyForm → Type 0
IsConversionTo types from void = Unit {0}
IsConversionTo types from (basic which) = IsToBasic types from which
IsConversionTo types from (enum_type number) = IsIntegerType types from
IsConversionTo types from (pointer to) =
    IsPointer from × (scalar_of types (form_of_type from) ≡ scalar_of types (pointer to))
IsConversionTo types from _ = ⊥

-- a conversion goes to `void`, from an integer type to one, from any scalar type to `_Bool`, or between pointers to objects, or
-- between pointers to functions
pub record IsConversion (types : CTypes) (from type : CTy) : Type 0 where
  pub plain : is_const_type type ≡ false
  pub allowed : IsConversionTo types from (form_of_type type)

-- ---- operators with one operand (6.5.3.3)

abbrev pub int_type : CTy
int_type = ty (basic Int) false

-- the type of a difference of pointers (7.17p2; the choice of the profile)
abbrev pub difference_type : CTy
difference_type = ty (basic Long) false

-- an arithmetic operator gives a value of its operand's promoted type
pub record IsPromotedOf (type value : CTy) : Type 0 where
  pub promoted : IsPromoted type
  pub value_is : value ≡ type

-- `!` tells of a scalar whether it is 0
pub record IsNegationOf (types : CTypes) (type value : CTy) : Type 0 where
  pub scalar : IsScalarType types value
  pub type_is : type ≡ int_type

abbrev pub IsUnaryOf : CTypes → Op1 → CTy → CTy → Type 0
IsUnaryOf types Plus type value = IsPromotedOf type value
IsUnaryOf types Minus type value = IsPromotedOf type value
IsUnaryOf types Complement type value = IsPromotedOf type value
IsUnaryOf types Not type value = IsNegationOf types type value

-- ---- operators with two operands (6.5.5 to 6.5.12)

-- operands of their common type, which is that of the result (6.3.1.8)
pub record AreCommon (type left right : CTy) : Type 0 where
  pub promoted : IsPromoted type
  pub left_is : left ≡ type
  pub right_is : right ≡ type

-- a pointer to a complete object type
abbrev pub IsElementPointer : CTypes → CTy → Type 0
IsElementPointer types (ty (pointer to) is_const) = (is_const ≡ false) × IsComplete types to
IsElementPointer types _ = ⊥

-- a pointer moved by an integer (6.5.6p2, p8)
pub record IsMoved (types : CTypes) (type pointer_type by : CTy) : Type 0 where
  pub elements : IsElementPointer types pointer_type
  pub integer : IsIntegerType types by
  pub type_is : type ≡ pointer_type

-- pointers to qualified or unqualified versions of compatible types
abbrev pub PointAlike : CTypes → CTy → CTy → Type 0
PointAlike types (ty (pointer left) left_const) (ty (pointer right) right_const) =
    AreCompatible types (unqualified left) (unqualified right)
PointAlike types _ _ = ⊥

-- the difference of two pointers (6.5.6p3, p9)
pub record IsDifference (types : CTypes) (type left right : CTy) : Type 0 where
  pub left_elements : IsElementPointer types left
  pub right_elements : IsElementPointer types right
  pub alike : PointAlike types left right
  pub type_is : type ≡ difference_type

-- a shift has the type of its promoted left operand (6.5.7p3)
pub record IsShift (type left right : CTy) : Type 0 where
  pub promoted : IsPromoted type
  pub left_is : left ≡ type
  pub right_promoted : IsPromoted right

-- a comparison of integers of their common type (6.5.8p3, 6.5.9p4)
pub record AreNumbers (type left right : CTy) : Type 0 where
  pub promoted : IsPromoted left
  pub right_is : right ≡ left
  pub type_is : type ≡ int_type

-- an order of pointers to objects (6.5.8p2)
pub record AreOrdered (types : CTypes) (type left right : CTy) : Type 0 where
  pub objects : scalar_of types (form_of_type left) ≡ Some scalar.Object
  pub alike : PointAlike types left right
  pub type_is : type ≡ int_type

-- an equality of pointers; a pointer to an object beside one to `void`, or a null pointer beside another pointer, is converted
-- to the type of that one (6.5.9p2, p5)
pub record AreEqual (types : CTypes) (type left right : CTy) : Type 0 where
  pub alike : PointAlike types left right
  pub type_is : type ≡ int_type

abbrev IsSum : CTypes → CTy → CTy → CTy → Type 0
IsSum types type left right = AreCommon type left right ⊎ (IsMoved types type left right ⊎ IsMoved types type right left)

abbrev IsSubtraction : CTypes → CTy → CTy → CTy → Type 0
IsSubtraction types type left right = AreCommon type left right ⊎ (IsMoved types type left right ⊎ IsDifference types type left right)

abbrev IsOrder : CTypes → CTy → CTy → CTy → Type 0
IsOrder types type left right = AreNumbers type left right ⊎ AreOrdered types type left right

abbrev IsEquality : CTypes → CTy → CTy → CTy → Type 0
IsEquality types type left right = AreNumbers type left right ⊎ AreEqual types type left right

abbrev pub IsBinaryOf : CTypes → Op2 → CTy → CTy → CTy → Type 0
IsBinaryOf types Multiply type left right = AreCommon type left right
IsBinaryOf types Divide type left right = AreCommon type left right
IsBinaryOf types Remainder type left right = AreCommon type left right
IsBinaryOf types Add type left right = IsSum types type left right
IsBinaryOf types Subtract type left right = IsSubtraction types type left right
IsBinaryOf types ShiftLeft type left right = IsShift type left right
IsBinaryOf types ShiftRight type left right = IsShift type left right
IsBinaryOf types Less type left right = IsOrder types type left right
IsBinaryOf types Greater type left right = IsOrder types type left right
IsBinaryOf types LessOrEqual type left right = IsOrder types type left right
IsBinaryOf types GreaterOrEqual type left right = IsOrder types type left right
IsBinaryOf types Equal type left right = IsEquality types type left right
IsBinaryOf types NotEqual type left right = IsEquality types type left right
IsBinaryOf types BitAnd type left right = AreCommon type left right
IsBinaryOf types BitXor type left right = AreCommon type left right
IsBinaryOf types BitOr type left right = AreCommon type left right

-- `&&` and `||` test scalars (6.5.13p2, 6.5.14p2)
pub record AreTested (types : CTypes) (type left right : CTy) : Type 0 where
  pub left_scalar : IsScalarType types left
  pub right_scalar : IsScalarType types right
  pub type_is : type ≡ int_type

-- what `?:` may give: `void`, a value of promoted integer type, a pointer or a record (6.5.15p3)
abbrev IsChoiceForm : CTy → Type 0
IsChoiceForm (ty (basic which) is_const) = IsPromoted (ty (basic which) is_const)
IsChoiceForm (ty (enum_type number) is_const) = ⊥
IsChoiceForm (ty (array element length) is_const) = ⊥
IsChoiceForm (ty (function result params variadic) is_const) = ⊥
IsChoiceForm (ty form is_const) = is_const ≡ false

-- `?:` tests a scalar, and its parts are converted to the type of the whole (6.5.15p2, p3, p5 and p6)
pub record IsChoice (types : CTypes) (type test first second : CTy) : Type 0 where
  pub tested : IsScalarType types test
  pub choice : IsChoiceForm type
  pub first_is : first ≡ type
  pub second_is : second ≡ type

-- ---- assignment (6.5.16, 6.5.2.4, 6.5.3.1)

-- an assignment stores a value of the unqualified type of a modifiable lvalue, and gives that value
pub record IsAssignOf (types : CTypes) (type target value : CTy) : Type 0 where
  pub modifiable : IsModifiable types target
  pub type_is : type ≡ unqualified target
  pub value_is : value ≡ type

abbrev width_in_form : CForm → Option ℕ
width_in_form (member of spot) = if spot.width == 0 then None else Some spot.width
width_in_form _ = None

-- the width of a bit-field in bits; none for other lvalues
abbrev pub width_of : CExpr → Option ℕ
width_of (expr type place form) = width_in_form form

-- a compound assignment of integers computes in the type that the promoted target and the value have in common; the value is
-- converted to it (6.3.1.8)
pub record AreJoined (computes target value : CTy) : Type 0 where
  pub promoted : IsPromoted computes
  pub common : common_type target computes ≡ computes
  pub value_is : value ≡ computes

abbrev IsJoinedOrMoved : CTypes → CTy → CTy → CTy → Type 0
IsJoinedOrMoved types computes target value = AreJoined computes target value ⊎ IsMoved types computes target value

-- the type in which a compound assignment computes, by the promoted type of its target and the type of its value
abbrev pub IsComputedIn : CTypes → Op2 → CTy → CTy → CTy → Type 0
IsComputedIn types Multiply computes target value = AreJoined computes target value
IsComputedIn types Divide computes target value = AreJoined computes target value
IsComputedIn types Remainder computes target value = AreJoined computes target value
IsComputedIn types Add computes target value = IsJoinedOrMoved types computes target value
IsComputedIn types Subtract computes target value = IsJoinedOrMoved types computes target value
IsComputedIn types ShiftLeft computes target value = IsShift computes target value
IsComputedIn types ShiftRight computes target value = IsShift computes target value
IsComputedIn types BitAnd computes target value = AreJoined computes target value
IsComputedIn types BitXor computes target value = AreJoined computes target value
IsComputedIn types BitOr computes target value = AreJoined computes target value
IsComputedIn types Less computes target value = ⊥
IsComputedIn types Greater computes target value = ⊥
IsComputedIn types LessOrEqual computes target value = ⊥
IsComputedIn types GreaterOrEqual computes target value = ⊥
IsComputedIn types Equal computes target value = ⊥
IsComputedIn types NotEqual computes target value = ⊥

-- a compound assignment (6.5.16.2)
pub record IsAssignByOf (types : CTypes) (op : Op2) (type computes : CTy) (target : CExpr) (value : CTy) : Type 0 where
  pub modifiable : IsModifiable types (type_of target)
  pub type_is : type ≡ unqualified (type_of target)
  pub computed : IsComputedIn types op computes (promoted types (type_of target) (width_of target)) value

-- `++` and `--` of an integer or of a pointer to a complete object type (6.5.2.4p1, 6.5.3.1p1)
pub record IsStepOf (types : CTypes) (type target : CTy) : Type 0 where
  pub modifiable : IsModifiable types target
  pub type_is : type ≡ unqualified target
  pub stepped : IsIntegerType types type ⊎ IsElementPointer types type

-- ---- initialisers (6.7.8)

-- a value that is stored in a part of an object has the unqualified type of that part, which is no array
pub record IsPutOf (types : CTypes) (holder : CTy) (spot : Spot) (type value : CTy) : Type 0 where
  pub part : IsPartOf types holder spot type
  pub no_array : IsResultForm (form_of_type type)
  pub value_is : value ≡ unqualified type

-- puts stand in the order of their places
abbrev pub AreInOrder : ℕ → CPuts → Type 0
AreInOrder from no_puts = Unit {0}
AreInOrder from (more_puts (put spot type value) others) =
    (from ≤ 8 * spot.byte + spot.bit) × AreInOrder (8 * spot.byte + spot.bit) others

-- the object of a compound literal in a block (6.5.2.5p6), which holds the expression
pub record IsLiteralOf (home : CHome) (type : CTy) (one : CObject) : Type 0 where
  pub type_is : one.type ≡ type
  pub unnamed : one.name ≡ None
  pub no_text : one.is_text ≡ false
  pub block_object : (one.linkage ≡ Nothing) × (one.puts ≡ None)
  pub there : Contains home.scope one.object

abbrev pub IsLiteral : CHome → CTy → ℕ → Type 0
IsLiteral home type number =
    IsSome (object_with number home.program.objects)
    × IfSome (object_with number home.program.objects) (IsLiteralOf home type)

-- ---- expressions

abbrev mutual
  -- a typed expression that gives a value, or nothing where its type is `void`
  pub IsTyped : CHome → CExpr → Type 0
  IsTyped home (expr type place form) = IsTypeIn (types_of_home home) home.unit type × IsTypedForm home type form

  pub IsTypedForm : CHome → CTy → CForm → Type 0
  IsTypedForm home type (whole value) = IsConstantOf (types_of_home home) type value
  IsTypedForm home type null = IsPointer type
  IsTypedForm home type (object number) = ⊥
  IsTypedForm home type (code number) = IsCodeOf home number type
  IsTypedForm home type (load from) = IsLvalue home from × IsLoadOf (types_of_home home) type (type_of from)
  IsTypedForm home type (deref from) = ⊥
  IsTypedForm home type (member of spot) = IsTyped home of × IsMemberValue (types_of_home home) (type_of of) spot type
  IsTypedForm home type (address of) = IsLvalue home of × IsAddressOf type of
  IsTypedForm home type (convert value) = IsTyped home value × IsConversion (types_of_home home) (type_of value) type
  IsTypedForm home type (unary op value) = IsTyped home value × IsUnaryOf (types_of_home home) op type (type_of value)
  IsTypedForm home type (binary op left right) =
      IsTyped home left × IsTyped home right × IsBinaryOf (types_of_home home) op type (type_of left) (type_of right)
  IsTypedForm home type (and left right) =
      IsTyped home left × IsTyped home right × AreTested (types_of_home home) type (type_of left) (type_of right)
  IsTypedForm home type (or left right) =
      IsTyped home left × IsTyped home right × AreTested (types_of_home home) type (type_of left) (type_of right)
  IsTypedForm home type (cond test first second) =
      IsTyped home test × IsTyped home first × IsTyped home second
      × IsChoice (types_of_home home) type (type_of test) (type_of first) (type_of second)
  IsTypedForm home type (assign target value) =
      IsLvalue home target × IsTyped home value × IsAssignOf (types_of_home home) type (type_of target) (type_of value)
  IsTypedForm home type (assign_by op computes target value) =
      IsLvalue home target × IsTyped home value × IsAssignByOf (types_of_home home) op type computes target (type_of value)
  IsTypedForm home type (step up post on) = IsLvalue home on × IsStepOf (types_of_home home) type (type_of on)
  IsTypedForm home type (call callee args) = AreTyped home args × IsCallee home callee type args
  IsTypedForm home type (call_by callee args) =
      IsTyped home callee × AreTyped home args × IsCallBy (types_of_home home) type args (type_of callee)
  IsTypedForm home type (comma first second) = IsTyped home first × IsTyped home second × (type ≡ type_of second)
  IsTypedForm home type (literal number puts) = ⊥

  -- a typed lvalue (6.3.2.1p1)
  pub IsLvalue : CHome → CExpr → Type 0
  IsLvalue home (expr type place form) =
      IsTypeIn (types_of_home home) home.unit type × IsObjectForm (form_of_type type) × IsLvalueForm home type form

  pub IsLvalueForm : CHome → CTy → CForm → Type 0
  IsLvalueForm home type (object number) = IsNamed home type number
  IsLvalueForm home type (deref from) = IsTyped home from × IsDerefOf type (type_of from)
  IsLvalueForm home type (member of spot) = IsLvalue home of × IsMemberOf (types_of_home home) (type_of of) spot type
  IsLvalueForm home type (literal number puts) = IsLiteral home type number × ArePuts home type puts × AreInOrder 0 puts
  IsLvalueForm home type _ = ⊥

  pub AreTyped : CHome → CExprs → Type 0
  AreTyped home no_exprs = Unit {0}
  AreTyped home (more_exprs first others) = IsTyped home first × AreTyped home others

  -- what is stored in an object of a type
  pub ArePuts : CHome → CTy → CPuts → Type 0
  ArePuts home holder no_puts = Unit {0}
  ArePuts home holder (more_puts one others) = IsTypedPut home holder one × ArePuts home holder others

  pub IsTypedPut : CHome → CTy → CPut → Type 0
  IsTypedPut home holder (put spot type value) =
      IsTyped home value × IsPutOf (types_of_home home) holder spot type (type_of value)

-- what an initialiser stores in an object of a type, in the order of the places
abbrev pub AreTypedPuts : CHome → CTy → CPuts → Type 0
AreTypedPuts home holder puts = ArePuts home holder puts × AreInOrder 0 puts

-- ---- constant expressions for initialisers of static objects (6.6p7 to p9)

-- an object that is static
abbrev pub IsStaticObject : CProgram → ℕ → Type 0
IsStaticObject program number = IfSome (object_with number program.objects) (λ one. (one.linkage ≡ Nothing) → IsSome one.puts)

abbrev mutual
  -- a constant: it reads no object, stores nothing and calls nothing
  pub IsConstant : CProgram → CExpr → Type 0
  IsConstant program (expr type place form) = IsConstantForm program form

  pub IsConstantForm : CProgram → CForm → Type 0
  IsConstantForm program (whole value) = Unit {0}
  IsConstantForm program null = Unit {0}
  IsConstantForm program (code number) = Unit {0}
  IsConstantForm program (address of) = IsFixed program of
  IsConstantForm program (convert value) = IsConstant program value
  IsConstantForm program (unary op value) = IsConstant program value
  IsConstantForm program (binary op left right) = IsConstant program left × IsConstant program right
  IsConstantForm program (and left right) = IsConstant program left × IsConstant program right
  IsConstantForm program (or left right) = IsConstant program left × IsConstant program right
  IsConstantForm program (cond test first second) =
      IsConstant program test × IsConstant program first × IsConstant program second
  -- where it isn't evaluated (6.6p3)
  IsConstantForm program (comma first second) = IsConstant program first × IsConstant program second
  IsConstantForm program _ = ⊥

  -- an lvalue with a constant address: a static object, a part of one, or what a constant points to
  pub IsFixed : CProgram → CExpr → Type 0
  IsFixed program (expr type place form) = IsFixedForm program form

  pub IsFixedForm : CProgram → CForm → Type 0
  IsFixedForm program (object number) = IsStaticObject program number
  IsFixedForm program (deref from) = IsConstant program from
  IsFixedForm program (member of spot) = IsFixed program of
  IsFixedForm program _ = ⊥

abbrev pub AreConstantPuts : CProgram → CPuts → Type 0
AreConstantPuts program no_puts = Unit {0}
AreConstantPuts program (more_puts (put spot type value) others) = IsConstant program value × AreConstantPuts program others
