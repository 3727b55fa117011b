-- Trees of expressions, for worked examples: `int` objects `a` to `d`, `i`, `n`, `x` and `y` have the numbers 0 to 7.
use Rattle.std.specs.Prelude.{ℕ, ℤ, Bool, true, false, List, [], ◌∷◌, Some}
use Rattle.cr_base.specs.declared.refusal.Place.{Place}
use Rattle.cx_core.specs.declared.expr.Op1.{Op1}
use Rattle.cx_core.specs.declared.expr.Op2.{Op2}
use Rattle.cx_core.specs.declared.ty.Basic.TheVariants.{Int, Unsigned, Long, Char}
use Rattle.cx_core.specs.Trees.{CTy, ty, void, basic, pointer, array, record_type, function, listed, CTys, no_types, more_types, CExpr, expr, whole, object, load, deref, member, address, convert, unary, binary, and, or, cond, assign, assign_by, step, call, call_by, comma, CExprs, no_exprs, more_exprs, type_of}

abbrev pub at : Place
at = record { unit = 0; line = 1 }

-- ---- types

abbrev pub void_type : CTy
void_type = ty void false

abbrev pub int : CTy
int = ty (basic Int) false

abbrev pub unsigned : CTy
unsigned = ty (basic Unsigned) false

abbrev pub long : CTy
long = ty (basic Long) false

abbrev pub char : CTy
char = ty (basic Char) false

abbrev pub to : CTy → CTy
to target = ty (pointer target) false

abbrev pub struct : ℕ → CTy
struct number = ty (record_type number) false

abbrev pub array_of : CTy → ℕ → CTy
array_of element length = ty (array element (Some length)) false

abbrev pub types : List CTy → CTys
types [] = no_types
types (first ∷ others) = more_types first (types others)

-- a function of these parameters
abbrev pub function_of : CTy → List CTy → CTy
function_of result params = ty (function result (listed (types params)) false) false

-- ---- places

abbrev pub named : CTy → ℕ → CExpr
named type number = expr type at (object number)

-- what a pointer points to
abbrev pub target : CTy → CExpr → CExpr
target type from = expr type at (deref from)

abbrev pub member_at : CTy → CExpr → (byte : ℕ) → CExpr
member_at type of byte = expr type at (member of (record { byte = byte; bit = 0; width = 0 }))

abbrev pub bits_at : CTy → CExpr → (byte bit width : ℕ) → CExpr
bits_at type of byte bit width = expr type at (member of (record { byte = byte; bit = bit; width = width }))

-- ---- values

abbrev pub value_of : CExpr → CExpr
value_of from = expr (type_of from) at (load from)

abbrev pub local : CTy → ℕ → CExpr
local type number = value_of (named type number)

abbrev pub number : ℤ → CExpr
number value = expr int at (whole value)

abbrev pub converted : CTy → CExpr → CExpr
converted type from = expr type at (convert from)

abbrev pub address_at : CTy → CExpr → CExpr
address_at type of = expr (to type) at (address of)

abbrev pub one : Op1 → CTy → CExpr → CExpr
one op type from = expr type at (unary op from)

abbrev pub two : Op2 → CTy → CExpr → CExpr → CExpr
two op type left right = expr type at (binary op left right)

abbrev pub both : CExpr → CExpr → CExpr
both left right = expr int at (and left right)

abbrev pub either : CExpr → CExpr → CExpr
either left right = expr int at (or left right)

abbrev pub chosen : CTy → CExpr → CExpr → CExpr → CExpr
chosen type test first second = expr type at (cond test first second)

abbrev pub set : CExpr → CExpr → CExpr
set target from = expr (type_of target) at (assign target from)

abbrev pub set_by : Op2 → CTy → CExpr → CExpr → CExpr
set_by op computes target from = expr (type_of target) at (assign_by op computes target from)

-- `x++` and `x--`, and in front of x
abbrev pub step_behind : Bool → CExpr → CExpr
step_behind up on = expr (type_of on) at (step up true on)

abbrev pub step_before : Bool → CExpr → CExpr
step_before up on = expr (type_of on) at (step up false on)

abbrev pub in_turn : CExpr → CExpr → CExpr
in_turn first second = expr (type_of second) at (comma first second)

abbrev pub args : List CExpr → CExprs
args [] = no_exprs
args (first ∷ others) = more_exprs first (args others)

abbrev pub call_of : CTy → ℕ → List CExpr → CExpr
call_of type callee list = expr type at (call callee (args list))

abbrev pub call_through : CTy → CExpr → List CExpr → CExpr
call_through type callee list = expr type at (call_by callee (args list))

-- an expression statement (6.8.3p2)
abbrev pub statement : CExpr → CExpr
statement e = converted void_type e

-- ---- objects

abbrev pub a : CExpr
a = named int 0

abbrev pub b : CExpr
b = named int 1

abbrev pub c : CExpr
c = named int 2

abbrev pub d : CExpr
d = named int 3

abbrev pub i : CExpr
i = named int 4

abbrev pub n : CExpr
n = named int 5

abbrev pub x : CExpr
x = named int 6

abbrev pub y : CExpr
y = named int 7
