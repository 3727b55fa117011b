-- Small typed programs as data: what the worked runs are built from.
use Rattle.std.proofs.Common.{ℕ, ℤ, pos, true, false, Bool, List, [], ◌∷◌, ◌++◌, Option, Some, None, codes}
use Rattle.cr_base.specs.declared.layout.Spot.{Spot}
use Rattle.cr_base.specs.declared.refusal.Place.{Place}
use Rattle.cr_base.specs.declared.rule.URule.{URule}
use Rattle.cr_base.specs.declared.scalar.Scalar.TheVariants.{Whole}
use Rattle.cx_core.specs.declared.expr.Op1.{Op1}
use Rattle.cx_core.specs.declared.expr.Op2.{Op2}
use Rattle.cx_core.specs.declared.program.Linkage.TheVariants.{External, Nothing}
use Rattle.cx_core.specs.declared.ty.Basic.{Basic}
use Rattle.cx_core.specs.declared.ty.Basic.TheVariants.{Char, Int, Unsigned, Long, UnsignedLong}
use Rattle.cx_core.specs.Trees.{CTy, ty, void, basic, pointer, array, record_type, function, listed, unlisted, CTys, no_types, more_types, type_of, unqualified, no_types_yet, CTypes, CMember, CExpr, expr, CForm, whole, null, object, code, load, deref, member, address, convert, unary, binary, and, or, cond, assign, assign_by, step, call, call_by, comma, CExprs, no_exprs, more_exprs, CPut, put, CPuts, no_puts, more_puts, CStmt, stmt, CStmtForm, block, expression, if_then, returns, begin, no_else, else_do, CStmts, no_stmts, more_stmts, CObject, CFun, COuter, CProgram}
use Rattle.cr_world.specs.World.{Outside, trail_of}
use Rattle.mem_bytes.specs.Counted.{Limit}
use Rattle.cx_mean.specs.Leftmost.{c_leftmost, c_leftmost_on}
use Rattle.cx_mean.specs.Run.{CSeen, CProgress, ended, undefined, c_run, c_trailed}
use Rattle.ext_calls.specs.declared.call.Call.{Call}
use Rattle.ext_calls.specs.declared.call.Arg.TheVariants.{Whole as WholeArg}

-- ---- types

abbrev pub plain : Basic → CTy
plain which = ty (basic which) false

abbrev pub int_t : CTy
int_t = plain Int

abbrev pub char_t : CTy
char_t = plain Char

abbrev pub unsigned_t : CTy
unsigned_t = plain Unsigned

abbrev pub long_t : CTy
long_t = plain Long

abbrev pub size_t : CTy
size_t = plain UnsignedLong

abbrev pub void_t : CTy
void_t = ty void false

abbrev pub to : CTy → CTy
to type = ty (pointer type) false

abbrev pub array_of : ℕ → CTy → CTy
array_of n type = ty (array type (Some n)) false

abbrev pub record_t : ℕ → CTy
record_t number = ty (record_type number) false

abbrev pub types : List CTy → CTys
types [] = no_types
types (first ∷ others) = more_types first (types others)

abbrev pub taking : CTy → List CTy → CTy
taking result params = ty (function result (listed (types params)) false) false

abbrev pub taking_unlisted : CTy → CTy
taking_unlisted result = ty (function result unlisted false) false

-- ---- places and expressions, all on line 1 of unit 0 but where a line is said

abbrev pub at : ℕ → Place
at line = record { unit = 0; line = line }

abbrev pub here : Place
here = at 1

abbrev pub node : CTy → CForm → CExpr
node type form = expr type here form

abbrev pub number : ℤ → CExpr
number value = node int_t (whole value)

abbrev pub number_as : CTy → ℤ → CExpr
number_as type value = node type (whole value)

abbrev pub n : ℕ → CExpr
n value = number (pos value)

-- an object as an lvalue, and its value
abbrev pub var_as : CTy → ℕ → CExpr
var_as type k = node type (object k)

abbrev pub var : ℕ → CExpr
var k = var_as int_t k

-- the value of an lvalue
abbrev pub get : CExpr → CExpr
get of = node (unqualified (type_of of)) (load of)

abbrev pub val : ℕ → CExpr
val k = get (var k)

abbrev pub val_as : CTy → ℕ → CExpr
val_as type k = get (var_as type k)

abbrev pub set : CExpr → CExpr → CExpr
set target value = node (unqualified (type_of target)) (assign target value)

abbrev pub set_by : Op2 → CTy → CExpr → CExpr → CExpr
set_by op computes target value = node (unqualified (type_of target)) (assign_by op computes target value)

-- `e++`, `e--`, `++e`, `--e`
abbrev pub post_up : CExpr → CExpr
post_up on = node (unqualified (type_of on)) (step true true on)

abbrev pub post_down : CExpr → CExpr
post_down on = node (unqualified (type_of on)) (step false true on)

abbrev pub pre_up : CExpr → CExpr
pre_up on = node (unqualified (type_of on)) (step true false on)

abbrev pub pre_down : CExpr → CExpr
pre_down on = node (unqualified (type_of on)) (step false false on)

abbrev pub two_as : CTy → Op2 → CExpr → CExpr → CExpr
two_as type op left right = node type (binary op left right)

abbrev pub two : Op2 → CExpr → CExpr → CExpr
two op left right = two_as int_t op left right

abbrev pub one_as : CTy → Op1 → CExpr → CExpr
one_as type op value = node type (unary op value)

abbrev pub conv : CTy → CExpr → CExpr
conv type value = node type (convert value)

abbrev pub addr : CExpr → CExpr
addr of = node (to (type_of of)) (address of)

-- the first element of an array of a type
abbrev pub first_of : CTy → CExpr → CExpr
first_of element of = node (to element) (address of)

abbrev pub star : CTy → CExpr → CExpr
star type pointed = node type (deref pointed)

abbrev pub null_as : CTy → CExpr
null_as type = node type null

abbrev pub dot : CTy → CExpr → Spot → CExpr
dot type of spot = node type (member of spot)

abbrev pub byte : ℕ → Spot
byte k = record { byte = k; bit = 0; width = 0 }

abbrev pub bits : ℕ → ℕ → ℕ → Spot
bits k bit width = record { byte = k; bit = bit; width = width }

abbrev pub exprs : List CExpr → CExprs
exprs [] = no_exprs
exprs (first ∷ others) = more_exprs first (exprs others)

-- a call of the function with a number
abbrev pub calls_as : CTy → ℕ → List CExpr → CExpr
calls_as type k args = node type (call k (exprs args))

abbrev pub calls : ℕ → List CExpr → CExpr
calls k args = calls_as int_t k args

abbrev pub calls_by : CTy → CExpr → List CExpr → CExpr
calls_by type callee args = node type (call_by callee (exprs args))

abbrev pub fun_pointer : CTy → ℕ → CExpr
fun_pointer type k = node (to type) (code k)

abbrev pub both_true : CExpr → CExpr → CExpr
both_true left right = node int_t (and left right)

abbrev pub either_true : CExpr → CExpr → CExpr
either_true left right = node int_t (or left right)

abbrev pub choose : CExpr → CExpr → CExpr → CExpr
choose test first second = node (type_of first) (cond test first second)

abbrev pub sequence : CExpr → CExpr → CExpr
sequence first second = node (type_of second) (comma first second)

abbrev pub puts : List CPut → CPuts
puts [] = no_puts
puts (first ∷ others) = more_puts first (puts others)

abbrev pub put_at : ℕ → CExpr → CPut
put_at k value = put (byte k) (type_of value) value

abbrev pub put_bits : ℕ → ℕ → ℕ → CExpr → CPut
put_bits k bit width value = put (bits k bit width) (type_of value) value

-- ---- statements, on line 1

abbrev pub does : CStmtForm → CStmt
does form = stmt here [] form

-- a statement whose block these objects are of
abbrev pub with_objects : List ℕ → CStmtForm → CStmt
with_objects objects form = stmt here objects form

abbrev pub stmts : List CStmt → CStmts
stmts [] = no_stmts
stmts (first ∷ others) = more_stmts first (stmts others)

-- `value;`: where it has a value that is dropped, it is converted to `void`
abbrev pub run : CExpr → CStmt
run value = does (expression (Some (conv void_t value)))

-- the same of an expression of type `void`
abbrev pub run_void : CExpr → CStmt
run_void value = does (expression (Some value))

abbrev pub skip : CStmt
skip = does (expression None)

abbrev pub give : CExpr → CStmt
give value = does (returns (Some value))

abbrev pub decl : ℕ → CStmt
decl k = does (begin k None)

abbrev pub decl_as : ℕ → List CPut → CStmt
decl_as k list = does (begin k (Some (puts list)))

-- `T x = value;`
abbrev pub decl_to : ℕ → CExpr → CStmt
decl_to k value = decl_as k (put_at 0 value ∷ [])

abbrev pub in_block : List ℕ → List CStmt → CStmt
in_block objects list = with_objects objects (block (stmts list))

abbrev pub when : CExpr → CStmt → CStmt
when test body = does (if_then test body no_else)

abbrev pub when_else : CExpr → CStmt → CStmt → CStmt
when_else test body otherwise = does (if_then test body (else_do otherwise))

-- ---- objects, functions and programs

abbrev pub letter : ℕ → List ℕ
letter k = codes "x" ++ k ∷ []

-- a static object with puts, and an object of a block
abbrev pub static : ℕ → CTy → List CPut → CObject
static k type list = record {
  object = k;
  unit = 0;
  name = Some (letter k);
  is_text = false;
  type = type;
  linkage = External;
  puts = Some (puts list);
}

abbrev pub local : ℕ → CTy → CObject
local k type = record {
  object = k;
  unit = 0;
  name = Some (letter k);
  is_text = false;
  type = type;
  linkage = Nothing;
  puts = None;
}

abbrev pub fun : ℕ → List ℕ → CTy → List ℕ → CStmt → CFun
fun k name type params body = record {
  function = k;
  name = name;
  unit = 0;
  linkage = External;
  type = type;
  params = params;
  body = body;
}

abbrev pub main_fun : List ℕ → List CStmt → CFun
main_fun objects list = fun 0 (codes "main") (taking int_t []) [] (in_block objects list)

abbrev pub outer : ℕ → List ℕ → CTy → COuter
outer k name type = record { function = k; name = name; linkage = External; type = type }

-- `int putchar(int);` is function 100, `int printf(const char *, ...);` 101, `int getchar(void);` 102; then the known functions
abbrev pub to_const_char : CTy
to_const_char = to (ty (basic Char) true)

abbrev pub to_void : CTy
to_void = to void_t

abbrev pub externals : List COuter
externals =
    outer 100 (codes "putchar") (taking int_t (int_t ∷ []))
    ∷ outer 101 (codes "printf") (ty (function int_t (listed (types (to_const_char ∷ []))) true) false)
    ∷ outer 102 (codes "getchar") (taking int_t [])
    ∷ outer 103 (codes "malloc") (taking to_void (size_t ∷ []))
    ∷ outer 104 (codes "calloc") (taking to_void (size_t ∷ size_t ∷ []))
    ∷ outer 105 (codes "free") (taking void_t (to_void ∷ []))
    ∷ outer 106 (codes "memcpy") (taking to_void (to_void ∷ to (ty void true) ∷ size_t ∷ []))
    ∷ outer 107 (codes "memmove") (taking to_void (to_void ∷ to (ty void true) ∷ size_t ∷ []))
    ∷ outer 108 (codes "memset") (taking to_void (to_void ∷ int_t ∷ size_t ∷ []))
    ∷ outer 109 (codes "exit") (taking void_t (int_t ∷ []))
    ∷ outer 110 (codes "abort") (taking void_t [])
    ∷ []

abbrev pub putchar : CExpr → CExpr
putchar value = calls 100 (value ∷ [])

abbrev pub program_of : CTypes → List CObject → List CFun → CProgram
program_of types objects functions = record {
  types = types;
  objects = objects;
  functions = functions;
  externals = externals;
  orders = [];
}

-- a program without records of `main` alone
abbrev pub program : List CObject → List CStmt → CProgram
program objects list = program_of no_types_yet objects (main_fun [] list ∷ [])

-- the same where these objects are of the body's block
abbrev pub with_locals : List CObject → List ℕ → List CStmt → CProgram
with_locals objects own list = program_of no_types_yet objects (main_fun own list ∷ [])

abbrev pub named_member : List ℕ → CTy → CMember
named_member name type = record { name = Some name; type = type; bits = None }

abbrev pub bits_member : List ℕ → CTy → ℕ → CMember
bits_member name type width = record { name = Some name; type = type; bits = Some width }

-- one record, number 0
abbrev pub one_record : Bool → List CMember → CTypes
one_record is_union members = record {
  records = Some (record { number = 0; tag = Some (codes "s"); is_union = is_union; members = members }) ∷ [];
  record_tags = record { tag = Some (codes "s"); is_union = is_union } ∷ [];
  record_units = 0 ∷ [];
  enums = [];
  enum_units = [];
}

-- ---- what is seen

abbrev pub answers : List ℤ → Outside
answers list = record { answers = list }

abbrev pub silent : Outside
silent = answers []

-- what is seen by steps, and what is seen of the leftmost run by trees
pub record Both : Type 0 where
  pub by_steps : CSeen
  pub by_trees : CSeen

abbrev pub the_same : CSeen → Both
the_same one = record { by_steps = one; by_trees = one }

-- under the empty order, with an outside
abbrev pub runs_with : CProgram → Outside → ℕ → Both
runs_with one outside steps = record { by_steps = c_run one [] outside steps; by_trees = c_leftmost one outside steps }

-- without answers
abbrev pub runs : CProgram → ℕ → Both
runs one steps = runs_with one silent steps

-- under an order
abbrev pub ordered : CProgram → List ℕ → Outside → ℕ → Both
ordered one order outside steps = the_same (c_run one order outside steps)

-- under a trail, over a store with a limit
abbrev pub trailed : CProgram → Option Limit → List ℤ → ℕ → Both
trailed one limit trail steps = record {
  by_steps = c_trailed one [] limit trail steps;
  by_trees = c_leftmost_on one (trail_of limit) (answers trail) steps;
}

abbrev pub seen : List Call → CProgress → Both
seen events progress = the_same (record { events = events; progress = progress })

abbrev pub ends : ℤ → Both
ends status = seen [] (ended status)

abbrev pub breaks_at : ℕ → URule → Both
breaks_at line rule = seen [] (undefined rule 0 line)

abbrev pub printed : ℕ → Call
printed k = record { name = codes "putchar"; args = WholeArg (Whole 32 true) (pos k) ∷ [] }

-- what `return value;` gives, for each of these values, where these objects are static
abbrev pub gives : List CObject → List CExpr → List Both
gives objects [] = []
gives objects (first ∷ others) = runs (program objects (give first ∷ [])) 80 ∷ gives objects others

abbrev pub all_end : List ℤ → List Both
all_end [] = []
all_end (first ∷ others) = ends first ∷ all_end others

abbrev pub all_break : URule → List CExpr → List Both
all_break rule [] = []
all_break rule (first ∷ others) = breaks_at 1 rule ∷ all_break rule others
