-- Trees of statements, for worked examples, with the names that they are written with and the nodes of their flows. Objects have the names and numbers that they have in examples of expressions;
-- `p` points to `struct node { int v; struct node *next; }` and `s` is one.
use Rattle.std.specs.Prelude.{ℕ, zero, suc, pos, Bool, true, false, List, [], ◌∷◌, ◌++◌, ◌==◌, if◌then◌else◌, Option, Some, None, codes, slice_get}
use Rattle.std.specs.Fmt.{decimal}
use Rattle.build_flow_nodes.specs.Parts.{BodyNames}
use Rattle.cx_core.specs.Trees.{CTy, ty, CTyForm, basic, enum_type, record_type, CExpr, put, no_puts, more_puts, CStmt, stmt, CStmtForm, label, case, default, block, expression, if_then, switch, while, do_while, for_loop, goto, continue, break, returns, begin, no_else, else_do, CStmts, no_stmts, more_stmts}
use Rattle.flow.specs.Flows.{CaseTree, SwitchTree, BranchTree, NodeTree, FlowTree}
use Rattle.lift_exprs.specs.Names.{KeptFunction, Names}
use Rattle.lift_forms.specs.Places.{Kept}
use Rattle.lift_held.specs.Example.{at, void_type, int, to, struct, named, number, call_of, set, statement, x}
use Rattle.rs_text.specs.declared.integer.IntegerTy.TheVariants.{I32}
use Rattle.rs_text.specs.declared.operator.Operator.TheVariants.{NotEqual}
use Rattle.rs_text.specs.Tree.{Ty, Integer, Pointer, Code, Record, tys, no_ty, some_ty, Local, Expr, Literal, Read, Call, Binary, no_exprs, Stmt, Assign, stmts}

-- ---- statements of C

abbrev pub stands : CStmtForm → CStmt
stands form = stmt at [] form

abbrev pub list : List CStmt → CStmts
list [] = no_stmts
list (first ∷ others) = more_stmts first (list others)

-- `{ .. }`, and one in which objects are declared
abbrev pub all : List CStmt → CStmt
all members = stands (block (list members))

abbrev pub all_with : List ℕ → List CStmt → CStmt
all_with objects members = stmt at objects (block (list members))

abbrev pub empty : CStmt
empty = stands (expression None)

abbrev pub does : CExpr → CStmt
does e = stands (expression (Some (statement e)))

abbrev pub when : CExpr → CStmt → CStmt
when test body = stands (if_then test body no_else)

abbrev pub when_else : CExpr → CStmt → CStmt → CStmt
when_else test body other = stands (if_then test body (else_do other))

abbrev pub choose : CExpr → CStmt → CStmt
choose value body = stands (switch value body)

abbrev pub at_value : ℕ → CStmt → CStmt
at_value value body = stands (case (pos value) body)

abbrev pub at_others : CStmt → CStmt
at_others body = stands (default body)

abbrev pub labelled : List ℕ → CStmt → CStmt
labelled name body = stands (label name body)

abbrev pub go_to : List ℕ → CStmt
go_to name = stands (goto name)

abbrev pub as_long : CExpr → CStmt → CStmt
as_long test body = stands (while test body)

abbrev pub do_as_long : CStmt → CExpr → CStmt
do_as_long body test = stands (do_while body test)

abbrev pub turns : List CStmt → Option CExpr → Option CExpr → CStmt → CStmt
turns first test next body = stands (for_loop (list first) test next body)

abbrev pub leave : CStmt
leave = stands break

abbrev pub go_on : CStmt
go_on = stands continue

abbrev pub return : CStmt
return = stands (returns None)

abbrev pub return_of : CExpr → CStmt
return_of e = stands (returns (Some e))

-- `int y;` and `int y = 5;`
abbrev pub declare : ℕ → CStmt
declare object = stands (begin object None)

abbrev pub declare_as : ℕ → CExpr → CStmt
declare_as object value = stands (begin object (Some (more_puts (put (record { byte = 0; bit = 0; width = 0 }) int value) no_puts)))

-- `x = 1;`, and `x = f();`
abbrev pub x_be : ℕ → CStmt
x_be value = does (set x (number (pos value)))

abbrev pub f : CExpr
f = call_of int 0 []

abbrev pub x_be_f : CStmt
x_be_f = does (set x f)

-- `s`, and `make()`, which gives a structure
abbrev pub s : CExpr
s = named (struct 0) 9

abbrev pub make : CExpr
make = call_of (struct 0) 1 []

-- ---- names

abbrev pub i32 : Ty
i32 = Integer I32

abbrev pub node_type : Ty
node_type = Record (codes "m") (codes "node")

abbrev pub kept : List ℕ → Ty → Kept
kept name rust = record { place = Local name; ty = rust }

abbrev pub objects : List Kept
objects =
    kept (codes "a") i32 ∷ kept (codes "b") i32 ∷ kept (codes "c") i32 ∷ kept (codes "d") i32 ∷ kept (codes "i") i32
    ∷ kept (codes "n") i32 ∷ kept (codes "x") i32 ∷ kept (codes "y") i32 ∷ kept (codes "p") (Pointer node_type) ∷ kept (codes "s") node_type ∷ []

abbrev pub functions : List KeptFunction
functions =
    record { home = codes "m"; name = codes "f"; ty = Code (tys []) (some_ty i32); symbol = None }
    ∷ record { home = codes "m"; name = codes "make"; ty = Code (tys (Pointer node_type ∷ [])) no_ty; symbol = None } ∷ []

abbrev pub size_in : CTyForm → ℕ
size_in (record_type number) = 16
size_in (basic which) = 4
size_in (enum_type number) = 4
size_in _ = 8

abbrev pub size_of : CTy → ℕ
size_of (ty form is_const) = size_in form

-- in the order of their numbers
abbrev pub numbered_name : List ℕ → ℕ → List ℕ
numbered_name name zero = name
numbered_name name (suc n) = name ++ (codes "_" ++ decimal n)

abbrev pub names_where : (has_bits : Bool) → Names
names_where has_bits = record {
  objects = λ number. slice_get objects number;
  functions = λ number. slice_get functions number;
  bare_functions = λ _. None;
  fields = λ _. Some (record { byte = 0; ty = i32; name = codes "v" } ∷ record { byte = 8; ty = Pointer node_type; name = codes "next" } ∷ []);
  types = record { records = λ _. Some (record { home = codes "m"; name = codes "node" }); enums = λ _. I32 };
  size_of = size_of;
  temporary = numbered_name (codes "t");
  has_bits = has_bits;
}

abbrev pub type_of_object : ℕ → CTy
type_of_object number = if number == 9 then struct 0 else if number == 8 then to (struct 0) else int

abbrev pub body_names : (has_bits : Bool) → (result : CTy) → BodyNames
body_names has_bits result = record {
  names = names_where has_bits;
  type_of_object = type_of_object;
  zeros = numbered_name (codes "zeros");
  result_type = result;
  result = codes "result";
}

-- of a function that gives an `int`, nothing, or a structure; and of one that gives an `int` in a program with a bit-field member
abbrev pub giving_int : BodyNames
giving_int = body_names false int

abbrev pub giving_nothing : BodyNames
giving_nothing = body_names false void_type

abbrev pub giving_record : BodyNames
giving_record = body_names false (struct 0)

abbrev pub beside_bits : BodyNames
beside_bits = body_names true int

-- ---- nodes

abbrev pub node : List Stmt → BranchTree → NodeTree
node body last = record { body = stmts body; last = last }

abbrev pub flow : List NodeTree → FlowTree
flow nodes = record { nodes = nodes; entry = 0 }

abbrev pub goes_at : ℕ → ℕ → CaseTree
goes_at value to = record { value = pos value; to = to }

abbrev pub by_n : List CaseTree → (other : ℕ) → SwitchTree
by_n cases other = record { on = Read (Local (codes "n")); by = I32; cases = cases; other = other }

abbrev pub whole : ℕ → Expr
whole value = Literal (pos value) I32

abbrev pub read : List ℕ → Expr
read name = Read (Local name)

-- `c != 0`
abbrev pub holds : List ℕ → Expr
holds name = Binary (read name) NotEqual (whole 0)

-- `x = e;`
abbrev pub stores : List ℕ → Expr → Stmt
stores name e = Assign (Local name) e

abbrev pub x_is : ℕ → Stmt
x_is value = stores (codes "x") (whole value)

-- `t = f();`
abbrev pub t_is_f : List ℕ → Stmt
t_is_f name = stores name (Call (codes "m") (codes "f") no_exprs)
