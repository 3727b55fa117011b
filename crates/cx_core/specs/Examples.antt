-- A worked example of a typed program.
use Rattle.std.specs.Prelude.{ℕ, ℤ, pos, false, [], ◌∷◌, Some, None, codes}
use Rattle.cr_base.specs.declared.layout.Spot.{Spot}
use Rattle.cr_base.specs.declared.refusal.Place.{Place}
use Rattle.cx_core.specs.declared.expr.Op2.TheVariants.{Add, Less}
use Rattle.cx_core.specs.declared.program.Linkage.TheVariants.{External, Internal, Nothing}
use Rattle.cx_core.specs.declared.ty.Basic.TheVariants.{Int}
use Rattle.cx_core.specs.Trees.{CTy, ty, void, basic, pointer, array, record_type, function, listed, no_types, more_types, CExpr, expr, whole, object, load, deref, member, address, convert, binary, assign, assign_by, call, no_exprs, more_exprs, put, CPuts, no_puts, more_puts, CStmt, stmt, block, expression, while, returns, begin, CStmts, no_stmts, more_stmts, CMember, CRecord, CTypes, CObject, CFun, COuter, a_function, an_object, CDeclaredOrder, CProgram}

-- the program of one unit:
--
--      1  int putchar(int);
--      2  struct s { int b : 3; int a[2]; } x = { 1, { 5, 7 } };
--      3  static int sum(struct s *p) {
--      4      int i = 0;
--      5      while (i < 2) i += p->a[i];
--      6      return i;
--      7  }
--      8  int main(void) {
--      9      x.b = 2;
--     10      putchar(sum(&x));
--     11      return 0;
--     12  }

-- ---- types

abbrev pub int_type : CTy
int_type = ty (basic Int) false

abbrev pub void_type : CTy
void_type = ty void false

abbrev pub pair_type : CTy
pair_type = ty (array int_type (Some 2)) false

abbrev pub s_type : CTy
s_type = ty (record_type 0) false

abbrev pub to_int : CTy
to_int = ty (pointer int_type) false

abbrev pub to_s : CTy
to_s = ty (pointer s_type) false

abbrev pub b_member : CMember
b_member = record { name = Some (codes "b"); type = int_type; bits = Some 3 }

abbrev pub a_member : CMember
a_member = record { name = Some (codes "a"); type = pair_type; bits = None }

abbrev pub s_record : CRecord
s_record = record { number = 0; tag = Some (codes "s"); is_union = false; members = b_member ∷ a_member ∷ [] }

abbrev pub s_types : CTypes
s_types = record {
  records = Some s_record ∷ [];
  record_tags = record { tag = Some (codes "s"); is_union = false } ∷ [];
  record_units = 0 ∷ [];
  enums = [];
  enum_units = [];
}

-- ---- nodes at a line

abbrev pub at_line : ℕ → Place
at_line line = record { unit = 0; line = line }

abbrev pub byte_at : ℕ → Spot
byte_at byte = record { byte = byte; bit = 0; width = 0 }

abbrev pub b_spot : Spot
b_spot = record { byte = 0; bit = 0; width = 3 }

abbrev pub number_at : ℕ → ℤ → CExpr
number_at line value = expr int_type (at_line line) (whole value)

-- the object `i`, and its value
abbrev pub i_at : ℕ → CExpr
i_at line = expr int_type (at_line line) (object 2)

abbrev pub i_value_at : ℕ → CExpr
i_value_at line = expr int_type (at_line line) (load (i_at line))

-- `p->a`, the address of its first element, and `p->a[i]`
abbrev pub p_at : CExpr
p_at = expr to_s (at_line 5) (load (expr to_s (at_line 5) (object 1)))

abbrev pub elements_at : CExpr
elements_at = expr pair_type (at_line 5) (member (expr s_type (at_line 5) (deref p_at)) (byte_at 4))

abbrev pub first_at : CExpr
first_at = expr to_int (at_line 5) (address elements_at)

abbrev pub element_at : CExpr
element_at = expr int_type (at_line 5) (deref (expr to_int (at_line 5) (binary Add first_at (i_value_at 5))))

abbrev pub dropped_at : ℕ → CExpr → CStmt
dropped_at line value = stmt (at_line line) [] (expression (Some (expr void_type (at_line line) (convert value))))

-- `i += p->a[i]`, `i < 2`
abbrev pub adds_at : CExpr
adds_at = expr int_type (at_line 5) (assign_by Add int_type (i_at 5) (expr int_type (at_line 5) (load element_at)))

abbrev pub below_at : CExpr
below_at = expr int_type (at_line 5) (binary Less (i_value_at 5) (number_at 5 (pos 2)))

-- `x`, `x.b = 2` and `putchar(sum(&x))`
abbrev pub x_at : ℕ → CExpr
x_at line = expr s_type (at_line line) (object 0)

abbrev pub b_set : CExpr
b_set = expr int_type (at_line 9) (assign (expr int_type (at_line 9) (member (x_at 9) b_spot)) (number_at 9 (pos 2)))

abbrev pub sum_call : CExpr
sum_call = expr int_type (at_line 10) (call 1 (more_exprs (expr to_s (at_line 10) (address (x_at 10))) no_exprs))

abbrev pub putchar_call : CExpr
putchar_call = expr int_type (at_line 10) (call 0 (more_exprs sum_call no_exprs))

-- ---- objects and functions

abbrev pub x_puts : CPuts
x_puts =
    more_puts (put b_spot int_type (number_at 2 (pos 1)))
    (more_puts (put (byte_at 4) int_type (number_at 2 (pos 5)))
    (more_puts (put (byte_at 8) int_type (number_at 2 (pos 7))) no_puts))

abbrev pub i_puts : CPuts
i_puts = more_puts (put (byte_at 0) int_type (number_at 4 (pos 0))) no_puts

abbrev pub x_object : CObject
x_object = record { object = 0; unit = 0; name = Some (codes "x"); is_text = false; type = s_type; linkage = External; puts = Some x_puts }

abbrev pub p_object : CObject
p_object = record { object = 1; unit = 0; name = Some (codes "p"); is_text = false; type = to_s; linkage = Nothing; puts = None }

abbrev pub i_object : CObject
i_object = record { object = 2; unit = 0; name = Some (codes "i"); is_text = false; type = int_type; linkage = Nothing; puts = None }

abbrev pub sum_stmts : CStmts
sum_stmts =
    more_stmts (stmt (at_line 4) [] (begin 2 (Some i_puts)))
    (more_stmts (stmt (at_line 5) [] (while below_at (dropped_at 5 adds_at)))
    (more_stmts (stmt (at_line 6) [] (returns (Some (i_value_at 6)))) no_stmts))

abbrev pub sum_type : CTy
sum_type = ty (function int_type (listed (more_types to_s no_types)) false) false

abbrev pub sum_function : CFun
sum_function = record {
  function = 1;
  name = codes "sum";
  unit = 0;
  linkage = Internal;
  type = sum_type;
  params = 1 ∷ [];
  body = stmt (at_line 3) (2 ∷ []) (block sum_stmts);
}

abbrev pub main_stmts : CStmts
main_stmts =
    more_stmts (dropped_at 9 b_set)
    (more_stmts (dropped_at 10 putchar_call)
    (more_stmts (stmt (at_line 11) [] (returns (Some (number_at 11 (pos 0))))) no_stmts))

abbrev pub main_type : CTy
main_type = ty (function int_type (listed no_types) false) false

abbrev pub main_function : CFun
main_function = record {
  function = 2;
  name = codes "main";
  unit = 0;
  linkage = External;
  type = main_type;
  params = [];
  body = stmt (at_line 8) [] (block main_stmts);
}

abbrev pub putchar_type : CTy
putchar_type = ty (function int_type (listed (more_types int_type no_types)) false) false

abbrev pub putchar_outer : COuter
putchar_outer = record { function = 0; name = codes "putchar"; linkage = External; type = putchar_type }

abbrev pub example_order : CDeclaredOrder
example_order = record { things = a_function 0 ∷ an_object 0 ∷ a_function 1 ∷ a_function 2 ∷ []; completed = 0 ∷ [] }

abbrev pub example : CProgram
example = record {
  types = s_types;
  objects = x_object ∷ p_object ∷ i_object ∷ [];
  functions = sum_function ∷ main_function ∷ [];
  externals = putchar_outer ∷ [];
  orders = example_order ∷ [];
}
