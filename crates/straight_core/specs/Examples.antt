-- A worked example of a typed program.
use Rattle.std.specs.Prelude.{ℕ, ℤ, pos, false, [], ◌∷◌, Some, codes}
use Rattle.cr_base.specs.declared.refusal.Place.{Place}
use Rattle.straight_core.specs.declared.expr.Op2.{Op2}
use Rattle.straight_core.specs.declared.expr.Op2.TheVariants.{Add, Subtract}
use Rattle.straight_core.specs.declared.program.Linkage.TheVariants.{External}
use Rattle.straight_core.specs.Trees.{CTy, ty, void, int, function, listed, no_types, more_types, CExpr, expr, whole, object, load, convert, binary, assign, call, no_exprs, more_exprs, stmt, block, expression, returns, CStmts, no_stmts, more_stmts, put, CTypes, CObject, CFun, COuter, CProgram}

abbrev pub int_type : CTy
int_type = ty int false

abbrev pub at_line : ℕ → Place
at_line line = record { unit = 0; line = line }

-- nodes at a line: a constant, the value of the object 0, `+` and `-`, `x = value`, `putchar(value)`
abbrev pub number_at : ℕ → ℤ → CExpr
number_at line value = expr int_type (at_line line) (whole value)

abbrev pub name_at : ℕ → CExpr
name_at line = expr int_type (at_line line) (object 0)

abbrev pub read_at : ℕ → CExpr
read_at line = expr int_type (at_line line) (load (name_at line))

abbrev pub two_at : ℕ → Op2 → CExpr → CExpr → CExpr
two_at line op left right = expr int_type (at_line line) (binary op left right)

abbrev pub set_at : ℕ → CExpr → CExpr
set_at line value = expr int_type (at_line line) (assign (name_at line) value)

abbrev pub putchar_at : ℕ → CExpr → CExpr
putchar_at line value = expr int_type (at_line line) (call 1 (more_exprs value no_exprs))

-- the program of one unit:
--
--     int putchar(int);
--     int x = 60;
--     int main(void) {
--         x = x + putchar(x + 5);
--         return x - 125;
--     }
abbrev pub putchar_outer : COuter
putchar_outer = record {
  function = 1;
  name = codes "putchar";
  type = ty (function int_type (listed (more_types int_type no_types)) false) false;
}

abbrev pub x_object : CObject
x_object = record {
  object = 0;
  unit = 0;
  name = Some (codes "x");
  is_text = false;
  type = int_type;
  linkage = External;
  puts = Some (put (record { byte = 0; bit = 0; width = 0 }) int_type (number_at 2 (pos 60)) ∷ []);
}

abbrev pub body_stmts : CStmts
body_stmts =
    more_stmts (stmt (at_line 4) [] (expression (expr (ty void false) (at_line 4) (convert
    (set_at 4 (two_at 4 Add (read_at 4) (putchar_at 4 (two_at 4 Add (read_at 4) (number_at 4 (pos 5))))))))))
    (more_stmts (stmt (at_line 5) [] (returns (Some (two_at 5 Subtract (read_at 5) (number_at 5 (pos 125))))))
    no_stmts)

abbrev pub main_function : CFun
main_function = record {
  function = 0;
  name = codes "main";
  unit = 0;
  linkage = External;
  type = ty (function int_type (listed no_types) false) false;
  params = [];
  body = stmt (at_line 3) [] (block body_stmts);
}

abbrev pub no_record_types : CTypes
no_record_types = record { records = []; enums = []; record_units = []; enum_units = [] }

abbrev pub adds_answer : CProgram
adds_answer = record {
  types = no_record_types;
  objects = x_object ∷ [];
  functions = main_function ∷ [];
  externals = putchar_outer ∷ [];
}
