-- The numbers that things of a unit take in the program, as they are kept.
use Rattle.std.specs.Prelude.{ℕ, ◌+◌, List, slice_get, unwrap_or}
use Rattle.cx_core.specs.Trees.{CTy, CExpr, expr, CStmt, stmt}
use Rattle.cx_renumber.specs.Numbers.{CCounts, CNumbers}
use Rattle.cx_renumber.specs.declared.numbers.Counts.{Counts}
use Rattle.cx_renumber.specs.declared.numbers.Numbers.{Numbers}

abbrev pub view_counts : Counts → CCounts
view_counts one = record { records = one.records; enums = one.enums; objects = one.objects; functions = one.functions }

-- what a table holds for a number; past its end, the number behind all of the units before
abbrev pub number_in : List ℕ → ℕ → ℕ → ℕ
number_in table before number = unwrap_or (slice_get table number) (before + number)

abbrev pub view_numbers : Numbers → CNumbers
view_numbers one = record {
  before = view_counts one.before;
  object_for = number_in one.objects one.before.objects;
  function_for = number_in one.functions one.before.functions;
}

-- an expression with another type, and a statement that holds other objects
abbrev pub retyped : CTy → CExpr → CExpr
retyped type (expr before place form) = expr type place form

abbrev pub holding : List ℕ → CStmt → CStmt
holding objects (stmt place before form) = stmt place objects form
