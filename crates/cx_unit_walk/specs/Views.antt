-- What statements behind their clauses stand for.
use Rattle.std.specs.Prelude.{map, option_map}
use Rattle.cx_core.specs.Views.{view_expr, view_stmt, view_type}
use Rattle.cx_unit_walk.specs.declared.clauses.Within.{Within}
use Rattle.cx_unit_walk.specs.Kept.{CTestedKept, CForKept, CWithinKept}
use Rattle.cx_operands.specs.Views.{view_operand}
use Rattle.cx_stmt_steps.specs.declared.ends.ForBegun.{ForBegun}
use Rattle.cx_stmt_steps.specs.declared.ends.Tested.{Tested}

abbrev pub view_tested : Tested → CTestedKept
view_tested one = record { count = one.marks.count; begins = one.marks.begins; test = view_operand one.test; literals = one.literals }

abbrev pub view_for : ForBegun → CForKept
view_for one = record {
  count = one.marks.count;
  begins = one.marks.begins;
  first = record { stmts = map view_stmt one.first; objects = one.objects };
  test = option_map view_operand one.test;
  next = option_map view_expr one.next;
  literals = one.literals;
}

abbrev pub view_within : Within → CWithinKept
view_within one = record { type = view_type one.ty; values = one.around.values; has_default = one.around.has_default }
