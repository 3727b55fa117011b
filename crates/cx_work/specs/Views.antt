-- What the values of src/ stand for in the definitions.
use Rattle.std.specs.Prelude.{false, List, [], ◌∷◌, map}
use Rattle.cx_core.specs.declared.expr.CoreExpr.{CoreExpr}
use Rattle.cx_core.specs.Trees.{CTy, ty, basic, unqualified}
use Rattle.cx_core.specs.Views.{view_type, view_expr, view_put, view_puts, view_function, view_outer}
use Rattle.cx_mean.specs.Calls.{CCallee, defined, external, CCalled}
use Rattle.cx_mean.specs.Operands.{CValue, scalar, cells, names, designates, designates_bits, missing, COperand}
use Rattle.cx_mean.specs.Values.{CTyped}
use Rattle.cx_mean.specs.Work.{CUpdate, CStage, was_loaded, was_computed, was_converted, CWork, finished, needs, chooses, tests, updates, fills, waits, CWorks, no_works, more_works, begun, carried}
use Rattle.cx_work.specs.declared.operand.Called.{Called}
use Rattle.cx_work.specs.declared.operand.Callee.{Callee}
use Rattle.cx_work.specs.declared.operand.Callee.TheVariants as callee
use Rattle.cx_work.specs.declared.operand.Finished.{Finished}
use Rattle.cx_work.specs.declared.operand.Finished.TheVariants as held
use Rattle.cx_work.specs.declared.operand.Operand.{Operand}
use Rattle.cx_work.specs.declared.operand.OperandTy.{OperandTy}
use Rattle.cx_work.specs.declared.operand.OperandTy.TheVariants as kept
use Rattle.cx_work.specs.declared.operand.Typed.{Typed}
use Rattle.cx_work.specs.declared.work.Stage.{Stage}
use Rattle.cx_work.specs.declared.work.Stage.TheVariants as stage
use Rattle.cx_work.specs.declared.work.Update.{Update}
use Rattle.cx_work.specs.declared.work.Work.{Work}
use Rattle.cx_work.specs.declared.work.Work.TheFolds.{fold-Work}
use Rattle.cx_work.specs.declared.work.Work.TheOpen as o

-- ---- operands

abbrev pub view_operand_ty : OperandTy → CTy
view_operand_ty (kept.Of type) = view_type type.now
view_operand_ty (kept.Unqualified type) = unqualified (view_type type.now)
view_operand_ty (kept.Basic which) = ty (basic which) false

abbrev pub view_typed : Typed → CTyped
view_typed one = record { type = view_operand_ty one.ty; value = one.value }

abbrev pub view_finished : Finished → CValue
view_finished (held.Scalar value) = scalar value
view_finished (held.Cells part from) = cells part from
view_finished (held.Names number) = names number
view_finished (held.Designates to) = designates to
view_finished (held.Bits at bit width) = designates_bits at bit width
view_finished held.Missing = missing

abbrev pub view_operand : Operand → COperand
view_operand one = record { type = view_type one.ty.now; value = view_finished one.value; marks = one.marks }

-- ---- calls

abbrev pub view_callee : Callee → CCallee
view_callee (callee.Defined one) = defined (view_function one.now)
view_callee (callee.External one) = external (view_outer one.now)

abbrev pub view_called : Called → CCalled
view_called one = record {
  callee = view_callee one.callee;
  place = one.place;
  type = view_type one.ty.now;
  args = map view_operand one.args;
}

-- ---- trees: a chosen part that is finished isn't closed in src/, so its marks are seen with those of what went before

abbrev pub view_stage : Stage → CStage
view_stage stage.WasLoaded = was_loaded
view_stage (stage.WasComputed value) = was_computed value
view_stage (stage.WasConverted value) = was_converted value

abbrev pub view_update : Update → CUpdate
view_update one = record {
  op = one.op;
  computes = view_operand_ty one.computes;
  right = view_typed one.right;
  target_type = view_operand_ty one.target_ty;
  target = view_finished one.target;
  is_postfix = one.is_postfix;
  old = one.old;
}

abbrev pub works_of : List CWork → CWorks
works_of [] = no_works
works_of (first ∷ others) = more_works first (works_of others)

abbrev work_node : o.Work-F CWork → CWork
work_node (o.Finished operand) = finished (view_operand operand)
work_node (o.Needs node operands) = needs (view_expr node.now) (works_of operands)
work_node (o.Chooses node first) = chooses (view_expr node.now) first
work_node (o.Tests node marks second) = tests (view_expr node.now) marks second
work_node (o.Carries node marks part) = carried (view_expr node.now) marks part
work_node (o.Updates node update stage marks) = updates (view_expr node.now) (view_update update) (view_stage stage) marks
work_node (o.Fills node marks one others value) = fills (view_expr node.now) marks (view_put one.now) (view_puts others.now) value
work_node (o.Waits node marks) = waits (view_expr node.now) marks

abbrev pub view_work : Work → CWork
view_work = fold-Work CWork work_node

abbrev pub view_works : List Work → CWorks
view_works works = works_of (map view_work works)

-- an expression of which no step was taken
abbrev pub begun_of : CoreExpr → CWork
begun_of one = begun (view_expr one)
