-- Calls, and the accesses before them.
use Rattle.std.specs.Prelude.{◌≡◌, ℕ, List, [], ◌∷◌, Option, Some, None, Result}
use Rattle.cr_base.specs.declared.refusal.Place.{Place}
use Rattle.cx_core.specs.Trees.{CTy, CProgram}
use Rattle.cx_mean.specs.Calls.{CCallee, CCalling, callee_by, callee_numbered, called_by, called_with}
use Rattle.cx_mean.specs.Operands.{CWhy, COperand, scalar_value, united_operands}
use Rattle.cx_mean.specs.Settings.{CSetting}
use Rattle.cx_node_steps.specs.declared.calls.Calling.{Calling}
use Rattle.cx_node_steps.specs.declared.pointed.Front.{Front}
use Rattle.mem_bytes.specs.Access.{and_then}
use Rattle.cx_mean.specs.Marks.{Marks, at_sequence_point}
use Rattle.cx_work.specs.declared.operand.Called.{Called}
use Rattle.cx_work.specs.declared.operand.Operand.{Operand}
use Rattle.cx_work.specs.Views.{view_called}

abbrev pub view_calling : Marks → Called → CCalling
view_calling marks one = record { called = view_called one; marks = at_sequence_point marks }

abbrev pub view_called_before : Calling → CCalling
view_called_before one = record { called = view_called one.called; marks = one.marks }

-- a call of a function by its name
abbrev pub named_calling : CProgram → CTy → Place → ℕ → List COperand → Result CCalling CWhy
named_calling program type place number operands =
    and_then (united_operands operands) (λ marks. and_then (callee_numbered program number) (called_with type place marks operands))

-- the function that an operand points to
abbrev pub callee_of : CSetting → COperand → Result CCallee CWhy
callee_of setting one = and_then (scalar_value one.value) (callee_by setting one.type)

-- a call of the function that the first operand points to
abbrev pub pointer_calling : CSetting → CTy → Place → List COperand → Result CCalling CWhy
pointer_calling setting type place operands =
    and_then (united_operands operands) (λ marks. called_by setting type place marks operands)

-- the first of some operands and the others; none where there is no operand
abbrev pub IsFirst : Option Front → List Operand → Type 0
IsFirst (Some front) operands = operands ≡ front.pointer ∷ front.args
IsFirst None operands = operands ≡ []
