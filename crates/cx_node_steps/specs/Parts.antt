-- Scalars among the cells of a value.
use Rattle.std.specs.Prelude.{ℕ, List, Result, Ok, Err}
use Rattle.cr_base.specs.declared.scalar.Scalar.{Scalar}
use Rattle.cx_core.specs.declared.expr.Op1.{Op1}
use Rattle.cx_core.specs.declared.expr.Op2.{Op2}
use Rattle.cx_core.specs.Trees.{CTy, CForm, deref, member, address, convert, unary, type_of}
use Rattle.cx_mean.specs.Nodes.{value_part, deref_value, member_value, address_value, typed_value}
use Rattle.cx_mean.specs.Operands.{CWhy, stuck, accessed, CValue, scalar, COperand, Frame, scalar_value}
use Rattle.cx_mean.specs.Settings.{CSetting}
use Rattle.cx_mean.specs.Values.{unary_value, binary_value, converted_value}
use Rattle.mem_bytes.specs.Access.{and_then}
use Rattle.mem_bytes.specs.Coding.{scalar_size, value_of}
use Rattle.mem_bytes.specs.declared.cell.Cell.{Cell}
use Rattle.mem_bytes.specs.declared.value.Value.{Value}
use Rattle.mem_bytes.specs.Memory.{Blocks}

abbrev pub scalar_part : ℕ → List Cell → Scalar → Result Value CWhy
scalar_part byte held kind = and_then (value_part held byte (scalar_size kind)) (λ part. accessed (value_of kind part))

-- an operator with one operand
abbrev pub unary_operated : CSetting → Op1 → CTy → Blocks → CValue → Result Value CWhy
unary_operated setting op type blocks value = and_then (scalar_value value) (unary_value setting op type blocks)

-- what a node gives that leaves memory, and the accesses of its operand, as they are
abbrev pub unary_given : CSetting → CTy → CForm → Frame → Blocks → CValue → Result CValue CWhy
unary_given setting type (deref from) frame blocks value = deref_value value
unary_given setting type (member of spot) frame blocks value = member_value setting frame blocks type (type_of of) spot value
unary_given setting type (address of) frame blocks value = address_value frame value
unary_given setting type (convert from) frame blocks value = converted_value setting type blocks value
unary_given setting type (unary op from) frame blocks value = and_then (unary_operated setting op type blocks value) (λ new. Ok (scalar new))
unary_given setting type form frame blocks value = Err stuck

-- an operator with two operands
abbrev pub operated : CSetting → Op2 → CTy → Blocks → COperand → COperand → Result CValue CWhy
operated setting op type blocks one other =
    and_then (typed_value one) (λ first.
    and_then (typed_value other) (λ second.
    and_then (binary_value setting op type blocks first second) (λ new. Ok (scalar new))))
