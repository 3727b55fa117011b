-- What operands and types of values stand for.
use Rattle.std.specs.Prelude.{false}
use Rattle.cx_core.specs.Trees.{CTy, ty, pointer, array, unqualified}
use Rattle.cx_core.specs.Views.{view_type, view_expr}
use Rattle.cx_operands.specs.declared.operand.Operand.{Operand}
use Rattle.cx_operands.specs.declared.value_ty.ValueTy.{ValueTy}
use Rattle.cx_operands.specs.declared.value_ty.ValueTy.TheVariants.{Plain, Unqualified, PointerTo, Void}
use Rattle.cx_rules.specs.Operands.{COperand}
use Rattle.cx_rules.specs.Types.{void_type}

abbrev pub view_operand : Operand → COperand
view_operand operand = record { kind = operand.kind; is_register = operand.is_register; core = view_expr operand.core }

abbrev pub view_value_type : ValueTy → CTy
view_value_type (Plain type) = view_type type.now
view_value_type (Unqualified type) = unqualified (view_type type.now)
view_value_type (PointerTo element) = ty (pointer (view_type element.now)) false
view_value_type Void = void_type

-- the type of the value of an lvalue of a type
abbrev pub place_value_type : CTy → CTy
place_value_type (ty (array element length) is_const) = ty (pointer element) false
place_value_type type = unqualified type
