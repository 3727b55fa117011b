-- Function designators by their kind.
use Rattle.std.proofs.Common.{◌≡◌, refl, ap, Bool, ◌&&◌}
use Rattle.cx_core.specs.Trees.{CExpr}
use Rattle.cx_rules.specs.declared.kinds.OperandKind.{OperandKind}
use Rattle.cx_rules.specs.declared.kinds.OperandKind.TheVariants.{Value, Place, Function, VoidPlace}
use Rattle.cx_rules.specs.Operands.{COperand, is_designator}
use Rattle.cx_rules.specs.Pieces.{calls_by_name, is_name}
use Rattle.cx_expr_steps.specs.Designators.{designates}
use Rattle.cx_tree.specs.Trees.{ExprTree}

designator_is : (kind : OperandKind) (is_register : Bool) (core : CExpr) → designates kind ≡ is_designator (record { kind = kind; is_register = is_register; core = core })
designator_is Value is_register core = refl
designator_is Place is_register core = refl
designator_is Function is_register core = refl
designator_is VoidPlace is_register core = refl

pub by_name : (of : ExprTree) (callee : COperand) → (is_name of && designates callee.kind) ≡ calls_by_name of callee
by_name of callee = ap (λ found. is_name of && found) (designator_is callee.kind callee.is_register callee.core)
