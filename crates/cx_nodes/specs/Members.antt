-- A member of an operand, by its type and its place there. Named by the contracts of parts alone.
use Rattle.std.specs.Prelude.{Bool, if◌then◌else◌}
use Rattle.cr_base.specs.declared.layout.Spot.{Spot}
use Rattle.cr_base.specs.declared.refusal.Place.{Place as TextPlace}
use Rattle.cx_core.specs.Trees.{CTy, CExpr, expr, member, unqualified, type_of, is_const_type}
use Rattle.cx_core.specs.ValidTypes.{with_const}
use Rattle.cx_rules.specs.Operands.{COperand, a_value, a_place}

abbrev pub member_of : TextPlace → (is_place is_register : Bool) → CExpr → CTy → Spot → COperand
member_of at is_place is_register of type spot =
    if is_place
    then a_place is_register (expr (with_const (is_const_type (type_of of)) type) at (member of spot))
    else a_value (expr (unqualified type) at (member of spot))
