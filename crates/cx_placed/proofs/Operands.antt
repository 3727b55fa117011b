-- The values of an operand, and what it is converted to, stand where the operand does (ISO C99, 6.3).
use Rattle.std.proofs.Common.{ℕ, ◌&&◌, List, Option, None, Some}
use Rattle.std.specs.Prelude.{IfSome}
use Rattle.cx_core.specs.Trees.{CTy, ty, void, basic, enum_type, pointer, array, record_type, function, CTypes, CExpr, expr, null, convert, unqualified, type_of, place_of}
use Rattle.cx_placed.proofs.Lists.{Each, by_test}
use Rattle.cx_placed.specs.Places.{ExprStandsIn}
use Rattle.cx_rules.specs.declared.kinds.OperandKind.{OperandKind}
use Rattle.cx_rules.specs.declared.kinds.OperandKind.TheVariants.{Value, Place, Function, VoidPlace}
use Rattle.cx_rules.specs.Operands.{COperand, value_of_place, nothing_of, value_by, value_of, is_null_constant, converted_to, fitted, promoted_type, promoted_value, dropped}
use Rattle.cx_rules.specs.Types.{is_pointer, is_void, same_type, void_type}
use Rattle.cx_rules.specs.UnitWalk.{option_value}

abbrev pub OperandStands : (ℕ → Type 0) → COperand → Type 0
OperandStands Among operand = ExprStandsIn Among operand.core

abbrev pub OperandsStand : (ℕ → Type 0) → List COperand → Type 0
OperandsStand Among operands = Each (OperandStands Among) operands

abbrev pub IfOperandStands : (ℕ → Type 0) → Option COperand → Type 0
IfOperandStands Among operand = IfSome operand (OperandStands Among)

abbrev pub IfExprStands : (ℕ → Type 0) → Option CExpr → Type 0
IfExprStands Among value = IfSome value (ExprStandsIn Among)

module _ (Among : ℕ → Type 0) where
  pub place_stands : (one : CExpr) → ExprStandsIn Among one → Among (place_of one).unit
  place_stands (expr type place form) held = held.0

  of_place_stands : (one : CExpr) → ExprStandsIn Among one → ExprStandsIn Among (value_of_place one)
  of_place_stands (expr (ty void is_const) place form) held = (held.0, held)
  of_place_stands (expr (ty (basic which) is_const) place form) held = (held.0, held)
  of_place_stands (expr (ty (enum_type number) is_const) place form) held = (held.0, held)
  of_place_stands (expr (ty (pointer to) is_const) place form) held = (held.0, held)
  of_place_stands (expr (ty (array element length) is_const) place form) held = (held.0, held)
  of_place_stands (expr (ty (record_type number) is_const) place form) held = (held.0, held)
  of_place_stands (expr (ty (function result params variadic) is_const) place form) held = (held.0, held)

  nothing_stands : (one : CExpr) → ExprStandsIn Among one → ExprStandsIn Among (nothing_of one)
  nothing_stands (expr type place form) held = (held.0, held)

  by_kind : (kind : OperandKind) (one : CExpr) → ExprStandsIn Among one → ExprStandsIn Among (value_by kind one)
  by_kind Value one held = held
  by_kind Place one held = of_place_stands one held
  by_kind Function one held = held
  by_kind VoidPlace one held = nothing_stands one held

  pub value_stands : (one : COperand) → OperandStands Among one → ExprStandsIn Among (value_of one)
  value_stands one held = by_kind one.kind one.core held

  pub option_stands : (one : Option COperand) → IfOperandStands Among one → IfExprStands Among (option_value one)
  option_stands None held = tt
  option_stands (Some one) held = value_stands one held

  pub converted_stands : (type : CTy) (one : CExpr) → ExprStandsIn Among one → ExprStandsIn Among (converted_to type one)
  converted_stands type one held =
      by_test (ExprStandsIn Among) (same_type (type_of one) type) one (expr type (place_of one) (convert one)) held (place_stands one held, held)

  pub fitted_stands : (types : CTypes) (type : CTy) (one : CExpr) → ExprStandsIn Among one → ExprStandsIn Among (fitted types type one)
  fitted_stands types type one held =
      by_test (ExprStandsIn Among) (is_pointer type && is_null_constant types one) (expr (unqualified type) (place_of one) null) (converted_to (unqualified type) one)
      (place_stands one held, tt) (converted_stands (unqualified type) one held)

  pub promoted_stands : (types : CTypes) (one : COperand) → OperandStands Among one → ExprStandsIn Among (promoted_value types one)
  promoted_stands types one held = converted_stands (promoted_type types one) (value_of one) (value_stands one held)

  pub dropped_stands : (one : CExpr) → ExprStandsIn Among one → ExprStandsIn Among (dropped one)
  dropped_stands one held =
      by_test (ExprStandsIn Among) (is_void (type_of one)) one (expr void_type (place_of one) (convert one)) held (place_stands one held, held)
