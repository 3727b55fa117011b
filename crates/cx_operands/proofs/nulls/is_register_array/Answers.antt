use Rattle.std.proofs.Common.{◌∙◌, sym, ap}
use Rattle.cx_core.specs.Views.{view_type}
use Rattle.cx_operands.proofs.Values.{second_of, type_of_view}
use Rattle.cx_rules.specs.Types.{is_array}
use Rattle.cx_operands.proofs.nulls.is_register_array.Goals as goal

-- src/nulls.rt:119:1
pub returns-then-operand : goal.returns-then-operand
returns-then-operand c =
    c.is_array.ensures ∙ (ap (λ e. is_array (view_type e.ty)) c.get.ensures
    ∙ (ap is_array (sym (type_of_view c.args.operand.now.core))
    ∙ (second_of _ _ c.if-operand.true ∙ second_of _ _ (sym c.is_place.ensures ∙ c.if-not-is_place.false))))
