use Rattle.std.proofs.Common.{◌∙◌, ◌&&◌, sym, ap, not}
use Rattle.cx_core.specs.Views.{view_type}
use Rattle.cx_kinds.specs.Known.{types_in}
use Rattle.cx_operands.proofs.Values.{second_of, type_of_view}
use Rattle.cx_rules.specs.Types.{is_array, is_complete}
use Rattle.cx_operands.proofs.nulls.holds_nothing.Goals as goal

-- src/nulls.rt:101:1
pub returns : goal.returns
returns c =
    (c.is_incomplete_object.ensures ∙ ap (λ e. not (is_array (view_type e.ty)) && not (is_complete (types_in c.args.known) (view_type e.ty))) c.get.ensures)
    ∙ (ap (λ t. not (is_array t) && not (is_complete (types_in c.args.known) t)) (sym (type_of_view c.args.operand.now.core))
    ∙ second_of _ _ (sym c.is_place.ensures ∙ c.if-not-is_place.false))
