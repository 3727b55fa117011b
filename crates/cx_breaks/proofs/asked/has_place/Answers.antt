use Rattle.std.proofs.Common.{◌∙◌, ◌&&◌, ◌||◌, ap, not, is_some}
use Rattle.cx_breaks.specs.Asked.{has_place}
use Rattle.cx_operands.specs.Views.{view_operand}
use Rattle.cx_rules.specs.Operands.{is_designator, is_void_place, is_place}
use Rattle.cx_breaks.proofs.asked.has_place.Goals as goal

pub returns : goal.returns
unfolding has_place
returns c =
    let of = view_operand c.args.of.now in
    c.is_addressed.ensures ∙ ap (λ width. is_designator of || (is_void_place of || (is_place of && not (of.is_register || is_some width)))) c.width_of.ensures
