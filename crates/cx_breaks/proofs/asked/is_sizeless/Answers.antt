use Rattle.std.proofs.Common.{◌∙◌, ◌||◌, Bool, sym, ap, not, is_some}
use Rattle.cx_breaks.proofs.Opened.{type_of_view}
use Rattle.cx_breaks.specs.Asked.{is_sizeless}
use Rattle.cx_core.specs.Trees.{CTy}
use Rattle.cx_core.specs.Views.{view_type}
use Rattle.cx_kinds.specs.Known.{types_in}
use Rattle.cx_operands.specs.Views.{view_operand}
use Rattle.cx_rules.specs.Operands.{is_designator, is_void_place, width_of_operand}
use Rattle.cx_rules.specs.Types.{is_complete}
use Rattle.cx_breaks.proofs.asked.is_sizeless.Goals as goal

pub returns : goal.returns
unfolding is_sizeless
returns c =
    let of = view_operand c.args.of.now in
    let lacks : CTy → Bool = λ t. is_designator of || (is_void_place of || (is_some (width_of_operand of) || not (is_complete (types_in c.args.known) t))) in
    c.has_no_bytes.ensures
    ∙ (ap (λ width. is_designator of || (is_void_place of || (is_some width || not (is_complete (types_in c.args.known) (view_type c.get.result.now.ty))))) c.width_of.ensures
    ∙ (ap (λ e. lacks (view_type e.ty)) c.get.ensures ∙ ap lacks (sym (type_of_view c.args.of.now.core))))
