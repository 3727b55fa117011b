use Rattle.std.proofs.Common.{◌∙◌, ◌&&◌, Bool, sym, ap, not}
use Rattle.cx_breaks.proofs.Opened.{type_of_view}
use Rattle.cx_breaks.specs.Asked.{may_change}
use Rattle.cx_core.specs.Trees.{CTy}
use Rattle.cx_core.specs.ValidTypes.{holds_const}
use Rattle.cx_core.specs.Views.{view_type}
use Rattle.cx_kinds.specs.Known.{types_in}
use Rattle.cx_operands.specs.Views.{view_operand}
use Rattle.cx_rules.specs.Operands.{is_place}
use Rattle.cx_rules.specs.Types.{is_array, is_complete}
use Rattle.cx_breaks.proofs.asked.may_change.Goals as goal

pub returns : goal.returns
unfolding may_change
returns c =
    let types = types_in c.args.known in
    let changes : CTy → Bool = λ t. is_place (view_operand c.args.target.now) && (not (is_array t) && (is_complete types t && not (holds_const types t))) in
    c.is_changed.ensures ∙ (ap (λ e. changes (view_type e.ty)) c.get.ensures ∙ ap changes (sym (type_of_view c.args.target.now.core)))
