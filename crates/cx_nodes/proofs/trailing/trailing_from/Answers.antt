use Rattle.std.proofs.Common.{◌∙◌, ap, sym, map, drop}
use Rattle.std.proofs.lemmas.List.{length-map}
use Rattle.std.proofs.Math.ListN.{drop_of_length-le}
use Rattle.cx_core.specs.Views.{view_type, view_types}
use Rattle.cx_nodes.proofs.Arguments.{promoted_types, trailing_by_count, nothing_behind}
use Rattle.cx_operands.specs.Views.{view_operand}
use Rattle.cx_nodes.proofs.trailing.trailing_from.Goals as goal

pub returns : goal.returns
returns c =
    let types = view_types c.args.types.now in
    let args = c.args.args.now in
    nothing_behind (map view_type c.loop-index.made) _ _ (ap (promoted_types view_operand types) (drop_of_length-le args c.loop-index-test.false)) c.loop-index.invariant
    ∙ (ap (λ n. promoted_types view_operand types (drop n args)) (sym (length-map c.args.params.now view_type))
    ∙ sym (trailing_by_count view_operand types (map view_type c.args.params.now) args))
