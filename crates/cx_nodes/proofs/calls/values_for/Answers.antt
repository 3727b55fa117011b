use Rattle.std.proofs.Common.{◌∙◌, [], ◌∷◌, ap, sym, map}
use Rattle.std.proofs.lemmas.List.{length-map, map-append}
use Rattle.cx_core.specs.Views.{view_expr, view_type, view_types}
use Rattle.cx_nodes.proofs.Arguments.{next_value}
use Rattle.cx_nodes.specs.Calls.{arg_for, values_for}
use Rattle.cx_operands.specs.Views.{view_operand}
use Rattle.cx_nodes.proofs.calls.values_for.Goals as goal

pub loop-arg-preserved : goal.loop-arg-preserved
loop-arg-preserved c =
    let types = view_types c.args.types.now in
    let params = map view_type c.args.params.now in
    ap (map view_expr) c.in_ok-push.ensures.ok
    ∙ (map-append view_expr c.loop-arg.made (c.into_inner.result ∷ [])
    ∙ (next_value types params (map view_operand c.loop-arg.yielded) (map view_expr c.loop-arg.made) (view_expr c.into_inner.result) (view_operand c.in-Some.arg) c.len.result
    c.loop-arg.invariant (c.len.ensures ∙ sym (length-map c.loop-arg.made view_expr))
    (ap view_expr c.into_inner.ensures ∙ (c.in_ok-value.ensures ∙ ap (λ p. arg_for types p (view_operand c.in-Some.arg)) c.param_at.ensures))
    ∙ ap (values_for types params) (sym (map-append view_operand c.loop-arg.yielded (c.in-Some.arg ∷ [])))))
