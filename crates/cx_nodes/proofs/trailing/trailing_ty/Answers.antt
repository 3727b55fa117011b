use Rattle.std.proofs.Common.{◌≡◌, ◌∙◌, sym, ap, subst, true, IfOk}
use Rattle.cx_core.specs.Trees.{CTy}
use Rattle.cx_core.specs.Views.{view_type, view_types}
use Rattle.cx_nodes.proofs.Promotions.{trailing_is}
use Rattle.cx_operands.specs.Views.{view_operand}
use Rattle.cx_rules.specs.Operands.{value_type}
use Rattle.cx_rules.specs.Types.{is_integer}
use Rattle.cx_nodes.proofs.trailing.trailing_ty.Goals as goal

pub returns-then-is_integer : goal.returns-then-is_integer
returns-then-is_integer c =
    let there : is_integer (view_types c.args.types.now) (value_type (view_operand c.args.arg.now)) ≡ true =
    ap (is_integer (view_types c.args.types.now)) (sym c.value_type-v.ensures) ∙ (sym c.is_integer.ensures ∙ c.if-is_integer.true) in
    subst (λ (t : CTy). IfOk c.promoted_ty.result (λ made. view_type made ≡ t))
    (sym (trailing_is (view_types c.args.types.now) (view_operand c.args.arg.now) there)) c.promoted_ty.ensures
