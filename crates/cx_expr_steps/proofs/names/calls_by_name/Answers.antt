use Rattle.std.proofs.Common.{◌≡◌, ap, sym, ◌∙◌, ◌&&◌, true, false}
use Rattle.cx_operands.specs.Views.{view_operand}
use Rattle.cx_rules.specs.Pieces.{is_name}
use Rattle.cx_expr_steps.proofs.Named.{by_name}
use Rattle.cx_expr_steps.specs.Designators.{designates}
use Rattle.cx_tree.specs.Views.{expr_view}
use Rattle.cx_expr_steps.proofs.names.calls_by_name.Goals as goal

pub returns-then-is_name : goal.returns-then-is_name
returns-then-is_name c =
    let named : is_name (expr_view c.args.of.now) ≡ true = sym c.is_name.ensures ∙ c.if-is_name.true in
    c.designates.ensures
    ∙ (ap (λ found. found && designates c.args.callee.now.kind) (sym named) ∙ by_name (expr_view c.args.of.now) (view_operand c.args.callee.now))

pub returns-else-is_name : goal.returns-else-is_name
returns-else-is_name c =
    let named : is_name (expr_view c.args.of.now) ≡ false = sym c.is_name.ensures ∙ c.if-is_name.false in
    c.if-is_name.false
    ∙ (ap (λ found. found && designates c.args.callee.now.kind) (sym named) ∙ by_name (expr_view c.args.of.now) (view_operand c.args.callee.now))
