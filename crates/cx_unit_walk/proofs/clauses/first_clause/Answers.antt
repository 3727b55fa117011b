use Rattle.std.proofs.Common.{ap, sym, ◌∙◌, subst, Some}
use Rattle.cx_context.specs.Checks.{Checks}
use Rattle.cx_context.specs.Views.{scope_of}
use Rattle.cx_unit_walk.specs.Walks as walks
use Rattle.cx_decl_steps.specs.Views.{view_meant}
use Rattle.cx_tree.specs.declared.stmt.ForFirst.TheVariants as first
use Rattle.cx_tree.specs.Views.{expr_view, first_view}
use Rattle.cx_unit_walk.proofs.clauses.first_clause.Goals as goal

pub returns-in-Some : goal.returns-in-Some
returns-in-Some c =
    subst (λ walked. Checks view_meant c.first_value.result (scope_of c.first_value.new.context) walked)
    (ap (λ e. walks.value_walk (expr_view e) (scope_of c.args.context.now)) c.get.ensures
    ∙ sym (ap (λ one. walks.first_walk (first_view one) (scope_of c.args.context.now)) (c.in-Value.is ∙ ap first.Value c.in-Some.is)))
    c.first_value.ensures
