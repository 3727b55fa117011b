use Rattle.std.proofs.Common.{ap, sym, ◌∙◌, true, false}
use Rattle.cx_core.specs.Views.{view_expr}
use Rattle.cx_init.proofs.Initials.{at_place, of_nothing}
use Rattle.cx_rules.specs.Initial.{is_initial}
use Rattle.cx_rules.specs.Operands.{value_by}
use Rattle.cx_rules.specs.Pieces.{is_static_object}
use Rattle.cx_scope.specs.Views.{view_scope}
use Rattle.cx_init.proofs.constants.is_initial_value.Goals as goal

pub returns-then-is_array : goal.returns-then-is_array
returns-then-is_array c = c.is_fixed.ensures
    ∙ at_place (view_scope c.args.scope.now).types (is_static_object (view_scope c.args.scope.now)) c.args.core.now true (sym c.if-is_array.true ∙ c.is_array.ensures)
    ∙ ap (λ kind. is_initial (view_scope c.args.scope.now).types (is_static_object (view_scope c.args.scope.now)) (value_by kind (view_expr c.args.core.now))) (sym c.in-Place.is)

pub returns-else-is_array : goal.returns-else-is_array
returns-else-is_array c = c.if-is_array.false
    ∙ at_place (view_scope c.args.scope.now).types (is_static_object (view_scope c.args.scope.now)) c.args.core.now false (sym c.if-is_array.false ∙ c.is_array.ensures)
    ∙ ap (λ kind. is_initial (view_scope c.args.scope.now).types (is_static_object (view_scope c.args.scope.now)) (value_by kind (view_expr c.args.core.now))) (sym c.in-Place.is)

pub returns-in-VoidPlace : goal.returns-in-VoidPlace
returns-in-VoidPlace c = sym (of_nothing (view_scope c.args.scope.now).types (is_static_object (view_scope c.args.scope.now)) (view_expr c.args.core.now))
    ∙ ap (λ kind. is_initial (view_scope c.args.scope.now).types (is_static_object (view_scope c.args.scope.now)) (value_by kind (view_expr c.args.core.now))) (sym c.in-VoidPlace.is)
