use Rattle.std.proofs.Common.{◌≡◌, OnOk, subst}
use Rattle.cx_entities.proofs.Again.{declared_is}
use Rattle.cx_entities.specs.Views.{view_declaring}
use Rattle.cx_scope.specs.Views.{view_meant, view_scope}
use Rattle.cx_entities.proofs.declaring.declare.Goals as goal

pub returns-clause-added : goal.returns-clause-added
returns-clause-added c =
    subst (λ scope. OnOk c.add_meant.result (view_scope c.add_meant.new.scope ≡ scope))
    (declared_is (view_declaring c.args.one) (view_scope c.args.scope.now) (view_scope c.declare_entity.new.scope) (view_scope c.tell.new.scope)
    c.object_number-object.result c.function_number-function.result (view_meant c.in_ok-meant.meant)
    c.object_number-object.ensures c.function_number-function.ensures c.in_ok-declare_entity.ensures.added c.in_ok-tell.ensures.added c.in_ok-meant.ensures)
    c.add_meant.ensures.added
