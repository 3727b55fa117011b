use Rattle.std.proofs.Common.{map, sym, subst}
use Rattle.cx_check.proofs.Told.{told}
use Rattle.cx_walk.specs.Objects.{declared_target}
use Rattle.cx_context.specs.Checks.{Checks}
use Rattle.cx_context.specs.Views.{scope_of}
use Rattle.cx_core.specs.Views.{view_type}
use Rattle.cx_init.specs.Views.{view_stored}
use Rattle.cx_rules.specs.Units.{check_initialiser, seen_initialiser}
use Rattle.cx_scope.specs.Views.{view_scope}
use Rattle.cx_tree.specs.Views.{initialiser_view}
use Rattle.cx_check.proofs.calls.stored_walked.Goals as goal

pub returns-clause-tells : goal.returns-clause-tells
returns-clause-tells c =
    told (map view_stored) c.stored_for-found.result (view_scope c.put_back.new.scope)
    (seen_initialiser (declared_target (view_scope c.args.scope.now).types c.args.fixed (view_type c.args.ty.now)) (initialiser_view c.args.init.now) (view_scope c.args.scope.now))
    (check_initialiser (declared_target (view_scope c.args.scope.now).types c.args.fixed (view_type c.args.ty.now)) (initialiser_view c.args.init.now) (view_scope c.args.scope.now))
    (c.initialisers_stop.ensures (declared_target (view_scope c.args.scope.now).types c.args.fixed (view_type c.args.ty.now)) (initialiser_view c.args.init.now) (view_scope c.args.scope.now))
    (subst (λ after. Checks (map view_stored) c.stored_for-found.result after (check_initialiser (declared_target (view_scope c.args.scope.now).types c.args.fixed (view_type c.args.ty.now)) (initialiser_view c.args.init.now) (view_scope c.args.scope.now))) (sym c.put_back.ensures.scope)
    (subst (λ before. Checks (map view_stored) c.stored_for-found.result (scope_of c.stored_for-found.new.context) (check_initialiser (declared_target before.types c.args.fixed (view_type c.args.ty.now)) (initialiser_view c.args.init.now) before)) c.take-context.ensures c.stored_for-found.ensures))
