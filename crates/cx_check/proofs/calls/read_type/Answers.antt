use Rattle.std.proofs.Common.{sym, subst, [], map}
use Rattle.cx_check.proofs.Told.{told, type_stops}
use Rattle.cx_check.specs.Tells.{seen_type}
use Rattle.cx_context.specs.Checks.{Checks}
use Rattle.cx_context.specs.Views.{scope_of}
use Rattle.cx_core.specs.Views.{view_type}
use Rattle.cx_rules.specs.Units.{check_type_name}
use Rattle.cx_scope.specs.Views.{view_scope}
use Rattle.cx_tree.specs.Trees.{TypeName}
use Rattle.cx_tree.specs.Views.{declarator_view, spec_view, specs as spec_trees}
use Rattle.cx_check.proofs.calls.read_type.Goals as goal

pub returns-clause-tells : goal.returns-clause-tells
returns-clause-tells c =
    told view_type c.type_in-found.result (view_scope c.put_back.new.scope)
    (seen_type (spec_trees (map spec_view c.args.list.now)) (declarator_view c.args.one.now) (view_scope c.args.scope.now))
    (check_type_name (TypeName (spec_trees (map spec_view c.args.list.now)) (declarator_view c.args.one.now) []) (view_scope c.args.scope.now))
    (type_stops c.type_names_stop.ensures (spec_trees (map spec_view c.args.list.now)) (declarator_view c.args.one.now) (view_scope c.args.scope.now))
    (subst (λ after. Checks view_type c.type_in-found.result after (check_type_name (TypeName (spec_trees (map spec_view c.args.list.now)) (declarator_view c.args.one.now) []) (view_scope c.args.scope.now))) (sym c.put_back.ensures.scope)
    (subst (λ before. Checks view_type c.type_in-found.result (scope_of c.type_in-found.new.context) (check_type_name (TypeName (spec_trees (map spec_view c.args.list.now)) (declarator_view c.args.one.now) []) before)) c.take-context.ensures c.type_in-found.ensures))
