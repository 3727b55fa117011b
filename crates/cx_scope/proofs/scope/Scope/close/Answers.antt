use Rattle.std.proofs.Common.{refl, drop}
use Rattle.cx_scope.proofs.Newest.{down_to_oldest, behind_oldest, reversed_map}
use Rattle.cx_scope.specs.Views.{view_scope, view_declared}
use Rattle.cx_scope.proofs.scope.Scope.close.Goals as goal

pub returns-clause-own : goal.returns-clause-own
unfolding view_scope
returns-clause-own c =
    rw (c.in_ok-newest.ensures.taken, behind_oldest view_declared c.args.count c.args.self.now.declared) (reversed_map view_declared (drop c.args.count c.args.self.now.declared))

pub returns-clause-left : goal.returns-clause-left
unfolding view_scope
returns-clause-left c = rw (c.in_ok-newest.ensures.left, down_to_oldest view_declared c.args.count c.args.self.now.declared) refl
