use Rattle.std.proofs.Common.{refl}
use Rattle.cx_scope.proofs.Newest.{down_to_oldest}
use Rattle.cx_scope.specs.Views.{view_scope, view_declared}
use Rattle.cx_scope.proofs.scope.Scope.leave.Goals as goal

pub returns : goal.returns
unfolding view_scope
returns c = rw c.shorten.ensures (rw (down_to_oldest view_declared c.args.count c.args.self.now.declared) refl)
