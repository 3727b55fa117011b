use Rattle.std.proofs.Common.{rules}
use Rattle.cx_scope.proofs.Newest.{down_to_oldest}
use Rattle.cx_scope.specs.Views.{view_scope, view_declared}
use Rattle.cx_scope.proofs.scope.Scope.back.Goals as goal

pub returns : goal.returns
unfolding view_scope
returns c = rw (c.shorten.ensures, c.min-self.ensures) (rw (down_to_oldest view_declared c.args.mark c.args.self.now.declared) (search rules))
