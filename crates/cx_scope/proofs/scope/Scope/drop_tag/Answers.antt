use Rattle.std.proofs.Common.{sym, ap}
use Rattle.cx_scope.proofs.Newest.{drop_one}
use Rattle.cx_scope.specs.Views.{view_scope, view_declared}
use Rattle.cx_scope.proofs.scope.Scope.drop_tag.Goals as goal

pub returns-in-Some : goal.returns-in-Some
unfolding view_scope
returns-in-Some c = rw (c.drop_newest.ensures, c.in-Some.is) (ap (λ declared. record (view_scope c.args.self.now) { declared = declared }) (sym (drop_one view_declared c.args.self.now.declared)))
