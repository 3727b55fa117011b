use Rattle.std.proofs.Common.{refl}
use Rattle.std.proofs.lemmas.List.{map-set}
use Rattle.cx_scope.specs.Views.{view_scope, view_made}
use Rattle.cx_scope.proofs.scope.Scope.set_made.Goals as goal

pub returns : goal.returns
unfolding view_scope
returns c = rw c.replace_at.ensures (rw (map-set view_made c.args.self.now.literals c.args.index c.args.made) refl)
