use Rattle.std.proofs.Common.{refl}
use Rattle.std.proofs.lemmas.List.{take-map}
use Rattle.cx_core.specs.Views.{view_mention}
use Rattle.cx_scope.specs.Views.{view_scope, view_made}
use Rattle.cx_scope.proofs.scope.Scope.cut_back.Goals as goal

pub returns : goal.returns
unfolding view_scope
returns c =
    rw (c.shorten.ensures, c.truncate.ensures.items)
    (rw (← take-map view_made c.args.literals c.args.self.now.literals, ← take-map view_mention c.args.mentions c.args.self.now.mentions.items) refl)
