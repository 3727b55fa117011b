use Rattle.std.proofs.Common.{refl}
use Rattle.std.proofs.lemmas.Option.{slice_get_read}
use Rattle.cx_scope.proofs.Calls.{called}
use Rattle.cx_scope.specs.Views.{view_scope}
use Rattle.cx_scope.proofs.scope.Scope.set_call.Goals as goal

pub returns-in-Some : goal.returns-in-Some
unfolding view_scope
returns-in-Some c =
    rw c.set_types.ensures (called (view_scope c.args.self.now) c.args.self.now.mentions.items c.args.index c.args.types c.in-Some.one.now refl
    (slice_get_read _ _ _ _ refl c.in-Some.ensures.item.3.0 c.in-Some.ensures.item.1))
