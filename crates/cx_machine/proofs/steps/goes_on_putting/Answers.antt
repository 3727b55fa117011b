use Rattle.std.proofs.Common.{refl}
use Rattle.cx_machine.proofs.Going.{ok_then, goes_there}
use Rattle.cx_machine.proofs.steps.goes_on_putting.Goals as goal

pub returns-in-Ok-clause-next : goal.returns-in-Ok-clause-next
returns-in-Ok-clause-next g c =
    ok_then c.go.result (λ at. goes_there c.args.machine.now _ c.go.new.machine _ _ (g.S.Store.memory c.putting.new.store) refl refl refl c.in-Ok.ensures.next at) c.go.ensures
