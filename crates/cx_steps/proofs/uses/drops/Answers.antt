use Rattle.cx_steps.proofs.Going.{dropped}
use Rattle.cx_steps.proofs.uses.drops.Goals as goal

pub returns-in-Ok-clause-steps : goal.returns-in-Ok-clause-steps
returns-in-Ok-clause-steps g c =
    dropped c.args.turns c.args.machine.now c.goes_on.new.machine (g.S.Store.memory c.args.store.now) (g.S.Store.memory c.goes_on.new.store) _ _ c.in-Ok.ensures.limit c.in-Ok.ensures.next
