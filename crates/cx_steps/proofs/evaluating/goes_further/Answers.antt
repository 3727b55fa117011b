use Rattle.cx_moves.specs.Sites.{view_purpose, view_site}
use Rattle.cx_steps.proofs.Going.{further}
use Rattle.cx_steps.proofs.evaluating.goes_further.Goals as goal

pub returns-in-Ok-clause-steps : goal.returns-in-Ok-clause-steps
returns-in-Ok-clause-steps g c =
    further c.args.machine.now c.goes_on.new.machine (view_purpose (view_site c.args.machine.now.site) c.args.purpose) (g.S.Store.memory c.args.store.now) (g.S.Store.memory c.goes_on.new.store) _ _
    c.in-Ok.ensures.limit c.requires c.in-Ok.ensures.next
