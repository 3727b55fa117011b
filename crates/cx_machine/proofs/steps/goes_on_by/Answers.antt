use Rattle.cx_moves.specs.Sites.{view_site}
use Rattle.cx_machine.proofs.Going.{ok_then, stands_by, goes_dropped, goes_turning}
use Rattle.cx_machine.proofs.steps.goes_on_by.Goals as goal

pub returns-in-Drops-clause-next : goal.returns-in-Drops-clause-next
returns-in-Drops-clause-next g c =
    rw c.in-Drops.is
    (ok_then c.goes_on_behind.result
    (stands_by c.args.machine.now c.goes_on_behind.new.machine _ _ (g.S.Store.memory c.goes_on_behind.new.store)
    (goes_dropped c.args.machine.now.work (view_site c.args.machine.now.site) (g.S.Store.memory c.args.store.now) (rw c.if-not-over.false at c.requires)))
    c.goes_on_behind.ensures.next)

pub returns-in-Turns-clause-next : goal.returns-in-Turns-clause-next
returns-in-Turns-clause-next g c =
    rw c.in-Turns.is
    (ok_then c.goes_on_turning.result
    (stands_by c.args.machine.now c.goes_on_turning.new.machine _ _ (g.S.Store.memory c.goes_on_turning.new.store)
    (goes_turning c.args.machine.now.work (view_site c.args.machine.now.site) (g.S.Store.memory c.args.store.now) (rw c.if-not-over.false at c.requires)))
    c.goes_on_turning.ensures.next)
