use Rattle.cx_access.specs.Views.{view_setting}
use Rattle.cx_steps.proofs.Going.{puts_by}
use Rattle.cx_work.specs.Views.{view_finished}
use Rattle.cx_steps.proofs.uses.puts.Goals as goal

pub returns-in-Ok-goes_on_putting-clause-steps : goal.returns-in-Ok-goes_on_putting-clause-steps
returns-in-Ok-goes_on_putting-clause-steps g c =
    puts_by (view_setting c.args.setting.now) c.args.machine.now c.goes_on_putting.new.machine c.args.one (view_finished c.args.value)
    (g.S.Store.memory c.args.store.now) (g.S.Store.memory c.stores.new.store) (g.S.Store.memory c.goes_on_putting.new.store) _ _ _
    c.in-Ok.ensures.limit c.in-Ok-goes_on_putting.ensures.limit c.in-Ok.ensures.stored c.in-Ok-goes_on_putting.ensures.next
