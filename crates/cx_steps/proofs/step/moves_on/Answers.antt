use Rattle.cx_access.specs.Views.{view_setting}
use Rattle.cx_moves.specs.Sites.{view_move}
use Rattle.cx_steps.proofs.Going.{moves_by}
use Rattle.cx_steps.proofs.step.moves_on.Goals as goal

pub returns-in-Ok-clause-steps : goal.returns-in-Ok-clause-steps
returns-in-Ok-clause-steps g c =
    moves_by (view_setting c.args.setting.now) (view_move c.args.machine.now.site c.args.one) c.args.machine.now c.moves_inside.new.machine (g.S.Store.memory c.args.store.now) (g.S.Store.memory c.moves_inside.new.store) _ _
    c.in-Ok.ensures.limit c.in-Ok.ensures.next
