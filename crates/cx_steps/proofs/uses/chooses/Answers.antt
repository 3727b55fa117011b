use Rattle.cx_moves.specs.Sites.{view_move}
use Rattle.cx_steps.proofs.Going.{choice_by}
use Rattle.cx_work.specs.Views.{view_finished}
use Rattle.cx_steps.proofs.uses.chooses.Goals as goal

pub returns-in-Ok-go-clause-steps : goal.returns-in-Ok-go-clause-steps
returns-in-Ok-go-clause-steps g c =
    choice_by c.args.machine.now c.go.new.machine c.args.place (view_finished c.args.value.now) c.choice.new.site (view_move c.choice.new.site c.in-Ok.one)
    (g.S.Store.memory c.args.store.now) (g.S.Store.memory c.choice.new.store) _ _ c.in-Ok.ensures.limit c.in-Ok.ensures.next c.in-Ok-go.ensures
