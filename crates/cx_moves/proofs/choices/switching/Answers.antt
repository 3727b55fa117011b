use Rattle.std.proofs.Common.{◌≡◌, subst, IfOk}
use Rattle.cx_core.specs.Views.{view_stmt}
use Rattle.cx_mean.specs.Moves.{CStand, stand}
use Rattle.cx_moves.specs.Sites.{view_level, view_move, view_site}
use Rattle.cx_moves.specs.Ways.{form_of}
use Rattle.cx_moves.proofs.Chosen.{switching_is}
use Rattle.cx_moves.proofs.choices.switching.Goals as goal

pub returns-clause-next : goal.returns-clause-next
returns-clause-next g c =
    subst (λ (one : CStand). IfOk c.switched_by.result (λ move. stand (view_move c.switched_by.new.outer move) (g.S.Store.memory c.switched_by.new.store) ≡ one))
    (switching_is (form_of (view_stmt c.args.level.stmt.now)) c.args.value.now (view_level c.args.level) (view_site c.args.outer.now) (g.S.Store.memory c.args.store.now))
    c.switched_by.ensures.next
