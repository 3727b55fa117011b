use Rattle.std.proofs.Common.{sym, subst}
use Rattle.cr_world.specs.World.{World}
use Rattle.cx_access.specs.Views.{view_setting}
use Rattle.cx_machine.specs.Machines.{view_machine}
use Rattle.cx_machine.specs.Steps.{StoreAdvances}
use Rattle.cx_mean.specs.Operands.{CValue}
use Rattle.cx_mean.specs.State.{move_step, returning}
use Rattle.cx_moves.specs.declared.moves.Move.{Move}
use Rattle.cx_moves.specs.Sites.{view_move, view_site}
use Rattle.cx_steps.proofs.step.moves.Goals as goal

pub returns-in-Begins-clause-steps : goal.returns-in-Begins-clause-steps
returns-in-Begins-clause-steps g c =
    subst (λ (one : Move). StoreAdvances (λ (world : World). move_step (view_setting c.args.setting.now) (view_machine c.args.machine.now world) (view_move c.args.machine.now.site one)) c.begins.result
    (view_machine c.begins.new.machine) (g.S.Store.memory c.args.store.now) (g.S.Store.memory c.begins.new.store) (g.S.Store.limit c.args.store.now) (g.S.Store.limit c.begins.new.store))
    (sym c.in-Begins.is) c.begins.ensures.steps

pub returns-in-Leaves-clause-steps : goal.returns-in-Leaves-clause-steps
returns-in-Leaves-clause-steps g c =
    subst (λ (one : Move). StoreAdvances (λ (world : World). move_step (view_setting c.args.setting.now) (view_machine c.args.machine.now world) (view_move c.args.machine.now.site one)) c.returns.result
    (view_machine c.returns.new.machine) (g.S.Store.memory c.args.store.now) (g.S.Store.memory c.returns.new.store) (g.S.Store.limit c.args.store.now) (g.S.Store.limit c.returns.new.store))
    (sym c.in-Leaves.is)
    (subst (λ (value : CValue). StoreAdvances (λ (world : World). returning (view_machine c.args.machine.now world) value (view_site c.args.machine.now.site)) c.returns.result
    (view_machine c.returns.new.machine) (g.S.Store.memory c.args.store.now) (g.S.Store.memory c.returns.new.store) (g.S.Store.limit c.args.store.now) (g.S.Store.limit c.returns.new.store))
    c.left_value.ensures c.returns.ensures.steps)
