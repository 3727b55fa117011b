use Rattle.std.proofs.Common.{refl}
use Rattle.cx_access.specs.Views.{view_setting}
use Rattle.cx_machine.specs.Answers.{held_work}
use Rattle.cx_machine.specs.Machines.{view_control}
use Rattle.cx_outside.specs.States.{around}
use Rattle.cx_steps.specs.Picks.{pick_in}
use Rattle.cx_steps.proofs.Evaluated.{followed}
use Rattle.cx_steps.proofs.evaluating.evaluates.Goals as goal

pub returns-in-Ok : goal.returns-in-Ok
returns-in-Ok g c = record {
  steps =
      let has = c.in-Ok.ensures.step in
      followed (view_setting c.args.setting.now) c.args.machine.now c.steps.new.machine c.args.purpose (view_control c.args.machine.now) (held_work c.args.machine.now.work) (pick_in c.args.machine.now) refl
      has.order has.site has.statics has.callers c.follows.result _ c.args.kept.now (g.S.Store.memory c.args.store.now) (g.S.Store.memory c.steps.new.store) _ _ (g.H.Host.state c.args.host.now)
      c.in-Ok.ensures.limit (around c.follows.new.kept (g.S.Store.memory c.follows.new.store) (g.S.Store.limit c.follows.new.store) (g.H.Host.state c.follows.new.host)) c.in-Ok.next has.takes c.follows.ensures;
}
