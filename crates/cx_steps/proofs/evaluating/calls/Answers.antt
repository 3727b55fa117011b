use Rattle.cx_access.specs.Views.{view_setting}
use Rattle.cx_moves.specs.Sites.{view_purpose, view_site}
use Rattle.cx_steps.proofs.Evaluated.{calls_in, calls_out}
use Rattle.cx_work.specs.Views.{view_called}
use Rattle.cx_steps.proofs.evaluating.calls.Goals as goal

pub returns-in-External : goal.returns-in-External
returns-in-External g c = record {
  steps =
      calls_out (view_setting c.args.setting.now) c.args.machine.now (view_purpose (view_site c.args.machine.now.site) c.args.purpose) (view_called c.args.called) c.args.called.callee c.in-External.outer
      c.calls_external.result _ _ _ c.in-External.is c.calls_external.ensures;
}

pub returns-in-Ok : goal.returns-in-Ok
returns-in-Ok g c = record {
  steps =
      calls_in (view_setting c.args.setting.now) c.args.machine.now c.calls_defined.new.machine (view_purpose (view_site c.args.machine.now.site) c.args.purpose) (view_called c.args.called) c.args.called.callee c.in-Defined.fun
      c.args.kept.now (g.S.Store.memory c.args.store.now) (g.S.Store.limit c.args.store.now) (g.H.Host.state c.args.host.now) c.in-Defined.is c.in-Ok.ensures;
}
