use Rattle.std.proofs.Common.{refl}
use Rattle.cx_access.specs.Views.{view_setting}
use Rattle.cx_exec.proofs.Looping.{far_short, none_short, on_err}
use Rattle.cx_exec.proofs.run.run_in.Goals as goal

pub returns-in_err-machine-clause-short : goal.returns-in_err-machine-clause-short
returns-in_err-machine-clause-short g c =
    on_err c.from_residual.result
    (none_short (view_setting c.args.setting.now).program c.args.order.now (g.S.Store.limit c.args.store.now) c.args.steps (g.H.Host.state c.args.host.now) (g.H.Host.state c.args.host.now) refl)

pub returns-clause-short : goal.returns-clause-short
returns-clause-short g c =
    on_err c.ended.result (rw c.in_ok-machine.ensures.order at
    (far_short (record { program = (view_setting c.args.setting.now).program; order = c.in_ok-machine.machine.order.now; limit = g.S.Store.limit c.args.store.now; trail = c.steps_on-far.new.kept.trail }) c.args.steps
    (g.H.Host.state c.args.host.now) (g.H.Host.state c.steps_on-far.new.host) c.steps_on-far.result.taken c.steps_on-far.result.stop c.steps_on-far.ensures))
