use Rattle.std.proofs.Common.{ap}
use Rattle.cr_world.specs.World.{World}
use Rattle.cx_access.specs.Views.{view_setting}
use Rattle.cx_machine.specs.declared.machine.Control.{Control}
use Rattle.cx_machine.specs.declared.machine.Control.TheVariants as control
use Rattle.cx_machine.specs.Machines.{control_in, view_machine}
use Rattle.cx_mean.specs.State.{c_step, step_of}
use Rattle.cx_steps.proofs.Advancing.{advances_by}
use Rattle.cx_steps.proofs.step.take.Goals as goal

pub returns-in-Begins : goal.returns-in-Begins
returns-in-Begins g c =
    advances_by (λ (world : World). c_step (view_setting c.args.setting.now) (view_machine c.args.machine.now world))
    (λ (world : World). step_of (view_setting c.args.setting.now) (view_machine c.args.machine.now world) (control_in c.args.machine.now (control.Begins c.in-Begins.one c.in-Begins.others)))
    (λ world. ap (λ (one : Control). step_of (view_setting c.args.setting.now) (view_machine c.args.machine.now world) (control_in c.args.machine.now one)) c.in-Begins.is)
    c.begins_static.result _ _ _ (c.begins_static.ensures.steps c.args.kept.now (g.H.Host.state c.args.host.now))

pub returns-in-Moves : goal.returns-in-Moves
returns-in-Moves g c =
    advances_by (λ (world : World). c_step (view_setting c.args.setting.now) (view_machine c.args.machine.now world))
    (λ (world : World). step_of (view_setting c.args.setting.now) (view_machine c.args.machine.now world) (control_in c.args.machine.now (control.Moves c.in-Moves.one)))
    (λ world. ap (λ (one : Control). step_of (view_setting c.args.setting.now) (view_machine c.args.machine.now world) (control_in c.args.machine.now one)) c.in-Moves.is)
    c.moves.result _ _ _ (c.moves.ensures.steps c.args.kept.now (g.H.Host.state c.args.host.now))

pub returns-in-Values : goal.returns-in-Values
returns-in-Values g c =
    advances_by (λ (world : World). c_step (view_setting c.args.setting.now) (view_machine c.args.machine.now world))
    (λ (world : World). step_of (view_setting c.args.setting.now) (view_machine c.args.machine.now world) (control_in c.args.machine.now (control.Values c.in-Values.purpose)))
    (λ world. ap (λ (one : Control). step_of (view_setting c.args.setting.now) (view_machine c.args.machine.now world) (control_in c.args.machine.now one)) c.in-Values.is)
    c.values.result _ _ _ c.values.ensures

pub returns-in-Takes : goal.returns-in-Takes
returns-in-Takes g c =
    advances_by (λ (world : World). c_step (view_setting c.args.setting.now) (view_machine c.args.machine.now world))
    (λ (world : World). step_of (view_setting c.args.setting.now) (view_machine c.args.machine.now world) (control_in c.args.machine.now (control.Takes c.in-Takes.fun c.in-Takes.params)))
    (λ world. ap (λ (one : Control). step_of (view_setting c.args.setting.now) (view_machine c.args.machine.now world) (control_in c.args.machine.now one)) c.in-Takes.is)
    c.takes.result _ _ _ (c.takes.ensures.steps c.args.kept.now (g.H.Host.state c.args.host.now))
