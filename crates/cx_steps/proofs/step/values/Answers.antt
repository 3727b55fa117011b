use Rattle.std.proofs.Common.{◌≡◌, ◌∙◌, sym, ap, Some, false}
use Rattle.cr_world.specs.World.{World}
use Rattle.cx_access.specs.Views.{view_setting}
use Rattle.cx_machine.specs.Answers.{held_work}
use Rattle.cx_machine.specs.Machines.{is_over, values_in, view_machine}
use Rattle.cx_mean.specs.State.{expression_step, step_of}
use Rattle.cx_moves.specs.Sites.{view_purpose, view_site}
use Rattle.cx_steps.proofs.Advancing.{advances_by}
use Rattle.cx_steps.proofs.Going.{evaluates_by}
use Rattle.cx_steps.proofs.step.values.Goals as goal

pub returns-in-Some-true : goal.returns-in-Some-true
returns-in-Some-true g c = c.uses_value.ensures.steps c.args.kept.now (g.H.Host.state c.args.host.now)

pub returns-in-Some-false : goal.returns-in-Some-false
returns-in-Some-false g c =
    let over : Some false ≡ is_over c.args.machine.now.work = ap Some (sym c.in-Some-false.field-0-test) ∙ sym c.in-Some-false.is ∙ c.is_over.ensures in
    advances_by (λ (world : World). step_of (view_setting c.args.setting.now) (view_machine c.args.machine.now world) (values_in c.args.machine.now.work (view_purpose (view_site c.args.machine.now.site) c.args.purpose)))
    (λ (world : World). expression_step (view_setting c.args.setting.now) (view_machine c.args.machine.now world) (held_work c.args.machine.now.work) (view_purpose (view_site c.args.machine.now.site) c.args.purpose))
    (λ world. evaluates_by (view_setting c.args.setting.now) (view_machine c.args.machine.now world) c.args.machine.now.work (view_purpose (view_site c.args.machine.now.site) c.args.purpose) over)
    c.evaluates.result _ _ _ c.evaluates.ensures.steps
