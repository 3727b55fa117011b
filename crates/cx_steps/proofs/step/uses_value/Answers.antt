use Rattle.cx_access.specs.Views.{view_setting}
use Rattle.cx_steps.proofs.Going.{uses_by}
use Rattle.cx_work.specs.Views.{view_finished}
use Rattle.cx_steps.proofs.step.uses_value.Goals as goal

pub returns-in-Some-clause-steps : goal.returns-in-Some-clause-steps
returns-in-Some-clause-steps g c =
    uses_by (view_setting c.args.setting.now) c.args.machine.now c.take_value.new.machine (view_finished c.in-Some.value) c.args.purpose c.uses.result _ _ _ _ _
    c.take_value.ensures.rest c.in-Some.ensures.value c.uses.ensures.steps
