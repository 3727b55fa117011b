use Rattle.std.proofs.Common.{refl}
use Rattle.cx_access.specs.Views.{view_setting}
use Rattle.cx_machine.specs.Machines.{view_machine}
use Rattle.cx_steps.proofs.Several.{goes_on, none_before}
use Rattle.cx_steps.proofs.step.take_some.Goals as goal

pub returns-in-None : goal.returns-in-None
returns-in-None g c =
    none_before (view_setting c.args.setting.now) c.args.most (view_machine c.args.machine.now) c.take.result _ _ _ c.requires (goes_on c.args.machine.now) (λ world. refl) c.take.ensures
