use Rattle.std.proofs.Common.{rules, ◌≡◌, ◌∷◌}
use Rattle.cx_access.specs.Views.{view_setting}
use Rattle.cx_core.specs.Views.{view_function}
use Rattle.cx_steps.proofs.Going.{takes_by}
use Rattle.cx_steps.proofs.params.takes.Goals as goal

pub returns-in-Some-pop-clause-steps : goal.returns-in-Some-pop-clause-steps
returns-in-Some-pop-clause-steps g c =
    let are : c.args.params.now ≡ c.in-Some.number.now ∷ c.in-Some.others.now = search rules in
    takes_by (view_setting c.args.setting.now) c.args.machine.now (view_function c.args.fun.now) c.args.params.now c.in-Some.number.now c.in-Some.others.now c.pop.new.self c.in-Some-pop.value
    c.begins_param.result _ _ _ _ _ are c.in-Some-pop.ensures c.begins_param.ensures.steps
