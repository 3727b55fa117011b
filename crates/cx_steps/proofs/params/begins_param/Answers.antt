use Rattle.std.proofs.Common.{refl, map, reverse}
use Rattle.cx_access.specs.Views.{view_setting}
use Rattle.cx_core.specs.Views.{view_function, view_type}
use Rattle.cx_outside.proofs.Wanting.{host_alone}
use Rattle.cx_steps.proofs.Begun.{param_argues, param_lacks}
use Rattle.cx_work.specs.Views.{view_finished}
use Rattle.cx_steps.proofs.params.begins_param.Goals as goal

pub returns-in-Err-clause-steps : goal.returns-in-Err-clause-steps
returns-in-Err-clause-steps g c = λ kept host.
    param_lacks (view_setting c.args.setting.now) c.args.machine.now (view_function c.args.fun.now) c.args.number c.args.others.now (reverse (map view_finished c.args.machine.now.args)) c.args.machine.now.site.params
    (view_finished c.args.value) (view_type c.in-Some.shape.ty.now) c.in-Some.shape.laid c.in-Some.ensures c.in-Err.lack _ _ _ (host_alone host) (c.in-Err.ensures.steps kept host)

pub returns-clause-steps : goal.returns-clause-steps
returns-clause-steps g c = λ kept host.
    param_argues (view_setting c.args.setting.now) c.args.machine.now (view_function c.args.fun.now) c.args.number c.args.others.now (reverse (map view_finished c.args.machine.now.args)) c.args.machine.now.site.params
    (view_finished c.args.value) (view_type c.in-Some.shape.ty.now) c.in-Some.shape.laid c.in-Some.ensures c.takes_argument.new.machine c.in-Ok.at kept
    (g.S.Store.memory c.args.store.now) (g.S.Store.memory c.begin.new.store) (g.S.Store.memory c.takes_argument.new.store) _ _ _ host c.takes_argument.ensures.limit
    (c.in-Ok.ensures.steps kept host) c.takes_argument.result refl c.takes_argument.ensures.steps refl
