use Rattle.std.proofs.Common.{sym, ap, List, map}
use Rattle.cx_access.specs.Views.{view_setting}
use Rattle.cx_core.specs.declared.program.CoreObject.{CoreObject}
use Rattle.cx_core.specs.Views.{view_object}
use Rattle.cx_machine.proofs.StaticsBegin.{static_lacks, static_begun}
use Rattle.cx_mean.specs.State.{statics_in}
use Rattle.cx_outside.proofs.Wanting.{host_alone}
use Rattle.cx_machine.proofs.statics.begins_static.Goals as goal

pub returns-in-Err-clause-steps : goal.returns-in-Err-clause-steps
returns-in-Err-clause-steps g c = λ kept host.
    static_lacks (view_setting c.args.setting.now) c.args.machine.now (view_object c.args.one.now) (statics_in (map view_object c.args.others.now)) c.in-Some.laid (sym c.in-Some.ensures)
    c.in-Err.lack _ _ _ (host_alone host) (c.in-Err.ensures.steps kept host)

pub returns-in-Ok-goes_to_statics-clause-steps : goal.returns-in-Ok-goes_to_statics-clause-steps
returns-in-Ok-goes_to_statics-clause-steps g c = λ kept host.
    static_begun (view_setting c.args.setting.now) c.args.machine.now (view_object c.args.one.now) (statics_in (map view_object c.args.others.now)) c.in-Some.laid (sym c.in-Some.ensures)
    c.holds.new.machine c.goes_to_statics.new.machine c.in-Ok.at _ _ (statics_in (map view_object c.as_slice.result.now))
    (ap (λ (list : List CoreObject). statics_in (map view_object list)) c.as_slice.ensures) c.in_default-holds.ensures c.in-Ok-goes_to_statics.ensures (c.in-Ok.ensures.steps kept host)
