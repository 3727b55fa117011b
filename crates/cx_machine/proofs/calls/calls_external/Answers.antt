use Rattle.std.proofs.Common.{rules, refl, ◌≡◌, to_z, of_z, w32}
use Rattle.cx_access.specs.Views.{view_setting}
use Rattle.cx_core.specs.Views.{view_outer}
use Rattle.cx_machine.specs.Answers.{held_work}
use Rattle.cx_machine.proofs.Answering.{answer_ends, answer_stops, goes_on_by, unused_by}
use Rattle.cx_mean.specs.Calls.{external_call}
use Rattle.cx_moves.specs.Sites.{view_purpose, view_site}
use Rattle.cx_work.specs.Views.{view_called, view_finished}
use Rattle.cx_machine.proofs.calls.calls_external.Goals as goal

pub returns-in-Ok : goal.returns-in-Ok
returns-in-Ok g c =
    let calls = rw c.in-Ok-Gives.field-0-is at c.in-Ok-Gives.ensures.calls in
    goes_on_by c.args.machine.now.work c.args.machine.now c.goes_on_with.new.machine c.args.purpose
    (external_call (view_setting c.args.setting.now) (view_called c.args.called.now) (view_outer c.args.outer.now)) (view_finished c.in-Ok-Gives.value) _
    c.external_call.new.kept (g.S.Store.memory c.external_call.new.store) (g.S.Store.memory c.goes_on_with.new.store) _ _ (g.H.Host.state c.external_call.new.host)
    c.goes_on_with.ensures.limit calls c.in-Ok.ensures.next

pub returns-in-Ok-Ends : goal.returns-in-Ok-Ends
returns-in-Ok-Ends g c =
    let calls = rw c.in-Ok-Ends.field-0-is at c.in-Ok-Ends.ensures.calls in
    let same : to_z w32 (of_z w32 c.in-Ok-Ends.status) ≡ c.in-Ok-Ends.status = search rules in
    rw same
    (answer_ends c.args.machine.now (held_work c.args.machine.now.work) (view_purpose (view_site c.args.machine.now.site) c.args.purpose)
    (external_call (view_setting c.args.setting.now) (view_called c.args.called.now) (view_outer c.args.outer.now)) c.in-Ok-Ends.status _ _ calls)

pub returns-in-Err : goal.returns-in-Err
returns-in-Err g c =
    rw c.stop_of.ensures
    (answer_stops c.args.machine.now (held_work c.args.machine.now.work) (view_purpose (view_site c.args.machine.now.site) c.args.purpose)
    (external_call (view_setting c.args.setting.now) (view_called c.args.called.now) (view_outer c.args.outer.now)) c.in-Err.halt _ _ _ c.in-Err.ensures.calls c.in-Err.ensures.wants)

pub returns-in-Err-goes_on_with : goal.returns-in-Err-goes_on_with
returns-in-Err-goes_on_with g c =
    let calls = rw c.in-Ok-Gives.field-0-is at c.in-Ok-Gives.ensures.calls in
    unused_by c.args.machine.now.work c.args.machine.now c.args.purpose
    (external_call (view_setting c.args.setting.now) (view_called c.args.called.now) (view_outer c.args.outer.now)) (view_finished c.in-Ok-Gives.value) _ _ _ refl calls
