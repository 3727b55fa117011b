use Rattle.std.proofs.Common.{Err, arith}
use Rattle.cx_access.specs.Views.{view_setting}
use Rattle.cx_work.specs.Views.{view_work}
use Rattle.cx_eval.proofs.Owned.{own_calls, own_halts, own_steps}
use Rattle.cx_eval.proofs.pass.granted_step.Goals as goal

pub returns-in-Ok-Stepped-clause-passes : goal.returns-in-Ok-Stepped-clause-passes
returns-in-Ok-Stepped-clause-passes g c =
    own_steps (view_setting c.args.setting.now) (g.O.Objects.frame c.args.objects.now) (g.S.Store.memory c.args.store.now) (view_work c.args.work.now)
    (g.S.Store.memory c.node_step.new.store) (view_work c.node_step.new.work) c.requires c.args.rest.now (omega (arith, c.if-rest-eq0.false))
    c.in-Ok-Stepped.field-0 c.in-Ok-Stepped.field-0-is c.in-Ok-Stepped.ensures.steps c.behind_step.result c.args.taken.now c.behind_step.ensures

pub returns-in-Ok-Calls-clause-passes : goal.returns-in-Ok-Calls-clause-passes
returns-in-Ok-Calls-clause-passes g c = rw (c.halted_by.ensures.result, c.halted_by.ensures.taken)
    (own_calls (view_setting c.args.setting.now) (g.O.Objects.frame c.args.objects.now) (g.S.Store.memory c.args.store.now) (view_work c.args.work.now)
    (g.S.Store.memory c.node_step.new.store) (view_work c.node_step.new.work) c.requires c.args.rest.now (omega (arith, c.if-rest-eq0.false))
    c.in-Ok-Calls.field-0 c.in-Ok-Calls.called c.in-Ok-Calls.field-0-is c.in-Ok-Calls.ensures.steps)

pub returns-in-Err-clause-passes : goal.returns-in-Err-clause-passes
returns-in-Err-clause-passes g c = rw (c.halted_by-in-Err.ensures.result, c.halted_by-in-Err.ensures.taken)
    (own_halts (view_setting c.args.setting.now) (g.O.Objects.frame c.args.objects.now) (g.S.Store.memory c.args.store.now) (view_work c.args.work.now)
    (g.S.Store.memory c.node_step.new.store) (view_work c.node_step.new.work) c.requires c.args.rest.now (omega (arith, c.if-rest-eq0.false))
    (Err c.in-Err.why) tt c.in-Err.ensures.steps)
