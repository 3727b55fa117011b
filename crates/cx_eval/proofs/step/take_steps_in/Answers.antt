use Rattle.cx_access.specs.Views.{view_setting}
use Rattle.cx_work.specs.Views.{view_work}
use Rattle.cx_eval.proofs.SomeSteps.{some_halted, some_stepped}
use Rattle.cx_eval.proofs.step.take_steps_in.Goals as goal

pub returns-in-Through-clause-steps : goal.returns-in-Through-clause-steps
returns-in-Through-clause-steps g c =
    some_stepped (view_setting c.args.setting.now) (g.O.Objects.frame c.args.objects.now) (g.S.Store.memory c.args.store.now) (g.S.Store.memory c.pass_tree.new.store)
    c.args.most c.pass_tree.new.rest (view_work c.args.work.now) (view_work c.pass_tree.new.work) c.last_stepped.result c.last_stepped.ensures c.in-Through.ensures.passes.1

pub returns-in-Rests-clause-steps : goal.returns-in-Rests-clause-steps
returns-in-Rests-clause-steps g c =
    some_stepped (view_setting c.args.setting.now) (g.O.Objects.frame c.args.objects.now) (g.S.Store.memory c.args.store.now) (g.S.Store.memory c.pass_tree.new.store)
    c.args.most c.pass_tree.new.rest (view_work c.args.work.now) (view_work c.pass_tree.new.work) c.last_stepped-in-Rests.result c.last_stepped-in-Rests.ensures c.in-Rests.ensures.passes.1

pub returns-clause-steps : goal.returns-clause-steps
returns-clause-steps g c =
    some_halted (view_setting c.args.setting.now) (g.O.Objects.frame c.args.objects.now) (g.S.Store.memory c.args.store.now) (g.S.Store.memory c.pass_tree.new.store)
    c.args.most c.pass_tree.new.rest (view_work c.args.work.now) (view_work c.pass_tree.new.work) c.last_halted.result c.pass_tree.new.taken c.last_halted.ensures c.in-Halted.ensures.passes
