use Rattle.std.proofs.Common.{inl, refl, Err}
use Rattle.cr_world.specs.World.{World}
use Rattle.cx_access.specs.Views.{view_setting}
use Rattle.cx_machine.specs.Answers.{held_work}
use Rattle.cx_machine.specs.declared.stop.Stop.TheVariants as stop
use Rattle.cx_machine.specs.Machines.{view_machine}
use Rattle.cx_moves.specs.Sites.{view_purpose, view_site}
use Rattle.cx_outside.specs.declared.outside.Lack.TheVariants as lack
use Rattle.cx_outside.specs.States.{Around, around}
use Rattle.cx_outside.proofs.Wanting.{host_alone}
use Rattle.cx_steps.specs.Picks.{evaluating_in}
use Rattle.cx_steps.proofs.Several.{none_before, went_by}
use Rattle.cx_steps.proofs.evaluating.evaluates_on.Goals as goal

pub returns-in-Ok : goal.returns-in-Ok
returns-in-Ok g c =
    went_by (view_setting c.args.setting.now) c.args.machine.now c.args.purpose c.requires.order c.args.kept.now (g.S.Store.limit c.args.store.now) (g.H.Host.state c.args.host.now)
    c.steps_on.new.machine (g.S.Store.memory c.args.store.now) (g.S.Store.memory c.steps_on.new.store) (g.S.Store.limit c.steps_on.new.store) c.args.most c.in-Ok.last c.follows.result _ _ c.in-Ok.ensures.limit
    c.in-Ok.ensures.steps c.follows.ensures

pub returns-in-Err : goal.returns-in-Err
returns-in-Err g c =
    let here : Around = around c.args.kept.now (g.S.Store.memory c.args.store.now) (g.S.Store.limit c.args.store.now) (g.H.Host.state c.args.host.now) in
    let there : Around = around c.args.kept.now (g.S.Store.memory c.steps_on.new.store) (g.S.Store.limit c.steps_on.new.store) (g.H.Host.state c.args.host.now) in
    none_before (view_setting c.args.setting.now) c.args.most
    (λ (world : World). evaluating_in (view_machine c.args.machine.now world) (held_work c.args.machine.now.work) (view_purpose (view_site c.args.machine.now.site) c.args.purpose))
    (Err (stop.Lacks lack.Memory)) (view_machine c.steps_on.new.machine) here there c.requires.most (λ world. refl) (λ world. refl) (inl (host_alone (g.H.Host.state c.args.host.now)))
