use Rattle.std.proofs.Common.{sym, subst}
use Rattle.cr_world.specs.World.{World}
use Rattle.cx_access.specs.Views.{view_setting}
use Rattle.cx_machine.specs.Machines.{view_machine}
use Rattle.cx_machine.specs.Steps.{StoreAdvances}
use Rattle.cx_mean.specs.State.{use_step}
use Rattle.cx_moves.specs.declared.moves.Purpose.{Purpose}
use Rattle.cx_moves.specs.Sites.{view_purpose, view_site}
use Rattle.cx_steps.specs.Choices.{used}
use Rattle.cx_work.specs.Views.{view_finished}
use Rattle.cx_steps.proofs.uses.uses.Goals as goal

pub returns-in-Puts-clause-steps : goal.returns-in-Puts-clause-steps
returns-in-Puts-clause-steps g c =
    subst (λ (one : Purpose). StoreAdvances (λ (world : World). use_step (view_setting c.args.setting.now) (view_machine c.args.machine.now world) (used (view_finished c.args.value)) (view_purpose (view_site c.args.machine.now.site) one))
    c.puts.result (view_machine c.puts.new.machine) (g.S.Store.memory c.args.store.now) (g.S.Store.memory c.puts.new.store) (g.S.Store.limit c.args.store.now) (g.S.Store.limit c.puts.new.store))
    (sym c.in-Puts.is) c.puts.ensures.steps

pub returns-in-Drops-clause-steps : goal.returns-in-Drops-clause-steps
returns-in-Drops-clause-steps g c =
    subst (λ (one : Purpose). StoreAdvances (λ (world : World). use_step (view_setting c.args.setting.now) (view_machine c.args.machine.now world) (used (view_finished c.args.value)) (view_purpose (view_site c.args.machine.now.site) one))
    c.drops.result (view_machine c.drops.new.machine) (g.S.Store.memory c.args.store.now) (g.S.Store.memory c.drops.new.store) (g.S.Store.limit c.args.store.now) (g.S.Store.limit c.drops.new.store))
    (sym c.in-Drops.is) c.drops.ensures.steps

pub returns-in-Turns-clause-steps : goal.returns-in-Turns-clause-steps
returns-in-Turns-clause-steps g c =
    subst (λ (one : Purpose). StoreAdvances (λ (world : World). use_step (view_setting c.args.setting.now) (view_machine c.args.machine.now world) (used (view_finished c.args.value)) (view_purpose (view_site c.args.machine.now.site) one))
    c.drops-in-Turns.result (view_machine c.drops-in-Turns.new.machine) (g.S.Store.memory c.args.store.now) (g.S.Store.memory c.drops-in-Turns.new.store) (g.S.Store.limit c.args.store.now)
    (g.S.Store.limit c.drops-in-Turns.new.store))
    (sym c.in-Turns.is) c.drops-in-Turns.ensures.steps

pub returns-in-Gives-clause-steps : goal.returns-in-Gives-clause-steps
returns-in-Gives-clause-steps g c =
    subst (λ (one : Purpose). StoreAdvances (λ (world : World). use_step (view_setting c.args.setting.now) (view_machine c.args.machine.now world) (used (view_finished c.args.value)) (view_purpose (view_site c.args.machine.now.site) one))
    c.gives.result (view_machine c.gives.new.machine) (g.S.Store.memory c.args.store.now) (g.S.Store.memory c.gives.new.store) (g.S.Store.limit c.args.store.now) (g.S.Store.limit c.gives.new.store))
    (sym c.in-Gives.is) c.gives.ensures.steps

pub returns-clause-steps : goal.returns-clause-steps
returns-clause-steps g c =
    subst (λ (one : Purpose). StoreAdvances (λ (world : World). use_step (view_setting c.args.setting.now) (view_machine c.args.machine.now world) (used (view_finished c.args.value)) (view_purpose (view_site c.args.machine.now.site) one))
    c.chooses.result (view_machine c.chooses.new.machine) (g.S.Store.memory c.args.store.now) (g.S.Store.memory c.chooses.new.store) (g.S.Store.limit c.args.store.now) (g.S.Store.limit c.chooses.new.store))
    (sym c.in-Chooses.is) c.chooses.ensures.steps
