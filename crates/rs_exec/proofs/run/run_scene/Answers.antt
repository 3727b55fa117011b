use Rattle.std.proofs.Common.{rules, refl, map}
use Rattle.rs_machine.specs.Does.{Does, stopped_by, stops}
use Rattle.rs_machine.specs.States.{state}
use Rattle.rs_mean.specs.Laws.{bodies_of}
use Rattle.rs_mean.specs.Run.{run_main}
use Rattle.rs_tree.specs.Views.{module_view}
use Rattle.rs_exec.specs.Ends.{start}
use Rattle.rs_exec.proofs.Short.{does_short}
use Rattle.rs_exec.proofs.run.run_scene.Goals as goal

pub returns-in-Err-clause-short : goal.returns-in-Err-clause-short
returns-in-Err-clause-short g c =
    let modules = map module_view c.args.scene.modules.now in
    let does : Does (run_main (record { modules = modules; entry = c.args.number }) (bodies_of modules)) (stops (stopped_by c.main_run-halt.result)) (start c.args.steps (g.S.Store.limit c.args.store.now) (g.H.Host.state c.args.host.now))
    (state c.main_run-halt.new.machine (g.S.Store.memory c.main_run-halt.new.store) (g.S.Store.limit c.main_run-halt.new.store) (g.H.Host.state c.main_run-halt.new.host)) = rw c.new-machine.ensures at (rw c.requires.empty at c.main_run-halt.ensures) in
    does_short modules modules c.args.number c.args.steps (g.S.Store.limit c.args.store.now) (g.H.Host.state c.args.host.now) _ (stopped_by c.main_run-halt.result) refl does
