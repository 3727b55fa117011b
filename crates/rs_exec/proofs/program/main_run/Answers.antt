use Rattle.std.proofs.Common.{map}
use Rattle.rs_mean.specs.Laws.{bodies_of}
use Rattle.rs_tree.specs.Views.{module_view}
use Rattle.rs_machine.proofs.Pieces.{then_does, stops_first}
use Rattle.rs_exec.proofs.Started.{statics_as, entry_as}
use Rattle.rs_exec.proofs.program.main_run.Goals as goal

pub returns-in-Err : goal.returns-in-Err
returns-in-Err g c = stops_first _ (statics_as _ _ _ c.requires.statics (c.in-Err.ensures _ _))

pub returns-in-Err-initialisers : goal.returns-in-Err-initialisers
returns-in-Err-initialisers g c = then_does _ (statics_as _ _ _ c.requires.statics (c.in_default.ensures _ _)) (stops_first _ c.in-Err-initialisers.ensures)

pub returns-in-Err-entry : goal.returns-in-Err-entry
returns-in-Err-entry g c =
    then_does _ (statics_as _ _ _ c.requires.statics (c.in_default.ensures _ _)) (then_does _ c.in_default-initialisers.ensures
    (stops_first _ (entry_as (bodies_of (map module_view c.args.scene.modules.now)) _ _ c.module_with-unit.ensures c.in-Err-entry.ensures)))

pub returns-in-Ok : goal.returns-in-Ok
returns-in-Ok g c =
    then_does _ (statics_as _ _ _ c.requires.statics (c.in_default.ensures _ _)) (then_does _ c.in_default-initialisers.ensures
    (then_does _ (entry_as (bodies_of (map module_view c.args.scene.modules.now)) _ _ c.module_with-unit.ensures c.in-Ok.ensures) (c.exits.ensures _)))
