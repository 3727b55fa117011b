use Rattle.std.proofs.Common.{map}
use Rattle.rs_mean.specs.Laws.{bodies_of}
use Rattle.rs_tree.specs.Views.{module_view}
use Rattle.rs_exec.proofs.Started.{initialiser_stops, initialiser_goes, initialisers_end}
use Rattle.rs_exec.proofs.program.initialisers.Goals as goal

pub returns-in-Err : goal.returns-in-Err
returns-in-Err g c = initialiser_stops (bodies_of (map module_view c.args.scene.modules.now)) c.args.modules.now c.loop-unit.unit-index c.unit-item.result c.loop-unit-test.true c.unit-item.is c.loop-unit.invariant.follows c.in-Err.ensures

pub loop-unit-preserved : goal.loop-unit-preserved
loop-unit-preserved g c = record {
  follows = initialiser_goes (bodies_of (map module_view c.args.scene.modules.now)) c.args.modules.now c.loop-unit.unit-index c.unit-item.result c.loop-unit-test.true c.unit-item.is c.loop-unit.invariant.follows c.in_default.ensures;
}

pub returns : goal.returns
returns g c = initialisers_end (bodies_of (map module_view c.args.scene.modules.now)) c.args.modules.now c.loop-unit.unit-index c.loop-unit-test.false c.loop-unit.invariant.follows
