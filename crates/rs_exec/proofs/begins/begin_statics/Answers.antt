use Rattle.std.proofs.Common.{map}
use Rattle.rs_tree.specs.Views.{module_view}
use Rattle.rs_exec.proofs.Started.{static_stops, static_goes, statics_end}
use Rattle.rs_exec.proofs.begins.begin_statics.Goals as goal

pub returns-in-Err : goal.returns-in-Err
returns-in-Err g c = λ kept host. static_stops (map module_view c.args.modules.now) c.args.statics.now c.loop-one.one-index c.one-item.result c.loop-one-test.true c.one-item.is (c.loop-one.invariant.follows kept host) (c.in-Err.ensures kept host)

pub loop-one-preserved : goal.loop-one-preserved
loop-one-preserved g c = record {
  follows = λ kept host. static_goes (map module_view c.args.modules.now) c.args.statics.now c.loop-one.one-index c.one-item.result c.loop-one-test.true c.one-item.is (c.loop-one.invariant.follows kept host) (c.in_default.ensures kept host);
}

pub returns : goal.returns
returns g c = λ kept host. statics_end (map module_view c.args.modules.now) c.args.statics.now c.loop-one.one-index c.loop-one-test.false (c.loop-one.invariant.follows kept host)
