use Rattle.cx_work.specs.Weights.{weight, weights}
use Rattle.cx_work.proofs.Filled.{AreKept, IsFilled}
use Rattle.cx_work.proofs.resuming.+fill.Given as goal

abbrev pub decreases-fill : goal.decreases-fill
decreases-fill l = weight l.work.now

abbrev pub decreases-fill_all : goal.decreases-fill_all
decreases-fill_all l = weights l.works.now

abbrev pub invariant-fill_all-loop-index : goal.invariant-fill_all-loop-index
invariant-fill_all-loop-index l = record {
  kept : AreKept l.index l.fn.works l.works;
  filled : IsFilled l.index l.fn.works l.works l.fn.value l.value;
}
