use Rattle.std.proofs.Common.{arith}
use Rattle.front.proofs.FileLaws.{put_next}
use Rattle.front.proofs.files.put_all.Goals as goal

pub loop-place-preserved : goal.loop-place-preserved
loop-place-preserved g c = record {
  held = put_next c.args.files.now c.loop-place.place c.index-files-place.result _ _ _ _ _ c.loop-place-test.true c.index-files-place.is
      c.loop-place.invariant.held c.as_str.ensures c.as_slice.ensures c.in_default.ensures.stored;
  later = omega (arith, c.loop-place.invariant.later, c.put.ensures.cause.later);
}
