use Rattle.std.proofs.Common.{arith, ap}
use Rattle.mem_region.specs.declared.table.Live.{Live}
use Rattle.mem_region.proofs.Slid.{same_at, rest_of, slid_more}
use Rattle.mem_region.proofs.table.slide.Goals as goal

pub overflow_sub-live : goal.overflow_sub-live
overflow_sub-live c =
    let old = c.args.table.now in
    let index = c.loop-live.live-index in
    let d : Live = record { number = 0; align = 0; size = 0; start = 0 } in
    let same = ap (λ (live : Live). live.start) (same_at c.loop-live.table old index d c.loop-live.invariant.rest) in
    omega (arith, c.requires index d (omega arith), same)

pub loop-live-preserved : goal.loop-live-preserved
loop-live-preserved c =
    let loop = c.loop-live in
    record {
      done = slid_more loop.table c.args.table.now c.args.bytes loop.live-index _ (omega arith) (omega arith) loop.invariant.done loop.invariant.rest;
      rest = rest_of loop.table c.args.table.now loop.live-index _ loop.invariant.rest;
    }
