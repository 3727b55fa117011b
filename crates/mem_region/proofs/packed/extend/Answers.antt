use Rattle.std.proofs.Common.{◌+◌, arith, ap}
use Rattle.mem_region.proofs.Written.{extended}
use Rattle.mem_region.proofs.packed.extend.Goals as goal

pub returns-clause-cells : goal.returns-clause-cells
returns-clause-cells c =
    let held = c.args.held.now in
    extended held.items c.resize.new.self.items held.len c.args.count (c.len.result + c.args.count) c.unset.result _ c.resize.result held.ok.0 (ap (λ n. n + c.args.count) c.len.ensures) c.unset.ensures (c.resize.ensures.succeeds (omega arith)) c.resize.ensures.items
