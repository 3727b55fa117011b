use Rattle.std.proofs.Common.{◌+◌, ◌≤◌, length, subst, sym}
use Rattle.mem_region.proofs.Written.{field_is, touched_few}
use Rattle.mem_region.proofs.packed.with_field.Goals as goal

pub read-cells-requires : goal.read-cells-requires
read-cells-requires c =
    let count = c.bytes_touched-count in
    record {
      few = touched_few c.args.bit c.args.width count.result c.requires.place count.ensures;
      within = subst (λ n. c.args.start + n ≤ length c.args.held.now) (sym count.ensures) c.requires.within;
    }

pub returns-clause-cells : goal.returns-clause-cells
returns-clause-cells c =
    let count = c.bytes_touched-count in
    field_is c.args.held.now c.read-cells.result c.with_field_in.result c.args.bit c.args.width c.args.field c.args.start count.result (subst (λ n. c.args.start + n ≤ length c.args.held.now) (sym count.ensures) c.requires.within) count.ensures c.read-cells.ensures c.with_field_in.ensures.cells
