use Rattle.std.proofs.Common.{◌-◌, ◌+◌, length, refl, arith, rules}
use Rattle.mem_region.proofs.Written.{written}
use Rattle.mem_region.proofs.packed.write.Goals as goal

pub returns : goal.returns
returns c =
    let held = c.args.held.now in
    record {
      cells = written held.items c.as_mut_slice.result.now c.pack.new.held c.args.cells.now held.len c.args.start (length c.args.cells.now) (c.args.start + length c.args.cells.now - c.args.start) c.as_mut_slice.ensures.value held.ok.0 c.pack.ensures refl (omega arith) c.requires.within;
      room = search rules;
    }
