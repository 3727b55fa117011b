use Rattle.mem_region.proofs.Written.{copied}
use Rattle.mem_region.proofs.packed.copy.Goals as goal

pub returns : goal.returns
returns c =
    let held = c.args.held.now in
    record {
      cells = copied held.items c.copy_within.new.self.items c.args.from c.args.to c.args.count c.requires.from c.copy_within.ensures.items;
      room = c.copy_within.ensures.capacity;
    }
