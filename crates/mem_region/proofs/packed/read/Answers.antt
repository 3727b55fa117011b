use Rattle.mem_region.proofs.Written.{read_is}
use Rattle.mem_region.proofs.packed.read.Goals as goal

pub returns : goal.returns
returns c =
    read_is c.args.held.now c.unpacked.result _ c.args.start c.args.count c.requires.within c.unpacked.ensures
