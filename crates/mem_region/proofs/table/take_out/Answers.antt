use Rattle.mem_region.proofs.Slid.{past, taken_out}
use Rattle.mem_region.proofs.table.take_out.Goals as goal

pub slide-requires : goal.slide-requires
slide-requires c =
    past c.args.table.now.items c.remove-dead.new.self.items c.as_mut_slice.result.now c.args.index c.remove-dead.result c.requires.table c.requires.index c.remove-dead.ensures.value c.remove-dead.ensures.items c.as_mut_slice.ensures.value

pub returns-clause-rest : goal.returns-clause-rest
returns-clause-rest c =
    let rest = c.remove-dead.new.self in
    taken_out c.args.table.now.items rest.items c.as_mut_slice.result.now c.slide.new.table rest.len c.args.index c.remove-dead.result.size c.requires.index c.remove-dead.ensures.items c.as_mut_slice.ensures.value rest.ok.0 c.slide.ensures
