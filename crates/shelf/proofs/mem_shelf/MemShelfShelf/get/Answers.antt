use Rattle.shelf.proofs.mem_shelf.MemShelfShelf.get.Goals as goal

pub returns-clause-listed : goal.returns-clause-listed
returns-clause-listed c =
    let begun = c.next_call-call.ensures in
    let listed = rw (begun.number, begun.numbered) at c.read-outcome.ensures.listed in
    rw c.settle.ensures.same listed
