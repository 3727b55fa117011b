use Rattle.std.proofs.Common.{Some}
use Rattle.shelf.specs.Files.{bytes_of}
use Rattle.shelf.proofs.HeldLemmas.{others_of_stored}
use Rattle.shelf.proofs.mem_shelf.MemShelf.write.Goals as goal

pub returns-clause-others : goal.returns-clause-others
returns-clause-others c =
    let stored = rw c.in_ok-file.ensures at c.in_ok-store.ensures.stored in
    rw (← c.self.view_is) (others_of_stored c.args.name.now c.args.bytes.now (Some (bytes_of c.self.inside.files.items)) (Some (bytes_of c.store.new.files.items)) stored)
