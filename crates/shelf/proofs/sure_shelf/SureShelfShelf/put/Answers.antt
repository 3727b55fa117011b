use Rattle.std.proofs.Common.{Some}
use Rattle.shelf.specs.Files.{bytes_or_empty}
use Rattle.shelf.proofs.FileLemmas.{or_empty_of_stored}
use Rattle.shelf.proofs.HeldLemmas.{others_of_stored}
use Rattle.shelf.proofs.sure_shelf.SureShelfShelf.put.Goals as goal

pub returns-clause-stored : goal.returns-clause-stored
returns-clause-stored c =
    let stored = rw c.in_ok-file.ensures at c.in_ok-store.ensures.stored in
    rw (← c.self.view_is) (or_empty_of_stored c.args.name.now c.args.bytes.now c.self.inside.files.items c.store.new.files.items stored)

pub returns-clause-others : goal.returns-clause-others
returns-clause-others c =
    let stored = rw c.in_ok-file.ensures at c.in_ok-store.ensures.stored in
    let told = or_empty_of_stored c.args.name.now c.args.bytes.now c.self.inside.files.items c.store.new.files.items stored in
    rw (← c.self.view_is) (others_of_stored c.args.name.now c.args.bytes.now (Some (bytes_or_empty c.self.inside.files.items)) (Some (bytes_or_empty c.store.new.files.items)) told)
