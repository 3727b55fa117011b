use Rattle.std.proofs.Common.{rules}
use Rattle.shelf.proofs.FileLemmas.{bytes_of-set, bytes_of-push}
use Rattle.shelf.proofs.files.store.Goals as goal

pub returns-in-Some-clause-stored : goal.returns-in-Some-clause-stored
returns-in-Some-clause-stored c = bytes_of-set c.args.files.now.items c.args.file c.in-Some.place (search rules)

pub returns-in_ok-push-in-None-clause-stored : goal.returns-in_ok-push-in-None-clause-stored
returns-in_ok-push-in-None-clause-stored c =
    let pushed = bytes_of-push c.args.files.now.items c.args.file (search rules) in
    rw c.in_ok-push-in-None.ensures.items pushed
