use Rattle.std.proofs.Common.{rules}
use Rattle.straight_decl.proofs.ObjectNumbers.{noted}
use Rattle.straight_decl.proofs.object_names.note.Goals as goal

pub returns-clause-noted : goal.returns-clause-noted
returns-clause-noted c =
    noted c.args.index.now c.insert.new.self c.in_ok-key.key c.args.name.now c.args.number (search rules) (search rules) c.in_ok-insert.ensures.updates
