use Rattle.std.proofs.Common.{rules}
use Rattle.cx_linked.proofs.FirstPlaces.{noted_new}
use Rattle.cx_linked.proofs.index.Index.note.Goals as goal

pub returns : goal.returns
returns c = λ wanted.
    noted_new c.args.self.now.first c.insert.new.self c.args.name.now wanted c.args.place c.in_ok-key.key (search rules) (search rules) c.in_ok-insert.ensures.updates
