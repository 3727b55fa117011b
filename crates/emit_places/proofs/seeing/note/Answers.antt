use Rattle.emit_places.proofs.Noted.{table_more}
use Rattle.emit_places.proofs.seeing.note.Goals as goal

pub returns : goal.returns
returns c = table_more c.args.table.now c.insert.new.self c.args.node c.args.seen c.in_ok-insert.ensures.updates.0
