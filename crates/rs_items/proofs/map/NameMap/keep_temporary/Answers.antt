use Rattle.rs_items.proofs.Kept.{kept_temporary}
use Rattle.rs_items.proofs.map.NameMap.keep_temporary.Goals as goal

pub returns-clause-known : goal.returns-clause-known
returns-clause-known c = λ other. kept_temporary c.args.self.now.temporaries c.insert.new.self c.args.number c.args.one other (c.in_ok-insert.ensures.updates.0 other)
