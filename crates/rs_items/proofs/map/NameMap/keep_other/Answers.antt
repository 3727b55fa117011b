use Rattle.rs_items.proofs.Kept.{kept_one}
use Rattle.rs_items.proofs.map.NameMap.keep_other.Goals as goal

pub returns-clause-known : goal.returns-clause-known
returns-clause-known c = λ other. kept_one c.args.self.now.kept c.insert.new.self c.args.named c.args.one other (c.in_ok-insert.ensures.updates.0 other)
