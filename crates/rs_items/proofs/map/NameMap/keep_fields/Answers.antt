use Rattle.rs_items.proofs.Kept.{kept_fields}
use Rattle.rs_items.proofs.map.NameMap.keep_fields.Goals as goal

pub returns-clause-fields : goal.returns-clause-fields
returns-clause-fields c = λ other. kept_fields c.args.self.now.fields c.insert.new.self c.args.number c.args.members other (c.in_ok-insert.ensures.updates.0 other)
