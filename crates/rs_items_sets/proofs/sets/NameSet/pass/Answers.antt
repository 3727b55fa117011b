use Rattle.rs_items_sets.proofs.Taken.{puts}
use Rattle.rs_items_sets.proofs.sets.NameSet.pass.Goals as goal

pub returns-clause-passed : goal.returns-clause-passed
returns-clause-passed c = λ other. puts c.args.self.now.passed c.insert.new.self c.args.name c.args.count c.in_ok-insert.ensures.updates other
