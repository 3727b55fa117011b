use Rattle.whole_given.proofs.Tables.{gets, stays}
use Rattle.whole_given.proofs.table.NameTable.give.Goals as goal

pub returns-then-contains_key : goal.returns-then-contains_key
returns-then-contains_key c = λ other. stays c.args.self.now.names c.args.key other c.args.name c.contains_key.result c.contains_key.ensures c.if-contains_key.true

pub returns : goal.returns
returns c =
    λ other. gets c.args.self.now.names c.insert.new.self c.args.key other c.args.name c.contains_key.result c.contains_key.ensures c.if-contains_key.false
    (c.in_ok-insert.ensures.updates.0 other)
