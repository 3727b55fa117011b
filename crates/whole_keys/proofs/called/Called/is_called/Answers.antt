use Rattle.whole_keys.proofs.Bare.{first_called, second_called}
use Rattle.whole_keys.proofs.called.Called.is_called.Goals as goal

pub returns-then-is_called_with : goal.returns-then-is_called_with
returns-then-is_called_with c = first_called c.args.self.now c.args.number c.is_called_with.result c.is_called_with.ensures c.if-is_called_with.true

pub returns-else-is_called_with : goal.returns-else-is_called_with
returns-else-is_called_with c =
    second_called c.args.self.now c.args.number c.is_called_with.result c.is_called_bare.result c.is_called_with.ensures c.if-is_called_with.false c.is_called_bare.ensures
