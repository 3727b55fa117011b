use Rattle.whole_lifted_names.proofs.Lifted.{lifted_is}
use Rattle.whole_lifted_names.proofs.laws.kept_names_are_lifted.Goals as goal

pub returns : goal.returns
returns c = λ whole unit own names knows few fields bits. lifted_is whole unit own names knows few fields bits
