use Rattle.std.proofs.Common.{rules}
use Rattle.straight_whole.proofs.Examples.{translatable}
use Rattle.straight_whole.proofs.laws.example_is_translatable.Goals as goal

pub returns : goal.returns
returns c = translatable (search rules)
