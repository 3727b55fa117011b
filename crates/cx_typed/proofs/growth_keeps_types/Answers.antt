use Rattle.cx_typed.proofs.Growing.{growth_keeps_types}
use Rattle.cx_typed.proofs.growth_keeps_types.Goals as goal

pub returns : goal.returns
returns c = growth_keeps_types
