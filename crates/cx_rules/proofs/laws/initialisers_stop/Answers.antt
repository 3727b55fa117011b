use Rattle.cx_rules.proofs.TreesAgree.{on_initialiser_walk}
use Rattle.cx_rules.proofs.laws.initialisers_stop.Goals as goal

pub returns : goal.returns
returns c = on_initialiser_walk
