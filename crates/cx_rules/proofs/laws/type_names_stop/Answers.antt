use Rattle.cx_rules.proofs.TreesAgree.{on_type_name_walk}
use Rattle.cx_rules.proofs.laws.type_names_stop.Goals as goal

pub returns : goal.returns
returns c = on_type_name_walk
