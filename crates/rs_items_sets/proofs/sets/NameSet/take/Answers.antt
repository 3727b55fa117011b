use Rattle.std.proofs.Common.{◌∙◌, ap}
use Rattle.rs_items_sets.specs.Sets.{names_in}
use Rattle.rs_items_sets.proofs.Taken.{taken_last}
use Rattle.rs_items_sets.proofs.sets.NameSet.take.Goals as goal

pub returns-clause-names : goal.returns-clause-names
returns-clause-names c = ap names_in c.in_ok-insert.ensures.keys ∙ taken_last c.args.self.now.taken.keys c.args.name c.requires
