use Rattle.std.proofs.Common.{◌∙◌}
use Rattle.rs_items_sets.proofs.Taken.{any_name}
use Rattle.rs_items_sets.proofs.sets.NameSet.has.Goals as goal

pub returns : goal.returns
returns c = c.contains.ensures ∙ any_name c.args.self.now.taken.keys c.args.name.now
