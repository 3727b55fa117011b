use Rattle.rs_items_modules.proofs.Several.{names_stand}
use Rattle.rs_items_modules.proofs.laws.module_names_are_first.Goals as goal

pub returns : goal.returns
returns c = names_stand
