use Rattle.whole_names.proofs.Named.{of_modules}
use Rattle.whole_names.proofs.laws.names_of_modules.Goals as goal

pub returns : goal.returns
returns c = of_modules
