use Rattle.whole_names.proofs.Named.{of_functions}
use Rattle.whole_names.proofs.laws.names_of_functions.Goals as goal

pub returns : goal.returns
returns c = of_functions
