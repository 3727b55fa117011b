use Rattle.whole_lifted_names.proofs.Few.{few_temporaries}
use Rattle.whole_lifted_names.proofs.laws.temporaries_are_few.Goals as goal

pub returns : goal.returns
returns c = few_temporaries
