use Rattle.cx_typed_files.proofs.Covered.{covered_mentions}
use Rattle.cx_typed_files.proofs.mentions_are_covered.Goals as goal

pub returns : goal.returns
returns c = covered_mentions
