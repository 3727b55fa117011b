use Rattle.cx_parse.proofs.Parsed.{one_tree}
use Rattle.cx_parse.proofs.laws.one_tree.Goals as goal

pub returns : goal.returns
returns c = one_tree
