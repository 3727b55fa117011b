use Rattle.cx_typed.proofs.Unbroken.{unbroken_node}
use Rattle.cx_typed.proofs.unbroken_nodes_break_none.Goals as goal

pub returns : goal.returns
returns c = unbroken_node
