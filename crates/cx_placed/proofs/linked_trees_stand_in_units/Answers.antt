use Rattle.cx_placed.proofs.Linked.{linked_trees_stand_in_units}
use Rattle.cx_placed.proofs.linked_trees_stand_in_units.Goals as goal

pub returns : goal.returns
returns c = linked_trees_stand_in_units
