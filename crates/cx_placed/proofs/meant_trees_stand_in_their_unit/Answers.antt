use Rattle.cx_placed.proofs.Units.{meant_trees_stand_in_their_unit}
use Rattle.cx_placed.proofs.meant_trees_stand_in_their_unit.Goals as goal

pub returns : goal.returns
returns c = meant_trees_stand_in_their_unit
