use Rattle.cx_stays.proofs.HeldStates.{runs_hold_cells}
use Rattle.cx_stays.proofs.runs_hold_cells.Goals as goal

pub returns : goal.returns
returns c = runs_hold_cells
