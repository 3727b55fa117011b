use Rattle.cx_stops.proofs.States.{undefined_steps_stand_in_units}
use Rattle.cx_stops.proofs.undefined_steps_stand_in_units.Goals as goal

pub returns : goal.returns
returns c = undefined_steps_stand_in_units
