use Rattle.cx_links.proofs.UnitOrder.{objects_stand_unit_by_unit}
use Rattle.cx_links.proofs.laws.objects_stand_unit_by_unit.Goals as goal

pub returns : goal.returns
returns c = objects_stand_unit_by_unit
