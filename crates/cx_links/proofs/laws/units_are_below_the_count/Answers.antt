use Rattle.cx_links.proofs.UnitOrder.{units_are_below_the_count}
use Rattle.cx_links.proofs.laws.units_are_below_the_count.Goals as goal

pub returns : goal.returns
returns c = units_are_below_the_count
