use Rattle.cx_links.proofs.Mains.{units_have_main}
use Rattle.cx_links.proofs.laws.linked_units_have_main.Goals as goal

-- src/laws.rt:6:1
pub returns : goal.returns
returns c = units_have_main
