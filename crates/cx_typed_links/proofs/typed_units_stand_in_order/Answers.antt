use Rattle.cx_typed_links.proofs.Ordered.{typed_units_stand_in_order}
use Rattle.cx_typed_links.proofs.typed_units_stand_in_order.Goals as goal

pub returns : goal.returns
returns c = typed_units_stand_in_order
