use Rattle.cx_typed_links.proofs.LinksHold.{uses_hold_where_linked}
use Rattle.cx_typed_links.proofs.uses_hold_where_linked.Goals as goal

pub returns : goal.returns
returns c = uses_hold_where_linked
