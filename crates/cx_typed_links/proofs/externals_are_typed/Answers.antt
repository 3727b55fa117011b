use Rattle.cx_typed_links.proofs.LinksHold.{externals_are_typed}
use Rattle.cx_typed_links.proofs.externals_are_typed.Goals as goal

pub returns : goal.returns
returns c = externals_are_typed
