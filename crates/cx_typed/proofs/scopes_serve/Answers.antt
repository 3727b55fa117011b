use Rattle.cx_typed.proofs.Scopes.{serve}
use Rattle.cx_typed.proofs.scopes_serve.Goals as goal

pub returns : goal.returns
returns c = serve
