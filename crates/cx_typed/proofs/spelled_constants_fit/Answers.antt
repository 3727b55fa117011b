use Rattle.cx_typed.proofs.Lexed.{spelled_constants}
use Rattle.cx_typed.proofs.spelled_constants_fit.Goals as goal

pub returns : goal.returns
returns c = spelled_constants
