use Rattle.cx_typed_files.proofs.Defining.{defining_mentions}
use Rattle.cx_typed_files.proofs.mentions_define.Goals as goal

pub returns : goal.returns
returns c = defining_mentions
