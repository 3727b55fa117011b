use Rattle.cx_typed_files.proofs.Definitions.{definitions_go}
use Rattle.cx_typed_files.proofs.definitions_keep.Goals as goal

pub returns : goal.returns
returns c = definitions_go
