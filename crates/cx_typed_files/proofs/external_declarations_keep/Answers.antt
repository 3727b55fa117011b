use Rattle.cx_typed_files.proofs.Externals.{externals_go}
use Rattle.cx_typed_files.proofs.external_declarations_keep.Goals as goal

pub returns : goal.returns
returns c = externals_go
