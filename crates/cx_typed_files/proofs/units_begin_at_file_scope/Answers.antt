use Rattle.cx_typed_files.proofs.FileDeclarations.{units_begin}
use Rattle.cx_typed_files.proofs.units_begin_at_file_scope.Goals as goal

pub returns : goal.returns
returns c = units_begin
