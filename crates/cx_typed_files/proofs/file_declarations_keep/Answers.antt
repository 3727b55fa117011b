use Rattle.cx_typed_files.proofs.FileDeclarations.{file_declarations}
use Rattle.cx_typed_files.proofs.file_declarations_keep.Goals as goal

pub returns : goal.returns
returns c = file_declarations
