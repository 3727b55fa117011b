-- The bit-fields that a linked program names are those of the profile.
use Rattle.std.specs.Prelude.{All}
use Rattle.build_flow_code.specs.Fits.{StmtFits}
use Rattle.cx_core.specs.Linked.{IsLinked}
use Rattle.cx_core.specs.Trees.{CFun, CProgram}
use Rattle.whole_texts.specs.Statics.{AllFit}

pub record ProgramsFit : Type 0 where
  -- in the bodies of functions
  pub bodies : (program : CProgram) → IsLinked program → All (λ (one : CFun). StmtFits one.body) program.functions
  -- in what is stored in static objects before the program begins
  pub initialisers : (program : CProgram) → IsLinked program → AllFit program.objects
