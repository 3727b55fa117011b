-- Steps that leave memory, and the accesses of their operand, as they are.
use Rattle.std.proofs.Common.{ap, Result, Ok, Err}
use Rattle.cx_access.specs.declared.trouble.Trouble.{Trouble}
use Rattle.cx_access.specs.declared.trouble.Trouble.TheVariants.{Undefined, Memory}
use Rattle.cx_access.specs.Finds.{Finds}
use Rattle.cx_mean.specs.Marks.{Marks}
use Rattle.cx_mean.specs.Nodes.{gives_value}
use Rattle.cx_mean.specs.Operands.{CValue, CWhy}
use Rattle.cx_work.specs.declared.operand.Finished.{Finished}
use Rattle.cx_work.specs.Views.{view_finished}
use Rattle.mem_bytes.specs.Memory.{Blocks}

pub given_done : (result : Result Finished Trouble) (found : Result CValue CWhy) (marks : Marks) (blocks : Blocks) → Finds view_finished result found →
    Finds (λ (given : Finished). record { value = view_finished given; marks = marks; blocks = blocks }) result (gives_value marks blocks found)
given_done (Ok value) found marks blocks is = ap (gives_value marks blocks) is
given_done (Err (Undefined rule)) found marks blocks is = ap (gives_value marks blocks) is
given_done (Err Memory) found marks blocks is = tt
