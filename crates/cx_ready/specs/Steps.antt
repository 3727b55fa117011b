-- What the step of a node did of an expression under evaluation.
use Rattle.std.specs.Prelude.{◌≡◌, Result, Ok, Err}
use Rattle.cx_ready.specs.declared.halt.Halt.{Halt}
use Rattle.cx_ready.specs.declared.halt.Halt.TheVariants as halt
use Rattle.cx_ready.specs.declared.halt.Progress.{Progress}
use Rattle.cx_ready.specs.declared.halt.Progress.TheVariants as progress
use Rattle.cx_mean.specs.Operands.{breaks}
use Rattle.cx_mean.specs.Steps.{CStepped, did, asks_call}
use Rattle.cx_mean.specs.Work.{CWork}
use Rattle.cx_work.specs.Views.{view_called}
use Rattle.mem_bytes.specs.Memory.{Blocks}

-- the step of a node: what is left of its tree, and the memory behind it; a call leaves memory as it is; want of memory may come in
-- the place of any outcome, and nothing is said of memory behind a fault
abbrev pub Steps : Result Progress Halt → (before later : Blocks) → (left : CWork) → CStepped → Type 0
Steps (Ok progress.Stepped) before later left found = found ≡ Ok (did left later)
Steps (Ok (progress.Calls called)) before later left found = (found ≡ Ok (asks_call (view_called called) left)) × (later ≡ before)
Steps (Err (halt.Undefined rule place)) before later left found = found ≡ Err (record { why = breaks rule; place = place })
Steps (Err halt.Memory) before later left found = Unit {0}
