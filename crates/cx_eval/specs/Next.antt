-- What a step of an expression is.
use Rattle.std.specs.Prelude.{◌≡◌, ℕ, ◌<◌, Result, Ok, Err}
use Rattle.cr_base.specs.declared.memory.Memory.{Memory}
use Rattle.cx_access.specs.Views.{compatible_pairs}
use Rattle.cx_core.specs.declared.program.Parts.{Parts}
use Rattle.cx_core.specs.Layouts.{CLayouts}
use Rattle.cx_core.specs.Views.{view_program, view_types}
use Rattle.cx_ready.specs.declared.halt.Halt.{Halt}
use Rattle.cx_ready.specs.declared.halt.Halt.TheVariants as halt
use Rattle.cx_ready.specs.declared.halt.Progress.{Progress}
use Rattle.cx_ready.specs.declared.halt.Progress.TheVariants as progress
use Rattle.cx_eval.specs.declared.step.Next.{Next}
use Rattle.cx_eval.specs.declared.step.Next.TheVariants as next
use Rattle.cx_mean.specs.Operands.{breaks, Frame}
use Rattle.cx_mean.specs.Settings.{CSetting}
use Rattle.cx_mean.specs.Steps.{did, asks_call, step_at}
use Rattle.cx_mean.specs.Work.{CWork, ready}
use Rattle.cx_work.specs.Views.{view_called}
use Rattle.mem_bytes.specs.Memory.{Blocks}

-- what a program looks up, with these layouts
abbrev pub setting_by : Parts → CLayouts → CSetting
setting_by program layouts = record { program = view_program program; layouts = layouts; pairs = compatible_pairs (view_types program.types) }

-- The step at a ready node: what is left of the tree, and the memory behind it; a call leaves memory as it is. Nothing is said of
-- memory behind a fault, and nothing where memory was wanting.
abbrev pub Takes : Result Next Memory → CSetting → Frame → (before later : Blocks) → (pick : ℕ) → (work left : CWork) → Type 0
Takes (Ok next.Stepped) setting frame before later pick work left =
    (pick < ready work) × (step_at setting frame before pick work ≡ Ok (did left later))
Takes (Ok (next.Calls called)) setting frame before later pick work left =
    (pick < ready work) × (step_at setting frame before pick work ≡ Ok (asks_call (view_called called) left)) × (later ≡ before)
Takes (Ok (next.Undefined rule place)) setting frame before later pick work left =
    (pick < ready work) × (step_at setting frame before pick work ≡ Err (record { why = breaks rule; place = place }))
Takes (Err _) setting frame before later pick work left = Unit {0}

-- memory was wanting
abbrev pub IsLacking : Result Next Memory → Type 0
IsLacking (Ok one) = ⊥
IsLacking (Err memory) = Unit {0}

-- what the step leaves of which this came
abbrev pub IsNext : Result Progress Halt → Result Next Memory → Type 0
IsNext (Ok progress.Stepped) result = result ≡ Ok next.Stepped
IsNext (Ok (progress.Calls called)) result = result ≡ Ok (next.Calls called)
IsNext (Err (halt.Undefined rule place)) result = result ≡ Ok (next.Undefined rule place)
IsNext (Err halt.Memory) result = IsLacking result
