-- Returns of functions, by parts.
use Rattle.std.specs.Prelude.{◌≡◌, ℤ, Result, Ok, Err}
use Rattle.cx_mean.specs.Operands.{CWhy, breaks, CValue}
use Rattle.cx_mean.specs.State.{no_place}
use Rattle.cx_mean.specs.Work.{resumed}
use Rattle.mem_bytes.specs.Memory.{Blocks}
use Rattle.cx_machine.specs.declared.machine.Caller.{Caller}
use Rattle.cx_machine.specs.declared.machine.Machine.{Machine}
use Rattle.cx_machine.specs.declared.stop.Stop.{Stop}
use Rattle.cx_machine.specs.declared.stop.Stop.TheVariants as stop
use Rattle.cx_machine.specs.Machines.{GoesTo, going_next}
use Rattle.cx_moves.specs.Sites.{view_purpose, view_site}
use Rattle.cx_outside.specs.declared.outside.Lack.TheVariants as lack
use Rattle.cx_work.specs.Views.{view_work}

-- the program ends with a status
abbrev pub IsEnd : Stop → ℤ → Type 0
IsEnd (stop.Ended one) status = one ≡ status
IsEnd (stop.Undefined rule place) status = ⊥
IsEnd (stop.Lacks why) status = why ≡ lack.Memory

-- the program ends where the value that `main` gives is one
abbrev pub EndsBy : Stop → Result ℤ CWhy → Type 0
EndsBy (stop.Ended status) found = found ≡ Ok status
EndsBy (stop.Undefined rule place) found = (found ≡ Err (breaks rule)) × (place ≡ no_place)
EndsBy (stop.Lacks why) found = why ≡ lack.Memory

-- a caller goes on with a value
abbrev pub Resumes : (old new : Machine) → Caller → CValue → (before after : Blocks) → Type 0
Resumes old new caller value before after =
    GoesTo old new (going_next (resumed value (view_work caller.work)) (view_purpose (view_site caller.site) caller.purpose) before) after
