-- How a value that is at hand once is put in the place of a call.
use Rattle.std.specs.Prelude.{◌≡◌, ℕ, ◌+◌, ◌<◌, List, Option, Some, None, Result, Ok, Err}
use Rattle.cr_base.specs.declared.memory.Memory.{Memory}
use Rattle.cx_core.specs.declared.expr.CoreExpr.{CoreExpr}
use Rattle.cx_core.specs.Views.{view_expr}
use Rattle.cx_mean.specs.Marks.{Marks}
use Rattle.cx_mean.specs.Operands.{CValue}
use Rattle.cx_mean.specs.Work.{CWork, waits, resumed, all_resumed}
use Rattle.cx_work.specs.declared.operand.Finished.{Finished}
use Rattle.cx_work.specs.declared.work.Work.{Work}
use Rattle.cx_work.specs.Views.{view_finished, view_works}
use Rattle.cx_work.specs.Waiting.{waiting_calls, waiting_among}

-- what is at hand, if something is, is a value
abbrev pub IsFor : CValue → Option Finished → Type 0
IsFor value None = Unit {0}
IsFor value (Some one) = view_finished one ≡ value

-- how many values are at hand
abbrev pub at_hand : Option Finished → ℕ
at_hand None = 0
at_hand (Some one) = 1

-- a tree went on with whatever was at hand, one value for each call that waited; or more calls waited
abbrev pub Resumes : Result (Unit {0}) Memory → (before after : Option Finished) → CWork → CWork → Type 0
Resumes (Ok _) before after work left =
    ((value : CValue) → IsFor value before → IsFor value after × (left ≡ resumed value work)) × (waiting_calls work + at_hand after ≡ at_hand before)
Resumes (Err _) before after work left = at_hand before < waiting_calls work

abbrev pub AllResume : Result (Unit {0}) Memory → (before after : Option Finished) → List Work → List Work → Type 0
AllResume (Ok _) before after works left =
    ((value : CValue) → IsFor value before → IsFor value after × (view_works left ≡ all_resumed value (view_works works)))
    × (waiting_among (view_works works) + at_hand after ≡ at_hand before)
AllResume (Err _) before after works left = at_hand before < waiting_among (view_works works)

-- a tree is a call that waits
abbrev pub WaitsAt : CoreExpr → CWork → Type 0
WaitsAt node work = (marks : Marks) × (work ≡ waits (view_expr node) marks)
