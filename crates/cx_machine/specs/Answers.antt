-- Calls of functions that no unit defines, from a full expression that is held.
use Rattle.std.specs.Prelude.{◌≡◌, Option, Some, None}
use Rattle.cx_machine.specs.declared.machine.Machine.{Machine}
use Rattle.cx_machine.specs.declared.stop.Stop.{Stop}
use Rattle.cx_machine.specs.declared.stop.Stop.TheVariants as stop
use Rattle.cx_machine.specs.Machines.{GoesTo, going_next}
use Rattle.cx_mean.specs.Calls.{COutcome}
use Rattle.cx_mean.specs.Moves.{CPurpose}
use Rattle.cx_mean.specs.Operands.{CValue}
use Rattle.cx_mean.specs.State.{CState, answered_by}
use Rattle.cx_mean.specs.Marks.{no_marks}
use Rattle.cx_mean.specs.Work.{CWork, waits, resumed}
use Rattle.cx_moves.specs.declared.moves.Purpose.{Purpose}
use Rattle.cx_moves.specs.Ways.{no_expr}
use Rattle.cx_moves.specs.Sites.{view_purpose, view_site}
use Rattle.cx_outside.specs.declared.calls.Halt.{Halt}
use Rattle.cx_outside.specs.declared.calls.Halt.TheVariants as halt
use Rattle.cx_work.specs.declared.work.Work.{Work}
use Rattle.cx_work.specs.Views.{view_work}
use Rattle.mem_bytes.specs.Memory.{Blocks}

-- the full expression that is held; there always is one then
abbrev pub held_work : Option Work → CWork
held_work None = waits no_expr no_marks
held_work (Some work) = view_work work

-- a call from it is answered
abbrev pub answered_with : CState → Option Work → CPurpose → COutcome → CState
answered_with state work purpose outcome = answered_by state (held_work work) purpose outcome

-- the value of a call takes its place
abbrev pub Fills : Option Work → Option Work → CValue → Type 0
Fills None new value = ⊥
Fills (Some work) None value = ⊥
Fills (Some work) (Some new) value = view_work new ≡ resumed value (view_work work)

-- a full expression goes on with it
abbrev pub GoesOnAs : (old new : Machine) → Option Work → Purpose → CValue → (before after : Blocks) → Type 0
GoesOnAs old new None purpose value before after = ⊥
GoesOnAs old new (Some work) purpose value before after =
    GoesTo old new (going_next (resumed value (view_work work)) (view_purpose (view_site old.site) purpose) before) after

abbrev pub GoesOnWith : (old new : Machine) → Purpose → CValue → (before after : Blocks) → Type 0
GoesOnWith old new purpose value before after = GoesOnAs old new old.work purpose value before after

abbrev pub stop_of : Halt → Stop
stop_of (halt.Undefined rule place) = stop.Undefined rule place
stop_of (halt.Lacks why) = stop.Lacks why
