-- Outcomes of the steps of nodes.
use Rattle.std.specs.Prelude.{◌≡◌, Result, Ok, Err}
use Rattle.cx_core.specs.Trees.{CExpr, place_of, type_of}
use Rattle.cx_ready.specs.declared.halt.Halt.{Halt}
use Rattle.cx_ready.specs.declared.halt.Halt.TheVariants as halt
use Rattle.cx_ready.specs.declared.halt.Progress.{Progress}
use Rattle.cx_ready.specs.declared.halt.Progress.TheVariants as progress
use Rattle.cx_mean.specs.Calls.{CCalling}
use Rattle.cx_mean.specs.Nodes.{CDone, CUpdating, update_computed, update_converted, update_stored}
use Rattle.cx_mean.specs.Operands.{CWhy, Frame}
use Rattle.cx_mean.specs.Settings.{CSetting}
use Rattle.cx_ready.specs.Parts.{by_update, marks_in, with_stage}
use Rattle.cx_mean.specs.Steps.{CStepped, at_node, outcome_of, did, did_done, did_update, did_call}
use Rattle.cx_mean.specs.Work.{CStage, was_loaded, was_computed, was_converted, CWork, waits}
use Rattle.cx_node_steps.specs.declared.calls.Calling.{Calling}
use Rattle.mem_bytes.specs.declared.value.Value.{Value}
use Rattle.mem_bytes.specs.Memory.{Blocks}

-- a node gives a value
abbrev pub done_as : CExpr → Result CDone CWhy → CStepped
done_as node found = at_node (place_of node) (outcome_of (did_done (type_of node)) found)

-- `op=`, `++` or `--` is behind its load
abbrev pub updates_as : CExpr → Blocks → Result CUpdating CWhy → CStepped
updates_as node blocks found = at_node (place_of node) (outcome_of (did_update node blocks) found)

-- a node calls a function
abbrev pub calls_as : CExpr → Result CCalling CWhy → CStepped
calls_as node found = at_node (place_of node) (outcome_of (did_call node) found)

-- a stage of `op=`, `++` or `--` that leaves memory as it is
abbrev pub stage_left : CExpr → Blocks → (Value → CWork) → Result Value CWhy → CStepped
stage_left node blocks left found = at_node (place_of node) (outcome_of (λ value. did (left value) blocks) found)

-- the step was taken, and left this
abbrev pub IsLoaded : Result Progress Halt → (left tree : CWork) → Type 0
IsLoaded (Ok progress.Stepped) left tree = left ≡ tree
IsLoaded (Ok (progress.Calls called)) left tree = ⊥
IsLoaded (Err halt.Memory) left tree = Unit {0}
IsLoaded (Err (halt.Undefined rule place)) left tree = ⊥

-- the node calls, and waits
abbrev pub IsWaiting : Result Progress Halt → (left : CWork) → CExpr → Calling → Type 0
IsWaiting (Ok (progress.Calls called)) left node one = (called ≡ one.called) × (left ≡ waits node one.marks)
IsWaiting (Ok progress.Stepped) left node one = ⊥
IsWaiting (Err halt.Memory) left node one = Unit {0}
IsWaiting (Err (halt.Undefined rule place)) left node one = ⊥

-- the next stage of `op=`, `++` or `--`
abbrev pub stage_by : CSetting → Frame → Blocks → CExpr → CStage → CWork → CStepped
stage_by setting frame blocks node was_loaded work =
    stage_left node blocks (λ new. with_stage (was_computed new) work) (by_update (update_computed setting blocks) work)
stage_by setting frame blocks node (was_computed new) work =
    stage_left node blocks (λ value. with_stage (was_converted value) work) (by_update (λ update. update_converted setting blocks update new) work)
stage_by setting frame blocks node (was_converted new) work =
    done_as node (by_update (λ update. update_stored setting frame blocks update (marks_in work) new) work)
