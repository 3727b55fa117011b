-- Nodes that are ready themselves, and their steps by the forms of these nodes.
use Rattle.std.specs.Prelude.{Bool, true, false, Some}
use Rattle.cx_ready.specs.Nodes.{stage_by}
use Rattle.cx_ready.specs.Parts.{by_part}
use Rattle.cx_mean.specs.Operands.{Frame}
use Rattle.cx_mean.specs.Settings.{CSetting}
use Rattle.cx_mean.specs.Steps.{CStepped, at_node, chooses_step, needs_step, place_of_put, put_step, tests_step, step_at}
use Rattle.cx_mean.specs.Work.{CWork, finished, needs, chooses, tests, carries, updates, fills, waits, is_finished, are_finished, operands_in}
use Rattle.mem_bytes.specs.Memory.{Blocks}

-- the operands of the node are finished on which its step waits
abbrev pub node_ready : CWork → Bool
node_ready (needs node operands) = are_finished operands
node_ready (chooses node first) = is_finished first
node_ready (tests node marks second) = is_finished second
node_ready (fills node marks one others value) = is_finished value
node_ready (updates node update stage marks) = true
node_ready (finished operand) = false
node_ready (carries node marks part) = false
node_ready (waits node marks) = false

-- the step of such a node
abbrev pub node_stepped : CSetting → Frame → Blocks → CWork → CStepped
node_stepped setting frame blocks (needs node operands) = needs_step setting frame blocks node (operands_in operands)
node_stepped setting frame blocks (chooses node first) = by_part node (chooses_step blocks node) (Some first)
node_stepped setting frame blocks (tests node marks second) = by_part node (tests_step blocks node marks) (Some second)
node_stepped setting frame blocks (updates node update stage marks) =
    stage_by setting frame blocks node stage (updates node update stage marks)
node_stepped setting frame blocks (fills node marks one others value) =
    by_part node (λ operand. at_node (place_of_put one) (put_step setting frame blocks node marks one others operand)) (Some value)
node_stepped setting frame blocks work = step_at setting frame blocks 0 work
