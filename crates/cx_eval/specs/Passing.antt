-- How far a walk comes that takes a step at each node that it leaves: among the parts of a node, and at the node itself.
use Rattle.std.specs.Prelude.{◌≡◌, ℕ, Bool, true, false, List, take, Result}
use Rattle.cx_core.specs.Trees.{CExpr}
use Rattle.cx_ready.specs.declared.halt.Halt.{Halt}
use Rattle.cx_ready.specs.declared.halt.Progress.{Progress}
use Rattle.cx_eval.specs.declared.pass.Pass.{Pass}
use Rattle.cx_eval.specs.declared.pass.Pass.TheVariants as pass
use Rattle.cx_eval.specs.Several.{Passes}
use Rattle.cx_mean.specs.Operands.{Frame}
use Rattle.cx_mean.specs.Settings.{CSetting}
use Rattle.cx_mean.specs.Work.{CWork, finished, needs, chooses, tests, carries, updates, fills, waits, ready, ready_among}
use Rattle.cx_work.specs.Views.{works_of}
use Rattle.mem_bytes.specs.Memory.{Blocks}

-- how many nodes of the parts of a node are ready
abbrev pub parts_ready : CWork → ℕ
parts_ready (finished operand) = 0
parts_ready (needs node operands) = ready_among operands
parts_ready (chooses node first) = ready first
parts_ready (tests node marks second) = ready second
parts_ready (carries node marks part) = ready part
parts_ready (updates node update stage marks) = 0
parts_ready (fills node marks one others value) = ready value
parts_ready (waits node marks) = 0

-- a walk goes on behind a node that took its step where the node is finished
abbrev pub passed_by : Bool → Pass
passed_by true = pass.Through
passed_by false = pass.Rests

-- a walk over the parts of a node: where it is through, none of their nodes is ready any more
abbrev pub PassesParts : Pass → Result Progress Halt → CSetting → Frame → (before later : Blocks) → (most rest : ℕ) → (work left : CWork) → Type 0
PassesParts pass.Through taken setting frame before later most rest work left =
    Passes pass.Rests taken setting frame before later most rest work left × (parts_ready left ≡ 0)
PassesParts pass.Rests taken setting frame before later most rest work left = Passes pass.Rests taken setting frame before later most rest work left
PassesParts pass.Halted taken setting frame before later most rest work left = Passes pass.Halted taken setting frame before later most rest work left

-- the same over operands from an index on, in front of which none is ready, of whichever node they are
abbrev pub PassesFrom : Pass → Result Progress Halt → CSetting → Frame → (before later : Blocks) → (most rest index : ℕ) → (works left : List CWork) → Type 0
PassesFrom result taken setting frame before later most rest index works left =
    ready_among (works_of (take index works)) ≡ 0
    → (node : CExpr) → PassesParts result taken setting frame before later most rest (needs node (works_of works)) (needs node (works_of left))
