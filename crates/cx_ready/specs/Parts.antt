-- Parts of nodes.
use Rattle.std.specs.Prelude.{Option, Some, None, Result, Err}
use Rattle.cx_core.specs.Trees.{CExpr}
use Rattle.cx_mean.specs.Marks.{Marks, no_marks}
use Rattle.cx_mean.specs.Operands.{CWhy, stuck, COperand}
use Rattle.cx_mean.specs.Steps.{CStepped, nowhere}
use Rattle.cx_mean.specs.Work.{CUpdate, CStage, was_loaded, CWorks, no_works, CWork, finished, needs, chooses, tests, carries, updates, fills, waits}

-- the operand behind which a node goes on
abbrev pub part_in : CWork → Option CWork
part_in (chooses node first) = Some first
part_in (tests node marks second) = Some second
part_in (fills node marks one others value) = Some value
part_in (finished operand) = None
part_in (needs node operands) = None
part_in (carries node marks part) = None
part_in (updates node update stage marks) = None
part_in (waits node marks) = None

-- the marks of what went before
abbrev pub marks_in : CWork → Marks
marks_in (tests node marks second) = marks
marks_in (updates node update stage marks) = marks
marks_in (fills node marks one others value) = marks
marks_in (finished operand) = no_marks
marks_in (needs node operands) = no_marks
marks_in (chooses node first) = no_marks
marks_in (carries node marks part) = no_marks
marks_in (waits node marks) = no_marks

-- a node from which these marks were taken
abbrev pub without_marks : CWork → CWork
without_marks (tests node marks second) = tests node no_marks second
without_marks (updates node update stage marks) = updates node update stage no_marks
without_marks (fills node marks one others value) = fills node no_marks one others value
without_marks work = work

-- the operands that a node needs
abbrev pub works_in : CWork → CWorks
works_in (needs node operands) = operands
works_in (finished operand) = no_works
works_in (chooses node first) = no_works
works_in (tests node marks second) = no_works
works_in (carries node marks part) = no_works
works_in (updates node update stage marks) = no_works
works_in (fills node marks one others value) = no_works
works_in (waits node marks) = no_works

-- the stage of `op=`, `++` or `--`
abbrev pub stage_in : CWork → CStage
stage_in (updates node update stage marks) = stage
stage_in (finished operand) = was_loaded
stage_in (needs node operands) = was_loaded
stage_in (chooses node first) = was_loaded
stage_in (tests node marks second) = was_loaded
stage_in (carries node marks part) = was_loaded
stage_in (fills node marks one others value) = was_loaded
stage_in (waits node marks) = was_loaded

abbrev pub with_stage : CStage → CWork → CWork
with_stage stage (updates node update old marks) = updates node update stage marks
with_stage stage work = work

-- what `op=`, `++` or `--` gives by what was loaded
abbrev pub by_update : {A : Type 0} → (CUpdate → Result A CWhy) → CWork → Result A CWhy
by_update step (updates node update stage marks) = step update
by_update step work = Err stuck

-- the step of a node with its finished part
abbrev pub by_part : CExpr → (COperand → CStepped) → Option CWork → CStepped
by_part node step (Some (finished operand)) = step operand
by_part node step part = nowhere node
