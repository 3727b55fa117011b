-- What steps of nodes give.
use Rattle.std.specs.Prelude.{◌≡◌, [], ◌∷◌, Result, Ok, Err}
use Rattle.cx_access.specs.declared.trouble.Trouble.{Trouble}
use Rattle.cx_access.specs.declared.trouble.Trouble.TheVariants.{Undefined, Memory}
use Rattle.cx_core.specs.Views.{view_type}
use Rattle.cx_mean.specs.Marks.{Marks}
use Rattle.cx_mean.specs.Operands.{breaks, COperand, united}
use Rattle.cx_mean.specs.Nodes.{CDone, CUpdating}
use Rattle.cx_node_steps.specs.declared.whole.Both.{Both}
use Rattle.cx_node_steps.specs.declared.whole.Done.{Done}
use Rattle.cx_node_steps.specs.declared.whole.Loaded.{Loaded}
use Rattle.cx_work.specs.Views.{view_finished, view_update}
use Rattle.mem_bytes.specs.Memory.{Blocks}

abbrev pub view_done : Blocks → Done → CDone
view_done blocks one = record { value = view_finished one.value; marks = one.marks; blocks = blocks }

abbrev pub view_loaded : Loaded → CUpdating
view_loaded one = record { update = view_update one.update; marks = one.marks }

-- two operands, of which the accesses are together
abbrev pub left_of : Marks → Both → COperand
left_of marks both = record { type = view_type both.left_ty.now; value = view_finished both.left; marks = marks }

abbrev pub right_of : Marks → Both → COperand
right_of marks both = record { type = view_type both.right_ty.now; value = view_finished both.right; marks = marks }

abbrev pub Joins : Result Both Trouble → COperand → COperand → Type 0
Joins (Ok both) one other = (united (one.marks ∷ other.marks ∷ []) ≡ Ok both.marks) × (left_of one.marks both ≡ one) × (right_of other.marks both ≡ other)
Joins (Err (Undefined rule)) one other = united (one.marks ∷ other.marks ∷ []) ≡ Err (breaks rule)
Joins (Err Memory) one other = Unit {0}
