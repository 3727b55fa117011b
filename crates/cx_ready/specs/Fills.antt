-- The puts of compound literals.
use Rattle.std.specs.Prelude.{◌≡◌, Some}
use Rattle.cx_core.specs.Trees.{CExpr}
use Rattle.cx_core.specs.Views.{view_put, view_puts}
use Rattle.cx_ready.specs.declared.literals.Filling.{Filling}
use Rattle.cx_ready.specs.Parts.{by_part}
use Rattle.cx_mean.specs.Operands.{Frame}
use Rattle.cx_mean.specs.Settings.{CSetting}
use Rattle.cx_mean.specs.Steps.{CStepped, at_node, nowhere, place_of_put, put_step}
use Rattle.cx_mean.specs.Work.{CWork, finished, needs, chooses, tests, carries, updates, fills, waits}
use Rattle.mem_bytes.specs.Memory.{Blocks}

-- a tree is a compound literal that evaluates the value of this put
abbrev pub IsFilling : Filling → CWork → Type 0
IsFilling one (fills node marks held others value) = (view_put one.put.now ≡ held) × (view_puts one.others.now ≡ others)
IsFilling one (finished operand) = ⊥
IsFilling one (needs node operands) = ⊥
IsFilling one (chooses node first) = ⊥
IsFilling one (tests node marks second) = ⊥
IsFilling one (carries node marks part) = ⊥
IsFilling one (updates node update stage marks) = ⊥
IsFilling one (waits node marks) = ⊥

-- the store of the value of a put that is finished
abbrev pub fill_by : CSetting → Frame → Blocks → CExpr → CWork → CStepped
fill_by setting frame blocks node (fills own marks one others value) =
    by_part node (λ operand. at_node (place_of_put one) (put_step setting frame blocks node marks one others operand)) (Some value)
fill_by setting frame blocks node (finished operand) = nowhere node
fill_by setting frame blocks node (needs own operands) = nowhere node
fill_by setting frame blocks node (chooses own first) = nowhere node
fill_by setting frame blocks node (tests own marks second) = nowhere node
fill_by setting frame blocks node (carries own marks part) = nowhere node
fill_by setting frame blocks node (updates own update stage marks) = nowhere node
fill_by setting frame blocks node (waits own marks) = nowhere node
