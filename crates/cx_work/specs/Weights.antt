-- How large an expression under evaluation is: what a walk over it goes down by.
use Rattle.std.specs.Prelude.{ℕ, suc, ◌+◌, List, [], ◌∷◌, map}
use Rattle.cx_work.specs.declared.work.Work.{Work}
use Rattle.cx_work.specs.declared.work.Work.TheFolds.{fold-Work}
use Rattle.cx_work.specs.declared.work.Work.TheOpen as o

abbrev total : List ℕ → ℕ
total [] = 0
total (first ∷ others) = suc (first + total others)

abbrev node_weight : o.Work-F ℕ → ℕ
node_weight (o.Finished operand) = 1
node_weight (o.Needs node operands) = suc (total operands)
node_weight (o.Chooses node first) = suc first
node_weight (o.Tests node marks second) = suc second
node_weight (o.Carries node marks part) = suc part
node_weight (o.Updates node update stage marks) = 1
node_weight (o.Fills node marks one others value) = suc value
node_weight (o.Waits node marks) = 1

-- the nodes of a tree
abbrev pub weight : Work → ℕ
weight = fold-Work ℕ node_weight

-- the nodes of trees, and one more for each tree
abbrev pub weights : List Work → ℕ
weights works = total (map weight works)
