-- Where control goes from each place of linear code, by numbers.
use Rattle.std.specs.Prelude.{ℕ, suc, List, [], ◌∷◌, map, Option, Some, None, slice_get}
use Rattle.build_flow_linear.specs.Linear.{Instr, marks, does, leaves}
use Rattle.build_flow_nodes.specs.Flows.{branch_places}
use Rattle.build_flow_nodes.specs.Points.{FlowPlace}
use Rattle.build_flow_reached.specs.declared.table.Table.{Table}

-- the number of the branch at which each place ends, where the branches are numbered from one on
abbrev pub branches_from : ℕ → List Instr → List ℕ
branches_from number [] = []
branches_from number (marks one ∷ others) = number ∷ branches_from number others
branches_from number (does body ∷ others) = branches_from number others
branches_from number (leaves branch ∷ others) = branches_from (suc number) others

-- the numbers of the places to which each branch leads
abbrev pub arms_in : (FlowPlace → ℕ) → List Instr → List (List ℕ)
arms_in number [] = []
arms_in number (marks one ∷ others) = arms_in number others
arms_in number (does body ∷ others) = arms_in number others
arms_in number (leaves branch ∷ others) = map number (branch_places branch) ∷ arms_in number others

abbrev pub row_or_none : Option (List ℕ) → List ℕ
row_or_none None = []
row_or_none (Some row) = row

abbrev pub row_at : List (List ℕ) → Option ℕ → List ℕ
row_at arms None = []
row_at arms (Some branch) = row_or_none (slice_get arms branch)

-- the numbers of the places to which control goes from the place of a number
abbrev pub arms_from : List ℕ → List (List ℕ) → ℕ → List ℕ
arms_from branches arms place = row_at arms (slice_get branches place)

abbrev pub arms_of : Table → ℕ → List ℕ
arms_of table place = arms_from table.branches table.arms place
