-- The flow of a body: the places that control reaches, numbered in the order of the text (ISO C99, 6.8).
use Rattle.std.specs.Prelude.{ℕ, zero, suc, ◌||◌, Bool, false, if◌then◌else◌, List, [], ◌∷◌, ◌++◌, length, map, filter, flat_map, Option, Some, None}
use Rattle.build_flow_nodes.specs.Builder.{points_in_body, statement_at}
use Rattle.build_flow_nodes.specs.Parts.{BodyNames}
use Rattle.build_flow_nodes.specs.Points.{FlowPlace, same_place, PlacedCase, PlacedBranch, goes, tests, chooses, returns, Point, Placed, point_at}
use Rattle.cx_core.specs.Trees.{CStmt}
use Rattle.flow.specs.Flows.{FlowTree, NodeTree, BranchTree, go, if_test, switch, gives, CaseTree}
use Rattle.rs_text.specs.Tree.{stmts}

-- ---- what is reached

abbrev pub branch_places : PlacedBranch → List FlowPlace
branch_places (goes to) = to ∷ []
branch_places (tests test if_true if_false) = if_true ∷ if_false ∷ []
branch_places (chooses one) = map (λ (it : PlacedCase). it.to) one.cases ++ (one.other ∷ [])
branch_places (returns value) = []

abbrev pub places_from : Option Point → List FlowPlace
places_from None = []
places_from (Some point) = branch_places point.last

abbrev pub is_among : FlowPlace → List FlowPlace → Bool
is_among place [] = false
is_among place (one ∷ others) = same_place place one || is_among place others

-- places and those that are reached from them, beside places that were seen
abbrev pub reached_from : List Placed → (left : ℕ) → (ahead seen : List FlowPlace) → List FlowPlace
reached_from all zero ahead seen = seen
reached_from all (suc left) [] seen = seen
reached_from all (suc left) (place ∷ ahead) seen =
    if is_among place seen then reached_from all left ahead seen
    else reached_from all left (places_from (point_at place all) ++ ahead) (place ∷ seen)

-- each branch leads to as many places as it has arms, so no more are looked at
abbrev pub reached_in : List Placed → List FlowPlace
reached_in all = reached_from all (suc (suc (length (flat_map (λ (one : Placed). branch_places one.point.last) all)))) (statement_at [] ∷ []) []

-- ---- numbers

-- the number of a place
abbrev pub number_of : FlowPlace → List Placed → ℕ
number_of place [] = 0
number_of place (one ∷ others) = if same_place place one.place then 0 else suc (number_of place others)

abbrev pub numbered_case : List Placed → PlacedCase → CaseTree
numbered_case all one = record { value = one.value; to = number_of one.to all }

abbrev pub numbered_branch : List Placed → PlacedBranch → BranchTree
numbered_branch all (goes to) = go (number_of to all)
numbered_branch all (tests test if_true if_false) = if_test test (number_of if_true all) (number_of if_false all)
numbered_branch all (chooses one) =
    switch (record { on = one.on; by = one.by; cases = map (numbered_case all) one.cases; other = number_of one.other all })
numbered_branch all (returns value) = gives value

abbrev pub node_of : List Placed → Placed → NodeTree
node_of all one = record { body = stmts one.point.body; last = numbered_branch all one.point.last }

abbrev pub flow_of_places : List Placed → FlowTree
flow_of_places reached = record { nodes = map (node_of reached) reached; entry = 0 }

abbrev pub reached_points : List FlowPlace → List Placed → List Placed
reached_points seen all = filter (λ (one : Placed). is_among one.place seen) all

abbrev pub reached_part : List Placed → List Placed
reached_part all = reached_points (reached_in all) all

-- the flow of a body: each of its nodes is reached, and the first is the body itself
abbrev pub flow_of : BodyNames → CStmt → FlowTree
flow_of of body = flow_of_places (reached_part (points_in_body of body))
