-- The flow of linear code.
use Rattle.std.specs.Prelude.{◌≡◌, false, List, [], ◌∷◌, None}
use Rattle.build_flow_linear.specs.Linear.{Instr, places_in}
use Rattle.build_flow_nodes.specs.Flows.{flow_of_places, reached_part}
use Rattle.build_flow_nodes.specs.Points.{FlowPlace, same_place, returns, Point, Placed}
use Rattle.flow.specs.Flows.{FlowTree}

-- what isn't left ends there, and gives nothing back
abbrev pub ended : Point
ended = record { body = []; last = returns None }

-- what is done from each of its places on
abbrev pub placed_in : List Instr → List Placed
placed_in code = places_in ended code

abbrev pub flow_of_code : List Instr → FlowTree
flow_of_code code = flow_of_places (reached_part (placed_in code))

-- ---- places that differ

abbrev pub DiffersFrom : FlowPlace → List Placed → Type 0
DiffersFrom place [] = Unit {0}
DiffersFrom place (one ∷ others) = (same_place place one.place ≡ false) × DiffersFrom place others

abbrev pub AllDiffer : List Placed → Type 0
AllDiffer [] = Unit {0}
AllDiffer (one ∷ others) = DiffersFrom one.place others × AllDiffer others
