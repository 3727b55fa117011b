-- The flow of the linear code of a body is that of the body.
use Rattle.std.proofs.Common.{◌≡◌, ◌∙◌, List, [], ◌∷◌, Result, Ok, Err, IfOk, sym, ap, subst}
use Rattle.build_flow_graphs.proofs.Graphs.{body_closed, body_flows}
use Rattle.build_flow_linear.proofs.Places.{body_places}
use Rattle.build_flow_linear.specs.Linear.{Instr, body_code}
use Rattle.build_flow_nodes.specs.Builder.{points_in_body}
use Rattle.build_flow_nodes.specs.Flows.{flow_of, flow_of_places, reached_part}
use Rattle.build_flow_nodes.specs.Parts.{BodyNames}
use Rattle.build_flow_nodes.specs.Points.{FlowPlace, Placed}
use Rattle.build_flow_numbers.proofs.Bodies.{body_once}
use Rattle.build_flow_numbers.proofs.Distinct.{AllPlaces, AreDistinct}
use Rattle.build_flow_numbers.proofs.Places.{differ}
use Rattle.build_flow_reached.specs.Codes.{ended, placed_in, flow_of_code, DiffersFrom, AllDiffer}
use Rattle.cx_core.specs.Trees.{CStmt}
use Rattle.flow.specs.Flows.{FlowTree, graph_of, IsClosed}
use Rattle.flow.specs.Views.{flow_view}
use Rattle.flow.specs.declared.flows.Flow.{Flow}
use Rattle.reloop.specs.Graphs.{IsFlow}

abbrev place_of : Placed → FlowPlace
place_of one = one.place

differs_from : (place : FlowPlace) (list : List Placed) → AllPlaces place_of (λ other. place ≡ other → ⊥) list → DiffersFrom place list
differs_from place [] are = tt
differs_from place (one ∷ others) are = (differ place one.place are.0, differs_from place others are.1)

all_differ : (list : List Placed) → AreDistinct place_of list → AllDiffer list
all_differ [] are = tt
all_differ (one ∷ others) are = (differs_from one.place others are.0, all_differ others are.1)

-- the places of a body differ
pub places_differ : (of : BodyNames) (body : CStmt) (code : List Instr) → code ≡ body_code of body → AllDiffer (placed_in code)
places_differ of body code is = subst AllDiffer (sym (ap placed_in is ∙ body_places of ended body)) (all_differ (points_in_body of body) (body_once of body))

flow_is : (of : BodyNames) (body : CStmt) (code : List Instr) → code ≡ body_code of body → flow_of_code code ≡ flow_of of body
flow_is of body code is = ap (λ (all : List Placed). flow_of_places (reached_part all)) (ap placed_in is ∙ body_places of ended body)

module _ {E : Type 0} (of : BodyNames) (body : CStmt) (code : List Instr) (is : code ≡ body_code of body) where
  pub made_flow : (made : Result Flow E) → IfOk made (λ one. flow_view one ≡ flow_of_code code) → IfOk made (λ one. flow_view one ≡ flow_of of body)
  made_flow (Ok one) same = same ∙ flow_is of body code is
  made_flow (Err why) same = tt

  pub made_closed : (made : Result Flow E) → IfOk made (λ one. flow_view one ≡ flow_of_code code) → IfOk made (λ one. IsClosed (flow_view one))
  made_closed (Ok one) same = subst IsClosed (sym (same ∙ flow_is of body code is)) (body_closed of body)
  made_closed (Err why) same = tt

  pub made_reached : (made : Result Flow E) → IfOk made (λ one. flow_view one ≡ flow_of_code code) → IfOk made (λ one. IsFlow (graph_of (flow_view one)))
  made_reached (Ok one) same = subst (λ (flow : FlowTree). IsFlow (graph_of flow)) (sym (same ∙ flow_is of body code is)) (body_flows of body)
  made_reached (Err why) same = tt
