-- The node of a number, for each place that is reached.
use Rattle.std.proofs.Common.{◌≡◌, ◌∙◌, ◌⊎◌, inl, inr, ℕ, zero, suc, ◌+◌, ◌<◌, ◌==◌, Bool, true, false, List, [], ◌∷◌, ◌++◌, length, map, Option, Some, None, option_map, slice_get, if◌then◌else◌, refl, sym, ap, subst, arith}
use Rattle.std.proofs.lemmas.Option.{slice_get-map}
use Rattle.build_flow_nodes.specs.Builder.{statement_at, inside, own_point, end_point, points_of, points_in, points_in_body, top}
use Rattle.build_flow_nodes.specs.Flows.{branch_places, places_from, is_among, reached_in, reached_points, reached_part, number_of, numbered_case, numbered_branch, node_of, flow_of_places, flow_of}
use Rattle.build_flow_nodes.specs.Parts.{BodyNames}
use Rattle.build_flow_nodes.specs.Points.{FlowPlace, at_part, PlacedCase, PlacedBranch, goes, tests, chooses, returns, Point, Placed, placed, same_place, point_at}
use Rattle.cx_core.specs.Trees.{CStmt, stmt}
use Rattle.cx_mean.specs.BodyGraph.{at_end}
use Rattle.flow.specs.Flows.{FlowTree, NodeTree, node_at, case_targets, targets, targets_in, targets_of}
use Rattle.reloop.specs.Graphs.{is_in, IsIn}
use Rattle.reloop.proofs.Sets.{either, or_left, or_right, equal_itself}
use Rattle.rs_text.specs.Tree.{stmts}
use Rattle.build_flow_numbers.proofs.Bodies.{body_once}
use Rattle.build_flow_numbers.proofs.Distinct.{AllFound, distinct_found}
use Rattle.build_flow_numbers.proofs.Places.{same_place_is, same_place_itself}
use Rattle.build_flow_numbers.proofs.Reached.{all_reached, found_in}

-- the item at the number of a place that is found
item_at : (whole list : List Placed) (place : FlowPlace) (point : Point) → point_at place list ≡ Some point →
    slice_get (map (node_of whole) list) (number_of place list) ≡ Some (node_of whole (placed place point))
item_at whole [] place point found = absurd cc
item_at whole (one ∷ others) place point found = by (same_place place one.place) refl found (λ there. item_at whole others place point there)
  where
    by : (same : Bool) → same_place place one.place ≡ same → (if same then Some one.point else point_at place others) ≡ Some point →
        (point_at place others ≡ Some point → slice_get (map (node_of whole) others) (number_of place others) ≡ Some (node_of whole (placed place point))) →
        slice_get (node_of whole one ∷ map (node_of whole) others) (if same then 0 else suc (number_of place others)) ≡ Some (node_of whole (placed place point))
    by true is there more = let same : one.point ≡ point = cc in ap (λ (p : Point). Some (node_of whole (placed place p))) same
    by false is there more = more there

-- ---- targets

module _ (all : List Placed) where
  -- a place among others has a number among theirs
  number_in : (place : FlowPlace) (places : List FlowPlace) → is_among place places ≡ true → IsIn (number_of place all) (map (λ (it : FlowPlace). number_of it all) places)
  number_in place [] is = absurd cc
  number_in place (one ∷ others) is = by (either (same_place place one) (is_among place others) is) (λ there. number_in place others there)
    where
      by : (same_place place one ≡ true) ⊎ (is_among place others ≡ true) →
          (is_among place others ≡ true → IsIn (number_of place all) (map (λ (it : FlowPlace). number_of it all) others)) →
          is_in (number_of place all) (number_of one all ∷ map (λ (it : FlowPlace). number_of it all) others) ≡ true
      by (inl here) more =
          or_left (number_of place all == number_of one all) (is_in (number_of place all) (map (λ (it : FlowPlace). number_of it all) others))
          (subst (λ (x : FlowPlace). (number_of place all == number_of x all) ≡ true) (same_place_is place one here) (equal_itself (number_of place all)))
      by (inr there) more = or_right (number_of place all == number_of one all) (is_in (number_of place all) (map (λ (it : FlowPlace). number_of it all) others)) (more there)

  cases_numbered : (cases : List PlacedCase) (other : FlowPlace) →
      case_targets (map (numbered_case all) cases) ++ number_of other all ∷ [] ≡ map (λ (it : FlowPlace). number_of it all) (map (λ (it : PlacedCase). it.to) cases ++ (other ∷ []))
  cases_numbered [] other = refl
  cases_numbered (one ∷ cases) other = ap (λ (xs : List ℕ). number_of one.to all ∷ xs) (cases_numbered cases other)

  targets_numbered : (branch : PlacedBranch) → targets (numbered_branch all branch) ≡ map (λ (it : FlowPlace). number_of it all) (branch_places branch)
  targets_numbered (goes to) = refl
  targets_numbered (tests e if_true if_false) = refl
  targets_numbered (chooses one) = cases_numbered one.cases one.other
  targets_numbered (returns value) = refl

module _ (of : BodyNames) (body : CStmt) where
  abbrev pub places : List Placed
  places = points_in_body of body

  abbrev pub reached : List Placed
  reached = reached_part places

  -- what stands at each place of the body
  abbrev pub at_place : FlowPlace → Option Point
  at_place place = point_at place places

  abbrev pub IsReached : FlowPlace → Type 0
  IsReached place = is_among place (reached_in places) ≡ true

  -- each point of the body is at its place
  pub each_found : AllFound places places
  each_found = distinct_found places (body_once of body)

  pub node_there : (place : FlowPlace) (point : Point) → IsReached place → at_place place ≡ Some point →
      node_at (flow_of of body) (number_of place reached) ≡ Some (node_of reached (placed place point))
  node_there place point there found = item_at reached reached place point (found_in places (reached_in places) places place there ∙ found)

  -- what a reached point leads to is reached
  pub leads_on : (place to : FlowPlace) (point : Point) → IsReached place → at_place place ≡ Some point → is_among to (branch_places point.last) ≡ true → IsReached to
  leads_on place to point there found among = (all_reached places).leads place to there (subst (λ (it : Option Point). is_among to (places_from it) ≡ true) (sym found) among)

  pub target_there : (place to : FlowPlace) (point : Point) → IsReached place → at_place place ≡ Some point → is_among to (branch_places point.last) ≡ true →
      IsIn (number_of to reached) (targets_of (flow_of of body) (number_of place reached))
  target_there place to point there found among =
      subst (λ (node : Option NodeTree). IsIn (number_of to reached) (targets_in node)) (sym (node_there place point there found))
      (subst (λ (xs : List ℕ). IsIn (number_of to reached) xs) (sym (targets_numbered reached point.last)) (number_in reached to (branch_places point.last) among))

  -- the body itself is the first
  pub entry_reached : IsReached (statement_at [])
  entry_reached = (all_reached places).ahead_are (statement_at []) refl

first_reached : (seen : List FlowPlace) (first : Placed) (others : List Placed) → is_among first.place seen ≡ true → number_of first.place (reached_points seen (first ∷ others)) ≡ 0
first_reached seen first others is =
    ap (λ (here : Bool). number_of first.place (if here then first ∷ reached_points seen others else reached_points seen others)) is
    ∙ ap (λ (same : Bool). if same then 0 else suc (number_of first.place (reached_points seen others))) (same_place_itself first.place)

pub entry_first : (of : BodyNames) (body : CStmt) → number_of (statement_at []) (reached of body) ≡ 0
entry_first of (stmt place objects form) =
    first_reached (reached_in (places of (stmt place objects form))) (placed (statement_at []) (own_point of (top of) [] 0 (stmt place objects form)))
    (points_in of (inside form [] (top of)) [] 0 form ++ (placed (at_part at_end) (end_point of) ∷ [])) (entry_reached of (stmt place objects form))
