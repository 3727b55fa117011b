-- The graph of the flow of a body.
use Rattle.std.proofs.Common.{◌≡◌, ◌∙◌, ◌⊎◌, inl, inr, ℕ, zero, suc, ◌<◌, ◌==◌, Bool, true, false, ◌||◌, if◌then◌else◌, List, [], ◌∷◌, ◌++◌, length, map, flat_map, filter, Option, Some, None, option_map, is_some, slice_get, get_or, refl, sym, ap, subst, arith}
use Rattle.std.proofs.lemmas.List.{length-map}
use Rattle.std.proofs.lemmas.Option.{slice_get-map}
use Rattle.build_flow_graphs.proofs.Aims.{All, AllMarked, AllAimed, body_aimed}
use Rattle.build_flow_linear.proofs.Places.{body_places}
use Rattle.build_flow_linear.specs.Linear.{Instr, marks, does, leaves, places_in, read, body_code}
use Rattle.build_flow_nodes.specs.Builder.{statement_at, points_in_body}
use Rattle.build_flow_nodes.specs.Flows.{branch_places, places_from, is_among, reached_from, reached_in, reached_part, number_of, numbered_case, numbered_branch, node_of, flow_of}
use Rattle.build_flow_nodes.specs.Parts.{BodyNames}
use Rattle.build_flow_nodes.specs.Points.{FlowPlace, PlacedCase, PlacedBranch, goes, tests, chooses, returns, Point, Placed, same_place, point_at}
use Rattle.build_flow_numbers.proofs.Bodies.{body_once}
use Rattle.build_flow_numbers.proofs.Distinct.{AllPlaces, AreDistinct, AllFound, distinct_found}
use Rattle.build_flow_numbers.proofs.Nodes.{leads_on, target_there, entry_reached, entry_first}
use Rattle.build_flow_numbers.proofs.Places.{same_place_is, same_place_itself, differ}
use Rattle.build_flow_numbers.proofs.Reached.{among_either, found_in}
use Rattle.cx_core.specs.Trees.{CStmt, stmt}
use Rattle.flow.specs.Flows.{NodeTree, IsClosed, case_targets, targets, node_targets, targets_in, targets_of, graph_of}
use Rattle.reloop.proofs.Sets.{either, or_right, same_number}
use Rattle.reloop.specs.Graphs.{is_in, IsIn, IsFlow, Path, here, onward, everywhere}

abbrev ended : Point
ended = record { body = []; last = returns None }

abbrev place_of : Placed → FlowPlace
place_of one = one.place

-- ---- places of code and of points

module _ (M : FlowPlace → Type 0) where
  marked_from : (last : Point) (code : List Instr) → AllPlaces place_of M (places_in last code) → AllMarked M code
  marked_from last [] are = tt
  marked_from last (marks place ∷ others) are = (are.0, marked_from last others are.1)
  marked_from last (does body ∷ others) are = marked_from last others are
  marked_from last (leaves branch ∷ others) are = marked_from last others are

  read_aimed : (code : List Instr) → AllAimed M code → All M (branch_places (read ended code).last)
  read_aimed [] are = tt
  read_aimed (marks place ∷ others) are = read_aimed others are
  read_aimed (does body ∷ others) are = read_aimed others are
  read_aimed (leaves branch ∷ others) are = are.0

  aimed_at : (code : List Instr) → AllAimed M code → (place : FlowPlace) (point : Point) → point_at place (places_in ended code) ≡ Some point → All M (branch_places point.last)
  aimed_at [] are place point found = absurd cc
  aimed_at (marks one ∷ others) are place point found = by (same_place place one) found (λ there. aimed_at others are place point there)
    where
      by : (same : Bool) → (if same then Some (read ended others) else point_at place (places_in ended others)) ≡ Some point →
          (point_at place (places_in ended others) ≡ Some point → All M (branch_places point.last)) → All M (branch_places point.last)
      by true there more = let same : read ended others ≡ point = cc in subst (λ (it : Point). All M (branch_places it.last)) same (read_aimed others are)
      by false there more = more there
  aimed_at (does body ∷ others) are place point found = aimed_at others are place point found
  aimed_at (leaves branch ∷ others) are place point found = aimed_at others are.1 place point found

  one_of : (to : FlowPlace) (list : List FlowPlace) → All M list → is_among to list ≡ true → M to
  one_of to [] are is = absurd cc
  one_of to (one ∷ others) are is = by (either (same_place to one) (is_among to others) is) (λ there. one_of to others are.1 there)
    where
      by : (same_place to one ≡ true) ⊎ (is_among to others ≡ true) → (is_among to others ≡ true → M to) → M to
      by (inl same) more = subst M (sym (same_place_is to one same)) are.0
      by (inr there) more = more there

-- each place of a list of points is found in it
there_behind : (first : Placed) (whole list : List Placed) → AllPlaces place_of (λ place. is_some (point_at place whole) ≡ true) list → AllPlaces place_of (λ place. is_some (point_at place (first ∷ whole)) ≡ true) list
there_behind first whole [] there = tt
there_behind first whole (one ∷ others) there = (by (same_place one.place first.place) there.0, there_behind first whole others there.1)
  where
    by : (same : Bool) → is_some (point_at one.place whole) ≡ true → is_some (if same then Some first.point else point_at one.place whole) ≡ true
    by true is = refl
    by false is = is

own_there : (list : List Placed) → AllPlaces place_of (λ place. is_some (point_at place list) ≡ true) list
own_there [] = tt
own_there (one ∷ others) =
    (ap (λ (same : Bool). is_some (if same then Some one.point else point_at one.place others)) (same_place_itself one.place), there_behind one others others (own_there others))

number_below : (place : FlowPlace) (list : List Placed) → is_some (point_at place list) ≡ true → number_of place list < length list
number_below place [] there = absurd cc
number_below place (one ∷ others) there = by (same_place place one.place) there (λ more. number_below place others more)
  where
    by : (same : Bool) → is_some (if same then Some one.point else point_at place others) ≡ true → (is_some (point_at place others) ≡ true → number_of place others < length others) →
        (if same then 0 else suc (number_of place others)) < length (one ∷ others)
    by true is more = omega arith
    by false is more = let less = more is in omega (arith, less)

-- ---- points by their numbers

below_got : (list : List Placed) (k : ℕ) → k < length list → (one : Placed) × (slice_get list k ≡ Some one)
below_got [] k less = absurd (omega (arith, less))
below_got (one ∷ others) zero less = (one, refl)
below_got (one ∷ others) (suc k) less = below_got others k (omega (arith, less))

abbrev AllPoints : (Placed → Type 0) → List Placed → Type 0
AllPoints P [] = Unit {0}
AllPoints P (one ∷ others) = P one × AllPoints P others

point_got : (P : Placed → Type 0) (list : List Placed) (k : ℕ) (one : Placed) → AllPoints P list → slice_get list k ≡ Some one → P one
point_got P [] k one are got = absurd cc
point_got P (first ∷ others) zero one are got = let same : first ≡ one = cc in subst P same are.0
point_got P (first ∷ others) (suc k) one are got = point_got P others k one are.1 got

place_got : (P : FlowPlace → Type 0) (list : List Placed) (k : ℕ) (one : Placed) → AllPlaces place_of P list → slice_get list k ≡ Some one → P one.place
place_got P [] k one are got = absurd cc
place_got P (first ∷ others) zero one are got = let same : first ≡ one = cc in subst (λ (it : Placed). P it.place) same are.0
place_got P (first ∷ others) (suc k) one are got = place_got P others k one are.1 got

number_got : (list : List Placed) (k : ℕ) (one : Placed) → AreDistinct place_of list → slice_get list k ≡ Some one → number_of one.place list ≡ k
number_got [] k one distinct got = absurd cc
number_got (first ∷ others) zero one distinct got =
    let same : first ≡ one = cc in
    ap (λ (is : Bool). if is then 0 else suc (number_of one.place others)) (ap (λ (it : Placed). same_place one.place it.place) same ∙ same_place_itself one.place)
number_got (first ∷ others) (suc k) one distinct got =
    ap (λ (is : Bool). if is then 0 else suc (number_of one.place others))
    (differ one.place first.place (λ same. place_got (λ place. first.place ≡ place → ⊥) others k one distinct.0 got (sym same)))
    ∙ ap suc (number_got others k one distinct.1 got)

-- ---- those that are kept

module _ (test : Placed → Bool) where
  kept_places : (P : FlowPlace → Type 0) (list : List Placed) → AllPlaces place_of P list → AllPlaces place_of P (filter test list)
  kept_places P [] are = tt
  kept_places P (one ∷ others) are = by (test one) (kept_places P others are.1)
    where
      by : (is : Bool) → AllPlaces place_of P (filter test others) → AllPlaces place_of P (if is then one ∷ filter test others else filter test others)
      by true more = (are.0, more)
      by false more = more

  kept_distinct : (list : List Placed) → AreDistinct place_of list → AreDistinct place_of (filter test list)
  kept_distinct [] are = tt
  kept_distinct (one ∷ others) are = by (test one) (kept_places (λ place. one.place ≡ place → ⊥) others are.0) (kept_distinct others are.1)
    where
      by : (is : Bool) → AllPlaces place_of (λ place. one.place ≡ place → ⊥) (filter test others) → AreDistinct place_of (filter test others) → AreDistinct place_of (if is then one ∷ filter test others else filter test others)
      by true apart more = (apart, more)
      by false apart more = more

  kept_found : (whole list : List Placed) → AllFound whole list → AllPoints (λ one. (test one ≡ true) × (point_at one.place whole ≡ Some one.point)) (filter test list)
  kept_found whole [] are = tt
  kept_found whole (one ∷ others) are = by (test one) refl (kept_found whole others are.1)
    where
      by : (is : Bool) → test one ≡ is → AllPoints (λ one. (test one ≡ true) × (point_at one.place whole ≡ Some one.point)) (filter test others) →
          AllPoints (λ one. (test one ≡ true) × (point_at one.place whole ≡ Some one.point)) (if is then one ∷ filter test others else filter test others)
      by true is more = ((is, are.0), more)
      by false is more = more

-- ---- targets

module _ (all : List Placed) where
  cases_numbered : (cases : List PlacedCase) (other : FlowPlace) →
      case_targets (map (numbered_case all) cases) ++ number_of other all ∷ [] ≡ map (λ (it : FlowPlace). number_of it all) (map (λ (it : PlacedCase). it.to) cases ++ (other ∷ []))
  cases_numbered [] other = refl
  cases_numbered (one ∷ cases) other = ap (λ (xs : List ℕ). number_of one.to all ∷ xs) (cases_numbered cases other)

  targets_numbered : (branch : PlacedBranch) → targets (numbered_branch all branch) ≡ map (λ (it : FlowPlace). number_of it all) (branch_places branch)
  targets_numbered (goes to) = refl
  targets_numbered (tests e if_true if_false) = refl
  targets_numbered (chooses one) = cases_numbered one.cases one.other
  targets_numbered (returns value) = refl

  place_numbered : (to : ℕ) (places : List FlowPlace) → IsIn to (map (λ (it : FlowPlace). number_of it all) places) → (place : FlowPlace) × (is_among place places ≡ true) × (to ≡ number_of place all)
  place_numbered to [] is = absurd cc
  place_numbered to (one ∷ others) is = by (either (to == number_of one all) (is_in to (map (λ (it : FlowPlace). number_of it all) others)) is) (λ there. place_numbered to others there)
    where
      by : ((to == number_of one all) ≡ true) ⊎ (IsIn to (map (λ (it : FlowPlace). number_of it all) others)) →
          (IsIn to (map (λ (it : FlowPlace). number_of it all) others) → (place : FlowPlace) × (is_among place others ≡ true) × (to ≡ number_of place all)) →
          (place : FlowPlace) × (is_among place (one ∷ others) ≡ true) × (to ≡ number_of place all)
      by (inl same) more = (one, ap (λ (is : Bool). is || is_among one others) (same_place_itself one), same_number to (number_of one all) same)
      by (inr there) more = let found = more there in (found.0, or_right (same_place found.0 one) (is_among found.0 others) found.1, found.2)

got_node : (nodes : List NodeTree) (number : ℕ) → targets_in (slice_get nodes number) ≡ get_or (map node_targets nodes) number []
got_node [] number = refl
got_node (node ∷ nodes) zero = refl
got_node (node ∷ nodes) (suc number) = got_node nodes number

-- ---- a body

module _ (of : BodyNames) (body : CStmt) where
  abbrev whole : List Placed
  whole = points_in_body of body

  abbrev kept : List Placed
  kept = reached_part whole

  abbrev IsThere : FlowPlace → Type 0
  IsThere place = is_some (point_at place whole) ≡ true

  abbrev IsReached : FlowPlace → Type 0
  IsReached place = is_among place (reached_in whole) ≡ true

  aims_there : (place to : FlowPlace) (point : Point) → point_at place whole ≡ Some point → is_among to (branch_places point.last) ≡ true → IsThere to
  aims_there place to point found among =
      one_of IsThere to (branch_places point.last)
      (aimed_at IsThere (body_code of body)
      (body_aimed IsThere of body (marked_from IsThere ended (body_code of body) (subst (λ (list : List Placed). AllPlaces place_of IsThere list) (sym (body_places of ended body)) (own_there whole))))
      place point (ap (point_at place) (body_places of ended body) ∙ found)) among

  distinct : AreDistinct place_of whole
  distinct = body_once of body

  kept_there : (place : FlowPlace) → IsReached place → IsThere place → number_of place kept < length kept
  kept_there place reached there = number_below place kept (ap is_some (found_in whole (reached_in whole) whole place reached) ∙ there)

  -- where a kept point leads to is kept
  target_below : (one : Placed) (to : ℕ) → is_among one.place (reached_in whole) ≡ true → point_at one.place whole ≡ Some one.point →
      IsIn to (targets (numbered_branch kept one.point.last)) → to < length kept
  target_below one to reached found is =
      let place = place_numbered kept to (branch_places one.point.last) (subst (λ (list : List ℕ). IsIn to list) (targets_numbered kept one.point.last) is) in
      subst (λ (n : ℕ). n < length kept) (sym place.2)
      (kept_there place.0 (leads_on of body one.place place.0 one.point reached found place.1) (aims_there one.place place.0 one.point found place.1))

  nodes_below : (number to : ℕ) → IsIn to (targets_of (flow_of of body) number) → to < length kept
  nodes_below number to is = by (slice_get kept number) refl (subst (λ (node : Option NodeTree). IsIn to (targets_in node)) (slice_get-map (node_of kept) kept number) is)
    where
      by : (found : Option Placed) → slice_get kept number ≡ found → IsIn to (targets_in (option_map (node_of kept) found)) → to < length kept
      by None got there = absurd cc
      by (Some one) got there =
          let good = point_got (λ (it : Placed). (is_among it.place (reached_in whole) ≡ true) × (point_at it.place whole ≡ Some it.point)) kept number one
          (kept_found (λ (it : Placed). is_among it.place (reached_in whole)) whole whole (distinct_found whole distinct)) got in
          target_below one to good.0 good.1 there

  nodes_count : length (flow_of of body).nodes ≡ length kept
  nodes_count = length-map kept (node_of kept)

  pub body_closed_at : 0 < length kept → IsClosed (flow_of of body)
  body_closed_at first = record {
    entry = subst (λ (n : ℕ). 0 < n) (sym nodes_count) first;
    targets = λ number to is. subst (λ (n : ℕ). to < n) (sym nodes_count) (nodes_below number to is);
  }

  -- ---- paths

  abbrev IsLed : FlowPlace → Type 0
  IsLed place = IsReached place × Path (graph_of (flow_of of body)) (everywhere (graph_of (flow_of of body))) 0 (number_of place kept)

  led_on : (place to : FlowPlace) → IsLed place → is_among to (places_from (point_at place whole)) ≡ true → IsLed to
  led_on place to led among = by (point_at place whole) refl among
    where
      by : (found : Option Point) → point_at place whole ≡ found → is_among to (places_from found) ≡ true → IsLed to
      by None found is = absurd cc
      by (Some point) found is = (
        leads_on of body place to point led.0 found is,
        onward 0 (number_of place kept) (number_of to kept) led.1
            (subst (λ (list : List ℕ). IsIn (number_of to kept) list) (got_node (flow_of of body).nodes (number_of place kept)) (target_there of body place to point led.0 found is)) refl,
      )

  abbrev AreLed : List FlowPlace → Type 0
  AreLed list = (place : FlowPlace) → is_among place list ≡ true → IsLed place

  first_led : (place : FlowPlace) (list : List FlowPlace) → AreLed (place ∷ list) → IsLed place
  first_led place list led = led place (ap (λ (is : Bool). is || is_among place list) (same_place_itself place))

  others_led : (place : FlowPlace) (list : List FlowPlace) → AreLed (place ∷ list) → AreLed list
  others_led place list led one is = led one (or_right (same_place one place) (is_among one list) is)

  both_led : (first others : List FlowPlace) → AreLed first → AreLed others → AreLed (first ++ others)
  both_led first others one other place is = by (among_either place first others is)
    where
      by : (is_among place first ≡ true) ⊎ (is_among place others ≡ true) → IsLed place
      by (inl it) = one place it
      by (inr it) = other place it

  one_led : (place : FlowPlace) (list : List FlowPlace) → IsLed place → AreLed list → AreLed (place ∷ list)
  one_led place list led others one is = by (either (same_place one place) (is_among one list) is)
    where
      by : (same_place one place ≡ true) ⊎ (is_among one list ≡ true) → IsLed one
      by (inl same) = subst IsLed (sym (same_place_is one place same)) led
      by (inr there) = others one there

  all_led : (left : ℕ) (ahead seen : List FlowPlace) → AreLed ahead → AreLed seen → AreLed (reached_from whole left ahead seen)
  all_led zero ahead seen ahead_led seen_led = seen_led
  all_led (suc left) [] seen ahead_led seen_led = seen_led
  all_led (suc left) (place ∷ ahead) seen ahead_led seen_led =
      let it_led = first_led place ahead ahead_led in
      let rest = others_led place ahead ahead_led in
      by (is_among place seen) (all_led left ahead seen rest seen_led)
      (all_led left (places_from (point_at place whole) ++ ahead) (place ∷ seen)
      (both_led (places_from (point_at place whole)) ahead (λ to is. led_on place to it_led is) rest) (one_led place seen it_led seen_led))
    where
      by : (is : Bool) → AreLed (reached_from whole left ahead seen) → AreLed (reached_from whole left (places_from (point_at place whole) ++ ahead) (place ∷ seen)) →
          AreLed (if is then reached_from whole left ahead seen else reached_from whole left (places_from (point_at place whole) ++ ahead) (place ∷ seen))
      by true before after = before
      by false before after = after

  entry_led : IsLed (statement_at [])
  entry_led = (entry_reached of body, subst (λ (n : ℕ). Path (graph_of (flow_of of body)) (everywhere (graph_of (flow_of of body))) 0 n) (sym (entry_first of body)) (here 0 refl))

  reached_led : AreLed (reached_in whole)
  reached_led = all_led (suc (suc (length (flat_map (λ (one : Placed). branch_places one.point.last) whole)))) (statement_at [] ∷ []) [] (one_led (statement_at []) [] entry_led (λ place is. absurd cc)) (λ place is. absurd cc)

  graph_count : length (graph_of (flow_of of body)).next ≡ length kept
  graph_count = length-map (flow_of of body).nodes node_targets ∙ nodes_count

  node_led : (node : ℕ) → node < length kept → Path (graph_of (flow_of of body)) (everywhere (graph_of (flow_of of body))) 0 node
  node_led node less =
      let got = below_got kept node less in
      let good = point_got (λ (it : Placed). (is_among it.place (reached_in whole) ≡ true) × (point_at it.place whole ≡ Some it.point)) kept node got.0
      (kept_found (λ (it : Placed). is_among it.place (reached_in whole)) whole whole (distinct_found whole distinct)) got.1 in
      subst (λ (n : ℕ). Path (graph_of (flow_of of body)) (everywhere (graph_of (flow_of of body))) 0 n)
      (number_got kept node got.0 (kept_distinct (λ (it : Placed). is_among it.place (reached_in whole)) whole distinct) got.1) (reached_led got.0.place good.0).1

  body_flows_at : 0 < length kept → IsFlow (graph_of (flow_of of body))
  body_flows_at first = record {
    entry = subst (λ (n : ℕ). 0 < n) (sym graph_count) first;
    ends = λ from to edge. subst (λ (n : ℕ). to < n) (sym graph_count) (nodes_below from to (subst (λ (list : List ℕ). IsIn to list) (sym (got_node (flow_of of body).nodes from)) edge));
    reached = λ node is. node_led node (subst (λ (n : ℕ). node < n) graph_count is);
  }

-- the body itself is a place
entry_there : (of : BodyNames) (body : CStmt) → is_some (point_at (statement_at []) (points_in_body of body)) ≡ true
entry_there of (stmt place objects form) = refl

some_node : (of : BodyNames) (body : CStmt) → 0 < length (kept of body)
some_node of body = subst (λ (n : ℕ). n < length (kept of body)) (entry_first of body) (kept_there of body (statement_at []) (entry_reached of body) (entry_there of body))

pub body_closed : (of : BodyNames) (body : CStmt) → IsClosed (flow_of of body)
body_closed of body = body_closed_at of body (some_node of body)

pub body_flows : (of : BodyNames) (body : CStmt) → IsFlow (graph_of (flow_of of body))
body_flows of body = body_flows_at of body (some_node of body)
