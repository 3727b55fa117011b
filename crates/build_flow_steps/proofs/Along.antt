-- The run of a body of C goes along the flow of the body.
use Rattle.std.proofs.Common.{◌≡◌, ◌∙◌, ◌⊎◌, inl, inr, ℕ, zero, suc, pred, ◌+◌, ◌<◌, ◌≤◌, Bool, true, false, List, [], ◌∷◌, ◌++◌, Option, Some, None, refl, sym, ap, subst, arith}
use Rattle.build_flow_moves.proofs.Course.{Course, IsAimed, AllAimed, OwedTo}
use Rattle.build_flow_moves.proofs.Nodes.{node_owed}
use Rattle.build_flow_moves.proofs.Steps.{Within}
use Rattle.build_flow_moves.proofs.There.{own_there, while_test, do_test, for_test, for_third}
use Rattle.build_flow_moves.specs.Coded.{AllThere, StmtThere, FormThere, HasTest, HasThird, AtPlace, reaches_it, tests_it, turns_it, ends_it, on_the_way, stuck_there}
use Rattle.build_flow_moves.specs.Runs.{run_point}
use Rattle.build_flow_moves.specs.Parts.{Stage, objects_in, AlwaysHere, StmtDone}
use Rattle.build_flow_nodes.specs.Builder.{Context, inside, statement_at, end_point, points_of, top}
use Rattle.build_flow_nodes.specs.Flows.{branch_places, is_among, number_of, node_of, flow_of}
use Rattle.build_flow_nodes.specs.Points.{FlowPlace, at_part, Point, Placed, placed, same_place, point_at}
use Rattle.build_flow_numbers.proofs.Distinct.{AllFound}
use Rattle.build_flow_numbers.proofs.Nodes.{places, reached, at_place, IsReached, each_found, node_there, leads_on, target_there, entry_reached, entry_first}
use Rattle.build_flow_numbers.proofs.Places.{same_place_itself}
use Rattle.cr_base.specs.declared.refusal.Place.{Place}
use Rattle.cr_runs.specs.Owes.{Owes, Rests}
use Rattle.cr_runs.specs.Runs.{bad}
use Rattle.cr_runs.proofs.Rules.{no_meaning, renamed}
use Rattle.cr_runs_rules.specs.Steps.{Waits}
use Rattle.cr_world.specs.World.{World, events_of}
use Rattle.cx_core.specs.Trees.{CExpr, CStmt, stmt, CStmtForm, while, do_while, for_loop}
use Rattle.cx_mean.specs.BodyGraph.{CPath, at_test, at_third, at_end}
use Rattle.cx_mean.specs.Moves.{CMove, reaches, goes_nowhere, slots_in}
use Rattle.cx_mean.specs.Operands.{CStop, CValue, stuck, stops, Frame as CFrame}
use Rattle.cx_mean.specs.Paths.{CLevel, site_at}
use Rattle.ext_calls.specs.declared.call.Call.{Call}
use Rattle.flow.specs.Flows.{NodeTree, FlowTree, node_at, targets_of}
use Rattle.flow.specs.Machine.{Onto, to_node, gives_back, run_node, run_found, run_at}
use Rattle.flow.specs.Sources.{IsBehind, nothing_left, within_less, IsQuiet, FollowsAfter, StepsAlong}
use Rattle.reloop.proofs.Sets.{or_left, or_right}
use Rattle.reloop.specs.Graphs.{IsIn}
use Rattle.rs_mean.specs.Values.{Typed}
use Rattle.rs_mean.specs.World.{Run, seq}
use Rattle.rs_mean_frames.specs.Behave.{BodiesBehave}
use Rattle.build_flow_steps.proofs.Machine.{to_place, with_given, node_runs}
use Rattle.build_flow_steps.proofs.Positions.{Position, goes_on, has_given, runs_from, run_of_c, StandsAt, At, Back}
use Rattle.build_flow_steps.proofs.Waiting.{place_waits}

-- each of a list is among it
all_among : (a : Stage) (c : Course a) (list : List FlowPlace) → ((place : FlowPlace) → is_among place list ≡ true → c.Allowed place) → AllAimed a c list
all_among a c [] allowed = tt
all_among a c (one ∷ others) allowed = (
  allowed one (or_left (same_place one one) (is_among one others) (same_place_itself one)),
  all_among a c others (λ place there. allowed place (or_right (same_place place one) (is_among place others) there)),
)

module _ (a : Stage) (body : CStmt) where
  abbrev at : FlowPlace → Option Point
  at = at_place a.of body

  -- ---- what is there

  all_there : (list : List Placed) → AllFound (places a.of body) list → AllThere a at list
  all_there [] all = tt
  all_there (one ∷ others) all = (all.0, all_there others all.1)

  found_left : (whole first others : List Placed) → AllFound whole (first ++ others) → AllFound whole first
  found_left whole [] others all = tt
  found_left whole (one ∷ first) others all = (all.0, found_left whole first others all.1)

  found_right : (whole first others : List Placed) → AllFound whole (first ++ others) → AllFound whole others
  found_right whole [] others all = all
  found_right whole (one ∷ first) others all = found_right whole first others all.1

  body_there : AllThere a at (points_of a.of (top a.of) [] 0 body)
  body_there = all_there (points_of a.of (top a.of) [] 0 body) (found_left (places a.of body) (points_of a.of (top a.of) [] 0 body) _ (each_found a.of body))

  end_there : at (at_part at_end) ≡ Some (end_point a.of)
  end_there = (found_right (places a.of body) (points_of a.of (top a.of) [] 0 body) (placed (at_part at_end) (end_point a.of) ∷ []) (each_found a.of body)).0

  -- a place at which a run stands that isn't stuck has its point
  abbrev HasPoint : FlowPlace → Type 0
  HasPoint place = (point : Point) × (at place ≡ Some point)

  abbrev IsStuck : CMove → Type 0
  IsStuck move = (spot : Place) × (move ≡ goes_nowhere spot)

  stmt_point : (s : CStmt) (path : CPath) (ctx : Context) (number : ℕ) (scope : List ℕ) → StmtThere a at ctx path number scope s → HasPoint (statement_at path)
  stmt_point (stmt place objects form) path ctx number scope there = (_, own_there a at ctx path number scope place objects form there)

  test_point_there : (form : CStmtForm) (path : CPath) (ctx : Context) (number : ℕ) (scope : List ℕ) (e : CExpr) → FormThere a at ctx path number scope form → HasTest a at form e → HasPoint (at_part (at_test path))
  test_point_there (while test inner) path ctx number scope e there has = (_, while_test a at ctx path number scope test inner there)
  test_point_there (do_while inner test) path ctx number scope e there has = (_, do_test a at ctx path number scope inner test there)
  test_point_there (for_loop first (Some test) next inner) path ctx number scope e there has = (_, for_test a at ctx path number scope first test next inner there)
  test_point_there (for_loop first None next inner) path ctx number scope e there has = absurd cc
  test_point_there form path ctx number scope e there has = elim has [ ]

  third_point_there : (form : CStmtForm) (path : CPath) (ctx : Context) (number : ℕ) (scope : List ℕ) (e : CExpr) → FormThere a at ctx path number scope form → HasThird a at form e → HasPoint (at_part (at_third path))
  third_point_there (for_loop first test (Some next) inner) path ctx number scope e there has = (_, for_third a at ctx path number scope first test next inner there)
  third_point_there (for_loop first test None inner) path ctx number scope e there has = absurd cc
  third_point_there form path ctx number scope e there has = elim has [ ]

  point_there : (place : FlowPlace) (move : CMove) (slots : CFrame) → AtPlace a at place move slots → (HasPoint place) ⊎ (IsStuck move)
  point_there place move slots (reaches_it path ctx number levels s coded there) = inl (stmt_point s path ctx number (objects_in (slots_in levels)) there)
  point_there place move slots (tests_it path around number level outer e opened has) =
      inl (test_point_there level.form path (inside level.form path around) number (objects_in (slots_in (level ∷ outer))) e opened.there has)
  point_there place move slots (turns_it path around number level outer e opened has) =
      inl (third_point_there level.form path (inside level.form path around) number (objects_in (slots_in (level ∷ outer))) e opened.there has)
  point_there place move slots ends_it = inl (end_point a.of, end_there)
  point_there place move slots (on_the_way choice target ctx levels way objects first rest coded ways some there) = inl (_, there)
  point_there place move slots (stuck_there spot where_it_is frame) = inr (where_it_is, refl)

  -- ---- the source goes along

  module _ {B : Type 0} (Good : CValue → World → B → World → Type 0) (behave : BodiesBehave a.frame.bodies) (always : AlwaysHere a) where
    abbrev flow : FlowTree
    flow = flow_of a.of body

    abbrev Follows : ℕ → ℕ → Position → ℕ → (Onto → Run B) → Type 0
    Follows = FollowsAfter (run_of_c a) a.frame flow (At a body) (Back a) Good

    behind_it : (less m : ℕ) (later position : Position) → less ≤ pred m → IsBehind (run_of_c a).weight less later m position
    behind_it less zero later position few = nothing_left (omega (arith, few))
    behind_it less (suc m) later position few = within_less (omega (arith, few))

    module _ (n m : ℕ) (move : CMove) (c_world : World) (number : ℕ) (world : World) (next : Onto → Run B) (few : n ≤ a.most_units) (little : m ≤ a.most_steps)
        (stands : StandsAt a body move c_world number world) (quiet : IsQuiet next) (follows : Follows n m (goes_on move c_world) number next) (point : Point) (found : at stands.place ≡ Some point) where
      abbrev all : List Placed
      all = reached a.of body

      abbrev course : Course a
      course = record {
        at = at;
        end_there = end_there;
        B = B;
        Good = Good;
        next = to_place a.frame all next;
        back = with_given a.frame all next;
        n = n;
        most = pred m;
        few = few;
        little = omega (arith, little);
        behave = behave;
        always = always;
        Allowed = λ to. is_among to (branch_places point.last) ≡ true;
        quiet = λ place later. quiet (to_node (number_of place all)) later;
        back_quiet = λ value later. quiet (gives_back value) later;
        go = λ less to one slots c_later later fewer there here allowed.
            follows.nodes less (goes_on one c_later) (number_of to all) later
            (subst (λ (x : ℕ). IsIn (number_of to all) (targets_of flow x)) (sym stands.number_is) (target_there a.of body stands.place to point stands.there found allowed))
            (record { place = to; slots = slots; at = there; here = here; there = leads_on a.of body stands.place to point stands.there found allowed; number_is = refl })
            (behind_it less m (goes_on one c_later) (goes_on move c_world) fewer);
        go_back = λ less value c_later given later fewer back. follows.backs less (has_given value c_later) given later back (behind_it less m (has_given value c_later) (goes_on move c_world) fewer);
      }

      aimed : IsAimed a course point
      aimed = all_among a course (branch_places point.last) (λ place there. there)

      near : Within a course m
      near = record { behind = omega arith; little = little }

      runs_as : (k : ℕ) → seq (run_at a.frame flow number) next world k ≡ run_point a.frame (to_place a.frame all next) (with_given a.frame all next) point world k
      runs_as k =
          ap (λ (x : ℕ). seq (run_at a.frame flow x) next world k) stands.number_is
          ∙ ap (λ (node : Option NodeTree). seq (run_found a.frame node) next world k) (node_there a.of body stands.place point stands.there found)
          ∙ node_runs a.frame all next stands.place point world k

      found_owed : Owes events_of events_of Good n m (a.goes move c_world) (seq (run_at a.frame flow number) next world)
      found_owed =
          renamed events_of events_of Good n m (a.goes move c_world) (a.goes move c_world) (run_point a.frame (to_place a.frame all next) (with_given a.frame all next) point world) _ (λ k. refl) (λ k. sym (runs_as k))
          (node_owed a course stands.place move stands.slots stands.at point found m near c_world world stands.here aimed)

    stuck_owed : (n m : ℕ) (move : CMove) (c_world world : World) (run : Run B) → IsStuck move → Owes events_of events_of Good n m (a.goes move c_world) (run world)
    stuck_owed n m move c_world world run (spot, is) =
        renamed events_of events_of Good n m (λ k. bad (stops stuck spot) c_world) (a.goes move c_world) (run world) (run world)
        (λ k. sym (ap (λ (one : CMove). a.goes one c_world k) is ∙ a.unfolds (goes_nowhere spot) c_world k)) (λ k. refl)
        (no_meaning events_of events_of Good n m (stops stuck spot) c_world (run world))

    stands_owed : (n m : ℕ) (position : Position) (number : ℕ) (world : World) (next : Onto → Run B) → n ≤ a.most_units → m ≤ a.most_steps → At a body position number world → IsQuiet next →
        Follows n m position number next → Owes events_of events_of Good n m (runs_from a position) (seq (run_at a.frame flow number) next world)
    stands_owed n m (goes_on move c_world) number world next few little stands quiet follows = by (point_there stands.place move stands.slots stands.at)
      where
        by : (HasPoint stands.place) ⊎ (IsStuck move) → Owes events_of events_of Good n m (a.goes move c_world) (seq (run_at a.frame flow number) next world)
        by (inl has) = found_owed n m move c_world number world next few little stands quiet follows has.0 has.1
        by (inr stuck_it) = stuck_owed n m move c_world world (seq (run_at a.frame flow number) next) stuck_it
    stands_owed n m (has_given value c_world) number world next few little stands quiet follows = elim stands [ ]

    waits_there : (position : Position) (number : ℕ) (world : World) → At a body position number world → Waits (runs_from a position) events_of (events_of world)
    waits_there (goes_on move c_world) number world stands =
        subst (λ (events : List Call). Waits (a.goes move c_world) events_of events) (always.same stands.slots c_world world stands.here) (place_waits a at c_world stands.place move stands.slots stands.at)
    waits_there (has_given value c_world) number world stands = elim stands [ ]

    pub goes_along : StepsAlong (run_of_c a) a.frame flow (At a body) (Back a) Good a.most_units a.most_steps
    goes_along = record {
      weighs = λ position. omega arith;
      limited = λ position. omega arith;
      waits = waits_there;
      steps = stands_owed;
    }

  -- it begins at the flow's entry
  pub begins_there : StmtDone a [] 0 body → (c_world world : World) → a.Here [] c_world world → At a body (goes_on (reaches body (site_at [] a.bottom)) c_world) 0 world
  begins_there done c_world world here = record {
    place = statement_at [];
    slots = [];
    at = reaches_it [] (top a.of) 0 [] body refl (record { there = body_there; done = done });
    here = here;
    there = entry_reached a.of body;
    number_is = sym (entry_first a.of body);
  }
