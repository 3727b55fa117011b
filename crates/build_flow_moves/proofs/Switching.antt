-- Where a `switch` goes by its value: to the first label with that value, or else to `default`, or else to what follows it.
use Rattle.std.proofs.Common.{◌≡◌, ◌∙◌, ℕ, suc, ◌+◌, ◌≤◌, ℤ, Bool, true, false, List, [], ◌∷◌, ◌++◌, flat_map, Option, Some, None, if◌then◌else◌, refl, sym, ap, subst}
use Rattle.std.specs.Ordering.{int_eq}
use Rattle.build_flow_nodes.specs.Builder.{Context, inside, in_switch, statement_at, edge_place, label_place, case_in, default_or, edge_at, edges_of_switch}
use Rattle.build_flow_nodes.specs.Labels.{Label, labels_from, labels_of_switch, label_where}
use Rattle.build_flow_nodes.specs.Parts.{begun, count_in_test}
use Rattle.build_flow_nodes.specs.Points.{FlowPlace, on_edge, PlacedCase, goes, Point, Placed, jump, behind}
use Rattle.cr_world.specs.World.{World, blocks_of}
use Rattle.cx_core.specs.Trees.{CExpr, CStmt, CStmtForm, switch}
use Rattle.cx_mean.specs.BodyGraph.{CPath, is_default}
use Rattle.cx_mean.specs.Leftmost.{c_stand}
use Rattle.cx_mean.specs.Moves.{CStand, slots_in, following, level_ended, way_of_switch, switched, switching}
use Rattle.cx_mean.specs.Operands.{Frame as CFrame}
use Rattle.cx_mean.specs.Paths.{nothing_left, CLevel, site_at, CTarget, named, case_of, default_case, CWay, way_to}
use Rattle.mem_bytes.specs.declared.value.Value.{Value}
use Rattle.mem_bytes.specs.declared.value.Value.TheVariants.{Whole}
use Rattle.rs_mean.specs.Run.{is_number}
use Rattle.rs_mean.specs.Values.{Typed}
use Rattle.rs_text.specs.Tree.{Stmt}
use Rattle.build_flow_moves.specs.Coded.{AllThere, FormThere, WayCoded, on_the_way}
use Rattle.build_flow_moves.specs.Parts.{Stage, objects_in}
use Rattle.build_flow_moves.specs.Runs.{place_chosen}
use Rattle.build_flow_moves.proofs.Course.{Course, OwedTo, point_run, jump_runs, owed_by}
use Rattle.build_flow_moves.proofs.Going.{Coded, StandOwed, level_of, left_behind, dies, place_owed}
use Rattle.build_flow_moves.proofs.Jumping.{way_point, way_owed}
use Rattle.build_flow_moves.proofs.There.{all_left, all_right, switch_body}
use Rattle.build_flow_moves.proofs.Ways.{hits, where_same, FoundAt, FoundSame, stmt_way}

default_hits : (target : CTarget) → is_default target ≡ hits default_case target
default_hits (named name) = refl
default_hits (case_of value) = refl
default_hits default_case = refl

-- a target that a `switch` looks for
abbrev IsOfSwitch : CTarget → Type 0
IsOfSwitch (named name) = ⊥
IsOfSwitch (case_of value) = Unit {0}
IsOfSwitch default_case = Unit {0}

module _ (a : Stage) (at : FlowPlace → Option Point) (choice : CPath) where
  abbrev chosen_place : Option Label → FlowPlace → FlowPlace
  chosen_place None other = other
  chosen_place (Some one) other = label_place a.of choice one

  abbrev edges : List Label → List Placed
  edges labels = flat_map (λ (it : Label). edges_of_switch a.of choice it.target it) labels

  abbrev edge_point : Stmt → List Stmt → CPath → Point
  edge_point first rest target = record { body = first ∷ rest; last = goes (statement_at target) }

  own_edge : (one : Label) (first : Stmt) (rest : List Stmt) → begun a.of one.objects ≡ first ∷ rest → AllThere a at (edge_at choice one (begun a.of one.objects)) →
      at (on_edge choice one.path) ≡ Some (edge_point first rest one.path)
  own_edge one first rest is all = (subst (λ (ss : List Stmt). AllThere a at (edge_at choice one ss)) is all).0

  -- the edge to a label that is found is there
  edge_there : (target : CTarget) → IsOfSwitch target → (labels : List Label) (one : Label) (first : Stmt) (rest : List Stmt) → label_where (hits target) labels ≡ Some one → begun a.of one.objects ≡ first ∷ rest →
      AllThere a at (edges labels) → at (on_edge choice one.path) ≡ Some (edge_point first rest one.path)
  edge_there target of_switch [] one first rest found is all = absurd cc
  edge_there target of_switch (next ∷ labels) one first rest found is all =
      by_target next.target (hits target next.target) refl found (all_left a at (edges_of_switch a.of choice next.target next) (edges labels) all)
      (λ more. edge_there target of_switch labels one first rest more is (all_right a at (edges_of_switch a.of choice next.target next) (edges labels) all))
    where
      by_hit : (own : CTarget) (wanted : CTarget) → IsOfSwitch wanted → hits wanted own ≡ true → AllThere a at (edges_of_switch a.of choice own next) → AllThere a at (edge_at choice next (begun a.of next.objects))
      by_hit (case_of value) wanted of_it hit there = there
      by_hit default_case wanted of_it hit there = there
      by_hit (named name) (case_of value) of_it hit there = absurd cc
      by_hit (named name) default_case of_it hit there = absurd cc
      by_hit (named name) (named other) of_it hit there = elim of_it [ ]

      by_target : (own : CTarget) (here : Bool) → hits target own ≡ here → (if here then Some next else label_where (hits target) labels) ≡ Some one →
          AllThere a at (edges_of_switch a.of choice own next) → (label_where (hits target) labels ≡ Some one → at (on_edge choice one.path) ≡ Some (edge_point first rest one.path)) →
          at (on_edge choice one.path) ≡ Some (edge_point first rest one.path)
      by_target own true hit same there more =
          let here : next ≡ one = cc in
          subst (λ (it : Label). at (on_edge choice it.path) ≡ Some (edge_point first rest it.path)) here
          (own_edge next first rest (ap (λ (it : Label). begun a.of it.objects) here ∙ is) (by_hit own target of_switch hit there))
      by_target own false hit same there more = more same

  -- ---- cases

  -- the first case with a value is that of the first label with it
  case_chosen : (value : ℤ) (typed : Typed) → typed.value ≡ Whole value → (labels : List Label) (other : FlowPlace) →
      place_chosen typed (flat_map (λ (it : Label). case_in a.of choice it.target it) labels) other ≡ chosen_place (label_where (hits (case_of value)) labels) other
  case_chosen value typed is [] other = refl
  case_chosen value typed is (next ∷ labels) other = by_target next.target (case_chosen value typed is labels other)
    where
      by_value : (own : ℤ) (here : Bool) → here ≡ int_eq value own → (rest : FlowPlace) (found : Option Label) → rest ≡ chosen_place found other →
          (if here then label_place a.of choice next else rest) ≡ chosen_place (if int_eq value own then Some next else found) other
      by_value own true same rest found more = by_true (int_eq value own) same
        where
          by_true : (other_test : Bool) → true ≡ other_test → label_place a.of choice next ≡ chosen_place (if other_test then Some next else found) other
          by_true true is_it = refl
          by_true false is_it = absurd cc
      by_value own false same rest found more = by_false (int_eq value own) same
        where
          by_false : (other_test : Bool) → false ≡ other_test → rest ≡ chosen_place (if other_test then Some next else found) other
          by_false true is_it = absurd cc
          by_false false is_it = more

      by_target : (own : CTarget) → place_chosen typed (flat_map (λ (it : Label). case_in a.of choice it.target it) labels) other ≡ chosen_place (label_where (hits (case_of value)) labels) other →
          place_chosen typed (case_in a.of choice own next ++ flat_map (λ (it : Label). case_in a.of choice it.target it) labels) other
          ≡ chosen_place (if hits (case_of value) own then Some next else label_where (hits (case_of value)) labels) other
      by_target (named name) more = more
      by_target default_case more = more
      by_target (case_of own) more = by_value own (is_number own typed.value) (ap (λ (it : Value). is_number own it) is) _ _ more

module _ (a : Stage) (c : Course a) where
  module _ (slots : CFrame) (levels : List CLevel) (ctx : Context) (path : CPath) (number : ℕ) (value : CExpr) (body : CStmt) (coded : Coded a c levels ctx)
      (there : FormThere a c.at (inside (switch value body) path ctx) path number (objects_in (slots ++ slots_in levels)) (switch value body))
      (m : ℕ) (few : m ≤ c.most) (c_world world : World) (here : a.Here (slots ++ slots_in levels) c_world world) where
    abbrev scope : List ℕ
    scope = objects_in (slots ++ slots_in levels)

    abbrev around : Context
    around = inside (switch value body) path ctx

    abbrev open_levels : List CLevel
    open_levels = level_of slots (switch value body) nothing_left ∷ levels

    abbrev labels : List Label
    labels = labels_of_switch body path

    edges_there : AllThere a c.at (edges a c.at path labels)
    edges_there = all_left a c.at (edges a c.at path labels) _ there.there

    -- a way to a label is followed
    label_owed : (target : CTarget) → IsOfSwitch target → (way : CWay) (one : Label) → label_where (hits target) labels ≡ Some one → FoundAt a c.at (in_switch around) scope [] way one →
        c.Allowed (label_place a.of path one) → OwedTo a c m (a.goes (following way (site_at open_levels a.bottom)) c_world) (c.next (label_place a.of path one)) world
    label_owed target of_switch way one found at_it = by_edge (begun a.of one.objects) refl
      where
        site : Coded a c open_levels (in_switch around)
        site = (ctx, path, number, coded, there, refl)

        way_coded : WayCoded a c.at way (in_switch around) scope one.path one.objects
        way_coded = subst (λ (objects : List ℕ). WayCoded a c.at way (in_switch around) scope one.path objects) (sym at_it.are) at_it.coded

        by_edge : (ss : List Stmt) → begun a.of one.objects ≡ ss → c.Allowed (edge_place ss path one.path) → OwedTo a c m (a.goes (following way (site_at open_levels a.bottom)) c_world) (c.next (edge_place ss path one.path)) world
        by_edge [] is ok =
            owed_by a c m _ (c.next (statement_at one.path)) (point_run a c (way_point a c one.objects one.path)) world world
            (λ k. sym (ap (λ (ss : List Stmt). point_run a c (behind ss (jump (statement_at one.path))) world k) is ∙ jump_runs a c (statement_at one.path) world k))
            (way_owed a c way m few open_levels (in_switch around) one.objects one.path site way_coded c_world world here ok)
        by_edge (first ∷ rest) is ok =
            c.go m (on_edge path one.path) _ (slots_in open_levels) c_world world few
            (on_the_way path one.path (in_switch around) open_levels way one.objects first rest site way_coded is
            (edge_there a c.at path target of_switch labels one first rest found is edges_there)) here ok

    default_owed : (way : Option CWay) (found : Option Label) → label_where (hits default_case) labels ≡ found → FoundSame a c.at (in_switch around) scope [] way found →
        StandOwed a c m (switched way (level_of slots (switch value body) nothing_left) levels a.bottom (blocks_of c_world)) (default_or a.of path found ctx.place) c_world world
    default_owed None None is same = place_owed a c m few levels ctx (left_behind a c slots c_world) world coded (dies a c slots levels c_world world here)
    default_owed (Some way) (Some one) is same = label_owed default_case tt way one is same
    default_owed None (Some one) is same = elim same [ ]
    default_owed (Some way) None is same = elim same [ ]

    found_same : (target : CTarget) → IsOfSwitch target → FoundSame a c.at (in_switch around) scope [] (way_to target body) (label_where (hits target) labels)
    found_same (case_of one) of_switch = stmt_way a c.at (case_of one) true refl body (in_switch around) (0 ∷ path) _ scope [] (switch_body a c.at around path number scope value body there)
    found_same default_case of_switch = stmt_way a c.at default_case true refl body (in_switch around) (0 ∷ path) _ scope [] (switch_body a c.at around path number scope value body there)
    found_same (named name) of_switch = elim of_switch [ ]

    abbrev other_place : FlowPlace
    other_place = default_or a.of path (label_where is_default labels) ctx.place

    case_owed : (chosen : ℤ) (way : Option CWay) (found : Option Label) → label_where (hits (case_of chosen)) labels ≡ found → FoundSame a c.at (in_switch around) scope [] way found →
        StandOwed a c m (switched (way_of_switch chosen body way) (level_of slots (switch value body) nothing_left) levels a.bottom (blocks_of c_world)) (chosen_place a c.at path found other_place) c_world world
    case_owed chosen None None is same =
        subst (λ (found : Option Label). StandOwed a c m (switched (way_to default_case body) (level_of slots (switch value body) nothing_left) levels a.bottom (blocks_of c_world))
        (default_or a.of path found ctx.place) c_world world) (sym (where_same is_default (hits default_case) default_hits labels))
        (default_owed (way_to default_case body) (label_where (hits default_case) labels) refl (found_same default_case tt))
    case_owed chosen (Some way) (Some one) is same = label_owed (case_of chosen) tt way one is same
    case_owed chosen None (Some one) is same = elim same [ ]
    case_owed chosen (Some way) None is same = elim same [ ]

    pub switch_owed : (chosen : ℤ) (typed : Typed) → typed.value ≡ Whole chosen →
        StandOwed a c m (switching (switch value body) chosen (level_of slots (switch value body) nothing_left) levels a.bottom (blocks_of c_world))
        (place_chosen typed (flat_map (λ (it : Label). case_in a.of path it.target it) labels) other_place) c_world world
    switch_owed chosen typed is =
        subst (λ (place : FlowPlace). StandOwed a c m (switching (switch value body) chosen (level_of slots (switch value body) nothing_left) levels a.bottom (blocks_of c_world)) place c_world world)
        (sym (case_chosen a c.at path chosen typed is labels other_place))
        (case_owed chosen (way_to (case_of chosen) body) (label_where (hits (case_of chosen)) labels) refl (found_same (case_of chosen) tt))
