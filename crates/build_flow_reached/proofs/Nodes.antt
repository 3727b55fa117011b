-- The nodes that are found from the end of the text are those of the places that are reached.
use Rattle.std.proofs.Common.{◌≡◌, ◌∙◌, ℕ, Bool, true, false, ◌&&◌, if◌then◌else◌, List, [], ◌∷◌, ◌++◌, map, filter, Some, is_some, refl, ap}
use Rattle.build_flow_linear.specs.Linear.{Instr, marks, does, leaves, read}
use Rattle.build_flow_nodes.specs.Flows.{number_of, numbered_case, numbered_branch, node_of}
use Rattle.build_flow_nodes.specs.Points.{FlowPlace, PlacedCase, PlacedBranch, goes, tests, chooses, returns, Placed, placed, same_place, point_at}
use Rattle.build_flow_numbers.proofs.Places.{same_place_itself}
use Rattle.build_flow_reached.specs.Behind.{case_with, branch_with, BehindTree, node_here, all_in_front}
use Rattle.build_flow_reached.specs.Codes.{ended, placed_in}
use Rattle.build_flow_reached.specs.Views.{start}
use Rattle.build_flow_reached.proofs.Numbered.{tells}
use Rattle.flow.specs.Flows.{BranchTree, switch, CaseTree, NodeTree}
use Rattle.rs_text.specs.Tree.{Stmt, stmts}

module _ (number : FlowPlace → ℕ) (test : FlowPlace → Bool) where
  abbrev pub node_with : Placed → NodeTree
  node_with one = record { body = stmts one.point.body; last = branch_with number one.point.last }

  -- what is done from the begin of the code on, and the nodes of its places
  record Fronts (code : List Instr) (behind : BehindTree) : Type 0 where
    body : behind.body ≡ (read ended code).body
    last : behind.last ≡ branch_with number (read ended code).last
    nodes : behind.nodes ≡ map node_with (filter (tells test) (placed_in code))

  front_mark : (place : FlowPlace) (others : List Instr) (behind : BehindTree) → Fronts others behind → (is : Bool) →
      (if is then record behind { nodes = node_here behind ∷ behind.nodes } else behind).nodes
      ≡ map node_with (if is then placed place (read ended others) ∷ filter (tells test) (placed_in others) else filter (tells test) (placed_in others))
  front_mark place others behind was true =
      ap (λ (body : List Stmt). record { body = stmts body; last = behind.last } ∷ behind.nodes) was.body
      ∙ ap (λ (last : BranchTree). record { body = stmts (read ended others).body; last = last } ∷ behind.nodes) was.last
      ∙ ap (λ (nodes : List NodeTree). record { body = stmts (read ended others).body; last = branch_with number (read ended others).last } ∷ nodes) was.nodes
  front_mark place others behind was false = was.nodes

  mark_body : (behind : BehindTree) (is : Bool) → (if is then record behind { nodes = node_here behind ∷ behind.nodes } else behind).body ≡ behind.body
  mark_body behind true = refl
  mark_body behind false = refl

  mark_last : (behind : BehindTree) (is : Bool) → (if is then record behind { nodes = node_here behind ∷ behind.nodes } else behind).last ≡ behind.last
  mark_last behind true = refl
  mark_last behind false = refl

  fronts : (code : List Instr) → Fronts code (all_in_front number test code start)
  fronts [] = record { body = refl; last = refl; nodes = refl }
  fronts (marks place ∷ others) =
      let was = fronts others in
      let behind = all_in_front number test others start in record {
        body = mark_body behind (test place) ∙ was.body;
        last = mark_last behind (test place) ∙ was.last;
        nodes = front_mark place others behind was (test place);
      }
  fronts (does body ∷ others) = let was = fronts others in record { body = ap (λ (list : List Stmt). body ++ list) was.body; last = was.last; nodes = was.nodes }
  fronts (leaves branch ∷ others) = let was = fronts others in record { body = refl; last = refl; nodes = was.nodes }

  pub nodes_made : (code : List Instr) → (all_in_front number test code start).nodes ≡ map node_with (filter (tells test) (placed_in code))
  nodes_made code = (fronts code).nodes

-- ---- numbers of nodes

module _ (all : List Placed) where
  abbrev in_all : FlowPlace → ℕ
  in_all place = number_of place all

  same_cases : (cases : List PlacedCase) → map (case_with in_all) cases ≡ map (numbered_case all) cases
  same_cases [] = refl
  same_cases (one ∷ others) = ap (λ (rest : List CaseTree). numbered_case all one ∷ rest) (same_cases others)

  same_branch : (branch : PlacedBranch) → branch_with in_all branch ≡ numbered_branch all branch
  same_branch (goes to) = refl
  same_branch (tests e if_true if_false) = refl
  same_branch (chooses one) = ap (λ (cases : List CaseTree). switch (record { on = one.on; by = one.by; cases = cases; other = number_of one.other all })) (same_cases one.cases)
  same_branch (returns value) = refl

  pub same_nodes : (list : List Placed) → map (node_with in_all (λ place. true)) list ≡ map (node_of all) list
  same_nodes [] = refl
  same_nodes (one ∷ others) =
      ap (λ (last : BranchTree). record { body = stmts one.point.body; last = last } ∷ map (node_with in_all (λ place. true)) others) (same_branch one.point.last)
      ∙ ap (λ (rest : List NodeTree). node_of all one ∷ rest) (same_nodes others)

-- ---- tests that agree

abbrev pub AllThere : List Placed → List Placed → Type 0
AllThere whole [] = Unit {0}
AllThere whole (one ∷ others) = (is_some (point_at one.place whole) ≡ true) × AllThere whole others

there_behind : (first : Placed) (whole list : List Placed) → AllThere whole list → AllThere (first ∷ whole) list
there_behind first whole [] there = tt
there_behind first whole (one ∷ others) there = (by (same_place one.place first.place) there.0, there_behind first whole others there.1)
  where
    by : (same : Bool) → is_some (point_at one.place whole) ≡ true → is_some (if same then Some first.point else point_at one.place whole) ≡ true
    by true is = refl
    by false is = is

pub all_there : (list : List Placed) → AllThere list list
all_there [] = tt
all_there (one ∷ others) =
    (ap (λ (same : Bool). is_some (if same then Some one.point else point_at one.place others)) (same_place_itself one.place), there_behind one others others (all_there others))

pub same_kept : (test other : FlowPlace → Bool) (whole list : List Placed) → ((place : FlowPlace) → test place ≡ (is_some (point_at place whole) && other place)) → AllThere whole list →
    filter (tells test) list ≡ filter (tells other) list
same_kept test other whole [] is there = refl
same_kept test other whole (one ∷ others) is there =
    ap (λ (kept : Bool). if kept then one ∷ filter (tells test) others else filter (tells test) others) (is one.place ∙ ap (λ (found : Bool). found && other one.place) there.0)
    ∙ ap (λ (rest : List Placed). if other one.place then one ∷ rest else rest) (same_kept test other whole others is there.1)
