-- The flow of linear code is made of the nodes that are found from its end.
use Rattle.std.proofs.Common.{◌≡◌, ◌∙◌, ℕ, ◌&&◌, Bool, true, false, List, [], ◌∷◌, length, map, Option, unwrap_or, is_some, replicate, ap, arith}
use Rattle.std.proofs.Math.Path.{fun_ext}
use Rattle.build_flow_linear.specs.Linear.{Instr}
use Rattle.build_flow_nodes.specs.Builder.{statement_at}
use Rattle.build_flow_nodes.specs.Flows.{number_of, node_of, reached_in, reached_part}
use Rattle.build_flow_nodes.specs.Points.{FlowPlace, Placed, point_at}
use Rattle.build_flow_reached.specs.Behind.{all_in_front}
use Rattle.build_flow_reached.specs.Codes.{ended, placed_in, flow_of_code, AllDiffer}
use Rattle.build_flow_reached.specs.Index.{number_in, number_from, IsNumbered}
use Rattle.build_flow_reached.specs.Numbers.{numbers_from, counted_from, found_at, node_number, is_reached}
use Rattle.build_flow_reached.specs.Reached.{reached_by}
use Rattle.build_flow_reached.specs.Tables.{arms_from, arms_in, branches_from}
use Rattle.build_flow_reached.specs.Views.{start}
use Rattle.build_flow_reached.specs.Walks.{all_seen}
use Rattle.build_flow_reached.specs.declared.index.PlaceIndex.{PlaceIndex}
use Rattle.build_flow_reached.specs.declared.numbers.Numbers.{Numbers}
use Rattle.build_flow_reached.proofs.Nodes.{all_there, nodes_made, node_with, same_kept, same_nodes}
use Rattle.build_flow_reached.proofs.Numbered.{among, arms_are, arms_there, counts, number_kept, numbers as numbers_are, reached_found, tells}
use Rattle.build_flow_reached.proofs.Walks.{all_reached}
use Rattle.flow.specs.Flows.{NodeTree}

module _ (index : PlaceIndex) (numbers : Numbers) (code : List Instr) (differ : AllDiffer (placed_in code)) (numbered : IsNumbered index code) where
  abbrev all : List Placed
  all = placed_in code

  abbrev in_all : FlowPlace → ℕ
  in_all place = number_of place all

  number_there : (place : FlowPlace) → number_in index place ≡ in_all place
  number_there place =
      ap (λ (found : Option ℕ). unwrap_or found index.count) (numbered.held place) ∙ ap (unwrap_or (number_from 0 place code)) numbered.count
      ∙ (let are = numbers_are 0 place ended code in omega (arith, are))

  count_there : index.count ≡ length all
  count_there = numbered.count ∙ (let are = counts 0 ended code in omega (arith, are))

  abbrev marks_of : List Bool
  marks_of = map (tells (among (reached_in all))) all

  -- the marks of what is reached
  marked : reached_by index code ≡ marks_of
  marked =
      ap (λ (number : FlowPlace → ℕ). all_seen (arms_from (branches_from 0 code) (arms_in number code)) (number (statement_at []) ∷ []) (replicate index.count false)) (fun_ext number_there)
      ∙ ap (λ (count : ℕ). all_seen (arms_from (branches_from 0 code) (arms_in in_all code)) (in_all (statement_at []) ∷ []) (replicate count false)) count_there
      ∙ all_reached all differ (arms_from (branches_from 0 code) (arms_in in_all code)) (arms_there in_all code) (arms_are in_all code)

  module _ (numbers_is : numbers.numbers ≡ numbers_from 0 (reached_by index code)) (count_is : numbers.count ≡ counted_from 0 (reached_by index code)) where
    abbrev kept : List Placed
    kept = reached_part all

    found_is : (place : FlowPlace) → found_at numbers.numbers (number_in index place) ≡ found_at (numbers_from 0 marks_of) (in_all place)
    found_is place =
        ap (λ (list : List (Option ℕ)). found_at list (number_in index place)) (numbers_is ∙ ap (numbers_from 0) marked) ∙ ap (found_at (numbers_from 0 marks_of)) (number_there place)

    node_is : (place : FlowPlace) → node_number index numbers place ≡ number_of place kept
    node_is place =
        ap (λ (found : Option ℕ). unwrap_or found numbers.count) (found_is place)
        ∙ ap (unwrap_or (found_at (numbers_from 0 marks_of) (in_all place))) (count_is ∙ ap (counted_from 0) marked)
        ∙ (let are = number_kept (among (reached_in all)) place 0 all in omega (arith, are))

    reached_is : (place : FlowPlace) → is_reached index numbers place ≡ (is_some (point_at place all) && among (reached_in all) place)
    reached_is place = ap is_some (found_is place) ∙ reached_found (among (reached_in all)) place 0 all

    pub flow_made : (nodes : List NodeTree) → nodes ≡ (all_in_front (node_number index numbers) (is_reached index numbers) code start).nodes → record { nodes = nodes; entry = 0 } ≡ flow_of_code code
    flow_made nodes is = ap (λ (list : List NodeTree). record { nodes = list; entry = 0 }) (is ∙ made)
      where
        made : (all_in_front (node_number index numbers) (is_reached index numbers) code start).nodes ≡ map (node_of kept) kept
        made =
            nodes_made (node_number index numbers) (is_reached index numbers) code
            ∙ ap (map (node_with (node_number index numbers) (is_reached index numbers))) (same_kept (is_reached index numbers) (among (reached_in all)) all all reached_is (all_there all))
            ∙ ap (λ (number : FlowPlace → ℕ). map (node_with number (λ place. true)) kept) (fun_ext node_is)
            ∙ same_nodes kept kept
