-- The numbers of nodes: reached places are numbered in the order of the text.
use Rattle.std.specs.Prelude.{ℕ, suc, Bool, true, false, List, [], ◌∷◌, Option, Some, None, slice_get, unwrap_or, is_some}
use Rattle.std.specs.Option.{option_flatten}
use Rattle.build_flow_nodes.specs.Points.{FlowPlace}
use Rattle.build_flow_reached.specs.Index.{number_in}
use Rattle.build_flow_reached.specs.declared.index.PlaceIndex.{PlaceIndex}
use Rattle.build_flow_reached.specs.declared.numbers.Numbers.{Numbers}

abbrev pub numbers_from : ℕ → List Bool → List (Option ℕ)
numbers_from number [] = []
numbers_from number (true ∷ others) = Some number ∷ numbers_from (suc number) others
numbers_from number (false ∷ others) = None ∷ numbers_from number others

abbrev pub counted_from : ℕ → List Bool → ℕ
counted_from number [] = number
counted_from number (true ∷ others) = counted_from (suc number) others
counted_from number (false ∷ others) = counted_from number others

-- the number of the node of a place by its number, where it is reached
abbrev pub found_at : List (Option ℕ) → ℕ → Option ℕ
found_at numbers place = option_flatten (slice_get numbers place)

-- the number of the node of a place, or how many nodes there are
abbrev pub node_number : PlaceIndex → Numbers → FlowPlace → ℕ
node_number index numbers place = unwrap_or (found_at numbers.numbers (number_in index place)) numbers.count

abbrev pub is_reached : PlaceIndex → Numbers → FlowPlace → Bool
is_reached index numbers place = is_some (found_at numbers.numbers (number_in index place))
