-- Which places of linear code are reached, by numbers of places.
use Rattle.std.specs.Prelude.{Bool, false, List, [], ◌∷◌, replicate}
use Rattle.build_flow_linear.specs.Linear.{Instr}
use Rattle.build_flow_nodes.specs.Builder.{statement_at}
use Rattle.build_flow_reached.specs.Index.{number_in}
use Rattle.build_flow_reached.specs.Tables.{arms_from, arms_in, branches_from}
use Rattle.build_flow_reached.specs.Walks.{all_seen}
use Rattle.build_flow_reached.specs.declared.index.PlaceIndex.{PlaceIndex}

abbrev pub reached_by : PlaceIndex → List Instr → List Bool
reached_by index code =
    all_seen (arms_from (branches_from 0 code) (arms_in (number_in index) code)) (number_in index (statement_at []) ∷ []) (replicate index.count false)
