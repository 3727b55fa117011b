-- The run of a body of C as a source, and where it stands beside a node of the flow of the body.
use Rattle.std.specs.Prelude.{◌≡◌, ℕ, Option}
use Rattle.build_flow_moves.specs.Coded.{AtPlace}
use Rattle.build_flow_moves.specs.Parts.{Stage}
use Rattle.build_flow_nodes.specs.Flows.{number_of}
use Rattle.build_flow_nodes.specs.Points.{FlowPlace}
use Rattle.build_flow_numbers.proofs.Nodes.{reached, at_place, IsReached}
use Rattle.cr_runs.specs.Runs.{came}
use Rattle.cr_world.specs.World.{World, events_of}
use Rattle.cx_core.specs.Trees.{CStmt}
use Rattle.cx_mean.specs.Leftmost.{CRan}
use Rattle.cx_mean.specs.Moves.{CMove}
use Rattle.cx_mean.specs.Operands.{CStop, CValue, Frame as CFrame}
use Rattle.flow.specs.Sources.{Source}
use Rattle.rs_mean.specs.Values.{Typed}

-- a function of C goes on from a move, or has given back a value
pub data Position : Type 0 where
  goes_on : CMove → World → Position
  has_given : CValue → World → Position

module _ (a : Stage) where
  abbrev pub runs_from : Position → ℕ → CRan CValue
  runs_from (goes_on move world) = a.goes move world
  runs_from (has_given value world) = came value world

  -- every step of it counts: positions need no weight
  abbrev pub run_of_c : Source CStop World CValue Position
  run_of_c = record { runs = runs_from; events = events_of; weight = λ position. 1; limit = 1 }

  -- it stands at a place that is reached, with the objects of its open statements
  pub record StandsAt (body : CStmt) (move : CMove) (c_world : World) (number : ℕ) (world : World) : Type 0 where
    pub place : FlowPlace
    pub slots : CFrame
    pub at : AtPlace a (at_place a.of body) place move slots
    pub here : a.Here slots c_world world
    pub there : IsReached a.of body place
    pub number_is : number ≡ number_of place (reached a.of body)

  abbrev pub At : CStmt → Position → ℕ → World → Type 0
  At body (goes_on move c_world) number world = StandsAt body move c_world number world
  At body (has_given value c_world) number world = ⊥

  abbrev pub Back : Position → Option Typed → World → Type 0
  Back (goes_on move c_world) given world = ⊥
  Back (has_given value c_world) given world = a.Back value c_world given world
