-- Laws of the text that is written from a flow and its shape: what it does.
use Rattle.std.specs.Prelude.{◌≡◌, ℕ, ◌≤◌, Bool, true, [], Option, Some, None, IsTrue}
use Rattle.cr_runs.specs.Laws.{Passes}
use Rattle.cr_runs.specs.Owes.{Owes, Rests}
use Rattle.cr_world.specs.World.{World, events_of}
use Rattle.reloop.specs.Fits.{IsFit}
use Rattle.reloop.specs.Shapes.{ShapeTree, has_dispatch}
use Rattle.rs_mean.specs.Run.{Frame, Flow, normal, returned, run_stmts}
use Rattle.rs_mean.specs.Values.{Typed}
use Rattle.rs_mean.specs.World.{Run, seq}
use Rattle.rs_mean_frames.specs.Behave.{BodiesBehave}
use Rattle.flow.specs.Flows.{NodeTree, FlowTree, node_at, graph_of}
use Rattle.flow.specs.Sources.{Source, StepsAlong}
use Rattle.emit_rules.specs.Bodies.{emitted}
use Rattle.emit_laws.specs.Closed.{stmts_closed}
use Rattle.emit_laws.specs.Tells.{CanTell}

-- the statements of each node break and continue to labels inside of themselves alone
abbrev pub NodesClosed : FlowTree → Type 0
NodesClosed flow = (number : ℕ) (node : NodeTree) → node_at flow number ≡ Some node → stmts_closed [] node.body ≡ true

module _ {F S A B P : Type 0} (source : Source F S A P) (frame : Frame) (flow : FlowTree) (shape : ShapeTree) (At : P → ℕ → World → Type 0) (Back : P → Option Typed → World → Type 0)
    (Good : A → S → B → World → Type 0) (most_units most_steps : ℕ) (next : Flow → Run B) where
  -- what follows the text in a function: it shows nothing before it takes a unit, it gives back nothing at the end of the text, and where the source returns it is owed
  pub record IsBehindText : Type 0 where
    pub silent : (ending : Flow) (world : World) → Rests events_of (events_of world) (next ending world 0)
    pub at_end : next normal ≡ next (returned None)
    pub returns : (n m : ℕ) (position : P) (value : Option Typed) (world : World) → n ≤ most_units → m ≤ most_steps → Back position value world →
        Owes source.events events_of Good n m (source.runs position) (next (returned value) world)

  -- The source goes along the flow, whose shape fits, under bounds up to these, and `current_block` can be told wherever it stands, if it has to be.
  pub record IsWritten : Type 0 where
    pub bodies : BodiesBehave frame.bodies
    pub fits : IsFit (graph_of flow) shape
    pub closed : NodesClosed flow
    pub along : StepsAlong source frame flow At Back Good most_units most_steps
    pub tells : has_dispatch shape ≡ true → CanTell frame At
    pub behind : IsBehindText

  -- the text is owed to the source wherever that stands at the flow's entry
  abbrev pub TextIsOwed : Type 0
  TextIsOwed = (position : P) (world : World) → At position flow.entry world →
      Owes source.events events_of Good most_units most_steps (source.runs position) (seq (run_stmts frame (emitted flow shape)) next world)

-- where a source stands, returns and ends well is told by tests
abbrev pub TextOwes : (F S A B P : Type 0) → Type 0
TextOwes F S A B P =
    (source : Source F S A P) (frame : Frame) (flow : FlowTree) (shape : ShapeTree) (at : P → ℕ → World → Bool) (back : P → Option Typed → World → Bool) (good : A → S → B → World → Bool)
    (most_units most_steps : ℕ) (next : Flow → Run B) →
    IsWritten source frame flow shape (λ position node world. IsTrue (at position node world)) (λ position value world. IsTrue (back position value world)) (Passes good) most_units most_steps next →
    TextIsOwed source frame flow shape (λ position node world. IsTrue (at position node world)) (λ position value world. IsTrue (back position value world)) (Passes good) most_units most_steps next
