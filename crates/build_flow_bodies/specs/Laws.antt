-- The law of bodies: what is written for a function follows its body, where its parts are typed and its names are kept.
use Rattle.std.specs.Prelude.{◌≡◌, ℕ, ◌<◌, ◌^◌, true, [], ◌++◌, map, length}
use Rattle.cx_core.specs.Trees.{CFun}
use Rattle.cx_mean.specs.Operands.{Slot, Frame as CFrame}
use Rattle.build_flow_laws.specs.Laws.{IsCalled}
use Rattle.build_flow_lives.specs.Standing.{ObjectsDiffer, Calling}
use Rattle.build_flow_nodes.specs.Flows.{flow_of}
use Rattle.build_flow_nodes.specs.Parts.{BodyNames}
use Rattle.build_flow_parts.specs.Bodies.{StmtMeans, ResultMeans}
use Rattle.build_flow_parts.specs.Means.{PartsMean}
use Rattle.build_flow_parts.specs.Tells.{BlockMeans}
use Rattle.emit_rules.specs.Bodies.{emitted}
use Rattle.emit_laws.specs.LawsText.{NodesClosed}
use Rattle.flow.specs.Flows.{graph_of}
use Rattle.lift_calls.specs.Bodies.{BodyOwes}
use Rattle.lift_calls.specs.Frames.{FunctionNames}
use Rattle.lift_calls.specs.Programs.{Setting}
use Rattle.reloop.specs.Fits.{IsFit}
use Rattle.reloop.specs.Shapes.{ShapeTree, has_dispatch}
use Rattle.rs_text.specs.Tree.{FunctionTree}

-- what is known of a function and of what is written for it
pub record BodyMeans (s : Setting) (one : CFun) (tree : FunctionTree) (names : FunctionNames) (of : BodyNames) (shape : ShapeTree) (units steps : ℕ) : Type 0 where
  pub parts : PartsMean s names of units steps
  -- the parameters and the static objects differ
  pub apart : (params : CFrame) → map (λ (slot : Slot). slot.object) params ≡ one.params → ObjectsDiffer (params ++ s.statics)
  pub body : (a : Calling) → IsCalled s one tree names of a → StmtMeans a units steps [] 0 one.body
  pub result : (a : Calling) → IsCalled s one tree names of a → ResultMeans a
  pub fits : IsFit (graph_of (flow_of of one.body)) shape
  pub closed : NodesClosed (flow_of of one.body)
  -- where there is a dispatch
  pub few : has_dispatch shape ≡ true → length (flow_of of one.body).nodes < 2 ^ 32
  pub block : has_dispatch shape ≡ true → (a : Calling) → IsCalled s one tree names of a → BlockMeans a

abbrev pub BodiesFollow : Type 0
BodiesFollow =
    (s : Setting) (one : CFun) (tree : FunctionTree) (names : FunctionNames) (of : BodyNames) (shape : ShapeTree) (units steps : ℕ) → BodyMeans s one tree names of shape units steps →
    BodyOwes s one tree names (emitted (flow_of of one.body) shape) units steps
