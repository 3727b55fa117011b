-- The law of the text of a body: it owes what the body of C does.
use Rattle.std.specs.Prelude.{◌≡◌, ℕ, ◌<◌, ◌^◌, true, [], ◌++◌, map, length}
use Rattle.cr_runs.specs.Runs.{came}
use Rattle.cr_world.specs.World.{World}
use Rattle.cx_core.specs.Trees.{CFun}
use Rattle.cx_mean.specs.Operands.{Slot, Frame as CFrame}
use Rattle.cx_mean.specs.State.{bottom_of}
use Rattle.build_flow_lives.specs.Standing.{ObjectsDiffer, Calling, Standing, stage_of}
use Rattle.build_flow_moves.specs.Parts.{StmtDone, GivenBack}
use Rattle.build_flow_nodes.specs.Flows.{flow_of}
use Rattle.build_flow_nodes.specs.Parts.{BodyNames, at_end_of}
use Rattle.emit_rules.specs.Bodies.{emitted}
use Rattle.emit_rules.specs.Jumps.{tells}
use Rattle.emit_laws.specs.LawsText.{NodesClosed}
use Rattle.emit_laws.specs.Tells.{Reads}
use Rattle.flow.specs.Flows.{graph_of}
use Rattle.lift_calls.specs.Bodies.{BodyOwes}
use Rattle.lift_calls.specs.Frames.{FunctionNames}
use Rattle.lift_calls.specs.Programs.{Setting, crate_bodies}
use Rattle.lift_stands.specs.Worlds.{WorldsStand}
use Rattle.reloop.specs.Fits.{IsFit}
use Rattle.reloop.specs.Shapes.{ShapeTree, has_dispatch}
use Rattle.rs_mean.specs.Run.{normal, run_stmt}
use Rattle.rs_text.specs.Tree.{FunctionTree}

-- ---- what is asked of a body

-- a function that was called, in worlds that stood for each other, with the parameters that it has
pub record IsCalled (s : Setting) (one : CFun) (tree : FunctionTree) (names : FunctionNames) (of : BodyNames) (a : Calling) : Type 0 where
  pub setting_is : a.s ≡ s
  pub one_is : a.one ≡ one
  pub tree_is : a.tree ≡ tree
  pub names_is : a.names ≡ names
  pub of_is : a.of ≡ of
  pub started : WorldsStand a.images a.c_before a.before
  pub params_are : map (λ (slot : Slot). slot.object) a.params ≡ one.params
  pub bodies_are : a.frame.bodies ≡ crate_bodies s

-- `current_block` can be told a node: both stand where they did
pub record IsTold (a : Calling) (slots : CFrame) (node : ℕ) (c_world world : World) : Type 0 where
  pub later : World
  pub runs : (units : ℕ) → run_stmt a.frame (tells node) world units ≡ came normal later units
  pub stands : Standing a slots c_world later
  pub reads : Reads a.frame later node

-- what is written for the parts of a body does what they do, wherever the function was called; and the shape fits the flow
pub record IsFlowing (s : Setting) (one : CFun) (tree : FunctionTree) (names : FunctionNames) (of : BodyNames) (shape : ShapeTree) (units steps : ℕ) : Type 0 where
  -- the parameters and the static objects differ
  pub apart : (params : CFrame) → map (λ (slot : Slot). slot.object) params ≡ one.params → ObjectsDiffer (params ++ s.statics)
  pub parts : (a : Calling) → IsCalled s one tree names of a → StmtDone (stage_of a units steps) [] 0 one.body
  pub ends : (a : Calling) → IsCalled s one tree names of a → (c_world world : World) → Standing a [] c_world world →
      GivenBack (stage_of a units steps) [] (at_end_of of) (bottom_of one a.params).at_end c_world world
  pub fits : IsFit (graph_of (flow_of of one.body)) shape
  pub closed : NodesClosed (flow_of of one.body)
  -- where there is a dispatch, the number behind that of the last node is a `u32` too
  pub few : has_dispatch shape ≡ true → length (flow_of of one.body).nodes < 2 ^ 32
  pub tells : has_dispatch shape ≡ true → (a : Calling) → IsCalled s one tree names of a → (slots : CFrame) (node : ℕ) (c_world world : World) → node < 2 ^ 32 →
      Standing a slots c_world world → IsTold a slots node c_world world

-- the text of any shape that fits the flow of a body follows the body
abbrev pub TextFollows : Type 0
TextFollows =
    (s : Setting) (one : CFun) (tree : FunctionTree) (names : FunctionNames) (of : BodyNames) (shape : ShapeTree) (units steps : ℕ) → IsFlowing s one tree names of shape units steps →
    BodyOwes s one tree names (emitted (flow_of of one.body) shape) units steps
