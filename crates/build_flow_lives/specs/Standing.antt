-- Where a function of C and that of the crate stand together in their bodies (ISO C99, 6.2.4, 6.8 and 6.9.1).
use Rattle.std.specs.Prelude.{◌≡◌, ℕ, [], ◌∷◌, ◌++◌, Option, None}
use Rattle.cr_world.specs.World.{World}
use Rattle.cx_core.specs.Trees.{CFun}
use Rattle.cx_mean.specs.Operands.{CValue, Frame as CFrame, slot_of}
use Rattle.cx_mean.specs.State.{bottom_of}
use Rattle.cx_mean_laws.proofs.Unfolded.{goes_unfold}
use Rattle.build_flow_moves.specs.Parts.{Stage}
use Rattle.build_flow_nodes.specs.Parts.{BodyNames}
use Rattle.lift_calls.specs.Bodies.{Inside, Returned}
use Rattle.lift_calls.specs.Calls.{result_laid}
use Rattle.lift_calls.specs.Frames.{FunctionNames}
use Rattle.lift_calls.specs.Programs.{Setting, setting_in, c_goes}
use Rattle.lift_stands.specs.Stands.{Images}
use Rattle.lift_stands_values.specs.Given.{align_or}
use Rattle.mem_bytes.specs.declared.value.Ptr.{Ptr}
use Rattle.rs_mean.specs.Run.{Frame, returned}
use Rattle.rs_mean.specs.Values.{Typed}
use Rattle.rs_text.specs.Tree.{FunctionTree}

-- no object has two slots
abbrev pub ObjectsDiffer : CFrame → Type 0
ObjectsDiffer [] = Unit {0}
ObjectsDiffer (slot ∷ others) = (slot_of others slot.object ≡ None) × ObjectsDiffer others

-- a call that runs on both sides
pub record Calling : Type 0 where
  pub s : Setting
  pub one : CFun
  pub tree : FunctionTree
  pub names : FunctionNames
  pub of : BodyNames
  -- how things stood where it was called
  pub images : Images
  pub place : Option Ptr
  pub c_before : World
  pub before : World
  -- its parameters in C, and its locals in the crate
  pub params : CFrame
  pub frame : Frame

-- the objects of open statements, beside those of the function
abbrev pub own_slots : Calling → CFrame → CFrame
own_slots a slots = slots ++ a.params

-- both stand in their bodies, with these objects of open statements in C
pub record Standing (a : Calling) (slots : CFrame) (c_world world : World) : Type 0 where
  pub later : Images
  pub inside : Inside a.s a.one a.names a.images later a.place a.c_before a.before (own_slots a slots) a.frame c_world world
  pub apart : ObjectsDiffer (own_slots a slots ++ a.s.statics)

-- both have returned
abbrev pub HasReturned : Calling → CValue → World → Option Typed → World → Type 0
HasReturned a value c_world given world = Returned a.images a.place (align_or (result_laid a.s a.one)) a.tree.result a.c_before a.before a.frame value c_world (returned given) world

-- the moves of the body, below bounds of units and of steps
abbrev pub stage_of : Calling → (most_units most_steps : ℕ) → Stage
stage_of a most_units most_steps = record {
  setting = setting_in a.s;
  statics = a.s.statics;
  bottom = bottom_of a.one a.params;
  goes = c_goes a.s;
  unfolds = goes_unfold.unfolds (setting_in a.s) a.s.statics;
  bounded = goes_unfold.calls_bounded (setting_in a.s) a.s.statics;
  of = a.of;
  frame = a.frame;
  most_units = most_units;
  most_steps = most_steps;
  Here = Standing a;
  Back = HasReturned a;
}
