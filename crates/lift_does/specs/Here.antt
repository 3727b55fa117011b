-- Where the statements that are written for an expression begin, beside its evaluation (ISO C99, 6.5; the Rust Reference, "Statements").
use Rattle.std.specs.Prelude.{◌++◌}
use Rattle.cr_world.specs.World.{World}
use Rattle.cx_core.specs.Typing.{CHome}
use Rattle.cx_mean.specs.Operands.{Frame as CFrame}
use Rattle.cx_typed_leftmost.specs.Laws.{IsTypedAt}
use Rattle.lift_calls.specs.Frames.{FunctionNames, FramesAgree}
use Rattle.lift_calls.specs.Programs.{Setting, ProgramAgrees}
use Rattle.lift_stands.specs.Stands.{Images}
use Rattle.lift_stands.specs.Worlds.{WorldsStand}
use Rattle.rs_mean.specs.Run.{Frame}

-- the worlds and the frames of both, and what holds in C of a typed program
pub record Here (s : Setting) (home : CHome) (kept : FunctionNames) (images : Images) (c_frame : CFrame) (frame : Frame) (c_world world : World) : Type 0 where
  pub program : ProgramAgrees s images
  pub worlds : WorldsStand images c_world world
  pub frames : FramesAgree s kept images c_frame frame c_world world
  pub typed : IsTypedAt home (c_frame ++ s.statics) c_world
