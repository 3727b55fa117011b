-- What the body of a function of the crate owes that of C (ISO C99, 6.8 and 6.9.1): from its begin, where the parameters have their arguments, to its return.
use Rattle.std.specs.Prelude.{◌≡◌, ℕ, ◌<◌, ◌≤◌, List, [], ◌++◌, map, length, replicate, Option, Some, None, Ok}
use Rattle.std.specs.List.{Contains}
use Rattle.cr_base.specs.declared.layout.Laid.{Laid}
use Rattle.cr_base.specs.declared.scalar.Scalar.TheVariants.{Object as Address}
use Rattle.cr_runs.specs.Owes.{Owes}
use Rattle.cr_world.specs.World.{World, blocks_of, events_of}
use Rattle.cx_core.specs.Trees.{CFun}
use Rattle.cx_mean.specs.Moves.{reaches}
use Rattle.cx_mean.specs.Operands.{CValue, Slot, Frame as CFrame}
use Rattle.cx_mean.specs.Paths.{site_at}
use Rattle.cx_mean.specs.State.{bottom_of}
use Rattle.lift_stands.specs.Keeps.{KeepsOthers}
use Rattle.lift_stands.specs.Stands.{Images, IsNoImage, IsVacant}
use Rattle.lift_stands.specs.Worlds.{WorldsStand}
use Rattle.lift_stands_values.specs.Given.{align_or}
use Rattle.mem_bytes.specs.Access.{value_at}
use Rattle.mem_bytes.specs.Memory.{Block, live_block, size_of, byte_cell}
use Rattle.mem_bytes.specs.declared.value.Ptr.{Ptr}
use Rattle.mem_bytes.specs.declared.value.Value.TheVariants.{Object}
use Rattle.rs_mean.specs.Lookups.{LocalBlock}
use Rattle.rs_mean.specs.Run.{Frame, Flow, run_stmts, given_by}
use Rattle.rs_text.specs.Tree.{Ty, Pointer, Stmts, FunctionTree}
use Rattle.lift_calls.specs.Calls.{result_laid, ResultPlace, is_place, type_in, IsOfItsType, GivesBack}
use Rattle.lift_calls.specs.Frames.{KeptTemporary, FunctionNames, IsLocal, FramesAgree}
use Rattle.lift_calls.specs.Programs.{Setting, c_goes, ProgramAgrees, IsTypedScope}

-- ---- inside a function

-- the parameter of a name holds the address of the place of the result, which was made before the function was called, and C knows nothing of either
pub record HoldsResult (base : ℕ) (images : Images) (world : World) (frame : Frame) (laid : Laid) (name : List ℕ) (at : Ptr) : Type 0 where
  pub local : LocalBlock
  pub is_local : IsLocal frame name local
  pub to : Ty
  pub ty_is : local.ty ≡ Pointer to
  pub holds : value_at (blocks_of world) (record { block = local.block; offset = 0 }) Address ≡ Ok (Object at)
  pub no_image : IsNoImage images local.block
  pub place : ResultPlace images (blocks_of world) laid at
  pub older : at.block < base

-- there is one where the function gives a structure or union, and only there
abbrev pub ResultAgrees : (base : ℕ) → Images → World → Frame → Option Laid → Option (List ℕ) → Option Ptr → Type 0
ResultAgrees base images world frame None None None = Unit {0}
ResultAgrees base images world frame (Some laid) (Some name) (Some at) = HoldsResult base images world frame laid name at
ResultAgrees base images world frame laid name place = ⊥

-- a local holds zero bytes alone, and C knows nothing of it
pub record HoldsZeros (images : Images) (world : World) (frame : Frame) (zero : KeptTemporary) : Type 0 where
  pub local : LocalBlock
  pub is_local : IsLocal frame zero.name local
  pub ty_is : local.ty ≡ zero.ty
  pub block : Block
  pub live : live_block (blocks_of world) local.block ≡ Some block
  pub cells : block.cells ≡ replicate (size_of block) (byte_cell 0)
  pub no_image : IsNoImage images local.block

-- a function of the crate stands beside one of C, which were called in the worlds before
pub record Inside (s : Setting) (one : CFun) (names : FunctionNames) (images later : Images) (place : Option Ptr) (c_before before : World) (c_frame : CFrame)
    (frame : Frame) (c_world world : World) : Type 0 where
  pub program : ProgramAgrees s later
  pub stays : KeepsOthers (length (blocks_of before)) (is_place place) images later c_before.held c_world.held before.held world.held
  pub worlds : WorldsStand later c_world world
  pub frames : FramesAgree s names later c_frame frame c_world world
  -- its objects and locals were made since
  pub slots : (slot : Slot) → Contains c_frame slot → length (blocks_of c_before) ≤ slot.block
  pub locals : (local : LocalBlock) → Contains frame.locals local → length (blocks_of before) ≤ local.block
  pub result : ResultAgrees (length (blocks_of before)) later world frame (result_laid s one) names.result place
  pub zeros : (number : ℕ) (zero : KeptTemporary) → names.zeros number ≡ Some zero → HoldsZeros later world frame zero
  -- in C, so that no allocation gave the block of an object in scope
  pub scope : IsTypedScope s.program (c_frame ++ s.statics) c_world

-- ---- its return

-- statements of the crate have come to where C has returned: no local stands for what lives, so they may end
pub record Returned (images : Images) (place : Option Ptr) (align : ℕ) (result : Option Ty) (c_before before : World) (frame : Frame) (value : CValue)
    (c_world : World) (flow : Flow) (world : World) : Type 0 where
  pub later : Images
  pub stays : KeepsOthers (length (blocks_of before)) (is_place place) images later c_before.held c_world.held before.held world.held
  pub worlds : WorldsStand later c_world world
  pub vacant : (local : LocalBlock) → Contains frame.locals local → IsVacant later (blocks_of c_world) local.block
  pub typed : type_in (given_by result flow) ≡ result
  pub of_type : IsOfItsType (given_by result flow)
  pub gives : GivesBack later (blocks_of world) align place value (given_by result flow)

-- what the statements of a body owe below a bound of units and one of steps, from where the parameters have begun
abbrev pub BodyOwes : Setting → CFun → FunctionTree → FunctionNames → Stmts → (units steps : ℕ) → Type 0
BodyOwes s one tree names body units steps =
    (images later : Images) (place : Option Ptr) (c_before before : World) (c_frame : CFrame) (frame : Frame) (c_world world : World) → WorldsStand images c_before before →
    map (λ slot. slot.object) c_frame ≡ one.params → Inside s one names images later place c_before before c_frame frame c_world world →
    Owes events_of events_of (Returned images place (align_or (result_laid s one)) tree.result c_before before frame) units steps
    (c_goes s (reaches one.body (site_at [] (bottom_of one c_frame))) c_world) (run_stmts frame body world)
