-- When an operand that was evaluated is still what it was (ISO C99, 6.5p2): behind an operand to its right that calls nothing and whose writes it didn't read, and, if it is held or the
-- same whatever is stored, behind calls too.
use Rattle.std.specs.Prelude.{◌≡◌, ℕ, ◌<◌, Bool, true, false, List, [], ◌∷◌, Some}
use Rattle.cr_base.specs.declared.scalar.Scalar.{Scalar}
use Rattle.cr_world.specs.World.{World, blocks_of}
use Rattle.cx_core.specs.Typing.{CHome}
use Rattle.cx_mean.specs.Marks.{Range, bits_of_bytes, bits_of_field}
use Rattle.cx_mean.specs.Operands.{Frame as CFrame}
use Rattle.cx_typed_work.specs.ExternalCalls.{KeepsObjects}
use Rattle.cx_typed_work.specs.Scenes.{AreSameShapes}
use Rattle.lift_calls.specs.Frames.{FunctionNames, KeptTemporary, IsLocal}
use Rattle.lift_calls.specs.Programs.{Setting}
use Rattle.lift_does.specs.Here.{Here}
use Rattle.lift_stands.specs.Stands.{Images, Extends}
use Rattle.mem_bytes.specs.Access.{part_at, value_at, field_at, record_at}
use Rattle.mem_bytes.specs.Calls.{IsFieldPlace}
use Rattle.mem_bytes.specs.Coding.{scalar_size}
use Rattle.mem_bytes.specs.Memory.{Blocks, live_block}
use Rattle.mem_bytes.specs.declared.value.Ptr.{Ptr}
use Rattle.rs_mean.specs.Lookups.{LocalBlock}
use Rattle.rs_mean.specs.Run.{Frame}

-- whatever is loaded from these bits is what it was
pub record IsSameAt (before after : Blocks) (range : Range) : Type 0 where
  pub cells : (at : Ptr) (count : ℕ) → range ≡ bits_of_bytes at count → part_at after at count ≡ part_at before at count
  pub values : (at : Ptr) (kind : Scalar) → range ≡ bits_of_bytes at (scalar_size kind) → value_at after at kind ≡ value_at before at kind
  pub records : (at : Ptr) (size align : ℕ) → range ≡ bits_of_bytes at size → record_at after at size align ≡ record_at before at size align
  pub fields : (at : Ptr) (bit width : ℕ) → IsFieldPlace bit width → range ≡ bits_of_field at bit width → field_at after at bit width ≡ field_at before at bit width

abbrev pub AllOf : (Range → Type 0) → List Range → Type 0
AllOf P [] = Unit {0}
AllOf P (range ∷ ranges) = P range × AllOf P ranges

-- a later memory of C has all that was read, and the same objects
pub record StaysBeside (reads : List Range) (before after : World) : Type 0 where
  pub each : AllOf (IsSameAt (blocks_of before) (blocks_of after)) reads
  pub shapes : AreSameShapes (blocks_of before) (blocks_of after)

-- what lasts behind calls, and what without one
abbrev pub Lasts : (fixed : Bool) → (reads : List Range) → (before after : World) → Type 0
Lasts true reads before after = KeepsObjects before.held after.held
Lasts false reads before after = KeepsObjects before.held after.held × StaysBeside reads before after

-- the temporaries below a number hold what they held
abbrev pub TemporariesStay : FunctionNames → Frame → (below : ℕ) → (before after : World) → Type 0
TemporariesStay kept frame below before after =
    (number : ℕ) (one : KeptTemporary) (local : LocalBlock) → number < below → kept.temporaries number ≡ Some one → IsLocal frame one.name local →
    live_block (blocks_of after) local.block ≡ live_block (blocks_of before) local.block

-- a later pair of worlds
pub record IsLater (s : Setting) (home : CHome) (kept : FunctionNames) (images last : Images) (c_frame : CFrame) (frame : Frame) (below : ℕ) (fixed : Bool) (reads : List Range)
    (c_world world c_later later : World) : Type 0 where
  pub extends : Extends images last
  pub here : Here s home kept last c_frame frame c_later later
  pub temporaries : TemporariesStay kept frame below world later
  pub lasts : Lasts fixed reads c_world c_later
