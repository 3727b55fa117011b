-- When the locals of a function of the crate agree with the objects of one of C (ISO C99, 6.2.1 and 6.2.4; the Rust Reference, "Variables" and "Functions").
use Rattle.std.specs.Prelude.{◌≡◌, ℕ, false, List, ◌++◌, Option, Some, None}
use Rattle.std.specs.List.{Contains}
use Rattle.cr_base.specs.declared.layout.Laid.{Laid}
use Rattle.cr_world.specs.Held.{is_listed}
use Rattle.cr_world.specs.World.{World, blocks_of}
use Rattle.cx_mean.specs.Operands.{Slot, Frame as CFrame, slot_of}
use Rattle.lift_forms.specs.Places.{Kept}
use Rattle.lift_stands.specs.Stands.{Images, image_of, Lives, IsNoImage}
use Rattle.mem_bytes.specs.Memory.{Block, live_block, size_of}
use Rattle.mem_bytes.specs.declared.value.Ptr.{Ptr}
use Rattle.rs_items.specs.Types.{TypeNames}
use Rattle.rs_mean.specs.Layout.{laid_of}
use Rattle.rs_mean.specs.Lookups.{Home, static_home, LocalBlock, home_of, local_home}
use Rattle.rs_mean.specs.Run.{Frame}
use Rattle.rs_text.specs.Tree.{Ty, Place, Local, Static, Deref, Field, ModuleTree}
use Rattle.lift_calls.specs.Programs.{Setting, crate_bodies}

-- ---- names

-- a temporary
pub record KeptTemporary : Type 0 where
  pub name : List ℕ
  pub ty : Ty

-- what the names of a function are
pub record FunctionNames : Type 0 where
  -- each object that its text may name, by its number
  pub objects : ℕ → Option Kept
  -- the types of C in its module
  pub types : TypeNames
  pub temporaries : ℕ → Option KeptTemporary
  -- the parameter that points to the place of a structure or union that it gives
  pub result : Option (List ℕ)
  -- the local of zero bytes from which an object becomes zero, by its number
  pub zeros : ℕ → Option KeptTemporary

-- no two objects are one local, no two temporaries are, and no object and a temporary; and neither what points to the result nor a local of zero bytes is one of them
pub record NamesApart (names : FunctionNames) : Type 0 where
  pub objects : (one other : ℕ) (first second : Kept) → names.objects one ≡ Some first → names.objects other ≡ Some second → first.place ≡ second.place →
      one ≡ other
  pub temporaries : (one other : ℕ) (first second : KeptTemporary) → names.temporaries one ≡ Some first → names.temporaries other ≡ Some second →
      first.name ≡ second.name → one ≡ other
  pub both : (one other : ℕ) (first : Kept) (second : KeptTemporary) → names.objects one ≡ Some first → names.temporaries other ≡ Some second →
      first.place ≡ Local second.name → ⊥
  pub result : (one : ℕ) (kept : Kept) (name : List ℕ) → names.objects one ≡ Some kept → names.result ≡ Some name → kept.place ≡ Local name → ⊥
  pub result_temporary : (one : ℕ) (kept : KeptTemporary) (name : List ℕ) → names.temporaries one ≡ Some kept → names.result ≡ Some name → kept.name ≡ name → ⊥
  pub zero : (one other : ℕ) (kept : Kept) (zero : KeptTemporary) → names.objects one ≡ Some kept → names.zeros other ≡ Some zero → kept.place ≡ Local zero.name → ⊥
  pub zero_temporary : (one other : ℕ) (kept zero : KeptTemporary) → names.temporaries one ≡ Some kept → names.zeros other ≡ Some zero → kept.name ≡ zero.name → ⊥

-- the block and the type of a local or a static object
abbrev pub home_in : Frame → Place → Option Home
home_in frame (Local x) = local_home x frame.locals
home_in frame (Static m x) = static_home frame.modules m x
home_in frame (Deref pointer) = None
home_in frame (Field whole f) = None

-- what is kept of an object is so
pub record IsHome (frame : Frame) (kept : Kept) (home : Home) : Type 0 where
  pub home_is : home_in frame kept.place ≡ Some home
  pub ty_is : home.ty ≡ kept.ty

-- ---- frames

-- an object in scope is where its name says
pub record ObjectAgrees (names : FunctionNames) (images : Images) (frame : Frame) (number : ℕ) (at : Ptr) : Type 0 where
  pub kept : Kept
  pub kept_is : names.objects number ≡ Some kept
  pub home : Home
  pub is_home : IsHome frame kept home
  pub image : image_of images at.block ≡ Some home.block

-- a block of C is that of an object in scope which is a local
pub record IsOwned (names : FunctionNames) (c_frame : CFrame) (number : ℕ) (local : LocalBlock) : Type 0 where
  pub slot : Slot
  pub in_scope : Contains c_frame slot
  pub block_is : slot.block ≡ number
  pub kept : Kept
  pub kept_is : names.objects slot.object ≡ Some kept
  pub place_is : kept.place ≡ Local local.name

-- a local lives in a block of its type, which no allocation gave
pub record LocalLives (modules : List ModuleTree) (world : World) (local : LocalBlock) : Type 0 where
  pub block : Block
  pub live : live_block (blocks_of world) local.block ≡ Some block
  pub laid : Laid
  pub laid_is : laid_of modules local.ty ≡ Some laid
  pub size : size_of block ≡ laid.size
  pub align : block.align ≡ laid.align
  pub unlisted : is_listed local.block world.held.heap ≡ false

-- the local that a name finds
pub record IsLocal (frame : Frame) (name : List ℕ) (local : LocalBlock) : Type 0 where
  pub found : local_home name frame.locals ≡ Some (home_of local)
  pub among : Contains frame.locals local

-- a temporary is a local of which C knows nothing
pub record TemporaryAgrees (images : Images) (frame : Frame) (one : KeptTemporary) : Type 0 where
  pub local : LocalBlock
  pub is_local : IsLocal frame one.name local
  pub ty_is : local.ty ≡ one.ty
  pub no_image : IsNoImage images local.block

pub record FramesAgree (s : Setting) (names : FunctionNames) (images : Images) (c_frame : CFrame) (frame : Frame) (c_world world : World) : Type 0 where
  pub modules : frame.modules ≡ s.modules
  pub bodies : frame.bodies ≡ crate_bodies s
  -- each object that has a name has a home, also before its life begins
  pub homes : (number : ℕ) (kept : Kept) → names.objects number ≡ Some kept → (home : Home) × IsHome frame kept home
  -- each object in scope, of the function or static, is there
  pub objects : (number : ℕ) (at : Ptr) → slot_of (c_frame ++ s.statics) number ≡ Some at → ObjectAgrees names images frame number at
  -- what lives in C in a local is an object in scope, so that each other local is vacant
  pub owned : (number : ℕ) (local : LocalBlock) → Contains frame.locals local → Lives (blocks_of c_world) number → image_of images number ≡ Some local.block →
      IsOwned names c_frame number local
  pub lives : (local : LocalBlock) → Contains frame.locals local → LocalLives s.modules world local
  -- no two locals share a block
  pub apart : (one other : LocalBlock) → Contains frame.locals one → Contains frame.locals other → one.block ≡ other.block → one ≡ other
  pub temporaries : (number : ℕ) (one : KeptTemporary) → names.temporaries number ≡ Some one → TemporaryAgrees images frame one
