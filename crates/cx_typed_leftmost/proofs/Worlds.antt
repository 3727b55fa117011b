-- Worlds stay typed over steps and calls.
use Rattle.std.proofs.Common.{◌≡◌, ℕ, ◌<◌, Bool, true, false, if◌then◌else◌, ◌==◌, [], ◌∷◌, length, Option, Some, None, refl, sym, subst, ◌∙◌, arith}
use Rattle.std.specs.Prelude.{IfSome}
use Rattle.cr_world.specs.Held.{Held, is_listed}
use Rattle.cr_world.specs.Laws.{HeapLives}
use Rattle.cr_world.specs.World.{World, blocks_of, with_memory}
use Rattle.cx_core.specs.Trees.{CObject, CProgram}
use Rattle.cx_core.specs.Typing.{CHome, object_with}
use Rattle.cx_mean.specs.Operands.{Frame, slot_of}
use Rattle.cx_typed_runs.specs.Sites.{AreOwned}
use Rattle.cx_typed_runs.proofs.CallsOutside.{kept_owned}
use Rattle.cx_typed_runs.proofs.Owned.{shapes_held, shapes_owned}
use Rattle.cx_typed_work.specs.ExternalCalls.{KeepsObjects}
use Rattle.cx_typed_work.specs.Scenes.{IsScene, IsAlive, IsTypedMemory, IsSameShape, AreSameShapes}
use Rattle.mem_bytes.specs.declared.value.Ptr.{Ptr}
use Rattle.mem_bytes.specs.Memory.{Block, Blocks, live_block}
use Rattle.mem_bytes.proofs.Slots.{live_within}
use Rattle.cx_typed_leftmost.specs.Laws.{IsTypedAt}

-- ---- shapes

pub shape_same : (one : Option Block) → IsSameShape one one
shape_same None = record { size = tt; align = tt; lives = λ is. is; lived = λ is. is }
shape_same (Some block) = record { size = refl; align = refl; lives = λ is. is; lived = λ is. is }

pub shape_then : (one two three : Option Block) → IsSameShape one two → IsSameShape two three → IsSameShape one three
shape_then None two three first second = record { size = tt; align = tt; lives = λ is. second.lives (first.lives is); lived = λ is. first.lived (second.lived is) }
shape_then (Some one) None three first second = cc (first.lives refl)
shape_then (Some one) (Some two) None first second = cc (second.lives refl)
shape_then (Some one) (Some two) (Some three) first second = record { size = first.size ∙ second.size; align = first.align ∙ second.align; lives = λ is. refl; lived = λ is. refl }

pub shapes_same : (blocks : Blocks) → AreSameShapes blocks blocks
shapes_same blocks = record { each = λ number. shape_same (live_block blocks number) }

pub shapes_then : (one two three : Blocks) → AreSameShapes one two → AreSameShapes two three → AreSameShapes one three
shapes_then one two three first second = record { each = λ number. shape_then (live_block one number) (live_block two number) (live_block three number) (first.each number) (second.each number) }

-- ---- objects in scope

alive_by : (program : CProgram) (frame : Frame) (blocks after : Blocks) (one : CObject) → ((number : ℕ) (at : Ptr) → slot_of frame number ≡ Some at → IsSameShape (live_block blocks at.block) (live_block after at.block)) →
    IsAlive program frame blocks one → IsAlive program frame after one
alive_by program frame blocks after one same is =
    by (live_block after is.at.block) refl (subst (λ b. IsSameShape b (live_block after is.at.block)) is.live (same one.object is.at is.at_is))
  where
    by : (found : Option Block) → live_block after is.at.block ≡ found → IsSameShape (Some is.block) found → IsAlive program frame after one
    by None e shape = cc (shape.lives refl)
    by (Some block) e shape = record {
      at = is.at;
      at_is = is.at_is;
      laid = is.laid;
      laid_is = is.laid_is;
      block = block;
      live = e;
      size = sym shape.size ∙ is.size;
      align = sym shape.align ∙ is.align;
    }

some_alive : (program : CProgram) (frame : Frame) (blocks after : Blocks) (found : Option CObject) → ((number : ℕ) (at : Ptr) → slot_of frame number ≡ Some at → IsSameShape (live_block blocks at.block) (live_block after at.block)) →
    IfSome found (IsAlive program frame blocks) → IfSome found (IsAlive program frame after)
some_alive program frame blocks after None same is = tt
some_alive program frame blocks after (Some one) same is = alive_by program frame blocks after one same is

scene_by : (home : CHome) (frame : Frame) (blocks after : Blocks) → ((number : ℕ) (at : Ptr) → slot_of frame number ≡ Some at → IsSameShape (live_block blocks at.block) (live_block after at.block)) →
    IsTypedMemory home.program after → IsScene home frame blocks → IsScene home frame after
scene_by home frame blocks after same memory scene = record {
  linked = scene.linked;
  whole = scene.whole;
  memory = memory;
  alive = record {
    statics = λ one there some. alive_by home.program frame blocks after one same (scene.alive.statics one there some);
    in_scope = λ number there. some_alive home.program frame blocks after (object_with number home.program.objects) same (scene.alive.in_scope number there);
  };
}

-- behind a step
pub typed_stepped : (home : CHome) (frame : Frame) (world : World) (after : Blocks) → AreSameShapes (blocks_of world) after → IsTypedMemory home.program after → IsTypedAt home frame world →
    IsTypedAt home frame (with_memory after world)
typed_stepped home frame world after shapes memory at = record {
  scene = scene_by home frame (blocks_of world) after (λ number to e. shapes.each to.block) memory at.scene;
  allocated = shapes_held (blocks_of world) after world.held.heap shapes at.allocated;
  owned = shapes_owned home.program world.held (with_memory after world).held frame refl shapes at.owned;
}

-- an object in scope was made, and no allocation gave it
pub record IsOwnSlot (held : Held) (at : Ptr) : Type 0 where
  pub made : at.block < length held.blocks
  pub unlisted : is_listed at.block held.heap ≡ false

pub own_slot : (program : CProgram) (held : Held) (frame : Frame) (number : ℕ) (at : Ptr) → AreOwned program held frame → slot_of frame number ≡ Some at → IsOwnSlot held at
own_slot program held [] number at owned e = cc (e)
own_slot program held (slot ∷ others) number at owned e = by (slot.object == number) refl e (own_slot program held others number at owned.3)
  where
    by : (test : Bool) → (slot.object == number) ≡ test → (if test then Some (record { block = slot.block; offset = 0 }) else slot_of others number) ≡ Some at → (slot_of others number ≡ Some at → IsOwnSlot held at) → IsOwnSlot held at
    by true is found rest =
        let same : record { block = slot.block; offset = 0 } ≡ at = cc (found) in
        subst (IsOwnSlot held) same (record { made = live_within held.blocks slot.block owned.0.held owned.0.live; unlisted = owned.1 })
    by false is found rest = rest found

-- behind a call
pub typed_kept : (home : CHome) (frame : Frame) (world after : World) → KeepsObjects world.held after.held → IsTypedMemory home.program (blocks_of after) → HeapLives after.held → IsTypedAt home frame world → IsTypedAt home frame after
typed_kept home frame world after keeps memory allocated at = record {
  scene = scene_by home frame (blocks_of world) (blocks_of after)
      (λ number to e. let own = own_slot home.program world.held frame number to at.owned e in keeps.lives to.block own.made own.unlisted) memory at.scene;
  allocated = allocated;
  owned = kept_owned home.program world.held after.held frame keeps at.owned;
}

-- ---- what lives on

pub keeps_then : (one two three : Held) → KeepsObjects one two → KeepsObjects two three → KeepsObjects one three
keeps_then one two three first second = record {
  grows = omega (arith, first.grows, second.grows);
  lives = λ number within unlisted.
      shape_then (live_block one.blocks number) (live_block two.blocks number) (live_block three.blocks number) (first.lives number within unlisted)
      (second.lives number (omega (arith, within, first.grows)) (first.not_allocated number within unlisted));
  not_allocated = λ number within unlisted. second.not_allocated number (omega (arith, within, first.grows)) (first.not_allocated number within unlisted);
}
