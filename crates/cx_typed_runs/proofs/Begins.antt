-- Lives of objects begin, in blocks and before `main` (ISO C99, 6.2.4).
use Rattle.std.proofs.Common.{◌≡◌, inl, inr, refl, sym, ap, ◌∙◌, subst, ℕ, zero, suc, ◌<◌, ◌≤◌, Bool, true, false, List, [], ◌∷◌, ◌++◌, length, Option, Some, None, IfSome, IsSome, All, Result, Ok, Err, replicate, arith, append_assoc}
use Rattle.std.proofs.lemmas.List.{length-replicate}
use Rattle.std.specs.List.{Contains}
use Rattle.cr_base.specs.declared.layout.Laid.{Laid}
use Rattle.cr_base.specs.declared.refusal.Place.{Place}
use Rattle.cr_world.specs.Held.{Held, with_blocks, fresh_block, next_place, with_block, zero_block}
use Rattle.cr_world.specs.Laws.{AreAllocated}
use Rattle.cr_world.specs.World.{World, blocks_of, with_memory, full, astray, limit_of, object_begun, begun_at}
use Rattle.cx_core.specs.Linked.{IsLinked}
use Rattle.cx_core.specs.Statements.{IsBlockObject, AreBlockObjects}
use Rattle.cx_core.specs.Trees.{CTy, CObject, CFun, CProgram}
use Rattle.cx_core.specs.Typing.{CHome, object_with}
use Rattle.cx_core.specs.ValidTypes.{IsComplete}
use Rattle.cx_mean.specs.Moves.{CBeginning, slots_of_site}
use Rattle.cx_mean.specs.Operands.{CStop, Slot, Frame, needed}
use Rattle.cx_mean.specs.Settings.{setting_of, extent_in}
use Rattle.cx_mean.specs.State.{CState, CShape, shape_of, as_stop, object_begins, after_begin, slot, no_place, statics_in, static_begins, after_static, beginning_statics, stopped}
use Rattle.mem_bytes.specs.Access.{and_then}
use Rattle.mem_bytes.specs.declared.fault.StoreFault.{StoreFault}
use Rattle.mem_bytes.specs.declared.fault.StoreFault.TheVariants.{Full, Memory}
use Rattle.mem_bytes.specs.declared.value.Ptr.{Ptr}
use Rattle.mem_bytes.specs.Counted.{after_alloc}
use Rattle.mem_bytes.specs.Memory.{Block, Blocks, size_of, unset_cell, byte_cell, new_block}
use Rattle.cx_typed_values.specs.Values.{most_bytes}
use Rattle.cx_typed_work.proofs.Memories.{typed_replicate}
use Rattle.cx_typed_work.specs.Scenes.{IsTypedCell, IsTypedMemory}
use Rattle.cx_typed_runs.proofs.GoingOn.{AllStand, others_of, stand_typed}
use Rattle.cx_typed_runs.proofs.Owned.{owned_back, live_new, owned_more, held_more, next_unused, next_unlisted, inserted, memory_grown}
use Rattle.cx_typed_runs.proofs.Scenes.{all_of, home_at_is}
use Rattle.cx_typed_runs.proofs.Taking.{IsAround, stopped_typed, complete_small}
use Rattle.cx_typed_runs.specs.Sites.{objects_of, body_at, whole_body, IsSlotAlive, AreOwned, IsSite}
use Rattle.cx_typed_runs.specs.States.{objects_begun, IsBeginning, IsTypedState}

-- ---- the object of a number

-- it has a type of which objects can be made
pub record IsMade (program : CProgram) (number : ℕ) : Type 0 where
  pub one : CObject
  pub object_is : object_with number program.objects ≡ Some one
  pub laid : Laid
  pub laid_is : extent_in (setting_of program) one.type ≡ Some laid

pub made_of : (program : CProgram) (number : ℕ) (found : Option CObject) → object_with number program.objects ≡ found → IsSome found → IfSome found (λ one. IsComplete program.types one.type) → IsMade program number
made_of program number None e some complete = cc (some)
made_of program number (Some one) e some complete = by (extent_in (setting_of program) one.type) refl complete
  where
    by : (laid : Option Laid) → extent_in (setting_of program) one.type ≡ laid → IsSome laid → IsMade program number
    by None is none = cc (none)
    by (Some laid) is there = record { one = one; object_is = e; laid = laid; laid_is = is }

-- a new block is one of the object's
pub made_alive : (program : CProgram) (number : ℕ) (is_zero : Bool) (it : IsMade program number) (blocks : Blocks) → IsSlotAlive program (with_block (fresh_block is_zero it.laid.size it.laid.align) blocks) (slot number (next_place blocks))
made_alive program number true it blocks = record {
  one = it.one;
  object_is = it.object_is;
  laid = it.laid;
  laid_is = it.laid_is;
  held = zero_block it.laid.size it.laid.align;
  live = live_new blocks (zero_block it.laid.size it.laid.align);
  size = length-replicate it.laid.size (byte_cell 0);
  align = refl;
}
made_alive program number false it blocks = record {
  one = it.one;
  object_is = it.object_is;
  laid = it.laid;
  laid_is = it.laid_is;
  held = new_block it.laid.size it.laid.align;
  live = live_new blocks (new_block it.laid.size it.laid.align);
  size = length-replicate it.laid.size unset_cell;
  align = refl;
}

-- ---- a new block

-- a state with one more object, whose slot stands in the middle of its slots
pub record IsGrown (program : CProgram) (world : World) (front back : Frame) (blocks : Blocks) (new : Slot) : Type 0 where
  pub memory : IsTypedMemory program blocks
  pub held : AreAllocated blocks world.held.heap
  pub owned : AreOwned program (with_blocks blocks world.held) (front ++ new ∷ back)

fresh_small : (is_zero : Bool) (size align : ℕ) → size ≤ most_bytes → size_of (fresh_block is_zero size align) ≤ most_bytes
fresh_small true size align small = subst (λ n. n ≤ most_bytes) (sym (length-replicate size (byte_cell 0))) small
fresh_small false size align small = subst (λ n. n ≤ most_bytes) (sym (length-replicate size unset_cell)) small

fresh_typed : (program : CProgram) (is_zero : Bool) (size align : ℕ) → All (IsTypedCell program) (fresh_block is_zero size align).cells
fresh_typed program true size align = typed_replicate program size (byte_cell 0) tt
fresh_typed program false size align = typed_replicate program size unset_cell tt

pub grown : (program : CProgram) (world : World) (front back : Frame) (number : ℕ) (is_zero : Bool) (it : IsMade program number) → IsTypedMemory program (blocks_of world) → AreAllocated (blocks_of world) world.held.heap
    → AreOwned program world.held (front ++ back)
    → IsGrown program world front back (with_block (fresh_block is_zero it.laid.size it.laid.align) (blocks_of world)) (slot number (next_place (blocks_of world)))
grown program world front back number is_zero it memory held owned =
    let blocks = blocks_of world in
    let block = fresh_block is_zero it.laid.size it.laid.align in
    record {
      memory = memory_grown program blocks block (fresh_small is_zero it.laid.size it.laid.align (complete_small program it.one.type it.laid it.laid_is)) (fresh_typed program is_zero it.laid.size it.laid.align) memory;
      held = held_more blocks (Some block) world.held.heap held;
      owned = inserted program (with_blocks (with_block block blocks) world.held) front back (slot number (next_place blocks)) (owned_more program world.held (Some block) (front ++ back) owned)
          (made_alive program number is_zero it blocks) (next_unlisted blocks world.held.heap held) (next_unused program world.held (front ++ back) owned);
    }

-- ---- objects of blocks

pub shape_is : (program : CProgram) (number : ℕ) (it : IsMade program number) → shape_of (setting_of program) number ≡ Ok (record { type = it.one.type; laid = it.laid })
shape_is program number it =
    ap (λ found. and_then (needed found) (λ (o : CObject). and_then (needed (extent_in (setting_of program) o.type)) (λ laid. Ok (record { type = o.type; laid = laid })))) it.object_is
    ∙ ap (λ found. and_then (needed found) (λ laid. Ok (record { type = it.one.type; laid = laid }))) it.laid_is

block_complete : (home : CHome) (found : Option CObject) → IfSome found (IsBlockObject home) → IfSome found (λ one. IsComplete home.program.types one.type)
block_complete home None is = tt
block_complete home (Some one) is = is.complete

-- the object that begins is one of those whose lives begin
object_among : (home : CHome) (front : List ℕ) (number : ℕ) (back : List ℕ) → AreBlockObjects home (front ++ number ∷ back) → IsMade home.program number
object_among home [] number back are = made_of home.program number (object_with number home.program.objects) refl are.0 (block_complete home (object_with number home.program.objects) are.1)
object_among home (first ∷ front) number back are = object_among home front number back are.2

body_program : (program : CProgram) (one : CFun) (result : CTy) (outer : _) → IsSite program one result outer → (body_at (whole_body program one result) outer.levels).home.program ≡ program
body_program program one result outer at = ap (λ (home : CHome). home.program) (home_at_is program one result outer.levels outer.bottom.params at.params_are)

pub begins_made : (program : CProgram) (one : CFun) (result : CTy) (beginning : CBeginning) → IsBeginning program one result beginning → IsMade program beginning.object
begins_made program one result beginning is =
    subst (λ p. IsMade p beginning.object) (body_program program one result beginning.outer is.outer)
    (object_among (body_at (whole_body program one result) beginning.outer.levels).home (objects_of beginning.level.slots) beginning.object beginning.others is.objects)

-- ((a, b), c) with one more behind a
one_more : (a b c : Frame) (new : Slot) → a ++ new ∷ (b ++ c) ≡ ((a ++ new ∷ []) ++ b) ++ c
one_more a b c new = sym (ap (λ front. front ++ c) (append_assoc a (new ∷ []) b) ∙ append_assoc a (new ∷ b) c)

begun_to : AllStand → (program : CProgram) (one : CFun) (result : CTy) (state : CState) (beginning : CBeginning) (it : IsMade program beginning.object) → IsBeginning program one result beginning
    → IsAround program result state state.world (beginning.level.slots ++ slots_of_site beginning.outer) → (outcome : Result Blocks StoreFault)
    → IsTypedState program (after_begin (setting_of program) state beginning (begun_at false it.laid.size it.laid.align state.world outcome))
begun_to all program one result state beginning it is around (Ok made) =
    let blocks = with_block (fresh_block false it.laid.size it.laid.align) (blocks_of state.world) in
    let new = slot beginning.object (next_place (blocks_of state.world)) in
    let it_grows = grown program state.world beginning.level.slots (slots_of_site beginning.outer ++ others_of state) beginning.object false it around.memory around.held
    (subst (AreOwned program state.world.held) (append_assoc beginning.level.slots (slots_of_site beginning.outer) (others_of state)) around.owned) in
    stand_typed program one result state (with_memory blocks state.world) _
    ((all program one result).has_begun (with_blocks blocks state.world.held) (others_of state) beginning new around.linked is refl it_grows.memory it_grows.held
    (subst (AreOwned program (with_blocks blocks state.world.held)) (one_more beginning.level.slots (slots_of_site beginning.outer) (others_of state) new) it_grows.owned)) around.callers around.begun
begun_to all program one result state beginning it is around (Err (Full need left)) = stopped_typed program result state (beginning.level.slots ++ slots_of_site beginning.outer) (full need left) around tt
begun_to all program one result state beginning it is around (Err Memory) = stopped_typed program result state (beginning.level.slots ++ slots_of_site beginning.outer) astray around tt

pub begins_typed : AllStand → (program : CProgram) (one : CFun) (result : CTy) (state : CState) (beginning : CBeginning) → IsBeginning program one result beginning
    → IsAround program result state state.world (beginning.level.slots ++ slots_of_site beginning.outer)
    → IsTypedState program (after_begin (setting_of program) state beginning (object_begins (setting_of program) no_place beginning.object state.world))
begins_typed all program one result state beginning is around =
    let it = begins_made program one result beginning is in
    subst (λ found. IsTypedState program (after_begin (setting_of program) state beginning (and_then (as_stop no_place found) (λ (shape : CShape). object_begun false shape.laid.size shape.laid.align state.world))))
    (sym (shape_is program beginning.object it))
    (begun_to all program one result state beginning it is around (after_alloc (limit_of state.world.terms) (blocks_of state.world) it.laid.size it.laid.align))
