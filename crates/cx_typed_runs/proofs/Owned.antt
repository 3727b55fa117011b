-- Objects that live in blocks of their own, as lives begin and end (ISO C99, 6.2.4).
use Rattle.std.proofs.Common.{◌≡◌, ◌≢◌, refl, sym, ap, ◌∙◌, subst, ℕ, zero, suc, ◌+◌, ◌<◌, ◌≤◌, ◌==◌, ◌⊎◌, inl, inr, All, Bool, true, false, ◌||◌, if◌then◌else◌, List, [], ◌∷◌, ◌++◌, map, length, Option, Some, None, IfSome, IsSome, find, slice_set, arith}
use Rattle.std.proofs.lemmas.Bool.Decides.{nat_tests}
use Rattle.std.specs.List.{Contains, list_any}
use Rattle.cr_world.specs.Held.{Held, is_listed, with_blocks, without_block}
use Rattle.cr_world.specs.Laws.{AreAllocated}
use Rattle.cx_core.specs.Trees.{CObject, CProgram}
use Rattle.cx_core.specs.Typing.{object_with}
use Rattle.cx_mean.specs.Moves.{without_objects}
use Rattle.cx_mean.specs.Settings.{setting_of, extent_in}
use Rattle.cx_mean.specs.Operands.{Slot, Frame, slot_of}
use Rattle.mem_bytes.proofs.Slots.{live-set_other, live_within}
use Rattle.mem_bytes.specs.declared.value.Ptr.{Ptr}
use Rattle.mem_bytes.specs.Memory.{Block, Blocks, live_block, size_of}
use Rattle.cx_typed_values.specs.Values.{most_bytes}
use Rattle.cx_typed_work.specs.Scenes.{IsAlive, IsTypedCell, IsTypedMemory, IsSameShape, AreSameShapes}
use Rattle.cx_typed_runs.specs.Sites.{objects_of, is_block_of, IsSlotAlive, AreOwned}

-- ---- parts of a frame

both_false : (one other : Bool) → (one || other) ≡ false → (one ≡ false) × (other ≡ false)
both_false true other e = cc (e)
both_false false other e = (refl, e)

or_false : (one other : Bool) → one ≡ false → other ≡ false → (one || other) ≡ false
or_false true other e rest = cc (e)
or_false false other e rest = rest

pub no_block_of : (number : ℕ) (front back : Frame) → is_block_of number (front ++ back) ≡ false → (is_block_of number front ≡ false) × (is_block_of number back ≡ false)
no_block_of number [] back e = (refl, e)
no_block_of number (slot ∷ front) back e =
    let first = both_false (slot.block == number) (is_block_of number (front ++ back)) e in
    let rest = no_block_of number front back first.1 in
    (or_false (slot.block == number) (is_block_of number front) first.0 rest.0, rest.1)

pub no_block_in : (number : ℕ) (front back : Frame) → is_block_of number front ≡ false → is_block_of number back ≡ false → is_block_of number (front ++ back) ≡ false
no_block_in number [] back a b = b
no_block_in number (slot ∷ front) back a b =
    let first = both_false (slot.block == number) (is_block_of number front) a in
    or_false (slot.block == number) (is_block_of number (front ++ back)) first.0 (no_block_in number front back first.1 b)

pub owned_front : (program : CProgram) (held : Held) (front back : Frame) → AreOwned program held (front ++ back) → AreOwned program held front
owned_front program held [] back owned = tt
owned_front program held (slot ∷ front) back owned =
    (owned.0, owned.1, (no_block_of slot.block front back owned.2).0, owned_front program held front back owned.3)

pub owned_back : (program : CProgram) (held : Held) (front back : Frame) → AreOwned program held (front ++ back) → AreOwned program held back
owned_back program held [] back owned = owned
owned_back program held (slot ∷ front) back owned = owned_back program held front back owned.3

-- what stands between two parts is left out
pub owned_around : (program : CProgram) (held : Held) (front mid back : Frame) → AreOwned program held (front ++ (mid ++ back)) → AreOwned program held (front ++ back)
owned_around program held [] mid back owned = owned_back program held mid back owned
owned_around program held (slot ∷ front) mid back owned =
    let apart = no_block_of slot.block front (mid ++ back) owned.2 in
    (owned.0, owned.1, no_block_in slot.block front back apart.0 (no_block_of slot.block mid back apart.1).1, owned_around program held front mid back owned.3)

-- ---- a memory with the same live blocks

pub shape_alive : (program : CProgram) (before after : Blocks) (slot : Slot) → AreSameShapes before after → IsSlotAlive program before slot → IsSlotAlive program after slot
shape_alive program before after slot shapes is = by (live_block after slot.block) refl (subst (λ b. IsSameShape b (live_block after slot.block)) is.live (shapes.each slot.block))
  where
    by : (found : Option Block) → live_block after slot.block ≡ found → IsSameShape (Some is.held) found → IsSlotAlive program after slot
    by None e shape = cc (shape.lives refl)
    by (Some block) e shape = record {
      one = is.one;
      object_is = is.object_is;
      laid = is.laid;
      laid_is = is.laid_is;
      held = block;
      live = e;
      size = sym shape.size ∙ is.size;
      align = sym shape.align ∙ is.align;
    }

pub shapes_owned : (program : CProgram) (before after : Held) (slots : Frame) → before.heap ≡ after.heap → AreSameShapes before.blocks after.blocks → AreOwned program before slots → AreOwned program after slots
shapes_owned program before after [] same shapes owned = tt
shapes_owned program before after (slot ∷ others) same shapes owned = (
  shape_alive program before.blocks after.blocks slot shapes owned.0,
  subst (λ heap. is_listed slot.block heap ≡ false) same owned.1,
  owned.2,
  shapes_owned program before after others same shapes owned.3,
)

shape_lives : (before after : Option Block) → IsSameShape before after → ((block : Block) × (before ≡ Some block)) → (block : Block) × (after ≡ Some block)
shape_lives before None shape lives = cc (shape.lives (subst IsSome (sym lives.1) refl))
shape_lives before (Some block) shape lives = (block, refl)

pub shapes_held : (before after : Blocks) (heap : List ℕ) → AreSameShapes before after → AreAllocated before heap → AreAllocated after heap
shapes_held before after [] shapes are = tt
shapes_held before after (number ∷ others) shapes are =
    (shape_lives (live_block before number) (live_block after number) (shapes.each number) are.0, are.1, shapes_held before after others shapes are.2)

-- ---- objects die

apart_from : (one number : ℕ) → (one == number) ≡ false → number ≢ one
apart_from one number e = λ same. grind (arith, nat_tests, e, same)

other_lives : (program : CProgram) (blocks : Blocks) (number : ℕ) (slot : Slot) → (slot.block == number) ≡ false → IsSlotAlive program blocks slot → IsSlotAlive program (without_block number blocks) slot
other_lives program blocks number slot apart is = record {
  one = is.one;
  object_is = is.object_is;
  laid = is.laid;
  laid_is = is.laid_is;
  held = is.held;
  live = live-set_other blocks number slot.block None (apart_from slot.block number apart) ∙ is.live;
  size = is.size;
  align = is.align;
}

others_live : (program : CProgram) (held : Held) (number : ℕ) (slots : Frame) → is_block_of number slots ≡ false → AreOwned program held slots → AreOwned program (with_blocks (without_block number held.blocks) held) slots
others_live program held number [] apart owned = tt
others_live program held number (slot ∷ others) apart owned =
    let first = both_false (slot.block == number) (is_block_of number others) apart in
    (other_lives program held.blocks number slot first.0 owned.0, owned.1, owned.2, others_live program held number others first.1 owned.3)

pub killed_owned : (program : CProgram) (held : Held) (gone rest : Frame) → AreOwned program held (gone ++ rest) → AreOwned program (with_blocks (without_objects gone held.blocks) held) rest
killed_owned program held [] rest owned = owned
killed_owned program held (slot ∷ gone) rest owned =
    killed_owned program (with_blocks (without_block slot.block held.blocks) held) gone rest (others_live program held slot.block (gone ++ rest) owned.2 owned.3)

listed_lives : (blocks : Blocks) (number : ℕ) (heap : List ℕ) → is_listed number heap ≡ false → AreAllocated blocks heap → AreAllocated (without_block number blocks) heap
listed_lives blocks number [] apart are = tt
listed_lives blocks number (first ∷ others) apart are = by (first == number) refl apart (λ listed. listed_lives blocks number others listed are.2)
  where
    by : (test : Bool) → (first == number) ≡ test → (if test then true else is_listed number others) ≡ false → (is_listed number others ≡ false → AreAllocated (without_block number blocks) others)
        → AreAllocated (without_block number blocks) (first ∷ others)
    by true e listed rest = cc (listed)
    by false e listed rest = ((are.0.0, live-set_other blocks number first None (apart_from first number e) ∙ are.0.1), are.1, rest listed)

pub killed_held : (program : CProgram) (held : Held) (gone rest : Frame) → AreOwned program held (gone ++ rest) → AreAllocated held.blocks held.heap → AreAllocated (without_objects gone held.blocks) held.heap
killed_held program held [] rest owned are = are
killed_held program held (slot ∷ gone) rest owned are =
    killed_held program (with_blocks (without_block slot.block held.blocks) held) gone rest (others_live program held slot.block (gone ++ rest) owned.2 owned.3) (listed_lives held.blocks slot.block held.heap owned.1 are)

lived_before : (blocks : Blocks) (number other : ℕ) (block : Block) → live_block (slice_set blocks number None) other ≡ Some block → live_block blocks other ≡ Some block
lived_before [] number other block live = live
lived_before (first ∷ others) zero zero block live = cc (live)
lived_before (first ∷ others) zero (suc other) block live = live
lived_before (first ∷ others) (suc number) zero block live = live
lived_before (first ∷ others) (suc number) (suc other) block live = lived_before others number other block live

killed_typed : (program : CProgram) (blocks : Blocks) (number : ℕ) → IsTypedMemory program blocks → IsTypedMemory program (without_block number blocks)
killed_typed program blocks number memory = record {
  objects = record { sizes = λ other block live. memory.objects.sizes other block (lived_before blocks number other block live) };
  cells = λ other block live. memory.cells other block (lived_before blocks number other block live);
}

pub memory_without : (program : CProgram) (gone : Frame) (blocks : Blocks) → IsTypedMemory program blocks → IsTypedMemory program (without_objects gone blocks)
memory_without program [] blocks memory = memory
memory_without program (slot ∷ gone) blocks memory = memory_without program gone (without_block slot.block blocks) (killed_typed program blocks slot.block memory)

-- ---- an object begins

live_more : (blocks : Blocks) (new : Option Block) (number : ℕ) (block : Block) → live_block blocks number ≡ Some block → live_block (blocks ++ new ∷ []) number ≡ Some block
live_more [] new number block live = cc (live)
live_more (first ∷ others) new zero block live = live
live_more (first ∷ others) new (suc number) block live = live_more others new number block live

pub live_new : (blocks : Blocks) (block : Block) → live_block (blocks ++ Some block ∷ []) (length blocks) ≡ Some block
live_new [] block = refl
live_new (first ∷ others) block = live_new others block

pub lives_more : (program : CProgram) (blocks : Blocks) (new : Option Block) (slot : Slot) → IsSlotAlive program blocks slot → IsSlotAlive program (blocks ++ new ∷ []) slot
lives_more program blocks new slot is = record {
  one = is.one;
  object_is = is.object_is;
  laid = is.laid;
  laid_is = is.laid_is;
  held = is.held;
  live = live_more blocks new slot.block is.held is.live;
  size = is.size;
  align = is.align;
}

pub owned_more : (program : CProgram) (held : Held) (new : Option Block) (slots : Frame) → AreOwned program held slots → AreOwned program (with_blocks (held.blocks ++ new ∷ []) held) slots
owned_more program held new [] owned = tt
owned_more program held new (slot ∷ others) owned = (lives_more program held.blocks new slot owned.0, owned.1, owned.2, owned_more program held new others owned.3)

pub held_more : (blocks : Blocks) (new : Option Block) (heap : List ℕ) → AreAllocated blocks heap → AreAllocated (blocks ++ new ∷ []) heap
held_more blocks new [] are = tt
held_more blocks new (number ∷ others) are = ((are.0.0, live_more blocks new number are.0.0 are.0.1), are.1, held_more blocks new others are.2)

-- the next block is that of no object, and isn't allocated
pub next_unused : (program : CProgram) (held : Held) (slots : Frame) → AreOwned program held slots → is_block_of (length held.blocks) slots ≡ false
next_unused program held [] owned = refl
next_unused program held (slot ∷ others) owned =
    let below = live_within held.blocks slot.block owned.0.held owned.0.live in
    or_false (slot.block == length held.blocks) (is_block_of (length held.blocks) others) (grind (arith, nat_tests, below)) (next_unused program held others owned.3)

pub next_unlisted : (blocks : Blocks) (heap : List ℕ) → AreAllocated blocks heap → is_listed (length blocks) heap ≡ false
next_unlisted blocks [] are = refl
next_unlisted blocks (number ∷ others) are = by (number == length blocks) refl (next_unlisted blocks others are.2)
  where
    by : (test : Bool) → (number == length blocks) ≡ test → is_listed (length blocks) others ≡ false → (if test then true else is_listed (length blocks) others) ≡ false
    by true e rest =
        let below = live_within blocks number are.0.0 are.0.1 in
        absurd (grind (arith, nat_tests, below, e))
    by false e rest = rest

pub inserted : (program : CProgram) (held : Held) (front back : Frame) (new : Slot) → AreOwned program held (front ++ back) → IsSlotAlive program held.blocks new → is_listed new.block held.heap ≡ false
    → is_block_of new.block (front ++ back) ≡ false → AreOwned program held (front ++ new ∷ back)
inserted program held [] back new owned alive unlisted unused = (alive, unlisted, unused, owned)
inserted program held (slot ∷ front) back new owned alive unlisted unused =
    let first = both_false (slot.block == new.block) (is_block_of new.block (front ++ back)) unused in
    let apart = no_block_of slot.block front back owned.2 in (
      owned.0,
      owned.1,
      no_block_in slot.block front (new ∷ back) apart.0 (or_false (new.block == slot.block) (is_block_of slot.block back) (grind (arith, nat_tests, first.0)) apart.1),
      inserted program held front back new owned.3 alive unlisted first.1,
    )

memory_more : (blocks : Blocks) (new : Block) (number : ℕ) (block : Block) → live_block (blocks ++ Some new ∷ []) number ≡ Some block → (live_block blocks number ≡ Some block) ⊎ (new ≡ block)
memory_more [] new zero block live = inr (cc (live))
memory_more [] new (suc number) block live = cc (live)
memory_more (first ∷ others) new zero block live = inl live
memory_more (first ∷ others) new (suc number) block live = memory_more others new number block live

-- ---- objects in scope

pub object_number : (number : ℕ) (objects : List CObject) (one : CObject) → object_with number objects ≡ Some one → one.object ≡ number
object_number number [] one e = cc (e)
object_number number (first ∷ others) one e = by (first.object == number) refl e (object_number number others one)
  where
    by : (test : Bool) → (first.object == number) ≡ test → (if test then Some first else object_with number others) ≡ Some one → (object_with number others ≡ Some one → one.object ≡ number) → one.object ≡ number
    by true is found rest = let same : first ≡ one = cc (found) in subst (λ (o : CObject). o.object ≡ number) same (grind (arith, nat_tests, is))
    by false is found rest = rest found

-- the slot that is found for an object
record IsFound (program : CProgram) (blocks : Blocks) (frame : Frame) (number : ℕ) : Type 0 where
  at : Ptr
  at_is : slot_of frame number ≡ Some at
  slot : Slot
  number_is : slot.object ≡ number
  block_is : slot.block ≡ at.block
  alive : IsSlotAlive program blocks slot

found_slot : (program : CProgram) (held : Held) (frame : Frame) (number : ℕ) → AreOwned program held frame → Contains (objects_of frame) number → IsFound program held.blocks frame number
found_slot program held [] number owned (k, within, e) = absurd (omega (arith, within))
found_slot program held (slot ∷ others) number owned there = by (slot.object == number) refl there (λ rest. found_slot program held others number owned.3 rest)
  where
    place : Ptr
    place = record { block = slot.block; offset = 0 }

    by : (test : Bool) → (slot.object == number) ≡ test → Contains (objects_of (slot ∷ others)) number → (Contains (objects_of others) number → IsFound program held.blocks others number) → IsFound program held.blocks (slot ∷ others) number
    by true is (k, within, e) rest = record {
      at = place;
      at_is = ap (λ test. if test then Some place else slot_of others number) is;
      slot = slot;
      number_is = grind (arith, nat_tests, is);
      block_is = refl;
      alive = owned.0;
    }
    by false is (zero, within, e) rest = absurd (grind (arith, nat_tests, is, e))
    by false is (suc k, within, e) rest =
        let found = rest (k, omega (arith, within), e) in
        record {
          at = found.at;
          at_is = ap (λ test. if test then Some place else slot_of others number) is ∙ found.at_is;
          slot = found.slot;
          number_is = found.number_is;
          block_is = found.block_is;
          alive = found.alive;
        }

-- the object of a number in scope lives
pub alive_object : (program : CProgram) (held : Held) (frame : Frame) (number : ℕ) → AreOwned program held frame → Contains (objects_of frame) number
    → IfSome (object_with number program.objects) (IsAlive program frame held.blocks)
alive_object program held frame number owned there = by (object_with number program.objects) refl
  where
    by : (found : Option CObject) → object_with number program.objects ≡ found → IfSome found (IsAlive program frame held.blocks)
    by None e = tt
    by (Some one) e =
        let found = found_slot program held frame number owned there in
        let same : found.alive.one ≡ one = cc (found.alive.object_is, ap (λ n. object_with n program.objects) found.number_is, e) in
        record {
          at = found.at;
          at_is = ap (slot_of frame) (object_number number program.objects one e) ∙ found.at_is;
          laid = found.alive.laid;
          laid_is = subst (λ (o : CObject). extent_in (setting_of program) o.type ≡ Some found.alive.laid) same found.alive.laid_is;
          block = found.alive.held;
          live = ap (live_block held.blocks) (sym found.block_is) ∙ found.alive.live;
          size = found.alive.size;
          align = found.alive.align;
        }

-- ---- a new block in a typed memory

pub memory_grown : (program : CProgram) (blocks : Blocks) (new : Block) → size_of new ≤ most_bytes → All (IsTypedCell program) new.cells → IsTypedMemory program blocks → IsTypedMemory program (blocks ++ Some new ∷ [])
memory_grown program blocks new small typed memory = record {
  objects = record { sizes = λ number block live. small_by number block (memory_more blocks new number block live) };
  cells = λ number block live. typed_by number block (memory_more blocks new number block live);
}
  where
    small_by : (number : ℕ) (block : Block) → (live_block blocks number ≡ Some block) ⊎ (new ≡ block) → size_of block ≤ most_bytes
    small_by number block (inl live) = memory.objects.sizes number block live
    small_by number block (inr same) = subst (λ (b : Block). size_of b ≤ most_bytes) same small

    typed_by : (number : ℕ) (block : Block) → (live_block blocks number ≡ Some block) ⊎ (new ≡ block) → All (IsTypedCell program) block.cells
    typed_by number block (inl live) = memory.cells number block live
    typed_by number block (inr same) = subst (λ (b : Block). All (IsTypedCell program) b.cells) same typed
