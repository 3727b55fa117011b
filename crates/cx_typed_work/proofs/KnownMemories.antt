-- Memories that calls of known functions leave (ISO C99, 7.20.3, 7.21.2 and 7.21.6.1).
use Rattle.std.proofs.Common.{◌≡◌, ◌≢◌, ⊎_elim, ℕ, zero, suc, ◌<◌, ◌≤◌, ◌==◌, Bool, true, false, true≢false, if◌then◌else◌, All, List, [], ◌∷◌, ◌++◌, length, drop, replicate, slice_set, Option, Some, None, Ok, refl, sym, ap, subst, ◌∙◌, arith}
use Rattle.std.proofs.lemmas.Bool.{cases_eq, eqb-false, ne_eqb}
use Rattle.std.proofs.lemmas.List.{length-append, length-set, length-replicate}
use Rattle.std.proofs.lemmas.List.Elements.{All-take, All-drop}
use Rattle.cr_world.specs.Held.{Held, with_blocks, with_allocated, fresh_block, heap_align, is_listed, without_block, without_entry, without_allocated}
use Rattle.cx_core.specs.Trees.{CProgram}
use Rattle.mem_bytes.proofs.Reached.{and_then_ok, changed, part_ok, length_part}
use Rattle.mem_bytes.proofs.Slots.{live-set_other}
use Rattle.mem_bytes.specs.Access.{and_then, part_of, block_with_copy, block_with_fill, after_fill, copied_between, after_copy}
use Rattle.mem_bytes.specs.declared.value.Ptr.{Ptr}
use Rattle.mem_bytes.specs.Laws.{Writes}
use Rattle.mem_bytes.specs.Memory.{Block, Blocks, live_block, size_of, byte_cell, unset_cell, with_part}
use Rattle.cx_typed_values.specs.Values.{most_bytes}
use Rattle.cx_typed_work.specs.ExternalCalls.{KeepsObjects}
use Rattle.cx_typed_work.proofs.Memories.{typed_replicate, written_typed, shapes_stay, written_shapes}
use Rattle.cx_typed_work.specs.Scenes.{IsTypedCell, IsTypedMemory, IsSameShape, AreSameShapes}

-- ---- the same memory

pub held_stays : (held : Held) → KeepsObjects held held
held_stays held = record { grows = omega arith; lives = λ number within apart. (shapes_stay held.blocks).each number; not_allocated = λ number within apart. apart }

-- ---- one more block (7.20.3p1)

-- what is there of each block, and of a new one, is there of each block behind which the new one stands
each_behind : (Holds : Block → Type 0) (blocks : Blocks) (new : Block) → ((number : ℕ) (block : Block) → live_block blocks number ≡ Some block → Holds block) → Holds new
    → (number : ℕ) (block : Block) → live_block (blocks ++ Some new ∷ []) number ≡ Some block → Holds block
each_behind Holds [] new each is zero block e = let same : new ≡ block = cc (e) in subst Holds same is
each_behind Holds [] new each is (suc number) block e = cc
each_behind Holds (first ∷ others) new each is zero block e = each zero block e
each_behind Holds (first ∷ others) new each is (suc number) block e = each_behind Holds others new (λ n. each (suc n)) is number block e

live_before : (blocks : Blocks) (new : Option Block) (number : ℕ) → number < length blocks → live_block (blocks ++ new ∷ []) number ≡ live_block blocks number
live_before [] new number within = absurd (omega (arith, within))
live_before (first ∷ others) new zero within = refl
live_before (first ∷ others) new (suc number) within = live_before others new number (omega (arith, within))

fresh_size : (is_zero : Bool) (size align : ℕ) → size_of (fresh_block is_zero size align) ≡ size
fresh_size true size align = length-replicate size (byte_cell 0)
fresh_size false size align = length-replicate size unset_cell

fresh_cells : (program : CProgram) (is_zero : Bool) (size align : ℕ) → All (IsTypedCell program) (fresh_block is_zero size align).cells
fresh_cells program true size align = typed_replicate program size (byte_cell 0) tt
fresh_cells program false size align = typed_replicate program size unset_cell tt

pub allocated_typed : (program : CProgram) (is_zero : Bool) (size : ℕ) (held : Held) → IsTypedMemory program held.blocks → size ≤ most_bytes → IsTypedMemory program (with_allocated is_zero size held).blocks
allocated_typed program is_zero size held memory fits =
    let new = fresh_block is_zero size heap_align in
    record {
      objects = record { sizes = each_behind (λ block. size_of block ≤ most_bytes) held.blocks new memory.objects.sizes (subst (λ n. n ≤ most_bytes) (sym (fresh_size is_zero size heap_align)) fits) };
      cells = each_behind (λ block. All (IsTypedCell program) block.cells) held.blocks new memory.cells (fresh_cells program is_zero size heap_align);
    }

-- another number in front
listed_behind : (number first : ℕ) (others : List ℕ) → first ≢ number → is_listed number others ≡ false → is_listed number (first ∷ others) ≡ false
listed_behind number first others away rest = ap (λ same. if same then true else is_listed number others) (ne_eqb first number away) ∙ rest

pub allocated_keeps : (is_zero : Bool) (size : ℕ) (held : Held) → KeepsObjects held (with_allocated is_zero size held)
allocated_keeps is_zero size held =
    let new = Some (fresh_block is_zero size heap_align) in
    record {
      grows = omega (arith, length-append held.blocks (new ∷ []));
      lives = λ number within apart. subst (IsSameShape (live_block held.blocks number)) (sym (live_before held.blocks new number within)) ((shapes_stay held.blocks).each number);
      not_allocated = λ number within apart. listed_behind number (length held.blocks) held.heap (λ same. absurd (omega (arith, within, same))) apart;
    }

-- ---- a block dies (7.20.3.2)

dead_there : (blocks : Blocks) (number : ℕ) → live_block (without_block number blocks) number ≡ None
dead_there [] number = refl
dead_there (first ∷ others) zero = refl
dead_there (first ∷ others) (suc number) = dead_there others number

-- a block that lives when another has died lived before
was_live : (blocks : Blocks) (dead number : ℕ) (block : Block) → live_block (without_block dead blocks) number ≡ Some block → live_block blocks number ≡ Some block
was_live blocks dead number block live =
    ⊎_elim
    (λ (same : dead ≡ number). cc (subst (λ n. live_block (without_block dead blocks) n ≡ None) same (dead_there blocks dead), live))
    (λ (away : dead ≢ number). sym (live-set_other blocks dead number None away) ∙ live)
    (cases_eq dead number)

pub freed_typed : (program : CProgram) (blocks : Blocks) (dead : ℕ) → IsTypedMemory program blocks → IsTypedMemory program (without_block dead blocks)
freed_typed program blocks dead memory = record {
  objects = record { sizes = λ number block live. memory.objects.sizes number block (was_live blocks dead number block live) };
  cells = λ number block live. memory.cells number block (was_live blocks dead number block live);
}

-- a number that isn't listed is neither the first one nor among the others
listed_apart : (number first : ℕ) (others : List ℕ) (same : Bool) → (first == number) ≡ same → (if same then true else is_listed number others) ≡ false → (first ≢ number) × (is_listed number others ≡ false)
listed_apart number first others true e out = absurd (true≢false out)
listed_apart number first others false e out = (eqb-false first number e, out)

still_apart : (number dead : ℕ) (heap : List ℕ) → is_listed number heap ≡ false → is_listed number (without_entry dead heap) ≡ false
still_apart number dead [] out = refl
still_apart number dead (first ∷ others) out = by (first == dead) (listed_apart number first others (first == number) refl out) (still_apart number dead others)
  where
    by : (test : Bool) → (first ≢ number) × (is_listed number others ≡ false) → (is_listed number others ≡ false → is_listed number (without_entry dead others) ≡ false)
        → is_listed number (if test then others else first ∷ without_entry dead others) ≡ false
    by true apart rest = apart.1
    by false apart rest = listed_behind number first (without_entry dead others) apart.0 (rest apart.1)

pub freed_keeps : (dead : ℕ) (held : Held) → is_listed dead held.heap ≡ true → KeepsObjects held (without_allocated dead held)
freed_keeps dead held listed = record {
  grows = omega (arith, length-set held.blocks dead None);
  lives = λ number within apart. subst (IsSameShape (live_block held.blocks number)) (sym (live-set_other held.blocks dead number None (away number apart))) ((shapes_stay held.blocks).each number);
  not_allocated = λ number within apart. still_apart number dead held.heap apart;
}
  where
    away : (number : ℕ) → is_listed number held.heap ≡ false → dead ≢ number
    away number apart same = true≢false (sym (subst (λ n. is_listed n held.heap ≡ true) same listed) ∙ apart)

-- ---- bytes are written (7.21.2, 7.21.6.1)

-- a write of typed cells
pub record IsTypedWrite (program : CProgram) (memory after : Blocks) (at : Ptr) (count : ℕ) : Type 0 where
  pub writes : Writes memory at count after
  pub typed : All (IsTypedCell program) writes.cells

pub fill_typed : (program : CProgram) (memory after : Blocks) (at : Ptr) (byte count : ℕ) → after_fill memory at byte count ≡ Ok after → IsTypedWrite program memory after at count
fill_typed program memory after at byte count e =
    let held = replicate count (byte_cell byte) in
    let change = changed memory after at.block (λ block. block_with_fill block at.offset byte count) e in
    let parts = and_then_ok (part_of change.block at.offset count) (λ _. Ok (with_part change.block at.offset held)) change.new change.stepped in
    let new : change.new ≡ with_part change.block at.offset held = cc (parts.2) in
    record {
      writes = record {
        block = change.block;
        cells = held;
        live = change.live;
        many = length-replicate count (byte_cell byte);
        within = (part_ok change.block at.offset count parts.0 parts.1).0;
        made = change.made ∙ ap (λ (block : Block). slice_set memory at.block (Some block)) new;
      };
      typed = typed_replicate program count (byte_cell byte) tt;
    }

-- the cells are those of the source
copied_typed : (program : CProgram) (memory after : Blocks) (from to : Ptr) (count : ℕ) (source target : Option Block) → live_block memory from.block ≡ source → live_block memory to.block ≡ target → IsTypedMemory program memory
    → copied_between memory from to count source target ≡ Ok after → IsTypedWrite program memory after to count
copied_typed program memory after from to count None target e f typed made = cc
copied_typed program memory after from to count (Some source) None e f typed made = cc
copied_typed program memory after from to count (Some source) (Some target) e f typed made =
    let outer = and_then_ok (block_with_copy target to.offset source from.offset count) (λ block. Ok (slice_set memory to.block (Some block))) after made in
    let read = and_then_ok (part_of source from.offset count) (λ cells. and_then (part_of target to.offset count) (λ _. Ok (with_part target to.offset cells))) outer.0 outer.1 in
    let written = and_then_ok (part_of target to.offset count) (λ _. Ok (with_part target to.offset read.0)) outer.0 read.2 in
    let new : outer.0 ≡ with_part target to.offset read.0 = cc (written.2) in
    let is : after ≡ slice_set memory to.block (Some outer.0) = cc (outer.2) in
    record {
      writes = record {
        block = target;
        cells = read.0;
        live = f;
        many = length_part source from.offset count read.0 read.1;
        within = (part_ok target to.offset count written.0 written.1).0;
        made = is ∙ ap (λ (block : Block). slice_set memory to.block (Some block)) new;
      };
      typed = subst (All (IsTypedCell program)) (sym (part_ok source from.offset count read.0 read.1).1)
          (All-take (IsTypedCell program) count (drop from.offset source.cells) (All-drop (IsTypedCell program) from.offset source.cells (typed.cells from.block source e)));
    }

-- what writes leave
pub record IsWritten (program : CProgram) (before after : Blocks) : Type 0 where
  pub typed : IsTypedMemory program after
  pub shapes : AreSameShapes before after
  pub count : length after ≡ length before

pub unwritten : (program : CProgram) (memory : Blocks) → IsTypedMemory program memory → IsWritten program memory memory
unwritten program memory typed = record { typed = typed; shapes = shapes_stay memory; count = refl }

written : (program : CProgram) (memory after : Blocks) (at : Ptr) (count : ℕ) → IsTypedMemory program memory → IsTypedWrite program memory after at count → IsWritten program memory after
written program memory after at count typed one = record {
  typed = written_typed program memory after at count one.writes typed one.typed;
  shapes = written_shapes memory after at count one.writes;
  count = ap length one.writes.made ∙ length-set memory at.block (Some (with_part one.writes.block at.offset one.writes.cells));
}

pub fill_written : (program : CProgram) (memory after : Blocks) (at : Ptr) (byte count : ℕ) → IsTypedMemory program memory → after_fill memory at byte count ≡ Ok after → IsWritten program memory after
fill_written program memory after at byte count typed e = written program memory after at count typed (fill_typed program memory after at byte count e)

pub copy_written : (program : CProgram) (memory after : Blocks) (from to : Ptr) (count : ℕ) → IsTypedMemory program memory → after_copy memory from to count ≡ Ok after → IsWritten program memory after
copy_written program memory after from to count typed e = by (count == 0) e
  where
    by : (test : Bool) → (if test then Ok memory else copied_between memory from to count (live_block memory from.block) (live_block memory to.block)) ≡ Ok after → IsWritten program memory after
    by true made = let same : memory ≡ after = cc (made) in subst (IsWritten program memory) same (unwritten program memory typed)
    by false made = written program memory after to count typed (copied_typed program memory after from to count (live_block memory from.block) (live_block memory to.block) refl refl typed made)

pub written_keeps : (program : CProgram) (held : Held) (after : Blocks) → IsWritten program held.blocks after → KeepsObjects held (with_blocks after held)
written_keeps program held after one = record {
  grows = omega (arith, one.count);
  lives = λ number within apart. one.shapes.each number;
  not_allocated = λ number within apart. apart;
}
