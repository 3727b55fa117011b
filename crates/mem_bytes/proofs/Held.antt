-- Calls keep each cell one that a machine holds.
use Rattle.std.proofs.Common.{◌≡◌, ℕ, zero, suc, ◌+◌, ◌/◌, ◌%◌, nat_lt, Bool, true, false, cond, All, List, [], ◌∷◌, ◌++◌, map, length, take, drop, replicate, slice_set, Option, Some, None, Result, Ok, Err, refl, sym, ◌∙◌, subst, ◌⊎◌, ⊎_elim, inl, inr, arith}
use Rattle.std.specs.List.{list_all}
use Rattle.std.proofs.lemmas.Bool.{and_parts, cond-false, ltb-true, ne_eqb}
use Rattle.std.proofs.lemmas.List.Elements.{All-take, All-drop, All-append}
use Rattle.std.proofs.lemmas.Nat.{mod_below}
use Rattle.cr_base.specs.Scalar.{modulus, residue}
use Rattle.cr_base.specs.declared.scalar.Scalar.{Scalar}
use Rattle.mem_bytes.specs.declared.cell.Cell.{Cell}
use Rattle.mem_bytes.specs.declared.cell.Cell.TheVariants.{PtrByte}
use Rattle.mem_bytes.specs.declared.fault.Fault.{Fault}
use Rattle.mem_bytes.specs.declared.fault.StoreFault.{StoreFault}
use Rattle.mem_bytes.specs.declared.value.Ptr.{Ptr}
use Rattle.mem_bytes.specs.declared.value.Value.{Value}
use Rattle.mem_bytes.specs.declared.value.Value.TheVariants.{Whole, Null, Object, Code}
use Rattle.mem_bytes.specs.Access.{and_then, part_of, scalar_part_of, live_read, live_change, block_with_value, block_with_field, block_with_fill, block_with_cell, block_with_copy, copied_between, after_copy}
use Rattle.mem_bytes.specs.Bits.{bytes_touched, with_field_in}
use Rattle.mem_bytes.specs.Calls.{IsPointer}
use Rattle.mem_bytes.specs.Coding.{scalar_size, bytes_of, pointer_bytes, cells_of}
use Rattle.mem_bytes.specs.Counted.{Limit, is_refused, after_alloc}
use Rattle.mem_bytes.specs.Laws.{IsHeld, HoldsCells, Later}
use Rattle.mem_bytes.specs.Memory.{Block, Blocks, live_block, unset_cell, byte_cell, new_block, with_part}
use Rattle.mem_bytes.proofs.Reached.{and_then_ok, changed, part_ok}
use Rattle.mem_bytes.proofs.Windows.{bytes_all}
use Rattle.mem_bytes.proofs.Written.{field_written}

-- ---- lists of cells

held_none : All IsHeld []
held_none k d p = absurd (omega arith)

held_more : (cell : Cell) (cells : List Cell) → IsHeld cell → All IsHeld cells → All IsHeld (cell ∷ cells)
held_more cell cells first rest =
    elim [ zero ↦ λ d p. first | suc k ↦ λ d p. rest k d (omega arith) ]

held_replicate : (count : ℕ) (cell : Cell) → IsHeld cell → All IsHeld (replicate count cell)
held_replicate zero cell held = held_none
held_replicate (suc count) cell held = held_more cell (replicate count cell) held (held_replicate count cell held)

held_bytes : (count n : ℕ) → All IsHeld (map byte_cell (bytes_of count n))
held_bytes zero n = held_none
held_bytes (suc count) n =
    held_more (byte_cell (n % 256)) (map byte_cell (bytes_of count (n / 256))) (mod_below n 256 (omega arith), omega arith) (held_bytes count (n / 256))

held_indexes : (of : Value) (indexes : List ℕ) → IsPointer of → list_all (λ index. nat_lt index 8) indexes ≡ true → All IsHeld (map (λ index. PtrByte of index) indexes)
held_indexes of [] p few = held_none
held_indexes of (index ∷ indexes) p few =
    let both = and_parts (nat_lt index 8) (list_all (λ i. nat_lt i 8) indexes) few in
    held_more (PtrByte of index) (map (λ i. PtrByte of i) indexes) (p, ltb-true index 8 both.0) (held_indexes of indexes p both.1)

held_pointer : (of : Value) → IsPointer of → All IsHeld (pointer_bytes of)
held_pointer of p = held_indexes of (0 ∷ 1 ∷ 2 ∷ 3 ∷ 4 ∷ 5 ∷ 6 ∷ 7 ∷ []) p refl

pub held_value : (scalar : Scalar) (value : Value) → All IsHeld (cells_of scalar value)
held_value scalar (Whole n) = held_bytes (scalar_size scalar) (residue n (modulus scalar))
held_value scalar Null = held_replicate 8 (byte_cell 0) (omega arith, omega arith)
held_value scalar (Object at) = held_pointer (Object at) tt
held_value scalar (Code f) = held_pointer (Code f) tt

-- ---- blocks

pub held_part : (block : Block) (offset : ℕ) (cells : List Cell) → All IsHeld block.cells → All IsHeld cells → All IsHeld (with_part block offset cells).cells
held_part block offset cells old new =
    All-append IsHeld (take offset block.cells ++ cells) (drop (offset + length cells) block.cells)
    (All-append IsHeld (take offset block.cells) cells (All-take IsHeld offset block.cells old) new)
    (All-drop IsHeld (offset + length cells) block.cells old)

held_given : {A : Type 0} (found : Result A Fault) (block new : Block) (offset : ℕ) (cells : List Cell) → All IsHeld cells → All IsHeld block.cells → and_then found (λ _. Ok (with_part block offset cells)) ≡ Ok new → All IsHeld new.cells
held_given found block new offset cells given old e =
    let parts = and_then_ok found (λ _. Ok (with_part block offset cells)) new e in
    let made : with_part block offset cells ≡ new = cc (parts.2) in
    subst (λ b. All IsHeld b.cells) made (held_part block offset cells old given)

held_field : (block new : Block) (offset bit width field : ℕ) → All IsHeld block.cells → block_with_field block offset bit width field ≡ Ok new → All IsHeld new.cells
held_field block new offset bit width field old e =
    let parts = and_then_ok (part_of block offset (bytes_touched bit width)) (λ cells. and_then (with_field_in bit width field cells) (λ put. Ok (with_part block offset put))) new e in
    let fields = and_then_ok (with_field_in bit width field parts.0) (λ put. Ok (with_part block offset put)) new parts.2 in
    let written = field_written bit width field parts.0 fields.0 fields.1 in
    let made : with_part block offset fields.0 ≡ new = cc (fields.2) in
    subst (λ b. All IsHeld b.cells) made (held_part block offset fields.0 old (subst (All IsHeld) (sym written.made) (bytes_all (length parts.0) _ _)))

held_copy : (block source new : Block) (offset from count : ℕ) → All IsHeld block.cells → All IsHeld source.cells → block_with_copy block offset source from count ≡ Ok new → All IsHeld new.cells
held_copy block source new offset from count old read e =
    let parts = and_then_ok (part_of source from count) (λ cells. and_then (part_of block offset count) (λ _. Ok (with_part block offset cells))) new e in
    let cells : All IsHeld parts.0 = subst (All IsHeld) (sym (part_ok source from count parts.0 parts.1).1) (All-take IsHeld count (drop from source.cells) (All-drop IsHeld from source.cells read)) in
    held_given (part_of block offset count) block new offset parts.0 cells old parts.2

-- ---- memories

-- a live block of a memory with another block is that block, or was live before
pub live_of_set : (memory : Blocks) (number other : ℕ) (new block : Block) → live_block (slice_set memory other (Some new)) number ≡ Some block → (live_block memory number ≡ Some block) ⊎ (new ≡ block)
live_of_set [] number other new block e = inl e
live_of_set (first ∷ others) zero zero new block e = inr cc
live_of_set (first ∷ others) zero (suc other) new block e = inl e
live_of_set (first ∷ others) (suc number) zero new block e = inl e
live_of_set (first ∷ others) (suc number) (suc other) new block e = live_of_set others number other new block e

pub live_of_kill : (memory : Blocks) (number other : ℕ) (block : Block) → live_block (slice_set memory other None) number ≡ Some block → live_block memory number ≡ Some block
live_of_kill [] number other block e = e
live_of_kill (first ∷ others) zero zero block e = cc
live_of_kill (first ∷ others) zero (suc other) block e = e
live_of_kill (first ∷ others) (suc number) zero block e = e
live_of_kill (first ∷ others) (suc number) (suc other) block e = live_of_kill others number other block e

pub live_of_push : (memory : Blocks) (number : ℕ) (new block : Block) → live_block (memory ++ Some new ∷ []) number ≡ Some block → (live_block memory number ≡ Some block) ⊎ (new ≡ block)
live_of_push [] zero new block e = inr cc
live_of_push [] (suc number) new block e = cc
live_of_push (first ∷ others) zero new block e = inl e
live_of_push (first ∷ others) (suc number) new block e = live_of_push others number new block e

pub held_set : (memory : Blocks) (other : ℕ) (new : Block) → HoldsCells memory → All IsHeld new.cells → HoldsCells (slice_set memory other (Some new))
held_set memory other new held cells number block live =
    ⊎_elim
    (λ (old : live_block memory number ≡ Some block). held number block old)
    (λ (same : new ≡ block). subst (λ b. All IsHeld b.cells) same cells)
    (live_of_set memory number other new block live)

held_change : (memory after : Blocks) (other : ℕ) (step : Block → Result Block Fault) → HoldsCells memory → ((block new : Block) → All IsHeld block.cells → step block ≡ Ok new → All IsHeld new.cells) → live_change memory other step ≡ Ok after → HoldsCells after
held_change memory after other step held keeps e =
    let c = changed memory after other step e in
    subst HoldsCells (sym c.made) (held_set memory other c.new held (keeps c.block c.new (held other c.block c.live) c.stepped))

pub held_push : (memory : Blocks) (size align : ℕ) → HoldsCells memory → HoldsCells (memory ++ Some (new_block size align) ∷ [])
held_push memory size align held number block live =
    ⊎_elim
    (λ (old : live_block memory number ≡ Some block). held number block old)
    (λ (same : new_block size align ≡ block). subst (λ b. All IsHeld b.cells) same (held_replicate size unset_cell (omega arith, omega arith)))
    (live_of_push memory number (new_block size align) block live)

held_refusable : (memory after pushed : Blocks) (refused : Bool) (fault : StoreFault) → HoldsCells pushed → cond refused (Err fault) (Ok pushed) ≡ Ok after → HoldsCells after
held_refusable memory after pushed true fault held e = cc
held_refusable memory after pushed false fault held e = let same : pushed ≡ after = cc in subst HoldsCells same held

held_alloc : (limit : Option Limit) (memory after : Blocks) (size align : ℕ) → HoldsCells memory → after_alloc limit memory size align ≡ Ok after → HoldsCells after
held_alloc None memory after size align held e =
    let same : memory ++ Some (new_block size align) ∷ [] ≡ after = cc in
    subst HoldsCells same (held_push memory size align held)
held_alloc (Some limit) memory after size align held e =
    held_refusable memory after _ (is_refused limit memory size) _ (held_push memory size align held) e

held_kill_from : (memory after : Blocks) (other : ℕ) (slot : Option Block) → HoldsCells memory → live_read slot (λ _. Ok (slice_set memory other None)) ≡ Ok after → HoldsCells after
held_kill_from memory after other None held e = cc
held_kill_from memory after other (Some dead) held e =
    let same : slice_set memory other None ≡ after = cc in
    subst HoldsCells same (λ number block live. held number block (live_of_kill memory number other block live))

held_copied : (memory after : Blocks) (from to : Ptr) (count : ℕ) (source target : Option Block) → live_block memory from.block ≡ source → live_block memory to.block ≡ target → HoldsCells memory → copied_between memory from to count source target ≡ Ok after → HoldsCells after
held_copied memory after from to count None None live there held e = cc
held_copied memory after from to count None (Some target) live there held e = cc
held_copied memory after from to count (Some source) None live there held e = cc
held_copied memory after from to count (Some source) (Some target) live there held e =
    let made = and_then_ok (block_with_copy target to.offset source from.offset count) (λ block. Ok (slice_set memory to.block (Some block))) after e in
    let same : slice_set memory to.block (Some made.0) ≡ after = cc (made.2) in
    subst HoldsCells same (held_set memory to.block made.0 held (held_copy target source made.0 to.offset from.offset count (held to.block target there) (held from.block source live) made.1))

held_after_copy : (memory after : Blocks) (from to : Ptr) (count : ℕ) → HoldsCells memory → after_copy memory from to count ≡ Ok after → HoldsCells after
held_after_copy memory after from to zero held e = let same : memory ≡ after = cc in subst HoldsCells same held
held_after_copy memory after from to (suc count) held e =
    held_copied memory after from to (suc count) (live_block memory from.block) (live_block memory to.block) refl refl held (sym (cond-false _ _ _ (ne_eqb (suc count) 0 (λ none. omega arith))) ∙ e)

pub held_later : (before later : Blocks) → HoldsCells before → Later before later → HoldsCells later
held_later before later held Later.now = held
held_later before later held (Later.alloc {memory} limit size align h p q e) = held_alloc limit memory later size align (held_later before memory held h) e
held_later before later held (Later.kill {memory} number h e) = held_kill_from memory later number (live_block memory number) (held_later before memory held h) e
held_later before later held (Later.put {memory} at scalar value h p q e) =
    held_change memory later at.block (λ block. block_with_value block at.offset scalar value) (held_later before memory held h) (λ block new old made. held_given (scalar_part_of block at.offset scalar) block new at.offset (cells_of scalar value) (held_value scalar value) old made) e
held_later before later held (Later.put_bits {memory} at bit width field h p q e) =
    held_change memory later at.block (λ block. block_with_field block at.offset bit width field) (held_later before memory held h) (λ block new old made. held_field block new at.offset bit width field old made) e
held_later before later held (Later.fill {memory} at byte count h p e) =
    held_change memory later at.block (λ block. block_with_fill block at.offset byte count) (held_later before memory held h) (λ block new old made. held_given (part_of block at.offset count) block new at.offset (replicate count (byte_cell byte)) (held_replicate count (byte_cell byte) (p, omega arith)) old made) e
held_later before later held (Later.put_cell {memory} at cell h p e) =
    held_change memory later at.block (λ block. block_with_cell block at.offset cell) (held_later before memory held h) (λ block new old made. held_given (part_of block at.offset 1) block new at.offset (cell ∷ []) (held_more cell [] p held_none) old made) e
held_later before later held (Later.copy {memory} from to count h e) = held_after_copy memory later from to count (held_later before memory held h) e
