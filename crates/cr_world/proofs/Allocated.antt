-- The blocks that a program holds as allocated live, and none is listed twice.
use Rattle.std.proofs.Common.{◌≡◌, ◌≢◌, ℕ, zero, suc, ◌*◌, ℤ, pos, ◌<◌, Bool, true, false, ◌==◌, ◌&&◌, nat_le, if◌then◌else◌, List, [], ◌∷◌, ◌++◌, length, Option, Some, None, slice_set, Result, Ok, Err, refl, sym, ap, subst, ◌∙◌, ⊎_elim, arith}
use Rattle.std.proofs.lemmas.Bool.{cases_eq, eqb-true, ne_eqb, eqb-false}
use Rattle.cr_base.specs.Layout.{most_bytes}
use Rattle.cr_base.specs.Scalar.{residue}
use Rattle.mem_bytes.specs.declared.fault.Fault.{Fault}
use Rattle.mem_bytes.specs.declared.value.Ptr.{Ptr}
use Rattle.mem_bytes.specs.declared.value.Value.{Value}
use Rattle.mem_bytes.specs.declared.value.Value.TheVariants.{Whole, Null, Object, Code}
use Rattle.mem_bytes.specs.Access.{after_copy, after_fill}
use Rattle.mem_bytes.specs.Laws.{Writes}
use Rattle.mem_bytes.specs.Memory.{Block, Blocks, live_block}
use Rattle.mem_bytes.proofs.Slots.{live-set_same, live-set_other, live_within}
use Rattle.mem_bytes.proofs.Written.{copy_writes, fill_writes}
use Rattle.cr_world.specs.Held.{Held, overlapping, not_allocated, fresh_block, heap_align, is_listed, without_entry, without_allocated}
use Rattle.cr_world.specs.Known.{Known, allocates, frees, copies, fills, exits, aborts, Effect, gives, gives_nothing, ends_program, wants_block, fails, effect, allocated, allocation, null_beside, accessed_as, unless_overlapping, bytes_overlap, copied, copying, filling, freeing}
use Rattle.cr_world.specs.Laws.{AreAllocated, HeapLives}

abbrev IsLive : Blocks → ℕ → Type 0
IsLive blocks number = (block : Block) × (live_block blocks number ≡ Some block)

-- ---- another memory in which what lived lives

pub all_live : (blocks after : Blocks) (heap : List ℕ) → ((number : ℕ) → IsLive blocks number → IsLive after number) → AreAllocated blocks heap → AreAllocated after heap
all_live blocks after [] stays are = tt
all_live blocks after (first ∷ others) stays are = (stays first are.0, are.1, all_live blocks after others stays are.2)

live_behind : (blocks : Blocks) (new : Option Block) (number : ℕ) (block : Block) → live_block blocks number ≡ Some block → live_block (blocks ++ new ∷ []) number ≡ Some block
live_behind [] new number block live = cc
live_behind (first ∷ others) new zero block live = live
live_behind (first ∷ others) new (suc number) block live = live_behind others new number block live

live_last : (blocks : Blocks) (new : Block) → live_block (blocks ++ Some new ∷ []) (length blocks) ≡ Some new
live_last [] new = refl
live_last (first ∷ others) new = live_last others new

live_written : (memory after : Blocks) (at : Ptr) (count : ℕ) → Writes memory at count after → (number : ℕ) → IsLive memory number → IsLive after number
live_written memory after at count writes number live =
    ⊎_elim
    (λ (same : at.block ≡ number). (_, ap (live_block after) (sym same) ∙ ap (λ m. live_block m at.block) writes.made ∙ live-set_same memory at.block _ (live_within memory at.block writes.block writes.live)))
    (λ (away : at.block ≢ number). (live.0, ap (λ m. live_block m number) writes.made ∙ live-set_other memory at.block number _ away ∙ live.1))
    (cases_eq at.block number)

-- ---- a block is allocated

not_listed : (number first : ℕ) (others : List ℕ) → first ≢ number → is_listed number others ≡ false → is_listed number (first ∷ others) ≡ false
not_listed number first others away rest = ap (λ same. if same then true else is_listed number others) (ne_eqb first number away) ∙ rest

fresh_number : (blocks : Blocks) (heap : List ℕ) → AreAllocated blocks heap → is_listed (length blocks) heap ≡ false
fresh_number blocks [] are = refl
fresh_number blocks (first ∷ others) are =
    let below : first < length blocks = live_within blocks first are.0.0 are.0.1 in
    not_listed (length blocks) first others (λ same. omega arith) (fresh_number blocks others are.2)

pub allocated_keeps : (is_given is_zero : Bool) (size : ℕ) (held : Held) → HeapLives held → HeapLives (allocated is_given is_zero size held).held
allocated_keeps false is_zero size held are = are
allocated_keeps true is_zero size held are =
    let new = fresh_block is_zero size heap_align in (
      (new, live_last held.blocks new),
      fresh_number held.blocks held.heap are,
      all_live held.blocks (held.blocks ++ Some new ∷ []) held.heap (λ number live. (live.0, live_behind held.blocks (Some new) number live.0 live.1)) are,
    )

-- ---- a block is freed

other_listed : (number first : ℕ) (others : List ℕ) → is_listed number (first ∷ others) ≡ false → (first ≢ number) × (is_listed number others ≡ false)
other_listed number first others e = from_test (first == number) refl e
  where
    from_test : (same : Bool) → (first == number) ≡ same → (if same then true else is_listed number others) ≡ false → (first ≢ number) × (is_listed number others ≡ false)
    from_test true p e = cc
    from_test false p e = (eqb-false first number p, e)

pub all_but : (blocks : Blocks) (number : ℕ) (heap : List ℕ) → is_listed number heap ≡ false → AreAllocated blocks heap → AreAllocated (slice_set blocks number None) heap
all_but blocks number [] out are = tt
all_but blocks number (first ∷ others) out are =
    let apart = other_listed number first others out in
    ((are.0.0, live-set_other blocks number first None (λ same. apart.0 (sym same)) ∙ are.0.1), are.1, all_but blocks number others apart.1 are.2)

entry_out : (same : Bool) (one first : ℕ) (others without : List ℕ) → is_listed one others ≡ false → is_listed one (first ∷ without) ≡ false → is_listed one (if same then others else first ∷ without) ≡ false
entry_out true one first others without out kept = out
entry_out false one first others without out kept = kept

still_not_listed : (one number : ℕ) (heap : List ℕ) → is_listed one heap ≡ false → is_listed one (without_entry number heap) ≡ false
still_not_listed one number [] out = refl
still_not_listed one number (first ∷ others) out =
    let apart = other_listed one first others out in
    entry_out (first == number) one first others (without_entry number others) apart.1 (not_listed one first (without_entry number others) apart.0 (still_not_listed one number others apart.1))

first_keeps : (blocks : Blocks) (number first : ℕ) (others : List ℕ) (same : Bool) → (first == number) ≡ same → AreAllocated blocks (first ∷ others) → AreAllocated (slice_set blocks number None) (without_entry number others) →
    AreAllocated (slice_set blocks number None) (if same then others else first ∷ without_entry number others)
first_keeps blocks number first others true p are rest = all_but blocks number others (subst (λ n. is_listed n others ≡ false) (eqb-true first number p) are.1) are.2
first_keeps blocks number first others false p are rest =
    let away = eqb-false first number p in
    ((are.0.0, live-set_other blocks number first None (λ same. away (sym same)) ∙ are.0.1), still_not_listed first number others are.1, rest)

pub without_keeps : (blocks : Blocks) (number : ℕ) (heap : List ℕ) → AreAllocated blocks heap → AreAllocated (slice_set blocks number None) (without_entry number heap)
without_keeps blocks number [] are = tt
without_keeps blocks number (first ∷ others) are = first_keeps blocks number first others (first == number) refl are (without_keeps blocks number others are.2)

-- ---- what a call leaves

-- what is held after an effect, if it leaves anything
abbrev Keeps : Effect → Type 0
Keeps (gives value after) = HeapLives after
Keeps (gives_nothing after) = HeapLives after
Keeps (ends_program status) = Unit {0}
Keeps (wants_block is_zero size) = Unit {0}
Keeps (fails fault) = Unit {0}

accessed_keeps : (value : Value) (before : Held) (outcome : Result Blocks Fault) → ((blocks : Blocks) → outcome ≡ Ok blocks → (number : ℕ) → IsLive before.blocks number → IsLive blocks number) →
    HeapLives before → Keeps (accessed_as value before outcome)
accessed_keeps value before (Ok blocks) stays are = all_live before.blocks blocks before.heap (stays blocks refl) are
accessed_keeps value before (Err fault) stays are = tt

overlap_keeps : (may_overlap : Bool) (to from : Ptr) (count : ℕ) (one : Effect) → Keeps one → Keeps (unless_overlapping may_overlap to from count one)
overlap_keeps true to from count one kept = kept
overlap_keeps false to from count (gives value held) kept = from_test (bytes_overlap to from count)
  where
    from_test : (overlaps : Bool) → Keeps (if overlaps then fails overlapping else gives value held)
    from_test true = tt
    from_test false = kept
overlap_keeps false to from count one kept = kept

beside_keeps : (slot : Option Block) → Keeps (null_beside slot)
beside_keeps None = tt
beside_keeps (Some block) = tt

copied_keeps : (may_overlap : Bool) (to from : Value) (n : ℕ) (held : Held) → HeapLives held → Keeps (copied may_overlap to from (suc n) held)
copied_keeps may_overlap (Object to) (Object from) n held are =
    overlap_keeps may_overlap to from (suc n) _
    (accessed_keeps (Object to) held (after_copy held.blocks from to (suc n)) (λ blocks ended. live_written held.blocks blocks to (suc n) (copy_writes held.blocks blocks from to (suc n) (omega arith) ended)) are)
copied_keeps may_overlap (Object to) Null n held are = beside_keeps (live_block held.blocks to.block)
copied_keeps may_overlap Null (Object from) n held are = beside_keeps (live_block held.blocks from.block)
copied_keeps may_overlap Null Null n held are = tt
copied_keeps may_overlap to from n held are = tt

copying_keeps : (may_overlap : Bool) (to from : Value) (count : ℕ) (held : Held) → HeapLives held → Keeps (copying may_overlap to from count held)
copying_keeps may_overlap to from zero held are = are
copying_keeps may_overlap to from (suc n) held are = copied_keeps may_overlap to from n held are

filling_keeps : (to : Value) (byte : ℤ) (count : ℕ) (held : Held) → HeapLives held → Keeps (filling to byte count held)
filling_keeps (Object at) byte count held are =
    accessed_keeps (Object at) held (after_fill held.blocks at (residue byte 256) count) (λ blocks ended. live_written held.blocks blocks at count (fill_writes held.blocks blocks at (residue byte 256) count ended)) are
filling_keeps Null byte count held are = tt
filling_keeps (Whole number) byte count held are = tt
filling_keeps (Code number) byte count held are = tt

freeing_keeps : (value : Value) (held : Held) → HeapLives held → Keeps (freeing value held)
freeing_keeps (Object at) held are = from_test (at.offset == 0 && is_listed at.block held.heap)
  where
    from_test : (is : Bool) → Keeps (if is then gives_nothing (without_allocated at.block held) else fails not_allocated)
    from_test true = without_keeps held.blocks at.block held.heap are
    from_test false = tt
freeing_keeps Null held are = are
freeing_keeps (Whole number) held are = tt
freeing_keeps (Code number) held are = tt

allocation_keeps : (is_zero : Bool) (size : ℕ) (held : Held) → HeapLives held → Keeps (allocation is_zero size held)
allocation_keeps is_zero size held are = from_test (nat_le size most_bytes)
  where
    from_test : (fits : Bool) → Keeps (if fits then wants_block is_zero size else gives Null held)
    from_test true = tt
    from_test false = are

effect_keeps : (does : Known) (args : List Value) (held : Held) → HeapLives held → Keeps (effect does args held)
effect_keeps (allocates is_zero) (Whole (pos size) ∷ []) held are = allocation_keeps is_zero size held are
effect_keeps (allocates is_zero) (Whole (pos count) ∷ Whole (pos size) ∷ []) held are = allocation_keeps is_zero (count * size) held are
effect_keeps frees (value ∷ []) held are = freeing_keeps value held are
effect_keeps (copies may_overlap) (to ∷ from ∷ Whole (pos count) ∷ []) held are = copying_keeps may_overlap to from count held are
effect_keeps fills (to ∷ Whole byte ∷ Whole (pos count) ∷ []) held are = filling_keeps to byte count held are
effect_keeps exits (Whole status ∷ []) held are = tt
effect_keeps aborts [] held are = tt
effect_keeps does args held are = tt

pub gives_keeps : (does : Known) (args : List Value) (value : Value) (before after : Held) → HeapLives before → effect does args before ≡ gives value after → HeapLives after
gives_keeps does args value before after are e = subst Keeps e (effect_keeps does args before are)

pub gives_nothing_keeps : (does : Known) (args : List Value) (before after : Held) → HeapLives before → effect does args before ≡ gives_nothing after → HeapLives after
gives_nothing_keeps does args before after are e = subst Keeps e (effect_keeps does args before are)
