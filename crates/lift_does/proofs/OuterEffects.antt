-- Which known functions give nothing (ISO C99, 7.20.3.2).
use Rattle.std.proofs.Common.{◌≡◌, ℕ, zero, suc, ◌*◌, Bool, true, false, if◌then◌else◌, ◌&&◌, ◌==◌, ℤ, pos, List, [], ◌∷◌, Option, Some, None, Result, Ok, Err, refl, subst}
use Rattle.std.specs.List.{find}
use Rattle.std.specs.Prelude.{nat_le, bytes_eq, codes}
use Rattle.cr_base.specs.Layout.{most_bytes}
use Rattle.cr_base.specs.Scalar.{residue}
use Rattle.cr_world.specs.Held.{Held, is_listed, without_allocated, not_allocated, overlapping}
use Rattle.cr_world.specs.Known.{KnownFunction, known_table, known_named, Known, allocates, frees, copies, fills, exits, aborts, Effect, gives, gives_nothing, ends_program, wants_block, fails, effect, allocation, null_beside, accessed_as, unless_overlapping, bytes_overlap, copied, copying, filling, freeing}
use Rattle.mem_bytes.specs.Access.{after_copy, after_fill}
use Rattle.mem_bytes.specs.Memory.{Block, Blocks, live_block}
use Rattle.mem_bytes.specs.declared.fault.Fault.{Fault}
use Rattle.mem_bytes.specs.declared.value.Ptr.{Ptr}
use Rattle.mem_bytes.specs.declared.value.Value.{Value}
use Rattle.mem_bytes.specs.declared.value.Value.TheVariants.{Whole, Null, Object, Code}

-- only `free` gives nothing and goes on, and only an allocation wants a block, which is zero where it gives such
abbrev pub Shape : Known → Effect → Type 0
Shape does (gives value after) = Unit {0}
Shape does (gives_nothing after) = does ≡ frees
Shape does (ends_program status) = Unit {0}
Shape does (wants_block is_zero size) = does ≡ allocates is_zero
Shape does (fails fault) = Unit {0}

accessed_shape : (does : Known) (value : Value) (before : Held) (outcome : Result Blocks Fault) → Shape does (accessed_as value before outcome)
accessed_shape does value before (Ok blocks) = tt
accessed_shape does value before (Err fault) = tt

overlap_shape : (does : Known) (may_overlap : Bool) (to from : Ptr) (count : ℕ) (one : Effect) → Shape does one → Shape does (unless_overlapping may_overlap to from count one)
overlap_shape does true to from count one kept = kept
overlap_shape does false to from count (gives value held) kept = from_test (bytes_overlap to from count)
  where
    from_test : (overlaps : Bool) → Shape does (if overlaps then fails overlapping else gives value held)
    from_test true = tt
    from_test false = tt
overlap_shape does false to from count one kept = kept

beside_shape : (does : Known) (slot : Option Block) → Shape does (null_beside slot)
beside_shape does None = tt
beside_shape does (Some block) = tt

copied_shape : (does : Known) (may_overlap : Bool) (to from : Value) (n : ℕ) (held : Held) → Shape does (copied may_overlap to from (suc n) held)
copied_shape does may_overlap (Object to) (Object from) n held = overlap_shape does may_overlap to from (suc n) _ (accessed_shape does (Object to) held (after_copy held.blocks from to (suc n)))
copied_shape does may_overlap (Object to) Null n held = beside_shape does (live_block held.blocks to.block)
copied_shape does may_overlap Null (Object from) n held = beside_shape does (live_block held.blocks from.block)
copied_shape does may_overlap Null Null n held = tt
copied_shape does may_overlap to from n held = tt

copying_shape : (does : Known) (may_overlap : Bool) (to from : Value) (count : ℕ) (held : Held) → Shape does (copying may_overlap to from count held)
copying_shape does may_overlap to from zero held = tt
copying_shape does may_overlap to from (suc n) held = copied_shape does may_overlap to from n held

filling_shape : (does : Known) (to : Value) (byte : ℤ) (count : ℕ) (held : Held) → Shape does (filling to byte count held)
filling_shape does (Object at) byte count held = accessed_shape does (Object at) held (after_fill held.blocks at (residue byte 256) count)
filling_shape does Null byte count held = tt
filling_shape does (Whole number) byte count held = tt
filling_shape does (Code number) byte count held = tt

freeing_shape : (value : Value) (held : Held) → Shape frees (freeing value held)
freeing_shape (Object at) held = from_test (at.offset == 0 && is_listed at.block held.heap)
  where
    from_test : (is : Bool) → Shape frees (if is then gives_nothing (without_allocated at.block held) else fails not_allocated)
    from_test true = refl
    from_test false = tt
freeing_shape Null held = refl
freeing_shape (Whole number) held = tt
freeing_shape (Code number) held = tt

allocation_shape : (is_zero : Bool) (size : ℕ) (held : Held) → Shape (allocates is_zero) (allocation is_zero size held)
allocation_shape is_zero size held = from_test (nat_le size most_bytes)
  where
    from_test : (fits : Bool) → Shape (allocates is_zero) (if fits then wants_block is_zero size else gives Null held)
    from_test true = refl
    from_test false = tt

pub effect_shape : (does : Known) (args : List Value) (held : Held) → Shape does (effect does args held)
effect_shape (allocates is_zero) (Whole (pos size) ∷ []) held = allocation_shape is_zero size held
effect_shape (allocates is_zero) (Whole (pos count) ∷ Whole (pos size) ∷ []) held = allocation_shape is_zero (count * size) held
effect_shape frees (value ∷ []) held = freeing_shape value held
effect_shape (copies may_overlap) (to ∷ from ∷ Whole (pos count) ∷ []) held = copying_shape (copies may_overlap) may_overlap to from count held
effect_shape fills (to ∷ Whole byte ∷ Whole (pos count) ∷ []) held = filling_shape fills to byte count held
effect_shape exits (Whole status ∷ []) held = tt
effect_shape aborts [] held = tt
effect_shape does args held = tt

-- ---- only `malloc` gives a block whose bytes aren't set

abbrev Each : {A : Type 0} → (A → Type 0) → List A → Type 0
Each P [] = Unit {0}
Each P (one ∷ others) = P one × Each P others

-- what a name finds that is no `malloc`
abbrev Unset : List ℕ → KnownFunction → Type 0
Unset name row = bytes_eq name row.name ≡ true → row.does ≡ allocates false → bytes_eq name (codes "malloc") ≡ true

all_unset : (name : List ℕ) → Each (Unset name) known_table
unfolding known_table
all_unset name = (λ is does. is, (λ is does. cc (does), (λ is does. cc (does), (λ is does. cc (does), (λ is does. cc (does), (λ is does. cc (does), (λ is does. cc (does), (λ is does. cc (does), tt))))))))

found_first : {A : Type 0} (P : A → Type 0) (test : A → Bool) (first one : A) (others : List A) (is : Bool) → test first ≡ is → (if is then Some first else find test others) ≡ Some one → P first → (find test others ≡ Some one → P one × (test one ≡ true)) → P one × (test one ≡ true)
found_first {A = A} P test first one others true e found here rest = let same : first ≡ one = cc (found) in (subst P same here, subst (λ (a : A). test a ≡ true) same e)
found_first P test first one others false e found here rest = rest found

found_passes : {A : Type 0} (P : A → Type 0) (test : A → Bool) (list : List A) (one : A) → find test list ≡ Some one → Each P list → P one × (test one ≡ true)
found_passes P test [] one e all = cc (e)
found_passes P test (first ∷ others) one e all = found_first P test first one others (test first) refl e all.0 (λ found. found_passes P test others one found all.1)

pub unset_malloc : (name : List ℕ) (row : KnownFunction) → known_named name ≡ Some row → row.does ≡ allocates false → bytes_eq name (codes "malloc") ≡ true
unset_malloc name row e does =
    let found = found_passes (Unset name) (λ (one : KnownFunction). bytes_eq name one.name) known_table row e (all_unset name) in
    found.0 found.1 does
