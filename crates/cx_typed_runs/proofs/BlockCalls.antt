-- What a call of a function that no unit defines does to blocks (ISO C99, 7.20.3, 7.21): an allocation makes one, no larger than the largest
-- object of the profile and aligned for every type; `free` lets one die; the others write cells, or change nothing.
use Rattle.std.proofs.Common.{◌≡◌, ℕ, zero, suc, ◌*◌, ◌≤◌, Bool, true, false, not, ◌&&◌, ◌==◌, nat_le, if◌then◌else◌, ℤ, pos, List, [], ◌∷◌, Option, Some, None, Result, Ok, Err, refl, sym, subst, arith}
use Rattle.std.proofs.lemmas.Bool.{leb-true}
use Rattle.cr_base.specs.declared.refusal.Place.{Place}
use Rattle.cr_base.specs.declared.scalar.Scalar.{Scalar}
use Rattle.cr_base.specs.Layout.{most_bytes}
use Rattle.cr_base.specs.Scalar.{residue}
use Rattle.cr_world.specs.Held.{Held, fresh_block, heap_align, with_block as with_one, is_listed, without_allocated, not_allocated, overlapping}
use Rattle.cr_world.specs.Known.{Known, allocates, frees, copies, fills, exits, aborts, KnownFunction, known_named, Effect, gives, gives_nothing, ends_program, wants_block, fails, allocation, accessed_as, bytes_overlap, unless_overlapping, null_beside, copied, copying, filling, freeing, effect}
use Rattle.cr_world.specs.World.{Terms, open_ended, trail_of, astray, World, blocks_of, answer_at_end, answer_from, after_allocation, is_refused_by, is_of_store, is_given, granted_on}
use Rattle.cx_core.specs.Trees.{COuter}
use Rattle.cx_mean.specs.Calls.{CCalled, returns_value, ends_with, COutcome, wrong_at, values_of, arguments, with_answer, with_block, by_effect, call_by_table, external_call}
use Rattle.cx_mean.specs.Operands.{CWhy}
use Rattle.cx_mean.specs.Settings.{CSetting, scalar_in_type}
use Rattle.ext_calls.specs.declared.call.Arg.{Arg}
use Rattle.ext_calls.specs.declared.call.Call.{Call}
use Rattle.mem_bytes.proofs.Written.{copy_writes, fill_writes}
use Rattle.mem_bytes.specs.Access.{and_then, after_copy, after_fill}
use Rattle.mem_bytes.specs.declared.fault.Fault.{Fault}
use Rattle.mem_bytes.specs.declared.value.Ptr.{Ptr}
use Rattle.mem_bytes.specs.declared.value.Value.{Value}
use Rattle.mem_bytes.specs.declared.value.Value.TheVariants.{Whole, Null, Object, Code}
use Rattle.mem_bytes.specs.Memory.{Block, Blocks, live_block}
use Rattle.cx_typed_runs.proofs.BlockChanges.{IsKept, written}

-- ---- what a known function does

-- what is said of the memory that it leaves; an allocation wants a block that isn't too large
abbrev pub EffectKept : (Blocks → Type 0) → Effect → Type 0
EffectKept P (gives value after) = P after.blocks
EffectKept P (gives_nothing after) = P after.blocks
EffectKept P (ends_program status) = Unit {0}
EffectKept P (wants_block is_zero size) = size ≤ most_bytes
EffectKept P (fails fault) = Unit {0}

module _ (P : Blocks → Type 0) (kept : IsKept P) (before : Held) (p : P before.blocks) where
  accessed_kept : (value : Value) (outcome : Result Blocks Fault) → ((after : Blocks) → outcome ≡ Ok after → P after) → EffectKept P (accessed_as value before outcome)
  accessed_kept value (Ok after) all = all after refl
  accessed_kept value (Err fault) all = tt

  overlap_kept : (may_overlap : Bool) (to from : Ptr) (count : ℕ) (one : Effect) → EffectKept P one → EffectKept P (unless_overlapping may_overlap to from count one)
  overlap_kept true to from count one is = is
  overlap_kept false to from count (gives value held) is = from_test (bytes_overlap to from count)
    where
      from_test : (overlaps : Bool) → EffectKept P (if overlaps then fails overlapping else gives value held)
      from_test true = tt
      from_test false = is
  overlap_kept false to from count one is = is

  beside_kept : (slot : Option Block) → EffectKept P (null_beside slot)
  beside_kept None = tt
  beside_kept (Some block) = tt

  copied_kept : (may_overlap : Bool) (to from : Value) (n : ℕ) → EffectKept P (copied may_overlap to from (suc n) before)
  copied_kept may_overlap (Object to) (Object from) n =
      overlap_kept may_overlap to from (suc n) _
      (accessed_kept (Object to) (after_copy before.blocks from to (suc n))
      (λ after ended. written P kept before.blocks after to (suc n) (copy_writes before.blocks after from to (suc n) (omega arith) ended) p))
  copied_kept may_overlap (Object to) Null n = beside_kept (live_block before.blocks to.block)
  copied_kept may_overlap Null (Object from) n = beside_kept (live_block before.blocks from.block)
  copied_kept may_overlap Null Null n = tt
  copied_kept may_overlap to from n = tt

  copying_kept : (may_overlap : Bool) (to from : Value) (count : ℕ) → EffectKept P (copying may_overlap to from count before)
  copying_kept may_overlap to from zero = p
  copying_kept may_overlap to from (suc n) = copied_kept may_overlap to from n

  filling_kept : (to : Value) (byte : ℤ) (count : ℕ) → EffectKept P (filling to byte count before)
  filling_kept (Object at) byte count =
      accessed_kept (Object at) (after_fill before.blocks at (residue byte 256) count)
      (λ after ended. written P kept before.blocks after at count (fill_writes before.blocks after at (residue byte 256) count ended) p)
  filling_kept Null byte count = tt
  filling_kept (Whole number) byte count = tt
  filling_kept (Code number) byte count = tt

  freeing_kept : (value : Value) → EffectKept P (freeing value before)
  freeing_kept (Object at) = from_test (at.offset == 0 && is_listed at.block before.heap)
    where
      from_test : (is : Bool) → EffectKept P (if is then gives_nothing (without_allocated at.block before) else fails not_allocated)
      from_test true = kept.dies before.blocks at.block p
      from_test false = tt
  freeing_kept Null = p
  freeing_kept (Whole number) = tt
  freeing_kept (Code number) = tt

  allocation_kept : (is_zero : Bool) (size : ℕ) → EffectKept P (allocation is_zero size before)
  allocation_kept is_zero size = from_test (nat_le size most_bytes) refl
    where
      from_test : (fits : Bool) → nat_le size most_bytes ≡ fits → EffectKept P (if fits then wants_block is_zero size else gives Null before)
      from_test true e = leb-true size most_bytes e
      from_test false e = p

  pub effect_kept : (does : Known) (args : List Value) → EffectKept P (effect does args before)
  effect_kept (allocates is_zero) (Whole (pos size) ∷ []) = allocation_kept is_zero size
  effect_kept (allocates is_zero) (Whole (pos count) ∷ Whole (pos size) ∷ []) = allocation_kept is_zero (count * size)
  effect_kept frees (value ∷ []) = freeing_kept value
  effect_kept (copies may_overlap) (to ∷ from ∷ Whole (pos count) ∷ []) = copying_kept may_overlap to from count
  effect_kept fills (to ∷ Whole byte ∷ Whole (pos count) ∷ []) = filling_kept to byte count
  effect_kept exits (Whole status ∷ []) = tt
  effect_kept aborts [] = tt
  effect_kept does args = tt

-- ---- what a call leaves

abbrev pub OutcomeGrown : (Blocks → Type 0) → COutcome → Type 0
OutcomeGrown Q (Ok (returns_value value after)) = Q (blocks_of after)
OutcomeGrown Q (Ok (ends_with status after)) = Q (blocks_of after)
OutcomeGrown Q (Err stop) = Unit {0}

-- what is said of a memory, and what is said of it with one more block that an allocation gave
module _ (P Q : Blocks → Type 0) (kept : IsKept P) (same : (blocks : Blocks) → P blocks → Q blocks)
    (grows : (blocks : Blocks) (is_zero : Bool) (size : ℕ) → size ≤ most_bytes → P blocks → Q (with_one (fresh_block is_zero size heap_align) blocks)) where
  given_grown : (world : World) (given is_zero : Bool) (size : ℕ) (left : List ℤ) → size ≤ most_bytes → P (blocks_of world) → OutcomeGrown Q (with_block (after_allocation given is_zero size left world))
  given_grown world true is_zero size left fits p = grows (blocks_of world) is_zero size fits p
  given_grown world false is_zero size left fits p = same (blocks_of world) p

  store_grown : (world : World) (is_zero : Bool) (size : ℕ) (left : List ℤ) (refused test : Bool) → size ≤ most_bytes → P (blocks_of world)
      → OutcomeGrown Q (with_block (if test then after_allocation (not refused) is_zero size left world else Err astray))
  store_grown world is_zero size left refused true fits p = given_grown world (not refused) is_zero size left fits p
  store_grown world is_zero size left refused false fits p = tt

  granted_grown : (world : World) (is_zero : Bool) (size : ℕ) (terms : Terms) (answers : List ℤ) → size ≤ most_bytes → P (blocks_of world) → OutcomeGrown Q (with_block (granted_on terms answers is_zero size world))
  granted_grown world is_zero size open_ended [] fits p = given_grown world true is_zero size [] fits p
  granted_grown world is_zero size open_ended (answer ∷ left) fits p = given_grown world (is_given answer) is_zero size left fits p
  granted_grown world is_zero size (trail_of limit) [] fits p = tt
  granted_grown world is_zero size (trail_of limit) (answer ∷ left) fits p =
      store_grown world is_zero size left (is_refused_by limit world.held.blocks size) (is_of_store (is_refused_by limit world.held.blocks size) answer) fits p

  by_grown : (place : Place) (world : World) (one : Effect) → EffectKept P one → P (blocks_of world) → OutcomeGrown Q (by_effect place world one)
  by_grown place world (gives value held) is p = same held.blocks is
  by_grown place world (gives_nothing held) is p = same held.blocks is
  by_grown place world (ends_program status) is p = same (blocks_of world) p
  by_grown place world (wants_block is_zero size) is p = granted_grown world is_zero size world.terms world.answers is p
  by_grown place world (fails fault) is p = tt

  known_grown : (place : Place) (world : World) (does : Known) (args : Result (List Value) CWhy) → P (blocks_of world) → OutcomeGrown Q (and_then (wrong_at place args) (λ all. by_effect place world (effect does all world.held)))
  known_grown place world does (Ok args) p = by_grown place world (effect does args world.held) (effect_kept P kept world.held p does args) p
  known_grown place world does (Err why) p = tt

  answer_grown : (world : World) (kind : Option Scalar) (call : Call) (terms : Terms) (answers : List ℤ) → world.terms ≡ terms → P (blocks_of world) → OutcomeGrown Q (with_answer kind (answer_from answers call world))
  answer_grown world kind call open_ended [] e p = subst (λ terms. OutcomeGrown Q (with_answer kind (answer_at_end terms call world))) (sym e) (same (blocks_of world) p)
  answer_grown world kind call (trail_of limit) [] e p = subst (λ terms. OutcomeGrown Q (with_answer kind (answer_at_end terms call world))) (sym e) tt
  answer_grown world kind call terms (answer ∷ left) e p = same (blocks_of world) p

  opaque_grown : (place : Place) (world : World) (kind : Option Scalar) (name : List ℕ) (args : Result (List Arg) CWhy) → P (blocks_of world)
      → OutcomeGrown Q (and_then (wrong_at place args) (λ all. with_answer kind (answer_from world.answers (record { name = name; args = all }) world)))
  opaque_grown place world kind name (Ok args) p = answer_grown world kind (record { name = name; args = args }) world.terms world.answers refl p
  opaque_grown place world kind name (Err why) p = tt

  table_grown : (setting : CSetting) (called : CCalled) (callee : COuter) (world : World) (found : Option KnownFunction) → P (blocks_of world) → OutcomeGrown Q (call_by_table setting called callee world found)
  table_grown setting called callee world (Some known) p = known_grown called.place world known.does (values_of called.args) p
  table_grown setting called callee world None p = opaque_grown called.place world (scalar_in_type setting called.type) callee.name (arguments setting (blocks_of world) called.args) p

  pub outside_grown : (setting : CSetting) (called : CCalled) (callee : COuter) (world : World) → P (blocks_of world) → OutcomeGrown Q (external_call setting called callee world)
  outside_grown setting called callee world p = table_grown setting called callee world (known_named callee.name) p
