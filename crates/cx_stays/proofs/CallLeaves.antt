-- A call of a function that no unit defines leaves no dead block alive, each that lives on as large as it was, and cells of a machine.
use Rattle.std.proofs.Common.{◌≡◌, ℕ, zero, suc, ◌*◌, ◌==◌, Bool, true, false, ◌&&◌, not, nat_le, if◌then◌else◌, ℤ, pos, List, [], ◌∷◌, Option, Some, None, Result, Ok, Err, refl, sym, subst, arith}
use Rattle.cr_base.specs.declared.refusal.Place.{Place}
use Rattle.cr_base.specs.declared.scalar.Scalar.{Scalar}
use Rattle.cr_base.specs.Layout.{most_bytes}
use Rattle.cr_base.specs.Scalar.{residue}
use Rattle.cr_world.specs.Held.{Held, overlapping, not_allocated, heap_align, is_listed, without_allocated}
use Rattle.cr_world.specs.Known.{Known, allocates, frees, copies, fills, exits, aborts, KnownFunction, known_named, Effect, gives, gives_nothing, ends_program, wants_block, fails, allocation, accessed_as, bytes_overlap, unless_overlapping, null_beside, copied, copying, filling, freeing, effect}
use Rattle.cr_world.specs.World.{World, Terms, open_ended, trail_of, blocks_of, astray, answer_at_end, answer_from, is_given, is_refused_by, is_of_store, after_allocation, granted_on}
use Rattle.cx_core.specs.Trees.{COuter}
use Rattle.cx_mean.proofs.KeptNodes.{IsHeldValue}
use Rattle.cx_mean.specs.Calls.{CCalled, answer_as, returns_value, ends_with, COutcome, wrong_at, values_of, arguments, with_answer, with_block, by_effect, call_by_table, external_call}
use Rattle.cx_mean.specs.Operands.{CWhy}
use Rattle.cx_mean.specs.Settings.{CSetting, scalar_in_type}
use Rattle.ext_calls.specs.declared.call.Arg.{Arg}
use Rattle.ext_calls.specs.declared.call.Call.{Call}
use Rattle.mem_bytes.specs.Access.{and_then, after_copy, after_fill}
use Rattle.mem_bytes.specs.declared.fault.Fault.{Fault}
use Rattle.mem_bytes.specs.declared.value.Ptr.{Ptr}
use Rattle.mem_bytes.specs.declared.value.Value.{Value}
use Rattle.mem_bytes.specs.declared.value.Value.TheVariants.{Whole, Null, Object, Code}
use Rattle.mem_bytes.specs.Memory.{Block, Blocks, live_block}
use Rattle.cx_stays.proofs.Leaves.{Leaves, leaves_same, leaves_killed, leaves_made, leaves_copied, leaves_filled}

-- ---- what a known function does

abbrev EffectLeaves : Held → Effect → Type 0
EffectLeaves before (gives value after) = Leaves before.blocks after.blocks
EffectLeaves before (gives_nothing after) = Leaves before.blocks after.blocks
EffectLeaves before (ends_program status) = Unit {0}
EffectLeaves before (wants_block is_zero size) = Unit {0}
EffectLeaves before (fails fault) = Unit {0}

accessed_leaves : (value : Value) (before : Held) (outcome : Result Blocks Fault) → ((after : Blocks) → outcome ≡ Ok after → Leaves before.blocks after) → EffectLeaves before (accessed_as value before outcome)
accessed_leaves value before (Ok after) all = all after refl
accessed_leaves value before (Err fault) all = tt

overlap_leaves : (before : Held) (may_overlap : Bool) (to from : Ptr) (count : ℕ) (one : Effect) → EffectLeaves before one → EffectLeaves before (unless_overlapping may_overlap to from count one)
overlap_leaves before true to from count one leaves = leaves
overlap_leaves before false to from count (gives value held) leaves = from_test (bytes_overlap to from count)
  where
    from_test : (overlaps : Bool) → EffectLeaves before (if overlaps then fails overlapping else gives value held)
    from_test true = tt
    from_test false = leaves
overlap_leaves before false to from count one leaves = leaves

beside_leaves : (before : Held) (slot : Option Block) → EffectLeaves before (null_beside slot)
beside_leaves before None = tt
beside_leaves before (Some block) = tt

copied_leaves : (may_overlap : Bool) (to from : Value) (n : ℕ) (before : Held) → EffectLeaves before (copied may_overlap to from (suc n) before)
copied_leaves may_overlap (Object to) (Object from) n before =
    overlap_leaves before may_overlap to from (suc n) _
    (accessed_leaves (Object to) before (after_copy before.blocks from to (suc n)) (λ after ended. leaves_copied before.blocks after from to (suc n) (omega arith) ended))
copied_leaves may_overlap (Object to) Null n before = beside_leaves before (live_block before.blocks to.block)
copied_leaves may_overlap Null (Object from) n before = beside_leaves before (live_block before.blocks from.block)
copied_leaves may_overlap Null Null n before = tt
copied_leaves may_overlap to from n before = tt

copying_leaves : (may_overlap : Bool) (to from : Value) (count : ℕ) (before : Held) → EffectLeaves before (copying may_overlap to from count before)
copying_leaves may_overlap to from zero before = leaves_same before.blocks
copying_leaves may_overlap to from (suc n) before = copied_leaves may_overlap to from n before

filling_leaves : (to : Value) (byte : ℤ) (count : ℕ) (before : Held) → EffectLeaves before (filling to byte count before)
filling_leaves (Object at) byte count before =
    accessed_leaves (Object at) before (after_fill before.blocks at (residue byte 256) count) (λ after ended. leaves_filled before.blocks after at byte count ended)
filling_leaves Null byte count before = tt
filling_leaves (Whole number) byte count before = tt
filling_leaves (Code number) byte count before = tt

freeing_leaves : (value : Value) (before : Held) → EffectLeaves before (freeing value before)
freeing_leaves (Object at) before = from_test (at.offset == 0 && is_listed at.block before.heap)
  where
    from_test : (is : Bool) → EffectLeaves before (if is then gives_nothing (without_allocated at.block before) else fails not_allocated)
    from_test true = leaves_killed before.blocks at.block
    from_test false = tt
freeing_leaves Null before = leaves_same before.blocks
freeing_leaves (Whole number) before = tt
freeing_leaves (Code number) before = tt

allocation_leaves : (is_zero : Bool) (size : ℕ) (before : Held) → EffectLeaves before (allocation is_zero size before)
allocation_leaves is_zero size before = from_test (nat_le size most_bytes)
  where
    from_test : (fits : Bool) → EffectLeaves before (if fits then wants_block is_zero size else gives Null before)
    from_test true = tt
    from_test false = leaves_same before.blocks

effect_leaves : (does : Known) (args : List Value) (before : Held) → EffectLeaves before (effect does args before)
effect_leaves (allocates is_zero) (Whole (pos size) ∷ []) before = allocation_leaves is_zero size before
effect_leaves (allocates is_zero) (Whole (pos count) ∷ Whole (pos size) ∷ []) before = allocation_leaves is_zero (count * size) before
effect_leaves frees (value ∷ []) before = freeing_leaves value before
effect_leaves (copies may_overlap) (to ∷ from ∷ Whole (pos count) ∷ []) before = copying_leaves may_overlap to from count before
effect_leaves fills (to ∷ Whole byte ∷ Whole (pos count) ∷ []) before = filling_leaves to byte count before
effect_leaves exits (Whole status ∷ []) before = tt
effect_leaves aborts [] before = tt
effect_leaves does args before = tt

-- ---- what a call leaves

abbrev pub OutcomeLeaves : World → COutcome → Type 0
OutcomeLeaves before (Ok (returns_value value after)) = IsHeldValue value × Leaves (blocks_of before) (blocks_of after)
OutcomeLeaves before (Ok (ends_with status after)) = Leaves (blocks_of before) (blocks_of after)
OutcomeLeaves before (Err stop) = Unit {0}

given_leaves : (world : World) (given is_zero : Bool) (size : ℕ) (left : List ℤ) → OutcomeLeaves world (with_block (after_allocation given is_zero size left world))
given_leaves world true is_zero size left = (tt, leaves_made (blocks_of world) is_zero size heap_align)
given_leaves world false is_zero size left = (tt, leaves_same (blocks_of world))

store_leaves : (world : World) (is_zero : Bool) (size : ℕ) (left : List ℤ) (refused test : Bool) → OutcomeLeaves world (with_block (if test then after_allocation (not refused) is_zero size left world else Err astray))
store_leaves world is_zero size left refused true = given_leaves world (not refused) is_zero size left
store_leaves world is_zero size left refused false = tt

granted_leaves : (world : World) (is_zero : Bool) (size : ℕ) (terms : Terms) (answers : List ℤ) → OutcomeLeaves world (with_block (granted_on terms answers is_zero size world))
granted_leaves world is_zero size open_ended [] = given_leaves world true is_zero size []
granted_leaves world is_zero size open_ended (answer ∷ left) = given_leaves world (is_given answer) is_zero size left
granted_leaves world is_zero size (trail_of limit) [] = tt
granted_leaves world is_zero size (trail_of limit) (answer ∷ left) =
    store_leaves world is_zero size left (is_refused_by limit world.held.blocks size) (is_of_store (is_refused_by limit world.held.blocks size) answer)

by_leaves : (place : Place) (world : World) (one : Effect) → EffectLeaves world.held one → OutcomeLeaves world (by_effect place world one)
by_leaves place world (gives value held) leaves = (tt, leaves)
by_leaves place world (gives_nothing held) leaves = (tt, leaves)
by_leaves place world (ends_program status) leaves = leaves_same (blocks_of world)
by_leaves place world (wants_block is_zero size) leaves = granted_leaves world is_zero size world.terms world.answers
by_leaves place world (fails fault) leaves = tt

known_leaves : (place : Place) (world : World) (does : Known) (args : Result (List Value) CWhy) → OutcomeLeaves world (and_then (wrong_at place args) (λ all. by_effect place world (effect does all world.held)))
known_leaves place world does (Ok args) = by_leaves place world (effect does args world.held) (effect_leaves does args world.held)
known_leaves place world does (Err why) = tt

pub answer_held : (kind : Option Scalar) (answer : ℤ) → IsHeldValue (answer_as kind answer)
answer_held None answer = tt
answer_held (Some kind) answer = tt

answer_leaves : (world : World) (kind : Option Scalar) (call : Call) (terms : Terms) (answers : List ℤ) → world.terms ≡ terms → OutcomeLeaves world (with_answer kind (answer_from answers call world))
answer_leaves world kind call open_ended [] e = subst (λ terms. OutcomeLeaves world (with_answer kind (answer_at_end terms call world))) (sym e) (answer_held kind (pos 0), leaves_same (blocks_of world))
answer_leaves world kind call (trail_of limit) [] e = subst (λ terms. OutcomeLeaves world (with_answer kind (answer_at_end terms call world))) (sym e) tt
answer_leaves world kind call terms (answer ∷ left) e = (answer_held kind answer, leaves_same (blocks_of world))

opaque_leaves : (place : Place) (world : World) (kind : Option Scalar) (name : List ℕ) (args : Result (List Arg) CWhy)
    → OutcomeLeaves world (and_then (wrong_at place args) (λ all. with_answer kind (answer_from world.answers (record { name = name; args = all }) world)))
opaque_leaves place world kind name (Ok args) = answer_leaves world kind (record { name = name; args = args }) world.terms world.answers refl
opaque_leaves place world kind name (Err why) = tt

table_leaves : (setting : CSetting) (called : CCalled) (callee : COuter) (world : World) (found : Option KnownFunction) → OutcomeLeaves world (call_by_table setting called callee world found)
table_leaves setting called callee world (Some known) = known_leaves called.place world known.does (values_of called.args)
table_leaves setting called callee world None = opaque_leaves called.place world (scalar_in_type setting called.type) callee.name (arguments setting (blocks_of world) called.args)

pub outside_leaves : (setting : CSetting) (called : CCalled) (callee : COuter) (world : World) → OutcomeLeaves world (external_call setting called callee world)
outside_leaves setting called callee world = table_leaves setting called callee world (known_named callee.name)
