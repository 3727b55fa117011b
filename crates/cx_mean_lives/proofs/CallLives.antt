-- A call of a function that no unit defines leaves each object alive that was made before, but for those that may be freed.
use Rattle.std.proofs.Common.{◌≡◌, ℕ, zero, suc, ◌*◌, ◌==◌, Bool, true, false, ◌&&◌, not, nat_le, if◌then◌else◌, ℤ, pos, List, [], ◌∷◌, length, Option, Some, None, Result, Ok, Err, refl, sym, subst, arith}
use Rattle.std.proofs.lemmas.Bool.{and_parts}
use Rattle.cr_base.specs.declared.refusal.Place.{Place}
use Rattle.cr_base.specs.declared.scalar.Scalar.{Scalar}
use Rattle.cr_base.specs.Layout.{most_bytes}
use Rattle.cr_base.specs.Scalar.{residue}
use Rattle.cr_world.specs.Held.{Held, overlapping, not_allocated, is_listed, without_allocated}
use Rattle.cr_world.specs.Known.{Known, allocates, frees, copies, fills, exits, aborts, KnownFunction, known_named, Effect, gives, gives_nothing, ends_program, wants_block, fails, allocation, accessed_as, bytes_overlap, unless_overlapping, null_beside, copied, copying, filling, freeing, effect}
use Rattle.cr_world.specs.World.{World, Terms, open_ended, trail_of, blocks_of, astray, answer_at_end, answer_from, is_given, is_refused_by, is_of_store, after_allocation, granted_on}
use Rattle.cx_core.specs.Trees.{COuter}
use Rattle.cx_mean.specs.Calls.{CCalled, returns_value, ends_with, COutcome, wrong_at, values_of, arguments, with_answer, with_block, by_effect, call_by_table, external_call}
use Rattle.cx_mean.specs.Operands.{CWhy}
use Rattle.cx_mean.specs.Settings.{CSetting, scalar_in_type}
use Rattle.ext_calls.specs.declared.call.Arg.{Arg}
use Rattle.ext_calls.specs.declared.call.Call.{Call}
use Rattle.mem_bytes.proofs.Written.{copy_writes, fill_writes}
use Rattle.mem_bytes.specs.Access.{and_then, after_copy, after_fill}
use Rattle.mem_bytes.specs.declared.fault.Fault.{Fault}
use Rattle.mem_bytes.specs.declared.value.Ptr.{Ptr}
use Rattle.mem_bytes.specs.declared.value.Value.{Value}
use Rattle.mem_bytes.specs.declared.value.Value.TheVariants.{Whole, Null, Object, Code}
use Rattle.mem_bytes.specs.Memory.{Block, Blocks, live_block}
use Rattle.cx_mean_lives.proofs.HeldLives.{lives_same, lives_sized, lives_allocated, lives_freed}
use Rattle.cx_mean_lives.proofs.Sizes.{sizes_written}
use Rattle.cx_mean_lives.specs.Laws.{SameSizes, LivesOn}

-- what lives on of all that a program holds
abbrev pub Lives : Held → Held → Type 0
Lives before after = LivesOn (length before.blocks) before after

-- ---- what a known function does

abbrev EffectLives : Held → Effect → Type 0
EffectLives before (gives value after) = Lives before after
EffectLives before (gives_nothing after) = Lives before after
EffectLives before (ends_program status) = Unit {0}
EffectLives before (wants_block is_zero size) = Unit {0}
EffectLives before (fails fault) = Unit {0}

accessed_lives : (value : Value) (before : Held) (outcome : Result Blocks Fault) → ((after : Blocks) → outcome ≡ Ok after → SameSizes before.blocks after) → EffectLives before (accessed_as value before outcome)
accessed_lives value before (Ok after) all = lives_sized (length before.blocks) before after (all after refl)
accessed_lives value before (Err fault) all = tt

overlap_lives : (before : Held) (may_overlap : Bool) (to from : Ptr) (count : ℕ) (one : Effect) → EffectLives before one → EffectLives before (unless_overlapping may_overlap to from count one)
overlap_lives before true to from count one lives = lives
overlap_lives before false to from count (gives value held) lives = from_test (bytes_overlap to from count)
  where
    from_test : (overlaps : Bool) → EffectLives before (if overlaps then fails overlapping else gives value held)
    from_test true = tt
    from_test false = lives
overlap_lives before false to from count one lives = lives

beside_lives : (before : Held) (slot : Option Block) → EffectLives before (null_beside slot)
beside_lives before None = tt
beside_lives before (Some block) = tt

copied_lives : (may_overlap : Bool) (to from : Value) (n : ℕ) (before : Held) → EffectLives before (copied may_overlap to from (suc n) before)
copied_lives may_overlap (Object to) (Object from) n before =
    overlap_lives before may_overlap to from (suc n) _
    (accessed_lives (Object to) before (after_copy before.blocks from to (suc n)) (λ after ended.
    sizes_written before.blocks after to (suc n) (copy_writes before.blocks after from to (suc n) (omega arith) ended)))
copied_lives may_overlap (Object to) Null n before = beside_lives before (live_block before.blocks to.block)
copied_lives may_overlap Null (Object from) n before = beside_lives before (live_block before.blocks from.block)
copied_lives may_overlap Null Null n before = tt
copied_lives may_overlap to from n before = tt

copying_lives : (may_overlap : Bool) (to from : Value) (count : ℕ) (before : Held) → EffectLives before (copying may_overlap to from count before)
copying_lives may_overlap to from zero before = lives_same (length before.blocks) before
copying_lives may_overlap to from (suc n) before = copied_lives may_overlap to from n before

filling_lives : (to : Value) (byte : ℤ) (count : ℕ) (before : Held) → EffectLives before (filling to byte count before)
filling_lives (Object at) byte count before =
    accessed_lives (Object at) before (after_fill before.blocks at (residue byte 256) count) (λ after ended.
    sizes_written before.blocks after at count (fill_writes before.blocks after at (residue byte 256) count ended))
filling_lives Null byte count before = tt
filling_lives (Whole number) byte count before = tt
filling_lives (Code number) byte count before = tt

freeing_lives : (value : Value) (before : Held) → EffectLives before (freeing value before)
freeing_lives (Object at) before = from_test (at.offset == 0 && is_listed at.block before.heap) refl
  where
    from_test : (is : Bool) → (at.offset == 0 && is_listed at.block before.heap) ≡ is → EffectLives before (if is then gives_nothing (without_allocated at.block before) else fails not_allocated)
    from_test true e = lives_freed (length before.blocks) before at.block (and_parts (at.offset == 0) (is_listed at.block before.heap) e).1
    from_test false e = tt
freeing_lives Null before = lives_same (length before.blocks) before
freeing_lives (Whole number) before = tt
freeing_lives (Code number) before = tt

allocation_lives : (is_zero : Bool) (size : ℕ) (before : Held) → EffectLives before (allocation is_zero size before)
allocation_lives is_zero size before = from_test (nat_le size most_bytes)
  where
    from_test : (fits : Bool) → EffectLives before (if fits then wants_block is_zero size else gives Null before)
    from_test true = tt
    from_test false = lives_same (length before.blocks) before

effect_lives : (does : Known) (args : List Value) (before : Held) → EffectLives before (effect does args before)
effect_lives (allocates is_zero) (Whole (pos size) ∷ []) before = allocation_lives is_zero size before
effect_lives (allocates is_zero) (Whole (pos count) ∷ Whole (pos size) ∷ []) before = allocation_lives is_zero (count * size) before
effect_lives frees (value ∷ []) before = freeing_lives value before
effect_lives (copies may_overlap) (to ∷ from ∷ Whole (pos count) ∷ []) before = copying_lives may_overlap to from count before
effect_lives fills (to ∷ Whole byte ∷ Whole (pos count) ∷ []) before = filling_lives to byte count before
effect_lives exits (Whole status ∷ []) before = tt
effect_lives aborts [] before = tt
effect_lives does args before = tt

-- ---- what a call leaves

abbrev pub OutcomeLives : World → COutcome → Type 0
OutcomeLives before (Ok (returns_value value after)) = Lives before.held after.held
OutcomeLives before (Ok (ends_with status after)) = Unit {0}
OutcomeLives before (Err stop) = Unit {0}

given_lives : (world : World) (given is_zero : Bool) (size : ℕ) (left : List ℤ) → OutcomeLives world (with_block (after_allocation given is_zero size left world))
given_lives world true is_zero size left = lives_allocated (length world.held.blocks) is_zero size world.held (omega arith)
given_lives world false is_zero size left = lives_same (length world.held.blocks) world.held

store_lives : (world : World) (is_zero : Bool) (size : ℕ) (left : List ℤ) (refused test : Bool) → OutcomeLives world (with_block (if test then after_allocation (not refused) is_zero size left world else Err astray))
store_lives world is_zero size left refused true = given_lives world (not refused) is_zero size left
store_lives world is_zero size left refused false = tt

granted_lives : (world : World) (is_zero : Bool) (size : ℕ) (terms : Terms) (answers : List ℤ) → OutcomeLives world (with_block (granted_on terms answers is_zero size world))
granted_lives world is_zero size open_ended [] = given_lives world true is_zero size []
granted_lives world is_zero size open_ended (answer ∷ left) = given_lives world (is_given answer) is_zero size left
granted_lives world is_zero size (trail_of limit) [] = tt
granted_lives world is_zero size (trail_of limit) (answer ∷ left) =
    store_lives world is_zero size left (is_refused_by limit world.held.blocks size) (is_of_store (is_refused_by limit world.held.blocks size) answer)

by_lives : (place : Place) (world : World) (one : Effect) → EffectLives world.held one → OutcomeLives world (by_effect place world one)
by_lives place world (gives value held) lives = lives
by_lives place world (gives_nothing held) lives = lives
by_lives place world (ends_program status) lives = tt
by_lives place world (wants_block is_zero size) lives = granted_lives world is_zero size world.terms world.answers
by_lives place world (fails fault) lives = tt

known_lives : (place : Place) (world : World) (does : Known) (args : Result (List Value) CWhy) → OutcomeLives world (and_then (wrong_at place args) (λ all. by_effect place world (effect does all world.held)))
known_lives place world does (Ok args) = by_lives place world (effect does args world.held) (effect_lives does args world.held)
known_lives place world does (Err why) = tt

answer_lives : (world : World) (kind : Option Scalar) (call : Call) (terms : Terms) (answers : List ℤ) → world.terms ≡ terms → OutcomeLives world (with_answer kind (answer_from answers call world))
answer_lives world kind call open_ended [] e = subst (λ terms. OutcomeLives world (with_answer kind (answer_at_end terms call world))) (sym e) (lives_same (length world.held.blocks) world.held)
answer_lives world kind call (trail_of limit) [] e = subst (λ terms. OutcomeLives world (with_answer kind (answer_at_end terms call world))) (sym e) tt
answer_lives world kind call terms (answer ∷ left) e = lives_same (length world.held.blocks) world.held

opaque_lives : (place : Place) (world : World) (kind : Option Scalar) (name : List ℕ) (args : Result (List Arg) CWhy)
    → OutcomeLives world (and_then (wrong_at place args) (λ all. with_answer kind (answer_from world.answers (record { name = name; args = all }) world)))
opaque_lives place world kind name (Ok args) = answer_lives world kind (record { name = name; args = args }) world.terms world.answers refl
opaque_lives place world kind name (Err why) = tt

table_lives : (setting : CSetting) (called : CCalled) (callee : COuter) (world : World) (found : Option KnownFunction) → OutcomeLives world (call_by_table setting called callee world found)
table_lives setting called callee world (Some known) = known_lives called.place world known.does (values_of called.args)
table_lives setting called callee world None = opaque_lives called.place world (scalar_in_type setting called.type) callee.name (arguments setting (blocks_of world) called.args)

pub outside_lives : (setting : CSetting) (called : CCalled) (callee : COuter) (world : World) → OutcomeLives world (external_call setting called callee world)
outside_lives setting called callee world = table_lives setting called callee world (known_named callee.name)
