-- A call of a function that no unit defines under a set of blocks: it writes through its arguments alone, and what it makes is in the
-- set (ISO C99, 7.20.3, 7.20.4 and 7.21).
use Rattle.std.proofs.Common.{◌≡◌, ℕ, zero, suc, ◌*◌, ◌==◌, Bool, true, false, ◌&&◌, not, nat_le, if◌then◌else◌, ℤ, pos, List, [], ◌∷◌, length, Option, Some, None, Result, Ok, Err, refl, sym, subst, arith}
use Rattle.cr_base.specs.declared.refusal.Place.{Place}
use Rattle.cr_base.specs.declared.scalar.Scalar.{Scalar}
use Rattle.cr_base.specs.Layout.{most_bytes}
use Rattle.cr_base.specs.Scalar.{residue}
use Rattle.cr_world.specs.Held.{Held, overlapping, not_allocated, heap_align, is_listed, without_allocated}
use Rattle.cr_world.specs.Known.{Known, allocates, frees, copies, fills, exits, aborts, KnownFunction, known_named, Effect, gives, gives_nothing, ends_program, wants_block, fails, allocation, accessed_as, bytes_overlap, unless_overlapping, null_beside, copied, copying, filling, freeing, effect}
use Rattle.cr_world.specs.World.{World, Terms, open_ended, trail_of, blocks_of, astray, answer_at_end, answer_from, is_given, is_refused_by, is_of_store, after_allocation, granted_on}
use Rattle.cx_core.specs.Trees.{COuter}
use Rattle.cx_mean.proofs.KeptNodes.{IfGiven, given_and}
use Rattle.cx_mean.specs.Calls.{CCalled, answer_as, returns_value, ends_with, COutcome, wrong_at, values_of, arguments, with_answer, with_block, by_effect, call_by_table, external_call}
use Rattle.cx_mean.specs.Operands.{CWhy, COperand, scalar_value}
use Rattle.cx_mean.specs.Settings.{CSetting, scalar_in_type}
use Rattle.ext_calls.specs.declared.call.Arg.{Arg}
use Rattle.ext_calls.specs.declared.call.Call.{Call}
use Rattle.mem_bytes.specs.Access.{and_then, after_copy, after_fill}
use Rattle.mem_bytes.specs.declared.fault.Fault.{Fault}
use Rattle.mem_bytes.specs.declared.value.Ptr.{Ptr}
use Rattle.mem_bytes.specs.declared.value.Value.{Value}
use Rattle.mem_bytes.specs.declared.value.Value.TheVariants.{Whole, Null, Object, Code}
use Rattle.mem_bytes.specs.Memory.{Block, Blocks, live_block}
use Rattle.cx_stays.proofs.ReachMemory.{Left, left_same, left_killed, left_made, copy_left, fill_left}
use Rattle.cx_stays.proofs.ReachValues.{scalar_leads}
use Rattle.cx_stays.specs.Reach.{LeadsWithin, GivesWithin, AreOperandsWithin, IsClosedIn}

-- ---- what a known function does

-- what it gives leads within the set, and the blocks that the set leaves out are as they were
abbrev EffectWithin : (ℕ → Bool) → Held → Effect → Type 0
EffectWithin reached before (gives value after) = LeadsWithin reached value × Left reached before.blocks after.blocks
EffectWithin reached before (gives_nothing after) = Left reached before.blocks after.blocks
EffectWithin reached before (ends_program status) = Unit {0}
EffectWithin reached before (wants_block is_zero size) = Unit {0}
EffectWithin reached before (fails fault) = Unit {0}

abbrev AllLeadWithin : (ℕ → Bool) → List Value → Type 0
AllLeadWithin reached [] = Unit {0}
AllLeadWithin reached (first ∷ others) = LeadsWithin reached first × AllLeadWithin reached others

-- what a call gives, and the world after it
abbrev pub OutcomeWithin : (ℕ → Bool) → (ℕ → Type 0) → World → COutcome → Type 0
OutcomeWithin reached Named before (Ok (returns_value value after)) = GivesWithin reached Named value × Left reached (blocks_of before) (blocks_of after)
OutcomeWithin reached Named before (Ok (ends_with status after)) = Left reached (blocks_of before) (blocks_of after)
OutcomeWithin reached Named before (Err stop) = Unit {0}

module _ (reached : ℕ → Bool) where
  accessed_within : (value : Value) (before : Held) (outcome : Result Blocks Fault) → LeadsWithin reached value → IfGiven (Left reached before.blocks) outcome → EffectWithin reached before (accessed_as value before outcome)
  accessed_within value before (Ok after) leads left = (leads, left)
  accessed_within value before (Err fault) leads left = tt

  overlap_within : (before : Held) (may_overlap : Bool) (to from : Ptr) (count : ℕ) (one : Effect) → EffectWithin reached before one → EffectWithin reached before (unless_overlapping may_overlap to from count one)
  overlap_within before true to from count one is = is
  overlap_within before false to from count (gives value held) is = from_test (bytes_overlap to from count)
    where
      from_test : (overlaps : Bool) → EffectWithin reached before (if overlaps then fails overlapping else gives value held)
      from_test true = tt
      from_test false = is
  overlap_within before false to from count one is = is

  beside_within : (before : Held) (slot : Option Block) → EffectWithin reached before (null_beside slot)
  beside_within before None = tt
  beside_within before (Some block) = tt

  copied_within : (may_overlap : Bool) (to from : Value) (n : ℕ) (before : Held) → LeadsWithin reached to → LeadsWithin reached from → IsClosedIn reached before.blocks
      → EffectWithin reached before (copied may_overlap to from (suc n) before)
  copied_within may_overlap (Object to) (Object from) n before leads other closed =
      overlap_within before may_overlap to from (suc n) _
      (accessed_within (Object to) before (after_copy before.blocks from to (suc n)) leads (copy_left reached before.blocks from to (suc n) other leads closed))
  copied_within may_overlap (Object to) Null n before leads other closed = beside_within before (live_block before.blocks to.block)
  copied_within may_overlap Null (Object from) n before leads other closed = beside_within before (live_block before.blocks from.block)
  copied_within may_overlap Null Null n before leads other closed = tt
  copied_within may_overlap to from n before leads other closed = tt

  copying_within : (may_overlap : Bool) (to from : Value) (count : ℕ) (before : Held) → LeadsWithin reached to → LeadsWithin reached from → IsClosedIn reached before.blocks
      → EffectWithin reached before (copying may_overlap to from count before)
  copying_within may_overlap to from zero before leads other closed = (leads, left_same reached before.blocks closed)
  copying_within may_overlap to from (suc n) before leads other closed = copied_within may_overlap to from n before leads other closed

  filling_within : (to : Value) (byte : ℤ) (count : ℕ) (before : Held) → LeadsWithin reached to → IsClosedIn reached before.blocks → EffectWithin reached before (filling to byte count before)
  filling_within (Object at) byte count before leads closed =
      accessed_within (Object at) before (after_fill before.blocks at (residue byte 256) count) leads (fill_left reached before.blocks at (residue byte 256) count leads closed)
  filling_within Null byte count before leads closed = tt
  filling_within (Whole number) byte count before leads closed = tt
  filling_within (Code number) byte count before leads closed = tt

  freeing_within : (value : Value) (before : Held) → LeadsWithin reached value → IsClosedIn reached before.blocks → EffectWithin reached before (freeing value before)
  freeing_within (Object at) before leads closed = from_test (at.offset == 0 && is_listed at.block before.heap)
    where
      from_test : (is : Bool) → EffectWithin reached before (if is then gives_nothing (without_allocated at.block before) else fails not_allocated)
      from_test true = left_killed reached before.blocks at.block leads closed
      from_test false = tt
  freeing_within Null before leads closed = left_same reached before.blocks closed
  freeing_within (Whole number) before leads closed = tt
  freeing_within (Code number) before leads closed = tt

  allocation_within : (is_zero : Bool) (size : ℕ) (before : Held) → IsClosedIn reached before.blocks → EffectWithin reached before (allocation is_zero size before)
  allocation_within is_zero size before closed = from_test (nat_le size most_bytes)
    where
      from_test : (fits : Bool) → EffectWithin reached before (if fits then wants_block is_zero size else gives Null before)
      from_test true = tt
      from_test false = (tt, left_same reached before.blocks closed)

  effect_within : (does : Known) (args : List Value) (before : Held) → AllLeadWithin reached args → IsClosedIn reached before.blocks → EffectWithin reached before (effect does args before)
  effect_within (allocates is_zero) (Whole (pos size) ∷ []) before lead closed = allocation_within is_zero size before closed
  effect_within (allocates is_zero) (Whole (pos count) ∷ Whole (pos size) ∷ []) before lead closed = allocation_within is_zero (count * size) before closed
  effect_within frees (value ∷ []) before lead closed = freeing_within value before lead.0 closed
  effect_within (copies may_overlap) (to ∷ from ∷ Whole (pos count) ∷ []) before lead closed = copying_within may_overlap to from count before lead.0 lead.1.0 closed
  effect_within fills (to ∷ Whole byte ∷ Whole (pos count) ∷ []) before lead closed = filling_within to byte count before lead.0 closed
  effect_within exits (Whole status ∷ []) before lead closed = tt
  effect_within aborts [] before lead closed = tt
  effect_within does args before lead closed = tt

  module _ (Named : ℕ → Type 0) (world : World) (closed : IsClosedIn reached (blocks_of world)) where
    -- ---- what a call leaves

    given_within : (given is_zero : Bool) (size : ℕ) (left : List ℤ) → OutcomeWithin reached Named world (with_block (after_allocation given is_zero size left world))
    given_within true is_zero size left = (closed.unmade (length (blocks_of world)) (omega arith), left_made reached (blocks_of world) is_zero size heap_align closed)
    given_within false is_zero size left = (tt, left_same reached (blocks_of world) closed)

    store_within : (is_zero : Bool) (size : ℕ) (left : List ℤ) (refused test : Bool) → OutcomeWithin reached Named world (with_block (if test then after_allocation (not refused) is_zero size left world else Err astray))
    store_within is_zero size left refused true = given_within (not refused) is_zero size left
    store_within is_zero size left refused false = tt

    granted_within : (is_zero : Bool) (size : ℕ) (terms : Terms) (answers : List ℤ) → OutcomeWithin reached Named world (with_block (granted_on terms answers is_zero size world))
    granted_within is_zero size open_ended [] = given_within true is_zero size []
    granted_within is_zero size open_ended (answer ∷ left) = given_within (is_given answer) is_zero size left
    granted_within is_zero size (trail_of limit) [] = tt
    granted_within is_zero size (trail_of limit) (answer ∷ left) =
        store_within is_zero size left (is_refused_by limit world.held.blocks size) (is_of_store (is_refused_by limit world.held.blocks size) answer)

    by_within : (place : Place) (one : Effect) → EffectWithin reached world.held one → OutcomeWithin reached Named world (by_effect place world one)
    by_within place (gives value held) is = is
    by_within place (gives_nothing held) is = (tt, is)
    by_within place (ends_program status) is = left_same reached (blocks_of world) closed
    by_within place (wants_block is_zero size) is = granted_within is_zero size world.terms world.answers
    by_within place (fails fault) is = tt

    values_lead : (args : List COperand) → AreOperandsWithin reached Named args → IfGiven (AllLeadWithin reached) (values_of args)
    values_lead [] are = tt
    values_lead (first ∷ others) are =
        given_and (LeadsWithin reached) (AllLeadWithin reached) (scalar_value first.value) _ (scalar_leads reached Named first.value are.0) (λ value leads.
        given_and (AllLeadWithin reached) (AllLeadWithin reached) (values_of others) _ (values_lead others are.1) (λ rest lead. (leads, lead)))

    known_within : (place : Place) (does : Known) (args : Result (List Value) CWhy) → IfGiven (AllLeadWithin reached) args → OutcomeWithin reached Named world (and_then (wrong_at place args) (λ all. by_effect place world (effect does all world.held)))
    known_within place does (Ok args) lead = by_within place (effect does args world.held) (effect_within does args world.held lead closed)
    known_within place does (Err why) lead = tt

    answer_gives : (kind : Option Scalar) (answer : ℤ) → GivesWithin reached Named (answer_as kind answer)
    answer_gives None answer = tt
    answer_gives (Some kind) answer = tt

    answer_within : (kind : Option Scalar) (call : Call) (terms : Terms) (answers : List ℤ) → world.terms ≡ terms → OutcomeWithin reached Named world (with_answer kind (answer_from answers call world))
    answer_within kind call open_ended [] e = subst (λ terms. OutcomeWithin reached Named world (with_answer kind (answer_at_end terms call world))) (sym e) (answer_gives kind (pos 0), left_same reached (blocks_of world) closed)
    answer_within kind call (trail_of limit) [] e = subst (λ terms. OutcomeWithin reached Named world (with_answer kind (answer_at_end terms call world))) (sym e) tt
    answer_within kind call terms (answer ∷ left) e = (answer_gives kind answer, left_same reached (blocks_of world) closed)

    opaque_within : (place : Place) (kind : Option Scalar) (name : List ℕ) (args : Result (List Arg) CWhy)
        → OutcomeWithin reached Named world (and_then (wrong_at place args) (λ all. with_answer kind (answer_from world.answers (record { name = name; args = all }) world)))
    opaque_within place kind name (Ok args) = answer_within kind (record { name = name; args = args }) world.terms world.answers refl
    opaque_within place kind name (Err why) = tt

    table_within : (setting : CSetting) (called : CCalled) (callee : COuter) (found : Option KnownFunction) → AreOperandsWithin reached Named called.args → OutcomeWithin reached Named world (call_by_table setting called callee world found)
    table_within setting called callee (Some known) are = known_within called.place known.does (values_of called.args) (values_lead called.args are)
    table_within setting called callee None are = opaque_within called.place (scalar_in_type setting called.type) callee.name (arguments setting (blocks_of world) called.args)

    pub outside_within : (setting : CSetting) (called : CCalled) (callee : COuter) → AreOperandsWithin reached Named called.args → OutcomeWithin reached Named world (external_call setting called callee world)
    outside_within setting called callee are = table_within setting called callee (known_named callee.name) are
