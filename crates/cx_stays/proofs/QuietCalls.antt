-- A call of a quiet function changes no cell of a block that was made before (ISO C99, 6.5.2.2, 7.20.3 and 7.20.4).
use Rattle.std.proofs.Common.{◌≡◌, ℕ, ◌<◌, ◌*◌, Bool, true, false, not, nat_le, if◌then◌else◌, ℤ, pos, List, [], ◌∷◌, ◌++◌, length, Option, Some, None, Result, Ok, Err, refl, sym, subst}
use Rattle.cr_base.specs.declared.refusal.Place.{Place}
use Rattle.cr_base.specs.declared.scalar.Scalar.{Scalar}
use Rattle.cr_base.specs.Layout.{most_bytes}
use Rattle.cr_world.specs.Held.{Held, fresh_block, heap_align}
use Rattle.cr_world.specs.Known.{Known, allocates, frees, copies, fills, exits, aborts, KnownFunction, known_named, Effect, gives, gives_nothing, ends_program, wants_block, fails, allocation, effect}
use Rattle.cr_world.specs.World.{World, Terms, open_ended, trail_of, blocks_of, astray, answer_at_end, answer_from, is_given, is_refused_by, is_of_store, after_allocation, granted_on}
use Rattle.cx_core.specs.Trees.{COuter}
use Rattle.cx_mean.specs.Calls.{CCalled, returns_value, ends_with, COutcome, wrong_at, values_of, arguments, with_answer, with_block, by_effect, call_by_table, external_call}
use Rattle.cx_mean.specs.Operands.{CWhy}
use Rattle.cx_mean.specs.Settings.{CSetting, scalar_in_type}
use Rattle.ext_calls.specs.declared.call.Arg.{Arg}
use Rattle.ext_calls.specs.declared.call.Call.{Call}
use Rattle.mem_bytes.specs.Access.{and_then}
use Rattle.mem_bytes.specs.declared.value.Value.{Value}
use Rattle.mem_bytes.specs.declared.value.Value.TheVariants.{Whole, Null}
use Rattle.mem_bytes.specs.Memory.{Blocks, live_block}
use Rattle.cx_stays.proofs.Lives.{live_before}
use Rattle.cx_stays.specs.Stays.{is_quiet, is_quiet_if_known, is_quiet_external}

-- ---- a memory whose blocks are what they were, beside new ones

pub record Untouched (before after : Blocks) : Type 0 where
  pub same : (number : ℕ) → number < length before → live_block after number ≡ live_block before number

untouched : (memory : Blocks) → Untouched memory memory
untouched memory = record { same = λ number within. refl }

made : (memory : Blocks) (is_zero : Bool) (size align : ℕ) → Untouched memory (memory ++ Some (fresh_block is_zero size align) ∷ [])
made memory is_zero size align = record { same = λ number within. live_before memory (Some (fresh_block is_zero size align)) number within }

-- ---- what a quiet function does

abbrev QuietEffect : Held → Effect → Type 0
QuietEffect before (gives value after) = after ≡ before
QuietEffect before (gives_nothing after) = after ≡ before
QuietEffect before (ends_program status) = Unit {0}
QuietEffect before (wants_block is_zero size) = Unit {0}
QuietEffect before (fails fault) = Unit {0}

quiet_allocation : (is_zero : Bool) (size : ℕ) (before : Held) → QuietEffect before (allocation is_zero size before)
quiet_allocation is_zero size before = from_test (nat_le size most_bytes)
  where
    from_test : (fits : Bool) → QuietEffect before (if fits then wants_block is_zero size else gives Null before)
    from_test true = tt
    from_test false = refl

quiet_effect : (does : Known) (args : List Value) (before : Held) → is_quiet does ≡ true → QuietEffect before (effect does args before)
quiet_effect frees args before quiet = absurd (cc (quiet))
quiet_effect (copies may_overlap) args before quiet = absurd (cc (quiet))
quiet_effect fills args before quiet = absurd (cc (quiet))
quiet_effect (allocates is_zero) (Whole (pos size) ∷ []) before quiet = quiet_allocation is_zero size before
quiet_effect (allocates is_zero) (Whole (pos count) ∷ Whole (pos size) ∷ []) before quiet = quiet_allocation is_zero (count * size) before
quiet_effect exits (Whole status ∷ []) before quiet = tt
quiet_effect aborts [] before quiet = tt
quiet_effect does args before quiet = tt

-- ---- what a call leaves

abbrev pub QuietOutcome : World → COutcome → Type 0
QuietOutcome before (Ok (returns_value value after)) = Untouched (blocks_of before) (blocks_of after)
QuietOutcome before (Ok (ends_with status after)) = Unit {0}
QuietOutcome before (Err stop) = Unit {0}

quiet_given : (world : World) (given is_zero : Bool) (size : ℕ) (left : List ℤ) → QuietOutcome world (with_block (after_allocation given is_zero size left world))
quiet_given world true is_zero size left = (made (blocks_of world) is_zero size heap_align)
quiet_given world false is_zero size left = (untouched (blocks_of world))

quiet_store : (world : World) (is_zero : Bool) (size : ℕ) (left : List ℤ) (refused test : Bool) → QuietOutcome world (with_block (if test then after_allocation (not refused) is_zero size left world else Err astray))
quiet_store world is_zero size left refused true = quiet_given world (not refused) is_zero size left
quiet_store world is_zero size left refused false = tt

quiet_granted : (world : World) (is_zero : Bool) (size : ℕ) (terms : Terms) (answers : List ℤ) → QuietOutcome world (with_block (granted_on terms answers is_zero size world))
quiet_granted world is_zero size open_ended [] = quiet_given world true is_zero size []
quiet_granted world is_zero size open_ended (answer ∷ left) = quiet_given world (is_given answer) is_zero size left
quiet_granted world is_zero size (trail_of limit) [] = tt
quiet_granted world is_zero size (trail_of limit) (answer ∷ left) =
    quiet_store world is_zero size left (is_refused_by limit world.held.blocks size) (is_of_store (is_refused_by limit world.held.blocks size) answer)

by_quiet : (place : Place) (world : World) (one : Effect) → QuietEffect world.held one → QuietOutcome world (by_effect place world one)
by_quiet place world (gives value held) same = (subst (λ (after : Held). Untouched world.held.blocks after.blocks) (sym same) (untouched world.held.blocks))
by_quiet place world (gives_nothing held) same = (subst (λ (after : Held). Untouched world.held.blocks after.blocks) (sym same) (untouched world.held.blocks))
by_quiet place world (ends_program status) same = tt
by_quiet place world (wants_block is_zero size) same = quiet_granted world is_zero size world.terms world.answers
by_quiet place world (fails fault) same = tt

quiet_known : (place : Place) (world : World) (does : Known) (args : Result (List Value) CWhy) → is_quiet does ≡ true
    → QuietOutcome world (and_then (wrong_at place args) (λ all. by_effect place world (effect does all world.held)))
quiet_known place world does (Ok args) quiet = by_quiet place world (effect does args world.held) (quiet_effect does args world.held quiet)
quiet_known place world does (Err why) quiet = tt

quiet_answer : (world : World) (kind : Option Scalar) (call : Call) (terms : Terms) (answers : List ℤ) → world.terms ≡ terms → QuietOutcome world (with_answer kind (answer_from answers call world))
quiet_answer world kind call open_ended [] e =
    subst (λ terms. QuietOutcome world (with_answer kind (answer_at_end terms call world))) (sym e) (untouched (blocks_of world))
quiet_answer world kind call (trail_of limit) [] e = subst (λ terms. QuietOutcome world (with_answer kind (answer_at_end terms call world))) (sym e) tt
quiet_answer world kind call terms (answer ∷ left) e = untouched (blocks_of world)

quiet_opaque : (place : Place) (world : World) (kind : Option Scalar) (name : List ℕ) (args : Result (List Arg) CWhy)
    → QuietOutcome world (and_then (wrong_at place args) (λ all. with_answer kind (answer_from world.answers (record { name = name; args = all }) world)))
quiet_opaque place world kind name (Ok args) = quiet_answer world kind (record { name = name; args = args }) world.terms world.answers refl
quiet_opaque place world kind name (Err why) = tt

quiet_table : (setting : CSetting) (called : CCalled) (callee : COuter) (world : World) (found : Option KnownFunction) → is_quiet_if_known found ≡ true → QuietOutcome world (call_by_table setting called callee world found)
quiet_table setting called callee world (Some known) quiet = quiet_known called.place world known.does (values_of called.args) quiet
quiet_table setting called callee world None quiet = quiet_opaque called.place world (scalar_in_type setting called.type) callee.name (arguments setting (blocks_of world) called.args)

pub quiet_call : (setting : CSetting) (called : CCalled) (callee : COuter) (world : World) → is_quiet_external callee ≡ true → QuietOutcome world (external_call setting called callee world)
quiet_call setting called callee world quiet = quiet_table setting called callee world (known_named callee.name) quiet
