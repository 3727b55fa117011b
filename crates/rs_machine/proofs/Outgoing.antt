-- Calls of external functions, and copies.
use Rattle.std.proofs.Common.{◌≡◌, ◌∙◌, refl, sym, ap, subst, arith, ℤ, pos, ℕ, Bool, true, List, [], ◌∷◌, map, Option, Some, None, Result, Ok, Err}
use Rattle.cr_world.specs.Held.{Held}
use Rattle.cr_world.specs.Known.{KnownFunction, known_named, Effect, gives as effect_gives, gives_nothing, ends_program, wants_block, fails as effect_fails, effect, copying}
use Rattle.ext_calls.specs.Host.{HostState}
use Rattle.mem_bytes.specs.Counted.{Limit}
use Rattle.mem_bytes.specs.Memory.{Blocks}
use Rattle.mem_bytes.specs.declared.value.Value.{Value}
use Rattle.mem_bytes.specs.declared.value.Value.TheVariants.{Whole}
use Rattle.rs_mean.specs.declared.cause.Cause.{Cause}
use Rattle.rs_mean.specs.Calls.{answer_as, known_call, outer_call, outer_by, takes_effect, copies}
use Rattle.rs_mean.specs.Lookups.{symbol_of}
use Rattle.rs_mean.specs.Values.{Typed}
use Rattle.rs_mean.specs.World.{Run, Did, pure, seq, looks, or_fails, grants, cause_of_held}
use Rattle.rs_text.specs.Tree.{Ty, OuterTree}
use Rattle.rs_value.specs.declared.trouble.Trouble.{Trouble}
use Rattle.rs_value.specs.declared.trouble.Trouble.TheVariants as trouble
use Rattle.rs_value.specs.declared.typed.TypedValue.{TypedValue}
use Rattle.rs_value.specs.Finds.{Finds}
use Rattle.rs_value.specs.Views.{typed_view}
use Rattle.rs_machine.specs.Called.{EndsBy, CopiesTo, copies_as, copy_of}
use Rattle.rs_machine.specs.Does.{Stopped, ended, went_wrong, no_units, store_full, refused, failed, no_memory, stopped_of, End, gives, stops, found_end, Does, Stays}
use Rattle.rs_machine.specs.Effects.{Effects, BlocksEffects, fault_in, held_of, given, value_in}
use Rattle.rs_machine.specs.States.{Kept, State, state}
use Rattle.rs_machine.specs.Steps.{StoreDoes}
use Rattle.rs_machine.proofs.Pieces.{Quiet, quiet_state, then_does}
use Rattle.rs_machine.proofs.Rules.{pure_does, pure_is, ends_does, fails_does, memory_does, or_fails_does, looks_does, local_does, local_fails}

-- ---- pieces that find a value or none

pub settled : {B : Type 0} (piece : Run B) (found : Result B Cause) → piece ≡ or_fails found → Stays piece (found_end found)
settled piece found is = λ at. subst (λ (one : Run _). Does one (found_end found) at at) (sym is) (or_fails_does found at)

pub settled_end : {B : Type 0} (piece : Run B) (found : Result B Cause) (end : End B) → piece ≡ or_fails found → end ≡ found_end found → Stays piece end
settled_end piece found end is end_is = λ at. subst (λ (one : End _). Does piece one at at) (sym end_is) (settled piece found is at)

pub looked_gives : {B : Type 0} (step : Held → Result B Cause) (value : B) (at : State) → step at.held ≡ Ok value → Does (looks step) (gives value) at at
looked_gives step value at is = subst (λ (found : Result _ Cause). Does (looks step) (found_end found) at at) is (looks_does step at)

pub looked_fails : {B : Type 0} (step : Held → Result B Cause) (why : Cause) (at : State) → step at.held ≡ Err why → Does (looks step) (stops (went_wrong why)) at at
looked_fails step why at is = subst (λ (found : Result _ Cause). Does (looks step) (found_end found) at at) is (looks_does step at)

pub looked_stops : {A B : Type 0} (view : A → B) (step : Held → Result B Cause) (why : Trouble) (stop : Stopped) (at : State) →
    Finds {A = A} view (Err why) (step at.held) → stop ≡ stopped_of why → Does (looks step) (stops stop) at at
looked_stops view step (trouble.Wrong why) stop at finds is = subst (λ (one : Stopped). Does (looks step) (stops one) at at) (sym is) (looked_fails step why at finds)
looked_stops view step trouble.Memory stop at finds is = subst (λ (one : Stopped). Does (looks step) (stops one) at at) (sym is) (memory_does (looks step) at at refl)

pub answer_at : (ty other : Option Ty) (one answer : ℤ) {end : End (Option Typed)} {at : State} → other ≡ ty → answer ≡ one →
    Does (answer_as other answer) end at at → Does (answer_as ty one) end at at
answer_at ty other one answer {end = end} {at = at} ty_is is does =
    subst (λ (n : ℤ). Does (answer_as ty n) end at at) is (subst (λ (t : Option Ty). Does (answer_as t answer) end at at) ty_is does)

-- ---- what is kept

abbrev state_with : Held → List ℤ → ℕ → Option Limit → HostState → State
state_with held trail units limit host = record { held = held; trail = trail; units = units; limit = limit; host = host }

module _ (old new : Kept) (before after : Blocks) (limit later : Option Limit) (host : HostState) (kept : new ≡ record old { heap = new.heap }) (same : later ≡ limit) where
  quiet_kept : Quiet (state old before limit host) (state new after later host)
  quiet_kept = record {
    trail = ap (λ (one : Kept). one.trail) kept;
    units = ap (λ (one : Kept). one.units) kept;
    limit = same;
    made = refl;
    left = refl;
    takes = refl;
    later = omega arith;
  }

  same_state : held_of new after ≡ held_of old before → state new after later host ≡ state old before limit host
  same_state held =
      ap (λ (one : Held). state_with one new.trail new.units later host) held
      ∙ ap (λ (trail : List ℤ). state_with (held_of old before) trail new.units later host) (ap (λ (one : Kept). one.trail) kept)
      ∙ ap (λ (units : ℕ). state_with (held_of old before) old.trail units later host) (ap (λ (one : Kept). one.units) kept)
      ∙ ap (λ (one : Option Limit). state_with (held_of old before) old.trail old.units one host) same

  pub effect_gives_value : (result : Option Ty) (effect : Effect) (value : Value) (found : Option Typed) → effect ≡ effect_gives value (held_of new after) → found ≡ given result value →
      Does (takes_effect result effect) (gives found) (state old before limit host) (state new after later host)
  effect_gives_value result effect value found is found_is =
      subst (λ (one : Effect). Does (takes_effect result one) (gives found) (state old before limit host) (state new after later host)) (sym is)
      (then_does (λ _. pure (given result value)) (local_does _ tt quiet_kept refl) (pure_is (given result value) found found_is (state new after later host)))

  pub effect_gives_none : (result : Option Ty) (effect : Effect) → effect ≡ gives_nothing (held_of new after) →
      Does (takes_effect result effect) (gives None) (state old before limit host) (state new after later host)
  effect_gives_none result effect is =
      subst (λ (one : Effect). Does (takes_effect result one) (gives None) (state old before limit host) (state new after later host)) (sym is)
      (then_does (λ _. pure None) (local_does _ tt quiet_kept refl) (pure_does None (state new after later host)))

  -- where nothing changed, the state before is the state after
  stays_at : {B : Type 0} (piece : Run B) (end : End B) → held_of new after ≡ held_of old before → Does piece end (state old before limit host) (state old before limit host) →
      Does piece end (state old before limit host) (state new after later host)
  stays_at piece end held does = subst (λ (two : State). Does piece end (state old before limit host) two) (sym (same_state held)) does

  ends_at : (result : Option Ty) (stop : Stopped) (status : ℤ) (at : State) → EndsBy stop status → Does (takes_effect result (ends_program status)) (stops stop) at at
  ends_at result (ended one) status at is = subst (λ (n : ℤ). Does (takes_effect result (ends_program status)) (stops (ended n)) at at) (sym is) (ends_does status at)
  ends_at result no_memory status at is = memory_does _ at at refl
  ends_at result (went_wrong why) status at is = absurd is
  ends_at result no_units status at is = absurd is
  ends_at result (store_full need left) status at is = absurd is
  ends_at result (refused name) status at is = absurd is
  ends_at result failed status at is = absurd is

  pub effect_ends : (result : Option Ty) (effect : Effect) (status : ℤ) (stop : Stopped) → effect ≡ ends_program status → held_of new after ≡ held_of old before →
      EndsBy stop status → Does (takes_effect result effect) (stops stop) (state old before limit host) (state new after later host)
  effect_ends result effect status stop is held ends =
      subst (λ (one : Effect). Does (takes_effect result one) (stops stop) (state old before limit host) (state new after later host)) (sym is)
      (stays_at (takes_effect result (ends_program status)) (stops stop) held (ends_at result stop status (state old before limit host) ends))

  pub effect_wants : (result : Option Ty) (effect : Effect) (is_zero : Bool) (size : ℕ) {end : End (Option Typed)} {three : State} →
      effect ≡ wants_block is_zero size → held_of new after ≡ held_of old before →
      Does (seq (grants is_zero size) (λ value. pure (given result value))) end (state new after later host) three →
      Does (takes_effect result effect) end (state old before limit host) three
  effect_wants result effect is_zero size {end = end} {three = three} is held does =
      subst (λ (one : Effect). Does (takes_effect result one) end (state old before limit host) three) (sym is)
      (subst (λ (one : State). Does (takes_effect result (wants_block is_zero size)) end one three) (same_state held) does)

  wrong_at : (result : Option Ty) (effect : Effect) (why : Cause) (at : State) → fault_in effect ≡ Some why → Does (takes_effect result effect) (stops (went_wrong why)) at at
  wrong_at result (effect_gives value held) why at is = absurd cc
  wrong_at result (gives_nothing held) why at is = absurd cc
  wrong_at result (ends_program status) why at is = absurd cc
  wrong_at result (wants_block is_zero size) why at is = absurd cc
  wrong_at result (effect_fails fault) why at is =
      let one : cause_of_held fault ≡ why = cc in
      subst (λ (cause : Cause). Does (takes_effect result (effect_fails fault)) (stops (went_wrong cause)) at at) one (fails_does (cause_of_held fault) at)

  pub effect_stops : (result : Option Ty) (effect : Effect) (why : Trouble) (stop : Stopped) → Effects (Err why) effect (held_of old before) (held_of new after) →
      stop ≡ stopped_of why → Does (takes_effect result effect) (stops stop) (state old before limit host) (state new after later host)
  effect_stops result effect (trouble.Wrong why) stop effects is =
      subst (λ (one : Stopped). Does (takes_effect result effect) (stops one) (state old before limit host) (state new after later host)) (sym is)
      (stays_at (takes_effect result effect) (stops (went_wrong why)) effects.1 (wrong_at result effect why (state old before limit host) effects.0))
  effect_stops result effect trouble.Memory stop effects is =
      subst (λ (one : Stopped). Does (takes_effect result effect) (stops one) (state old before limit host) (state new after later host)) (sym is) (memory_does _ _ _ refl)

-- a call of a function of the library is its effect on what is held
pub known_does : (one : KnownFunction) (result : Option Ty) (args : List Typed) {end : End (Option Typed)} {before after : State} →
    Does (takes_effect result (effect one.does (map (λ arg. arg.value) args) before.held)) end before after → Does (known_call one result args) end before after
known_does one result args {before = before} does =
    then_does (λ held. takes_effect result (effect one.does (map (λ arg. arg.value) args) held)) (looks_does (λ held. Ok held) before) does

values_in : (list : List TypedValue) → map value_in list ≡ map (λ arg. arg.value) (map typed_view list)
values_in [] = refl
values_in (one ∷ others) = ap (λ (values : List Value). one.value ∷ values) (values_in others)

pub known_by : (one : KnownFunction) (result : Option Ty) (list : List TypedValue) {end : End (Option Typed)} {before after : State} →
    Does (takes_effect result (effect one.does (map value_in list) before.held)) end before after → Does (known_call one result (map typed_view list)) end before after
known_by one result list {end = end} {before = before} {after = after} does =
    known_does one result (map typed_view list)
    (subst (λ (values : List Value). Does (takes_effect result (effect one.does values before.held)) end before after) (values_in list) does)

-- a call of an external function that is one of the library
pub library_does : (fun : OuterTree) (args : List Typed) (one : KnownFunction) (symbol : List ℕ) (result : Option Ty) {end : End (Option Typed)} {before after : State} →
    symbol ≡ symbol_of fun → Some one ≡ known_named symbol → result ≡ fun.result → Does (known_call one result args) end before after → Does (outer_call fun args) end before after
library_does fun args one symbol result {end = end} {before = before} {after = after} symbol_is is result_is does =
    subst (λ (found : Option KnownFunction). Does (outer_by found fun args) end before after) (is ∙ ap known_named symbol_is)
    (subst (λ (ty : Option Ty). Does (known_call one ty args) end before after) result_is does)

-- ---- copies

abbrev copy_step : Typed → Typed → Typed → Held → Result (Did (Unit {0})) Cause
copy_step from to count = copy_of from.value to.value count.value

pub copy_gives : (from to count : Typed) (before after : Blocks) (limit later : Option Limit) → later ≡ limit →
    CopiesTo (Ok tt) (copy_step from to count) before after → StoreDoes (copies from to count) (gives tt) before after limit later
copy_gives from to count before after limit later same goes = λ kept host.
    local_does _ tt (quiet_state kept kept.heap before after limit later host same) (goes kept.heap)

pub copy_stops : (from to count : Typed) (before after : Blocks) (limit later : Option Limit) (why : Trouble) (stop : Stopped) → later ≡ limit →
    CopiesTo (Err why) (copy_step from to count) before after → stop ≡ stopped_of why → StoreDoes (copies from to count) (stops stop) before after limit later
copy_stops from to count before after limit later (trouble.Wrong why) stop same goes is =
    subst (λ (one : Stopped). StoreDoes (copies from to count) (stops one) before after limit later) (sym is) (λ kept host.
    local_fails _ why (quiet_state kept kept.heap before after limit later host same)
    (ap (λ (blocks : Blocks). record { blocks = blocks; heap = kept.heap }) goes.1) (goes.0 kept.heap))
copy_stops from to count before after limit later trouble.Memory stop same goes is =
    subst (λ (one : Stopped). StoreDoes (copies from to count) (stops one) before after limit later) (sym is) (λ kept host. memory_does _ _ _ refl)

abbrev as_fault : Cause → Result (Did (Unit {0})) Cause
as_fault cause = Err cause

fault_copies : (effect : Effect) (why : Cause) → fault_in effect ≡ Some why → copies_as effect ≡ Err why
fault_copies (effect_gives value held) why is = absurd cc
fault_copies (gives_nothing held) why is = absurd cc
fault_copies (ends_program status) why is = absurd cc
fault_copies (wants_block is_zero size) why is = absurd cc
fault_copies (effect_fails fault) why is = let one : cause_of_held fault ≡ why = cc in ap (λ (cause : Cause). as_fault cause) one

pub copied_stops : (why : Trouble) (from to : Value) (count : ℤ) (n : ℕ) (before after : Blocks) → count ≡ pos n →
    BlocksEffects (Err why) (λ held. copying true to from n held) before after → CopiesTo (Err why) (copy_of from to (Whole count)) before after
copied_stops (trouble.Wrong why) from to count n before after is effects = rw is
    ((λ heap. fault_copies (copying true to from n (record { blocks = before; heap = heap })) why (effects heap).0), ap (λ (held : Held). held.blocks) (effects []).1)
copied_stops trouble.Memory from to count n before after is effects = tt
