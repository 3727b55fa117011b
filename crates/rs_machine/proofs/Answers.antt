-- Calls that are answered, and allocations.
use Rattle.std.proofs.Common.{◌≡◌, ◌∙◌, refl, sym, ap, subst, arith, ℤ, pos, ℕ, ◌+◌, ◌≤◌, Bool, true, false, List, [], ◌∷◌, ◌++◌, length, drop, Option, Some, None, option_map, Ok, Err, append-nil, if◌then◌else◌, inl, inr}
use Rattle.cr_base.specs.Count.{Rose}
use Rattle.cr_runs.specs.Runs.{Ran, came, bad}
use Rattle.cr_world.specs.World.{World, Stop, asks, trail_of, answered, granted_by_store, is_refused_by}
use Rattle.ext_calls.specs.declared.call.Call.{Call}
use Rattle.ext_calls.specs.declared.call.Made.{Made}
use Rattle.ext_calls.specs.declared.fault.HostFault.TheVariants as fault
use Rattle.ext_calls.specs.Host.{HostState, AddsCall, IsGiven, KeepsAnswers, IsDeclined}
use Rattle.mem_bytes.specs.Counted.{Limit, after_alloc, is_refused}
use Rattle.mem_bytes.specs.Memory.{Blocks}
use Rattle.mem_bytes.specs.declared.fault.StoreFault.{StoreFault}
use Rattle.mem_bytes.specs.declared.fault.StoreFault.TheVariants.{Full}
use Rattle.mem_bytes.specs.declared.value.Value.{Value}
use Rattle.mem_bytes.specs.declared.value.Value.TheVariants.{Null, Object}
use Rattle.rs_mean.specs.declared.cause.Cause.{Cause}
use Rattle.rs_mean.specs.World.{Run, tells, grants, after_got}
use Rattle.rs_machine.specs.Blocks.{Begins, place_of}
use Rattle.rs_machine.specs.Does.{gives, stops, refused, failed, no_memory, AreAsked, LastIsAsked, Comes, Wants, Does, breaks_off}
use Rattle.rs_machine.specs.States.{Kept, State, state, world_at, AreGiven, AreTaken}
use Rattle.rs_machine.specs.Steps.{MachineDoes}
use Rattle.rs_machine.proofs.Pieces.{Quiet, breaks_quiet}

-- ---- one answer

-- an answer was taken, and these calls were made
pub record Took (answer : ℤ) (calls : List Made) (before after : State) : Type 0 where
  pub trail : after.trail ≡ before.trail ++ answer ∷ []
  pub told : after.host.made ≡ option_map (λ made. made ++ calls) before.host.made
  pub given : AreGiven calls before.host.left after.host.left
  pub taken_by : AreTaken before.host.takes calls
  pub units : after.units ≡ before.units
  pub limit : after.limit ≡ before.limit
  pub takes : after.host.takes ≡ before.host.takes
  pub later : before.host.faults ≤ after.host.faults

took_comes : {B : Type 0} (piece : Run B) (value : B) (answer : ℤ) (calls : List Made) (before after : State) → Took answer calls before after →
    ((made : List Made) (ahead : List ℤ) (left : ℕ) → piece (world_at before made (answer ∷ ahead)) left ≡ came value (world_at after (made ++ calls) ahead) left) →
    AreAsked piece before 0 calls → Comes piece value before after
took_comes piece value answer calls before after took goes asked = record {
  between = record {
    answers = answer ∷ [];
    calls = calls;
    taken = 0;
    trail = took.trail;
    told = took.told;
    given = took.given;
    taken_by = took.taken_by;
    units = let same : after.units ≡ before.units = took.units in omega (arith, same);
    limit = took.limit;
    takes = took.takes;
    later = took.later;
  };
  goes = λ made ahead left.
      let none : 0 + left ≡ left = omega arith in
      ap (λ (n : ℕ). piece (world_at before made (answer ∷ ahead)) n) none ∙ goes made ahead left;
  short = λ made ahead fewer less. absurd (omega (arith, less));
  asked = asked;
}

-- ---- calls

none_told : (told : Option (List Made)) → told ≡ option_map (λ made. made ++ []) told
none_told None = refl
none_told (Some made) = ap Some (sym (append-nil made))

module _ (kept : Kept) (blocks : Blocks) (limit : Option Limit) (before after : HostState) (call : Call) where
  -- the host has answered the call that the piece asks for
  told_last : (answer : ℤ) (most : ℕ) → LastIsAsked (tells call) (state kept blocks limit before) most (record { call = call; answer = answer } ∷ [])
  unfolding tells
  told_last answer most = record {
    others = [];
    last = record { call = call; answer = answer };
    are = refl;
    answers = [];
    units = 0;
    within = omega arith;
    asked = λ made. (refl, sym (append-nil made));
  }

  pub tells_gives : (answer : ℤ) (new : Kept) → new ≡ record kept { trail = kept.trail ++ answer ∷ [] } →
      AddsCall call answer before after → IsGiven answer before → after.left ≡ option_map (drop 1) before.left → after.takes ≡ before.takes →
      before.faults ≤ after.faults → (before.takes call ≡ true) →
      Does (tells call) (gives answer) (state kept blocks limit before) (state new blocks limit after)
  unfolding tells
  tells_gives answer new is made given used takes later taken =
      subst (λ (one : Kept). Does (tells call) (gives answer) (state kept blocks limit before) (state one blocks limit after)) (sym is)
      (record {
        by = took_comes (tells call) answer answer (record { call = call; answer = answer } ∷ []) (state kept blocks limit before)
            (state (record kept { trail = kept.trail ++ answer ∷ [] }) blocks limit after) (record {
              trail = refl;
              told = made;
              given = (given, used);
              taken_by = (taken, tt);
              units = refl;
              limit = refl;
              takes = takes;
              later = later;
            }) (λ calls ahead left. refl) (inr (told_last answer 0));
      })

  quiet_host : after.made ≡ before.made → after.left ≡ before.left → after.takes ≡ before.takes → before.faults ≤ after.faults →
      Quiet (state kept blocks limit before) (state kept blocks limit after)
  quiet_host made left takes later = record { trail = refl; units = refl; limit = refl; made = made; left = left; takes = takes; later = later }

  pub tells_refused : (name : List ℕ) → call.name ≡ name → KeepsAnswers before after → after.takes ≡ before.takes → before.faults ≤ after.faults → before.takes call ≡ false →
      Does (tells call) (stops (refused name)) (state kept blocks limit before) (state kept blocks limit after)
  unfolding tells
  tells_refused name named keeps takes later declined = record {
    by = record {
      call = call;
      named = named;
      declined = ap (λ (test : Call → Bool). test call) takes ∙ declined;
      stops = breaks_quiet (tells call) (state kept blocks limit before) (state kept blocks limit after) (quiet_host keeps.made keeps.left takes later) (breaks_off (asks call))
          (λ made ahead left none. subst (λ (answers : List ℤ). after_got left (world_at (state kept blocks limit before) made answers)
          (answered call (world_at (state kept blocks limit before) made answers)) ≡ bad (asks call) (world_at (state kept blocks limit after) made answers)) (sym none) refl);
    };
  }

  taken_by : (takes : Bool) → takes ≡ before.takes call → (before.takes call ≡ false → IsDeclined (Err fault.Failed)) → takes ≡ true
  taken_by true is declined = refl
  taken_by false is declined = elim (declined (sym is)) [
    | inl other ↦ absurd cc
    | inr other ↦ absurd cc
  ]

  pub tells_failed : KeepsAnswers before after → after.takes ≡ before.takes → before.faults ≤ after.faults → Rose before.faults after.faults →
      (before.takes call ≡ false → IsDeclined (Err fault.Failed)) →
      Does (tells call) (stops failed) (state kept blocks limit before) (state kept blocks limit after)
  unfolding tells
  tells_failed keeps takes later rose declined = record {
    by = record {
      call = call;
      taken = ap (λ (test : Call → Bool). test call) takes ∙ taken_by (before.takes call) refl declined;
      rose = rose;
      stops = breaks_quiet (tells call) (state kept blocks limit before) (state kept blocks limit after) (quiet_host keeps.made keeps.left takes later) (breaks_off (asks call))
          (λ made ahead left none. subst (λ (answers : List ℤ). after_got left (world_at (state kept blocks limit before) made answers)
          (answered call (world_at (state kept blocks limit before) made answers)) ≡ bad (asks call) (world_at (state kept blocks limit after) made answers)) (sym none) refl);
    };
  }

  -- memory was wanting before the host answered, and behind that
  pub tells_wants : (new : Kept) → KeepsAnswers before after → after.takes ≡ before.takes →
      Does (tells call) (stops no_memory) (state kept blocks limit before) (state new blocks limit after)
  tells_wants new keeps takes = record {
    by = record {
      calls = [];
      told = keeps.made ∙ none_told before.made;
      given = keeps.left;
      taken_by = tt;
      takes = takes;
      asked = inl refl;
    };
  }

  pub tells_unnoted : (answer : ℤ) (new : Kept) → AddsCall call answer before after → IsGiven answer before → after.left ≡ option_map (drop 1) before.left →
      after.takes ≡ before.takes → (before.takes call ≡ true) → Does (tells call) (stops no_memory) (state kept blocks limit before) (state new blocks limit after)
  tells_unnoted answer new made given used takes taken = record {
    by = record {
      calls = record { call = call; answer = answer } ∷ [];
      told = made;
      given = (given, used);
      taken_by = (taken, tt);
      takes = takes;
      asked = inr (told_last answer kept.units);
    };
  }

-- a call that was answered is one that the host takes
pub was_taken : (takes : Bool) (answer : ℤ) (before : HostState) (call : Call) → takes ≡ before.takes call → (before.takes call ≡ false → IsDeclined (Ok answer)) → before.takes call ≡ true
was_taken true answer before call is declined = sym is
was_taken false answer before call is declined = elim (declined (sym is)) [
  | inl other ↦ absurd cc
  | inr other ↦ absurd cc
]

-- ---- allocations

not_refused : (limit : Option Limit) (blocks made : Blocks) (size align : ℕ) → after_alloc limit blocks size align ≡ Ok made → is_refused_by limit blocks size ≡ false
not_refused None blocks made size align is = refl
not_refused (Some limit) blocks made size align is = by_test (is_refused limit blocks size) _ _ made is
  where
    by_test : (test : Bool) (why : StoreFault) (one made : Blocks) → (if test then Err why else Ok one) ≡ Ok made → test ≡ false
    by_test true why one made is = absurd cc
    by_test false why one made is = refl

was_refused : (limit : Option Limit) (blocks : Blocks) (why : StoreFault) (size align : ℕ) → after_alloc limit blocks size align ≡ Err why → is_refused_by limit blocks size ≡ true
was_refused None blocks why size align is = absurd cc
was_refused (Some limit) blocks why size align is = by_test (is_refused limit blocks size) _ _ why is
  where
    by_test : (test : Bool) (other : StoreFault) (one : Blocks) (why : StoreFault) → (if test then Err other else Ok one) ≡ Err why → test ≡ true
    by_test true other one why is = refl
    by_test false other one why is = absurd cc

-- what an allocation comes to
abbrev granted_at : Value → Blocks → List ℕ → Option Limit → List Made → List ℤ → ℕ → Ran (Stop Cause) World Value
granted_at value blocks heap limit made ahead left =
    came value (record { held = record { blocks = blocks; heap = heap }; made = made; answers = ahead; terms = trail_of limit }) left

module _ (is_zero : Bool) (size : ℕ) (old : Kept) (before after : Blocks) (limit later : Option Limit) (same : later ≡ limit) where
  took : (answer : ℤ) (heap : List ℕ) (host : HostState) →
      Took answer [] (state old before limit host) (state (record old { trail = old.trail ++ answer ∷ []; heap = heap }) after later host)
  took answer heap host = record {
    trail = refl;
    told = none_told host.made;
    given = refl;
    taken_by = tt;
    units = refl;
    limit = same;
    takes = refl;
    later = omega arith;
  }

  pub grants_gives : (block : ℕ) (new : Kept) → Begins (Ok block) is_zero size 16 limit before after →
      new ≡ record old { trail = old.trail ++ pos 1 ∷ []; heap = block ∷ old.heap } →
      MachineDoes (grants is_zero size) (gives (Object (place_of block))) old new before after limit later
  unfolding grants
  grants_gives block new begins is host =
      subst (λ (one : Kept). Does (grants is_zero size) (gives (Object (place_of block))) (state old before limit host) (state one after later host)) (sym is)
      (record {
        by = took_comes (grants is_zero size) (Object (place_of block)) (pos 1) [] (state old before limit host)
            (state (record old { trail = old.trail ++ pos 1 ∷ []; heap = block ∷ old.heap }) after later host) (took (pos 1) (block ∷ old.heap) host)
            (λ made ahead left.
            ap (λ (test : Bool). after_got left (world_at (state old before limit host) made (pos 1 ∷ ahead))
            (granted_by_store test (pos 1) is_zero size ahead (world_at (state old before limit host) made (pos 1 ∷ ahead))))
            (not_refused limit before begins.2.0 size 16 begins.2.1)
            ∙ ap (λ (blocks : Blocks). granted_at (Object (place_of (length before))) blocks (length before ∷ old.heap) limit made ahead left) (sym begins.1)
            ∙ ap (λ (n : ℕ). granted_at (Object (place_of n)) after (n ∷ old.heap) limit made ahead left) (sym begins.0)
            ∙ ap (λ (one : Option Limit). granted_at (Object (place_of block)) after (block ∷ old.heap) one made ahead left) (sym same)
            ∙ ap (λ (calls : List Made). granted_at (Object (place_of block)) after (block ∷ old.heap) later calls ahead left) (sym (append-nil made))) (inl refl);
      })

  pub grants_null : (need rest : ℕ) (new : Kept) → Begins (Err (Full need rest)) is_zero size 16 limit before after →
      new ≡ record old { trail = old.trail ++ pos 0 ∷ [] } → MachineDoes (grants is_zero size) (gives Null) old new before after limit later
  unfolding grants
  grants_null need rest new full is host =
      subst (λ (one : Kept). Does (grants is_zero size) (gives Null) (state old before limit host) (state one after later host)) (sym is)
      (record {
        by = took_comes (grants is_zero size) Null (pos 0) [] (state old before limit host)
            (state (record old { trail = old.trail ++ pos 0 ∷ [] }) after later host) (took (pos 0) old.heap host)
            (λ made ahead left.
            ap (λ (test : Bool). after_got left (world_at (state old before limit host) made (pos 0 ∷ ahead))
            (granted_by_store test (pos 0) is_zero size ahead (world_at (state old before limit host) made (pos 0 ∷ ahead))))
            (was_refused limit before (Full need rest) size 16 full.0)
            ∙ ap (λ (blocks : Blocks). granted_at Null blocks old.heap limit made ahead left) (sym full.1)
            ∙ ap (λ (one : Option Limit). granted_at Null after old.heap one made ahead left) (sym same)
            ∙ ap (λ (calls : List Made). granted_at Null after old.heap later calls ahead left) (sym (append-nil made))) (inl refl);
      })
