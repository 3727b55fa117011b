-- Calls that are answered.
use Rattle.std.proofs.Common.{◌≡◌, refl, sym, subst, ℤ, ℕ, ◌≤◌, Bool, true, false, List, [], ◌∷◌, ◌++◌, drop, Option, option_map, Ok, Err, inl, inr}
use Rattle.cr_base.specs.Count.{Rose}
use Rattle.cr_world.specs.World.{answered}
use Rattle.ext_calls.specs.declared.call.Call.{Call}
use Rattle.ext_calls.specs.declared.fault.HostFault.TheVariants as fault
use Rattle.ext_calls.specs.Host.{HostState, AddsCall, IsGiven, KeepsAnswers, IsDeclined}
use Rattle.mem_bytes.specs.Counted.{Limit}
use Rattle.mem_bytes.specs.Memory.{Blocks}
use Rattle.cx_outside.specs.Comes.{Comes, got, IsRefused, Fails}
use Rattle.cx_outside.specs.States.{KeptState, around, Quiet}

module _ (old : KeptState) (blocks : Blocks) (limit : Option Limit) (before after : HostState) (call : Call) where
  pub answer_comes : (answer : ℤ) (new : KeptState) → new ≡ record { trail = old.trail ++ answer ∷ []; heap = old.heap } →
      AddsCall call answer before after → IsGiven answer before → after.left ≡ option_map (drop 1) before.left → after.takes ≡ before.takes →
      before.faults ≤ after.faults → (before.takes call ≡ true) →
      Comes (answered call) (got answer) (around old blocks limit before) (around new blocks limit after)
  answer_comes answer new is made given used takes later taken =
      subst (λ (one : KeptState). Comes (answered call) (got answer) (around old blocks limit before) (around one blocks limit after)) (sym is)
      (record {
        between = record {
          answers = answer ∷ [];
          calls = record { call = call; answer = answer } ∷ [];
          trail = refl;
          told = made;
          given = (given, used);
          taken_by = (taken, tt);
          limit = refl;
          takes = takes;
          later = later;
        };
        goes = λ calls ahead. refl;
      })

  quiet_host : KeepsAnswers before after → after.takes ≡ before.takes → before.faults ≤ after.faults → Quiet (around old blocks limit before) (around old blocks limit after)
  quiet_host keeps takes later = record { trail = refl; made = keeps.made; left = keeps.left; limit = refl; takes = takes; later = later }

  pub answer_refused : (name : List ℕ) → call.name ≡ name → KeepsAnswers before after → after.takes ≡ before.takes → before.faults ≤ after.faults → before.takes call ≡ false →
      IsRefused (answered call) name (around old blocks limit before) (around old blocks limit after)
  answer_refused name named keeps takes later declined = record {
    call = call;
    named = named;
    declined = declined;
    asks = record { quiet = quiet_host keeps takes later; stops = λ made. refl };
  }

  taken_by : (takes : Bool) → takes ≡ before.takes call → (before.takes call ≡ false → IsDeclined (Err fault.Failed)) → takes ≡ true
  taken_by true is declined = refl
  taken_by false is declined = elim (declined (sym is)) [
    | inl other ↦ absurd cc
    | inr other ↦ absurd cc
  ]

  pub answer_fails : KeepsAnswers before after → after.takes ≡ before.takes → before.faults ≤ after.faults → Rose before.faults after.faults →
      (before.takes call ≡ false → IsDeclined (Err fault.Failed)) →
      Fails (answered call) (around old blocks limit before) (around old blocks limit after)
  answer_fails keeps takes later rose declined = record {
    call = call;
    taken = taken_by (before.takes call) refl declined;
    rose = rose;
    asks = record { quiet = quiet_host keeps takes later; stops = λ made. refl };
  }

-- a call that was answered is one that the host takes
pub was_taken : (takes : Bool) (answer : ℤ) (before : HostState) (call : Call) → takes ≡ before.takes call → (before.takes call ≡ false → IsDeclined (Ok answer)) → before.takes call ≡ true
was_taken true answer before call is declined = sym is
was_taken false answer before call is declined = elim (declined (sym is)) [
  | inl other ↦ absurd cc
  | inr other ↦ absurd cc
]
