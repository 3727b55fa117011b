-- What effects of functions of the library come to.
use Rattle.std.proofs.Common.{◌≡◌, ◌∙◌, refl, sym, ap, subst, arith, ℤ, ℕ, Bool, List, [], ◌++◌, Option, Some, Result, Ok, Err, append-nil}
use Rattle.cr_base.specs.declared.refusal.Place.{Place}
use Rattle.cr_base.specs.declared.rule.URule.{URule}
use Rattle.cr_world.specs.Held.{Held}
use Rattle.cr_world.specs.Known.{Known, Effect, effect, gives, gives_nothing, ends_program, wants_block, fails}
use Rattle.cr_world.specs.World.{World, Got, granted, trail_of}
use Rattle.cx_access.specs.declared.trouble.Trouble.{Trouble}
use Rattle.cx_access.specs.declared.trouble.Trouble.TheVariants as trouble
use Rattle.cx_mean.specs.Calls.{returns_value, COutcome, by_effect, with_block}
use Rattle.cx_mean.specs.Operands.{CStop, CWhy, breaks, stops, scalar, missing, why_held}
use Rattle.ext_calls.specs.declared.call.Made.{Made}
use Rattle.ext_calls.specs.Host.{HostState}
use Rattle.mem_bytes.specs.Counted.{Limit}
use Rattle.mem_bytes.specs.Memory.{Blocks}
use Rattle.mem_bytes.specs.declared.value.Value.{Value}
use Rattle.cx_outside.specs.Called.{IsEnded, IsHalt, Ends, Granted, Calls, library_piece}
use Rattle.cx_outside.specs.Comes.{Comes, Lacks, Steps}
use Rattle.cx_outside.specs.Effects.{held_of, fault_in, Effects}
use Rattle.cx_outside.specs.States.{KeptState, Around, around, world_at, Between, Quiet}
use Rattle.cx_outside.specs.declared.calls.Halt.{Halt}
use Rattle.cx_outside.specs.declared.calls.Halt.TheVariants as halt
use Rattle.cx_outside.specs.declared.calls.Returned.{Returned}
use Rattle.cx_outside.specs.declared.calls.Returned.TheVariants as returned
use Rattle.cx_outside.specs.declared.outside.Lack.{Lack}
use Rattle.cx_outside.specs.declared.outside.Lack.TheVariants as lack
use Rattle.cx_outside.proofs.Begun.{none_told}

module _ (does : Known) (place : Place) (values : List Value) (old new : KeptState) (before after : Blocks) (limit later : Option Limit) (host : HostState)
    (kept : new ≡ record old { heap = new.heap }) (same : later ≡ limit) where
  abbrev was : Around
  was = around old before limit host

  abbrev now : Around
  now = around new after later host

  trail_is : new.trail ≡ old.trail
  trail_is = ap (λ (one : KeptState). one.trail) kept

  none_between : Between was now
  none_between = record {
    answers = [];
    calls = [];
    trail = trail_is ∙ sym (append-nil old.trail);
    told = none_told host.made;
    given = refl;
    taken_by = tt;
    limit = same;
    takes = refl;
    later = omega arith;
  }

  quiet : Quiet was now
  quiet = record { trail = trail_is; made = refl; left = refl; limit = same; takes = refl; later = omega arith }

  -- the effect left another memory, and nothing else was taken
  left_by : (made_of : World → COutcome) → ((made : List Made) (ahead : List ℤ) →
      library_piece does place values (world_at was made ahead) ≡ made_of (record { held = held_of new after; made = made; answers = ahead; terms = trail_of limit })) →
      Comes (library_piece does place values) made_of was now
  unfolding none_between
  left_by made_of goes = record {
    between = none_between;
    goes = λ made ahead.
        goes made ahead
        ∙ ap (λ (terms : Option Limit). made_of (record { held = held_of new after; made = made; answers = ahead; terms = trail_of terms })) (sym same)
        ∙ ap (λ (calls : List Made). made_of (record { held = held_of new after; made = calls; answers = ahead; terms = trail_of later })) (sym (append-nil made));
  }

  pub effect_gives : (value : Value) → effect does values (held_of old before) ≡ gives value (held_of new after) →
      Comes (library_piece does place values) (λ world. Ok (returns_value (scalar value) world)) was now
  effect_gives value is = left_by (λ world. Ok (returns_value (scalar value) world)) (λ made ahead. ap (λ (one : Effect). by_effect place (world_at was made ahead) one) is)

  pub effect_gives_nothing : effect does values (held_of old before) ≡ gives_nothing (held_of new after) →
      Comes (library_piece does place values) (λ world. Ok (returns_value missing world)) was now
  effect_gives_nothing is = left_by (λ world. Ok (returns_value missing world)) (λ made ahead. ap (λ (one : Effect). by_effect place (world_at was made ahead) one) is)

  effect_ends : (status : ℤ) → effect does values (held_of old before) ≡ ends_program status → IsEnded (library_piece does place values) status was now
  effect_ends status is = record { quiet = quiet; ends = λ made ahead. ap (λ (one : Effect). by_effect place (world_at was made ahead) one) is }

  pub effect_ends_by : (status : ℤ) (result : Result Returned Halt) → effect does values (held_of old before) ≡ ends_program status →
      Ends result status → Calls (library_piece does place values) result was now
  effect_ends_by status (Ok (returned.Ends one)) is ends =
      subst (λ (n : ℤ). IsEnded (library_piece does place values) n was now) (sym ends) (effect_ends status is)
  effect_ends_by status (Ok (returned.Gives value)) is ends = absurd ends
  effect_ends_by status (Err (halt.Undefined rule place)) is ends = absurd ends
  effect_ends_by status (Err (halt.Lacks why)) is ends = subst (λ (one : Lack). Lacks (library_piece does place values) one was now) (sym ends) tt

  fails_as : (one : Effect) (rule : URule) (world : World) → fault_in one ≡ Some (breaks rule) → by_effect place world one ≡ Err (stops (breaks rule) place)
  fails_as (gives value held) rule world is = absurd cc
  fails_as (gives_nothing held) rule world is = absurd cc
  fails_as (ends_program status) rule world is = absurd cc
  fails_as (wants_block is_zero size) rule world is = absurd cc
  fails_as (fails fault) rule world is = let why : why_held fault ≡ breaks rule = cc in ap (λ (one : CWhy). Err (stops one place)) why

  pub effect_fails : (why : Trouble) (halt : Halt) → Effects (Err why) (effect does values (held_of old before)) (held_of old before) (held_of new after) → IsHalt why place halt →
      Calls (library_piece does place values) (Err halt) was now
  effect_fails (trouble.Undefined rule) halt failed is =
      subst (λ (one : Halt). Calls (library_piece does place values) (Err one) was now) (sym is)
      (record { quiet = quiet; stops = λ made ahead. fails_as (effect does values (held_of old before)) rule (world_at was made ahead) failed.0 })
  effect_fails trouble.Memory halt failed is = subst (λ (one : Halt). Calls (library_piece does place values) (Err one) was now) (sym is) tt

  -- nothing has changed yet
  pub around_same : held_of new after ≡ held_of old before → now ≡ was
  around_same held =
      ap (λ (one : KeptState). around (record { trail = one.trail; heap = new.heap }) after later host) kept
      ∙ ap (λ (one : Held). record { held = one; trail = old.trail; limit = later; host = host }) held
      ∙ ap (λ (one : Option Limit). record { held = held_of old before; trail = old.trail; limit = one; host = host }) same

-- ---- allocations

block_stop : (found : Result (Got Value) CStop) (why : CStop) → found ≡ Err why → with_block found ≡ Err why
block_stop found why is = ap (λ (one : Result (Got Value) CStop). with_block one) is

module _ (does : Known) (place : Place) (values : List Value) (is_zero : Bool) (size : ℕ) (was later : Around) (is : effect does values was.held ≡ wants_block is_zero size) where
  piece_is : (made : List Made) (ahead : List ℤ) → library_piece does place values (world_at was made ahead) ≡ with_block (granted is_zero size (world_at was made ahead))
  piece_is made ahead = ap (λ (one : Effect). by_effect place (world_at was made ahead) one) is

  wants_lacks : (why : Lack) → Lacks (granted is_zero size) why was later → Lacks (library_piece does place values) why was later
  wants_lacks (lack.Full need left) full = record {
    quiet = full.quiet;
    stops = λ made ahead. piece_is made ahead ∙ block_stop _ _ (full.stops made ahead);
  }
  wants_lacks (lack.Refused name) refused = record {
    call = refused.call;
    named = refused.named;
    declined = refused.declined;
    asks = record { quiet = refused.asks.quiet; stops = λ made. piece_is made [] ∙ block_stop _ _ (refused.asks.stops made) };
  }
  wants_lacks lack.Failed failed = record {
    call = failed.call;
    taken = failed.taken;
    rose = failed.rose;
    asks = record { quiet = failed.asks.quiet; stops = λ made. piece_is made [] ∙ block_stop _ _ (failed.asks.stops made) };
  }
  wants_lacks lack.Memory none = tt

  pub effect_wants : (found : Result Value Lack) (result : Result Returned Halt) → Steps (granted is_zero size) found was later → Granted found result →
      Calls (library_piece does place values) result was later
  effect_wants (Ok value) result comes given =
      subst (λ (one : Result Returned Halt). Calls (library_piece does place values) one was later) (sym given)
      (record {
        between = comes.between;
        goes = λ made ahead.
            piece_is made (comes.between.answers ++ ahead)
            ∙ ap (λ (one : Result (Got Value) CStop). with_block one) (comes.goes made ahead);
      })
  effect_wants (Err why) result comes given =
      subst (λ (one : Result Returned Halt). Calls (library_piece does place values) one was later) (sym given) (wants_lacks why comes)
