-- What an engine does of the ways to make a piece.
use Rattle.std.proofs.Common.{◌≡◌, ◌∙◌, refl, sym, ap, subst, arith, ℕ, zero, suc, ◌+◌, inl, ℤ, Bool, true, false, List, [], ◌++◌, Option, Some, None, option_map, Result, Ok, Err, append-nil}
use Rattle.cr_runs.specs.Runs.{came, bad, tick}
use Rattle.cr_world.specs.Held.{Held}
use Rattle.cr_world.specs.World.{World, wrong, trail_of}
use Rattle.ext_calls.specs.declared.call.Made.{Made}
use Rattle.ext_calls.specs.Host.{HostState}
use Rattle.mem_bytes.specs.Counted.{Limit}
use Rattle.rs_mean.specs.declared.cause.Cause.{Cause}
use Rattle.rs_mean.specs.World.{Run, pure, fails, ends, seq, takes_unit, either, Did, after_step, local, looks, or_fails}
use Rattle.rs_machine.specs.Does.{ended, went_wrong, no_units, no_memory, End, gives, stops, found_end, IsOut, Comes, ends_with, breaks_off, runs_out, Does, Stays}
use Rattle.rs_machine.specs.States.{State, world_at}
use Rattle.rs_machine.proofs.Pieces.{Quiet, quiet_itself, comes_quiet, breaks_quiet, then_does, same_does}

-- ---- ends

pub pure_does : {B : Type 0} (value : B) (at : State) → Does (pure value) (gives value) at at
unfolding pure
pure_does value at = record { by = comes_quiet (pure value) at at (quiet_itself at) value (λ made ahead left. refl) }

pub pure_is : {B : Type 0} (value other : B) → other ≡ value → Stays (pure value) (gives other)
pure_is value other is = λ at. subst (λ (one : _). Does (pure value) (gives one) at at) (sym is) (pure_does value at)

pub fails_does : {B : Type 0} (why : Cause) (at : State) → Does {B = B} (fails why) (stops (went_wrong why)) at at
unfolding fails
fails_does why at = record { by = breaks_quiet (fails why) at at (quiet_itself at) (breaks_off (wrong why)) (λ made ahead left is. refl) }

pub ends_does : {B : Type 0} (status : ℤ) (at : State) → Does {B = B} (ends status) (stops (ended status)) at at
unfolding ends
ends_does status at = record { by = breaks_quiet (ends status) at at (quiet_itself at) (ends_with status) (λ made ahead left is. refl) }

none_told : (told : Option (List Made)) → told ≡ option_map (λ made. made ++ []) told
none_told None = refl
none_told (Some made) = ap Some (sym (append-nil made))

-- memory was wanting, and the host took no part
pub memory_does : {B : Type 0} (piece : Run B) (before after : State) → after.host ≡ before.host → Does piece (stops no_memory) before after
memory_does piece before after same = record {
  by = record {
    calls = [];
    told = ap (λ (at : HostState). at.made) same ∙ none_told before.host.made;
    given = ap (λ (at : HostState). at.left) same;
    taken_by = tt;
    takes = ap (λ (at : HostState). at.takes) same;
    asked = inl refl;
  };
}

pub memory_here : {B : Type 0} {piece : Run B} {at : State} → Does piece (stops no_memory) at at
memory_here {piece = piece} {at = at} = memory_does piece at at refl

-- ---- choices

pub true_does : {B : Type 0} (test : Bool) (one other : Run B) {end : End B} {before after : State} → test ≡ true → Does one end before after →
    Does (either test one other) end before after
true_does true one other is does = does
true_does false one other is does = absurd cc

pub false_does : {B : Type 0} (test : Bool) (one other : Run B) {end : End B} {before after : State} → test ≡ false → Does other end before after →
    Does (either test one other) end before after
false_does true one other is does = absurd cc
false_does false one other is does = does

pub or_fails_does : {B : Type 0} (found : Result B Cause) (at : State) → Does (or_fails found) (found_end found) at at
or_fails_does (Ok value) at = pure_does value at
or_fails_does (Err why) at = fails_does why at

pub found_gives : {B : Type 0} (found : Result B Cause) (value : B) (at : State) → Ok value ≡ found → Does (or_fails found) (gives value) at at
found_gives found value at is = subst (λ (one : Result _ Cause). Does (or_fails one) (gives value) at at) is (pure_does value at)

pub found_fails : {B : Type 0} (found : Result B Cause) (why : Cause) (at : State) → Err why ≡ found → Does (or_fails found) (stops (went_wrong why)) at at
found_fails found why at is = subst (λ (one : Result _ Cause). Does (or_fails one) (stops (went_wrong why)) at at) is (fails_does why at)

-- ---- units

-- one unit was taken, and nothing else
pub record TakesUnit (before after : State) : Type 0 where
  pub units : before.units ≡ suc after.units
  pub held : after.held ≡ before.held
  pub trail : after.trail ≡ before.trail
  pub limit : after.limit ≡ before.limit
  pub host : after.host ≡ before.host

unit_alone : {B : Type 0} (next : Run B) (world : World) (units : ℕ) → seq (takes_unit (pure tt)) (λ (_ : Unit {0}). next) world units ≡ takes_unit next world units
unfolding seq takes_unit pure
unit_alone next world zero = refl
unit_alone next world (suc units) = refl

unit_comes : (before after : State) → TakesUnit before after → Comes {B = Unit {0}} (takes_unit (pure tt)) tt before after
unfolding takes_unit pure
unit_comes before after takes = record {
  between = record {
    answers = [];
    calls = [];
    taken = 1;
    trail = takes.trail ∙ sym (append-nil before.trail);
    told = ap (λ (at : _). at.made) takes.host ∙ none_told before.host.made;
    given = ap (λ (at : _). at.left) takes.host;
    taken_by = tt;
    units = omega (arith, takes.units);
    limit = takes.limit;
    takes = ap (λ (at : _). at.takes) takes.host;
    later = let same : after.host.faults ≡ before.host.faults = ap (λ (at : _). at.faults) takes.host in omega (arith, same);
  };
  goes = λ made ahead left.
      let one : 1 + left ≡ suc left = omega arith in
      ap (λ (n : ℕ). tick (world_at before made ahead) (came tt (world_at before made ahead)) n) one
      ∙ ap (λ (held : Held). came tt (record { held = held; made = made; answers = ahead; terms = trail_of before.limit }) left) (sym takes.held)
      ∙ ap (λ (limit : Option Limit). came tt (record { held = after.held; made = made; answers = ahead; terms = trail_of limit }) left) (sym takes.limit)
      ∙ ap (λ (calls : List Made). came tt (world_at after calls ahead) left) (sym (append-nil made));
  short = λ made ahead fewer less. let none : fewer ≡ 0 = omega (arith, less) in
      subst (λ (n : ℕ). IsOut (tick (world_at before made ahead) (came tt (world_at before made ahead)) n)) (sym none) tt;
  asked = inl refl;
}

pub unit_does : {B : Type 0} (next : Run B) {end : End B} {before middle after : State} → TakesUnit before middle → Does next end middle after →
    Does (takes_unit next) end before after
unit_does next {before = before} {middle = middle} takes does =
    same_does (seq (takes_unit (pure tt)) (λ (_ : Unit {0}). next)) (takes_unit next) (unit_alone next)
    (then_does (λ (_ : Unit {0}). next) (record { by = unit_comes before middle takes }) does)

pub no_unit_does : {B : Type 0} (next : Run B) (at : State) → at.units ≡ 0 → Does (takes_unit next) (stops no_units) at at
unfolding takes_unit
no_unit_does next at none = record {
  by = record {
    none = none;
    stops = breaks_quiet (takes_unit next) at at (quiet_itself at) runs_out
        (λ made ahead left is. ap (λ (n : ℕ). tick (world_at at made ahead) (next (world_at at made ahead)) n) is);
  };
}

-- ---- steps of what is held

pub local_does : {B : Type 0} (step : Held → Result (Did B) Cause) (value : B) {before after : State} → Quiet before after →
    step before.held ≡ Ok (record { value = value; held = after.held }) → Does (local step) (gives value) before after
unfolding local
local_does step value {before = before} {after = after} quiet is = record {
  by = comes_quiet (local step) before after quiet value (λ made ahead left.
      ap (after_step (world_at before made ahead) left) is
      ∙ ap (λ (limit : Option Limit). came value (record { held = after.held; made = made; answers = ahead; terms = trail_of limit }) left) (sym quiet.limit));
}

pub local_fails : {B : Type 0} (step : Held → Result (Did B) Cause) (why : Cause) {before after : State} → Quiet before after → after.held ≡ before.held →
    step before.held ≡ Err why → Does (local step) (stops (went_wrong why)) before after
unfolding local
local_fails step why {before = before} {after = after} quiet held is = record {
  by = breaks_quiet (local step) before after quiet (breaks_off (wrong why)) (λ made ahead left at.
      ap (after_step (world_at before made ahead) left) is
      ∙ ap (λ (limit : Option Limit). bad (wrong why) (record { held = before.held; made = made; answers = ahead; terms = trail_of limit })) (sym quiet.limit)
      ∙ ap (λ (one : Held). bad (wrong why) (record { held = one; made = made; answers = ahead; terms = trail_of after.limit })) (sym held));
}

looks_by : {B : Type 0} (step : Held → Result B Cause) (found : Result B Cause) (at : State) → step at.held ≡ found → Does (looks step) (found_end found) at at
looks_by step (Ok value) at is = local_does _ value (quiet_itself at) (rw is refl)
looks_by step (Err why) at is = local_fails _ why (quiet_itself at) refl (rw is refl)

pub looks_does : {B : Type 0} (step : Held → Result B Cause) (at : State) → Does (looks step) (found_end (step at.held)) at at
looks_does step at = looks_by step (step at.held) at refl
