-- More rules by which it is shown what one run owes another, as laws, in the words of the first ones: each holds under every pair of bounds,
-- of runs that are told by what they are under each bound.
use Rattle.std.specs.Prelude.{◌≡◌, ℕ, pred, ℤ, Bool}
use Rattle.cr_runs.specs.Runs.{Ran, halted, bind, tick}
use Rattle.cr_runs.specs.Owes.{Comes, GoesOn, Owes, Rests}
use Rattle.cr_runs.specs.Laws.{Passes}
use Rattle.cr_runs_rules.specs.Steps.{StepsTo, TakesAStep, Waits}

-- a step of the source and a unit of the target together, under every pair of bounds
abbrev pub TicksBy : (F G S T A B E : Type 0) → Type 0
TicksBy F G S T A B E =
    (events_of : S → E) (events_in : T → E) (good : A → S → B → T → Bool)
    (n m : ℕ) (s : S) (t : T) (source : ℕ → Ran F S A) (target : ℕ → Ran G T B) → events_of s ≡ events_in t →
    Owes events_of events_in (Passes good) (pred n) (pred m) source target → Owes events_of events_in (Passes good) n m (tick s source) (tick t target)

-- the same, of runs that step
abbrev pub Together : (F G S T A B E : Type 0) → Type 0
Together F G S T A B E =
    (events_of : S → E) (events_in : T → E) (good : A → S → B → T → Bool)
    (n m : ℕ) (s : S) (t : T) (source next : ℕ → Ran F S A) (target rest : ℕ → Ran G T B) →
    StepsTo source s next → StepsTo target t rest → events_of s ≡ events_in t →
    Owes events_of events_in (Passes good) (pred n) (pred m) next rest → Owes events_of events_in (Passes good) n m source target

-- a step of the source alone: the target shows the same events without a unit
abbrev pub Alone : (F G S T A B E : Type 0) → Type 0
Alone F G S T A B E =
    (events_of : S → E) (events_in : T → E) (good : A → S → B → T → Bool)
    (n m : ℕ) (s : S) (source next : ℕ → Ran F S A) (target : ℕ → Ran G T B) →
    StepsTo source s next → Rests events_in (events_of s) (target 0) →
    Owes events_of events_in (Passes good) n (pred m) next target → Owes events_of events_in (Passes good) n m source target

-- a unit of the target alone: the source fails, or waits at the same events
abbrev pub UnitAlone : (F G S T A B E : Type 0) → Type 0
UnitAlone F G S T A B E =
    (events_of : S → E) (events_in : T → E) (good : A → S → B → T → Bool)
    (n m : ℕ) (t : T) (source : ℕ → Ran F S A) (target rest : ℕ → Ran G T B) →
    StepsTo target t rest → Waits source events_of (events_in t) →
    Owes events_of events_in (Passes good) (pred n) m source rest → Owes events_of events_in (Passes good) n m source target

-- a unit of the target in front of what it owes, where the source may fail at once
abbrev pub TickTarget : (F G S T A B E : Type 0) → Type 0
TickTarget F G S T A B E =
    (events_of : S → E) (events_in : T → E) (good : A → S → B → T → Bool)
    (n m : ℕ) (t : T) (source : ℕ → Ran F S A) (target : ℕ → Ran G T B) → Waits source events_of (events_in t) →
    Owes events_of events_in (Passes good) (pred n) m source target → Owes events_of events_in (Passes good) n m source (tick t target)

-- one piece after another, where the source's first piece takes a step: the second is owed under one bound less
abbrev pub PiecesTaken : (F G S T A B C D E : Type 0) → Type 0
PiecesTaken F G S T A B C D E =
    (events_of : S → E) (events_in : T → E)
    (good : A → S → B → T → Bool) (after : C → S → D → T → Bool)
    (source : ℕ → Ran F S A) (target : ℕ → Ran G T B) (go : A → S → ℕ → Ran F S C) (on : B → T → ℕ → Ran G T D) (n m : ℕ) →
    TakesAStep source → Owes events_of events_in (Passes good) n m source target →
    ((b : B) (t : T) → Rests events_in (events_in t) (on b t 0)) →
    ((a : A) (s : S) (b : B) (t : T) → Passes good a s b t → Owes events_of events_in (Passes after) n (pred m) (go a s) (on b t)) →
    Owes events_of events_in (Passes after) n m (λ k. bind (source k) go) (λ k. bind (target k) on)

-- the source waits at the state at which it steps; so does a first piece that waits, with what is behind it; and what waits behind a first
-- piece that comes to its end waits with that in front
pub record SourceGoesOn (F S A B E : Type 0) : Type 0 where
  pub at_a_step : (events_of : S → E) (s : S) (source next : ℕ → Ran F S A) → StepsTo source s next → GoesOn source events_of (events_of s)
  pub in_front : (events_of : S → E) (events : E) (source : ℕ → Ran F S A) (go : A → S → ℕ → Ran F S B) →
      Waits source events_of events → Waits (λ k. bind (source k) go) events_of events
  pub behind : (events_of : S → E) (events : E) (source : ℕ → Ran F S A) (go : A → S → ℕ → Ran F S B) (taken : ℕ) (a : A) (s : S) →
      Comes source taken a s → Waits (go a s) events_of events → Waits (λ k. bind (source k) go) events_of events

-- the whole program ends in both, with one status at the same events
abbrev pub HaltedOwe : (F G S T A B E : Type 0) → Type 0
HaltedOwe F G S T A B E =
    (events_of : S → E) (events_in : T → E) (good : A → S → B → T → Bool)
    (n m : ℕ) (status : ℤ) (s : S) (t : T) → events_of s ≡ events_in t →
    Owes {F = F} {G = G} {A = A} {B = B} events_of events_in (Passes good) n m (λ k. halted status s) (λ k. halted status t)
