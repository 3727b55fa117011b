-- What one bounded run owes another. The one is called the source, the other the target: a run of C is the source
-- of the run of the crate that is written for it. The target is safe: what it shows under each bound is backed by
-- the source. And it gets as far: what the source shows under each bound, the target reaches.
use Rattle.std.specs.Prelude.{◌≡◌, ℕ, ◌+◌, ◌<◌, ◌≤◌, ◌⊎◌, ℤ, ⊤}
use Rattle.cr_runs.specs.Runs.{Ran, came, halted, bad, out}

-- a step of a piece has no meaning
abbrev pub IsBad : {F S A : Type 0} → Ran F S A → Type 0
IsBad (came value state left) = ⊥
IsBad (halted status state) = ⊥
IsBad (bad fault state) = ⊤
IsBad (out state) = ⊥

-- a piece has come to an end only with a result and a state of this kind
abbrev pub AtEnd : {F S A : Type 0} → (A → S → Type 0) → Ran F S A → Type 0
AtEnd Known (came value state left) = Known value state
AtEnd Known (halted status state) = ⊤
AtEnd Known (bad fault state) = ⊤
AtEnd Known (out state) = ⊤

-- under some bound the run comes to a step that has no meaning
abbrev pub Fails : {F S A : Type 0} → (ℕ → Ran F S A) → Type 0
Fails run = (bound : ℕ) × IsBad (run bound)

-- the run takes just so much of any bound, and then has come to its end
abbrev pub Comes : {F S A : Type 0} → (ℕ → Ran F S A) → ℕ → A → S → Type 0
Comes run taken value state = (left : ℕ) → run (taken + left) ≡ came value state left

-- the run comes to an end that meets a test, and what a piece of another left of a bound is within it
pub record Ends {F S A : Type 0} (run : ℕ → Ran F S A) (left bound : ℕ) (Good : A → S → Type 0) : Type 0 where
  pub within : left ≤ bound
  pub taken : ℕ
  pub value : A
  pub state : S
  pub comes : Comes run taken value state
  pub good : Good value state

-- under some bound the whole program ends inside the run, with this status and at these events
pub record Halts {F S A E : Type 0} (run : ℕ → Ran F S A) (events_of : S → E) (status : ℤ) (events : E) : Type 0 where
  pub taken : ℕ
  pub state : S
  pub halts : run taken ≡ halted status state
  pub same : events_of state ≡ events

-- under some bound the run goes on, at these events
pub record GoesOn {F S A E : Type 0} (run : ℕ → Ran F S A) (events_of : S → E) (events : E) : Type 0 where
  pub taken : ℕ
  pub state : S
  pub goes : run taken ≡ out state
  pub same : events_of state ≡ events

-- a piece of the target, under a bound, shows what the source shows under some bound: where it came to its end,
-- so does the source, and results and states stand to each other; where the program ended, it ended with the
-- same status; and where it goes on, the source goes on at the same events
abbrev pub Backed : {F G S T A B E : Type 0} → (S → E) → (T → E) → (A → S → B → T → Type 0) → (ℕ → Ran F S A) → ℕ → Ran G T B → Type 0
Backed events_of events_in Good source bound (came value state left) = Ends source left bound (λ first before. Good first before value state)
Backed events_of events_in Good source bound (halted status state) = Halts source events_of status (events_in state)
Backed events_of events_in Good source bound (bad fault state) = ⊥
Backed events_of events_in Good source bound (out state) = GoesOn source events_of (events_in state)

-- a piece of the target shows these events, and nothing of its bound is left
abbrev pub Rests : {G T B E : Type 0} → (T → E) → E → Ran G T B → Type 0
Rests events_in events (came value state left) = (left ≡ 0) × (events_in state ≡ events)
Rests events_in events (halted status state) = events_in state ≡ events
Rests events_in events (bad fault state) = events_in state ≡ events
Rests events_in events (out state) = events_in state ≡ events

-- under some bound the run shows these events, with nothing of the bound left
pub record Shows {G T B E : Type 0} (run : ℕ → Ran G T B) (events_in : T → E) (events : E) : Type 0 where
  pub bound : ℕ
  pub rests : Rests events_in events (run bound)

-- what a piece of the source shows under a bound, the target shows under some bound: where the source came to its
-- end, so does the target, and results and states stand to each other; where the program ended, it ends with the
-- same status; where the source goes on, the target shows the same events. After a step that has no meaning
-- nothing is owed
abbrev pub Reached : {F G S T A B E : Type 0} → (S → E) → (T → E) → (A → S → B → T → Type 0) → (ℕ → Ran G T B) → ℕ → Ran F S A → Type 0
Reached events_of events_in Good target bound (came value state left) = Ends target left bound (λ second after. Good value state second after)
Reached events_of events_in Good target bound (halted status state) = Halts target events_in status (events_of state)
Reached events_of events_in Good target bound (bad fault state) = ⊤
Reached events_of events_in Good target bound (out state) = Shows target events_in (events_of state)

-- both halves, below a bound of the target and a bound of the source
pub record Owes {F G S T A B E : Type 0} (events_of : S → E) (events_in : T → E) (Good : A → S → B → T → Type 0)
    (target_bound source_bound : ℕ) (source : ℕ → Ran F S A) (target : ℕ → Ran G T B) : Type 0 where
  pub safe : (n : ℕ) → n < target_bound → Fails source ⊎ Backed events_of events_in Good source n (target n)
  pub reaches : (m : ℕ) → m < source_bound → Reached events_of events_in Good target m (source m)
