-- The rules by which it is shown what one run owes another, as laws: of every kind of faults F and G, states S
-- and T, results A and B (C and D behind them) and events E. How results and states are to stand to each other is
-- any test of them.
use Rattle.std.specs.Prelude.{◌≡◌, ℕ, suc, ◌≤◌, Bool, IsTrue}
use Rattle.cr_runs.specs.Runs.{Ran, came, bad, bind, tick}
use Rattle.cr_runs.specs.Owes.{AtEnd, Owes, GoesOn, Rests}

-- results and states pass a test
abbrev pub Passes : {S T A B : Type 0} → (A → S → B → T → Bool) → A → S → B → T → Type 0
Passes test a s b t = IsTrue (test a s b t)

-- values at once that stand to each other
abbrev pub ValuesOwe : (F G S T A B E : Type 0) → Type 0
ValuesOwe F G S T A B E =
    (events_of : S → E) (events_in : T → E) (good : A → S → B → T → Bool)
    (n m : ℕ) (a : A) (s : S) (b : B) (t : T) → Passes good a s b t →
    Owes {F = F} {G = G} events_of events_in (Passes good) n m (came a s) (came b t)

-- whatever the target does where the source has no meaning
abbrev pub NothingOwed : (F G S T A B E : Type 0) → Type 0
NothingOwed F G S T A B E =
    (events_of : S → E) (events_in : T → E) (good : A → S → B → T → Bool)
    (n m : ℕ) (f : F) (s : S) (target : ℕ → Ran G T B) →
    Owes {F = F} {A = A} events_of events_in (Passes good) n m (λ k. bad f s) target

-- one piece after another: the target's second piece shows nothing before it takes a unit
abbrev pub PiecesOwe : (F G S T A B C D E : Type 0) → Type 0
PiecesOwe F G S T A B C D E =
    (events_of : S → E) (events_in : T → E)
    (good : A → S → B → T → Bool) (after : C → S → D → T → Bool)
    (source : ℕ → Ran F S A) (target : ℕ → Ran G T B) (go : A → S → ℕ → Ran F S C) (on : B → T → ℕ → Ran G T D) (n m : ℕ) →
    Owes events_of events_in (Passes good) n m source target →
    ((b : B) (t : T) → Rests events_in (events_in t) (on b t 0)) →
    ((a : A) (s : S) (b : B) (t : T) → Passes good a s b t → Owes events_of events_in (Passes after) n m (go a s) (on b t)) →
    Owes events_of events_in (Passes after) n m (λ k. bind (source k) go) (λ k. bind (target k) on)

-- a step of the source and a unit of the target together
abbrev pub TicksOwe : (F G S T A B E : Type 0) → Type 0
TicksOwe F G S T A B E =
    (events_of : S → E) (events_in : T → E) (good : A → S → B → T → Bool)
    (n m : ℕ) (s : S) (t : T) (source : ℕ → Ran F S A) (target : ℕ → Ran G T B) → events_of s ≡ events_in t →
    Owes events_of events_in (Passes good) n m source target → Owes events_of events_in (Passes good) (suc n) (suc m) (tick s source) (tick t target)

-- a step of the source alone: the target shows the same events without a unit
abbrev pub StepOwes : (F G S T A B E : Type 0) → Type 0
StepOwes F G S T A B E =
    (events_of : S → E) (events_in : T → E) (good : A → S → B → T → Bool)
    (n m : ℕ) (s : S) (source : ℕ → Ran F S A) (target : ℕ → Ran G T B) → Rests events_in (events_of s) (target 0) →
    Owes events_of events_in (Passes good) n m source target → Owes events_of events_in (Passes good) n (suc m) (tick s source) target

-- a unit of the target alone: the source waits at the same events
abbrev pub UnitOwes : (F G S T A B E : Type 0) → Type 0
UnitOwes F G S T A B E =
    (events_of : S → E) (events_in : T → E) (good : A → S → B → T → Bool)
    (n m : ℕ) (t : T) (source : ℕ → Ran F S A) (target : ℕ → Ran G T B) → GoesOn source events_of (events_in t) →
    Owes events_of events_in (Passes good) n m source target → Owes events_of events_in (Passes good) (suc n) m source (tick t target)

-- runs that are the same under each bound
abbrev pub NamesOwe : (F G S T A B E : Type 0) → Type 0
NamesOwe F G S T A B E =
    (events_of : S → E) (events_in : T → E) (good : A → S → B → T → Bool)
    (n m : ℕ) (source other : ℕ → Ran F S A) (target beside : ℕ → Ran G T B) →
    ((k : ℕ) → source k ≡ other k) → ((k : ℕ) → target k ≡ beside k) →
    Owes events_of events_in (Passes good) n m source target → Owes events_of events_in (Passes good) n m other beside

-- less may be said of where both come to their ends, and under smaller bounds
abbrev pub LessOwed : (F G S T A B E : Type 0) → Type 0
LessOwed F G S T A B E =
    (events_of : S → E) (events_in : T → E) (good other : A → S → B → T → Bool)
    (n m fewer less : ℕ) (source : ℕ → Ran F S A) (target : ℕ → Ran G T B) →
    ((a : A) (s : S) (b : B) (t : T) → Passes good a s b t → Passes other a s b t) → fewer ≤ n → less ≤ m →
    Owes events_of events_in (Passes good) n m source target → Owes events_of events_in (Passes other) fewer less source target

-- what each end of the source is known to be may be said, too
abbrev pub EndsAreKnown : (F G S T A B E : Type 0) → Type 0
EndsAreKnown F G S T A B E =
    (events_of : S → E) (events_in : T → E) (good : A → S → B → T → Bool) (is_known : A → S → Bool)
    (n m : ℕ) (source : ℕ → Ran F S A) (target : ℕ → Ran G T B) →
    ((k : ℕ) → AtEnd (λ a s. IsTrue (is_known a s)) (source k)) →
    Owes events_of events_in (Passes good) n m source target →
    Owes events_of events_in (λ a s b t. Passes good a s b t × IsTrue (is_known a s)) n m source target
