-- The rules of these laws, of any relation of results and states.
use Rattle.std.proofs.Common.{◌≡◌, ℕ, suc, pred, ◌+◌, ◌<◌, ◌≤◌, inl, inr, ℤ, refl, sym, ap, subst, arith, ◌∙◌}
use Rattle.cr_runs.specs.Runs.{Ran, came, halted, bad, out, bind, tick}
use Rattle.cr_runs.specs.Owes.{IsBad, Comes, GoesOn, Rests, Reached, Owes}
use Rattle.cr_runs.proofs.Rules.{below, pieces, renamed, tick_both, tick_source, tick_target}
use Rattle.cr_runs_rules.specs.Steps.{StepsTo, LeavesBelow, TakesAStep, Waits}

-- one more is taken
one_more_taken : (taken left : ℕ) → suc taken + left ≡ suc (taken + left)
one_more_taken taken left = omega arith

-- a first part is taken, and then a second
both_taken : (first second left : ℕ) → (first + second) + left ≡ first + (second + left)
both_taken first second left = omega arith

-- ---- steps and units

module _ {F G S T A B E : Type 0} (events_of : S → E) (events_in : T → E) (Good : A → S → B → T → Type 0) where
  -- a step of the source and a unit of the target together
  pub ticks_by : (n m : ℕ) (s : S) (t : T) (source : ℕ → Ran F S A) (target : ℕ → Ran G T B) → events_of s ≡ events_in t →
      Owes events_of events_in Good (pred n) (pred m) source target → Owes events_of events_in Good n m (tick s source) (tick t target)
  ticks_by n m s t source target same owes =
      below events_of events_in Good (suc (pred n)) (suc (pred m)) n m (tick s source) (tick t target) (omega arith) (omega arith)
      (tick_both events_of events_in Good (pred n) (pred m) s t source target same owes)

  pub together : (n m : ℕ) (s : S) (t : T) (source next : ℕ → Ran F S A) (target rest : ℕ → Ran G T B) →
      StepsTo source s next → StepsTo target t rest → events_of s ≡ events_in t →
      Owes events_of events_in Good (pred n) (pred m) next rest → Owes events_of events_in Good n m source target
  together n m s t source next target rest steps units same owes =
      renamed events_of events_in Good n m (tick s next) source (tick t rest) target (λ k. sym (steps k)) (λ k. sym (units k))
      (ticks_by n m s t next rest same owes)

  -- a step of the source alone
  pub alone : (n m : ℕ) (s : S) (source next : ℕ → Ran F S A) (target : ℕ → Ran G T B) →
      StepsTo source s next → Rests events_in (events_of s) (target 0) →
      Owes events_of events_in Good n (pred m) next target → Owes events_of events_in Good n m source target
  alone n m s source next target steps rests owes =
      below events_of events_in Good n (suc (pred m)) n m source target (omega arith) (omega arith)
      (renamed events_of events_in Good n (suc (pred m)) (tick s next) source target target (λ k. sym (steps k)) (λ k. refl)
      (tick_source events_of events_in Good n (pred m) s next target rests owes))

  -- a unit of the target alone
  pub tick_waits : (n m : ℕ) (t : T) (source : ℕ → Ran F S A) (target : ℕ → Ran G T B) → Waits source events_of (events_in t) →
      Owes events_of events_in Good (pred n) m source target → Owes events_of events_in Good n m source (tick t target)
  tick_waits n m t source target (inr waits) owes =
      below events_of events_in Good (suc (pred n)) m n m source (tick t target) (omega arith) (omega arith)
      (tick_target events_of events_in Good (pred n) m t source target waits owes)
  tick_waits n m t source target (inl fails) owes = record { safe = λ k less. inl fails; reaches = λ k less. later k (source k) (owes.reaches k less) }
    where
      later : (k : ℕ) (r : Ran F S A) → Reached events_of events_in Good target k r → Reached events_of events_in Good (tick t target) k r
      later k (came value state left) e = record { within = e.within; taken = suc e.taken; value = e.value; state = e.state; comes = λ more. ap (tick t target) (one_more_taken e.taken more) ∙ e.comes more; good = e.good }
      later k (halted status state) e = record { taken = suc e.taken; state = e.state; halts = e.halts; same = e.same }
      later k (bad fault state) e = tt
      later k (out state) e = record { bound = suc e.bound; rests = e.rests }

  pub unit_alone : (n m : ℕ) (t : T) (source : ℕ → Ran F S A) (target rest : ℕ → Ran G T B) →
      StepsTo target t rest → Waits source events_of (events_in t) →
      Owes events_of events_in Good (pred n) m source rest → Owes events_of events_in Good n m source target
  unit_alone n m t source target rest units waits owes =
      renamed events_of events_in Good n m source source (tick t rest) target (λ k. refl) (λ k. sym (units k))
      (tick_waits n m t source rest waits owes)

-- ---- ends of the whole program

pub halted_owe : {F G S T A B E : Type 0} (events_of : S → E) (events_in : T → E) (Good : A → S → B → T → Type 0)
    (n m : ℕ) (status : ℤ) (s : S) (t : T) → events_of s ≡ events_in t →
    Owes {F = F} {G = G} {A = A} {B = B} events_of events_in Good n m (λ k. halted status s) (λ k. halted status t)
halted_owe events_of events_in Good n m status s t same = record {
  safe = λ k less. inr (record { taken = 0; state = s; halts = refl; same = same });
  reaches = λ k less. record { taken = 0; state = t; halts = refl; same = sym same };
}

-- ---- where the source waits

-- at a step
pub goes_at_a_step : {F S A E : Type 0} (events_of : S → E) (s : S) (source next : ℕ → Ran F S A) → StepsTo source s next → GoesOn source events_of (events_of s)
goes_at_a_step events_of s source next steps = record { taken = 0; state = s; goes = steps 0; same = refl }

bad_in_front : {F S A B : Type 0} (r : Ran F S A) (go : A → S → ℕ → Ran F S B) → IsBad r → IsBad (bind r go)
bad_in_front (came value state left) go broken = elim broken [ ]
bad_in_front (halted status state) go broken = elim broken [ ]
bad_in_front (bad fault state) go broken = broken
bad_in_front (out state) go broken = elim broken [ ]

come_behind : {F S A B : Type 0} (source : ℕ → Ran F S A) (go : A → S → ℕ → Ran F S B) (taken : ℕ) (a : A) (s : S) → Comes source taken a s →
    (left : ℕ) → bind (source (taken + left)) go ≡ go a s left
come_behind source go taken a s comes left = ap (λ r. bind r go) (comes left)

module _ {F S A B E : Type 0} (events_of : S → E) where
  -- in the first of two pieces
  pub waits_in_front : (events : E) (source : ℕ → Ran F S A) (go : A → S → ℕ → Ran F S B) →
      Waits source events_of events → Waits (λ k. bind (source k) go) events_of events
  waits_in_front events source go (inl (bound, broken)) = inl (bound, bad_in_front (source bound) go broken)
  waits_in_front events source go (inr e) = inr (record { taken = e.taken; state = e.state; goes = ap (λ r. bind r go) e.goes; same = e.same })

  -- in the second
  pub waits_behind : (events : E) (source : ℕ → Ran F S A) (go : A → S → ℕ → Ran F S B) (taken : ℕ) (a : A) (s : S) →
      Comes source taken a s → Waits (go a s) events_of events → Waits (λ k. bind (source k) go) events_of events
  waits_behind events source go taken a s comes (inl (bound, broken)) =
      inl (taken + bound, subst IsBad (sym (come_behind source go taken a s comes bound)) broken)
  waits_behind events source go taken a s comes (inr e) =
      inr (record { taken = taken + e.taken; state = e.state; goes = come_behind source go taken a s comes e.taken ∙ e.goes; same = e.same })

-- ---- one piece after another, of which the first leaves less

module _ {F G S T A B C D E : Type 0} (events_of : S → E) (events_in : T → E)
    (Good : A → S → B → T → Type 0) (After : C → S → D → T → Type 0)
    (source : ℕ → Ran F S A) (target : ℕ → Ran G T B) (go : A → S → ℕ → Ran F S C) (on : B → T → ℕ → Ran G T D) (n m : ℕ)
    (takes : TakesAStep source)
    (first : Owes events_of events_in Good n m source target)
    (silent : (b : B) (t : T) → Rests events_in (events_in t) (on b t 0))
    (second : (a : A) (s : S) (b : B) (t : T) → Good a s b t → Owes events_of events_in After n (pred m) (go a s) (on b t))
  where
    abbrev beside : ℕ → Ran G T D
    beside k = bind (target k) on

    behind : (taken : ℕ) (b : B) (t : T) → Comes target taken b t → (left : ℕ) → beside (taken + left) ≡ on b t left
    behind taken b t comes left = ap (λ r. bind r on) (comes left)

    -- what the source shows behind its first piece
    reached_behind : (bound taken : ℕ) (b : B) (t : T) → Comes target taken b t → (k : ℕ) → k ≤ bound → (r : Ran F S C) →
        Reached events_of events_in After (on b t) k r → Reached events_of events_in After beside bound r
    reached_behind bound taken b t comes k less (came value state left) e = record {
      within = omega (arith, less, e.within);
      taken = taken + e.taken;
      value = e.value;
      state = e.state;
      comes = λ more. ap beside (both_taken taken e.taken more) ∙ behind taken b t comes (e.taken + more) ∙ e.comes more;
      good = e.good;
    }
    reached_behind bound taken b t comes k less (halted status state) e = record { taken = taken + e.taken; state = e.state; halts = behind taken b t comes e.taken ∙ e.halts; same = e.same }
    reached_behind bound taken b t comes k less (bad fault state) e = tt
    reached_behind bound taken b t comes k less (out state) e = record {
      bound = taken + e.bound;
      rests = subst (Rests events_in (events_of state)) (sym (behind taken b t comes e.bound)) e.rests;
    }

    -- where the first piece shows events and has nothing left, so does the whole
    rests_first : (events : E) (r : Ran G T B) → Rests events_in events r → Rests events_in events (bind r on)
    rests_first events (came value state left) e =
        subst (λ k. Rests events_in events (on value state k)) (sym e.0) (subst (λ seen. Rests events_in seen (on value state 0)) e.1 (silent value state))
    rests_first events (halted status state) e = e
    rests_first events (bad fault state) e = e
    rests_first events (out state) e = e

    reaches_by : (k : ℕ) → k < m → (r : Ran F S A) → LeavesBelow k r → Reached events_of events_in Good target k r →
        Reached events_of events_in After beside k (bind r go)
    reaches_by k less (came value state left) fewer e =
        reached_behind k e.taken e.value e.state e.comes left e.within (go value state left)
        ((second value state e.value e.state e.good).reaches left (omega (arith, less, fewer)))
    reaches_by k less (halted status state) fewer e = record { taken = e.taken; state = e.state; halts = ap (λ r. bind r on) e.halts; same = e.same }
    reaches_by k less (bad fault state) fewer e = tt
    reaches_by k less (out state) fewer e = record { bound = e.bound; rests = rests_first (events_of state) (target e.bound) e.rests }

    pub pieces_taken : Owes events_of events_in After n m (λ k. bind (source k) go) (λ k. bind (target k) on)
    pieces_taken = record {
      safe = (pieces events_of events_in Good After source target go on n (pred m)
          (below events_of events_in Good n m n (pred m) source target (omega arith) (omega arith) first) silent second).safe;
      reaches = λ k less. reaches_by k less (source k) (takes k) (first.reaches k less);
    }
