-- The rules by which it is shown what one run owes another.
use Rattle.std.proofs.Common.{◌≡◌, ℕ, zero, suc, ◌+◌, ◌<◌, ◌≤◌, ◌⊎◌, inl, inr, ℤ, refl, sym, ap, subst, arith, ◌∙◌}
use Rattle.std.proofs.Math.Path.{fun_ext}
use Rattle.cr_runs.specs.Runs.{Ran, came, halted, bad, out, bind, tick}
use Rattle.cr_runs.specs.Owes.{IsBad, AtEnd, Fails, Comes, Ends, Halts, GoesOn, Backed, Rests, Shows, Reached, Owes}

-- nothing is taken
none_taken : (left : ℕ) → 0 + left ≡ left
none_taken left = omega arith

-- a first part is taken, and then a second
both_taken : (first second left : ℕ) → (first + second) + left ≡ first + (second + left)
both_taken first second left = omega arith

-- one more is taken
one_more_taken : (taken left : ℕ) → suc taken + left ≡ suc (taken + left)
one_more_taken taken left = omega arith

-- an end, under a larger bound
pub ends_within : {F S A : Type 0} {run : ℕ → Ran F S A} {left bound wider : ℕ} {Good : A → S → Type 0} → bound ≤ wider → Ends run left bound Good → Ends run left wider Good
ends_within more e = record { within = omega (arith, more, e.within); taken = e.taken; value = e.value; state = e.state; comes = e.comes; good = e.good }

-- ---- values

-- a run that is a value at once comes to it
come_at_once : {F S A : Type 0} (a : A) (s : S) → Comes {F = F} (came a s) 0 a s
come_at_once a s left = ap (came a s) (none_taken left)

-- a value at once, on both sides
pub values : {F G S T A B E : Type 0} (events_of : S → E) (events_in : T → E) (Good : A → S → B → T → Type 0)
    (n m : ℕ) (a : A) (s : S) (b : B) (t : T) → Good a s b t →
    Owes {F = F} {G = G} events_of events_in Good n m (came a s) (came b t)
values events_of events_in Good n m a s b t good = record {
  safe = λ k _. inr (record { within = omega arith; taken = 0; value = a; state = s; comes = come_at_once a s; good = good });
  reaches = λ k _. record { within = omega arith; taken = 0; value = b; state = t; comes = come_at_once b t; good = good };
}

-- a run that has no meaning at once is owed nothing
pub no_meaning : {F G S T A B E : Type 0} (events_of : S → E) (events_in : T → E) (Good : A → S → B → T → Type 0)
    (n m : ℕ) (f : F) (s : S) (target : ℕ → Ran G T B) →
    Owes {A = A} events_of events_in Good n m (λ k. bad f s) target
no_meaning events_of events_in Good n m f s target = record {
  safe = λ k _. inl (0, tt);
  reaches = λ k _. tt;
}

-- ---- one piece after another

module _ {F S A B : Type 0} (run : ℕ → Ran F S A) (go : A → S → ℕ → Ran F S B) where
  -- under a bound of which the first piece has taken its part
  come_then : (taken : ℕ) (a : A) (s : S) → Comes run taken a s → (left : ℕ) → bind (run (taken + left)) go ≡ go a s left
  come_then taken a s comes left = ap (λ r. bind r go) (comes left)

  -- a step without meaning in what follows
  fails_then : (taken : ℕ) (a : A) (s : S) → Comes run taken a s → Fails (go a s) → Fails (λ k. bind (run k) go)
  fails_then taken a s comes (bound, broken) = (taken + bound, subst IsBad (sym (come_then taken a s comes bound)) broken)

  -- a step without meaning in the first piece
  bad_then : (r : Ran F S A) → IsBad r → IsBad (bind r go)
  bad_then (came value state left) broken = elim broken [ ]
  bad_then (halted status state) broken = elim broken [ ]
  bad_then (bad fault state) broken = broken
  bad_then (out state) broken = elim broken [ ]

  -- an end of what follows is one of both
  ends_then : (taken : ℕ) (a : A) (s : S) → Comes run taken a s → {left bound : ℕ} {Good : B → S → Type 0} → Ends (go a s) left bound Good → Ends (λ k. bind (run k) go) left bound Good
  ends_then taken a s comes e = record {
    within = e.within;
    taken = taken + e.taken;
    value = e.value;
    state = e.state;
    comes = λ left. ap (λ k. bind (run k) go) (both_taken taken e.taken left) ∙ come_then taken a s comes (e.taken + left) ∙ e.comes left;
    good = e.good;
  }

  halts_then : (taken : ℕ) (a : A) (s : S) → Comes run taken a s → {E : Type 0} (events_of : S → E) (status : ℤ) (events : E) → Halts (go a s) events_of status events → Halts (λ k. bind (run k) go) events_of status events
  halts_then taken a s comes events_of status events e = record { taken = taken + e.taken; state = e.state; halts = come_then taken a s comes e.taken ∙ e.halts; same = e.same }

  goes_then : (taken : ℕ) (a : A) (s : S) → Comes run taken a s → {E : Type 0} (events_of : S → E) (events : E) → GoesOn (go a s) events_of events → GoesOn (λ k. bind (run k) go) events_of events
  goes_then taken a s comes events_of events e = record { taken = taken + e.taken; state = e.state; goes = come_then taken a s comes e.taken ∙ e.goes; same = e.same }

  shows_then : (taken : ℕ) (a : A) (s : S) → Comes run taken a s → {E : Type 0} (events_in : S → E) (events : E) → Shows (go a s) events_in events → Shows (λ k. bind (run k) go) events_in events
  shows_then taken a s comes events_in events e = record { bound = taken + e.bound; rests = subst (Rests events_in events) (sym (come_then taken a s comes e.bound)) e.rests }

-- the second piece's share of what the target shows
module _ {F G S T A B C D E : Type 0} (events_of : S → E) (events_in : T → E)
    (Good : A → S → B → T → Type 0) (After : C → S → D → T → Type 0)
    (source : ℕ → Ran F S A) (target : ℕ → Ran G T B) (go : A → S → ℕ → Ran F S C) (on : B → T → ℕ → Ran G T D) (n m : ℕ)
    (first : Owes events_of events_in Good n m source target)
    (silent : (b : B) (t : T) → Rests events_in (events_in t) (on b t 0))
    (second : (a : A) (s : S) (b : B) (t : T) → Good a s b t → Owes events_of events_in After n m (go a s) (on b t))
  where
    abbrev both : ℕ → Ran F S C
    both k = bind (source k) go

    abbrev beside : ℕ → Ran G T D
    beside k = bind (target k) on

    -- what the target shows behind its first piece
    backed_behind : (bound : ℕ) (taken : ℕ) (a : A) (s : S) → Comes source taken a s → (k : ℕ) → k ≤ bound → (r : Ran G T D) → Backed events_of events_in After (go a s) k r → Backed events_of events_in After both bound r
    backed_behind bound taken a s comes k less (came value state left) e = ends_within less (ends_then source go taken a s comes e)
    backed_behind bound taken a s comes k less (halted status state) e = halts_then source go taken a s comes events_of status (events_in state) e
    backed_behind bound taken a s comes k less (bad fault state) e = e
    backed_behind bound taken a s comes k less (out state) e = goes_then source go taken a s comes events_of (events_in state) e

    -- the first piece is cut short by the bound, and so is the whole
    goes_first : (events : E) → GoesOn source events_of events → GoesOn both events_of events
    goes_first events e = record { taken = e.taken; state = e.state; goes = ap (λ r. bind r go) e.goes; same = e.same }

    halts_first : (status : ℤ) (events : E) → Halts source events_of status events → Halts both events_of status events
    halts_first status events e = record { taken = e.taken; state = e.state; halts = ap (λ r. bind r go) e.halts; same = e.same }

    safe_by : (k : ℕ) → k < n → (r : Ran G T B) → Fails source ⊎ Backed events_of events_in Good source k r → Fails both ⊎ Backed events_of events_in After both k (bind r on)
    safe_by k less r (inl (bound, broken)) = inl (bound, bad_then source go (source bound) broken)
    safe_by k less (came value state left) (inr e) = behind ((second e.value e.state value state e.good).safe left (omega (arith, less, e.within)))
      where
        behind : Fails (go e.value e.state) ⊎ Backed events_of events_in After (go e.value e.state) left (on value state left) → Fails both ⊎ Backed events_of events_in After both k (on value state left)
        behind (inl fails) = inl (fails_then source go e.taken e.value e.state e.comes fails)
        behind (inr backed) = inr (backed_behind k e.taken e.value e.state e.comes left e.within (on value state left) backed)
    safe_by k less (halted status state) (inr e) = inr (halts_first status (events_in state) e)
    safe_by k less (bad fault state) (inr e) = elim e [ ]
    safe_by k less (out state) (inr e) = inr (goes_first (events_in state) e)

    -- what the source shows behind its first piece
    reached_behind : (bound : ℕ) (taken : ℕ) (b : B) (t : T) → Comes target taken b t → (k : ℕ) → k ≤ bound → (r : Ran F S C) → Reached events_of events_in After (on b t) k r → Reached events_of events_in After beside bound r
    reached_behind bound taken b t comes k less (came value state left) e = ends_within less (ends_then target on taken b t comes e)
    reached_behind bound taken b t comes k less (halted status state) e = halts_then target on taken b t comes events_in status (events_of state) e
    reached_behind bound taken b t comes k less (bad fault state) e = tt
    reached_behind bound taken b t comes k less (out state) e = shows_then target on taken b t comes events_in (events_of state) e

    -- where the first piece shows events and has nothing left, so does the whole
    rests_first : (events : E) (r : Ran G T B) → Rests events_in events r → Rests events_in events (bind r on)
    rests_first events (came value state left) e = subst (λ k. Rests events_in events (on value state k)) (sym e.0) (subst (λ seen. Rests events_in seen (on value state 0)) e.1 (silent value state))
    rests_first events (halted status state) e = e
    rests_first events (bad fault state) e = e
    rests_first events (out state) e = e

    halts_beside : (status : ℤ) (events : E) → Halts target events_in status events → Halts beside events_in status events
    halts_beside status events e = record { taken = e.taken; state = e.state; halts = ap (λ r. bind r on) e.halts; same = e.same }

    reaches_by : (k : ℕ) → k < m → (r : Ran F S A) → Reached events_of events_in Good target k r → Reached events_of events_in After beside k (bind r go)
    reaches_by k less (came value state left) e = reached_behind k e.taken e.value e.state e.comes left e.within (go value state left) ((second value state e.value e.state e.good).reaches left (omega (arith, less, e.within)))
    reaches_by k less (halted status state) e = halts_beside status (events_of state) e
    reaches_by k less (bad fault state) e = tt
    reaches_by k less (out state) e = record { bound = e.bound; rests = rests_first (events_of state) (target e.bound) e.rests }

    -- one piece after another, on both sides
    pub pieces : Owes events_of events_in After n m both beside
    pieces = record {
      safe = λ k less. safe_by k less (target k) (first.safe k less);
      reaches = λ k less. reaches_by k less (source k) (first.reaches k less);
    }

-- ---- steps and units

module _ {F S A : Type 0} (start : S) (run : ℕ → Ran F S A) where
  -- what comes behind one step
  abbrev ticked : ℕ → Ran F S A
  ticked = tick start run

  comes_later : (taken : ℕ) (a : A) (s : S) → Comes run taken a s → Comes ticked (suc taken) a s
  comes_later taken a s comes left = ap ticked (one_more_taken taken left) ∙ comes left

  ends_later : {left bound : ℕ} {Good : A → S → Type 0} → Ends run left bound Good → Ends ticked left bound Good
  ends_later e = record { within = e.within; taken = suc e.taken; value = e.value; state = e.state; comes = comes_later e.taken e.value e.state e.comes; good = e.good }

  halts_later : {E : Type 0} (events_of : S → E) (status : ℤ) (events : E) → Halts run events_of status events → Halts ticked events_of status events
  halts_later events_of status events e = record { taken = suc e.taken; state = e.state; halts = e.halts; same = e.same }

  goes_later : {E : Type 0} (events_of : S → E) (events : E) → GoesOn run events_of events → GoesOn ticked events_of events
  goes_later events_of events e = record { taken = suc e.taken; state = e.state; goes = e.goes; same = e.same }

  shows_later : {E : Type 0} (events_in : S → E) (events : E) → Shows run events_in events → Shows ticked events_in events
  shows_later events_in events e = record { bound = suc e.bound; rests = e.rests }

module _ {F G S T A B E : Type 0} (events_of : S → E) (events_in : T → E) (Good : A → S → B → T → Type 0) where
  -- the source takes a step more
  backed_later : (s : S) (source : ℕ → Ran F S A) (k : ℕ) (r : Ran G T B) → Backed events_of events_in Good source k r → Backed events_of events_in Good (tick s source) k r
  backed_later s source k (came value state left) e = ends_later s source e
  backed_later s source k (halted status state) e = halts_later s source events_of status (events_in state) e
  backed_later s source k (bad fault state) e = e
  backed_later s source k (out state) e = goes_later s source events_of (events_in state) e

  fails_later : (s : S) (source : ℕ → Ran F S A) (k : ℕ) (r : Ran G T B) → Fails source ⊎ Backed events_of events_in Good source k r → Fails (tick s source) ⊎ Backed events_of events_in Good (tick s source) k r
  fails_later s source k r (inl (bound, broken)) = inl (suc bound, broken)
  fails_later s source k r (inr backed) = inr (backed_later s source k r backed)

  -- the target takes a unit more
  reached_later : (t : T) (target : ℕ → Ran G T B) (k : ℕ) (r : Ran F S A) → Reached events_of events_in Good target k r → Reached events_of events_in Good (tick t target) k r
  reached_later t target k (came value state left) e = ends_later t target e
  reached_later t target k (halted status state) e = halts_later t target events_in status (events_of state) e
  reached_later t target k (bad fault state) e = tt
  reached_later t target k (out state) e = shows_later t target events_in (events_of state) e

  -- what is shown within a bound is shown within one more
  backed_within : (source : ℕ → Ran F S A) (k : ℕ) (r : Ran G T B) → Backed events_of events_in Good source k r → Backed events_of events_in Good source (suc k) r
  backed_within source k (came value state left) e = ends_within (omega arith) e
  backed_within source k (halted status state) e = e
  backed_within source k (bad fault state) e = e
  backed_within source k (out state) e = e

  safe_within : (source : ℕ → Ran F S A) (k : ℕ) (r : Ran G T B) → Fails source ⊎ Backed events_of events_in Good source k r → Fails source ⊎ Backed events_of events_in Good source (suc k) r
  safe_within source k r (inl fails) = inl fails
  safe_within source k r (inr backed) = inr (backed_within source k r backed)

  reached_within : (target : ℕ → Ran G T B) (k : ℕ) (r : Ran F S A) → Reached events_of events_in Good target k r → Reached events_of events_in Good target (suc k) r
  reached_within target k (came value state left) e = ends_within (omega arith) e
  reached_within target k (halted status state) e = e
  reached_within target k (bad fault state) e = tt
  reached_within target k (out state) e = e

  -- a step of the source and a unit of the target together, where both stand at the same events
  pub tick_both : (n m : ℕ) (s : S) (t : T) (source : ℕ → Ran F S A) (target : ℕ → Ran G T B) → events_of s ≡ events_in t →
      Owes events_of events_in Good n m source target → Owes events_of events_in Good (suc n) (suc m) (tick s source) (tick t target)
  tick_both n m s t source target same owes = record { safe = safe; reaches = reaches }
    where
      safe : (k : ℕ) → k < suc n → Fails (tick s source) ⊎ Backed events_of events_in Good (tick s source) k (tick t target k)
      safe zero less = inr (record { taken = 0; state = s; goes = refl; same = same })
      safe (suc k) less = safe_within (tick s source) k (target k) (fails_later s source k (target k) (owes.safe k (omega (arith, less))))

      reaches : (k : ℕ) → k < suc m → Reached events_of events_in Good (tick t target) k (tick s source k)
      reaches zero less = record { bound = 0; rests = sym same }
      reaches (suc k) less = reached_within (tick t target) k (source k) (reached_later t target k (source k) (owes.reaches k (omega (arith, less))))

  -- a step of the source alone; the target shows the events at which the source stands without a unit
  pub tick_source : (n m : ℕ) (s : S) (source : ℕ → Ran F S A) (target : ℕ → Ran G T B) → Rests events_in (events_of s) (target 0) →
      Owes events_of events_in Good n m source target → Owes events_of events_in Good n (suc m) (tick s source) target
  tick_source n m s source target rests owes = record { safe = safe; reaches = reaches }
    where
      safe : (k : ℕ) → k < n → Fails (tick s source) ⊎ Backed events_of events_in Good (tick s source) k (target k)
      safe k less = fails_later s source k (target k) (owes.safe k less)

      reaches : (k : ℕ) → k < suc m → Reached events_of events_in Good target k (tick s source k)
      reaches zero less = record { bound = 0; rests = rests }
      reaches (suc k) less = reached_within target k (source k) (owes.reaches k (omega (arith, less)))

  -- a unit of the target alone, where the source waits at the same events
  pub tick_target : (n m : ℕ) (t : T) (source : ℕ → Ran F S A) (target : ℕ → Ran G T B) → GoesOn source events_of (events_in t) →
      Owes events_of events_in Good n m source target → Owes events_of events_in Good (suc n) m source (tick t target)
  tick_target n m t source target waits owes = record { safe = safe; reaches = reaches }
    where
      safe : (k : ℕ) → k < suc n → Fails source ⊎ Backed events_of events_in Good source k (tick t target k)
      safe zero less = inr waits
      safe (suc k) less = safe_within source k (target k) (owes.safe k (omega (arith, less)))

      reaches : (k : ℕ) → k < m → Reached events_of events_in Good (tick t target) k (source k)
      reaches k less = reached_later t target k (source k) (owes.reaches k less)

-- ---- under other names and bounds, and with less said

module _ {F G S T A B E : Type 0} (events_of : S → E) (events_in : T → E) where
  -- runs that are the same under each bound
  pub renamed : (Good : A → S → B → T → Type 0) (n m : ℕ) (source other : ℕ → Ran F S A) (target beside : ℕ → Ran G T B) →
      ((k : ℕ) → source k ≡ other k) → ((k : ℕ) → target k ≡ beside k) →
      Owes events_of events_in Good n m source target → Owes events_of events_in Good n m other beside
  renamed Good n m source other target beside same alike owes =
      let one : source ≡ other = fun_ext same in
      let two : target ≡ beside = fun_ext alike in
      subst (λ c. Owes events_of events_in Good n m c beside) one (subst (λ r. Owes events_of events_in Good n m source r) two owes)

  -- smaller bounds
  pub below : (Good : A → S → B → T → Type 0) (n m fewer less : ℕ) (source : ℕ → Ran F S A) (target : ℕ → Ran G T B) → fewer ≤ n → less ≤ m →
      Owes events_of events_in Good n m source target → Owes events_of events_in Good fewer less source target
  below Good n m fewer less source target one two owes = record {
    safe = λ k small. owes.safe k (omega (arith, one, small));
    reaches = λ k small. owes.reaches k (omega (arith, two, small));
  }

  backed_by : (Good Other : A → S → B → T → Type 0) → ((a : A) (s : S) (b : B) (t : T) → Good a s b t → Other a s b t) →
      (source : ℕ → Ran F S A) (k : ℕ) (r : Ran G T B) → Backed events_of events_in Good source k r → Backed events_of events_in Other source k r
  backed_by Good Other weaker source k (came value state left) e = record { within = e.within; taken = e.taken; value = e.value; state = e.state; comes = e.comes; good = weaker e.value e.state value state e.good }
  backed_by Good Other weaker source k (halted status state) e = e
  backed_by Good Other weaker source k (bad fault state) e = e
  backed_by Good Other weaker source k (out state) e = e

  safe_with : (Good Other : A → S → B → T → Type 0) → ((a : A) (s : S) (b : B) (t : T) → Good a s b t → Other a s b t) →
      (source : ℕ → Ran F S A) (k : ℕ) (r : Ran G T B) → Fails source ⊎ Backed events_of events_in Good source k r → Fails source ⊎ Backed events_of events_in Other source k r
  safe_with Good Other weaker source k r (inl fails) = inl fails
  safe_with Good Other weaker source k r (inr backed) = inr (backed_by Good Other weaker source k r backed)

  reached_by : (Good Other : A → S → B → T → Type 0) → ((a : A) (s : S) (b : B) (t : T) → Good a s b t → Other a s b t) →
      (target : ℕ → Ran G T B) (k : ℕ) (r : Ran F S A) → Reached events_of events_in Good target k r → Reached events_of events_in Other target k r
  reached_by Good Other weaker target k (came value state left) e = record { within = e.within; taken = e.taken; value = e.value; state = e.state; comes = e.comes; good = weaker value state e.value e.state e.good }
  reached_by Good Other weaker target k (halted status state) e = e
  reached_by Good Other weaker target k (bad fault state) e = tt
  reached_by Good Other weaker target k (out state) e = e

  -- less is said of where both come to their ends
  pub weaker : (Good Other : A → S → B → T → Type 0) → ((a : A) (s : S) (b : B) (t : T) → Good a s b t → Other a s b t) →
      (n m : ℕ) (source : ℕ → Ran F S A) (target : ℕ → Ran G T B) →
      Owes events_of events_in Good n m source target → Owes events_of events_in Other n m source target
  weaker Good Other implied n m source target owes = record {
    safe = λ k less. safe_with Good Other implied source k (target k) (owes.safe k less);
    reaches = λ k less. reached_by Good Other implied target k (source k) (owes.reaches k less);
  }

  -- what each end of the source is known to be may be said, too
  backed_known : (Good : A → S → B → T → Type 0) (Known : A → S → Type 0) (source : ℕ → Ran F S A) (k : ℕ) (r : Ran G T B) → ((bound : ℕ) → AtEnd Known (source bound)) →
      Backed events_of events_in Good source k r → Backed events_of events_in (λ a s b t. Good a s b t × Known a s) source k r
  backed_known Good Known source k (came value state left) ends e = record {
    within = e.within;
    taken = e.taken;
    value = e.value;
    state = e.state;
    comes = e.comes;
    good = (e.good, subst (AtEnd Known) (e.comes 0) (ends (e.taken + 0)));
  }
  backed_known Good Known source k (halted status state) ends e = e
  backed_known Good Known source k (bad fault state) ends e = e
  backed_known Good Known source k (out state) ends e = e

  safe_known : (Good : A → S → B → T → Type 0) (Known : A → S → Type 0) (source : ℕ → Ran F S A) (k : ℕ) (r : Ran G T B) → ((bound : ℕ) → AtEnd Known (source bound)) →
      Fails source ⊎ Backed events_of events_in Good source k r → Fails source ⊎ Backed events_of events_in (λ a s b t. Good a s b t × Known a s) source k r
  safe_known Good Known source k r ends (inl fails) = inl fails
  safe_known Good Known source k r ends (inr backed) = inr (backed_known Good Known source k r ends backed)

  reached_known : (Good : A → S → B → T → Type 0) (Known : A → S → Type 0) (target : ℕ → Ran G T B) (k : ℕ) (r : Ran F S A) → AtEnd Known r →
      Reached events_of events_in Good target k r → Reached events_of events_in (λ a s b t. Good a s b t × Known a s) target k r
  reached_known Good Known target k (came value state left) end e = record { within = e.within; taken = e.taken; value = e.value; state = e.state; comes = e.comes; good = (e.good, end) }
  reached_known Good Known target k (halted status state) end e = e
  reached_known Good Known target k (bad fault state) end e = tt
  reached_known Good Known target k (out state) end e = e

  pub known : (Good : A → S → B → T → Type 0) (Known : A → S → Type 0) (n m : ℕ) (source : ℕ → Ran F S A) (target : ℕ → Ran G T B) → ((bound : ℕ) → AtEnd Known (source bound)) →
      Owes events_of events_in Good n m source target → Owes events_of events_in (λ a s b t. Good a s b t × Known a s) n m source target
  known Good Known n m source target ends owes = record {
    safe = λ k less. safe_known Good Known source k (target k) ends (owes.safe k less);
    reaches = λ k less. reached_known Good Known target k (source k) (ends k) (owes.reaches k less);
  }

-- a piece with nothing behind it
pub bind_came : {F S A : Type 0} (r : Ran F S A) → bind r (λ a s left. came a s left) ≡ r
bind_came (came value state left) = refl
bind_came (halted status state) = refl
bind_came (bad fault state) = refl
bind_came (out state) = refl

-- three pieces, grouped either way
pub bind_bind : {F S A B C : Type 0} (r : Ran F S A) (go : A → S → ℕ → Ran F S B) (on : B → S → ℕ → Ran F S C) →
    bind (bind r go) on ≡ bind r (λ a s k. bind (go a s k) on)
bind_bind (came value state left) go on = refl
bind_bind (halted status state) go on = refl
bind_bind (bad fault state) go on = refl
bind_bind (out state) go on = refl

-- a step in front of two pieces
pub bind_tick : {F S A B : Type 0} (start : S) (run : ℕ → Ran F S A) (go : A → S → ℕ → Ran F S B) (k : ℕ) →
    bind (tick start run k) go ≡ tick start (λ left. bind (run left) go) k
bind_tick start run go zero = refl
bind_tick start run go (suc k) = refl
