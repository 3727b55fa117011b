-- Runs under a bound: the one shape of both meanings. A run of C is bounded by steps, a run of a crate by
-- units; both are functions of what is left of the bound.
use Rattle.std.specs.Prelude.{ℕ, zero, suc, ℤ}

-- a piece of a run, with faults F, states S and results A
pub data Ran (F S A : Type 0) : Type 0 where
  -- it came to its end with a result and a state, and so much of the bound is left
  came : A → S → ℕ → Ran F S A
  -- the whole program ended inside it, with a status
  halted : (status : ℤ) → S → Ran F S A
  -- its next step has no meaning, by this fault
  bad : F → S → Ran F S A
  -- it asked for more than the bound
  out : S → Ran F S A

-- one piece after another
abbrev pub bind : {F S A B : Type 0} → Ran F S A → (A → S → ℕ → Ran F S B) → Ran F S B
bind (came value state left) go = go value state left
bind (halted status state) go = halted status state
bind (bad fault state) go = bad fault state
bind (out state) go = out state

-- takes one from the bound
abbrev pub tick : {F S A : Type 0} → S → (ℕ → Ran F S A) → ℕ → Ran F S A
tick state go zero = out state
tick state go (suc left) = go left

-- the state at which a piece stands
abbrev pub state_of : {F S A : Type 0} → Ran F S A → S
state_of (came value state left) = state
state_of (halted status state) = state
state_of (bad fault state) = state
state_of (out state) = state
