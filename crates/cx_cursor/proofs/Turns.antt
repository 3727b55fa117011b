-- One turn of each loop of steps.
use Rattle.std.proofs.Common.{◌≡◌, ℕ, zero, suc, ◌-◌, ◌<◌, Bool, true, false, Option, Some, None, refl, sym, ap, ◌∙◌, arith}
use Rattle.std.proofs.lemmas.Bool.{cond-true, cond-false}
use Rattle.cx_cursor.specs.Lists.{many}
use Rattle.cx_cursor.specs.Reading.{State, Reader, onward, bind}

module _ {A : Type 0} (stops : A → State → Bool) (step : A → Reader A) where
  pub many_out : (turns : ℕ) (all : A) (state : State) → turns ≡ 0 → many stops step turns all state ≡ None
  unfolding many
  many_out zero all state out = refl
  many_out (suc turns) all state out = absurd (omega arith)

  pub many_stop : (turns : ℕ) (all : A) (state : State) → 0 < turns → stops all state ≡ true → many stops step turns all state ≡ Some (all, state)
  unfolding many
  many_stop zero all state some stop = absurd (omega arith)
  many_stop (suc turns) all state some stop = cond-true (stops all state) _ _ stop

  pub many_goes : (turns : ℕ) (all : A) (state : State) → 0 < turns → stops all state ≡ false
      → many stops step turns all state ≡ bind (step all) (many stops step (turns - 1)) state
  unfolding many
  many_goes zero all state some stop = absurd (omega arith)
  many_goes (suc turns) all state some stop =
      let e : turns ≡ suc turns - 1 = omega arith in
      cond-false (stops all state) _ _ stop ∙ ap (λ (n : ℕ). bind (step all) (many stops step n) state) e

  pub many_next : (turns rest : ℕ) (all next : A) (state after : State) → turns ≡ suc rest → stops all state ≡ false → step all state ≡ Some (next, after)
      → many stops step rest next after ≡ many stops step turns all state
  unfolding many bind
  many_next turns rest all next state after e go read =
      sym (rw (e) (cond-false (stops all state) _ _ go ∙ ap (λ (r : Option (A × State)). onward r (many stops step rest)) read))
