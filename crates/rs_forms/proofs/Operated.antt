-- What operators find of values, as steps.
use Rattle.std.proofs.Common.{refl, ◌≡◌, sym, subst, Result, Ok, Err}
use Rattle.rs_mean.specs.declared.cause.Cause.{Cause}
use Rattle.rs_mean.specs.World.{or_fails}
use Rattle.rs_value.specs.Finds.{Finds}
use Rattle.rs_value.specs.declared.trouble.Trouble.{Trouble}
use Rattle.rs_value.specs.declared.trouble.Trouble.TheVariants as trouble
use Rattle.rs_machine.specs.Does.{gives, stops, Stopped, stopped_of, went_wrong, Does, Stays}
use Rattle.rs_machine.proofs.Rules.{pure_does, fails_does, memory_does}

pub value_found : {A B : Type 0} (view : A → B) (found : Result B Cause) (value : A) → Finds view (Ok value) found → Stays (or_fails found) (gives (view value))
value_found view found value is = λ at. subst (λ (one : Result _ Cause). Does (or_fails one) (gives (view value)) at at) (sym is) (pure_does (view value) at)

pub none_found : {A B : Type 0} (view : A → B) (found : Result B Cause) (why : Trouble) (stop : Stopped) → Finds {A = A} view (Err why) found → stop ≡ stopped_of why →
    Stays (or_fails found) (stops stop)
none_found view found (trouble.Wrong why) stop finds is = λ at.
    subst (λ (one : Stopped). Does (or_fails found) (stops one) at at) (sym is)
    (subst (λ (one : Result _ Cause). Does (or_fails one) (stops (went_wrong why)) at at) (sym finds) (fails_does why at))
none_found view found trouble.Memory stop finds is = λ at.
    subst (λ (one : Stopped). Does (or_fails found) (stops one) at at) (sym is) (memory_does (or_fails found) at at refl)
