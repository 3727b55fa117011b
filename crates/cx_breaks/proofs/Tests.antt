-- Small facts on tests.
use Rattle.std.proofs.Common.{◌≡◌, refl, Bool, true, false}
use Rattle.std.specs.Prelude.{◌||◌}

pub or_first : (a b r : Bool) → r ≡ a → r ≡ true → r ≡ (a || b)
or_first a b r is holds = rw (← is, holds) refl

pub or_second : (a b r s : Bool) → r ≡ a → r ≡ false → s ≡ b → s ≡ (a || b)
or_second a b r s is fails same = rw (← is, fails) same
