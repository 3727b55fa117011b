-- What a step of a typed program comes to.
use Rattle.std.specs.Prelude.{Result, Ok, Err}
use Rattle.cx_numbers.specs.Numbers.{CWhy, breaks, stuck}

-- a result of which this holds, or a broken rule; it is never stuck
abbrev pub Comes : {A : Type 0} → (A → Type 0) → Result A CWhy → Type 0
Comes Holds (Ok value) = Holds value
Comes Holds (Err (breaks rule)) = Unit {0}
Comes Holds (Err stuck) = ⊥
