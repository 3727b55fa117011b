-- What the calls on numbers answer.
use Rattle.std.specs.Prelude.{◌≡◌, ℤ, pos, negsuc, nat_lt, Bool, false, Result, Ok, Err}
use Rattle.cr_base.specs.declared.scalar.Scalar.{Scalar}
use Rattle.cx_numbers.specs.declared.why.Why.{Why}
use Rattle.cx_numbers.specs.declared.why.Why.TheVariants.{Breaks, Stuck}
use Rattle.cx_numbers.specs.Numbers.{CWhy, breaks, stuck, width_of_scalar}

abbrev why_of : Why → CWhy
why_of (Breaks rule) = breaks rule
why_of Stuck = stuck

abbrev pub outcome_of : Result ℤ Why → Result ℤ CWhy
outcome_of (Ok value) = Ok value
outcome_of (Err why) = Err (why_of why)

-- the answer is what the operator gives
abbrev pub IsNumber : Result ℤ Why → Result ℤ CWhy → Type 0
IsNumber answer number = outcome_of answer ≡ number

-- a number of bits by which a type may be shifted: it isn't negative, and below the width
abbrev pub is_count : Scalar → ℤ → Bool
is_count kind (pos count) = nat_lt count (width_of_scalar kind)
is_count kind (negsuc n) = false
