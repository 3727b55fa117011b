-- What is found of values, or why nothing is.
use Rattle.std.specs.Prelude.{◌≡◌, ℕ, ◌/◌, ◌^◌, ◌<◌, ℤ, pos, negsuc, Result, Ok, Err}
use Rattle.rs_mean.specs.declared.cause.Cause.{Cause}
use Rattle.rs_mean.specs.Numbers.{shifted}
use Rattle.rs_text.specs.declared.integer.IntegerTy.{IntegerTy}
use Rattle.rs_value.specs.declared.trouble.Trouble.{Trouble}
use Rattle.rs_value.specs.declared.trouble.Trouble.TheVariants.{Wrong, Memory}

-- a result is the one of the meaning; want of memory may come in the place of any
abbrev pub Finds : {A B : Type 0} → (A → B) → Result A Trouble → Result B Cause → Type 0
Finds view (Ok value) found = found ≡ Ok (view value)
Finds view (Err (Wrong why)) found = found ≡ Err why
Finds view (Err Memory) found = Unit {0}

-- a number shifted to the right by so many bits
abbrev pub right_by : ℤ → ℕ → ℤ
right_by (pos n) count = pos (n / 2 ^ count)
right_by (negsuc n) count = negsuc (n / 2 ^ count)

-- a count of bits by which a value of a type may be shifted
abbrev pub Counts : IntegerTy → Result ℕ Trouble → ℤ → Type 0
Counts ty (Ok count) number =
    (count < 64) × ((shift : IntegerTy → ℤ → ℕ → ℤ) (value : ℤ) → shifted shift ty value number ≡ Ok (shift ty value count))
Counts ty (Err (Wrong why)) number = (shift : IntegerTy → ℤ → ℕ → ℤ) (value : ℤ) → shifted shift ty value number ≡ Err why
Counts ty (Err Memory) number = Unit {0}
