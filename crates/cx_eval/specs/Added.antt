-- Ready nodes that were passed among trees.
use Rattle.std.specs.Prelude.{◌≡◌, ℕ, ◌-◌, ◌≤◌, Option, Some, None, Result, Err}
use Rattle.cx_ready.specs.declared.halt.Halt.{Halt}
use Rattle.cx_ready.specs.declared.halt.Halt.TheVariants as halt
use Rattle.cx_ready.specs.declared.halt.Progress.{Progress}

-- so many nodes more were passed than a walk says that began behind them; a sum that 64 bits don't hold ends the walk as want of memory does
abbrev pub Adds : ℕ → (rest : Option ℕ) → (taken : Result Progress Halt) → (sum : Option ℕ) → (later : Result Progress Halt) → Type 0
Adds count rest taken (Some sum) later = (rest ≡ Some (sum - count)) × (count ≤ sum) × (later ≡ taken)
Adds count None taken None later = later ≡ taken
Adds count (Some more) taken None later = later ≡ Err halt.Memory
