-- What reads at most so deep reads what is less deep.
use Rattle.std.proofs.Common.{Result, ℕ, ◌-◌, ◌≤◌, arith}
use denote.Ref.{MutBor}
use Rattle.cx_cursor.specs.Reading.{State}
use Rattle.cx_cursor.specs.declared.fault.Fault.{Fault}
use Rattle.cx_expr.specs.Asked.{IsBelow}
use Rattle.cx_expr.specs.declared.wanted.Found.{Found}
use Rattle.cx_expr.specs.declared.wanted.Wanted.{Wanted}

pub shallower : (pre : MutBor State → ℕ → Wanted → Type 0) (post : MutBor State → ℕ → Wanted → Result Found Fault → MutBor State → Type 0) (depth : ℕ)
    → IsBelow pre post depth → IsBelow pre post (depth - 1)
unfolding IsBelow
shallower pre post depth below = (
  (λ old most wanted within. below.0 old most wanted (omega (arith, within))),
  (λ old most wanted result new within met. below.1 old most wanted result new (omega (arith, within)) met),
)
