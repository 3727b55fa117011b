-- Bounds, and the induction over both.
use Rattle.std.proofs.Common.{ℕ, zero, suc, ◌+◌, ◌<◌, ◌≤◌, arith}
use Rattle.lift_calls.specs.Calls.{CallsOwe, Promise}
use Rattle.lift_calls.specs.Programs.{Setting}

pub calls_shrink : (s : Setting) (units steps fewer less : ℕ) → fewer ≤ units → less ≤ steps → CallsOwe s units steps → CallsOwe s fewer less
calls_shrink s units steps fewer less p q owe = λ images place one tree args given c_world world stands.
    let owes = owe images place one tree args given c_world world stands in
    record { safe = λ n r. owes.safe n (omega (arith, p, r)); reaches = λ m r. owes.reaches m (omega (arith, q, r)) }

pub promise_shrinks : (s : Setting) (units steps fewer less : ℕ) → fewer ≤ units → less ≤ steps → Promise s units steps → Promise s fewer less
promise_shrinks s units steps fewer less p q promise = λ few little r t sum. promise few little (omega (arith, p, r)) (omega (arith, q, t)) (omega (arith, p, q, sum))

-- below a sum of both bounds
calls_below : (s : Setting) → ((units steps : ℕ) → Promise s units steps → CallsOwe s units steps) → (most units steps : ℕ) → units + steps < most → CallsOwe s units steps
calls_below s each zero units steps p = absurd (omega (arith, p))
calls_below s each (suc most) units steps p = each units steps (λ fewer less q r sum. calls_below s each most fewer less (omega (arith, p, sum)))

pub calls_owe : (s : Setting) → ((units steps : ℕ) → Promise s units steps → CallsOwe s units steps) → (units steps : ℕ) → CallsOwe s units steps
calls_owe s each units steps = calls_below s each (suc (units + steps)) units steps (omega arith)
