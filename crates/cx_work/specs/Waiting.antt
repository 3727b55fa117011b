-- How many calls of an expression under evaluation wait for their functions to end.
use Rattle.std.specs.Prelude.{ℕ, ◌+◌}
use Rattle.cx_mean.specs.Work.{CWork, finished, needs, chooses, tests, carries, updates, fills, waits, CWorks, no_works, more_works}

abbrev mutual
  pub waiting_calls : CWork → ℕ
  waiting_calls (finished operand) = 0
  waiting_calls (needs node operands) = waiting_among operands
  waiting_calls (chooses node first) = waiting_calls first
  waiting_calls (tests node marks second) = waiting_calls second
  waiting_calls (carries node marks part) = waiting_calls part
  waiting_calls (updates node update stage marks) = 0
  waiting_calls (fills node marks one others value) = waiting_calls value
  waiting_calls (waits node marks) = 1

  pub waiting_among : CWorks → ℕ
  waiting_among no_works = 0
  waiting_among (more_works first others) = waiting_calls first + waiting_among others
