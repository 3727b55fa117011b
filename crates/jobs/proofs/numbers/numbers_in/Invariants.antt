use Rattle.std.proofs.Common.{◌≡◌, length}
use denote.Text.{Utf8}
use denote.Shadow.{shadow}
use Rattle.jobs.specs.Numbers.{parts_of, numbers_of}
use Rattle.jobs.proofs.NumberLaws.{joined}
use Rattle.jobs.proofs.numbers.numbers_in.Given as goal

abbrev pub invariant-loop-first : goal.invariant-loop-first
invariant-loop-first l = shadow (Utf8 l.left)
    × (numbers_of l.digits (parts_of l.word) ≡ joined l.numbers (numbers_of l.digits (parts_of l.left)))

abbrev pub decreases-loop-first : goal.decreases-loop-first
decreases-loop-first l = length l.left
