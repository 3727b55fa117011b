-- Worked examples: a run that takes two of its bound and then gives 7, by itself and before another piece.
use Rattle.std.proofs.Common.{◌≡◌, ℕ, ◌+◌, pos, refl}
use Rattle.cr_runs.specs.Runs.{Ran, came, halted, bad, out, bind, tick}

-- with faults, states and results that are numbers; the state counts what was taken
abbrev two_then_seven : ℕ → Ran ℕ ℕ ℕ
two_then_seven = tick 0 (tick 1 (came 7 2))

-- it asks for more where nothing or one is there, and leaves what it doesn't take
none_there : two_then_seven 0 ≡ out 0
none_there = refl

one_there : two_then_seven 1 ≡ out 1
one_there = refl

five_there : two_then_seven 5 ≡ came 7 2 3
five_there = refl

-- what follows begins with what is left
follows : bind (two_then_seven 5) (λ value state. tick state (came value (state + 1))) ≡ came 7 3 2
follows = refl

-- and isn't begun where the first piece was cut short, ended the program or has no meaning
cut_short : bind {B = ℕ} (two_then_seven 1) (λ value state. bad value) ≡ out 1
cut_short = refl

ended : bind {F = ℕ} {S = ℕ} {A = ℕ} {B = ℕ} (halted (pos 3) 1) (λ value state. bad value) ≡ halted (pos 3) 1
ended = refl

no_meaning : bind {F = ℕ} {S = ℕ} {A = ℕ} {B = ℕ} (bad 9 1) (λ value state. out) ≡ bad 9 1
no_meaning = refl
