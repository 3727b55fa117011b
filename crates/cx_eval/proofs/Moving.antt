-- A step among operands, at the first of them or behind it.
use Rattle.std.proofs.Common.{◌≡◌, refl, ℕ, ◌-◌, ◌<◌, ◌≤◌, nat_lt, true, false, arith}
use Rattle.std.proofs.lemmas.Bool.Decides.{nat_tests}
use Rattle.cx_mean.specs.Operands.{Frame}
use Rattle.cx_mean.specs.Settings.{CSetting}
use Rattle.cx_mean.specs.Steps.{CStepped, inside, step_at, step_among}
use Rattle.cx_mean.specs.Work.{CWork, CWorks, more_works, ready}
use Rattle.mem_bytes.specs.Memory.{Blocks}

less_true : (pick count : ℕ) → pick < count → nat_lt pick count ≡ true
less_true pick count within = grind (arith, nat_tests, within)

less_false : (pick count : ℕ) → count ≤ pick → nat_lt pick count ≡ false
less_false pick count behind = grind (arith, nat_tests, behind)

pub among_first : (setting : CSetting) (frame : Frame) (blocks : Blocks) (pick : ℕ) (first : CWork) (others : CWorks) (none : CStepped) (around : CWorks → CWork) → pick < ready first →
    step_among setting frame blocks pick (more_works first others) none around ≡ inside (λ (work : CWork). around (more_works work others)) (step_at setting frame blocks pick first)
among_first setting frame blocks pick first others none around within = rw (step_among, less_true pick (ready first) within) refl

pub among_rest : (setting : CSetting) (frame : Frame) (blocks : Blocks) (pick : ℕ) (first : CWork) (others : CWorks) (none : CStepped) (around : CWorks → CWork) → ready first ≤ pick →
    step_among setting frame blocks pick (more_works first others) none around ≡
    step_among setting frame blocks (pick - ready first) others none (λ (works : CWorks). around (more_works first works))
among_rest setting frame blocks pick first others none around behind = rw (step_among, less_false pick (ready first) behind) refl
