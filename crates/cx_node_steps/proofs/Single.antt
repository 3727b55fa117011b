-- The accesses of one or two operands.
use Rattle.std.proofs.Common.{◌≡◌, refl, false, List, [], ◌∷◌, Ok}
use Rattle.std.proofs.lemmas.List.{append-nil}
use Rattle.cx_mean.specs.Marks.{Range, Marks, no_marks, any_overlap, conflict, both}
use Rattle.cx_mean.specs.Operands.{united}
use Rattle.cx_node_steps.specs.Unites.{united_with}

nothing_meets : (ranges : List Range) → any_overlap ranges [] ≡ false
nothing_meets [] = refl
nothing_meets (first ∷ others) = nothing_meets others

with_nothing : (marks : Marks) → both marks no_marks ≡ marks
with_nothing marks = rw (append-nil marks.reads, append-nil marks.writes, append-nil marks.still) refl

no_conflict : (marks : Marks) → conflict marks no_marks ≡ false
no_conflict marks = rw (nothing_meets marks.writes, nothing_meets marks.reads) refl

pub united_one : (marks : Marks) → united (marks ∷ []) ≡ Ok marks
united_one marks = rw (no_conflict marks, with_nothing marks) refl

pub united_two : (first second : Marks) → united (first ∷ second ∷ []) ≡ united_with first second
united_two first second = rw (united_one second) refl
