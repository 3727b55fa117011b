-- The value of a call takes its place in an expression, which has written what it had.
use Rattle.std.proofs.Common.{◌≡◌, List, ◌++◌, refl, ap, ap₂, ◌∙◌}
use Rattle.cx_mean.proofs.KeptNodes.{IsHeldValue}
use Rattle.cx_mean.proofs.KeptWork.{writes_of, writes_among}
use Rattle.cx_mean.specs.Marks.{Range}
use Rattle.cx_mean.specs.Operands.{CValue}
use Rattle.cx_mean.specs.Work.{CWork, finished, needs, chooses, tests, carries, updates, fills, waits, CWorks, no_works, more_works, resumed, all_resumed}
use Rattle.cx_stays.proofs.HeldTrees.{IsHeldWork, AreHeldWorks, carried_writes, carried_held}

mutual
  pub resumed_writes : (value : CValue) (work : CWork) → writes_of (resumed value work) ≡ writes_of work
  resumed_writes value (finished operand) = refl
  resumed_writes value (needs node operands) = all_resumed_writes value operands
  resumed_writes value (chooses node first) = resumed_writes value first
  resumed_writes value (tests node marks second) = ap (λ (ranges : List Range). marks.writes ++ ranges) (resumed_writes value second)
  resumed_writes value (carries node marks part) =
      carried_writes node marks (resumed value part) ∙ ap (λ (ranges : List Range). marks.writes ++ ranges) (resumed_writes value part)
  resumed_writes value (updates node update stage marks) = refl
  resumed_writes value (fills node marks one others held) = ap (λ (ranges : List Range). marks.writes ++ ranges) (resumed_writes value held)
  resumed_writes value (waits node marks) = refl

  all_resumed_writes : (value : CValue) (works : CWorks) → writes_among (all_resumed value works) ≡ writes_among works
  all_resumed_writes value no_works = refl
  all_resumed_writes value (more_works first others) =
      ap₂ (λ (ranges more : List Range). ranges ++ more) (resumed_writes value first) (all_resumed_writes value others)

mutual
  pub resumed_held : (value : CValue) → IsHeldValue value → (work : CWork) → IsHeldWork work → IsHeldWork (resumed value work)
  resumed_held value held (finished operand) is = is
  resumed_held value held (needs node operands) is = (λ none. ap (all_resumed value) (is.0 none), all_resumed_held value held operands is.1)
  resumed_held value held (chooses node first) is = resumed_held value held first is
  resumed_held value held (tests node marks second) is = resumed_held value held second is
  resumed_held value held (carries node marks part) is = carried_held node marks (resumed value part) (resumed_held value held part is)
  resumed_held value held (updates node update stage marks) is = tt
  resumed_held value held (fills node marks one others given) is = resumed_held value held given is
  resumed_held value held (waits node marks) is = held

  all_resumed_held : (value : CValue) → IsHeldValue value → (works : CWorks) → AreHeldWorks works → AreHeldWorks (all_resumed value works)
  all_resumed_held value held no_works are = tt
  all_resumed_held value held (more_works first others) are = (resumed_held value held first are.0, all_resumed_held value held others are.1)
