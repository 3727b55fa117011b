-- An expression that isn't finished, and doesn't wait for a call, has a ready node.
use Rattle.std.proofs.Common.{◌≡◌, ◌⊎◌, inl, inr, ℕ, zero, suc, ◌+◌, ◌<◌, ◌≤◌, Bool, true, false, true≢false, ◌&&◌, ◌||◌, List, [], ◌∷◌, Option, Some, None, refl, sym, ap, subst, ◌∙◌, arith}
use Rattle.cx_core.specs.Trees.{CExpr, CExprs, no_exprs, more_exprs}
use Rattle.cx_core.specs.Typing.{CHome}
use Rattle.cx_mean.specs.Work.{CWork, finished, needs, chooses, tests, carries, updates, fills, waits, CWorks, no_works, more_works, is_finished, are_finished, one_or, ready, ready_among, is_waiting, are_waiting}
use Rattle.cx_typed_work.specs.Steps.{ExpressionsGoOn}
use Rattle.cx_typed_work.specs.Works.{operands_of, first_part, second_part, chosen_parts, value_of_put, IfOperands, IfPart, AnyPart, IsWorkOf, AreWorksOf}

pub either_false : (one other : Bool) → (one || other) ≡ false → (one ≡ false) × (other ≡ false)
either_false true other e = absurd (true≢false e)
either_false false other e = (refl, e)

-- a node is ready itself, or has a ready part
one_ready : (is_ready : Bool) (count : ℕ) → (is_ready ≡ false → 0 < count) → 0 < one_or is_ready count
one_ready true count below = omega arith
one_ready false count below = below refl

abbrev mutual
  -- no part that is carried is finished
  Rests : CWork → Type 0
  Rests (finished operand) = Unit {0}
  Rests (needs node operands) = AllRest operands
  Rests (chooses node first) = Rests first
  Rests (tests node marks second) = Rests second
  Rests (carries node marks part) = (is_finished part ≡ false) × Rests part
  Rests (updates node update stage marks) = Unit {0}
  Rests (fills node marks one others value) = Rests value
  Rests (waits node marks) = Unit {0}

  AllRest : CWorks → Type 0
  AllRest no_works = Unit {0}
  AllRest (more_works first others) = Rests first × AllRest others

first_goes : (one more : ℕ) → 0 < one → 0 < one + more
first_goes one more p = omega (arith, p)

others_go : (one more : ℕ) → 0 < more → 0 < one + more
others_go one more p = omega (arith, p)

-- one of two goes on
either_goes : (first others : Bool) (one more : ℕ) → (first && others) ≡ false → (first ≡ false → 0 < one) → (others ≡ false → 0 < more) → 0 < one + more
either_goes true others one more some goes go = others_go one more (go some)
either_goes false others one more some goes go = first_goes one more (goes refl)

mutual
  goes_on : (work : CWork) → Rests work → is_finished work ≡ false → is_waiting work ≡ false → 0 < ready work
  goes_on (finished operand) rests open_is free = absurd (true≢false open_is)
  goes_on (needs node operands) rests open_is free = one_ready (are_finished operands) (ready_among operands) (λ some. some_go_on operands rests some free)
  goes_on (chooses node first) rests open_is free = one_ready (is_finished first) (ready first) (λ some. goes_on first rests some free)
  goes_on (tests node marks second) rests open_is free = one_ready (is_finished second) (ready second) (λ some. goes_on second rests some free)
  goes_on (carries node marks part) rests open_is free = goes_on part rests.1 rests.0 free
  goes_on (updates node update stage marks) rests open_is free = omega arith
  goes_on (fills node marks one others value) rests open_is free = one_ready (is_finished value) (ready value) (λ some. goes_on value rests some free)
  goes_on (waits node marks) rests open_is free = absurd (true≢false free)

  some_go_on : (works : CWorks) → AllRest works → are_finished works ≡ false → are_waiting works ≡ false → 0 < ready_among works
  some_go_on no_works rests open_is free = absurd (true≢false open_is)
  some_go_on (more_works first others) rests open_is free =
      let apart = either_false (is_waiting first) (are_waiting others) free in
      either_goes (is_finished first) (are_finished others) (ready first) (ready_among others) open_is (λ is. goes_on first rests.0 is apart.0) (λ is. some_go_on others rests.1 is apart.1)

-- of a part, or of one of some parts
part_rests : (home : CHome) (part : Option CExpr) (work : CWork) → ((node : CExpr) → IsWorkOf home node work → Rests work) → IfPart part (λ one. IsWorkOf home one work) → Rests work
part_rests home None work each is = absurd is
part_rests home (Some part) work each is = each part is

any_rests : (home : CHome) (parts : List CExpr) (work : CWork) → ((node : CExpr) → IsWorkOf home node work → Rests work) → AnyPart parts (λ part. IsWorkOf home part work) → Rests work
any_rests home [] work each is = absurd is
any_rests home (part ∷ parts) work each (inl is) = each part is
any_rests home (part ∷ parts) work each (inr is) = any_rests home parts work each is

all_rest : (home : CHome) (parts : Option CExprs) (works : CWorks) → ((those : CExprs) → AreWorksOf home those works → AllRest works) → IfOperands parts (λ those. AreWorksOf home those works) → AllRest works
all_rest home None works each is = absurd is
all_rest home (Some parts) works each is = each parts is

mutual
  -- a typed tree carries no finished part
  rests : (home : CHome) (node : CExpr) (work : CWork) → IsWorkOf home node work → Rests work
  rests home node (finished operand) is = tt
  rests home node (needs own operands) is = all_rest home (operands_of node) operands (λ those are. list_rests home those operands are) is.1
  rests home node (chooses own first) is = part_rests home (first_part node) first (λ part one. rests home part first one) is.1
  rests home node (tests own marks second) is = part_rests home (second_part node) second (λ part one. rests home part second one) is.1
  rests home node (carries own marks chosen) is = (is.1, any_rests home (chosen_parts node) chosen (λ part one. rests home part chosen one) is.2)
  rests home node (updates own update stage marks) is = tt
  rests home node (fills own marks one others value) is = rests home (value_of_put one) value is.2
  rests home node (waits own marks) is = tt

  list_rests : (home : CHome) (parts : CExprs) (works : CWorks) → AreWorksOf home parts works → AllRest works
  list_rests home no_exprs no_works is = tt
  list_rests home no_exprs (more_works work works) is = absurd is
  list_rests home (more_exprs part parts) no_works is = absurd is
  list_rests home (more_exprs part parts) (more_works work works) is = (rests home part work is.0, list_rests home parts works is.1)

pub expressions_go_on : ExpressionsGoOn
expressions_go_on home node work is open_is free = goes_on work (rests home node work is.left) open_is free
