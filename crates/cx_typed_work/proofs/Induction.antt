-- A step at any ready node of a typed tree leaves a typed tree, where the steps of the nodes themselves do (ISO C99, 6.5 and 5.1.2.3).
use Rattle.std.proofs.Common.{◌≡◌, inl, inr, ℕ, ◌+◌, ◌-◌, ◌<◌, nat_lt, Bool, true, false, Option, Some, None, Ok, Err, refl, arith}
use Rattle.std.proofs.lemmas.Bool.Decides.{nat_tests}
use Rattle.cx_core.specs.Trees.{CExpr, expr, whole, null, object, code, load, deref, member, address, convert, unary, binary, and, or, cond, assign, assign_by, step, call, call_by, comma, literal, CExprs, no_exprs, more_exprs}
use Rattle.cx_core.specs.Typing.{CHome, AreTyped}
use Rattle.cx_mean.specs.Operands.{Frame}
use Rattle.cx_mean.specs.Settings.{setting_of}
use Rattle.cx_mean.specs.Steps.{did, asks_call, CStepped, inside, step_at, step_among}
use Rattle.cx_mean.specs.Work.{CWork, CWorks, no_works, more_works, ready, ready_among}
use Rattle.mem_bytes.specs.Memory.{Blocks}
use Rattle.cx_typed_work.specs.Steps.{StepLeaves}
use Rattle.cx_typed_work.specs.Works.{operands_of, IsWorkOf, AreWorksOf, IsTypedNode, IsTypedWork}

-- ---- a step of a part

pub inside_leaves : (home : CHome) (node part : CExpr) (blocks : Blocks) (around : CWork → CWork) (stepped : CStepped) → StepLeaves home part blocks stepped
    → ((work : CWork) → IsTypedWork home part work → IsTypedWork home node (around work)) → StepLeaves home node blocks (inside around stepped)
inside_leaves home node part blocks around (Ok (did work after)) leaves each = (each work leaves.0, leaves.1, leaves.2)
inside_leaves home node part blocks around (Ok (asks_call called work)) leaves each = (each work leaves.0, leaves.1)
inside_leaves home node part blocks around (Err fault) leaves each = leaves

-- ---- the operands of a typed node are typed

abbrev pub EachTyped : CHome → CExprs → Type 0
EachTyped home no_exprs = Unit {0}
EachTyped home (more_exprs first others) = IsTypedNode home first × EachTyped home others

args_typed : (home : CHome) (args : CExprs) → AreTyped home args → EachTyped home args
args_typed home no_exprs are = tt
args_typed home (more_exprs first others) are = (inl are.0, args_typed home others are.1)

abbrev pub OperandsTyped : CHome → Option CExprs → Type 0
OperandsTyped home None = Unit {0}
OperandsTyped home (Some parts) = EachTyped home parts

pub operands_typed : (home : CHome) (node : CExpr) → IsTypedNode home node → OperandsTyped home (operands_of node)
operands_typed home (expr type place (load from)) (inl is) = (inr is.1.0, tt)
operands_typed home (expr type place (load from)) (inr is) = absurd is.2
operands_typed home (expr type place (deref from)) (inl is) = absurd is.1
operands_typed home (expr type place (deref from)) (inr is) = (inl is.2.0, tt)
operands_typed home (expr type place (member of spot)) (inl is) = (inl is.1.0, tt)
operands_typed home (expr type place (member of spot)) (inr is) = (inr is.2.0, tt)
operands_typed home (expr type place (address of)) (inl is) = (inr is.1.0, tt)
operands_typed home (expr type place (address of)) (inr is) = absurd is.2
operands_typed home (expr type place (convert value)) (inl is) = (inl is.1.0, tt)
operands_typed home (expr type place (convert value)) (inr is) = absurd is.2
operands_typed home (expr type place (unary op value)) (inl is) = (inl is.1.0, tt)
operands_typed home (expr type place (unary op value)) (inr is) = absurd is.2
operands_typed home (expr type place (binary op left right)) (inl is) = (inl is.1.0, (inl is.1.1, tt))
operands_typed home (expr type place (binary op left right)) (inr is) = absurd is.2
operands_typed home (expr type place (assign target value)) (inl is) = (inr is.1.0, (inl is.1.1, tt))
operands_typed home (expr type place (assign target value)) (inr is) = absurd is.2
operands_typed home (expr type place (assign_by op computes target value)) (inl is) = (inr is.1.0, (inl is.1.1, tt))
operands_typed home (expr type place (assign_by op computes target value)) (inr is) = absurd is.2
operands_typed home (expr type place (step up post on)) (inl is) = (inr is.1.0, tt)
operands_typed home (expr type place (step up post on)) (inr is) = absurd is.2
operands_typed home (expr type place (call callee args)) (inl is) = args_typed home args is.1.0
operands_typed home (expr type place (call callee args)) (inr is) = absurd is.2
operands_typed home (expr type place (call_by callee args)) (inl is) = (inl is.1.0, args_typed home args is.1.1)
operands_typed home (expr type place (call_by callee args)) (inr is) = absurd is.2
operands_typed home (expr type place (literal number puts)) is = tt
operands_typed home (expr type place (whole value)) is = tt
operands_typed home (expr type place null) is = tt
operands_typed home (expr type place (object number)) is = tt
operands_typed home (expr type place (code number)) is = tt
operands_typed home (expr type place (and left right)) is = tt
operands_typed home (expr type place (or left right)) is = tt
operands_typed home (expr type place (cond test first second)) is = tt
operands_typed home (expr type place (comma first second)) is = tt

-- ---- a step among operands

below_rest : (pick one more : ℕ) → pick < one + more → nat_lt pick one ≡ false → pick - one < more
below_rest pick one more below past = grind (arith, nat_tests, below, past)

below_first : (pick one : ℕ) → nat_lt pick one ≡ true → pick < one
below_first pick one e = grind (arith, nat_tests, e)

-- a step at each ready node of a part leaves it typed
abbrev pub PartSteps : CHome → Frame → Blocks → CWork → Type 0
PartSteps home frame blocks work = (part : CExpr) (pick : ℕ) → IsTypedNode home part → IsWorkOf home part work → pick < ready work → StepLeaves home part blocks (step_at (setting_of home.program) frame blocks pick work)

abbrev pub EachSteps : CHome → Frame → Blocks → CWorks → Type 0
EachSteps home frame blocks no_works = Unit {0}
EachSteps home frame blocks (more_works first others) = PartSteps home frame blocks first × EachSteps home frame blocks others

pub among_leaves : (home : CHome) (frame : Frame) (blocks : Blocks) (node : CExpr) (parts : CExprs) (works : CWorks) (pick : ℕ) (none : CStepped) (around : CWorks → CWork) → EachTyped home parts → AreWorksOf home parts works
    → EachSteps home frame blocks works → pick < ready_among works → ((after : CWorks) → AreWorksOf home parts after → IsTypedWork home node (around after))
    → StepLeaves home node blocks (step_among (setting_of home.program) frame blocks pick works none around)
among_leaves home frame blocks node no_exprs no_works pick none around typed are steps below each = absurd (omega (arith, below))
among_leaves home frame blocks node no_exprs (more_works first others) pick none around typed are steps below each = absurd are
among_leaves home frame blocks node (more_exprs part parts) no_works pick none around typed are steps below each = absurd are
among_leaves home frame blocks node (more_exprs part parts) (more_works first others) pick none around typed are steps below each =
    by (nat_lt pick (ready first)) refl (λ past.
    among_leaves home frame blocks node parts others (pick - ready first) none (λ works. around (more_works first works)) typed.1 are.1 steps.1 (below_rest pick (ready first) (ready_among others) below past)
    (λ after is. each (more_works first after) (are.0, is)))
  where
    behind : CStepped
    behind = step_among (setting_of home.program) frame blocks (pick - ready first) others none (λ works. around (more_works first works))

    by : (test : Bool) → nat_lt pick (ready first) ≡ test → (nat_lt pick (ready first) ≡ false → StepLeaves home node blocks behind)
        → StepLeaves home node blocks (elim test as (λ _. CStepped) [
          | true ↦ inside (λ work. around (more_works work others)) (step_at (setting_of home.program) frame blocks pick first)
          | false ↦ behind
        ])
    by true e rest =
        inside_leaves home node part blocks (λ work. around (more_works work others)) (step_at (setting_of home.program) frame blocks pick first)
        (steps.0 part pick typed.0 are.0 (below_first pick (ready first) e)) (λ work is. each (more_works work others) (is.left, are.1))
    by false e rest = rest e
