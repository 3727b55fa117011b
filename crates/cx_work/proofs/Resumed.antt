-- A tree goes on where a part of it does.
use Rattle.std.proofs.Common.{◌≡◌, refl, sym, ◌∙◌, ap, subst, ℕ, ◌+◌, ◌<◌, List, Bor, Option, Result, Ok, Err, IsErrAnd}
use Rattle.std.proofs.lemmas.Result.{err_from_is_err_and}
use Rattle.cr_base.specs.declared.memory.Memory.{Memory}
use Rattle.cx_core.specs.declared.expr.CoreExpr.{CoreExpr}
use Rattle.cx_core.specs.Trees.{CExpr}
use Rattle.cx_core.specs.Views.{view_expr}
use Rattle.cx_mean.specs.Marks.{Marks}
use Rattle.cx_mean.specs.Operands.{CValue}
use Rattle.cx_mean.specs.Work.{CWork, finished, needs, chooses, tests, carries, updates, fills, waits, carried, resumed, all_resumed}
use Rattle.cx_work.specs.declared.operand.Finished.{Finished}
use Rattle.cx_work.specs.declared.work.Work.{Work}
use Rattle.cx_work.specs.Resumes.{IsFor, at_hand, Resumes, AllResume}
use Rattle.cx_work.specs.Views.{view_work, view_works}
use Rattle.cx_work.specs.Waiting.{waiting_calls, waiting_among}

pub resumed_carried : (node : CExpr) (marks : Marks) (value : CValue) (part : CWork) →
    resumed value (carried node marks part) ≡ carried node marks (resumed value part)
resumed_carried node marks value (finished operand) = refl
resumed_carried node marks value (needs one operands) = refl
resumed_carried node marks value (chooses one first) = refl
resumed_carried node marks value (tests one before second) = refl
resumed_carried node marks value (carries one before inner) = refl
resumed_carried node marks value (updates one update stage before) = refl
resumed_carried node marks value (fills one before entry others held) = refl
resumed_carried node marks value (waits one before) = refl

-- as many calls wait in a part as in the tree around it
same_calls : (around : CWork → CWork) → ((work : CWork) → waiting_calls (around work) ≡ waiting_calls work) → (given old whole : Work) → given ≡ old →
    view_work whole ≡ around (view_work old) → waiting_calls (view_work given) ≡ waiting_calls (view_work whole)
same_calls around counts given old whole given_is whole_is =
    ap (λ (one : Work). waiting_calls (view_work one)) given_is ∙ sym (counts (view_work old)) ∙ ap waiting_calls (sym whole_is)

-- a part goes on, and the tree around it with it
pub resumes_inside : (around : CWork → CWork) → ((value : CValue) (work : CWork) → resumed value (around work) ≡ around (resumed value work)) →
    ((work : CWork) → waiting_calls (around work) ≡ waiting_calls work) →
    (result : Result (Unit {0}) Memory) (before after : Option Finished) (given old new whole left : Work) → given ≡ old →
    view_work whole ≡ around (view_work old) → view_work left ≡ around (view_work new) →
    Resumes result before after (view_work given) (view_work new) → Resumes result before after (view_work whole) (view_work left)
resumes_inside around through counts (Err why) before after given old new whole left given_is whole_is left_is goes =
    subst (λ (count : ℕ). at_hand before < count) (same_calls around counts given old whole given_is whole_is) goes
resumes_inside around through counts (Ok done) before after given old new whole left given_is whole_is left_is goes = (
  λ value held.
      let inner = goes.0 value held in
      (inner.0, left_is ∙ ap around (inner.1 ∙ ap (λ (one : Work). resumed value (view_work one)) given_is) ∙ sym (through value (view_work old)) ∙ ap (resumed value) (sym whole_is)),
  subst (λ (count : ℕ). count + at_hand after ≡ at_hand before) (same_calls around counts given old whole given_is whole_is) goes.1,
)

same_among : (node : Bor CoreExpr) (given old : List Work) (whole : Work) → given ≡ old → view_work whole ≡ needs (view_expr node.now) (view_works old) →
    waiting_among (view_works given) ≡ waiting_calls (view_work whole)
same_among node given old whole given_is whole_is =
    ap (λ (works : List Work). waiting_among (view_works works)) given_is ∙ ap waiting_calls (sym whole_is)

-- a node goes on with its operands
pub all_resume_inside : (node : Bor CoreExpr) (result : Result (Unit {0}) Memory) (before after : Option Finished) (given old new : List Work) (whole left : Work) →
    given ≡ old → view_work whole ≡ needs (view_expr node.now) (view_works old) →
    view_work left ≡ needs (view_expr node.now) (view_works new) →
    AllResume result before after given new → Resumes result before after (view_work whole) (view_work left)
all_resume_inside node (Err why) before after given old new whole left given_is whole_is left_is goes =
    subst (λ (count : ℕ). at_hand before < count) (same_among node given old whole given_is whole_is) goes
all_resume_inside node (Ok done) before after given old new whole left given_is whole_is left_is goes = (
  λ value held.
      let inner = goes.0 value held in
      (inner.0, left_is ∙ ap (needs (view_expr node.now)) (inner.1 ∙ ap (λ (works : List Work). all_resumed value (view_works works)) given_is) ∙ sym (ap (resumed value) whole_is)),
  subst (λ (count : ℕ). count + at_hand after ≡ at_hand before) (same_among node given old whole given_is whole_is) goes.1,
)

-- what it says where it came to its end
pub went_on : (result : Result (Unit {0}) Memory) (done : Unit {0}) (before after : Option Finished) (work left : CWork) → result ≡ Ok done →
    Resumes result before after work left →
    ((value : CValue) → IsFor value before → IsFor value after × (left ≡ resumed value work)) × (waiting_calls work + at_hand after ≡ at_hand before)
went_on result done before after work left is goes = subst (λ (one : Result (Unit {0}) Memory). Resumes one before after work left) is goes

-- what it says where it didn't
pub went_out : (result : Result (Unit {0}) Memory) (why : Memory) (before after : Option Finished) (work left : CWork) → result ≡ Err why →
    Resumes result before after work left → at_hand before < waiting_calls work
went_out result why before after work left is goes = subst (λ (one : Result (Unit {0}) Memory). Resumes one before after work left) is goes

-- nor do the operands then
pub all_went_out : (Q : Memory → Type 0) (result : Result (Unit {0}) Memory) (before after : Option Finished) (works left : List Work) → IsErrAnd result Q →
    at_hand before < waiting_among (view_works works) → AllResume result before after works left
all_went_out Q result before after works left failed less =
    let found = err_from_is_err_and result failed in
    subst (λ (one : Result (Unit {0}) Memory). AllResume one before after works left) (sym found.1) less
