-- Steps of typed nodes whose operands are finished: what they give and leave.
use Rattle.std.proofs.Common.{◌≡◌, ◌<◌, Bool, true, false, List, [], ◌∷◌, Option, Some, None, Result, Ok, Err, refl, sym, ap, subst, arith}
use Rattle.cr_base.specs.declared.refusal.Place.{Place}
use Rattle.cx_core.specs.Trees.{type_of, CTy, CExpr, CExprs, no_exprs, more_exprs}
use Rattle.cx_core.specs.Typing.{CHome}
use Rattle.cx_mean.proofs.KeptNodes.{IfGiven}
use Rattle.cx_mean.specs.Calls.{CCalling}
use Rattle.cx_mean.specs.Nodes.{CDone, CUpdating}
use Rattle.cx_mean.specs.Operands.{CWhy, CValue, COperand, Frame}
use Rattle.cx_mean.specs.Settings.{setting_of}
use Rattle.cx_mean.specs.Steps.{did, CStepped, at_node, did_done, did_update, did_call, outcome_of, needs_step, step_among, nowhere}
use Rattle.cx_mean.specs.Work.{CUpdate, CStage, was_loaded, CWork, finished, needs, waits, CWorks, no_works, more_works, are_finished, are_waiting, operands_in, ready_among, one_or}
use Rattle.cx_typed_work.proofs.AskingOnce.{steps_ask_once}
use Rattle.cx_typed_work.proofs.Resuming.{calls_resume_typed}
use Rattle.cx_typed_work.proofs.Stepping.{steps_keep_typed}
use Rattle.cx_typed_work.specs.Calls.{IsTypedCall, IsReturned}
use Rattle.cx_typed_work.specs.Operands.{IsOperandOf}
use Rattle.cx_typed_work.specs.Scenes.{IsScene, IsTypedMemory, AreSameShapes}
use Rattle.cx_typed_work.specs.Steps.{StepLeaves, AsksOnce}
use Rattle.cx_typed_work.specs.Works.{operands_of, IfOperands, IsUpdateOf, IsWorkOf, AreWorksOf, IsTypedNode}
use Rattle.mem_bytes.specs.Memory.{Blocks}

-- ---- finished operands

abbrev pub all_finished : List COperand → CWorks
all_finished [] = no_works
all_finished (one ∷ others) = more_works (finished one) (all_finished others)

pub finished_all : (operands : List COperand) → are_finished (all_finished operands) ≡ true
finished_all [] = refl
finished_all (one ∷ others) = finished_all others

pub operands_all : (operands : List COperand) → operands_in (all_finished operands) ≡ operands
operands_all [] = refl
operands_all (one ∷ others) = ap (λ rest. one ∷ rest) (operands_all others)

-- operands of typed expressions, one for each
abbrev pub AreOperandsOf : CHome → CExprs → List COperand → Type 0
AreOperandsOf home no_exprs [] = Unit {0}
AreOperandsOf home no_exprs (one ∷ others) = ⊥
AreOperandsOf home (more_exprs part parts) [] = ⊥
AreOperandsOf home (more_exprs part parts) (one ∷ others) = IsOperandOf home part one × AreOperandsOf home parts others

pub works_all : (home : CHome) (parts : CExprs) (operands : List COperand) → AreOperandsOf home parts operands → AreWorksOf home parts (all_finished operands)
works_all home no_exprs [] are = tt
works_all home no_exprs (one ∷ others) are = absurd are
works_all home (more_exprs part parts) [] are = absurd are
works_all home (more_exprs part parts) (one ∷ others) are = (are.0, works_all home parts others are.1)

-- ---- nodes

-- the step of a node whose operands are finished
pub needs_typed : (home : CHome) (frame : Frame) (blocks : Blocks) (node : CExpr) (operands : List COperand) → IsScene home frame blocks → IsTypedNode home node →
    IfOperands (operands_of node) (λ parts. AreOperandsOf home parts operands) → StepLeaves home node blocks (needs_step (setting_of home.program) frame blocks node operands)
needs_typed home frame blocks node operands scene typed are =
    subst (λ list. StepLeaves home node blocks (needs_step (setting_of home.program) frame blocks node list)) (operands_all operands)
    (subst (λ (b : Bool). StepLeaves home node blocks (elim b as (λ _. CStepped) [
      | true ↦ needs_step (setting_of home.program) frame blocks node (operands_in (all_finished operands))
      | false ↦ step_among (setting_of home.program) frame blocks 0 (all_finished operands) (nowhere node) (needs node)
    ])) (finished_all operands)
    (steps_keep_typed home node frame blocks (needs node (all_finished operands)) 0 scene (record { typed = typed; left = (refl, works (operands_of node) are) })
    (subst (λ (b : Bool). 0 < one_or b (ready_among (all_finished operands))) (sym (finished_all operands)) (omega arith))))
  where
    works : (parts : Option CExprs) → IfOperands parts (λ all. AreOperandsOf home all operands) → IfOperands parts (λ all. AreWorksOf home all (all_finished operands))
    works None are = are
    works (Some parts) are = works_all home parts operands are

-- what a step leaves that finishes the node
pub record IsDoneAs (home : CHome) (node : CExpr) (type : CTy) (blocks : Blocks) (one : CDone) : Type 0 where
  pub operand_is : IsOperandOf home node (record { type = type; value = one.value; marks = one.marks })
  pub shapes : AreSameShapes blocks one.blocks
  pub memory : IsTypedMemory home.program one.blocks

pub done_leaves : (home : CHome) (node : CExpr) (type : CTy) (place : Place) (blocks : Blocks) (outcome : Result CDone CWhy) → StepLeaves home node blocks (at_node place (outcome_of (did_done type) outcome)) →
    IfGiven (IsDoneAs home node type blocks) outcome
done_leaves home node type place blocks (Ok one) leaves = record { operand_is = leaves.0.left; shapes = leaves.1; memory = leaves.2 }
done_leaves home node type place blocks (Err why) leaves = tt

-- `op=`, `++` and `--`
pub updating_leaves : (home : CHome) (node : CExpr) (place : Place) (blocks : Blocks) (outcome : Result CUpdating CWhy) → StepLeaves home node blocks (at_node place (outcome_of (did_update node blocks) outcome)) →
    IfGiven (λ (one : CUpdating). IsUpdateOf home node one.update was_loaded) outcome
updating_leaves home node place blocks (Ok one) leaves = leaves.0.left.1
updating_leaves home node place blocks (Err why) leaves = tt

pub stage_leaves : {A : Type 0} (home : CHome) (node : CExpr) (place : Place) (blocks : Blocks) (update : CUpdate) (stage : A → CStage) (after : CStage → CWork) (outcome : Result A CWhy) →
    ((one : CStage) → IsWorkOf home node (after one) → IsUpdateOf home node update one) →
    StepLeaves home node blocks (at_node place (outcome_of (λ one. did (after (stage one)) blocks) outcome)) → IfGiven (λ (one : A). IsUpdateOf home node update (stage one)) outcome
stage_leaves home node place blocks update stage after (Ok one) by leaves = by (stage one) leaves.0.left
stage_leaves home node place blocks update stage after (Err why) by leaves = tt

-- calls
pub record IsCallAs (home : CHome) (node : CExpr) (one : CCalling) : Type 0 where
  pub typed : IsTypedCall home.program one.called
  pub resumes : (value : CValue) → IsReturned home.program one.called.type value → IsWorkOf home node (finished (record { type = type_of node; value = value; marks = one.marks }))

none_waits : (operands : List COperand) → are_waiting (all_finished operands) ≡ false
none_waits [] = refl
none_waits (one ∷ others) = none_waits others

-- such a step asks for no other call than that of the node
pub needs_asks : (home : CHome) (frame : Frame) (blocks : Blocks) (node : CExpr) (operands : List COperand) → AsksOnce (needs_step (setting_of home.program) frame blocks node operands)
needs_asks home frame blocks node operands =
    subst (λ list. AsksOnce (needs_step (setting_of home.program) frame blocks node list)) (operands_all operands)
    (subst (λ (b : Bool). AsksOnce (elim b as (λ _. CStepped) [
      | true ↦ needs_step (setting_of home.program) frame blocks node (operands_in (all_finished operands))
      | false ↦ step_among (setting_of home.program) frame blocks 0 (all_finished operands) (nowhere node) (needs node)
    ])) (finished_all operands)
    (steps_ask_once (setting_of home.program) frame blocks (needs node (all_finished operands)) 0 (none_waits operands)))

pub call_leaves : (home : CHome) (node : CExpr) (place : Place) (blocks : Blocks) (outcome : Result CCalling CWhy) →
    StepLeaves home node blocks (at_node place (outcome_of (did_call node) outcome)) → AsksOnce (at_node place (outcome_of (did_call node) outcome)) → IfGiven (IsCallAs home node) outcome
call_leaves home node place blocks (Ok one) leaves asks = record {
  typed = leaves.1;
  resumes = λ value returned. (calls_resume_typed home node one.called.type (waits node one.marks) value leaves.0 asks.1 returned).left;
}
call_leaves home node place blocks (Err why) leaves asks = tt
