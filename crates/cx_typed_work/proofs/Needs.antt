-- The steps of nodes whose operands are finished, form by form (ISO C99, 6.5).
use Rattle.std.proofs.Common.{◌≡◌, inl, inr, Bool, true, false, ◌&&◌, List, [], ◌∷◌, Result, refl, sym, subst}
use Rattle.cr_base.specs.declared.refusal.Place.{Place}
use Rattle.cr_base.specs.declared.layout.Spot.{Spot}
use Rattle.cx_core.specs.Trees.{CTy, ty, CTyForm, CExpr, expr, CForm, whole, null, object, code, load, deref, member, address, convert, unary, binary, and, or, cond, assign, assign_by, step, call, call_by, comma, literal, CExprs, no_exprs, more_exprs, CPuts}
use Rattle.cx_core.specs.Typing.{CHome, IsTyped, IsLvalue}
use Rattle.cx_mean.specs.Nodes.{CDone, CUpdating, node_done, node_updating}
use Rattle.cx_mean.specs.Operands.{CWhy, COperand, Frame}
use Rattle.cx_mean.specs.Settings.{setting_of}
use Rattle.cx_mean.specs.Steps.{CStepped, at_node, outcome_of, did_done, did_update, needs_step}
use Rattle.cx_mean.specs.Work.{CWork, finished, needs, chooses, tests, carries, updates, fills, waits, CWorks, no_works, more_works, is_finished, are_finished, operands_in, was_loaded}
use Rattle.mem_bytes.specs.Memory.{Blocks}
use Rattle.cx_typed_values.specs.Outcomes.{Comes}
use Rattle.cx_typed_work.proofs.Choices.{DidLeaves, at_node_leaves, did_here}
use Rattle.cx_typed_work.proofs.Members.{member_done}
use Rattle.cx_typed_work.proofs.NodeSteps.{load_done, assign_done, deref_done, convert_done, one_operand_done, two_operands_done, address_done}
use Rattle.cx_typed_work.proofs.Nodes.{IsDoneOf}
use Rattle.cx_typed_work.proofs.Outcomes.{comes_and}
use Rattle.cx_typed_work.proofs.Updating.{assign_by_begins, step_begins}
use Rattle.cx_typed_work.specs.Operands.{IsOperandOf}
use Rattle.cx_typed_work.specs.Scenes.{IsScene, IsTypedMemory}
use Rattle.cx_typed_work.specs.Steps.{StepLeaves}
use Rattle.cx_typed_work.specs.Works.{one_operand, operands_of, IfOperands, IsUpdateOf, IsWorkOf, AreWorksOf, IsTypedNode}

-- ---- finished operands

by_finished : (work : CWork) (Goal : CWork → Type 0) → is_finished work ≡ true → ((one : COperand) → Goal (finished one)) → Goal work
by_finished (finished operand) Goal all go = go operand
by_finished (needs own operands) Goal all go = cc (all)
by_finished (chooses own first) Goal all go = cc (all)
by_finished (tests own marks second) Goal all go = cc (all)
by_finished (carries own marks part) Goal all go = cc (all)
by_finished (updates own update stage marks) Goal all go = cc (all)
by_finished (fills own marks one others value) Goal all go = cc (all)
by_finished (waits own marks) Goal all go = cc (all)

both_true : (one other : Bool) → (one && other) ≡ true → (one ≡ true) × (other ≡ true)
both_true true other e = (refl, e)
both_true false other e = cc (e)

one_finished : (home : CHome) (part : CExpr) (works : CWorks) (Goal : List COperand → Type 0) → AreWorksOf home (one_operand part) works → are_finished works ≡ true
    → ((one : COperand) → IsOperandOf home part one → Goal (one ∷ [])) → Goal (operands_in works)
one_finished home part no_works Goal are all go = absurd are
one_finished home part (more_works work no_works) Goal are all go =
    by_finished work (λ one. IsWorkOf home part one → Goal (operands_in (more_works one no_works))) (both_true (is_finished work) true all).0 (λ one given. go one given) are.0
one_finished home part (more_works work (more_works next others)) Goal are all go = absurd are.1

two_finished : (home : CHome) (left right : CExpr) (works : CWorks) (Goal : List COperand → Type 0) → AreWorksOf home (more_exprs left (one_operand right)) works → are_finished works ≡ true
    → ((one other : COperand) → IsOperandOf home left one → IsOperandOf home right other → Goal (one ∷ other ∷ [])) → Goal (operands_in works)
two_finished home left right no_works Goal are all go = absurd are
two_finished home left right (more_works work others) Goal are all go =
    let tests = both_true (is_finished work) (are_finished others) all in
    by_finished work (λ one. IsWorkOf home left one → Goal (operands_in (more_works one others))) tests.0
    (λ one given. one_finished home right others (λ list. Goal (one ∷ list)) are.1 tests.1 (λ other there. go one other given there)) are.0

-- ---- what the steps leave

done_leaves : (home : CHome) (type : CTy) (place : Place) (form : CForm) (blocks : Blocks) (outcome : Result CDone CWhy) → IsTypedNode home (expr type place form)
    → Comes (IsDoneOf home (expr type place form) blocks) outcome → StepLeaves home (expr type place form) blocks (at_node place (outcome_of (did_done type) outcome))
done_leaves home type place form blocks outcome typed comes =
    let node = expr type place form in
    at_node_leaves home node blocks place _
    (comes_and (IsDoneOf home node blocks) (DidLeaves home node blocks) outcome _ comes (λ one good. (record { typed = typed; left = record { type_is = refl; given = good.given } }, good.shapes, good.memory)))

update_leaves : (home : CHome) (type : CTy) (place : Place) (form : CForm) (blocks : Blocks) (outcome : Result CUpdating CWhy) → IsTypedMemory home.program blocks → IsTyped home (expr type place form)
    → Comes (λ (one : CUpdating). IsUpdateOf home (expr type place form) one.update was_loaded) outcome
    → StepLeaves home (expr type place form) blocks (at_node place (outcome_of (did_update (expr type place form) blocks) outcome))
update_leaves home type place form blocks outcome memory is comes =
    let node = expr type place form in
    at_node_leaves home node blocks place _
    (comes_and (λ (one : CUpdating). IsUpdateOf home node one.update was_loaded) (DidLeaves home node blocks) outcome _ comes (λ one good.
    did_here home node blocks (updates node one.update was_loaded one.marks) memory is (refl, good)))

-- the step of a node with these operands
abbrev pub Leaves : CHome → Frame → Blocks → CExpr → List COperand → Type 0
Leaves home frame blocks node operands = StepLeaves home node blocks (needs_step (setting_of home.program) frame blocks node operands)

-- a load and an assignment have the unqualified type of their lvalue
load_leaves : (home : CHome) (frame : Frame) (blocks : Blocks) (type : CTy) (place : Place) (from : CExpr) (one : COperand) → IsScene home frame blocks → IsTyped home (expr type place (load from)) → IsOperandOf home from one
    → Leaves home frame blocks (expr type place (load from)) (one ∷ [])
load_leaves home frame blocks type place (expr (ty form is_const) there node) one scene typed given =
    let from = expr (ty form is_const) there node in
    subst (λ t. IsTyped home (expr t place (load from)) → Leaves home frame blocks (expr t place (load from)) (one ∷ [])) (sym typed.1.1.type_is)
    (λ is. done_leaves home (ty form false) place (load from) blocks _ (inl is) (load_done home frame blocks form is_const there node place one scene is given)) typed

assign_leaves : (home : CHome) (frame : Frame) (blocks : Blocks) (type : CTy) (place : Place) (target value : CExpr) (one other : COperand) → IsScene home frame blocks → IsTyped home (expr type place (assign target value))
    → IsOperandOf home target one → IsOperandOf home value other → Leaves home frame blocks (expr type place (assign target value)) (one ∷ other ∷ [])
assign_leaves home frame blocks type place (expr (ty form is_const) there node) value one other scene typed given second =
    let target = expr (ty form is_const) there node in
    subst (λ t. IsTyped home (expr t place (assign target value)) → Leaves home frame blocks (expr t place (assign target value)) (one ∷ other ∷ [])) (sym typed.1.2.type_is)
    (λ is. done_leaves home (ty form false) place (assign target value) blocks _ (inl is) (assign_done home frame blocks form is_const there node value place one other scene is given second)) typed

convert_leaves : (home : CHome) (frame : Frame) (blocks : Blocks) (type : CTy) (place : Place) (value : CExpr) (one : COperand) → IsScene home frame blocks → IsTyped home (expr type place (convert value)) → IsOperandOf home value one
    → Leaves home frame blocks (expr type place (convert value)) (one ∷ [])
convert_leaves home frame blocks (ty form is_const) place value one scene is given =
    done_leaves home (ty form is_const) place (convert value) blocks _ (inl is) (convert_done home frame blocks form is_const place value one scene is given)

-- ---- all forms

-- members of values, calls and compound literals
pub record OthersStep (home : CHome) (frame : Frame) (blocks : Blocks) : Type 0 where
  pub value_member : (type : CTy) (place : Place) (of : CExpr) (spot : Spot) (one : COperand) → IsTyped home (expr type place (member of spot)) → IsOperandOf home of one
      → Comes (IsDoneOf home (expr type place (member of spot)) blocks) (node_done (setting_of home.program) type (member of spot) frame blocks (one ∷ []))
  pub of_call : (type : CTy) (place : Place) (callee : _) (args : CExprs) (works : CWorks) → IsTyped home (expr type place (call callee args)) → AreWorksOf home args works → are_finished works ≡ true
      → Leaves home frame blocks (expr type place (call callee args)) (operands_in works)
  pub of_call_by : (type : CTy) (place : Place) (callee : CExpr) (args : CExprs) (works : CWorks) → IsTyped home (expr type place (call_by callee args)) → AreWorksOf home (more_exprs callee args) works
      → are_finished works ≡ true → Leaves home frame blocks (expr type place (call_by callee args)) (operands_in works)
  pub of_literal : (type : CTy) (place : Place) (number : _) (puts : CPuts) → IsLvalue home (expr type place (literal number puts)) → Leaves home frame blocks (expr type place (literal number puts)) []

none_left : (home : CHome) (works : CWorks) (Goal : List COperand → Type 0) → AreWorksOf home no_exprs works → Goal [] → Goal (operands_in works)
none_left home no_works Goal are all = all
none_left home (more_works work works) Goal are all = absurd are

-- a node whose operands are finished
pub needs_leave : (home : CHome) (frame : Frame) (blocks : Blocks) → IsScene home frame blocks → OthersStep home frame blocks → (node : CExpr) (works : CWorks) → IsTypedNode home node
    → IfOperands (operands_of node) (λ parts. AreWorksOf home parts works) → are_finished works ≡ true → Leaves home frame blocks node (operands_in works)
needs_leave home frame blocks scene others (expr type place (load from)) works (inl is) are all =
    one_finished home from works (Leaves home frame blocks (expr type place (load from))) are all (λ one given. load_leaves home frame blocks type place from one scene is given)
needs_leave home frame blocks scene others (expr type place (load from)) works (inr is) are all = absurd is.2
needs_leave home frame blocks scene others (expr type place (deref from)) works (inl is) are all = absurd is.1
needs_leave home frame blocks scene others (expr type place (deref from)) works (inr is) are all =
    one_finished home from works (Leaves home frame blocks (expr type place (deref from))) are all (λ one given. done_leaves home type place (deref from) blocks _ (inr is) (deref_done home frame blocks type place from one scene is given))
needs_leave home frame blocks scene others (expr type place (member of spot)) works (inl is) are all =
    one_finished home of works (Leaves home frame blocks (expr type place (member of spot))) are all (λ one given. done_leaves home type place (member of spot) blocks _ (inl is) (others.value_member type place of spot one is given))
needs_leave home frame blocks scene others (expr type place (member of spot)) works (inr is) are all =
    one_finished home of works (Leaves home frame blocks (expr type place (member of spot))) are all (λ one given. done_leaves home type place (member of spot) blocks _ (inr is) (member_done home frame blocks type place of spot one scene is given))
needs_leave home frame blocks scene others (expr type place (address of)) works (inl is) are all =
    one_finished home of works (Leaves home frame blocks (expr type place (address of))) are all (λ one given. done_leaves home type place (address of) blocks _ (inl is) (address_done home frame blocks type place of one scene is given))
needs_leave home frame blocks scene others (expr type place (address of)) works (inr is) are all = absurd is.2
needs_leave home frame blocks scene others (expr type place (convert value)) works (inl is) are all =
    one_finished home value works (Leaves home frame blocks (expr type place (convert value))) are all (λ one given. convert_leaves home frame blocks type place value one scene is given)
needs_leave home frame blocks scene others (expr type place (convert value)) works (inr is) are all = absurd is.2
needs_leave home frame blocks scene others (expr type place (unary op value)) works (inl is) are all =
    one_finished home value works (Leaves home frame blocks (expr type place (unary op value))) are all (λ one given. done_leaves home type place (unary op value) blocks _ (inl is) (one_operand_done home frame blocks type place op value one scene is given))
needs_leave home frame blocks scene others (expr type place (unary op value)) works (inr is) are all = absurd is.2
needs_leave home frame blocks scene others (expr type place (binary op left right)) works (inl is) are all =
    two_finished home left right works (Leaves home frame blocks (expr type place (binary op left right))) are all (λ one other given second. done_leaves home type place (binary op left right) blocks _ (inl is) (two_operands_done home frame blocks type place op left right one other scene is given second))
needs_leave home frame blocks scene others (expr type place (binary op left right)) works (inr is) are all = absurd is.2
needs_leave home frame blocks scene others (expr type place (assign target value)) works (inl is) are all =
    two_finished home target value works (Leaves home frame blocks (expr type place (assign target value))) are all (λ one other given second. assign_leaves home frame blocks type place target value one other scene is given second)
needs_leave home frame blocks scene others (expr type place (assign target value)) works (inr is) are all = absurd is.2
needs_leave home frame blocks scene others (expr type place (assign_by op computes target value)) works (inl is) are all =
    two_finished home target value works (Leaves home frame blocks (expr type place (assign_by op computes target value))) are all (λ one other given second. update_leaves home type place (assign_by op computes target value) blocks _ scene.memory is (assign_by_begins home frame blocks type place op computes target value one other scene is given second))
needs_leave home frame blocks scene others (expr type place (assign_by op computes target value)) works (inr is) are all = absurd is.2
needs_leave home frame blocks scene others (expr type place (step up post on)) works (inl is) are all =
    one_finished home on works (Leaves home frame blocks (expr type place (step up post on))) are all (λ one given. update_leaves home type place (step up post on) blocks _ scene.memory is (step_begins home frame blocks type place up post on one scene is given))
needs_leave home frame blocks scene others (expr type place (step up post on)) works (inr is) are all = absurd is.2
needs_leave home frame blocks scene others (expr type place (call callee args)) works (inl is) are all = others.of_call type place callee args works is are all
needs_leave home frame blocks scene others (expr type place (call callee args)) works (inr is) are all = absurd is.2
needs_leave home frame blocks scene others (expr type place (call_by callee args)) works (inl is) are all = others.of_call_by type place callee args works is are all
needs_leave home frame blocks scene others (expr type place (call_by callee args)) works (inr is) are all = absurd is.2
needs_leave home frame blocks scene others (expr type place (literal number puts)) works (inl is) are all = absurd is.1
needs_leave home frame blocks scene others (expr type place (literal number puts)) works (inr is) are all =
    none_left home works (Leaves home frame blocks (expr type place (literal number puts))) are (others.of_literal type place number puts is)
needs_leave home frame blocks scene others (expr type place (whole value)) works is are all = absurd are
needs_leave home frame blocks scene others (expr type place null) works is are all = absurd are
needs_leave home frame blocks scene others (expr type place (object number)) works is are all = absurd are
needs_leave home frame blocks scene others (expr type place (code number)) works is are all = absurd are
needs_leave home frame blocks scene others (expr type place (and left right)) works is are all = absurd are
needs_leave home frame blocks scene others (expr type place (or left right)) works is are all = absurd are
needs_leave home frame blocks scene others (expr type place (cond test first second)) works is are all = absurd are
needs_leave home frame blocks scene others (expr type place (comma first second)) works is are all = absurd are
