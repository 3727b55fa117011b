-- Steps of `&&`, `||`, `?:` and the comma (6.5.13 to 6.5.15, 6.5.17).
use Rattle.std.proofs.Common.{◌≡◌, inl, inr, Bool, true, false, ◌||◌, IsTrue, None, Result, Ok, Err, refl, sym, subst, ◌∙◌}
use Rattle.cr_base.specs.declared.refusal.Place.{Place}
use Rattle.cr_base.specs.declared.scalar.Scalar.TheVariants.{Whole}
use Rattle.cx_core.specs.Conversions.{IsScalarType}
use Rattle.cx_core.specs.Trees.{CTy, CProgram, CExpr, expr, CForm, and, or, cond, comma, type_of}
use Rattle.cx_core.specs.Typing.{CHome, IsTyped, int_type}
use Rattle.cx_mean.specs.Marks.{Marks, at_sequence_point}
use Rattle.cx_mean.specs.Nodes.{CChoice, carries_next, chosen, chosen_and, chosen_or, chosen_part, truth, truth_of_value, tested}
use Rattle.cx_mean.specs.Operands.{CWhy, breaks, stuck, CValue, COperand, scalar_value}
use Rattle.cx_mean.specs.Steps.{CDid, did, asks_call, at_node, finished_with, after_choice, chooses_step, tests_step}
use Rattle.cx_mean.specs.Work.{CWork, finished, needs, chooses, tests, carries, updates, fills, waits, begun, after_marks, carried}
use Rattle.cx_numbers.specs.Numbers.{number_of_truth}
use Rattle.mem_bytes.specs.declared.value.Value.TheVariants.{Whole as Number}
use Rattle.mem_bytes.specs.Memory.{Blocks}
use Rattle.cx_typed_values.proofs.Operators.{truth_comes}
use Rattle.cx_typed_values.proofs.UnaryValues as unary_proofs
use Rattle.cx_typed_values.specs.Outcomes.{Comes}
use Rattle.cx_typed_work.proofs.Begun.{begun_typed}
use Rattle.cx_typed_work.proofs.Given.{value_given}
use Rattle.cx_typed_work.proofs.Memories.{shapes_stay}
use Rattle.cx_typed_work.proofs.Nodes.{scalar_comes}
use Rattle.cx_typed_work.proofs.Outcomes.{comes_and}
use Rattle.cx_typed_work.specs.Operands.{IsScalarIn, IsValueOfType, IsGiven, IsGivenBy, IsOperandOf, may_lack}
use Rattle.cx_typed_work.specs.Scenes.{IsTypedMemory, AreSameShapes}
use Rattle.cx_typed_work.specs.Calls.{IsTypedCall}
use Rattle.cx_typed_work.specs.Steps.{StepLeaves}
use Rattle.cx_typed_work.specs.Works.{AnyPart, chosen_parts, IsWorkOf, IsTypedWork}

-- ---- what a step leaves

abbrev pub DidLeaves : CHome → CExpr → Blocks → CDid → Type 0
DidLeaves home node blocks (did work after) = IsTypedWork home node work × AreSameShapes blocks after × IsTypedMemory home.program after
DidLeaves home node blocks (asks_call called work) = IsTypedWork home node work × IsTypedCall home.program called

pub at_node_leaves : (home : CHome) (node : CExpr) (blocks : Blocks) (place : Place) (outcome : Result CDid CWhy) → Comes (DidLeaves home node blocks) outcome → StepLeaves home node blocks (at_node place outcome)
at_node_leaves home node blocks place (Ok (did work after)) leaves = leaves
at_node_leaves home node blocks place (Ok (asks_call called work)) leaves = leaves
at_node_leaves home node blocks place (Err (breaks rule)) leaves = tt
at_node_leaves home node blocks place (Err stuck) leaves = absurd leaves

-- a tree in a memory that stays
pub did_here : (home : CHome) (node : CExpr) (blocks : Blocks) (work : CWork) → IsTypedMemory home.program blocks → IsTyped home node → IsWorkOf home node work → DidLeaves home node blocks (did work blocks)
did_here home node blocks work memory is left = (record { typed = inl is; left = left }, shapes_stay blocks, memory)

-- ---- truths (6.5.13p3, 6.5.14p3)

truth_given : (program : CProgram) (type : CTy) (holds : Bool) → type ≡ int_type → IsScalarIn program type (Number (number_of_truth holds))
truth_given program type holds e =
    subst (λ t. IsScalarIn program t (Number (number_of_truth holds))) (sym e) (record { kind = Whole 32 true; kind_is = refl; of_kind = truth_comes holds; leads = tt })

truth_finished : (home : CHome) (node : CExpr) (marks : Marks) (holds : Bool) → IsTyped home node → type_of node ≡ int_type → IsWorkOf home node (finished_with (type_of node) (truth holds) marks)
truth_finished home node marks holds is e = record { type_is = refl; given = inr (is, inl (truth_given home.program (type_of node) holds e)) }

operand_tested : (home : CHome) (node : CExpr) (blocks : Blocks) (value : CValue) → IsTyped home node → IsScalarType home.program.types (type_of node) → IsGivenBy home node value
    → Comes (λ (_ : Bool). Unit {0}) (truth_of_value blocks value)
operand_tested home node blocks value is scalar_is given =
    comes_and (IsScalarIn home.program (type_of node)) (λ (_ : Bool). Unit {0}) (scalar_value value) _ (scalar_comes home.program node value scalar_is (value_given home node value is given)) (λ one good. unary_proofs.truth_of_value blocks one)

-- ---- the part that gives the value (6.5.15p4, 6.5.17p2)

-- what a part gives is what the node gives
pub record IsPartOf (home : CHome) (node part : CExpr) : Type 0 where
  pub part_typed : IsTyped home part
  pub type_is : type_of part ≡ type_of node
  pub lacks : IsTrue (may_lack part) → IsTrue (may_lack node)
  pub among : (work : CWork) → IsWorkOf home part work → AnyPart (chosen_parts node) (λ one. IsWorkOf home one work)

part_given : (home : CHome) (node part : CExpr) (value : CValue) → IsTyped home node → IsPartOf home node part → IsGiven home.program part value → IsGivenBy home node value
part_given home node part value is one (inl good) = inr (is, inl (subst (λ t. IsValueOfType home.program t value) one.type_is good))
part_given home node part value is one (inr lacks) = inr (is, inr (one.lacks lacks.0, lacks.1))

pub part_carried : (home : CHome) (node part : CExpr) (marks : Marks) (work : CWork) → IsTyped home node → IsPartOf home node part → IsWorkOf home part work → IsWorkOf home node (carried node marks work)
part_carried home node part marks (finished operand) is one left =
    record { type_is = left.type_is ∙ one.type_is; given = part_given home node part operand.value is one (value_given home part operand.value one.part_typed left.given) }
part_carried home node part marks (needs own operands) is one left = (refl, refl, one.among (needs own operands) left)
part_carried home node part marks (chooses own first) is one left = (refl, refl, one.among (chooses own first) left)
part_carried home node part marks (tests own other second) is one left = (refl, refl, one.among (tests own other second) left)
part_carried home node part marks (carries own other chosen_part) is one left = (refl, refl, one.among (carries own other chosen_part) left)
part_carried home node part marks (updates own update stage other) is one left = (refl, refl, one.among (updates own update stage other) left)
part_carried home node part marks (fills own other one_put others value) is one left = (refl, refl, one.among (fills own other one_put others value) left)
part_carried home node part marks (waits own other) is one left = (refl, refl, one.among (waits own other) left)

either_true : (one other : Bool) → IsTrue one → IsTrue (one || other)
either_true true other is = refl
either_true false other is = cc

or_true : (one other : Bool) → IsTrue other → IsTrue (one || other)
or_true true other is = refl
or_true false other is = is

-- ---- the step behind the first operand

pub and_leaves : (home : CHome) (type : CTy) (place : Place) (left right : CExpr) (blocks : Blocks) (operand : COperand) → home.mentions ≡ None → IsTypedMemory home.program blocks
    → IsTyped home (expr type place (and left right)) → IsOperandOf home left operand → StepLeaves home (expr type place (and left right)) blocks (chooses_step blocks (expr type place (and left right)) operand)
and_leaves home type place left right blocks operand none memory is given =
    let node = expr type place (and left right) in
    at_node_leaves home node blocks place _
    (comes_and (λ (choice : CChoice). DidLeaves home node blocks (after_choice node type blocks (at_sequence_point operand.marks) choice)) (DidLeaves home node blocks) (chosen (and left right) blocks operand.value) _
    (comes_and (λ (_ : Bool). Unit {0}) (λ (choice : CChoice). DidLeaves home node blocks (after_choice node type blocks (at_sequence_point operand.marks) choice)) (truth_of_value blocks operand.value) _
    (operand_tested home left blocks operand.value is.1.0 is.1.2.left_scalar given.given) (λ holds _. by holds))
    (λ choice leaves. leaves))
  where
    by : (holds : Bool) → DidLeaves home (expr type place (and left right)) blocks (after_choice (expr type place (and left right)) type blocks (at_sequence_point operand.marks) (chosen_and right holds))
    by true = did_here home (expr type place (and left right)) blocks _ memory is (refl, begun_typed home right none (inl is.1.1))
    by false = did_here home (expr type place (and left right)) blocks _ memory is (truth_finished home (expr type place (and left right)) (at_sequence_point operand.marks) false is is.1.2.type_is)

pub or_leaves : (home : CHome) (type : CTy) (place : Place) (left right : CExpr) (blocks : Blocks) (operand : COperand) → home.mentions ≡ None → IsTypedMemory home.program blocks
    → IsTyped home (expr type place (or left right)) → IsOperandOf home left operand → StepLeaves home (expr type place (or left right)) blocks (chooses_step blocks (expr type place (or left right)) operand)
or_leaves home type place left right blocks operand none memory is given =
    let node = expr type place (or left right) in
    at_node_leaves home node blocks place _
    (comes_and (λ (choice : CChoice). DidLeaves home node blocks (after_choice node type blocks (at_sequence_point operand.marks) choice)) (DidLeaves home node blocks) (chosen (or left right) blocks operand.value) _
    (comes_and (λ (_ : Bool). Unit {0}) (λ (choice : CChoice). DidLeaves home node blocks (after_choice node type blocks (at_sequence_point operand.marks) choice)) (truth_of_value blocks operand.value) _
    (operand_tested home left blocks operand.value is.1.0 is.1.2.left_scalar given.given) (λ holds _. by holds))
    (λ choice leaves. leaves))
  where
    by : (holds : Bool) → DidLeaves home (expr type place (or left right)) blocks (after_choice (expr type place (or left right)) type blocks (at_sequence_point operand.marks) (chosen_or right holds))
    by true = did_here home (expr type place (or left right)) blocks _ memory is (truth_finished home (expr type place (or left right)) (at_sequence_point operand.marks) true is is.1.2.type_is)
    by false = did_here home (expr type place (or left right)) blocks _ memory is (refl, begun_typed home right none (inl is.1.1))

carries_leaves : (home : CHome) (type : CTy) (place : Place) (form : CForm) (blocks : Blocks) (marks : Marks) (part : CExpr) → home.mentions ≡ None → IsTypedMemory home.program blocks → IsTyped home (expr type place form)
    → IsPartOf home (expr type place form) part → DidLeaves home (expr type place form) blocks (after_choice (expr type place form) type blocks marks (carries_next part))
carries_leaves home type place form blocks marks part none memory is one =
    did_here home (expr type place form) blocks _ memory is (part_carried home (expr type place form) part marks (begun part) is one (begun_typed home part none (inl one.part_typed)))

pub first_part_of : (home : CHome) (type : CTy) (place : Place) (test first second : CExpr) → IsTyped home (expr type place (cond test first second)) → IsPartOf home (expr type place (cond test first second)) first
first_part_of home type place test first second is =
    record { part_typed = is.1.1; type_is = is.1.3.first_is; lacks = either_true (may_lack first) (may_lack second); among = λ work left. inl left }

pub second_part_of : (home : CHome) (type : CTy) (place : Place) (test first second : CExpr) → IsTyped home (expr type place (cond test first second)) → IsPartOf home (expr type place (cond test first second)) second
second_part_of home type place test first second is =
    record { part_typed = is.1.2; type_is = is.1.3.second_is; lacks = or_true (may_lack first) (may_lack second); among = λ work left. inr (inl left) }

pub cond_leaves : (home : CHome) (type : CTy) (place : Place) (test first second : CExpr) (blocks : Blocks) (operand : COperand) → home.mentions ≡ None → IsTypedMemory home.program blocks
    → IsTyped home (expr type place (cond test first second)) → IsOperandOf home test operand
    → StepLeaves home (expr type place (cond test first second)) blocks (chooses_step blocks (expr type place (cond test first second)) operand)
cond_leaves home type place test first second blocks operand none memory is given =
    let node = expr type place (cond test first second) in
    at_node_leaves home node blocks place _
    (comes_and (λ (choice : CChoice). DidLeaves home node blocks (after_choice node type blocks (at_sequence_point operand.marks) choice)) (DidLeaves home node blocks) (chosen (cond test first second) blocks operand.value) _
    (comes_and (λ (_ : Bool). Unit {0}) (λ (choice : CChoice). DidLeaves home node blocks (after_choice node type blocks (at_sequence_point operand.marks) choice)) (truth_of_value blocks operand.value) _
    (operand_tested home test blocks operand.value is.1.0 is.1.3.tested given.given) (λ holds _. by holds))
    (λ choice leaves. leaves))
  where
    by : (holds : Bool) → DidLeaves home (expr type place (cond test first second)) blocks (after_choice (expr type place (cond test first second)) type blocks (at_sequence_point operand.marks) (chosen_part first second holds))
    by true = carries_leaves home type place (cond test first second) blocks (at_sequence_point operand.marks) first none memory is (first_part_of home type place test first second is)
    by false = carries_leaves home type place (cond test first second) blocks (at_sequence_point operand.marks) second none memory is (second_part_of home type place test first second is)

pub comma_leaves : (home : CHome) (type : CTy) (place : Place) (first second : CExpr) (blocks : Blocks) (operand : COperand) → home.mentions ≡ None → IsTypedMemory home.program blocks
    → IsTyped home (expr type place (comma first second)) → StepLeaves home (expr type place (comma first second)) blocks (chooses_step blocks (expr type place (comma first second)) operand)
comma_leaves home type place first second blocks operand none memory is =
    carries_leaves home type place (comma first second) blocks (at_sequence_point operand.marks) second none memory is
    (record { part_typed = is.1.1; type_is = sym is.1.2; lacks = λ lacks. lacks; among = λ work left. inl left })

-- ---- the step behind the second operand of `&&` and `||`

pub tests_leave : (home : CHome) (node second : CExpr) (blocks : Blocks) (marks : Marks) (operand : COperand) → IsTypedMemory home.program blocks → IsTyped home node → type_of node ≡ int_type → IsTyped home second
    → IsScalarType home.program.types (type_of second) → IsOperandOf home second operand → StepLeaves home node blocks (tests_step blocks node marks operand)
tests_leave home node second blocks marks operand memory is e second_is scalar_is given =
    at_node_leaves home node blocks _ _
    (comes_and (λ (value : CValue). DidLeaves home node blocks (did (finished_with (type_of node) value (after_marks marks operand).marks) blocks)) (DidLeaves home node blocks) (tested blocks operand.value) _
    (comes_and (λ (_ : Bool). Unit {0}) (λ (value : CValue). DidLeaves home node blocks (did (finished_with (type_of node) value (after_marks marks operand).marks) blocks)) (truth_of_value blocks operand.value) _
    (operand_tested home second blocks operand.value second_is scalar_is given.given) (λ holds _. did_here home node blocks _ memory is (truth_finished home node (after_marks marks operand).marks holds is e)))
    (λ value leaves. leaves))
