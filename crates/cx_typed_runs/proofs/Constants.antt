-- Constant expressions call nothing (ISO C99, 6.6p3).
use Rattle.std.proofs.Common.{◌≡◌, ◌⊎◌, inl, inr, refl, sym, ap, subst, ℕ, ◌-◌, nat_lt, Bool, true, false, List, [], ◌∷◌, Option, Some, None, Result, Ok, Err}
use Rattle.cr_base.specs.declared.refusal.Place.{Place}
use Rattle.cx_core.specs.Trees.{CTy, CProgram, CExpr, expr, CForm, whole, null, object, code, load, deref, member, address, convert, unary, binary, and, or, cond, assign, assign_by, step, call, call_by, comma, literal, CExprs, no_exprs, more_exprs, CPut, CPuts, type_of, place_of}
use Rattle.cx_core.specs.Typing.{CHome, IsConstant, IsFixed}
use Rattle.cx_mean.specs.Marks.{Marks}
use Rattle.cx_mean.specs.Nodes.{CDone, CChoice, decided, tests_next, carries_next}
use Rattle.cx_mean.specs.Operands.{CWhy, COperand, CValue, Frame}
use Rattle.cx_mean.specs.Settings.{CSetting}
use Rattle.cx_mean.specs.Steps.{CDid, did, asks_call, CStepped, at_node, outcome_of, did_done, needs_step, chooses_step, tests_step, stage_step, put_step, place_of_put, inside, nowhere, step_at, step_among, at_first_operand, after_choice}
use Rattle.cx_mean.specs.Work.{CUpdate, CStage, was_loaded, was_computed, was_converted, CWork, finished, needs, chooses, tests, carries, updates, fills, waits, CWorks, no_works, more_works, are_finished, operands_in, ready, carried}
use Rattle.mem_bytes.specs.Memory.{Blocks}
use Rattle.cx_typed_work.specs.Works.{operands_of, first_part, second_part, chosen_parts, IfOperands, IfPart, AnyPart, IsFilling, value_of_put, IsWorkOf, AreWorksOf}

-- a constant, or an lvalue with a constant address
abbrev pub IsStill : CProgram → CExpr → Type 0
IsStill program node = IsConstant program node ⊎ IsFixed program node

abbrev AsksNothing : CStepped → Type 0
AsksNothing (Ok (did work blocks)) = Unit {0}
AsksNothing (Ok (asks_call called work)) = ⊥
AsksNothing (Err fault) = Unit {0}

-- ---- its parts are

abbrev AreStill : CProgram → CExprs → Type 0
AreStill program no_exprs = Unit {0}
AreStill program (more_exprs first others) = IsStill program first × AreStill program others

abbrev OperandsStill : CProgram → Option CExprs → Type 0
OperandsStill program None = Unit {0}
OperandsStill program (Some parts) = AreStill program parts

abbrev PartStill : CProgram → Option CExpr → Type 0
PartStill program None = Unit {0}
PartStill program (Some part) = IsStill program part

operands_still : (program : CProgram) (node : CExpr) → IsStill program node → OperandsStill program (operands_of node)
operands_still program (expr type place (whole value)) (inl is) = tt
operands_still program (expr type place (whole value)) (inr is) = absurd is
operands_still program (expr type place null) (inl is) = tt
operands_still program (expr type place null) (inr is) = absurd is
operands_still program (expr type place (object number)) (inl is) = absurd is
operands_still program (expr type place (object number)) (inr is) = tt
operands_still program (expr type place (code number)) (inl is) = tt
operands_still program (expr type place (code number)) (inr is) = absurd is
operands_still program (expr type place (load from)) (inl is) = absurd is
operands_still program (expr type place (load from)) (inr is) = absurd is
operands_still program (expr type place (deref from)) (inl is) = absurd is
operands_still program (expr type place (deref from)) (inr is) = (inl is, tt)
operands_still program (expr type place (member of spot)) (inl is) = absurd is
operands_still program (expr type place (member of spot)) (inr is) = (inr is, tt)
operands_still program (expr type place (address of)) (inl is) = (inr is, tt)
operands_still program (expr type place (address of)) (inr is) = absurd is
operands_still program (expr type place (convert value)) (inl is) = (inl is, tt)
operands_still program (expr type place (convert value)) (inr is) = absurd is
operands_still program (expr type place (unary op value)) (inl is) = (inl is, tt)
operands_still program (expr type place (unary op value)) (inr is) = absurd is
operands_still program (expr type place (binary op left right)) (inl is) = (inl is.0, (inl is.1, tt))
operands_still program (expr type place (binary op left right)) (inr is) = absurd is
operands_still program (expr type place (and left right)) (inl is) = tt
operands_still program (expr type place (and left right)) (inr is) = absurd is
operands_still program (expr type place (or left right)) (inl is) = tt
operands_still program (expr type place (or left right)) (inr is) = absurd is
operands_still program (expr type place (cond test one other)) (inl is) = tt
operands_still program (expr type place (cond test one other)) (inr is) = absurd is
operands_still program (expr type place (assign target value)) (inl is) = absurd is
operands_still program (expr type place (assign target value)) (inr is) = absurd is
operands_still program (expr type place (assign_by op computes target value)) (inl is) = absurd is
operands_still program (expr type place (assign_by op computes target value)) (inr is) = absurd is
operands_still program (expr type place (step up post on)) (inl is) = absurd is
operands_still program (expr type place (step up post on)) (inr is) = absurd is
operands_still program (expr type place (call callee args)) (inl is) = absurd is
operands_still program (expr type place (call callee args)) (inr is) = absurd is
operands_still program (expr type place (call_by callee args)) (inl is) = absurd is
operands_still program (expr type place (call_by callee args)) (inr is) = absurd is
operands_still program (expr type place (comma one other)) (inl is) = tt
operands_still program (expr type place (comma one other)) (inr is) = absurd is
operands_still program (expr type place (literal number puts)) (inl is) = absurd is
operands_still program (expr type place (literal number puts)) (inr is) = absurd is

first_still : (program : CProgram) (node : CExpr) → IsStill program node → PartStill program (first_part node)
first_still program (expr type place (whole value)) (inl is) = tt
first_still program (expr type place (whole value)) (inr is) = absurd is
first_still program (expr type place null) (inl is) = tt
first_still program (expr type place null) (inr is) = absurd is
first_still program (expr type place (object number)) (inl is) = absurd is
first_still program (expr type place (object number)) (inr is) = tt
first_still program (expr type place (code number)) (inl is) = tt
first_still program (expr type place (code number)) (inr is) = absurd is
first_still program (expr type place (load from)) (inl is) = absurd is
first_still program (expr type place (load from)) (inr is) = absurd is
first_still program (expr type place (deref from)) (inl is) = absurd is
first_still program (expr type place (deref from)) (inr is) = tt
first_still program (expr type place (member of spot)) (inl is) = absurd is
first_still program (expr type place (member of spot)) (inr is) = tt
first_still program (expr type place (address of)) (inl is) = tt
first_still program (expr type place (address of)) (inr is) = absurd is
first_still program (expr type place (convert value)) (inl is) = tt
first_still program (expr type place (convert value)) (inr is) = absurd is
first_still program (expr type place (unary op value)) (inl is) = tt
first_still program (expr type place (unary op value)) (inr is) = absurd is
first_still program (expr type place (binary op left right)) (inl is) = tt
first_still program (expr type place (binary op left right)) (inr is) = absurd is
first_still program (expr type place (and left right)) (inl is) = inl is.0
first_still program (expr type place (and left right)) (inr is) = absurd is
first_still program (expr type place (or left right)) (inl is) = inl is.0
first_still program (expr type place (or left right)) (inr is) = absurd is
first_still program (expr type place (cond test one other)) (inl is) = inl is.0
first_still program (expr type place (cond test one other)) (inr is) = absurd is
first_still program (expr type place (assign target value)) (inl is) = absurd is
first_still program (expr type place (assign target value)) (inr is) = absurd is
first_still program (expr type place (assign_by op computes target value)) (inl is) = absurd is
first_still program (expr type place (assign_by op computes target value)) (inr is) = absurd is
first_still program (expr type place (step up post on)) (inl is) = absurd is
first_still program (expr type place (step up post on)) (inr is) = absurd is
first_still program (expr type place (call callee args)) (inl is) = absurd is
first_still program (expr type place (call callee args)) (inr is) = absurd is
first_still program (expr type place (call_by callee args)) (inl is) = absurd is
first_still program (expr type place (call_by callee args)) (inr is) = absurd is
first_still program (expr type place (comma one other)) (inl is) = inl is.0
first_still program (expr type place (comma one other)) (inr is) = absurd is
first_still program (expr type place (literal number puts)) (inl is) = absurd is
first_still program (expr type place (literal number puts)) (inr is) = absurd is

second_still : (program : CProgram) (node : CExpr) → IsStill program node → PartStill program (second_part node)
second_still program (expr type place (whole value)) (inl is) = tt
second_still program (expr type place (whole value)) (inr is) = absurd is
second_still program (expr type place null) (inl is) = tt
second_still program (expr type place null) (inr is) = absurd is
second_still program (expr type place (object number)) (inl is) = absurd is
second_still program (expr type place (object number)) (inr is) = tt
second_still program (expr type place (code number)) (inl is) = tt
second_still program (expr type place (code number)) (inr is) = absurd is
second_still program (expr type place (load from)) (inl is) = absurd is
second_still program (expr type place (load from)) (inr is) = absurd is
second_still program (expr type place (deref from)) (inl is) = absurd is
second_still program (expr type place (deref from)) (inr is) = tt
second_still program (expr type place (member of spot)) (inl is) = absurd is
second_still program (expr type place (member of spot)) (inr is) = tt
second_still program (expr type place (address of)) (inl is) = tt
second_still program (expr type place (address of)) (inr is) = absurd is
second_still program (expr type place (convert value)) (inl is) = tt
second_still program (expr type place (convert value)) (inr is) = absurd is
second_still program (expr type place (unary op value)) (inl is) = tt
second_still program (expr type place (unary op value)) (inr is) = absurd is
second_still program (expr type place (binary op left right)) (inl is) = tt
second_still program (expr type place (binary op left right)) (inr is) = absurd is
second_still program (expr type place (and left right)) (inl is) = inl is.1
second_still program (expr type place (and left right)) (inr is) = absurd is
second_still program (expr type place (or left right)) (inl is) = inl is.1
second_still program (expr type place (or left right)) (inr is) = absurd is
second_still program (expr type place (cond test one other)) (inl is) = tt
second_still program (expr type place (cond test one other)) (inr is) = absurd is
second_still program (expr type place (assign target value)) (inl is) = absurd is
second_still program (expr type place (assign target value)) (inr is) = absurd is
second_still program (expr type place (assign_by op computes target value)) (inl is) = absurd is
second_still program (expr type place (assign_by op computes target value)) (inr is) = absurd is
second_still program (expr type place (step up post on)) (inl is) = absurd is
second_still program (expr type place (step up post on)) (inr is) = absurd is
second_still program (expr type place (call callee args)) (inl is) = absurd is
second_still program (expr type place (call callee args)) (inr is) = absurd is
second_still program (expr type place (call_by callee args)) (inl is) = absurd is
second_still program (expr type place (call_by callee args)) (inr is) = absurd is
second_still program (expr type place (comma one other)) (inl is) = tt
second_still program (expr type place (comma one other)) (inr is) = absurd is
second_still program (expr type place (literal number puts)) (inl is) = absurd is
second_still program (expr type place (literal number puts)) (inr is) = absurd is

-- ---- its steps

done_asks : (type : CTy) (place : Place) (outcome : Result CDone CWhy) → AsksNothing (at_node place (outcome_of (did_done type) outcome))
done_asks type place (Ok one) = tt
done_asks type place (Err why) = tt

node_asks : (program : CProgram) (setting : CSetting) (frame : Frame) (blocks : Blocks) (operands : List COperand) (node : CExpr) → IsStill program node → AsksNothing (needs_step setting frame blocks node operands)
node_asks program setting frame blocks operands (expr type place (whole value)) (inl is) = done_asks type place _
node_asks program setting frame blocks operands (expr type place (whole value)) (inr is) = absurd is
node_asks program setting frame blocks operands (expr type place null) (inl is) = done_asks type place _
node_asks program setting frame blocks operands (expr type place null) (inr is) = absurd is
node_asks program setting frame blocks operands (expr type place (object number)) (inl is) = absurd is
node_asks program setting frame blocks operands (expr type place (object number)) (inr is) = done_asks type place _
node_asks program setting frame blocks operands (expr type place (code number)) (inl is) = done_asks type place _
node_asks program setting frame blocks operands (expr type place (code number)) (inr is) = absurd is
node_asks program setting frame blocks operands (expr type place (load from)) (inl is) = absurd is
node_asks program setting frame blocks operands (expr type place (load from)) (inr is) = absurd is
node_asks program setting frame blocks operands (expr type place (deref from)) (inl is) = absurd is
node_asks program setting frame blocks operands (expr type place (deref from)) (inr is) = done_asks type place _
node_asks program setting frame blocks operands (expr type place (member of spot)) (inl is) = absurd is
node_asks program setting frame blocks operands (expr type place (member of spot)) (inr is) = done_asks type place _
node_asks program setting frame blocks operands (expr type place (address of)) (inl is) = done_asks type place _
node_asks program setting frame blocks operands (expr type place (address of)) (inr is) = absurd is
node_asks program setting frame blocks operands (expr type place (convert value)) (inl is) = done_asks type place _
node_asks program setting frame blocks operands (expr type place (convert value)) (inr is) = absurd is
node_asks program setting frame blocks operands (expr type place (unary op value)) (inl is) = done_asks type place _
node_asks program setting frame blocks operands (expr type place (unary op value)) (inr is) = absurd is
node_asks program setting frame blocks operands (expr type place (binary op left right)) (inl is) = done_asks type place _
node_asks program setting frame blocks operands (expr type place (binary op left right)) (inr is) = absurd is
node_asks program setting frame blocks operands (expr type place (and left right)) (inl is) = done_asks type place _
node_asks program setting frame blocks operands (expr type place (and left right)) (inr is) = absurd is
node_asks program setting frame blocks operands (expr type place (or left right)) (inl is) = done_asks type place _
node_asks program setting frame blocks operands (expr type place (or left right)) (inr is) = absurd is
node_asks program setting frame blocks operands (expr type place (cond test one other)) (inl is) = done_asks type place _
node_asks program setting frame blocks operands (expr type place (cond test one other)) (inr is) = absurd is
node_asks program setting frame blocks operands (expr type place (assign target value)) (inl is) = absurd is
node_asks program setting frame blocks operands (expr type place (assign target value)) (inr is) = absurd is
node_asks program setting frame blocks operands (expr type place (assign_by op computes target value)) (inl is) = absurd is
node_asks program setting frame blocks operands (expr type place (assign_by op computes target value)) (inr is) = absurd is
node_asks program setting frame blocks operands (expr type place (step up post on)) (inl is) = absurd is
node_asks program setting frame blocks operands (expr type place (step up post on)) (inr is) = absurd is
node_asks program setting frame blocks operands (expr type place (call callee args)) (inl is) = absurd is
node_asks program setting frame blocks operands (expr type place (call callee args)) (inr is) = absurd is
node_asks program setting frame blocks operands (expr type place (call_by callee args)) (inl is) = absurd is
node_asks program setting frame blocks operands (expr type place (call_by callee args)) (inr is) = absurd is
node_asks program setting frame blocks operands (expr type place (comma one other)) (inl is) = done_asks type place _
node_asks program setting frame blocks operands (expr type place (comma one other)) (inr is) = absurd is
node_asks program setting frame blocks operands (expr type place (literal number puts)) (inl is) = absurd is
node_asks program setting frame blocks operands (expr type place (literal number puts)) (inr is) = absurd is

choice_asks : (node : CExpr) (type : CTy) (blocks : Blocks) (marks : Marks) (place : Place) (outcome : Result CChoice CWhy) → AsksNothing (at_node place (outcome_of (after_choice node type blocks marks) outcome))
choice_asks node type blocks marks place (Ok (decided value)) = tt
choice_asks node type blocks marks place (Ok (tests_next second)) = tt
choice_asks node type blocks marks place (Ok (carries_next part)) = tt
choice_asks node type blocks marks place (Err why) = tt

chooses_asks : (blocks : Blocks) (node : CExpr) (operand : COperand) → AsksNothing (chooses_step blocks node operand)
chooses_asks blocks (expr type place form) operand = choice_asks (expr type place form) type blocks _ place _

value_asks : (type : CTy) (place : Place) (blocks : Blocks) (marks : Marks) (outcome : Result CValue CWhy) → AsksNothing (at_node place (outcome_of (λ value. did (finished (record { type = type; value = value; marks = marks })) blocks) outcome))
value_asks type place blocks marks (Ok value) = tt
value_asks type place blocks marks (Err why) = tt

did_asks : {A : Type 0} (place : Place) (make : A → CWork) (blocks : Blocks) (outcome : Result A CWhy) → AsksNothing (at_node place (outcome_of (λ value. did (make value) blocks) outcome))
did_asks place make blocks (Ok value) = tt
did_asks place make blocks (Err why) = tt

stage_asks : (setting : CSetting) (frame : Frame) (blocks : Blocks) (node : CExpr) (update : CUpdate) (marks : Marks) (stage : CStage) → AsksNothing (at_node (place_of node) (stage_step setting frame blocks node update marks stage))
stage_asks setting frame blocks node update marks was_loaded = did_asks (place_of node) _ blocks _
stage_asks setting frame blocks node update marks (was_computed new) = did_asks (place_of node) _ blocks _
stage_asks setting frame blocks node update marks (was_converted new) = done_asks (type_of node) (place_of node) _

inside_asks : (around : CWork → CWork) (stepped : CStepped) → AsksNothing stepped → AsksNothing (inside around stepped)
inside_asks around (Ok (did work blocks)) nothing = tt
inside_asks around (Ok (asks_call called work)) nothing = nothing
inside_asks around (Err fault) nothing = tt

first_asks : (own : COperand → CStepped) (within : CStepped) (work : CWork) → ((operand : COperand) → AsksNothing (own operand)) → AsksNothing within → AsksNothing (at_first_operand own within work)
first_asks own within (finished operand) mine others = mine operand
first_asks own within (needs node operands) mine others = others
first_asks own within (chooses node first) mine others = others
first_asks own within (tests node marks second) mine others = others
first_asks own within (carries node marks part) mine others = others
first_asks own within (updates node update stage marks) mine others = others
first_asks own within (fills node marks one more value) mine others = others
first_asks own within (waits node marks) mine others = others

-- a step of a tree of a constant
abbrev StillSteps : CHome → CProgram → CSetting → Frame → Blocks → CWork → Type 0
StillSteps home program setting frame blocks work = (node : CExpr) (pick : ℕ) → IsStill program node → IsWorkOf home node work → AsksNothing (step_at setting frame blocks pick work)

abbrev EachStill : CHome → CProgram → CSetting → Frame → Blocks → CWorks → Type 0
EachStill home program setting frame blocks no_works = Unit {0}
EachStill home program setting frame blocks (more_works first others) = StillSteps home program setting frame blocks first × EachStill home program setting frame blocks others

among_asks : (home : CHome) (program : CProgram) (setting : CSetting) (frame : Frame) (blocks : Blocks) (node : CExpr) (parts : CExprs) (works : CWorks) (pick : ℕ) (around : CWorks → CWork) → AreStill program parts → AreWorksOf home parts works
    → EachStill home program setting frame blocks works → AsksNothing (step_among setting frame blocks pick works (nowhere node) around)
among_asks home program setting frame blocks node no_exprs no_works pick around still are each = tt
among_asks home program setting frame blocks node no_exprs (more_works first others) pick around still are each = absurd are
among_asks home program setting frame blocks node (more_exprs part parts) no_works pick around still are each = absurd are
among_asks home program setting frame blocks node (more_exprs part parts) (more_works first others) pick around still are each =
    by (nat_lt pick (ready first)) (among_asks home program setting frame blocks node parts others (pick - ready first) (λ works. around (more_works first works)) still.1 are.1 each.1)
  where
    by : (test : Bool) → AsksNothing (step_among setting frame blocks (pick - ready first) others (nowhere node) (λ works. around (more_works first works)))
        → AsksNothing (elim test as (λ _. CStepped) [
          | true ↦ inside (λ work. around (more_works work others)) (step_at setting frame blocks pick first)
          | false ↦ step_among setting frame blocks (pick - ready first) others (nowhere node) (λ works. around (more_works first works))
        ])
    by true rest = inside_asks (λ work. around (more_works work others)) (step_at setting frame blocks pick first) (each.0 part pick still.0 are.0)
    by false rest = rest

needs_asks : (home : CHome) (program : CProgram) (setting : CSetting) (frame : Frame) (blocks : Blocks) (node : CExpr) (works : CWorks) (pick : ℕ) (found : Option CExprs) → IsStill program node → OperandsStill program found
    → IfOperands found (λ parts. AreWorksOf home parts works) → EachStill home program setting frame blocks works → AsksNothing (step_at setting frame blocks pick (needs node works))
needs_asks home program setting frame blocks node works pick None still operands are each = absurd are
needs_asks home program setting frame blocks node works pick (Some parts) still operands are each = by (are_finished works)
  where
    by : (test : Bool) → AsksNothing (elim test as (λ _. CStepped) [
      | true ↦ needs_step setting frame blocks node (operands_in works)
      | false ↦ step_among setting frame blocks pick works (nowhere node) (needs node)
    ])
    by true = node_asks program setting frame blocks (operands_in works) node still
    by false = among_asks home program setting frame blocks node parts works pick (needs node) operands are each

part_asks : (home : CHome) (program : CProgram) (setting : CSetting) (frame : Frame) (blocks : Blocks) (part : Option CExpr) (work : CWork) (pick : ℕ) → PartStill program part → IfPart part (λ one. IsWorkOf home one work)
    → StillSteps home program setting frame blocks work → AsksNothing (step_at setting frame blocks pick work)
part_asks home program setting frame blocks None work pick still is steps = absurd is
part_asks home program setting frame blocks (Some part) work pick still is steps = steps part pick still is

chosen_asks : (home : CHome) (program : CProgram) (setting : CSetting) (frame : Frame) (blocks : Blocks) (node : CExpr) (work : CWork) (pick : ℕ) → IsStill program node → AnyPart (chosen_parts node) (λ part. IsWorkOf home part work)
    → StillSteps home program setting frame blocks work → AsksNothing (step_at setting frame blocks pick work)
chosen_asks home program setting frame blocks (expr type place (whole value)) work pick still parts steps = absurd parts
chosen_asks home program setting frame blocks (expr type place null) work pick still parts steps = absurd parts
chosen_asks home program setting frame blocks (expr type place (object number)) work pick still parts steps = absurd parts
chosen_asks home program setting frame blocks (expr type place (code number)) work pick still parts steps = absurd parts
chosen_asks home program setting frame blocks (expr type place (load from)) work pick still parts steps = absurd parts
chosen_asks home program setting frame blocks (expr type place (deref from)) work pick still parts steps = absurd parts
chosen_asks home program setting frame blocks (expr type place (member of spot)) work pick still parts steps = absurd parts
chosen_asks home program setting frame blocks (expr type place (address of)) work pick still parts steps = absurd parts
chosen_asks home program setting frame blocks (expr type place (convert value)) work pick still parts steps = absurd parts
chosen_asks home program setting frame blocks (expr type place (unary op value)) work pick still parts steps = absurd parts
chosen_asks home program setting frame blocks (expr type place (binary op left right)) work pick still parts steps = absurd parts
chosen_asks home program setting frame blocks (expr type place (and left right)) work pick still parts steps = absurd parts
chosen_asks home program setting frame blocks (expr type place (or left right)) work pick still parts steps = absurd parts
chosen_asks home program setting frame blocks (expr type place (cond test one other)) work pick (inl is) (inl left) steps = steps one pick (inl is.1) left
chosen_asks home program setting frame blocks (expr type place (cond test one other)) work pick (inl is) (inr (inl left)) steps = steps other pick (inl is.2) left
chosen_asks home program setting frame blocks (expr type place (cond test one other)) work pick (inl is) (inr (inr left)) steps = absurd left
chosen_asks home program setting frame blocks (expr type place (cond test one other)) work pick (inr is) parts steps = absurd is
chosen_asks home program setting frame blocks (expr type place (assign target value)) work pick still parts steps = absurd parts
chosen_asks home program setting frame blocks (expr type place (assign_by op computes target value)) work pick still parts steps = absurd parts
chosen_asks home program setting frame blocks (expr type place (step up post on)) work pick still parts steps = absurd parts
chosen_asks home program setting frame blocks (expr type place (call callee args)) work pick still parts steps = absurd parts
chosen_asks home program setting frame blocks (expr type place (call_by callee args)) work pick still parts steps = absurd parts
chosen_asks home program setting frame blocks (expr type place (comma one other)) work pick (inl is) (inl left) steps = steps other pick (inl is.1) left
chosen_asks home program setting frame blocks (expr type place (comma one other)) work pick (inl is) (inr left) steps = absurd left
chosen_asks home program setting frame blocks (expr type place (comma one other)) work pick (inr is) parts steps = absurd is
chosen_asks home program setting frame blocks (expr type place (literal number puts)) work pick still parts steps = absurd parts

-- a compound literal isn't constant
no_filling : (program : CProgram) (node : CExpr) (one : CPut) (others : CPuts) → IsStill program node → IsFilling node one others → ⊥
no_filling program (expr type place (whole value)) put rest still filling = filling
no_filling program (expr type place null) put rest still filling = filling
no_filling program (expr type place (object number)) put rest still filling = filling
no_filling program (expr type place (code number)) put rest still filling = filling
no_filling program (expr type place (load from)) put rest still filling = filling
no_filling program (expr type place (deref from)) put rest still filling = filling
no_filling program (expr type place (member of spot)) put rest still filling = filling
no_filling program (expr type place (address of)) put rest still filling = filling
no_filling program (expr type place (convert value)) put rest still filling = filling
no_filling program (expr type place (unary op value)) put rest still filling = filling
no_filling program (expr type place (binary op left right)) put rest still filling = filling
no_filling program (expr type place (and left right)) put rest still filling = filling
no_filling program (expr type place (or left right)) put rest still filling = filling
no_filling program (expr type place (cond test one other)) put rest still filling = filling
no_filling program (expr type place (assign target value)) put rest still filling = filling
no_filling program (expr type place (assign_by op computes target value)) put rest still filling = filling
no_filling program (expr type place (step up post on)) put rest still filling = filling
no_filling program (expr type place (call callee args)) put rest still filling = filling
no_filling program (expr type place (call_by callee args)) put rest still filling = filling
no_filling program (expr type place (comma one other)) put rest still filling = filling
no_filling program (expr type place (literal number puts)) put rest (inl is) filling = is
no_filling program (expr type place (literal number puts)) put rest (inr is) filling = is

mutual
  pub still_steps : (home : CHome) (program : CProgram) (setting : CSetting) (frame : Frame) (blocks : Blocks) (work : CWork) → StillSteps home program setting frame blocks work
  still_steps home program setting frame blocks (finished operand) = λ node pick still is. tt
  still_steps home program setting frame blocks (needs own operands) = λ node pick still is.
      subst (λ n. AsksNothing (step_at setting frame blocks pick (needs n operands))) (sym is.0)
      (needs_asks home program setting frame blocks node operands pick (operands_of node) still (operands_still program node still) is.1 (each_still home program setting frame blocks operands))
  still_steps home program setting frame blocks (chooses own first) = λ node pick still is.
      first_asks (chooses_step blocks own) (inside (chooses own) (step_at setting frame blocks pick first)) first (λ operand. chooses_asks blocks own operand)
      (inside_asks (chooses own) (step_at setting frame blocks pick first)
      (part_asks home program setting frame blocks (first_part node) first pick (first_still program node still) is.1 (still_steps home program setting frame blocks first)))
  still_steps home program setting frame blocks (tests own marks second) = λ node pick still is.
      first_asks (tests_step blocks own marks) (inside (tests own marks) (step_at setting frame blocks pick second)) second (λ operand. value_asks (type_of own) (place_of own) blocks _ _)
      (inside_asks (tests own marks) (step_at setting frame blocks pick second)
      (part_asks home program setting frame blocks (second_part node) second pick (second_still program node still) is.1 (still_steps home program setting frame blocks second)))
  still_steps home program setting frame blocks (carries own marks chosen) = λ node pick still is.
      inside_asks (carried own marks) (step_at setting frame blocks pick chosen)
      (chosen_asks home program setting frame blocks node chosen pick still is.2 (still_steps home program setting frame blocks chosen))
  still_steps home program setting frame blocks (updates own update stage marks) = λ node pick still is. stage_asks setting frame blocks own update marks stage
  still_steps home program setting frame blocks (fills own marks one others value) = λ node pick still is. absurd (no_filling program node one others still is.1)
  still_steps home program setting frame blocks (waits own marks) = λ node pick still is. tt

  each_still : (home : CHome) (program : CProgram) (setting : CSetting) (frame : Frame) (blocks : Blocks) (works : CWorks) → EachStill home program setting frame blocks works
  each_still home program setting frame blocks no_works = tt
  each_still home program setting frame blocks (more_works first others) = (still_steps home program setting frame blocks first, each_still home program setting frame blocks others)

-- the step of a constant is no call
pub constant_asks : (home : CHome) (program : CProgram) (setting : CSetting) (frame : Frame) (blocks : Blocks) (node : CExpr) (work : CWork) (pick : ℕ) (called : _) (after : CWork) → IsConstant program node → IsWorkOf home node work
    → step_at setting frame blocks pick work ≡ Ok (asks_call called after) → ⊥
constant_asks home program setting frame blocks node work pick called after is left e = subst AsksNothing e (still_steps home program setting frame blocks work node pick (inl is) left)
