-- One step of an expression under evaluation (ISO C99, 6.5 and 5.1.2.3), at any of its ready nodes.
use Rattle.std.specs.Prelude.{ℕ, zero, suc, ◌-◌, ◌%◌, nat_lt, true, false, List, [], ◌∷◌, Result, Ok, Err}
use Rattle.cr_base.specs.declared.refusal.Place.{Place}
use Rattle.cx_core.specs.Trees.{CTy, CExpr, expr, CForm, assign_by, step, call, call_by, literal, CPut, put, CPuts, type_of, place_of}
use Rattle.cx_mean.specs.Calls.{CCalled, CCalling, node_calling}
use Rattle.cx_mean.specs.Initialisers.{put_stored}
use Rattle.cx_mean.specs.Marks.{Marks, at_sequence_point}
use Rattle.cx_mean.specs.Nodes.{CDone, node_done, CUpdating, node_updating, update_computed, update_converted, update_stored, CChoice, decided, tests_next, carries_next, chosen, tested, literal_cleared, marks_after_put}
use Rattle.cx_mean.specs.Operands.{CWhy, stuck, CFault, CValue, COperand, Frame}
use Rattle.cx_mean.specs.Settings.{CSetting}
use Rattle.cx_mean.specs.Work.{CUpdate, CStage, was_loaded, was_computed, was_converted, CWork, finished, needs, chooses, tests, carries, updates, fills, waits, CWorks, no_works, more_works, begun, are_finished, operands_in, after_marks, carried, filled, ready}
use Rattle.mem_bytes.specs.Access.{and_then}
use Rattle.mem_bytes.specs.Memory.{Blocks}

-- what a step of an expression leaves: what is left of it, and the memory; or it calls a function, and waits
pub data CDid : Type 0 where
  did : CWork → Blocks → CDid
  asks_call : CCalled → CWork → CDid

abbrev pub CStepped : Type 0
CStepped = Result CDid CFault

-- a step of a node, which breaks a rule at its place
abbrev pub at_node : {A : Type 0} → Place → Result A CWhy → Result A CFault
at_node place (Ok value) = Ok value
at_node place (Err why) = Err (record { why = why; place = place })

abbrev pub finished_with : CTy → CValue → Marks → CWork
finished_with type value marks = finished (record { type = type; value = value; marks = marks })

-- ---- steps of nodes

abbrev pub did_done : CTy → CDone → CDid
did_done type one = did (finished_with type one.value one.marks) one.blocks

abbrev pub did_update : CExpr → Blocks → CUpdating → CDid
did_update node blocks one = did (updates node one.update was_loaded one.marks) blocks

abbrev pub did_call : CExpr → CCalling → CDid
did_call node one = asks_call one.called (waits node one.marks)

abbrev pub did_clear : CExpr → ℕ → CPuts → CDone → CDid
did_clear node number puts one = did (filled node number one.marks puts) one.blocks

abbrev pub outcome_of : {A : Type 0} → (A → CDid) → Result A CWhy → Result CDid CWhy
outcome_of make outcome = and_then outcome (λ one. Ok (make one))

-- a node whose operands are finished
abbrev pub form_step : CSetting → Frame → Blocks → CTy → Place → CForm → List COperand → Result CDid CWhy
form_step setting frame blocks type place (assign_by op computes target value) operands =
    outcome_of (did_update (expr type place (assign_by op computes target value)) blocks)
    (node_updating setting (assign_by op computes target value) frame blocks operands)
form_step setting frame blocks type place (step up post on) operands =
    outcome_of (did_update (expr type place (step up post on)) blocks)
    (node_updating setting (step up post on) frame blocks operands)
form_step setting frame blocks type place (call number args) operands =
    outcome_of (did_call (expr type place (call number args))) (node_calling setting type place (call number args) operands)
form_step setting frame blocks type place (call_by callee args) operands =
    outcome_of (did_call (expr type place (call_by callee args))) (node_calling setting type place (call_by callee args) operands)
form_step setting frame blocks type place (literal number puts) operands =
    outcome_of (did_clear (expr type place (literal number puts)) number puts) (literal_cleared setting frame blocks number puts)
form_step setting frame blocks type place form operands =
    outcome_of (did_done type) (node_done setting type form frame blocks operands)

abbrev pub needs_step : CSetting → Frame → Blocks → CExpr → List COperand → CStepped
needs_step setting frame blocks (expr type place form) operands =
    at_node place (form_step setting frame blocks type place form operands)

-- the first operand of `&&`, `||`, `?:` or a comma is finished; there is a sequence point behind it
abbrev pub after_choice : CExpr → CTy → Blocks → Marks → CChoice → CDid
after_choice node type blocks marks (decided value) = did (finished_with type value marks) blocks
after_choice node type blocks marks (tests_next second) = did (tests node marks (begun second)) blocks
after_choice node type blocks marks (carries_next part) = did (carried node marks (begun part)) blocks

abbrev pub chooses_step : Blocks → CExpr → COperand → CStepped
chooses_step blocks (expr type place form) first =
    at_node place
    (outcome_of (after_choice (expr type place form) type blocks (at_sequence_point first.marks)) (chosen form blocks first.value))

-- the second operand of `&&` or `||` is finished
abbrev pub tests_step : Blocks → CExpr → Marks → COperand → CStepped
tests_step blocks node marks second =
    let one = after_marks marks second in
    at_node (place_of node)
    (outcome_of (λ value. did (finished_with (type_of node) value one.marks) blocks) (tested blocks one.value))

-- a stage of `op=`, `++` or `--`
abbrev pub stage_step : CSetting → Frame → Blocks → CExpr → CUpdate → Marks → CStage → Result CDid CWhy
stage_step setting frame blocks node update marks was_loaded =
    outcome_of (λ new. did (updates node update (was_computed new) marks) blocks) (update_computed setting blocks update)
stage_step setting frame blocks node update marks (was_computed new) =
    outcome_of (λ value. did (updates node update (was_converted value) marks) blocks) (update_converted setting blocks update new)
stage_step setting frame blocks node update marks (was_converted new) =
    outcome_of (did_done (type_of node)) (update_stored setting frame blocks update marks new)

-- the value of a put of a compound literal is finished
abbrev pub literal_number : CExpr → Result ℕ CWhy
literal_number (expr type place (literal number puts)) = Ok number
literal_number (expr type place form) = Err stuck

-- a put stands where its value does
abbrev pub place_of_put : CPut → Place
place_of_put (put spot type value) = place_of value

abbrev pub put_step : CSetting → Frame → Blocks → CExpr → Marks → CPut → CPuts → COperand → Result CDid CWhy
put_step setting frame blocks node marks (put spot type value) others operand =
    and_then (literal_number node) (λ number.
    and_then (put_stored setting frame blocks number spot type operand) (λ one.
    Ok (did (filled node number (marks_after_put marks one.marks) others) one.blocks)))

-- ---- the step at a ready node

-- a step of a part, as a step of the tree that has it
abbrev pub inside : (CWork → CWork) → CStepped → CStepped
inside around (Ok (did work blocks)) = Ok (did (around work) blocks)
inside around (Ok (asks_call called work)) = Ok (asks_call called (around work))
inside around (Err fault) = Err fault

-- no node is there
abbrev pub nowhere : CExpr → CStepped
nowhere node = Err (record { why = stuck; place = place_of node })

abbrev mutual
  -- the step at the ready node with a number, from 0 on in post-order
  pub step_at : CSetting → Frame → Blocks → (pick : ℕ) → CWork → CStepped
  step_at setting frame blocks pick (finished operand) = Ok (did (finished operand) blocks)
  step_at setting frame blocks pick (needs node operands) = elim (are_finished operands) as (λ _. CStepped) [
    | true ↦ needs_step setting frame blocks node (operands_in operands)
    | false ↦ step_among setting frame blocks pick operands (nowhere node) (needs node)
  ]
  step_at setting frame blocks pick (chooses node first) =
      at_first_operand (chooses_step blocks node) (inside (chooses node) (step_at setting frame blocks pick first)) first
  step_at setting frame blocks pick (tests node marks second) =
      at_first_operand (tests_step blocks node marks) (inside (tests node marks) (step_at setting frame blocks pick second)) second
  step_at setting frame blocks pick (carries node marks part) =
      inside (carried node marks) (step_at setting frame blocks pick part)
  step_at setting frame blocks pick (updates node update stage marks) =
      at_node (place_of node) (stage_step setting frame blocks node update marks stage)
  step_at setting frame blocks pick (fills node marks one others value) =
      at_first_operand (λ operand. at_node (place_of_put one) (put_step setting frame blocks node marks one others operand))
      (inside (fills node marks one others) (step_at setting frame blocks pick value)) value
  step_at setting frame blocks pick (waits node marks) = nowhere node

  -- the same among operands, of which the tree around is made again
  pub step_among : CSetting → Frame → Blocks → ℕ → CWorks → CStepped → (CWorks → CWork) → CStepped
  step_among setting frame blocks pick no_works none around = none
  step_among setting frame blocks pick (more_works first others) none around = elim (nat_lt pick (ready first)) as (λ _. CStepped) [
    | true ↦ inside (λ work. around (more_works work others)) (step_at setting frame blocks pick first)
    | false ↦ step_among setting frame blocks (pick - ready first) others none (λ works. around (more_works first works))
  ]

  -- the node itself where its operand is finished, and else the step inside it
  pub at_first_operand : (COperand → CStepped) → CStepped → CWork → CStepped
  at_first_operand node within (finished operand) = node operand
  at_first_operand node within work = within

-- ---- which node goes next

-- the ready node that is taken, and the numbers of the order that are left
pub record CPick : Type 0 where
  pub pick : ℕ
  pub order : List ℕ

-- Where two or more nodes are ready, the one with the next number of the order modulo their count is taken,
-- counted from 0; where no number is left, the first. Where one is ready it is taken, and no number.
abbrev pub picked : List ℕ → (count : ℕ) → CPick
picked order zero = record { pick = 0; order = order }
picked order (suc zero) = record { pick = 0; order = order }
picked [] (suc (suc n)) = record { pick = 0; order = [] }
picked (next ∷ order) (suc (suc n)) = record { pick = next % suc (suc n); order = order }
