-- A step of an expression writes cells of blocks that live, and makes none (ISO C99, 6.5): by induction on the tree.
use Rattle.std.proofs.Common.{ℕ, ◌-◌, Bool, true, false, nat_lt, List, [], ◌∷◌, Some, Result, Ok, Err}
use Rattle.cr_base.specs.declared.refusal.Place.{Place}
use Rattle.cx_core.specs.Trees.{CTy, CExpr, expr, CForm, load, deref, member, address, convert, unary, binary, assign, assign_by, step, call, call_by, literal, CPut, put, CPuts, type_of, place_of}
use Rattle.cx_mean.proofs.KeptNodes.{IfGiven, given_and, given_then}
use Rattle.cx_mean.specs.Accesses.{CLoaded, CStored}
use Rattle.cx_mean.specs.Initialisers.{object_cleared, put_stored}
use Rattle.cx_mean.specs.Marks.{Marks, at_sequence_point}
use Rattle.cx_mean.specs.Nodes.{CDone, gives_value, done_by_load, unary_done, binary_done, done_by_count, node_done, node_updating, update_computed, update_converted, update_stored, CChoice, decided, tests_next, carries_next, chosen, tested, literal_cleared, marks_after_put}
use Rattle.cx_mean.specs.Operands.{CWhy, CValue, scalar, COperand, Frame, united_operands}
use Rattle.cx_mean.specs.Settings.{CSetting}
use Rattle.cx_mean.specs.Steps.{CDid, did, asks_call, CStepped, at_node, outcome_of, did_done, did_update, did_call, did_clear, form_step, needs_step, after_choice, chooses_step, tests_step, stage_step, literal_number, place_of_put, put_step, inside, nowhere, step_at, step_among, at_first_operand}
use Rattle.cx_mean.specs.Work.{CUpdate, CStage, was_loaded, was_computed, was_converted, CWork, finished, needs, chooses, tests, carries, updates, fills, waits, CWorks, no_works, more_works, are_finished, operands_in, carried, filled, ready}
use Rattle.mem_bytes.specs.Access.{and_then}
use Rattle.mem_bytes.specs.Memory.{Blocks}
use Rattle.cx_typed_runs.proofs.BlockChanges.{IsKept}
use Rattle.cx_typed_runs.proofs.BlockStores.{StoreKept, store_kept, put_stored_kept, ClearKept, clear_kept}

-- ---- outcomes

-- what is said of the memory that a step leaves, before and after its place is told
abbrev GivenKept : (Blocks → Type 0) → Result CDid CWhy → Type 0
GivenKept P (Ok (did next after)) = P after
GivenKept P (Ok (asks_call called work)) = Unit {0}
GivenKept P (Err why) = Unit {0}

abbrev pub StepKept : (Blocks → Type 0) → CStepped → Type 0
StepKept P (Ok (did next after)) = P after
StepKept P (Ok (asks_call called work)) = Unit {0}
StepKept P (Err fault) = Unit {0}

at_node_kept : (P : Blocks → Type 0) (place : Place) (outcome : Result CDid CWhy) → GivenKept P outcome → StepKept P (at_node place outcome)
at_node_kept P place (Ok (did next after)) is = is
at_node_kept P place (Ok (asks_call called work)) is = tt
at_node_kept P place (Err why) is = tt

outcome_kept : {A : Type 0} (P : Blocks → Type 0) (Of : A → Type 0) (make : A → CDid) (outcome : Result A CWhy) → IfGiven Of outcome → ((one : A) → Of one → GivenKept P (Ok (make one)))
    → GivenKept P (outcome_of make outcome)
outcome_kept P Of make (Ok one) is all = all one is
outcome_kept P Of make (Err why) is all = tt

-- whatever it gives
made_kept : {A : Type 0} (P : Blocks → Type 0) (make : A → CDid) (outcome : Result A CWhy) → ((one : A) → GivenKept P (Ok (make one))) → GivenKept P (outcome_of make outcome)
made_kept P make (Ok one) all = all one
made_kept P make (Err why) all = tt

abbrev DoneKept : (Blocks → Type 0) → CDone → Type 0
DoneKept P one = P one.blocks

inside_kept : (P : Blocks → Type 0) (around : CWork → CWork) (outcome : CStepped) → StepKept P outcome → StepKept P (inside around outcome)
inside_kept P around (Ok (did next after)) is = is
inside_kept P around (Ok (asks_call called work)) is = tt
inside_kept P around (Err fault) is = tt

first_kept : (P : Blocks → Type 0) (node : COperand → CStepped) (within : CStepped) (first : CWork) → ((operand : COperand) → StepKept P (node operand)) → StepKept P within → StepKept P (at_first_operand node within first)
first_kept P node within (finished operand) one other = one operand
first_kept P node within (needs e operands) one other = other
first_kept P node within (chooses e first) one other = other
first_kept P node within (tests e marks second) one other = other
first_kept P node within (carries e marks part) one other = other
first_kept P node within (updates e update stage marks) one other = other
first_kept P node within (fills e marks put_now others value) one other = other
first_kept P node within (waits e marks) one other = other

one_of : (P : Blocks → Type 0) (test : Bool) (one other : CStepped) → StepKept P one → StepKept P other → StepKept P (elim test as (λ _. CStepped) [ true ↦ one | false ↦ other ])
one_of P true one other is too = is
one_of P false one other is too = too

-- ---- nodes

module _ (P : Blocks → Type 0) (kept : IsKept P) (blocks : Blocks) (p : P blocks) where
  value_kept : (marks : Marks) (outcome : Result CValue CWhy) → IfGiven (DoneKept P) (gives_value marks blocks outcome)
  value_kept marks (Ok value) = p
  value_kept marks (Err why) = tt

  load_kept : (outcome : Result CLoaded CWhy) → IfGiven (DoneKept P) (done_by_load blocks outcome)
  load_kept (Ok one) = p
  load_kept (Err why) = tt

  unary_kept : (setting : CSetting) (type : CTy) (form : CForm) (frame : Frame) (marks : Marks) (one : COperand) → IfGiven (DoneKept P) (unary_done setting type form frame marks blocks one)
  unary_kept setting type (load from) frame marks one = load_kept _
  unary_kept setting type (deref from) frame marks one = value_kept marks _
  unary_kept setting type (member of spot) frame marks one = value_kept marks _
  unary_kept setting type (address of) frame marks one = value_kept marks _
  unary_kept setting type (convert value) frame marks one = value_kept marks _
  unary_kept setting type (unary op value) frame marks one = value_kept marks _
  unary_kept setting type form frame marks one = tt

  binary_kept : (setting : CSetting) (type : CTy) (form : CForm) (frame : Frame) (marks : Marks) (one other : COperand) → IfGiven (DoneKept P) (binary_done setting type form frame marks blocks one other)
  binary_kept setting type (binary op left right) frame marks one other = value_kept marks _
  binary_kept setting type (assign target value) frame marks one other =
      given_and (StoreKept P) (DoneKept P) _ _ (store_kept P kept blocks p setting frame type one.value other.value marks) (λ stored is. is)
  binary_kept setting type form frame marks one other = tt

  count_kept : (setting : CSetting) (type : CTy) (form : CForm) (frame : Frame) (marks : Marks) (operands : List COperand) → IfGiven (DoneKept P) (done_by_count setting type form frame marks blocks operands)
  count_kept setting type form frame marks [] = tt
  count_kept setting type form frame marks (one ∷ []) = unary_kept setting type form frame marks one
  count_kept setting type form frame marks (one ∷ other ∷ []) = binary_kept setting type form frame marks one other
  count_kept setting type form frame marks (one ∷ other ∷ third ∷ more) = tt

  done_kept : (setting : CSetting) (type : CTy) (form : CForm) (frame : Frame) (operands : List COperand) → GivenKept P (outcome_of (did_done type) (node_done setting type form frame blocks operands))
  done_kept setting type form frame operands =
      outcome_kept P (DoneKept P) (did_done type) (node_done setting type form frame blocks operands)
      (given_then (DoneKept P) (united_operands operands) _ (λ marks. count_kept setting type form frame marks operands)) (λ one is. is)

  cleared_kept : (setting : CSetting) (frame : Frame) (node : CExpr) (number : ℕ) (puts : CPuts) → GivenKept P (outcome_of (did_clear node number puts) (literal_cleared setting frame blocks number puts))
  cleared_kept setting frame node number puts =
      outcome_kept P (DoneKept P) (did_clear node number puts) (literal_cleared setting frame blocks number puts)
      (given_and (ClearKept P) (DoneKept P) (object_cleared setting frame number (Some puts) blocks) _ (clear_kept P kept blocks p setting frame number (Some puts)) (λ one is. is)) (λ one is. is)

  form_kept : (setting : CSetting) (frame : Frame) (type : CTy) (place : Place) (form : CForm) (operands : List COperand) → GivenKept P (form_step setting frame blocks type place form operands)
  form_kept setting frame type place (assign_by op computes target value) operands =
      made_kept P (did_update (expr type place (assign_by op computes target value)) blocks) (node_updating setting (assign_by op computes target value) frame blocks operands) (λ one. p)
  form_kept setting frame type place (step up post on) operands =
      made_kept P (did_update (expr type place (step up post on)) blocks) (node_updating setting (step up post on) frame blocks operands) (λ one. p)
  form_kept setting frame type place (call number args) operands = made_kept P (did_call _) _ (λ one. tt)
  form_kept setting frame type place (call_by callee args) operands = made_kept P (did_call _) _ (λ one. tt)
  form_kept setting frame type place (literal number puts) operands = cleared_kept setting frame (expr type place (literal number puts)) number puts
  form_kept setting frame type place form operands = done_kept setting type form frame operands

  needs_kept : (setting : CSetting) (frame : Frame) (node : CExpr) (operands : List COperand) → StepKept P (needs_step setting frame blocks node operands)
  needs_kept setting frame (expr type place form) operands = at_node_kept P place _ (form_kept setting frame type place form operands)

  choice_kept : (node : CExpr) (type : CTy) (marks : Marks) (choice : CChoice) → GivenKept P (Ok (after_choice node type blocks marks choice))
  choice_kept node type marks (decided value) = p
  choice_kept node type marks (tests_next second) = p
  choice_kept node type marks (carries_next part) = p

  chooses_kept : (node : CExpr) (first : COperand) → StepKept P (chooses_step blocks node first)
  chooses_kept (expr type place form) first =
      at_node_kept P place _ (made_kept P _ (chosen form blocks first.value) (λ choice. choice_kept (expr type place form) type (at_sequence_point first.marks) choice))

  tests_kept : (node : CExpr) (marks : Marks) (second : COperand) → StepKept P (tests_step blocks node marks second)
  tests_kept node marks second = at_node_kept P (place_of node) _ (made_kept P _ (tested blocks second.value) (λ value. p))

  stage_kept : (setting : CSetting) (frame : Frame) (node : CExpr) (update : CUpdate) (marks : Marks) (stage : CStage) → GivenKept P (stage_step setting frame blocks node update marks stage)
  stage_kept setting frame node update marks was_loaded = made_kept P _ (update_computed setting blocks update) (λ new. p)
  stage_kept setting frame node update marks (was_computed new) = made_kept P _ (update_converted setting blocks update new) (λ value. p)
  stage_kept setting frame node update marks (was_converted new) =
      outcome_kept P (DoneKept P) (did_done (type_of node)) (update_stored setting frame blocks update marks new)
      (given_and (StoreKept P) (DoneKept P) _ _ (store_kept P kept blocks p setting frame update.target_type update.target (scalar new) marks) (λ one is. is)) (λ one is. is)

  put_kept : (setting : CSetting) (frame : Frame) (node : CExpr) (marks : Marks) (one : CPut) (others : CPuts) (operand : COperand) → GivenKept P (put_step setting frame blocks node marks one others operand)
  put_kept setting frame node marks (put spot type value) others operand = from_number (literal_number node)
    where
      from_stored : (number : ℕ) (outcome : Result CStored CWhy) → IfGiven (StoreKept P) outcome → GivenKept P (and_then outcome (λ one. Ok (did (filled node number (marks_after_put marks one.marks) others) one.blocks)))
      from_stored number (Ok one) is = is
      from_stored number (Err why) is = tt

      from_number : (found : Result ℕ CWhy) → GivenKept P (and_then found (λ number. and_then (put_stored setting frame blocks number spot type operand) (λ one. Ok (did (filled node number (marks_after_put marks one.marks) others) one.blocks))))
      from_number (Ok number) = from_stored number (put_stored setting frame blocks number spot type operand) (put_stored_kept P kept blocks p setting frame number spot type operand)
      from_number (Err why) = tt

  -- ---- the step at a ready node

  module _ (setting : CSetting) (frame : Frame) where
    mutual
      pub step_kept : (work : CWork) (pick : ℕ) → StepKept P (step_at setting frame blocks pick work)
      step_kept (finished operand) pick = p
      step_kept (needs node operands) pick =
          one_of P (are_finished operands) _ _ (needs_kept setting frame node (operands_in operands)) (among_kept operands pick (nowhere node) (needs node) tt)
      step_kept (chooses node first) pick =
          first_kept P (chooses_step blocks node) _ first (λ operand. chooses_kept node operand) (inside_kept P (chooses node) _ (step_kept first pick))
      step_kept (tests node marks second) pick =
          first_kept P (tests_step blocks node marks) _ second (λ operand. tests_kept node marks operand) (inside_kept P (tests node marks) _ (step_kept second pick))
      step_kept (carries node marks part) pick = inside_kept P (carried node marks) _ (step_kept part pick)
      step_kept (updates node update stage marks) pick = at_node_kept P (place_of node) _ (stage_kept setting frame node update marks stage)
      step_kept (fills node marks one others value) pick =
          first_kept P _ _ value (λ operand. at_node_kept P (place_of_put one) _ (put_kept setting frame node marks one others operand))
          (inside_kept P (fills node marks one others) _ (step_kept value pick))
      step_kept (waits node marks) pick = tt

      among_kept : (works : CWorks) (pick : ℕ) (none : CStepped) (around : CWorks → CWork) → StepKept P none → StepKept P (step_among setting frame blocks pick works none around)
      among_kept no_works pick none around is = is
      among_kept (more_works first others) pick none around is =
          one_of P (nat_lt pick (ready first)) _ _ (inside_kept P (λ work. around (more_works work others)) _ (step_kept first pick))
          (among_kept others (pick - ready first) none (λ works. around (more_works first works)) is)
