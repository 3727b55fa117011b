-- A step of an expression leaves each block alive that lived, and dead that had died: by induction on the tree.
use Rattle.std.proofs.Common.{ℕ, ◌-◌, Bool, true, false, nat_lt, List, [], ◌∷◌, Some, Result, Ok, Err}
use Rattle.cr_base.specs.declared.refusal.Place.{Place}
use Rattle.cx_core.specs.Trees.{CTy, CExpr, expr, CForm, load, deref, member, address, convert, unary, binary, assign, assign_by, step, call, call_by, literal, CPut, put, CPuts, type_of, place_of}
use Rattle.cx_mean.proofs.KeptNodes.{IfGiven, given_and, given_then}
use Rattle.cx_mean.specs.Accesses.{CLoaded, CStored}
use Rattle.cx_mean.specs.Initialisers.{object_cleared, put_stored}
use Rattle.cx_mean.specs.Marks.{Marks, at_sequence_point}
use Rattle.cx_mean.specs.Nodes.{CDone, gives_value, done_by_load, unary_done, binary_done, done_by_count, node_done, node_updating, update_computed, update_converted, update_stored, CChoice, decided, tests_next, carries_next, chosen, tested, literal_cleared, marks_after_put}
use Rattle.cx_mean.specs.Operands.{CWhy, CValue, scalar, COperand, Frame, united_operands}
use Rattle.cx_mean.specs.Settings.{CSetting}
use Rattle.cx_mean.specs.Steps.{CDid, did, asks_call, CStepped, at_node, outcome_of, did_done, did_update, did_call, did_clear, form_step, needs_step, after_choice, chooses_step, tests_step, stage_step, literal_number, place_of_put, put_step, inside, nowhere, step_at, step_among, at_first_operand}
use Rattle.cx_mean.specs.Work.{CUpdate, CStage, was_loaded, was_computed, was_converted, CWork, finished, needs, chooses, tests, carries, updates, fills, waits, CWorks, no_works, more_works, are_finished, operands_in, carried, filled, ready}
use Rattle.mem_bytes.specs.Access.{and_then}
use Rattle.mem_bytes.specs.Memory.{Blocks}
use Rattle.cx_stays.proofs.Lives.{lives_same}
use Rattle.cx_stays.proofs.StoreLives.{StoreLives, store_lives, put_stored_lives, ClearLives, clear_lives}
use Rattle.cx_stays.specs.Stays.{LivesAgree}

-- ---- outcomes

-- what a step leaves of the lives of blocks, before and after its place is told
abbrev GivenLives : Blocks → Result CDid CWhy → Type 0
GivenLives blocks (Ok (did next after)) = LivesAgree blocks after
GivenLives blocks (Ok (asks_call called work)) = Unit {0}
GivenLives blocks (Err why) = Unit {0}

abbrev pub StepLives : Blocks → CStepped → Type 0
StepLives blocks (Ok (did next after)) = LivesAgree blocks after
StepLives blocks (Ok (asks_call called work)) = Unit {0}
StepLives blocks (Err fault) = Unit {0}

at_node_lives : (blocks : Blocks) (place : Place) (outcome : Result CDid CWhy) → GivenLives blocks outcome → StepLives blocks (at_node place outcome)
at_node_lives blocks place (Ok (did next after)) is = is
at_node_lives blocks place (Ok (asks_call called work)) is = tt
at_node_lives blocks place (Err why) is = tt

outcome_lives : {A : Type 0} (P : A → Type 0) (blocks : Blocks) (make : A → CDid) (outcome : Result A CWhy) → IfGiven P outcome → ((one : A) → P one → GivenLives blocks (Ok (make one)))
    → GivenLives blocks (outcome_of make outcome)
outcome_lives P blocks make (Ok one) is all = all one is
outcome_lives P blocks make (Err why) is all = tt

-- whatever it gives
made_lives : {A : Type 0} (blocks : Blocks) (make : A → CDid) (outcome : Result A CWhy) → ((one : A) → GivenLives blocks (Ok (make one))) → GivenLives blocks (outcome_of make outcome)
made_lives blocks make (Ok one) all = all one
made_lives blocks make (Err why) all = tt

-- ---- nodes

abbrev DoneLives : Blocks → CDone → Type 0
DoneLives blocks one = LivesAgree blocks one.blocks

value_lives : (blocks : Blocks) (marks : Marks) (outcome : Result CValue CWhy) → IfGiven (DoneLives blocks) (gives_value marks blocks outcome)
value_lives blocks marks (Ok value) = lives_same blocks
value_lives blocks marks (Err why) = tt

load_lives : (blocks : Blocks) (outcome : Result CLoaded CWhy) → IfGiven (DoneLives blocks) (done_by_load blocks outcome)
load_lives blocks (Ok one) = lives_same blocks
load_lives blocks (Err why) = tt

unary_lives : (setting : CSetting) (type : CTy) (form : CForm) (frame : Frame) (marks : Marks) (blocks : Blocks) (one : COperand) → IfGiven (DoneLives blocks) (unary_done setting type form frame marks blocks one)
unary_lives setting type (load from) frame marks blocks one = load_lives blocks _
unary_lives setting type (deref from) frame marks blocks one = value_lives blocks marks _
unary_lives setting type (member of spot) frame marks blocks one = value_lives blocks marks _
unary_lives setting type (address of) frame marks blocks one = value_lives blocks marks _
unary_lives setting type (convert value) frame marks blocks one = value_lives blocks marks _
unary_lives setting type (unary op value) frame marks blocks one = value_lives blocks marks _
unary_lives setting type form frame marks blocks one = tt

binary_lives : (setting : CSetting) (type : CTy) (form : CForm) (frame : Frame) (marks : Marks) (blocks : Blocks) (one other : COperand) → IfGiven (DoneLives blocks) (binary_done setting type form frame marks blocks one other)
binary_lives setting type (binary op left right) frame marks blocks one other = value_lives blocks marks _
binary_lives setting type (assign target value) frame marks blocks one other =
    given_and (StoreLives blocks) (DoneLives blocks) _ _ (store_lives setting frame blocks type one.value other.value marks) (λ stored lives. lives)
binary_lives setting type form frame marks blocks one other = tt

count_lives : (setting : CSetting) (type : CTy) (form : CForm) (frame : Frame) (marks : Marks) (blocks : Blocks) (operands : List COperand) → IfGiven (DoneLives blocks) (done_by_count setting type form frame marks blocks operands)
count_lives setting type form frame marks blocks [] = tt
count_lives setting type form frame marks blocks (one ∷ []) = unary_lives setting type form frame marks blocks one
count_lives setting type form frame marks blocks (one ∷ other ∷ []) = binary_lives setting type form frame marks blocks one other
count_lives setting type form frame marks blocks (one ∷ other ∷ third ∷ more) = tt

done_lives : (setting : CSetting) (type : CTy) (form : CForm) (frame : Frame) (blocks : Blocks) (operands : List COperand) → GivenLives blocks (outcome_of (did_done type) (node_done setting type form frame blocks operands))
done_lives setting type form frame blocks operands =
    outcome_lives (DoneLives blocks) blocks (did_done type) (node_done setting type form frame blocks operands)
    (given_then (DoneLives blocks) (united_operands operands) _ (λ marks. count_lives setting type form frame marks blocks operands)) (λ one lives. lives)

cleared_lives : (setting : CSetting) (frame : Frame) (blocks : Blocks) (node : CExpr) (number : ℕ) (puts : CPuts) → GivenLives blocks (outcome_of (did_clear node number puts) (literal_cleared setting frame blocks number puts))
cleared_lives setting frame blocks node number puts =
    outcome_lives (DoneLives blocks) blocks (did_clear node number puts) (literal_cleared setting frame blocks number puts)
    (given_and (ClearLives blocks) (DoneLives blocks) (object_cleared setting frame number (Some puts) blocks) _ (clear_lives setting frame number (Some puts) blocks) (λ one lives. lives)) (λ one lives. lives)

form_lives : (setting : CSetting) (frame : Frame) (blocks : Blocks) (type : CTy) (place : Place) (form : CForm) (operands : List COperand) → GivenLives blocks (form_step setting frame blocks type place form operands)
form_lives setting frame blocks type place (assign_by op computes target value) operands =
    made_lives blocks (did_update (expr type place (assign_by op computes target value)) blocks) (node_updating setting (assign_by op computes target value) frame blocks operands) (λ one. lives_same blocks)
form_lives setting frame blocks type place (step up post on) operands =
    made_lives blocks (did_update (expr type place (step up post on)) blocks) (node_updating setting (step up post on) frame blocks operands) (λ one. lives_same blocks)
form_lives setting frame blocks type place (call number args) operands = made_lives blocks (did_call _) _ (λ one. tt)
form_lives setting frame blocks type place (call_by callee args) operands = made_lives blocks (did_call _) _ (λ one. tt)
form_lives setting frame blocks type place (literal number puts) operands = cleared_lives setting frame blocks (expr type place (literal number puts)) number puts
form_lives setting frame blocks type place form operands = done_lives setting type form frame blocks operands

needs_lives : (setting : CSetting) (frame : Frame) (blocks : Blocks) (node : CExpr) (operands : List COperand) → StepLives blocks (needs_step setting frame blocks node operands)
needs_lives setting frame blocks (expr type place form) operands = at_node_lives blocks place _ (form_lives setting frame blocks type place form operands)

choice_lives : (blocks : Blocks) (node : CExpr) (type : CTy) (marks : Marks) (choice : CChoice) → GivenLives blocks (Ok (after_choice node type blocks marks choice))
choice_lives blocks node type marks (decided value) = lives_same blocks
choice_lives blocks node type marks (tests_next second) = lives_same blocks
choice_lives blocks node type marks (carries_next part) = lives_same blocks

chooses_lives : (blocks : Blocks) (node : CExpr) (first : COperand) → StepLives blocks (chooses_step blocks node first)
chooses_lives blocks (expr type place form) first =
    at_node_lives blocks place _ (made_lives blocks _ (chosen form blocks first.value) (λ choice. choice_lives blocks (expr type place form) type (at_sequence_point first.marks) choice))

tests_lives : (blocks : Blocks) (node : CExpr) (marks : Marks) (second : COperand) → StepLives blocks (tests_step blocks node marks second)
tests_lives blocks node marks second = at_node_lives blocks (place_of node) _ (made_lives blocks _ (tested blocks second.value) (λ value. lives_same blocks))

stage_lives : (setting : CSetting) (frame : Frame) (blocks : Blocks) (node : CExpr) (update : CUpdate) (marks : Marks) (stage : CStage) → GivenLives blocks (stage_step setting frame blocks node update marks stage)
stage_lives setting frame blocks node update marks was_loaded = made_lives blocks _ (update_computed setting blocks update) (λ new. lives_same blocks)
stage_lives setting frame blocks node update marks (was_computed new) = made_lives blocks _ (update_converted setting blocks update new) (λ value. lives_same blocks)
stage_lives setting frame blocks node update marks (was_converted new) =
    outcome_lives (DoneLives blocks) blocks (did_done (type_of node)) (update_stored setting frame blocks update marks new)
    (given_and (StoreLives blocks) (DoneLives blocks) _ _ (store_lives setting frame blocks update.target_type update.target (scalar new) marks) (λ one lives. lives)) (λ one lives. lives)

put_lives : (setting : CSetting) (frame : Frame) (blocks : Blocks) (node : CExpr) (marks : Marks) (one : CPut) (others : CPuts) (operand : COperand) → GivenLives blocks (put_step setting frame blocks node marks one others operand)
put_lives setting frame blocks node marks (put spot type value) others operand = from_number (literal_number node)
  where
    from_stored : (number : ℕ) (outcome : Result CStored CWhy) → IfGiven (StoreLives blocks) outcome → GivenLives blocks (and_then outcome (λ one. Ok (did (filled node number (marks_after_put marks one.marks) others) one.blocks)))
    from_stored number (Ok one) lives = lives
    from_stored number (Err why) lives = tt

    from_number : (found : Result ℕ CWhy) → GivenLives blocks (and_then found (λ number. and_then (put_stored setting frame blocks number spot type operand) (λ one. Ok (did (filled node number (marks_after_put marks one.marks) others) one.blocks))))
    from_number (Ok number) = from_stored number (put_stored setting frame blocks number spot type operand) (put_stored_lives setting frame blocks number spot type operand)
    from_number (Err why) = tt

-- ---- the step at a ready node

inside_lives : (around : CWork → CWork) (blocks : Blocks) (outcome : CStepped) → StepLives blocks outcome → StepLives blocks (inside around outcome)
inside_lives around blocks (Ok (did next after)) is = is
inside_lives around blocks (Ok (asks_call called work)) is = tt
inside_lives around blocks (Err fault) is = tt

first_lives : (blocks : Blocks) (node : COperand → CStepped) (within : CStepped) (first : CWork) → ((operand : COperand) → StepLives blocks (node operand)) → StepLives blocks within → StepLives blocks (at_first_operand node within first)
first_lives blocks node within (finished operand) one other = one operand
first_lives blocks node within (needs e operands) one other = other
first_lives blocks node within (chooses e first) one other = other
first_lives blocks node within (tests e marks second) one other = other
first_lives blocks node within (carries e marks part) one other = other
first_lives blocks node within (updates e update stage marks) one other = other
first_lives blocks node within (fills e marks put_now others value) one other = other
first_lives blocks node within (waits e marks) one other = other

one_of : (blocks : Blocks) (test : Bool) (one other : CStepped) → StepLives blocks one → StepLives blocks other → StepLives blocks (elim test as (λ _. CStepped) [ true ↦ one | false ↦ other ])
one_of blocks true one other is too = is
one_of blocks false one other is too = too

module _ (setting : CSetting) (frame : Frame) (blocks : Blocks) where
  mutual
    pub step_lives : (work : CWork) (pick : ℕ) → StepLives blocks (step_at setting frame blocks pick work)
    step_lives (finished operand) pick = lives_same blocks
    step_lives (needs node operands) pick =
        one_of blocks (are_finished operands) _ _ (needs_lives setting frame blocks node (operands_in operands)) (among_lives operands pick (nowhere node) (needs node) tt)
    step_lives (chooses node first) pick =
        first_lives blocks (chooses_step blocks node) _ first (λ operand. chooses_lives blocks node operand) (inside_lives (chooses node) blocks _ (step_lives first pick))
    step_lives (tests node marks second) pick =
        first_lives blocks (tests_step blocks node marks) _ second (λ operand. tests_lives blocks node marks operand) (inside_lives (tests node marks) blocks _ (step_lives second pick))
    step_lives (carries node marks part) pick = inside_lives (carried node marks) blocks _ (step_lives part pick)
    step_lives (updates node update stage marks) pick = at_node_lives blocks (place_of node) _ (stage_lives setting frame blocks node update marks stage)
    step_lives (fills node marks one others value) pick =
        first_lives blocks _ _ value (λ operand. at_node_lives blocks (place_of_put one) _ (put_lives setting frame blocks node marks one others operand))
        (inside_lives (fills node marks one others) blocks _ (step_lives value pick))
    step_lives (waits node marks) pick = tt

    among_lives : (works : CWorks) (pick : ℕ) (none : CStepped) (around : CWorks → CWork) → StepLives blocks none → StepLives blocks (step_among setting frame blocks pick works none around)
    among_lives no_works pick none around is = is
    among_lives (more_works first others) pick none around is =
        one_of blocks (nat_lt pick (ready first)) _ _ (inside_lives (λ work. around (more_works work others)) blocks _ (step_lives first pick))
        (among_lives others (pick - ready first) none (λ works. around (more_works first works)) is)
