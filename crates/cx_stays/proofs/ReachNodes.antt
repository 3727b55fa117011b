-- Steps of nodes under a set of blocks: where each operand leads within the set, so does what the step gives, and the other blocks are
-- as they were.
use Rattle.std.proofs.Common.{ℕ, Bool, true, false, List, [], ◌∷◌, length, Some, Result, Ok, Err}
use Rattle.cr_base.specs.declared.refusal.Place.{Place}
use Rattle.cr_base.specs.declared.rule.URule.TheVariants.{U14}
use Rattle.cx_core.specs.Trees.{CTy, unqualified, CExpr, expr, CForm, whole, null, object, code, load, deref, member, address, convert, unary, binary, and, or, cond, assign, assign_by, step, call, call_by, comma, literal, CExprs, no_exprs, more_exprs, CPut, put, CPuts, no_puts, more_puts, place_of, type_of}
use Rattle.cx_mean.proofs.KeptNodes.{IfGiven, given_and, given_then, given_else}
use Rattle.cx_mean.specs.Accesses.{CLoaded, loaded, stored}
use Rattle.cx_mean.specs.Calls.{CCallee, callee_numbered, callee_by, CCalling, called_with, called_by, counted, is_missing, all_given, node_calling}
use Rattle.cx_mean.specs.Initialisers.{object_cleared, put_stored}
use Rattle.cx_mean.specs.Marks.{Marks, at_sequence_point}
use Rattle.cx_mean.specs.Nodes.{CDone, gives_value, deref_value, member_value, address_value, done_by_load, unary_done, typed_value, binary_done, done_by_count, node_done, CUpdating, CChange, updating, update_loaded, changes, node_updating, update_computed, update_converted, update_value, update_stored, CChoice, decided, tests_next, carries_next, chosen_and, chosen_or, chosen_part, truth_of_value, chosen, tested, literal_cleared, marks_after_put}
use Rattle.cx_mean.specs.Operands.{CWhy, breaks, CValue, scalar, COperand, Frame, slot_of, scalar_value, united_operands}
use Rattle.cx_mean.specs.Settings.{CSetting}
use Rattle.cx_mean.specs.Steps.{CDid, did, asks_call, at_node, outcome_of, did_done, did_update, did_call, did_clear, form_step, needs_step, after_choice, chooses_step, tests_step, stage_step, literal_number, put_step}
use Rattle.cx_mean.specs.Values.{CTyped, unary_value, binary_value, converted_value}
use Rattle.cx_mean.specs.Work.{CUpdate, CStage, was_loaded, was_computed, was_converted, CWork, finished, needs, chooses, tests, carries, updates, fills, waits, CWorks, no_works, more_works, begun, begun_form, all_begun, operands_in, carried, filled}
use Rattle.mem_bytes.specs.declared.value.Value.{Value}
use Rattle.mem_bytes.specs.Memory.{Blocks}
use Rattle.cx_stays.proofs.ReachMemory.{Left, left_same}
use Rattle.cx_stays.proofs.ReachStores.{StoreGives, ClearLeft, store_left, put_stored_left, clear_left}
use Rattle.cx_stays.proofs.ReachValues.{unary_leads, binary_leads, scalar_gives, scalar_leads, converted_gives, deref_gives, address_gives, member_gives, load_gives}
use Rattle.cx_stays.specs.Reach.{LeadsWithin, IsPlaceWithin, GivesWithin, AreOperandsWithin, NamesOnly, FormNamesOnly, AllNameOnly, PutsNameOnly, IsUpdateWithin, IsStageWithin, IsWorkWithin, AreWorksWithin, IsClosedIn}

-- what a step of an expression leaves leads within a set, and the blocks that the set leaves out are as they were; so are the arguments
-- of a function that it calls
abbrev pub DidWithin : (ℕ → Bool) → (ℕ → Type 0) → Blocks → CDid → Type 0
DidWithin reached Named blocks (did next after) = IsWorkWithin reached Named next × Left reached blocks after
DidWithin reached Named blocks (asks_call called work) = AreOperandsWithin reached Named called.args × IsWorkWithin reached Named work

abbrev pub DoneGives : (ℕ → Bool) → (ℕ → Type 0) → Blocks → CDone → Type 0
DoneGives reached Named blocks one = GivesWithin reached Named one.value × Left reached blocks one.blocks

pub at_node_within : {A : Type 0} (P : A → Type 0) (place : Place) (outcome : Result A CWhy) → IfGiven P outcome → IfGiven P (at_node place outcome)
at_node_within P place (Ok value) is = is
at_node_within P place (Err why) is = tt

module _ (reached : ℕ → Bool) (Named : ℕ → Type 0) where
  -- ---- trees

  mutual
    pub begun_within : (e : CExpr) → NamesOnly Named e → IsWorkWithin reached Named (begun e)
    begun_within (expr type place form) only = form_within type place form only

    form_within : (type : CTy) (place : Place) (form : CForm) → FormNamesOnly Named form → IsWorkWithin reached Named (begun_form type place form)
    form_within type place (whole value) only = tt
    form_within type place null only = tt
    form_within type place (object number) only = only
    form_within type place (code number) only = tt
    form_within type place (load from) only = (only, (begun_within from only, tt))
    form_within type place (deref from) only = (only, (begun_within from only, tt))
    form_within type place (member of spot) only = (only, (begun_within of only, tt))
    form_within type place (address of) only = (only, (begun_within of only, tt))
    form_within type place (convert value) only = (only, (begun_within value only, tt))
    form_within type place (unary op value) only = (only, (begun_within value only, tt))
    form_within type place (binary op left right) only = (only, (begun_within left only.0, (begun_within right only.1, tt)))
    form_within type place (and left right) only = (only, begun_within left only.0)
    form_within type place (or left right) only = (only, begun_within left only.0)
    form_within type place (cond test first second) only = (only, begun_within test only.0)
    form_within type place (assign target value) only = (only, (begun_within target only.0, (begun_within value only.1, tt)))
    form_within type place (assign_by op computes target value) only = (only, (begun_within target only.0, (begun_within value only.1, tt)))
    form_within type place (step up post on) only = (only, (begun_within on only, tt))
    form_within type place (call callee args) only = (only, args_within args only)
    form_within type place (call_by callee args) only = (only, (begun_within callee only.0, args_within args only.1))
    form_within type place (comma first second) only = (only, begun_within first only.0)
    form_within type place (literal number puts) only = (only, tt)

    args_within : (args : CExprs) → AllNameOnly Named args → AreWorksWithin reached Named (all_begun args)
    args_within no_exprs only = tt
    args_within (more_exprs first others) only = (begun_within first only.0, args_within others only.1)

  pub carried_within : (node : CExpr) (marks : Marks) (part : CWork) → IsWorkWithin reached Named part → IsWorkWithin reached Named (carried node marks part)
  carried_within node marks (finished operand) is = is
  carried_within node marks (needs e operands) is = is
  carried_within node marks (chooses e first) is = is
  carried_within node marks (tests e more second) is = is
  carried_within node marks (carries e more inner) is = is
  carried_within node marks (updates e update stage more) is = is
  carried_within node marks (fills e more one others value) is = is
  carried_within node marks (waits e more) is = is

  filled_within : (node : CExpr) (number : ℕ) (marks : Marks) (puts : CPuts) → NamesOnly Named node → Named number → PutsNameOnly Named puts → IsWorkWithin reached Named (filled node number marks puts)
  filled_within node number marks no_puts only is puts_only = is
  filled_within node number marks (more_puts (put spot type value) others) only is puts_only = (only, puts_only.1, begun_within value puts_only.0)

  pub operands_within : (works : CWorks) → AreWorksWithin reached Named works → AreOperandsWithin reached Named (operands_in works)
  operands_within no_works are = tt
  operands_within (more_works (finished operand) others) are = (are.0, operands_within others are.1)
  operands_within (more_works (needs node operands) others) are = operands_within others are.1
  operands_within (more_works (chooses node first) others) are = operands_within others are.1
  operands_within (more_works (tests node marks second) others) are = operands_within others are.1
  operands_within (more_works (carries node marks part) others) are = operands_within others are.1
  operands_within (more_works (updates node update stage marks) others) are = operands_within others are.1
  operands_within (more_works (fills node marks one puts value) others) are = operands_within others are.1
  operands_within (more_works (waits node marks) others) are = operands_within others are.1

  -- ---- steps that leave memory as it is

  value_done : (blocks : Blocks) (marks : Marks) (outcome : Result CValue CWhy) → IfGiven (GivesWithin reached Named) outcome → IsClosedIn reached blocks → IfGiven (DoneGives reached Named blocks) (gives_value marks blocks outcome)
  value_done blocks marks (Ok value) gives closed = (gives, left_same reached blocks closed)
  value_done blocks marks (Err why) gives closed = tt

  load_done : (blocks : Blocks) (outcome : Result CLoaded CWhy) → IfGiven (λ (one : CLoaded). GivesWithin reached Named one.value) outcome → IsClosedIn reached blocks → IfGiven (DoneGives reached Named blocks) (done_by_load blocks outcome)
  load_done blocks (Ok one) gives closed = (gives, left_same reached blocks closed)
  load_done blocks (Err why) gives closed = tt

  typed_leads : (one : COperand) → GivesWithin reached Named one.value → IfGiven (λ (typed : CTyped). LeadsWithin reached typed.value) (typed_value one)
  typed_leads one gives =
      given_and (LeadsWithin reached) (λ (typed : CTyped). LeadsWithin reached typed.value) (scalar_value one.value) _ (scalar_leads reached Named one.value gives) (λ value leads. leads)

  -- ---- calls

  given_within : (args : List COperand) → AreOperandsWithin reached Named args → IfGiven (AreOperandsWithin reached Named) (all_given args)
  given_within [] are = tt
  given_within (first ∷ others) are =
      given_and (AreOperandsWithin reached Named) (AreOperandsWithin reached Named) (all_given others) _ (given_within others are.1)
      (λ rest rest_are. given_else (AreOperandsWithin reached Named) (is_missing first.value) (breaks U14) (first ∷ rest) (are.0, rest_are))

  called_within : (type : CTy) (place : Place) (marks : Marks) (args : List COperand) (callee : CCallee) → AreOperandsWithin reached Named args
      → IfGiven (λ (one : CCalling). AreOperandsWithin reached Named one.called.args) (called_with type place marks args callee)
  called_within type place marks args callee are =
      given_then (λ (one : CCalling). AreOperandsWithin reached Named one.called.args) (counted callee (length args)) _ (λ one.
      given_and (AreOperandsWithin reached Named) (λ (one : CCalling). AreOperandsWithin reached Named one.called.args) (all_given args) _ (given_within args are) (λ all all_are. all_are))

  by_within : (setting : CSetting) (type : CTy) (place : Place) (marks : Marks) (given : List COperand) → AreOperandsWithin reached Named given
      → IfGiven (λ (one : CCalling). AreOperandsWithin reached Named one.called.args) (called_by setting type place marks given)
  by_within setting type place marks [] are = tt
  by_within setting type place marks (first ∷ args) are =
      given_then (λ (one : CCalling). AreOperandsWithin reached Named one.called.args) (scalar_value first.value) _ (λ value.
      given_then (λ (one : CCalling). AreOperandsWithin reached Named one.called.args) (callee_by setting first.type value) _ (λ callee. called_within type place marks args callee are.1))

  call_within : (blocks : Blocks) (node : CExpr) (outcome : Result CCalling CWhy) → IfGiven (λ (one : CCalling). AreOperandsWithin reached Named one.called.args) outcome
      → IfGiven (DidWithin reached Named blocks) (outcome_of (did_call node) outcome)
  call_within blocks node (Ok one) are = (are, tt)
  call_within blocks node (Err why) are = tt

  -- ---- choices

  abbrev ChoiceWithin : CChoice → Type 0
  ChoiceWithin (decided value) = GivesWithin reached Named value
  ChoiceWithin (tests_next second) = NamesOnly Named second
  ChoiceWithin (carries_next part) = NamesOnly Named part

  and_within : (second : CExpr) → NamesOnly Named second → (holds : Bool) → ChoiceWithin (chosen_and second holds)
  and_within second only true = only
  and_within second only false = tt

  or_within : (second : CExpr) → NamesOnly Named second → (holds : Bool) → ChoiceWithin (chosen_or second holds)
  or_within second only true = tt
  or_within second only false = only

  part_within : (first second : CExpr) → NamesOnly Named first → NamesOnly Named second → (holds : Bool) → ChoiceWithin (chosen_part first second holds)
  part_within first second one other true = one
  part_within first second one other false = other

  chosen_within : (form : CForm) (blocks : Blocks) (value : CValue) → FormNamesOnly Named form → IfGiven ChoiceWithin (chosen form blocks value)
  chosen_within (and first second) blocks value only = given_then ChoiceWithin (truth_of_value blocks value) _ (and_within second only.1)
  chosen_within (or first second) blocks value only = given_then ChoiceWithin (truth_of_value blocks value) _ (or_within second only.1)
  chosen_within (cond test first second) blocks value only = given_then ChoiceWithin (truth_of_value blocks value) _ (part_within first second only.1 only.2)
  chosen_within (comma first second) blocks value only = only.1
  chosen_within form blocks value only = tt

  choice_within : (node : CExpr) (type : CTy) (blocks : Blocks) (marks : Marks) (choice : CChoice) → ChoiceWithin choice → IsClosedIn reached blocks → DidWithin reached Named blocks (after_choice node type blocks marks choice)
  choice_within node type blocks marks (decided value) is closed = (is, left_same reached blocks closed)
  choice_within node type blocks marks (tests_next second) is closed = (begun_within second is, left_same reached blocks closed)
  choice_within node type blocks marks (carries_next part) is closed = (carried_within node marks (begun part) (begun_within part is), left_same reached blocks closed)

  pub chooses_within : (blocks : Blocks) (node : CExpr) (first : COperand) → NamesOnly Named node → IsClosedIn reached blocks → IfGiven (DidWithin reached Named blocks) (chooses_step blocks node first)
  chooses_within blocks (expr type place form) first only closed =
      at_node_within (DidWithin reached Named blocks) place _
      (given_and ChoiceWithin (DidWithin reached Named blocks) (chosen form blocks first.value) _ (chosen_within form blocks first.value only)
      (λ choice is. choice_within (expr type place form) type blocks (at_sequence_point first.marks) choice is closed))

  pub tests_within : (blocks : Blocks) (node : CExpr) (marks : Marks) (second : COperand) → IsClosedIn reached blocks → IfGiven (DidWithin reached Named blocks) (tests_step blocks node marks second)
  tests_within blocks node marks second closed =
      at_node_within (DidWithin reached Named blocks) (place_of node) _
      (given_and (GivesWithin reached Named) (DidWithin reached Named blocks) (tested blocks second.value) _ (given_then (GivesWithin reached Named) (truth_of_value blocks second.value) _ (λ holds. tt))
      (λ value gives. (gives, left_same reached blocks closed)))

  -- ---- nodes whose operands are finished

  module _ (setting : CSetting) (frame : Frame) (live : (number : ℕ) → Named number → IsPlaceWithin reached (slot_of frame number)) where
    unary_gives : (type : CTy) (form : CForm) (marks : Marks) (blocks : Blocks) (one : COperand) → GivesWithin reached Named one.value → IsClosedIn reached blocks
        → IfGiven (DoneGives reached Named blocks) (unary_done setting type form frame marks blocks one)
    unary_gives type (load from) marks blocks one gives closed = load_done blocks (loaded setting frame blocks type one.value marks) (load_gives reached Named frame live setting blocks type one.value marks gives closed) closed
    unary_gives type (deref from) marks blocks one gives closed = value_done blocks marks (deref_value one.value) (deref_gives reached Named one.value gives) closed
    unary_gives type (member of spot) marks blocks one gives closed = value_done blocks marks (member_value setting frame blocks type (type_of of) spot one.value) (member_gives reached Named frame live setting blocks type (type_of of) spot one.value gives) closed
    unary_gives type (address of) marks blocks one gives closed = value_done blocks marks (address_value frame one.value) (address_gives reached Named frame live one.value gives) closed
    unary_gives type (convert value) marks blocks one gives closed = value_done blocks marks (converted_value setting type blocks one.value) (converted_gives reached Named setting type blocks one.value gives) closed
    unary_gives type (unary op value) marks blocks one gives closed =
        value_done blocks marks _
        (given_then (GivesWithin reached Named) (scalar_value one.value) _ (λ given. scalar_gives reached Named (unary_value setting op type blocks given) (unary_leads reached setting op type blocks given))) closed
    unary_gives type form marks blocks one gives closed = tt

    binary_gives : (type : CTy) (form : CForm) (marks : Marks) (blocks : Blocks) (one other : COperand) → GivesWithin reached Named one.value → GivesWithin reached Named other.value → IsClosedIn reached blocks
        → IfGiven (DoneGives reached Named blocks) (binary_done setting type form frame marks blocks one other)
    binary_gives type (binary op left right) marks blocks one other gives more closed =
        value_done blocks marks _
        (given_and (λ (typed : CTyped). LeadsWithin reached typed.value) (GivesWithin reached Named) (typed_value one) _ (typed_leads one gives) (λ first first_leads.
        given_and (λ (typed : CTyped). LeadsWithin reached typed.value) (GivesWithin reached Named) (typed_value other) _ (typed_leads other more) (λ second second_leads.
        scalar_gives reached Named (binary_value setting op type blocks first second) (binary_leads reached setting op type blocks first second first_leads second_leads)))) closed
    binary_gives type (assign target value) marks blocks one other gives more closed =
        given_and (StoreGives reached Named blocks) (DoneGives reached Named blocks) (stored setting frame blocks type one.value other.value marks) _
        (store_left reached Named frame live setting blocks type one.value other.value marks gives more closed) (λ done is. is)
    binary_gives type form marks blocks one other gives more closed = tt

    count_gives : (type : CTy) (form : CForm) (marks : Marks) (blocks : Blocks) (operands : List COperand) → AreOperandsWithin reached Named operands → IsClosedIn reached blocks
        → IfGiven (DoneGives reached Named blocks) (done_by_count setting type form frame marks blocks operands)
    count_gives type form marks blocks [] are closed = tt
    count_gives type form marks blocks (one ∷ []) are closed = unary_gives type form marks blocks one are.0 closed
    count_gives type form marks blocks (one ∷ other ∷ []) are closed = binary_gives type form marks blocks one other are.0 are.1.0 closed
    count_gives type form marks blocks (one ∷ other ∷ third ∷ more) are closed = tt

    done_within : (type : CTy) (form : CForm) (blocks : Blocks) (operands : List COperand) → AreOperandsWithin reached Named operands → IsClosedIn reached blocks
        → IfGiven (DidWithin reached Named blocks) (outcome_of (did_done type) (node_done setting type form frame blocks operands))
    done_within type form blocks operands are closed =
        given_and (DoneGives reached Named blocks) (DidWithin reached Named blocks) (node_done setting type form frame blocks operands) _
        (given_then (DoneGives reached Named blocks) (united_operands operands) _ (λ marks. count_gives type form marks blocks operands are closed)) (λ one is. is)

    -- ---- `op=`, `++` and `--`

    changes_within : (form : CForm) (operands : List COperand) → AreOperandsWithin reached Named operands
        → IfGiven (λ (change : CChange). GivesWithin reached Named change.target.value × LeadsWithin reached change.right.value) (changes setting form operands)
    changes_within (assign_by op computes target value) (one ∷ other ∷ []) are =
        given_and (λ (typed : CTyped). LeadsWithin reached typed.value) (λ (change : CChange). GivesWithin reached Named change.target.value × LeadsWithin reached change.right.value) (typed_value other) _
        (typed_leads other are.1.0) (λ right leads. (are.0, leads))
    changes_within (step up post on) (one ∷ []) are = (are.0, tt)
    changes_within form operands are = tt

    loads_within : (blocks : Blocks) (marks : Marks) (change : CChange) → GivesWithin reached Named change.target.value → LeadsWithin reached change.right.value → IsClosedIn reached blocks
        → IfGiven (λ (one : CUpdating). IsUpdateWithin reached Named one.update) (update_loaded setting frame blocks marks change)
    loads_within blocks marks change gives leads closed =
        given_and (λ (one : CLoaded). GivesWithin reached Named one.value) (λ (one : CUpdating). IsUpdateWithin reached Named one.update) (loaded setting frame blocks (unqualified change.target.type) change.target.value marks) (updating change)
        (load_gives reached Named frame live setting blocks (unqualified change.target.type) change.target.value marks gives closed) (λ one one_gives.
        given_and (LeadsWithin reached) (λ (one : CUpdating). IsUpdateWithin reached Named one.update) (scalar_value one.value) _ (scalar_leads reached Named one.value one_gives) (λ old old_leads. (old_leads, gives, leads)))

    updating_within : (node : CExpr) (form : CForm) (blocks : Blocks) (operands : List COperand) → AreOperandsWithin reached Named operands → IsClosedIn reached blocks
        → IfGiven (DidWithin reached Named blocks) (outcome_of (did_update node blocks) (node_updating setting form frame blocks operands))
    updating_within node form blocks operands are closed =
        given_and (λ (one : CUpdating). IsUpdateWithin reached Named one.update) (DidWithin reached Named blocks) (node_updating setting form frame blocks operands) _
        (given_then (λ (one : CUpdating). IsUpdateWithin reached Named one.update) (united_operands operands) _ (λ marks.
        given_and (λ (change : CChange). GivesWithin reached Named change.target.value × LeadsWithin reached change.right.value) (λ (one : CUpdating). IsUpdateWithin reached Named one.update) (changes setting form operands) _
        (changes_within form operands are) (λ change is. loads_within blocks marks change is.0 is.1 closed)))
        (λ one is. ((is, tt), left_same reached blocks closed))

    computed_within : (blocks : Blocks) (update : CUpdate) → IsUpdateWithin reached Named update → IfGiven (LeadsWithin reached) (update_computed setting blocks update)
    computed_within blocks update is =
        given_and (GivesWithin reached Named) (LeadsWithin reached) (converted_value setting update.computes blocks (scalar update.old)) _ (converted_gives reached Named setting update.computes blocks (scalar update.old) is.0) (λ value gives.
        given_and (LeadsWithin reached) (LeadsWithin reached) (scalar_value value) _ (scalar_leads reached Named value gives) (λ left leads.
        binary_leads reached setting update.op update.computes blocks (record { type = update.computes; value = left }) update.right leads is.2))

    converted_within : (blocks : Blocks) (update : CUpdate) (new : Value) → LeadsWithin reached new → IfGiven (LeadsWithin reached) (update_converted setting blocks update new)
    converted_within blocks update new leads =
        given_and (GivesWithin reached Named) (LeadsWithin reached) (converted_value setting update.target_type blocks (scalar new)) scalar_value (converted_gives reached Named setting update.target_type blocks (scalar new) leads) (scalar_leads reached Named)

    update_gives : (is_postfix : Bool) (old : Value) (new : CValue) → LeadsWithin reached old → GivesWithin reached Named new → GivesWithin reached Named (update_value is_postfix old new)
    update_gives true old new leads gives = leads
    update_gives false old new leads gives = gives

    pub stage_within : (blocks : Blocks) (node : CExpr) (update : CUpdate) (marks : Marks) (stage : CStage) → IsUpdateWithin reached Named update → IsStageWithin reached stage → IsClosedIn reached blocks
        → IfGiven (DidWithin reached Named blocks) (stage_step setting frame blocks node update marks stage)
    stage_within blocks node update marks was_loaded is stage_is closed =
        given_and (LeadsWithin reached) (DidWithin reached Named blocks) (update_computed setting blocks update) _ (computed_within blocks update is) (λ new leads. ((is, leads), left_same reached blocks closed))
    stage_within blocks node update marks (was_computed new) is stage_is closed =
        given_and (LeadsWithin reached) (DidWithin reached Named blocks) (update_converted setting blocks update new) _ (converted_within blocks update new stage_is) (λ value leads. ((is, leads), left_same reached blocks closed))
    stage_within blocks node update marks (was_converted new) is stage_is closed =
        given_and (DoneGives reached Named blocks) (DidWithin reached Named blocks) (update_stored setting frame blocks update marks new) _
        (given_and (StoreGives reached Named blocks) (DoneGives reached Named blocks) (stored setting frame blocks update.target_type update.target (scalar new) marks) _
        (store_left reached Named frame live setting blocks update.target_type update.target (scalar new) marks is.1 stage_is closed) (λ one one_is. (update_gives update.is_postfix update.old one.value is.0 one_is.0, one_is.1)))
        (λ one one_is. one_is)

    -- ---- compound literals

    cleared_within : (blocks : Blocks) (node : CExpr) (number : ℕ) (puts : CPuts) → NamesOnly Named node → Named number → PutsNameOnly Named puts → IsClosedIn reached blocks
        → IfGiven (DidWithin reached Named blocks) (outcome_of (did_clear node number puts) (literal_cleared setting frame blocks number puts))
    cleared_within blocks node number puts only is puts_only closed =
        given_and (DoneGives reached Named blocks) (DidWithin reached Named blocks) (literal_cleared setting frame blocks number puts) _
        (given_and (ClearLeft reached blocks) (DoneGives reached Named blocks) (object_cleared setting frame number (Some puts) blocks) _ (clear_left reached Named frame live setting number (Some puts) blocks is closed) (λ one left. (is, left.1)))
        (λ one one_is. (filled_within node number one.marks puts only is puts_only, one_is.1))

    number_named : (node : CExpr) → NamesOnly Named node → IfGiven Named (literal_number node)
    number_named (expr type place (literal number puts)) only = only.0
    number_named (expr type place form) only = tt

    pub put_within : (blocks : Blocks) (node : CExpr) (marks : Marks) (one : CPut) (others : CPuts) (operand : COperand) → NamesOnly Named node → PutsNameOnly Named others → GivesWithin reached Named operand.value → IsClosedIn reached blocks
        → IfGiven (DidWithin reached Named blocks) (put_step setting frame blocks node marks one others operand)
    put_within blocks node marks (put spot type value) others operand only others_only gives closed =
        given_and Named (DidWithin reached Named blocks) (literal_number node) _ (number_named node only) (λ number is.
        given_and (StoreGives reached Named blocks) (DidWithin reached Named blocks) (put_stored setting frame blocks number spot type operand) _
        (put_stored_left reached Named frame live setting blocks number spot type operand is gives closed)
        (λ one one_is. (filled_within node number (marks_after_put marks one.marks) others only is others_only, one_is.1)))

    -- ---- nodes

    forms_within : (blocks : Blocks) (type : CTy) (place : Place) (form : CForm) (operands : List COperand) → FormNamesOnly Named form → AreOperandsWithin reached Named operands → IsClosedIn reached blocks
        → IfGiven (DidWithin reached Named blocks) (form_step setting frame blocks type place form operands)
    forms_within blocks type place (assign_by op computes target value) operands only are closed = updating_within (expr type place (assign_by op computes target value)) (assign_by op computes target value) blocks operands are closed
    forms_within blocks type place (step up post on) operands only are closed = updating_within (expr type place (step up post on)) (step up post on) blocks operands are closed
    forms_within blocks type place (call number args) operands only are closed =
        call_within blocks (expr type place (call number args)) (node_calling setting type place (call number args) operands)
        (given_then (λ (one : CCalling). AreOperandsWithin reached Named one.called.args) (united_operands operands) _ (λ marks.
        given_then (λ (one : CCalling). AreOperandsWithin reached Named one.called.args) (callee_numbered setting.program number) _ (λ callee. called_within type place marks operands callee are)))
    forms_within blocks type place (call_by callee args) operands only are closed =
        call_within blocks (expr type place (call_by callee args)) (node_calling setting type place (call_by callee args) operands)
        (given_then (λ (one : CCalling). AreOperandsWithin reached Named one.called.args) (united_operands operands) _ (λ marks. by_within setting type place marks operands are))
    forms_within blocks type place (literal number puts) operands only are closed = cleared_within blocks (expr type place (literal number puts)) number puts only only.0 only.1 closed
    forms_within blocks type place form operands only are closed = done_within type form blocks operands are closed

    pub needs_within : (blocks : Blocks) (node : CExpr) (operands : List COperand) → NamesOnly Named node → AreOperandsWithin reached Named operands → IsClosedIn reached blocks
        → IfGiven (DidWithin reached Named blocks) (needs_step setting frame blocks node operands)
    needs_within blocks (expr type place form) operands only are closed =
        at_node_within (DidWithin reached Named blocks) place _ (forms_within blocks type place form operands only are closed)
