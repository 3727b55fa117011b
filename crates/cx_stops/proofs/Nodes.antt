-- Steps of nodes that stand in some units: what they leave stands there, too, and so does what has no meaning.
use Rattle.std.proofs.Common.{ℕ, ◌==◌, Bool, true, false, All, List, [], ◌∷◌, length, find, cond, IfSome, Option, Some, None, Result, Ok, Err}
use Rattle.std.proofs.lemmas.List.Elements.{All-head, All-tail}
use Rattle.cr_base.specs.declared.refusal.Place.{Place}
use Rattle.cr_base.specs.declared.rule.URule.TheVariants.{U13}
use Rattle.cx_core.specs.Trees.{CTy, form_of_type, CExpr, expr, CForm, whole, null, object, code, load, deref, member, address, convert, unary, binary, and, or, cond as choice, assign, assign_by, step, call, call_by, comma, literal, CExprs, no_exprs, more_exprs, CPut, put, CPuts, no_puts, more_puts, place_of, CFun, COuter}
use Rattle.cx_core.specs.Typing.{function_with, outer_with}
use Rattle.cx_mean.proofs.KeptNodes.{IfGiven, given_and, given_then, given_where}
use Rattle.cx_mean.specs.Calls.{CCallee, defined, external, callee_of, callee_numbered, type_of_callee, callee_by, counted, all_given, points_to, CCalling, called_with, called_by, node_calling}
use Rattle.cx_mean.specs.Initialisers.{put_stored}
use Rattle.cx_mean.specs.Marks.{Marks, at_sequence_point}
use Rattle.cx_mean.specs.Nodes.{node_done, node_updating, update_computed, update_converted, update_stored, CChoice, decided, tests_next, carries_next, chosen_and, chosen_or, chosen_part, truth_of_value, chosen, tested, literal_cleared, marks_after_put}
use Rattle.cx_mean.specs.Operands.{CWhy, breaks, needed, CValue, COperand, Frame, scalar_value, united_operands}
use Rattle.cx_mean.specs.Settings.{CSetting, are_compatible}
use Rattle.cx_mean.specs.Steps.{CDid, at_node, outcome_of, did_done, did_update, did_call, did_clear, form_step, needs_step, after_choice, chooses_step, tests_step, stage_step, literal_number, place_of_put, put_step}
use Rattle.cx_mean.specs.Work.{CUpdate, CStage, was_loaded, was_computed, was_converted, CWork, finished, needs, chooses, tests, carries, updates, fills, waits, begun, begun_form, all_begun, carried, filled}
use Rattle.mem_bytes.specs.declared.value.Value.{Value}
use Rattle.mem_bytes.specs.declared.value.Value.TheVariants.{Whole as Number, Null, Object as Pointer, Code as Function}
use Rattle.mem_bytes.specs.Memory.{Blocks}
use Rattle.cx_placed.specs.Places.{ExprStandsIn, FormStandsIn, ExprsStandIn, PutStandsIn, PutsStandIn, FunctionStandsIn}
use Rattle.cx_stops.proofs.Standing.{WorkStandsIn, WorksStandIn, CalleeStandsIn, DidStandsIn, StepStandsIn}

-- what is found in a list has what all of the list have
pub found_stands : {A : Type 0} (P : A → Type 0) (test : A → Bool) (all : List A) → All P all → IfSome (find test all) P
found_stands P test [] are = tt
found_stands P test (first ∷ others) are = either (test first) (All-head P first others are) (found_stands P test others (All-tail P first others are))
  where
    either : (passes : Bool) → P first → IfSome (find test others) P → IfSome (cond passes (Some first) (find test others)) P
    either true one rest = one
    either false one rest = rest

module _ (Among : ℕ → Type 0) where
  -- ---- trees

  pub expr_place : (e : CExpr) → ExprStandsIn Among e → Among (place_of e).unit
  expr_place (expr type place form) stands = stands.0

  mutual
    pub begun_stands : (e : CExpr) → ExprStandsIn Among e → WorkStandsIn Among (begun e)
    begun_stands (expr type place form) stands = form_stands type place form stands.0 stands.1

    form_stands : (type : CTy) (place : Place) (form : CForm) → Among place.unit → FormStandsIn Among form → WorkStandsIn Among (begun_form type place form)
    form_stands type place (whole value) here stands = tt
    form_stands type place null here stands = tt
    form_stands type place (object number) here stands = tt
    form_stands type place (code number) here stands = tt
    form_stands type place (load from) here stands = ((here, stands), (begun_stands from stands, tt))
    form_stands type place (deref from) here stands = ((here, stands), (begun_stands from stands, tt))
    form_stands type place (member of spot) here stands = ((here, stands), (begun_stands of stands, tt))
    form_stands type place (address of) here stands = ((here, stands), (begun_stands of stands, tt))
    form_stands type place (convert value) here stands = ((here, stands), (begun_stands value stands, tt))
    form_stands type place (unary op value) here stands = ((here, stands), (begun_stands value stands, tt))
    form_stands type place (binary op left right) here stands = ((here, stands), (begun_stands left stands.0, (begun_stands right stands.1, tt)))
    form_stands type place (and left right) here stands = ((here, stands), begun_stands left stands.0)
    form_stands type place (or left right) here stands = ((here, stands), begun_stands left stands.0)
    form_stands type place (choice test first second) here stands = ((here, stands), begun_stands test stands.0)
    form_stands type place (assign target value) here stands = ((here, stands), (begun_stands target stands.0, (begun_stands value stands.1, tt)))
    form_stands type place (assign_by op computes target value) here stands = ((here, stands), (begun_stands target stands.0, (begun_stands value stands.1, tt)))
    form_stands type place (step up post on) here stands = ((here, stands), (begun_stands on stands, tt))
    form_stands type place (call callee args) here stands = ((here, stands), args_stand args stands)
    form_stands type place (call_by callee args) here stands = ((here, stands), (begun_stands callee stands.0, args_stand args stands.1))
    form_stands type place (comma first second) here stands = ((here, stands), begun_stands first stands.0)
    form_stands type place (literal number puts) here stands = ((here, stands), tt)

    args_stand : (args : CExprs) → ExprsStandIn Among args → WorksStandIn Among (all_begun args)
    args_stand no_exprs stand = tt
    args_stand (more_exprs first others) stand = (begun_stands first stand.0, args_stand others stand.1)

  pub carried_stands : (node : CExpr) (marks : Marks) (part : CWork) → ExprStandsIn Among node → WorkStandsIn Among part → WorkStandsIn Among (carried node marks part)
  carried_stands node marks (finished operand) here stands = tt
  carried_stands node marks (needs e operands) here stands = (here, stands)
  carried_stands node marks (chooses e first) here stands = (here, stands)
  carried_stands node marks (tests e more second) here stands = (here, stands)
  carried_stands node marks (carries e more inner) here stands = (here, stands)
  carried_stands node marks (updates e update stage more) here stands = (here, stands)
  carried_stands node marks (fills e more one others value) here stands = (here, stands)
  carried_stands node marks (waits e more) here stands = (here, stands)

  filled_stands : (node : CExpr) (number : ℕ) (marks : Marks) (puts : CPuts) → ExprStandsIn Among node → PutsStandIn Among puts → WorkStandsIn Among (filled node number marks puts)
  filled_stands node number marks no_puts here stand = tt
  filled_stands node number marks (more_puts (put spot type value) others) here stand = (here, stand.0, stand.1, begun_stands value stand.0)

  -- ---- steps

  pub at_node_stands : (place : Place) (outcome : Result CDid CWhy) → Among place.unit → IfGiven (DidStandsIn Among) outcome → StepStandsIn Among (at_node place outcome)
  at_node_stands place (Ok done) here is = is
  at_node_stands place (Err why) here is = here

  outcome_stands : {A : Type 0} (make : A → CDid) (outcome : Result A CWhy) → ((one : A) → DidStandsIn Among (make one)) → IfGiven (DidStandsIn Among) (outcome_of make outcome)
  outcome_stands make (Ok one) all = all one
  outcome_stands make (Err why) all = tt

  -- ---- calls

  abbrev CallingStandsIn : CCalling → Type 0
  CallingStandsIn one = Among one.called.place.unit × CalleeStandsIn Among one.called.callee

  callee_stands : (found : Option CFun) (outer : Option COuter) → IfSome found (FunctionStandsIn Among) → IfGiven (CalleeStandsIn Among) (callee_of found outer)
  callee_stands (Some one) outer is = is
  callee_stands None (Some outer) is = tt
  callee_stands None None is = tt

  counted_stands : (callee : CCallee) (count : ℕ) → CalleeStandsIn Among callee → IfGiven (CalleeStandsIn Among) (counted callee count)
  counted_stands (external one) count is = tt
  counted_stands (defined one) count is = given_where (CalleeStandsIn Among) (length one.params == count) (Ok (defined one)) (breaks U13) (λ same. is)

  module _ (setting : CSetting) (functions_stand : All (FunctionStandsIn Among) setting.program.functions) where
    numbered_stands : (number : ℕ) → IfGiven (CalleeStandsIn Among) (callee_numbered setting.program number)
    numbered_stands number =
        callee_stands (function_with number setting.program.functions) (outer_with number setting.program.externals)
        (found_stands (FunctionStandsIn Among) (λ one. one.function == number) setting.program.functions functions_stand)

    by_stands : (type : CTy) (value : Value) → IfGiven (CalleeStandsIn Among) (callee_by setting type value)
    by_stands type (Function number) =
        given_and (CalleeStandsIn Among) (CalleeStandsIn Among) (callee_numbered setting.program number) _ (numbered_stands number) (λ callee is.
        given_then (CalleeStandsIn Among) (needed (points_to (form_of_type type))) _ (λ visible.
        given_where (CalleeStandsIn Among) (are_compatible setting visible (type_of_callee callee)) (Ok callee) (breaks U13) (λ same. is)))
    by_stands type Null = tt
    by_stands type (Pointer at) = tt
    by_stands type (Number number) = tt

    called_stands : (type : CTy) (place : Place) (marks : Marks) (args : List COperand) (callee : CCallee) → Among place.unit → CalleeStandsIn Among callee → IfGiven CallingStandsIn (called_with type place marks args callee)
    called_stands type place marks args callee here is =
        given_and (CalleeStandsIn Among) CallingStandsIn (counted callee (length args)) _ (counted_stands callee (length args) is) (λ one one_is.
        given_then CallingStandsIn (all_given args) _ (λ all. (here, one_is)))

    pointed_stands : (type : CTy) (place : Place) (marks : Marks) (given : List COperand) → Among place.unit → IfGiven CallingStandsIn (called_by setting type place marks given)
    pointed_stands type place marks [] here = tt
    pointed_stands type place marks (first ∷ args) here =
        given_then CallingStandsIn (scalar_value first.value) _ (λ value.
        given_and (CalleeStandsIn Among) CallingStandsIn (callee_by setting first.type value) _ (by_stands first.type value) (λ callee is. called_stands type place marks args callee here is))

    call_stands : (node : CExpr) (outcome : Result CCalling CWhy) → ExprStandsIn Among node → IfGiven CallingStandsIn outcome → IfGiven (DidStandsIn Among) (outcome_of (did_call node) outcome)
    call_stands node (Ok one) here is = (is.0, is.1, here)
    call_stands node (Err why) here is = tt

    -- ---- nodes whose operands are finished

    forms_stand : (frame : Frame) (blocks : Blocks) (type : CTy) (place : Place) (form : CForm) (operands : List COperand) → Among place.unit → FormStandsIn Among form
        → IfGiven (DidStandsIn Among) (form_step setting frame blocks type place form operands)
    forms_stand frame blocks type place (assign_by op computes target value) operands here stands =
        outcome_stands (did_update (expr type place (assign_by op computes target value)) blocks) (node_updating setting (assign_by op computes target value) frame blocks operands) (λ one. (here, stands))
    forms_stand frame blocks type place (step up post on) operands here stands =
        outcome_stands (did_update (expr type place (step up post on)) blocks) (node_updating setting (step up post on) frame blocks operands) (λ one. (here, stands))
    forms_stand frame blocks type place (call number args) operands here stands =
        call_stands (expr type place (call number args)) (node_calling setting type place (call number args) operands) (here, stands)
        (given_then CallingStandsIn (united_operands operands) _ (λ marks.
        given_and (CalleeStandsIn Among) CallingStandsIn (callee_numbered setting.program number) _ (numbered_stands number) (λ callee is. called_stands type place marks operands callee here is)))
    forms_stand frame blocks type place (call_by callee args) operands here stands =
        call_stands (expr type place (call_by callee args)) (node_calling setting type place (call_by callee args) operands) (here, stands)
        (given_then CallingStandsIn (united_operands operands) _ (λ marks. pointed_stands type place marks operands here))
    forms_stand frame blocks type place (literal number puts) operands here stands =
        outcome_stands (did_clear (expr type place (literal number puts)) number puts) (literal_cleared setting frame blocks number puts)
        (λ one. filled_stands (expr type place (literal number puts)) number one.marks puts (here, stands) stands)
    forms_stand frame blocks type place form operands here stands = outcome_stands (did_done type) (node_done setting type form frame blocks operands) (λ one. tt)

    pub needs_stands : (frame : Frame) (blocks : Blocks) (node : CExpr) (operands : List COperand) → ExprStandsIn Among node → StepStandsIn Among (needs_step setting frame blocks node operands)
    needs_stands frame blocks (expr type place form) operands stands = at_node_stands place _ stands.0 (forms_stand frame blocks type place form operands stands.0 stands.1)

  -- ---- choices

  abbrev ChoiceStandsIn : CChoice → Type 0
  ChoiceStandsIn (decided value) = Unit {0}
  ChoiceStandsIn (tests_next second) = ExprStandsIn Among second
  ChoiceStandsIn (carries_next part) = ExprStandsIn Among part

  and_stands : (second : CExpr) → ExprStandsIn Among second → (holds : Bool) → ChoiceStandsIn (chosen_and second holds)
  and_stands second stands true = stands
  and_stands second stands false = tt

  or_stands : (second : CExpr) → ExprStandsIn Among second → (holds : Bool) → ChoiceStandsIn (chosen_or second holds)
  or_stands second stands true = tt
  or_stands second stands false = stands

  part_stands : (first second : CExpr) → ExprStandsIn Among first → ExprStandsIn Among second → (holds : Bool) → ChoiceStandsIn (chosen_part first second holds)
  part_stands first second one other true = one
  part_stands first second one other false = other

  chosen_stands : (form : CForm) (blocks : Blocks) (value : CValue) → FormStandsIn Among form → IfGiven ChoiceStandsIn (chosen form blocks value)
  chosen_stands (and first second) blocks value stands = given_then ChoiceStandsIn (truth_of_value blocks value) _ (and_stands second stands.1)
  chosen_stands (or first second) blocks value stands = given_then ChoiceStandsIn (truth_of_value blocks value) _ (or_stands second stands.1)
  chosen_stands (choice test first second) blocks value stands = given_then ChoiceStandsIn (truth_of_value blocks value) _ (part_stands first second stands.1 stands.2)
  chosen_stands (comma first second) blocks value stands = stands.1
  chosen_stands form blocks value stands = tt

  choice_stands : (node : CExpr) (type : CTy) (blocks : Blocks) (marks : Marks) (made : CChoice) → ExprStandsIn Among node → ChoiceStandsIn made → DidStandsIn Among (after_choice node type blocks marks made)
  choice_stands node type blocks marks (decided value) here is = tt
  choice_stands node type blocks marks (tests_next second) here is = (here, begun_stands second is)
  choice_stands node type blocks marks (carries_next part) here is = carried_stands node marks (begun part) here (begun_stands part is)

  pub chooses_stands : (blocks : Blocks) (node : CExpr) (first : COperand) → ExprStandsIn Among node → StepStandsIn Among (chooses_step blocks node first)
  chooses_stands blocks (expr type place form) first stands =
      at_node_stands place _ stands.0
      (given_and ChoiceStandsIn (DidStandsIn Among) (chosen form blocks first.value) _ (chosen_stands form blocks first.value stands.1)
      (λ made is. choice_stands (expr type place form) type blocks (at_sequence_point first.marks) made (stands.0, stands.1) is))

  pub tests_stands : (blocks : Blocks) (node : CExpr) (marks : Marks) (second : COperand) → ExprStandsIn Among node → StepStandsIn Among (tests_step blocks node marks second)
  tests_stands blocks node marks second stands =
      at_node_stands (place_of node) _ (expr_place node stands) (given_then (DidStandsIn Among) (tested blocks second.value) _ (λ value. tt))

  -- ---- stages and puts

  stages_stand : (setting : CSetting) (frame : Frame) (blocks : Blocks) (node : CExpr) (update : CUpdate) (marks : Marks) (stage : CStage) → ExprStandsIn Among node
      → IfGiven (DidStandsIn Among) (stage_step setting frame blocks node update marks stage)
  stages_stand setting frame blocks node update marks was_loaded stands = given_then (DidStandsIn Among) (update_computed setting blocks update) _ (λ new. stands)
  stages_stand setting frame blocks node update marks (was_computed new) stands = given_then (DidStandsIn Among) (update_converted setting blocks update new) _ (λ value. stands)
  stages_stand setting frame blocks node update marks (was_converted new) stands = given_then (DidStandsIn Among) (update_stored setting frame blocks update marks new) _ (λ one. tt)

  pub stage_stands : (setting : CSetting) (frame : Frame) (blocks : Blocks) (node : CExpr) (update : CUpdate) (marks : Marks) (stage : CStage) → ExprStandsIn Among node
      → StepStandsIn Among (at_node (place_of node) (stage_step setting frame blocks node update marks stage))
  stage_stands setting frame blocks node update marks stage stands =
      at_node_stands (place_of node) _ (expr_place node stands) (stages_stand setting frame blocks node update marks stage stands)

  pub put_stands : (setting : CSetting) (frame : Frame) (blocks : Blocks) (node : CExpr) (marks : Marks) (one : CPut) (others : CPuts) (operand : COperand) → ExprStandsIn Among node → PutStandsIn Among one → PutsStandIn Among others
      → StepStandsIn Among (at_node (place_of_put one) (put_step setting frame blocks node marks one others operand))
  put_stands setting frame blocks node marks (put spot type value) others operand stands here others_stand =
      at_node_stands (place_of value) _ (expr_place value here)
      (given_then (DidStandsIn Among) (literal_number node) _ (λ number.
      given_then (DidStandsIn Among) (put_stored setting frame blocks number spot type operand) _ (λ one.
      filled_stands node number (marks_after_put marks one.marks) others stands others_stand)))
