-- A step of an expression whose calls are quiet calls a quiet function, if any: by induction on the tree.
use Rattle.std.proofs.Common.{◌≡◌, ℕ, ◌-◌, Bool, true, false, ◌&&◌, nat_lt, List, length, Option, Some, None, Result, Ok, Err}
use Rattle.std.proofs.lemmas.Bool.{and_parts}
use Rattle.cr_base.specs.declared.refusal.Place.{Place}
use Rattle.cx_core.specs.Trees.{CTy, CExpr, expr, CForm, whole, null, object, code, load, deref, member, address, convert, unary, binary, and, or, cond, assign, assign_by, step, call, call_by, comma, literal, CExprs, no_exprs, more_exprs, CPut, put, CPuts, no_puts, more_puts, CFun, COuter, CProgram, place_of, type_of}
use Rattle.cx_core.specs.Typing.{function_with, outer_with}
use Rattle.cx_mean.proofs.KeptNodes.{IfGiven, given_and, given_then}
use Rattle.cx_mean.specs.Calls.{CCallee, defined, external, callee_of, callee_numbered, CCalling, counted, all_given, node_calling}
use Rattle.cx_mean.specs.Initialisers.{put_stored}
use Rattle.cx_mean.specs.Marks.{Marks, both, at_sequence_point}
use Rattle.cx_mean.specs.Nodes.{node_done, node_updating, update_computed, update_converted, update_stored, CChoice, decided, tests_next, carries_next, chosen_and, chosen_or, chosen_part, chosen, truth_of_value, tested, literal_cleared, marks_after_put}
use Rattle.cx_mean.specs.Operands.{CWhy, CValue, COperand, Frame, united_operands}
use Rattle.cx_mean.specs.Settings.{CSetting}
use Rattle.cx_mean.specs.Steps.{CDid, did, asks_call, CStepped, at_node, outcome_of, did_done, did_update, did_call, did_clear, finished_with, form_step, needs_step, after_choice, chooses_step, tests_step, stage_step, literal_number, place_of_put, put_step, inside, nowhere, step_at, step_among, at_first_operand}
use Rattle.cx_mean.specs.Work.{CUpdate, CStage, was_loaded, was_computed, was_converted, CWork, finished, needs, chooses, tests, carries, updates, fills, waits, CWorks, no_works, more_works, begun, begun_form, all_begun, are_finished, operands_in, carried, filled, ready}
use Rattle.mem_bytes.specs.Memory.{Blocks}
use Rattle.cx_stays.specs.Stays.{is_quiet_function, calls_quietly, calls_only_quiet, form_calls_only_quiet, args_call_only_quiet, puts_call_only_quiet, IsQuietCallee}

-- ---- trees

abbrev mutual
  -- a tree in which all that is still to be called is quiet
  pub IsQuietWork : CProgram → CWork → Type 0
  IsQuietWork program (finished operand) = Unit {0}
  IsQuietWork program (needs node operands) = (calls_only_quiet program node ≡ true) × AreQuietWorks program operands
  IsQuietWork program (chooses node first) = (calls_only_quiet program node ≡ true) × IsQuietWork program first
  IsQuietWork program (tests node marks second) = IsQuietWork program second
  IsQuietWork program (carries node marks part) = IsQuietWork program part
  IsQuietWork program (updates node update stage marks) = Unit {0}
  IsQuietWork program (fills node marks one others value) = (puts_call_only_quiet program others ≡ true) × IsQuietWork program value
  IsQuietWork program (waits node marks) = Unit {0}

  pub AreQuietWorks : CProgram → CWorks → Type 0
  AreQuietWorks program no_works = Unit {0}
  AreQuietWorks program (more_works first others) = IsQuietWork program first × AreQuietWorks program others

module _ (program : CProgram) where
  mutual
    pub begun_quiet : (e : CExpr) → calls_only_quiet program e ≡ true → IsQuietWork program (begun e)
    begun_quiet (expr type place form) quiet = form_quiet type place form quiet

    form_quiet : (type : CTy) (place : Place) (form : CForm) → form_calls_only_quiet program form ≡ true → IsQuietWork program (begun_form type place form)
    form_quiet type place (whole value) quiet = tt
    form_quiet type place null quiet = tt
    form_quiet type place (object number) quiet = tt
    form_quiet type place (code number) quiet = tt
    form_quiet type place (load from) quiet = (quiet, (begun_quiet from quiet, tt))
    form_quiet type place (deref from) quiet = (quiet, (begun_quiet from quiet, tt))
    form_quiet type place (member of spot) quiet = (quiet, (begun_quiet of quiet, tt))
    form_quiet type place (address of) quiet = (quiet, (begun_quiet of quiet, tt))
    form_quiet type place (convert value) quiet = (quiet, (begun_quiet value quiet, tt))
    form_quiet type place (unary op value) quiet = (quiet, (begun_quiet value quiet, tt))
    form_quiet type place (binary op left right) quiet =
        let parts = and_parts (calls_only_quiet program left) (calls_only_quiet program right) quiet in
        (quiet, (begun_quiet left parts.0, (begun_quiet right parts.1, tt)))
    form_quiet type place (and left right) quiet = (quiet, begun_quiet left (and_parts (calls_only_quiet program left) (calls_only_quiet program right) quiet).0)
    form_quiet type place (or left right) quiet = (quiet, begun_quiet left (and_parts (calls_only_quiet program left) (calls_only_quiet program right) quiet).0)
    form_quiet type place (cond test first second) quiet =
        let outer = and_parts (calls_only_quiet program test && calls_only_quiet program first) (calls_only_quiet program second) quiet in
        (quiet, begun_quiet test (and_parts (calls_only_quiet program test) (calls_only_quiet program first) outer.0).0)
    form_quiet type place (assign target value) quiet =
        let parts = and_parts (calls_only_quiet program target) (calls_only_quiet program value) quiet in
        (quiet, (begun_quiet target parts.0, (begun_quiet value parts.1, tt)))
    form_quiet type place (assign_by op computes target value) quiet =
        let parts = and_parts (calls_only_quiet program target) (calls_only_quiet program value) quiet in
        (quiet, (begun_quiet target parts.0, (begun_quiet value parts.1, tt)))
    form_quiet type place (step up post on) quiet = (quiet, (begun_quiet on quiet, tt))
    form_quiet type place (call callee args) quiet = (quiet, args_quiet args (and_parts (calls_quietly program callee) (args_call_only_quiet program args) quiet).1)
    form_quiet type place (call_by callee args) quiet = absurd (cc (quiet))
    form_quiet type place (comma first second) quiet = (quiet, begun_quiet first (and_parts (calls_only_quiet program first) (calls_only_quiet program second) quiet).0)
    form_quiet type place (literal number puts) quiet = (quiet, tt)

    args_quiet : (args : CExprs) → args_call_only_quiet program args ≡ true → AreQuietWorks program (all_begun args)
    args_quiet no_exprs quiet = tt
    args_quiet (more_exprs first others) quiet =
        let parts = and_parts (calls_only_quiet program first) (args_call_only_quiet program others) quiet in
        (begun_quiet first parts.0, args_quiet others parts.1)

  pub carried_quiet : (node : CExpr) (marks : Marks) (part : CWork) → IsQuietWork program part → IsQuietWork program (carried node marks part)
  carried_quiet node marks (finished operand) is = tt
  carried_quiet node marks (needs e operands) is = is
  carried_quiet node marks (chooses e first) is = is
  carried_quiet node marks (tests e more second) is = is
  carried_quiet node marks (carries e more inner) is = is
  carried_quiet node marks (updates e update stage more) is = is
  carried_quiet node marks (fills e more one others value) is = is
  carried_quiet node marks (waits e more) is = is

  filled_quiet : (node : CExpr) (number : ℕ) (marks : Marks) (puts : CPuts) → puts_call_only_quiet program puts ≡ true → IsQuietWork program (filled node number marks puts)
  filled_quiet node number marks no_puts quiet = tt
  filled_quiet node number marks (more_puts (put spot type value) others) quiet =
      let parts = and_parts (calls_only_quiet program value) (puts_call_only_quiet program others) quiet in
      (parts.1, begun_quiet value parts.0)

-- ---- a step

abbrev pub IsQuietDid : CProgram → CDid → Type 0
IsQuietDid program (did next after) = IsQuietWork program next
IsQuietDid program (asks_call called next) = IsQuietCallee called.callee × IsQuietWork program next

-- a step calls a quiet function, if any, and what is left is quiet
abbrev pub StepQuiet : CProgram → CStepped → Type 0
StepQuiet program (Ok (did next after)) = IsQuietWork program next
StepQuiet program (Ok (asks_call called next)) = IsQuietCallee called.callee × IsQuietWork program next
StepQuiet program (Err fault) = Unit {0}

at_node_is : (program : CProgram) (place : Place) (outcome : Result CDid CWhy) → IfGiven (IsQuietDid program) outcome → StepQuiet program (at_node place outcome)
at_node_is program place (Ok (did next after)) is = is
at_node_is program place (Ok (asks_call called next)) is = is
at_node_is program place (Err why) is = tt

-- whatever a part of it gives
always : {A : Type 0} (program : CProgram) (make : A → CDid) (outcome : Result A CWhy) → ((one : A) → IsQuietDid program (make one)) → IfGiven (IsQuietDid program) (outcome_of make outcome)
always program make (Ok one) all = all one
always program make (Err why) all = tt

-- ---- calls

quiet_callee : (found : Option CFun) (outer : Option COuter) → is_quiet_function found outer ≡ true → IfGiven IsQuietCallee (callee_of found outer)
quiet_callee (Some one) outer quiet = absurd (cc (quiet))
quiet_callee None None quiet = tt
quiet_callee None (Some outer) quiet = quiet

quiet_counted : (callee : CCallee) (count : ℕ) → IsQuietCallee callee → IfGiven IsQuietCallee (counted callee count)
quiet_counted (defined one) count quiet = absurd quiet
quiet_counted (external one) count quiet = quiet

abbrev IsQuietCall : CCalling → Type 0
IsQuietCall one = IsQuietCallee one.called.callee

quiet_calling : (setting : CSetting) (type : CTy) (place : Place) (number : ℕ) (args : CExprs) (operands : List COperand) → calls_quietly setting.program number ≡ true
    → IfGiven IsQuietCall (node_calling setting type place (call number args) operands)
quiet_calling setting type place number args operands quiet =
    given_then IsQuietCall (united_operands operands) _ (λ marks.
    given_and IsQuietCallee IsQuietCall (callee_numbered setting.program number) _
    (quiet_callee (function_with number setting.program.functions) (outer_with number setting.program.externals) quiet) (λ callee is.
    given_and IsQuietCallee IsQuietCall (counted callee (length operands)) _ (quiet_counted callee (length operands) is) (λ one still.
    given_then IsQuietCall (all_given operands) _ (λ all. still))))

call_quiet : (setting : CSetting) (type : CTy) (place : Place) (number : ℕ) (args : CExprs) (operands : List COperand) → calls_quietly setting.program number ≡ true
    → IfGiven (IsQuietDid setting.program) (outcome_of (did_call (expr type place (call number args))) (node_calling setting type place (call number args) operands))
call_quiet setting type place number args operands quiet =
    given_and IsQuietCall (IsQuietDid setting.program) (node_calling setting type place (call number args) operands) _ (quiet_calling setting type place number args operands quiet) (λ one is. (is, tt))

-- ---- nodes

done_quiet : (setting : CSetting) (frame : Frame) (blocks : Blocks) (type : CTy) (form : CForm) (operands : List COperand) → IfGiven (IsQuietDid setting.program) (outcome_of (did_done type) (node_done setting type form frame blocks operands))
done_quiet setting frame blocks type form operands = always setting.program (did_done type) (node_done setting type form frame blocks operands) (λ one. tt)

node_quiet : (setting : CSetting) (frame : Frame) (blocks : Blocks) (type : CTy) (place : Place) (form : CForm) (operands : List COperand) → form_calls_only_quiet setting.program form ≡ true
    → IfGiven (IsQuietDid setting.program) (form_step setting frame blocks type place form operands)
node_quiet setting frame blocks type place (assign_by op computes target value) operands quiet =
    always setting.program (did_update (expr type place (assign_by op computes target value)) blocks) (node_updating setting (assign_by op computes target value) frame blocks operands) (λ one. tt)
node_quiet setting frame blocks type place (step up post on) operands quiet =
    always setting.program (did_update (expr type place (step up post on)) blocks) (node_updating setting (step up post on) frame blocks operands) (λ one. tt)
node_quiet setting frame blocks type place (call number args) operands quiet =
    call_quiet setting type place number args operands (and_parts (calls_quietly setting.program number) (args_call_only_quiet setting.program args) quiet).0
node_quiet setting frame blocks type place (call_by callee args) operands quiet = absurd (cc (quiet))
node_quiet setting frame blocks type place (literal number puts) operands quiet =
    always setting.program (did_clear (expr type place (literal number puts)) number puts) (literal_cleared setting frame blocks number puts)
    (λ one. filled_quiet setting.program (expr type place (literal number puts)) number one.marks puts quiet)
node_quiet setting frame blocks type place form operands quiet = done_quiet setting frame blocks type form operands

needs_quiet : (setting : CSetting) (frame : Frame) (blocks : Blocks) (node : CExpr) (operands : List COperand) → calls_only_quiet setting.program node ≡ true → StepQuiet setting.program (needs_step setting frame blocks node operands)
needs_quiet setting frame blocks (expr type place form) operands quiet = at_node_is setting.program place (form_step setting frame blocks type place form operands) (node_quiet setting frame blocks type place form operands quiet)

-- ---- choices

abbrev IsQuietChoice : CProgram → CChoice → Type 0
IsQuietChoice program (decided value) = Unit {0}
IsQuietChoice program (tests_next second) = calls_only_quiet program second ≡ true
IsQuietChoice program (carries_next part) = calls_only_quiet program part ≡ true

and_quiet : (program : CProgram) (second : CExpr) → calls_only_quiet program second ≡ true → (holds : Bool) → IsQuietChoice program (chosen_and second holds)
and_quiet program second quiet true = quiet
and_quiet program second quiet false = tt

or_quiet : (program : CProgram) (second : CExpr) → calls_only_quiet program second ≡ true → (holds : Bool) → IsQuietChoice program (chosen_or second holds)
or_quiet program second quiet true = tt
or_quiet program second quiet false = quiet

part_quiet : (program : CProgram) (first second : CExpr) → calls_only_quiet program first ≡ true → calls_only_quiet program second ≡ true → (holds : Bool) → IsQuietChoice program (chosen_part first second holds)
part_quiet program first second quiet other true = quiet
part_quiet program first second quiet other false = other

chosen_quiet : (program : CProgram) (form : CForm) (blocks : Blocks) (value : CValue) → form_calls_only_quiet program form ≡ true → IfGiven (IsQuietChoice program) (chosen form blocks value)
chosen_quiet program (and first second) blocks value quiet =
    given_then (IsQuietChoice program) (truth_of_value blocks value) _ (and_quiet program second (and_parts (calls_only_quiet program first) (calls_only_quiet program second) quiet).1)
chosen_quiet program (or first second) blocks value quiet =
    given_then (IsQuietChoice program) (truth_of_value blocks value) _ (or_quiet program second (and_parts (calls_only_quiet program first) (calls_only_quiet program second) quiet).1)
chosen_quiet program (cond test first second) blocks value quiet =
    let outer = and_parts (calls_only_quiet program test && calls_only_quiet program first) (calls_only_quiet program second) quiet in
    given_then (IsQuietChoice program) (truth_of_value blocks value) _ (part_quiet program first second (and_parts (calls_only_quiet program test) (calls_only_quiet program first) outer.0).1 outer.1)
chosen_quiet program (comma first second) blocks value quiet = (and_parts (calls_only_quiet program first) (calls_only_quiet program second) quiet).1
chosen_quiet program form blocks value quiet = tt

choice_quiet : (program : CProgram) (node : CExpr) (type : CTy) (blocks : Blocks) (marks : Marks) (choice : CChoice) → IsQuietChoice program choice → IsQuietDid program (after_choice node type blocks marks choice)
choice_quiet program node type blocks marks (decided value) is = tt
choice_quiet program node type blocks marks (tests_next second) is = begun_quiet program second is
choice_quiet program node type blocks marks (carries_next part) is = carried_quiet program node marks (begun part) (begun_quiet program part is)

chooses_quiet : (program : CProgram) (blocks : Blocks) (node : CExpr) (first : COperand) → calls_only_quiet program node ≡ true → StepQuiet program (chooses_step blocks node first)
chooses_quiet program blocks (expr type place form) first quiet =
    let after = after_choice (expr type place form) type blocks (at_sequence_point first.marks) in
    at_node_is program place (outcome_of after (chosen form blocks first.value))
    (given_and (IsQuietChoice program) (IsQuietDid program) (chosen form blocks first.value) (λ choice. Ok (after choice)) (chosen_quiet program form blocks first.value quiet)
    (λ choice is. choice_quiet program (expr type place form) type blocks (at_sequence_point first.marks) choice is))

tests_quiet : (program : CProgram) (blocks : Blocks) (node : CExpr) (marks : Marks) (second : COperand) → StepQuiet program (tests_step blocks node marks second)
tests_quiet program blocks node marks second =
    let done : CValue → CDid = λ value. did (finished_with (type_of node) value (both marks second.marks)) blocks in
    at_node_is program (place_of node) (outcome_of done (tested blocks second.value)) (always program done (tested blocks second.value) (λ value. tt))

-- ---- updates and puts

stage_quiet : (setting : CSetting) (frame : Frame) (blocks : Blocks) (node : CExpr) (update : CUpdate) (marks : Marks) (stage : CStage) → IfGiven (IsQuietDid setting.program) (stage_step setting frame blocks node update marks stage)
stage_quiet setting frame blocks node update marks was_loaded = always setting.program _ (update_computed setting blocks update) (λ new. tt)
stage_quiet setting frame blocks node update marks (was_computed new) = always setting.program _ (update_converted setting blocks update new) (λ value. tt)
stage_quiet setting frame blocks node update marks (was_converted new) = always setting.program (did_done (type_of node)) (update_stored setting frame blocks update marks new) (λ one. tt)

put_quiet : (setting : CSetting) (frame : Frame) (blocks : Blocks) (node : CExpr) (marks : Marks) (one : CPut) (others : CPuts) (operand : COperand) → puts_call_only_quiet setting.program others ≡ true
    → IfGiven (IsQuietDid setting.program) (put_step setting frame blocks node marks one others operand)
put_quiet setting frame blocks node marks (put spot type value) others operand quiet =
    given_then (IsQuietDid setting.program) (literal_number node) _ (λ number.
    given_then (IsQuietDid setting.program) (put_stored setting frame blocks number spot type operand) _ (λ one.
    filled_quiet setting.program node number (marks_after_put marks one.marks) others quiet))

-- ---- the step at a ready node

inside_quiet : (program : CProgram) (around : CWork → CWork) (outcome : CStepped) → ((next : CWork) → IsQuietWork program next → IsQuietWork program (around next)) → StepQuiet program outcome → StepQuiet program (inside around outcome)
inside_quiet program around (Ok (did next after)) all is = all next is
inside_quiet program around (Ok (asks_call called next)) all is = (is.0, all next is.1)
inside_quiet program around (Err fault) all is = tt

first_quiet : (program : CProgram) (node : COperand → CStepped) (within : CStepped) (first : CWork) → ((operand : COperand) → StepQuiet program (node operand)) → StepQuiet program within → StepQuiet program (at_first_operand node within first)
first_quiet program node within (finished operand) one other = one operand
first_quiet program node within (needs e operands) one other = other
first_quiet program node within (chooses e first) one other = other
first_quiet program node within (tests e marks second) one other = other
first_quiet program node within (carries e marks part) one other = other
first_quiet program node within (updates e update stage marks) one other = other
first_quiet program node within (fills e marks put_now others value) one other = other
first_quiet program node within (waits e marks) one other = other

one_of : (program : CProgram) (test : Bool) (one other : CStepped) → StepQuiet program one → StepQuiet program other → StepQuiet program (elim test as (λ _. CStepped) [ true ↦ one | false ↦ other ])
one_of program true one other is too = is
one_of program false one other is too = too

module _ (setting : CSetting) (frame : Frame) (blocks : Blocks) where
  mutual
    pub step_quiet : (work : CWork) (pick : ℕ) → IsQuietWork setting.program work → StepQuiet setting.program (step_at setting frame blocks pick work)
    step_quiet (finished operand) pick is = tt
    step_quiet (needs node operands) pick is =
        one_of setting.program (are_finished operands) _ _ (needs_quiet setting frame blocks node (operands_in operands) is.0)
        (among_quiet operands pick (nowhere node) (needs node) (λ works are. (is.0, are)) tt is.1)
    step_quiet (chooses node first) pick is =
        first_quiet setting.program (chooses_step blocks node) _ first (λ operand. chooses_quiet setting.program blocks node operand is.0)
        (inside_quiet setting.program (chooses node) (step_at setting frame blocks pick first) (λ next quiet. (is.0, quiet)) (step_quiet first pick is.1))
    step_quiet (tests node marks second) pick is =
        first_quiet setting.program (tests_step blocks node marks) _ second (λ operand. tests_quiet setting.program blocks node marks operand)
        (inside_quiet setting.program (tests node marks) (step_at setting frame blocks pick second) (λ next quiet. quiet) (step_quiet second pick is))
    step_quiet (carries node marks part) pick is = inside_quiet setting.program (carried node marks) (step_at setting frame blocks pick part) (carried_quiet setting.program node marks) (step_quiet part pick is)
    step_quiet (updates node update stage marks) pick is = at_node_is setting.program (place_of node) (stage_step setting frame blocks node update marks stage) (stage_quiet setting frame blocks node update marks stage)
    step_quiet (fills node marks one others value) pick is =
        first_quiet setting.program _ _ value (λ operand. at_node_is setting.program (place_of_put one) (put_step setting frame blocks node marks one others operand) (put_quiet setting frame blocks node marks one others operand is.0))
        (inside_quiet setting.program (fills node marks one others) (step_at setting frame blocks pick value) (λ next quiet. (is.0, quiet)) (step_quiet value pick is.1))
    step_quiet (waits node marks) pick is = tt

    among_quiet : (works : CWorks) (pick : ℕ) (none : CStepped) (around : CWorks → CWork) → ((next : CWorks) → AreQuietWorks setting.program next → IsQuietWork setting.program (around next)) → StepQuiet setting.program none
        → AreQuietWorks setting.program works → StepQuiet setting.program (step_among setting frame blocks pick works none around)
    among_quiet no_works pick none around all is are = is
    among_quiet (more_works first others) pick none around all is are =
        one_of setting.program (nat_lt pick (ready first)) _ _
        (inside_quiet setting.program (λ work. around (more_works work others)) (step_at setting frame blocks pick first) (λ next quiet. all (more_works next others) (quiet, are.1)) (step_quiet first pick are.0))
        (among_quiet others (pick - ready first) none (λ works. around (more_works first works)) (λ next quiet. all (more_works first next) (are.0, quiet)) is are.1)
