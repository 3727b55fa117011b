-- No tree waits for two calls: the step of a tree that waits for none leaves one that waits for none, or for just the call that is asked for.
use Rattle.std.proofs.Common.{◌≡◌, ℕ, ◌-◌, nat_lt, Bool, true, false, true≢false, ◌||◌, List, [], ◌∷◌, Result, Ok, Err, refl, sym, subst, ◌∙◌}
use Rattle.cr_base.specs.declared.refusal.Place.{Place}
use Rattle.cx_core.specs.Trees.{CTy, CExpr, expr, CForm, whole, null, object, code, load, deref, member, address, convert, unary, binary, and, or, cond, assign, assign_by, step, call, call_by, comma, literal, CExprs, no_exprs, more_exprs, CPut, put, CPuts, no_puts, more_puts, type_of, place_of}
use Rattle.cx_mean.specs.Calls.{CCallee, CCalling, counted, all_given, callee_by, callee_numbered, called_with, called_by, node_calling}
use Rattle.cx_mean.specs.Initialisers.{put_stored}
use Rattle.cx_mean.specs.Marks.{Marks, at_sequence_point}
use Rattle.cx_mean.specs.Nodes.{update_computed, update_converted, update_stored, CChoice, decided, tests_next, carries_next, chosen, tested, marks_after_put}
use Rattle.cx_mean.specs.Operands.{CWhy, COperand, Frame, scalar_value, united_operands}
use Rattle.cx_mean.specs.Settings.{CSetting}
use Rattle.cx_mean.specs.Steps.{CDid, did, asks_call, CStepped, at_node, did_done, did_update, did_call, did_clear, outcome_of, form_step, needs_step, after_choice, chooses_step, tests_step, stage_step, literal_number, place_of_put, put_step, inside, nowhere, step_at, step_among, at_first_operand}
use Rattle.cx_mean.specs.Work.{CUpdate, CStage, was_loaded, was_computed, was_converted, CWork, finished, needs, chooses, tests, carries, updates, fills, waits, CWorks, no_works, more_works, begun, all_begun, are_finished, operands_in, after_marks, carried, filled, ready, is_waiting, are_waiting}
use Rattle.mem_bytes.specs.Access.{and_then}
use Rattle.mem_bytes.specs.Memory.{Blocks}
use Rattle.cx_typed_work.proofs.GoesOn.{either_false}
use Rattle.cx_typed_work.specs.Calls.{IsWaitingFor, AreWaitingFor}
use Rattle.cx_typed_work.specs.Steps.{AsksOnce, StepsAskOnce}

-- ---- what is begun waits for no call

neither : (one other : Bool) → one ≡ false → other ≡ false → (one || other) ≡ false
neither true other e f = absurd (true≢false e)
neither false other e f = f

mutual
  pub begun_free : (node : CExpr) → is_waiting (begun node) ≡ false
  begun_free (expr type place (whole value)) = refl
  begun_free (expr type place null) = refl
  begun_free (expr type place (object number)) = refl
  begun_free (expr type place (code number)) = refl
  begun_free (expr type place (load from)) = neither (is_waiting (begun from)) false (begun_free from) refl
  begun_free (expr type place (deref from)) = neither (is_waiting (begun from)) false (begun_free from) refl
  begun_free (expr type place (member of spot)) = neither (is_waiting (begun of)) false (begun_free of) refl
  begun_free (expr type place (address of)) = neither (is_waiting (begun of)) false (begun_free of) refl
  begun_free (expr type place (convert value)) = neither (is_waiting (begun value)) false (begun_free value) refl
  begun_free (expr type place (unary op value)) = neither (is_waiting (begun value)) false (begun_free value) refl
  begun_free (expr type place (binary op left right)) = neither (is_waiting (begun left)) _ (begun_free left) (neither (is_waiting (begun right)) false (begun_free right) refl)
  begun_free (expr type place (and left right)) = begun_free left
  begun_free (expr type place (or left right)) = begun_free left
  begun_free (expr type place (cond test first second)) = begun_free test
  begun_free (expr type place (assign target value)) = neither (is_waiting (begun target)) _ (begun_free target) (neither (is_waiting (begun value)) false (begun_free value) refl)
  begun_free (expr type place (assign_by op computes target value)) = neither (is_waiting (begun target)) _ (begun_free target) (neither (is_waiting (begun value)) false (begun_free value) refl)
  begun_free (expr type place (step up post on)) = neither (is_waiting (begun on)) false (begun_free on) refl
  begun_free (expr type place (call callee args)) = all_begun_free args
  begun_free (expr type place (call_by callee args)) = neither (is_waiting (begun callee)) (are_waiting (all_begun args)) (begun_free callee) (all_begun_free args)
  begun_free (expr type place (comma first second)) = begun_free first
  begun_free (expr type place (literal number puts)) = refl

  all_begun_free : (nodes : CExprs) → are_waiting (all_begun nodes) ≡ false
  all_begun_free no_exprs = refl
  all_begun_free (more_exprs first others) = neither (is_waiting (begun first)) (are_waiting (all_begun others)) (begun_free first) (all_begun_free others)

filled_free : (node : CExpr) (number : ℕ) (marks : Marks) (puts : CPuts) → is_waiting (filled node number marks puts) ≡ false
filled_free node number marks no_puts = refl
filled_free node number marks (more_puts (put spot type value) others) = begun_free value

pub carried_waits : (node : CExpr) (marks : Marks) (part : CWork) → is_waiting (carried node marks part) ≡ is_waiting part
carried_waits node marks (finished operand) = refl
carried_waits node marks (needs own operands) = refl
carried_waits node marks (chooses own first) = refl
carried_waits node marks (tests own other second) = refl
carried_waits node marks (carries own other chosen_part) = refl
carried_waits node marks (updates own update stage other) = refl
carried_waits node marks (fills own other one others value) = refl
carried_waits node marks (waits own other) = refl

carried_for : (type : CTy) (node : CExpr) (marks : Marks) (part : CWork) → IsWaitingFor type part → IsWaitingFor type (carried node marks part)
carried_for type node marks (finished operand) is = tt
carried_for type node marks (needs own operands) is = is
carried_for type node marks (chooses own first) is = is
carried_for type node marks (tests own other second) is = is
carried_for type node marks (carries own other chosen_part) is = is
carried_for type node marks (updates own update stage other) is = tt
carried_for type node marks (fills own other one others value) is = is
carried_for type node marks (waits own other) is = is

mutual
  -- what waits for no call waits for those of each type
  free_for : (type : CTy) (work : CWork) → is_waiting work ≡ false → IsWaitingFor type work
  free_for type (finished operand) free = tt
  free_for type (needs node operands) free = all_free_for type operands free
  free_for type (chooses node first) free = free_for type first free
  free_for type (tests node marks second) free = free_for type second free
  free_for type (carries node marks part) free = free_for type part free
  free_for type (updates node update stage marks) free = tt
  free_for type (fills node marks one others value) free = free_for type value free
  free_for type (waits node marks) free = absurd (true≢false free)

  all_free_for : (type : CTy) (works : CWorks) → are_waiting works ≡ false → AreWaitingFor type works
  all_free_for type no_works free = tt
  all_free_for type (more_works first others) free =
      let apart = either_false (is_waiting first) (are_waiting others) free in
      (free_for type first apart.0, all_free_for type others apart.1)

-- ---- steps of nodes

-- an outcome of which this holds, where it is one
abbrev IfOk : {A : Type 0} → (A → Type 0) → Result A CWhy → Type 0
IfOk Holds (Ok value) = Holds value
IfOk Holds (Err why) = Unit {0}

each_ok : {A : Type 0} (Holds : A → Type 0) (outcome : Result A CWhy) → ((value : A) → Holds value) → IfOk Holds outcome
each_ok Holds (Ok value) all = all value
each_ok Holds (Err why) all = tt

ok_and : {A B : Type 0} (Holds : B → Type 0) (first : Result A CWhy) (next : A → Result B CWhy) → ((value : A) → IfOk Holds (next value)) → IfOk Holds (and_then first next)
ok_and Holds (Ok value) next all = all value
ok_and Holds (Err why) next all = tt

-- what follows of an outcome of which this holds
ok_then : {A B : Type 0} (Before : A → Type 0) (Holds : B → Type 0) (first : Result A CWhy) (next : A → Result B CWhy) → IfOk Before first → ((value : A) → Before value → IfOk Holds (next value)) → IfOk Holds (and_then first next)
ok_then Before Holds (Ok value) next is all = all value is
ok_then Before Holds (Err why) next is all = tt

abbrev DidOnce : CDid → Type 0
DidOnce one = AsksOnce (Ok one)

node_once : (place : Place) (outcome : Result CDid CWhy) → IfOk DidOnce outcome → AsksOnce (at_node place outcome)
node_once place (Ok one) once = once
node_once place (Err why) once = tt

outcome_once : {A : Type 0} (make : A → CDid) (outcome : Result A CWhy) → ((value : A) → DidOnce (make value)) → IfOk DidOnce (outcome_of make outcome)
outcome_once make (Ok value) all = all value
outcome_once make (Err why) all = tt

-- a call has the type of its node
abbrev IsCallingOf : CTy → CCalling → Type 0
IsCallingOf type one = one.called.type ≡ type

with_type : (type : CTy) (place : Place) (marks : Marks) (args : List COperand) (callee : CCallee) → IfOk (IsCallingOf type) (called_with type place marks args callee)
with_type type place marks args callee =
    ok_and (IsCallingOf type) (counted callee _) _ (λ one. ok_and (IsCallingOf type) (all_given args) _ (λ all. refl))

by_its_type : (setting : CSetting) (type : CTy) (place : Place) (marks : Marks) (operands : List COperand) → IfOk (IsCallingOf type) (called_by setting type place marks operands)
by_its_type setting type place marks [] = tt
by_its_type setting type place marks (first ∷ args) =
    ok_and (IsCallingOf type) (scalar_value first.value) _ (λ value. ok_and (IsCallingOf type) (callee_by setting first.type value) _ (λ callee. with_type type place marks args callee))

call_type : (setting : CSetting) (type : CTy) (place : Place) (number : ℕ) (args : CExprs) (operands : List COperand) → IfOk (IsCallingOf type) (node_calling setting type place (call number args) operands)
call_type setting type place number args operands =
    ok_and (IsCallingOf type) (united_operands operands) _ (λ marks. ok_and (IsCallingOf type) (callee_numbered setting.program number) _ (λ callee. with_type type place marks operands callee))

call_by_type : (setting : CSetting) (type : CTy) (place : Place) (callee : CExpr) (args : CExprs) (operands : List COperand) → IfOk (IsCallingOf type) (node_calling setting type place (call_by callee args) operands)
call_by_type setting type place callee args operands =
    ok_and (IsCallingOf type) (united_operands operands) _ (λ marks. by_its_type setting type place marks operands)

call_once : (node : CExpr) (outcome : Result CCalling CWhy) → IfOk (IsCallingOf (type_of node)) outcome → IfOk DidOnce (outcome_of (did_call node) outcome)
call_once node (Ok one) is = (refl, sym is)
call_once node (Err why) is = tt

form_once : (setting : CSetting) (frame : Frame) (blocks : Blocks) (type : CTy) (place : Place) (form : CForm) (operands : List COperand) → IfOk DidOnce (form_step setting frame blocks type place form operands)
form_once setting frame blocks type place (assign_by op computes target value) operands = outcome_once (did_update (expr type place (assign_by op computes target value)) blocks) _ (λ one. refl)
form_once setting frame blocks type place (step up post on) operands = outcome_once (did_update (expr type place (step up post on)) blocks) _ (λ one. refl)
form_once setting frame blocks type place (call number args) operands = call_once (expr type place (call number args)) _ (call_type setting type place number args operands)
form_once setting frame blocks type place (call_by callee args) operands = call_once (expr type place (call_by callee args)) _ (call_by_type setting type place callee args operands)
form_once setting frame blocks type place (literal number puts) operands =
    outcome_once (did_clear (expr type place (literal number puts)) number puts) _ (λ one. filled_free (expr type place (literal number puts)) number one.marks puts)
form_once setting frame blocks type place (whole value) operands = outcome_once (did_done type) _ (λ one. refl)
form_once setting frame blocks type place null operands = outcome_once (did_done type) _ (λ one. refl)
form_once setting frame blocks type place (object number) operands = outcome_once (did_done type) _ (λ one. refl)
form_once setting frame blocks type place (code number) operands = outcome_once (did_done type) _ (λ one. refl)
form_once setting frame blocks type place (load from) operands = outcome_once (did_done type) _ (λ one. refl)
form_once setting frame blocks type place (deref from) operands = outcome_once (did_done type) _ (λ one. refl)
form_once setting frame blocks type place (member of spot) operands = outcome_once (did_done type) _ (λ one. refl)
form_once setting frame blocks type place (address of) operands = outcome_once (did_done type) _ (λ one. refl)
form_once setting frame blocks type place (convert value) operands = outcome_once (did_done type) _ (λ one. refl)
form_once setting frame blocks type place (unary op value) operands = outcome_once (did_done type) _ (λ one. refl)
form_once setting frame blocks type place (binary op left right) operands = outcome_once (did_done type) _ (λ one. refl)
form_once setting frame blocks type place (and left right) operands = outcome_once (did_done type) _ (λ one. refl)
form_once setting frame blocks type place (or left right) operands = outcome_once (did_done type) _ (λ one. refl)
form_once setting frame blocks type place (cond test first second) operands = outcome_once (did_done type) _ (λ one. refl)
form_once setting frame blocks type place (assign target value) operands = outcome_once (did_done type) _ (λ one. refl)
form_once setting frame blocks type place (comma first second) operands = outcome_once (did_done type) _ (λ one. refl)

needs_once : (setting : CSetting) (frame : Frame) (blocks : Blocks) (node : CExpr) (operands : List COperand) → AsksOnce (needs_step setting frame blocks node operands)
needs_once setting frame blocks (expr type place form) operands = node_once place _ (form_once setting frame blocks type place form operands)

chooses_once : (blocks : Blocks) (node : CExpr) (first : COperand) → AsksOnce (chooses_step blocks node first)
chooses_once blocks (expr type place form) first =
    node_once place _ (outcome_once (after_choice (expr type place form) type blocks (at_sequence_point first.marks)) (chosen form blocks first.value) (λ choice. by choice))
  where
    by : (choice : CChoice) → DidOnce (after_choice (expr type place form) type blocks (at_sequence_point first.marks) choice)
    by (decided value) = refl
    by (tests_next second) = begun_free second
    by (carries_next part) = carried_waits (expr type place form) (at_sequence_point first.marks) (begun part) ∙ begun_free part

tests_once : (blocks : Blocks) (node : CExpr) (marks : Marks) (second : COperand) → AsksOnce (tests_step blocks node marks second)
tests_once blocks node marks second = node_once (place_of node) _ (outcome_once _ (tested blocks (after_marks marks second).value) (λ value. refl))

stage_once : (setting : CSetting) (frame : Frame) (blocks : Blocks) (node : CExpr) (update : CUpdate) (marks : Marks) (stage : CStage) → IfOk DidOnce (stage_step setting frame blocks node update marks stage)
stage_once setting frame blocks node update marks was_loaded = outcome_once _ (update_computed setting blocks update) (λ new. refl)
stage_once setting frame blocks node update marks (was_computed new) = outcome_once _ (update_converted setting blocks update new) (λ value. refl)
stage_once setting frame blocks node update marks (was_converted new) = outcome_once _ (update_stored setting frame blocks update marks new) (λ one. refl)

put_once : (setting : CSetting) (frame : Frame) (blocks : Blocks) (node : CExpr) (marks : Marks) (one : CPut) (others : CPuts) (operand : COperand) → IfOk DidOnce (put_step setting frame blocks node marks one others operand)
put_once setting frame blocks node marks (put spot type value) others operand =
    ok_and DidOnce (literal_number node) _ (λ number. ok_and DidOnce (put_stored setting frame blocks number spot type operand) _ (λ one. filled_free node number (marks_after_put marks one.marks) others))

-- ---- a step of a part

inside_once : (around : CWork → CWork) (stepped : CStepped) → AsksOnce stepped → ((work : CWork) → is_waiting (around work) ≡ is_waiting work) → ((type : CTy) (work : CWork) → IsWaitingFor type work → IsWaitingFor type (around work))
    → AsksOnce (inside around stepped)
inside_once around (Ok (did work after)) once same each = same work ∙ once
inside_once around (Ok (asks_call called work)) once same each = (same work ∙ once.0, each called.type work once.1)
inside_once around (Err fault) once same each = tt

first_once : (own : COperand → CStepped) (within : CStepped) (work : CWork) → ((operand : COperand) → AsksOnce (own operand)) → AsksOnce within → AsksOnce (at_first_operand own within work)
first_once own within (finished operand) mine others = mine operand
first_once own within (needs node operands) mine others = others
first_once own within (chooses node first) mine others = others
first_once own within (tests node marks second) mine others = others
first_once own within (carries node marks part) mine others = others
first_once own within (updates node update stage marks) mine others = others
first_once own within (fills node marks one more value) mine others = others
first_once own within (waits node marks) mine others = others

-- ---- a step among operands

abbrev PartOnce : CSetting → Frame → Blocks → CWork → Type 0
PartOnce setting frame blocks work = (pick : ℕ) → is_waiting work ≡ false → AsksOnce (step_at setting frame blocks pick work)

abbrev EachOnce : CSetting → Frame → Blocks → CWorks → Type 0
EachOnce setting frame blocks no_works = Unit {0}
EachOnce setting frame blocks (more_works first others) = PartOnce setting frame blocks first × EachOnce setting frame blocks others

or_false : (one : Bool) → (one || false) ≡ one
or_false true = refl
or_false false = refl

or_free : (one other : Bool) → other ≡ false → (one || other) ≡ one
or_free one other e = subst (λ b. (one || b) ≡ one) (sym e) (or_false one)

free_or : (one other : Bool) → one ≡ false → (one || other) ≡ other
free_or one other e = subst (λ b. (b || other) ≡ other) (sym e) refl

-- a tree made around operands waits as they do
record IsAround (around : CWorks → CWork) : Type 0 where
  same : (works : CWorks) → is_waiting (around works) ≡ are_waiting works
  each : (type : CTy) (works : CWorks) → AreWaitingFor type works → IsWaitingFor type (around works)

around_others : (first : CWork) (around : CWorks → CWork) → is_waiting first ≡ false → IsAround around → IsAround (λ works. around (more_works first works))
around_others first around free is = record {
  same = λ works. is.same (more_works first works) ∙ free_or (is_waiting first) (are_waiting works) free;
  each = λ type works waiting. is.each type (more_works first works) (free_for type first free, waiting);
}

among_once : (setting : CSetting) (frame : Frame) (blocks : Blocks) (pick : ℕ) (works : CWorks) (none : CStepped) (around : CWorks → CWork) → EachOnce setting frame blocks works → are_waiting works ≡ false → AsksOnce none → IsAround around
    → AsksOnce (step_among setting frame blocks pick works none around)
among_once setting frame blocks pick no_works none around steps free nothing is = nothing
among_once setting frame blocks pick (more_works first others) none around steps free nothing is =
    let apart = either_false (is_waiting first) (are_waiting others) free in
    by apart.0 apart.1 (nat_lt pick (ready first))
    (among_once setting frame blocks (pick - ready first) others none (λ works. around (more_works first works)) steps.1 apart.1 nothing (around_others first around apart.0 is))
  where
    behind : CStepped
    behind = step_among setting frame blocks (pick - ready first) others none (λ works. around (more_works first works))

    by : is_waiting first ≡ false → are_waiting others ≡ false → (test : Bool) → AsksOnce behind
        → AsksOnce (elim test as (λ _. CStepped) [
          | true ↦ inside (λ work. around (more_works work others)) (step_at setting frame blocks pick first)
          | false ↦ behind
        ])
    by here there true rest =
        inside_once (λ work. around (more_works work others)) (step_at setting frame blocks pick first) (steps.0 pick here)
        (λ work. is.same (more_works work others) ∙ or_free (is_waiting work) (are_waiting others) there)
        (λ type work waiting. is.each type (more_works work others) (waiting, all_free_for type others there))
    by here there false rest = rest

-- ---- a tree

needs_asks : (setting : CSetting) (frame : Frame) (blocks : Blocks) (pick : ℕ) (node : CExpr) (operands : CWorks) (test : Bool) → AsksOnce (step_among setting frame blocks pick operands (nowhere node) (needs node))
    → AsksOnce (elim test as (λ _. CStepped) [
      | true ↦ needs_step setting frame blocks node (operands_in operands)
      | false ↦ step_among setting frame blocks pick operands (nowhere node) (needs node)
    ])
needs_asks setting frame blocks pick node operands true within = needs_once setting frame blocks node (operands_in operands)
needs_asks setting frame blocks pick node operands false within = within

mutual
  asks_once : (setting : CSetting) (frame : Frame) (blocks : Blocks) (work : CWork) → PartOnce setting frame blocks work
  asks_once setting frame blocks (finished operand) = λ pick free. refl
  asks_once setting frame blocks (needs node operands) = λ pick free.
      needs_asks setting frame blocks pick node operands (are_finished operands)
      (among_once setting frame blocks pick operands (nowhere node) (needs node) (each_once setting frame blocks operands) free tt (record { same = λ works. refl; each = λ type works waiting. waiting }))
  asks_once setting frame blocks (chooses node first) = λ pick free.
      first_once (chooses_step blocks node) (inside (chooses node) (step_at setting frame blocks pick first)) first (chooses_once blocks node)
      (inside_once (chooses node) (step_at setting frame blocks pick first) (asks_once setting frame blocks first pick free) (λ work. refl) (λ type work waiting. waiting))
  asks_once setting frame blocks (tests node marks second) = λ pick free.
      first_once (tests_step blocks node marks) (inside (tests node marks) (step_at setting frame blocks pick second)) second (tests_once blocks node marks)
      (inside_once (tests node marks) (step_at setting frame blocks pick second) (asks_once setting frame blocks second pick free) (λ work. refl) (λ type work waiting. waiting))
  asks_once setting frame blocks (carries node marks part) = λ pick free.
      inside_once (carried node marks) (step_at setting frame blocks pick part) (asks_once setting frame blocks part pick free) (carried_waits node marks) (λ type work waiting. carried_for type node marks work waiting)
  asks_once setting frame blocks (updates node update stage marks) = λ pick free. node_once (place_of node) _ (stage_once setting frame blocks node update marks stage)
  asks_once setting frame blocks (fills node marks one others value) = λ pick free.
      first_once (λ operand. at_node (place_of_put one) (put_step setting frame blocks node marks one others operand)) (inside (fills node marks one others) (step_at setting frame blocks pick value)) value
      (λ operand. node_once (place_of_put one) _ (put_once setting frame blocks node marks one others operand))
      (inside_once (fills node marks one others) (step_at setting frame blocks pick value) (asks_once setting frame blocks value pick free) (λ work. refl) (λ type work waiting. waiting))
  asks_once setting frame blocks (waits node marks) = λ pick free. tt

  each_once : (setting : CSetting) (frame : Frame) (blocks : Blocks) (works : CWorks) → EachOnce setting frame blocks works
  each_once setting frame blocks no_works = tt
  each_once setting frame blocks (more_works first others) = (asks_once setting frame blocks first, each_once setting frame blocks others)

pub steps_ask_once : StepsAskOnce
steps_ask_once setting frame blocks work pick free = asks_once setting frame blocks work pick free
