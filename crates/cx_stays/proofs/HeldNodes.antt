-- What a step of a node leaves of memory.
use Rattle.std.proofs.Common.{◌≡◌, ℕ, Bool, true, false, List, [], ◌∷◌, ◌++◌, length, Result, Ok, Err, refl, ap, subst}
use Rattle.cr_base.specs.declared.refusal.Place.{Place}
use Rattle.cr_base.specs.declared.rule.URule.TheVariants.{U14}
use Rattle.cx_core.specs.Trees.{CTy, CExpr, expr, CForm, whole, null, object, code, load, deref, member, address, convert, unary, binary, and, or, cond, assign, assign_by, step, call, call_by, comma, literal, CExprs, CPut, put, CPuts, place_of, type_of}
use Rattle.cx_mean.specs.Accesses.{CStored}
use Rattle.cx_mean.specs.Calls.{CCallee, callee_numbered, callee_by, CCalling, called_with, called_by, counted, is_missing, all_given, node_calling}
use Rattle.cx_mean.specs.Initialisers.{put_stored}
use Rattle.cx_mean.specs.Marks.{Marks, Range, at_sequence_point}
use Rattle.cx_mean.specs.Nodes.{CDone, node_done, binary_done, node_updating, update_computed, update_converted, update_stored, CChoice, decided, tests_next, carries_next, chosen, chosen_and, chosen_or, chosen_part, truth_of_value, tested, literal_cleared, marks_after_put}
use Rattle.cx_mean.specs.Operands.{CWhy, breaks, CValue, COperand, Frame, scalar_value, united_operands}
use Rattle.cx_mean.specs.Settings.{CSetting}
use Rattle.cx_mean.specs.Steps.{did, outcome_of, did_done, did_update, did_call, did_clear, form_step, after_choice, chooses_step, tests_step, stage_step, literal_number, put_step}
use Rattle.cx_mean.specs.Unwritten.{Avoids}
use Rattle.cx_mean.specs.Work.{CUpdate, CStage, was_loaded, was_computed, was_converted, finished, needs, chooses, tests, carries, updates, fills, waits, CWorks, no_works, more_works, begun, are_finished, operands_in, carried, filled}
use Rattle.cx_mean.proofs.Kept.{avoids_first, avoids_second}
use Rattle.cx_mean.proofs.KeptNodes.{IfGiven, given_and, given_then, given_else, IsHeldValue, KeptSince, Kept, store_keeps}
use Rattle.cx_mean.proofs.KeptSteps.{writes_in, united_writes, Operands, kept_united, Done, given_store, one_keeps, binary_keeps, Updating, updating_keeps, update_keeps, literal_keeps, put_keeps}
use Rattle.cx_mean.proofs.KeptWork.{writes_of, writes_among}
use Rattle.cx_mean.proofs.Unwritten.{tested_gives}
use Rattle.mem_bytes.specs.Access.{and_then}
use Rattle.mem_bytes.specs.Laws.{HoldsCells}
use Rattle.mem_bytes.specs.Memory.{Blocks}
use Rattle.cx_stays.proofs.HeldTrees.{AllHeld, AreHeldWorks, takes_none, keeps_all, keeps_wider, begun_held, Moved, StepKept, GivenKept, at_node_kept, outcome_kept, Anything, given_anything, unchanged, carried_writes, carried_held, filled_covers, filled_held, behind_marks}

-- ---- nodes whose operands are finished

now_operands : (blocks : Blocks) (operands : List COperand) → HoldsCells blocks → Operands (writes_in operands) blocks operands blocks
now_operands blocks operands held = record { stays = keeps_all (writes_in operands) blocks; covers = λ range avoids. avoids; held = held }

two_done : (setting : CSetting) (type : CTy) (form : CForm) (frame : Frame) (base : List Range) (blocks : Blocks) (marks : Marks) (one other : COperand) → Kept base blocks marks blocks → IsHeldValue other.value →
    IfGiven (Done base blocks) (binary_done setting type form frame marks blocks one other)
two_done setting type (binary op left right) frame base blocks marks one other kept is = binary_keeps setting type op left right frame base blocks blocks marks one other kept
two_done setting type (assign target value) frame base blocks marks one other kept is = given_store base blocks _ (store_keeps setting frame base blocks blocks type one.value other.value marks is kept)
two_done setting type (whole number) frame base blocks marks one other kept is = tt
two_done setting type null frame base blocks marks one other kept is = tt
two_done setting type (object number) frame base blocks marks one other kept is = tt
two_done setting type (code number) frame base blocks marks one other kept is = tt
two_done setting type (load from) frame base blocks marks one other kept is = tt
two_done setting type (deref from) frame base blocks marks one other kept is = tt
two_done setting type (member of spot) frame base blocks marks one other kept is = tt
two_done setting type (address of) frame base blocks marks one other kept is = tt
two_done setting type (convert value) frame base blocks marks one other kept is = tt
two_done setting type (unary op value) frame base blocks marks one other kept is = tt
two_done setting type (and left right) frame base blocks marks one other kept is = tt
two_done setting type (or left right) frame base blocks marks one other kept is = tt
two_done setting type (cond test first second) frame base blocks marks one other kept is = tt
two_done setting type (assign_by op computes target value) frame base blocks marks one other kept is = tt
two_done setting type (step up post on) frame base blocks marks one other kept is = tt
two_done setting type (call callee args) frame base blocks marks one other kept is = tt
two_done setting type (call_by callee args) frame base blocks marks one other kept is = tt
two_done setting type (comma first second) frame base blocks marks one other kept is = tt
two_done setting type (literal number puts) frame base blocks marks one other kept is = tt

all_done : (setting : CSetting) (type : CTy) (form : CForm) (frame : Frame) (blocks : Blocks) (operands : List COperand) → AllHeld operands → HoldsCells blocks →
    IfGiven (Done (writes_in operands) blocks) (node_done setting type form frame blocks operands)
all_done setting type form frame blocks [] are held = tt
all_done setting type form frame blocks (one ∷ []) are held = one_keeps setting type form frame (writes_in (one ∷ [])) blocks blocks one (now_operands blocks (one ∷ []) held) are.0
all_done setting type form frame blocks (one ∷ other ∷ []) are held =
    given_and (λ (marks : Marks). marks.writes ≡ writes_in (one ∷ other ∷ [])) (Done (writes_in (one ∷ other ∷ [])) blocks) (united_operands (one ∷ other ∷ [])) _ (united_writes (one ∷ other ∷ [])) (λ marks same.
    two_done setting type form frame (writes_in (one ∷ other ∷ [])) blocks marks one other (kept_united (writes_in (one ∷ other ∷ [])) blocks blocks (one ∷ other ∷ []) marks (now_operands blocks (one ∷ other ∷ []) held) same) are.1.0)
all_done setting type form frame blocks (one ∷ other ∷ third ∷ more) are held =
    given_then (Done (writes_in (one ∷ other ∷ third ∷ more)) blocks) (united_operands (one ∷ other ∷ third ∷ more)) _ (λ marks. tt)

done_kept : (setting : CSetting) (type : CTy) (form : CForm) (frame : Frame) (blocks : Blocks) (operands : List COperand) → AllHeld operands → HoldsCells blocks →
    GivenKept (writes_in operands) blocks (outcome_of (did_done type) (node_done setting type form frame blocks operands))
done_kept setting type form frame blocks operands are held =
    outcome_kept (Done (writes_in operands) blocks) (writes_in operands) blocks (did_done type) (node_done setting type form frame blocks operands) (all_done setting type form frame blocks operands are held)
    (λ one is. record { stays = is.stays; covers = is.covers; held = is.held; work_is = is.value_held })

updated_kept : (setting : CSetting) (type : CTy) (place : Place) (form : CForm) (frame : Frame) (blocks : Blocks) (operands : List COperand) → HoldsCells blocks →
    GivenKept (writes_in operands) blocks (outcome_of (did_update (expr type place form) blocks) (node_updating setting form frame blocks operands))
updated_kept setting type place form frame blocks operands held =
    outcome_kept (Updating (writes_in operands) blocks blocks) (writes_in operands) blocks (did_update (expr type place form) blocks) (node_updating setting form frame blocks operands)
    (updating_keeps setting form frame (writes_in operands) blocks blocks operands (now_operands blocks operands held))
    (λ one is. unchanged (writes_in operands) blocks _ is.covers held tt)

cleared_kept : (setting : CSetting) (type : CTy) (place : Place) (number : ℕ) (puts : CPuts) (frame : Frame) (blocks : Blocks) → HoldsCells blocks →
    GivenKept [] blocks (outcome_of (did_clear (expr type place (literal number puts)) number puts) (literal_cleared setting frame blocks number puts))
cleared_kept setting type place number puts frame blocks held =
    let node = expr type place (literal number puts) in
    outcome_kept (λ (one : CDone). Kept [] blocks one.marks one.blocks) [] blocks (did_clear node number puts) (literal_cleared setting frame blocks number puts)
    (literal_keeps setting frame blocks number puts held)
    (λ one is. record {
      stays = keeps_wider (writes_of (filled node number one.marks puts)) one.marks.writes blocks one.blocks (filled_covers node number one.marks puts) is.stays;
      covers = λ range avoids. refl;
      held = is.held;
      work_is = filled_held node number one.marks puts;
    })

-- ---- calls

-- a call of operands with cells of a machine, whose marks say what they wrote
record IsMarkedCall (operands : List COperand) (one : CCalling) : Type 0 where
  marked : one.marks.writes ≡ writes_in operands
  held : AllHeld one.called.args

given_held : (args : List COperand) → AllHeld args → IfGiven AllHeld (all_given args)
given_held [] are = tt
given_held (first ∷ others) are =
    given_and AllHeld AllHeld (all_given others) _ (given_held others are.1) (λ rest rest_are. given_else AllHeld (is_missing first.value) (breaks U14) (first ∷ rest) (are.0, rest_are))

marked_with : (type : CTy) (place : Place) (marks : Marks) (operands args : List COperand) (callee : CCallee) → marks.writes ≡ writes_in operands → AllHeld args → IfGiven (IsMarkedCall operands) (called_with type place marks args callee)
marked_with type place marks operands args callee same are =
    given_then (IsMarkedCall operands) (counted callee (length args)) _ (λ one.
    given_and AllHeld (IsMarkedCall operands) (all_given args) _ (given_held args are) (λ all all_are. record { marked = same; held = all_are }))

marked_by : (setting : CSetting) (type : CTy) (place : Place) (marks : Marks) (operands given : List COperand) → marks.writes ≡ writes_in operands → AllHeld given → IfGiven (IsMarkedCall operands) (called_by setting type place marks given)
marked_by setting type place marks operands [] same are = tt
marked_by setting type place marks operands (first ∷ args) same are =
    given_then (IsMarkedCall operands) (scalar_value first.value) _ (λ value.
    given_then (IsMarkedCall operands) (callee_by setting first.type value) _ (λ callee. marked_with type place marks operands args callee same are.1))

call_kept : (type : CTy) (place : Place) (form : CForm) (blocks : Blocks) (operands : List COperand) (outcome : Result CCalling CWhy) → IfGiven (IsMarkedCall operands) outcome →
    GivenKept (writes_in operands) blocks (outcome_of (did_call (expr type place form)) outcome)
call_kept type place form blocks operands outcome given =
    outcome_kept (IsMarkedCall operands) (writes_in operands) blocks (did_call (expr type place form)) outcome given
    (λ one is. record { covers = λ range avoids. subst (λ (ranges : List Range). Avoids ranges range) is.marked avoids; work_is = tt; args = is.held })

named_kept : (setting : CSetting) (type : CTy) (place : Place) (number : ℕ) (args : CExprs) (blocks : Blocks) (operands : List COperand) → AllHeld operands →
    GivenKept (writes_in operands) blocks (outcome_of (did_call (expr type place (call number args))) (node_calling setting type place (call number args) operands))
named_kept setting type place number args blocks operands are =
    call_kept type place (call number args) blocks operands (node_calling setting type place (call number args) operands)
    (given_and (λ (marks : Marks). marks.writes ≡ writes_in operands) (IsMarkedCall operands) (united_operands operands) _ (united_writes operands) (λ marks same.
    given_then (IsMarkedCall operands) (callee_numbered setting.program number) _ (λ callee. marked_with type place marks operands operands callee same are)))

pointed_kept : (setting : CSetting) (type : CTy) (place : Place) (callee : CExpr) (args : CExprs) (blocks : Blocks) (operands : List COperand) → AllHeld operands →
    GivenKept (writes_in operands) blocks (outcome_of (did_call (expr type place (call_by callee args))) (node_calling setting type place (call_by callee args) operands))
pointed_kept setting type place callee args blocks operands are =
    call_kept type place (call_by callee args) blocks operands (node_calling setting type place (call_by callee args) operands)
    (given_and (λ (marks : Marks). marks.writes ≡ writes_in operands) (IsMarkedCall operands) (united_operands operands) _ (united_writes operands) (λ marks same.
    marked_by setting type place marks operands operands same are))

pub form_kept : (setting : CSetting) (type : CTy) (place : Place) (form : CForm) (frame : Frame) (blocks : Blocks) (operands : List COperand) → (takes_none form ≡ true → operands ≡ []) →
    AllHeld operands → HoldsCells blocks → GivenKept (writes_in operands) blocks (form_step setting frame blocks type place form operands)
form_kept setting type place (assign_by op computes target value) frame blocks operands none are held = updated_kept setting type place (assign_by op computes target value) frame blocks operands held
form_kept setting type place (step up post on) frame blocks operands none are held = updated_kept setting type place (step up post on) frame blocks operands held
form_kept setting type place (call callee args) frame blocks operands none are held =
    named_kept setting type place callee args blocks operands are
form_kept setting type place (call_by callee args) frame blocks operands none are held = pointed_kept setting type place callee args blocks operands are
form_kept setting type place (literal number puts) frame blocks operands none are held =
    rw (none refl) (cleared_kept setting type place number puts frame blocks held)
form_kept setting type place (whole number) frame blocks operands none are held = done_kept setting type (whole number) frame blocks operands are held
form_kept setting type place null frame blocks operands none are held = done_kept setting type null frame blocks operands are held
form_kept setting type place (object number) frame blocks operands none are held = done_kept setting type (object number) frame blocks operands are held
form_kept setting type place (code number) frame blocks operands none are held = done_kept setting type (code number) frame blocks operands are held
form_kept setting type place (load from) frame blocks operands none are held = done_kept setting type (load from) frame blocks operands are held
form_kept setting type place (deref from) frame blocks operands none are held = done_kept setting type (deref from) frame blocks operands are held
form_kept setting type place (member of spot) frame blocks operands none are held = done_kept setting type (member of spot) frame blocks operands are held
form_kept setting type place (address of) frame blocks operands none are held = done_kept setting type (address of) frame blocks operands are held
form_kept setting type place (convert value) frame blocks operands none are held = done_kept setting type (convert value) frame blocks operands are held
form_kept setting type place (unary op value) frame blocks operands none are held = done_kept setting type (unary op value) frame blocks operands are held
form_kept setting type place (binary op left right) frame blocks operands none are held = done_kept setting type (binary op left right) frame blocks operands are held
form_kept setting type place (and left right) frame blocks operands none are held = done_kept setting type (and left right) frame blocks operands are held
form_kept setting type place (or left right) frame blocks operands none are held = done_kept setting type (or left right) frame blocks operands are held
form_kept setting type place (cond test first second) frame blocks operands none are held = done_kept setting type (cond test first second) frame blocks operands are held
form_kept setting type place (assign target value) frame blocks operands none are held = done_kept setting type (assign target value) frame blocks operands are held
form_kept setting type place (comma first second) frame blocks operands none are held = done_kept setting type (comma first second) frame blocks operands are held

-- ---- the operands of a node that are finished

pub finished_writes : (works : CWorks) → are_finished works ≡ true → writes_among works ≡ writes_in (operands_in works)
finished_writes no_works are = refl
finished_writes (more_works (finished operand) others) are = ap (λ (ranges : List Range). operand.marks.writes ++ ranges) (finished_writes others are)
finished_writes (more_works (needs node operands) others) are = absurd (cc (are))
finished_writes (more_works (chooses node first) others) are = absurd (cc (are))
finished_writes (more_works (tests node marks second) others) are = absurd (cc (are))
finished_writes (more_works (carries node marks part) others) are = absurd (cc (are))
finished_writes (more_works (updates node update stage marks) others) are = absurd (cc (are))
finished_writes (more_works (fills node marks one puts value) others) are = absurd (cc (are))
finished_writes (more_works (waits node marks) others) are = absurd (cc (are))

pub all_held : (works : CWorks) → AreHeldWorks works → AllHeld (operands_in works)
all_held no_works are = tt
all_held (more_works (finished operand) others) are = (are.0, all_held others are.1)
all_held (more_works (needs node operands) others) are = all_held others are.1
all_held (more_works (chooses node first) others) are = all_held others are.1
all_held (more_works (tests node marks second) others) are = all_held others are.1
all_held (more_works (carries node marks part) others) are = all_held others are.1
all_held (more_works (updates node update stage marks) others) are = all_held others are.1
all_held (more_works (fills node marks one puts value) others) are = all_held others are.1
all_held (more_works (waits node marks) others) are = all_held others are.1

-- ---- choices

abbrev IsHeldChoice : CChoice → Type 0
IsHeldChoice (decided value) = IsHeldValue value
IsHeldChoice (tests_next second) = Unit {0}
IsHeldChoice (carries_next part) = Unit {0}

and_held : (second : CExpr) (holds : Bool) → IsHeldChoice (chosen_and second holds)
and_held second true = tt
and_held second false = tt

or_held : (second : CExpr) (holds : Bool) → IsHeldChoice (chosen_or second holds)
or_held second true = tt
or_held second false = tt

part_held : (first second : CExpr) (holds : Bool) → IsHeldChoice (chosen_part first second holds)
part_held first second true = tt
part_held first second false = tt

chosen_held : (form : CForm) (blocks : Blocks) (value : CValue) → IfGiven IsHeldChoice (chosen form blocks value)
chosen_held (and first second) blocks value = given_then IsHeldChoice (truth_of_value blocks value) _ (and_held second)
chosen_held (or first second) blocks value = given_then IsHeldChoice (truth_of_value blocks value) _ (or_held second)
chosen_held (cond test first second) blocks value = given_then IsHeldChoice (truth_of_value blocks value) _ (part_held first second)
chosen_held (comma first second) blocks value = tt
chosen_held form blocks value = tt

choice_kept : (node : CExpr) (type : CTy) (blocks : Blocks) (marks : Marks) (choice : CChoice) → IsHeldChoice choice → HoldsCells blocks → GivenKept marks.writes blocks (Ok (after_choice node type blocks marks choice))
choice_kept node type blocks marks (decided value) is held = unchanged marks.writes blocks _ (λ range avoids. avoids) held is
choice_kept node type blocks marks (tests_next second) is held =
    unchanged marks.writes blocks (tests node marks (begun second)) (λ range avoids. avoids_first marks.writes (writes_of (begun second)) range avoids) held (begun_held second)
choice_kept node type blocks marks (carries_next part) is held =
    unchanged marks.writes blocks (carried node marks (begun part))
    (λ range avoids. avoids_first marks.writes (writes_of (begun part)) range (subst (λ (ranges : List Range). Avoids ranges range) (carried_writes node marks (begun part)) avoids)) held
    (carried_held node marks (begun part) (begun_held part))

pub chooses_kept : (blocks : Blocks) (node : CExpr) (first : COperand) → HoldsCells blocks → StepKept first.marks.writes blocks (chooses_step blocks node first)
chooses_kept blocks (expr type place form) first held =
    at_node_kept first.marks.writes blocks place _
    (outcome_kept IsHeldChoice first.marks.writes blocks (after_choice (expr type place form) type blocks (at_sequence_point first.marks)) (chosen form blocks first.value) (chosen_held form blocks first.value)
    (λ choice is. choice_kept (expr type place form) type blocks (at_sequence_point first.marks) choice is held))

pub tests_kept : (blocks : Blocks) (node : CExpr) (marks : Marks) (second : COperand) → HoldsCells blocks → StepKept (marks.writes ++ second.marks.writes) blocks (tests_step blocks node marks second)
tests_kept blocks node marks second held =
    at_node_kept (marks.writes ++ second.marks.writes) blocks (place_of node) _
    (outcome_kept IsHeldValue (marks.writes ++ second.marks.writes) blocks _ (tested blocks second.value) (tested_gives blocks second.value)
    (λ value is. unchanged (marks.writes ++ second.marks.writes) blocks _ (λ range avoids. avoids) held is))

-- ---- updates and puts

pub stage_kept : (setting : CSetting) (frame : Frame) (blocks : Blocks) (node : CExpr) (update : CUpdate) (marks : Marks) (stage : CStage) → HoldsCells blocks → GivenKept marks.writes blocks (stage_step setting frame blocks node update marks stage)
stage_kept setting frame blocks node update marks was_loaded held =
    outcome_kept Anything marks.writes blocks _ (update_computed setting blocks update) (given_anything (update_computed setting blocks update))
    (λ new _. unchanged marks.writes blocks _ (λ range avoids. avoids) held tt)
stage_kept setting frame blocks node update marks (was_computed new) held =
    outcome_kept Anything marks.writes blocks _ (update_converted setting blocks update new) (given_anything (update_converted setting blocks update new))
    (λ value _. unchanged marks.writes blocks _ (λ range avoids. avoids) held tt)
stage_kept setting frame blocks node update marks (was_converted new) held =
    outcome_kept (Done marks.writes blocks) marks.writes blocks (did_done (type_of node)) (update_stored setting frame blocks update marks new)
    (update_keeps setting frame marks.writes blocks blocks update marks new (record { stays = keeps_all marks.writes blocks; covers = λ range avoids. avoids; held = held }))
    (λ one is. record { stays = is.stays; covers = is.covers; held = is.held; work_is = is.value_held })

put_moved : (node : CExpr) (number : ℕ) (marks : Marks) (others : CPuts) (blocks : Blocks) (operand : COperand) (one : CStored) → KeptSince operand.marks.writes blocks one.value one.marks one.blocks →
    Moved (marks.writes ++ operand.marks.writes) blocks (filled node number (marks_after_put marks one.marks) others) one.blocks
put_moved node number marks others blocks operand one is =
    let covers = filled_covers node number (marks_after_put marks one.marks) others in
    record {
      stays = keeps_wider _ one.marks.writes blocks one.blocks (λ range avoids. avoids_second marks.writes one.marks.writes range (covers range avoids)) is.stays;
      covers = λ range avoids. behind_marks marks.writes one.marks.writes operand.marks.writes is.covers range (covers range avoids);
      held = is.held;
      work_is = filled_held node number (marks_after_put marks one.marks) others;
    }

pub put_kept : (setting : CSetting) (frame : Frame) (blocks : Blocks) (node : CExpr) (marks : Marks) (one : CPut) (others : CPuts) (operand : COperand) → IsHeldValue operand.value → HoldsCells blocks →
    GivenKept (marks.writes ++ operand.marks.writes) blocks (put_step setting frame blocks node marks one others operand)
put_kept setting frame blocks node marks (put spot type value) others operand is held = from_number (literal_number node)
  where
    stored_kept : (number : ℕ) (outcome : Result CStored CWhy) → IfGiven (λ (one : CStored). KeptSince operand.marks.writes blocks one.value one.marks one.blocks) outcome →
        GivenKept (marks.writes ++ operand.marks.writes) blocks (and_then outcome (λ one. Ok (did (filled node number (marks_after_put marks one.marks) others) one.blocks)))
    stored_kept number (Ok one) given = put_moved node number marks others blocks operand one given
    stored_kept number (Err why) given = tt

    from_number : (found : Result ℕ CWhy) →
        GivenKept (marks.writes ++ operand.marks.writes) blocks (and_then found (λ number. and_then (put_stored setting frame blocks number spot type operand) (λ one. Ok (did (filled node number (marks_after_put marks one.marks) others) one.blocks))))
    from_number (Ok number) =
        stored_kept number (put_stored setting frame blocks number spot type operand)
        (put_keeps setting frame operand.marks.writes blocks blocks number spot type operand (record { stays = keeps_all operand.marks.writes blocks; covers = λ range avoids. avoids; held = held }) is)
    from_number (Err why) = tt
