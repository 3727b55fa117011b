-- What an expression without calls didn't write stays, in whatever order it is evaluated: by induction on its steps.
use Rattle.std.proofs.Common.{◌≡◌, ℕ, ◌-◌, Bool, true, false, true≢false, ◌&&◌, ◌||◌, nat_lt, List, [], ◌∷◌, ◌++◌, Result, Ok, Err, refl, sym, ap, subst, ◌∙◌}
use Rattle.std.proofs.lemmas.Bool.{and_parts}
use Rattle.std.proofs.lemmas.List.Folds.{list_any-append}
use Rattle.std.specs.List.{list_any}
use Rattle.cr_base.specs.declared.refusal.Place.{Place}
use Rattle.cx_core.specs.Trees.{CTy, CExpr, expr, CForm, whole, null, object, code, load, deref, member, address, convert, unary, binary, and, or, cond, assign, assign_by, step, call, call_by, comma, literal, CPut, put, CPuts, no_puts, more_puts, place_of, type_of}
use Rattle.cx_mean.specs.Accesses.{CStored}
use Rattle.cx_mean.specs.Initialisers.{put_stored}
use Rattle.cx_mean.specs.Marks.{Marks, Range, overlap, any_overlap, at_sequence_point}
use Rattle.cx_mean.specs.Nodes.{CDone, node_done, binary_done, node_updating, update_computed, update_converted, update_stored, CChoice, decided, tests_next, carries_next, chosen, chosen_and, chosen_or, chosen_part, truth_of_value, tested, literal_cleared, marks_after_put}
use Rattle.cx_mean.specs.Operands.{CWhy, CValue, COperand, Frame, united_operands}
use Rattle.cx_mean.specs.Quiet.{calls_nothing, form_calls_nothing, puts_call_nothing}
use Rattle.cx_mean.specs.Settings.{CSetting}
use Rattle.cx_mean.specs.Steps.{CDid, did, asks_call, CStepped, at_node, outcome_of, did_done, did_update, did_clear, form_step, needs_step, after_choice, chooses_step, tests_step, stage_step, literal_number, place_of_put, put_step, inside, nowhere, step_at, step_among, at_first_operand}
use Rattle.cx_mean.specs.Unwritten.{Avoids, KeepsBeside, Evaluates, CallsNothing, UnwrittenStaysInAnyOrder}
use Rattle.cx_mean.specs.Work.{CUpdate, CStage, was_loaded, was_computed, was_converted, CWork, finished, needs, chooses, tests, carries, updates, fills, waits, CWorks, no_works, more_works, begun, begun_form, are_finished, operands_in, carried, filled, ready}
use Rattle.cx_mean.proofs.Kept.{Covers, avoids_first, avoids_second}
use Rattle.cx_mean.proofs.KeptNodes.{IfGiven, given_and, given_then, IsHeldValue, KeptSince, Kept, store_keeps}
use Rattle.cx_mean.proofs.KeptSteps.{writes_in, united_writes, Operands, kept_united, Done, given_store, one_keeps, binary_keeps, Updating, updating_keeps, update_keeps, literal_keeps, put_keeps}
use Rattle.cx_mean.proofs.Unwritten.{tested_gives}
use Rattle.mem_bytes.specs.Access.{and_then}
use Rattle.mem_bytes.specs.Laws.{HoldsCells}
use Rattle.mem_bytes.specs.Memory.{Blocks}

-- ---- ranges

avoids_both : (first second : List Range) (range : Range) → Avoids first range → Avoids second range → Avoids (first ++ second) range
avoids_both first second range one other =
    list_any-append (λ (each : Range). list_any (overlap each) (range ∷ [])) first second
    ∙ ap (λ (test : Bool). test || any_overlap second (range ∷ [])) one ∙ other

-- nothing changed, whatever was written
keeps_all : (ranges : List Range) (memory : Blocks) → KeepsBeside ranges memory memory
keeps_all ranges memory = record {
  cells = λ at count is. refl;
  values = λ at kind is. refl;
  records = λ at size align is. refl;
  fields = λ at bit width place is. refl;
}

keeps_wider : (large small : List Range) (before after : Blocks) → Covers large small → KeepsBeside small before after → KeepsBeside large before after
keeps_wider large small before after covers stays = record {
  cells = λ at count is. stays.cells at count (covers _ is);
  values = λ at kind is. stays.values at kind (covers _ is);
  records = λ at size align is. stays.records at size align (covers _ is);
  fields = λ at bit width place is. stays.fields at bit width place (covers _ is);
}

-- two changes, each beside the same ranges
keeps_both : (ranges : List Range) (before now after : Blocks) → KeepsBeside ranges before now → KeepsBeside ranges now after → KeepsBeside ranges before after
keeps_both ranges before now after one other = record {
  cells = λ at count is. other.cells at count is ∙ one.cells at count is;
  values = λ at kind is. other.values at kind is ∙ one.values at kind is;
  records = λ at size align is. other.records at size align is ∙ one.records at size align is;
  fields = λ at bit width place is. other.fields at bit width place is ∙ one.fields at bit width place is;
}

-- ---- trees

abbrev mutual
  -- all that the marks in a tree say that was written
  pub writes_of : CWork → List Range
  writes_of (finished operand) = operand.marks.writes
  writes_of (needs node operands) = writes_among operands
  writes_of (chooses node first) = writes_of first
  writes_of (tests node marks second) = marks.writes ++ writes_of second
  writes_of (carries node marks part) = marks.writes ++ writes_of part
  writes_of (updates node update stage marks) = marks.writes
  writes_of (fills node marks one others value) = marks.writes ++ writes_of value
  writes_of (waits node marks) = marks.writes

  pub writes_among : CWorks → List Range
  writes_among no_works = []
  writes_among (more_works first others) = writes_of first ++ writes_among others

-- a node that has no operands
abbrev takes_none : CForm → Bool
takes_none (literal number puts) = true
takes_none form = false

abbrev node_takes_none : CExpr → Bool
node_takes_none (expr type place form) = takes_none form

abbrev mutual
  -- a tree in which nothing is called, and whose finished operands have the cells of a machine
  pub Fine : CWork → Type 0
  Fine (finished operand) = IsHeldValue operand.value
  Fine (needs node operands) = (calls_nothing node ≡ true) × (node_takes_none node ≡ true → operands ≡ no_works) × AllFine operands
  Fine (chooses node first) = (calls_nothing node ≡ true) × Fine first
  Fine (tests node marks second) = Fine second
  Fine (carries node marks part) = Fine part
  Fine (updates node update stage marks) = Unit {0}
  Fine (fills node marks one others value) = (puts_call_nothing others ≡ true) × Fine value
  Fine (waits node marks) = ⊥

  pub AllFine : CWorks → Type 0
  AllFine no_works = Unit {0}
  AllFine (more_works first others) = Fine first × AllFine others

one_fine : (e : CExpr) (work : CWork) → calls_nothing e ≡ true → node_takes_none e ≡ false → Fine work → Fine (needs e (more_works work no_works))
one_fine e work quiet takes is = (quiet, λ none. absurd (true≢false (sym none ∙ takes)), (is, tt))

two_fine : (e : CExpr) (work other : CWork) → calls_nothing e ≡ true → node_takes_none e ≡ false → Fine work → Fine other → Fine (needs e (more_works work (more_works other no_works)))
two_fine e work other quiet takes is too = (quiet, λ none. absurd (true≢false (sym none ∙ takes)), (is, (too, tt)))

mutual
  begun_fine : (e : CExpr) → calls_nothing e ≡ true → Fine (begun e)
  begun_fine (expr type place form) quiet = form_fine type place form quiet

  form_fine : (type : CTy) (place : Place) (form : CForm) → form_calls_nothing form ≡ true → Fine (begun_form type place form)
  form_fine type place (whole value) quiet = tt
  form_fine type place null quiet = tt
  form_fine type place (object number) quiet = tt
  form_fine type place (code number) quiet = tt
  form_fine type place (load from) quiet = one_fine (expr type place (load from)) (begun from) quiet refl (begun_fine from quiet)
  form_fine type place (deref from) quiet = one_fine (expr type place (deref from)) (begun from) quiet refl (begun_fine from quiet)
  form_fine type place (member of spot) quiet = one_fine (expr type place (member of spot)) (begun of) quiet refl (begun_fine of quiet)
  form_fine type place (address of) quiet = one_fine (expr type place (address of)) (begun of) quiet refl (begun_fine of quiet)
  form_fine type place (convert value) quiet = one_fine (expr type place (convert value)) (begun value) quiet refl (begun_fine value quiet)
  form_fine type place (unary op value) quiet = one_fine (expr type place (unary op value)) (begun value) quiet refl (begun_fine value quiet)
  form_fine type place (binary op left right) quiet =
      let parts = and_parts (calls_nothing left) (calls_nothing right) quiet in
      two_fine (expr type place (binary op left right)) (begun left) (begun right) quiet refl (begun_fine left parts.0) (begun_fine right parts.1)
  form_fine type place (and left right) quiet = (quiet, begun_fine left (and_parts (calls_nothing left) (calls_nothing right) quiet).0)
  form_fine type place (or left right) quiet = (quiet, begun_fine left (and_parts (calls_nothing left) (calls_nothing right) quiet).0)
  form_fine type place (cond test first second) quiet =
      (quiet, begun_fine test (and_parts (calls_nothing test) (calls_nothing first) (and_parts (calls_nothing test && calls_nothing first) (calls_nothing second) quiet).0).0)
  form_fine type place (assign target value) quiet =
      let parts = and_parts (calls_nothing target) (calls_nothing value) quiet in
      two_fine (expr type place (assign target value)) (begun target) (begun value) quiet refl (begun_fine target parts.0) (begun_fine value parts.1)
  form_fine type place (assign_by op computes target value) quiet =
      let parts = and_parts (calls_nothing target) (calls_nothing value) quiet in
      two_fine (expr type place (assign_by op computes target value)) (begun target) (begun value) quiet refl (begun_fine target parts.0) (begun_fine value parts.1)
  form_fine type place (step up post on) quiet = one_fine (expr type place (step up post on)) (begun on) quiet refl (begun_fine on quiet)
  form_fine type place (call callee args) quiet = absurd (cc (quiet))
  form_fine type place (call_by callee args) quiet = absurd (cc (quiet))
  form_fine type place (comma first second) quiet = (quiet, begun_fine first (and_parts (calls_nothing first) (calls_nothing second) quiet).0)
  form_fine type place (literal number puts) quiet = (quiet, λ none. refl, tt)

-- ---- a step

-- a step that was taken where these ranges had been written
pub record Moved (written : List Range) (blocks : Blocks) (next : CWork) (after : Blocks) : Type 0 where
  pub stays : KeepsBeside (writes_of next) blocks after
  pub covers : Covers (writes_of next) written
  pub held : HoldsCells after
  pub fine : Fine next

abbrev StepKept : List Range → Blocks → CStepped → Type 0
StepKept written blocks (Ok (did next after)) = Moved written blocks next after
StepKept written blocks (Ok (asks_call called work)) = ⊥
StepKept written blocks (Err fault) = Unit {0}

-- the same before its place is told
abbrev GivenKept : List Range → Blocks → Result CDid CWhy → Type 0
GivenKept written blocks (Ok (did next after)) = Moved written blocks next after
GivenKept written blocks (Ok (asks_call called work)) = ⊥
GivenKept written blocks (Err why) = Unit {0}

at_node_kept : (written : List Range) (blocks : Blocks) (place : Place) (outcome : Result CDid CWhy) → GivenKept written blocks outcome → StepKept written blocks (at_node place outcome)
at_node_kept written blocks place (Ok (did next after)) is = is
at_node_kept written blocks place (Ok (asks_call called work)) is = is
at_node_kept written blocks place (Err why) is = tt

outcome_kept : {A : Type 0} (P : A → Type 0) (written : List Range) (blocks : Blocks) (make : A → CDid) (outcome : Result A CWhy) → IfGiven P outcome → ((one : A) → P one → GivenKept written blocks (Ok (make one))) →
    GivenKept written blocks (outcome_of make outcome)
outcome_kept P written blocks make (Ok one) is all = all one is
outcome_kept P written blocks make (Err why) is all = tt

-- of which nothing has to be known
abbrev Anything : {A : Type 0} → A → Type 0
Anything value = Unit {0}

given_anything : {A E : Type 0} (outcome : Result A E) → IfGiven Anything outcome
given_anything (Ok value) = tt
given_anything (Err why) = tt

-- a step that leaves memory as it is
unchanged : (written : List Range) (blocks : Blocks) (next : CWork) → Covers (writes_of next) written → HoldsCells blocks → Fine next → Moved written blocks next blocks
unchanged written blocks next covers held is = record { stays = keeps_all (writes_of next) blocks; covers = covers; held = held; fine = is }

-- ---- the chosen part, and the puts of a literal

carried_writes : (node : CExpr) (marks : Marks) (part : CWork) → writes_of (carried node marks part) ≡ marks.writes ++ writes_of part
carried_writes node marks (finished operand) = refl
carried_writes node marks (needs e operands) = refl
carried_writes node marks (chooses e first) = refl
carried_writes node marks (tests e more second) = refl
carried_writes node marks (carries e more inner) = refl
carried_writes node marks (updates e update stage more) = refl
carried_writes node marks (fills e more one others value) = refl
carried_writes node marks (waits e more) = refl

carried_fine : (node : CExpr) (marks : Marks) (part : CWork) → Fine part → Fine (carried node marks part)
carried_fine node marks (finished operand) is = is
carried_fine node marks (needs e operands) is = is
carried_fine node marks (chooses e first) is = is
carried_fine node marks (tests e more second) is = is
carried_fine node marks (carries e more inner) is = is
carried_fine node marks (updates e update stage more) is = is
carried_fine node marks (fills e more one others value) is = is
carried_fine node marks (waits e more) is = absurd is

filled_covers : (node : CExpr) (number : ℕ) (marks : Marks) (puts : CPuts) → Covers (writes_of (filled node number marks puts)) marks.writes
filled_covers node number marks no_puts range avoids = avoids
filled_covers node number marks (more_puts (put spot type value) others) range avoids = avoids_first marks.writes (writes_of (begun value)) range avoids

filled_fine : (node : CExpr) (number : ℕ) (marks : Marks) (puts : CPuts) → puts_call_nothing puts ≡ true → Fine (filled node number marks puts)
filled_fine node number marks no_puts quiet = tt
filled_fine node number marks (more_puts (put spot type value) others) quiet =
    let parts = and_parts (calls_nothing value) (puts_call_nothing others) quiet in
    (parts.1, begun_fine value parts.0)

-- ---- a part of a tree

inside_kept : (around : CWork → CWork) (written outer : List Range) (blocks : Blocks) (outcome : CStepped) →
    ((next : CWork) → Covers (writes_of (around next)) (writes_of next)) →
    ((next : CWork) → Covers (writes_of next) written → Covers (writes_of (around next)) outer) →
    ((next : CWork) → Fine next → Fine (around next)) →
    StepKept written blocks outcome → StepKept outer blocks (inside around outcome)
inside_kept around written outer blocks (Ok (did next after)) within without fine_in is = record {
  stays = keeps_wider (writes_of (around next)) (writes_of next) blocks after (within next) is.stays;
  covers = without next is.covers;
  held = is.held;
  fine = fine_in next is.fine;
}
inside_kept around written outer blocks (Ok (asks_call called work)) within without fine_in is = is
inside_kept around written outer blocks (Err fault) within without fine_in is = tt

-- behind other marks
behind_marks : (marks : List Range) (next written : List Range) → Covers next written → Covers (marks ++ next) (marks ++ written)
behind_marks marks next written covers range avoids =
    avoids_both marks written range (avoids_first marks next range avoids) (covers range (avoids_second marks next range avoids))

-- ---- nodes whose operands are finished

-- the finished operands of a node
abbrev AllHeld : List COperand → Type 0
AllHeld [] = Unit {0}
AllHeld (first ∷ others) = IsHeldValue first.value × AllHeld others

now_operands : (blocks : Blocks) (operands : List COperand) → HoldsCells blocks → Operands (writes_in operands) blocks operands blocks
now_operands blocks operands held = record { stays = keeps_all (writes_in operands) blocks; covers = λ range avoids. avoids; held = held }

two_done : (setting : CSetting) (type : CTy) (form : CForm) (frame : Frame) (base : List Range) (blocks : Blocks) (marks : Marks) (one other : COperand) → Kept base blocks marks blocks → IsHeldValue other.value →
    IfGiven (Done base blocks) (binary_done setting type form frame marks blocks one other)
two_done setting type (binary op left right) frame base blocks marks one other kept is = binary_keeps setting type op left right frame base blocks blocks marks one other kept
two_done setting type (assign target value) frame base blocks marks one other kept is = given_store base blocks _ (store_keeps setting frame base blocks blocks type one.value other.value marks is kept)
two_done setting type (whole number) frame base blocks marks one other kept is = tt
two_done setting type null frame base blocks marks one other kept is = tt
two_done setting type (object number) frame base blocks marks one other kept is = tt
two_done setting type (code number) frame base blocks marks one other kept is = tt
two_done setting type (load from) frame base blocks marks one other kept is = tt
two_done setting type (deref from) frame base blocks marks one other kept is = tt
two_done setting type (member of spot) frame base blocks marks one other kept is = tt
two_done setting type (address of) frame base blocks marks one other kept is = tt
two_done setting type (convert value) frame base blocks marks one other kept is = tt
two_done setting type (unary op value) frame base blocks marks one other kept is = tt
two_done setting type (and left right) frame base blocks marks one other kept is = tt
two_done setting type (or left right) frame base blocks marks one other kept is = tt
two_done setting type (cond test first second) frame base blocks marks one other kept is = tt
two_done setting type (assign_by op computes target value) frame base blocks marks one other kept is = tt
two_done setting type (step up post on) frame base blocks marks one other kept is = tt
two_done setting type (call callee args) frame base blocks marks one other kept is = tt
two_done setting type (call_by callee args) frame base blocks marks one other kept is = tt
two_done setting type (comma first second) frame base blocks marks one other kept is = tt
two_done setting type (literal number puts) frame base blocks marks one other kept is = tt

all_done : (setting : CSetting) (type : CTy) (form : CForm) (frame : Frame) (blocks : Blocks) (operands : List COperand) → AllHeld operands → HoldsCells blocks →
    IfGiven (Done (writes_in operands) blocks) (node_done setting type form frame blocks operands)
all_done setting type form frame blocks [] are held = tt
all_done setting type form frame blocks (one ∷ []) are held = one_keeps setting type form frame (writes_in (one ∷ [])) blocks blocks one (now_operands blocks (one ∷ []) held) are.0
all_done setting type form frame blocks (one ∷ other ∷ []) are held =
    given_and (λ (marks : Marks). marks.writes ≡ writes_in (one ∷ other ∷ [])) (Done (writes_in (one ∷ other ∷ [])) blocks) (united_operands (one ∷ other ∷ [])) _ (united_writes (one ∷ other ∷ [])) (λ marks same.
    two_done setting type form frame (writes_in (one ∷ other ∷ [])) blocks marks one other (kept_united (writes_in (one ∷ other ∷ [])) blocks blocks (one ∷ other ∷ []) marks (now_operands blocks (one ∷ other ∷ []) held) same) are.1.0)
all_done setting type form frame blocks (one ∷ other ∷ third ∷ more) are held =
    given_then (Done (writes_in (one ∷ other ∷ third ∷ more)) blocks) (united_operands (one ∷ other ∷ third ∷ more)) _ (λ marks. tt)

done_kept : (setting : CSetting) (type : CTy) (form : CForm) (frame : Frame) (blocks : Blocks) (operands : List COperand) → AllHeld operands → HoldsCells blocks →
    GivenKept (writes_in operands) blocks (outcome_of (did_done type) (node_done setting type form frame blocks operands))
done_kept setting type form frame blocks operands are held =
    outcome_kept (Done (writes_in operands) blocks) (writes_in operands) blocks (did_done type) (node_done setting type form frame blocks operands) (all_done setting type form frame blocks operands are held)
    (λ one is. record { stays = is.stays; covers = is.covers; held = is.held; fine = is.value_held })

updated_kept : (setting : CSetting) (type : CTy) (place : Place) (form : CForm) (frame : Frame) (blocks : Blocks) (operands : List COperand) → HoldsCells blocks →
    GivenKept (writes_in operands) blocks (outcome_of (did_update (expr type place form) blocks) (node_updating setting form frame blocks operands))
updated_kept setting type place form frame blocks operands held =
    outcome_kept (Updating (writes_in operands) blocks blocks) (writes_in operands) blocks (did_update (expr type place form) blocks) (node_updating setting form frame blocks operands)
    (updating_keeps setting form frame (writes_in operands) blocks blocks operands (now_operands blocks operands held))
    (λ one is. unchanged (writes_in operands) blocks _ is.covers held tt)

cleared_kept : (setting : CSetting) (type : CTy) (place : Place) (number : ℕ) (puts : CPuts) (frame : Frame) (blocks : Blocks) → puts_call_nothing puts ≡ true → HoldsCells blocks →
    GivenKept [] blocks (outcome_of (did_clear (expr type place (literal number puts)) number puts) (literal_cleared setting frame blocks number puts))
cleared_kept setting type place number puts frame blocks quiet held =
    let node = expr type place (literal number puts) in
    outcome_kept (λ (one : CDone). Kept [] blocks one.marks one.blocks) [] blocks (did_clear node number puts) (literal_cleared setting frame blocks number puts)
    (literal_keeps setting frame blocks number puts held)
    (λ one is. record {
      stays = keeps_wider (writes_of (filled node number one.marks puts)) one.marks.writes blocks one.blocks (filled_covers node number one.marks puts) is.stays;
      covers = λ range avoids. refl;
      held = is.held;
      fine = filled_fine node number one.marks puts quiet;
    })

form_kept : (setting : CSetting) (type : CTy) (place : Place) (form : CForm) (frame : Frame) (blocks : Blocks) (operands : List COperand) → form_calls_nothing form ≡ true → (takes_none form ≡ true → operands ≡ []) →
    AllHeld operands → HoldsCells blocks → GivenKept (writes_in operands) blocks (form_step setting frame blocks type place form operands)
form_kept setting type place (assign_by op computes target value) frame blocks operands quiet none are held = updated_kept setting type place (assign_by op computes target value) frame blocks operands held
form_kept setting type place (step up post on) frame blocks operands quiet none are held = updated_kept setting type place (step up post on) frame blocks operands held
form_kept setting type place (call callee args) frame blocks operands quiet none are held = absurd (cc (quiet))
form_kept setting type place (call_by callee args) frame blocks operands quiet none are held = absurd (cc (quiet))
form_kept setting type place (literal number puts) frame blocks operands quiet none are held =
    rw (none refl) (cleared_kept setting type place number puts frame blocks quiet held)
form_kept setting type place (whole number) frame blocks operands quiet none are held = done_kept setting type (whole number) frame blocks operands are held
form_kept setting type place null frame blocks operands quiet none are held = done_kept setting type null frame blocks operands are held
form_kept setting type place (object number) frame blocks operands quiet none are held = done_kept setting type (object number) frame blocks operands are held
form_kept setting type place (code number) frame blocks operands quiet none are held = done_kept setting type (code number) frame blocks operands are held
form_kept setting type place (load from) frame blocks operands quiet none are held = done_kept setting type (load from) frame blocks operands are held
form_kept setting type place (deref from) frame blocks operands quiet none are held = done_kept setting type (deref from) frame blocks operands are held
form_kept setting type place (member of spot) frame blocks operands quiet none are held = done_kept setting type (member of spot) frame blocks operands are held
form_kept setting type place (address of) frame blocks operands quiet none are held = done_kept setting type (address of) frame blocks operands are held
form_kept setting type place (convert value) frame blocks operands quiet none are held = done_kept setting type (convert value) frame blocks operands are held
form_kept setting type place (unary op value) frame blocks operands quiet none are held = done_kept setting type (unary op value) frame blocks operands are held
form_kept setting type place (binary op left right) frame blocks operands quiet none are held = done_kept setting type (binary op left right) frame blocks operands are held
form_kept setting type place (and left right) frame blocks operands quiet none are held = done_kept setting type (and left right) frame blocks operands are held
form_kept setting type place (or left right) frame blocks operands quiet none are held = done_kept setting type (or left right) frame blocks operands are held
form_kept setting type place (cond test first second) frame blocks operands quiet none are held = done_kept setting type (cond test first second) frame blocks operands are held
form_kept setting type place (assign target value) frame blocks operands quiet none are held = done_kept setting type (assign target value) frame blocks operands are held
form_kept setting type place (comma first second) frame blocks operands quiet none are held = done_kept setting type (comma first second) frame blocks operands are held

-- ---- the operands of a node that are finished

finished_writes : (works : CWorks) → are_finished works ≡ true → writes_among works ≡ writes_in (operands_in works)
finished_writes no_works are = refl
finished_writes (more_works (finished operand) others) are = ap (λ (ranges : List Range). operand.marks.writes ++ ranges) (finished_writes others are)
finished_writes (more_works (needs node operands) others) are = absurd (cc (are))
finished_writes (more_works (chooses node first) others) are = absurd (cc (are))
finished_writes (more_works (tests node marks second) others) are = absurd (cc (are))
finished_writes (more_works (carries node marks part) others) are = absurd (cc (are))
finished_writes (more_works (updates node update stage marks) others) are = absurd (cc (are))
finished_writes (more_works (fills node marks one puts value) others) are = absurd (cc (are))
finished_writes (more_works (waits node marks) others) are = absurd (cc (are))

all_held : (works : CWorks) → AllFine works → AllHeld (operands_in works)
all_held no_works are = tt
all_held (more_works (finished operand) others) are = (are.0, all_held others are.1)
all_held (more_works (needs node operands) others) are = all_held others are.1
all_held (more_works (chooses node first) others) are = all_held others are.1
all_held (more_works (tests node marks second) others) are = all_held others are.1
all_held (more_works (carries node marks part) others) are = all_held others are.1
all_held (more_works (updates node update stage marks) others) are = all_held others are.1
all_held (more_works (fills node marks one puts value) others) are = all_held others are.1
all_held (more_works (waits node marks) others) are = all_held others are.1

-- ---- choices

abbrev ChoiceFine : CChoice → Type 0
ChoiceFine (decided value) = IsHeldValue value
ChoiceFine (tests_next second) = calls_nothing second ≡ true
ChoiceFine (carries_next part) = calls_nothing part ≡ true

and_fine : (second : CExpr) → calls_nothing second ≡ true → (holds : Bool) → ChoiceFine (chosen_and second holds)
and_fine second quiet true = quiet
and_fine second quiet false = tt

or_fine : (second : CExpr) → calls_nothing second ≡ true → (holds : Bool) → ChoiceFine (chosen_or second holds)
or_fine second quiet true = tt
or_fine second quiet false = quiet

part_fine : (first second : CExpr) → calls_nothing first ≡ true → calls_nothing second ≡ true → (holds : Bool) → ChoiceFine (chosen_part first second holds)
part_fine first second quiet other true = quiet
part_fine first second quiet other false = other

chosen_fine : (form : CForm) (blocks : Blocks) (value : CValue) → form_calls_nothing form ≡ true → IfGiven ChoiceFine (chosen form blocks value)
chosen_fine (and first second) blocks value quiet = given_then ChoiceFine (truth_of_value blocks value) _ (and_fine second (and_parts (calls_nothing first) (calls_nothing second) quiet).1)
chosen_fine (or first second) blocks value quiet = given_then ChoiceFine (truth_of_value blocks value) _ (or_fine second (and_parts (calls_nothing first) (calls_nothing second) quiet).1)
chosen_fine (cond test first second) blocks value quiet =
    let outer = and_parts (calls_nothing test && calls_nothing first) (calls_nothing second) quiet in
    given_then ChoiceFine (truth_of_value blocks value) _ (part_fine first second (and_parts (calls_nothing test) (calls_nothing first) outer.0).1 outer.1)
chosen_fine (comma first second) blocks value quiet = (and_parts (calls_nothing first) (calls_nothing second) quiet).1
chosen_fine (whole number) blocks value quiet = tt
chosen_fine null blocks value quiet = tt
chosen_fine (object number) blocks value quiet = tt
chosen_fine (code number) blocks value quiet = tt
chosen_fine (load from) blocks value quiet = tt
chosen_fine (deref from) blocks value quiet = tt
chosen_fine (member of spot) blocks value quiet = tt
chosen_fine (address of) blocks value quiet = tt
chosen_fine (convert from) blocks value quiet = tt
chosen_fine (unary op from) blocks value quiet = tt
chosen_fine (binary op left right) blocks value quiet = tt
chosen_fine (assign target from) blocks value quiet = tt
chosen_fine (assign_by op computes target from) blocks value quiet = tt
chosen_fine (step up post on) blocks value quiet = tt
chosen_fine (call callee args) blocks value quiet = tt
chosen_fine (call_by callee args) blocks value quiet = tt
chosen_fine (literal number puts) blocks value quiet = tt

choice_kept : (node : CExpr) (type : CTy) (blocks : Blocks) (marks : Marks) (choice : CChoice) → ChoiceFine choice → HoldsCells blocks → GivenKept marks.writes blocks (Ok (after_choice node type blocks marks choice))
choice_kept node type blocks marks (decided value) is held = unchanged marks.writes blocks _ (λ range avoids. avoids) held is
choice_kept node type blocks marks (tests_next second) is held =
    unchanged marks.writes blocks (tests node marks (begun second)) (λ range avoids. avoids_first marks.writes (writes_of (begun second)) range avoids) held (begun_fine second is)
choice_kept node type blocks marks (carries_next part) is held =
    unchanged marks.writes blocks (carried node marks (begun part))
    (λ range avoids. avoids_first marks.writes (writes_of (begun part)) range (subst (λ (ranges : List Range). Avoids ranges range) (carried_writes node marks (begun part)) avoids)) held
    (carried_fine node marks (begun part) (begun_fine part is))

chooses_kept : (blocks : Blocks) (node : CExpr) (first : COperand) → calls_nothing node ≡ true → HoldsCells blocks → StepKept first.marks.writes blocks (chooses_step blocks node first)
chooses_kept blocks (expr type place form) first quiet held =
    at_node_kept first.marks.writes blocks place _
    (outcome_kept ChoiceFine first.marks.writes blocks (after_choice (expr type place form) type blocks (at_sequence_point first.marks)) (chosen form blocks first.value) (chosen_fine form blocks first.value quiet)
    (λ choice is. choice_kept (expr type place form) type blocks (at_sequence_point first.marks) choice is held))

tests_kept : (blocks : Blocks) (node : CExpr) (marks : Marks) (second : COperand) → HoldsCells blocks → StepKept (marks.writes ++ second.marks.writes) blocks (tests_step blocks node marks second)
tests_kept blocks node marks second held =
    at_node_kept (marks.writes ++ second.marks.writes) blocks (place_of node) _
    (outcome_kept IsHeldValue (marks.writes ++ second.marks.writes) blocks _ (tested blocks second.value) (tested_gives blocks second.value)
    (λ value is. unchanged (marks.writes ++ second.marks.writes) blocks _ (λ range avoids. avoids) held is))

-- ---- updates and puts

stage_kept : (setting : CSetting) (frame : Frame) (blocks : Blocks) (node : CExpr) (update : CUpdate) (marks : Marks) (stage : CStage) → HoldsCells blocks → GivenKept marks.writes blocks (stage_step setting frame blocks node update marks stage)
stage_kept setting frame blocks node update marks was_loaded held =
    outcome_kept Anything marks.writes blocks _ (update_computed setting blocks update) (given_anything (update_computed setting blocks update))
    (λ new _. unchanged marks.writes blocks _ (λ range avoids. avoids) held tt)
stage_kept setting frame blocks node update marks (was_computed new) held =
    outcome_kept Anything marks.writes blocks _ (update_converted setting blocks update new) (given_anything (update_converted setting blocks update new))
    (λ value _. unchanged marks.writes blocks _ (λ range avoids. avoids) held tt)
stage_kept setting frame blocks node update marks (was_converted new) held =
    outcome_kept (Done marks.writes blocks) marks.writes blocks (did_done (type_of node)) (update_stored setting frame blocks update marks new)
    (update_keeps setting frame marks.writes blocks blocks update marks new (record { stays = keeps_all marks.writes blocks; covers = λ range avoids. avoids; held = held }))
    (λ one is. record { stays = is.stays; covers = is.covers; held = is.held; fine = is.value_held })

put_moved : (node : CExpr) (number : ℕ) (marks : Marks) (others : CPuts) (blocks : Blocks) (operand : COperand) (one : CStored) → puts_call_nothing others ≡ true → KeptSince operand.marks.writes blocks one.value one.marks one.blocks →
    Moved (marks.writes ++ operand.marks.writes) blocks (filled node number (marks_after_put marks one.marks) others) one.blocks
put_moved node number marks others blocks operand one quiet is =
    let covers = filled_covers node number (marks_after_put marks one.marks) others in
    record {
      stays = keeps_wider _ one.marks.writes blocks one.blocks (λ range avoids. avoids_second marks.writes one.marks.writes range (covers range avoids)) is.stays;
      covers = λ range avoids. behind_marks marks.writes one.marks.writes operand.marks.writes is.covers range (covers range avoids);
      held = is.held;
      fine = filled_fine node number (marks_after_put marks one.marks) others quiet;
    }

put_kept : (setting : CSetting) (frame : Frame) (blocks : Blocks) (node : CExpr) (marks : Marks) (one : CPut) (others : CPuts) (operand : COperand) → puts_call_nothing others ≡ true → IsHeldValue operand.value → HoldsCells blocks →
    GivenKept (marks.writes ++ operand.marks.writes) blocks (put_step setting frame blocks node marks one others operand)
put_kept setting frame blocks node marks (put spot type value) others operand quiet is held = from_number (literal_number node)
  where
    stored_kept : (number : ℕ) (outcome : Result CStored CWhy) → IfGiven (λ (one : CStored). KeptSince operand.marks.writes blocks one.value one.marks one.blocks) outcome →
        GivenKept (marks.writes ++ operand.marks.writes) blocks (and_then outcome (λ one. Ok (did (filled node number (marks_after_put marks one.marks) others) one.blocks)))
    stored_kept number (Ok one) given = put_moved node number marks others blocks operand one quiet given
    stored_kept number (Err why) given = tt

    from_number : (found : Result ℕ CWhy) →
        GivenKept (marks.writes ++ operand.marks.writes) blocks (and_then found (λ number. and_then (put_stored setting frame blocks number spot type operand) (λ one. Ok (did (filled node number (marks_after_put marks one.marks) others) one.blocks))))
    from_number (Ok number) =
        stored_kept number (put_stored setting frame blocks number spot type operand)
        (put_keeps setting frame operand.marks.writes blocks blocks number spot type operand (record { stays = keeps_all operand.marks.writes blocks; covers = λ range avoids. avoids; held = held }) is)
    from_number (Err why) = tt

-- ---- the step at a ready node

module _ (setting : CSetting) (frame : Frame) (blocks : Blocks) (held : HoldsCells blocks) where
  needs_kept : (node : CExpr) (works : CWorks) → are_finished works ≡ true → Fine (needs node works) → StepKept (writes_among works) blocks (needs_step setting frame blocks node (operands_in works))
  needs_kept (expr type place form) works are is =
      at_node_kept (writes_among works) blocks place _
      (rw (finished_writes works are)
      (form_kept setting type place form frame blocks (operands_in works) is.0 (λ none. ap operands_in (is.1 none)) (all_held works is.2) held))

  -- a node that isn't finished has operands
  takes_some : (node : CExpr) (works : CWorks) → are_finished works ≡ false → (node_takes_none node ≡ true → works ≡ no_works) → (next : CWorks) → node_takes_none node ≡ true → next ≡ no_works
  takes_some node works not none next takes = absurd (true≢false (sym (ap are_finished (none takes)) ∙ not))

  first_kept : (node : COperand → CStepped) (around : CWork → CWork) (written : List Range) (first : CWork) (within : CStepped) → ((operand : COperand) → first ≡ finished operand → StepKept written blocks (node operand)) →
      StepKept written blocks within → StepKept written blocks (at_first_operand node within first)
  first_kept node around written (finished operand) within one other = one operand refl
  first_kept node around written (needs e operands) within one other = other
  first_kept node around written (chooses e first) within one other = other
  first_kept node around written (tests e marks second) within one other = other
  first_kept node around written (carries e marks part) within one other = other
  first_kept node around written (updates e update stage marks) within one other = other
  first_kept node around written (fills e marks put_now others value) within one other = other
  first_kept node around written (waits e marks) within one other = other

  needs_or : (node : CExpr) (works : CWorks) (pick : ℕ) (all : Bool) → are_finished works ≡ all → Fine (needs node works) →
      (are_finished works ≡ false → StepKept (writes_among works) blocks (step_among setting frame blocks pick works (nowhere node) (needs node))) →
      StepKept (writes_among works) blocks (elim all as (λ _. CStepped) [
        | true ↦ needs_step setting frame blocks node (operands_in works)
        | false ↦ step_among setting frame blocks pick works (nowhere node) (needs node)
      ])
  needs_or node works pick true same is rest = needs_kept node works same is
  needs_or node works pick false same is rest = rest same

  one_of : (test : Bool) (outer : List Range) (one other : CStepped) → StepKept outer blocks one → StepKept outer blocks other →
      StepKept outer blocks (elim test as (λ _. CStepped) [ true ↦ one | false ↦ other ])
  one_of true outer one other is too = is
  one_of false outer one other is too = too

  mutual
    pub step_kept : (work : CWork) (pick : ℕ) → Fine work → StepKept (writes_of work) blocks (step_at setting frame blocks pick work)
    step_kept (finished operand) pick is = unchanged operand.marks.writes blocks (finished operand) (λ range avoids. avoids) held is
    step_kept (needs node operands) pick is =
        needs_or node operands pick (are_finished operands) refl is
        (λ not. among_kept operands pick (nowhere node) (needs node) (writes_among operands) (λ works range avoids. avoids) (λ works covers. covers)
        (λ works are. (is.0, takes_some node operands not is.1 works, are)) tt is.2)
    step_kept (chooses node first) pick is =
        first_kept (chooses_step blocks node) (chooses node) (writes_of first) first _
        (λ operand same. subst (λ (work : CWork). StepKept (writes_of work) blocks (chooses_step blocks node operand)) (sym same) (chooses_kept blocks node operand is.0 held))
        (inside_kept (chooses node) (writes_of first) (writes_of first) blocks _ (λ next range avoids. avoids) (λ next covers. covers) (λ next fine. (is.0, fine)) (step_kept first pick is.1))
    step_kept (tests node marks second) pick is =
        first_kept (tests_step blocks node marks) (tests node marks) (marks.writes ++ writes_of second) second _
        (λ operand same. subst (λ (work : CWork). StepKept (marks.writes ++ writes_of work) blocks (tests_step blocks node marks operand)) (sym same) (tests_kept blocks node marks operand held))
        (inside_kept (tests node marks) (writes_of second) (marks.writes ++ writes_of second) blocks _
        (λ next range avoids. avoids_second marks.writes (writes_of next) range avoids) (λ next covers. behind_marks marks.writes (writes_of next) (writes_of second) covers) (λ next fine. fine) (step_kept second pick is))
    step_kept (carries node marks part) pick is =
        inside_kept (carried node marks) (writes_of part) (marks.writes ++ writes_of part) blocks _
        (λ next range avoids. avoids_second marks.writes (writes_of next) range (subst (λ (ranges : List Range). Avoids ranges range) (carried_writes node marks next) avoids))
        (λ next covers range avoids. behind_marks marks.writes (writes_of next) (writes_of part) covers range (subst (λ (ranges : List Range). Avoids ranges range) (carried_writes node marks next) avoids))
        (carried_fine node marks) (step_kept part pick is)
    step_kept (updates node update stage marks) pick is = at_node_kept marks.writes blocks (place_of node) _ (stage_kept setting frame blocks node update marks stage held)
    step_kept (fills node marks one others value) pick is =
        first_kept _ (fills node marks one others) (marks.writes ++ writes_of value) value _
        (λ operand same. subst (λ (work : CWork). StepKept (marks.writes ++ writes_of work) blocks (at_node (place_of_put one) (put_step setting frame blocks node marks one others operand))) (sym same)
        (at_node_kept (marks.writes ++ operand.marks.writes) blocks (place_of_put one) _ (put_kept setting frame blocks node marks one others operand is.0 (subst Fine same is.1) held)))
        (inside_kept (fills node marks one others) (writes_of value) (marks.writes ++ writes_of value) blocks _
        (λ next range avoids. avoids_second marks.writes (writes_of next) range avoids) (λ next covers. behind_marks marks.writes (writes_of next) (writes_of value) covers) (λ next fine. (is.0, fine)) (step_kept value pick is.1))
    step_kept (waits node marks) pick is = absurd is

    among_kept : (works : CWorks) (pick : ℕ) (none : CStepped) (around : CWorks → CWork) (outer : List Range) → ((next : CWorks) → Covers (writes_of (around next)) (writes_among next)) →
        ((next : CWorks) → Covers (writes_among next) (writes_among works) → Covers (writes_of (around next)) outer) → ((next : CWorks) → AllFine next → Fine (around next)) → StepKept outer blocks none → AllFine works →
        StepKept outer blocks (step_among setting frame blocks pick works none around)
    among_kept no_works pick none around outer within without fine_in is are = is
    among_kept (more_works first others) pick none around outer within without fine_in is are =
        one_of (nat_lt pick (ready first)) outer _ _
        (inside_kept (λ work. around (more_works work others)) (writes_of first) outer blocks _
        (λ next range avoids. avoids_first (writes_of next) (writes_among others) range (within (more_works next others) range avoids))
        (λ next covers. without (more_works next others) (λ range avoids.
        avoids_both (writes_of first) (writes_among others) range (covers range (avoids_first (writes_of next) (writes_among others) range avoids)) (avoids_second (writes_of next) (writes_among others) range avoids)))
        (λ next fine. fine_in (more_works next others) (fine, are.1)) (step_kept first pick are.0))
        (among_kept others (pick - ready first) none (λ works. around (more_works first works)) outer
        (λ next range avoids. avoids_second (writes_of first) (writes_among next) range (within (more_works first next) range avoids))
        (λ next covers. without (more_works first next) (behind_marks (writes_of first) (writes_among next) (writes_among others) covers))
        (λ next fine. fine_in (more_works first next) (are.0, fine)) is are.1)

-- ---- runs of steps

never_calls : (written : List Range) (blocks : Blocks) (outcome : CStepped) → StepKept written blocks outcome → CallsNothing outcome
never_calls written blocks (Ok (did work after)) is = tt
never_calls written blocks (Ok (asks_call called work)) is = is
never_calls written blocks (Err fault) is = tt

-- what holds behind any steps of an expression that began in an earlier memory
record Behind (before : Blocks) (work : CWork) (now : Blocks) : Type 0 where
  stays : KeepsBeside (writes_of work) before now
  held : HoldsCells now
  fine : Fine work

steps_kept : (setting : CSetting) (frame : Frame) (e : CExpr) (before after : Blocks) (last : CWork) → calls_nothing e ≡ true → HoldsCells before → Evaluates setting frame (begun e) before last after → Behind before last after
steps_kept setting frame e before after last quiet held Evaluates.not_yet = record { stays = keeps_all (writes_of (begun e)) before; held = held; fine = begun_fine e quiet }
steps_kept setting frame e before after last quiet held (Evaluates.and_then_at {work} {now} pick steps same) =
    let behind = steps_kept setting frame e before now work quiet held steps in
    let moved : Moved (writes_of work) now last after = subst (λ (outcome : CStepped). StepKept (writes_of work) now outcome) same (step_kept setting frame now behind.held work pick behind.fine) in
    record {
      stays = keeps_both (writes_of last) before now after (keeps_wider (writes_of last) (writes_of work) before now moved.covers behind.stays) moved.stays;
      held = moved.held;
      fine = moved.fine;
    }

pub stays_in_any_order : UnwrittenStaysInAnyOrder
stays_in_any_order = record {
  stays = λ setting frame e before after operand quiet held steps. (steps_kept setting frame e before after (finished operand) quiet held steps).stays;
  calls_nothing = λ setting frame e before now work pick quiet held steps.
      let behind = steps_kept setting frame e before now work quiet held steps in
      never_calls (writes_of work) now (step_at setting frame now pick work) (step_kept setting frame now behind.held work pick behind.fine);
}
