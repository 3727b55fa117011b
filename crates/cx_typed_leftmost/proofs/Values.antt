-- The leftmost run of a typed expression is typed, by induction on the expression.
use Rattle.std.proofs.Common.{◌≡◌, inl, inr, ℕ, zero, suc, Bool, true, false, ◌&&◌, List, [], ◌∷◌, ◌++◌, length, Result, Ok, Err, refl, sym, subst, arith}
use Rattle.std.proofs.lemmas.Bool.{and_parts}
use Rattle.cr_base.specs.declared.refusal.Place.{Place}
use Rattle.cr_runs.specs.Owes.{AtEnd}
use Rattle.cr_runs.specs.Runs.{came, halted, bad, out, bind}
use Rattle.cr_world.specs.World.{World, blocks_of, with_memory}
use Rattle.cx_core.specs.Trees.{CTy, CExpr, expr, CForm, whole, null, object, code, load, deref, member, address, convert, unary, binary, and, or, cond, assign, assign_by, step, call, call_by, comma, literal, CExprs, no_exprs, more_exprs, CPut, put, CPuts, no_puts, more_puts, place_of, type_of}
use Rattle.cx_core.specs.Typing.{CHome, IsTyped, IsLvalue, AreTyped, ArePuts}
use Rattle.cx_mean.proofs.KeptNodes.{IfGiven}
use Rattle.cx_mean.specs.Accesses.{CStored}
use Rattle.cx_mean.specs.Calls.{CCallee, defined, external, CCalling, node_calling, returns_value, ends_with, COutcome, external_call}
use Rattle.cx_mean.specs.Initialisers.{put_stored}
use Rattle.cx_mean.specs.Leftmost.{CRan, CPiece, CCalls, c_done, c_updates, c_returned, c_callee, c_call, c_tested, c_carried, c_and, c_or, c_part, c_value, c_form, c_values, c_fill}
use Rattle.cx_mean.specs.Marks.{Marks, at_sequence_point}
use Rattle.mem_bytes.specs.Access.{and_then}
use Rattle.cx_mean.specs.Nodes.{truth, chosen_and, chosen_or, CDone, node_done, CUpdating, node_updating, update_computed, update_converted, update_stored, truth_of_value, tested, literal_cleared, marks_after_put}
use Rattle.cx_mean.specs.Operands.{CWhy, CValue, COperand, Frame}
use Rattle.cx_mean.specs.Quiet.{calls_nothing, form_calls_nothing, puts_call_nothing}
use Rattle.cx_mean.specs.Settings.{CSetting, setting_of}
use Rattle.cx_mean.specs.State.{values_of_args}
use Rattle.cx_mean.specs.Steps.{did, at_node, did_done, did_clear, outcome_of, tests_step, after_choice, finished_with}
use Rattle.cx_mean.specs.Work.{was_loaded, was_computed, was_converted, finished, updates, fills, after_marks, filled}
use Rattle.cx_mean_lives.proofs.ValueLives.{end_bind, end_step, end_tick, Anything, given_anything}
use Rattle.cx_mean_lives.proofs.StoreSizes.{StoreSizes, put_stored_sizes}
use Rattle.cx_mean_lives.proofs.ValueLives.{DoneSizes, node_sizes, update_sizes, literal_sizes}
use Rattle.cx_typed_runs.proofs.CallsOutside.{LeavesHeld, outside_held}
use Rattle.cx_typed_runs.proofs.Owned.{owned_back}
use Rattle.cx_typed_work.proofs.Begun.{begun_typed}
use Rattle.cx_typed_work.proofs.Choices.{IsPartOf, part_carried, first_part_of, second_part_of, and_leaves, or_leaves, tests_leave}
use Rattle.cx_typed_work.proofs.ExternalCalls.{external_calls_give_typed}
use Rattle.cx_typed_work.proofs.Stepping.{steps_keep_typed}
use Rattle.cx_typed_work.proofs.Trees.{comma_part}
use Rattle.cx_typed_work.specs.ExternalCalls.{KeepsObjects, CallLeaves}
use Rattle.cx_typed_work.specs.Operands.{IsOperandOf}
use Rattle.cx_typed_work.specs.Scenes.{IsTypedMemory, AreSameShapes}
use Rattle.cx_typed_work.specs.Steps.{StepLeaves}
use Rattle.cx_typed_work.proofs.Puts.{AreLeft}
use Rattle.cx_typed_work.specs.Works.{IsFilling, IsUpdateOf, IsTypedNode}
use Rattle.mem_bytes.specs.declared.value.Value.{Value}
use Rattle.mem_bytes.specs.Memory.{Blocks, live_block}
use Rattle.cx_typed_leftmost.proofs.Steps.{AreOperandsOf, needs_typed, needs_asks, IsDoneAs, done_leaves, updating_leaves, stage_leaves, IsCallAs, call_leaves}
use Rattle.cx_typed_leftmost.proofs.Worlds.{shape_then, shapes_same, shapes_then, typed_stepped, typed_kept, keeps_then}
use Rattle.cx_typed_leftmost.specs.Laws.{IsTypedAt, CallIsTyped, CallsAreTyped, IsTypedEnd, LeftmostStaysTyped}

-- what comes behind a piece of which two things are known
pub end_and : {A : Type 0} (P Q : A → World → Type 0) (piece : CRan A) → AtEnd P piece → AtEnd Q piece → AtEnd (λ a w. P a w × Q a w) piece
end_and P Q (came value world left) one other = (one, other)
end_and P Q (halted status world) one other = tt
end_and P Q (bad fault world) one other = tt
end_and P Q (out world) one other = tt

pub end_as : {A : Type 0} (P Q : A → World → Type 0) (piece : CRan A) → AtEnd P piece → ((a : A) (w : World) → P a w → Q a w) → AtEnd Q piece
end_as P Q (came value world left) one all = all value world one
end_as P Q (halted status world) one all = tt
end_as P Q (bad fault world) one all = tt
end_as P Q (out world) one all = tt

left_part : (one other : Bool) → (one && other) ≡ true → one ≡ true
left_part one other both = (and_parts one other both).0

right_part : (one other : Bool) → (one && other) ≡ true → other ≡ true
right_part one other both = (and_parts one other both).1

-- between two worlds of one evaluation
record Passes (home : CHome) (frame : Frame) (quiet : Type 0) (before after : World) : Type 0 where
  at : IsTypedAt home frame after
  keeps : KeepsObjects before.held after.held
  shapes : quiet → AreSameShapes (blocks_of before) (blocks_of after)

passes_none : (home : CHome) (frame : Frame) (quiet : Type 0) (world : World) → IsTypedAt home frame world → Passes home frame quiet world world
passes_none home frame quiet world at = record {
  at = at;
  keeps = record { grows = omega arith; lives = λ number within unlisted. (shapes_same (blocks_of world)).each number; not_allocated = λ number within unlisted. unlisted };
  shapes = λ _. shapes_same (blocks_of world);
}

passes_then : (home : CHome) (frame : Frame) (entire first second : Type 0) (one two three : World) → (entire → first) → (entire → second) → Passes home frame first one two → Passes home frame second two three →
    Passes home frame entire one three
passes_then home frame entire first second one two three q r a b = record {
  at = b.at;
  keeps = keeps_then one.held two.held three.held a.keeps b.keeps;
  shapes = λ w. shapes_then (blocks_of one) (blocks_of two) (blocks_of three) (a.shapes (q w)) (b.shapes (r w));
}

passes_step : (home : CHome) (frame : Frame) (quiet : Type 0) (before now : World) (after : Blocks) → length (blocks_of now) ≡ length after → Passes home frame quiet before now → AreSameShapes (blocks_of now) after → IsTypedMemory home.program after →
    Passes home frame quiet before (with_memory after now)
passes_step home frame quiet before now after many passed shapes memory = record {
  at = typed_stepped home frame now after shapes memory passed.at;
  keeps = record {
    grows = omega (arith, passed.keeps.grows, many);
    lives = λ number within unlisted. shape_then (live_block (blocks_of before) number) (live_block (blocks_of now) number) (live_block after number) (passed.keeps.lives number within unlisted) (shapes.each number);
    not_allocated = passed.keeps.not_allocated;
  };
  shapes = λ w. shapes_then (blocks_of before) (blocks_of now) after (passed.shapes w) shapes;
}

module _ (home : CHome) (calls : CCalls) (c_frame statics : Frame) (calls_typed : CallsAreTyped home.program statics calls) where
  abbrev setting : CSetting
  setting = setting_of home.program

  abbrev frame : Frame
  frame = c_frame ++ statics

  abbrev Quiet : CExpr → Type 0
  Quiet e = calls_nothing e ≡ true

  abbrev Ended : (quiet : Type 0) → CExpr → World → COperand → World → Type 0
  Ended quiet node before operand after = IsOperandOf home node operand × Passes home frame quiet before after

  -- ---- steps

  -- the step that finishes a node
  done_ends : (quiet : Type 0) (node : CExpr) (before now : World) (type : CTy) (place : Place) (outcome : Result CDone CWhy) (steps : ℕ) → Passes home frame quiet before now → IfGiven (DoneSizes (blocks_of now)) outcome →
      IfGiven (IsDoneAs home node type (blocks_of now)) outcome → AtEnd (Ended quiet node before) (c_done place type now outcome steps)
  done_ends quiet node before now type place outcome zero was sizes is = tt
  done_ends quiet node before now type place (Ok one) (suc left) was sizes is = (is.operand_is, passes_step home frame quiet before now one.blocks (sym sizes.many) was is.shapes is.memory)
  done_ends quiet node before now type place (Err why) (suc left) was sizes is = tt

  one_ends : (node part : CExpr) (type : CTy) (place : Place) (form : CForm) (world : World) (steps : ℕ) →
      ((world : World) (steps : ℕ) → IsTypedAt home frame world → AtEnd (Ended (Quiet part) part world) (c_value setting calls frame part world steps)) → IsTypedAt home frame world →
      ((now : World) (one : COperand) → IsTypedAt home frame now → IsOperandOf home part one → StepLeaves home node (blocks_of now) (at_node place (outcome_of (did_done type) (node_done setting type form frame (blocks_of now) (one ∷ []))))) →
      AtEnd (Ended (Quiet part) node world) (bind (c_value setting calls frame part world steps) (λ one now. c_done place type now (node_done setting type form frame (blocks_of now) (one ∷ []))))
  one_ends node part type place form world steps is at all =
      end_bind (Ended (Quiet part) part world) (Ended (Quiet part) node world) (c_value setting calls frame part world steps) _ (is world steps at) (λ one now left was.
      done_ends (Quiet part) node world now type place (node_done setting type form frame (blocks_of now) (one ∷ [])) left was.1 (node_sizes setting type form frame (blocks_of now) (one ∷ []))
      (done_leaves home node type place (blocks_of now) (node_done setting type form frame (blocks_of now) (one ∷ [])) (all now one was.1.at was.0)))

  abbrev QuietBoth : CExpr → CExpr → Type 0
  QuietBoth first second = (calls_nothing first && calls_nothing second) ≡ true

  two_end : {A : Type 0} (Q : A → World → Type 0) (first second : CExpr) (world : World) (steps : ℕ) (go : COperand → COperand → CPiece A) →
      ((world : World) (steps : ℕ) → IsTypedAt home frame world → AtEnd (Ended (Quiet first) first world) (c_value setting calls frame first world steps)) →
      ((world : World) (steps : ℕ) → IsTypedAt home frame world → AtEnd (Ended (Quiet second) second world) (c_value setting calls frame second world steps)) → IsTypedAt home frame world →
      ((one other : COperand) (now : World) (left : ℕ) → IsOperandOf home first one → IsOperandOf home second other → Passes home frame (QuietBoth first second) world now → AtEnd Q (go one other now left)) →
      AtEnd Q (bind (c_value setting calls frame first world steps) (λ one now more. bind (c_value setting calls frame second now more) (go one)))
  two_end Q first second world steps go is too at all =
      end_bind (Ended (Quiet first) first world) Q (c_value setting calls frame first world steps) _ (is world steps at) (λ one now more was.
      end_bind (Ended (Quiet second) second now) Q (c_value setting calls frame second now more) (go one) (too now more was.1.at) (λ other later left later_was.
      all one other later left was.0 later_was.0
      (passes_then home frame (QuietBoth first second) (Quiet first) (Quiet second) world now later (left_part (calls_nothing first) (calls_nothing second)) (right_part (calls_nothing first) (calls_nothing second)) was.1 later_was.1)))

  -- `op=`, `++` and `--`
  updates_end : (quiet : Type 0) (type : CTy) (place : Place) (form : CForm) (before now : World) (outcome : Result CUpdating CWhy) (steps : ℕ) → IsTypedNode home (expr type place form) → Passes home frame quiet before now →
      IfGiven (λ (one : CUpdating). IsUpdateOf home (expr type place form) one.update was_loaded) outcome → AtEnd (Ended quiet (expr type place form) before) (c_updates setting frame place type now outcome steps)
  updates_end quiet type place form before now outcome steps typed was is =
      let node = expr type place form in
      end_step (λ (one : CUpdating). IsUpdateOf home node one.update was_loaded) (Ended quiet node before) place outcome _ now steps is (λ one left first.
      end_step (λ (new : Value). IsUpdateOf home node one.update (was_computed new)) (Ended quiet node before) place (update_computed setting (blocks_of now) one.update) _ now left
      (stage_leaves home node place (blocks_of now) one.update was_computed (λ stage. updates node one.update stage one.marks) (update_computed setting (blocks_of now) one.update) (λ stage at. at.1)
      (steps_keep_typed home node frame (blocks_of now) (updates node one.update was_loaded one.marks) 0 was.at.scene (record { typed = typed; left = (refl, first) }) (omega arith))) (λ new more second.
      end_step (λ (value : Value). IsUpdateOf home node one.update (was_converted value)) (Ended quiet node before) place (update_converted setting (blocks_of now) one.update new) _ now more
      (stage_leaves home node place (blocks_of now) one.update was_converted (λ stage. updates node one.update stage one.marks) (update_converted setting (blocks_of now) one.update new) (λ stage at. at.1)
      (steps_keep_typed home node frame (blocks_of now) (updates node one.update (was_computed new) one.marks) 0 was.at.scene (record { typed = typed; left = (refl, second) }) (omega arith))) (λ value rest third.
      done_ends quiet node before now type place (update_stored setting frame (blocks_of now) one.update one.marks value) rest was
      (update_sizes setting frame (blocks_of now) one.update one.marks value)
      (done_leaves home node type place (blocks_of now) (update_stored setting frame (blocks_of now) one.update one.marks value)
      (steps_keep_typed home node frame (blocks_of now) (updates node one.update (was_converted value) one.marks) 0 was.at.scene (record { typed = typed; left = (refl, third) }) (omega arith))))))

  -- ---- choices

  abbrev WhereFalse : Bool → Type 0 → Type 0
  WhereFalse true T = Unit {0}
  WhereFalse false T = T

  abbrev WhereTrue : Bool → Type 0 → Type 0
  WhereTrue true T = T
  WhereTrue false T = Unit {0}

  abbrev Decided : CExpr → CTy → Bool → Marks → Type 0
  Decided node type holds marks = IsOperandOf home node (record { type = type; value = truth holds; marks = marks })

  and_decided : (node second : CExpr) (place : Place) (type : CTy) (blocks : Blocks) (marks : Marks) (outcome : Result Bool CWhy) →
      StepLeaves home node blocks (at_node place (outcome_of (after_choice node type blocks marks) (and_then outcome (λ holds. Ok (chosen_and second holds))))) → IfGiven (λ holds. WhereFalse holds (Decided node type false marks)) outcome
  and_decided node second place type blocks marks (Ok true) leaves = tt
  and_decided node second place type blocks marks (Ok false) leaves = leaves.0.left
  and_decided node second place type blocks marks (Err why) leaves = tt

  or_decided : (node second : CExpr) (place : Place) (type : CTy) (blocks : Blocks) (marks : Marks) (outcome : Result Bool CWhy) →
      StepLeaves home node blocks (at_node place (outcome_of (after_choice node type blocks marks) (and_then outcome (λ holds. Ok (chosen_or second holds))))) → IfGiven (λ holds. WhereTrue holds (Decided node type true marks)) outcome
  or_decided node second place type blocks marks (Ok true) leaves = leaves.0.left
  or_decided node second place type blocks marks (Ok false) leaves = tt
  or_decided node second place type blocks marks (Err why) leaves = tt

  test_decided : (node : CExpr) (place : Place) (type : CTy) (blocks : Blocks) (marks : Marks) (outcome : Result CValue CWhy) →
      StepLeaves home node blocks (at_node place (outcome_of (λ value. did (finished_with type value marks) blocks) outcome)) →
      IfGiven (λ value. IsOperandOf home node (record { type = type; value = value; marks = marks })) outcome
  test_decided node place type blocks marks (Ok value) leaves = leaves.0.left
  test_decided node place type blocks marks (Err why) leaves = tt

  abbrev Evaluates : CExpr → Type 0
  Evaluates e = (world : World) (steps : ℕ) → IsTypedAt home frame world → AtEnd (Ended (Quiet e) e world) (c_value setting calls frame e world steps)

  -- the second operand of `&&` or `||`, and its test
  tested_end : (first second : CExpr) (type : CTy) (place : Place) (form : CForm) (before now : World) (marks : Marks) (left : ℕ) → Evaluates second → Passes home frame (Quiet first) before now →
      ((later : World) (other : COperand) → IsTypedAt home frame later → IsOperandOf home second other → StepLeaves home (expr type place form) (blocks_of later) (tests_step (blocks_of later) (expr type place form) marks other)) →
      AtEnd (Ended (QuietBoth first second) (expr type place form) before) (c_tested place type marks (λ after more. c_value setting calls frame second after more) now left)
  tested_end first second type place form before now marks left is was leaves =
      end_bind (Ended (Quiet second) second now) (Ended (QuietBoth first second) (expr type place form) before) (c_value setting calls frame second now left) _ (is now left was.at) (λ other later more later_was.
      end_step (λ (value : CValue). IsOperandOf home (expr type place form) (record { type = type; value = value; marks = (after_marks marks other).marks })) (Ended (QuietBoth first second) (expr type place form) before) place (tested (blocks_of later) other.value) _ later more
      (test_decided (expr type place form) place type (blocks_of later) (after_marks marks other).marks (tested (blocks_of later) other.value) (leaves later other later_was.1.at later_was.0)) (λ value rest is_value. (
        is_value,
        passes_then home frame (QuietBoth first second) (Quiet first) (Quiet second) before now later (left_part (calls_nothing first) (calls_nothing second)) (right_part (calls_nothing first) (calls_nothing second)) was later_was.1,
      )))

  -- the chosen part of `?:` or of a comma
  carried_end : (node part : CExpr) (entire first : Type 0) (before now : World) (marks : Marks) (left : ℕ) → IsTyped home node → IsPartOf home node part → Evaluates part → (entire → first) → (entire → Quiet part) →
      Passes home frame first before now → AtEnd (Ended entire node before) (c_carried marks (λ after more. c_value setting calls frame part after more) now left)
  carried_end node part entire first before now marks left typed is_part is q r was =
      end_bind (Ended (Quiet part) part now) (Ended entire node before) (c_value setting calls frame part now left) _ (is now left was.at) (λ other later more later_was.
      (part_carried home node part marks (finished other) typed is_part later_was.0, passes_then home frame entire first (Quiet part) before now later q r was later_was.1))

  -- ---- calls

  returned_end : (quiet : Type 0) (node : CExpr) (before now : World) (one : CCalling) (left : ℕ) (outcome : COutcome) → Passes home frame quiet before now → (quiet → ⊥) → IsCallAs home node one →
      CallLeaves home.program one.called.type now.held outcome → LeavesHeld now outcome → AtEnd (Ended quiet node before) (c_returned (type_of node) one.marks now left outcome)
  returned_end quiet node before now one left (Ok (returns_value value after)) was loud is leaves allocated = (
    is.resumes value leaves.0,
    record {
      at = typed_kept home frame now after leaves.2 leaves.1 allocated was.at;
      keeps = keeps_then before.held now.held after.held was.keeps leaves.2;
      shapes = λ q. absurd (loud q);
    },
  )
  returned_end quiet node before now one left (Ok (ends_with status after)) was loud is leaves allocated = tt
  returned_end quiet node before now one left (Err stop) was loud is leaves allocated = tt

  callee_end : (quiet : Type 0) (node : CExpr) (before now : World) (one : CCalling) (callee : CCallee) (left : ℕ) → one.called.callee ≡ callee → Passes home frame quiet before now → (quiet → ⊥) → IsCallAs home node one →
      AtEnd (Ended quiet node before) (c_callee setting calls (type_of node) one callee now left)
  callee_end quiet node before now one (defined callee) left same was loud is =
      end_bind (CallIsTyped home.program one.called now) (Ended quiet node before) (calls callee (values_of_args one.called.args) now left) _
      (calls_typed one.called callee now left is.typed same was.at.scene.memory was.at.allocated (owned_back home.program now.held c_frame statics was.at.owned)) (λ value after rest given. (
        is.resumes value given.returned,
        record {
          at = typed_kept home frame now after given.keeps given.memory given.allocated was.at;
          keeps = keeps_then before.held now.held after.held was.keeps given.keeps;
          shapes = λ q. absurd (loud q);
        },
      ))
  callee_end quiet node before now one (external callee) left same was loud is =
      returned_end quiet node before now one left (external_call setting one.called callee now) was loud is (external_calls_give_typed home.program one.called callee now is.typed same was.at.scene.memory)
      (outside_held setting one.called callee now was.at.allocated)

  call_end : (quiet : Type 0) (type : CTy) (place : Place) (form : CForm) (before now : World) (outcome : Result CCalling CWhy) (steps : ℕ) → Passes home frame quiet before now → (quiet → ⊥) →
      IfGiven (IsCallAs home (expr type place form)) outcome → AtEnd (Ended quiet (expr type place form) before) (c_call setting calls place type now outcome steps)
  call_end quiet type place form before now outcome steps was loud is =
      end_step (IsCallAs home (expr type place form)) (Ended quiet (expr type place form) before) place outcome _ now steps is (λ one left is_call.
      callee_end quiet (expr type place form) before now one one.called.callee left refl was loud is_call)

  -- ---- compound literals

  put_done : (node : CExpr) (place : Place) (blocks : Blocks) (number : ℕ) (others : CPuts) (marks : Marks) (outcome : Result CStored CWhy) →
      StepLeaves home node blocks (at_node place (and_then outcome (λ one. Ok (did (filled node number (marks_after_put marks one.marks) others) one.blocks)))) →
      IfGiven (λ (one : CStored). AreSameShapes blocks one.blocks × IsTypedMemory home.program one.blocks) outcome
  put_done node place blocks number others marks (Ok one) leaves = (leaves.1, leaves.2)
  put_done node place blocks number others marks (Err why) leaves = tt

  both_given : {A : Type 0} (P Q : A → Type 0) (outcome : Result A CWhy) → IfGiven P outcome → IfGiven Q outcome → IfGiven (λ a. P a × Q a) outcome
  both_given P Q (Ok a) one other = (one, other)
  both_given P Q (Err why) one other = tt

  -- the puts that are left are the last ones of a literal
  rest_goes : (type : CTy) (place : Place) (number : ℕ) (all : CPuts) (one : CPut) (others : CPuts) → IsFilling (expr type place (literal number all)) one others → AreLeft (expr type place (literal number all)) others
  rest_goes type place number no_puts one others is = absurd is
  rest_goes type place number (more_puts first rest) one no_puts is = tt
  rest_goes type place number (more_puts first rest) one (more_puts next more) (inl is) = inr (subst (λ puts. IsFilling (expr type place (literal number puts)) next more) (sym is.1) (inl (refl, refl)))
  rest_goes type place number (more_puts first rest) one (more_puts next more) (inr is) = inr (rest_goes type place number rest one (more_puts next more) is)

  first_rest : (type : CTy) (place : Place) (number : ℕ) (all : CPuts) → AreLeft (expr type place (literal number all)) all
  first_rest type place number no_puts = tt
  first_rest type place number (more_puts one others) = inl (refl, refl)

  no_quiet : (false ≡ true) → ⊥
  no_quiet same = cc (same)

  clear_done : (node : CExpr) (place : Place) (blocks : Blocks) (number : ℕ) (puts : CPuts) (outcome : Result CDone CWhy) → StepLeaves home node blocks (at_node place (outcome_of (did_clear node number puts) outcome)) →
      IfGiven (λ (one : CDone). AreSameShapes blocks one.blocks × IsTypedMemory home.program one.blocks) outcome
  clear_done node place blocks number puts (Ok one) leaves = (leaves.1, leaves.2)
  clear_done node place blocks number puts (Err why) leaves = tt

  abbrev AllEnded : CExprs → World → List COperand → World → Type 0
  AllEnded args before operands after = AreOperandsOf home args operands × Passes home frame (false ≡ true) before after

  and_ends : (type : CTy) (place : Place) (left right : CExpr) → IsTyped home (expr type place (and left right)) → (holds : Bool) (one : COperand) (now : World) (more : ℕ) (before : World) → Passes home frame (Quiet left) before now →
      WhereFalse holds (Decided (expr type place (and left right)) type false (at_sequence_point one.marks)) → Evaluates right →
      AtEnd (Ended (QuietBoth left right) (expr type place (and left right)) before) (c_and place type (at_sequence_point one.marks) (λ after rest. c_value setting calls frame right after rest) holds now more)
  and_ends type place left right typed true one now more before was is right_is =
      tested_end left right type place (and left right) before now (at_sequence_point one.marks) more right_is was (λ later other there given.
      tests_leave home (expr type place (and left right)) right (blocks_of later) (at_sequence_point one.marks) other there.scene.memory typed typed.1.2.type_is typed.1.1 typed.1.2.right_scalar given)
  and_ends type place left right typed false one now more before was is right_is =
      (is, record { at = was.at; keeps = was.keeps; shapes = λ q. was.shapes (left_part (calls_nothing left) (calls_nothing right) q) })

  or_ends : (type : CTy) (place : Place) (left right : CExpr) → IsTyped home (expr type place (or left right)) → (holds : Bool) (one : COperand) (now : World) (more : ℕ) (before : World) → Passes home frame (Quiet left) before now →
      WhereTrue holds (Decided (expr type place (or left right)) type true (at_sequence_point one.marks)) → Evaluates right →
      AtEnd (Ended (QuietBoth left right) (expr type place (or left right)) before) (c_or place type (at_sequence_point one.marks) (λ after rest. c_value setting calls frame right after rest) holds now more)
  or_ends type place left right typed false one now more before was is right_is =
      tested_end left right type place (or left right) before now (at_sequence_point one.marks) more right_is was (λ later other there given.
      tests_leave home (expr type place (or left right)) right (blocks_of later) (at_sequence_point one.marks) other there.scene.memory typed typed.1.2.type_is typed.1.1 typed.1.2.right_scalar given)
  or_ends type place left right typed true one now more before was is right_is =
      (is, record { at = was.at; keeps = was.keeps; shapes = λ q. was.shapes (left_part (calls_nothing left) (calls_nothing right) q) })

  part_ends : (type : CTy) (place : Place) (test first second : CExpr) → IsTyped home (expr type place (cond test first second)) → (holds : Bool) (one : COperand) (now : World) (more : ℕ) (before : World) → Passes home frame (Quiet test) before now →
      Evaluates first → Evaluates second →
      AtEnd (Ended (form_calls_nothing (cond test first second) ≡ true) (expr type place (cond test first second)) before)
      (c_part (at_sequence_point one.marks) (λ after rest. c_value setting calls frame first after rest) (λ after rest. c_value setting calls frame second after rest) holds now more)
  part_ends type place test first second typed true one now more before was is too =
      carried_end (expr type place (cond test first second)) first (form_calls_nothing (cond test first second) ≡ true) (Quiet test) before now (at_sequence_point one.marks) more typed (first_part_of home type place test first second typed) is
      (λ q. grind (arith, q)) (λ q. grind (arith, q)) was
  part_ends type place test first second typed false one now more before was is too =
      carried_end (expr type place (cond test first second)) second (form_calls_nothing (cond test first second) ≡ true) (Quiet test) before now (at_sequence_point one.marks) more typed (second_part_of home type place test first second typed) too
      (λ q. grind (arith, q)) (λ q. grind (arith, q)) was

  mutual
    value_ends : (e : CExpr) → IsTypedNode home e → Evaluates e
    value_ends (expr type place form) typed world steps at = form_ends type place form typed world steps at

    form_ends : (type : CTy) (place : Place) (form : CForm) → IsTypedNode home (expr type place form) → (world : World) (steps : ℕ) → IsTypedAt home frame world →
        AtEnd (Ended (form_calls_nothing form ≡ true) (expr type place form) world) (c_form setting calls frame type place form world steps)
    form_ends type place (whole value) typed world steps at = (begun_typed home (expr type place (whole value)) at.scene.whole typed, passes_none home frame _ world at)
    form_ends type place null typed world steps at = (begun_typed home (expr type place null) at.scene.whole typed, passes_none home frame _ world at)
    form_ends type place (object number) typed world steps at = (begun_typed home (expr type place (object number)) at.scene.whole typed, passes_none home frame _ world at)
    form_ends type place (code number) typed world steps at = (begun_typed home (expr type place (code number)) at.scene.whole typed, passes_none home frame _ world at)
    form_ends type place (load from) (inl typed) world steps at =
        one_ends (expr type place (load from)) from type place (load from) world steps (value_ends from (inr typed.1.0)) at (λ now one there is. needs_typed home frame (blocks_of now) (expr type place (load from)) (one ∷ []) there.scene (inl typed) (is, tt))
    form_ends type place (load from) (inr typed) world steps at = absurd typed.2
    form_ends type place (deref from) (inl typed) world steps at = absurd typed.1
    form_ends type place (deref from) (inr typed) world steps at =
        one_ends (expr type place (deref from)) from type place (deref from) world steps (value_ends from (inl typed.2.0)) at (λ now one there is. needs_typed home frame (blocks_of now) (expr type place (deref from)) (one ∷ []) there.scene (inr typed) (is, tt))
    form_ends type place (member of spot) (inl typed) world steps at =
        one_ends (expr type place (member of spot)) of type place (member of spot) world steps (value_ends of (inl typed.1.0)) at (λ now one there is. needs_typed home frame (blocks_of now) (expr type place (member of spot)) (one ∷ []) there.scene (inl typed) (is, tt))
    form_ends type place (member of spot) (inr typed) world steps at =
        one_ends (expr type place (member of spot)) of type place (member of spot) world steps (value_ends of (inr typed.2.0)) at (λ now one there is. needs_typed home frame (blocks_of now) (expr type place (member of spot)) (one ∷ []) there.scene (inr typed) (is, tt))
    form_ends type place (address of) (inl typed) world steps at =
        one_ends (expr type place (address of)) of type place (address of) world steps (value_ends of (inr typed.1.0)) at (λ now one there is. needs_typed home frame (blocks_of now) (expr type place (address of)) (one ∷ []) there.scene (inl typed) (is, tt))
    form_ends type place (address of) (inr typed) world steps at = absurd typed.2
    form_ends type place (convert value) (inl typed) world steps at =
        one_ends (expr type place (convert value)) value type place (convert value) world steps (value_ends value (inl typed.1.0)) at (λ now one there is. needs_typed home frame (blocks_of now) (expr type place (convert value)) (one ∷ []) there.scene (inl typed) (is, tt))
    form_ends type place (convert value) (inr typed) world steps at = absurd typed.2
    form_ends type place (unary op value) (inl typed) world steps at =
        one_ends (expr type place (unary op value)) value type place (unary op value) world steps (value_ends value (inl typed.1.0)) at (λ now one there is. needs_typed home frame (blocks_of now) (expr type place (unary op value)) (one ∷ []) there.scene (inl typed) (is, tt))
    form_ends type place (unary op value) (inr typed) world steps at = absurd typed.2
    form_ends type place (binary op left right) (inl typed) world steps at =
        let node = expr type place (binary op left right) in
        two_end (Ended (QuietBoth left right) node world) left right world steps _ (value_ends left (inl typed.1.0)) (value_ends right (inl typed.1.1)) at (λ one other now rest first second was.
        done_ends (QuietBoth left right) node world now type place (node_done setting type (binary op left right) frame (blocks_of now) (one ∷ other ∷ [])) rest was (node_sizes setting type (binary op left right) frame (blocks_of now) (one ∷ other ∷ []))
        (done_leaves home node type place (blocks_of now) (node_done setting type (binary op left right) frame (blocks_of now) (one ∷ other ∷ [])) (needs_typed home frame (blocks_of now) node (one ∷ other ∷ []) was.at.scene (inl typed) (first, (second, tt)))))
    form_ends type place (binary op left right) (inr typed) world steps at = absurd typed.2
    form_ends type place (assign target value) (inl typed) world steps at =
        let node = expr type place (assign target value) in
        two_end (Ended (QuietBoth target value) node world) target value world steps _ (value_ends target (inr typed.1.0)) (value_ends value (inl typed.1.1)) at (λ one other now rest first second was.
        done_ends (QuietBoth target value) node world now type place (node_done setting type (assign target value) frame (blocks_of now) (one ∷ other ∷ [])) rest was (node_sizes setting type (assign target value) frame (blocks_of now) (one ∷ other ∷ []))
        (done_leaves home node type place (blocks_of now) (node_done setting type (assign target value) frame (blocks_of now) (one ∷ other ∷ [])) (needs_typed home frame (blocks_of now) node (one ∷ other ∷ []) was.at.scene (inl typed) (first, (second, tt)))))
    form_ends type place (assign target value) (inr typed) world steps at = absurd typed.2
    form_ends type place (assign_by op computes target value) (inl typed) world steps at =
        let node = expr type place (assign_by op computes target value) in
        two_end (Ended (QuietBoth target value) node world) target value world steps _ (value_ends target (inr typed.1.0)) (value_ends value (inl typed.1.1)) at (λ one other now rest first second was.
        updates_end (QuietBoth target value) type place (assign_by op computes target value) world now (node_updating setting (assign_by op computes target value) frame (blocks_of now) (one ∷ other ∷ [])) rest (inl typed) was
        (updating_leaves home node place (blocks_of now) (node_updating setting (assign_by op computes target value) frame (blocks_of now) (one ∷ other ∷ [])) (needs_typed home frame (blocks_of now) node (one ∷ other ∷ []) was.at.scene (inl typed) (first, (second, tt)))))
    form_ends type place (assign_by op computes target value) (inr typed) world steps at = absurd typed.2
    form_ends type place (step up post on) (inl typed) world steps at =
        let node = expr type place (step up post on) in
        end_bind (Ended (Quiet on) on world) (Ended (Quiet on) node world) (c_value setting calls frame on world steps) _ (value_ends on (inr typed.1.0) world steps at) (λ one now rest was.
        updates_end (Quiet on) type place (step up post on) world now (node_updating setting (step up post on) frame (blocks_of now) (one ∷ [])) rest (inl typed) was.1
        (updating_leaves home node place (blocks_of now) (node_updating setting (step up post on) frame (blocks_of now) (one ∷ [])) (needs_typed home frame (blocks_of now) node (one ∷ []) was.1.at.scene (inl typed) (was.0, tt))))
    form_ends type place (step up post on) (inr typed) world steps at = absurd typed.2
    form_ends type place (and left right) (inl typed) world steps at =
        let node = expr type place (and left right) in
        end_bind (Ended (Quiet left) left world) (Ended (QuietBoth left right) node world) (c_value setting calls frame left world steps) _ (value_ends left (inl typed.1.0) world steps at) (λ one now rest was.
        end_step (λ (holds : Bool). WhereFalse holds (Decided node type false (at_sequence_point one.marks))) (Ended (QuietBoth left right) node world) place (truth_of_value (blocks_of now) one.value) _ now rest
        (and_decided node right place type (blocks_of now) (at_sequence_point one.marks) (truth_of_value (blocks_of now) one.value) (and_leaves home type place left right (blocks_of now) one at.scene.whole was.1.at.scene.memory typed was.0))
        (λ holds more is. and_ends type place left right typed holds one now more world was.1 is (value_ends right (inl typed.1.1))))
    form_ends type place (and left right) (inr typed) world steps at = absurd typed.2
    form_ends type place (or left right) (inl typed) world steps at =
        let node = expr type place (or left right) in
        end_bind (Ended (Quiet left) left world) (Ended (QuietBoth left right) node world) (c_value setting calls frame left world steps) _ (value_ends left (inl typed.1.0) world steps at) (λ one now rest was.
        end_step (λ (holds : Bool). WhereTrue holds (Decided node type true (at_sequence_point one.marks))) (Ended (QuietBoth left right) node world) place (truth_of_value (blocks_of now) one.value) _ now rest
        (or_decided node right place type (blocks_of now) (at_sequence_point one.marks) (truth_of_value (blocks_of now) one.value) (or_leaves home type place left right (blocks_of now) one at.scene.whole was.1.at.scene.memory typed was.0))
        (λ holds more is. or_ends type place left right typed holds one now more world was.1 is (value_ends right (inl typed.1.1))))
    form_ends type place (or left right) (inr typed) world steps at = absurd typed.2
    form_ends type place (cond test first second) (inl typed) world steps at =
        let node = expr type place (cond test first second) in
        end_bind (Ended (Quiet test) test world) (Ended (form_calls_nothing (cond test first second) ≡ true) node world) (c_value setting calls frame test world steps) _ (value_ends test (inl typed.1.0) world steps at) (λ one now rest was.
        end_step Anything (Ended (form_calls_nothing (cond test first second) ≡ true) node world) place (truth_of_value (blocks_of now) one.value) _ now rest (given_anything (truth_of_value (blocks_of now) one.value))
        (λ holds more is. part_ends type place test first second typed holds one now more world was.1 (value_ends first (inl typed.1.1)) (value_ends second (inl typed.1.2))))
    form_ends type place (cond test first second) (inr typed) world steps at = absurd typed.2
    form_ends type place (comma first second) (inl typed) world steps at =
        let node = expr type place (comma first second) in
        end_bind (Ended (Quiet first) first world) (Ended (QuietBoth first second) node world) (c_value setting calls frame first world steps) _ (value_ends first (inl typed.1.0) world steps at) (λ one now rest was.
        end_tick (Ended (QuietBoth first second) node world) now _ rest (λ more.
        carried_end node second (QuietBoth first second) (Quiet first) world now (at_sequence_point one.marks) more typed (comma_part home type place first second typed) (value_ends second (inl typed.1.1))
        (left_part (calls_nothing first) (calls_nothing second)) (right_part (calls_nothing first) (calls_nothing second)) was.1))
    form_ends type place (comma first second) (inr typed) world steps at = absurd typed.2
    form_ends type place (call number args) (inl typed) world steps at =
        let node = expr type place (call number args) in
        end_bind (AllEnded args world) (Ended (false ≡ true) node world) (c_values setting calls frame args world steps) _ (values_end args typed.1.0 world steps at) (λ operands now rest was.
        call_end (false ≡ true) type place (call number args) world now (node_calling setting type place (call number args) operands) rest was.1 no_quiet
        (call_leaves home node place (blocks_of now) (node_calling setting type place (call number args) operands) (needs_typed home frame (blocks_of now) node operands was.1.at.scene (inl typed) was.0) (needs_asks home frame (blocks_of now) node operands)))
    form_ends type place (call number args) (inr typed) world steps at = absurd typed.2
    form_ends type place (call_by callee args) (inl typed) world steps at =
        let node = expr type place (call_by callee args) in
        end_bind (Ended (Quiet callee) callee world) (Ended (false ≡ true) node world) (c_value setting calls frame callee world steps) _ (value_ends callee (inl typed.1.0) world steps at) (λ one now rest was.
        end_bind (AllEnded args now) (Ended (false ≡ true) node world) (c_values setting calls frame args now rest) _ (values_end args typed.1.1 now rest was.1.at) (λ operands later more later_was.
        call_end (false ≡ true) type place (call_by callee args) world later (node_calling setting type place (call_by callee args) (one ∷ operands)) more
        (passes_then home frame (false ≡ true) (Quiet callee) (false ≡ true) world now later (λ q. absurd (no_quiet q)) (λ q. q) was.1 later_was.1) no_quiet
        (call_leaves home node place (blocks_of later) (node_calling setting type place (call_by callee args) (one ∷ operands)) (needs_typed home frame (blocks_of later) node (one ∷ operands) later_was.1.at.scene (inl typed) (was.0, later_was.0))
        (needs_asks home frame (blocks_of later) node (one ∷ operands)))))
    form_ends type place (call_by callee args) (inr typed) world steps at = absurd typed.2
    form_ends type place (literal number puts) (inl typed) world steps at = absurd typed.1
    form_ends type place (literal number puts) (inr typed) world steps at =
        let node = expr type place (literal number puts) in
        end_step (λ (one : CDone). (AreSameShapes (blocks_of world) one.blocks × IsTypedMemory home.program one.blocks) × DoneSizes (blocks_of world) one) (Ended (puts_call_nothing puts ≡ true) node world) place (literal_cleared setting frame (blocks_of world) number puts) _ world steps
        (both_given _ _ (literal_cleared setting frame (blocks_of world) number puts) (clear_done node place (blocks_of world) number puts (literal_cleared setting frame (blocks_of world) number puts) (needs_typed home frame (blocks_of world) node [] at.scene (inr typed) tt))
        (literal_sizes setting frame (blocks_of world) number puts)) (λ one rest is.
        fill_ends type place number puts typed puts (first_rest type place number puts) typed.2.1 world (with_memory one.blocks world) one.marks rest (puts_call_nothing puts) (λ q. q)
        (passes_step home frame (puts_call_nothing puts ≡ true) world world one.blocks (sym is.1.many) (passes_none home frame _ world at) is.0.0 is.0.1))

    values_end : (args : CExprs) → AreTyped home args → (world : World) (steps : ℕ) → IsTypedAt home frame world → AtEnd (AllEnded args world) (c_values setting calls frame args world steps)
    values_end no_exprs typed world steps at = (tt, passes_none home frame _ world at)
    values_end (more_exprs first others) typed world steps at =
        end_bind (Ended (Quiet first) first world) (AllEnded (more_exprs first others) world) (c_value setting calls frame first world steps) _ (value_ends first (inl typed.0) world steps at) (λ one now rest was.
        end_bind (AllEnded others now) (AllEnded (more_exprs first others) world) (c_values setting calls frame others now rest) _ (values_end others typed.1 now rest was.1.at) (λ more later left later_was.
        ((was.0, later_was.0), passes_then home frame (false ≡ true) (Quiet first) (false ≡ true) world now later (λ q. absurd (no_quiet q)) (λ q. q) was.1 later_was.1)))

    fill_ends : (type : CTy) (place : Place) (number : ℕ) (entire : CPuts) → IsLvalue home (expr type place (literal number entire)) → (puts : CPuts) → AreLeft (expr type place (literal number entire)) puts → ArePuts home type puts → (before now : World) (marks : Marks) (steps : ℕ)
        (quiet : Bool) → (quiet ≡ true → puts_call_nothing puts ≡ true) → Passes home frame (quiet ≡ true) before now →
        AtEnd (Ended (quiet ≡ true) (expr type place (literal number entire)) before) (c_fill setting calls frame type number puts marks now steps)
    fill_ends type place number entire typed no_puts rest are before now marks steps quiet q was = (record { type_is = refl; given = inl (typed, refl) }, was)
    fill_ends type place number entire typed (more_puts (put spot part value) others) rest are before now marks steps quiet q was =
        let node = expr type place (literal number entire) in
        end_bind (Ended (Quiet value) value now) (Ended (quiet ≡ true) node before) (c_value setting calls frame value now steps) _ (value_ends value (inl are.0.0) now steps was.at) (λ operand later left later_was.
        let then_was = passes_then home frame (quiet ≡ true) (quiet ≡ true) (Quiet value) before now later (λ one. one) (λ one. left_part (calls_nothing value) (puts_call_nothing others) (q one)) was later_was.1 in
        end_step (λ (one : CStored). (AreSameShapes (blocks_of later) one.blocks × IsTypedMemory home.program one.blocks) × StoreSizes (blocks_of later) one) (Ended (quiet ≡ true) node before) (place_of value) (put_stored setting frame (blocks_of later) number spot part operand) _ later left
        (both_given _ _ (put_stored setting frame (blocks_of later) number spot part operand)
        (put_done node (place_of value) (blocks_of later) number others marks (put_stored setting frame (blocks_of later) number spot part operand)
        (steps_keep_typed home node frame (blocks_of later) (fills node marks (put spot part value) others (finished operand)) 0 then_was.at.scene (record { typed = inr typed; left = (refl, rest, later_was.0) }) (omega arith)))
        (put_stored_sizes setting frame (blocks_of later) number spot part operand)) (λ one more is.
        fill_ends type place number entire typed others (rest_goes type place number entire (put spot part value) others rest) are.1 before (with_memory one.blocks later) (marks_after_put marks one.marks) more quiet
        (λ one_q. right_part (calls_nothing value) (puts_call_nothing others) (q one_q)) (passes_step home frame (quiet ≡ true) before later one.blocks (sym is.1.many) then_was is.0.0 is.0.1)))

  leftmost_stays : (e : CExpr) (world : World) (steps : ℕ) → IsTypedNode home e → IsTypedAt home frame world → AtEnd (IsTypedEnd home frame e world) (c_value setting calls frame e world steps)
  leftmost_stays e world steps typed at =
      end_as (Ended (Quiet e) e world) (IsTypedEnd home frame e world) (c_value setting calls frame e world steps) (value_ends e typed world steps at)
      (λ operand after is. record { operand_is = is.0; at = is.1.at; keeps = is.1.keeps; shapes = is.1.shapes })

pub leftmost_stays_typed : LeftmostStaysTyped
leftmost_stays_typed home calls frame statics e world steps calls_typed typed at = leftmost_stays home calls frame statics calls_typed e world steps typed at
