-- What is kept of a world from step to step is kept by an expression: where it calls nothing, or where what is called keeps it.
use Rattle.std.proofs.Common.{◌≡◌, ◌⊎◌, inl, inr, ℕ, zero, suc, ◌≤◌, Bool, true, false, ◌&&◌, List, [], ◌∷◌, length, Some, Result, Ok, Err, subst, arith}
use Rattle.std.proofs.lemmas.Bool.{and_parts}
use Rattle.cr_base.specs.declared.refusal.Place.{Place}
use Rattle.cr_runs.specs.Owes.{AtEnd}
use Rattle.cr_runs.specs.Runs.{came, halted, bad, out, bind, tick}
use Rattle.cr_world.specs.World.{World, blocks_of, with_memory}
use Rattle.cx_core.specs.Trees.{CTy, CExpr, expr, CForm, whole, null, object, code, load, deref, member, address, convert, unary, binary, and, or, cond, assign, assign_by, step, call, call_by, comma, literal, CExprs, no_exprs, more_exprs, put, CPuts, no_puts, more_puts, place_of, CFun, COuter}
use Rattle.cx_mean.proofs.KeptNodes.{IfGiven, given_and, given_then}
use Rattle.cx_mean.specs.Accesses.{CLoaded}
use Rattle.cx_mean.specs.Calls.{CCallee, defined, external, CCalled, CCalling, node_calling, returns_value, ends_with, COutcome, external_call}
use Rattle.cx_mean.specs.Initialisers.{object_cleared, put_stored}
use Rattle.cx_mean.specs.Leftmost.{CRan, CPiece, CCalls, or_bad, c_done, c_updates, c_returned, c_callee, c_call, c_truth, c_tested, c_carried, c_and, c_or, c_part, c_value, c_form, c_values, c_fill}
use Rattle.cx_mean.specs.Marks.{Marks, at_sequence_point}
use Rattle.cx_mean.specs.Nodes.{CDone, gives_value, done_by_load, unary_done, binary_done, done_by_count, node_done, CUpdating, node_updating, update_computed, update_converted, update_stored, truth_of_value, tested, literal_cleared, marks_after_put}
use Rattle.cx_mean.specs.Operands.{CWhy, CValue, scalar, COperand, Frame, united_operands}
use Rattle.cx_mean.specs.Quiet.{calls_nothing, form_calls_nothing, puts_call_nothing}
use Rattle.cx_mean.specs.Settings.{CSetting}
use Rattle.cx_mean.specs.State.{values_of_args}
use Rattle.cx_mean.specs.Work.{CUpdate}
use Rattle.mem_bytes.specs.declared.value.Value.{Value}
use Rattle.mem_bytes.specs.Memory.{Blocks}
use Rattle.cx_mean_lives.proofs.CallLives.{OutcomeLives, outside_lives}
use Rattle.cx_mean_lives.proofs.HeldLives.{lives_same, lives_then, lives_below, lives_sized}
use Rattle.cx_mean_lives.proofs.Sizes.{sizes_same, sizes_then}
use Rattle.cx_mean_lives.proofs.StoreSizes.{StoreSizes, store_sizes, put_stored_sizes, ClearSizes, clear_sizes}
use Rattle.cx_mean_lives.specs.Laws.{SameSizes, UnwrittenSizes, LivesOn, LivesFrom, CallsLive}

-- ---- steps of memory

abbrev pub DoneSizes : Blocks → CDone → Type 0
DoneSizes blocks one = SameSizes blocks one.blocks

value_sizes : (blocks : Blocks) (marks : Marks) (outcome : Result CValue CWhy) → IfGiven (DoneSizes blocks) (gives_value marks blocks outcome)
value_sizes blocks marks (Ok value) = sizes_same blocks
value_sizes blocks marks (Err why) = tt

load_sizes : (blocks : Blocks) (outcome : Result CLoaded CWhy) → IfGiven (DoneSizes blocks) (done_by_load blocks outcome)
load_sizes blocks (Ok one) = sizes_same blocks
load_sizes blocks (Err why) = tt

unary_sizes : (setting : CSetting) (type : CTy) (form : CForm) (frame : Frame) (marks : Marks) (blocks : Blocks) (one : COperand) → IfGiven (DoneSizes blocks) (unary_done setting type form frame marks blocks one)
unary_sizes setting type (load from) frame marks blocks one = load_sizes blocks _
unary_sizes setting type (deref from) frame marks blocks one = value_sizes blocks marks _
unary_sizes setting type (member of spot) frame marks blocks one = value_sizes blocks marks _
unary_sizes setting type (address of) frame marks blocks one = value_sizes blocks marks _
unary_sizes setting type (convert value) frame marks blocks one = value_sizes blocks marks _
unary_sizes setting type (unary op value) frame marks blocks one = value_sizes blocks marks _
unary_sizes setting type form frame marks blocks one = tt

binary_sizes : (setting : CSetting) (type : CTy) (form : CForm) (frame : Frame) (marks : Marks) (blocks : Blocks) (one other : COperand) → IfGiven (DoneSizes blocks) (binary_done setting type form frame marks blocks one other)
binary_sizes setting type (binary op left right) frame marks blocks one other = value_sizes blocks marks _
binary_sizes setting type (assign target value) frame marks blocks one other =
    given_and (StoreSizes blocks) (DoneSizes blocks) _ _ (store_sizes setting frame blocks type one.value other.value marks) (λ done sizes. sizes)
binary_sizes setting type form frame marks blocks one other = tt

count_sizes : (setting : CSetting) (type : CTy) (form : CForm) (frame : Frame) (marks : Marks) (blocks : Blocks) (operands : List COperand) → IfGiven (DoneSizes blocks) (done_by_count setting type form frame marks blocks operands)
count_sizes setting type form frame marks blocks [] = tt
count_sizes setting type form frame marks blocks (one ∷ []) = unary_sizes setting type form frame marks blocks one
count_sizes setting type form frame marks blocks (one ∷ other ∷ []) = binary_sizes setting type form frame marks blocks one other
count_sizes setting type form frame marks blocks (one ∷ other ∷ third ∷ more) = tt

pub node_sizes : (setting : CSetting) (type : CTy) (form : CForm) (frame : Frame) (blocks : Blocks) (operands : List COperand) → IfGiven (DoneSizes blocks) (node_done setting type form frame blocks operands)
node_sizes setting type form frame blocks operands = given_then (DoneSizes blocks) (united_operands operands) _ (λ marks. count_sizes setting type form frame marks blocks operands)

pub update_sizes : (setting : CSetting) (frame : Frame) (blocks : Blocks) (update : CUpdate) (marks : Marks) (new : Value) → IfGiven (DoneSizes blocks) (update_stored setting frame blocks update marks new)
update_sizes setting frame blocks update marks new =
    given_and (StoreSizes blocks) (DoneSizes blocks) _ _ (store_sizes setting frame blocks update.target_type update.target (scalar new) marks) (λ one sizes. sizes)

pub literal_sizes : (setting : CSetting) (frame : Frame) (blocks : Blocks) (number : ℕ) (puts : CPuts) → IfGiven (DoneSizes blocks) (literal_cleared setting frame blocks number puts)
literal_sizes setting frame blocks number puts =
    given_and (ClearSizes blocks) (DoneSizes blocks) (object_cleared setting frame number (Some puts) blocks) _ (clear_sizes setting frame number (Some puts) blocks) (λ one sizes. sizes)

-- ---- pieces

pub end_bind : {A B : Type 0} (P : A → World → Type 0) (Q : B → World → Type 0) (piece : CRan A) (go : A → CPiece B) → AtEnd P piece
    → ((value : A) (world : World) (left : ℕ) → P value world → AtEnd Q (go value world left)) → AtEnd Q (bind piece go)
end_bind P Q (came value world left) go one all = all value world left one
end_bind P Q (halted status world) go one all = tt
end_bind P Q (bad fault world) go one all = tt
end_bind P Q (out world) go one all = tt

-- one step, of which it is known what it gives
pub end_step : {A B : Type 0} (P : A → Type 0) (Q : B → World → Type 0) (place : Place) (outcome : Result A CWhy) (on : A → CPiece B) (world : World) (steps : ℕ)
    → IfGiven P outcome → ((one : A) (left : ℕ) → P one → AtEnd Q (on one world left)) → AtEnd Q (tick world (λ left. or_bad place outcome on world left) steps)
end_step P Q place outcome on world zero is all = tt
end_step P Q place (Ok one) on world (suc left) is all = all one left is
end_step P Q place (Err why) on world (suc left) is all = tt

pub end_tick : {A : Type 0} (Q : A → World → Type 0) (world : World) (go : ℕ → CRan A) (steps : ℕ) → ((left : ℕ) → AtEnd Q (go left)) → AtEnd Q (tick world go steps)
end_tick Q world go zero all = tt
end_tick Q world go (suc left) all = all left

abbrev pub Anything : {A : Type 0} → A → Type 0
Anything value = Unit {0}

pub given_anything : {A E : Type 0} (outcome : Result A E) → IfGiven Anything outcome
given_anything (Ok value) = tt
given_anything (Err why) = tt

-- a relation of worlds at the end of a piece
abbrev pub Ends : (World → World → Type 0) → {A : Type 0} → World → A → World → Type 0
Ends R before value after = R before after

abbrev pub EndsOutside : (World → World → Type 0) → World → COutcome → Type 0
EndsOutside R before (Ok (returns_value value after)) = R before after
EndsOutside R before (Ok (ends_with status after)) = Unit {0}
EndsOutside R before (Err stop) = Unit {0}

-- ---- expressions

split : (one other : Bool) (M : Type 0) → ((one && other) ≡ true) ⊎ M → ((one ≡ true) ⊎ M) × ((other ≡ true) ⊎ M)
split one other M (inl both) = let parts = and_parts one other both in (inl parts.0, inl parts.1)
split one other M (inr may) = (inr may, inr may)

-- what is kept from world to world, with the stores and calls that keep it. Where an expression calls something, `M` holds.
module _ (R : World → World → Type 0) (same : (world : World) → R world world) (then_on : (before now after : World) → R before now → R now after → R before after)
    (writes : (world : World) (after : Blocks) → SameSizes (blocks_of world) after → R world (with_memory after world))
    (setting : CSetting) (calls : CCalls) (frame : Frame) (M : Type 0)
    (called : M → (callee : CFun) (args : List CValue) (world : World) (left : ℕ) → AtEnd (Ends R world) (calls callee args world left))
    (asked : M → (one : CCalled) (callee : COuter) (world : World) → EndsOutside R world (external_call setting one callee world)) where
  done_ends : (before now : World) (type : CTy) (place : Place) (outcome : Result CDone CWhy) (steps : ℕ) → R before now → IfGiven (DoneSizes (blocks_of now)) outcome → AtEnd (Ends R before) (c_done place type now outcome steps)
  done_ends before now type place outcome steps one sizes =
      end_step (DoneSizes (blocks_of now)) (Ends R before) place outcome _ now steps sizes (λ done left sized. then_on before now (with_memory done.blocks now) one (writes now done.blocks sized))

  updates_ends : (before now : World) (type : CTy) (place : Place) (outcome : Result CUpdating CWhy) (steps : ℕ) → R before now → AtEnd (Ends R before) (c_updates setting frame place type now outcome steps)
  updates_ends before now type place outcome steps one =
      end_step Anything (Ends R before) place outcome _ now steps (given_anything outcome) (λ updating left _.
      end_step Anything (Ends R before) place (update_computed setting (blocks_of now) updating.update) _ now left (given_anything (update_computed setting (blocks_of now) updating.update)) (λ new more _.
      end_step Anything (Ends R before) place (update_converted setting (blocks_of now) updating.update new) _ now more (given_anything (update_converted setting (blocks_of now) updating.update new)) (λ value rest _.
      done_ends before now type place (update_stored setting frame (blocks_of now) updating.update updating.marks value) rest one
      (update_sizes setting frame (blocks_of now) updating.update updating.marks value))))

  returned_ends : (before now : World) (type : CTy) (marks : Marks) (left : ℕ) (outcome : COutcome) → R before now → EndsOutside R now outcome → AtEnd (Ends R before) (c_returned type marks now left outcome)
  returned_ends before now type marks left (Ok (returns_value value after)) one other = then_on before now after one other
  returned_ends before now type marks left (Ok (ends_with status after)) one other = tt
  returned_ends before now type marks left (Err stop) one other = tt

  callee_ends : M → (before now : World) (type : CTy) (one : CCalling) (callee : CCallee) (left : ℕ) → R before now → AtEnd (Ends R before) (c_callee setting calls type one callee now left)
  callee_ends may before now type one (defined callee) left was =
      end_bind (Ends R now) (Ends R before) (calls callee (values_of_args one.called.args) now left) _ (called may callee (values_of_args one.called.args) now left) (λ value after rest other. then_on before now after was other)
  callee_ends may before now type one (external callee) left was =
      returned_ends before now type one.marks left (external_call setting one.called callee now) was (asked may one.called callee now)

  call_ends : M → (before now : World) (place : Place) (type : CTy) (outcome : Result CCalling CWhy) (steps : ℕ) → R before now → AtEnd (Ends R before) (c_call setting calls place type now outcome steps)
  call_ends may before now place type outcome steps was =
      end_step Anything (Ends R before) place outcome _ now steps (given_anything outcome) (λ one left _. callee_ends may before now type one one.called.callee left was)

  -- behind another part
  after : {A : Type 0} (before now : World) (piece : CRan A) → R before now → AtEnd (Ends R now) piece → AtEnd (Ends R before) piece
  after before now (came value world left) was is = then_on before now world was is
  after before now (halted status world) was is = tt
  after before now (bad fault world) was is = tt
  after before now (out world) was is = tt

  carried_ends : (before now : World) (marks : Marks) (part : CPiece COperand) (left : ℕ) → AtEnd (Ends R before) (part now left) → AtEnd (Ends R before) (c_carried marks part now left)
  carried_ends before now marks part left is = end_bind (Ends R before) (Ends R before) (part now left) _ is (λ one later rest was. was)

  tested_ends : (before now : World) (place : Place) (type : CTy) (marks : Marks) (second : CPiece COperand) (left : ℕ) → AtEnd (Ends R before) (second now left) → AtEnd (Ends R before) (c_tested place type marks second now left)
  tested_ends before now place type marks second left is =
      end_bind (Ends R before) (Ends R before) (second now left) _ is (λ one later rest was.
      end_step Anything (Ends R before) place (tested (blocks_of later) one.value) _ later rest (given_anything (tested (blocks_of later) one.value)) (λ value more _. was))

  and_ends : (before now : World) (place : Place) (type : CTy) (marks : Marks) (second : CPiece COperand) (truth : Bool) (left : ℕ) → R before now → AtEnd (Ends R before) (second now left)
      → AtEnd (Ends R before) (c_and place type marks second truth now left)
  and_ends before now place type marks second true left was is = tested_ends before now place type marks second left is
  and_ends before now place type marks second false left was is = was

  or_ends : (before now : World) (place : Place) (type : CTy) (marks : Marks) (second : CPiece COperand) (truth : Bool) (left : ℕ) → R before now → AtEnd (Ends R before) (second now left)
      → AtEnd (Ends R before) (c_or place type marks second truth now left)
  or_ends before now place type marks second true left was is = was
  or_ends before now place type marks second false left was is = tested_ends before now place type marks second left is

  part_ends : (before now : World) (marks : Marks) (first second : CPiece COperand) (truth : Bool) (left : ℕ) → AtEnd (Ends R before) (first now left) → AtEnd (Ends R before) (second now left)
      → AtEnd (Ends R before) (c_part marks first second truth now left)
  part_ends before now marks first second true left is too = carried_ends before now marks first left is
  part_ends before now marks first second false left is too = carried_ends before now marks second left too

  truth_ends : {A : Type 0} (before now : World) (place : Place) (one : COperand) (on : Bool → CPiece A) (steps : ℕ) → ((truth : Bool) (left : ℕ) → AtEnd (Ends R before) (on truth now left)) → AtEnd (Ends R before) (c_truth place one on now steps)
  truth_ends before now place one on steps all =
      end_step Anything (Ends R before) place (truth_of_value (blocks_of now) one.value) on now steps (given_anything (truth_of_value (blocks_of now) one.value)) (λ truth left _. all truth left)

  abbrev Keeps : CExpr → Type 0
  Keeps e = (world : World) (steps : ℕ) → AtEnd (Ends R world) (c_value setting calls frame e world steps)

  one_ends : (type : CTy) (place : Place) (form : CForm) (part : CExpr) (world : World) (steps : ℕ) → Keeps part
      → AtEnd (Ends R world) (bind (c_value setting calls frame part world steps) (λ one now. c_done place type now (node_done setting type form frame (blocks_of now) (one ∷ []))))
  one_ends type place form part world steps is =
      end_bind (Ends R world) (Ends R world) (c_value setting calls frame part world steps) _ (is world steps) (λ one now left was.
      done_ends world now type place (node_done setting type form frame (blocks_of now) (one ∷ [])) left was (node_sizes setting type form frame (blocks_of now) (one ∷ [])))

  two_ends : {A : Type 0} (first second : CExpr) (world : World) (steps : ℕ) (go : COperand → COperand → CPiece A) → Keeps first → Keeps second
      → ((one other : COperand) (now : World) (left : ℕ) → R world now → AtEnd (Ends R world) (go one other now left))
      → AtEnd (Ends R world) (bind (c_value setting calls frame first world steps) (λ one now more. bind (c_value setting calls frame second now more) (go one)))
  two_ends first second world steps go is too all =
      end_bind (Ends R world) (Ends R world) (c_value setting calls frame first world steps) _ (is world steps) (λ one now more was.
      end_bind (Ends R now) (Ends R world) (c_value setting calls frame second now more) (go one) (too now more) (λ other later left later_was. all one other later left (then_on world now later was later_was)))

  no_call : (false ≡ true) ⊎ M → M
  no_call (inl quiet) = absurd (cc (quiet))
  no_call (inr may) = may

  mutual
    pub value_ends : (e : CExpr) → (calls_nothing e ≡ true) ⊎ M → Keeps e
    value_ends (expr type place form) quiet world steps = form_ends type place form quiet world steps

    form_ends : (type : CTy) (place : Place) (form : CForm) → (form_calls_nothing form ≡ true) ⊎ M → (world : World) (steps : ℕ) → AtEnd (Ends R world) (c_form setting calls frame type place form world steps)
    form_ends type place (whole value) quiet world steps = same world
    form_ends type place null quiet world steps = same world
    form_ends type place (object number) quiet world steps = same world
    form_ends type place (code number) quiet world steps = same world
    form_ends type place (load from) quiet world steps = one_ends type place (load from) from world steps (value_ends from quiet)
    form_ends type place (deref from) quiet world steps = one_ends type place (deref from) from world steps (value_ends from quiet)
    form_ends type place (member of spot) quiet world steps = one_ends type place (member of spot) of world steps (value_ends of quiet)
    form_ends type place (address of) quiet world steps = one_ends type place (address of) of world steps (value_ends of quiet)
    form_ends type place (convert value) quiet world steps = one_ends type place (convert value) value world steps (value_ends value quiet)
    form_ends type place (unary op value) quiet world steps = one_ends type place (unary op value) value world steps (value_ends value quiet)
    form_ends type place (binary op first second) quiet world steps =
        let both = split (calls_nothing first) (calls_nothing second) M quiet in
        two_ends first second world steps _ (value_ends first both.0) (value_ends second both.1) (λ one other now left was.
        done_ends world now type place (node_done setting type (binary op first second) frame (blocks_of now) (one ∷ other ∷ [])) left was
        (node_sizes setting type (binary op first second) frame (blocks_of now) (one ∷ other ∷ [])))
    form_ends type place (assign target value) quiet world steps =
        let both = split (calls_nothing target) (calls_nothing value) M quiet in
        two_ends target value world steps _ (value_ends target both.0) (value_ends value both.1) (λ one other now left was.
        done_ends world now type place (node_done setting type (assign target value) frame (blocks_of now) (one ∷ other ∷ [])) left was
        (node_sizes setting type (assign target value) frame (blocks_of now) (one ∷ other ∷ [])))
    form_ends type place (assign_by op computes target value) quiet world steps =
        let both = split (calls_nothing target) (calls_nothing value) M quiet in
        two_ends target value world steps _ (value_ends target both.0) (value_ends value both.1) (λ one other now left was.
        updates_ends world now type place (node_updating setting (assign_by op computes target value) frame (blocks_of now) (one ∷ other ∷ [])) left was)
    form_ends type place (step up post on) quiet world steps =
        end_bind (Ends R world) (Ends R world) (c_value setting calls frame on world steps) _ (value_ends on quiet world steps) (λ one now left was.
        updates_ends world now type place (node_updating setting (step up post on) frame (blocks_of now) (one ∷ [])) left was)
    form_ends type place (and first second) quiet world steps =
        let both = split (calls_nothing first) (calls_nothing second) M quiet in
        end_bind (Ends R world) (Ends R world) (c_value setting calls frame first world steps) _ (value_ends first both.0 world steps) (λ one now left was.
        truth_ends world now place one _ left (λ truth more.
        and_ends world now place type (at_sequence_point one.marks) (λ later rest. c_value setting calls frame second later rest) truth more was
        (after world now (c_value setting calls frame second now more) was (value_ends second both.1 now more))))
    form_ends type place (or first second) quiet world steps =
        let both = split (calls_nothing first) (calls_nothing second) M quiet in
        end_bind (Ends R world) (Ends R world) (c_value setting calls frame first world steps) _ (value_ends first both.0 world steps) (λ one now left was.
        truth_ends world now place one _ left (λ truth more.
        or_ends world now place type (at_sequence_point one.marks) (λ later rest. c_value setting calls frame second later rest) truth more was
        (after world now (c_value setting calls frame second now more) was (value_ends second both.1 now more))))
    form_ends type place (cond test first second) quiet world steps =
        let outer = split (calls_nothing test && calls_nothing first) (calls_nothing second) M quiet in
        let inner = split (calls_nothing test) (calls_nothing first) M outer.0 in
        end_bind (Ends R world) (Ends R world) (c_value setting calls frame test world steps) _ (value_ends test inner.0 world steps) (λ one now left was.
        truth_ends world now place one _ left (λ truth more.
        part_ends world now (at_sequence_point one.marks) (λ later rest. c_value setting calls frame first later rest) (λ later rest. c_value setting calls frame second later rest) truth more
        (after world now (c_value setting calls frame first now more) was (value_ends first inner.1 now more))
        (after world now (c_value setting calls frame second now more) was (value_ends second outer.1 now more))))
    form_ends type place (comma first second) quiet world steps =
        let both = split (calls_nothing first) (calls_nothing second) M quiet in
        end_bind (Ends R world) (Ends R world) (c_value setting calls frame first world steps) _ (value_ends first both.0 world steps) (λ one now left was.
        end_tick (Ends R world) now _ left (λ more.
        carried_ends world now (at_sequence_point one.marks) (λ later rest. c_value setting calls frame second later rest) more
        (after world now (c_value setting calls frame second now more) was (value_ends second both.1 now more))))
    form_ends type place (call number args) quiet world steps =
        let may = no_call quiet in
        end_bind (Ends R world) (Ends R world) (c_values setting calls frame args world steps) _ (values_ends may args world steps) (λ operands now left was.
        call_ends may world now place type (node_calling setting type place (call number args) operands) left was)
    form_ends type place (call_by callee args) quiet world steps =
        let may = no_call quiet in
        end_bind (Ends R world) (Ends R world) (c_value setting calls frame callee world steps) _ (value_ends callee (inr may) world steps) (λ one now more was.
        end_bind (Ends R now) (Ends R world) (c_values setting calls frame args now more) _ (values_ends may args now more) (λ operands later left later_was.
        call_ends may world later place type (node_calling setting type place (call_by callee args) (one ∷ operands)) left (then_on world now later was later_was)))
    form_ends type place (literal number puts) quiet world steps =
        end_step (DoneSizes (blocks_of world)) (Ends R world) place (literal_cleared setting frame (blocks_of world) number puts) _ world steps
        (literal_sizes setting frame (blocks_of world) number puts) (λ one left sized.
        fill_ends type number puts quiet world (with_memory one.blocks world) one.marks left (writes world one.blocks sized))

    values_ends : M → (all : CExprs) (world : World) (steps : ℕ) → AtEnd (Ends R world) (c_values setting calls frame all world steps)
    values_ends may no_exprs world steps = same world
    values_ends may (more_exprs first others) world steps =
        end_bind (Ends R world) (Ends R world) (c_value setting calls frame first world steps) _ (value_ends first (inr may) world steps) (λ one now more was.
        end_bind (Ends R now) (Ends R world) (c_values setting calls frame others now more) _ (values_ends may others now more) (λ rest later left later_was. then_on world now later was later_was))

    -- the puts of a compound literal that began in a world
    fill_ends : (type : CTy) (number : ℕ) (puts : CPuts) → (puts_call_nothing puts ≡ true) ⊎ M → (before now : World) (marks : Marks) (steps : ℕ) → R before now
        → AtEnd (Ends R before) (c_fill setting calls frame type number puts marks now steps)
    fill_ends type number no_puts quiet before now marks steps was = was
    fill_ends type number (more_puts (put spot part value) others) quiet before now marks steps was =
        let both = split (calls_nothing value) (puts_call_nothing others) M quiet in
        end_bind (Ends R now) (Ends R before) (c_value setting calls frame value now steps) _ (value_ends value both.0 now steps) (λ operand later left later_was.
        end_step (StoreSizes (blocks_of later)) (Ends R before) (place_of value) (put_stored setting frame (blocks_of later) number spot part operand) _ later left
        (put_stored_sizes setting frame (blocks_of later) number spot part operand) (λ one more sized.
        fill_ends type number others both.1 before (with_memory one.blocks later) (marks_after_put marks one.marks) more
        (then_on before later (with_memory one.blocks later) (then_on before now later was later_was) (writes later one.blocks sized))))

-- ---- sizes

abbrev HasSizes : World → World → Type 0
HasSizes before after = SameSizes (blocks_of before) (blocks_of after)

quiet_sizes : (setting : CSetting) (calls : CCalls) (frame : Frame) (e : CExpr) (before after : World) (operand : COperand) (steps left : ℕ) → calls_nothing e ≡ true
    → c_value setting calls frame e before steps ≡ came operand after left → HasSizes before after
quiet_sizes setting calls frame e before after operand steps left quiet is =
    subst (λ (piece : CRan COperand). AtEnd (Ends HasSizes before) piece) is
    (value_ends HasSizes (λ world. sizes_same (blocks_of world)) (λ one two three first second. sizes_then (blocks_of one) (blocks_of two) (blocks_of three) first second) (λ world later sized. sized)
    setting calls frame ⊥ (λ none. absurd none) (λ none. absurd none) e (inl quiet) before steps)

pub unwritten_sizes : UnwrittenSizes
unwritten_sizes = record {
  blocks = quiet_sizes;
  sizes = λ setting calls frame e before after operand steps left quiet is at. (quiet_sizes setting calls frame e before after operand steps left quiet is).sizes at.block;
}

-- ---- lives

-- what lives on of all objects below a number
abbrev pub LivesBelow : ℕ → World → World → Type 0
LivesBelow bound before after = bound ≤ length (blocks_of before) → LivesOn bound before.held after.held

below_then : (bound : ℕ) (before now after : World) → LivesBelow bound before now → LivesBelow bound now after → LivesBelow bound before after
below_then bound before now after one other fits =
    let first = one fits in
    lives_then bound before.held now.held after.held first (other (omega (arith, fits, first.grows)))

pub end_below : {A : Type 0} (bound : ℕ) (world : World) (piece : CRan A) → AtEnd (LivesFrom world) piece → AtEnd (Ends (LivesBelow bound) world) piece
end_below bound world (came value after left) is = λ fits. lives_below (length (blocks_of world)) bound world.held after.held fits is
end_below bound world (halted status after) is = tt
end_below bound world (bad fault after) is = tt
end_below bound world (out after) is = tt

outside_below : (bound : ℕ) (world : World) (outcome : COutcome) → OutcomeLives world outcome → EndsOutside (LivesBelow bound) world outcome
outside_below bound world (Ok (returns_value value after)) is = λ fits. lives_below (length (blocks_of world)) bound world.held after.held fits is
outside_below bound world (Ok (ends_with status after)) is = tt
outside_below bound world (Err stop) is = tt

-- an expression, whatever it calls
pub value_below : (bound : ℕ) (setting : CSetting) (calls : CCalls) (frame : Frame) → CallsLive calls → (e : CExpr) (world : World) (steps : ℕ) → AtEnd (Ends (LivesBelow bound) world) (c_value setting calls frame e world steps)
value_below bound setting calls frame live e world steps =
    value_ends (LivesBelow bound) (λ at fits. lives_same bound at.held) (below_then bound) (λ at later sized fits. lives_sized bound at.held later sized)
    setting calls frame (Unit {0}) (λ _ callee args at left. end_below bound at (calls callee args at left) (live callee args at left))
    (λ _ one callee at. outside_below bound at (external_call setting one callee at) (outside_lives setting one callee at)) e (inr tt) world steps
