-- An expression under two ways to call functions that agree below its steps.
use Rattle.std.proofs.Common.{ℕ, ◌<◌, ◌≤◌, Bool, true, false, List, [], ◌∷◌, Result, Ok, Err, refl, arith}
use Rattle.cr_base.specs.declared.refusal.Place.{Place}
use Rattle.cr_runs.specs.Runs.{bind}
use Rattle.cr_world.specs.World.{World, blocks_of, with_memory}
use Rattle.cx_core.specs.Trees.{CTy, CExpr, expr, CForm, whole, null, object, code, load, deref, member, address, convert, unary, binary, and, or, cond, assign, assign_by, step, call, call_by, comma, literal, CExprs, no_exprs, more_exprs, put, CPuts, no_puts, more_puts, place_of, CFun}
use Rattle.cx_mean.specs.Calls.{CCallee, defined, external, CCalling, node_calling, returns_value, ends_with, COutcome, external_call}
use Rattle.cx_mean.specs.Initialisers.{put_stored}
use Rattle.cx_mean.specs.Leftmost.{CPiece, CCalls, c_done, c_updates, c_returned, c_callee, c_call, c_truth, c_tested, c_carried, c_and, c_or, c_part, c_value, c_form, c_values, c_fill}
use Rattle.cx_mean.specs.Marks.{Marks, at_sequence_point}
use Rattle.cx_mean.specs.Nodes.{CDone, node_done, CUpdating, node_updating, update_computed, update_converted, update_stored, truth_of_value, tested, literal_cleared, marks_after_put}
use Rattle.cx_mean.specs.Operands.{CWhy, CValue, COperand, Frame}
use Rattle.cx_mean.specs.Settings.{CSetting}
use Rattle.cx_mean.specs.State.{values_of_args}
use Rattle.cx_mean.specs.Work.{is_finished, begun, begun_form, after_marks}
use Rattle.cx_mean_laws.proofs.AlikePieces.{Alike, alike_any, alike_bind, alike_tick, alike_came, alike_step}

-- two ways to call functions, within less than so many steps
abbrev pub CallsAlike : ℕ → CCalls → CCalls → Type 0
CallsAlike most calls other =
    (callee : CFun) (args : List CValue) (world : World) (left : ℕ) → left < most → Alike 0 left (calls callee args world left) (other callee args world left)

-- how many steps an expression takes at least
abbrev pub least_of : Bool → ℕ
least_of true = 0
least_of false = 1

-- ---- nodes

pub done_alike : (place : Place) (type : CTy) (world : World) (outcome : Result CDone CWhy) (steps : ℕ) → Alike 1 steps (c_done place type world outcome steps) (c_done place type world outcome steps)
done_alike place type world outcome steps =
    alike_step steps place outcome _ _ world (λ one left less. alike_came left (record { type = type; value = one.value; marks = one.marks }) (with_memory one.blocks world))

updates_alike : (setting : CSetting) (frame : Frame) (place : Place) (type : CTy) (world : World) (outcome : Result CUpdating CWhy) (steps : ℕ)
    → Alike 1 steps (c_updates setting frame place type world outcome steps) (c_updates setting frame place type world outcome steps)
updates_alike setting frame place type world outcome steps =
    alike_step steps place outcome _ _ world (λ one left less.
    alike_any 1 left _ _ (alike_step left place (update_computed setting (blocks_of world) one.update) _ _ world (λ new more less_again.
    alike_any 1 more _ _ (alike_step more place (update_converted setting (blocks_of world) one.update new) _ _ world (λ value rest least.
    alike_any 1 rest _ _ (done_alike place type world (update_stored setting frame (blocks_of world) one.update one.marks value) rest))))))

returned_alike : (type : CTy) (marks : Marks) (world : World) (left : ℕ) (outcome : COutcome) → Alike 0 left (c_returned type marks world left outcome) (c_returned type marks world left outcome)
returned_alike type marks world left (Ok (returns_value value after)) = alike_came left (record { type = type; value = value; marks = marks }) after
returned_alike type marks world left (Ok (ends_with status after)) = record { same = refl; takes = tt }
returned_alike type marks world left (Err stop) = record { same = refl; takes = tt }

carried_alike : (marks : Marks) (part other : CPiece COperand) (world : World) (left : ℕ) → Alike 0 left (part world left) (other world left) → Alike 0 left (c_carried marks part world left) (c_carried marks other world left)
carried_alike marks part other world left is =
    alike_bind 0 0 left (part world left) (other world left) _ _ is (λ one after rest within. alike_came rest (after_marks marks one) after)

tested_alike : (place : Place) (type : CTy) (marks : Marks) (second other : CPiece COperand) (world : World) (left : ℕ) → Alike 0 left (second world left) (other world left)
    → Alike 0 left (c_tested place type marks second world left) (c_tested place type marks other world left)
tested_alike place type marks second other world left is =
    alike_any 1 left _ _ (alike_bind 0 1 left (second world left) (other world left) _ _ is (λ one after rest within.
    alike_step rest place (tested (blocks_of after) one.value) _ _ after (λ value more less. alike_came more (record { type = type; value = value; marks = (after_marks marks one).marks }) after)))

-- behind a first operand
and_alike : (place : Place) (type : CTy) (marks : Marks) (second other : CPiece COperand) (truth : Bool) (world : World) (left : ℕ) → Alike 0 left (second world left) (other world left)
    → Alike 0 left (c_and place type marks second truth world left) (c_and place type marks other truth world left)
and_alike place type marks second other true world left is = tested_alike place type marks second other world left is
and_alike place type marks second other false world left is = alike_came left _ world

or_alike : (place : Place) (type : CTy) (marks : Marks) (second other : CPiece COperand) (truth : Bool) (world : World) (left : ℕ) → Alike 0 left (second world left) (other world left)
    → Alike 0 left (c_or place type marks second truth world left) (c_or place type marks other truth world left)
or_alike place type marks second other true world left is = alike_came left _ world
or_alike place type marks second other false world left is = tested_alike place type marks second other world left is

part_alike : (marks : Marks) (first one second two : CPiece COperand) (truth : Bool) (world : World) (left : ℕ) → Alike 0 left (first world left) (one world left) → Alike 0 left (second world left) (two world left)
    → Alike 0 left (c_part marks first second truth world left) (c_part marks one two truth world left)
part_alike marks first one second two true world left is too = carried_alike marks first one world left is
part_alike marks first one second two false world left is too = carried_alike marks second two world left too

-- ---- expressions

module _ (setting : CSetting) (calls other : CCalls) (frame : Frame) (most : ℕ) (agree : CallsAlike most calls other) where
  abbrev pub IsAlike : CExpr → Type 0
  IsAlike e = (world : World) (steps : ℕ) → steps ≤ most →
      Alike (least_of (is_finished (begun e))) steps (c_value setting calls frame e world steps) (c_value setting other frame e world steps)

  -- whatever it takes
  any_alike : (e : CExpr) → IsAlike e → (world : World) (steps : ℕ) → steps ≤ most → Alike 0 steps (c_value setting calls frame e world steps) (c_value setting other frame e world steps)
  any_alike e is world steps within = alike_any (least_of (is_finished (begun e))) steps _ _ (is world steps within)

  one_alike : {B : Type 0} (least : ℕ) (part : CExpr) (go more : COperand → CPiece B) → IsAlike part → (world : World) (steps : ℕ) → steps ≤ most
      → ((one : COperand) (after : World) (left : ℕ) → left ≤ most → Alike least left (go one after left) (more one after left))
      → Alike least steps (bind (c_value setting calls frame part world steps) go) (bind (c_value setting other frame part world steps) more)
  one_alike least part go more is world steps within all =
      alike_bind 0 least steps _ _ go more (any_alike part is world steps within) (λ one after left fits. all one after left (omega (arith, fits, within)))

  two_alike : {B : Type 0} (least : ℕ) (first second : CExpr) (go : COperand → COperand → CPiece B) → IsAlike first → IsAlike second → (world : World) (steps : ℕ) → steps ≤ most
      → ((one two : COperand) (after : World) (left : ℕ) → left ≤ most → Alike least left (go one two after left) (go one two after left))
      → Alike least steps (bind (c_value setting calls frame first world steps) (λ one after more. bind (c_value setting calls frame second after more) (go one)))
      (bind (c_value setting other frame first world steps) (λ one after more. bind (c_value setting other frame second after more) (go one)))
  two_alike least first second go is too world steps within all =
      one_alike least first _ _ is world steps within (λ one after left fits. one_alike least second (go one) (go one) too after left fits (λ two later more. all one two later more))

  callee_alike : (type : CTy) (one : CCalling) (callee : CCallee) (world : World) (left : ℕ) → left < most
      → Alike 0 left (c_callee setting calls type one callee world left) (c_callee setting other type one callee world left)
  callee_alike type one (defined callee) world left less =
      alike_bind 0 0 left _ _ _ _ (agree callee (values_of_args one.called.args) world left less) (λ value after rest fits. alike_came rest (record { type = type; value = value; marks = one.marks }) after)
  callee_alike type one (external callee) world left less = returned_alike type one.marks world left (external_call setting one.called callee world)

  call_alike : (place : Place) (type : CTy) (world : World) (outcome : Result CCalling CWhy) (steps : ℕ) → steps ≤ most
      → Alike 1 steps (c_call setting calls place type world outcome steps) (c_call setting other place type world outcome steps)
  call_alike place type world outcome steps within =
      alike_step steps place outcome _ _ world (λ one left less. callee_alike type one one.called.callee world left (omega (arith, less, within)))

  truth_alike : {A : Type 0} (place : Place) (one : COperand) (on more : Bool → CPiece A) (world : World) (steps : ℕ) → ((truth : Bool) (left : ℕ) → left < steps → Alike 0 left (on truth world left) (more truth world left))
      → Alike 1 steps (c_truth place one on world steps) (c_truth place one more world steps)
  truth_alike place one on more world steps all = alike_step steps place (truth_of_value (blocks_of world) one.value) on more world (λ truth left less. all truth left less)

  mutual
    pub value_alike : (e : CExpr) → IsAlike e
    value_alike (expr type place form) world steps within = form_alike type place form world steps within

    form_alike : (type : CTy) (place : Place) (form : CForm) (world : World) (steps : ℕ) → steps ≤ most
        → Alike (least_of (is_finished (begun_form type place form))) steps (c_form setting calls frame type place form world steps) (c_form setting other frame type place form world steps)
    form_alike type place (whole value) world steps within = alike_came steps _ world
    form_alike type place null world steps within = alike_came steps _ world
    form_alike type place (object number) world steps within = alike_came steps _ world
    form_alike type place (code number) world steps within = alike_came steps _ world
    form_alike type place (load from) world steps within =
        one_alike 1 from _ _ (value_alike from) world steps within (λ one after left fits. done_alike place type after (node_done setting type (load from) frame (blocks_of after) (one ∷ [])) left)
    form_alike type place (deref from) world steps within =
        one_alike 1 from _ _ (value_alike from) world steps within (λ one after left fits. done_alike place type after (node_done setting type (deref from) frame (blocks_of after) (one ∷ [])) left)
    form_alike type place (member of spot) world steps within =
        one_alike 1 of _ _ (value_alike of) world steps within (λ one after left fits. done_alike place type after (node_done setting type (member of spot) frame (blocks_of after) (one ∷ [])) left)
    form_alike type place (address of) world steps within =
        one_alike 1 of _ _ (value_alike of) world steps within (λ one after left fits. done_alike place type after (node_done setting type (address of) frame (blocks_of after) (one ∷ [])) left)
    form_alike type place (convert value) world steps within =
        one_alike 1 value _ _ (value_alike value) world steps within (λ one after left fits. done_alike place type after (node_done setting type (convert value) frame (blocks_of after) (one ∷ [])) left)
    form_alike type place (unary op value) world steps within =
        one_alike 1 value _ _ (value_alike value) world steps within (λ one after left fits. done_alike place type after (node_done setting type (unary op value) frame (blocks_of after) (one ∷ [])) left)
    form_alike type place (binary op first second) world steps within =
        two_alike 1 first second _ (value_alike first) (value_alike second) world steps within (λ one two after left fits.
        done_alike place type after (node_done setting type (binary op first second) frame (blocks_of after) (one ∷ two ∷ [])) left)
    form_alike type place (assign target value) world steps within =
        two_alike 1 target value _ (value_alike target) (value_alike value) world steps within (λ one two after left fits.
        done_alike place type after (node_done setting type (assign target value) frame (blocks_of after) (one ∷ two ∷ [])) left)
    form_alike type place (assign_by op computes target value) world steps within =
        two_alike 1 target value _ (value_alike target) (value_alike value) world steps within (λ one two after left fits.
        updates_alike setting frame place type after (node_updating setting (assign_by op computes target value) frame (blocks_of after) (one ∷ two ∷ [])) left)
    form_alike type place (step up post on) world steps within =
        one_alike 1 on _ _ (value_alike on) world steps within (λ one after left fits.
        updates_alike setting frame place type after (node_updating setting (step up post on) frame (blocks_of after) (one ∷ [])) left)
    form_alike type place (and first second) world steps within =
        one_alike 1 first _ _ (value_alike first) world steps within (λ one after left fits.
        truth_alike place one _ _ after left (λ truth more less.
        and_alike place type (at_sequence_point one.marks) (λ later rest. c_value setting calls frame second later rest) (λ later rest. c_value setting other frame second later rest) truth after more (any_alike second (value_alike second) after more (omega (arith, less, fits)))))
    form_alike type place (or first second) world steps within =
        one_alike 1 first _ _ (value_alike first) world steps within (λ one after left fits.
        truth_alike place one _ _ after left (λ truth more less.
        or_alike place type (at_sequence_point one.marks) (λ later rest. c_value setting calls frame second later rest) (λ later rest. c_value setting other frame second later rest) truth after more (any_alike second (value_alike second) after more (omega (arith, less, fits)))))
    form_alike type place (cond test first second) world steps within =
        one_alike 1 test _ _ (value_alike test) world steps within (λ one after left fits.
        truth_alike place one _ _ after left (λ truth more less.
        part_alike (at_sequence_point one.marks) (λ later rest. c_value setting calls frame first later rest) (λ later rest. c_value setting other frame first later rest) (λ later rest. c_value setting calls frame second later rest) (λ later rest. c_value setting other frame second later rest) truth after more (any_alike first (value_alike first) after more (omega (arith, less, fits)))
        (any_alike second (value_alike second) after more (omega (arith, less, fits)))))
    form_alike type place (comma first second) world steps within =
        one_alike 1 first _ _ (value_alike first) world steps within (λ one after left fits.
        alike_tick left after _ _ (λ more less. carried_alike (at_sequence_point one.marks) (λ later rest. c_value setting calls frame second later rest) (λ later rest. c_value setting other frame second later rest) after more (any_alike second (value_alike second) after more (omega (arith, less, fits)))))
    form_alike type place (call number args) world steps within =
        alike_bind 0 1 steps _ _ _ _ (values_alike args world steps within) (λ operands after left fits.
        call_alike place type after (node_calling setting type place (call number args) operands) left (omega (arith, fits, within)))
    form_alike type place (call_by callee args) world steps within =
        one_alike 1 callee _ _ (value_alike callee) world steps within (λ one after more fits.
        alike_bind 0 1 more _ _ _ _ (values_alike args after more fits) (λ operands later left fits_again.
        call_alike place type later (node_calling setting type place (call_by callee args) (one ∷ operands)) left (omega (arith, fits_again, fits))))
    form_alike type place (literal number puts) world steps within =
        alike_step steps place (literal_cleared setting frame (blocks_of world) number puts) _ _ world (λ one left less.
        fill_alike type number puts one.marks (with_memory one.blocks world) left (omega (arith, less, within)))

    pub values_alike : (all : CExprs) (world : World) (steps : ℕ) → steps ≤ most → Alike 0 steps (c_values setting calls frame all world steps) (c_values setting other frame all world steps)
    values_alike no_exprs world steps within = alike_came steps [] world
    values_alike (more_exprs first others) world steps within =
        one_alike 0 first _ _ (value_alike first) world steps within (λ one after more fits.
        alike_bind 0 0 more _ _ _ _ (values_alike others after more fits) (λ rest later left fits_again. alike_came left (one ∷ rest) later))

    fill_alike : (type : CTy) (number : ℕ) (puts : CPuts) (marks : Marks) (world : World) (steps : ℕ) → steps ≤ most
        → Alike 0 steps (c_fill setting calls frame type number puts marks world steps) (c_fill setting other frame type number puts marks world steps)
    fill_alike type number no_puts marks world steps within = alike_came steps _ world
    fill_alike type number (more_puts (put spot part value) others) marks world steps within =
        one_alike 0 value _ _ (value_alike value) world steps within (λ operand after left fits.
        alike_any 1 left _ _ (alike_step left (place_of value) (put_stored setting frame (blocks_of after) number spot part operand) _ _ after (λ one more less.
        fill_alike type number others (marks_after_put marks one.marks) (with_memory one.blocks after) more (omega (arith, less, fits)))))
