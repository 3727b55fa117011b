-- The leftmost run of a program as a function of its trees: expressions by recursion, operands from the left, and statements by
-- the same moves as every run. It shows what the run by steps shows under the empty order (Laws.antt), in the form that a
-- translator's proof follows.
use Rattle.std.specs.Prelude.{ℕ, zero, suc, ℤ, Bool, true, false, List, [], ◌∷◌, ◌++◌, Option, Some, None, Result, Ok, Err}
use Rattle.cr_base.specs.declared.refusal.Place.{Place}
use Rattle.cr_base.specs.declared.layout.Spot.{Spot}
use Rattle.cr_runs.specs.Runs.{Ran, came, halted, bad, out, bind, tick}
use Rattle.cx_core.specs.Linked.{main_of}
use Rattle.cx_core.specs.Trees.{CTy, CExpr, expr, CForm, whole, null, object, code, load, deref, member, address, convert, unary, binary, and, or, cond, assign, assign_by, step, call, call_by, comma, literal, CExprs, no_exprs, more_exprs, CPut, put, CPuts, no_puts, more_puts, place_of, CObject, CFun, CProgram}
use Rattle.cr_world.specs.World.{Outside, Terms, open_ended, World, first_world, blocks_of, with_memory, events_of}
use Rattle.cx_mean.specs.Accesses.{CStored}
use Rattle.cx_mean.specs.Calls.{CCallee, defined, external, CCalling, node_calling, returns_value, ends_with, COutcome, external_call}
use Rattle.cx_mean.specs.Initialisers.{put_stored}
use Rattle.cx_mean.specs.Marks.{Marks, no_marks, at_sequence_point}
use Rattle.cx_mean.specs.Moves.{CPutting, CPurpose, puts_it, drops_it, turns_on, gives_it, chooses_by, CMove, values, reaches, begins, leaves, calls_main, goes_nowhere, CStand, next_of, static_puts, putting, beginning, reached, turning_on}
use Rattle.cx_mean.specs.Nodes.{CDone, node_done, CUpdating, node_updating, update_computed, update_converted, update_stored, truth_of_value, tested, literal_cleared, marks_after_put}
use Rattle.cx_numbers.specs.Numbers.{number_of_truth}
use Rattle.cx_mean.specs.Operands.{CWhy, stuck, CStop, stops, CValue, scalar, names, COperand, at_once, with_marks, Frame}
use Rattle.cx_mean.specs.Paths.{site_at}
use Rattle.cx_mean.specs.Run.{CSeen, going, ended, progress_of_stop}
use Rattle.cx_mean.specs.Settings.{CSetting, setting_of}
use Rattle.cx_mean.specs.State.{given_back, after_return, status_in, own_frame, value_given, choice_at, slot, with_slot, object_begins, param_begins, static_begins, no_place, place_of_body, bottom_of, statics_in, values_of_args}
use Rattle.cx_mean.specs.Work.{is_finished, begun, after_marks}
use Rattle.mem_bytes.specs.declared.value.Value.TheVariants.{Whole as Number, Null, Code as Function}

-- a piece of a run of C
abbrev pub CRan : Type 0 → Type 0
CRan A = Ran CStop World A

-- a piece that goes on from a world within a bound
abbrev pub CPiece : Type 0 → Type 0
CPiece A = World → ℕ → CRan A

-- how calls of functions that units define run: with these arguments, to the value that they give back
abbrev pub CCalls : Type 0
CCalls = CFun → List CValue → CPiece CValue

-- how a function runs from a move on, to the value that it gives back
abbrev pub CGoes : Type 0
CGoes = CMove → CPiece CValue

-- ---- pieces

-- what has no meaning at a place ends the run
abbrev pub or_bad : {A B : Type 0} → Place → Result A CWhy → (A → CPiece B) → CPiece B
or_bad place (Ok one) on world left = on one world left
or_bad place (Err why) on world left = bad (stops why place) world

abbrev pub or_stop : {A B : Type 0} → Result A CStop → (A → CPiece B) → CPiece B
or_stop (Ok one) on world left = on one world left
or_stop (Err stop) on world left = bad stop world

-- one step at a place
abbrev pub one_step : {A B : Type 0} → Place → Result A CWhy → (A → CPiece B) → CPiece B
one_step place outcome on world = tick world (λ left. or_bad place outcome on world left)

abbrev pub gives_operand : CTy → CValue → Marks → CPiece COperand
gives_operand type value marks = came (record { type = type; value = value; marks = marks })

-- ---- nodes

-- the step of a node that touches memory alone
abbrev pub c_done : Place → CTy → World → Result CDone CWhy → ℕ → CRan COperand
c_done place type world outcome =
    one_step place outcome (λ one after. gives_operand type one.value one.marks (with_memory one.blocks after)) world

-- the stages of `op=`, `++` and `--` behind the load
abbrev pub c_update : CSetting → Frame → Place → CTy → CUpdating → CPiece COperand
c_update setting frame place type one world =
    one_step place (update_computed setting (blocks_of world) one.update) (λ new after.
    one_step place (update_converted setting (blocks_of after) one.update new) (λ value later.
    c_done place type later (update_stored setting frame (blocks_of later) one.update one.marks value)) after) world

abbrev pub c_updates : CSetting → Frame → Place → CTy → World → Result CUpdating CWhy → ℕ → CRan COperand
c_updates setting frame place type world outcome = one_step place outcome (c_update setting frame place type) world

-- the end of a call of a function that no unit defines
abbrev pub c_returned : CTy → Marks → World → ℕ → COutcome → CRan COperand
c_returned type marks world left (Ok (returns_value value after)) = gives_operand type value marks after left
c_returned type marks world left (Ok (ends_with status after)) = halted status after
c_returned type marks world left (Err stop) = bad stop world

abbrev pub c_callee : CSetting → CCalls → CTy → CCalling → CCallee → CPiece COperand
c_callee setting calls type one (defined callee) world left =
    bind (calls callee (values_of_args one.called.args) world left) (λ value after. gives_operand type value one.marks after)
c_callee setting calls type one (external callee) world left =
    c_returned type one.marks world left (external_call setting one.called callee world)

-- the step of a call, and the function's run
abbrev pub c_call : CSetting → CCalls → Place → CTy → World → Result CCalling CWhy → ℕ → CRan COperand
c_call setting calls place type world outcome =
    one_step place outcome (λ one. c_callee setting calls type one one.called.callee) world

-- the step behind the first operand of `&&`, `||` and `?:`: by its truth
abbrev pub c_truth : {A : Type 0} → Place → COperand → (Bool → CPiece A) → CPiece A
c_truth place one on world = one_step place (truth_of_value (blocks_of world) one.value) on world

-- the second operand of `&&` or `||`, and the test of it
abbrev pub c_tested : Place → CTy → Marks → CPiece COperand → CPiece COperand
c_tested place type marks second world left =
    bind (second world left) (λ other after.
    one_step place (tested (blocks_of after) other.value) (λ value. gives_operand type value (after_marks marks other).marks) after)

-- the chosen part of `?:` or of a comma
abbrev pub c_carried : Marks → CPiece COperand → CPiece COperand
c_carried marks part world left = bind (part world left) (λ other after. came (after_marks marks other) after)

abbrev pub decided_as : CTy → Bool → Marks → CPiece COperand
decided_as type truth marks = gives_operand type (scalar (Number (number_of_truth truth))) marks

-- `&&`, `||` and `?:` behind their choices
abbrev pub c_and : Place → CTy → Marks → CPiece COperand → Bool → CPiece COperand
c_and place type marks second true = c_tested place type marks second
c_and place type marks second false = decided_as type false marks

abbrev pub c_or : Place → CTy → Marks → CPiece COperand → Bool → CPiece COperand
c_or place type marks second true = decided_as type true marks
c_or place type marks second false = c_tested place type marks second

abbrev pub c_part : Marks → CPiece COperand → CPiece COperand → Bool → CPiece COperand
c_part marks first second true = c_carried marks first
c_part marks first second false = c_carried marks second

-- the store of a put of a compound literal, and what follows
abbrev pub c_put : CSetting → Frame → ℕ → Spot → CTy → Place → Marks → (Marks → CPiece COperand) → COperand → CPiece COperand
c_put setting frame number spot type place marks on operand world =
    one_step place (put_stored setting frame (blocks_of world) number spot type operand) (λ one after.
    on (marks_after_put marks one.marks) (with_memory one.blocks after)) world

-- ---- expressions

abbrev mutual
  -- the value of an expression, with its marks
  pub c_value : CSetting → CCalls → Frame → CExpr → CPiece COperand
  c_value setting calls frame (expr type place form) world left = c_form setting calls frame type place form world left

  pub c_form : CSetting → CCalls → Frame → CTy → Place → CForm → CPiece COperand
  c_form setting calls frame type place (whole value) world left = came (at_once type (scalar (Number value))) world left
  c_form setting calls frame type place null world left = came (at_once type (scalar Null)) world left
  c_form setting calls frame type place (object number) world left = came (at_once type (names number)) world left
  c_form setting calls frame type place (code number) world left = came (at_once type (scalar (Function number))) world left
  c_form setting calls frame type place (load from) world left =
      bind (c_value setting calls frame from world left) (λ one after.
      c_done place type after (node_done setting type (load from) frame (blocks_of after) (one ∷ [])))
  c_form setting calls frame type place (deref from) world left =
      bind (c_value setting calls frame from world left) (λ one after.
      c_done place type after (node_done setting type (deref from) frame (blocks_of after) (one ∷ [])))
  c_form setting calls frame type place (member of spot) world left =
      bind (c_value setting calls frame of world left) (λ one after.
      c_done place type after (node_done setting type (member of spot) frame (blocks_of after) (one ∷ [])))
  c_form setting calls frame type place (address of) world left =
      bind (c_value setting calls frame of world left) (λ one after.
      c_done place type after (node_done setting type (address of) frame (blocks_of after) (one ∷ [])))
  c_form setting calls frame type place (convert value) world left =
      bind (c_value setting calls frame value world left) (λ one after.
      c_done place type after (node_done setting type (convert value) frame (blocks_of after) (one ∷ [])))
  c_form setting calls frame type place (unary op value) world left =
      bind (c_value setting calls frame value world left) (λ one after.
      c_done place type after (node_done setting type (unary op value) frame (blocks_of after) (one ∷ [])))
  c_form setting calls frame type place (binary op first second) world left =
      bind (c_value setting calls frame first world left) (λ one after more.
      bind (c_value setting calls frame second after more) (λ other later.
      c_done place type later (node_done setting type (binary op first second) frame (blocks_of later) (one ∷ other ∷ []))))
  c_form setting calls frame type place (and first second) world left =
      bind (c_value setting calls frame first world left) (λ one.
      c_truth place one
      (c_and place type (at_sequence_point one.marks) (λ after more. c_value setting calls frame second after more)))
  c_form setting calls frame type place (or first second) world left =
      bind (c_value setting calls frame first world left) (λ one.
      c_truth place one
      (c_or place type (at_sequence_point one.marks) (λ after more. c_value setting calls frame second after more)))
  c_form setting calls frame type place (cond test first second) world left =
      bind (c_value setting calls frame test world left) (λ one.
      c_truth place one
      (c_part (at_sequence_point one.marks) (λ after more. c_value setting calls frame first after more)
      (λ after more. c_value setting calls frame second after more)))
  c_form setting calls frame type place (assign target value) world left =
      bind (c_value setting calls frame target world left) (λ one after more.
      bind (c_value setting calls frame value after more) (λ other later.
      c_done place type later (node_done setting type (assign target value) frame (blocks_of later) (one ∷ other ∷ []))))
  c_form setting calls frame type place (assign_by op computes target value) world left =
      bind (c_value setting calls frame target world left) (λ one after more.
      bind (c_value setting calls frame value after more) (λ other later.
      c_updates setting frame place type later
      (node_updating setting (assign_by op computes target value) frame (blocks_of later) (one ∷ other ∷ []))))
  c_form setting calls frame type place (step up post on) world left =
      bind (c_value setting calls frame on world left) (λ one after.
      c_updates setting frame place type after (node_updating setting (step up post on) frame (blocks_of after) (one ∷ [])))
  c_form setting calls frame type place (call number args) world left =
      bind (c_values setting calls frame args world left) (λ operands after.
      c_call setting calls place type after (node_calling setting type place (call number args) operands))
  c_form setting calls frame type place (call_by callee args) world left =
      bind (c_value setting calls frame callee world left) (λ one after more.
      bind (c_values setting calls frame args after more) (λ operands later.
      c_call setting calls place type later (node_calling setting type place (call_by callee args) (one ∷ operands))))
  c_form setting calls frame type place (comma first second) world left =
      bind (c_value setting calls frame first world left) (λ one after.
      tick after (c_carried (at_sequence_point one.marks) (λ later more. c_value setting calls frame second later more) after))
  c_form setting calls frame type place (literal number puts) world left =
      one_step place (literal_cleared setting frame (blocks_of world) number puts) (λ one after more.
      c_fill setting calls frame type number puts one.marks (with_memory one.blocks after) more) world left

  -- the values of expressions, from the left
  pub c_values : CSetting → CCalls → Frame → CExprs → CPiece (List COperand)
  c_values setting calls frame no_exprs world left = came [] world left
  c_values setting calls frame (more_exprs first others) world left =
      bind (c_value setting calls frame first world left) (λ one after more.
      bind (c_values setting calls frame others after more) (λ rest. came (one ∷ rest)))

  -- the puts of a compound literal, one behind the other
  pub c_fill : CSetting → CCalls → Frame → CTy → (object : ℕ) → CPuts → Marks → CPiece COperand
  c_fill setting calls frame type number no_puts marks world left = gives_operand type (names number) marks world left
  c_fill setting calls frame type number (more_puts first others) marks world left =
      c_fill_put setting calls frame type number first
      (λ after later more. c_fill setting calls frame type number others after later more) marks world left

  pub c_fill_put : CSetting → CCalls → Frame → CTy → ℕ → CPut → (Marks → CPiece COperand) → Marks → CPiece COperand
  c_fill_put setting calls frame type number (put spot part value) on marks world left =
      bind (c_value setting calls frame value world left) (λ operand.
      c_put setting frame number spot part (place_of value) marks on operand)

-- ---- moves

-- what comes next, in the memory in which it does
abbrev pub c_stand : CGoes → CStand → CPiece CValue
c_stand goes one world = goes one.move (with_memory one.blocks world)

-- a step of statements
abbrev pub c_stands : CGoes → Place → Result CStand CWhy → CPiece CValue
c_stands goes place outcome = one_step place outcome (c_stand goes)

-- a value is dropped: where its expression took no step, this is one
abbrev pub c_dropped : CGoes → Bool → CStand → CPiece CValue
c_dropped goes true one world = tick world (c_stand goes one world)
c_dropped goes false one world = c_stand goes one world

abbrev pub c_stored : CGoes → CPutting → Place → World → Result CStored CWhy → ℕ → CRan CValue
c_stored goes one place world outcome =
    one_step place outcome (λ done. c_stand goes (putting one.object one.others one.behind done.blocks)) world

-- what is done with a value
abbrev pub c_use : CSetting → Frame → CGoes → (at_once : Bool) → CPurpose → COperand → CPiece CValue
c_use setting statics goes at_once (puts_it place one) operand world =
    c_stored goes one place world
    (put_stored setting (own_frame (puts_it place one) ++ statics) (blocks_of world) one.object one.spot one.type
    (with_marks no_marks operand))
c_use setting statics goes at_once (drops_it site) operand world =
    c_dropped goes at_once (next_of site (blocks_of world)) world
c_use setting statics goes at_once (turns_on site) operand world =
    c_dropped goes at_once (turning_on site (blocks_of world)) world
c_use setting statics goes at_once (gives_it place site) operand world =
    one_step place (value_given operand.value) (λ value after. came (given_back value) (after_return site after)) world
c_use setting statics goes at_once (chooses_by place site) operand world =
    c_stands goes place (choice_at (blocks_of world) operand.value site.levels site.bottom) world

-- the parameters of a function begin, and then its body is reached
abbrev pub c_params : CSetting → CGoes → CFun → List ℕ → List CValue → Frame → CPiece CValue
c_params setting goes callee [] args frame world left = goes (reaches callee.body (site_at [] (bottom_of callee frame))) world left
c_params setting goes callee (number ∷ params) [] frame world left =
    tick world (λ more. bad (stops stuck (place_of_body callee.body)) world) left
c_params setting goes callee (number ∷ params) (value ∷ args) frame world left =
    tick world (or_stop (param_begins setting (place_of_body callee.body) number value world) (λ got after more.
    c_params setting goes callee params args (frame ++ slot number got.value ∷ []) got.world more) world) left

abbrev pub c_called : CSetting → CGoes → CCalls
c_called setting goes callee args world left = c_params setting goes callee callee.params args [] world left

abbrev pub c_main : CSetting → CGoes → Option CFun → CPiece CValue
c_main setting goes None world left = bad (stops stuck no_place) world
c_main setting goes (Some one) world left = c_params setting goes one one.params [] [] world left

-- a function from a move on. What goes on is only used behind a step.
abbrev pub c_move : CSetting → Frame → CGoes → CMove → CPiece CValue
c_move setting statics goes (values value purpose) world left =
    bind (c_value setting (c_called setting goes) (own_frame purpose ++ statics) value world left)
    (c_use setting statics goes (is_finished (begun value)) purpose)
c_move setting statics goes (reaches one site) world left =
    tick world (c_stand goes (reached setting one site (blocks_of world)) world) left
c_move setting statics goes (begins one) world left =
    tick world (or_stop (object_begins setting no_place one.object world) (λ got after.
    c_stand goes
    (beginning setting one.others one.goal (with_slot (slot one.object got.value) one.level) one.outer (blocks_of got.world))
    got.world) world) left
c_move setting statics goes (leaves value site) world left =
    tick world (came (given_back value) (after_return site world)) left
c_move setting statics goes calls_main world left =
    tick world (c_main setting goes (main_of setting.program) world) left
c_move setting statics goes (goes_nowhere place) world left = bad (stops stuck place) world

-- so many moves deep at most; the bound of a run is less
abbrev pub c_goes : CSetting → Frame → (fuel : ℕ) → CGoes
c_goes setting statics zero move world left = out world
c_goes setting statics (suc fuel) move world left = c_move setting statics (c_goes setting statics fuel) move world left

-- ---- programs

abbrev pub c_ended : CValue → CPiece ℤ
c_ended value world left = or_bad no_place (status_in value) came world left

-- static objects begin their lives, and then the program runs
abbrev pub c_begins : CSetting → (fuel : ℕ) → List CObject → Frame → CPiece ℤ
c_begins setting fuel [] statics world left =
    bind (c_goes setting statics fuel (static_puts (statics_in setting.program.objects)) world left) c_ended
c_begins setting fuel (one ∷ others) statics world left =
    tick world (or_stop (static_begins setting one world) (λ got after more.
    c_begins setting fuel others (statics ++ slot one.object got.value ∷ []) got.world more) world) left

-- a whole run, with the status that it ends with
abbrev pub c_program : CProgram → Terms → Outside → ℕ → CRan ℤ
c_program program terms outside steps =
    c_begins (setting_of program) (suc steps) (statics_in program.objects) [] (first_world terms outside) steps

-- what is seen of a run
abbrev pub c_shown : CRan ℤ → CSeen
c_shown (came status world left) = record { events = events_of world; progress = ended status }
c_shown (halted status world) = record { events = events_of world; progress = ended status }
c_shown (bad stop world) = record { events = events_of world; progress = progress_of_stop stop }
c_shown (out world) = record { events = events_of world; progress = going }

-- what is seen of the leftmost run after so many steps, on terms
abbrev pub c_leftmost_on : CProgram → Terms → Outside → ℕ → CSeen
c_leftmost_on program terms outside steps = c_shown (c_program program terms outside steps)

abbrev pub c_leftmost : CProgram → Outside → ℕ → CSeen
c_leftmost program outside steps = c_leftmost_on program open_ended outside steps
