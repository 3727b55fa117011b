-- The states of a running program and its steps (ISO C99, 5.1.2, 6.2.4, 6.5.2.2 and 6.8).
use Rattle.std.specs.Prelude.{ℕ, ℤ, pos, Bool, true, false, List, [], ◌∷◌, ◌++◌, Option, Some, None, Result, Ok, Err}
use Rattle.cr_base.specs.declared.layout.Laid.{Laid}
use Rattle.cr_base.specs.declared.refusal.Place.{Place}
use Rattle.cr_base.specs.declared.rule.URule.TheVariants.{U14}
use Rattle.cx_core.specs.Linked.{main_of, is_main}
use Rattle.cx_core.specs.Trees.{CTy, unqualified, CPuts, CStmt, stmt, CObject, CFun}
use Rattle.cx_core.specs.Typing.{object_with}
use Rattle.cr_world.specs.World.{Got, World, blocks_of, with_memory, object_begun}
use Rattle.cx_mean.specs.Accesses.{CStored, stored}
use Rattle.cx_mean.specs.Calls.{CCallee, defined, external, CCalled, returns_value, ends_with, COutcome, external_call}
use Rattle.cx_mean.specs.Initialisers.{put_stored}
use Rattle.cx_mean.specs.Marks.{no_marks}
use Rattle.cx_mean.specs.Moves.{CBehind, in_body, of_statics, CPutting, CPurpose, puts_it, drops_it, turns_on, gives_it, chooses_by, CBeginning, CMove, values, reaches, begins, leaves, calls_main, goes_nowhere, CStand, without_objects, slots_of_site, next_of, static_puts, putting, beginning, reached, is_switch, choosing, switching, turning_on}
use Rattle.cx_mean.specs.Nodes.{truth_of_value}
use Rattle.cx_mean.specs.Operands.{CWhy, breaks, stuck, needed, CStop, stops, CValue, scalar, cells, names, designates, designates_bits, missing, COperand, with_marks, Slot, Frame, scalar_value}
use Rattle.cx_mean.specs.Paths.{CLevel, CBottom, CSite, site_at}
use Rattle.cx_mean.specs.Settings.{CSetting, extent_in}
use Rattle.cx_mean.specs.Steps.{did, asks_call, CStepped, step_at, picked}
use Rattle.cx_mean.specs.Values.{number_in}
use Rattle.cx_mean.specs.Work.{CWork, finished, begun, resumed, ready}
use Rattle.cr_world.specs.World.{wrong}
use Rattle.mem_bytes.specs.Access.{and_then}
use Rattle.mem_bytes.specs.declared.value.Ptr.{Ptr}
use Rattle.mem_bytes.specs.declared.value.Value.TheVariants.{Whole as Number, Object as Pointer}
use Rattle.mem_bytes.specs.Memory.{Blocks}

-- ---- states

-- a function that waits for one that it called: what is left of its full expression, and what is done with the value
pub record CCaller : Type 0 where
  pub work : CWork
  pub purpose : CPurpose

-- a function that was called, before its body: the parameters whose lives are to begin, each with its argument, and those that
-- have begun
pub record CTaking : Type 0 where
  pub callee : CFun
  pub params : List ℕ
  pub args : List CValue
  pub frame : Frame

-- where a run stands: what its next step is
pub data CControl : Type 0 where
  -- the life of a static object begins; others follow
  begins_static : CObject → List CObject → CControl
  -- what comes next in a body: a statement is reached, an object begins, a function returns; or `main` is called
  moves : CMove → CControl
  -- a full expression that isn't finished takes a step
  evaluates : CWork → CPurpose → CControl
  -- a full expression is finished, and its value is stored, given back or chosen by
  uses : COperand → CPurpose → CControl
  -- the life of a parameter begins
  takes : CTaking → CControl
  -- the program has ended with a status
  has_ended : (status : ℤ) → CControl
  -- the run goes no further
  has_stopped : CStop → CControl

-- a state: where the run stands, the static objects in scope, the functions that wait, the innermost first, the world, and
-- the numbers of the order that are left
pub record CState : Type 0 where
  pub control : CControl
  pub statics : Frame
  pub callers : List CCaller
  pub world : World
  pub order : List ℕ

abbrev pub at_control : CState → World → CControl → CState
at_control state world control = record state { control = control; world = world }

abbrev pub stopped : CState → CStop → CState
stopped state stop = record state { control = has_stopped stop }

abbrev pub stopped_by : CState → Place → CWhy → CState
stopped_by state place why = stopped state (stops why place)

-- the place of what has none of its own in the program's text
abbrev pub no_place : Place
no_place = record { unit = 0; line = 0 }

-- ---- what is next

-- a full expression of which no step was taken
abbrev pub evaluating : CWork → CPurpose → CControl
evaluating (finished operand) purpose = uses operand purpose
evaluating work purpose = evaluates work purpose

abbrev pub control_of : CMove → CControl
control_of (values value purpose) = evaluating (begun value) purpose
control_of (goes_nowhere place) = has_stopped (stops stuck place)
control_of move = moves move

-- the run stands somewhere else
abbrev pub at_stand : CState → World → CStand → CState
at_stand state world one = at_control state (with_memory one.blocks world) (control_of one.move)

-- a full expression goes on. Where its last step was taken and its value is dropped, what follows is next at once.
abbrev pub finished_for : CState → World → COperand → CPurpose → CState
finished_for state world operand (drops_it site) = at_stand state world (next_of site (blocks_of world))
finished_for state world operand (turns_on site) = at_stand state world (turning_on site (blocks_of world))
finished_for state world operand purpose = at_control state world (uses operand purpose)

abbrev pub going_on : CState → World → CWork → CPurpose → CState
going_on state world (finished operand) purpose = finished_for state world operand purpose
going_on state world work purpose = at_control state world (evaluates work purpose)

-- ---- calls and returns (6.5.2.2, 6.8.6.4)

-- what the end of a function gives where no `return` is reached: nothing, and 0 for `main` (5.1.2.2.3)
abbrev pub value_at_end : Bool → CValue
value_at_end true = scalar (Number (pos 0))
value_at_end false = missing

abbrev pub bottom_of : CFun → Frame → CBottom
bottom_of one params = record { params = params; at_end = value_at_end (is_main one) }

-- the parameters begin, and then the body is reached
abbrev pub taking : CFun → List ℕ → List CValue → Frame → CControl
taking one [] args frame = moves (reaches one.body (site_at [] (bottom_of one frame)))
taking one (first ∷ others) args frame =
    takes (record { callee = one; params = first ∷ others; args = args; frame = frame })

abbrev pub values_of_args : List COperand → List CValue
values_of_args [] = []
values_of_args (first ∷ others) = first.value ∷ values_of_args others

-- a function that a unit defines is called; what called it waits
abbrev pub called_own : CState → CWork → CPurpose → CFun → List COperand → CState
called_own state work purpose one args = record state {
  control = taking one one.params (values_of_args args) [];
  callers = record { work = work; purpose = purpose } ∷ state.callers;
}

-- a call of a function that no unit defines is answered
abbrev pub answered_by : CState → CWork → CPurpose → COutcome → CState
answered_by state work purpose (Ok (returns_value value world)) = going_on state world (resumed value work) purpose
answered_by state work purpose (Ok (ends_with status world)) = at_control state world (has_ended status)
answered_by state work purpose (Err stop) = stopped state stop

abbrev pub calling : CSetting → CState → CWork → CPurpose → CCalled → CCallee → CState
calling setting state work purpose called (defined one) = called_own state work purpose one called.args
calling setting state work purpose called (external one) =
    answered_by state work purpose (external_call setting called one state.world)

-- a value that a function gives back isn't read from an object any more
abbrev pub given_back : CValue → CValue
given_back (cells held from) = cells held None
given_back value = value

-- the status with which the program ends where `main` gives a value back
abbrev pub status_in : CValue → Result ℤ CWhy
status_in value = and_then (scalar_value value) number_in

abbrev pub ended_by : CState → World → Result ℤ CWhy → CState
ended_by state world (Ok status) = at_control state world (has_ended status)
ended_by state world (Err why) = at_control state world (has_stopped (stops why no_place))

-- the function that called goes on, or the program ends
abbrev pub returned_to : CState → World → CValue → List CCaller → CState
returned_to state world value [] = ended_by state world (status_in value)
returned_to state world value (caller ∷ others) =
    going_on (record state { callers = others }) world (resumed value caller.work) caller.purpose

-- a function has returned: all its objects are dead
abbrev pub after_return : CSite → World → World
after_return site world = with_memory (without_objects (slots_of_site site) (blocks_of world)) world

abbrev pub returning : CState → CValue → CSite → CState
returning state value site = returned_to state (after_return site state.world) (given_back value) state.callers

-- ---- steps of full expressions

abbrev pub site_behind : CBehind → Frame
site_behind (in_body site) = slots_of_site site
site_behind (of_statics others) = []

-- the objects of the function that runs
abbrev pub own_frame : CPurpose → Frame
own_frame (puts_it place one) = site_behind one.behind
own_frame (drops_it site) = slots_of_site site
own_frame (turns_on site) = slots_of_site site
own_frame (gives_it place site) = slots_of_site site
own_frame (chooses_by place site) = slots_of_site site

-- all objects in scope
abbrev pub frame_for : CState → CPurpose → Frame
frame_for state purpose = own_frame purpose ++ state.statics

abbrev pub after_step : CSetting → CState → CPurpose → CStepped → CState
after_step setting state purpose (Ok (did work blocks)) = going_on state (with_memory blocks state.world) work purpose
after_step setting state purpose (Ok (asks_call called work)) = calling setting state work purpose called called.callee
after_step setting state purpose (Err fault) = stopped state (wrong fault)

-- one step, at the ready node that the order takes
abbrev pub expression_step : CSetting → CState → CWork → CPurpose → CState
expression_step setting state work purpose =
    let one = picked state.order (ready work) in
    after_step setting (record state { order = one.order }) purpose
    (step_at setting (frame_for state purpose) (blocks_of state.world) one.pick work)

-- ---- uses of finished values

-- the end of a full expression drops all marks before an initial value is stored (6.8p4)
abbrev pub after_store : CState → Place → CPutting → Result CStored CWhy → CState
after_store state place one (Ok done) =
    at_stand state state.world (putting one.object one.others one.behind done.blocks)
after_store state place one (Err why) = stopped_by state place why

-- a value is given back: U14 where there is none
abbrev pub value_given : CValue → Result CValue CWhy
value_given missing = Err (breaks U14)
value_given (scalar value) = Ok (scalar value)
value_given (cells held from) = Ok (cells held from)
value_given (names number) = Err stuck
value_given (designates to) = Err stuck
value_given (designates_bits at bit width) = Err stuck

abbrev pub after_give : CState → Place → CSite → Result CValue CWhy → CState
after_give state place site (Ok value) = returning state value site
after_give state place site (Err why) = stopped_by state place why

abbrev pub choice_made : Bool → Blocks → CValue → CLevel → List CLevel → CBottom → Result CStand CWhy
choice_made true blocks value level outer bottom =
    and_then (scalar_value value) (λ one.
    and_then (number_in one) (λ number. Ok (switching level.form number level outer bottom blocks)))
choice_made false blocks value level outer bottom =
    and_then (truth_of_value blocks value) (λ holds. Ok (choosing level.form holds level outer bottom blocks))

-- the innermost open statement chooses by a value
abbrev pub choice_at : Blocks → CValue → List CLevel → CBottom → Result CStand CWhy
choice_at blocks value [] bottom = Err stuck
choice_at blocks value (level ∷ outer) bottom = choice_made (is_switch level.form) blocks value level outer bottom

abbrev pub after_choice : CState → Place → Result CStand CWhy → CState
after_choice state place (Ok one) = at_stand state state.world one
after_choice state place (Err why) = stopped_by state place why

abbrev pub use_step : CSetting → CState → COperand → CPurpose → CState
use_step setting state operand (puts_it place one) =
    after_store state place one
    (put_stored setting (frame_for state (puts_it place one)) (blocks_of state.world) one.object one.spot one.type
    (with_marks no_marks operand))
use_step setting state operand (drops_it site) = finished_for state state.world operand (drops_it site)
use_step setting state operand (turns_on site) = finished_for state state.world operand (turns_on site)
use_step setting state operand (gives_it place site) = after_give state place site (value_given operand.value)
use_step setting state operand (chooses_by place site) =
    after_choice state place (choice_at (blocks_of state.world) operand.value site.levels site.bottom)

-- ---- lives of objects

-- the type of the object with a number, and its size and alignment
pub record CShape : Type 0 where
  pub type : CTy
  pub laid : Laid

abbrev pub shape_of : CSetting → ℕ → Result CShape CWhy
shape_of setting number =
    and_then (needed (object_with number setting.program.objects)) (λ one.
    and_then (needed (extent_in setting one.type)) (λ laid. Ok (record { type = one.type; laid = laid })))

abbrev pub as_stop : {A : Type 0} → Place → Result A CWhy → Result A CStop
as_stop place (Ok value) = Ok value
as_stop place (Err why) = Err (stops why place)

-- the life of an object begins, all of its bits unset
abbrev pub object_begins : CSetting → Place → ℕ → World → Result (Got Ptr) CStop
object_begins setting place number world =
    and_then (as_stop place (shape_of setting number)) (λ shape.
    object_begun false shape.laid.size shape.laid.align world)

abbrev pub slot : ℕ → Ptr → Slot
slot number at = record { object = number; block = at.block }

abbrev pub with_slot : Slot → CLevel → CLevel
with_slot new level = record level { slots = level.slots ++ new ∷ [] }

abbrev pub after_begin : CSetting → CState → CBeginning → Result (Got Ptr) CStop → CState
after_begin setting state one (Ok got) =
    at_stand state got.world
    (beginning setting one.others one.goal (with_slot (slot one.object got.value) one.level) one.outer (blocks_of got.world))
after_begin setting state one (Err stop) = stopped state stop

-- a parameter begins with its argument in it (6.5.2.2p4)
abbrev pub argument_stored : CSetting → Place → ℕ → CValue → Got Ptr → Result (Got Ptr) CStop
argument_stored setting place number value got =
    and_then (as_stop place (shape_of setting number)) (λ shape.
    and_then (as_stop place (stored setting [] (blocks_of got.world) (unqualified shape.type) (designates (Pointer got.value)) value no_marks)) (λ one.
    Ok (record { value = got.value; world = with_memory one.blocks got.world })))

abbrev pub param_begins : CSetting → Place → ℕ → CValue → World → Result (Got Ptr) CStop
param_begins setting place number value world =
    and_then (object_begins setting place number world) (argument_stored setting place number value)

abbrev pub after_param : CState → CFun → ℕ → List ℕ → List CValue → Frame → Result (Got Ptr) CStop → CState
after_param state callee number params args frame (Ok got) =
    at_control state got.world (taking callee params args (frame ++ slot number got.value ∷ []))
after_param state callee number params args frame (Err stop) = stopped state stop

abbrev pub place_of_body : CStmt → Place
place_of_body (stmt place objects form) = place

abbrev pub take_step : CSetting → CState → CFun → List ℕ → List CValue → Frame → CState
take_step setting state callee (number ∷ params) (value ∷ args) frame =
    after_param state callee number params args frame
    (param_begins setting (place_of_body callee.body) number value state.world)
take_step setting state callee params args frame = stopped_by state (place_of_body callee.body) stuck

-- ---- static objects (6.2.4p3)

abbrev pub statics_first : CObject → Option CPuts → List CObject → List CObject
statics_first one None others = others
statics_first one (Some puts) others = one ∷ others

-- the static objects of a list that are defined
abbrev pub statics_in : List CObject → List CObject
statics_in [] = []
statics_in (one ∷ others) = statics_first one one.puts (statics_in others)

-- the next static object begins, or the first value is stored
abbrev pub beginning_statics : List CObject → List CObject → CControl
beginning_statics [] all = control_of (static_puts all)
beginning_statics (one ∷ others) all = begins_static one others

-- its life begins, all of its bytes 0 (6.7.8p10)
abbrev pub static_begins : CSetting → CObject → World → Result (Got Ptr) CStop
static_begins setting one world =
    and_then (as_stop no_place (needed (extent_in setting one.type))) (λ laid.
    object_begun true laid.size laid.align world)

abbrev pub after_static : CSetting → CState → CObject → List CObject → Result (Got Ptr) CStop → CState
after_static setting state one others (Ok got) = record state {
  control = beginning_statics others (statics_in setting.program.objects);
  statics = state.statics ++ slot one.object got.value ∷ [];
  world = got.world;
}
after_static setting state one others (Err stop) = stopped state stop

-- ---- steps

-- the call of `main`; a linked program has one
abbrev pub main_called : Option CFun → CControl
main_called None = has_stopped (stops stuck no_place)
main_called (Some one) = taking one one.params [] []

abbrev pub move_step : CSetting → CState → CMove → CState
move_step setting state (values value purpose) = at_control state state.world (evaluating (begun value) purpose)
move_step setting state (reaches one site) =
    at_stand state state.world (reached setting one site (blocks_of state.world))
move_step setting state (begins one) =
    after_begin setting state one (object_begins setting no_place one.object state.world)
move_step setting state (leaves value site) = returning state value site
move_step setting state calls_main = at_control state state.world (main_called (main_of setting.program))
move_step setting state (goes_nowhere place) = stopped_by state place stuck

abbrev pub step_of : CSetting → CState → CControl → CState
step_of setting state (begins_static one others) = after_static setting state one others (static_begins setting one state.world)
step_of setting state (moves one) = move_step setting state one
step_of setting state (evaluates work purpose) = expression_step setting state work purpose
step_of setting state (uses operand purpose) = use_step setting state operand purpose
step_of setting state (takes one) = take_step setting state one.callee one.params one.args one.frame
step_of setting state (has_ended status) = state
step_of setting state (has_stopped stop) = state

-- one step. A run that has ended, or that goes no further, stays as it is.
abbrev pub c_step : CSetting → CState → CState
c_step setting state = step_of setting state state.control
