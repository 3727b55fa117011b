-- Typed states of a running program (ISO C99, 5.1.2, 6.2.4, 6.5.2.2 and 6.8): what is evaluated is typed where it stands, what is done
-- with its value takes a value of its type, each function that waits gets one of the type of its call, and each object in scope lives
-- in a block of its own.
use Rattle.std.specs.Prelude.{◌≡◌, ◌≢◌, ◌⊎◌, ℕ, Bool, true, false, eqb, List, [], ◌∷◌, ◌++◌, map, Option, Some, None, IfSome, IsSome, All}
use Rattle.std.specs.List.{Contains, IsDistinct}
use Rattle.cr_base.specs.declared.layout.Spot.{Spot}
use Rattle.cr_world.specs.Laws.{HeapLives}
use Rattle.cr_world.specs.World.{blocks_of, wrong, full, asks, astray}
use Rattle.cx_core.specs.Compatible.{AreCompatible}
use Rattle.cx_core.specs.Conversions.{IsPromoted, IsScalarType}
use Rattle.cx_core.specs.declared.ty.Basic.TheVariants.{Int}
use Rattle.cx_core.specs.Linked.{IsLinked, home_of}
use Rattle.cx_core.specs.Statements.{CBody, AreBlockObjects, IsTypedStmtForm, with_objects}
use Rattle.cx_core.specs.Trees.{CTy, basic, form_of_type, unqualified, CTypes, CExpr, type_of, CPuts, CStmtForm, if_then, switch, while, do_while, for_loop, CObject, CFun, CProgram}
use Rattle.cx_core.specs.Typing.{CHome, IsTyped, object_with, IsResult, ArePuts, IsConstant, AreConstantPuts}
use Rattle.cx_core.specs.ValidTypes.{IsPartOf, IsComplete, IsResultForm}
use Rattle.cx_mean.specs.Moves.{CBehind, in_body, of_statics, CPutting, CPurpose, puts_it, drops_it, turns_on, gives_it, chooses_by, CGoal, does_form, follows, CBeginning, CMove, values, reaches, begins, leaves, calls_main, goes_nowhere, slots_in, slots_of_site}
use Rattle.cx_mean.specs.Operands.{CStop, CValue, COperand, Slot, Frame}
use Rattle.cx_mean.specs.Paths.{CRest, nothing_left, CLevel, CSite}
use Rattle.cx_mean.specs.State.{CCaller, CTaking, CControl, begins_static, moves, evaluates, uses, takes, has_ended, has_stopped, CState, statics_in, own_frame}
use Rattle.cx_mean.specs.Work.{CWork, is_finished, is_waiting}
use Rattle.cx_typed_work.specs.Calls.{IsWaitingFor, IsReturned}
use Rattle.cx_typed_work.specs.Operands.{IsValueOfType, IsOperandOf}
use Rattle.cx_typed_work.specs.Scenes.{IsTypedMemory}
use Rattle.cx_typed_work.specs.Steps.{IsRule}
use Rattle.cx_typed_work.specs.Works.{IsWorkOf}
use Rattle.cx_typed_runs.specs.Sites.{objects_of, AreOwned, inside_by, is_loop_form, IsLeftOf, form_of_stmt, IsReached, IsTypedWay, IsRunning, whole_body, body_at, IsSite, home_at}

-- ---- where an expression is evaluated

-- in a function of a result type, or before `main`, for an object of a unit
pub data CRunning : Type 0 where
  in_function : CFun → (result : CTy) → CRunning
  before_main : (unit : ℕ) → CRunning

abbrev pub levels_behind : CBehind → List CLevel
levels_behind (in_body site) = site.levels
levels_behind (of_statics others) = []

abbrev pub levels_for : CPurpose → List CLevel
levels_for (puts_it place one) = levels_behind one.behind
levels_for (drops_it site) = site.levels
levels_for (turns_on site) = site.levels
levels_for (gives_it place site) = site.levels
levels_for (chooses_by place site) = site.levels

-- what an expression may name, by what is done with its value
abbrev pub home_in : CProgram → CRunning → CPurpose → CHome
home_in program (in_function one result) purpose = home_at program one result (levels_for purpose)
home_in program (before_main unit) purpose = home_of program None unit

-- ---- what is done with a value

-- a value of a type is stored in a part of an object, and the puts behind it are typed (6.7.8)
pub record IsPuttingOf (home : CHome) (type : CTy) (one : CPutting) : Type 0 where
  pub object : CObject
  pub object_is : object_with one.object home.program.objects ≡ Some object
  pub part : IsPartOf home.program.types object.type one.spot one.type
  pub no_array : IsResultForm (form_of_type one.type)
  pub value_is : type ≡ unqualified one.type
  pub others : ArePuts home object.type one.others

abbrev pub AreStatics : CProgram → List CObject → Type 0
AreStatics program others = All (λ one. Contains (statics_in program.objects) one) others

-- the statement that chooses by a value of a type: `switch` by a promoted integer, the others by a scalar (6.8.4, 6.8.5)
abbrev pub ChoosesIn : CTypes → CTy → CStmtForm → Type 0
ChoosesIn types type (switch value body) = IsPromoted type
ChoosesIn types type (if_then test body otherwise) = IsScalarType types type
ChoosesIn types type (while test body) = IsScalarType types type
ChoosesIn types type (do_while body test) = IsScalarType types type
ChoosesIn types type (for_loop first test next body) = IsScalarType types type
ChoosesIn types type form = ⊥

-- the innermost open statement is one that chooses by a value of a type
abbrev pub Chooses : CTypes → CTy → List CLevel → Type 0
Chooses types type [] = ⊥
Chooses types type (level ∷ outer) = ChoosesIn types type level.form

-- the innermost open statement is a loop
abbrev pub Turns : List CLevel → Type 0
Turns [] = ⊥
Turns (level ∷ outer) = is_loop_form level.form ≡ true

-- in a function
abbrev pub IsPurposeIn : CProgram → CFun → CTy → CTy → CPurpose → Type 0
IsPurposeIn program one result type (puts_it place putting) = elim putting.behind as (λ _. Type 0) [
  | in_body site ↦
      IsSite program one result site × IsPuttingOf (home_at program one result site.levels) type putting
      × Contains (home_at program one result site.levels).scope putting.object
  | of_statics others ↦ ⊥
]
IsPurposeIn program one result type (drops_it site) = IsSite program one result site
IsPurposeIn program one result type (turns_on site) = IsSite program one result site × Turns site.levels
IsPurposeIn program one result type (gives_it place site) =
    IsSite program one result site × (type ≡ unqualified result) × IsComplete program.types result
IsPurposeIn program one result type (chooses_by place site) =
    IsSite program one result site × Chooses program.types type site.levels

-- before `main`
abbrev pub IsFirstPurpose : CProgram → ℕ → CTy → CPurpose → Type 0
IsFirstPurpose program unit type (puts_it place putting) = elim putting.behind as (λ _. Type 0) [
  | in_body site ↦ ⊥
  | of_statics others ↦
      (is : IsPuttingOf (home_of program None unit) type putting) × Contains (statics_in program.objects) is.object
      × AreConstantPuts program putting.others × AreStatics program others
]
IsFirstPurpose program unit type purpose = ⊥

-- a value of a type is one that is taken there
abbrev pub IsPurposeOf : CProgram → CRunning → CTy → CPurpose → Type 0
IsPurposeOf program (in_function one result) type purpose = IsPurposeIn program one result type purpose
IsPurposeOf program (before_main unit) type purpose = IsFirstPurpose program unit type purpose

-- ---- functions that wait

-- it waits for one whose value it takes as that of its call (6.5.2.2p5, 6.2.7p2)
pub record IsCaller (program : CProgram) (given : CTy) (one : CFun) (result : CTy) (caller : CCaller) : Type 0 where
  pub node : CExpr
  pub typed : IsTyped (home_in program (in_function one result) caller.purpose) node
  pub left : IsWorkOf (home_in program (in_function one result) caller.purpose) node caller.work
  -- the result type of the function as the call sees it
  pub visible : CTy
  pub is_result : IsResult program.types visible
  pub waits : is_waiting caller.work ≡ true
  pub waiting : IsWaitingFor (unqualified visible) caller.work
  pub compatible : AreCompatible program.types visible given
  pub fits : IsPurposeIn program one result (type_of node) caller.purpose

-- the functions that wait for one of a result type; the one that was called first gives a status (5.1.2.2.3)
abbrev pub AreCallers : CProgram → CTy → List CCaller → Type 0
AreCallers program given [] = form_of_type given ≡ basic Int
AreCallers program given (caller ∷ others) =
    (one : CFun) × (result : CTy) × IsCaller program given one result caller × AreCallers program result others

-- ---- where a run stands

-- what is stored before `main` is constant (6.7.8p4)
abbrev pub IsConstantAt : CProgram → CRunning → CExpr → Type 0
IsConstantAt program (in_function one result) node = Unit {0}
IsConstantAt program (before_main unit) node = IsConstant program node

-- a full expression is evaluated, and its value taken
pub record IsEvaluated (program : CProgram) (running : CRunning) (work : CWork) (purpose : CPurpose) : Type 0 where
  pub node : CExpr
  pub typed : IsTyped (home_in program running purpose) node
  pub constant : IsConstantAt program running node
  pub left : IsWorkOf (home_in program running purpose) node work
  pub unfinished : is_finished work ≡ false
  pub waits_not : is_waiting work ≡ false
  pub fits : IsPurposeOf program running (type_of node) purpose

pub record IsUsed (program : CProgram) (running : CRunning) (operand : COperand) (purpose : CPurpose) : Type 0 where
  pub node : CExpr
  pub typed : IsTyped (home_in program running purpose) node
  pub operand_is : IsOperandOf (home_in program running purpose) node operand
  pub fits : IsPurposeOf program running (type_of node) purpose

-- a full expression is next
pub record IsNext (program : CProgram) (running : CRunning) (node : CExpr) (purpose : CPurpose) : Type 0 where
  pub constant : IsConstantAt program running node
  pub typed : IsTyped (home_in program running purpose) node
  pub fits : IsPurposeOf program running (type_of node) purpose

-- the objects of a statement whose lives begin, those that have begun first
abbrev pub objects_begun : CBeginning → List ℕ
objects_begun one = objects_of one.level.slots ++ one.object ∷ one.others

-- a statement is opened, or a way goes on inside of it
abbrev pub IsGoalOf : CBody → CStmtForm → CRest → CGoal → Type 0
IsGoalOf body form rest (does_form place) = rest ≡ nothing_left
IsGoalOf body form rest (follows way) = IsTypedWay (inside_by rest form body) way

-- the objects of a statement begin
pub record IsBeginning (program : CProgram) (one : CFun) (result : CTy) (beginning : CBeginning) : Type 0 where
  pub outer : IsSite program one result beginning.outer
  pub first : beginning.outer.levels ≡ [] → beginning.level.form ≡ form_of_stmt one.body
  pub declares : List ℕ
  pub in_scope : (number : ℕ) → Contains declares number → Contains (objects_of (slots_in beginning.outer.levels)) number
  pub objects : AreBlockObjects (body_at (whole_body program one result) beginning.outer.levels).home (objects_begun beginning)
  pub form : IsTypedStmtForm (with_objects (objects_begun beginning) (body_at (whole_body program one result) beginning.outer.levels)) declares (objects_begun beginning) beginning.level.form
  pub rest : IsLeftOf (with_objects (objects_begun beginning) (body_at (whole_body program one result) beginning.outer.levels)) (objects_begun beginning) beginning.level.form beginning.level.rest
  pub goal : IsGoalOf (with_objects (objects_begun beginning) (body_at (whole_body program one result) beginning.outer.levels)) beginning.level.form beginning.level.rest beginning.goal

-- what is next in a function
abbrev pub IsMoveIn : CProgram → CFun → CTy → CMove → Type 0
IsMoveIn program one result (values node purpose) = IsNext program (in_function one result) node purpose
IsMoveIn program one result (reaches reached site) =
    IsSite program one result site × IsReached (whole_body program one result) one site.levels reached
IsMoveIn program one result (begins beginning) = IsBeginning program one result beginning
IsMoveIn program one result (leaves value site) = IsSite program one result site × IsReturned program (unqualified result) value
IsMoveIn program one result calls_main = ⊥
IsMoveIn program one result (goes_nowhere place) = ⊥

-- before `main`, the value of an object is next, or `main` is
abbrev pub IsFirstMove : CProgram → ℕ → CMove → Type 0
IsFirstMove program unit (values node purpose) = IsNext program (before_main unit) node purpose
IsFirstMove program unit calls_main = Unit {0}
IsFirstMove program unit move = ⊥

abbrev pub IsMoveOf : CProgram → CRunning → CMove → Type 0
IsMoveOf program (in_function one result) move = IsMoveIn program one result move
IsMoveOf program (before_main unit) move = IsFirstMove program unit move

-- arguments are values of the types of parameters
abbrev pub AreForParams : CProgram → List ℕ → List CValue → Type 0
AreForParams program [] [] = Unit {0}
AreForParams program [] (value ∷ args) = ⊥
AreForParams program (number ∷ params) [] = ⊥
AreForParams program (number ∷ params) (value ∷ args) =
    (one : CObject) × (object_with number program.objects ≡ Some one) × IsValueOfType program (unqualified one.type) value
    × AreForParams program params args

-- the parameters of a function that was called begin
pub record IsTaking (program : CProgram) (result : CTy) (one : CTaking) : Type 0 where
  pub running : IsRunning program one.callee result
  pub params_are : objects_of one.frame ++ one.params ≡ one.callee.params
  -- behind the last one the body is reached at once
  pub are_left : one.params ≢ []
  pub args : AreForParams program one.params one.args

-- nothing waits before `main`
abbrev pub AreWaiting : CProgram → CRunning → List CCaller → Type 0
AreWaiting program (in_function one result) callers = AreCallers program result callers
AreWaiting program (before_main unit) callers = callers ≡ []

-- a static object lives, or its life is still to begin
abbrev pub IsBegunOr : List CObject → Frame → CObject → Type 0
IsBegunOr left statics one = Contains (objects_of statics) one.object ⊎ Contains left one

-- each static object that is defined lives, but those whose lives are still to begin
abbrev pub AreBegun : CProgram → List CObject → Frame → Type 0
AreBegun program left statics = All (IsBegunOr left statics) (statics_in program.objects)

-- no run of a typed program stops for a reason that no rule names (3.4.3), but one under a trail for want of an answer or of store
abbrev pub StopsByRule : CStop → Type 0
StopsByRule (wrong fault) = IsRule fault.why
StopsByRule (full need left) = Unit {0}
StopsByRule (asks call) = Unit {0}
StopsByRule astray = Unit {0}

abbrev pub IsControl : CProgram → Frame → List CCaller → CControl → Type 0
IsControl program statics callers (begins_static one others) =
    (callers ≡ []) × AreStatics program (one ∷ others) × AreBegun program (one ∷ others) statics
IsControl program statics callers (moves move) =
    (running : CRunning) × IsMoveOf program running move × AreWaiting program running callers × AreBegun program [] statics
IsControl program statics callers (evaluates work purpose) =
    (running : CRunning) × IsEvaluated program running work purpose × AreWaiting program running callers × AreBegun program [] statics
IsControl program statics callers (uses operand purpose) =
    (running : CRunning) × IsUsed program running operand purpose × AreWaiting program running callers × AreBegun program [] statics
IsControl program statics callers (takes one) =
    (result : CTy) × IsTaking program result one × AreCallers program result callers × AreBegun program [] statics
IsControl program statics callers (has_ended status) = Unit {0}
IsControl program statics callers (has_stopped stop) = StopsByRule stop

-- ---- objects in scope

abbrev pub slots_of_move : CMove → Frame
slots_of_move (values node purpose) = own_frame purpose
slots_of_move (reaches reached site) = slots_of_site site
slots_of_move (begins one) = one.level.slots ++ slots_of_site one.outer
slots_of_move (leaves value site) = slots_of_site site
slots_of_move calls_main = []
slots_of_move (goes_nowhere place) = []

abbrev pub slots_of_control : CControl → Frame
slots_of_control (begins_static one others) = []
slots_of_control (moves move) = slots_of_move move
slots_of_control (evaluates work purpose) = own_frame purpose
slots_of_control (uses operand purpose) = own_frame purpose
slots_of_control (takes one) = one.frame
slots_of_control (has_ended status) = []
slots_of_control (has_stopped stop) = []

abbrev pub slots_of_callers : List CCaller → Frame
slots_of_callers [] = []
slots_of_callers (caller ∷ others) = own_frame caller.purpose ++ slots_of_callers others

-- the slots of all objects of functions that run, and of the static ones
abbrev pub all_slots : CState → Frame
all_slots state = slots_of_control state.control ++ (slots_of_callers state.callers ++ state.statics)

-- ---- states

-- the state of a run of a typed program
pub record IsTypedState (program : CProgram) (state : CState) : Type 0 where
  pub memory : IsTypedMemory program (blocks_of state.world)
  pub held : HeapLives state.world.held
  pub owned : AreOwned program state.world.held (all_slots state)
  pub control : IsControl program state.statics state.callers state.control
