-- A call of a typed program: a function that a unit defines takes its arguments, and what called it waits; one that no unit defines is answered
-- (ISO C99, 6.5.2.2).
use Rattle.std.proofs.Common.{◌≡◌, refl, sym, ap, ◌∙◌, subst, ℕ, Bool, List, [], ◌∷◌, None, append_assoc, true}
use Rattle.std.specs.List.{Contains}
use Rattle.cx_core.specs.Compatible.{AreCompatible}
use Rattle.cx_core.specs.Linked.{IsLinked, IsTypedFunction, home_of}
use Rattle.cx_core.specs.Statements.{IsDefinitionOf}
use Rattle.cx_core.specs.Trees.{CTy, CTyForm, void, basic, enum_type, pointer, array, record_type, function, CParams, form_of_type, unqualified, CExpr, type_of, CFun, CProgram}
use Rattle.cx_core.specs.Typing.{IsTyped, IsResult}
use Rattle.cx_mean.specs.Calls.{CCallee, defined, external, CCalled, type_of_callee, external_call}
use Rattle.cx_mean.specs.Moves.{CPurpose}
use Rattle.cx_mean.specs.Operands.{CValue, COperand}
use Rattle.cx_mean.specs.Settings.{setting_of}
use Rattle.cx_mean.specs.State.{CState, values_of_args, calling, own_frame}
use Rattle.cx_mean.specs.Work.{CWork, is_waiting}
use Rattle.cx_typed_work.proofs.AlikeCalls.{AreForParams as AreTakenFor, call_taken}
use Rattle.cx_typed_work.proofs.AlikeFunctions.{results_alike}
use Rattle.cx_typed_work.proofs.ExternalCalls.{external_calls_give_typed}
use Rattle.cx_typed_work.specs.Calls.{IsCalleeIn, IsCalledAs, IsTypedCall, IsWaitingFor}
use Rattle.cx_typed_work.specs.Works.{IsWorkOf}
use Rattle.cx_typed_runs.proofs.CallsOutside.{outside_held, answered_typed}
use Rattle.cx_typed_runs.proofs.Evaluating.{IsReady}
use Rattle.cx_typed_runs.proofs.GoingOn.{AllStand}
use Rattle.cx_typed_runs.proofs.Scenes.{all_of}
use Rattle.cx_typed_runs.proofs.Taking.{IsAround, definition_of, taking_typed}
use Rattle.cx_typed_runs.specs.Sites.{AreOwned, IsRunning}
use Rattle.cx_typed_runs.specs.States.{in_function, home_in, IsPurposeOf, AreForParams, slots_of_callers, IsTypedState}

-- ---- functions that a unit defines

running_by : (program : CProgram) (one : CFun) (form : CTyForm) → Contains program.functions one → form_of_type one.type ≡ form → IsDefinitionOf (home_of program None one.unit) one form → (result : CTy) × IsRunning program one result
running_by program one (function result params variadic) there is definition = (result, record { defined = there; params = params; variadic = variadic; type_is = is })
running_by program one void there is definition = absurd definition
running_by program one (basic which) there is definition = absurd definition
running_by program one (enum_type number) there is definition = absurd definition
running_by program one (pointer to) there is definition = absurd definition
running_by program one (array element count) there is definition = absurd definition
running_by program one (record_type number) there is definition = absurd definition

-- a function that is defined has a function type
pub running_of : (program : CProgram) (one : CFun) → IsLinked program → Contains program.functions one → (result : CTy) × IsRunning program one result
running_of program one linked there =
    running_by program one (form_of_type one.type) there refl (all_of (IsTypedFunction program None) program.functions one linked.functions there).definition

pub for_params : (program : CProgram) (params : List ℕ) (args : List CValue) → AreTakenFor program params args → AreForParams program params args
for_params program [] [] are = tt
for_params program [] (value ∷ args) are = absurd are
for_params program (number ∷ params) [] are = absurd are
for_params program (number ∷ params) (value ∷ args) are = (are.0, are.1, are.2, for_params program params args are.3)

-- the type of a call is that of a result, as the call sees it, which is compatible with what the function gives
pub record IsSeenAs (program : CProgram) (type given : CTy) : Type 0 where
  pub visible : CTy
  pub is_result : IsResult program.types visible
  pub type_is : type ≡ unqualified visible
  pub compatible : AreCompatible program.types visible given

pub seen_by : (program : CProgram) (visible of_function given type : CTy) (params : CParams) (variadic : Bool) (args : List COperand) (form : CTyForm) → AreCompatible program.types visible of_function → form_of_type visible ≡ form
    → form_of_type of_function ≡ function given params variadic → IsCalledAs program form type args → IsSeenAs program type given
seen_by program visible of_function given type params variadic args (function result own own_variadic) by is of_is called = record {
  visible = result;
  is_result = called.1;
  type_is = called.0;
  compatible = results_alike program.types visible of_function result given own params own_variadic variadic by is of_is;
}
seen_by program visible of_function given type params variadic args void by is of_is called = absurd called
seen_by program visible of_function given type params variadic args (basic which) by is of_is called = absurd called
seen_by program visible of_function given type params variadic args (enum_type number) by is of_is called = absurd called
seen_by program visible of_function given type params variadic args (pointer to) by is of_is called = absurd called
seen_by program visible of_function given type params variadic args (array element count) by is of_is called = absurd called
seen_by program visible of_function given type params variadic args (record_type number) by is of_is called = absurd called

-- what calls waits
record IsCallOf (program : CProgram) (one : CFun) (result : CTy) (state : CState) (work : CWork) (purpose : CPurpose) (called : CCalled) : Type 0 where
  ready : IsReady program (in_function one result) state state.world purpose
  node : CExpr
  typed : IsTyped (home_in program (in_function one result) purpose) node
  left : IsWorkOf (home_in program (in_function one result) purpose) node work
  waits : is_waiting work ≡ true
  waiting : IsWaitingFor called.type work
  call : IsTypedCall program called
  fits : IsPurposeOf program (in_function one result) (type_of node) purpose

abbrev waiting_in : CState → CWork → CPurpose → CState
waiting_in state work purpose = record state { callers = record { work = work; purpose = purpose } ∷ state.callers }

callee_around : (program : CProgram) (one : CFun) (result given : CTy) (state : CState) (work : CWork) (purpose : CPurpose) (called : CCalled) → IsCallOf program one result state work purpose called → IsSeenAs program called.type given
    → IsAround program given (waiting_in state work purpose) state.world []
callee_around program one result given state work purpose called is seen = record {
  linked = is.ready.linked;
  memory = is.ready.memory;
  held = is.ready.held;
  owned = subst (AreOwned program state.world.held) (sym (append_assoc (own_frame purpose) (slots_of_callers state.callers) state.statics)) is.ready.owned;
  callers = (
    one,
    result,
    record {
      node = is.node;
      typed = is.typed;
      left = is.left;
      visible = seen.visible;
      is_result = seen.is_result;
      waits = is.waits;
      waiting = subst (λ type. IsWaitingFor type work) seen.type_is is.waiting;
      compatible = seen.compatible;
      fits = is.fits;
    },
    is.ready.callers,
  );
  begun = is.ready.begun;
}

own_typed : (program : CProgram) (one : CFun) (result : CTy) (state : CState) (work : CWork) (purpose : CPurpose) (called : CCalled) (target : CFun) (given : CTy) → called.callee ≡ defined target → IsRunning program target given
    → IsCallOf program one result state work purpose called → IsTypedState program (calling (setting_of program) state work purpose called (defined target))
own_typed program one result state work purpose called target given callee_is running is =
    let of_function : form_of_type (type_of_callee called.callee) ≡ function given running.params running.variadic = ap (λ callee. form_of_type (type_of_callee callee)) callee_is ∙ running.type_is in
    let seen = seen_by program is.call.visible (type_of_callee called.callee) given called.type running.params running.variadic called.args (form_of_type is.call.visible) is.call.compatible refl of_function is.call.called_as in
    taking_typed program target given (waiting_in state work purpose) state.world target.params (values_of_args called.args) [] (callee_around program one result given state work purpose called is seen) running refl
    (for_params program target.params (values_of_args called.args)
    (call_taken (home_of program None target.unit) called target given running.params running.variadic is.ready.linked.types is.call callee_is running.type_is
    (definition_of program target given is.ready.linked running)))

-- ---- the step

called_typed : AllStand → (program : CProgram) (one : CFun) (result : CTy) (state : CState) (work : CWork) (purpose : CPurpose) (called : CCalled) (callee : CCallee) → called.callee ≡ callee → IsCallOf program one result state work purpose called
    → IsTypedState program (calling (setting_of program) state work purpose called callee)
called_typed all program one result state work purpose called (defined target) callee_is is =
    let there : Contains program.functions target = subst (IsCalleeIn program) callee_is is.call.callee_in in
    let running = running_of program target is.ready.linked there in
    own_typed program one result state work purpose called target running.0 callee_is running.1 is
called_typed all program one result state work purpose called (external outer) callee_is is =
    answered_typed all program one result state is.node work purpose called.type is.ready is.typed is.left is.fits is.waiting (external_call (setting_of program) called outer state.world)
    (external_calls_give_typed program called outer state.world is.call callee_is is.ready.memory) (outside_held (setting_of program) called outer state.world is.ready.held)

pub calling_typed : AllStand → (program : CProgram) (one : CFun) (result : CTy) (state : CState) (node : CExpr) (work : CWork) (purpose : CPurpose) (called : CCalled) → IsReady program (in_function one result) state state.world purpose
    → IsTyped (home_in program (in_function one result) purpose) node → IsWorkOf (home_in program (in_function one result) purpose) node work → is_waiting work ≡ true → IsWaitingFor called.type work → IsTypedCall program called
    → IsPurposeOf program (in_function one result) (type_of node) purpose → IsTypedState program (calling (setting_of program) state work purpose called called.callee)
calling_typed all program one result state node work purpose called ready typed left waits waiting call fits =
    called_typed all program one result state work purpose called called.callee refl
    (record { ready = ready; node = node; typed = typed; left = left; waits = waits; waiting = waiting; call = call; fits = fits })
