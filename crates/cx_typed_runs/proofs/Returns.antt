-- A function returns: its objects die, and what called it goes on with the value, or the program ends (ISO C99, 5.1.2.2.3, 6.2.4p5, 6.8.6.4,
-- 6.9.1p12).
use Rattle.std.proofs.Common.{◌≡◌, inl, inr, refl, sym, ap, ◌∙◌, subst, ℤ, Bool, true, false, ◌||◌, List, [], ◌∷◌, ◌++◌, Some, Result, Ok, Err, append_assoc}
use Rattle.cr_base.specs.declared.scalar.Scalar.{Scalar}
use Rattle.cr_base.specs.declared.scalar.Scalar.TheVariants.{Whole}
use Rattle.cr_world.specs.World.{World, blocks_of}
use Rattle.cx_core.specs.Conversions.{scalar_of}
use Rattle.cx_core.specs.declared.ty.Basic.TheVariants.{Int}
use Rattle.cx_core.specs.Trees.{CTy, ty, void, basic, enum_type, pointer, array, record_type, function, form_of_type, unqualified, CTypes, CExpr, type_of, CFun, CProgram}
use Rattle.cx_core.specs.Typing.{IsTyped, IsResult}
use Rattle.cx_mean.specs.Moves.{CPurpose, slots_of_site}
use Rattle.cx_mean.specs.Operands.{CWhy, breaks, stuck, CValue, scalar, cells, names, designates, designates_bits, missing}
use Rattle.cx_mean.specs.Paths.{CSite}
use Rattle.cx_mean.specs.State.{CCaller, CState, going_on, own_frame, given_back, status_in, ended_by, returned_to, after_return, returning}
use Rattle.cx_mean.specs.Values.{number_in}
use Rattle.cx_mean.specs.Work.{CWork, finished, needs, chooses, tests, carries, updates, fills, waits, CWorks, no_works, more_works, is_waiting, are_waiting, resumed, all_resumed}
use Rattle.mem_bytes.specs.Coding.{IsValueOf}
use Rattle.mem_bytes.specs.declared.value.Value.{Value}
use Rattle.mem_bytes.specs.declared.value.Value.TheVariants.{Whole as Number, Null, Object as Pointer, Code as Function}
use Rattle.cx_typed_values.specs.Outcomes.{Comes}
use Rattle.cx_typed_work.proofs.AlikeCalls.{returned_alike, result_unqualified}
use Rattle.cx_typed_work.proofs.AlikeValues.{alike_unqualified}
use Rattle.cx_typed_work.proofs.AskingOnce.{carried_waits}
use Rattle.cx_typed_work.proofs.Resuming.{calls_resume_typed}
use Rattle.cx_typed_work.specs.Calls.{IsWaitingFor, IsReturned}
use Rattle.cx_typed_work.specs.Operands.{IsRecordForm}
use Rattle.cx_typed_work.specs.Works.{IsWorkOf}
use Rattle.cx_typed_runs.proofs.Evaluating.{IsReady, home_program}
use Rattle.cx_typed_runs.proofs.GoingOn.{AllStand, others_of, going_on_typed}
use Rattle.cx_typed_runs.proofs.Owned.{killed_owned, killed_held, memory_without}
use Rattle.cx_typed_runs.proofs.Taking.{IsAround}
use Rattle.cx_typed_runs.specs.Sites.{AreOwned}
use Rattle.cx_typed_runs.specs.States.{in_function, home_in, IsPurposeOf, AreCallers, slots_of_callers, IsTypedState}

-- ---- the value of a call takes its place

neither : (one other : Bool) → one ≡ false → other ≡ false → (one || other) ≡ false
neither true other e f = cc (e)
neither false other e f = f

mutual
  -- what has its value waits for no call
  pub resumed_free : (value : CValue) (work : CWork) → is_waiting (resumed value work) ≡ false
  resumed_free value (finished operand) = refl
  resumed_free value (needs node operands) = all_resumed_free value operands
  resumed_free value (chooses node first) = resumed_free value first
  resumed_free value (tests node marks second) = resumed_free value second
  resumed_free value (carries node marks part) = carried_waits node marks (resumed value part) ∙ resumed_free value part
  resumed_free value (updates node update stage marks) = refl
  resumed_free value (fills node marks one others held) = resumed_free value held
  resumed_free value (waits node marks) = refl

  all_resumed_free : (value : CValue) (works : CWorks) → are_waiting (all_resumed value works) ≡ false
  all_resumed_free value no_works = refl
  all_resumed_free value (more_works first others) =
      neither (is_waiting (resumed value first)) (are_waiting (all_resumed value others)) (resumed_free value first) (all_resumed_free value others)

-- a full expression goes on with the value of the call for which it waits
pub resumed_typed : AllStand → (program : CProgram) (one : CFun) (result : CTy) (state : CState) (world : World) (node : CExpr) (work : CWork) (purpose : CPurpose) (type : CTy) (value : CValue)
    → IsReady program (in_function one result) state world purpose → IsTyped (home_in program (in_function one result) purpose) node → IsWorkOf (home_in program (in_function one result) purpose) node work
    → IsPurposeOf program (in_function one result) (type_of node) purpose → IsWaitingFor type work → IsReturned program type value → IsTypedState program (going_on state world (resumed value work) purpose)
resumed_typed all program one result state world node work purpose type value ready typed left fits waiting returned =
    let home = home_in program (in_function one result) purpose in
    let there : IsReturned home.program type value = subst (λ p. IsReturned p type value) (sym (home_program program (in_function one result) (type_of node) purpose fits)) returned in
    going_on_typed all program (in_function one result) state world node (resumed value work) purpose ready typed tt
    (calls_resume_typed home node type work value (record { typed = inl typed; left = left }) waiting there).left (resumed_free value work) fits

-- ---- the value that is given back

pub given_typed : (program : CProgram) (type : CTy) (value : CValue) → IsReturned program type value → IsReturned program type (given_back value)
given_typed program type (scalar value) is = is
given_typed program type (cells held from) (inl is) = inl (record { is_record = is.is_record; laid = is.laid; laid_is = is.laid_is; all = is.all; typed = is.typed })
given_typed program type (cells held from) (inr is) = absurd is
given_typed program type (names number) is = is
given_typed program type (designates to) is = is
given_typed program type (designates_bits at bit width) is = is
given_typed program type missing is = is

-- ---- the program ends (5.1.2.2.3)

abbrev AnyStatus : ℤ → Type 0
AnyStatus status = Unit {0}

unqualified_form : (type : CTy) → form_of_type (unqualified type) ≡ form_of_type type
unqualified_form (ty form is_const) = refl

-- a value of type `int` is a number
number_of_int : (types : CTypes) (kind : Scalar) (value : Value) → scalar_of types (basic Int) ≡ Some kind → IsValueOf kind value → Comes AnyStatus (number_in value)
number_of_int types kind (Number number) is of_kind = tt
number_of_int types kind Null is of_kind = absurd (subst (λ k. IsValueOf k Null) (let same : kind ≡ Whole 32 true = cc (is) in same) of_kind)
number_of_int types kind (Pointer at) is of_kind = absurd (subst (λ k. IsValueOf k (Pointer at)) (let same : kind ≡ Whole 32 true = cc (is) in same) of_kind)
number_of_int types kind (Function number) is of_kind = absurd (subst (λ k. IsValueOf k (Function number)) (let same : kind ≡ Whole 32 true = cc (is) in same) of_kind)

-- what `main` gives is a status, or there is none (6.9.1p12)
status_comes : (program : CProgram) (type : CTy) (value : CValue) → form_of_type type ≡ basic Int → IsReturned program type value → Comes AnyStatus (status_in value)
status_comes program type (scalar value) is (inl good) =
    number_of_int program.types good.kind value (ap (scalar_of program.types) (sym is) ∙ good.kind_is) good.of_kind
status_comes program type (scalar value) is (inr lacks) = absurd lacks
status_comes program type (cells held from) is (inl good) = absurd (subst IsRecordForm is good.is_record)
status_comes program type (cells held from) is (inr lacks) = absurd lacks
status_comes program type (names number) is (inl good) = absurd good
status_comes program type (names number) is (inr lacks) = absurd lacks
status_comes program type (designates to) is (inl good) = absurd good
status_comes program type (designates to) is (inr lacks) = absurd lacks
status_comes program type (designates_bits at bit width) is (inl good) = absurd good
status_comes program type (designates_bits at bit width) is (inr lacks) = absurd lacks
status_comes program type missing is (inl good) = absurd good
status_comes program type missing is (inr lacks) = tt

ended_typed : (program : CProgram) (result : CTy) (state : CState) (world : World) (outcome : Result ℤ CWhy) → IsAround program result state world [] → Comes AnyStatus outcome → IsTypedState program (ended_by state world outcome)
ended_typed program result state world (Ok status) around good = record { memory = around.memory; held = around.held; owned = around.owned; control = tt }
ended_typed program result state world (Err (breaks rule)) around good = record { memory = around.memory; held = around.held; owned = around.owned; control = tt }
ended_typed program result state world (Err stuck) around good = absurd good

-- ---- what called goes on

-- the function that called is where its full expression was left
caller_ready : (program : CProgram) (result given : CTy) (one : CFun) (state : CState) (world : World) (caller : CCaller) (others : List CCaller) → state.callers ≡ caller ∷ others → IsAround program given state world [] → AreCallers program result others
    → IsReady program (in_function one result) (record state { callers = others }) world caller.purpose
caller_ready program result given one state world caller others are around waiting = record {
  linked = around.linked;
  memory = around.memory;
  held = around.held;
  owned = subst (AreOwned program world.held) (append_assoc (own_frame caller.purpose) (slots_of_callers others) state.statics)
      (subst (λ callers. AreOwned program world.held (slots_of_callers callers ++ state.statics)) are around.owned);
  callers = waiting;
  begun = around.begun;
}

returned_typed : AllStand → (program : CProgram) (given : CTy) (state : CState) (world : World) (value : CValue) (callers : List CCaller) → state.callers ≡ callers → IsAround program given state world [] → AreCallers program given callers
    → IsReturned program (unqualified given) value → IsTypedState program (returned_to state world value callers)
returned_typed all program given state world value [] are around waiting returned =
    ended_typed program given state world (status_in value) around (status_comes program (unqualified given) value (unqualified_form given ∙ waiting) returned)
returned_typed all program given state world value (caller ∷ others) are around (one, result, is, waiting) returned =
    resumed_typed all program one result (record state { callers = others }) world is.node caller.work caller.purpose (unqualified is.visible) value
    (caller_ready program result given one state world caller others are around waiting) is.typed is.left is.fits is.waiting
    (returned_alike program (unqualified is.visible) (unqualified given) value around.linked.types (alike_unqualified program.types is.visible given is.compatible)
    (result_unqualified program.types is.visible is.is_result) returned)

-- ---- the step

-- the objects of the function are dead
after_around : (program : CProgram) (result : CTy) (state : CState) (site : CSite) → IsAround program result state state.world (slots_of_site site) → IsAround program result state (after_return site state.world) []
after_around program result state site around = record {
  linked = around.linked;
  memory = memory_without program (slots_of_site site) (blocks_of state.world) around.memory;
  held = killed_held program state.world.held (slots_of_site site) (others_of state) around.owned around.held;
  owned = killed_owned program state.world.held (slots_of_site site) (others_of state) around.owned;
  callers = around.callers;
  begun = around.begun;
}

pub returning_typed : AllStand → (program : CProgram) (result : CTy) (state : CState) (value : CValue) (site : CSite) → IsAround program result state state.world (slots_of_site site) → IsReturned program (unqualified result) value
    → IsTypedState program (returning state value site)
returning_typed all program result state value site around returned =
    returned_typed all program result state (after_return site state.world) (given_back value) state.callers refl (after_around program result state site around) around.callers
    (given_typed program (unqualified result) value returned)
