-- A call by a type that is compatible with that of the function: its arguments are values of the parameters, and what the function gives is
-- a value of the call (ISO C99, 6.5.2.2p7, 6.2.7p1, 6.8.6.4, 6.9.1p10).
use Rattle.std.proofs.Common.{◌≡◌, inl, inr, ℕ, Bool, true, false, List, [], ◌∷◌, length, Option, None, Some, IsSome, IfSome, refl, sym, ◌∙◌, subst}
use Rattle.cx_core.specs.Compatible.{AreCompatible}
use Rattle.cx_core.specs.Statements.{IsParamObject, AreParams, AreParamsOf, IsDefinition}
use Rattle.cx_core.specs.Trees.{CTy, ty, CTyForm, void, basic, enum_type, pointer, array, record_type, function, CParams, unlisted, listed, CTys, no_types, more_types, form_of_type, unqualified, CTypes, CObject, CFun, CProgram}
use Rattle.cx_core.specs.Typing.{CHome, object_with, IsResult}
use Rattle.cx_core.specs.ValidTypes.{AreTypes, IsComplete}
use Rattle.cx_mean.specs.Calls.{CCallee, defined, CCalled, type_of_callee}
use Rattle.cx_mean.specs.Operands.{CValue, COperand}
use Rattle.cx_mean.specs.State.{values_of_args}
use Rattle.cx_typed_work.proofs.AlikeFunctions.{AreListsAlike, results_alike, params_alike}
use Rattle.cx_typed_work.proofs.AlikeValues.{alike_unqualified, alike_back, alike_value, alike_result}
use Rattle.cx_typed_work.specs.Calls.{AreTaken, AreTakenAs, IsCalledAs, FitsCallee, IsTypedCall, IsReturned}
use Rattle.cx_typed_work.specs.Operands.{IsValueOfType}

-- ---- results

pub result_unqualified : (types : CTypes) (type : CTy) → IsResult types type → IsResult types (unqualified type)
result_unqualified types (ty void is_const) is = tt
result_unqualified types (ty (basic which) is_const) is = is
result_unqualified types (ty (enum_type number) is_const) is = is
result_unqualified types (ty (pointer to) is_const) is = is
result_unqualified types (ty (array element length) is_const) is = is
result_unqualified types (ty (record_type number) is_const) is = is
result_unqualified types (ty (function result params variadic) is_const) is = is

-- the type of a call, and the result of the function
pub record IsCallTo (types : CTypes) (type result : CTy) : Type 0 where
  pub compatible : AreCompatible types type (unqualified result)
  pub is_result : IsResult types type

call_as : (program : CProgram) (visible of_function result type : CTy) (params : CParams) (variadic : Bool) (args : List COperand) (form : CTyForm) → AreCompatible program.types visible of_function
    → form_of_type visible ≡ form → form_of_type of_function ≡ function result params variadic → IsCalledAs program form type args → IsCallTo program.types type result
call_as program visible of_function result type params variadic args (function given given_params given_variadic) by is of_is called =
    record {
      compatible = subst (λ (t : CTy). AreCompatible program.types t (unqualified result)) (sym called.0)
          (alike_unqualified program.types given result (results_alike program.types visible of_function given result given_params params given_variadic variadic by is of_is));
      is_result = subst (IsResult program.types) (sym called.0) (result_unqualified program.types given called.1);
    }
call_as program visible of_function result type params variadic args void by is of_is called = absurd called
call_as program visible of_function result type params variadic args (basic which) by is of_is called = absurd called
call_as program visible of_function result type params variadic args (enum_type number) by is of_is called = absurd called
call_as program visible of_function result type params variadic args (pointer to) by is of_is called = absurd called
call_as program visible of_function result type params variadic args (array element count) by is of_is called = absurd called
call_as program visible of_function result type params variadic args (record_type number) by is of_is called = absurd called

-- a call has the type of the result of the function, or one that is compatible with it
pub call_alike : (program : CProgram) (called : CCalled) (result : CTy) (params : CParams) (variadic : Bool) → IsTypedCall program called → form_of_type (type_of_callee called.callee) ≡ function result params variadic
    → IsCallTo program.types called.type result
call_alike program called result params variadic is of_is =
    call_as program is.visible (type_of_callee called.callee) result called.type params variadic called.args (form_of_type is.visible) is.compatible refl of_is is.called_as

-- what a function gives is what a call gives of a type that is compatible with its result
pub returned_alike : (program : CProgram) (type given : CTy) (value : CValue) → AreTypes program.types → AreCompatible program.types type given → IsResult program.types type → IsReturned program given value → IsReturned program type value
returned_alike program type given value are by complete (inl is) = inl (alike_result program given type value are (alike_back program.types type given by) complete is)
returned_alike program type given value are by complete (inr lacks) = inr lacks

-- ---- arguments

-- each is a value of the unqualified type of the object of its parameter
abbrev pub AreForParams : CProgram → List ℕ → List CValue → Type 0
AreForParams program [] [] = Unit {0}
AreForParams program [] (value ∷ args) = ⊥
AreForParams program (number ∷ params) [] = ⊥
AreForParams program (number ∷ params) (value ∷ args) =
    (one : CObject) × (object_with number program.objects ≡ Some one) × IsValueOfType program (unqualified one.type) value
    × AreForParams program params args

type_unqualified : (program : CProgram) (one type : CTy) → unqualified one ≡ unqualified type → IsComplete program.types one → IsComplete program.types (unqualified type)
type_unqualified program (ty form is_const) type same complete = subst (IsComplete program.types) same complete

-- the object of a parameter takes a value of each type whose unqualified version is compatible with that of the parameter
param_taken : (home : CHome) (number : ℕ) (param visible : CTy) (value : CValue) (found : Option CObject) → AreTypes home.program.types → AreCompatible home.program.types (unqualified visible) (unqualified param)
    → IsValueOfType home.program (unqualified visible) value → object_with number home.program.objects ≡ found → IsSome found → IfSome found (IsParamObject home param)
    → (one : CObject) × (object_with number home.program.objects ≡ Some one) × IsValueOfType home.program (unqualified one.type) value
param_taken home number param visible value None are by is found_is some held = absurd cc
param_taken home number param visible value (Some one) are by is found_is some held =
    let complete : IsComplete home.program.types (unqualified param) = type_unqualified home.program one.type param held.type_is held.object.complete in (
      one,
      found_is,
      subst (λ (t : CTy). IsValueOfType home.program t value) (sym held.type_is)
          (alike_value home.program (unqualified visible) (unqualified param) value are by complete is),
    )

-- the arguments of a function that isn't variadic
pub args_alike : (home : CHome) (numbers : List ℕ) (visible params : CTys) (args : List COperand) → AreTypes home.program.types → AreListsAlike home.program.types visible params → AreTaken home.program visible false args → AreParams home numbers params
    → AreForParams home.program numbers (values_of_args args)
args_alike home [] no_types no_types [] are alike taken held = tt
args_alike home (number ∷ numbers) no_types no_types [] are alike taken held = absurd held
args_alike home numbers no_types no_types (arg ∷ args) are alike taken held = absurd (let h : false ≡ true = taken.0 in cc)
args_alike home numbers no_types (more_types param params) args are alike taken held = absurd alike
args_alike home numbers (more_types first visible) no_types args are alike taken held = absurd alike
args_alike home numbers (more_types first visible) (more_types param params) [] are alike taken held = absurd taken
args_alike home [] (more_types first visible) (more_types param params) (arg ∷ args) are alike taken held = absurd held
args_alike home (number ∷ numbers) (more_types first visible) (more_types param params) (arg ∷ args) are alike taken held =
    let is : IsValueOfType home.program (unqualified first) arg.value = subst (λ (t : CTy). IsValueOfType home.program t arg.value) taken.0 taken.1 in
    let here = param_taken home number param first arg.value (object_with number home.program.objects) are alike.0 is refl held.0 held.1 in
    (here.0, here.1, here.2, args_alike home numbers visible params args are alike.1 taken.2 held.2)

-- a function without parameters takes no arguments
none_taken : (program : CProgram) (numbers : List ℕ) (args : List COperand) → length numbers ≡ length args → numbers ≡ [] → AreForParams program numbers (values_of_args args)
none_taken program [] [] same none = tt
none_taken program [] (arg ∷ args) same none = absurd cc
none_taken program (number ∷ numbers) args same none = absurd cc

no_args : (program : CProgram) (numbers : List ℕ) (args : List COperand) → length numbers ≡ length args → args ≡ [] → AreForParams program numbers (values_of_args args)
no_args program numbers (arg ∷ args) same none = absurd cc
no_args program [] [] same none = tt
no_args program (number ∷ numbers) [] same none = absurd cc

params_taken : (home : CHome) (one : CFun) (visible of_function given result : CTy) (given_params params : CParams) (given_variadic variadic : Bool) (args : List COperand) → AreTypes home.program.types
    → AreCompatible home.program.types visible of_function → form_of_type visible ≡ function given given_params given_variadic → form_of_type of_function ≡ function result params variadic
    → variadic ≡ false → AreTakenAs home.program given_params given_variadic args → length one.params ≡ length args → AreParamsOf home one.params params
    → AreForParams home.program one.params (values_of_args args)
params_taken home one visible of_function given result unlisted params given_variadic variadic args are by is of_is fixed taken same held =
    no_args home.program one.params args same taken
params_taken home one visible of_function given result (listed given_params) unlisted given_variadic variadic args are by is of_is fixed taken same held =
    none_taken home.program one.params args same held
params_taken home one visible of_function given result (listed given_params) (listed params) given_variadic variadic args are by is of_is fixed taken same held =
    let alike = params_alike home.program.types visible of_function given result given_params params given_variadic variadic by is of_is in
    args_alike home one.params given_params params args are alike.1
    (subst (λ more. AreTaken home.program given_params more args) (alike.0 ∙ fixed) taken) held

called_taken : (home : CHome) (one : CFun) (visible of_function result type : CTy) (params : CParams) (variadic : Bool) (args : List COperand) (form : CTyForm) → AreTypes home.program.types
    → AreCompatible home.program.types visible of_function → form_of_type visible ≡ form → form_of_type of_function ≡ function result params variadic
    → variadic ≡ false → IsCalledAs home.program form type args → length one.params ≡ length args → AreParamsOf home one.params params
    → AreForParams home.program one.params (values_of_args args)
called_taken home one visible of_function result type params variadic args (function given given_params given_variadic) are by is of_is fixed called same held =
    params_taken home one visible of_function given result given_params params given_variadic variadic args are by is of_is fixed called.2 same held
called_taken home one visible of_function result type params variadic args void are by is of_is fixed called same held = absurd called
called_taken home one visible of_function result type params variadic args (basic which) are by is of_is fixed called same held = absurd called
called_taken home one visible of_function result type params variadic args (enum_type number) are by is of_is fixed called same held = absurd called
called_taken home one visible of_function result type params variadic args (pointer to) are by is of_is fixed called same held = absurd called
called_taken home one visible of_function result type params variadic args (array element count) are by is of_is fixed called same held = absurd called
called_taken home one visible of_function result type params variadic args (record_type number) are by is of_is fixed called same held = absurd called

-- the arguments of a typed call of a defined function are values of the types of its parameters
pub call_taken : (home : CHome) (called : CCalled) (one : CFun) (result : CTy) (params : CParams) (variadic : Bool) → AreTypes home.program.types → IsTypedCall home.program called → called.callee ≡ defined one
    → form_of_type one.type ≡ function result params variadic → IsDefinition home one result params variadic → AreForParams home.program one.params (values_of_args called.args)
call_taken home called one result params variadic are is callee_is form_is definition =
    called_taken home one is.visible one.type result called.type params variadic called.args (form_of_type is.visible) are
    (subst (λ (c : CCallee). AreCompatible home.program.types is.visible (type_of_callee c)) callee_is is.compatible) refl form_is
    definition.fixed is.called_as (subst (FitsCallee home.program.types is.visible called.args) callee_is is.served) definition.params_are
