-- Calls begin with typed arguments, of functions that a typed program has (ISO C99, 6.5.2.2).
use Rattle.std.proofs.Common.{◌≡◌, inl, inr, ℕ, zero, suc, ◌<◌, ◌==◌, Bool, true, false, true≢false, cond as chosen_by, if◌then◌else◌, List, [], ◌∷◌, length, Option, Some, None, IfSome, IsSome, All, Result, Ok, Err, refl, sym, ap, subst, ◌∙◌, arith}
use Rattle.std.proofs.lemmas.Bool.{eqb-true}
use Rattle.std.specs.List.{Contains, find}
use Rattle.cr_base.specs.declared.refusal.Place.{Place}
use Rattle.cr_base.specs.declared.rule.URule.TheVariants.{U13, U14}
use Rattle.cr_base.specs.declared.scalar.Scalar.TheVariants.{Code}
use Rattle.cx_core.specs.Compatible.{AreCompatible}
use Rattle.cx_core.specs.Conversions.{scalar_of}
use Rattle.cx_core.specs.Externals.{IsOpaqueTrailing}
use Rattle.cx_core.specs.Trees.{CTy, ty, CTyForm, void, basic, enum_type, pointer, array, record_type, function, unlisted, listed, CTys, no_types, more_types, form_of_type, CTypes, CExpr, expr, call, call_by, CExprs, no_exprs, more_exprs, CFun, COuter, CProgram, CMention, calls, type_of}
use Rattle.cx_core.specs.Typing.{CCallee as CNamed, CHome, IsTyped, AreTyped, AreArguments, IsCallOf, trailing_of, IsExternalCall, IsMentionedIn, IsOutside, IsCalleeOf, IsCallBy, function_with, outer_with, IsTrailing}
use Rattle.cx_mean.proofs.GoodPairs.{has_good_set}
use Rattle.cx_mean.specs.Calls.{CCallee, defined, external, CCalling, callee_of, callee_numbered, type_of_callee, is_missing, all_given, counted, points_to, by_type, callee_by, called_with, called_by, node_calling}
use Rattle.cx_mean.specs.Marks.{Marks}
use Rattle.cx_mean.specs.Operands.{CWhy, breaks, needed, CValue, scalar, cells, names, designates, designates_bits, missing, COperand, Frame, scalar_value, united_operands}
use Rattle.cx_mean.specs.Settings.{setting_of, are_compatible}
use Rattle.cx_mean.specs.Steps.{did_call, outcome_of, needs_step}
use Rattle.cx_mean.specs.Work.{finished, needs, chooses, tests, carries, updates, fills, waits, CWorks, no_works, more_works, are_finished, operands_in}
use Rattle.mem_bytes.specs.Coding.{IsValueOf}
use Rattle.mem_bytes.specs.declared.value.Value.{Value}
use Rattle.mem_bytes.specs.declared.value.Value.TheVariants.{Whole as Number, Null, Object as Pointer, Code as Function}
use Rattle.mem_bytes.specs.Memory.{Blocks}
use Rattle.cx_typed_values.specs.Outcomes.{Comes}
use Rattle.cx_typed_work.proofs.Choices.{DidLeaves, at_node_leaves}
use Rattle.cx_typed_work.proofs.Given.{value_given}
use Rattle.cx_typed_work.proofs.Nodes.{operands_united, scalar_comes}
use Rattle.cx_typed_work.proofs.Outcomes.{comes_and, comes_needed}
use Rattle.cx_typed_work.specs.Calls.{IsCalleeIn, AreTaken, IsCalledAs, trailing_types_of, FitsCallee, IsTypedCall}
use Rattle.cx_typed_work.specs.Operands.{IsScalarIn, IsValueOfType, IsGiven, IsOperandOf}
use Rattle.cx_typed_work.specs.Scenes.{IsLeading, IsScene}
use Rattle.cx_typed_work.specs.Steps.{StepLeaves}
use Rattle.cx_typed_work.specs.Works.{AreWorksOf, IsTypedWork}

-- ---- finished operands

abbrev AreOperandsOf : CHome → CExprs → List COperand → Type 0
AreOperandsOf home no_exprs [] = Unit {0}
AreOperandsOf home no_exprs (first ∷ others) = ⊥
AreOperandsOf home (more_exprs part parts) [] = ⊥
AreOperandsOf home (more_exprs part parts) (first ∷ others) = IsOperandOf home part first × AreOperandsOf home parts others

operands_given : (home : CHome) (parts : CExprs) (works : CWorks) → AreWorksOf home parts works → are_finished works ≡ true → AreOperandsOf home parts (operands_in works)
operands_given home no_exprs no_works are all = tt
operands_given home no_exprs (more_works first others) are all = absurd are
operands_given home (more_exprs part parts) no_works are all = absurd are
operands_given home (more_exprs part parts) (more_works (finished operand) others) are all = (are.0, operands_given home parts others are.1 all)
operands_given home (more_exprs part parts) (more_works (needs node operands) others) are all = absurd (true≢false (sym all))
operands_given home (more_exprs part parts) (more_works (chooses node first) others) are all = absurd (true≢false (sym all))
operands_given home (more_exprs part parts) (more_works (tests node marks second) others) are all = absurd (true≢false (sym all))
operands_given home (more_exprs part parts) (more_works (carries node marks chosen) others) are all = absurd (true≢false (sym all))
operands_given home (more_exprs part parts) (more_works (updates node update stage marks) others) are all = absurd (true≢false (sym all))
operands_given home (more_exprs part parts) (more_works (fills node marks one more value) others) are all = absurd (true≢false (sym all))
operands_given home (more_exprs part parts) (more_works (waits node marks) others) are all = absurd (true≢false (sym all))

-- ---- arguments that have values

-- each argument is a value of the type of its expression
abbrev AreValuesOf : CProgram → CExprs → List COperand → Type 0
AreValuesOf program no_exprs [] = Unit {0}
AreValuesOf program no_exprs (first ∷ others) = ⊥
AreValuesOf program (more_exprs part parts) [] = ⊥
AreValuesOf program (more_exprs part parts) (first ∷ others) = (first.type ≡ type_of part) × IsValueOfType program (type_of part) first.value × AreValuesOf program parts others

value_there : (program : CProgram) (node : CExpr) (value : CValue) → IsGiven program node value → is_missing value ≡ false → IsValueOfType program (type_of node) value
value_there program node value (inl good) some = good
value_there program node (scalar value) (inr lacks) some = absurd lacks.1
value_there program node (cells held from) (inr lacks) some = absurd lacks.1
value_there program node (names number) (inr lacks) some = absurd lacks.1
value_there program node (designates to) (inr lacks) some = absurd lacks.1
value_there program node (designates_bits at bit width) (inr lacks) some = absurd lacks.1
value_there program node missing (inr lacks) some = absurd (true≢false some)

-- the arguments stay as they are, and each is a value
abbrev AreGivenAs : CProgram → CExprs → List COperand → List COperand → Type 0
AreGivenAs program parts operands all = (all ≡ operands) × AreValuesOf program parts all

all_given_comes : (home : CHome) (parts : CExprs) (operands : List COperand) → AreTyped home parts → AreOperandsOf home parts operands → Comes (AreGivenAs home.program parts operands) (all_given operands)
all_given_comes home no_exprs [] typed are = (refl, tt)
all_given_comes home no_exprs (first ∷ others) typed are = absurd are
all_given_comes home (more_exprs part parts) [] typed are = absurd are
all_given_comes home (more_exprs part parts) (first ∷ others) typed are =
    comes_and (AreGivenAs home.program parts others) (AreGivenAs home.program (more_exprs part parts) (first ∷ others)) (all_given others) _ (all_given_comes home parts others typed.1 are.1) (λ rest behind.
    by rest (is_missing first.value) refl behind (value_given home part first.value typed.0 are.0.given))
  where
    by : (rest : List COperand) (test : Bool) → is_missing first.value ≡ test → AreGivenAs home.program parts others rest → IsGiven home.program part first.value
        → Comes (AreGivenAs home.program (more_exprs part parts) (first ∷ others)) (if test then Err (breaks U14) else Ok (first ∷ rest))
    by rest true e behind given = tt
    by rest false e behind given = (ap (λ xs. first ∷ xs) behind.0, (are.0.type_is, value_there home.program part first.value given e, behind.1))

-- they are taken as parameters of the type take them
taken : (program : CProgram) (params : CTys) (variadic : Bool) (parts : CExprs) (operands : List COperand) → AreArguments program.types params variadic parts → AreValuesOf program parts operands → AreTaken program params variadic operands
taken program no_types variadic no_exprs [] are values = tt
taken program no_types variadic no_exprs (first ∷ others) are values = absurd values
taken program no_types variadic (more_exprs part parts) [] are values = absurd values
taken program no_types variadic (more_exprs part parts) (first ∷ others) are values =
    (are.0, subst (λ t. IsTrailing program.types t) (sym values.0) are.1, subst (λ t. IsValueOfType program t first.value) (sym values.0) values.1, taken program no_types variadic parts others are.2 values.2)
taken program (more_types param params) variadic no_exprs operands are values = absurd are
taken program (more_types param params) variadic (more_exprs part parts) [] are values = absurd values
taken program (more_types param params) variadic (more_exprs part parts) (first ∷ others) are values =
    (values.0 ∙ are.0, subst (λ t. IsValueOfType program t first.value) (sym values.0) values.1, taken program params variadic parts others are.1 values.2)

none_given : (program : CProgram) (parts : CExprs) (operands : List COperand) → parts ≡ no_exprs → AreValuesOf program parts operands → operands ≡ []
none_given program no_exprs [] e values = refl
none_given program no_exprs (first ∷ others) e values = absurd values
none_given program (more_exprs part parts) operands e values = cc (e)

called_so : (program : CProgram) (form : CTyForm) (type : CTy) (parts : CExprs) (operands : List COperand) → IsCallOf program.types type parts form → AreValuesOf program parts operands → IsCalledAs program form type operands
called_so program (function result (listed params) variadic) type parts operands is values = (is.0, is.1, taken program params variadic parts operands is.2 values)
called_so program (function result unlisted variadic) type parts operands is values = (is.0, is.1, none_given program parts operands is.2 values)
called_so program void type parts operands is values = absurd is
called_so program (basic which) type parts operands is values = absurd is
called_so program (enum_type number) type parts operands is values = absurd is
called_so program (pointer to) type parts operands is values = absurd is
called_so program (array element count) type parts operands is values = absurd is
called_so program (record_type number) type parts operands is values = absurd is

-- the types behind the parameters
trailing_behind_is : (program : CProgram) (result : CTy) (params : CTys) (variadic : Bool) (parts : CExprs) (operands : List COperand) → AreArguments program.types params variadic parts → AreValuesOf program parts operands
    → trailing_of (function result (listed params) variadic) parts ≡ trailing_types_of (function result (listed params) variadic) operands
trailing_behind_is program result no_types variadic no_exprs [] are values = refl
trailing_behind_is program result no_types variadic no_exprs (first ∷ others) are values = absurd values
trailing_behind_is program result no_types variadic (more_exprs part parts) [] are values = absurd values
trailing_behind_is program result no_types variadic (more_exprs part parts) (first ∷ others) are values =
    ap (λ xs. type_of part ∷ xs) (trailing_behind_is program result no_types variadic parts others are.2 values.2) ∙ ap (λ t. t ∷ trailing_types_of (function result (listed no_types) variadic) others) (sym values.0)
trailing_behind_is program result (more_types param params) variadic no_exprs operands are values = absurd are
trailing_behind_is program result (more_types param params) variadic (more_exprs part parts) [] are values = absurd values
trailing_behind_is program result (more_types param params) variadic (more_exprs part parts) (first ∷ others) are values = trailing_behind_is program result params variadic parts others are.1 values.2

trailing_is : (program : CProgram) (form : CTyForm) (type : CTy) (parts : CExprs) (operands : List COperand) → IsCallOf program.types type parts form → AreValuesOf program parts operands → trailing_of form parts ≡ trailing_types_of form operands
trailing_is program (function result (listed params) variadic) type parts operands is values = trailing_behind_is program result params variadic parts operands is.2 values
trailing_is program (function result unlisted variadic) type parts operands is values = refl
trailing_is program void type parts operands is values = absurd is
trailing_is program (basic which) type parts operands is values = absurd is
trailing_is program (enum_type number) type parts operands is values = absurd is
trailing_is program (pointer to) type parts operands is values = absurd is
trailing_is program (array element count) type parts operands is values = absurd is
trailing_is program (record_type number) type parts operands is values = absurd is

-- ---- what is called

-- what is found in a list is one of it
more_contained : {A : Type 0} (all : List A) (first one : A) → Contains all one → Contains (first ∷ all) one
more_contained all first one held = let h : held.0 < length all = held.1 in (suc held.0, omega (arith, h), held.2)

found_first : {A : Type 0} (test : A → Bool) (first : A) (others : List A) (one : A) (same : Bool) → (find test others ≡ Some one → Contains others one) → chosen_by same (Some first) (find test others) ≡ Some one → Contains (first ∷ others) one
found_first test first others one true rest e = let is : first ≡ one = cc (e) in (zero, omega arith, is)
found_first test first others one false rest e = more_contained others first one (rest e)

found_among : {A : Type 0} (test : A → Bool) (all : List A) (one : A) → find test all ≡ Some one → Contains all one
found_among test [] one e = cc
found_among test (first ∷ others) one e = found_first test first others one (test first) (found_among test others one) e

-- a call of a function that no unit defines is one of the profile's
abbrev IsOutsideCall : CTypes → CTy → CExprs → CCallee → Type 0
IsOutsideCall types visible parts (defined one) = Unit {0}
IsOutsideCall types visible parts (external one) = IsExternalCall types one.name visible parts

-- a function, and the type by which it is called
record IsCalledFor (home : CHome) (type : CTy) (parts : CExprs) (callee : CCallee) : Type 0 where
  callee_in : IsCalleeIn home.program callee
  visible : CTy
  compatible : AreCompatible home.program.types visible (type_of_callee callee)
  call_of : IsCallOf home.program.types type parts (form_of_type visible)
  outside : IsOutsideCall home.program.types visible parts callee

abbrev callee_of_two : Option CFun → Option COuter → Option CNamed
callee_of_two (Some one) outer = Some (record { type = one.type; outer = None })
callee_of_two None (Some one) = Some (record { type = one.type; outer = Some one })
callee_of_two None None = None

abbrev IsOutsideWith : CHome → CTy → CExprs → COuter → Option (List CMention) → Type 0
IsOutsideWith home visible parts one None = IsExternalCall home.program.types one.name visible parts
IsOutsideWith home visible parts one (Some mentions) = IsMentionedIn mentions one.name one.linkage visible (calls (trailing_of (form_of_type visible) parts))

-- where all units are there, a function that isn't defined is one of the profile's
outside_call : (home : CHome) (visible : CTy) (parts : CExprs) (one : COuter) → home.mentions ≡ None → IsOutside home visible parts (Some one) → IsExternalCall home.program.types one.name visible parts
outside_call home visible parts one none is = subst (IsOutsideWith home visible parts one) none is

-- a function that is called by name
callee_named : (home : CHome) (number : ℕ) (type : CTy) (parts : CExprs) (one : Option CFun) (outer : Option COuter) → home.mentions ≡ None → function_with number home.program.functions ≡ one → outer_with number home.program.externals ≡ outer
    → IsSome (callee_of_two one outer) → IfSome (callee_of_two one outer) (IsCalleeOf home type parts) → Comes (IsCalledFor home type parts) (callee_of one outer)
callee_named home number type parts (Some one) outer none found left some is = record {
  callee_in = found_among _ home.program.functions one found;
  visible = is.visible;
  compatible = is.compatible;
  call_of = is.call;
  outside = tt;
}
callee_named home number type parts None (Some outer) none missed found some is = record {
  callee_in = found_among _ home.program.externals outer found;
  visible = is.visible;
  compatible = is.compatible;
  call_of = is.call;
  outside = outside_call home is.visible parts outer none is.outside;
}
callee_named home number type parts None None none missed lost some is = cc

-- ---- the step of a call

-- as many arguments as a defined function has parameters
abbrev IsCounted : CCallee → ℕ → Type 0
IsCounted (defined one) count = length one.params ≡ count
IsCounted (external one) count = Unit {0}

abbrev IsCountedAs : CCallee → ℕ → CCallee → Type 0
IsCountedAs callee count one = (one ≡ callee) × IsCounted callee count

counted_comes : (callee : CCallee) (count : ℕ) → Comes (IsCountedAs callee count) (counted callee count)
counted_comes (external one) count = (refl, tt)
counted_comes (defined one) count = by (length one.params == count) refl
  where
    by : (test : Bool) → (length one.params == count) ≡ test → Comes (IsCountedAs (defined one) count) (if test then Ok (defined one) else Err (breaks U13))
    by true e = (refl, eqb-true (length one.params) count e)
    by false e = tt

served_so : (home : CHome) (type : CTy) (parts : CExprs) (callee : CCallee) (operands : List COperand) → (one : IsCalledFor home type parts callee) → IsCounted callee (length operands) → AreValuesOf home.program parts operands
    → FitsCallee home.program.types one.visible operands callee
served_so home type parts (defined callee) operands one count values = count
served_so home type parts (external callee) operands one count values =
    (one.outside.external, subst (All IsOpaqueTrailing) (trailing_is home.program (form_of_type one.visible) type parts operands one.call_of values) one.outside.trailing)

call_typed : (home : CHome) (type : CTy) (place : Place) (parts : CExprs) (callee : CCallee) (operands : List COperand) → IsCalledFor home type parts callee → IsCounted callee (length operands) → AreValuesOf home.program parts operands
    → IsTypedCall home.program (record { callee = callee; place = place; type = type; args = operands })
call_typed home type place parts callee operands one count values = record {
  visible = one.visible;
  callee_in = one.callee_in;
  compatible = one.compatible;
  called_as = called_so home.program (form_of_type one.visible) type parts operands one.call_of values;
  served = served_so home type parts callee operands one count values;
}

abbrev CallsTyped : CProgram → CCalling → Type 0
CallsTyped program one = IsTypedCall program one.called

with_typed : (home : CHome) (type : CTy) (place : Place) (marks : Marks) (parts : CExprs) (operands : List COperand) (callee : CCallee) → AreTyped home parts → AreOperandsOf home parts operands → IsCalledFor home type parts callee
    → Comes (CallsTyped home.program) (called_with type place marks operands callee)
with_typed home type place marks parts operands callee typed are one =
    comes_and (IsCountedAs callee (length operands)) (CallsTyped home.program) (counted callee (length operands)) _ (counted_comes callee (length operands)) (λ found count.
    comes_and (AreGivenAs home.program parts operands) (CallsTyped home.program) (all_given operands) _ (all_given_comes home parts operands typed are) (λ all given.
    subst (λ c. IsTypedCall home.program (record { callee = c; place = place; type = type; args = all })) (sym count.0)
    (call_typed home type place parts callee all one (subst (λ xs. IsCounted callee (length xs)) (sym given.0) count.1) given.1)))

call_did : (home : CHome) (node : CExpr) (blocks : Blocks) (outcome : Result CCalling CWhy) → IsTyped home node → ((marks : Marks) → IsTypedWork home node (waits node marks)) → Comes (CallsTyped home.program) outcome
    → Comes (DidLeaves home node blocks) (outcome_of (did_call node) outcome)
call_did home node blocks outcome is waiting comes = comes_and (CallsTyped home.program) (DidLeaves home node blocks) outcome _ comes (λ one typed. (waiting one.marks, typed))

-- a call by name
pub call_leaves : (home : CHome) (frame : Frame) (blocks : Blocks) (type : CTy) (place : Place) (number : ℕ) (args : CExprs) (operands : CWorks) → IsScene home frame blocks → IsTyped home (expr type place (call number args))
    → AreWorksOf home args operands → are_finished operands ≡ true
    → StepLeaves home (expr type place (call number args)) blocks (needs_step (setting_of home.program) frame blocks (expr type place (call number args)) (operands_in operands))
call_leaves home frame blocks type place number args operands scene is are all =
    let node = expr type place (call number args) in
    let given = operands_given home args operands are all in
    at_node_leaves home node blocks place _
    (call_did home node blocks (node_calling (setting_of home.program) type place (call number args) (operands_in operands)) is (λ marks. record { typed = inl is; left = (refl, refl) })
    (comes_and (λ (_ : Marks). Unit {0}) (CallsTyped home.program) (united_operands (operands_in operands)) _ (operands_united (operands_in operands)) (λ marks _.
    comes_and (IsCalledFor home type args) (CallsTyped home.program) (callee_numbered home.program number) _
    (callee_named home number type args (function_with number home.program.functions) (outer_with number home.program.externals) scene.whole refl refl is.1.1.0 is.1.1.1) (λ callee one.
    with_typed home type place marks args (operands_in operands) callee is.1.0 given one))))

-- ---- calls by pointers

-- a pointer to a function type by which the call is one
record IsPointedCall (types : CTypes) (type : CTy) (parts : CExprs) (pointer_type : CTy) : Type 0 where
  to : CTy
  points : points_to (form_of_type pointer_type) ≡ Some to
  kind_is : scalar_of types (form_of_type pointer_type) ≡ Some Code
  call_of : IsCallOf types type parts (form_of_type to)

code_kind : (types : CTypes) (type : CTy) (parts : CExprs) (to : CTy) → IsCallOf types type parts (form_of_type to) → scalar_of types (pointer to) ≡ Some Code
code_kind types type parts (ty (function result params variadic) is_const) is = refl
code_kind types type parts (ty void is_const) is = absurd is
code_kind types type parts (ty (basic which) is_const) is = absurd is
code_kind types type parts (ty (enum_type number) is_const) is = absurd is
code_kind types type parts (ty (pointer to) is_const) is = absurd is
code_kind types type parts (ty (array element count) is_const) is = absurd is
code_kind types type parts (ty (record_type number) is_const) is = absurd is

pointed_call : (types : CTypes) (type : CTy) (parts : CExprs) (pointer_type : CTy) → IsCallBy types type parts pointer_type → IsPointedCall types type parts pointer_type
pointed_call types type parts (ty (pointer to) is_const) is = record { to = to; points = refl; kind_is = code_kind types type parts to is; call_of = is }
pointed_call types type parts (ty void is_const) is = absurd is
pointed_call types type parts (ty (basic which) is_const) is = absurd is
pointed_call types type parts (ty (enum_type number) is_const) is = absurd is
pointed_call types type parts (ty (array element count) is_const) is = absurd is
pointed_call types type parts (ty (record_type number) is_const) is = absurd is
pointed_call types type parts (ty (function result params variadic) is_const) is = absurd is

-- a pointer to a function leads to one that is defined
abbrev IsDefinedIn : CProgram → CCallee → Type 0
IsDefinedIn program (defined one) = Contains program.functions one
IsDefinedIn program (external one) = ⊥

callee_pointed : (program : CProgram) (number : ℕ) (one : Option CFun) (outer : Option COuter) → function_with number program.functions ≡ one → IsSome one → Comes (IsDefinedIn program) (callee_of one outer)
callee_pointed program number (Some one) outer found some = found_among _ program.functions one found
callee_pointed program number None outer found some = cc

by_type_comes : (home : CHome) (type : CTy) (parts : CExprs) (callee : CCallee) (to : CTy) → IsDefinedIn home.program callee → IsCallOf home.program.types type parts (form_of_type to)
    → Comes (IsCalledFor home type parts) (by_type (setting_of home.program) callee to)
by_type_comes home type parts (external one) to there is = absurd there
by_type_comes home type parts (defined one) to there is = by (are_compatible (setting_of home.program) to one.type) refl
  where
    by : (test : Bool) → are_compatible (setting_of home.program) to one.type ≡ test → Comes (IsCalledFor home type parts) (if test then Ok (defined one) else Err (breaks U13))
    by true e = record { callee_in = there; visible = to; compatible = has_good_set home.program.types to one.type e; call_of = is; outside = tt }
    by false e = tt

by_value_comes : (home : CHome) (type : CTy) (parts : CExprs) (pointer_type : CTy) (value : Value) → IsPointedCall home.program.types type parts pointer_type → IsValueOf Code value → IsLeading home.program value
    → Comes (IsCalledFor home type parts) (callee_by (setting_of home.program) pointer_type value)
by_value_comes home type parts pointer_type (Pointer at) one of_kind leads = absurd of_kind
by_value_comes home type parts pointer_type (Number number) one of_kind leads = absurd of_kind
by_value_comes home type parts pointer_type Null one of_kind leads = tt
by_value_comes home type parts pointer_type (Function number) one of_kind leads =
    comes_and (IsDefinedIn home.program) (IsCalledFor home type parts) (callee_numbered home.program number) _
    (callee_pointed home.program number (function_with number home.program.functions) (outer_with number home.program.externals) refl leads) (λ callee there.
    comes_and (λ (to : CTy). to ≡ one.to) (IsCalledFor home type parts) (needed (points_to (form_of_type pointer_type))) _
    (comes_needed (λ (to : CTy). to ≡ one.to) (points_to (form_of_type pointer_type)) one.to one.points refl) (λ to same.
    by_type_comes home type parts callee to there (subst (λ t. IsCallOf home.program.types type parts (form_of_type t)) (sym same) one.call_of)))

called_by_comes : (home : CHome) (type : CTy) (place : Place) (marks : Marks) (callee : CExpr) (args : CExprs) (first : COperand) (others : List COperand) → IsTyped home (expr type place (call_by callee args)) → IsOperandOf home callee first
    → AreOperandsOf home args others → Comes (CallsTyped home.program) (called_by (setting_of home.program) type place marks (first ∷ others))
called_by_comes home type place marks callee args first others is given are =
    let one = pointed_call home.program.types type args (type_of callee) is.1.2 in
    comes_and (IsScalarIn home.program (type_of callee)) (CallsTyped home.program) (scalar_value first.value) _
    (scalar_comes home.program callee first.value (subst (λ (found : Option _). IsSome found) (sym one.kind_is) refl) (value_given home callee first.value is.1.0 given.given)) (λ value good.
    let kind : good.kind ≡ Code = cc (good.kind_is, one.kind_is) in
    comes_and (IsCalledFor home type args) (CallsTyped home.program) (callee_by (setting_of home.program) first.type value) _
    (subst (λ t. Comes (IsCalledFor home type args) (callee_by (setting_of home.program) t value)) (sym given.type_is)
    (by_value_comes home type args (type_of callee) value one (subst (λ k. IsValueOf k value) kind good.of_kind) good.leads)) (λ found called.
    with_typed home type place marks args others found is.1.1 are called))

call_by_typed : (home : CHome) (type : CTy) (place : Place) (marks : Marks) (callee : CExpr) (args : CExprs) (operands : List COperand) → IsTyped home (expr type place (call_by callee args)) → AreOperandsOf home (more_exprs callee args) operands
    → Comes (CallsTyped home.program) (called_by (setting_of home.program) type place marks operands)
call_by_typed home type place marks callee args [] is are = absurd are
call_by_typed home type place marks callee args (first ∷ others) is are = called_by_comes home type place marks callee args first others is are.0 are.1

-- a call of what a pointer points to
pub call_by_leaves : (home : CHome) (frame : Frame) (blocks : Blocks) (type : CTy) (place : Place) (callee : CExpr) (args : CExprs) (operands : CWorks) → IsScene home frame blocks → IsTyped home (expr type place (call_by callee args))
    → AreWorksOf home (more_exprs callee args) operands → are_finished operands ≡ true
    → StepLeaves home (expr type place (call_by callee args)) blocks (needs_step (setting_of home.program) frame blocks (expr type place (call_by callee args)) (operands_in operands))
call_by_leaves home frame blocks type place callee args operands scene is are all =
    let node = expr type place (call_by callee args) in
    at_node_leaves home node blocks place _
    (call_did home node blocks (node_calling (setting_of home.program) type place (call_by callee args) (operands_in operands)) is (λ marks. record { typed = inl is; left = (refl, refl) })
    (comes_and (λ (_ : Marks). Unit {0}) (CallsTyped home.program) (united_operands (operands_in operands)) _ (operands_united (operands_in operands)) (λ marks _.
    call_by_typed home type place marks callee args (operands_in operands) is (operands_given home (more_exprs callee args) operands are all))))
