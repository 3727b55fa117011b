-- Calls by a pointer to a function (ISO C99, 6.5.2.2; the Rust Reference, "Call expressions").
use Rattle.std.proofs.Common.{◌≡◌, inl, ℕ, Bool, true, false, if◌then◌else◌, List, ◌∷◌, length, Option, Some, None, Result, Ok, Err, refl, sym, ap, subst, ◌∙◌}
use Rattle.std.proofs.lemmas.Bool.{and_parts}
use Rattle.std.specs.Bool.{beq}
use Rattle.std.specs.Prelude.{IsSome}
use Rattle.cr_base.specs.declared.refusal.Place.{Place}
use Rattle.cr_base.specs.declared.rule.URule.TheVariants.{U13}
use Rattle.cr_base.specs.declared.scalar.Scalar.{Scalar}
use Rattle.cr_base.specs.declared.scalar.Scalar.TheVariants as scalars
use Rattle.cr_world.specs.World.{World, blocks_of}
use Rattle.cx_core.specs.Compatible.{AreCompatible, forms_agree, lists_agree, agree, in_pairs}
use Rattle.cx_core.specs.Conversions.{scalar_of as c_scalar_of}
use Rattle.cx_core.specs.Statements.{AreParamsOf}
use Rattle.cx_core.specs.Trees.{CProgram, CTypes, CTy, ty, CTyForm, void, basic, enum_type, pointer, array, record_type, function, form_of_type, CParams, unlisted, listed, CTys, no_types, more_types, CExpr, expr, call_by, CExprs, no_exprs, more_exprs, CFun, type_of}
use Rattle.cx_core.specs.Typing.{CHome, function_with as c_function_with, outer_with, IsTyped, AreArgumentsOf, AreArguments, IsCallOf, IsCallBy}
use Rattle.cx_mean.proofs.GoodPairs.{has_good_set}
use Rattle.cx_mean.proofs.KeptNodes.{IfGiven}
use Rattle.cx_mean.specs.Calls.{CCallee, defined, CCalling, callee_of, callee_numbered, callee_by, by_type, called_with, node_calling}
use Rattle.cx_mean.specs.Operands.{breaks, CWhy, scalar, COperand, scalar_value, united_operands}
use Rattle.cx_mean.specs.Settings.{setting_of, are_compatible}
use Rattle.cx_typed_leftmost.proofs.Steps.{needs_typed, needs_asks, IsCallAs, call_leaves}
use Rattle.cx_typed_work.specs.Operands.{IsOperandOf}
use Rattle.cx_typed_work.specs.Scenes.{IsLeading}
use Rattle.lift_calls.specs.Programs.{setting_in}
use Rattle.lift_does.proofs.Arguments.{ArgsGiven}
use Rattle.lift_does.proofs.ArgumentsRun.{ParamsFit}
use Rattle.lift_does.proofs.Around.{Around, scope, At}
use Rattle.lift_does.proofs.CalledFunctions.{args_count, none_left, empty_is, none_held}
use Rattle.lift_does.proofs.NamedCalls.{operands_are}
use Rattle.lift_does.proofs.Nodes.{and_then_is}
use Rattle.lift_does.proofs.Operands.{scalar_is, scalar_in}
use Rattle.lift_does.proofs.OwnCalls.{CallsAs, with_parts}
use Rattle.lift_does.proofs.PointedTypes.{tys_alike, HaveKinds, params_are_alike, visible_fits}
use Rattle.lift_stands.specs.Stands.{Images}
use Rattle.cx_typed_work.proofs.AlikeValues.{forms_meet}
use Rattle.mem_bytes.specs.Coding.{IsValueOf}
use Rattle.mem_bytes.specs.declared.value.Value.{Value}
use Rattle.mem_bytes.specs.declared.value.Value.TheVariants.{Whole, Null, Object, Code as Function}
use Rattle.rs_items.specs.Types.{rust_types, rust_params}

-- ---- what the pointer points to

-- the type of what is called
pub record PointerTo (types : CTypes) (type : CTy) (args : CExprs) (own : CTy) : Type 0 where
  pub to : CTy
  pub is_const : Bool
  pub type_is : own ≡ ty (pointer to) is_const
  pub call : IsCallOf types type args (form_of_type to)

pub pointer_to : (types : CTypes) (type : CTy) (args : CExprs) (own : CTy) → IsCallBy types type args own → PointerTo types type args own
pointer_to types type args (ty (pointer to) is_const) is = record { to = to; is_const = is_const; type_is = refl; call = is }
pointer_to types type args (ty void is_const) is = absurd is
pointer_to types type args (ty (basic which) is_const) is = absurd is
pointer_to types type args (ty (enum_type number) is_const) is = absurd is
pointer_to types type args (ty (array element count) is_const) is = absurd is
pointer_to types type args (ty (record_type number) is_const) is = absurd is
pointer_to types type args (ty (function back params variadic) is_const) is = absurd is

code_pointed : (types : CTypes) (type : CTy) (args : CExprs) (to : CTy) → IsCallOf types type args (form_of_type to) → c_scalar_of types (pointer to) ≡ Some scalars.Code
code_pointed types type args (ty (function back params variadic) is_const) is = refl
code_pointed types type args (ty void is_const) is = absurd is
code_pointed types type args (ty (basic which) is_const) is = absurd is
code_pointed types type args (ty (enum_type number) is_const) is = absurd is
code_pointed types type args (ty (pointer to) is_const) is = absurd is
code_pointed types type args (ty (array element count) is_const) is = absurd is
code_pointed types type args (ty (record_type number) is_const) is = absurd is

-- a function that the program defines, with a compatible type
pub record PointsAt (program : CProgram) (to : CTy) (value : Value) (found : CCallee) : Type 0 where
  pub number : ℕ
  pub one : CFun
  pub value_is : value ≡ Function number
  pub defined_is : c_function_with number program.functions ≡ Some one
  pub found_is : found ≡ defined one
  pub compatible : AreCompatible program.types to one.type

points_at : (program : CProgram) (to : CTy) (is_const : Bool) (value : Value) (found : CCallee) → callee_by (setting_of program) (ty (pointer to) is_const) value ≡ Ok found → IsValueOf scalars.Code value → IsLeading program value → PointsAt program to value found
points_at program to is_const Null found e is leads = cc (e)
points_at program to is_const (Object at) found e is leads = absurd is
points_at program to is_const (Whole number) found e is leads = absurd is
points_at program to is_const (Function number) found e is leads =
    let callee = and_then_is (callee_numbered program number) _ found e in
    by callee.0 (c_function_with number program.functions) refl leads callee.1 callee.2
  where
    by_test : (one : CFun) (test : Bool) → are_compatible (setting_of program) to one.type ≡ test → c_function_with number program.functions ≡ Some one → (if test then Ok (defined one) else Err (breaks U13)) ≡ Ok found → PointsAt program to (Function number) found
    by_test one true fits defined_is same =
        let is : defined one ≡ found = cc (same) in
        record { number = number; one = one; value_is = refl; defined_is = defined_is; found_is = sym is; compatible = has_good_set program.types to one.type fits }
    by_test one false fits defined_is same = cc (same)

    by : (callee : CCallee) (fun : Option CFun) → c_function_with number program.functions ≡ fun → IsSome fun → callee_of (c_function_with number program.functions) (outer_with number program.externals) ≡ Ok callee → by_type (setting_of program) callee to ≡ Ok found →
        PointsAt program to (Function number) found
    by callee None defined_is some same typed = cc (some)
    by callee (Some one) defined_is some same typed =
        let its : callee_of (Some one) (outer_with number program.externals) ≡ Ok callee = ap (λ (f : Option CFun). callee_of f (outer_with number program.externals)) (sym defined_is) ∙ same in
        let is : defined one ≡ callee = cc (its) in
        by_test one (are_compatible (setting_of program) to one.type) refl defined_is (subst (λ (c : CCallee). by_type (setting_of program) c to ≡ Ok found) (sym is) typed)

-- ---- parameters

-- the types of the pointer fit the arguments, and are alike to those of the function
pub record PointerFits (x : Around) (args : CExprs) (own visible : CParams) : Type 0 where
  pub fits : ParamsFit x args (rust_params x.names.types visible)
  pub alike : tys_alike (rust_params x.names.types own) (rust_params x.names.types visible) ≡ true

no_params_left : (x : Around) (variadic : Bool) (params : CTys) (args : CExprs) → AreArguments x.home.program.types params variadic args → args ≡ no_exprs → params ≡ no_types
no_params_left x variadic no_types args typed none = refl
no_params_left x variadic (more_types param params) no_exprs typed none = absurd typed
no_params_left x variadic (more_types param params) (more_exprs first others) typed none = cc (none)

pub pointer_fits : (x : Around) (home : CHome) (numbers : List ℕ) (visible own given result : CTy) (given_params params : CParams) (given_variadic variadic : Bool) (args : CExprs) → (by : AreCompatible x.home.program.types visible own) →
    form_of_type visible ≡ function given given_params given_variadic → form_of_type own ≡ function result params variadic → variadic ≡ false → AreArgumentsOf x.home.program.types given_params given_variadic args → AreParamsOf home numbers params →
    length numbers ≡ args_count args → HaveKinds x args → PointerFits x args params given_params
pointer_fits x home numbers visible own given result unlisted unlisted given_variadic variadic args by is own_is fixed typed are count kinds =
    record { fits = subst (λ (all : CExprs). ParamsFit x all (rust_params x.names.types unlisted)) (sym typed) tt; alike = refl }
pointer_fits x home numbers visible own given result unlisted (listed params) given_variadic variadic args by is own_is fixed typed are count kinds =
    let none : params ≡ no_types = none_held home numbers params (empty_is numbers (count ∙ ap args_count typed)) are in
    record {
      fits = subst (λ (all : CExprs). ParamsFit x all (rust_params x.names.types unlisted)) (sym typed) tt;
      alike = subst (λ (list : CTys). tys_alike (rust_types x.names.types list) (rust_params x.names.types unlisted) ≡ true) (sym none) refl;
    }
pointer_fits x home numbers visible own given result (listed given_params) unlisted given_variadic variadic args by is own_is fixed typed are count kinds =
    let none : args ≡ no_exprs = none_left args (sym count ∙ ap length are) in
    let empty : given_params ≡ no_types = no_params_left x given_variadic given_params args typed none in
    record {
      fits = subst (λ (list : CTys). ParamsFit x args (rust_types x.names.types list)) (sym empty) (subst (λ (all : CExprs). ParamsFit x all (rust_types x.names.types no_types)) (sym none) tt);
      alike = subst (λ (list : CTys). tys_alike (rust_params x.names.types unlisted) (rust_types x.names.types list) ≡ true) (sym empty) refl;
    }
pointer_fits x home numbers visible own given result (listed given_params) (listed params) given_variadic variadic args by is own_is fixed typed are count kinds =
    let types = x.home.program.types in
    let meets : forms_agree types (in_pairs by.pairs) (function given (listed given_params) given_variadic) (function result (listed params) variadic) ≡ true =
    subst (λ (f : CTyForm). forms_agree types (in_pairs by.pairs) f (function result (listed params) variadic) ≡ true) is
    (subst (λ (f : CTyForm). forms_agree types (in_pairs by.pairs) (form_of_type visible) f ≡ true) own_is (forms_meet types (in_pairs by.pairs) visible own by.meet)) in
    let behind = (and_parts (agree types (in_pairs by.pairs) given result) _ meets).1 in
    let parts = and_parts (beq given_variadic variadic) (lists_agree types (in_pairs by.pairs) given_params params) behind in
    let all : AreArguments types given_params false args = subst (λ (more : Bool). AreArguments types given_params more args) (same_flag given_variadic variadic parts.0 ∙ fixed) typed in
    record { fits = visible_fits x given_params args all; alike = params_are_alike x visible own by given_params params args parts.1 all kinds }
  where
    same_flag : (a b : Bool) → beq a b ≡ true → a ≡ b
    same_flag true true same = refl
    same_flag true false same = sym same
    same_flag false true same = same
    same_flag false false same = refl

-- ---- the step of C

module _ (x : Around) (type : CTy) (at : Place) (callee : CExpr) (args : CExprs) (next : ℕ) (typed_node : IsTyped x.home (expr type at (call_by callee args))) (first : COperand) (operands : List COperand) (last : Images) (c w : World) (here : At x last c w)
    (first_is : IsOperandOf x.home callee first) (given : ArgsGiven x last w args next operands) (calling : CCalling) (calls_it : node_calling (setting_in x.s) type at (call_by callee args) (first ∷ operands) ≡ Ok calling) where
  abbrev node : CExpr
  node = expr type at (call_by callee args)

  pub call_typed : IsCallAs x.home node calling
  call_typed =
      let are = operands_are x last w args next operands given in
      by (node_calling (setting_of x.home.program) type at (call_by callee args) (first ∷ operands))
      (subst (λ (program : CProgram). node_calling (setting_of program) type at (call_by callee args) (first ∷ operands) ≡ Ok calling) (sym x.means.program) calls_it)
      (call_leaves x.home node at (blocks_of c) (node_calling (setting_of x.home.program) type at (call_by callee args) (first ∷ operands))
      (needs_typed x.home (scope x) (blocks_of c) node (first ∷ operands) here.typed.scene (inl typed_node) (first_is, are)) (needs_asks x.home (scope x) (blocks_of c) node (first ∷ operands)))
    where
      by : (outcome : Result CCalling CWhy) → outcome ≡ Ok calling → IfGiven (IsCallAs x.home node) outcome → IsCallAs x.home node calling
      by (Ok one) e is = let same : one ≡ calling = cc (e) in subst (IsCallAs x.home node) same is
      by (Err why) e is = cc (e)

  abbrev pub pointed : PointerTo x.home.program.types type args (type_of callee)
  pointed = pointer_to x.home.program.types type args (type_of callee) typed_node.1.2

  -- what is called, with the value of the pointer
  pub record PointerCalls : Type 0 where
    pub value : Value
    pub value_is : first.value ≡ scalar value
    pub found : CCallee
    pub points : PointsAt x.s.program pointed.to value found
    pub calls : CallsAs type operands (defined points.one) calling

  pub pointer_calls : PointerCalls
  pointer_calls =
      let united = and_then_is (united_operands (first ∷ operands)) _ calling calls_it in
      let value = and_then_is (scalar_value first.value) _ calling united.2 in
      let value_is = scalar_is first.value value.0 value.1 in
      let found = and_then_is (callee_by (setting_in x.s) first.type value.0) _ calling value.2 in
      let of = scalar_in x callee first value.0 typed_node.1.0 first_is value_is in
      let type_is : first.type ≡ ty (pointer pointed.to) pointed.is_const = first_is.type_is ∙ pointed.type_is in
      let kind : c_scalar_of x.home.program.types (form_of_type (type_of callee)) ≡ Some scalars.Code =
      ap (λ (t : CTy). c_scalar_of x.home.program.types (form_of_type t)) pointed.type_is ∙ code_pointed x.home.program.types type args pointed.to pointed.call in
      let of_code : IsValueOf scalars.Code value.0 = subst (λ (k : Scalar). IsValueOf k value.0) (same_kind of.kind scalars.Code (sym of.kind_is ∙ kind)) of.of_kind in
      let points =
      points_at x.s.program pointed.to pointed.is_const value.0 found.0 (ap (λ (t : CTy). callee_by (setting_in x.s) t value.0) (sym type_is) ∙ found.1) of_code
      (subst (λ (program : CProgram). IsLeading program value.0) x.means.program of.leads) in
      record {
        value = value.0;
        value_is = value_is;
        found = found.0;
        points = points;
        calls = with_parts type at united.0 operands (defined points.one) calling (subst (λ (one : CCallee). called_with type at united.0 operands one ≡ Ok calling) points.found_is found.2);
      }
    where
      same_kind : (one other : Scalar) → Some one ≡ Some other → one ≡ other
      same_kind one other e = cc (e)
