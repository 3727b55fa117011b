-- Calls by name of functions that the program defines (ISO C99, 6.5.2.2; the Rust Reference, "Call expressions").
use Rattle.std.proofs.Common.{◌≡◌, inl, ℕ, suc, Bool, true, false, if◌then◌else◌, List, [], ◌∷◌, length, map, Option, Some, None, Result, Ok, Err, refl, sym, ap, subst, ◌∙◌}
use Rattle.std.specs.Prelude.{IfSome}
use Rattle.cr_base.specs.declared.layout.Laid.{Laid}
use Rattle.cr_base.specs.declared.refusal.Place.{Place}
use Rattle.cr_runs.specs.Runs.{came, tick}
use Rattle.cr_world.specs.World.{World, blocks_of}
use Rattle.cx_core.specs.Compatible.{AreCompatible}
use Rattle.cx_core.specs.Linked.{IsLinked, home_of}
use Rattle.cx_core.specs.Trees.{ty, CParams, CProgram, CTy, CTyForm, void, basic, enum_type, pointer, array, record_type, function, form_of_type, unqualified, CExpr, expr, call, CExprs, no_exprs, more_exprs, CFun, COuter}
use Rattle.cx_core.specs.Typing.{function_with, outer_with, IsTyped, AreArgumentsOf, IsCallOf, IsCalleeOf, CCallee as CoreCallee}
use Rattle.cx_mean.specs.Calls.{CCallee, defined, CCalling, callee_of, callee_numbered, called_with, node_calling}
use Rattle.cx_mean.proofs.KeptNodes.{IfGiven}
use Rattle.cx_mean.specs.Leftmost.{CRan, c_callee}
use Rattle.cx_mean.specs.Operands.{CWhy, CValue, COperand, united_operands}
use Rattle.cx_mean.specs.Settings.{setting_of, extent_in}
use Rattle.cx_mean.specs.State.{values_of_args}
use Rattle.cx_typed_leftmost.proofs.Steps.{AreOperandsOf, needs_typed, needs_asks, IsCallAs, call_leaves}
use Rattle.cx_typed_runs.proofs.Taking.{definition_of}
use Rattle.cx_typed_runs.specs.Sites.{IsRunning}
use Rattle.cx_typed_work.specs.Calls.{IsTypedCall}
use Rattle.lift_calls.specs.Calls.{ResultPlace, GivesBack, AreHanded, ResultHanded, result_laid}
use Rattle.lift_calls.specs.Programs.{setting_in, c_calls}
use Rattle.lift_does.proofs.Arguments.{ArgsGiven}
use Rattle.lift_does.proofs.ArgumentsRun.{ParamsFit, ArgsRun, args_run}
use Rattle.lift_does.proofs.Around.{Around, scope, At}
use Rattle.lift_does.proofs.CallEnds.{Served}
use Rattle.lift_does.proofs.CallRuns.{dropped_runs, stored_runs}
use Rattle.lift_does.proofs.CalledFunctions.{args_count, fits_enough, fits_one_more, all_fit, item_params, kept_params, kept_result, item_passed, no_result_laid, of_record, result_laid_is}
use Rattle.lift_does.proofs.Nodes.{and_then_is}
use Rattle.lift_does.proofs.OwnCalls.{CallsAs, params_count, with_parts, any_align, gives_result, runs_function, result_alike, stands, crate_run, node_owes}
use Rattle.lift_does.specs.Agree.{FunctionMeans}
use Rattle.lift_exprs.specs.Calls.{Argument, called_by_name, called_by_symbol, call_of, call_as, pointer_to, as_params, are_enough, result_argument}
use Rattle.lift_exprs.specs.Lifted.{lifted_args}
use Rattle.lift_exprs.specs.Names.{KeptFunction, function_or, type_in, params_of, result_of}
use Rattle.lift_forms.specs.Operators.{as_type}
use Rattle.lift_forms_laws.proofs.Operands.{as_type_gives}
use Rattle.lift_forms_laws.proofs.Runs.{seq_is, pure_is}
use Rattle.lift_forms_laws.specs.Gives.{GivesAt}
use Rattle.lift_held.specs.Held.{is_record}
use Rattle.lift_stands.specs.Stands.{Images}
use Rattle.lift_stands_values.specs.Given.{align_or, align_in}
use Rattle.mem_bytes.specs.Memory.{Blocks}
use Rattle.mem_bytes.specs.declared.value.Ptr.{Ptr}
use Rattle.mem_bytes.specs.declared.value.Value.TheVariants.{Object}
use Rattle.rs_items.specs.Types.{rust_type, rust_params, with_result}
use Rattle.rs_mean.specs.Calls.{accepts}
use Rattle.rs_mean.specs.Lookups.{own, own_signature, callee_at}
use Rattle.rs_mean.specs.Run.{run_expr, run_exprs}
use Rattle.rs_mean.specs.Values.{Typed, typed}
use Rattle.rs_mean.specs.World.{seq, pure}
use Rattle.rs_text.specs.Tree.{Ty, Pointer, Tys, more_tys, tys, option_ty, Expr, exprs, LocalTree, ModuleTree}

-- ---- operands

pub operands_are : (x : Around) (last : Images) (w : World) (args : CExprs) (next : ℕ) (operands : List COperand) → ArgsGiven x last w args next operands → AreOperandsOf x.home args operands
operands_are x last w no_exprs next [] given = tt
operands_are x last w no_exprs next (one ∷ rest) given = absurd given
operands_are x last w (more_exprs first others) next [] given = absurd given
operands_are x last w (more_exprs first others) next (one ∷ rest) given = (given.0, operands_are x last w others _ rest given.2)

pub operands_count : (x : Around) (args : CExprs) (operands : List COperand) → AreOperandsOf x.home args operands → length operands ≡ args_count args
operands_count x no_exprs [] are = refl
operands_count x no_exprs (one ∷ rest) are = absurd are
operands_count x (more_exprs first others) [] are = absurd are
operands_count x (more_exprs first others) (one ∷ rest) are = ap suc (operands_count x others rest are.1)

-- ---- lists of types

pub types_same : (one other : List Ty) → tys one ≡ tys other → one ≡ other
types_same [] [] e = refl
types_same (first ∷ one) (second ∷ other) e =
    let here : first ≡ second = cc (e) in
    let rest : tys one ≡ tys other = cc (e) in
    ap (λ (t : Ty). t ∷ one) here ∙ ap (λ (list : List Ty). second ∷ list) (types_same one other rest)
types_same [] (second ∷ other) e = cc (e)
types_same (first ∷ one) [] e = cc (e)

-- a function that a unit defines is found by its number
abbrev callee_among : Option CFun → Option COuter → Option CoreCallee
callee_among (Some one) outer = Some (record { type = one.type; outer = None })
callee_among None (Some one) = Some (record { type = one.type; outer = Some one })
callee_among None None = None

-- the type of the function that is visible at the call
pub record Visible (x : Around) (type : CTy) (args : CExprs) (of_function : CTy) : Type 0 where
  pub visible : CTy
  pub compatible : AreCompatible x.home.program.types visible of_function
  pub call : IsCallOf x.home.program.types type args (form_of_type visible)

visible_by : (x : Around) (type : CTy) (args : CExprs) (one : CFun) (found : Option CFun) (outer : Option COuter) → found ≡ Some one → IfSome (callee_among found outer) (IsCalleeOf x.home type args) → Visible x type args one.type
visible_by x type args one (Some other) outer e is =
    let same : other ≡ one = cc (e) in
    subst (λ (f : CFun). Visible x type args f.type) same (record { visible = is.visible; compatible = is.compatible; call = is.call })
visible_by x type args one None outer e is = cc (e)

-- what is visible is a function type that lists what is passed
pub record IsListed (x : Around) (args : CExprs) (visible : CTy) : Type 0 where
  pub back : CTy
  pub params : CParams
  pub variadic : Bool
  pub form_is : form_of_type visible ≡ function back params variadic
  pub typed : AreArgumentsOf x.home.program.types params variadic args

pub listed_by : (x : Around) (type : CTy) (args : CExprs) (visible : CTy) (form : CTyForm) → form_of_type visible ≡ form → IsCallOf x.home.program.types type args form → IsListed x args visible
listed_by x type args visible (function back params variadic) e is = record { back = back; params = params; variadic = variadic; form_is = e; typed = is.2 }
listed_by x type args visible void e is = absurd is
listed_by x type args visible (basic which) e is = absurd is
listed_by x type args visible (enum_type number) e is = absurd is
listed_by x type args visible (pointer to) e is = absurd is
listed_by x type args visible (array element count) e is = absurd is
listed_by x type args visible (record_type number) e is = absurd is

-- the parameters of the item of a called function fit the arguments
pub function_fits : (x : Around) (type : CTy) (args : CExprs) (operands : List COperand) (one : CFun) (result : CTy) (running : IsRunning x.home.program one result) → IsLinked x.home.program → Visible x type args one.type → AreOperandsOf x.home args operands →
    length one.params ≡ length operands → ParamsFit x args (rust_params x.names.types running.params)
function_fits x type args operands one result running linked seen are count =
    let listed = listed_by x type args seen.visible (form_of_type seen.visible) refl seen.call in
    let definition = definition_of x.home.program one result linked running in
    all_fit x (home_of x.home.program None one.unit) one.params seen.visible one.type listed.back result listed.params running.params listed.variadic running.variadic args seen.compatible listed.form_is running.type_is definition.fixed listed.typed
    definition.params_are (count ∙ operands_count x args operands are)

module _ (x : Around) (type : CTy) (at : Place) (number : ℕ) (args : CExprs) (next : ℕ) (typed_node : IsTyped x.home (expr type at (call number args))) (operands : List COperand) (last : Images) (c w : World) (here : At x last c w)
    (given : ArgsGiven x last w args next operands) (calling : CCalling) (calls_it : node_calling (setting_in x.s) type at (call number args) operands ≡ Ok calling) where
  abbrev node : CExpr
  node = expr type at (call number args)

  -- the call is typed
  pub call_typed : IsCallAs x.home node calling
  call_typed =
      let are = operands_are x last w args next operands given in
      by (node_calling (setting_of x.home.program) type at (call number args) operands)
      (subst (λ (program : CProgram). node_calling (setting_of program) type at (call number args) operands ≡ Ok calling) (sym x.means.program) calls_it)
      (call_leaves x.home node at (blocks_of c) (node_calling (setting_of x.home.program) type at (call number args) operands)
      (needs_typed x.home (scope x) (blocks_of c) node operands here.typed.scene (inl typed_node) are) (needs_asks x.home (scope x) (blocks_of c) node operands))
    where
      by : (outcome : Result CCalling CWhy) → outcome ≡ Ok calling → IfGiven (IsCallAs x.home node) outcome → IsCallAs x.home node calling
      by (Ok one) e is = let same : one ≡ calling = cc (e) in subst (IsCallAs x.home node) same is
      by (Err why) e is = cc (e)

  -- so it is with a function that the program defines
  module _ (one : CFun) (defined_is : function_with number x.s.program.functions ≡ Some one) where
    named_calls : CallsAs type operands (defined one) calling
    named_calls =
        let united = and_then_is (united_operands operands) _ calling calls_it in
        let found = and_then_is (callee_numbered x.s.program number) _ calling united.2 in
        let is : callee_of (Some one) (outer_with number x.s.program.externals) ≡ Ok found.0 =
        ap (λ (f : Option CFun). callee_of f (outer_with number x.s.program.externals)) (sym defined_is) ∙ found.1 in
        let same : defined one ≡ found.0 = cc (is) in
        with_parts type at united.0 operands (defined one) calling (subst (λ (callee : CCallee). called_with type at united.0 operands callee ≡ Ok calling) (sym same) found.2)

    abbrev kept : KeptFunction
    kept = (x.means.functions number one defined_is).0

    names_is : x.names.functions number ≡ Some kept
    names_is = (x.means.functions number one defined_is).1

    abbrev means : FunctionMeans x.s number kept
    means = (x.means.functions number one defined_is).2

    abbrev kept_ty : kept.ty ≡ type_in x.names (ty (pointer one.type) false)
    kept_ty = (x.means.functions number one defined_is).3

    abbrev calls : CallsAs type operands (defined one) calling
    calls = named_calls

    abbrev typed_call : IsTypedCall x.home.program calling.called
    typed_call = call_typed.typed

    abbrev back : CTy
    back = gives_result x type operands last c w here number one defined_is kept means calling calls typed_call

    abbrev running : IsRunning x.home.program one back
    running = runs_function x type operands last c w here number one defined_is kept means calling calls typed_call

    alike : AreCompatible x.home.program.types type (unqualified back)
    alike = result_alike x type operands last c w here number one defined_is kept means calling calls typed_call

    abbrev linked : IsLinked x.home.program
    linked = here.typed.scene.linked

    abbrev listed : Tys
    listed = rust_params x.names.types running.params

    own_visible : Visible x type args one.type
    own_visible =
        visible_by x type args one (function_with number x.home.program.functions) (outer_with number x.home.program.externals)
        (subst (λ (program : CProgram). function_with number program.functions ≡ Some one) (sym x.means.program) defined_is) typed_node.1.1.1

    fit : ParamsFit x args listed
    fit =
        function_fits x type args operands one back running linked own_visible (operands_are x last w args next operands given)
        (params_count one (length operands) calls.counted_is)

    abbrev list : List Argument
    list = (lifted_args x.names args next).list

    ran : ArgsRun x last w listed list (values_of_args operands)
    ran = args_run x last w args next listed operands operands typed_node.1.0 fit given calls.all_is

    -- ---- what is written

    call_is : (all : List Argument) → are_enough (params_of kept.ty) all ≡ true → (called_by_name x.names number).call all ≡ call_of kept all
    call_is all enough =
        ap (λ (f : Option KeptFunction). called_by_symbol x.names number (function_or f) (function_or f).symbol all) names_is
        ∙ ap (λ (s : Option (List ℕ)). called_by_symbol x.names number kept s all) means.no_symbol
        ∙ ap (λ (b : Bool). if b then call_of kept all else call_as kept.ty (pointer_to kept) all) enough

    result_is : (called_by_name x.names number).result ≡ option_ty means.tree.result
    result_is = ap (λ (f : Option KeptFunction). result_of (function_or f).ty) names_is ∙ kept_result x number one kept means kept_ty linked back running

    found_there : callee_at x.frame.modules kept.home kept.name ≡ Some (own means.tree)
    found_there = ap (λ (modules : List ModuleTree). callee_at modules kept.home kept.name) here.frames.modules ∙ means.tree_is

    abbrev source : ℕ → CRan COperand
    source = tick c (λ left. c_callee (setting_in x.s) (c_calls x.s) type calling calling.called.callee c left)

    served_by : (place : Option Ptr) (all : List Argument) (passed rest : List Typed) → are_enough (params_of kept.ty) all ≡ true → ((units : ℕ) → run_exprs x.frame (exprs (as_params (params_of kept.ty) all)) w units ≡ came passed w units) →
        tys (map (λ (one : Typed). one.ty) passed) ≡ params_of kept.ty → accepts (map (λ (one : Typed). one.ty) passed) false passed ≡ true → ResultHanded last (blocks_of w) (result_laid x.s one) place passed rest → AreHanded last (blocks_of w) (values_of_args operands) rest →
        ((later : Images) (others : Blocks) (value : CValue) (given_back : Option Typed) → GivesBack later others (align_or (result_laid x.s one)) place value given_back → GivesBack later others (align_in (setting_in x.s) type) place value given_back) →
        Served x place type (called_by_name x.names number).result ((called_by_name x.names number).call all) source last c w
    served_by place all passed rest enough comes types accepted result handed aligned =
        let same : map (λ (one : Typed). one.ty) passed ≡ map (λ (one : LocalTree). one.ty) means.tree.params =
        types_same _ _ (types ∙ kept_params x number one kept means kept_ty linked back running ∙ sym (item_params x number one kept means kept_ty linked back running)) in
        let fits : accepts (own_signature means.tree).params false passed ≡ true = subst (λ (all_types : List Ty). accepts all_types false passed ≡ true) same accepted in
        let stand = stands x type operands last c w here number one defined_is kept means calling calls typed_call place passed rest result handed in
        subst (λ (e : Expr). Served x place type (called_by_name x.names number).result e source last c w) (sym (call_is all enough))
        (record {
          target = crate_run x type operands last c w here number one defined_is kept means calling calls typed_call place passed stand fits aligned;
          own = means.tree.result;
          result_is = result_is;
          kinds = λ some plain. item_passed x number one kept means kept_ty linked back running type alike some plain;
          owes = node_owes x type operands last c w here number one defined_is kept means calling calls typed_call place passed stand fits aligned;
          dropped = dropped_runs x kept.home kept.name (exprs (as_params (params_of kept.ty) all)) passed (own means.tree) w found_there comes;
          stored = stored_runs x kept.home kept.name (exprs (as_params (params_of kept.ty) all)) passed (own means.tree) w found_there comes;
        })

    -- it gives no structure or union
    pub own_serves : is_record type ≡ false → Served x None type (called_by_name x.names number).result ((called_by_name x.names number).call list) source last c w
    own_serves plain =
        let params_is : params_of kept.ty ≡ listed =
        kept_params x number one kept means kept_ty linked back running ∙ ap (λ (b : Bool). with_result b (rust_type x.names.types back) listed) (of_record x number one kept means kept_ty linked back running type alike false plain) in
        served_by None list ran.values ran.values (ap (λ (params : Tys). are_enough params list) params_is ∙ fits_enough x args next listed fit)
        (λ units. ap (λ (params : Tys). run_exprs x.frame (exprs (as_params params list)) w units) params_is ∙ ran.runs units) (ran.types ∙ sym params_is) ran.accepted
        (subst (λ (laid : Option Laid). ResultHanded last (blocks_of w) laid None ran.values ran.values) (sym (no_result_laid x number one kept means kept_ty linked back running type alike plain)) refl) ran.handed
        (λ later others value given_back gives. any_align later others (align_or (result_laid x.s one)) (align_in (setting_in x.s) type) value given_back gives)

    -- it gives one, in a place whose address is passed first
    pub own_serves_at : (place : Ptr) (address : Expr) (laid : Laid) → is_record type ≡ true → extent_in (setting_in x.s) type ≡ Some laid → ResultPlace last (blocks_of w) laid place → GivesAt x.frame w address (Pointer (type_in x.names type)) (Object place) →
        Served x (Some place) type (called_by_name x.names number).result ((called_by_name x.names number).call (result_argument (type_in x.names type) address ∷ list)) source last c w
    own_serves_at place address laid of_it laid_is ready gives =
        let T = type_in x.names type in
        let Given = rust_type x.names.types back in
        let all = result_argument T address ∷ list in
        let first = typed (Pointer Given) (Object place) in
        let passed_as = as_type (Pointer T) (Pointer Given) address in
        let params_is : params_of kept.ty ≡ more_tys (Pointer Given) listed =
        kept_params x number one kept means kept_ty linked back running ∙ ap (λ (b : Bool). with_result b Given listed) (of_record x number one kept means kept_ty linked back running type alike true of_it) in
        let first_runs = as_type_gives last x.frame w (Pointer T) (Pointer Given) address (Object place) gives refl in
        let definition = definition_of x.home.program one back linked running in
        let own_laid = result_laid_is x number one kept means kept_ty linked back running type laid alike of_it laid_is definition.result_complete in
        served_by (Some place) all (first ∷ ran.values) ran.values (ap (λ (params : Tys). are_enough params all) params_is ∙ fits_one_more x args next listed (Pointer Given) (result_argument T address) fit)
        (λ units. ap (λ (params : Tys). run_exprs x.frame (exprs (as_params params all)) w units) params_is
        ∙ seq_is (run_expr x.frame passed_as) (λ value. seq (run_exprs x.frame (exprs (as_params listed list))) (λ values. pure (value ∷ values))) w units first (first_runs.runs units)
        ∙ seq_is (run_exprs x.frame (exprs (as_params listed list))) (λ values. pure (first ∷ values)) w units ran.values (ran.runs units)
        ∙ pure_is (first ∷ ran.values) w units) (ap (more_tys (Pointer Given)) ran.types ∙ sym params_is) ran.accepted
        (subst (λ (found : Option Laid). ResultHanded last (blocks_of w) found (Some place) (first ∷ ran.values) ran.values) (sym own_laid) (first, refl, refl, ready)) ran.handed
        (λ later others value given_back gives. subst (λ (align : ℕ). GivesBack later others align (Some place) value given_back) (ap align_or own_laid ∙ sym (ap align_or laid_is)) gives)
