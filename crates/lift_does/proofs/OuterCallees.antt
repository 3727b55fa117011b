-- An external function that is called: its type in C, and what an item gives that is called in its place (ISO C99, 6.5.2.2 and 7.1.4; the Rust Reference, "External blocks").
use Rattle.std.proofs.Common.{◌≡◌, ℕ, Bool, true, false, if◌then◌else◌, List, Option, Some, None, Ok, refl, sym, ap, subst, ◌∙◌}
use Rattle.std.specs.List.{Contains}
use Rattle.std.specs.Prelude.{IfSome}
use Rattle.cr_base.specs.declared.refusal.Place.{Place}
use Rattle.cr_base.specs.declared.scalar.Scalar.{Scalar}
use Rattle.cr_world.specs.World.{World}
use Rattle.cx_core.specs.Compatible.{AreCompatible}
use Rattle.cx_core.specs.Conversions.{scalar_of as c_scalar_of}
use Rattle.cx_core.specs.Linked.{IsLinked, IsTypedOuter}
use Rattle.cx_core.specs.Trees.{CProgram, CTy, ty, pointer, form_of_type, unqualified, expr, call, CExprs, CFun, COuter}
use Rattle.cx_core.specs.Typing.{function_with, outer_with, IsTyped, IsCalleeOf, CCallee as CoreCallee}
use Rattle.cx_mean.specs.Calls.{CCallee, external, CCalling, callee_of, callee_numbered, called_with, node_calling, type_of_callee}
use Rattle.cx_mean.specs.Operands.{COperand, united_operands}
use Rattle.cx_mean.specs.Settings.{scalar_in_type}
use Rattle.cx_typed_runs.proofs.Scenes.{all_of}
use Rattle.cx_typed_work.proofs.AlikeCalls.{call_alike}
use Rattle.cx_typed_work.proofs.AlikeValues.{alike_kind}
use Rattle.cx_typed_work.specs.Calls.{IsCalleeIn, IsTypedCall}
use Rattle.lift_calls.specs.Programs.{setting_in}
use Rattle.lift_does.proofs.Arguments.{ArgsGiven}
use Rattle.lift_does.proofs.Around.{Around, At}
use Rattle.lift_does.proofs.CallEnds.{IsPassed}
use Rattle.lift_does.proofs.CalledFunctions.{pointer_is, option_same, void_none, record_same, unqualified_record, unqualified_form, passed_record, some_same}
use Rattle.lift_does.proofs.NamedCalls.{call_typed, Visible, listed_by}
use Rattle.lift_does.proofs.Nodes.{and_then_is}
use Rattle.lift_does.proofs.OuterArguments.{FrontFits}
use Rattle.lift_does.proofs.OuterTypes.{OuterForm, outer_form, outer_fits}
use Rattle.lift_does.proofs.OwnCalls.{CallsAs, with_parts}
use Rattle.lift_does.proofs.PointedServes.{void_back, void_type, kind_in}
use Rattle.lift_does.specs.Outers.{is_variadic, TakesAll}
use Rattle.lift_exprs.specs.Names.{type_in, params_of, result_of}
use Rattle.lift_held.specs.Held.{is_void_form, is_void, is_record}
use Rattle.lift_stands.specs.Stands.{Images}
use Rattle.rs_items.specs.Types.{rust_type, rust_params, code_type, result_type}
use Rattle.rs_text.specs.Tree.{Ty, Tys, no_ty, some_ty, option_ty, Code, OuterTree}

-- ---- the type that is visible

abbrev callee_among : Option CFun → Option COuter → Option CoreCallee
callee_among (Some one) outer_one = Some (record { type = one.type; outer = None })
callee_among None (Some one) = Some (record { type = one.type; outer = Some one })
callee_among None None = None

outer_visible : (x : Around) (type : CTy) (args : CExprs) (one : COuter) (found : Option CFun) (outer_one : Option COuter) → found ≡ None → outer_one ≡ Some one → IfSome (callee_among found outer_one) (IsCalleeOf x.home type args) → Visible x type args one.type
outer_visible x type args one None (Some other) e f is =
    let same : other ≡ one = cc (f) in
    subst (λ (o : COuter). Visible x type args o.type) same (record { visible = is.visible; compatible = is.compatible; call = is.call })
outer_visible x type args one None None e f is = cc (f)
outer_visible x type args one (Some fun) outer_one e f is = cc (e)

module _ (x : Around) (type : CTy) (at : Place) (number : ℕ) (args : CExprs) (next : ℕ) (typed_node : IsTyped x.home (expr type at (call number args))) (operands : List COperand) (last : Images) (c w : World) (here : At x last c w)
    (given : ArgsGiven x last w args next operands) (calling : CCalling) (calls_it : node_calling (setting_in x.s) type at (call number args) operands ≡ Ok calling) (one : COuter) (undefined : function_with number x.s.program.functions ≡ None)
    (outer_is : outer_with number x.s.program.externals ≡ Some one) where
  pub calls : CallsAs type operands (external one) calling
  calls =
      let united = and_then_is (united_operands operands) _ calling calls_it in
      let found = and_then_is (callee_numbered x.s.program number) _ calling united.2 in
      let is : callee_of None (Some one) ≡ Ok found.0 =
      ap (λ (f : Option CFun). callee_of f (Some one)) (sym undefined) ∙ (ap (λ (o : Option COuter). callee_of (function_with number x.s.program.functions) o) (sym outer_is) ∙ found.1) in
      let same : external one ≡ found.0 = cc (is) in
      with_parts type at united.0 operands (external one) calling (subst (λ (callee : CCallee). called_with type at united.0 operands callee ≡ Ok calling) (sym same) found.2)

  pub typed_call : IsTypedCall x.home.program calling.called
  typed_call = (call_typed x type at number args next typed_node operands last c w here given calling calls_it).typed

  abbrev linked : IsLinked x.home.program
  linked = here.typed.scene.linked

  there : Contains x.home.program.externals one
  there = subst (IsCalleeIn x.home.program) calls.callee_is typed_call.callee_in

  pub form : OuterForm x.home.program.types (form_of_type one.type)
  form = outer_form x.home.program.types one.name (form_of_type one.type) (all_of (IsTypedOuter x.home.program.types) x.home.program.externals one linked.externals there).external

  type_alike : AreCompatible x.home.program.types type (unqualified form.back)
  type_alike =
      subst (λ (t : CTy). AreCompatible x.home.program.types t (unqualified form.back)) calls.type_is
      (call_alike x.home.program calling.called form.back form.params form.variadic typed_call (ap (λ (it : CCallee). form_of_type (type_of_callee it)) calls.callee_is ∙ form.form_is)).compatible

  pub plain : is_record type ≡ false
  plain = record_same x.home.program.types type (unqualified form.back) type_alike ∙ (unqualified_record form.back ∙ form.gives.plain)

  back_some : is_void type ≡ false → is_void form.back ≡ false
  back_some some = ap is_void_form (sym (unqualified_form form.back)) ∙ some_same x.home.program.types type (unqualified form.back) type_alike some

  abbrev pub Back : Ty
  Back = rust_type x.names.types form.back

  c_kind : (some : is_void type ≡ false) → c_scalar_of x.home.program.types (form_of_type type) ≡ Some (form.gives.kind (back_some some)).0
  c_kind some =
      alike_kind x.home.program.types type (unqualified form.back) type_alike ∙ (ap (c_scalar_of x.home.program.types) (unqualified_form form.back) ∙ (form.gives.kind (back_some some)).1)

  pub kind_there : is_void type ≡ false → (kind : Scalar) × (scalar_in_type (setting_in x.s) type ≡ Some kind)
  kind_there some = ((form.gives.kind (back_some some)).0, subst (λ (program : CProgram). c_scalar_of program.types (form_of_type type) ≡ Some (form.gives.kind (back_some some)).0) x.means.program (c_kind some))

  abbrev pub pointed : Ty
  pointed = type_in x.names (ty (pointer one.type) false)

  pub pointed_is : pointed ≡ Code (rust_params x.names.types form.params) (result_type false Back)
  pointed_is = pointer_is x one.type form.back form.params form.variadic form.form_is ∙ ap (λ (b : Bool). code_type b Back (rust_params x.names.types form.params)) (passed_record form.back ∙ form.gives.plain)

  pub visible : Visible x type args one.type
  visible =
      outer_visible x type args one (function_with number x.home.program.functions) (outer_with number x.home.program.externals)
      (subst (λ (program : CProgram). function_with number program.functions ≡ None) (sym x.means.program) undefined)
      (subst (λ (program : CProgram). outer_with number program.externals ≡ Some one) (sym x.means.program) outer_is) typed_node.1.1.1

  -- the parameters that it has in C fit what is passed
  pub front_fits : (variadic : Bool) → variadic ≡ is_variadic (form_of_type one.type) → TakesAll (params_of pointed) variadic args → FrontFits x args (params_of pointed)
  front_fits variadic variadic_is takes =
      let listed = listed_by x type args visible.visible (form_of_type visible.visible) refl visible.call in
      let same : variadic ≡ form.variadic = variadic_is ∙ ap is_variadic form.form_is in
      let params : params_of pointed ≡ rust_params x.names.types form.params = ap params_of pointed_is in
      subst (FrontFits x args) (sym params)
      (outer_fits x visible.visible one.type listed.back form.back listed.params form.params listed.variadic form.variadic args visible.compatible listed.form_is form.form_is listed.typed
      (subst (λ (v : Bool). TakesAll (rust_params x.names.types form.params) v args) same (subst (λ (all : Tys). TakesAll all variadic args) params takes)))

  -- an item gives what the function does
  module _ (tree : OuterTree) (gives : option_ty tree.result ≡ result_of pointed) where
    item_result : option_ty tree.result ≡ result_type false Back
    item_result = gives ∙ ap result_of pointed_is

    pub passes : is_void type ≡ false → is_record type ≡ false → IsPassed tree.result (type_in x.names type)
    passes some no_record =
        let kind = form.gives.kind (back_some some) in
        let own = kind_in x form.back kind.0 kind.1 in
        record {
          from = Back;
          own_is = option_same tree.result (Some Back) (item_result ∙ ap (λ (v : Bool). if v then no_ty else some_ty Back) (void_none Back kind.0 own));
          kind = kind.0;
          from_kind = own;
          kind_is = kind_in x type kind.0 (c_kind some);
        }

    pub nothing : is_void type ≡ true → tree.result ≡ None
    nothing is =
        let void = void_back x type (unqualified form.back) (is_void (unqualified form.back)) type_alike is refl in
        let own : is_void form.back ≡ true = ap is_void_form (sym (unqualified_form form.back)) ∙ void in
        option_same tree.result None (item_result ∙ ap (λ (t : Ty). result_type false t) (void_type x form.back own))
