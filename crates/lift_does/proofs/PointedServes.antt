-- A call by a pointer is written for what C does, with the types of the pointer (ISO C99, 6.5.2.2; the Rust Reference, "Call expressions").
use Rattle.std.proofs.Common.{◌≡◌, ℕ, Bool, true, false, if◌then◌else◌, ◌&&◌, List, ◌∷◌, length, map, Option, Some, None, Ok, refl, sym, ap, subst, ◌∙◌}
use Rattle.cr_base.specs.declared.layout.Laid.{Laid}
use Rattle.cr_base.specs.declared.refusal.Place.{Place}
use Rattle.cr_base.specs.declared.scalar.Scalar.{Scalar}
use Rattle.cr_runs.proofs.Rules.{pieces, values, renamed, bind_came}
use Rattle.cr_runs.specs.Runs.{came, bind, tick}
use Rattle.cr_world.specs.World.{World, blocks_of, events_of}
use Rattle.cx_core.specs.Compatible.{AreCompatible, in_pairs}
use Rattle.cx_core.specs.Conversions.{scalar_of as c_scalar_of}
use Rattle.cx_core.specs.Linked.{IsLinked, home_of}
use Rattle.cx_core.specs.Trees.{CProgram, CTy, ty, void, basic, enum_type, pointer, array, record_type, function, form_of_type, unqualified, CExpr, expr, call_by, CExprs, CFun, type_of}
use Rattle.cx_core.specs.ValidTypes.{IsTypeIn, IsResultForm, AreTypes}
use Rattle.cx_core.specs.Typing.{IsTyped}
use Rattle.cx_mean.specs.Calls.{defined, CCalling, node_calling}
use Rattle.cx_mean.specs.Leftmost.{CRan, c_callee}
use Rattle.cx_mean.specs.Operands.{CValue, scalar, cells, names, designates, designates_bits, missing, COperand}
use Rattle.cx_mean.specs.Settings.{extent_in}
use Rattle.cx_mean.specs.State.{values_of_args}
use Rattle.cx_typed_runs.proofs.Taking.{definition_of}
use Rattle.cx_typed_runs.specs.Sites.{IsRunning}
use Rattle.cx_typed_work.proofs.AlikeFunctions.{results_alike as results_compatible}
use Rattle.cx_typed_work.proofs.AlikeValues.{forms_meet, alike_kind, alike_back}
use Rattle.cx_typed_work.specs.Calls.{IsTypedCall}
use Rattle.cx_typed_work.specs.Operands.{IsOperandOf}
use Rattle.lift_calls.specs.Calls.{ResultPlace, type_in as type_of_given, IsOfItsType, GivesBack, AreHanded, ResultHanded, result_laid}
use Rattle.lift_calls.specs.Programs.{setting_in, c_calls}
use Rattle.lift_does.proofs.Arguments.{ArgsGiven}
use Rattle.lift_does.proofs.ArgumentsRun.{ArgsRun, args_run}
use Rattle.lift_does.proofs.Around.{Around, At}
use Rattle.lift_does.proofs.CallEnds.{IsPassed, Came, Served}
use Rattle.lift_does.proofs.CallRuns.{pointed_run, dropped_by_runs, stored_by_runs}
use Rattle.lift_does.proofs.CalledFunctions.{fits_enough, fits_one_more, pointer_is, item_params, item_passed, item_is, code_parts, function_typed, no_result_laid, of_record, result_laid_is, result_kind, void_none, record_same, passed_record, some_same, option_same}
use Rattle.lift_does.proofs.NamedCalls.{operands_are, operands_count, IsListed, listed_by}
use Rattle.lift_does.proofs.Nodes.{GivesUsed}
use Rattle.lift_does.proofs.OwnCalls.{CallsAs, params_count, any_align, gives_result, runs_function, result_alike, stands, crate_run, node_owes}
use Rattle.lift_does.proofs.PointedCalls.{call_typed, pointed, PointerCalls, pointer_calls, PointerFits, pointer_fits}
use Rattle.lift_does.proofs.PointedTypes.{tys_alike, lists_alike, all_accepted, have_kinds, forms_alike}
use Rattle.lift_does.specs.Agree.{FunctionMeans}
use Rattle.lift_exprs.specs.Calls.{Argument, Called, called_by_pointer, call_as, as_params, are_enough, result_argument}
use Rattle.lift_exprs.specs.Lifted.{lifted_args, operand_of}
use Rattle.lift_exprs.specs.Names.{KeptFunction, type_in, params_of, result_of}
use Rattle.lift_forms.specs.Given.{Given}
use Rattle.lift_forms.specs.Operators.{value_of, as_type}
use Rattle.lift_forms.proofs.SameTypes.{integer_is}
use Rattle.lift_forms_laws.proofs.Operands.{value_gives, as_type_gives}
use Rattle.lift_forms_laws.proofs.Runs.{seq_is, pure_is}
use Rattle.lift_forms_laws.specs.Gives.{GivesAt, GivesBelow, GivenStands}
use Rattle.lift_held.specs.Held.{is_void, is_record}
use Rattle.lift_stands.proofs.Forms.{function_below}
use Rattle.lift_stands.specs.Stands.{Images, ValueBelow}
use Rattle.lift_stands_values.specs.Given.{align_or, align_in}
use Rattle.mem_bytes.specs.Memory.{Blocks}
use Rattle.mem_bytes.specs.declared.value.Ptr.{Ptr}
use Rattle.mem_bytes.specs.declared.value.Value.{Value}
use Rattle.mem_bytes.specs.declared.value.Value.TheVariants.{Object, Code as Function}
use Rattle.rs_items.specs.Types.{is_record as is_passed, rust_type, rust_params, with_result, result_type}
use Rattle.rs_mean.specs.Calls.{accepts}
use Rattle.rs_mean.specs.Lookups.{own as own_callee, own_signature, callee_at, function_with}
use Rattle.rs_mean.specs.Run.{run_expr, run_exprs, called_as, params_alike, results_alike, retyped}
use Rattle.rs_mean.specs.Scalars.{integer_scalar, scalar_of, alike}
use Rattle.rs_mean.specs.Values.{Typed, typed}
use Rattle.rs_mean.specs.World.{seq, pure}
use Rattle.rs_text.specs.Tree.{Ty, Integer, Boolean, Void, Pointer, Code, Tys, more_tys, tys, OptionTy, no_ty, some_ty, option_ty, Expr, CallBy, exprs, FunctionTree, LocalTree, ModuleTree}
use Rattle.rs_tree.specs.declared.ty.RPath.{RPath}

-- ---- a result in the type of the pointer

abbrev pub option_of : OptionTy → Option Ty
option_of no_ty = None
option_of (some_ty t) = Some t

option_back : (result : OptionTy) → result ≡ option_ty (option_of result)
option_back no_ty = refl
option_back (some_ty t) = refl

-- alike types have one scalar
same_scalar : (one other : Ty) → alike one other ≡ true → scalar_of one ≡ scalar_of other
same_scalar (Integer a) (Integer b) e = ap (λ (which : _). Some (integer_scalar which)) (integer_is a b e)
same_scalar Boolean Boolean e = refl
same_scalar (Pointer a) (Pointer b) e = refl
same_scalar (Code params result) (Code others back) e = refl
same_scalar _ _ e = absurd cc

retyped_type : (own : Option Ty) (result : OptionTy) (given : Option Typed) → results_alike own result ≡ true → type_of_given given ≡ own → type_of_given (retyped result given) ≡ option_of result
retyped_type own no_ty given e is = refl
retyped_type (Some one) (some_ty other) (Some value) e is = refl
retyped_type (Some one) (some_ty other) None e is = cc (is)
retyped_type None (some_ty other) given e is = cc (e)

retyped_value : (own : Option Ty) (result : OptionTy) (given : Option Typed) → results_alike own result ≡ true → type_of_given given ≡ own → IsOfItsType given → IsOfItsType (retyped result given)
retyped_value own no_ty given e is of = tt
retyped_value (Some one) (some_ty other) (Some value) e is of = λ kind kind_is.
    let own_is : value.ty ≡ one = cc (is) in
    of kind (ap scalar_of own_is ∙ same_scalar one other e ∙ kind_is)
retyped_value (Some one) (some_ty other) None e is of = tt
retyped_value None (some_ty other) given e is of = cc (e)

retyped_gives : (images : Images) (others : Blocks) (align : ℕ) (place : Option Ptr) (own : Option Ty) (result : OptionTy) (value : CValue) (given : Option Typed) → results_alike own result ≡ true → type_of_given given ≡ own → GivesBack images others align place value given →
    GivesBack images others align place value (retyped result given)
retyped_gives images others align place own result missing given e is gives = tt
retyped_gives images others align None (Some one) (some_ty other) (scalar value) (Some back) e is gives = gives
retyped_gives images others align None (Some one) (some_ty other) (scalar value) None e is gives = absurd gives
retyped_gives images others align None None (some_ty other) (scalar value) given e is gives = cc (e)
retyped_gives images others align None (Some one) no_ty (scalar value) given e is gives = cc (e)
retyped_gives images others align None None no_ty (scalar value) (Some back) e is gives = cc (is)
retyped_gives images others align None None no_ty (scalar value) None e is gives = absurd gives
retyped_gives images others align (Some at) own result (scalar value) given e is gives = absurd gives
retyped_gives images others align (Some at) own result (cells list from) given e is gives = gives
retyped_gives images others align None own result (cells list from) given e is gives = absurd gives
retyped_gives images others align place own result (names number) given e is gives = absurd gives
retyped_gives images others align place own result (designates to) given e is gives = absurd gives
retyped_gives images others align place own result (designates_bits to bit width) given e is gives = absurd gives

tree_same : (one other : FunctionTree) → Some (own_callee one) ≡ Some (own_callee other) → one ≡ other
tree_same one other e = cc (e)

passed_retyped : (own : Option Ty) (result : OptionTy) (to : Ty) → results_alike own result ≡ true → IsPassed own to → IsPassed (option_of result) to
passed_retyped own no_ty to e is = let clash : false ≡ true = sym (ap (λ (o : Option Ty). results_alike o no_ty) is.own_is) ∙ e in cc (clash)
passed_retyped own (some_ty other) to e is =
    let one_alike : alike is.from other ≡ true = sym (ap (λ (o : Option Ty). results_alike o (some_ty other)) is.own_is) ∙ e in
    record { from = other; own_is = refl; kind = is.kind; from_kind = sym (same_scalar is.from other one_alike) ∙ is.from_kind; kind_is = is.kind_is }

module _ (x : Around) where
  pub void_type : (type : CTy) → is_void type ≡ true → rust_type x.names.types type ≡ Void
  void_type (ty void is_const) e = refl
  void_type (ty (basic which) is_const) e = cc (e)
  void_type (ty (enum_type number) is_const) e = cc (e)
  void_type (ty (pointer to) is_const) e = cc (e)
  void_type (ty (array element count) is_const) e = cc (e)
  void_type (ty (record_type number) is_const) e = cc (e)
  void_type (ty (function back params variadic) is_const) e = cc (e)

  pub void_back : (first second : CTy) (test : Bool) → AreCompatible x.home.program.types first second → is_void first ≡ true → is_void second ≡ test → test ≡ true
  void_back first second true by is e = refl
  void_back first second false by is e = let clash : true ≡ false = sym is ∙ some_same x.home.program.types second first (alike_back x.home.program.types first second by) e in cc (clash)

  abbrev result_in : CTy → OptionTy
  result_in type = result_type (is_passed type) (rust_type x.names.types type)

  record_result : (type : CTy) → is_record type ≡ true → result_in type ≡ no_ty
  record_result type is = ap (λ (b : Bool). result_type b (rust_type x.names.types type)) (passed_record type ∙ is)

  void_result : (type : CTy) → is_record type ≡ false → is_void type ≡ true → result_in type ≡ no_ty
  void_result type plain is = ap (λ (b : Bool). result_type b (rust_type x.names.types type)) (passed_record type ∙ plain) ∙ ap (λ (t : Ty). result_type false t) (void_type type is)

  scalar_result : (type : CTy) (kind : Scalar) → is_record type ≡ false → scalar_of (rust_type x.names.types type) ≡ Some kind → result_in type ≡ some_ty (rust_type x.names.types type)
  scalar_result type kind plain is =
      ap (λ (b : Bool). result_type b (rust_type x.names.types type)) (passed_record type ∙ plain) ∙ ap (λ (v : Bool). if v then no_ty else some_ty (rust_type x.names.types type)) (void_none (rust_type x.names.types type) kind is)

  pub kind_in : (type : CTy) (kind : Scalar) → c_scalar_of x.home.program.types (form_of_type type) ≡ Some kind → scalar_of (rust_type x.names.types type) ≡ Some kind
  kind_in type kind e = x.means.scalars type kind (subst (λ (program : CProgram). c_scalar_of program.types (form_of_type type) ≡ Some kind) x.means.program e)

  types_are_alike : (visible back : CTy) (kind : Scalar) (by : AreCompatible x.home.program.types visible back) → c_scalar_of x.home.program.types (form_of_type visible) ≡ Some kind → c_scalar_of x.home.program.types (form_of_type back) ≡ Some kind →
      alike (rust_type x.names.types back) (rust_type x.names.types visible) ≡ true
  types_are_alike (ty f one) (ty s two) kind by is too = forms_alike x (in_pairs by.pairs) f s kind kind (forms_meet x.home.program.types (in_pairs by.pairs) (ty f one) (ty s two) by.meet) is too refl

  results_fit : (own_result : Option Ty) (unit : ℕ) (visible back : CTy) → AreCompatible x.home.program.types visible back → AreTypes x.home.program.types → option_ty own_result ≡ result_in back → IsTypeIn x.home.program.types unit back → IsResultForm (form_of_type back) →
      results_alike own_result (result_in visible) ≡ true
  results_fit own_result unit visible back by types own_is is form = test (is_record visible) (is_void visible) refl refl
    where
      test : (of_it nothing : Bool) → is_record visible ≡ of_it → is_void visible ≡ nothing → results_alike own_result (result_in visible) ≡ true
      test true nothing r v =
          let none : own_result ≡ None = option_same own_result None (own_is ∙ record_result back (sym (record_same x.home.program.types visible back by) ∙ r)) in
          subst (λ (t : OptionTy). results_alike own_result t ≡ true) (sym (record_result visible r)) (subst (λ (o : Option Ty). results_alike o no_ty ≡ true) (sym none) refl)
      test false true r v =
          let none : own_result ≡ None = option_same own_result None (own_is ∙ void_result back (sym (record_same x.home.program.types visible back by) ∙ r) (same_true (is_void back) (void_back visible back (is_void back) by v refl))) in
          subst (λ (t : OptionTy). results_alike own_result t ≡ true) (sym (void_result visible r v)) (subst (λ (o : Option Ty). results_alike o no_ty ≡ true) (sym none) refl)
        where
          same_true : (b : Bool) → b ≡ true → b ≡ true
          same_true b e = e
      test false false r v =
          let plain = sym (record_same x.home.program.types visible back by) ∙ r in
          let kind = result_kind x.home.program.types unit back types is form (some_same x.home.program.types visible back by v) plain in
          let seen : c_scalar_of x.home.program.types (form_of_type visible) ≡ Some kind.0 = alike_kind x.home.program.types visible back by ∙ kind.1 in
          let some : own_result ≡ Some (rust_type x.names.types back) = option_same own_result (Some (rust_type x.names.types back)) (own_is ∙ scalar_result back kind.0 plain (kind_in back kind.0 kind.1)) in
          subst (λ (t : OptionTy). results_alike own_result t ≡ true) (sym (scalar_result visible kind.0 r (kind_in visible kind.0 seen)))
          (subst (λ (o : Option Ty). results_alike o (some_ty (rust_type x.names.types visible)) ≡ true) (sym some) (types_are_alike visible back kind.0 by seen kind.1))

  with_alike : (one other : Bool) (given seen : Ty) (own_params visible : Tys) → one ≡ other → tys_alike own_params visible ≡ true → tys_alike (with_result one given own_params) (with_result other seen visible) ≡ true
  with_alike true true given seen own_params visible e is = is
  with_alike false false given seen own_params visible e is = is
  with_alike true false given seen own_params visible e is = cc (e)
  with_alike false true given seen own_params visible e is = cc (e)

module _ (x : Around) (type : CTy) (at : Place) (callee : CExpr) (args : CExprs) (next : ℕ) (typed_node : IsTyped x.home (expr type at (call_by callee args))) (first : COperand) (operands : List COperand) (last : Images) (c w : World) (here : At x last c w)
    (first_is : IsOperandOf x.home callee first) (given : ArgsGiven x last w args next operands) (calling : CCalling) (calls_it : node_calling (setting_in x.s) type at (call_by callee args) (first ∷ operands) ≡ Ok calling)
    (pointer_given : Given) (gave : GivesUsed x true last w callee pointer_given first.value) where
  abbrev of : PointerCalls x type at callee args next typed_node first operands last c w here first_is given calling calls_it
  of = pointer_calls x type at callee args next typed_node first operands last c w here first_is given calling calls_it

  abbrev to : CTy
  to = (pointed x type at callee args next typed_node first operands last c w here first_is given calling calls_it).to

  abbrev number : ℕ
  number = of.points.number

  abbrev one : CFun
  one = of.points.one

  abbrev kept : KeptFunction
  kept = (x.means.functions number one of.points.defined_is).0

  abbrev means : FunctionMeans x.s number kept
  means = (x.means.functions number one of.points.defined_is).2

  abbrev kept_ty : kept.ty ≡ type_in x.names (ty (pointer one.type) false)
  kept_ty = (x.means.functions number one of.points.defined_is).3

  abbrev calls : CallsAs type operands (defined one) calling
  calls = of.calls

  abbrev typed_call : IsTypedCall x.home.program calling.called
  typed_call = (call_typed x type at callee args next typed_node first operands last c w here first_is given calling calls_it).typed

  abbrev linked : IsLinked x.home.program
  linked = here.typed.scene.linked

  abbrev back : CTy
  back = gives_result x type operands last c w here number one of.points.defined_is kept means calling calls typed_call

  abbrev running : IsRunning x.home.program one back
  running = runs_function x type operands last c w here number one of.points.defined_is kept means calling calls typed_call

  abbrev type_alike : AreCompatible x.home.program.types type (unqualified back)
  type_alike = result_alike x type operands last c w here number one of.points.defined_is kept means calling calls typed_call

  -- the type of the pointer
  abbrev seen : IsListed x args to
  seen = listed_by x type args to (form_of_type to) refl (pointed x type at callee args next typed_node first operands last c w here first_is given calling calls_it).call

  abbrev to_alike : AreCompatible x.home.program.types to one.type
  to_alike = subst (λ (program : CProgram). AreCompatible program.types to one.type) (sym x.means.program) of.points.compatible

  results_are : AreCompatible x.home.program.types seen.back back
  results_are = results_compatible x.home.program.types to one.type seen.back back seen.params running.params seen.variadic running.variadic to_alike seen.form_is running.type_is

  fit : PointerFits x args running.params seen.params
  fit =
      let definition = definition_of x.home.program one back linked running in
      pointer_fits x (home_of x.home.program None one.unit) one.params to one.type seen.back back seen.params running.params seen.variadic running.variadic args to_alike seen.form_is running.type_is definition.fixed seen.typed definition.params_are
      (params_count one (length operands) calls.counted_is ∙ operands_count x args operands (operands_are x last w args next operands given)) (have_kinds x last w args next operands operands typed_node.1.1 given calls.all_is)

  abbrev listed : Tys
  listed = rust_params x.names.types seen.params

  abbrev Seen : Ty
  Seen = rust_type x.names.types seen.back

  abbrev params : Tys
  params = with_result (is_passed seen.back) Seen listed

  abbrev result : OptionTy
  result = result_type (is_passed seen.back) Seen

  abbrev P : Ty
  P = type_in x.names (type_of callee)

  pointer_type : P ≡ Code params result
  pointer_type =
      ap (type_in x.names) (pointed x type at callee args next typed_node first operands last c w here first_is given calling calls_it).type_is ∙ pointer_is x to seen.back seen.params seen.variadic seen.form_is

  abbrev list : List Argument
  list = (lifted_args x.names args next).list

  ran : ArgsRun x last w listed list (values_of_args operands)
  ran = args_run x last w args next listed operands operands typed_node.1.1 fit.fits given calls.all_is

  abbrev called : Called
  called = called_by_pointer (operand_of x.names callee pointer_given)

  abbrev pointer_value : Expr
  pointer_value = value_of (operand_of x.names callee pointer_given)

  -- the function of the crate to which it points
  record Leads : Type 0 where
    place : ℕ
    gives : GivesAt x.frame w pointer_value (Code params result) (Function place)
    at_place : function_with x.frame.modules place ≡ Some means.tree

  leads : Leads
  leads =
      let stands_so : GivenStands last x.frame w P pointer_given of.value = (subst (GivesUsed x true last w callee pointer_given) of.value_is gave).stands in
      let below : GivesBelow last x.frame w pointer_value P of.value = value_gives last x.frame w (operand_of x.names callee pointer_given) of.value stands_so in
      let image = function_below last number below.other (subst (λ (v : Value). ValueBelow last v below.other) of.points.value_is below.below) in
      let agrees = here.program.functions number one of.points.defined_is in
      let place : image.0 ≡ agrees.place = same_number image.0 agrees.place (sym image.2 ∙ agrees.image) in
      let path = same_path means.path agrees.path (sym means.path_is ∙ agrees.path_is) in
      let tree : means.tree ≡ agrees.tree =
      tree_same means.tree agrees.tree
      (sym means.tree_is ∙ ap (λ (m : List ℕ). callee_at x.s.modules m kept.name) means.home_is ∙ ap (λ (f : List ℕ). callee_at x.s.modules means.path.home f) means.name_is ∙ ap (λ (p : RPath). callee_at x.s.modules p.home p.name) path ∙ agrees.tree_is) in
      record {
        place = agrees.place;
        gives = subst (λ (t : Ty). GivesAt x.frame w pointer_value t (Function agrees.place)) pointer_type (subst (λ (v : Value). GivesAt x.frame w pointer_value P v) (image.1 ∙ ap Function place) below.gives);
        at_place = ap (λ (modules : List ModuleTree). function_with modules agrees.place) here.frames.modules ∙ agrees.at_place ∙ ap Some (sym tree);
      }
    where
      same_number : (a b : ℕ) → Some a ≡ Some b → a ≡ b
      same_number a b e = cc (e)

      same_path : (a b : RPath) → Some a ≡ Some b → a ≡ b
      same_path a b e = cc (e)

  abbrev own_types : List Ty
  own_types = map (λ (local : LocalTree). local.ty) means.tree.params

  params_ok : params_alike own_types params ≡ true
  params_ok =
      lists_alike own_types params
      (subst (λ (t : Tys). tys_alike t params ≡ true) (sym (item_params x number one kept means kept_ty linked back running))
      (with_alike x (is_passed back) (is_passed seen.back) (rust_type x.names.types back) Seen (rust_params x.names.types running.params) listed
      (passed_record back ∙ sym (record_same x.home.program.types seen.back back results_are) ∙ sym (passed_record seen.back)) fit.alike))

  results_ok : results_alike means.tree.result result ≡ true
  results_ok =
      let typed = function_typed x number one kept means kept_ty linked back running in
      results_fit x means.tree.result one.unit seen.back back results_are linked.types (code_parts x number one kept means kept_ty linked back running _ _ _ _ (item_is x number one kept means kept_ty linked back running)).1 typed.0 typed.1

  fits_as : called_as params result (own_signature means.tree) ≡ true
  fits_as = both_hold (params_alike own_types params) (results_alike means.tree.result result) params_ok results_ok
    where
      both_hold : (a b : Bool) → a ≡ true → b ≡ true → (a && b) ≡ true
      both_hold a b is too = rw (is) too

  -- ---- what is written

  call_is : (all : List Argument) → are_enough (params_of P) all ≡ true → called.call all ≡ CallBy pointer_value (exprs (as_params (params_of P) all))
  call_is all enough = ap (λ (b : Bool). if b then CallBy pointer_value (exprs (as_params (params_of P) all)) else call_as P pointer_value all) enough

  abbrev source : ℕ → CRan COperand
  source = tick c (λ left. c_callee (setting_in x.s) (c_calls x.s) type calling calling.called.callee c left)

  served_by : (place : Option Ptr) (all : List Argument) (passed rest : List Typed) → are_enough (params_of P) all ≡ true → ((units : ℕ) → run_exprs x.frame (exprs (as_params (params_of P) all)) w units ≡ came passed w units) →
      tys (map (λ (v : Typed). v.ty) passed) ≡ params → ResultHanded last (blocks_of w) (result_laid x.s one) place passed rest → AreHanded last (blocks_of w) (values_of_args operands) rest →
      ((later : Images) (others : Blocks) (value : CValue) (given_back : Option Typed) → GivesBack later others (align_or (result_laid x.s one)) place value given_back → GivesBack later others (align_in (setting_in x.s) type) place value given_back) →
      Served x place type called.result (called.call all) source last c w
  served_by place all passed rest enough comes types handed_result handed aligned =
      let fits : accepts (own_signature means.tree).params false passed ≡ true = all_accepted own_types passed (subst (λ (t : Tys). params_alike own_types t ≡ true) (sym types) params_ok) in
      let stand = stands x type operands last c w here number one of.points.defined_is kept means calling calls typed_call place passed rest handed_result handed in
      let run = crate_run x type operands last c w here number one of.points.defined_is kept means calling calls typed_call place passed stand fits aligned in
      let owes = node_owes x type operands last c w here number one of.points.defined_is kept means calling calls typed_call place passed stand fits aligned in
      let shown = pointed_run x pointer_value (exprs (as_params (params_of P) all)) params result leads.place means.tree passed w leads.gives leads.at_place comes fits_as in
      let Good = Came x place (option_of result) type last c w in
      subst (λ (e : Expr). Served x place type called.result e source last c w) (sym (call_is all enough))
      (record {
        target = shown;
        own = option_of result;
        result_is = ap result_of pointer_type ∙ option_back result;
        kinds = λ some plain. passed_retyped means.tree.result result (type_in x.names type) results_ok (item_passed x number one kept means kept_ty linked back running type type_alike some plain);
        owes = renamed events_of events_of Good x.units x.steps (λ k. bind (source k) (λ a s left. came a s left)) source (λ k. bind (run k) (λ back_given w1 left. came (retyped result back_given) w1 left)) shown (λ k. bind_came (source k)) (λ k. refl)
            (pieces events_of events_of (Came x place means.tree.result type last c w) Good source run (λ a s left. came a s left) (λ back_given w1 left. came (retyped result back_given) w1 left) x.units x.steps owes (λ back_given w1. (refl, refl)) (λ operand c1 back_given w1 it.
            values events_of events_of Good x.units x.steps operand c1 (retyped result back_given) w1 (record {
              later = it.later;
              keeps = it.keeps;
              at = it.at;
              typed = retyped_type means.tree.result result back_given results_ok it.typed;
              of_type = retyped_value means.tree.result result back_given results_ok it.typed it.of_type;
              gives = retyped_gives it.later (blocks_of w1) (align_in (setting_in x.s) type) place means.tree.result result operand.value back_given results_ok it.typed it.gives;
              returned = it.returned;
            })));
        dropped = dropped_by_runs x pointer_value (exprs (as_params (params_of P) all)) params result leads.place means.tree passed w leads.gives leads.at_place comes fits_as;
        stored = stored_by_runs x pointer_value (exprs (as_params (params_of P) all)) params result leads.place means.tree passed w leads.gives leads.at_place comes fits_as;
      })

  -- the result of the pointer's type is a structure or union where that of the function is
  seen_record : (test : Bool) → is_record type ≡ test → is_passed seen.back ≡ test
  seen_record test is =
      passed_record seen.back ∙ record_same x.home.program.types seen.back back results_are ∙ sym (passed_record back) ∙ of_record x number one kept means kept_ty linked back running type type_alike test is

  pub pointed_serves : is_record type ≡ false → Served x None type called.result (called.call list) source last c w
  pointed_serves plain =
      let params_is : params ≡ listed = ap (λ (b : Bool). with_result b Seen listed) (seen_record false plain) in
      let all_is : params_of P ≡ listed = ap params_of pointer_type ∙ params_is in
      served_by None list ran.values ran.values (ap (λ (t : Tys). are_enough t list) all_is ∙ fits_enough x args next listed fit.fits)
      (λ units. ap (λ (t : Tys). run_exprs x.frame (exprs (as_params t list)) w units) all_is ∙ ran.runs units) (ran.types ∙ sym params_is)
      (subst (λ (laid : Option Laid). ResultHanded last (blocks_of w) laid None ran.values ran.values) (sym (no_result_laid x number one kept means kept_ty linked back running type type_alike plain)) refl) ran.handed
      (λ later others value given_back gives. any_align later others (align_or (result_laid x.s one)) (align_in (setting_in x.s) type) value given_back gives)

  pub pointed_serves_at : (place : Ptr) (address : Expr) (laid : Laid) → is_record type ≡ true → extent_in (setting_in x.s) type ≡ Some laid → ResultPlace last (blocks_of w) laid place → GivesAt x.frame w address (Pointer (type_in x.names type)) (Object place) →
      Served x (Some place) type called.result (called.call (result_argument (type_in x.names type) address ∷ list)) source last c w
  pointed_serves_at place address laid of_it laid_is ready gives =
      let T = type_in x.names type in
      let all = result_argument T address ∷ list in
      let front = typed (Pointer Seen) (Object place) in
      let passed_as = as_type (Pointer T) (Pointer Seen) address in
      let params_is : params ≡ more_tys (Pointer Seen) listed = ap (λ (b : Bool). with_result b Seen listed) (seen_record true of_it) in
      let all_is : params_of P ≡ more_tys (Pointer Seen) listed = ap params_of pointer_type ∙ params_is in
      let first_runs = as_type_gives last x.frame w (Pointer T) (Pointer Seen) address (Object place) gives refl in
      let definition = definition_of x.home.program one back linked running in
      let own_laid = result_laid_is x number one kept means kept_ty linked back running type laid type_alike of_it laid_is definition.result_complete in
      served_by (Some place) all (front ∷ ran.values) ran.values (ap (λ (t : Tys). are_enough t all) all_is ∙ fits_one_more x args next listed (Pointer Seen) (result_argument T address) fit.fits)
      (λ units. ap (λ (t : Tys). run_exprs x.frame (exprs (as_params t all)) w units) all_is
      ∙ seq_is (run_expr x.frame passed_as) (λ value. seq (run_exprs x.frame (exprs (as_params listed list))) (λ rest. pure (value ∷ rest))) w units front (first_runs.runs units)
      ∙ seq_is (run_exprs x.frame (exprs (as_params listed list))) (λ rest. pure (front ∷ rest)) w units ran.values (ran.runs units)
      ∙ pure_is (front ∷ ran.values) w units) (ap (more_tys (Pointer Seen)) ran.types ∙ sym params_is)
      (subst (λ (found : Option Laid). ResultHanded last (blocks_of w) found (Some place) (front ∷ ran.values) ran.values) (sym own_laid) (front, refl, refl, ready)) ran.handed
      (λ later others value given_back gives_it. subst (λ (align : ℕ). GivesBack later others align (Some place) value given_back) (ap align_or own_laid ∙ sym (ap align_or laid_is)) gives_it)
