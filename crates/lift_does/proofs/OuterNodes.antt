-- Calls of external functions, as nodes of an expression (ISO C99, 6.5.2.2 and 7.1.4; the Rust Reference, "External blocks").
use Rattle.std.proofs.Common.{◌≡◌, ℕ, pred, Bool, true, false, not, if◌then◌else◌, ◌&&◌, ◌==◌, List, ◌∷◌, Option, Some, None, option_map, Ok, refl, sym, ap, subst, ◌∙◌, ⊎_elim}
use Rattle.std.specs.Prelude.{bytes_eq, codes}
use Rattle.cr_base.specs.declared.refusal.Place.{Place}
use Rattle.cr_base.specs.declared.scalar.Scalar.{Scalar}
use Rattle.cr_runs.proofs.Rules.{renamed}
use Rattle.cr_runs.specs.Owes.{Owes}
use Rattle.cr_runs.specs.Runs.{Ran, came, tick}
use Rattle.cr_runs_rules.proofs.Rules.{ticks_by}
use Rattle.cr_world.specs.Known.{KnownFunction, known_named, allocates, frees}
use Rattle.cr_world.specs.World.{World, Stop, blocks_of, events_of}
use Rattle.cx_core.specs.Externals.{CKnown, HasSignature, IsOpaque, IsExternalType}
use Rattle.cx_core.specs.Trees.{CProgram, CTypes, CTy, CTyForm, ty, void, basic, enum_type, pointer, array, record_type, function, form_of_type, expr, call, CExprs, no_exprs, more_exprs, COuter}
use Rattle.cx_core.specs.Typing.{IsTyped}
use Rattle.cx_mean.specs.Calls.{CCallee, external, CCalling, node_calling, external_call}
use Rattle.cx_mean.specs.Leftmost.{CRan, c_callee, c_returned}
use Rattle.cx_mean.specs.Operands.{COperand}
use Rattle.cx_mean.specs.Settings.{scalar_in_type}
use Rattle.cx_mean.specs.State.{values_of_args}
use Rattle.cx_typed_work.proofs.KnownCalls.{typed_row, known_row, known_as_is}
use Rattle.cx_typed_work.proofs.KnownEffects.{type_of_known, result_of as result_of_known}
use Rattle.cx_typed_work.specs.Calls.{IsCalledAs, FitsCallee, IsTypedCall}
use Rattle.lift_calls.specs.Calls.{AreHanded}
use Rattle.lift_calls.specs.Programs.{setting_in, c_calls}
use Rattle.lift_does.proofs.Arguments.{EachOwes, ArgsGiven}
use Rattle.lift_does.proofs.Around.{Around, At}
use Rattle.lift_does.proofs.CallEnds.{IsPassed, Came, Served}
use Rattle.lift_does.proofs.CallNodes.{Serves}
use Rattle.lift_does.proofs.CallRuns.{dropped_runs, stored_runs}
use Rattle.lift_does.proofs.NamedCalls.{operands_are}
use Rattle.lift_does.proofs.OuterCallees as callees
use Rattle.lift_does.proofs.OuterArguments.{FrontFits, OuterRan, outer_run}
use Rattle.lift_does.proofs.OuterEffects.{unset_malloc}
use Rattle.lift_does.proofs.OuterServes.{kinds_by, table_step}
use Rattle.lift_does.proofs.OuterCalls.{all_leave}
use Rattle.lift_does.proofs.OuterOpaque.{HaveKinds}
use Rattle.lift_does.proofs.OwnCalls.{CallsAs}
use Rattle.lift_does.proofs.Runs.{same_events}
use Rattle.lift_does.specs.Outers.{TakesAll, AsListed, AsBare, OuterItem}
use Rattle.lift_exprs.specs.Calls.{Argument, count_of, call_of, called_by_name, called_by_symbol, is_bare, outer_called, outer_arguments, one_item, as_params}
use Rattle.lift_exprs.specs.Lifted.{lifted_args}
use Rattle.lift_exprs.specs.Names.{Names, KeptFunction, function_or, type_in, params_of, result_of}
use Rattle.lift_held.specs.Held.{is_void, is_record}
use Rattle.lift_held.specs.declared.asked.Asked.{Asked}
use Rattle.lift_stands.specs.Stands.{Images}
use Rattle.rs_mean.specs.Calls.{outer_by}
use Rattle.rs_mean.specs.Lookups.{outer, callee_at}
use Rattle.rs_mean.specs.Run.{run_callee, call_found, run_exprs}
use Rattle.rs_mean.specs.Values.{Typed}
use Rattle.rs_mean.specs.World.{takes_unit, either, fails}
use Rattle.rs_mean.specs.declared.cause.Cause.{Cause}
use Rattle.rs_mean.specs.declared.cause.Cause.TheVariants.{WrongCall}
use Rattle.rs_text.specs.Tree.{Tys, no_tys, more_tys, tys, option_ty, Expr, exprs, OuterTree, ModuleTree}

-- ---- `free`, and what is no `malloc`

abbrev IsAs : CTypes → CTyForm → Option CKnown → Type 0
IsAs types form (Some one) = HasSignature one.signature form
IsAs types form None = IsOpaque types form

free_form : (program : CProgram) (name : List ℕ) (row : KnownFunction) (type : CTy) (operands : List COperand) (form : CTyForm) → known_named name ≡ Some row → row.does ≡ frees → IsExternalType program.types name form → IsCalledAs program form type operands → is_void type ≡ true
free_form program name row type operands (function back params variadic) e does served called =
    let has : HasSignature (typed_row row).signature (function back params variadic) = subst (IsAs program.types (function back params variadic)) (known_as_is name ∙ ap (option_map typed_row) e) served in
    let result = (known_row name row e).0 ∙ ap result_of_known does in
    ap is_void (called.0 ∙ has.0 ∙ ap type_of_known result)
free_form program name row type operands void e does served called = absurd called
free_form program name row type operands (basic which) e does served called = absurd called
free_form program name row type operands (enum_type number) e does served called = absurd called
free_form program name row type operands (pointer to) e does served called = absurd called
free_form program name row type operands (array element count) e does served called = absurd called
free_form program name row type operands (record_type number) e does served called = absurd called

-- it isn't called without the parameters that its item lists
not_bare : (kept : KeptFunction) (variadic : Bool) (args : CExprs) (names_of : Names) (next : ℕ) → TakesAll (params_of kept.ty) variadic args → is_bare kept (lifted_args names_of args next).list ≡ false
not_bare kept variadic no_exprs names_of next takes = by (params_of kept.ty) takes
  where
    by : (params : Tys) → TakesAll params variadic no_exprs → not (count_of params == 0) ≡ false
    by no_tys they = refl
    by (more_tys param params) they = absurd they
not_bare kept variadic (more_exprs first others) names_of next takes = refl

pub same_item : (kept : KeptFunction) (bare : Option KeptFunction) (list : List Argument) → is_bare kept list ≡ false → outer_called kept bare list ≡ kept
same_item kept None list is = refl
same_item kept (Some other) list is = ap (λ (b : Bool). if b then other else kept) is

module _ (x : Around) (type : CTy) (at : Place) (number : ℕ) (args : CExprs) (next : ℕ) (typed_node : IsTyped x.home (expr type at (call number args))) (operands : List COperand) (last : Images) (c w : World) (here : At x last c w)
    (given : ArgsGiven x last w args next operands) (calling : CCalling) (calls_it : node_calling (setting_in x.s) type at (call number args) operands ≡ Ok calling) (item : OuterItem x.s x.names number args) where
  abbrev one : COuter
  one = item.one

  abbrev kept : KeptFunction
  kept = item.called

  abbrev tree : OuterTree
  tree = item.means.tree

  calls : CallsAs type operands (external item.one) calling
  calls = callees.calls x type at number args next typed_node operands last c w here given calling calls_it item.one item.undefined item.outer_is

  typed_call : IsTypedCall x.home.program calling.called
  typed_call = callees.typed_call x type at number args next typed_node operands last c w here given calling calls_it item.one item.undefined item.outer_is

  pub plain : is_record type ≡ false
  plain = callees.plain x type at number args next typed_node operands last c w here given calling calls_it item.one item.undefined item.outer_is

  kind_there : is_void type ≡ false → (kind : Scalar) × (scalar_in_type (setting_in x.s) type ≡ Some kind)
  kind_there = callees.kind_there x type at number args next typed_node operands last c w here given calling calls_it item.one item.undefined item.outer_is

  item_gives : option_ty tree.result ≡ result_of (type_in x.names (ty (pointer item.one.type) false))
  item_gives = sym (ap result_of item.means.ty_is) ∙ item.result_is ∙ ap result_of item.ty_is

  passes : is_void type ≡ false → is_record type ≡ false → IsPassed tree.result (type_in x.names type)
  passes = callees.passes x type at number args next typed_node operands last c w here given calling calls_it item.one item.undefined item.outer_is tree item_gives

  nothing : is_void type ≡ true → tree.result ≡ None
  nothing = callees.nothing x type at number args next typed_node operands last c w here given calling calls_it item.one item.undefined item.outer_is tree item_gives

  -- ---- what is passed

  kept_params : params_of kept.ty ≡ tys tree.params
  kept_params = ap params_of item.means.ty_is

  -- the item's parameters, where they are those of the function
  listed_params : AsListed x.s item.kept item.called tree item.one args → tys tree.params ≡ params_of (type_in x.names (ty (pointer item.one.type) false))
  listed_params way = sym kept_params ∙ ap (λ (k : KeptFunction). params_of k.ty) way.same ∙ ap params_of item.ty_is

  listed_takes : AsListed x.s item.kept item.called tree item.one args → TakesAll (tys tree.params) tree.variadic args
  listed_takes way = subst (λ (params : Tys). TakesAll params tree.variadic args) (ap (λ (k : KeptFunction). params_of k.ty) (sym way.same) ∙ kept_params) way.takes

  bare_params : AsBare x.names number item.kept item.called args → tys tree.params ≡ no_tys
  bare_params way = sym kept_params ∙ way.no_params

  takes_all : TakesAll (tys tree.params) tree.variadic args
  takes_all =
      ⊎_elim (λ (way : AsListed x.s item.kept item.called tree item.one args). listed_takes way)
      (λ (way : AsBare x.names number item.kept item.called args). subst (λ (params : Tys). TakesAll params tree.variadic args) (sym (bare_params way)) (subst (TakesAll no_tys tree.variadic) (sym way.none) tt)) item.way

  listed_front : AsListed x.s item.kept item.called tree item.one args → FrontFits x args (tys tree.params)
  listed_front way =
      subst (FrontFits x args) (sym (listed_params way))
      (callees.front_fits x type at number args next typed_node operands last c w here given calling calls_it item.one item.undefined item.outer_is tree.variadic way.variadic_is (subst (λ (all : Tys). TakesAll all tree.variadic args) (listed_params way) (listed_takes way)))

  front : FrontFits x args (tys tree.params)
  front =
      ⊎_elim (λ (way : AsListed x.s item.kept item.called tree item.one args). listed_front way)
      (λ (way : AsBare x.names number item.kept item.called args). subst (FrontFits x args) (sym (bare_params way)) tt) item.way

  abbrev list : List Argument
  list = (lifted_args x.names args next).list

  ran : OuterRan x last w args list tree.params tree.variadic (values_of_args operands)
  ran = outer_run x last w args next tree.params tree.variadic operands operands typed_node.1.0 front takes_all given calls.all_is

  -- ---- what is written

  called_item : outer_called item.kept (x.names.bare_functions number) list ≡ item.called
  called_item =
      ⊎_elim
      (λ (way : AsListed x.s item.kept item.called tree item.one args). same_item item.kept (x.names.bare_functions number) list (not_bare item.kept tree.variadic args x.names next way.takes) ∙ sym way.same)
      (λ (way : AsBare x.names number item.kept item.called args).
      ap (λ (bare : Option KeptFunction). outer_called item.kept bare list) way.bare_is
      ∙ (ap (λ (all : CExprs). outer_called item.kept (Some item.called) (lifted_args x.names all next).list) way.none ∙ ap (λ (b : Bool). if not b then item.called else item.kept) way.lists)) item.way

  call_is : (called_by_name x.names number).call list ≡ call_of kept list
  call_is =
      ap (λ (f : Option KeptFunction). called_by_symbol x.names number (function_or f) (function_or f).symbol list) item.kept_is
      ∙ ap (λ (s : Option (List ℕ)). called_by_symbol x.names number item.kept s list) item.symbol_is
      ∙ ap (λ (k : KeptFunction). call_of k (outer_arguments x.names item.one.name list)) called_item
      ∙ ap (λ (b : Bool). call_of kept (if b then one_item ∷ list else list)) item.as_it_is

  result_is : (called_by_name x.names number).result ≡ option_ty tree.result
  result_is = ap (λ (f : Option KeptFunction). result_of (function_or f).ty) item.kept_is ∙ (sym item.result_is ∙ ap result_of item.means.ty_is)

  abbrev source : ℕ → CRan COperand
  source = tick c (λ left. c_callee (setting_in x.s) (c_calls x.s) type calling calling.called.callee c left)

  abbrev crate_run : ℕ → Ran (Stop Cause) World (Option Typed)
  crate_run k = call_found x.frame.bodies ran.values (Some (outer tree)) w k

  crate_runs : (k : ℕ) → tick w (λ left. outer_by (known_named item.one.name) tree ran.values w left) k ≡ crate_run k
  unfolding takes_unit
  crate_runs k =
      ap (λ (name : List ℕ). tick w (λ left. outer_by (known_named name) tree ran.values w left) k) (sym item.means.named)
      ∙ ap (λ (b : Bool). either b (takes_unit (run_callee x.frame.bodies ran.values (outer tree))) (fails WrongCall) w k) (sym ran.accepted)

  no_bytes : (row : KnownFunction) → known_named item.one.name ≡ Some row → row.does ≡ allocates false → last.in_bytes ≡ false
  no_bytes row e does = here.program.bytes ∙ (sym x.means.bits ∙ no_bits x.names.has_bits (bytes_eq item.one.name (codes "malloc")) (unset_malloc item.one.name row e does) item.as_it_is)
    where
      no_bits : (bits test : Bool) → test ≡ true → (bits && test) ≡ false → bits ≡ false
      no_bits false test is none = refl
      no_bits true test is none = let clash : true ≡ false = sym is ∙ none in cc (clash)

  frees_void : (row : KnownFunction) → known_named item.one.name ≡ Some row → row.does ≡ frees → tree.result ≡ None
  frees_void row e does =
      let served = subst (FitsCallee x.home.program.types typed_call.visible calling.called.args) calls.callee_is typed_call.served in
      nothing (ap is_void (sym calls.type_is) ∙ free_form x.home.program item.one.name row calling.called.type calling.called.args (form_of_type typed_call.visible) e does served.0 typed_call.called_as)

  outer_owes : Owes events_of events_of (Came x None tree.result type last c w) x.units x.steps source crate_run
  outer_owes =
      let operands_now = subst (λ (all : List COperand). AreHanded last (blocks_of w) (values_of_args all) ran.values) (sym calls.args_are) ran.handed in
      let kinds = subst (λ (all : List COperand). HaveKinds (setting_in x.s) all ran.values) (sym calls.args_are) (kinds_by x args operands ran.values (operands_are x last w args next operands given) ran.scalars) in
      renamed events_of events_of (Came x None tree.result type last c w) x.units x.steps (tick c (λ left. c_returned type calling.marks c left (external_call (setting_in x.s) calling.called item.one c))) source
      (tick w (λ left. outer_by (known_named item.one.name) tree ran.values w left)) crate_run
      (λ k. ap (λ (callee : CCallee). tick c (λ left. c_callee (setting_in x.s) (c_calls x.s) type calling callee c left) k) (sym calls.callee_is)) crate_runs
      (ticks_by events_of events_of (Came x None tree.result type last c w) x.units x.steps c w (λ left. c_returned type calling.marks c left (external_call (setting_in x.s) calling.called item.one c)) (λ left. outer_by (known_named item.one.name) tree ran.values w left)
      (same_events last c w here.worlds)
      (table_step x type last c w here calling item.one calls.callee_is calls.type_is typed_call tree passes plain nothing kind_there ran.values operands_now kinds item.means.named (pred x.units) (pred x.steps) (known_named item.one.name) refl
      no_bytes frees_void (all_leave x type last c w here calling item.one calls.callee_is calls.type_is typed_call tree.result passes plain)))

  pub outer_serves : Served x None type (called_by_name x.names number).result ((called_by_name x.names number).call list) source last c w
  outer_serves =
      let found : callee_at x.frame.modules kept.home kept.name ≡ Some (outer tree) = ap (λ (modules : List ModuleTree). callee_at modules kept.home kept.name) here.frames.modules ∙ item.means.tree_is in
      let comes : (units : ℕ) → run_exprs x.frame (exprs (as_params (params_of kept.ty) list)) w units ≡ came ran.values w units = λ units. ap (λ (params : Tys). run_exprs x.frame (exprs (as_params params list)) w units) kept_params ∙ ran.runs units in
      subst (λ (e : Expr). Served x None type (called_by_name x.names number).result e source last c w) (sym call_is)
      (record {
        target = crate_run;
        own = tree.result;
        result_is = result_is;
        kinds = passes;
        owes = outer_owes;
        dropped = dropped_runs x kept.home kept.name (exprs (as_params (params_of kept.ty) list)) ran.values (outer tree) w found comes;
        stored = stored_runs x kept.home kept.name (exprs (as_params (params_of kept.ty) list)) ran.values (outer tree) w found comes;
      })

-- so it serves
pub outer_is_served : (x : Around) (asked : Asked) (type : CTy) (at : Place) (number : ℕ) (args : CExprs) (from : ℕ) (images : Images) (c w : World) (here : At x images c w) (typed : IsTyped x.home (expr type at (call number args))) (owes : EachOwes x args from) →
    OuterItem x.s x.names number args → Serves x asked type at number args from images c w here typed owes
outer_is_served x asked type at number args from images c w here typed owes item operands last c2 w2 there given calling is = record {
  at = there;
  plain = λ no_record. outer_serves x type at number args from typed operands last c2 w2 there given calling is item;
  placed = λ place address laid of_it. let clash : true ≡ false = sym of_it ∙ plain x type at number args from typed operands last c2 w2 there given calling is item in cc (clash);
}
