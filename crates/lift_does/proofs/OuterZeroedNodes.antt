-- Calls of `malloc` in a program with a bit-field member, as nodes of an expression: `calloc` is called, so that the bytes are set (ISO C99, 7.20.3.1 and 7.20.3.3; the Rust Reference, "External blocks").
use Rattle.std.proofs.Common.{◌≡◌, ℕ, pred, Bool, true, false, if◌then◌else◌, List, [], ◌∷◌, Option, Some, None, Ok, refl, sym, ap, subst, ◌∙◌}
use Rattle.std.specs.Prelude.{bytes_eq, codes}
use Rattle.cr_base.specs.declared.refusal.Place.{Place}
use Rattle.cr_runs.proofs.Rules.{renamed}
use Rattle.cr_runs.specs.Owes.{Owes}
use Rattle.cr_runs.specs.Runs.{Ran, came, tick}
use Rattle.cr_runs_rules.proofs.Rules.{ticks_by}
use Rattle.cr_world.specs.Known.{KnownFunction, known_named}
use Rattle.cr_world.specs.World.{World, Stop, blocks_of, events_of}
use Rattle.cx_core.specs.Trees.{CTy, ty, pointer, expr, call, CExprs, no_exprs, more_exprs}
use Rattle.cx_core.specs.Typing.{IsTyped}
use Rattle.cx_mean.specs.Calls.{CCallee, external, CCalling, COutcome, node_calling, external_call}
use Rattle.cx_mean.specs.Leftmost.{CRan, c_callee, c_returned}
use Rattle.cx_mean.specs.Operands.{COperand}
use Rattle.cx_mean.specs.State.{values_of_args}
use Rattle.cx_typed_work.specs.Calls.{IsTypedCall}
use Rattle.lift_calls.specs.Calls.{AreHanded}
use Rattle.lift_calls.specs.Programs.{setting_in, c_calls}
use Rattle.lift_does.proofs.Arguments.{EachOwes, ArgsGiven}
use Rattle.lift_does.proofs.Around.{Around, At}
use Rattle.lift_does.proofs.CallEnds.{IsPassed, Came, Served}
use Rattle.lift_does.proofs.CallNodes.{Serves}
use Rattle.lift_does.proofs.CallRuns.{dropped_runs, stored_runs}
use Rattle.lift_does.proofs.OuterArguments.{FrontFits, OuterRan, outer_run}
use Rattle.lift_does.proofs.OuterCalls.{all_leave}
use Rattle.lift_does.proofs.OwnCalls.{CallsAs}
use Rattle.lift_does.proofs.Runs.{same_events}
use Rattle.lift_does.specs.Outers.{TakesAll}
use Rattle.lift_exprs.specs.Calls.{Argument, call_of, called_by_name, called_by_symbol, is_bare, outer_called, outer_arguments, one_item, as_params}
use Rattle.lift_exprs.specs.Lifted.{lifted_args}
use Rattle.lift_exprs.specs.Names.{KeptFunction, function_or, type_in, params_of, result_of}
use Rattle.lift_held.specs.Held.{is_void, is_record}
use Rattle.lift_held.specs.declared.asked.Asked.{Asked}
use Rattle.lift_stands.specs.Stands.{Images}
use Rattle.rs_mean.specs.Calls.{outer_by}
use Rattle.rs_mean.specs.Lookups.{outer, callee_at}
use Rattle.rs_mean.specs.Run.{run_callee, call_found, run_exprs}
use Rattle.rs_mean.specs.Values.{Typed}
use Rattle.rs_mean.specs.World.{takes_unit, either, fails}
use Rattle.rs_mean.specs.declared.cause.Cause.{Cause}
use Rattle.rs_mean.specs.declared.cause.Cause.TheVariants.{WrongCall}
use Rattle.rs_text.specs.Tree.{Ty, Tys, tys, option_ty, Expr, exprs, OuterTree, ModuleTree}
use Rattle.std.proofs.lemmas.Bool.{and_parts}
use Rattle.lift_does.proofs.OuterCallees as callees
use Rattle.lift_does.proofs.OuterCalls.{Leaves, Step}
use Rattle.lift_does.proofs.OuterNodes.{same_item}
use Rattle.lift_does.proofs.OuterZeroed.{calloc_row, malloc_named, calloc_named, one_passed, item_runs, zeroed_table_step}
use Rattle.lift_does.specs.Outers.{ZeroedItem}
use Rattle.cx_mean.specs.Calls.{call_by_table}
use Rattle.rs_mean.specs.Calls.{accepts}
use Rattle.rs_text.specs.Tree.{Integer}
use Rattle.rs_text.specs.declared.integer.IntegerTy.TheVariants.{U64}

one_operand : (x : Around) (last : Images) (w : World) (size : _) (next : ℕ) (operands : List COperand) → ArgsGiven x last w (more_exprs size no_exprs) next operands → (one : COperand) × (operands ≡ one ∷ [])
one_operand x last w size next [] given = absurd given
one_operand x last w size next (one ∷ []) given = (one, refl)
one_operand x last w size next (one ∷ (other ∷ others)) given = absurd given.2

module _ (x : Around) (type : CTy) (at : Place) (number : ℕ) (args : CExprs) (next : ℕ) (typed_node : IsTyped x.home (expr type at (call number args))) (operands : List COperand) (last : Images) (c w : World) (here : At x last c w)
    (given : ArgsGiven x last w args next operands) (calling : CCalling) (calls_it : node_calling (setting_in x.s) type at (call number args) operands ≡ Ok calling) (item : ZeroedItem x.s x.names number args) where
  abbrev kept : KeptFunction
  kept = item.kept

  abbrev tree : OuterTree
  tree = item.means.tree

  calls : CallsAs type operands (external item.one) calling
  calls = callees.calls x type at number args next typed_node operands last c w here given calling calls_it item.one item.undefined item.outer_is

  typed_call : IsTypedCall x.home.program calling.called
  typed_call = callees.typed_call x type at number args next typed_node operands last c w here given calling calls_it item.one item.undefined item.outer_is

  pub plain : is_record type ≡ false
  plain = callees.plain x type at number args next typed_node operands last c w here given calling calls_it item.one item.undefined item.outer_is

  item_gives : option_ty tree.result ≡ result_of (type_in x.names (ty (pointer item.one.type) false))
  item_gives = sym (ap result_of item.means.ty_is) ∙ item.result_is

  passes : is_void type ≡ false → is_record type ≡ false → IsPassed tree.result (type_in x.names type)
  passes = callees.passes x type at number args next typed_node operands last c w here given calling calls_it item.one item.undefined item.outer_is tree item_gives

  -- ---- what is passed

  abbrev list : List Argument
  list = (lifted_args x.names args next).list

  front : FrontFits x args (tys item.params)
  front =
      subst (FrontFits x args) (sym item.params_are)
      (callees.front_fits x type at number args next typed_node operands last c w here given calling calls_it item.one item.undefined item.outer_is tree.variadic item.variadic_is (subst (λ (all : Tys). TakesAll all tree.variadic args) item.params_are item.takes))

  ran : OuterRan x last w args list item.params tree.variadic (values_of_args operands)
  ran = outer_run x last w args next item.params tree.variadic operands operands typed_node.1.0 front item.takes given calls.all_is

  abbrev values : List Typed
  values = one_passed ∷ ran.values

  accepted : accepts tree.params tree.variadic values ≡ true
  accepted = subst (λ (params : List Ty). accepts params tree.variadic values ≡ true) (sym item.behind_one) ran.accepted

  size : (one : COperand) × (operands ≡ one ∷ [])
  size = one_operand x last w item.size next operands (subst (λ (all : CExprs). ArgsGiven x last w all next operands) item.args_are given)

  -- ---- what is written

  called_item : outer_called item.kept (x.names.bare_functions number) list ≡ item.kept
  called_item = same_item item.kept (x.names.bare_functions number) list (ap (λ (all : CExprs). is_bare item.kept (lifted_args x.names all next).list) item.args_are)

  call_is : (called_by_name x.names number).call list ≡ call_of kept (one_item ∷ list)
  call_is =
      ap (λ (f : Option KeptFunction). called_by_symbol x.names number (function_or f) (function_or f).symbol list) item.kept_is
      ∙ ap (λ (s : Option (List ℕ)). called_by_symbol x.names number item.kept s list) item.means.symbol_is
      ∙ ap (λ (k : KeptFunction). call_of k (outer_arguments x.names item.one.name list)) called_item
      ∙ ap (λ (b : Bool). call_of kept (if b then one_item ∷ list else list)) item.is

  result_is : (called_by_name x.names number).result ≡ option_ty tree.result
  result_is = ap (λ (f : Option KeptFunction). result_of (function_or f).ty) item.kept_is ∙ ap result_of item.means.ty_is

  abbrev source : ℕ → CRan COperand
  source = tick c (λ left. c_callee (setting_in x.s) (c_calls x.s) type calling calling.called.callee c left)

  abbrev crate_run : ℕ → Ran (Stop Cause) World (Option Typed)
  crate_run k = call_found x.frame.bodies values (Some (outer tree)) w k

  crate_runs : (k : ℕ) → tick w (λ left. outer_by (Some calloc_row) tree values w left) k ≡ crate_run k
  unfolding takes_unit
  crate_runs k =
      ap (λ (found : Option KnownFunction). tick w (λ left. outer_by found tree values w left) k) (sym (ap known_named item.means.named ∙ calloc_named))
      ∙ ap (λ (b : Bool). either b (takes_unit (run_callee x.frame.bodies values (outer tree))) (fails WrongCall) w k) (sym accepted)

  abbrev Outcome : Option KnownFunction → COutcome
  Outcome found = call_by_table (setting_in x.s) calling.called item.one c found

  steps : (n m : ℕ) → Step x type last c w here calling item.one calls.callee_is calls.type_is typed_call tree.result passes plain n m (external_call (setting_in x.s) calling.called item.one c) (λ left. outer_by (Some calloc_row) tree values w left)
  steps n m =
      let operands_now = subst (λ (all : List COperand). AreHanded last (blocks_of w) (values_of_args all) ran.values) (sym calls.args_are) ran.handed in
      subst (λ (found : Option KnownFunction). Leaves x type last c w here calling item.one calls.callee_is calls.type_is typed_call tree.result passes plain (Outcome found) →
      Step x type last c w here calling item.one calls.callee_is calls.type_is typed_call tree.result passes plain n m (Outcome found) (λ left. outer_by (Some calloc_row) tree values w left))
      (sym (malloc_named item.one.name (and_parts x.names.has_bits (bytes_eq item.one.name (codes "malloc")) item.is).1))
      (λ leaves. zeroed_table_step x type last c w here calling item.one calls.callee_is calls.type_is typed_call tree passes plain ran.values operands_now size.0 (calls.args_are ∙ size.1) n m leaves)
      (all_leave x type last c w here calling item.one calls.callee_is calls.type_is typed_call tree.result passes plain)

  zeroed_owes : Owes events_of events_of (Came x None tree.result type last c w) x.units x.steps source crate_run
  zeroed_owes =
      renamed events_of events_of (Came x None tree.result type last c w) x.units x.steps (tick c (λ left. c_returned type calling.marks c left (external_call (setting_in x.s) calling.called item.one c))) source
      (tick w (λ left. outer_by (Some calloc_row) tree values w left)) crate_run
      (λ k. ap (λ (callee : CCallee). tick c (λ left. c_callee (setting_in x.s) (c_calls x.s) type calling callee c left) k) (sym calls.callee_is)) crate_runs
      (ticks_by events_of events_of (Came x None tree.result type last c w) x.units x.steps c w (λ left. c_returned type calling.marks c left (external_call (setting_in x.s) calling.called item.one c)) (λ left. outer_by (Some calloc_row) tree values w left)
      (same_events last c w here.worlds) (steps (pred x.units) (pred x.steps)))

  pub zeroed_serves : Served x None type (called_by_name x.names number).result ((called_by_name x.names number).call list) source last c w
  zeroed_serves =
      let found : callee_at x.frame.modules kept.home kept.name ≡ Some (outer tree) = ap (λ (modules : List ModuleTree). callee_at modules kept.home kept.name) here.frames.modules ∙ item.means.tree_is in
      let params : params_of kept.ty ≡ tys (Integer U64 ∷ item.params) = ap params_of item.means.ty_is ∙ ap tys item.behind_one in
      let comes : (units : ℕ) → run_exprs x.frame (exprs (as_params (params_of kept.ty) (one_item ∷ list))) w units ≡ came values w units =
      λ units. ap (λ (all : Tys). run_exprs x.frame (exprs (as_params all (one_item ∷ list))) w units) params ∙ item_runs x item.params list ran.values w ran.runs units in
      subst (λ (e : Expr). Served x None type (called_by_name x.names number).result e source last c w) (sym call_is)
      (record {
        target = crate_run;
        own = tree.result;
        result_is = result_is;
        kinds = passes;
        owes = zeroed_owes;
        dropped = dropped_runs x kept.home kept.name (exprs (as_params (params_of kept.ty) (one_item ∷ list))) values (outer tree) w found comes;
        stored = stored_runs x kept.home kept.name (exprs (as_params (params_of kept.ty) (one_item ∷ list))) values (outer tree) w found comes;
      })

-- so it serves
pub zeroed_is_served : (x : Around) (asked : Asked) (type : CTy) (at : Place) (number : ℕ) (args : CExprs) (from : ℕ) (images : Images) (c w : World) (here : At x images c w) (typed : IsTyped x.home (expr type at (call number args))) (owes : EachOwes x args from) →
    ZeroedItem x.s x.names number args → Serves x asked type at number args from images c w here typed owes
zeroed_is_served x asked type at number args from images c w here typed owes item operands last c2 w2 there given calling is = record {
  at = there;
  plain = λ no_record. zeroed_serves x type at number args from typed operands last c2 w2 there given calling is item;
  placed = λ place address laid of_it. let clash : true ≡ false = sym of_it ∙ plain x type at number args from typed operands last c2 w2 there given calling is item in cc (clash);
}
