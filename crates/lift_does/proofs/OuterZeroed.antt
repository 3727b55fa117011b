-- `malloc(n)` that is called as `calloc(1, n)`, in a program with a bit-field member (ISO C99, 7.20.3.1 and 7.20.3.3; the Rust Reference, "Call expressions").
use Rattle.std.proofs.Common.{◌≡◌, ℕ, Bool, true, false, List, [], ◌∷◌, map, pos, Option, Some, Result, Ok, Err, refl, sym, ap, subst, ◌∙◌}
use Rattle.std.specs.Prelude.{bytes_eq, codes}
use Rattle.cr_runs.proofs.Rules.{renamed}
use Rattle.cr_runs.specs.Runs.{Ran, came}
use Rattle.cr_world.specs.Known.{KnownFunction, known, known_table, known_named, size_value, to_bytes, allocates, effect}
use Rattle.cr_world.specs.World.{World, Stop, blocks_of, events_of}
use Rattle.cx_core.specs.Trees.{CTy, COuter}
use Rattle.cx_mean.specs.Calls.{external, CCalling, COutcome, wrong_at, values_of, by_effect, known_call as c_known_call, call_by_table}
use Rattle.cx_mean.specs.Leftmost.{c_returned}
use Rattle.cx_mean.specs.Operands.{CWhy, stops, COperand, scalar_value}
use Rattle.cx_mean.specs.State.{values_of_args}
use Rattle.cx_typed_work.specs.Calls.{IsTypedCall}
use Rattle.lift_calls.specs.Calls.{AreHanded}
use Rattle.lift_calls.specs.Programs.{setting_in}
use Rattle.lift_does.proofs.Around.{Around, At}
use Rattle.lift_does.proofs.CallEnds.{IsPassed}
use Rattle.lift_does.proofs.Nodes.{and_then_is}
use Rattle.lift_does.proofs.OuterCalls.{values_below, Step, Leaves, bad_step, zeroed_step}
use Rattle.lift_exprs.specs.Calls.{Argument, one_item, as_params}
use Rattle.lift_exprs.specs.Names.{type_in}
use Rattle.lift_forms_laws.proofs.Runs.{seq_is, looks_is, pure_is, literal_gives}
use Rattle.lift_held.specs.Held.{is_void, is_record}
use Rattle.lift_stands.specs.Stands.{Images}
use Rattle.lift_stands_known.specs.Effects.{ValuesBelow}
use Rattle.mem_bytes.specs.Access.{and_then}
use Rattle.mem_bytes.specs.declared.value.Value.{Value}
use Rattle.mem_bytes.specs.declared.value.Value.TheVariants.{Whole}
use Rattle.rs_mean.specs.Calls.{value_in, takes_effect, known_call, held_now, outer_by, accepts}
use Rattle.rs_mean.specs.Run.{run_expr, run_exprs}
use Rattle.rs_mean.specs.Values.{Typed, typed}
use Rattle.rs_mean.specs.World.{seq, pure}
use Rattle.rs_mean.specs.declared.cause.Cause.{Cause}
use Rattle.rs_text.specs.Tree.{Ty, Integer, tys, Literal, exprs, OuterTree}
use Rattle.rs_text.specs.declared.integer.IntegerTy.TheVariants.{U64}

-- ---- both functions

abbrev pub malloc_row : KnownFunction
malloc_row = known (codes "malloc") (allocates false) to_bytes (size_value ∷ [])

abbrev pub calloc_row : KnownFunction
calloc_row = known (codes "calloc") (allocates true) to_bytes (size_value ∷ size_value ∷ [])

pub malloc_named : (name : List ℕ) → bytes_eq name (codes "malloc") ≡ true → known_named name ≡ Some malloc_row
unfolding known_table
malloc_named name is = rw (is) refl

pub calloc_named : known_named (codes "calloc") ≡ Some calloc_row
unfolding known_table
calloc_named = refl

-- ---- what is passed: one item, and its size

abbrev pub one_passed : Typed
one_passed = typed (Integer U64) (Whole (pos 1))

pub item_accepted : (params : List Ty) (variadic : Bool) (values : List Typed) → accepts params variadic values ≡ true → accepts (Integer U64 ∷ params) variadic (one_passed ∷ values) ≡ true
item_accepted params variadic values is = is

pub item_runs : (x : Around) (params : List Ty) (list : List Argument) (values : List Typed) (later : World) → ((units : ℕ) → run_exprs x.frame (exprs (as_params (tys params) list)) later units ≡ came values later units) →
    (units : ℕ) → run_exprs x.frame (exprs (as_params (tys (Integer U64 ∷ params)) (one_item ∷ list))) later units ≡ came (one_passed ∷ values) later units
item_runs x params list values later behind units =
    seq_is (run_expr x.frame (Literal (pos 1) U64)) (λ value. seq (run_exprs x.frame (exprs (as_params (tys params) list))) (λ others. pure (value ∷ others))) later units one_passed ((literal_gives x.frame later (pos 1) U64).runs units)
    ∙ seq_is (run_exprs x.frame (exprs (as_params (tys params) list))) (λ others. pure (one_passed ∷ others)) later units values (behind units)
    ∙ pure_is (one_passed ∷ values) later units

-- ---- one argument

abbrev ok_list : List Value → Result (List Value) CWhy
ok_list one = Ok one

ok_is : (one other : List Value) → ok_list one ≡ ok_list other → one ≡ other
ok_is one other same = cc (same)

one_value : (first : COperand) (list : List Value) → values_of (first ∷ []) ≡ Ok list → (value : Value) × (list ≡ value ∷ [])
one_value first list e =
    let value = and_then_is (scalar_value first.value) _ list e in
    (value.0, sym (ok_is (value.0 ∷ []) list value.2))

-- what the crate passes for one argument is one value
one_typed : (images : Images) (value : Value) (passed : List Typed) → ValuesBelow images (value ∷ []) (map value_in passed) → (given : Typed) × (passed ≡ given ∷ [])
one_typed images value [] below = absurd below
one_typed images value (given ∷ []) below = (given, refl)
one_typed images value (given ∷ (other ∷ others)) below = absurd below.1

module _ (x : Around) (type : CTy) (images : Images) (c w : World) (here : At x images c w) (calling : CCalling) (one : COuter) (callee_is : calling.called.callee ≡ external one) (type_is : calling.called.type ≡ type) (typed_call : IsTypedCall x.home.program calling.called)
    (tree : OuterTree) (passes : is_void type ≡ false → is_record type ≡ false → IsPassed tree.result (type_in x.names type)) (plain : is_record type ≡ false) (passed : List Typed)
    (handed : AreHanded images (blocks_of w) (values_of_args calling.called.args) passed) (size : COperand) (args_are : calling.called.args ≡ size ∷ []) where
  abbrev StepTo : (n m : ℕ) → COutcome → (ℕ → Ran (Stop Cause) World (Option Typed)) → Type 0
  StepTo n m outcome target = Step x type images c w here calling one callee_is type_is typed_call tree.result passes plain n m outcome target

  abbrev LeavesSo : COutcome → Type 0
  LeavesSo outcome = Leaves x type images c w here calling one callee_is type_is typed_call tree.result passes plain outcome

  abbrev zeroed_target : List Typed → ℕ → Ran (Stop Cause) World (Option Typed)
  zeroed_target values left = takes_effect tree.result (effect (allocates true) (Whole (pos 1) ∷ map value_in values) w.held) w left

  abbrev c_outcome : Result (List Value) CWhy → COutcome
  c_outcome outcome = and_then (wrong_at calling.called.place outcome) (λ list. by_effect calling.called.place c (effect (allocates false) list c.held))

  sized_step : (n m : ℕ) (value : Value) → ValuesBelow images (value ∷ []) (map value_in passed) → LeavesSo (c_outcome (Ok (value ∷ []))) → StepTo n m (c_outcome (Ok (value ∷ []))) (zeroed_target passed)
  sized_step n m value below leaves =
      let its = one_typed images value passed below in
      let own : ValuesBelow images (value ∷ []) (map value_in (its.0 ∷ [])) = subst (λ (all : List Typed). ValuesBelow images (value ∷ []) (map value_in all)) its.1 below in
      subst (λ (all : List Typed). StepTo n m (c_outcome (Ok (value ∷ []))) (zeroed_target all)) (sym its.1)
      (zeroed_step x type images c w here calling one callee_is type_is typed_call tree.result passes plain n m value its.0.value own.0 calling.called.place leaves)

  values_step : (n m : ℕ) (outcome : Result (List Value) CWhy) → values_of calling.called.args ≡ outcome → LeavesSo (c_outcome outcome) → StepTo n m (c_outcome outcome) (zeroed_target passed)
  values_step n m (Err why) e leaves = bad_step x type images c w here calling one callee_is type_is typed_call tree.result passes plain n m (stops why calling.called.place) _
  values_step n m (Ok list) e leaves =
      let its = one_value size list (ap values_of (sym args_are) ∙ e) in
      let below : ValuesBelow images list (map value_in passed) = values_below images (blocks_of w) calling.called.args list passed e handed in
      subst (λ (all : List Value). StepTo n m (c_outcome (Ok all)) (zeroed_target passed)) (sym its.1)
      (sized_step n m its.0 (subst (λ (all : List Value). ValuesBelow images all (map value_in passed)) its.1 below) (subst (λ (all : List Value). LeavesSo (c_outcome (Ok all))) its.1 leaves))

  zeroed_runs : (left : ℕ) → known_call calloc_row tree.result (one_passed ∷ passed) w left ≡ zeroed_target passed left
  zeroed_runs left =
      seq_is held_now (λ held. takes_effect tree.result (effect (allocates true) (map value_in (one_passed ∷ passed)) held)) w left w.held (looks_is (λ held. Ok held) w left w.held refl)

  -- the crate's call does what C's does, and sets the bytes
  pub zeroed_table_step : (n m : ℕ) → LeavesSo (call_by_table (setting_in x.s) calling.called one c (Some malloc_row)) →
      StepTo n m (call_by_table (setting_in x.s) calling.called one c (Some malloc_row)) (λ left. outer_by (Some calloc_row) tree (one_passed ∷ passed) w left)
  zeroed_table_step n m leaves =
      renamed events_of events_of _ n m (λ left. c_returned type calling.marks c left (c_known_call calling.called (allocates false) c)) (λ left. c_returned type calling.marks c left (c_known_call calling.called (allocates false) c))
      (λ left. zeroed_target passed left) (λ left. outer_by (Some calloc_row) tree (one_passed ∷ passed) w left) (λ k. refl) (λ k. sym (zeroed_runs k))
      (values_step n m (values_of calling.called.args) refl leaves)
