-- A call of an external function is written for what C does (ISO C99, 6.5.2.2; the Rust Reference, "Call expressions" and "External blocks").
use Rattle.std.proofs.Common.{◌≡◌, ℕ, ℤ, length, Bool, true, false, List, [], ◌∷◌, map, Option, Some, None, Result, Ok, Err, refl, sym, ap, subst, ◌∙◌}
use Rattle.cr_base.specs.Scalar.{converted}
use Rattle.cr_base.specs.declared.scalar.Scalar.{Scalar}
use Rattle.cr_base.specs.declared.scalar.Scalar.TheVariants as scalars
use Rattle.ext_calls.specs.declared.call.Arg.{Arg}
use Rattle.cr_runs.proofs.Rules.{renamed}
use Rattle.cr_runs.specs.Runs.{Ran, came}
use Rattle.cr_world.specs.Known.{KnownFunction, known_named, allocates, frees, effect}
use Rattle.cr_world.specs.World.{World, Stop, Got, blocks_of, events_of, answered}
use Rattle.cx_core.specs.Conversions.{scalar_of as c_scalar_of}
use Rattle.cx_core.specs.Trees.{CProgram, CTy, COuter, CExprs, no_exprs, more_exprs, form_of_type}
use Rattle.cx_mean.specs.Calls.{external, CCalling, COutcome, returns_value, wrong_at, values_of, by_effect, arguments, answer_as as c_answer_as, with_answer, known_call as c_known_call, opaque_call as c_opaque_call, call_by_table}
use Rattle.cx_mean.specs.Leftmost.{c_returned}
use Rattle.cx_mean.specs.Operands.{CWhy, CFault, CStop, stops, COperand}
use Rattle.cx_mean.specs.Settings.{scalar_in_type}
use Rattle.cx_mean.specs.State.{values_of_args}
use Rattle.cx_typed_leftmost.proofs.Steps.{AreOperandsOf}
use Rattle.cx_typed_work.specs.Calls.{IsTypedCall}
use Rattle.lift_calls.specs.Calls.{is_place, AreHanded}
use Rattle.lift_calls.specs.Programs.{setting_in}
use Rattle.lift_does.proofs.Around.{Around, At}
use Rattle.lift_does.proofs.CallEnds.{IsPassed}
use Rattle.lift_does.proofs.OuterArguments.{HaveScalars}
use Rattle.lift_does.proofs.OuterCalls.{given_value, scalar_passed, values_below, Step, Leaves, scalar_step, none_step, bad_step, known_step}
use Rattle.lift_does.proofs.OuterOpaque.{HaveKinds, arguments_same, answer_comes, none_comes, opaque_comes}
use Rattle.lift_does.proofs.Types.{IsNumberKind}
use Rattle.lift_exprs.specs.Names.{type_in}
use Rattle.lift_forms_laws.proofs.Runs.{seq_is, looks_is}
use Rattle.lift_held.specs.Held.{is_void, is_record}
use Rattle.lift_stands.specs.Stands.{Images, ValueBelow}
use Rattle.lift_stands_known.proofs.Answered.{answered_alike}
use Rattle.mem_bytes.specs.Access.{and_then}
use Rattle.mem_bytes.specs.Coding.{IsValueOf}
use Rattle.mem_bytes.specs.declared.value.Value.{Value}
use Rattle.mem_bytes.specs.declared.value.Value.TheVariants.{Whole}
use Rattle.rs_mean.specs.Calls.{value_in, takes_effect, known_call, held_now, outer_by, opaque_call, arguments_of, answer_as}
use Rattle.rs_mean.specs.Lookups.{symbol_of}
use Rattle.rs_mean.specs.Values.{Typed, typed}
use Rattle.rs_mean.specs.declared.cause.Cause.{Cause}
use Rattle.rs_text.specs.Tree.{Ty, OuterTree}

pub kinds_by : (x : Around) (args : CExprs) (operands : List COperand) (passed : List Typed) → AreOperandsOf x.home args operands → HaveScalars x args passed → HaveKinds (setting_in x.s) operands passed
kinds_by x no_exprs [] passed are have = tt
kinds_by x no_exprs (one ∷ rest) passed are have = absurd are
kinds_by x (more_exprs first others) [] passed are have = absurd are
kinds_by x (more_exprs first others) (one ∷ rest) [] are have = absurd have
kinds_by x (more_exprs first others) (one ∷ rest) (value ∷ passed) are have = (
  λ kind e. have.0 kind (subst (λ (t : CTy). c_scalar_of x.home.program.types (form_of_type t) ≡ Some kind) are.0.type_is (subst (λ (program : CProgram). c_scalar_of program.types (form_of_type one.type) ≡ Some kind) (sym x.means.program) e)),
  kinds_by x others rest passed are.1 have.1,
)

number_there : (kind : Scalar) (number : _) → IsValueOf kind (Whole number) → IsNumberKind kind
number_there scalars.Truth number is = tt
number_there (scalars.Whole width signed) number is = tt
number_there scalars.Object number is = absurd is
number_there scalars.Code number is = absurd is

same_kind : (one other : Scalar) → Some one ≡ Some other → one ≡ other
same_kind one other e = cc (e)

module _ (x : Around) (type : CTy) (images : Images) (c w : World) (here : At x images c w) (calling : CCalling) (one : COuter) (callee_is : calling.called.callee ≡ external one) (type_is : calling.called.type ≡ type) (typed_call : IsTypedCall x.home.program calling.called)
    (tree : OuterTree) (passes : is_void type ≡ false → is_record type ≡ false → IsPassed tree.result (type_in x.names type)) (plain : is_record type ≡ false) (void_none : is_void type ≡ true → tree.result ≡ None)
    (kind_there : is_void type ≡ false → (kind : Scalar) × (scalar_in_type (setting_in x.s) type ≡ Some kind)) (passed : List Typed) (handed : AreHanded images (blocks_of w) (values_of_args calling.called.args) passed) (kinds : HaveKinds (setting_in x.s) calling.called.args passed)
    (named : symbol_of tree ≡ one.name) where
  abbrev StepTo : (n m : ℕ) → COutcome → (ℕ → Ran (Stop Cause) World (Option Typed)) → Type 0
  StepTo n m outcome target = Step x type images c w here calling one callee_is type_is typed_call tree.result passes plain n m outcome target

  abbrev LeavesSo : COutcome → Type 0
  LeavesSo outcome = Leaves x type images c w here calling one callee_is type_is typed_call tree.result passes plain outcome

  abbrev opaque_target : ℕ → Ran (Stop Cause) World (Option Typed)
  opaque_target left = opaque_call tree passed w left

  none_where : (test : Bool) → is_void type ≡ test → scalar_in_type (setting_in x.s) type ≡ None → tree.result ≡ None
  none_where true is e = void_none is
  none_where false is e = let clash : None ≡ Some (kind_there is).0 = sym e ∙ (kind_there is).1 in cc (clash)

  answer_step : (n m : ℕ) (args : List Arg) (got : Got ℤ) (found : Option Scalar) → scalar_in_type (setting_in x.s) type ≡ found → arguments_of (blocks_of w) passed ≡ Ok args → answered {F = CFault} (record { name = one.name; args = args }) c ≡ Ok got →
      LeavesSo (Ok (returns_value (c_answer_as found got.value) got.world)) → StepTo n m (Ok (returns_value (c_answer_as found got.value) got.world)) opaque_target
  answer_step n m args got None kind_is found answers leaves =
      let alike = answered_alike CFault Cause images c w (record { name = one.name; args = args }) got here.worlds answers in
      let none = none_where (is_void type) refl kind_is in
      none_step x type images c w here calling one callee_is type_is typed_call tree.result passes plain n m got.world images alike.given.world opaque_target leaves none (alike.keeps (length (blocks_of w)) (is_place None)) alike.stands
      (λ left. opaque_comes tree passed args one.name w alike.given left named found alike.is ∙ (ap (λ (r : Option Ty). answer_as r alike.given.value alike.given.world left) none ∙ none_comes alike.given.value alike.given.world left))
  answer_step n m args got (Some kind) kind_is found answers leaves =
      let alike = answered_alike CFault Cause images c w (record { name = one.name; args = args }) got here.worlds answers in
      let number = converted kind got.value in
      let its = scalar_passed x type images c w here calling one callee_is type_is typed_call tree.result passes plain (Whole number) leaves.leaves.0 in
      let own : its.1 ≡ kind = same_kind its.1 kind (sym (subst (λ (program : CProgram). c_scalar_of program.types (form_of_type type) ≡ Some its.1) x.means.program its.5) ∙ kind_is) in
      let of : IsNumberKind kind = subst IsNumberKind own (number_there its.1 number its.4) in
      scalar_step x type images c w here calling one callee_is type_is typed_call tree.result passes plain n m (Whole number) (Whole number) got.world images alike.given.world opaque_target leaves (ValueBelow.same_number number)
      (alike.keeps (length (blocks_of w)) (is_place None)) alike.stands
      (λ left. opaque_comes tree passed args one.name w alike.given left named found alike.is ∙ (ap (λ (r : Option Ty). answer_as r alike.given.value alike.given.world left) its.2
      ∙ (answer_comes its.0 kind alike.given.value alike.given.world left (its.3 ∙ ap Some own) of
      ∙ (ap (λ (n : ℤ). came (Some (typed its.0 (Whole (converted kind n)))) alike.given.world left) alike.same ∙ ap (λ (g : Option Typed). came g alike.given.world left) (sym (given_value tree.result (Whole number) its.0 its.2))))))

  answered_step : (n m : ℕ) (args : List Arg) (outcome : Result (Got ℤ) CStop) → arguments_of (blocks_of w) passed ≡ Ok args → answered {F = CFault} (record { name = one.name; args = args }) c ≡ outcome →
      LeavesSo (with_answer (scalar_in_type (setting_in x.s) type) outcome) → StepTo n m (with_answer (scalar_in_type (setting_in x.s) type) outcome) opaque_target
  answered_step n m args (Err stop) found answers leaves = bad_step x type images c w here calling one callee_is type_is typed_call tree.result passes plain n m stop opaque_target
  answered_step n m args (Ok got) found answers leaves = answer_step n m args got (scalar_in_type (setting_in x.s) type) refl found answers leaves

  argued_step : (n m : ℕ) (outcome : Result (List Arg) CWhy) → arguments (setting_in x.s) (blocks_of c) calling.called.args ≡ outcome →
      LeavesSo (and_then (wrong_at calling.called.place outcome) (λ args. with_answer (scalar_in_type (setting_in x.s) type) (answered (record { name = one.name; args = args }) c))) →
      StepTo n m (and_then (wrong_at calling.called.place outcome) (λ args. with_answer (scalar_in_type (setting_in x.s) type) (answered (record { name = one.name; args = args }) c))) opaque_target
  argued_step n m (Err why) e leaves = bad_step x type images c w here calling one callee_is type_is typed_call tree.result passes plain n m (stops why calling.called.place) opaque_target
  argued_step n m (Ok args) e leaves =
      answered_step n m args (answered (record { name = one.name; args = args }) c)
      (arguments_same images (blocks_of c) (blocks_of w) here.worlds.held.memories (setting_in x.s) calling.called.args args passed e handed kinds) refl leaves

  opaque_step : (n m : ℕ) → LeavesSo (c_opaque_call (setting_in x.s) calling.called one c) → StepTo n m (c_opaque_call (setting_in x.s) calling.called one c) opaque_target
  opaque_step n m leaves =
      subst (λ (t : CTy). StepTo n m (and_then (wrong_at calling.called.place (arguments (setting_in x.s) (blocks_of c) calling.called.args)) (λ args. with_answer (scalar_in_type (setting_in x.s) t) (answered (record { name = one.name; args = args }) c))) opaque_target) (sym type_is)
      (argued_step n m (arguments (setting_in x.s) (blocks_of c) calling.called.args) refl
      (subst (λ (t : CTy). LeavesSo (and_then (wrong_at calling.called.place (arguments (setting_in x.s) (blocks_of c) calling.called.args)) (λ args. with_answer (scalar_in_type (setting_in x.s) t) (answered (record { name = one.name; args = args }) c)))) type_is leaves))

  -- ---- both

  known_runs : (row : KnownFunction) (left : ℕ) → known_call row tree.result passed w left ≡ takes_effect tree.result (effect row.does (map value_in passed) w.held) w left
  known_runs row left = seq_is held_now (λ held. takes_effect tree.result (effect row.does (map value_in passed) held)) w left w.held (looks_is (λ held. Ok held) w left w.held refl)

  values_step : (n m : ℕ) (row : KnownFunction) (no_bytes : row.does ≡ allocates false → images.in_bytes ≡ false) (frees_void : row.does ≡ frees → tree.result ≡ None) (outcome : Result (List Value) CWhy) → values_of calling.called.args ≡ outcome →
      LeavesSo (and_then (wrong_at calling.called.place outcome) (λ list. by_effect calling.called.place c (effect row.does list c.held))) →
      StepTo n m (and_then (wrong_at calling.called.place outcome) (λ list. by_effect calling.called.place c (effect row.does list c.held))) (λ left. takes_effect tree.result (effect row.does (map value_in passed) w.held) w left)
  values_step n m row no_bytes frees_void (Err why) e leaves = bad_step x type images c w here calling one callee_is type_is typed_call tree.result passes plain n m (stops why calling.called.place) _
  values_step n m row no_bytes frees_void (Ok list) e leaves =
      known_step x type images c w here calling one callee_is type_is typed_call tree.result passes plain n m row.does no_bytes frees_void list (map value_in passed) (values_below images (blocks_of w) calling.called.args list passed e handed) calling.called.place leaves

  pub table_step : (n m : ℕ) (found : Option KnownFunction) → known_named one.name ≡ found → ((row : KnownFunction) → found ≡ Some row → row.does ≡ allocates false → images.in_bytes ≡ false) → ((row : KnownFunction) → found ≡ Some row → row.does ≡ frees → tree.result ≡ None) → LeavesSo (call_by_table (setting_in x.s) calling.called one c found) →
      StepTo n m (call_by_table (setting_in x.s) calling.called one c found) (λ left. outer_by found tree passed w left)
  table_step n m None e no_bytes frees_void leaves = opaque_step n m leaves
  table_step n m (Some row) e no_bytes frees_void leaves =
      renamed events_of events_of _ n m (λ left. c_returned type calling.marks c left (c_known_call calling.called row.does c)) (λ left. c_returned type calling.marks c left (c_known_call calling.called row.does c))
      (λ left. takes_effect tree.result (effect row.does (map value_in passed) w.held) w left) (λ left. outer_by (Some row) tree passed w left) (λ k. refl) (λ k. sym (known_runs row k))
      (values_step n m row (no_bytes row refl) (frees_void row refl) (values_of calling.called.args) refl leaves)
