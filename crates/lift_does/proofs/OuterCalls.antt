-- A call of a function that no unit defines: what it does in the crate is what it does in C (ISO C99, 6.5.2.2, 7.20.3, 7.20.4 and 7.21; the Rust Reference, "External blocks").
use Rattle.std.proofs.Common.{◌≡◌, inl, inr, ℕ, ℤ, Bool, true, false, ◌||◌, List, [], ◌∷◌, length, map, Option, Some, None, Result, Ok, Err, refl, sym, ap, subst, ◌∙◌, arith}
use Rattle.cr_base.specs.declared.refusal.Place.{Place}
use Rattle.cr_base.specs.declared.scalar.Scalar.{Scalar}
use Rattle.cr_runs.proofs.Rules.{values, no_meaning, renamed}
use Rattle.cr_runs.specs.Owes.{Owes}
use Rattle.cr_runs.specs.Runs.{Ran, came, halted, bind}
use Rattle.cr_runs_rules.proofs.Rules.{halted_owe}
use Rattle.cr_world.specs.Held.{Held}
use Rattle.cr_world.specs.Known.{Known, allocates, frees, Effect, gives, gives_nothing, ends_program, wants_block, fails as effect_fails, effect}
use Rattle.cr_world.specs.World.{World, Stop, Got, blocks_of, events_of, with_held, granted}
use Rattle.cx_core.specs.Conversions.{scalar_of as c_scalar_of}
use Rattle.cx_core.specs.Trees.{CProgram, CTy, COuter, form_of_type}
use Rattle.cx_mean.specs.Calls.{external, CCalling, COutcome, returns_value, ends_with, values_of, by_effect, with_block, external_call}
use Rattle.cx_mean.specs.Leftmost.{c_returned}
use Rattle.cx_mean.specs.Operands.{CWhy, CFault, CStop, CValue, scalar, missing, COperand, scalar_value}
use Rattle.cx_mean.specs.Settings.{setting_of}
use Rattle.cx_mean.specs.State.{values_of_args}
use Rattle.cx_typed_leftmost.proofs.Worlds.{typed_kept}
use Rattle.cx_typed_runs.proofs.CallsOutside.{LeavesHeld, outside_held}
use Rattle.cx_typed_work.proofs.ExternalCalls.{external_calls_give_typed}
use Rattle.cx_typed_work.specs.Calls.{IsTypedCall, IsReturned}
use Rattle.cx_typed_work.specs.ExternalCalls.{CallLeaves}
use Rattle.lift_calls.specs.Calls.{is_place, type_in as type_of_given, IsOfItsType, GivesBack, IsHanded, AreHanded}
use Rattle.lift_calls.specs.Programs.{setting_in}
use Rattle.lift_does.proofs.Around.{Around, scope, At}
use Rattle.lift_does.proofs.CallEnds.{IsPassed, Came}
use Rattle.lift_does.proofs.Nodes.{and_then_is}
use Rattle.lift_does.proofs.Operands.{scalar_is}
use Rattle.lift_does.proofs.OuterEffects.{Shape, effect_shape}
use Rattle.lift_does.proofs.Reaching.{at_after}
use Rattle.lift_does.proofs.Runs.{same_events}
use Rattle.lift_does.proofs.Used.{scalar_has}
use Rattle.lift_exprs.specs.Names.{type_in}
use Rattle.std.specs.Prelude.{IsSome}
use Rattle.lift_held.specs.Held.{is_void, is_record}
use Rattle.lift_stands.specs.Keeps.{KeepsOthers}
use Rattle.lift_stands.specs.Stands.{Images, ValueBelow}
use Rattle.lift_stands.specs.Worlds.{WorldsStand}
use Rattle.lift_stands_known.proofs.Answered.{granted_below}
use Rattle.lift_stands_known.proofs.Effects.{effect_stands, zeroed_stands}
use Rattle.lift_stands_known.specs.Effects.{ValuesBelow, EffectStands}
use Rattle.lift_stands_lives.proofs.Begun.{worlds_held}
use Rattle.lift_stands_values.proofs.Ranges.{given_in_range}
use Rattle.lift_stands_values.specs.Given.{align_in}
use Rattle.mem_bytes.specs.Coding.{IsValueOf}
use Rattle.mem_bytes.specs.Memory.{Blocks}
use Rattle.mem_bytes.specs.declared.value.Value.{Value}
use Rattle.mem_bytes.specs.declared.value.Value.TheVariants.{Whole}
use Rattle.std.specs.Prelude.{pos}
use Rattle.rs_mean.specs.Calls.{value_in, given, takes_effect, kept_as}
use Rattle.rs_mean.specs.Scalars.{scalar_of}
use Rattle.rs_mean.specs.Values.{Typed, typed}
use Rattle.rs_mean.specs.World.{pure, seq, local, grants, ends, after_got}
use Rattle.rs_mean.specs.declared.cause.Cause.{Cause}
use Rattle.rs_text.specs.Tree.{Ty}

-- ---- values

-- scalars that are passed stand for C's
pub values_below : (images : Images) (others : Blocks) (operands : List COperand) (list : List Value) (passed : List Typed) → values_of operands ≡ Ok list → AreHanded images others (values_of_args operands) passed → ValuesBelow images list (map value_in passed)
values_below images others [] list [] e handed = let same : [] ≡ list = cc (e) in subst (λ (all : List Value). ValuesBelow images all []) same tt
values_below images others [] list (one ∷ passed) e handed = absurd handed
values_below images others (first ∷ rest) list [] e handed = absurd handed
values_below images others (first ∷ rest) list (one ∷ passed) e handed =
    let value = and_then_is (scalar_value first.value) _ list e in
    let more = and_then_is (values_of rest) _ list value.2 in
    let same : value.0 ∷ more.0 ≡ list = ok_is (value.0 ∷ more.0) list more.2 in
    let below : ValueBelow images value.0 one.value = subst (λ (v : CValue). IsHanded images others v one.value) (scalar_is first.value value.0 value.1) handed.0 in
    subst (λ (all : List Value). ValuesBelow images all (one.value ∷ map value_in passed)) same (below, values_below images others rest more.0 passed more.1 handed.1)
  where
    ok_list : List Value → Result (List Value) CWhy
    ok_list one = Ok one

    ok_is : (one other : List Value) → ok_list one ≡ ok_list other → one ≡ other
    ok_is one other same = cc (same)

given_type : (result : Option Ty) (value : Value) → type_of_given (given result value) ≡ result
given_type None value = refl
given_type (Some back) value = refl

pub given_value : (result : Option Ty) (value : Value) (from : Ty) → result ≡ Some from → given result value ≡ Some (typed from value)
given_value result value from e = ap (λ (r : Option Ty). given r value) e

module _ (x : Around) (type : CTy) (images : Images) (c w : World) (here : At x images c w) (calling : CCalling) (one : COuter) (callee_is : calling.called.callee ≡ external one) (type_is : calling.called.type ≡ type) (typed_call : IsTypedCall x.home.program calling.called)
    (result : Option Ty) (passes : is_void type ≡ false → is_record type ≡ false → IsPassed result (type_in x.names type)) (plain : is_record type ≡ false) where
  abbrev pub Good : COperand → World → Option Typed → World → Type 0
  Good = Came x None result type images c w

  abbrev operand_with : CValue → COperand
  operand_with value = record { type = type; value = value; marks = calling.marks }

  -- what C's call leaves
  pub record Leaves (outcome : COutcome) : Type 0 where
    pub leaves : CallLeaves x.home.program calling.called.type c.held outcome
    pub held : LeavesHeld c outcome

  pub all_leave : Leaves (external_call (setting_in x.s) calling.called one c)
  all_leave = record {
    leaves = subst (λ (program : CProgram). CallLeaves x.home.program calling.called.type c.held (external_call (setting_of program) calling.called one c)) x.means.program (external_calls_give_typed x.home.program calling.called one c typed_call callee_is here.typed.scene.memory);
    held = outside_held (setting_in x.s) calling.called one c here.typed.allocated;
  }

  came_so : (value : CValue) (after : World) (later : Images) (back : Option Typed) (w1 : World) → Leaves (Ok (returns_value value after)) → KeepsOthers (length (blocks_of w)) (is_place None) images later c.held after.held w.held w1.held → WorldsStand later after w1 →
      type_of_given back ≡ result → IsOfItsType back → GivesBack later (blocks_of w1) (align_in (setting_in x.s) type) None value back → Good (operand_with value) after back w1
  came_so value after later back w1 leaves keeps worlds typed of_type gave = record {
    later = later;
    keeps = keeps;
    at = at_after x images later (is_place None) c w after w1 here keeps worlds (typed_kept x.home (scope x) c after leaves.leaves.2 leaves.leaves.1 leaves.held here.typed);
    typed = typed;
    of_type = of_type;
    gives = gave;
    returned = subst (λ (t : CTy). IsReturned x.home.program t value) type_is leaves.leaves.0;
  }

  -- a scalar that it gives is one of its type
  pub scalar_passed : (value : Value) → IsReturned x.home.program calling.called.type (scalar value) → (from : Ty) × (kind : Scalar) × (result ≡ Some from) × (scalar_of from ≡ Some kind) × (IsValueOf kind value) × (c_scalar_of x.home.program.types (form_of_type type) ≡ Some kind)
  scalar_passed value (inl is) =
      let kind_is : c_scalar_of x.home.program.types (form_of_type type) ≡ Some is.kind = ap (λ (t : CTy). c_scalar_of x.home.program.types (form_of_type t)) (sym type_is) ∙ is.kind_is in
      let passed = passes (scalar_has x.home.program.types type (subst (λ (found : Option Scalar). IsSome found) (sym kind_is) refl)) plain in
      let own : scalar_of (type_in x.names type) ≡ Some is.kind = x.means.scalars type is.kind (subst (λ (program : CProgram). c_scalar_of program.types (form_of_type type) ≡ Some is.kind) x.means.program kind_is) in
      (passed.from, is.kind, passed.own_is, passed.from_kind ∙ (sym passed.kind_is ∙ own), is.of_kind, kind_is)
  scalar_passed value (inr lacks) = absurd lacks

  given_of_type : (later : Images) (value back : Value) (from : Ty) (kind : Scalar) → result ≡ Some from → scalar_of from ≡ Some kind → IsValueOf kind value → ValueBelow later value back → IsOfItsType (given result back)
  given_of_type later value back from kind result_is from_kind is below =
      subst IsOfItsType (sym (given_value result back from result_is)) (λ other other_is.
      let same : kind ≡ other = same_some kind other (sym from_kind ∙ other_is) in
      subst (λ (k : Scalar). IsValueOf k back) same (given_in_range later kind value back below is))
    where
      same_some : (one other : Scalar) → Some one ≡ Some other → one ≡ other
      same_some one other e = cc (e)

  given_back : (later : Images) (others : Blocks) (align : ℕ) (value back : Value) (from : Ty) → result ≡ Some from → ValueBelow later value back → GivesBack later others align None (scalar value) (given result back)
  given_back later others align value back from result_is below = subst (GivesBack later others align None (scalar value)) (sym (given_value result back from result_is)) below

  abbrev pub Step : (n m : ℕ) → COutcome → (ℕ → Ran (Stop Cause) World (Option Typed)) → Type 0
  Step n m outcome target = Owes events_of events_of Good n m (λ left. c_returned type calling.marks c left outcome) target

  -- a scalar, in worlds that stand for each other
  pub scalar_step : (n m : ℕ) (value back : Value) (after : World) (later : Images) (w1 : World) (target : ℕ → Ran (Stop Cause) World (Option Typed)) → Leaves (Ok (returns_value (scalar value) after)) → ValueBelow later value back →
      KeepsOthers (length (blocks_of w)) (is_place None) images later c.held after.held w.held w1.held → WorldsStand later after w1 → ((left : ℕ) → target left ≡ came (given result back) w1 left) → Step n m (Ok (returns_value (scalar value) after)) target
  scalar_step n m value back after later w1 target leaves below keeps worlds comes =
      let passed = scalar_passed value leaves.leaves.0 in
      renamed events_of events_of Good n m (came (operand_with (scalar value)) after) (λ left. c_returned type calling.marks c left (Ok (returns_value (scalar value) after))) (came (given result back) w1) target (λ k. refl) (λ k. sym (comes k))
      (values events_of events_of Good n m (operand_with (scalar value)) after (given result back) w1
      (came_so (scalar value) after later (given result back) w1 leaves keeps worlds (given_type result back) (given_of_type later value back passed.0 passed.1 passed.2 passed.3 passed.4 below)
      (given_back later (blocks_of w1) (align_in (setting_in x.s) type) value back passed.0 passed.2 below)))

  -- nothing
  pub none_step : (n m : ℕ) (after : World) (later : Images) (w1 : World) (target : ℕ → Ran (Stop Cause) World (Option Typed)) → Leaves (Ok (returns_value missing after)) → result ≡ None →
      KeepsOthers (length (blocks_of w)) (is_place None) images later c.held after.held w.held w1.held → WorldsStand later after w1 → ((left : ℕ) → target left ≡ came None w1 left) → Step n m (Ok (returns_value missing after)) target
  none_step n m after later w1 target leaves none keeps worlds comes =
      renamed events_of events_of Good n m (came (operand_with missing) after) (λ left. c_returned type calling.marks c left (Ok (returns_value missing after))) (came None w1) target (λ k. refl) (λ k. sym (comes k))
      (values events_of events_of Good n m (operand_with missing) after None w1 (came_so missing after later None w1 leaves keeps worlds (sym none) tt tt))

  end_step : (n m : ℕ) (status : ℤ) (after : World) (target : ℕ → Ran (Stop Cause) World (Option Typed)) → LeavesHeld c (Ok (ends_with status after)) → ((left : ℕ) → target left ≡ halted status w) → Step n m (Ok (ends_with status after)) target
  end_step n m status after target same comes =
      renamed events_of events_of Good n m (λ k. halted status after) (λ left. c_returned type calling.marks c left (Ok (ends_with status after))) (λ k. halted status w) target (λ k. refl) (λ k. sym (comes k))
      (halted_owe events_of events_of Good n m status after w (ap events_of same ∙ same_events images c w here.worlds))

  pub bad_step : (n m : ℕ) (stop : CStop) (target : ℕ → Ran (Stop Cause) World (Option Typed)) → Step n m (Err stop) target
  bad_step n m stop target = no_meaning events_of events_of Good n m stop c target

  -- ---- functions whose meaning is known

  kept_comes : (held : Held) (back : Option Typed) (left : ℕ) → seq (kept_as held) (λ _. pure back) w left ≡ came back (with_held held w) left
  unfolding seq pure local
  kept_comes held back left = refl

  ends_comes : (status : ℤ) (left : ℕ) → ends {A = Option Typed} status w left ≡ halted status w
  unfolding ends
  ends_comes status left = refl

  grants_comes : (is_zero : Bool) (size : ℕ) (got : Got Value) (left : ℕ) → granted {F = Cause} is_zero size w ≡ Ok got → seq (grants is_zero size) (λ value. pure (given result value)) w left ≡ came (given result got.value) got.world left
  unfolding seq pure grants
  grants_comes is_zero size got left e = ap (λ (found : Result (Got Value) (Stop Cause)). bind (after_got left w found) (λ value. pure (given result value))) e

  module _ (n m : ℕ) (does : Known) (frees_void : does ≡ frees → result ≡ None) (zeroes : Bool) (enough : (is_zero : Bool) → does ≡ allocates is_zero → images.in_bytes ≡ true → (zeroes || is_zero) ≡ true) (in_crate : Effect) (place : Place) where
    abbrev pub effect_target : ℕ → Ran (Stop Cause) World (Option Typed)
    effect_target left = takes_effect result in_crate w left

    zero_still : (is_zero : Bool) → is_zero ≡ true → (zeroes || is_zero) ≡ true
    zero_still is_zero is = or_true zeroes is_zero is
      where
        or_true : (a b : Bool) → b ≡ true → (a || b) ≡ true
        or_true true b e = refl
        or_true false b e = e

    granted_step : (is_zero : Bool) (size : ℕ) (found : Result (Got Value) CStop) → does ≡ allocates is_zero → granted is_zero size c ≡ found → Leaves (with_block found) → in_crate ≡ wants_block (zeroes || is_zero) size → Step n m (with_block found) effect_target
    granted_step is_zero size (Err stop) does_is e leaves is = bad_step n m stop effect_target
    granted_step is_zero size (Ok got) does_is e leaves is =
        let below_it = granted_below CFault Cause images c w is_zero (zeroes || is_zero) size got here.worlds (record { zero = zero_still is_zero; bytes = enough is_zero does_is }) e in
        scalar_step n m got.value below_it.given.value got.world below_it.later below_it.given.world effect_target leaves below_it.below (below_it.keeps (length (blocks_of w)) (is_place None) (omega arith)) below_it.stands
        (λ left. ap (λ (one : Effect). takes_effect result one w left) is ∙ grants_comes (zeroes || is_zero) size below_it.given left below_it.is)

    by_effect_step : (in_c : Effect) → Shape does in_c → EffectStands images c.held w.held zeroes in_c in_crate → Leaves (by_effect place c in_c) → Step n m (by_effect place c in_c) effect_target
    by_effect_step (gives value after) shape stands leaves =
        scalar_step n m value stands.given (with_held after c) images (with_held stands.beyond w) effect_target leaves stands.below (stands.keeps (length (blocks_of w)) (is_place None)) (worlds_held images images c w after stands.beyond here.worlds stands.stands)
        (λ left. ap (λ (one : Effect). takes_effect result one w left) stands.is ∙ kept_comes stands.beyond (given result stands.given) left)
    by_effect_step (gives_nothing after) shape stands leaves =
        none_step n m (with_held after c) images (with_held stands.beyond w) effect_target leaves (frees_void shape) (stands.keeps (length (blocks_of w)) (is_place None)) (worlds_held images images c w after stands.beyond here.worlds stands.stands)
        (λ left. ap (λ (one : Effect). takes_effect result one w left) stands.is ∙ kept_comes stands.beyond None left)
    by_effect_step (ends_program status) shape stands leaves =
        end_step n m status c effect_target leaves.held (λ left. ap (λ (one : Effect). takes_effect result one w left) stands ∙ ends_comes status left)
    by_effect_step (wants_block is_zero size) shape stands leaves = granted_step is_zero size (granted is_zero size c) shape refl leaves stands
    by_effect_step (effect_fails fault) shape stands leaves = bad_step n m _ effect_target

  -- as the same function
  pub known_step : (n m : ℕ) (does : Known) (no_bytes : does ≡ allocates false → images.in_bytes ≡ false) (frees_void : does ≡ frees → result ≡ None) (list given_list : List Value) → ValuesBelow images list given_list → (place : Place) → Leaves (by_effect place c (effect does list c.held)) →
      Step n m (by_effect place c (effect does list c.held)) (λ left. takes_effect result (effect does given_list w.held) w left)
  known_step n m does no_bytes frees_void list given_list below place leaves =
      by_effect_step n m does frees_void false (zero_there does no_bytes) (effect does given_list w.held) place (effect does list c.held) (effect_shape does list c.held) (effect_stands images c.held w.held here.worlds.held does list given_list below) leaves
    where
      zero_there : (one_does : Known) → (one_does ≡ allocates false → images.in_bytes ≡ false) → (is_zero : Bool) → one_does ≡ allocates is_zero → images.in_bytes ≡ true → (false || is_zero) ≡ true
      zero_there one_does none true is b = refl
      zero_there one_does none false is b = let clash : true ≡ false = sym b ∙ none is in cc (clash)

  -- `calloc(1, n)` in place of `malloc(n)`, in a program with a bit-field member: its bytes are set
  pub zeroed_step : (n m : ℕ) (size given_size : Value) → ValueBelow images size given_size → (place : Place) → Leaves (by_effect place c (effect (allocates false) (size ∷ []) c.held)) →
      Step n m (by_effect place c (effect (allocates false) (size ∷ []) c.held)) (λ left. takes_effect result (effect (allocates true) (Whole (pos 1) ∷ given_size ∷ []) w.held) w left)
  zeroed_step n m size given_size below place leaves =
      by_effect_step n m (allocates false) (λ same. cc (same)) true (λ is_zero does b. refl) (effect (allocates true) (Whole (pos 1) ∷ given_size ∷ []) w.held) place (effect (allocates false) (size ∷ []) c.held) (effect_shape (allocates false) (size ∷ []) c.held)
      (zeroed_stands images c.held w.held here.worlds.held size given_size below) leaves
