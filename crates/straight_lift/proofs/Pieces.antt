-- Runs of written statements: one list behind another, a store in a temporary, operands; and one step of the program
-- that the crate takes without a unit.
use Rattle.std.proofs.Common.{◌≡◌, ◌≢◌, ℕ, zero, suc, ◌<◌, ◌≤◌, ◌==◌, ℤ, neg_ℤ, Bool, true, false, if◌then◌else◌, List, [], ◌∷◌, ◌++◌, map, Option, Some, None, Result, Ok, Err, refl, sym, ap, subst, ◌∙◌, arith}
use Rattle.std.proofs.lemmas.Bool.{eqb-true}
use Rattle.std.proofs.lemmas.Bool.Decides.{nat_tests}
use Rattle.cr_base.specs.Scalar.{IsInRange, converted}
use Rattle.cr_base.specs.declared.refusal.Place.{Place as Origin}
use Rattle.cr_base.specs.declared.rule.URule.{URule}
use Rattle.cr_runs.proofs.Rules.{values, no_meaning, tick_both, tick_source, renamed, below, bind_bind, bind_tick}
use Rattle.cr_runs.specs.Owes.{Owes, Rests}
use Rattle.cr_runs.specs.Runs.{Ran, came, halted, bad, out, bind, tick}
use Rattle.straight_core.specs.declared.expr.Op1.{Op1}
use Rattle.straight_core.specs.declared.expr.Op1.TheVariants.{Minus}
use Rattle.straight_core.specs.declared.expr.Op2.{Op2}
use Rattle.straight_core.specs.declared.expr.Op2.TheVariants.{Add, Subtract, Multiply}
use Rattle.straight_core.specs.Trees.{CTy, CTyForm, ty, void, int, function, CParams, unlisted, listed, COuter, CTys, no_types, more_types, types_in, form_of_type, CExprs, no_exprs, more_exprs, CProgram}
use Rattle.straight_core.specs.Linked.{IsOpaqueResult}
use Rattle.straight_mean.proofs.Ranges.{wrapped_in_range}
use Rattle.straight_core.specs.Typing.{AreArguments, AreArgumentsOf, outer_with}
use Rattle.straight_mean.proofs.SoundCalls.{AreOperands}
use Rattle.straight_mean.proofs.Sound.{Outcome, load_sound, assign_sound, unary_sound, binary_sound, convert_sound}
use Rattle.straight_mean.specs.Leftmost.{c_node, from_done}
use Rattle.straight_mean.specs.Nodes.{Done, done, arguments, call_step, called, after_call, answered as c_answered, load_step, assign_step, unary_step, binary_step, convert_step, number_of_binary}
use Rattle.straight_mean.specs.Operands.{CValue, scalar, designates, missing, COperand, Frame as CFrame, CWorld}
use Rattle.straight_mean.specs.Sound.{GivesInt, IsOperandOf}
use Rattle.ext_calls.specs.declared.call.Arg.{Arg}
use Rattle.ext_calls.specs.declared.call.Arg.TheVariants.{Whole as WholeArg}
use Rattle.ext_calls.specs.Host.{first_answer}
use Rattle.ext_calls.specs.Outside.{Outside, Events, others}
use Rattle.straight_lift.specs.Agrees.{int_scalar, WorldsAgree, IsTemporary, HasTemporaries, block_of_temporary, at_temporary, FramesAgree, NamesObject, param_types, result_type, Holds, Gives, IsBeside, Keeps, Meets}
use Rattle.straight_lift.specs.declared.atom.Atom.TheVariants.{Fixed, Temporary}
use Rattle.straight_lift.specs.declared.atom.Atom.{Atom}
use Rattle.straight_lift.specs.Lifted.{Names, temporary_place, operand_expr, operand_exprs, operator_of, Lifted, lifted_call}
use Rattle.straight_lift.specs.StandsFor.{Images, StandsFor}
use Rattle.straight_lift.proofs.Silent.{events_in, silent_stmts}
use Rattle.straight_lift.proofs.StandsLemmas.{frame_stands, load_stands, put_stands}
use Rattle.straight_lift.proofs.Steps.{outcome_ok, load_ok, unary_ok, binary_ok, assign_ok, convert_ok}
use Rattle.straight_lift.proofs.Wrapping.{int_same}
use Rattle.straight_lift.proofs.Storing.{Put, put_changes, put_fits, put_loads, value_stays}
use Rattle.straight_mean.specs.Marks.{Marks, united, at_sequence_point}
use Rattle.mem_bytes.proofs.Reached.{and_then_ok}
use Rattle.mem_bytes.specs.Access.{value_at, after_put}
use Rattle.mem_bytes.specs.Memory.{Blocks, live_block}
use Rattle.mem_bytes.specs.declared.fault.Fault.{Fault}
use Rattle.mem_bytes.specs.declared.value.Ptr.{Ptr}
use Rattle.mem_bytes.specs.declared.value.Value.{Value}
use Rattle.mem_bytes.specs.declared.value.Value.TheVariants.{Whole as Number}
use Rattle.straight_rust_mean.specs.Functions.{Typed, accepts, arg_of, answered, outer_call}
use Rattle.straight_rust_mean.specs.Items.{Callee, outer, callee_at, Spot}
use Rattle.straight_rust_mean.specs.Typing.{symbol_of}
use Rattle.straight_rust_mean.specs.Run.{Frame, spot_of, load, with_memory, store, computed, run_neg, run_operator, applied, run_expr, run_exprs, call_at, call_found, the_value, run_stmt, run_stmts, then_on, Flow, normal, returned}
use Rattle.straight_rust_mean.specs.Scalars.{in_range}
use Rattle.straight_rust_mean.specs.World.{World, Run, pure, fails, seq, takes_unit, or_fault}
use Rattle.straight_rust_mean.specs.declared.cause.Cause.{Cause}
use Rattle.straight_rust_mean.specs.declared.cause.Cause.TheVariants.{Overflow, WrongCall}
use Rattle.straight_rust_tree.specs.Tree.{Ty, i32, OuterTree, static_at, Expr, read, call, eval, neg, binary as operates, Stmt, assign, stmts, exprs}

-- the events of a program's world
abbrev pub events_of : CWorld → Events
events_of world = world.events

-- ---- lists of statements

bind_same : {F S A B : Type 0} (r : Ran F S A) (go on : A → S → ℕ → Ran F S B) → ((a : A) (s : S) (k : ℕ) → go a s k ≡ on a s k) → bind r go ≡ bind r on
bind_same (came value state left) go on same = same value state left
bind_same (halted status state) go on same = refl
bind_same (bad fault state) go on same = refl
bind_same (out state) go on same = refl

-- the statements of a list run one after another
abbrev pub run_list : Frame → List Stmt → Run Flow
run_list frame list = run_stmts frame (stmts list)

then_same : (frame : Frame) (more second : List Stmt) →
    ((world : World) (units : ℕ) → run_list frame (more ++ second) world units ≡ bind (run_list frame more world units) (then_on (run_list frame second))) →
    (flow : Flow) (next : World) (left : ℕ) →
    then_on (run_list frame (more ++ second)) flow next left ≡ bind (then_on (run_list frame more) flow next left) (then_on (run_list frame second))
then_same frame more second same normal next left = same next left
then_same frame more second same (returned value) next left = refl

pub run_append : (frame : Frame) (first second : List Stmt) (world : World) (units : ℕ) →
    run_list frame (first ++ second) world units ≡ bind (run_list frame first world units) (then_on (run_list frame second))
run_append frame [] second world units = refl
run_append frame (one ∷ more) second world units =
    bind_same (run_stmt frame one world units) (then_on (run_list frame (more ++ second))) (λ flow next left. bind (then_on (run_list frame more) flow next left) (then_on (run_list frame second)))
    (then_same frame more second (run_append frame more second))
    ∙ sym (bind_bind (run_stmt frame one world units) (then_on (run_list frame more)) (then_on (run_list frame second)))

-- the rest runs behind statements that go on
pub then_normal : (frame : Frame) (rest : List Stmt) (flow : Flow) (world : World) (units : ℕ) → flow ≡ normal →
    then_on (run_list frame rest) flow world units ≡ run_list frame rest world units
then_normal frame rest flow world units same = ap (λ (f : Flow). then_on (run_list frame rest) f world units) same

-- ---- stores in a temporary

abbrev outcome_of : Done → Result Done URule
outcome_of one = Ok one

ok_equal : (one other : Done) → outcome_of one ≡ outcome_of other → one ≡ other
ok_equal one other same = cc

-- there are as many numbers as arguments
abbrev pub Counts : CExprs → List ℤ → Type 0
Counts no_exprs [] = Unit {0}
Counts no_exprs (n ∷ ns) = ⊥
Counts (more_exprs first others) [] = ⊥
Counts (more_exprs first others) (n ∷ ns) = Counts others ns

none_accepts : (types : CTys) (variadic : Bool) → AreArguments types variadic no_exprs → accepts (map (λ type. i32) (types_in types)) variadic [] ≡ true
none_accepts no_types variadic are = refl
none_accepts (more_types type types) variadic are = absurd are

number_equal : (one other : ℤ) → Number one ≡ Number other → one ≡ other
number_equal one other same = cc

scalar_equal : (one other : Value) → scalar one ≡ scalar other → one ≡ other
scalar_equal one other same = cc

module _ (program : CProgram) (names : Names) (images : Images) (c_frame : CFrame) (frame : Frame) (limit : ℕ) (declared : ℕ → Bool)
    (agree : FramesAgree program names images c_frame frame limit declared) where
  -- a typed number, as a crate has it
  abbrev pub typed : ℤ → Typed
  typed n = record { ty = i32; value = Number n }

  -- two temporaries have two blocks
  temporaries_apart : (one other : ℕ) → one ≢ other → block_of_temporary frame one ≢ block_of_temporary frame other
  temporaries_apart one other apart same = apart (omega (arith, same))

  -- a world after a number was stored in a temporary
  pub record StoredIn (next : ℕ) (n : ℤ) (world : World) : Type 0 where
    pub after : World
    pub runs : (left : ℕ) → store (spot_of frame (temporary_place names next)) (typed n) world left ≡ came tt after left
    pub loads : value_at after.memory (at_temporary frame next) int_scalar ≡ Ok (Number n)
    pub others : (number : ℕ) → block_of_temporary frame next ≢ number → live_block after.memory number ≡ live_block world.memory number
    pub temporaries : HasTemporaries frame limit after
    pub stands : (memory : Blocks) → StandsFor images memory world.memory → StandsFor images memory after.memory
    pub events : after.events ≡ world.events
    pub answers : after.answers ≡ world.answers

  stays_temporary : (next : ℕ) (n : ℤ) (world : World) (memory : Blocks) → HasTemporaries frame limit world →
      Put world.memory memory (block_of_temporary frame next) → next < limit →
      (number : ℕ) → number < limit → (same : Bool) → (number == next) ≡ same → IsTemporary memory (block_of_temporary frame number)
  stays_temporary next n world memory has put within number below true tests =
      let is : number ≡ next = eqb-true number next tests in
      let old = has next within in
      let kept = put.same old.block old.live in
      rw is (record { block = put.new; live = put.live; align = kept.0 ∙ old.align; size = kept.1 ∙ old.size })
  stays_temporary next n world memory has put within number below false tests =
      let old = has number below in
      let different : next ≢ number = λ same. different_by number next tests same in
      record {
        block = old.block;
        live = put.others (block_of_temporary frame number) (temporaries_apart next number different) ∙ old.live;
        align = old.align;
        size = old.size;
      }
    where
      different_by : (number next : ℕ) → (number == next) ≡ false → next ≡ number → ⊥
      different_by number next tests same = grind (arith, nat_tests)

  pub stored_in : (next : ℕ) (n : ℤ) (world : World) → HasTemporaries frame limit world → next < limit → IsInRange int_scalar n → StoredIn next n world
  stored_in next n world has within in_range =
      let old = has next within in
      let fits = put_fits world.memory (block_of_temporary frame next) old.block n old.live old.align old.size in
      let put = put_changes world.memory fits.0 (at_temporary frame next) n fits.1 in
      record {
        after = record world { memory = fits.0 };
        runs = λ left.
            ap (λ (spot : Option Spot). store spot (typed n) world left) (agree.temporaries next within)
            ∙ ap (λ (outcome : Result Blocks Fault). with_memory outcome world left) fits.1;
        loads = put_loads world.memory fits.0 (at_temporary frame next) n in_range fits.1;
        others = put.others;
        temporaries = λ number below. stays_temporary next n world fits.0 has put within number below (number == next) refl;
        stands = λ memory stands. frame_stands images memory world.memory stands fits.0
            (λ image number block other live mapped was. put.others image (λ same. agree.apart number next within (mapped ∙ ap Some (sym same))) ∙ was);
        events = refl;
        answers = refl;
      }

  -- ---- what is kept

  beside_more : (from next number : ℕ) → from ≤ next → IsBeside images frame from number → IsBeside images frame next number
  beside_more from next number less beside = record {
    no_image = beside.no_image;
    no_temporary = λ other above. beside.no_temporary other (omega (arith, above, less));
  }

  -- what two pieces keep, the second with later temporaries
  pub keeps_then : (from next : ℕ) (before middle after : World) → from ≤ next → Keeps images frame from before middle → Keeps images frame next middle after → Keeps images frame from before after
  keeps_then from next before middle after less first second number block beside live =
      second number block (beside_more from next number less beside) (first number block beside live)

  pub keeps_all : (from : ℕ) (world : World) → Keeps images frame from world world
  keeps_all from world number block beside live = live

  -- what an atom holds, it holds later, and below a larger number
  pub holds_later : (next more : ℕ) (before after : World) (atom : Option Atom) (value : Value) → next ≤ more → next ≤ limit → HasTemporaries frame limit before →
      Keeps images frame next before after → Holds frame next before atom value → Holds frame more after atom value
  holds_later next more before after None value less within has keeps holds = holds
  holds_later next more before after (Some (Fixed n)) value less within has keeps holds = holds
  holds_later next more before after (Some (Temporary number)) value less within has keeps holds =
      let old = has number (omega (arith, holds.0, within)) in
      let beside : IsBeside images frame next (block_of_temporary frame number) = record {
        no_image = λ block. agree.apart block number (omega (arith, holds.0, within));
        no_temporary = λ other above same. absurd (omega (arith, holds.0, above, same));
      } in
      let stays = keeps (block_of_temporary frame number) old.block beside old.live in
      (omega (arith, holds.0, less), value_stays before.memory after.memory (at_temporary frame number) (stays ∙ sym old.live) ∙ holds.1)

  -- ---- operands

  -- an operand gives what its atom holds
  pub operand_runs : (next : ℕ) (world : World) (atom : Option Atom) (n : ℤ) → next ≤ limit → Holds frame next world atom (Number n) →
      (units : ℕ) → run_expr frame (operand_expr names atom) world units ≡ came (typed n) world units
  operand_runs next world None n within holds units = absurd holds
  operand_runs next world (Some (Fixed value)) n within holds units =
      let same : value ≡ n = cc in
      ap (λ (number : ℤ). came (typed number) world units) same
  operand_runs next world (Some (Temporary number)) n within holds units =
      ap (λ (spot : Option Spot). load spot world units) (agree.temporaries number (omega (arith, holds.0, within)))
      ∙ ap (λ (outcome : Result Value Fault). bind (or_fault outcome world units) (λ value. pure (record { ty = i32; value = value }))) holds.1

  -- ---- a statement that stores in a temporary

  abbrev pub to_temporary : ℕ → Expr → List Stmt
  to_temporary next value = assign (temporary_place names next) value ∷ []

  pub temporary_runs : (next : ℕ) (n : ℤ) (world : World) (value : Expr) (stored : StoredIn next n world) →
      ((units : ℕ) → run_expr frame value world units ≡ came (typed n) world units) →
      (units : ℕ) → run_list frame (to_temporary next value) world units ≡ came normal stored.after units
  temporary_runs next n world value stored gives units =
      ap (λ (r : Ran Cause World Typed). bind (bind r (λ one. seq (store (spot_of frame (temporary_place names next)) one) (λ _. pure normal))) (then_on (pure normal))) (gives units)
      ∙ ap (λ (r : Ran Cause World (Unit {0})). bind (bind r (λ _. pure normal)) (then_on (pure normal))) (stored.runs units)

  pub meets_stored : (from next : ℕ) (n : ℤ) (type : CTy) (before world : World) (c_world : CWorld) (operand : COperand) (stored : StoredIn next n world) →
      WorldsAgree images c_world world → Keeps images frame from before world → from ≤ next → IsOperandOf type operand → operand.value ≡ scalar (Number n) →
      Meets images frame limit from (suc next) (Some (Temporary next)) type before operand c_world normal stored.after
  meets_stored from next n type before world c_world operand stored agrees keeps less is value = record {
    goes_on = refl;
    worlds = record {
      memories = stored.stands c_world.memory agrees.memories;
      events = agrees.events ∙ sym stored.events;
      answers = agrees.answers ∙ sym stored.answers;
    };
    temporaries = stored.temporaries;
    typed = is;
    gives = rw value (omega arith, stored.loads);
    keeps = λ number block beside live. stored.others number (λ same. beside.no_temporary next less (sym same)) ∙ keeps number block beside live;
  }

  -- ---- a step of the program alone

  -- where a crate's run comes to an end without a unit, and what it comes to
  pub record Arrives (from next : ℕ) (atom : Option Atom) (type : CTy) (before : World) (operand : COperand) (c_world : CWorld) (target : ℕ → Ran Cause World Flow) : Type 0 where
    pub world : World
    pub flow : Flow
    pub comes : (units : ℕ) → target units ≡ came flow world units
    pub meets : Meets images frame limit from next atom type before operand c_world flow world

  done_owes : (from next : ℕ) (atom : Option Atom) (type : CTy) (before : World) (place : Origin) (c_world : CWorld) (outcome : Result Done URule) (target : ℕ → Ran Cause World Flow) (n m : ℕ) →
      ((one : Done) → outcome ≡ Ok one → Arrives from next atom type before one.operand one.world target) →
      Owes events_of events_in (Meets images frame limit from next atom type before) n m (λ left. from_done place c_world left outcome) target
  done_owes from next atom type before place c_world (Ok one) target n m arrives =
      let end = arrives one refl in
      renamed events_of events_in (Meets images frame limit from next atom type before) n m (came one.operand one.world) (came one.operand one.world) (came end.flow end.world) target
      (λ k. refl) (λ k. sym (end.comes k))
      (values events_of events_in (Meets images frame limit from next atom type before) n m one.operand one.world end.flow end.world end.meets)
  done_owes from next atom type before place c_world (Err rule) target n m arrives =
      no_meaning events_of events_in (Meets images frame limit from next atom type before) n m (record { rule = rule; place = place }) c_world target

  -- a node whose step the crate's statements take without a unit
  pub alone : (from next : ℕ) (atom : Option Atom) (type : CTy) (before world : World) (place : Origin) (c_world : CWorld) (outcome : Result Done URule) (list : List Stmt) (n m : ℕ) →
      c_world.events ≡ world.events →
      ((one : Done) → outcome ≡ Ok one → Arrives from next atom type before one.operand one.world (run_list frame list world)) →
      Owes events_of events_in (Meets images frame limit from next atom type before) n m (c_node place c_world outcome) (run_list frame list world)
  alone from next atom type before world place c_world outcome list n m same arrives =
      below events_of events_in (Meets images frame limit from next atom type before) n (suc m) n m (c_node place c_world outcome) (run_list frame list world) (omega arith) (omega arith)
      (tick_source events_of events_in (Meets images frame limit from next atom type before) n m c_world (λ left. from_done place c_world left outcome) (run_list frame list world)
      (subst (λ (events : Events). Rests events_in events (run_list frame list world 0)) (sym same) (silent_stmts frame (stmts list) world))
      (done_owes from next atom type before place c_world outcome (run_list frame list world) n m arrives))

  -- ---- nodes of type `int`

  -- a value that is stored in the next temporary
  arrive_stored : (from next : ℕ) (n : ℤ) (type : CTy) (before world : World) (c_world : CWorld) (one : Done) (value : Expr) →
      WorldsAgree images c_world world → HasTemporaries frame limit world → Keeps images frame from before world → from ≤ next → next < limit →
      IsOperandOf type one.operand → one.operand.value ≡ scalar (Number n) → IsInRange int_scalar n → one.world ≡ c_world →
      ((units : ℕ) → run_expr frame value world units ≡ came (typed n) world units) →
      Arrives from (suc next) (Some (Temporary next)) type before one.operand one.world (run_list frame (to_temporary next value) world)
  arrive_stored from next n type before world c_world one value agrees has keeps less within is given in_range same gives =
      let stored = stored_in next n world has within in_range in
      record {
        world = stored.after;
        flow = normal;
        comes = temporary_runs next n world value stored gives;
        meets = meets_stored from next n type before world one.world one.operand stored (subst (λ (w : CWorld). WorldsAgree images w world) (sym same) agrees) keeps less is given;
      }

  -- the number that an operand of type `int` gives
  abbrev pub number_given : (operand : COperand) → GivesInt operand.value → ℤ
  number_given operand gives = gives.is_int.number

  given_number : (operand : COperand) (gives : GivesInt operand.value) → operand.value ≡ scalar (Number (number_given operand gives))
  given_number operand gives = gives.is ∙ ap (λ (value : Value). scalar value) gives.is_int.is

  pub load_arrives : (next : ℕ) (is_const : Bool) (from : COperand) (object_number : ℕ) (at : Ptr) (world : World) (c_world : CWorld) (one : Done) →
      WorldsAgree images c_world world → HasTemporaries frame limit world → next < limit → from.value ≡ designates at →
      NamesObject names images frame object_number at → load_step (ty int is_const) from c_world ≡ Ok one →
      Arrives next (suc next) (Some (Temporary next)) (ty int is_const) world one.operand one.world
      (run_list frame (to_temporary next (read (static_at names.home (names.objects object_number)))) world)
  load_arrives next is_const from object_number at world c_world one agrees has within designated named e =
      let loaded = load_ok is_const from at c_world one designated e in
      let is : IsOperandOf (ty int is_const) one.operand = outcome_ok (ty int is_const) (load_step (ty int is_const) from c_world) one (load_sound is_const from at c_world designated) e in
      let gives : GivesInt one.operand.value = is.gives in
      let n = gives.is_int.number in
      let value : loaded.value ≡ Number n = scalar_equal loaded.value gives.value (sym loaded.given ∙ gives.is) ∙ gives.is_int.is in
      let there : value_at world.memory (record { block = named.image; offset = at.offset }) int_scalar ≡ Ok loaded.value =
      load_stands 32 true images c_world.memory world.memory agrees.memories at named.image named.mapped loaded.value loaded.found in
      let here : value_at world.memory (record { block = named.image; offset = 0 }) int_scalar ≡ Ok (Number n) =
      ap (λ (offset : ℕ). value_at world.memory (record { block = named.image; offset = offset }) int_scalar) (sym named.at_start)
      ∙ (there ∙ ap (λ (v : Value). Ok v) value) in
      arrive_stored next next n (ty int is_const) world world c_world one (read (static_at names.home (names.objects object_number))) agrees has (keeps_all next world) (omega arith) within
      is (given_number one.operand gives) gives.is_int.in_range loaded.world_is
      (λ units.
      ap (λ (spot : Option Spot). load spot world units) named.spot
      ∙ ap (λ (outcome : Result Value Fault). bind (or_fault outcome world units) (λ v. pure (record { ty = i32; value = v }))) here)

  -- a number that an operand of type `int` gives is one
  number_in_range : (is_const : Bool) (operand : COperand) (n : ℤ) → IsOperandOf (ty int is_const) operand → operand.value ≡ scalar (Number n) → IsInRange int_scalar n
  number_in_range is_const operand n is given =
      let gives : GivesInt operand.value = is.gives in
      let same : Number gives.is_int.number ≡ Number n = sym gives.is_int.is ∙ scalar_equal gives.value (Number n) (sym gives.is ∙ given) in
      subst (λ (k : ℤ). IsInRange int_scalar k) (number_equal gives.is_int.number n same) gives.is_int.in_range

  -- a result that an `i32` represents is computed
  computed_runs : (n : ℤ) (world : World) (units : ℕ) → in_range i32 n ≡ true → computed i32 (Some n) world units ≡ came (typed n) world units
  computed_runs n world units fits = ap (λ (test : Bool). (if test then pure (typed n) else fails Overflow) world units) fits

  pub unary_arrives : (from next : ℕ) (is_const : Bool) (op : Op1) (operand : COperand) (n : ℤ) (atom : Option Atom) (before world : World) (c_world : CWorld) (one : Done) →
      WorldsAgree images c_world world → HasTemporaries frame limit world → Keeps images frame from before world → from ≤ next → next < limit →
      operand.value ≡ scalar (Number n) → GivesInt operand.value → Holds frame next world atom (Number n) →
      unary_step op (ty int is_const) operand c_world ≡ Ok one →
      Arrives from (suc next) (Some (Temporary next)) (ty int is_const) before one.operand one.world
      (run_list frame (to_temporary next (neg (operand_expr names atom))) world)
  unary_arrives from next is_const Minus operand n atom before world c_world one agrees has keeps less within given gives holds e =
      let result = unary_ok is_const Minus operand n c_world one given e in
      let is : IsOperandOf (ty int is_const) one.operand = outcome_ok (ty int is_const) (unary_step Minus (ty int is_const) operand c_world) one (unary_sound is_const Minus operand c_world gives) e in
      arrive_stored from next (neg_ℤ n) (ty int is_const) before world c_world one (neg (operand_expr names atom)) agrees has keeps less within is result.given
      (number_in_range is_const one.operand (neg_ℤ n) is result.given) result.world_is
      (λ units.
      ap (λ (r : Ran Cause World Typed). bind r run_neg) (operand_runs next world atom n (omega (arith, within)) holds units)
      ∙ computed_runs (neg_ℤ n) world units result.fits)

  -- the operator of a crate gives the number of the program's
  applied_same : (op : Op2) (n m : ℤ) → applied (operator_of op) n m ≡ number_of_binary op n m
  applied_same Add n m = refl
  applied_same Subtract n m = refl
  applied_same Multiply n m = refl

  pub binary_arrives : (from next : ℕ) (is_const : Bool) (op : Op2) (left right : COperand) (n m : ℤ) (first second : Option Atom) (before world : World) (c_world : CWorld) (one : Done) →
      WorldsAgree images c_world world → HasTemporaries frame limit world → Keeps images frame from before world → from ≤ next → next < limit →
      left.value ≡ scalar (Number n) → GivesInt left.value → right.value ≡ scalar (Number m) → GivesInt right.value →
      Holds frame next world first (Number n) → Holds frame next world second (Number m) →
      binary_step op (ty int is_const) left right c_world ≡ Ok one →
      Arrives from (suc next) (Some (Temporary next)) (ty int is_const) before one.operand one.world
      (run_list frame (to_temporary next (operates (operator_of op) (operand_expr names first) (operand_expr names second))) world)
  binary_arrives from next is_const op left right n m first second before world c_world one agrees has keeps less within given gives also too holds held e =
      let result = binary_ok is_const op left right n m c_world one given also e in
      let is : IsOperandOf (ty int is_const) one.operand = outcome_ok (ty int is_const) (binary_step op (ty int is_const) left right c_world) one (binary_sound is_const op left right c_world gives too) e in
      let number = number_of_binary op n m in
      arrive_stored from next number (ty int is_const) before world c_world one (operates (operator_of op) (operand_expr names first) (operand_expr names second)) agrees has keeps less within is result.given
      (number_in_range is_const one.operand number is result.given) result.world_is
      (λ units.
      ap (λ (r : Ran Cause World Typed). bind r (λ one_value. seq (run_expr frame (operand_expr names second)) (λ other_value. run_operator (operator_of op) one_value other_value)))
      (operand_runs next world first n (omega (arith, within)) holds units)
      ∙ (ap (λ (r : Ran Cause World Typed). bind r (λ other_value. run_operator (operator_of op) (typed n) other_value))
      (operand_runs next world second m (omega (arith, within)) held units)
      ∙ (ap (λ (k : ℤ). computed i32 (Some k) world units) (applied_same op n m)
      ∙ computed_runs number world units result.fits)))

  -- the store of an assignment, in the image of its object
  pub assign_arrives : (from next : ℕ) (is_const : Bool) (target value : COperand) (object_number : ℕ) (at : Ptr) (n : ℤ) (atom : Option Atom) (before world : World) (c_world : CWorld) (one : Done) →
      WorldsAgree images c_world world → HasTemporaries frame limit world → Keeps images frame from before world → from ≤ next → next ≤ limit →
      target.value ≡ designates at → NamesObject names images frame object_number at → value.value ≡ scalar (Number n) → GivesInt value.value → Holds frame next world atom (Number n) →
      assign_step (ty int is_const) target value c_world ≡ Ok one →
      Arrives from next atom (ty int is_const) before one.operand one.world
      (run_list frame (assign (static_at names.home (names.objects object_number)) (operand_expr names atom) ∷ []) world)
  assign_arrives from next is_const target value object_number at n atom before world c_world one agrees has keeps less within designated named given gives holds e =
      let result = assign_ok is_const target value at n c_world one designated given e in
      let is : IsOperandOf (ty int is_const) one.operand = outcome_ok (ty int is_const) (assign_step (ty int is_const) target value c_world) one (assign_sound is_const target value at c_world designated gives) e in
      let there = put_stands 32 true images c_world.memory result.memory world.memory agrees.memories at named.image named.mapped n result.put in
      let stored : after_put world.memory (record { block = named.image; offset = 0 }) int_scalar (Number n) ≡ Ok there.0 =
      ap (λ (offset : ℕ). after_put world.memory (record { block = named.image; offset = offset }) int_scalar (Number n)) (sym named.at_start) ∙ there.1 in
      let put : Put world.memory there.0 named.image = put_changes world.memory there.0 (record { block = named.image; offset = 0 }) n stored in
      let after : World = record world { memory = there.0 } in
      let apart : (number : ℕ) → number < limit → named.image ≢ block_of_temporary frame number =
      λ number below same. agree.apart at.block number below (named.mapped ∙ ap (λ (b : ℕ). Some b) same) in
      let stays : Keeps images frame next world after =
      λ number block beside live. put.others number (λ same. beside.no_image at.block (named.mapped ∙ ap (λ (b : ℕ). Some b) same)) ∙ live in
      record {
        world = after;
        flow = normal;
        comes = λ units.
            ap (λ (r : Ran Cause World Typed). bind (bind r (λ found. seq (store (spot_of frame (static_at names.home (names.objects object_number))) found) (λ _. pure normal))) (then_on (pure normal)))
            (operand_runs next world atom n within holds units)
            ∙ (ap (λ (spot : Option Spot). bind (bind (store spot (typed n) world units) (λ _. pure normal)) (then_on (pure normal))) named.spot
            ∙ ap (λ (outcome : Result Blocks Fault). bind (bind (with_memory outcome world units) (λ _. pure normal)) (then_on (pure normal))) stored);
        meets = record {
          goes_on = refl;
          worlds = subst (λ (w : CWorld). WorldsAgree images w after) (sym result.world_is) (record { memories = there.2; events = agrees.events; answers = agrees.answers });
          temporaries = λ number below.
              let old = has number below in
              record { block = old.block; live = put.others (block_of_temporary frame number) (apart number below) ∙ old.live; align = old.align; size = old.size };
          typed = is;
          gives = subst (λ (v : CValue). Gives frame next after atom v) (sym result.given) (holds_later next next world after atom (Number n) (omega arith) within has stays holds);
          keeps = keeps_then from next before world after less keeps stays;
        };
      }

  -- a conversion to `int` of a number leaves the crate as it is
  pub convert_arrives : (from next : ℕ) (is_const : Bool) (operand : COperand) (n : ℤ) (atom : Option Atom) (before world : World) (c_world : CWorld) (one : Done) →
      WorldsAgree images c_world world → HasTemporaries frame limit world → Keeps images frame from before world →
      operand.value ≡ scalar (Number n) → GivesInt operand.value → IsInRange int_scalar n → Holds frame next world atom (Number n) →
      convert_step (ty int is_const) operand c_world ≡ Ok one →
      Arrives from next atom (ty int is_const) before one.operand one.world (run_list frame [] world)
  convert_arrives from next is_const operand n atom before world c_world one agrees has keeps given gives in_range holds e =
      let result = convert_ok is_const operand n c_world one given e in
      let is : IsOperandOf (ty int is_const) one.operand = outcome_ok (ty int is_const) (convert_step (ty int is_const) operand c_world) one (convert_sound is_const operand c_world gives) e in
      let value : one.operand.value ≡ scalar (Number n) = result.given ∙ ap (λ (k : ℤ). scalar (Number k)) (int_same n in_range) in
      record {
        world = world;
        flow = normal;
        comes = λ units. refl;
        meets = record {
          goes_on = refl;
          worlds = subst (λ (w : CWorld). WorldsAgree images w world) (sym result.world_is) agrees;
          temporaries = has;
          typed = is;
          gives = subst (λ (v : CValue). Gives frame next world atom v) (sym value) holds;
          keeps = keeps;
        };
      }

  -- a conversion to `void` leaves the crate as it is, and nothing stands for its value
  pub drop_arrives : (from next : ℕ) (is_const : Bool) (operand : COperand) (before world : World) (c_world : CWorld) (one : Done) →
      WorldsAgree images c_world world → HasTemporaries frame limit world → Keeps images frame from before world →
      convert_step (ty void is_const) operand c_world ≡ Ok one →
      Arrives from next None (ty void is_const) before one.operand one.world (run_list frame [] world)
  drop_arrives from next is_const operand before world c_world one agrees has keeps e =
      let end : done (ty void is_const) missing operand.marks c_world ≡ one = cc in
      record {
        world = world;
        flow = normal;
        comes = λ units. refl;
        meets = subst (λ (d : Done). Meets images frame limit from next None (ty void is_const) before d.operand d.world normal world) end (record {
          goes_on = refl;
          worlds = agrees;
          temporaries = has;
          typed = record { type_is = refl; gives = refl };
          gives = tt;
          keeps = keeps;
        });
      }

  -- ---- calls

  abbrev pub all_typed : List ℤ → List Typed
  all_typed [] = []
  all_typed (n ∷ ns) = typed n ∷ all_typed ns

  -- the arguments of a call as the outside sees them
  abbrev pub int_args : List ℤ → List Arg
  int_args [] = []
  int_args (n ∷ ns) = WholeArg int_scalar n ∷ int_args ns

  -- atoms hold the numbers that operands of type `int` give
  abbrev pub HoldArgs : ℕ → World → List (Option Atom) → List COperand → List ℤ → Type 0
  HoldArgs next world [] [] [] = Unit {0}
  HoldArgs next world (atom ∷ atoms) (operand ∷ operands) (n ∷ ns) =
      (form_of_type operand.type ≡ int) × (operand.value ≡ scalar (Number n)) × Holds frame next world atom (Number n) × HoldArgs next world atoms operands ns
  HoldArgs next world _ _ _ = ⊥

  args_run : (next : ℕ) (world : World) (atoms : List (Option Atom)) (operands : List COperand) (ns : List ℤ) → next ≤ limit → HoldArgs next world atoms operands ns →
      (units : ℕ) → run_exprs frame (exprs (operand_exprs names atoms)) world units ≡ came (all_typed ns) world units
  args_run next world [] [] [] within holds units = refl
  args_run next world (atom ∷ atoms) (operand ∷ operands) (n ∷ ns) within holds units =
      ap (λ (r : Ran Cause World Typed). bind r (λ value. seq (run_exprs frame (exprs (operand_exprs names atoms))) (λ values. pure (value ∷ values))))
      (operand_runs next world atom n within holds.2 units)
      ∙ ap (λ (r : Ran Cause World (List Typed)). bind r (λ values. pure (typed n ∷ values))) (args_run next world atoms operands ns within holds.3 units)
  args_run next world [] [] (n ∷ ns) within holds units = absurd holds
  args_run next world [] (operand ∷ operands) ns within holds units = absurd holds
  args_run next world (atom ∷ atoms) [] ns within holds units = absurd holds
  args_run next world (atom ∷ atoms) (operand ∷ operands) [] within holds units = absurd holds

  args_given : (next : ℕ) (world : World) (atoms : List (Option Atom)) (operands : List COperand) (ns : List ℤ) → HoldArgs next world atoms operands ns →
      arguments operands ≡ Ok (int_args ns)
  args_given next world [] [] [] holds = refl
  args_given next world (atom ∷ atoms) (operand ∷ operands) (n ∷ ns) holds =
      rw (holds.0, holds.1, args_given next world atoms operands ns holds.3)
  args_given next world [] [] (n ∷ ns) holds = absurd holds
  args_given next world [] (operand ∷ operands) ns holds = absurd holds
  args_given next world (atom ∷ atoms) [] ns holds = absurd holds
  args_given next world (atom ∷ atoms) (operand ∷ operands) [] holds = absurd holds

  args_seen : (ns : List ℤ) → map arg_of (all_typed ns) ≡ int_args ns
  args_seen [] = refl
  args_seen (n ∷ ns) = ap (λ (args : List Arg). WholeArg int_scalar n ∷ args) (args_seen ns)

  pub counted : (args : CExprs) (next : ℕ) (world : World) (atoms : List (Option Atom)) (operands : List COperand) (ns : List ℤ) →
      AreOperands args operands → HoldArgs next world atoms operands ns → Counts args ns
  counted no_exprs next world [] [] [] is holds = tt
  counted no_exprs next world [] [] (n ∷ ns) is holds = absurd holds
  counted no_exprs next world (atom ∷ atoms) [] ns is holds = absurd holds
  counted no_exprs next world atoms (operand ∷ operands) ns is holds = absurd is
  counted (more_exprs first others) next world atoms [] ns is holds = absurd is
  counted (more_exprs first others) next world [] (operand ∷ operands) ns is holds = absurd holds
  counted (more_exprs first others) next world (atom ∷ atoms) (operand ∷ operands) [] is holds = absurd holds
  counted (more_exprs first others) next world (atom ∷ atoms) (operand ∷ operands) (n ∷ ns) is holds =
      counted others next world atoms operands ns is.1 holds.3

  -- arguments are accepted where they are those of the function's type
  listed_accepts : (types : CTys) (variadic : Bool) (args : CExprs) (ns : List ℤ) → AreArguments types variadic args → Counts args ns →
      accepts (map (λ type. i32) (types_in types)) variadic (all_typed ns) ≡ true
  listed_accepts types variadic no_exprs [] are counts = none_accepts types variadic are
  listed_accepts types variadic no_exprs (n ∷ ns) are counts = absurd counts
  listed_accepts types variadic (more_exprs first others) [] are counts = absurd counts
  listed_accepts no_types variadic (more_exprs first others) (n ∷ ns) are counts = are.0
  listed_accepts (more_types type types) variadic (more_exprs first others) (n ∷ ns) are counts = listed_accepts types variadic others ns are.1 counts

  pub args_accepted : (params : CParams) (variadic : Bool) (args : CExprs) (ns : List ℤ) → AreArgumentsOf params variadic args → Counts args ns →
      accepts (param_types params) variadic (all_typed ns) ≡ true
  args_accepted unlisted variadic no_exprs [] are counts = refl
  args_accepted unlisted variadic no_exprs (n ∷ ns) are counts = absurd counts
  args_accepted unlisted variadic (more_exprs first others) ns are counts = absurd (cc)
  args_accepted (listed types) variadic args ns are counts = listed_accepts types variadic args ns are counts

  -- ---- the call of an external function

  -- the world behind one
  abbrev pub called_world : COuter → List ℤ → World → World
  called_world one ns world = record world {
    events = world.events ++ record { name = one.name; args = int_args ns } ∷ [];
    answers = others world.answers;
  }

  -- a call takes a unit, makes the event, and gives an answer by the result type
  call_runs : (callee : ℕ) (one : COuter) (other : OuterTree) (result : Option Ty) (ns : List ℤ) (world : World) →
      callee_at frame.whole names.home (names.functions callee) ≡ Some (outer other) → symbol_of other ≡ one.name → other.result ≡ result →
      accepts other.params other.variadic (all_typed ns) ≡ true → (units : ℕ) →
      call_at frame.whole frame.bodies names.home (names.functions callee) (all_typed ns) world units
      ≡ tick world (λ left. came (answered result (first_answer world.answers)) (called_world one ns world) left) units
  call_runs callee one other result ns world found symbol gives accepted units =
      ap (λ (f : Option Callee). call_found frame.bodies (all_typed ns) f world units) found
      ∙ (ap (λ (test : Bool). (if test then takes_unit (outer_call other (all_typed ns)) else fails WrongCall) world units) accepted
      ∙ (ap (λ (name : List ℕ). tick world (λ left. came (answered other.result (first_answer world.answers))
      (record world { events = world.events ++ record { name = name; args = map arg_of (all_typed ns) } ∷ []; answers = others world.answers }) left) units) symbol
      ∙ (ap (λ (args : List Arg). tick world (λ left. came (answered other.result (first_answer world.answers))
      (record world { events = world.events ++ record { name = one.name; args = args } ∷ []; answers = others world.answers }) left) units) (args_seen ns)
      ∙ ap (λ (r : Option Ty). tick world (λ left. came (answered r (first_answer world.answers)) (called_world one ns world) left) units) gives)))

  -- the C call that is no fault
  pub record Called (one : COuter) (type : CTy) (ns : List ℤ) (c_world : CWorld) (step : Done) : Type 0 where
    pub world_is : step.world ≡ after_call one (int_args ns) c_world
    pub given : step.operand.value ≡ c_answered (form_of_type type) (first_answer c_world.answers)

  called_is : (callee : ℕ) (one : COuter) (type : CTy) (next : ℕ) (world : World) (atoms : List (Option Atom)) (operands : List COperand) (ns : List ℤ) (c_world : CWorld) (marks : Marks) →
      outer_with callee program.externals ≡ Some one → HoldArgs next world atoms operands ns →
      called type operands marks c_world (outer_with callee program.externals)
      ≡ Ok (done type (c_answered (form_of_type type) (first_answer c_world.answers)) (at_sequence_point marks) (after_call one (int_args ns) c_world))
  called_is callee one type next world atoms operands ns c_world marks found holds =
      rw (found, args_given next world atoms operands ns holds) refl

  call_ok : (callee : ℕ) (one : COuter) (type : CTy) (next : ℕ) (world : World) (atoms : List (Option Atom)) (operands : List COperand) (ns : List ℤ) (c_world : CWorld) (step : Done) →
      outer_with callee program.externals ≡ Some one → HoldArgs next world atoms operands ns → call_step program callee type operands c_world ≡ Ok step → Called one type ns c_world step
  call_ok callee one type next world atoms operands ns c_world step found holds e =
      let marks = and_then_ok (united (map (λ operand. operand.marks) operands)) _ step e in
      let end : done type (c_answered (form_of_type type) (first_answer c_world.answers)) (at_sequence_point marks.0) (after_call one (int_args ns) c_world) ≡ step =
      ok_equal _ _ (sym (called_is callee one type next world atoms operands ns c_world marks.0 found holds) ∙ marks.2) in
      record {
        world_is = ap (λ (d : Done). d.world) (sym end);
        given = ap (λ (d : Done). d.operand.value) (sym end);
      }

  -- a step of the program and a unit of the crate together
  both_owe : (from next : ℕ) (atom : Option Atom) (type : CTy) (before world : World) (place : Origin) (c_world : CWorld) (outcome : Result Done URule) (target rest : ℕ → Ran Cause World Flow) (n m : ℕ) →
      c_world.events ≡ world.events → ((units : ℕ) → target units ≡ tick world rest units) →
      ((one : Done) → outcome ≡ Ok one → Arrives from next atom type before one.operand one.world rest) →
      Owes events_of events_in (Meets images frame limit from next atom type before) n m (c_node place c_world outcome) target
  both_owe from next atom type before world place c_world outcome target rest n m same runs arrives =
      renamed events_of events_in (Meets images frame limit from next atom type before) n m (c_node place c_world outcome) (c_node place c_world outcome) (tick world rest) target
      (λ k. refl) (λ k. sym (runs k))
      (below events_of events_in (Meets images frame limit from next atom type before) (suc n) (suc m) n m (c_node place c_world outcome) (tick world rest) (omega arith) (omega arith)
      (tick_both events_of events_in (Meets images frame limit from next atom type before) n m c_world world (λ left. from_done place c_world left outcome) rest same
      (done_owes from next atom type before place c_world outcome rest n m arrives)))

  -- what the two worlds are behind a call
  agree_called : (one : COuter) (ns : List ℤ) (c_world : CWorld) (world : World) → WorldsAgree images c_world world → WorldsAgree images (after_call one (int_args ns) c_world) (called_world one ns world)
  agree_called one ns c_world world agrees = record {
    memories = agrees.memories;
    events = ap (λ (events : Events). events ++ record { name = one.name; args = int_args ns } ∷ []) agrees.events;
    answers = ap (λ (answers : Outside). others answers) agrees.answers;
  }

  -- the number of an answer
  abbrev pub answer_in : World → ℤ
  answer_in world = converted int_scalar (first_answer world.answers)

  abbrev pub call_expr : ℕ → List (Option Atom) → Expr
  call_expr callee atoms = call names.home (names.functions callee) (exprs (operand_exprs names atoms))

  -- a call is a unit, and then its answer
  call_expr_runs : (callee : ℕ) (one : COuter) (other : OuterTree) (next : ℕ) (world : World) (atoms : List (Option Atom)) (operands : List COperand) (ns : List ℤ) →
      next ≤ limit → HoldArgs next world atoms operands ns →
      callee_at frame.whole names.home (names.functions callee) ≡ Some (outer other) → symbol_of other ≡ one.name → other.result ≡ Some i32 →
      accepts other.params other.variadic (all_typed ns) ≡ true → (units : ℕ) →
      run_expr frame (call_expr callee atoms) world units ≡ tick world (came (typed (answer_in world)) (called_world one ns world)) units
  call_expr_runs callee one other next world atoms operands ns within holds found symbol gives accepted units =
      ap (λ (r : Ran Cause World (List Typed)). bind r (λ values. seq (call_at frame.whole frame.bodies names.home (names.functions callee) values) the_value)) (args_run next world atoms operands ns within holds units)
      ∙ (ap (λ (r : Ran Cause World (Option Typed)). bind r the_value) (call_runs callee one other (Some i32) ns world found symbol gives accepted units)
      ∙ bind_tick world (λ left. came (answered (Some i32) (first_answer world.answers)) (called_world one ns world) left) the_value units)

  tick_same : (world : World) (first second : ℕ → Ran Cause World Flow) → ((left : ℕ) → first left ≡ second left) → (units : ℕ) → tick world first units ≡ tick world second units
  tick_same world first second same zero = refl
  tick_same world first second same (suc left) = same left

  store_result : ℕ → Typed → Run Flow
  store_result next one = seq (store (spot_of frame (temporary_place names next)) one) (λ _. pure normal)

  int_call_runs : (callee : ℕ) (next : ℕ) (world after : World) (atoms : List (Option Atom)) (n : ℤ) (stored : StoredIn next n after) →
      ((units : ℕ) → run_expr frame (call_expr callee atoms) world units ≡ tick world (came (typed n) after) units) →
      (units : ℕ) → run_list frame (to_temporary next (call_expr callee atoms)) world units ≡ tick world (came normal stored.after) units
  unfolding store_result
  int_call_runs callee next world after atoms n stored gives units =
      ap (λ (r : Ran Cause World Typed). bind (bind r (store_result next)) (then_on (pure normal))) (gives units)
      ∙ (ap (λ (r : Ran Cause World Flow). bind r (then_on (pure normal))) (bind_tick world (came (typed n) after) (store_result next) units)
      ∙ (bind_tick world (λ left. bind (came (typed n) after left) (store_result next)) (then_on (pure normal)) units
      ∙ tick_same world (λ left. bind (bind (came (typed n) after left) (store_result next)) (then_on (pure normal))) (came normal stored.after)
      (λ left. ap (λ (r : Ran Cause World (Unit {0})). bind (bind r (λ _. pure normal)) (then_on (pure normal))) (stored.runs left)) units))

  dropped_runs : (callee : ℕ) (one : COuter) (other : OuterTree) (next : ℕ) (world : World) (atoms : List (Option Atom)) (operands : List COperand) (ns : List ℤ) →
      next ≤ limit → HoldArgs next world atoms operands ns →
      callee_at frame.whole names.home (names.functions callee) ≡ Some (outer other) → symbol_of other ≡ one.name → other.result ≡ None →
      accepts other.params other.variadic (all_typed ns) ≡ true → (units : ℕ) →
      run_list frame (eval (call_expr callee atoms) ∷ []) world units ≡ tick world (came normal (called_world one ns world)) units
  dropped_runs callee one other next world atoms operands ns within holds found symbol gives accepted units =
      ap (λ (r : Ran Cause World (List Typed)). bind (bind r (λ values. seq (call_at frame.whole frame.bodies names.home (names.functions callee) values) (λ _. pure normal))) (then_on (pure normal))) (args_run next world atoms operands ns within holds units)
      ∙ (ap (λ (r : Ran Cause World (Option Typed)). bind (bind r (λ _. pure normal)) (then_on (pure normal))) (call_runs callee one other None ns world found symbol gives accepted units)
      ∙ (ap (λ (r : Ran Cause World Flow). bind r (then_on (pure normal))) (bind_tick world (λ left. came (answered None (first_answer world.answers)) (called_world one ns world) left) (λ _. pure normal) units)
      ∙ bind_tick world (λ left. bind (came (answered None (first_answer world.answers)) (called_world one ns world) left) (λ _. pure normal)) (then_on (pure normal)) units))

  -- a call by the form of its result, behind its arguments
  abbrev pub call_of : CTyForm → ℕ → List (Option Atom) → ℕ → Lifted
  call_of form callee atoms next = lifted_call names form callee (record { stmts = []; values = atoms; next = next })

  pub form_owes : (callee : ℕ) (one : COuter) (other : OuterTree) (form : CTyForm) (from next : ℕ) (before world : World) (atoms : List (Option Atom)) (operands : List COperand) (ns : List ℤ) (place : Origin) (c_world : CWorld) (n m : ℕ) →
      IsOpaqueResult form → outer_with callee program.externals ≡ Some one → Outcome (ty form false) (call_step program callee (ty form false) operands c_world) →
      WorldsAgree images c_world world → HasTemporaries frame limit world → Keeps images frame from before world → from ≤ next → (call_of form callee atoms next).next ≤ limit →
      HoldArgs next world atoms operands ns →
      callee_at frame.whole names.home (names.functions callee) ≡ Some (outer other) → symbol_of other ≡ one.name → other.result ≡ result_type form →
      accepts other.params other.variadic (all_typed ns) ≡ true →
      Owes events_of events_in (Meets images frame limit from (call_of form callee atoms next).next (call_of form callee atoms next).value (ty form false) before) n m
      (c_node place c_world (call_step program callee (ty form false) operands c_world)) (run_list frame (call_of form callee atoms next).stmts world)
  form_owes callee one other int from next before world atoms operands ns place c_world n m opaque outer_is sound agrees has keeps less within holds found symbol gives accepted =
      let after = called_world one ns world in
      let stored = stored_in next (answer_in world) after has (omega (arith, within)) (wrapped_in_range (first_answer world.answers)) in
      both_owe from (suc next) (Some (Temporary next)) (ty int false) before world place c_world (call_step program callee (ty int false) operands c_world) (run_list frame (to_temporary next (call_expr callee atoms)) world) (came normal stored.after) n m
      agrees.events
      (int_call_runs callee next world after atoms (answer_in world) stored (call_expr_runs callee one other next world atoms operands ns (omega (arith, within)) holds found symbol gives accepted))
      (λ step e.
      let result = call_ok callee one (ty int false) next world atoms operands ns c_world step outer_is holds e in
      record {
        world = stored.after;
        flow = normal;
        comes = λ units. refl;
        meets = meets_stored from next (answer_in world) (ty int false) before after step.world step.operand stored
            (subst (λ (w : CWorld). WorldsAgree images w after) (sym result.world_is) (agree_called one ns c_world world agrees)) keeps less
            (outcome_ok (ty int false) (call_step program callee (ty int false) operands c_world) step sound e)
            (result.given ∙ ap (λ (answers : Outside). scalar (Number (converted int_scalar (first_answer answers)))) agrees.answers);
      })
  form_owes callee one other void from next before world atoms operands ns place c_world n m opaque outer_is sound agrees has keeps less within holds found symbol gives accepted =
      let after = called_world one ns world in
      both_owe from next None (ty void false) before world place c_world (call_step program callee (ty void false) operands c_world) (run_list frame (eval (call_expr callee atoms) ∷ []) world) (came normal after) n m
      agrees.events
      (dropped_runs callee one other next world atoms operands ns (omega (arith, within)) holds found symbol gives accepted)
      (λ step e.
      let result = call_ok callee one (ty void false) next world atoms operands ns c_world step outer_is holds e in
      record {
        world = after;
        flow = normal;
        comes = λ units. refl;
        meets = record {
          goes_on = refl;
          worlds = subst (λ (w : CWorld). WorldsAgree images w after) (sym result.world_is) (agree_called one ns c_world world agrees);
          temporaries = has;
          typed = outcome_ok (ty void false) (call_step program callee (ty void false) operands c_world) step sound e;
          gives = subst (λ (v : CValue). Gives frame next after None v) (sym result.given) tt;
          keeps = keeps;
        };
      })
  form_owes callee one other (function result params variadic) from next before world atoms operands ns place c_world n m opaque outer_is sound agrees has keeps less within holds found symbol gives accepted = absurd opaque
