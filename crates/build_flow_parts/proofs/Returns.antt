-- Returns of functions that give a scalar or nothing, and the ends of bodies.
use Rattle.std.proofs.Common.{arith, ◌≡◌, ◌∙◌, inl, inr, ℕ, pred, pos, Bool, true, false, not, ◌||◌, List, [], ◌++◌, map, length, Option, Some, None, Result, Ok, Err, if◌then◌else◌, refl, sym, ap, subst}
use Rattle.std.proofs.lemmas.Int.{ints}
use Rattle.cr_base.specs.declared.layout.Laid.{Laid}
use Rattle.cr_base.specs.declared.refusal.Place.{Place}
use Rattle.cr_base.specs.declared.scalar.Scalar.{Scalar}
use Rattle.cr_base.specs.declared.scalar.Scalar.TheVariants as scalars
use Rattle.cr_runs.specs.Owes.{Owes}
use Rattle.cr_runs.specs.Runs.{came, bind}
use Rattle.cr_runs.proofs.Rules.{values, no_meaning, pieces, renamed, bind_came}
use Rattle.cr_runs_rules.proofs.Rules.{alone}
use Rattle.cr_world.specs.World.{World, Stop, blocks_of, events_of}
use Rattle.cx_core.specs.Linked.{is_main}
use Rattle.cx_core.specs.Trees.{CTy, ty, void, basic, enum_type, pointer, array, record_type, function, CExpr, type_of, CProgram}
use Rattle.cx_core.specs.Typing.{CHome}
use Rattle.cx_mean.specs.Leftmost.{one_step, or_bad}
use Rattle.cx_mean.specs.Operands.{CWhy, CStop, stops, CValue, scalar, cells, names, designates, designates_bits, missing, COperand, Slot, Frame as CFrame}
use Rattle.cx_mean.specs.State.{given_back, value_given, value_at_end, bottom_of}
use Rattle.cx_typed_work.specs.Operands.{IsRecordOf, IsScalarIn, IsGivenBy}
use Rattle.build_flow_lives.proofs.Dying.{has_returned, same_events}
use Rattle.build_flow_lives.specs.Standing.{Calling, Standing, stage_of}
use Rattle.build_flow_moves.specs.Parts.{Stage, value_in, return_piece, PieceOwes, GivenBack, ReturnDone, NothingGiven}
use Rattle.build_flow_moves.specs.Runs.{run_given}
use Rattle.build_flow_nodes.specs.Parts.{Return, gives_record, gives_value, given_in, given}
use Rattle.lift_calls.specs.Bodies.{ResultAgrees}
use Rattle.lift_calls.specs.Calls.{result_laid, type_in as type_of_given, IsOfItsType, GivesBack}
use Rattle.lift_exprs.specs.Lifted.{lifted, operand_of as operand_given}
use Rattle.lift_exprs.specs.Names.{type_in}
use Rattle.lift_exprs.specs.Written.{Written}
use Rattle.lift_forms.specs.Operators.{given_value, zero_of}
use Rattle.lift_forms_laws.proofs.Constants.{zeros}
use Rattle.lift_forms_laws.proofs.Operands.{value_gives}
use Rattle.lift_held.specs.Held.{is_void, is_record, operand, full, part_of}
use Rattle.lift_held.specs.declared.asked.Asked.{Asked}
use Rattle.lift_stands.specs.Stands.{Images, ValueBelow}
use Rattle.lift_stands.specs.Worlds.{WorldsStand}
use Rattle.lift_stands_values.proofs.Ranges.{given_in_range}
use Rattle.lift_stands_values.specs.Given.{align_or}
use Rattle.mem_bytes.specs.Coding.{IsValueOf}
use Rattle.mem_bytes.specs.declared.cell.Cell.{Cell}
use Rattle.mem_bytes.specs.declared.value.Ptr.{Ptr}
use Rattle.mem_bytes.specs.declared.value.Value.{Value}
use Rattle.mem_bytes.specs.declared.value.Value.TheVariants.{Whole, Null}
use Rattle.mem_bytes.specs.Memory.{Blocks}
use Rattle.rs_mean.specs.declared.cause.Cause.{Cause}
use Rattle.rs_mean.specs.Run.{Frame, Flow, normal, returned, run_expr, run_stmts, given_by}
use Rattle.rs_mean.specs.Scalars.{scalar_of, integer_scalar, is_scalar}
use Rattle.rs_mean.specs.Typing.{is_bits}
use Rattle.rs_mean.specs.Values.{Typed, typed}
use Rattle.rs_mean.specs.World.{pure, seq}
use Rattle.rs_text.specs.Tree.{Ty, Void, Array, Record, Integer, Boolean, Pointer, Code, stmts}
use Rattle.rs_text.specs.declared.integer.IntegerTy.{IntegerTy}
use Rattle.rs_text.specs.declared.integer.IntegerTy.TheVariants.{I8, I16, I32, I64, U8, U16, U32, U64, Isize, Usize}
use Rattle.build_flow_parts.specs.Bodies.{ValueMeans, EndsAreDone}
use Rattle.build_flow_parts.specs.Means.{home_in, PartsMean}
use Rattle.build_flow_parts.proofs.Conditions.{gives_scalar, standing}
use Rattle.build_flow_parts.proofs.Values.{Evaluated, operand_asked, evaluates}

-- ---- values that are given back

no_record : (program : CProgram) (type : CTy) (held : List Cell) → IsRecordOf program type held → is_record type ≡ false → ⊥
no_record program (ty (record_type number) is_const) held is plain = absurd cc
no_record program (ty void is_const) held is plain = elim is.is_record [ ]
no_record program (ty (basic which) is_const) held is plain = elim is.is_record [ ]
no_record program (ty (enum_type number) is_const) held is plain = elim is.is_record [ ]
no_record program (ty (pointer to) is_const) held is plain = elim is.is_record [ ]
no_record program (ty (array element length) is_const) held is plain = elim is.is_record [ ]
no_record program (ty (function result params variadic) is_const) held is plain = elim is.is_record [ ]

-- what is given back of a type that is no structure or union is a scalar
record IsScalarGiven (value given_value_is : CValue) : Type 0 where
  of_c : Value
  was : value ≡ scalar of_c
  is : given_value_is ≡ scalar of_c

scalar_given : (home : CHome) (e : CExpr) → is_record (type_of e) ≡ false → (value result : CValue) → value_given value ≡ Ok result → IsGivenBy home e value → IsScalarGiven value result
scalar_given home e plain (scalar of_c) result is typed_so = let same : scalar of_c ≡ result = cc in record { of_c = of_c; was = refl; is = sym same }
scalar_given home e plain (cells held from) result is (inl place) = elim place.1 [ ]
scalar_given home e plain (cells held from) result is (inr (typed_so, inl records)) = absurd (no_record home.program (type_of e) held records plain)
scalar_given home e plain (cells held from) result is (inr (typed_so, inr none)) = elim none.1 [ ]
scalar_given home e plain missing result is typed_so = absurd cc
scalar_given home e plain (names number) result is typed_so = absurd cc
scalar_given home e plain (designates to) result is typed_so = absurd cc
scalar_given home e plain (designates_bits at bit width) result is typed_so = absurd cc

typed_back : (result : Option Ty) (value : Typed) → type_of_given (given_by result (returned (Some value))) ≡ result
typed_back (Some type) value = refl
typed_back None value = refl

-- what is given by a function that gives nothing
pub nothing_of_type : (result : Option Ty) → result ≡ None → IsOfItsType (given_by result (returned None))
nothing_of_type result is = subst (λ (r : Option Ty). IsOfItsType (given_by r (returned None))) (sym is) tt

-- a value is one of the type that the function gives
value_of_type : (result : Option Ty) (type : Ty) (value : Typed) → result ≡ Some type → ((kind : Scalar) → scalar_of type ≡ Some kind → IsValueOf kind value.value) → IsOfItsType (given_by result (returned (Some value)))
value_of_type result type value is all = subst (λ (r : Option Ty). IsOfItsType (given_by r (returned (Some value)))) (sym is) all

zero_integer : (which : IntegerTy) → IsValueOf (integer_scalar which) (Whole (pos 0))
zero_integer I8 = (omega (arith, ints), omega (arith, ints))
zero_integer I16 = (omega (arith, ints), omega (arith, ints))
zero_integer I32 = (omega (arith, ints), omega (arith, ints))
zero_integer I64 = (omega (arith, ints), omega (arith, ints))
zero_integer U8 = (omega (arith, ints), omega (arith, ints))
zero_integer U16 = (omega (arith, ints), omega (arith, ints))
zero_integer U32 = (omega (arith, ints), omega (arith, ints))
zero_integer U64 = (omega (arith, ints), omega (arith, ints))
zero_integer Isize = (omega (arith, ints), omega (arith, ints))
zero_integer Usize = (omega (arith, ints), omega (arith, ints))

-- 0, `false` and a null pointer are values of each scalar type
zero_of_type : (type : Ty) (kind : Scalar) → scalar_of type ≡ Some kind → IsValueOf kind (if is_bits type then Whole (pos 0) else Null)
zero_of_type (Integer which) kind is = let same : integer_scalar which ≡ kind = cc in subst (λ (k : Scalar). IsValueOf k (Whole (pos 0))) same (zero_integer which)
zero_of_type Boolean kind is = let same : scalars.Truth ≡ kind = cc in subst (λ (k : Scalar). IsValueOf k (Whole (pos 0))) same (omega (arith, ints), omega (arith, ints))
zero_of_type (Pointer target) kind is = let same : scalars.Object ≡ kind = cc in subst (λ (k : Scalar). IsValueOf k Null) same tt
zero_of_type (Code params result) kind is = let same : scalars.Code ≡ kind = cc in subst (λ (k : Scalar). IsValueOf k Null) same tt
zero_of_type Void kind is = absurd cc
zero_of_type (Array element size) kind is = absurd cc
zero_of_type (Record m x) kind is = absurd cc

-- a scalar that an expression gives is one of its type in C
scalar_in : (home : CHome) (e : CExpr) (of_c : Value) → IsGivenBy home e (scalar of_c) → IsScalarIn home.program (type_of e) of_c
scalar_in home e of_c (inl place) = elim place.1 [ ]
scalar_in home e of_c (inr (typed_so, inl is)) = is
scalar_in home e of_c (inr (typed_so, inr none)) = elim none.1 [ ]

scalar_back : (images : Images) (others : Blocks) (align : ℕ) (place : Option Ptr) (result : Option Ty) (type : Ty) (of_c : Value) (value : Typed) → place ≡ None → result ≡ Some type → ValueBelow images of_c value.value →
    GivesBack images others align place (scalar of_c) (given_by result (returned (Some value)))
scalar_back images others align None (Some own) type of_c value no_place result_is below = below
scalar_back images others align None None type of_c value no_place result_is below = absurd cc
scalar_back images others align (Some at) result type of_c value no_place result_is below = absurd cc

nothing_back : (images : Images) (others : Blocks) (align : ℕ) (place : Option Ptr) (given : Option Typed) → GivesBack images others align place missing given
nothing_back images others align None None = tt
nothing_back images others align None (Some value) = tt
nothing_back images others align (Some at) None = tt
nothing_back images others align (Some at) (Some value) = tt

place_is_none : (base : ℕ) (images : Images) (world : World) (frame : Frame) (laid : Option Laid) (name : Option (List ℕ)) (place : Option Ptr) → laid ≡ None → ResultAgrees base images world frame laid name place → place ≡ None
place_is_none base images world frame None None None none agrees = refl
place_is_none base images world frame None None (Some at) none agrees = elim agrees [ ]
place_is_none base images world frame None (Some name) place none agrees = elim agrees [ ]
place_is_none base images world frame (Some laid) name place none agrees = absurd cc

module _ (a : Calling) (units steps : ℕ) (started : WorldsStand a.images a.c_before a.before) where
  abbrev stage_here : Stage
  stage_here = stage_of a units steps

  -- ---- nothing is given

  nothing_runs : (world : World) (k : ℕ) → run_given a.frame None world k ≡ came None world k
  unfolding pure
  nothing_runs world k = refl

  type_none : (result : Option Ty) → result ≡ None → type_of_given (given_by result (returned None)) ≡ result
  type_none None is = refl
  type_none (Some type) is = absurd cc

  pub nothing_given : (slots : CFrame) (c_world world : World) → a.tree.result ≡ None → Standing a slots c_world world → GivenBack stage_here slots None missing c_world world
  nothing_given slots c_world world no_result here = record {
    given = None;
    runs = nothing_runs world;
    back =
        has_returned a started slots c_world world here missing None (type_none a.tree.result no_result) (nothing_of_type a.tree.result no_result)
        (nothing_back here.later (blocks_of world) (align_or (result_laid a.s a.one)) a.place (given_by a.tree.result (returned None)));
  }

  pub nothing_done : (scope : List ℕ) → a.tree.result ≡ None → NothingGiven stage_here scope
  nothing_done scope no_result slots c_world world known_are here = nothing_given slots c_world world no_result here

  -- ---- the end of a body

  -- of a function that gives a scalar: `main` gives 0
  module _ (type : Ty) (result_is : a.tree.result ≡ Some type) (no_record_result : result_laid a.s a.one ≡ None) (scalars : is_scalar type ≡ true) (numbers : is_main a.one ≡ true → is_bits type ≡ true) where
    abbrev zero_value : Value
    zero_value = if is_bits type then Whole (pos 0) else Null

    zero_runs : (world : World) (k : ℕ) → run_given a.frame (Some (zero_of type)) world k ≡ came (Some (typed type zero_value)) world k
    unfolding seq pure
    zero_runs world k = ap (λ r. bind r (λ one. pure (Some one))) ((zeros a.frame world type scalars).runs k)

    main_gives : (is : Bool) → is_main a.one ≡ is → (c_world world : World) (here : Standing a [] c_world world) →
        GivesBack here.later (blocks_of world) (align_or (result_laid a.s a.one)) a.place (given_back (value_at_end is)) (given_by a.tree.result (returned (Some (typed type zero_value))))
    main_gives false is c_world world here =
        nothing_back here.later (blocks_of world) (align_or (result_laid a.s a.one)) a.place (given_by a.tree.result (returned (Some (typed type zero_value))))
    main_gives true is c_world world here =
        scalar_back here.later (blocks_of world) (align_or (result_laid a.s a.one)) a.place a.tree.result type (Whole (pos 0)) (typed type zero_value)
        (place_is_none (length (blocks_of a.before)) here.later world a.frame (result_laid a.s a.one) a.names.result a.place no_record_result here.inside.result) result_is
        (subst (λ (value : Value). ValueBelow here.later (Whole (pos 0)) value) (sym (ap (λ (bits : Bool). if bits then Whole (pos 0) else Null) (numbers is))) (ValueBelow.same_number (pos 0)))

    pub scalar_ends : (c_world world : World) → Standing a [] c_world world → GivenBack stage_here [] (Some (zero_of type)) (bottom_of a.one a.params).at_end c_world world
    scalar_ends c_world world here = record {
      given = Some (typed type zero_value);
      runs = zero_runs world;
      back =
          has_returned a started [] c_world world here (given_back (value_at_end (is_main a.one))) (Some (typed type zero_value)) (typed_back a.tree.result (typed type zero_value))
          (value_of_type a.tree.result type (typed type zero_value) result_is (zero_of_type type))
          (main_gives (is_main a.one) refl c_world world here);
    }

-- of a function that gives anything
pub end_done : EndsAreDone
end_done a units steps started result c_world world here = by (is_void a.of.result_type || is_record a.of.result_type) refl
  where
    by_main : (is : Bool) → is_main a.one ≡ is → is ≡ false → GivenBack (stage_of a units steps) [] None missing c_world world → GivenBack (stage_of a units steps) [] None (value_at_end is) c_world world
    by_main false is isnt nothing = nothing
    by_main true is isnt nothing = absurd cc

    by : (nothing : Bool) → (is_void a.of.result_type || is_record a.of.result_type) ≡ nothing →
        GivenBack (stage_of a units steps) [] (if nothing then None else Some (zero_of (type_in a.of.names a.of.result_type))) (bottom_of a.one a.params).at_end c_world world
    by true is = let none = result.nothing is in by_main (is_main a.one) refl none.no_main (nothing_given a units steps started [] c_world world none.result_is here)
    by false is =
        let one = result.scalar is in
        scalar_ends a units steps started (type_in a.of.names a.of.result_type) one.result_is one.no_place one.scalars one.number c_world world here

module _ (a : Calling) (units steps : ℕ) (mean : PartsMean a.s a.names a.of units steps) (started : WorldsStand a.images a.c_before a.before) (params_are : map (λ (slot : Slot). slot.object) a.params ≡ a.one.params) where
  abbrev stage : Stage
  stage = stage_of a units steps

  abbrev home : List ℕ → CHome
  home scope = home_in a.s a.one (scope ++ a.one.params)

  -- ---- a scalar is given

  module _ (e : CExpr) (number : ℕ) (scope : List ℕ) (plain : is_record (type_of e) ≡ false) (result_is : a.tree.result ≡ Some (type_in a.of.names (type_of e))) (no_record_result : result_laid a.s a.one ≡ None) where
    abbrev written : Written
    written = lifted a.of.names operand e number

    given_runs : (world : World) (value : Typed) → ((k : ℕ) → run_expr a.frame (given_value written.given) world k ≡ came value world k) → (k : ℕ) →
        run_given a.frame (Some (given_value written.given)) world k ≡ came (Some value) world k
    unfolding seq pure
    given_runs world value runs k = ap (λ r. bind r (λ one. pure (Some one))) (runs k)

    module _ (slots : CFrame) (c_world world : World) (here : Standing a slots c_world world) (operand_value : COperand) (c_end : World) (flow : Flow) (end : World)
        (is : Evaluated a units steps mean started params_are operand e number scope slots c_world world here operand_value c_end flow end) where
      scalar_there : (result : CValue) → IsScalarGiven operand_value.value result → GivenBack stage slots (Some (given_value written.given)) result c_end end
      scalar_there result it =
          let stands = standing a units steps mean started params_are e number scope slots c_world world here operand_value c_end flow end is in
          let below =
          value_gives is.did.later a.frame end (operand_given a.of.names e written.given) it.of_c
          (gives_scalar a units steps mean started params_are e number scope slots c_world world here operand_value c_end flow end is it.of_c it.was) in
          let value = typed (type_in a.of.names (type_of e)) below.other in
          let given_so = scalar_in (home scope) e it.of_c (subst (IsGivenBy (home scope) e) it.was is.typed.operand_is.given) in
          let kind_is : scalar_of (type_in a.of.names (type_of e)) ≡ Some given_so.kind = (mean.means (home scope) refl).scalars (type_of e) given_so.kind given_so.kind_is in
          let of_kind : (kind : Scalar) → scalar_of (type_in a.of.names (type_of e)) ≡ Some kind → IsValueOf kind below.other =
          λ kind other_is. let same : given_so.kind ≡ kind = cc in subst (λ (k : Scalar). IsValueOf k below.other) same (given_in_range is.did.later given_so.kind it.of_c below.other below.below given_so.of_kind) in
          subst (λ (one : CValue). GivenBack stage slots (Some (given_value written.given)) one c_end end) (sym it.is)
          (record {
            given = Some value;
            runs = given_runs end value below.gives.runs;
            back =
                has_returned a started slots c_end end stands (scalar it.of_c) (Some value) (typed_back a.tree.result value)
                (value_of_type a.tree.result (type_in a.of.names (type_of e)) value result_is of_kind)
                (scalar_back is.did.later (blocks_of end) (align_or (result_laid a.s a.one)) a.place a.tree.result (type_in a.of.names (type_of e)) it.of_c value
                (place_is_none (length (blocks_of a.before)) stands.later end a.frame (result_laid a.s a.one) a.names.result a.place no_record_result stands.inside.result) result_is below.below);
          })

      abbrev Good : CValue → World → Flow → World → Type 0
      Good value c_after ending after = (ending ≡ normal) × GivenBack stage slots (Some (given_value written.given)) value c_after after

      by_value : (n m : ℕ) (place : Place) (read : Result CValue CWhy) → value_given operand_value.value ≡ read →
          Owes {F = CStop} {G = Stop Cause} events_of events_of Good n m (λ k. or_bad place read came c_end k) (came flow end)
      by_value n m place (Ok result) read_is =
          values events_of events_of Good n m result c_end flow end
          (is.did.flow_is, scalar_there result (scalar_given (home scope) e plain operand_value.value result read_is is.typed.operand_is.given))
      by_value n m place (Err why) read_is = no_meaning events_of events_of Good n m (stops why place) c_end (came flow end)

      step_owed : (n m : ℕ) (place : Place) → Owes {F = CStop} {G = Stop Cause} events_of events_of Good n m (one_step place (value_given operand_value.value) came c_end) (came flow end)
      step_owed n m place =
          alone events_of events_of Good n m c_end (one_step place (value_given operand_value.value) came c_end) (λ k. or_bad place (value_given operand_value.value) came c_end k) (came flow end) (λ k. refl)
          (refl, sym (same_events a started slots c_end end (standing a units steps mean started params_are e number scope slots c_world world here operand_value c_end flow end is)))
          (by_value n (pred m) place (value_given operand_value.value) refl)

    abbrev scalar_return : Return
    scalar_return = gives_value written

    scalar_done : is_void (type_of e) ≡ false → ValueMeans a units steps operand scope e number → (place : Place) →
        PieceOwes stage scope (return_piece stage place e) scalar_return.body (λ slots value c_after after. GivenBack stage slots scalar_return.value value c_after after)
    scalar_done some value_means place slots c_world world n m few little known_are here =
        renamed events_of events_of (λ value c_after flow after. (flow ≡ normal) × GivenBack stage slots scalar_return.value value c_after after) n m (return_piece stage place e slots c_world)
        (return_piece stage place e slots c_world) (λ k. bind (run_stmts a.frame (stmts written.body) world k) (λ flow after left. came flow after left)) (run_stmts a.frame (stmts written.body) world) (λ k. refl)
        (λ k. bind_came (run_stmts a.frame (stmts written.body) world k))
        (pieces events_of events_of (Evaluated a units steps mean started params_are operand e number scope slots c_world world here)
        (λ value c_after flow after. (flow ≡ normal) × GivenBack stage slots scalar_return.value value c_after after) (value_in stage slots e c_world) (run_stmts a.frame (stmts written.body) world)
        (λ one. one_step place (value_given one.value) came) (λ flow after left. came flow after left) n m
        (evaluates a units steps mean started params_are operand e number scope (operand_asked e some) value_means slots c_world world n m few little known_are here) (λ flow after. (refl, refl))
        (λ one c_end flow end is. step_owed slots c_world world here one c_end flow end is n m place))

    asked_is : is_void (type_of e) ≡ false → full e ≡ operand
    asked_is some = ap (λ (none : Bool). part_of (not none)) some

    return_is : is_void (type_of e) ≡ false → given a.of (Some e) number ≡ scalar_return
    return_is some =
        ap (λ (asked : Asked). given_in a.of e (lifted a.of.names asked e number)) (asked_is some)
        ∙ return_as (is_record (type_of e)) plain
      where
        return_as : (records : Bool) → records ≡ false → (if records then gives_record a.of e written else gives_value written) ≡ scalar_return
        return_as false is = refl
        return_as true is = absurd cc

    pub return_done : is_void (type_of e) ≡ false → ValueMeans a units steps operand scope e number → ReturnDone stage scope e number
    return_done some value_means place =
        subst (λ (one : Return). PieceOwes stage scope (return_piece stage place e) one.body (λ slots value c_after after. GivenBack stage slots one.value value c_after after)) (sym (return_is some))
        (scalar_done some value_means place)
