-- Conditions, and operands of `switch`.
use Rattle.std.proofs.Common.{◌≡◌, ◌∙◌, inl, inr, ℕ, ℤ, Bool, true, false, List, [], ◌∷◌, ◌++◌, map, Ok, refl, ap, subst, arith}
use Rattle.cr_runs.specs.Runs.{came, bind}
use Rattle.cr_runs.proofs.Rules.{weaker}
use Rattle.cr_world.specs.World.{World, blocks_of, events_of}
use Rattle.cx_core.specs.Trees.{CExpr, type_of}
use Rattle.cx_core.specs.Typing.{CHome}
use Rattle.cx_mean.specs.Marks.{Range}
use Rattle.cx_mean.specs.Nodes.{truth_of_value}
use Rattle.cx_mean.specs.Operands.{CValue, scalar, cells, names, designates, designates_bits, missing, COperand, Slot, Frame as CFrame, scalar_value}
use Rattle.cx_mean.specs.Values.{number_in, is_true}
use Rattle.cx_typed_work.proofs.Memories.{shapes_stay}
use Rattle.cx_typed_work.specs.ExternalCalls.{KeepsObjects}
use Rattle.cx_typed_work.specs.Operands.{IsScalarIn, IsGivenBy}
use Rattle.build_flow_lives.specs.Standing.{Calling, own_slots, Standing, stage_of}
use Rattle.build_flow_moves.specs.Parts.{Stage, TestsAs, Tested, TestDone, GivesNumber, Chosen, ChoiceDone}
use Rattle.build_flow_nodes.specs.Parts.{condition, operand_of}
use Rattle.lift_does.specs.Gives.{GivesOperand}
use Rattle.lift_does.specs.Later.{IsSameAt, AllOf, Lasts}
use Rattle.lift_exprs.specs.Lifted.{lifted, operand_of as operand_given}
use Rattle.lift_exprs.specs.Names.{type_in}
use Rattle.lift_forms_laws.proofs.Constants.{kinds}
use Rattle.lift_forms_laws.proofs.Operands.{value_gives, test_gives}
use Rattle.lift_forms_laws.specs.Gives.{GivesAt, GivenStands, IsOf, truth_number}
use Rattle.lift_forms.specs.Given.{Given}
use Rattle.lift_held.specs.Held.{is_void, operand, is_steady}
use Rattle.lift_stands.proofs.Images.{extends_same}
use Rattle.lift_stands.specs.Stands.{Images, ValueBelow, StandsFor}
use Rattle.lift_stands.specs.Worlds.{WorldsStand}
use Rattle.mem_bytes.specs.declared.value.Value.{Value}
use Rattle.mem_bytes.specs.declared.value.Value.TheVariants.{Whole, Null, Object, Code as Function}
use Rattle.mem_bytes.specs.Memory.{Blocks}
use Rattle.rs_mean.specs.Run.{Flow, normal, run_expr, tests}
use Rattle.rs_mean.specs.World.{pure, seq}
use Rattle.rs_text.specs.Tree.{Boolean, Expr}
use Rattle.build_flow_parts.specs.Bodies.{ValueMeans}
use Rattle.build_flow_parts.specs.Means.{home_in, PartsMean}
use Rattle.build_flow_parts.proofs.Values.{Evaluated, operand_asked, stands_after, evaluates}

-- ---- nothing happens between a pair of worlds and itself

objects_still : (world : World) → KeepsObjects world.held world.held
objects_still world = record { grows = omega arith; lives = λ number less e. (shapes_stay (blocks_of world)).each number; not_allocated = λ number less e. e }

all_still : (blocks : Blocks) (reads : List Range) → AllOf (IsSameAt blocks blocks) reads
all_still blocks [] = tt
all_still blocks (range ∷ reads) = (
  record { cells = λ at count e. refl; values = λ at kind e. refl; records = λ at size align e. refl; fields = λ at bit width is e. refl },
  all_still blocks reads,
)

pub still : (fixed : Bool) (reads : List Range) (world : World) → Lasts fixed reads world world
still true reads world = objects_still world
still false reads world = (objects_still world, record { each = all_still (blocks_of world) reads; shapes = shapes_stay (blocks_of world) })

-- ---- values of C

-- a value that is a scalar
record IsScalarValue (value : CValue) (of_c : Value) : Type 0 where
  is : value ≡ scalar of_c

pub scalar_is : (value : CValue) (of_c : Value) → scalar_value value ≡ Ok of_c → value ≡ scalar of_c
scalar_is (scalar own) of_c is = let same : own ≡ of_c = cc in ap scalar same
scalar_is missing of_c is = absurd cc
scalar_is (cells held from) of_c is = absurd cc
scalar_is (names number) of_c is = absurd cc
scalar_is (designates to) of_c is = absurd cc
scalar_is (designates_bits at bit width) of_c is = absurd cc

-- a condition that has a truth is of a scalar
record HasTruth (blocks : Blocks) (value : CValue) (holds : Bool) : Type 0 where
  of_c : Value
  is : value ≡ scalar of_c
  truth : is_true blocks of_c ≡ Ok holds

truth_is : (blocks : Blocks) (value : CValue) (holds : Bool) → truth_of_value blocks value ≡ Ok holds → HasTruth blocks value holds
truth_is blocks (scalar own) holds is = record { of_c = own; is = refl; truth = is }
truth_is blocks missing holds is = absurd cc
truth_is blocks (cells held from) holds is = absurd cc
truth_is blocks (names number) holds is = absurd cc
truth_is blocks (designates to) holds is = absurd cc
truth_is blocks (designates_bits at bit width) holds is = absurd cc

typed_scalar : (home : CHome) (e : CExpr) (of_c : Value) → IsGivenBy home e (scalar of_c) → IsScalarIn home.program (type_of e) of_c
typed_scalar home e of_c (inl place) = elim place.1 [ ]
typed_scalar home e of_c (inr (typed, inl is)) = is
typed_scalar home e of_c (inr (typed, inr none)) = elim none.1 [ ]

whole_below : (images : Images) (number : ℤ) (other : Value) → ValueBelow images (Whole number) other → other ≡ Whole number
whole_below images number other (ValueBelow.same_number own) = refl

number_is : (value : Value) (number : ℤ) → number_in value ≡ Ok number → value ≡ Whole number
number_is (Whole own) number is = let same : own ≡ number = cc in ap Whole same
number_is Null number is = absurd cc
number_is (Object at) number is = absurd cc
number_is (Function own) number is = absurd cc

module _ (a : Calling) (units steps : ℕ) (mean : PartsMean a.s a.names a.of units steps) (started : WorldsStand a.images a.c_before a.before) (params_are : map (λ (slot : Slot). slot.object) a.params ≡ a.one.params) where
  abbrev stage : Stage
  stage = stage_of a units steps

  abbrev home : List ℕ → CHome
  home scope = home_in a.s a.one (scope ++ a.one.params)

  module _ (e : CExpr) (number : ℕ) (scope : List ℕ) (slots : CFrame) (c_world world : World) (here : Standing a slots c_world world) (given : COperand) (c_end : World) (flow : Flow) (end : World)
      (is : Evaluated a units steps mean started params_are operand e number scope slots c_world world here given c_end flow end) where
    abbrev written : Given
    written = (lifted a.of.names operand e number).given

    abbrev pub standing : Standing a slots c_end end
    standing = stands_after a units steps mean started params_are operand e number scope slots c_world world here given c_end flow end is

    -- what is given stands for the operand at once
    pub gives_here : GivesOperand a.s a.of.names is.did.later (own_slots a slots) a.frame end e written given.value
    gives_here =
        is.did.gives is.did.later c_end end (record {
          extends = extends_same is.did.later;
          here = record { program = standing.inside.program; worlds = is.did.worlds; frames = standing.inside.frames; typed = is.typed.at };
          temporaries = λ one kept local less kept_is it. refl;
          lasts = still (is_steady e) given.marks.reads c_end;
        })

    pub gives_scalar : (of_c : Value) → given.value ≡ scalar of_c → GivenStands is.did.later a.frame end (type_in a.of.names (type_of e)) written of_c
    gives_scalar of_c value_is =
        let gives : GivesOperand a.s a.of.names is.did.later (own_slots a slots) a.frame end e written (scalar of_c) =
        subst (λ (value : CValue). GivesOperand a.s a.of.names is.did.later (own_slots a slots) a.frame end e written value) value_is gives_here in
        gives.stands

    -- and it is of its type
    is_of_type : (of_c : Value) → given.value ≡ scalar of_c → IsOf (type_in a.of.names (type_of e)) of_c
    is_of_type of_c value_is =
        let typed = typed_scalar (home scope) e of_c (subst (λ (value : CValue). IsGivenBy (home scope) e value) value_is is.typed.operand_is.given) in
        kinds (type_in a.of.names (type_of e)) typed.kind of_c ((mean.means (home scope) refl).scalars (type_of e) typed.kind typed.kind_is) typed.of_kind

    memories : StandsFor is.did.later (blocks_of c_end) (blocks_of end)
    memories = is.did.worlds.held.memories

    test_runs : (test : Expr) (holds : Bool) → GivesAt a.frame end test Boolean (truth_number holds) → (k : ℕ) → seq (run_expr a.frame test) tests end k ≡ came holds end k
    unfolding seq pure
    test_runs test true gives k = ap (λ r. bind r tests) (gives.runs k)
    test_runs test false gives k = ap (λ r. bind r tests) (gives.runs k)

    pub tests_so : (holds : Bool) → truth_of_value (blocks_of c_end) given.value ≡ Ok holds → TestsAs stage (condition a.of e number).test end holds
    tests_so holds truth =
        let it = truth_is (blocks_of c_end) given.value holds truth in
        record {
          runs =
              test_runs (condition a.of e number).test holds
              (test_gives is.did.later a.frame end (blocks_of c_end) memories (operand_given a.of.names e written) it.of_c holds (gives_scalar it.of_c it.is) (is_of_type it.of_c it.is) it.truth);
        }

    pub gives_so : (value : Value) (chosen : ℤ) → scalar_value given.value ≡ Ok value → number_in value ≡ Ok chosen → GivesNumber stage (operand_of a.of e number).value end chosen
    gives_so value chosen found is_number =
        let whole : given.value ≡ scalar (Whole chosen) = scalar_is given.value value found ∙ ap scalar (number_is value chosen is_number) in
        let below = value_gives is.did.later a.frame end (operand_given a.of.names e written) (Whole chosen) (gives_scalar (Whole chosen) whole) in
        record { typed = _; runs = below.gives.runs; is = whole_below is.did.later chosen below.other below.below }

  -- ---- parts of bodies

  pub test_done : (scope : List ℕ) (e : CExpr) (number : ℕ) → ValueMeans a units steps operand scope e number → is_void (type_of e) ≡ false → TestDone stage scope e number
  test_done scope e number value_means some slots c_world world n m few little known_are here =
      weaker events_of events_of (Evaluated a units steps mean started params_are operand e number scope slots c_world world here)
      (λ given c_end flow end. (flow ≡ normal) × Tested stage slots (condition a.of e number).test given c_end end)
      (λ given c_end flow end is. (
        is.did.flow_is,
        record { here = standing e number scope slots c_world world here given c_end flow end is; tests = tests_so e number scope slots c_world world here given c_end flow end is },
      )) n m _ _
      (evaluates a units steps mean started params_are operand e number scope (operand_asked e some) value_means slots c_world world n m few little known_are here)

  pub choice_done : (scope : List ℕ) (e : CExpr) (number : ℕ) → ValueMeans a units steps operand scope e number → is_void (type_of e) ≡ false → ChoiceDone stage scope e number
  choice_done scope e number value_means some slots c_world world n m few little known_are here =
      weaker events_of events_of (Evaluated a units steps mean started params_are operand e number scope slots c_world world here)
      (λ given c_end flow end. (flow ≡ normal) × Chosen stage slots (operand_of a.of e number).value given c_end end)
      (λ given c_end flow end is. (
        is.did.flow_is,
        record { here = standing e number scope slots c_world world here given c_end flow end is; gives = gives_so e number scope slots c_world world here given c_end flow end is },
      )) n m _ _
      (evaluates a units steps mean started params_are operand e number scope (operand_asked e some) value_means slots c_world world n m few little known_are here)
