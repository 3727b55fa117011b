-- What is done with the value of a typed full expression (ISO C99, 6.7.8, 6.8.3 to 6.8.6).
use Rattle.std.proofs.Common.{◌≡◌, inl, inr, refl, sym, ap, ◌∙◌, subst, ℕ, Bool, true, false, List, [], ◌∷◌, ◌++◌, Option, Some, None, IfSome, IsSome, All, Result, Ok, Err}
use Rattle.std.specs.List.{Contains}
use Rattle.cr_base.specs.declared.layout.Spot.{Spot}
use Rattle.cr_base.specs.declared.refusal.Place.{Place}
use Rattle.cr_base.specs.declared.rule.URule.TheVariants.{U14}
use Rattle.cr_world.specs.Held.{Held, with_blocks}
use Rattle.cr_world.specs.World.{World, blocks_of, with_memory, wrong}
use Rattle.cx_core.specs.Trees.{CTy, unqualified, CExpr, type_of, put, CPuts, no_puts, more_puts, CObject, CFun, CProgram}
use Rattle.cx_core.specs.Typing.{CHome, object_with, IsTyped, ArePuts, AreConstantPuts}
use Rattle.cx_core.specs.Linked.{IsLinked, home_of}
use Rattle.cx_mean.specs.Accesses.{CStored}
use Rattle.cx_mean.specs.Initialisers.{put_stored}
use Rattle.cx_mean.specs.Marks.{no_marks}
use Rattle.cx_mean.specs.Moves.{CMove, calls_main, CBehind, in_body, of_statics, CPutting, CPurpose, puts_it, drops_it, turns_on, gives_it, chooses_by, CStand, putting, slots_of_site}
use Rattle.cx_mean.specs.Operands.{CWhy, breaks, stuck, CValue, scalar, cells, names, designates, designates_bits, missing, COperand, with_marks, Frame, slot_of}
use Rattle.cx_mean.specs.Paths.{CSite}
use Rattle.cx_mean.specs.Settings.{setting_of, extent_in}
use Rattle.cx_mean.specs.State.{CState, statics_in, control_of, own_frame, frame_for, returning, after_store, after_give, after_choice, value_given, choice_at, use_step, at_stand}
use Rattle.mem_bytes.specs.Memory.{Blocks}
use Rattle.cx_typed_values.specs.Outcomes.{Comes}
use Rattle.cx_typed_work.proofs.Given.{value_given as given_value}
use Rattle.cx_typed_work.proofs.Puts.{IsLiteralAlive, slot_begins, put_comes}
use Rattle.cx_typed_work.proofs.Stores.{IsStoredOf}
use Rattle.cx_typed_work.specs.Calls.{IsReturned}
use Rattle.cx_typed_work.specs.Operands.{IsValueOfType, IsGiven, IsOperandOf}
use Rattle.cx_typed_work.specs.Scenes.{IsAlive, IsScene}
use Rattle.cx_typed_runs.proofs.CallsOutside.{around_of}
use Rattle.cx_typed_runs.proofs.Evaluating.{IsReady, scene_for, home_program, no_frame}
use Rattle.cx_typed_runs.proofs.Expressions.{ready_in, stopped_typed}
use Rattle.cx_typed_runs.proofs.GoingOn.{AllStand, others_of, stand_typed, here_of, ready_as, finished_typed}
use Rattle.cx_typed_runs.proofs.Owned.{owned_back, object_number}
use Rattle.cx_typed_runs.proofs.Standing.{IsHere, IsStandOf}
use Rattle.cx_typed_runs.proofs.Returns.{returning_typed}
use Rattle.cx_typed_runs.proofs.Statics.{IsStaticOf, static_of, IsFirst, put_first, statics_next, first_control, first_slots}
use Rattle.cx_typed_runs.specs.Sites.{IsSite, home_at, AreOwned}
use Rattle.cx_typed_runs.specs.States.{CRunning, in_function, before_main, home_in, IsPuttingOf, IsPurposeIn, IsPurposeOf, IsUsed, AreStatics, IsControl, IsTypedState}

-- ---- stores (6.7.8)

-- the object that is initialised lives
object_alive : (home : CHome) (frame : Frame) (blocks : Blocks) (number : ℕ) (one : CObject) → object_with number home.program.objects ≡ Some one → IsAlive home.program frame blocks one → IsLiteralAlive home frame blocks one.type number
object_alive home frame blocks number one found alive =
    let there : slot_of frame number ≡ Some alive.at = ap (slot_of frame) (sym (object_number number home.program.objects one found)) ∙ alive.at_is in
    record { one = one; alive = alive; at_is = there; begins = slot_begins frame number alive.at there; laid_is = alive.laid_is }

-- the store of a finished value
abbrev pub StoredIn : CProgram → CState → CPurpose → CPutting → COperand → Type 0
StoredIn program state purpose one operand =
    Comes (IsStoredOf program one.type (blocks_of state.world)) (put_stored (setting_of program) (frame_for state purpose) (blocks_of state.world) one.object one.spot one.type (with_marks no_marks operand))

pub store_comes : (program : CProgram) (home : CHome) (state : CState) (purpose : CPurpose) (one : CPutting) (node : CExpr) (operand : COperand) → home.program ≡ program → IsScene home (frame_for state purpose) (blocks_of state.world)
    → (is : IsPuttingOf home (type_of node) one) → IsAlive home.program (frame_for state purpose) (blocks_of state.world) is.object → IsTyped home node → IsOperandOf home node operand → StoredIn program state purpose one operand
store_comes program home state purpose one node operand same scene is alive typed given =
    subst (λ p. StoredIn p state purpose one operand) same
    (put_comes home (frame_for state purpose) (blocks_of state.world) is.object.type one.object one.spot one.type node (with_marks no_marks operand) scene
    (object_alive home (frame_for state purpose) (blocks_of state.world) one.object is.object is.object_is alive)
    (typed, record { part = is.part; no_array = is.no_array; value_is = is.value_is }) (record { type_is = given.type_is; given = given.given }))

-- the same move beside a memory that was written
stand_of_world : (program : CProgram) (one : CFun) (result : CTy) (held : Held) (blocks : Blocks) (rest : Frame) (stand : CStand) → IsStandOf program one result (with_blocks blocks held) rest stand → IsStandOf program one result held rest stand
stand_of_world program one result held blocks rest stand is = record { memory = is.memory; allocated = is.allocated; owned = is.owned; move = is.move }

scope_of : (program : CProgram) (home : CHome) (number : ℕ) (object : CObject) → home.program ≡ program → object_with number home.program.objects ≡ Some object → object_with number program.objects ≡ Some object
scope_of program home number object same found = subst (λ (p : CProgram). object_with number p.objects ≡ Some object) same found

-- in a function: the next put, or what follows the declaration
body_put : AllStand → (program : CProgram) (one : CFun) (result : CTy) (state : CState) (place : Place) (number : ℕ) (spot : Spot) (part : CTy) (others : CPuts) (site : CSite) (node : CExpr) (operand : COperand)
    → IsReady program (in_function one result) state state.world (puts_it place (record { object = number; spot = spot; type = part; others = others; behind = in_body site }))
    → IsTyped (home_at program one result site.levels) node → IsOperandOf (home_at program one result site.levels) node operand
    → IsPurposeIn program one result (type_of node) (puts_it place (record { object = number; spot = spot; type = part; others = others; behind = in_body site }))
    → IsTypedState program (use_step (setting_of program) state operand (puts_it place (record { object = number; spot = spot; type = part; others = others; behind = in_body site })))
body_put all program one result state place number spot part others site node operand ready typed given fits =
    by (put_stored (setting_of program) (frame_for state purpose) (blocks_of state.world) number spot part (with_marks no_marks operand))
    (store_comes program home state purpose it node operand same scene fits.1
    (subst (λ found. IfSome found (IsAlive home.program (frame_for state purpose) (blocks_of state.world))) fits.1.object_is (scene.alive.in_scope number fits.2)) typed given)
  where
    it : CPutting
    it = record { object = number; spot = spot; type = part; others = others; behind = in_body site }

    purpose : CPurpose
    purpose = puts_it place it

    home : CHome
    home = home_at program one result site.levels

    same : home.program ≡ program
    same = home_program program (in_function one result) (type_of node) purpose fits

    scene : IsScene home (frame_for state purpose) (blocks_of state.world)
    scene = scene_for program (in_function one result) state state.world (type_of node) purpose ready fits

    by : (outcome : Result CStored CWhy) → Comes (IsStoredOf program part (blocks_of state.world)) outcome → IsTypedState program (after_store state place it outcome)
    by (Ok done) good =
        let after = ready_in program (in_function one result) state state.world purpose done.blocks ready good.shapes good.memory in
        let here = here_of program one result state (with_memory done.blocks state.world) site (ready_as program (in_function one result) state (with_memory done.blocks state.world) purpose (drops_it site) refl after) fits.0 in
        stand_typed program one result state state.world (putting number others (in_body site) done.blocks)
        (stand_of_world program one result state.world.held done.blocks (others_of state) (putting number others (in_body site) done.blocks)
        ((all program one result).puts_left (with_blocks done.blocks state.world.held) (others_of state) site fits.1.object number others here
        (scope_of program home number fits.1.object same fits.1.object_is) fits.2 fits.1.others)) ready.callers ready.begun
    by (Err (breaks rule)) good = stopped_typed program (in_function one result) state purpose (wrong (record { why = breaks rule; place = place })) ready tt
    by (Err stuck) good = absurd good

-- ---- before `main`

-- the objects that live then are the static ones
first_state : (program : CProgram) (unit : ℕ) (state : CState) (world : World) (purpose : CPurpose) (move : CMove) → own_frame purpose ≡ [] → IsReady program (before_main unit) state world purpose → IsFirst program move
    → IsTypedState program (at_stand state world (record { move = move; blocks = blocks_of world }))
first_state program unit state world purpose move none ready first = record {
  memory = ready.memory;
  held = ready.held;
  owned = subst (λ slots. AreOwned program world.held (slots ++ others_of state)) (none ∙ sym (first_slots program first.unit move first.is)) ready.owned;
  control = subst (λ callers. IsControl program state.statics callers (control_of move)) (sym ready.callers) (first_control program state.statics first.unit move first.is ready.begun);
}

next_put : (program : CProgram) (unit number : ℕ) (object : CObject) (puts : CPuts) (others : List CObject) (blocks : Blocks) → IsLinked program → object_with number program.objects ≡ Some object → Contains (statics_in program.objects) object
    → ArePuts (home_of program None unit) object.type puts → AreConstantPuts program puts → AreStatics program others → IsFirst program (putting number puts (of_statics others) blocks).move
next_put program unit number object no_puts others blocks linked found there are constant rest = statics_next program others linked rest
next_put program unit number object (more_puts one more) others blocks linked found there are constant rest =
    put_first program unit number object (more_puts one more) others calls_main found there are constant rest (record { unit = 0; is = tt })

put_blocks : (number : ℕ) (puts : CPuts) (others : List CObject) (blocks : Blocks) → putting number puts (of_statics others) blocks ≡ record { move = (putting number puts (of_statics others) blocks).move; blocks = blocks }
put_blocks number no_puts others blocks = refl
put_blocks number (more_puts one more) others blocks = refl

static_put : (program : CProgram) (unit : ℕ) (state : CState) (place : Place) (number : ℕ) (spot : Spot) (part : CTy) (others : CPuts) (statics : List CObject) (node : CExpr) (operand : COperand)
    → IsReady program (before_main unit) state state.world (puts_it place (record { object = number; spot = spot; type = part; others = others; behind = of_statics statics }))
    → IsTyped (home_of program None unit) node → IsOperandOf (home_of program None unit) node operand
    → IsPurposeOf program (before_main unit) (type_of node) (puts_it place (record { object = number; spot = spot; type = part; others = others; behind = of_statics statics }))
    → IsTypedState program (use_step (setting_of program) state operand (puts_it place (record { object = number; spot = spot; type = part; others = others; behind = of_statics statics })))
static_put program unit state place number spot part others statics node operand ready typed given fits =
    by (put_stored (setting_of program) (frame_for state purpose) (blocks_of state.world) number spot part (with_marks no_marks operand))
    (store_comes program (home_of program None unit) state purpose it node operand refl scene fits.0
    (scene.alive.statics fits.0.object of.among (subst IsSome (sym of.puts_are) refl)) typed given)
  where
    it : CPutting
    it = record { object = number; spot = spot; type = part; others = others; behind = of_statics statics }

    purpose : CPurpose
    purpose = puts_it place it

    scene : IsScene (home_of program None unit) (frame_for state purpose) (blocks_of state.world)
    scene = scene_for program (before_main unit) state state.world (type_of node) purpose ready fits

    of : IsStaticOf program fits.0.object
    of = static_of program fits.0.object fits.1

    by : (outcome : Result CStored CWhy) → Comes (IsStoredOf program part (blocks_of state.world)) outcome → IsTypedState program (after_store state place it outcome)
    by (Ok done) good =
        let after = ready_in program (before_main unit) state state.world purpose done.blocks ready good.shapes good.memory in
        subst (λ stand. IsTypedState program (at_stand state state.world stand)) (sym (put_blocks number others statics done.blocks))
        (first_state program unit state (with_memory done.blocks state.world) purpose (putting number others (of_statics statics) done.blocks).move refl after
        (next_put program unit number fits.0.object others statics done.blocks ready.linked fits.0.object_is fits.1 fits.0.others fits.2 fits.3))
    by (Err (breaks rule)) good = stopped_typed program (before_main unit) state purpose (wrong (record { why = breaks rule; place = place })) ready tt
    by (Err stuck) good = absurd good

-- ---- a value is given back (6.8.6.4)

gives : AllStand → (program : CProgram) (one : CFun) (result : CTy) (state : CState) (place : Place) (site : CSite) (node : CExpr) (value : CValue) → IsReady program (in_function one result) state state.world (gives_it place site)
    → IsSite program one result site → type_of node ≡ unqualified result → IsGiven program node value → IsTypedState program (after_give state place site (value_given value))
gives all program one result state place site node (scalar value) ready at same (inl good) =
    returning_typed all program result state (scalar value) site (around_of program one result state state.world (gives_it place site) ready) (inl (subst (λ t. IsValueOfType program t (scalar value)) same good))
gives all program one result state place site node (cells held from) ready at same (inl good) =
    returning_typed all program result state (cells held from) site (around_of program one result state state.world (gives_it place site) ready) (inl (subst (λ t. IsValueOfType program t (cells held from)) same good))
gives all program one result state place site node missing ready at same given =
    stopped_typed program (in_function one result) state (gives_it place site) (wrong (record { why = breaks U14; place = place })) ready tt
gives all program one result state place site node (scalar value) ready at same (inr lacks) = absurd lacks.1
gives all program one result state place site node (cells held from) ready at same (inr lacks) = absurd lacks.1
gives all program one result state place site node (names number) ready at same (inl good) = absurd good
gives all program one result state place site node (names number) ready at same (inr lacks) = absurd lacks.1
gives all program one result state place site node (designates to) ready at same (inl good) = absurd good
gives all program one result state place site node (designates to) ready at same (inr lacks) = absurd lacks.1
gives all program one result state place site node (designates_bits at_place bit width) ready at same (inl good) = absurd good
gives all program one result state place site node (designates_bits at_place bit width) ready at same (inr lacks) = absurd lacks.1

-- ---- a choice (6.8.4, 6.8.5)

chooses_to : (program : CProgram) (one : CFun) (result : CTy) (state : CState) (place : Place) (site : CSite) (outcome : Result CStand CWhy) → IsReady program (in_function one result) state state.world (chooses_by place site)
    → Comes (IsStandOf program one result state.world.held (others_of state)) outcome → IsTypedState program (after_choice state place outcome)
chooses_to program one result state place site (Ok stand) ready good = stand_typed program one result state state.world stand good ready.callers ready.begun
chooses_to program one result state place site (Err (breaks rule)) ready good = stopped_typed program (in_function one result) state (chooses_by place site) (wrong (record { why = breaks rule; place = place })) ready tt
chooses_to program one result state place site (Err stuck) ready good = absurd good

-- ---- all uses

put_used : AllStand → (program : CProgram) (running : CRunning) (state : CState) (place : Place) (number : ℕ) (spot : Spot) (part : CTy) (others : CPuts) (behind : CBehind) (node : CExpr) (operand : COperand)
    → IsReady program running state state.world (puts_it place (record { object = number; spot = spot; type = part; others = others; behind = behind }))
    → IsTyped (home_in program running (puts_it place (record { object = number; spot = spot; type = part; others = others; behind = behind }))) node
    → IsOperandOf (home_in program running (puts_it place (record { object = number; spot = spot; type = part; others = others; behind = behind }))) node operand
    → IsPurposeOf program running (type_of node) (puts_it place (record { object = number; spot = spot; type = part; others = others; behind = behind }))
    → IsTypedState program (use_step (setting_of program) state operand (puts_it place (record { object = number; spot = spot; type = part; others = others; behind = behind })))
put_used all program (in_function one result) state place number spot part others (in_body site) node operand ready typed given fits = body_put all program one result state place number spot part others site node operand ready typed given fits
put_used all program (in_function one result) state place number spot part others (of_statics statics) node operand ready typed given fits = absurd fits
put_used all program (before_main unit) state place number spot part others (of_statics statics) node operand ready typed given fits = static_put program unit state place number spot part others statics node operand ready typed given fits
put_used all program (before_main unit) state place number spot part others (in_body site) node operand ready typed given fits = absurd fits

pub use_typed : AllStand → (program : CProgram) (running : CRunning) (state : CState) (operand : COperand) (purpose : CPurpose) → IsReady program running state state.world purpose → IsUsed program running operand purpose
    → IsTypedState program (use_step (setting_of program) state operand purpose)
use_typed all program running state operand (puts_it place it) ready is =
    put_used all program running state place it.object it.spot it.type it.others it.behind is.node operand ready is.typed is.operand_is is.fits
use_typed all program running state operand (drops_it site) ready is = finished_typed all program running state state.world is.node operand (drops_it site) ready is.typed is.operand_is is.fits
use_typed all program running state operand (turns_on site) ready is = finished_typed all program running state state.world is.node operand (turns_on site) ready is.typed is.operand_is is.fits
use_typed all program (in_function one result) state operand (gives_it place site) ready is =
    let home = home_at program one result site.levels in
    gives all program one result state place site is.node operand.value ready is.fits.0 is.fits.1
    (subst (λ p. IsGiven p is.node operand.value) (home_program program (in_function one result) (type_of is.node) (gives_it place site) is.fits) (given_value home is.node operand.value is.typed is.operand_is.given))
use_typed all program (before_main unit) state operand (gives_it place site) ready is = absurd is.fits
use_typed all program (in_function one result) state operand (chooses_by place site) ready is =
    chooses_to program one result state place site (choice_at (blocks_of state.world) operand.value site.levels site.bottom) ready
    ((all program one result).chosen_by state.world.held (others_of state) site is.node operand
    (here_of program one result state state.world site (ready_as program (in_function one result) state state.world (chooses_by place site) (drops_it site) refl ready) is.fits.0) is.typed is.operand_is is.fits.1)
use_typed all program (before_main unit) state operand (chooses_by place site) ready is = absurd is.fits
