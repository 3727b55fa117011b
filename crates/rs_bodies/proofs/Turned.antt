-- Lists of statements, arms, blocks, turns, and what an engine does of them.
use Rattle.std.proofs.Common.{◌≡◌, ◌∙◌, refl, sym, ap, subst, ℕ, suc, ℤ, Bool, true, false, zero, ◌+◌, ◌<◌, ◌≤◌, arith, List, [], ◌∷◌, map, length, drop, Option, Some, None, if◌then◌else◌}
use Rattle.std.proofs.Math.ListN.{get_or}
use Rattle.std.proofs.lemmas.List.{drop_more}
use Rattle.cr_world.specs.World.{World}
use Rattle.mem_bytes.specs.declared.value.Value.{Value}
use Rattle.mem_bytes.specs.declared.value.Value.TheVariants.{Whole, Null, Object, Code}
use Rattle.rs_mean.specs.Laws.{bodies_of}
use Rattle.rs_mean.specs.Lookups.{LocalBlock}
use Rattle.rs_mean.specs.Run.{Frame, Flow, normal, breaks, continues, returned, run_stmt, run_stmts, run_arms, after_block, after_turn, then_on}
use Rattle.rs_mean.specs.Run as run
use Rattle.rs_mean.specs.Values.{Typed, typed}
use Rattle.rs_mean.specs.World.{Run, pure, seq, takes_unit, either, Round, again, done, next_turn, rounds}
use Rattle.rs_mean.proofs.Bounded.{Leaves, Bounded, bounded_pure, bounded_fails, bounded_ends, bounded_local, bounded_begins, bounded_seq, bounded_unit, bounded_rounds, bounded_outer, bodies_bounded}
use Rattle.rs_mean.proofs.Pieces.{on_stmts}
use Rattle.rs_mean.proofs.Unfolded.{rounds_unfold}
use Rattle.rs_text.specs.Tree.{Ty, Stmt, Stmts, more_stmts, ArmTree, LiteralArm, arms, stmts, ModuleTree}
use Rattle.rs_tree.specs.declared.stmt.RStmt.{RStmt}
use Rattle.rs_tree.specs.declared.stmt.Arm.{Arm}
use Rattle.rs_tree.specs.Views.{arm_view, stmt_view}
use Rattle.rs_scene.specs.Flows.{behind_block, chosen, is_normal, is_number, turned}
use Rattle.rs_machine.specs.Does.{End, gives, stops, Stopped, no_units, Does}
use Rattle.rs_machine.specs.States.{State}
use Rattle.rs_machine.proofs.Pieces.{then_does, stops_first, same_does}
use Rattle.rs_machine.proofs.Rules.{pure_does, TakesUnit, unit_does}

-- ---- blocks and turns

test_does : {B : Type 0} (test : Bool) (one other : B) (at : State) → Does (either test (pure one) (pure other)) (gives (if test then one else other)) at at
test_does true one other at = pure_does one at
test_does false one other at = pure_does other at

pub block_does : (name : List ℕ) (flow : Flow) (at : State) → Does (after_block name flow) (gives (behind_block name flow)) at at
block_does name normal at = pure_does normal at
block_does name (breaks label) at = test_does _ normal (breaks label) at
block_does name (continues label) at = pure_does (continues label) at
block_does name (returned value) at = pure_does (returned value) at

pub turn_does : (name : Option (List ℕ)) (flow : Flow) (at : State) → Does (after_turn name flow) (gives (turned name flow)) at at
turn_does name normal at = pure_does (again tt) at
turn_does None (breaks label) at = pure_does (done (breaks label)) at
turn_does (Some name) (breaks label) at = test_does _ (done normal) (done (breaks label)) at
turn_does None (continues label) at = pure_does (done (continues label)) at
turn_does (Some name) (continues label) at = test_does _ (again tt) (done (continues label)) at
turn_does name (returned value) at = pure_does (done (returned value)) at

-- ---- arms

number_is : (number : ℤ) (ty : Ty) (value : Value) → is_number number value ≡ run.is_arm number (typed ty value)
number_is number ty (Whole value) = refl
number_is number ty Null = refl
number_is number ty (Object at) = refl
number_is number ty (Code of) = refl

module _ (frame : Frame) where
  arm_same : (test same : Bool) (body rest : Stmts) (others : Run Flow) → test ≡ same →
      ((world : World) (units : ℕ) → run_stmts frame rest world units ≡ others world units) →
      (world : World) (units : ℕ) → run_stmts frame (if test then body else rest) world units ≡ either same (run_stmts frame body) others world units
  arm_same true true body rest others is h world units = refl
  arm_same true false body rest others is h world units = absurd cc
  arm_same false true body rest others is h world units = absurd cc
  arm_same false false body rest others is h world units = h world units

  arms_same : (cases : List ArmTree) (value : Typed) (other : Stmts) (world : World) (units : ℕ) →
      run_stmts frame (chosen cases value other) world units ≡ run_arms frame value (arms cases) (run_stmts frame other) world units
  arms_same [] value other world units = refl
  arms_same (LiteralArm number ty body ∷ others) value other world units =
      arm_same (is_number number value.value) _ body (chosen others value other) (run_arms frame value (arms others) (run_stmts frame other))
      (number_is number value.ty value.value) (arms_same others value other) world units

  pub arms_do : (cases : List ArmTree) (value : Typed) (other : Stmts) (body : Stmts) {end : End Flow} {before after : State} → body ≡ chosen cases value other →
      Does (run_stmts frame body) end before after → Does (run_arms frame value (arms cases) (run_stmts frame other)) end before after
  arms_do cases value other body {end = end} {before = before} {after = after} is does =
      same_does (run_stmts frame (chosen cases value other)) (run_arms frame value (arms cases) (run_stmts frame other)) (arms_same cases value other)
      (subst (λ (list : Stmts). Does (run_stmts frame list) end before after) is does)

-- ---- what is left of a piece

-- what comes of the rest from here comes of the whole from the start
pub record Follows {B : Type 0} (whole rest : Run B) (start now : State) : Type 0 where
  pub by : (end : End B) (last : State) → Does rest end now last → Does whole end start last

pub follows_itself : {B : Type 0} (whole : Run B) (at : State) → Follows whole whole at at
follows_itself whole at = record { by = λ end last does. does }

-- ---- lists

module _ (frame : Frame) (one : Stmt) (others : Stmts) where
  on_does : (flow : Flow) {end : End Flow} {now last : State} → is_normal flow ≡ true → Does (run_stmts frame others) end now last →
      Does (then_on (run_stmts frame others) flow) end now last
  on_does normal is does = does
  on_does (breaks label) is does = absurd cc
  on_does (continues label) is does = absurd cc
  on_does (returned value) is does = absurd cc

  left_does : (flow : Flow) (at : State) → is_normal flow ≡ false → Does (then_on (run_stmts frame others) flow) (gives flow) at at
  left_does normal at is = absurd cc
  left_does (breaks label) at is = pure_does (breaks label) at
  left_does (continues label) at is = pure_does (continues label) at
  left_does (returned value) at is = pure_does (returned value) at

  pub goes_behind : (whole : Run Flow) (flow : Flow) {start now next : State} → is_normal flow ≡ true → Follows whole (run_stmts frame (more_stmts one others)) start now →
      Does (run_stmt frame one) (gives flow) now next → Follows whole (run_stmts frame others) start next
  goes_behind whole flow is follows does = record { by = λ end last rest. follows.by end last (then_does _ does (on_does flow is rest)) }

  pub left_behind : (whole : Run Flow) (flow : Flow) {start now next : State} → is_normal flow ≡ false → Follows whole (run_stmts frame (more_stmts one others)) start now →
      Does (run_stmt frame one) (gives flow) now next → Does whole (gives flow) start next
  left_behind whole flow {next = next} is follows does = follows.by (gives flow) next (then_does _ does (left_does flow next is))

  pub stops_there : (whole : Run Flow) (stop : Stopped) {start now next : State} → Follows whole (run_stmts frame (more_stmts one others)) start now →
      Does (run_stmt frame one) (stops stop) now next → Does whole (stops stop) start next
  stops_there whole stop {next = next} follows does = follows.by (stops stop) next (stops_first _ does)

-- ---- turns

module _ (modules : List ModuleTree) (locals : List LocalBlock) where
  abbrev frame : Frame
  frame = record { modules = modules; locals = locals; bodies = bodies_of modules }

  stmts_leave : (body : Stmts) → Leaves Flow (run_stmts frame body)
  stmts_leave body =
      on_stmts Bounded bounded_pure bounded_fails bounded_ends bounded_local bounded_begins bounded_outer bounded_seq bounded_rounds
      (bodies_of modules) (bodies_of modules)
      (λ fun args. bounded_unit (Option Typed) _ (bodies_of modules fun args) (λ world units. bodies_bounded modules (suc units) fun args world units))
      modules locals body

  test_leaves : (A : Type 0) (test : Bool) (one other : Run A) → Leaves A one → Leaves A other → Leaves A (either test one other)
  test_leaves A true one other h k = h
  test_leaves A false one other h k = k

  after_leaves : (name : Option (List ℕ)) (flow : Flow) → Leaves (Round (Unit {0}) Flow) (after_turn name flow)
  after_leaves name normal = bounded_pure _ _
  after_leaves name (breaks label) = test_leaves _ _ (pure (done normal)) (pure (done (breaks label))) (bounded_pure _ _) (bounded_pure _ _)
  after_leaves name (continues label) = test_leaves _ _ (pure (again tt)) (pure (done (continues label))) (bounded_pure _ _) (bounded_pure _ _)
  after_leaves name (returned value) = bounded_pure _ _

  module _ (label : Option (List ℕ)) (body : Stmts) where
    abbrev turn : Unit {0} → Run (Round (Unit {0}) Flow)
    turn _ = seq (run_stmts frame body) (after_turn label)

    abbrev pub Turns : Run Flow
    Turns = rounds turn tt

    unfolded : (world : World) (units : ℕ) → takes_unit (seq (turn tt) (next_turn (rounds turn))) world units ≡ Turns world units
    unfolded world units =
        sym (rounds_unfold (Unit {0}) Flow turn
        (λ _. bounded_seq Flow (Round (Unit {0}) Flow) (run_stmts frame body) (run_stmts frame body) (after_turn label) (after_turn label) (stmts_leave body) (after_leaves label))
        tt world units)

    turns_by : {end : End Flow} {before after : State} → Does (takes_unit (seq (turn tt) (next_turn (rounds turn)))) end before after → Does Turns end before after
    turns_by does = same_does (takes_unit (seq (turn tt) (next_turn (rounds turn)))) Turns unfolded does

    pub turns_out : (whole : Run Flow) {start now after : State} → Follows whole Turns start now →
        Does (takes_unit (seq (seq (run_stmts frame body) (after_turn label)) (next_turn (rounds (λ _. seq (run_stmts frame body) (after_turn label)))))) (stops no_units) now after →
        Does whole (stops no_units) start after
    turns_out whole {after = after} follows does = follows.by (stops no_units) after (turns_by does)

    pub turns_stop : (whole : Run Flow) (stop : Stopped) {start now next last : State} → Follows whole Turns start now → TakesUnit now next →
        Does (run_stmts frame body) (stops stop) next last → Does whole (stops stop) start last
    turns_stop whole stop {last = last} follows takes does =
        follows.by (stops stop) last (turns_by (unit_does _ takes (stops_first _ (stops_first _ does))))

    next_does : (round : Round (Unit {0}) Flow) (next : Round (Unit {0}) Flow) {end : End Flow} {before after : State} → round ≡ next →
        Does (next_turn (rounds turn) next) end before after → Does (next_turn (rounds turn) round) end before after
    next_does round next {end = end} {before = before} {after = after} is does =
        subst (λ (one : Round (Unit {0}) Flow). Does (next_turn (rounds turn) one) end before after) (sym is) does

    pub turns_go : (whole : Run Flow) (flow : Flow) {start now next after : State} → again tt ≡ turned label flow → Follows whole Turns start now → TakesUnit now next →
        Does (run_stmts frame body) (gives flow) next after → Follows whole Turns start after
    turns_go whole flow {after = after} is follows takes does = record {
      by = λ end last rest. follows.by end last
          (turns_by (unit_does _ takes (then_does _ (then_does _ does (turn_does label flow after)) (next_does (turned label flow) (again tt) (sym is) rest))));
    }

    pub turns_end : (whole : Run Flow) (flow given : Flow) {start now next after : State} → done given ≡ turned label flow → Follows whole Turns start now → TakesUnit now next →
        Does (run_stmts frame body) (gives flow) next after → Does whole (gives given) start after
    turns_end whole flow given {after = after} is follows takes does =
        follows.by (gives given) after
        (turns_by (unit_does _ takes (then_does _ (then_does _ does (turn_does label flow after)) (next_does (turned label flow) (done given) (sym is) (pure_does given after)))))

-- ---- a list from a place on

module _ (frame : Frame) (list : List RStmt) (index : ℕ) where
  abbrev pub All : Run Flow
  All = run_stmts frame (stmts (map stmt_view list))

  abbrev pub Rest : ℕ → Run Flow
  Rest from = run_stmts frame (stmts (map stmt_view (drop from list)))

  module _ (one : RStmt) (less : index < length list) (one_is : one ≡ get_or list index one) {start now : State} (follows : Follows All (Rest index) start now) where
    from_one : Follows All (run_stmts frame (more_stmts (stmt_view one) (stmts (map stmt_view (drop (index + 1) list))))) start now
    from_one =
        subst (λ (items : List RStmt). Follows All (run_stmts frame (stmts (map stmt_view items))) start now)
        (drop_more list index one less ∙ ap (λ (item : RStmt). item ∷ drop (index + 1) list) (sym one_is)) follows

    pub stmt_stops : {stop : Stopped} {next : State} → Does (run_stmt frame (stmt_view one)) (stops stop) now next → Does All (stops stop) start next
    stmt_stops {stop = stop} does = stops_there frame (stmt_view one) (stmts (map stmt_view (drop (index + 1) list))) All stop from_one does

    pub stmt_leaves : (flow : Flow) {next : State} → is_normal flow ≡ false → Does (run_stmt frame (stmt_view one)) (gives flow) now next → Does All (gives flow) start next
    stmt_leaves flow is does = left_behind frame (stmt_view one) (stmts (map stmt_view (drop (index + 1) list))) All flow is from_one does

    pub stmt_goes : (flow : Flow) {next : State} → is_normal flow ≡ true → Does (run_stmt frame (stmt_view one)) (gives flow) now next → Follows All (Rest (index + 1)) start next
    stmt_goes flow is does = goes_behind frame (stmt_view one) (stmts (map stmt_view (drop (index + 1) list))) All flow is from_one does

none_left : (list : List RStmt) (index : ℕ) → length list ≤ index → drop index list ≡ []
none_left [] zero most = refl
none_left [] (suc index) most = refl
none_left (one ∷ list) zero most = absurd (omega (arith, most))
none_left (one ∷ list) (suc index) most = none_left list index (omega (arith, most))

pub stmts_end : (frame : Frame) (list : List RStmt) (index : ℕ) {start now : State} → length list ≤ index → Follows (All frame list index) (Rest frame list index index) start now →
    Does (All frame list index) (gives normal) start now
stmts_end frame list index {now = now} most follows =
    follows.by (gives normal) now
    (subst (λ (items : List RStmt). Does (run_stmts frame (stmts (map stmt_view items))) (gives normal) now now) (sym (none_left list index most)) (pure_does normal now))

-- ---- a statement that is another

pub same_stmt : (frame : Frame) (tree one : RStmt) {end : End Flow} {before after : State} → tree ≡ one →
    Does (run_stmt frame (stmt_view one)) end before after → Does (run_stmt frame (stmt_view tree)) end before after
same_stmt frame tree one {end = end} {before = before} {after = after} is does =
    subst (λ (which : RStmt). Does (run_stmt frame (stmt_view which)) end before after) (sym is) does

-- ---- arms as the code has them

pub arms_run : (frame : Frame) (cases list : List Arm) (other others body : List RStmt) (value : Typed) {end : End Flow} {before after : State} → list ≡ cases → others ≡ other →
    stmts (map stmt_view body) ≡ chosen (map arm_view list) value (stmts (map stmt_view others)) → Does (run_stmts frame (stmts (map stmt_view body))) end before after →
    Does (run_arms frame value (arms (map arm_view cases)) (run_stmts frame (stmts (map stmt_view other)))) end before after
arms_run frame cases list other others body value list_is others_is is does =
    arms_do frame (map arm_view cases) value (stmts (map stmt_view other)) (stmts (map stmt_view body))
    (is ∙ ap (λ (items : List Arm). chosen (map arm_view items) value (stmts (map stmt_view others))) list_is
    ∙ ap (λ (items : List RStmt). chosen (map arm_view cases) value (stmts (map stmt_view items))) others_is) does

-- ---- lists that are the same

pub listed : (frame : Frame) (body list : List RStmt) {end : End Flow} {before after : State} → list ≡ body →
    Does (run_stmts frame (stmts (map stmt_view list))) end before after → Does (run_stmts frame (stmts (map stmt_view body))) end before after
listed frame body list {end = end} {before = before} {after = after} is does =
    subst (λ (items : List RStmt). Does (run_stmts frame (stmts (map stmt_view items))) end before after) is does

-- ---- values that are the same

pub gives_same : {B : Type 0} {piece : Run B} {value other : B} {before after : State} → Does piece (gives value) before after → other ≡ value → Does piece (gives other) before after
gives_same {piece = piece} {before = before} {after = after} does is = subst (λ (one : _). Does piece (gives one) before after) (sym is) does
