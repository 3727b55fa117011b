-- The moves of a function leave each object alive that isn't its own, but for those that may be freed.
use Rattle.std.proofs.Common.{◌≡◌, ℕ, zero, suc, ◌≤◌, Bool, true, false, List, [], ◌∷◌, ◌++◌, length, Option, Some, None, Result, Ok, Err, refl, sym, subst, arith}
use Rattle.cr_base.specs.declared.refusal.Place.{Place}
use Rattle.cr_runs.specs.Owes.{AtEnd}
use Rattle.cr_runs.specs.Runs.{came, halted, bad, out}
use Rattle.cr_world.specs.Held.{Held, with_blocks, fresh_block}
use Rattle.cr_world.specs.World.{Got, World, blocks_of, with_memory, begun_at, limit_of}
use Rattle.cx_core.specs.Linked.{main_of}
use Rattle.cx_core.specs.Trees.{CExpr, unqualified, put, CPuts, no_puts, more_puts, CStmt, stmt, CStmtForm, begin, CObject, CFun}
use Rattle.cx_mean.proofs.KeptNodes.{IfGiven}
use Rattle.cx_mean.specs.Accesses.{CStored, stored}
use Rattle.cx_mean.specs.Initialisers.{CCleared, object_cleared, put_stored}
use Rattle.cx_mean.specs.Leftmost.{CRan, CPiece, CCalls, CGoes, or_stop, c_stand, c_dropped, c_use, c_params, c_called, c_main, c_value, c_move, c_goes}
use Rattle.cx_mean.specs.Marks.{no_marks}
use Rattle.cx_mean.specs.Moves.{CBehind, in_body, of_statics, CPurpose, puts_it, drops_it, turns_on, gives_it, chooses_by, CGoal, does_form, follows, CMove, values, reaches, begins, leaves, calls_main, goes_nowhere, CStand, without_objects, slots_in, slots_of_site, next_of, static_puts_of, first_put, static_puts, putting, beginning, reached, turning_on}
use Rattle.cx_mean.specs.Operands.{CFault, CWhy, CStop, CValue, designates, COperand, with_marks, Frame}
use Rattle.cx_mean.specs.Paths.{CLevel, CBottom, CSite, site_at, nothing_left}
use Rattle.cx_mean.specs.Settings.{CSetting}
use Rattle.cx_mean.specs.State.{after_return, own_frame, value_given, choice_at, CShape, shape_of, as_stop, slot, with_slot, object_begins, argument_stored, param_begins, no_place, place_of_body, bottom_of}
use Rattle.cx_mean.specs.Work.{is_finished, begun}
use Rattle.cx_mean_laws.specs.Laws.{goes_of}
use Rattle.cx_mean_moves.specs.Laws.{StandsIn, IsBehindIn, IsPurposeIn, IsMoveIn, LeavesObjects, cleared_or, made_anew, goal_anew, begun_anew}
use Rattle.cx_mean_moves.proofs.Leaving.{moves_leave}
use Rattle.mem_bytes.specs.Access.{and_then}
use Rattle.mem_bytes.specs.Counted.{after_alloc}
use Rattle.mem_bytes.specs.declared.fault.StoreFault.{StoreFault}
use Rattle.mem_bytes.specs.declared.fault.StoreFault.TheVariants.{Full, Memory}
use Rattle.mem_bytes.specs.declared.value.Ptr.{Ptr}
use Rattle.mem_bytes.specs.declared.value.Value.TheVariants.{Object as Pointer}
use Rattle.mem_bytes.specs.Memory.{Blocks}
use Rattle.cx_mean_lives.proofs.HeldLives.{lives_same, lives_then, lives_sized, lives_made, lives_gone}
use Rattle.cx_mean_lives.proofs.Sizes.{sizes_same}
use Rattle.cx_mean_lives.proofs.StoreSizes.{StoreSizes, store_sizes, put_stored_sizes, ClearSizes, clear_sizes}
use Rattle.cx_mean_lives.proofs.ValueLives.{end_bind, end_step, end_tick, Anything, given_anything, Ends, LivesBelow, value_below}
use Rattle.cx_mean_lives.specs.Laws.{SameSizes, LivesOn, CallsLive, AreFrom, IsSiteFrom, IsBehindFrom, IsPurposeFrom, IsMoveFrom, GoesLive, ScopeLives}

-- ---- objects from a number on

pub from_both : (bound : ℕ) (first second : Frame) → AreFrom bound first → AreFrom bound second → AreFrom bound (first ++ second)
from_both bound [] second one other = other
from_both bound (slot ∷ others) second one other = (one.0, from_both bound others second one.1 other)

pub from_first : (bound : ℕ) (first second : Frame) → AreFrom bound (first ++ second) → AreFrom bound first
from_first bound [] second are = tt
from_first bound (slot ∷ others) second are = (are.0, from_first bound others second are.1)

pub from_second : (bound : ℕ) (first second : Frame) → AreFrom bound (first ++ second) → AreFrom bound second
from_second bound [] second are = are
from_second bound (slot ∷ others) second are = from_second bound others second are.1

-- ---- a move among objects

site_from : (bound : ℕ) (kept : Frame) (bottom : CBottom) (site : CSite) → AreFrom bound kept → AreFrom bound bottom.params → StandsIn kept bottom site → IsSiteFrom bound site
site_from bound kept bottom site are params is = record {
  levels = subst (λ (slots : Frame). AreFrom bound slots) (sym is.slots) are;
  params = subst (λ (b : CBottom). AreFrom bound b.params) (sym is.in_function) params;
}

behind_from : (bound : ℕ) (kept : Frame) (bottom : CBottom) (behind : CBehind) → AreFrom bound kept → AreFrom bound bottom.params → IsBehindIn kept bottom behind → IsBehindFrom bound behind
behind_from bound kept bottom (in_body site) are params is = site_from bound kept bottom site are params is
behind_from bound kept bottom (of_statics others) are params is = tt

purpose_from : (bound : ℕ) (kept : Frame) (bottom : CBottom) (purpose : CPurpose) → AreFrom bound kept → AreFrom bound bottom.params → IsPurposeIn kept bottom purpose → IsPurposeFrom bound purpose
purpose_from bound kept bottom (puts_it place one) are params is = behind_from bound kept bottom one.behind are params is
purpose_from bound kept bottom (drops_it site) are params is = site_from bound kept bottom site are params is
purpose_from bound kept bottom (turns_on site) are params is = site_from bound kept bottom site are params is
purpose_from bound kept bottom (gives_it place site) are params is = site_from bound kept bottom site are params is
purpose_from bound kept bottom (chooses_by place site) are params is = site_from bound kept bottom site are params is

pub move_from : (bound : ℕ) (kept : Frame) (bottom : CBottom) (move : CMove) → AreFrom bound kept → AreFrom bound bottom.params → IsMoveIn kept bottom move → IsMoveFrom bound move
move_from bound kept bottom (values value purpose) are params is = purpose_from bound kept bottom purpose are params is
move_from bound kept bottom (reaches one site) are params is = site_from bound kept bottom site are params is
move_from bound kept bottom (begins one) are params is =
    (subst (λ (slots : Frame). AreFrom bound slots) (sym is.0) are, subst (λ (b : CBottom). AreFrom bound b.params) (sym is.1) params)
move_from bound kept bottom (leaves value site) are params is = site_from bound kept bottom site are params is
move_from bound kept bottom calls_main are params is = tt
move_from bound kept bottom (goes_nowhere place) are params is = tt

-- ---- a stand in a world: the memory in which it is made, and its move

record IsStandFrom (bound : ℕ) (before : Held) (one : CStand) : Type 0 where
  lives : LivesOn bound before (with_blocks one.blocks before)
  moves : IsMoveFrom bound one.move

-- the objects of open statements that are left are those from the number on
leaves_from : (bound : ℕ) (before : Held) (slots : Frame) (bottom : CBottom) (blocks : Blocks) (one : CStand) → SameSizes before.blocks blocks → AreFrom bound slots → AreFrom bound bottom.params
    → LeavesObjects slots bottom blocks one → IsStandFrom bound before one
leaves_from bound before slots bottom blocks one sized are params is =
    let both : AreFrom bound (is.gone ++ is.kept) = subst (λ (all : Frame). AreFrom bound all) is.parts are in
    record {
      lives =
          subst (λ (m : Blocks). LivesOn bound before (with_blocks m before)) (sym is.dies)
          (lives_then bound before (with_blocks blocks before) (with_blocks (without_objects is.gone blocks) before) (lives_sized bound before blocks sized)
          (lives_gone bound is.gone (with_blocks blocks before) (from_first bound is.gone is.kept both)));
      moves = move_from bound is.kept bottom one.move (from_second bound is.gone is.kept both) params is.stands;
    }

cleared_sizes : (blocks : Blocks) (outcome : Result CCleared CWhy) → IfGiven (ClearSizes blocks) outcome → SameSizes blocks (cleared_or blocks outcome)
cleared_sizes blocks (Ok one) sized = sized
cleared_sizes blocks (Err why) sized = sizes_same blocks

anew_sizes : (setting : CSetting) (frame : Frame) (form : CStmtForm) (blocks : Blocks) → SameSizes blocks (made_anew setting frame form blocks)
anew_sizes setting frame (begin number puts) blocks = cleared_sizes blocks (object_cleared setting frame number puts blocks) (clear_sizes setting frame number puts blocks)
anew_sizes setting frame form blocks = sizes_same blocks

goal_sizes : (setting : CSetting) (frame : Frame) (goal : CGoal) (form : CStmtForm) (blocks : Blocks) → SameSizes blocks (goal_anew setting frame goal form blocks)
goal_sizes setting frame (does_form place) form blocks = anew_sizes setting frame form blocks
goal_sizes setting frame (follows way) form blocks = sizes_same blocks

begun_sizes : (setting : CSetting) (frame : Frame) (objects : List ℕ) (goal : CGoal) (form : CStmtForm) (blocks : Blocks) → SameSizes blocks (begun_anew setting frame objects goal form blocks)
begun_sizes setting frame [] goal form blocks = goal_sizes setting frame goal form blocks
begun_sizes setting frame (first ∷ others) goal form blocks = sizes_same blocks

beginning_from : (setting : CSetting) (bound : ℕ) (before : Held) (objects : List ℕ) (goal : CGoal) (level : CLevel) (outer : CSite) → AreFrom bound (level.slots ++ slots_in outer.levels) → AreFrom bound outer.bottom.params
    → IsStandFrom bound before (beginning setting objects goal level outer before.blocks)
beginning_from setting bound before objects goal level outer are params =
    leaves_from bound before (slots_in (level ∷ outer.levels)) outer.bottom (begun_anew setting (slots_in (level ∷ outer.levels)) objects goal level.form before.blocks) _
    (begun_sizes setting (slots_in (level ∷ outer.levels)) objects goal level.form before.blocks) are params
    (moves_leave.begins setting objects goal level outer before.blocks)

reached_from : (setting : CSetting) (bound : ℕ) (before : Held) (one : CStmt) (site : CSite) → IsSiteFrom bound site → IsStandFrom bound before (reached setting one site before.blocks)
reached_from setting bound before (stmt place objects form) site is =
    beginning_from setting bound before objects (does_form place) (record { slots = []; form = form; rest = nothing_left }) site is.levels is.params

statics_from : (bound : ℕ) (all : List CObject) → IsMoveFrom bound (static_puts all)
statics_from bound [] = tt
statics_from bound (one ∷ others) = by (static_puts_of one.puts) (statics_from bound others)
  where
    by : (puts : CPuts) → IsMoveFrom bound (static_puts others) → IsMoveFrom bound (first_put one.object puts (of_statics others) (static_puts others))
    by no_puts rest = rest
    by (more_puts (put spot type value) more) rest = tt

putting_from : (bound : ℕ) (before : Held) (number : ℕ) (puts : CPuts) (behind : CBehind) (blocks : Blocks) → SameSizes before.blocks blocks → IsBehindFrom bound behind → IsStandFrom bound before (putting number puts behind blocks)
putting_from bound before number puts (in_body site) blocks sized is =
    leaves_from bound before (slots_in site.levels) site.bottom blocks _ sized is.levels is.params (moves_leave.puts number puts site blocks)
putting_from bound before number no_puts (of_statics others) blocks sized is = record { lives = lives_sized bound before blocks sized; moves = statics_from bound others }
putting_from bound before number (more_puts (put spot type value) more) (of_statics others) blocks sized is = record { lives = lives_sized bound before blocks sized; moves = tt }

-- a function has returned
return_lives : (bound : ℕ) (world : World) (site : CSite) → IsSiteFrom bound site → LivesOn bound world.held (after_return site world).held
return_lives bound world site is = lives_gone bound (slots_of_site site) world.held (from_both bound (slots_in site.levels) site.bottom.params is.levels is.params)

-- ---- an object begins

record IsGotFrom (bound : ℕ) (before : World) (got : Got Ptr) : Type 0 where
  lives : LivesOn bound before.held got.world.held
  begins_from : bound ≤ got.value.block

shaped : {A : Type 0} (P : A → Type 0) (place : Place) (outcome : Result CShape CWhy) (on : CShape → Result A CStop) → ((shape : CShape) → IfGiven P (on shape)) → IfGiven P (and_then (as_stop place outcome) on)
shaped P place (Ok shape) on all = all shape
shaped P place (Err why) on all = tt

begun_from : (bound : ℕ) (world : World) (is_zero : Bool) (size align : ℕ) (outcome : Result Blocks StoreFault) → bound ≤ length (blocks_of world) → IfGiven (IsGotFrom bound world) (begun_at {F = CFault} is_zero size align world outcome)
begun_from bound world is_zero size align (Ok made) fits = record { lives = lives_made bound world.held (Some (fresh_block is_zero size align)) fits; begins_from = fits }
begun_from bound world is_zero size align (Err (Full need left)) fits = tt
begun_from bound world is_zero size align (Err Memory) fits = tt

object_from : (bound : ℕ) (setting : CSetting) (place : Place) (number : ℕ) (world : World) → bound ≤ length (blocks_of world) → IfGiven (IsGotFrom bound world) (object_begins setting place number world)
object_from bound setting place number world fits =
    shaped (IsGotFrom bound world) place (shape_of setting number) _ (λ shape.
    begun_from bound world false shape.laid.size shape.laid.align (after_alloc (limit_of world.terms) world.held.blocks shape.laid.size shape.laid.align) fits)

stored_from : (bound : ℕ) (world : World) (got : Got Ptr) (place : Place) (outcome : Result CStored CWhy) → IsGotFrom bound world got → IfGiven (StoreSizes (blocks_of got.world)) outcome
    → IfGiven (IsGotFrom bound world) (and_then (as_stop place outcome) (λ one. Ok (record { value = got.value; world = with_memory one.blocks got.world })))
stored_from bound world got place (Ok one) is sized =
    record { lives = lives_then bound world.held got.world.held (with_memory one.blocks got.world).held is.lives (lives_sized bound got.world.held one.blocks sized); begins_from = is.begins_from }
stored_from bound world got place (Err why) is sized = tt

argument_from : (bound : ℕ) (setting : CSetting) (place : Place) (number : ℕ) (value : CValue) (world : World) (outcome : Result (Got Ptr) CStop) → IfGiven (IsGotFrom bound world) outcome
    → IfGiven (IsGotFrom bound world) (and_then outcome (argument_stored setting place number value))
argument_from bound setting place number value world (Ok got) is =
    shaped (IsGotFrom bound world) place (shape_of setting number) _ (λ shape.
    stored_from bound world got place (stored setting [] (blocks_of got.world) (unqualified shape.type) (designates (Pointer got.value)) value no_marks) is
    (store_sizes setting [] (blocks_of got.world) (unqualified shape.type) (designates (Pointer got.value)) value no_marks))
argument_from bound setting place number value world (Err stop) is = tt

end_stop : {A B : Type 0} (P : A → Type 0) (Q : B → World → Type 0) (outcome : Result A CStop) (on : A → CPiece B) (world : World) (left : ℕ) → IfGiven P outcome → ((one : A) → P one → AtEnd Q (on one world left)) → AtEnd Q (or_stop outcome on world left)
end_stop P Q (Ok one) on world left is all = all one is
end_stop P Q (Err stop) on world left is all = tt

-- ---- moves

abbrev LivesSince : ℕ → World → {A : Type 0} → A → World → Type 0
LivesSince bound before value after = LivesOn bound before.held after.held

-- in a later world
since : {A : Type 0} (bound : ℕ) (before now : World) (piece : CRan A) → LivesOn bound before.held now.held → AtEnd (LivesSince bound now) piece → AtEnd (LivesSince bound before) piece
since bound before now (came value after left) one is = lives_then bound before.held now.held after.held one is
since bound before now (halted status after) one is = tt
since bound before now (bad fault after) one is = tt
since bound before now (out after) one is = tt

module _ (setting : CSetting) (statics : Frame) (goes : CGoes) (live : GoesLive goes) where
  stand_lives : (bound : ℕ) (before now : World) (one : CStand) (left : ℕ) → bound ≤ length (blocks_of before) → LivesOn bound before.held now.held → IsStandFrom bound now.held one
      → AtEnd (LivesSince bound before) (c_stand goes one now left)
  stand_lives bound before now one left fits was is =
      let here = lives_then bound before.held now.held (with_memory one.blocks now).held was is.lives in
      since bound before (with_memory one.blocks now) (goes one.move (with_memory one.blocks now) left) here
      (live bound one.move (with_memory one.blocks now) left (omega (arith, fits, here.grows)) is.moves)

  params_live : (bound : ℕ) (before now : World) (callee : CFun) (params : List ℕ) (args : List CValue) (frame : Frame) (left : ℕ) → bound ≤ length (blocks_of before) → LivesOn bound before.held now.held → AreFrom bound frame
      → AtEnd (LivesSince bound before) (c_params setting goes callee params args frame now left)
  params_live bound before now callee [] args frame left fits was are =
      since bound before now (goes (reaches callee.body (site_at [] (bottom_of callee frame))) now left) was
      (live bound (reaches callee.body (site_at [] (bottom_of callee frame))) now left (omega (arith, fits, was.grows)) (record { levels = tt; params = are }))
  params_live bound before now callee (number ∷ params) [] frame left fits was are = end_tick (LivesSince bound before) now _ left (λ more. tt)
  params_live bound before now callee (number ∷ params) (value ∷ args) frame left fits was are =
      end_tick (LivesSince bound before) now _ left (λ more.
      end_stop (IsGotFrom bound now) (LivesSince bound before) (param_begins setting (place_of_body callee.body) number value now) _ now more
      (argument_from bound setting (place_of_body callee.body) number value now (object_begins setting (place_of_body callee.body) number now)
      (object_from bound setting (place_of_body callee.body) number now (omega (arith, fits, was.grows)))) (λ got is.
      params_live bound before got.world callee params args (frame ++ slot number got.value ∷ []) more fits
      (lives_then bound before.held now.held got.world.held was is.lives)
      (from_both bound frame (slot number got.value ∷ []) are (is.begins_from, tt))))

  called_live : CallsLive (c_called setting goes)
  called_live callee args world left =
      params_live (length (blocks_of world)) world world callee callee.params args [] left (omega arith) (lives_same (length (blocks_of world)) world.held) tt

  main_live : (bound : ℕ) (world : World) (found : Option CFun) (left : ℕ) → bound ≤ length (blocks_of world) → AtEnd (LivesSince bound world) (c_main setting goes found world left)
  main_live bound world None left fits = tt
  main_live bound world (Some one) left fits = params_live bound world world one one.params [] [] left fits (lives_same bound world.held) tt

  dropped_live : (bound : ℕ) (before now : World) (at_once : Bool) (one : CStand) (left : ℕ) → bound ≤ length (blocks_of before) → LivesOn bound before.held now.held → IsStandFrom bound now.held one
      → AtEnd (LivesSince bound before) (c_dropped goes at_once one now left)
  dropped_live bound before now true one left fits was is = end_tick (LivesSince bound before) now _ left (λ more. stand_lives bound before now one more fits was is)
  dropped_live bound before now false one left fits was is = stand_lives bound before now one left fits was is

  chosen_from : (bound : ℕ) (held : Held) (value : CValue) (site : CSite) (outcome : Result CStand CWhy) → choice_at held.blocks value site.levels site.bottom ≡ outcome → IsSiteFrom bound site → IfGiven (IsStandFrom bound held) outcome
  chosen_from bound held value site (Ok one) e is =
      leaves_from bound held (slots_in site.levels) site.bottom held.blocks one (sizes_same held.blocks) is.levels is.params (moves_leave.choice held.blocks value site.levels site.bottom one e)
  chosen_from bound held value site (Err why) e is = tt

  use_live : (bound : ℕ) (before now : World) (at_once : Bool) (purpose : CPurpose) (operand : COperand) (left : ℕ) → bound ≤ length (blocks_of before) → LivesOn bound before.held now.held → IsPurposeFrom bound purpose
      → AtEnd (LivesSince bound before) (c_use setting statics goes at_once purpose operand now left)
  use_live bound before now at_once (puts_it place one) operand left fits was is =
      end_step (StoreSizes (blocks_of now)) (LivesSince bound before) place (put_stored setting (own_frame (puts_it place one) ++ statics) (blocks_of now) one.object one.spot one.type (with_marks no_marks operand)) _ now left
      (put_stored_sizes setting (own_frame (puts_it place one) ++ statics) (blocks_of now) one.object one.spot one.type (with_marks no_marks operand)) (λ done more sized.
      stand_lives bound before now (putting one.object one.others one.behind done.blocks) more fits was (putting_from bound now.held one.object one.others one.behind done.blocks sized is))
  use_live bound before now at_once (drops_it site) operand left fits was is =
      dropped_live bound before now at_once (next_of site (blocks_of now)) left fits was
      (leaves_from bound now.held (slots_in site.levels) site.bottom (blocks_of now) _ (sizes_same (blocks_of now)) is.levels is.params (moves_leave.next site.levels site.bottom (blocks_of now)))
  use_live bound before now at_once (turns_on site) operand left fits was is =
      dropped_live bound before now at_once (turning_on site (blocks_of now)) left fits was
      (leaves_from bound now.held (slots_in site.levels) site.bottom (blocks_of now) _ (sizes_same (blocks_of now)) is.levels is.params (moves_leave.turns_on site (blocks_of now)))
  use_live bound before now at_once (gives_it place site) operand left fits was is =
      end_step Anything (LivesSince bound before) place (value_given operand.value) _ now left (given_anything (value_given operand.value)) (λ value more _.
      lives_then bound before.held now.held (after_return site now).held was (return_lives bound now site is))
  use_live bound before now at_once (chooses_by place site) operand left fits was is =
      end_step (IsStandFrom bound now.held) (LivesSince bound before) place (choice_at (blocks_of now) operand.value site.levels site.bottom) _ now left
      (chosen_from bound now.held operand.value site (choice_at (blocks_of now) operand.value site.levels site.bottom) refl is) (λ one more from.
      stand_lives bound before now one more fits was from)

  move_live : (bound : ℕ) (move : CMove) (world : World) (left : ℕ) → bound ≤ length (blocks_of world) → IsMoveFrom bound move → AtEnd (LivesSince bound world) (c_move setting statics goes move world left)
  move_live bound (values value purpose) world left fits is =
      end_bind (Ends (LivesBelow bound) world) (LivesSince bound world) (c_value setting (c_called setting goes) (own_frame purpose ++ statics) value world left) _
      (value_below bound setting (c_called setting goes) (own_frame purpose ++ statics) called_live value world left) (λ operand now more was.
      use_live bound world now (is_finished (begun value)) purpose operand more fits (was fits) is)
  move_live bound (reaches one site) world left fits is =
      end_tick (LivesSince bound world) world _ left (λ more. stand_lives bound world world (reached setting one site (blocks_of world)) more fits (lives_same bound world.held) (reached_from setting bound world.held one site is))
  move_live bound (begins one) world left fits is =
      end_tick (LivesSince bound world) world _ left (λ more.
      end_stop (IsGotFrom bound world) (LivesSince bound world) (object_begins setting no_place one.object world) _ world more (object_from bound setting no_place one.object world fits) (λ got from.
      stand_lives bound world got.world (beginning setting one.others one.goal (with_slot (slot one.object got.value) one.level) one.outer (blocks_of got.world)) more fits from.lives
      (beginning_from setting bound got.world.held one.others one.goal (with_slot (slot one.object got.value) one.level) one.outer
      (from_both bound (one.level.slots ++ slot one.object got.value ∷ []) (slots_in one.outer.levels)
      (from_both bound one.level.slots (slot one.object got.value ∷ []) (from_first bound one.level.slots (slots_in one.outer.levels) is.0) (from.begins_from, tt))
      (from_second bound one.level.slots (slots_in one.outer.levels) is.0)) is.1)))
  move_live bound (leaves value site) world left fits is = end_tick (LivesSince bound world) world _ left (λ more. return_lives bound world site is)
  move_live bound calls_main world left fits is = end_tick (LivesSince bound world) world _ left (λ more. main_live bound world (main_of setting.program) more fits)
  move_live bound (goes_nowhere place) world left fits is = tt

-- ---- a run

goes_live : (setting : CSetting) (statics : Frame) (fuel : ℕ) → GoesLive (c_goes setting statics fuel)
goes_live setting statics zero bound move world left fits is = tt
goes_live setting statics (suc fuel) bound move world left fits is = move_live setting statics (c_goes setting statics fuel) (goes_live setting statics fuel) bound move world left fits is

of_live : (setting : CSetting) (statics : Frame) → GoesLive (goes_of setting statics)
of_live setting statics bound move world left fits is = goes_live setting statics (suc left) bound move world left fits is

value_lives : (setting : CSetting) (calls : CCalls) (frame : Frame) (e : CExpr) (before after : World) (operand : COperand) (steps left : ℕ) → CallsLive calls
    → c_value setting calls frame e before steps ≡ came operand after left → LivesOn (length (blocks_of before)) before.held after.held
value_lives setting calls frame e before after operand steps left live is =
    subst (λ (piece : CRan COperand). AtEnd (Ends (LivesBelow (length (blocks_of before))) before) piece) is
    (value_below (length (blocks_of before)) setting calls frame live e before steps) (omega arith)

pub scope_lives : ScopeLives
scope_lives = record {
  calls = λ setting statics. called_live setting statics (goes_of setting statics) (of_live setting statics);
  goes = of_live;
  called = λ setting statics fuel. called_live setting statics (c_goes setting statics fuel) (goes_live setting statics fuel);
  value = value_lives;
  scope = λ setting calls frame e before after operand steps left live is number at there made unlisted.
      let lives = value_lives setting calls frame e before after operand steps left live is in
      (lives.sizes at.block made unlisted, lives.unlisted at.block made unlisted);
}
