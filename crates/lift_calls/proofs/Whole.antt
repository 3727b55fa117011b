-- A whole call: its entry, its body and its return.
use Rattle.std.proofs.Common.{◌≡◌, ℕ, zero, suc, ◌<◌, List, [], ◌∷◌, ◌++◌, length, Option, Some, None, Result, Ok, Err, refl, sym, ap, ◌∙◌, subst}
use Rattle.cr_base.specs.declared.layout.Laid.{Laid}
use Rattle.cr_runs.specs.Owes.{Owes}
use Rattle.cr_runs.specs.Runs.{Ran, came, halted, bad, out, bind}
use Rattle.cr_runs.proofs.Rules.{values, pieces, renamed, bind_came, bind_bind}
use Rattle.cr_world.specs.World.{World, blocks_of, with_memory, events_of}
use Rattle.cx_core.specs.Trees.{CFun}
use Rattle.cx_mean.specs.Leftmost.{CPiece, CGoes, CRan, or_stop, c_params}
use Rattle.cx_mean.specs.Moves.{reaches}
use Rattle.cx_mean.specs.Operands.{CStop, CValue, Frame as CFrame}
use Rattle.cx_mean.specs.Paths.{site_at}
use Rattle.cx_mean.specs.Settings.{CSetting}
use Rattle.cx_mean.specs.State.{slot, bottom_of, param_begins, place_of_body}
use Rattle.lift_stands.specs.Stands.{Images}
use Rattle.lift_stands_values.specs.Given.{align_or}
use Rattle.lift_calls.specs.Bodies.{ResultAgrees, Returned}
use Rattle.lift_calls.specs.Calls.{result_laid, CallMeets, CallStands, CallsOwe, Promise}
use Rattle.lift_calls.specs.Entries.{c_entered, Entered, frame_in, copied_to, crate_entered, EntryMeets, FunctionMeets, ProgramMeets}
use Rattle.lift_calls.specs.Programs.{Setting, setting_in, c_goes, c_calls, crate_bodies}
use Rattle.lift_calls.proofs.Owed.{calls_owe}
use Rattle.lift_calls.proofs.Returns.{returned_meets}
use Rattle.mem_bytes.specs.declared.value.Ptr.{Ptr}
use Rattle.rs_mean.specs.Calls.{begin_params, begin_locals, without_blocks, end_locals}
use Rattle.rs_mean.specs.Laws.{behind}
use Rattle.rs_mean.specs.Lookups.{LocalBlock}
use Rattle.rs_mean.specs.Run.{Frame, Flow, normal, breaks, continues, returned, run_stmts, then_on, given_by, in_frame}
use Rattle.rs_mean.specs.Values.{Typed}
use Rattle.rs_mean.specs.World.{Run, pure, seq, local}
use Rattle.rs_mean.proofs.Unfolded.{lists_follow, bodies_unfold}
use Rattle.rs_mean_frames.specs.Behave.{Behaves}
use Rattle.rs_mean_frames.proofs.Behaving.{behaves_pure, behaves_local, behaves_seq}
use Rattle.rs_mean_frames.proofs.Framed.{pieces_behave, all_behave}
use Rattle.rs_text.specs.Tree.{Stmts, FunctionTree}

-- ---- in C

-- what goes on behind the parameters
abbrev at_body : CGoes → CFun → CFrame → World → ℕ → CRan CValue
at_body goes callee frame world left = goes (reaches callee.body (site_at [] (bottom_of callee frame))) world left

or_stop_then : {A B C : Type 0} (result : Result A CStop) (first : A → CPiece B) (whole : A → CPiece C) (go : B → World → ℕ → CRan C) (world : World) (left : ℕ) → ((a : A) → whole a world left ≡ bind (first a world left) go) → or_stop result whole world left ≡ bind (or_stop result first world left) go
or_stop_then (Ok a) first whole go world left same = same a
or_stop_then (Err stop) first whole go world left same = refl

params_first : (setting : CSetting) (goes : CGoes) (callee : CFun) (params : List ℕ) (args : List CValue) (frame : CFrame) (world : World) (left : ℕ) → c_params setting goes callee params args frame world left ≡ bind (c_entered setting callee params args frame world left) (at_body goes callee)
params_first setting goes callee [] args frame world left = refl
params_first setting goes callee (number ∷ params) [] frame world zero = refl
params_first setting goes callee (number ∷ params) [] frame world (suc left) = refl
params_first setting goes callee (number ∷ params) (value ∷ args) frame world zero = refl
params_first setting goes callee (number ∷ params) (value ∷ args) frame world (suc left) =
    or_stop_then (param_begins setting (place_of_body callee.body) number value world)
    (λ got after more. c_entered setting callee params args (frame ++ slot number got.value ∷ []) got.world more)
    (λ got after more. c_params setting goes callee params args (frame ++ slot number got.value ∷ []) got.world more)
    (at_body goes callee) world left (λ got. params_first setting goes callee params args (frame ++ slot number got.value ∷ []) got.world left)

-- ---- in the crate

bind_same : {F S A B : Type 0} (r : Ran F S A) (go on : A → S → ℕ → Ran F S B) → ((a : A) (s : S) (k : ℕ) → go a s k ≡ on a s k) → bind r go ≡ bind r on
bind_same (came value state left) go on same = same value state left
bind_same (halted status state) go on same = refl
bind_same (bad fault state) go on same = refl
bind_same (out state) go on same = refl

module _ (s : Setting) (tree : FunctionTree) (copies body : Stmts) where
  -- the locals end behind a body
  abbrev ends : List LocalBlock → Flow → Run (Option Typed)
  ends locals flow = seq (end_locals locals) (λ _. pure (given_by tree.result flow))

  -- what runs behind the entry
  abbrev goes_in : Entered → Run (Option Typed)
  goes_in entered = seq (then_on (run_stmts (frame_in s entered.locals) body) entered.flow) (ends entered.locals)

  in_frame_first : tree.body ≡ behind copies body → (locals : List LocalBlock) (world : World) (units : ℕ) →
      bind (run_stmts (frame_in s locals) tree.body world units) (ends locals)
      ≡ bind (run_stmts (frame_in s locals) copies world units) (λ flow after more. goes_in (record { locals = locals; flow = flow }) after more)
  unfolding seq
  in_frame_first is locals world units =
      ap (λ (ss : Stmts). bind (run_stmts (frame_in s locals) ss world units) (ends locals)) is
      ∙ ap (λ r. bind r (ends locals)) (lists_follow (frame_in s locals) copies body world units)
      ∙ bind_bind (run_stmts (frame_in s locals) copies world units) (then_on (run_stmts (frame_in s locals) body)) (ends locals)

  copies_then : tree.body ≡ behind copies body → (locals : List LocalBlock) (world : World) (units : ℕ) → in_frame s.modules (crate_bodies s) tree locals world units ≡ bind (copied_to s copies locals world units) goes_in
  unfolding seq pure
  copies_then is locals world units =
      in_frame_first is locals world units
      ∙ sym (bind_bind (run_stmts (frame_in s locals) copies world units) (λ flow w k. came (record { locals = locals; flow = flow }) w k) goes_in)

  -- the locals begin behind the parameters
  abbrev locals_begin : List LocalBlock → Run Entered
  locals_begin params = seq (begin_locals s.modules tree.locals) (λ locals. copied_to s copies (params ++ locals))

  abbrev locals_run : List LocalBlock → Run (Option Typed)
  locals_run params = seq (begin_locals s.modules tree.locals) (λ locals. in_frame s.modules (crate_bodies s) tree (params ++ locals))

  locals_then : tree.body ≡ behind copies body → (params : List LocalBlock) (world : World) (units : ℕ) → locals_run params world units ≡ bind (locals_begin params world units) goes_in
  unfolding seq
  locals_then is params world units =
      bind_same (begin_locals s.modules tree.locals world units) (λ locals w k. in_frame s.modules (crate_bodies s) tree (params ++ locals) w k)
      (λ locals w k. bind (copied_to s copies (params ++ locals) w k) goes_in) (λ locals w k. copies_then is (params ++ locals) w k)
      ∙ sym (bind_bind (begin_locals s.modules tree.locals world units) (λ locals w k. copied_to s copies (params ++ locals) w k) goes_in)

  body_runs : tree.body ≡ behind copies body → (given : List Typed) (world : World) (units : ℕ) →
      crate_bodies s tree given world units ≡ bind (crate_entered s tree copies given world units) goes_in
  unfolding seq
  body_runs is given world units =
      bodies_unfold s.modules tree given world units
      ∙ bind_same (begin_params s.modules tree.params given world units) (λ params w k. locals_run params w k)
      (λ params w k. bind (locals_begin params w k) goes_in) (λ params w k. locals_then is params w k)
      ∙ sym (bind_bind (begin_params s.modules tree.params given world units) (λ params w k. locals_begin params w k) goes_in)

  -- ---- without a unit nothing is shown

  then_behaves : (flow : Flow) (rest : Run Flow) → Behaves Flow rest → Behaves Flow (then_on rest flow)
  then_behaves normal rest behaves = behaves
  then_behaves (breaks label) rest behaves = behaves_pure Flow (breaks label)
  then_behaves (continues label) rest behaves = behaves_pure Flow (continues label)
  then_behaves (returned value) rest behaves = behaves_pure Flow (returned value)

  ends_behave : (locals : List LocalBlock) (flow : Flow) → Behaves (Option Typed) (ends locals flow)
  ends_behave locals flow =
      behaves_seq (Unit {0}) (Option Typed) (end_locals locals) (λ _. pure (given_by tree.result flow)) (behaves_local (Unit {0}) _)
      (λ _. behaves_pure (Option Typed) (given_by tree.result flow))

  goes_behave : (entered : Entered) → Behaves (Option Typed) (goes_in entered)
  goes_behave entered =
      behaves_seq Flow (Option Typed) (then_on (run_stmts (frame_in s entered.locals) body) entered.flow) (ends entered.locals)
      (then_behaves entered.flow (run_stmts (frame_in s entered.locals) body) (pieces_behave.stmts (frame_in s entered.locals) (all_behave s.modules) body))
      (ends_behave entered.locals)

-- ---- both

older_place : (base : ℕ) (images : Images) (world : World) (frame : Frame) (laid : Option Laid) (name : Option (List ℕ)) (place : Option Ptr) → ResultAgrees base images world frame laid name place → (at : Ptr) → place ≡ Some at → at.block < base
older_place base images world frame None None None agrees at e = cc
older_place base images world frame (Some laid) (Some name) (Some to) agrees at e =
    let same : to ≡ at = cc in
    subst (λ p. p.block < base) same agrees.older
older_place base images world frame None None (Some to) agrees at e = absurd agrees
older_place base images world frame None (Some name) place agrees at e = absurd agrees
older_place base images world frame (Some laid) None place agrees at e = absurd agrees
older_place base images world frame (Some laid) (Some name) None agrees at e = absurd agrees

module _ (s : Setting) (one : CFun) (tree : FunctionTree) (meets : FunctionMeets s one tree) (units steps : ℕ) (promise : Promise s units steps) (images : Images) (place : Option Ptr) (args : List CValue) (given : List Typed) (c_world world : World) (stands : CallStands s images place one tree args given c_world world) where
  abbrev Meets : CValue → World → Option Typed → World → Type 0
  Meets = CallMeets images place (align_or (result_laid s one)) tree.result c_world world

  -- behind the body the locals end
  ended : (c_frame : CFrame) (c_here : World) (locals : List LocalBlock) (here : World) → EntryMeets s one meets.names images place c_world world c_frame c_here (record { locals = locals; flow = normal }) here →
      (value : CValue) (c_after : World) (flow : Flow) (after : World) → Returned images place (align_or (result_laid s one)) tree.result c_world world (frame_in s locals) value c_after flow after →
      Owes {F = CStop} events_of events_of Meets units steps (came value c_after) (ends s tree meets.copies meets.body locals flow after)
  unfolding seq pure local
  ended c_frame c_here locals here entry value c_after flow after back =
      values events_of events_of Meets units steps value c_after (given_by tree.result flow) (with_memory (without_blocks locals (blocks_of after)) after)
      (returned_meets images place (align_or (result_laid s one)) tree.result c_world world (frame_in s locals) value c_after flow after stands.worlds
      (older_place (length (blocks_of world)) entry.later here (frame_in s locals) (result_laid s one) meets.names.result place entry.inside.result)
      entry.inside.locals back)

  -- the body and what ends it
  body_meets : (c_frame : CFrame) (c_here : World) (locals : List LocalBlock) (flow : Flow) (here : World) → flow ≡ normal → EntryMeets s one meets.names images place c_world world c_frame c_here (record { locals = locals; flow = flow }) here →
      Owes events_of events_of Meets units steps (at_body (c_goes s) one c_frame c_here) (goes_in s tree meets.copies meets.body (record { locals = locals; flow = flow }) here)
  unfolding seq
  body_meets c_frame c_here locals normal here is entry =
      renamed events_of events_of Meets units steps (λ k. bind (at_body (c_goes s) one c_frame c_here k) (λ value after left. came value after left)) (at_body (c_goes s) one c_frame c_here)
      (λ k. bind (run_stmts (frame_in s locals) meets.body here k) (ends s tree meets.copies meets.body locals)) (goes_in s tree meets.copies meets.body (record { locals = locals; flow = normal }) here)
      (λ k. bind_came (at_body (c_goes s) one c_frame c_here k)) (λ k. refl)
      (pieces events_of events_of (Returned images place (align_or (result_laid s one)) tree.result c_world world (frame_in s locals)) Meets
      (at_body (c_goes s) one c_frame c_here) (run_stmts (frame_in s locals) meets.body here) (λ value after left. came value after left) (ends s tree meets.copies meets.body locals) units steps
      (meets.owes units steps promise images entry.later place c_world world c_frame (frame_in s locals) c_here here stands.worlds entry.params_are entry.inside)
      (λ flow after. (ends_behave s tree meets.copies meets.body locals flow).rests after)
      (λ value c_after flow after back. ended c_frame c_here locals here entry value c_after flow after back))
  body_meets c_frame c_here locals (breaks label) here is entry = cc
  body_meets c_frame c_here locals (continues label) here is entry = cc
  body_meets c_frame c_here locals (returned value) here is entry = cc

  call_meets : Owes events_of events_of Meets units steps (c_calls s one args c_world) (crate_bodies s tree given world)
  call_meets =
      renamed events_of events_of Meets units steps (λ k. bind (c_entered (setting_in s) one one.params args [] c_world k) (at_body (c_goes s) one)) (c_calls s one args c_world)
      (λ k. bind (crate_entered s tree meets.copies given world k) (goes_in s tree meets.copies meets.body)) (crate_bodies s tree given world)
      (λ k. sym (params_first (setting_in s) (c_goes s) one one.params args [] c_world k)) (λ k. sym (body_runs s tree meets.copies meets.body meets.body_is given world k))
      (pieces events_of events_of (EntryMeets s one meets.names images place c_world world) Meets
      (c_entered (setting_in s) one one.params args [] c_world) (crate_entered s tree meets.copies given world) (at_body (c_goes s) one) (goes_in s tree meets.copies meets.body) units steps
      (meets.enters units steps images place args given c_world world stands)
      (λ entered after. (goes_behave s tree meets.copies meets.body entered).rests after)
      (λ c_frame c_here entered here entry. body_meets c_frame c_here entered.locals entered.flow here entry.flow_is entry))

pub all_owe : (s : Setting) → ProgramMeets s → (units steps : ℕ) → CallsOwe s units steps
all_owe s meets = calls_owe s (λ units steps promise images place one tree args given c_world world stands.
    call_meets s one tree (meets one tree stands.written) units steps promise images place args given c_world world stands)
