-- The moves of a typed function, one behind another, until it returns.
use Rattle.std.proofs.Common.{◌≡◌, ◌∙◌, inl, inr, ℕ, zero, suc, ◌<◌, ◌≤◌, Bool, true, false, nat_le, pos, IfSome, List, [], ◌∷◌, ◌++◌, length, Some, None, Result, Ok, Err, refl, sym, ap, subst, arith, append_assoc}
use Rattle.std.specs.List.{Contains}
use Rattle.std.proofs.lemmas.Bool.{leb-true, le-leb}
use Rattle.std.proofs.lemmas.List.{append-nil}
use Rattle.cr_base.specs.declared.refusal.Place.{Place}
use Rattle.cr_runs.specs.Owes.{AtEnd}
use Rattle.cr_runs.specs.Runs.{came, halted, bad, out, bind}
use Rattle.cr_world.specs.Held.{Held, with_blocks, fresh_block, with_block, next_place}
use Rattle.cr_world.specs.Laws.{HeapLives}
use Rattle.cr_world.specs.World.{Got, World, blocks_of, with_memory, object_begun, begun_at, limit_of}
use Rattle.cx_core.specs.Linked.{IsLinked, home_of}
use Rattle.cx_core.specs.Trees.{CTy, function, form_of_type, unqualified, CExpr, type_of, CPuts, CStmt, stmt, CFun, CProgram}
use Rattle.cx_core.specs.Typing.{CHome, IsTyped, object_with}
use Rattle.cx_mean.proofs.KeptNodes.{IfGiven}
use Rattle.cr_base.specs.declared.layout.Spot.{Spot}
use Rattle.cx_mean.specs.Accesses.{CStored, stored}
use Rattle.cx_mean.specs.Initialisers.{put_stored}
use Rattle.cx_mean.specs.Marks.{no_marks}
use Rattle.cx_mean.specs.Calls.{defined, CCalled, type_of_callee}
use Rattle.cx_mean.specs.Leftmost.{CRan, CPiece, CCalls, CGoes, or_stop, or_bad, c_stand, c_dropped, c_use, c_params, c_value, c_move}
use Rattle.cx_mean.specs.Moves.{CBehind, in_body, of_statics, CPutting, CPurpose, puts_it, drops_it, turns_on, gives_it, chooses_by, does_form, CBeginning, CMove, values, reaches, begins, leaves, calls_main, goes_nowhere, CStand, slots_in, slots_of_site, next_of, turning_on, putting, beginning, reached}
use Rattle.cx_mean.specs.Operands.{CFault, CWhy, CStop, CValue, scalar, cells, names, designates, designates_bits, missing, COperand, with_marks, Slot, Frame}
use Rattle.cx_mean.specs.Paths.{CLevel, CSite, site_at, nothing_left}
use Rattle.cx_mean.specs.Settings.{CSetting, setting_of}
use Rattle.cx_mean.specs.State.{CState, has_ended, given_back, after_return, own_frame, value_given, choice_at, CShape, as_stop, slot, with_slot, object_begins, argument_stored, param_begins, no_place, place_of_body, bottom_of, values_of_args}
use Rattle.cx_mean.specs.Work.{is_finished, begun}
use Rattle.cx_mean_laws.proofs.Unfolded.{leaves_no_more, unfinished_takes, asked_behind_steps, goes_unfold}
use Rattle.cx_mean_laws.specs.Laws.{Takes, LeavesWithin, CallsAgree, goes_of, calls_of}
use Rattle.cx_mean_lives.proofs.StoreSizes.{StoreSizes, store_sizes, put_stored_sizes}
use Rattle.cx_mean_lives.proofs.MoveLives.{from_both, from_first, from_second}
use Rattle.cx_mean_lives.specs.Laws.{AreFrom, IsSiteFrom, IsPurposeFrom, IsMoveFrom}
use Rattle.cx_mean_moves.proofs.Leaving.{moves_leave}
use Rattle.cx_mean_moves.specs.Laws.{begun_anew}
use Rattle.cx_typed_calls.proofs.Keeps.{KeepsBelow, keeps_none, keeps_both, keeps_made, keeps_gone, keeps_shapes, keeps_objects, none_same, begun_same, StandKeeps, stand_keeps, shapes_as}
use Rattle.cx_typed_calls.specs.Laws.{AllCallsEndTyped}
use Rattle.cx_typed_leftmost.proofs.Values.{end_as, leftmost_stays_typed}
use Rattle.cx_typed_leftmost.specs.Laws.{IsTypedAt, CallIsTyped, CallsAreTyped, IsTypedEnd}
use Rattle.cx_typed_runs.proofs.Begins.{IsMade, grown, begins_made, shape_is as shape_made}
use Rattle.cx_typed_runs.proofs.Calling.{running_of, for_params, IsSeenAs, seen_by}
use Rattle.cx_typed_runs.proofs.Evaluating.{site_of, home_program}
use Rattle.cx_typed_runs.proofs.Moves.{moves_stand}
use Rattle.cx_typed_runs.proofs.Owned.{memory_without, killed_held, shapes_held, shapes_owned}
use Rattle.cx_typed_runs.proofs.Returns.{given_typed}
use Rattle.cx_typed_runs.proofs.Scenes.{scene_at, objects_append}
use Rattle.cx_typed_runs.proofs.Standing.{IsHere, IsStandOf}
use Rattle.cx_typed_runs.proofs.Taking.{IsParam, param_of, param_for, param_stored, shape_is, definition_of}
use Rattle.cx_typed_runs.proofs.Uses.{store_comes}
use Rattle.cx_typed_runs.specs.Sites.{objects_of, IsRunning, IsSite, home_at, AreOwned}
use Rattle.cx_typed_runs.specs.States.{in_function, home_in, IsPurposeIn, AreForParams, AreBegun, IsMoveIn, slots_of_move}
use Rattle.cx_typed_work.proofs.Given.{value_given as given_value}
use Rattle.cx_typed_work.proofs.Stores.{IsStoredOf}
use Rattle.cx_typed_work.proofs.AlikeCalls.{call_taken, returned_alike, result_unqualified}
use Rattle.cx_typed_work.proofs.AlikeValues.{alike_unqualified}
use Rattle.cx_typed_work.specs.Calls.{IsCalleeIn, IsTypedCall, IsReturned}
use Rattle.cx_typed_values.specs.Outcomes.{Comes}
use Rattle.cx_typed_work.specs.Operands.{IsValueOfType, IsGiven, IsOperandOf}
use Rattle.cx_typed_work.specs.Scenes.{IsAlive, IsScene, IsTypedMemory}
use Rattle.mem_bytes.specs.Access.{and_then}
use Rattle.mem_bytes.specs.Counted.{after_alloc}
use Rattle.mem_bytes.specs.Memory.{Block, Blocks}
use Rattle.mem_bytes.specs.declared.fault.StoreFault.{StoreFault}
use Rattle.mem_bytes.specs.declared.fault.StoreFault.TheVariants.{Full, Memory}
use Rattle.mem_bytes.specs.declared.value.Ptr.{Ptr}
use Rattle.mem_bytes.specs.declared.value.Value.TheVariants.{Object as Pointer}

module _ (program : CProgram) (statics : Frame) (linked : IsLinked program) (begun_is : AreBegun program [] statics) where
  abbrev setting : CSetting
  setting = setting_of program

  abbrev goes : CGoes
  goes = goes_of (setting_of program) statics

  -- ---- what is had at a move, and what is left at the return

  record At (one : CFun) (result : CTy) (bound : ℕ) (now : World) (move : CMove) : Type 0 where
    is_move : IsMoveIn program one result move
    from : IsMoveFrom bound move
    fits : bound ≤ length (blocks_of now)
    memory : IsTypedMemory program (blocks_of now)
    allocated : HeapLives now.held
    owned : AreOwned program now.held (slots_of_move move ++ statics)

  record Good (result : CTy) (bound : ℕ) (before : World) (value : CValue) (after : World) : Type 0 where
    returned : IsReturned program (unqualified result) value
    memory : IsTypedMemory program (blocks_of after)
    allocated : HeapLives after.held
    keeps : KeepsBelow bound before.held after.held

  -- so it is below a number of steps
  abbrev GoodBelow : ℕ → Type 0
  GoodBelow most = (one : CFun) (result : CTy) (bound : ℕ) (now : World) (move : CMove) (left : ℕ) → left < most → At one result bound now move → AtEnd (Good result bound now) (goes move now left)

  good_since : (result : CTy) (bound : ℕ) (before now : World) (piece : CRan CValue) → KeepsBelow bound before.held now.held → AtEnd (Good result bound now) piece → AtEnd (Good result bound before) piece
  good_since result bound before now (came value after left) keeps good = record { returned = good.returned; memory = good.memory; allocated = good.allocated; keeps = keeps_both bound before.held now.held after.held keeps good.keeps }
  good_since result bound before now (halted status after) keeps good = tt
  good_since result bound before now (bad stop after) keeps good = tt
  good_since result bound before now (out after) keeps good = tt

  module _ (most : ℕ) (good : GoodBelow most) where
    -- ---- stands

    stand_good : (one : CFun) (result : CTy) (bound : ℕ) (before now : World) (stand : CStand) (left : ℕ) → left < most → bound ≤ length (blocks_of now) → KeepsBelow bound before.held now.held → IsStandOf program one result now.held statics stand →
        StandKeeps bound now.held stand → AtEnd (Good result bound before) (c_stand goes stand now left)
    stand_good one result bound before now stand left less fits keeps is kept =
        let next : World = with_memory stand.blocks now in
        let both = keeps_both bound before.held now.held next.held keeps kept.keeps in
        good_since result bound before next (goes stand.move next left) both
        (good one result bound next stand.move left less
        (record { is_move = is.move; from = kept.from; fits = (let grows = kept.keeps.grows in omega (arith, fits, grows)); memory = is.memory; allocated = is.allocated; owned = is.owned }))

    -- where both stand in a function
    here_at : (one : CFun) (result : CTy) (now : World) (site : CSite) → IsSite program one result site → IsTypedMemory program (blocks_of now) → HeapLives now.held → AreOwned program now.held (slots_of_site site ++ statics) → IsHere program one result now.held statics site
    here_at one result now site at memory allocated owned = record { linked = linked; at = at; memory = memory; allocated = allocated; owned = owned }

    -- ---- moves that evaluate nothing

    reached_good : (one : CFun) (result : CTy) (bound : ℕ) (now : World) (one_stmt : CStmt) (site : CSite) (left : ℕ) → left < most → At one result bound now (reaches one_stmt site) →
        AtEnd (Good result bound now) (c_stand goes (reached setting one_stmt site (blocks_of now)) now left)
    reached_good one result bound now (stmt place objects form) site left less at =
        let level : CLevel = record { slots = []; form = form; rest = nothing_left } in
        stand_good one result bound now now (reached setting (stmt place objects form) site (blocks_of now)) left less at.fits (keeps_none bound now.held)
        ((moves_stand program one result).reached_it now.held statics site (stmt place objects form) (here_at one result now site at.is_move.0 at.memory at.allocated at.owned) at.is_move.1)
        (stand_keeps bound now.held (slots_in (level ∷ site.levels)) site.bottom (begun_anew setting (slots_in (level ∷ site.levels)) objects (does_form place) form (blocks_of now)) (reached setting (stmt place objects form) site (blocks_of now))
        (begun_same setting (slots_in (level ∷ site.levels)) objects (does_form place) form (blocks_of now)) at.from.levels at.from.params (moves_leave.begins setting objects (does_form place) level site (blocks_of now)))

    -- an object has begun
    has_begun : (one : CFun) (result : CTy) (bound : ℕ) (now : World) (it : CBeginning) (left : ℕ) → left < most → At one result bound now (begins it) → (made : IsMade program it.object) →
        AtEnd (Good result bound now) (c_stand goes (beginning setting it.others it.goal (with_slot (slot it.object (next_place (blocks_of now))) it.level) it.outer (with_block (fresh_block false made.laid.size made.laid.align) (blocks_of now)))
        (with_memory (with_block (fresh_block false made.laid.size made.laid.align) (blocks_of now)) now) left)
    has_begun one result bound now it left less at made =
        let new : Slot = slot it.object (next_place (blocks_of now)) in
        let block = fresh_block false made.laid.size made.laid.align in
        let next : World = with_memory (with_block block (blocks_of now)) now in
        let level : CLevel = with_slot new it.level in
        let more = grown program now it.level.slots (slots_of_site it.outer ++ statics) it.object false made at.memory at.allocated (subst (AreOwned program now.held) (append_assoc it.level.slots (slots_of_site it.outer) statics) at.owned) in
        let stand = beginning setting it.others it.goal level it.outer (blocks_of next) in
        let made_keeps = keeps_made bound now.held block at.fits in
        let levels_from : AreFrom bound (level.slots ++ slots_in it.outer.levels) =
        subst (AreFrom bound) (sym (append_assoc it.level.slots (new ∷ []) (slots_in it.outer.levels)))
        (from_both bound it.level.slots (new ∷ slots_in it.outer.levels) (from_first bound it.level.slots (slots_in it.outer.levels) at.from.0) (at.fits, from_second bound it.level.slots (slots_in it.outer.levels) at.from.0)) in
        stand_good one result bound now next stand left less (let grows = made_keeps.grows in let fits = at.fits in omega (arith, grows, fits)) made_keeps
        ((moves_stand program one result).has_begun next.held statics it new linked at.is_move refl more.memory more.held
        (subst (AreOwned program next.held) (sym (append_assoc (it.level.slots ++ new ∷ []) (slots_of_site it.outer) statics ∙ append_assoc it.level.slots (new ∷ []) (slots_of_site it.outer ++ statics))) more.owned))
        (stand_keeps bound next.held (slots_in (level ∷ it.outer.levels)) it.outer.bottom (begun_anew setting (slots_in (level ∷ it.outer.levels)) it.others it.goal level.form (blocks_of next)) stand
        (begun_same setting (slots_in (level ∷ it.outer.levels)) it.others it.goal level.form (blocks_of next)) levels_from at.from.1 (moves_leave.begins setting it.others it.goal level it.outer (blocks_of next)))

    begins_good : (one : CFun) (result : CTy) (bound : ℕ) (now : World) (it : CBeginning) (left : ℕ) → left < most → At one result bound now (begins it) →
        AtEnd (Good result bound now) (or_stop (object_begins setting no_place it.object now) (λ got after. c_stand goes (beginning setting it.others it.goal (with_slot (slot it.object got.value) it.level) it.outer (blocks_of got.world)) got.world) now left)
    begins_good one result bound now it left less at =
        let made = begins_made program one result it at.is_move in
        subst (λ (found : Result CShape CWhy). AtEnd (Good result bound now) (or_stop (and_then (as_stop no_place found) (λ (shape : CShape). object_begun {F = CFault} false shape.laid.size shape.laid.align now)) (next_of_begun it) now left))
        (sym (shape_made program it.object made)) (by made (after_alloc (limit_of now.terms) (blocks_of now) made.laid.size made.laid.align))
      where
        next_of_begun : CBeginning → Got Ptr → CPiece CValue
        next_of_begun one_it got after = c_stand goes (beginning setting one_it.others one_it.goal (with_slot (slot one_it.object got.value) one_it.level) one_it.outer (blocks_of got.world)) got.world

        by : (made : IsMade program it.object) (outcome : Result Blocks StoreFault) → AtEnd (Good result bound now) (or_stop (begun_at {F = CFault} false made.laid.size made.laid.align now outcome) (next_of_begun it) now left)
        by made (Ok blocks) = has_begun one result bound now it left less at made
        by made (Err (Full need rest)) = tt
        by made (Err Memory) = tt

    -- the function returns
    returned_good : (one : CFun) (result : CTy) (bound : ℕ) (before now : World) (value : CValue) (site : CSite) (left : ℕ) → KeepsBelow bound before.held now.held → IsTypedMemory program (blocks_of now) → HeapLives now.held →
        AreOwned program now.held (slots_of_site site ++ statics) → IsSiteFrom bound site → IsReturned program (unqualified result) value → AtEnd {F = CStop} (Good result bound before) (came (given_back value) (after_return site now) left)
    returned_good one result bound before now value site left keeps memory allocated owned from returned = record {
      returned = given_typed program (unqualified result) value returned;
      memory = memory_without program (slots_of_site site) (blocks_of now) memory;
      allocated = killed_held program now.held (slots_of_site site) statics owned allocated;
      keeps = keeps_both bound before.held now.held (after_return site now).held keeps (keeps_gone bound now.held (slots_of_site site) (from_both bound (slots_in site.levels) site.bottom.params from.levels from.params));
    }

    -- ---- a value is used

    record Used (one : CFun) (result : CTy) (bound : ℕ) (now : World) (node : CExpr) (operand : COperand) (purpose : CPurpose) : Type 0 where
      typed : IsTyped (home_in program (in_function one result) purpose) node
      operand_is : IsOperandOf (home_in program (in_function one result) purpose) node operand
      fits_purpose : IsPurposeIn program one result (type_of node) purpose
      from : IsPurposeFrom bound purpose
      fits : bound ≤ length (blocks_of now)
      memory : IsTypedMemory program (blocks_of now)
      allocated : HeapLives now.held
      owned : AreOwned program now.held (own_frame purpose ++ statics)

    dropped_good : (one : CFun) (result : CTy) (bound : ℕ) (before now : World) (at_once : Bool) (stand : CStand) (left : ℕ) → (at_once ≡ false → left < most) → left ≤ most → bound ≤ length (blocks_of now) → KeepsBelow bound before.held now.held →
        IsStandOf program one result now.held statics stand → StandKeeps bound now.held stand → AtEnd (Good result bound before) (c_dropped goes at_once stand now left)
    dropped_good one result bound before now true stand zero soon late fits keeps is kept = tt
    dropped_good one result bound before now true stand (suc left) soon late fits keeps is kept = stand_good one result bound before now stand left (omega (arith, late)) fits keeps is kept
    dropped_good one result bound before now false stand left soon late fits keeps is kept = stand_good one result bound before now stand left (soon refl) fits keeps is kept

    -- a value is given back
    gives_good : (one : CFun) (result : CTy) (bound : ℕ) (before now : World) (site : CSite) (node : CExpr) (value : CValue) (place : Place) (left : ℕ) → KeepsBelow bound before.held now.held → IsTypedMemory program (blocks_of now) → HeapLives now.held →
        AreOwned program now.held (slots_of_site site ++ statics) → IsSiteFrom bound site → type_of node ≡ unqualified result → IsGiven program node value →
        AtEnd (Good result bound before) (or_bad place (value_given value) (λ got after. came (given_back got) (after_return site after)) now left)
    gives_good one result bound before now site node (scalar value) place left keeps memory allocated owned from same (inl typed) =
        returned_good one result bound before now (scalar value) site left keeps memory allocated owned from (inl (subst (λ t. IsValueOfType program t (scalar value)) same typed))
    gives_good one result bound before now site node (cells held_cells at) place left keeps memory allocated owned from same (inl typed) =
        returned_good one result bound before now (cells held_cells at) site left keeps memory allocated owned from (inl (subst (λ t. IsValueOfType program t (cells held_cells at)) same typed))
    gives_good one result bound before now site node missing place left keeps memory allocated owned from same given = tt
    gives_good one result bound before now site node (scalar value) place left keeps memory allocated owned from same (inr lacks) = absurd lacks.1
    gives_good one result bound before now site node (cells held_cells at) place left keeps memory allocated owned from same (inr lacks) = absurd lacks.1
    gives_good one result bound before now site node (names number) place left keeps memory allocated owned from same given = tt
    gives_good one result bound before now site node (designates to) place left keeps memory allocated owned from same given = tt
    gives_good one result bound before now site node (designates_bits at bit width) place left keeps memory allocated owned from same given = tt

    -- where expressions are evaluated
    scene_here : (one : CFun) (result : CTy) (now : World) (site : CSite) → IsSite program one result site → IsTypedMemory program (blocks_of now) → AreOwned program now.held (slots_of_site site ++ statics) →
        IsScene (home_at program one result site.levels) (slots_of_site site ++ statics) (blocks_of now)
    scene_here one result now site at memory owned = scene_at program now.held one result site.levels site.bottom.params statics linked at.params_are memory owned begun_is

    scene_of_purpose : (one : CFun) (result type : CTy) (now : World) (purpose : CPurpose) → IsPurposeIn program one result type purpose → IsTypedMemory program (blocks_of now) → AreOwned program now.held (own_frame purpose ++ statics) →
        IsScene (home_in program (in_function one result) purpose) (own_frame purpose ++ statics) (blocks_of now)
    scene_of_purpose one result type now purpose fits memory owned =
        let of = site_of program one result type purpose fits in
        subst (λ levels. IsScene (home_at program one result levels) (own_frame purpose ++ statics) (blocks_of now)) (sym of.levels_are)
        (subst (λ frame. AreOwned program now.held (frame ++ statics) → IsScene (home_at program one result of.site.levels) (frame ++ statics) (blocks_of now)) (sym of.frame_is)
        (λ owned_there. scene_here one result now of.site of.at memory owned_there) owned)

    -- a value is stored in an object
    abbrev state_at : World → CState
    state_at now = record { control = has_ended (pos 0); statics = statics; callers = []; world = now; order = [] }

    puts_good : (one : CFun) (result : CTy) (bound : ℕ) (before now : World) (node : CExpr) (at_once : Bool) (operand : COperand) (place : Place) (number : ℕ) (spot : Spot) (part : CTy) (others : CPuts) (behind : CBehind) (left : ℕ) → left ≤ most →
        KeepsBelow bound before.held now.held → Used one result bound now node operand (puts_it place (record { object = number; spot = spot; type = part; others = others; behind = behind })) →
        AtEnd (Good result bound before) (c_use setting statics goes at_once (puts_it place (record { object = number; spot = spot; type = part; others = others; behind = behind })) operand now left)
    puts_good one result bound before now node at_once operand place number spot part others (of_statics all) left late keeps is = absurd is.fits_purpose
    puts_good one result bound before now node at_once operand place number spot part others (in_body site) zero late keeps is = tt
    puts_good one result bound before now node at_once operand place number spot part others (in_body site) (suc left) late keeps is =
        by (put_stored setting (slots_of_site site ++ statics) (blocks_of now) number spot part (with_marks no_marks operand)) refl
        (store_comes program home (state_at now) (puts_it place it) it node operand same scene is.fits_purpose.1
        (subst (λ found. IfSome found (IsAlive home.program (slots_of_site site ++ statics) (blocks_of now))) is.fits_purpose.1.object_is (scene.alive.in_scope number is.fits_purpose.2)) is.typed is.operand_is)
      where
        it : CPutting
        it = record { object = number; spot = spot; type = part; others = others; behind = in_body site }

        home : CHome
        home = home_at program one result site.levels

        same : home.program ≡ program
        same = home_program program (in_function one result) (type_of node) (puts_it place it) is.fits_purpose

        scene : IsScene home (slots_of_site site ++ statics) (blocks_of now)
        scene = scene_here one result now site is.fits_purpose.0 is.memory is.owned

        by : (outcome : Result CStored CWhy) → put_stored setting (slots_of_site site ++ statics) (blocks_of now) number spot part (with_marks no_marks operand) ≡ outcome → Comes (IsStoredOf program part (blocks_of now)) outcome →
            AtEnd (Good result bound before) (or_bad place outcome (λ done. c_stand goes (putting number others (in_body site) done.blocks)) now left)
        by (Ok done) e stored_is =
            let next_held : Held = with_blocks done.blocks now.held in
            let sizes = subst (IfGiven (StoreSizes (blocks_of now))) e (put_stored_sizes setting (slots_of_site site ++ statics) (blocks_of now) number spot part (with_marks no_marks operand)) in
            let here : IsHere program one result next_held statics site = record {
              linked = linked;
              at = is.fits_purpose.0;
              memory = stored_is.memory;
              allocated = shapes_held (blocks_of now) done.blocks now.held.heap stored_is.shapes is.allocated;
              owned = shapes_owned program now.held next_held (slots_of_site site ++ statics) refl stored_is.shapes is.owned;
            } in
            let stands = (moves_stand program one result).puts_left next_held statics site is.fits_purpose.1.object number others here
            (subst (λ (p : CProgram). object_with number p.objects ≡ Some is.fits_purpose.1.object) same is.fits_purpose.1.object_is) is.fits_purpose.2 is.fits_purpose.1.others in
            stand_good one result bound before now (putting number others (in_body site) done.blocks) left (omega (arith, late)) is.fits keeps
            (record { memory = stands.memory; allocated = stands.allocated; owned = stands.owned; move = stands.move })
            (stand_keeps bound now.held (slots_in site.levels) site.bottom done.blocks (putting number others (in_body site) done.blocks) (shapes_as (blocks_of now) done.blocks (sym sizes.many) stored_is.shapes)
            is.from.levels is.from.params (moves_leave.puts number others site done.blocks))
        by (Err why) e stored_is = tt

    used_good : (one : CFun) (result : CTy) (bound : ℕ) (before now : World) (node : CExpr) (at_once : Bool) (operand : COperand) (purpose : CPurpose) (left : ℕ) → (at_once ≡ false → left < most) → left ≤ most → KeepsBelow bound before.held now.held →
        Used one result bound now node operand purpose → AtEnd (Good result bound before) (c_use setting statics goes at_once purpose operand now left)
    used_good one result bound before now node at_once operand (drops_it site) left soon late keeps is =
        dropped_good one result bound before now at_once (next_of site (blocks_of now)) left soon late is.fits keeps
        ((moves_stand program one result).next now.held statics site (here_at one result now site is.fits_purpose is.memory is.allocated is.owned))
        (stand_keeps bound now.held (slots_in site.levels) site.bottom (blocks_of now) (next_of site (blocks_of now)) (none_same (blocks_of now)) is.from.levels is.from.params (moves_leave.next site.levels site.bottom (blocks_of now)))
    used_good one result bound before now node at_once operand (turns_on site) left soon late keeps is =
        dropped_good one result bound before now at_once (turning_on site (blocks_of now)) left soon late is.fits keeps
        ((moves_stand program one result).turned now.held statics site (here_at one result now site is.fits_purpose.0 is.memory is.allocated is.owned) is.fits_purpose.1)
        (stand_keeps bound now.held (slots_in site.levels) site.bottom (blocks_of now) (turning_on site (blocks_of now)) (none_same (blocks_of now)) is.from.levels is.from.params (moves_leave.turns_on site (blocks_of now)))
    used_good one result bound before now node at_once operand (chooses_by place site) zero soon late keeps is = tt
    used_good one result bound before now node at_once operand (chooses_by place site) (suc left) soon late keeps is =
        by (choice_at (blocks_of now) operand.value site.levels site.bottom) refl
        ((moves_stand program one result).chosen_by now.held statics site node operand (here_at one result now site is.fits_purpose.0 is.memory is.allocated is.owned) is.typed is.operand_is is.fits_purpose.1)
      where
        by : (outcome : Result CStand CWhy) → choice_at (blocks_of now) operand.value site.levels site.bottom ≡ outcome → Comes (IsStandOf program one result now.held statics) outcome →
            AtEnd (Good result bound before) (or_bad place outcome (c_stand goes) now left)
        by (Ok stand) e good_stand =
            stand_good one result bound before now stand left (omega (arith, late)) is.fits keeps good_stand
            (stand_keeps bound now.held (slots_in site.levels) site.bottom (blocks_of now) stand (none_same (blocks_of now)) is.from.levels is.from.params (moves_leave.choice (blocks_of now) operand.value site.levels site.bottom stand e))
        by (Err why) e good_stand = tt
    used_good one result bound before now node at_once operand (gives_it place site) zero soon late keeps is = tt
    used_good one result bound before now node at_once operand (gives_it place site) (suc left) soon late keeps is =
        gives_good one result bound before now site node operand.value place left keeps is.memory is.allocated is.owned is.from is.fits_purpose.1
        (subst (λ (p : CProgram). IsGiven p node operand.value) (home_program program (in_function one result) (type_of node) (gives_it place site) is.fits_purpose)
        (given_value (home_in program (in_function one result) (gives_it place site)) node operand.value is.typed is.operand_is.given))
    used_good one result bound before now node at_once operand (puts_it place it) left soon late keeps is =
        puts_good one result bound before now node at_once operand place it.object it.spot it.type it.others it.behind left late keeps is

    -- ---- full expressions

    -- ---- parameters

    -- a parameter has begun, with its argument
    record ParamGood (bound : ℕ) (now : World) (frame : Frame) (number : ℕ) (got : Got Ptr) : Type 0 where
      memory : IsTypedMemory program (blocks_of got.world)
      allocated : HeapLives got.world.held
      owned : AreOwned program got.world.held ((frame ++ slot number got.value ∷ []) ++ statics)
      keeps : KeepsBelow bound now.held got.world.held
      since : bound ≤ got.value.block

    param_good : (bound : ℕ) (now : World) (frame : Frame) (number : ℕ) (value : CValue) (place : Place) (param : IsParam program number value) → bound ≤ length (blocks_of now) → IsTypedMemory program (blocks_of now) → HeapLives now.held →
        AreOwned program now.held (frame ++ statics) → IfGiven (ParamGood bound now frame number) (param_begins setting place number value now)
    param_good bound now frame number value place param fits memory allocated owned =
        subst (λ (found : Result CShape CWhy). IfGiven (ParamGood bound now frame number) (and_then (and_then (as_stop place found) (λ (shape : CShape). object_begun {F = CFault} false shape.laid.size shape.laid.align now)) (argument_stored setting place number value)))
        (sym (shape_is program number value param)) (by_begun (after_alloc (limit_of now.terms) (blocks_of now) param.laid.size param.laid.align))
      where
        made : IsMade program number
        made = record { one = param.one; object_is = param.object_is; laid = param.laid; laid_is = param.laid_is }

        block : Block
        block = fresh_block false param.laid.size param.laid.align

        next : World
        next = with_memory (with_block block (blocks_of now)) now

        by_stored : (outcome : Result CStored CWhy) → IfGiven (StoreSizes (blocks_of next)) outcome → Comes (IsStoredOf program (unqualified param.one.type) (blocks_of next)) outcome →
            IfGiven (ParamGood bound now frame number) (and_then (as_stop place outcome) (λ (one : CStored). Ok (record { value = next_place (blocks_of now); world = with_memory one.blocks next })))
        by_stored (Ok one) sizes is =
            let more = grown program now frame statics number false made memory allocated owned in
            record {
              memory = is.memory;
              allocated = shapes_held (blocks_of next) one.blocks now.held.heap is.shapes more.held;
              owned = shapes_owned program next.held (with_memory one.blocks next).held ((frame ++ slot number (next_place (blocks_of now)) ∷ []) ++ statics) refl is.shapes
                  (subst (AreOwned program next.held) (sym (append_assoc frame (slot number (next_place (blocks_of now)) ∷ []) statics)) more.owned);
              keeps = keeps_both bound now.held next.held (with_memory one.blocks next).held (keeps_made bound now.held block fits) (keeps_shapes bound next.held one.blocks (sym sizes.many) is.shapes);
              since = fits;
            }
        by_stored (Err why) sizes is = tt

        by_begun : (outcome : Result Blocks StoreFault) → IfGiven (ParamGood bound now frame number) (and_then (begun_at {F = CFault} false param.laid.size param.laid.align now outcome) (argument_stored setting place number value))
        by_begun (Ok blocks) =
            let more = grown program now frame statics number false made memory allocated owned in
            subst (λ (found : Result CShape CWhy). IfGiven (ParamGood bound now frame number) (and_then (as_stop place found) (λ (shape : CShape).
            and_then (as_stop place (stored setting [] (blocks_of next) (unqualified shape.type) (designates (Pointer (next_place (blocks_of now)))) value no_marks)) (λ (one : CStored). Ok (record { value = next_place (blocks_of now); world = with_memory one.blocks next })))))
            (sym (shape_is program number value param))
            (by_stored (stored setting [] (blocks_of next) (unqualified param.one.type) (designates (Pointer (next_place (blocks_of now)))) value no_marks)
            (store_sizes setting [] (blocks_of next) (unqualified param.one.type) (designates (Pointer (next_place (blocks_of now)))) value no_marks)
            (param_stored program number value param (blocks_of next) (next_place (blocks_of now)) (omega arith) more.memory))
        by_begun (Err (Full need rest)) = tt
        by_begun (Err Memory) = tt

    -- behind what came of one
    begun_param : (result : CTy) (bound : ℕ) (before now : World) (frame : Frame) (number : ℕ) (outcome : Result (Got Ptr) CStop) (go : Got Ptr → CPiece CValue) (left : ℕ) → IfGiven (ParamGood bound now frame number) outcome →
        ((got : Got Ptr) → ParamGood bound now frame number got → AtEnd (Good result bound before) (go got now left)) → AtEnd (Good result bound before) (or_stop outcome go now left)
    begun_param result bound before now frame number (Ok got) go left is all = all got is
    begun_param result bound before now frame number (Err stop) go left is all = tt

    params_good : (callee : CFun) (result : CTy) (running : IsRunning program callee result) (bound : ℕ) (before now : World) (params : List ℕ) (args : List CValue) (frame : Frame) (left : ℕ) → left < most → bound ≤ length (blocks_of now) → KeepsBelow bound before.held now.held →
        objects_of frame ++ params ≡ callee.params → AreForParams program params args → AreFrom bound frame → IsTypedMemory program (blocks_of now) → HeapLives now.held → AreOwned program now.held (frame ++ statics) →
        AtEnd (Good result bound before) (c_params setting goes callee params args frame now left)
    params_good callee result running bound before now [] [] frame left less fits keeps are typed from memory allocated owned =
        good_since result bound before now (goes (reaches callee.body (site_at [] (bottom_of callee frame))) now left) keeps
        (good callee result bound now (reaches callee.body (site_at [] (bottom_of callee frame))) left less
        (record {
          is_move = (
            record { running = running; levels = tt; whole = tt; params_are = sym (append-nil (objects_of frame)) ∙ are; at_end_is = refl },
            record { declares = []; in_scope = λ number there. absurd (let within : there.0 < 0 = there.1 in omega (arith, within)); typed = (definition_of program callee result linked running).body; first = λ _. refl },
          );
          from = record { levels = tt; params = from };
          fits = fits;
          memory = memory;
          allocated = allocated;
          owned = owned;
        }))
    params_good callee result running bound before now (number ∷ params) (value ∷ args) frame zero less fits keeps are typed from memory allocated owned = tt
    params_good callee result running bound before now (number ∷ params) (value ∷ args) frame (suc left) less fits keeps are typed from memory allocated owned =
        let place = place_of_body callee.body in
        let param = param_of program number value typed.0 linked typed.1 typed.2 (param_for program callee result number params frame linked running are) in
        begun_param result bound before now frame number (param_begins setting place number value now) (λ got after more. c_params setting goes callee params args (frame ++ slot number got.value ∷ []) got.world more) left
        (param_good bound now frame number value place param fits memory allocated owned) (λ got is.
        params_good callee result running bound before got.world params args (frame ++ slot number got.value ∷ []) left (omega (arith, less)) (let grows = is.keeps.grows in omega (arith, grows, fits))
        (keeps_both bound before.held now.held got.world.held keeps is.keeps)
        (ap (λ (list : List ℕ). list ++ params) (objects_append frame (slot number got.value ∷ [])) ∙ append_assoc (objects_of frame) (number ∷ []) params ∙ are) typed.3
        (from_both bound frame (slot number got.value ∷ []) from (is.since, tt)) is.memory is.allocated is.owned)
    params_good callee result running bound before now [] (value ∷ args) frame left less fits keeps are typed from memory allocated owned = absurd typed
    params_good callee result running bound before now (number ∷ params) [] frame left less fits keeps are typed from memory allocated owned = absurd typed

    -- ---- calls

    call_good : (called : CCalled) (callee : CFun) (world : World) (left : ℕ) → left < most → IsTypedCall program called → called.callee ≡ defined callee → IsTypedMemory program (blocks_of world) → HeapLives world.held → AreOwned program world.held statics →
        AtEnd (CallIsTyped program called world) (calls_of (setting_of program) statics callee (values_of_args called.args) world left)
    call_good called callee world left less is callee_is memory allocated owned =
        let there : Contains program.functions callee = subst (IsCalleeIn program) callee_is is.callee_in in
        let running = running_of program callee linked there in
        let result = running.0 in
        let of_function : form_of_type (type_of_callee called.callee) ≡ function result running.1.params running.1.variadic = ap (λ it. form_of_type (type_of_callee it)) callee_is ∙ running.1.type_is in
        let seen = seen_by program is.visible (type_of_callee called.callee) result called.type running.1.params running.1.variadic called.args (form_of_type is.visible) is.compatible refl of_function is.called_as in
        let args = for_params program callee.params (values_of_args called.args) (call_taken (home_of program None callee.unit) called callee result running.1.params running.1.variadic linked.types is callee_is running.1.type_is (definition_of program callee result linked running.1)) in
        as_call called world result seen (calls_of (setting_of program) statics callee (values_of_args called.args) world left)
        (params_good callee result running.1 (length (blocks_of world)) world world callee.params (values_of_args called.args) [] left less (omega arith) (keeps_none (length (blocks_of world)) world.held) refl args tt memory allocated owned)
      where
        as_call : (one : CCalled) (before : World) (given : CTy) → IsSeenAs program one.type given → (piece : CRan CValue) → AtEnd (Good given (length (blocks_of before)) before) piece → AtEnd (CallIsTyped program one before) piece
        as_call one before given seen (came value after rest) is_good = record {
          returned = subst (λ t. IsReturned program t value) (sym seen.type_is)
              (returned_alike program (unqualified seen.visible) (unqualified given) value linked.types (alike_unqualified program.types seen.visible given seen.compatible) (result_unqualified program.types seen.visible seen.is_result) is_good.returned);
          memory = is_good.memory;
          allocated = is_good.allocated;
          keeps = record { grows = is_good.keeps.grows; lives = is_good.keeps.lives; not_allocated = is_good.keeps.not_allocated };
        }
        as_call one before given seen (halted status after) is_good = tt
        as_call one before given seen (bad stop after) is_good = tt
        as_call one before given seen (out after) is_good = tt

    -- ---- full expressions

    -- behind a number of steps no call goes on
    abbrev cut_by : Bool → CFun → List CValue → World → ℕ → CRan CValue
    cut_by true callee args world left = calls_of (setting_of program) statics callee args world left
    cut_by false callee args world left = out world

    abbrev cut : CCalls
    cut callee args world left = cut_by (nat_le (suc left) most) callee args world left

    cut_typed : CallsAreTyped program statics cut
    cut_typed called callee world left is callee_is memory allocated owned = by (nat_le (suc left) most) refl
      where
        by : (test : Bool) → nat_le (suc left) most ≡ test → AtEnd (CallIsTyped program called world) (cut_by test callee (values_of_args called.args) world left)
        by true less = call_good called callee world left (leb-true (suc left) most less) is callee_is memory allocated owned
        by false less = tt

    agrees : CallsAgree most (calls_of (setting_of program) statics) cut
    agrees callee args world left less = ap (λ (test : Bool). cut_by test callee args world left) (sym (le-leb (suc left) most less))

    -- ---- a move

    -- where a full expression has come to its end
    record Evaluated (home : CHome) (frame : Frame) (node : CExpr) (bound : ℕ) (before : World) (operand : COperand) (now : World) : Type 0 where
      operand_is : IsOperandOf home node operand
      memory : IsTypedMemory home.program (blocks_of now)
      allocated : HeapLives now.held
      owned : AreOwned home.program now.held frame
      keeps : KeepsBelow bound before.held now.held

    evaluated : (one : CFun) (result : CTy) (bound : ℕ) (now : World) (node : CExpr) (purpose : CPurpose) (left : ℕ) → left ≤ most → At one result bound now (values node purpose) →
        AtEnd (Evaluated (home_in program (in_function one result) purpose) (own_frame purpose ++ statics) node bound now) (c_value setting (calls_of (setting_of program) statics) (own_frame purpose ++ statics) node now left)
    evaluated one result bound now node purpose left late at =
        subst (λ (piece : CRan COperand). AtEnd (Evaluated home frame node bound now) piece) (sym (asked_behind_steps.value setting (calls_of (setting_of program) statics) cut frame node now left (goes_unfold.calls_bounded setting statics)
        (λ callee args world more less. agrees callee args world more (omega (arith, less, late)))))
        (end_as (IsTypedEnd home frame node now) (Evaluated home frame node bound now) (c_value setting cut frame node now left)
        (subst (λ (p : CProgram). CallsAreTyped p statics cut → AtEnd (IsTypedEnd home frame node now) (c_value (setting_of p) cut frame node now left)) same
        (λ typed. leftmost_stays_typed home cut (own_frame purpose) statics node now left typed (inl at.is_move.typed) here) cut_typed)
        (λ operand after is. record {
          operand_is = is.operand_is;
          memory = is.at.scene.memory;
          allocated = is.at.allocated;
          owned = is.at.owned;
          keeps = keeps_objects bound now.held after.held at.fits is.keeps;
        }))
      where
        home : CHome
        home = home_in program (in_function one result) purpose

        frame : Frame
        frame = own_frame purpose ++ statics

        same : home.program ≡ program
        same = home_program program (in_function one result) (type_of node) purpose at.is_move.fits

        here : IsTypedAt home frame now
        here = record {
          scene = scene_of_purpose one result (type_of node) now purpose at.is_move.fits at.memory at.owned;
          allocated = at.allocated;
          owned = subst (λ (p : CProgram). AreOwned p now.held frame) (sym same) at.owned;
        }

    values_good : (one : CFun) (result : CTy) (bound : ℕ) (now : World) (node : CExpr) (purpose : CPurpose) (left : ℕ) → left ≤ most → At one result bound now (values node purpose) →
        AtEnd (Good result bound now) (bind (c_value setting (calls_of (setting_of program) statics) (own_frame purpose ++ statics) node now left) (c_use setting statics goes (is_finished (begun node)) purpose))
    values_good one result bound now node purpose left late at =
        by (c_value setting (calls_of (setting_of program) statics) (own_frame purpose ++ statics) node now left) (evaluated one result bound now node purpose left late at)
        (leaves_no_more.value setting (calls_of (setting_of program) statics) (own_frame purpose ++ statics) node now left (goes_unfold.calls_bounded setting statics))
        (λ unfinished. unfinished_takes setting (calls_of (setting_of program) statics) (own_frame purpose ++ statics) node now left (goes_unfold.calls_bounded setting statics) unfinished)
      where
        same : (home_in program (in_function one result) purpose).program ≡ program
        same = home_program program (in_function one result) (type_of node) purpose at.is_move.fits

        by : (piece : CRan COperand) → AtEnd (Evaluated (home_in program (in_function one result) purpose) (own_frame purpose ++ statics) node bound now) piece → LeavesWithin left piece → (is_finished (begun node) ≡ false → Takes 1 left piece) →
            AtEnd (Good result bound now) (bind piece (c_use setting statics goes (is_finished (begun node)) purpose))
        by (came operand after more) is within takes =
            used_good one result bound now after node (is_finished (begun node)) operand purpose more (λ unfinished. let less = takes unfinished in omega (arith, less, late)) (omega (arith, within, late)) is.keeps
            (record {
              typed = at.is_move.typed;
              operand_is = is.operand_is;
              fits_purpose = at.is_move.fits;
              from = at.from;
              fits = (let grows = is.keeps.grows in let fits = at.fits in omega (arith, grows, fits));
              memory = subst (λ (p : CProgram). IsTypedMemory p (blocks_of after)) same is.memory;
              allocated = is.allocated;
              owned = subst (λ (p : CProgram). AreOwned p after.held (own_frame purpose ++ statics)) same is.owned;
            })
        by (halted status after) is within takes = tt
        by (bad stop after) is within takes = tt
        by (out after) is within takes = tt

    move_good : (one : CFun) (result : CTy) (bound : ℕ) (now : World) (move : CMove) (left : ℕ) → left ≤ most → At one result bound now move → AtEnd (Good result bound now) (c_move setting statics goes move now left)
    move_good one result bound now (values node purpose) left late at = values_good one result bound now node purpose left late at
    move_good one result bound now (reaches one_stmt site) zero late at = tt
    move_good one result bound now (reaches one_stmt site) (suc left) late at = reached_good one result bound now one_stmt site left (omega (arith, late)) at
    move_good one result bound now (begins it) zero late at = tt
    move_good one result bound now (begins it) (suc left) late at = begins_good one result bound now it left (omega (arith, late)) at
    move_good one result bound now (leaves value site) zero late at = tt
    move_good one result bound now (leaves value site) (suc left) late at =
        returned_good one result bound now now value site left (keeps_none bound now.held) at.memory at.allocated at.owned at.from at.is_move.1
    move_good one result bound now calls_main left late at = absurd at.is_move
    move_good one result bound now (goes_nowhere place) left late at = absurd at.is_move

  -- ---- any number of steps

  all_good : (most : ℕ) → GoodBelow most
  all_good zero one result bound now move left less at = absurd (omega (arith, less))
  all_good (suc most) one result bound now move left less at =
      subst (λ (piece : CRan CValue). AtEnd (Good result bound now) piece) (sym (goes_unfold.unfolds setting statics move now left)) (move_good most (all_good most) one result bound now move left (omega (arith, less)) at)

  calls_typed : CallsAreTyped program statics (calls_of (setting_of program) statics)
  calls_typed called callee world left is callee_is memory allocated owned = call_good (suc left) (all_good (suc left)) called callee world left (omega arith) is callee_is memory allocated owned

pub calls_end_typed : AllCallsEndTyped
calls_end_typed program statics linked begun_is = calls_typed program statics linked begun_is
