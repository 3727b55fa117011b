-- A function of the crate is entered beside that of C.
use Rattle.std.proofs.Common.{◌≡◌, ◌≢◌, ◌∙◌, ◌⊎◌, inl, inr, ⊎_elim, ℕ, zero, suc, pred, ◌+◌, ◌<◌, ◌≤◌, true, All, List, [], ◌∷◌, ◌++◌, map, length, Option, Some, None, Result, Ok, refl, sym, ap, subst, arith, append_assoc, length-append}
use Rattle.std.specs.List.{Contains}
use Rattle.std.proofs.lemmas.List.{length-replicate}
use Rattle.std.proofs.lemmas.List.Elements.{All-nil, All-cons, Contains-append_right}
use Rattle.cr_base.specs.declared.layout.Laid.{Laid}
use Rattle.cr_base.specs.declared.scalar.Scalar.TheVariants.{Object as Address}
use Rattle.cr_runs.proofs.Rules.{values, no_meaning, renamed}
use Rattle.cr_runs.specs.Owes.{Owes}
use Rattle.cr_runs.specs.Runs.{Ran, came, bad}
use Rattle.cr_runs_rules.proofs.Rules.{alone}
use Rattle.cr_world.specs.Held.{zero_block, with_block, next_place}
use Rattle.cr_world.specs.World.{Got, World, Stop, open_ended, blocks_of, with_memory, events_of}
use Rattle.cx_core.specs.Trees.{CObject, CFun, unqualified}
use Rattle.cx_core.specs.Typing.{object_with}
use Rattle.cx_mean.specs.Leftmost.{CRan, or_stop}
use Rattle.cx_mean.specs.Operands.{CStop, CValue, Slot, Frame as CFrame}
use Rattle.cx_mean.specs.State.{slot, param_begins, place_of_body}
use Rattle.cx_typed_runs.specs.States.{AreForParams}
use Rattle.cx_typed_work.specs.Operands.{IsValueOfType}
use Rattle.lift_calls.specs.Bodies.{ResultAgrees, HoldsResult}
use Rattle.lift_calls.specs.Calls.{result_laid, ResultPlace, ResultHanded, AreHanded, CallStands}
use Rattle.lift_calls.specs.Entries.{c_entered, Entered, frame_in, copied_to, crate_entered, EntryMeets}
use Rattle.lift_calls.specs.Frames.{FunctionNames, IsLocal}
use Rattle.lift_calls.specs.Programs.{Setting, setting_in}
use Rattle.lift_calls_entry.specs.Entry.{IsObjectLocal, AreParams, ResultParam, AllDiffer, all_locals, CanBegin, EntryMeans}
use Rattle.lift_calls_entry.specs.Laws.{EntriesOwe}
use Rattle.lift_calls_entry.proofs.Begun.{HasBegun, ParamHeld, ParamsHeld, Progress, at_first, goes_on}
use Rattle.lift_calls_entry.proofs.Entered.{entry_meets, owned_there}
use Rattle.lift_calls_entry.proofs.Fresh.{block_with, seq_comes, in_some, locals_from, IsPassed, ArePassed, AreZero, params_begin, locals_begin}
use Rattle.lift_calls_entry.proofs.Locals.{is_among, one_block, is_local, AreLaid, laid_block, live_seam, locals_join, ZeroLocal, zero_local}
use Rattle.lift_calls_entry.proofs.Passed.{holds_value, plain_passed, record_passed}
use Rattle.lift_calls_entry.proofs.Prologue.{older_live, all_held, AreThere, Copying, Copied, all_copied}
use Rattle.lift_calls_entry.proofs.Stored.{param_begun, ParamBegun, IsBroken}
use Rattle.lift_does.proofs.Runs.{same_events}
use Rattle.lift_stands.specs.Stands.{Images, image_of, with_image}
use Rattle.lift_stands_lives.proofs.Rooms.{fresh_held}
use Rattle.mem_bytes.proofs.Coded.{length-cells_of}
use Rattle.mem_bytes.proofs.Held.{held_value}
use Rattle.mem_bytes.proofs.Slots.{live_within}
use Rattle.mem_bytes.specs.Coding.{IsValueOf, cells_of}
use Rattle.mem_bytes.specs.Laws.{IsHeld}
use Rattle.mem_bytes.specs.Memory.{Block, Blocks, live_block, size_of, byte_cell}
use Rattle.mem_bytes.specs.declared.value.Ptr.{Ptr}
use Rattle.mem_bytes.specs.declared.value.Value.TheVariants.{Object}
use Rattle.rs_mean.specs.Calls.{begin_params, begin_locals}
use Rattle.rs_mean.specs.Layout.{laid_of}
use Rattle.rs_mean.specs.Lookups.{LocalBlock}
use Rattle.rs_mean.specs.Run.{Frame, normal, run_stmts}
use Rattle.rs_mean.specs.Scalars.{scalar_of}
use Rattle.rs_mean.specs.Values.{Typed}
use Rattle.rs_mean.specs.World.{pure, seq}
use Rattle.rs_mean.specs.declared.cause.Cause.{Cause}
use Rattle.rs_text.specs.Tree.{Ty, Pointer, Local, Stmt, stmts, LocalTree, FunctionTree, ModuleTree}

-- ---- lists of blocks

some_join : (first others : List Block) → in_some (first ++ others) ≡ in_some first ++ in_some others
some_join [] others = refl
some_join (one ∷ first) others = ap (λ rest. Some one ∷ rest) (some_join first others)

passed_long : (modules : List ModuleTree) (params : List LocalTree) (args : List Typed) (blocks : List Block) → ArePassed modules params args blocks → length (in_some blocks) ≡ length params
passed_long modules [] [] [] are = refl
passed_long modules (param ∷ params) (arg ∷ args) (block ∷ blocks) are = ap suc (passed_long modules params args blocks are.1)
passed_long modules [] [] (block ∷ blocks) are = absurd are
passed_long modules [] (arg ∷ args) blocks are = absurd are
passed_long modules (param ∷ params) [] blocks are = absurd are
passed_long modules (param ∷ params) (arg ∷ args) [] are = absurd are

passed_size : (modules : List ModuleTree) (param : LocalTree) (arg : Typed) (block : Block) (is : IsPassed modules param arg block) → size_of block ≡ is.laid.size
passed_size modules param arg block is = ap size_of is.block_is ∙ is.many ∙ sym is.size

zero_size : (modules : List ModuleTree) (laid : Laid) (block : Block) → block ≡ zero_block laid.size laid.align → size_of block ≡ laid.size
zero_size modules laid block is = ap size_of is ∙ length-replicate laid.size (byte_cell 0)

zeros_laid : (modules : List ModuleTree) (list : List LocalTree) (blocks : List Block) → AreZero modules list blocks → AreLaid modules list blocks
zeros_laid modules [] [] are = tt
zeros_laid modules (one ∷ list) (block ∷ blocks) are = (are.0, are.1, zero_size modules are.0 block are.2, ap (λ (b : Block). b.align) are.2, zeros_laid modules list blocks are.3)
zeros_laid modules [] (block ∷ blocks) are = absurd are
zeros_laid modules (one ∷ list) [] are = absurd are

all_laid : (modules : List ModuleTree) (params : List LocalTree) (args : List Typed) (blocks : List Block) (list : List LocalTree) (zeros : List Block) → ArePassed modules params args blocks → AreZero modules list zeros → AreLaid modules (params ++ list) (blocks ++ zeros)
all_laid modules [] [] [] list zeros are others = zeros_laid modules list zeros others
all_laid modules (param ∷ params) (arg ∷ args) (block ∷ blocks) list zeros are others =
    (are.0.laid, are.0.laid_is, passed_size modules param arg block are.0, ap (λ (b : Block). b.align) are.0.block_is, all_laid modules params args blocks list zeros are.1 others)
all_laid modules [] [] (block ∷ blocks) list zeros are others = absurd are
all_laid modules [] (arg ∷ args) blocks list zeros are others = absurd are
all_laid modules (param ∷ params) [] blocks list zeros are others = absurd are
all_laid modules (param ∷ params) (arg ∷ args) [] list zeros are others = absurd are

zeros_held : (modules : List ModuleTree) (list : List LocalTree) (blocks : List Block) → AreZero modules list blocks → All (λ (block : Block). All IsHeld block.cells) blocks
zeros_held modules [] [] are = All-nil (λ (b : Block). All IsHeld b.cells)
zeros_held modules (one ∷ list) (block ∷ blocks) are =
    All-cons (λ (b : Block). All IsHeld b.cells) block blocks (subst (λ (b : Block). All IsHeld b.cells) (sym are.2) (fresh_held true are.0.size are.0.align)) (zeros_held modules list blocks are.3)
zeros_held modules [] (block ∷ blocks) are = absurd are
zeros_held modules (one ∷ list) [] are = absurd are

passed_held : (modules : List ModuleTree) (params : List LocalTree) (args : List Typed) (blocks zeros : List Block) → ArePassed modules params args blocks → All (λ (block : Block). All IsHeld block.cells) zeros → All (λ (block : Block). All IsHeld block.cells) (blocks ++ zeros)
passed_held modules [] [] [] zeros are others = others
passed_held modules (param ∷ params) (arg ∷ args) (block ∷ blocks) zeros are others =
    All-cons (λ (b : Block). All IsHeld b.cells) block (blocks ++ zeros) (subst (λ (b : Block). All IsHeld b.cells) (sym are.0.block_is) (held_value are.0.kind arg.value)) (passed_held modules params args blocks zeros are.1 others)
passed_held modules [] [] (block ∷ blocks) zeros are others = absurd are
passed_held modules [] (arg ∷ args) blocks zeros are others = absurd are
passed_held modules (param ∷ params) [] blocks zeros are others = absurd are
passed_held modules (param ∷ params) (arg ∷ args) [] zeros are others = absurd are

-- the blocks of locals
abbrev Zeros : List ModuleTree → List LocalTree → Type 0
Zeros modules list = (blocks : List Block) × AreZero modules list blocks

zeros_of : (s : Setting) (list : List LocalTree) → ((local : LocalTree) → Contains list local → CanBegin s local) → Zeros s.modules list
zeros_of s [] begins = ([], tt)
zeros_of s (one ∷ list) begins =
    let can = begins one (0, omega arith, refl) in
    let rest = zeros_of s list (λ local there. begins local (suc there.0, (let less = there.1 in omega (arith, less)), there.2)) in
    (zero_block can.laid.size can.laid.align ∷ rest.0, (can.laid, can.laid_is, refl, rest.1))

-- ---- the loop over the parameters of C

abbrev pub entered_so : Setting → List LocalBlock → World → ℕ → Ran (Stop Cause) World Entered
entered_so s locals entered units = came (record { locals = locals; flow = normal }) entered units

no_more : (list : List ℕ) → list ++ [] ≡ list
no_more [] = refl
no_more (number ∷ list) = ap (λ rest. number ∷ rest) (no_more list)

objects_join : (frame : CFrame) (new : Slot) → map (λ (one : Slot). one.object) (frame ++ new ∷ []) ≡ map (λ (one : Slot). one.object) frame ++ new.object ∷ []
objects_join [] new = refl
objects_join (first ∷ frame) new = ap (λ rest. first.object ∷ rest) (objects_join frame new)

object_among : (frame : CFrame) (one : Slot) → Contains frame one → Contains (map (λ (held : Slot). held.object) frame) one.object
object_among [] one there = absurd (let less : there.0 < 0 = there.1 in omega (arith, less))
object_among (first ∷ frame) one (zero, less, same) = (0, omega arith, ap (λ (held : Slot). held.object) same)
object_among (first ∷ frame) one (suc k, less, same) =
    let rest = object_among frame one (k, omega (arith, less), same) in
    (suc rest.0, (let below = rest.1 in omega (arith, below)), rest.2)

front_differs : (front : List ℕ) (number : ℕ) (others : List ℕ) → AllDiffer (front ++ number ∷ others) → (one : ℕ) → Contains front one → one ≢ number
front_differs [] number others differ one there = absurd (let less : there.0 < 0 = there.1 in omega (arith, less))
front_differs (first ∷ front) number others differ one (zero, less, same) =
    λ equal. differ.0 number (Contains-append_right front (number ∷ others) number (0, omega arith, refl)) (same ∙ equal)
front_differs (first ∷ front) number others differ one (suc k, less, same) = front_differs front number others differ.1 one (k, omega (arith, less), same)

-- ---- an entry

no_result : (base : ℕ) (later : Images) (world : World) (frame : Frame) (laid : Option Laid) (name : Option (List ℕ)) (place : Option Ptr) → laid ≡ None → name ≡ None → place ≡ None → ResultAgrees base later world frame laid name place
no_result base later world frame None None None no_laid no_name no_place = tt
no_result base later world frame None None (Some at) no_laid no_name no_place = cc
no_result base later world frame None (Some name) place no_laid no_name no_place = cc
no_result base later world frame (Some laid) name place no_laid no_name no_place = cc

some_result : (base : ℕ) (later : Images) (world : World) (frame : Frame) (laid found : Option Laid) (name wanted : Option (List ℕ)) (place to : Option Ptr) → found ≡ laid → wanted ≡ name → to ≡ place → ResultAgrees base later world frame found wanted to →
    ResultAgrees base later world frame laid name place
some_result base later world frame laid found name wanted place to laid_is name_is place_is agrees =
    subst (λ (l : Option Laid). ResultAgrees base later world frame l name place) laid_is
    (subst (λ (n : Option (List ℕ)). ResultAgrees base later world frame found n place) name_is
    (subst (λ (p : Option Ptr). ResultAgrees base later world frame found wanted p) place_is agrees))

module _ (s : Setting) (one : CFun) (tree : FunctionTree) (names : FunctionNames) (copies : List Stmt) (mean : EntryMeans s one tree names copies) (units steps : ℕ) (images : Images) (place : Option Ptr)
    (args : List CValue) (given : List Typed) (c_world world : World) (stands : CallStands s images place one tree args given c_world world) where
  abbrev pub base : ℕ
  base = length (blocks_of world)

  abbrev pub locals : List LocalBlock
  locals = locals_from base (all_locals tree)

  -- what all this comes to: memory behind the entry of the crate
  pub record CrateEntered : Type 0 where
    pub memory : Blocks
    pub runs : (more : ℕ) → crate_entered s tree (stmts copies) given world more ≡ entered_so s locals (with_memory memory world) more
    pub has : HasBegun s names images place c_world world locals memory
    pub params : ParamsHeld s names images place c_world world locals memory one.params args
    pub result : (later : Images) (frame : CFrame) (c : World) → Progress s names images place c_world world locals memory later frame c →
        ResultAgrees base later (with_memory memory world) (frame_in s locals) (result_laid s one) names.result place

  -- ---- in C

  module _ (entered : CrateEntered) where
    abbrev behind : World
    behind = with_memory entered.memory world

    abbrev Meets : CFrame → World → Entered → World → Type 0
    Meets = EntryMeets s one names images place c_world world

    -- behind the step of one parameter
    abbrev step_on : (number : ℕ) (numbers : List ℕ) → CValue → List CValue → CFrame → World → ℕ → CRan CFrame
    step_on number numbers value left frame c units_left =
        or_stop (param_begins (setting_in s) (place_of_body one.body) number value c) (λ got after more. c_entered (setting_in s) one numbers left (frame ++ slot number got.value ∷ []) got.world more) c units_left

    behind_step : (m : ℕ) (number : ℕ) (numbers : List ℕ) (value : CValue) (left : List CValue) (frame : CFrame) (c : World) (param : ParamHeld s names images place c_world world locals entered.memory number value) →
        ParamBegun (setting_in s) number value param.param c (param_begins (setting_in s) (place_of_body one.body) number value c) ⊎ IsBroken (param_begins (setting_in s) (place_of_body one.body) number value c) →
        Owes events_of events_of Meets units m (c_entered (setting_in s) one numbers left (frame ++ slot number (next_place (blocks_of c)) ∷ []) (with_memory (with_block (block_with param.param.laid.align param.param.list) (blocks_of c)) c)) (entered_so s locals behind) →
        Owes events_of events_of Meets units m (step_on number numbers value left frame c) (entered_so s locals behind)
    behind_step m number numbers value left frame c param (inl begun) owes =
        renamed events_of events_of Meets units m (c_entered (setting_in s) one numbers left (frame ++ slot number (next_place (blocks_of c)) ∷ []) (with_memory (with_block (block_with param.param.laid.align param.param.list) (blocks_of c)) c))
        (step_on number numbers value left frame c) (entered_so s locals behind) (entered_so s locals behind)
        (λ k. sym (ap (λ (r : Result (Got Ptr) CStop). or_stop r (λ got after more. c_entered (setting_in s) one numbers left (frame ++ slot number got.value ∷ []) got.world more) c k) begun.is)) (λ k. refl) owes
    behind_step m number numbers value left frame c param (inr broken) owes =
        renamed events_of events_of Meets units m (λ k. bad broken.0 c) (step_on number numbers value left frame c) (entered_so s locals behind) (entered_so s locals behind)
        (λ k. sym (ap (λ (r : Result (Got Ptr) CStop). or_stop r (λ got after more. c_entered (setting_in s) one numbers left (frame ++ slot number got.value ∷ []) got.world more) c k) broken.1)) (λ k. refl)
        (no_meaning events_of events_of Meets units m broken.0 c (entered_so s locals behind))

    -- what is left of them
    entries : (m : ℕ) (numbers : List ℕ) (values_left : List CValue) (later : Images) (frame : CFrame) (c : World) → map (λ (held : Slot). held.object) frame ++ numbers ≡ one.params → AreForParams s.program numbers values_left →
        ParamsHeld s names images place c_world world locals entered.memory numbers values_left → Progress s names images place c_world world locals entered.memory later frame c →
        Owes events_of events_of Meets units m (c_entered (setting_in s) one numbers values_left frame c) (entered_so s locals behind)
    entries m [] [] later frame c are typed held progress =
        values events_of events_of Meets units m frame c (record { locals = locals; flow = normal }) behind
        (entry_meets s one tree names copies mean images place c_world world entered.memory entered.has stands.program later frame c progress (sym (no_more (map (λ (it : Slot). it.object) frame)) ∙ are) (entered.result later frame c progress))
    entries m (number ∷ numbers) (value ∷ values_left) later frame c are typed held progress =
        let param = held.0 in
        let same : typed.0 ≡ param.param.one = (let its = param.param.object_is in let mine = typed.1 in cc) in
        let of_type : IsValueOfType s.program (unqualified param.param.one.type) value = subst (λ (o : CObject). IsValueOfType s.program (unqualified o.type) value) same typed.2 in
        let differ : AllDiffer (map (λ (it : Slot). it.object) frame ++ number ∷ numbers) = subst AllDiffer (sym are) mean.differ in
        let new : Slot = slot number (next_place (blocks_of c)) in
        alone events_of events_of Meets units m c (c_entered (setting_in s) one (number ∷ numbers) (value ∷ values_left) frame c) (step_on number numbers value values_left frame c) (entered_so s locals behind) (λ k. refl) (refl, sym (same_events later c behind progress.stands))
        (behind_step (pred m) number numbers value values_left frame c param (param_begun (setting_in s) (place_of_body one.body) number value c progress.stands.terms param.param)
        (entries (pred m) numbers values_left (with_image param.local.block later) (frame ++ new ∷ []) (with_memory (with_block (block_with param.param.laid.align param.param.list) (blocks_of c)) c)
        (ap (λ (list : List ℕ). list ++ numbers) (objects_join frame new) ∙ append_assoc (map (λ (it : Slot). it.object) frame) (number ∷ []) numbers ∙ are) typed.3 held.1
        (goes_on s names images place c_world world locals entered.memory entered.has later frame c progress number value param
        (λ it among. front_differs (map (λ (held_slot : Slot). held_slot.object) frame) number numbers differ it.object (object_among frame it among)) of_type)))
    entries m [] (value ∷ values_left) later frame c are typed held progress = absurd typed
    entries m (number ∷ numbers) [] later frame c are typed held progress = absurd typed

    pub owes_entered : Owes events_of events_of Meets units steps (c_entered (setting_in s) one one.params args [] c_world) (crate_entered s tree (stmts copies) given world)
    owes_entered =
        renamed events_of events_of Meets units steps (c_entered (setting_in s) one one.params args [] c_world) (c_entered (setting_in s) one one.params args [] c_world) (entered_so s locals behind) (crate_entered s tree (stmts copies) given world)
        (λ k. refl) (λ k. sym (entered.runs k))
        (entries steps one.params args images [] c_world refl stands.taken entered.params (at_first s names images place c_world world locals entered.memory entered.has stands.scope.memory stands.scope.owned))

  -- ---- in the crate

  abbrev first : List Block → List Block → Blocks
  first blocks zeros = blocks_of world ++ in_some (blocks ++ zeros)

  open_is : world.terms ≡ open_ended
  open_is = stands.worlds.other_terms

  -- where parameters and locals have begun
  module _ (blocks zeros : List Block) (passed : ArePassed s.modules tree.params given blocks) (zero : AreZero s.modules tree.locals zeros) where
    abbrev with_params : World
    with_params = with_memory (blocks_of world ++ in_some blocks) world

    begun_number : length (blocks_of with_params) ≡ base + length tree.params
    begun_number = length-append (blocks_of world) (in_some blocks) ∙ ap (λ (n : ℕ). base + n) (passed_long s.modules tree.params given blocks passed)

    memories_join : blocks_of with_params ++ in_some zeros ≡ first blocks zeros
    memories_join = append_assoc (blocks_of world) (in_some blocks) (in_some zeros) ∙ ap (λ (rest : Blocks). blocks_of world ++ rest) (sym (some_join blocks zeros))

    begun_locals : (more : ℕ) → begin_locals s.modules tree.locals with_params more ≡ came (locals_from (base + length tree.params) tree.locals) (with_memory (first blocks zeros) world) more
    begun_locals more =
        locals_begin s.modules tree.locals zeros with_params more open_is zero
        ∙ ap (λ (n : ℕ). came (locals_from n tree.locals) (with_memory (blocks_of with_params ++ in_some zeros) world) more) begun_number
        ∙ ap (λ (all : Blocks). came (locals_from (base + length tree.params) tree.locals) (with_memory all world) more) memories_join

    begun_all : (copied : Copied s names images place c_world world tree.params tree.locals (first blocks zeros) one.params args copies (first blocks zeros)) → (more : ℕ) →
        crate_entered s tree (stmts copies) given world more ≡ entered_so s locals (with_memory copied.after world) more
    unfolding seq pure
    begun_all copied more =
        seq_comes (begin_params s.modules tree.params given) (λ params. seq (begin_locals s.modules tree.locals) (λ others. copied_to s (stmts copies) (params ++ others))) world with_params more (locals_from base tree.params)
        (params_begin s.modules tree.params given blocks world more open_is passed)
        ∙ seq_comes (begin_locals s.modules tree.locals) (λ others. copied_to s (stmts copies) (locals_from base tree.params ++ others)) with_params (with_memory (first blocks zeros) world) more (locals_from (base + length tree.params) tree.locals) (begun_locals more)
        ∙ ap (λ (list : List LocalBlock). copied_to s (stmts copies) list (with_memory (first blocks zeros) world) more) (sym (locals_join base tree.params tree.locals))
        ∙ seq_comes (run_stmts (frame_in s locals) (stmts copies)) (λ flow. pure (record { locals = locals; flow = flow })) (with_memory (first blocks zeros) world) (with_memory copied.after world) more normal (copied.runs more)

    at_copies : Copying s names images place c_world world tree.params tree.locals (first blocks zeros) (first blocks zeros)
    at_copies = record {
      passed = λ number less. refl;
      lays = λ local among. laid_block s.modules (blocks_of world) (all_locals tree) (blocks ++ zeros) local (all_laid s.modules tree.params given blocks tree.locals zeros passed zero) among;
      long = refl;
      held = all_held (blocks_of world) (blocks ++ zeros) stands.worlds.held.memories.others_held (passed_held s.modules tree.params given blocks zeros passed (zeros_held s.modules tree.locals zeros zero));
    }

    older : (number : ℕ) → number < base → live_block (first blocks zeros) number ≡ live_block (blocks_of world) number
    older number less = older_live (blocks_of world) (blocks ++ zeros) number less

    zero_begun : (it : LocalTree) → Contains tree.locals it → ZeroLocal (first blocks zeros) locals it
    zero_begun it there =
        let here = zero_local s.modules (blocks_of world ++ in_some blocks) tree.locals zeros it zero there in
        let among : Contains (locals_from (base + length tree.params) tree.locals) here.local = subst (λ (n : ℕ). Contains (locals_from n tree.locals) here.local) begun_number here.among in
        record {
          local = here.local;
          among = subst (λ (list : List LocalBlock). Contains list here.local) (sym (locals_join base tree.params tree.locals)) (Contains-append_right (locals_from base tree.params) (locals_from (base + length tree.params) tree.locals) here.local among);
          name_is = here.name_is;
          ty_is = here.ty_is;
          block = here.block;
          live = ap (λ (memory : Blocks). live_block memory here.local.block) (sym memories_join) ∙ here.live;
          cells = here.cells;
        }

    has_begun : (copied : Copied s names images place c_world world tree.params tree.locals (first blocks zeros) one.params args copies (first blocks zeros)) → HasBegun s names images place c_world world locals copied.after
    has_begun copied = record {
      start = stands.worlds;
      apart = mean.apart;
      older = λ number less. copied.copying.passed number (omega (arith, less)) ∙ older number less;
      grows = let long = copied.copying.long in let more = length-append (blocks_of world) (in_some (blocks ++ zeros)) in omega (arith, long, more);
      held = copied.copying.held;
      lays = copied.copying.lays;
      since = λ local among. (is_among base (all_locals tree) local among).behind;
      zeros = λ number it is.
          let begun = zero_begun (record { name = it.name; ty = it.ty }) (mean.zeros number it is) in
          record {
            local = begun.local;
            among = begun.among;
            name_is = begun.name_is;
            ty_is = begun.ty_is;
            block = begun.block;
            live = copied.others begun.local.block (λ of_object.
                let same : of_object.local ≡ begun.local = one_block base (all_locals tree) of_object.local begun.local of_object.among begun.among of_object.block_is in
                mean.apart.zero of_object.object number _ it of_object.kept_is is (ap (λ (l : LocalBlock). Local l.name) same ∙ ap Local begun.name_is))
                ∙ begun.live;
            cells = begun.cells;
          };
      single = one_block base (all_locals tree);
    }

  -- ---- what is passed

  abbrev Typed_for : (number : ℕ) → CValue → Type 0
  Typed_for number value = (o : CObject) × (object_with number s.program.objects ≡ Some o) × IsValueOfType s.program (unqualified o.type) value

  typed_as : (number : ℕ) (value : CValue) (local : LocalTree) (object : IsObjectLocal s names number local) → Typed_for number value → IsValueOfType s.program (unqualified object.one.type) value
  typed_as number value local object (o, is, typed) =
      let same : o ≡ object.one = (let its = object.object_is in cc) in
      subst (λ (it : CObject). IsValueOfType s.program (unqualified it.type) value) same typed

  abbrev Passing : List LocalTree → List Typed → Type 0
  Passing params list = (blocks : List Block) × ArePassed s.modules params list blocks

  passing_more : (param : LocalTree) (params : List LocalTree) (arg : Typed) (list : List Typed) (block : Block) → IsPassed s.modules param arg block → Passing params list → Passing (param ∷ params) (arg ∷ list)
  passing_more param params arg list block is rest = (block ∷ rest.0, (is, rest.1))

  all_passed : (numbers : List ℕ) (params : List LocalTree) (copies_left : List Stmt) (values_left : List CValue) (list : List Typed) → AreParams s names tree.locals numbers params copies_left → AreHanded images (blocks_of world) values_left list →
      AreForParams s.program numbers values_left → Passing params list
  all_passed [] [] [] [] [] are handed typed = ([], tt)
  all_passed (number ∷ numbers) (param ∷ params) [] (value ∷ values_left) (arg ∷ list) are handed typed =
      passing_more param params arg list _ (plain_passed s names images (blocks_of world) number param value arg are.0 handed.0 (typed_as number value param are.0.object (typed.0, typed.1, typed.2))).passed
      (all_passed numbers params [] values_left list are.1 handed.1 typed.3)
  all_passed (number ∷ numbers) (param ∷ params) (copy ∷ copies_left) (value ∷ values_left) (arg ∷ list) (inl are) handed typed =
      passing_more param params arg list _ (plain_passed s names images (blocks_of world) number param value arg are.0 handed.0 (typed_as number value param are.0.object (typed.0, typed.1, typed.2))).passed
      (all_passed numbers params (copy ∷ copies_left) values_left list are.1 handed.1 typed.3)
  all_passed (number ∷ numbers) (param ∷ params) (copy ∷ copies_left) (value ∷ values_left) (arg ∷ list) (inr are) handed typed =
      passing_more param params arg list _ (record_passed s names images (blocks_of world) tree.locals number param copy value arg are.0 handed.0 (typed_as number value are.0.local are.0.object (typed.0, typed.1, typed.2))).passed
      (all_passed numbers params copies_left values_left list are.1 handed.1 typed.3)
  all_passed [] [] [] [] (arg ∷ list) are handed typed = absurd handed
  all_passed [] [] [] (value ∷ values_left) list are handed typed = absurd typed
  all_passed [] [] (copy ∷ copies_left) values_left list are handed typed = absurd are
  all_passed [] (param ∷ params) copies_left values_left list are handed typed = absurd are
  all_passed (number ∷ numbers) [] copies_left values_left list are handed typed = absurd are
  all_passed (number ∷ numbers) (param ∷ params) [] [] list are handed typed = absurd typed
  all_passed (number ∷ numbers) (param ∷ params) [] (value ∷ values_left) [] are handed typed = absurd handed
  all_passed (number ∷ numbers) (param ∷ params) (copy ∷ copies_left) [] list are handed typed = absurd typed
  all_passed (number ∷ numbers) (param ∷ params) (copy ∷ copies_left) (value ∷ values_left) [] are handed typed = absurd handed

  abbrev There : Blocks → ℕ → List LocalTree → List Typed → Type 0
  There memory = AreThere s names images place c_world world tree.params tree.locals memory

  there_all : (memory : Blocks) (k : ℕ) (params others : List LocalTree) (list : List Typed) (blocks more : List Block) (front : Blocks) → length front ≡ k → memory ≡ front ++ in_some (blocks ++ more) → ArePassed s.modules params list blocks →
      ((local : LocalBlock) → Contains (locals_from k (params ++ others)) local → Contains locals local) → k + length params ≤ base + length tree.params → There memory k params list
  there_all memory k [] others [] [] more front long is are embed few = tt
  there_all memory k (param ∷ params) others (arg ∷ list) (block ∷ blocks) more front long is are embed few = (
    record {
      among = embed (record { name = param.name; ty = param.ty; block = k }) (0, omega arith, refl);
      below = omega (arith, few);
      block = block;
      passed = are.0;
      live = ap (λ (all : Blocks). live_block all k) is ∙ ap (λ (n : ℕ). live_block (front ++ in_some (block ∷ (blocks ++ more))) n) (sym long) ∙ live_seam front block (blocks ++ more);
    },
    there_all memory (suc k) params others list blocks more (front ++ Some block ∷ []) (let more_long = length-append front (Some block ∷ []) in omega (arith, more_long, long)) (is ∙ sym (append_assoc front (Some block ∷ []) (in_some (blocks ++ more)))) are.1
        (λ local there. embed local (suc there.0, (let less = there.1 in omega (arith, less)), there.2)) (omega (arith, few)),
  )
  there_all memory k [] others [] (block ∷ blocks) more front long is are embed few = absurd are
  there_all memory k [] others (arg ∷ list) blocks more front long is are embed few = absurd are
  there_all memory k (param ∷ params) others [] blocks more front long is are embed few = absurd are
  there_all memory k (param ∷ params) others (arg ∷ list) [] more front long is are embed few = absurd are

  -- ---- all together

  abbrev zeros_here : Zeros s.modules tree.locals
  zeros_here = zeros_of s tree.locals (λ local there. mean.begins local (Contains-append_right tree.params tree.locals local there))

  abbrev CopiedHere : List Block → Type 0
  CopiedHere blocks = Copied s names images place c_world world tree.params tree.locals (first blocks zeros_here.0) one.params args copies (first blocks zeros_here.0)

  copied_here : (blocks : List Block) → ArePassed s.modules tree.params given blocks → (k : ℕ) (list : List Typed) → AreHanded images (blocks_of world) args list → There (first blocks zeros_here.0) k mean.params list → CopiedHere blocks
  copied_here blocks passed k list handed there =
      all_copied s names images place c_world world tree.params tree.locals (first blocks zeros_here.0) mean.apart mean.names_differ (older blocks zeros_here.0 passed zeros_here.1) mean.begins k one.params mean.params copies args list
      (first blocks zeros_here.0) mean.are handed stands.taken there mean.differ (at_copies blocks zeros_here.0 passed zeros_here.1)

  assembled : (blocks : List Block) → (passed : ArePassed s.modules tree.params given blocks) → (copied : CopiedHere blocks) →
      ((later : Images) (frame : CFrame) (c : World) → Progress s names images place c_world world locals copied.after later frame c → ResultAgrees base later (with_memory copied.after world) (frame_in s locals) (result_laid s one) names.result place) → CrateEntered
  assembled blocks passed copied result = record {
    memory = copied.after;
    runs = begun_all blocks zeros_here.0 passed zeros_here.1 copied;
    has = has_begun blocks zeros_here.0 passed zeros_here.1 copied;
    params = copied.params;
    result = result;
  }

  -- a function that gives no structure or union
  plain_entered : result_laid s one ≡ None → names.result ≡ None → place ≡ None → tree.params ≡ mean.params → given ≡ stands.handed.rest → CrateEntered
  plain_entered no_laid no_name no_place params_are given_is =
      let rest = stands.handed.rest in
      let passing = all_passed one.params mean.params copies args rest mean.are stands.handed.arguments stands.taken in
      let passed : ArePassed s.modules tree.params given passing.0 =
      subst (λ (params : List LocalTree). ArePassed s.modules params given passing.0) (sym params_are) (subst (λ (list : List Typed). ArePassed s.modules mean.params list passing.0) (sym given_is) passing.1) in
      let there = there_all (first passing.0 zeros_here.0) base mean.params tree.locals rest passing.0 zeros_here.0 (blocks_of world) refl refl passing.1
      (λ local among. subst (λ (params : List LocalTree). Contains (locals_from base (params ++ tree.locals)) local) (sym params_are) among)
      (subst (λ (params : List LocalTree). base + length mean.params ≤ base + length params) (sym params_are) (same_bound (base + length mean.params))) in
      assembled passing.0 passed (copied_here passing.0 passed base rest stands.handed.arguments there)
      (λ later frame c progress. no_result base later (with_memory (copied_here passing.0 passed base rest stands.handed.arguments there).after world) (frame_in s locals) (result_laid s one) names.result place no_laid no_name no_place)
    where
      same_bound : (n : ℕ) → n ≤ n
      same_bound n = omega arith

  -- a function that gives a structure or union
  module _ (laid : Laid) (name : List ℕ) (at : Ptr) (laid_is : result_laid s one ≡ Some laid) (name_is : names.result ≡ Some name) (place_is : place ≡ Some at) (param : LocalTree) (to : Ty) (params_are : tree.params ≡ param ∷ mean.params)
      (param_name_is : param.name ≡ name) (param_ty_is : param.ty ≡ Pointer to) (arg : Typed) (given_is : given ≡ arg ∷ stands.handed.rest) (value_is : arg.value ≡ Object at) (result_place : ResultPlace images (blocks_of world) laid at) where
    abbrev result_block : Block
    result_block = block_with 8 (cells_of Address arg.value)

    of_address : IsValueOf Address arg.value
    of_address = subst (IsValueOf Address) (sym value_is) tt

    result_passed : IsPassed s.modules param arg result_block
    result_passed = record {
      laid = record { size = 8; align = 8 };
      laid_is = ap (laid_of s.modules) param_ty_is;
      kind = Address;
      kind_is = ap scalar_of param_ty_is;
      size = refl;
      align = refl;
      some = omega arith;
      many = length-cells_of Address arg.value tt of_address;
      block_is = refl;
    }

    abbrev passing : Passing mean.params stands.handed.rest
    passing = all_passed one.params mean.params copies args stands.handed.rest mean.are stands.handed.arguments stands.taken

    abbrev blocks_here : List Block
    blocks_here = result_block ∷ passing.0

    passed_here : ArePassed s.modules tree.params given blocks_here
    passed_here = subst (λ (params : List LocalTree). ArePassed s.modules params given blocks_here) (sym params_are) (subst (λ (list : List Typed). ArePassed s.modules (param ∷ mean.params) list blocks_here) (sym given_is) (result_passed, passing.1))

    abbrev first_here : Blocks
    first_here = first blocks_here zeros_here.0

    there_here : There first_here (suc base) mean.params stands.handed.rest
    there_here =
        there_all first_here (suc base) mean.params tree.locals stands.handed.rest passing.0 zeros_here.0 (blocks_of world ++ Some result_block ∷ []) (let long = length-append (blocks_of world) (Some result_block ∷ []) in omega (arith, long))
        (sym (append_assoc (blocks_of world) (Some result_block ∷ []) (in_some (passing.0 ++ zeros_here.0)))) passing.1
        (λ local among. subst (λ (params : List LocalTree). Contains (locals_from base (params ++ tree.locals)) local) (sym params_are) (suc among.0, (let less = among.1 in omega (arith, less)), among.2))
        (let long = ap (λ (list : List LocalTree). length list) params_are in omega (arith, long))

    copied_now : CopiedHere blocks_here
    copied_now = copied_here blocks_here passed_here (suc base) stands.handed.rest stands.handed.arguments there_here

    abbrev result_local : LocalBlock
    result_local = record { name = param.name; ty = param.ty; block = base }

    result_among : Contains locals result_local
    result_among = subst (λ (params : List LocalTree). Contains (locals_from base (params ++ tree.locals)) result_local) (sym params_are) (0, omega arith, refl)

    result_live : live_block copied_now.after base ≡ Some result_block
    result_live =
        copied_now.copying.passed base (let long = ap (λ (list : List LocalTree). length list) params_are in omega (arith, long))
        ∙ live_seam (blocks_of world) result_block (passing.0 ++ zeros_here.0)

    has_here : HasBegun s names images place c_world world locals copied_now.after
    has_here = has_begun blocks_here zeros_here.0 passed_here zeros_here.1 copied_now

    at_older : at.block < base
    at_older = live_within (blocks_of world) at.block result_place.block result_place.live

    result_agrees : (later : Images) (frame : CFrame) (c : World) → Progress s names images place c_world world locals copied_now.after later frame c →
        HoldsResult base later (with_memory copied_now.after world) (frame_in s locals) laid name at
    result_agrees later frame c progress = record {
      local = result_local;
      is_local = subst (λ (x : List ℕ). IsLocal (frame_in s locals) x result_local) param_name_is (is_local s base (all_locals tree) result_local mean.names_differ result_among);
      to = to;
      ty_is = param_ty_is;
      holds = holds_value copied_now.after base 8 Address arg.value result_live refl (omega arith) tt of_address ∙ ap Ok value_is;
      no_image = λ number is.
          let owned = owned_there s one tree names copies mean images place c_world world copied_now.after has_here stands.program later frame c progress number result_local result_among is in
          mean.apart.result owned.slot.object owned.kept name owned.kept_is name_is (owned.place_is ∙ ap Local param_name_is);
      place = record {
        begins = result_place.begins;
        block = result_place.block;
        live = has_here.older at.block at_older ∙ result_place.live;
        size = result_place.size;
        align = result_place.align;
        aligned = result_place.aligned;
        no_image = λ number is. ⊎_elim (result_place.no_image number) (λ (there : (held : Slot) × Contains frame held × (held.block ≡ number)). not_its later frame c progress number there is) (progress.images_are number at.block is);
      };
      older = at_older;
    }
      where
        not_its : (later_images : Images) (slots : CFrame) (c_now : World) → (now : Progress s names images place c_world world locals copied_now.after later_images slots c_now) → (number : ℕ) → (held : Slot) × Contains slots held × (held.block ≡ number) →
            image_of later_images number ≡ Some at.block → ⊥
        not_its later_images slots c_now now number (held, among, block_is) is =
            let slot_has = now.slots held among in
            let found : image_of later_images number ≡ Some slot_has.local.block = subst (λ (n : ℕ). image_of later_images n ≡ Some slot_has.local.block) block_is slot_has.image in
            let same : slot_has.local.block ≡ at.block = cc in
            let since = has_here.since slot_has.local slot_has.among in
            omega (arith, since, same, at_older)

    record_entered : CrateEntered
    record_entered =
        assembled blocks_here passed_here copied_now
        (λ later frame c progress. some_result base later (with_memory copied_now.after world) (frame_in s locals) (result_laid s one) (Some laid) names.result (Some name) place (Some at) (sym laid_is) (sym name_is) (sym place_is) (result_agrees later frame c progress))

  crate_enters : (laid : Option Laid) (name : Option (List ℕ)) (at : Option Ptr) → result_laid s one ≡ laid → names.result ≡ name → place ≡ at → ResultParam laid name tree.params mean.params → ResultHanded images (blocks_of world) laid at given stands.handed.rest →
      CrateEntered
  crate_enters None None None laid_is name_is place_is params handed = plain_entered laid_is name_is place_is params handed
  crate_enters (Some laid) (Some name) (Some at) laid_is name_is place_is params handed =
      record_entered laid name at laid_is name_is place_is params.0 params.1 params.2 params.3 params.4 handed.0 handed.1 handed.2 handed.3
  crate_enters None None (Some at) laid_is name_is place_is params handed = absurd handed
  crate_enters None (Some name) at laid_is name_is place_is params handed = absurd params
  crate_enters (Some laid) None at laid_is name_is place_is params handed = absurd params
  crate_enters (Some laid) (Some name) None laid_is name_is place_is params handed = absurd handed

  pub enters : Owes events_of events_of (EntryMeets s one names images place c_world world) units steps (c_entered (setting_in s) one one.params args [] c_world) (crate_entered s tree (stmts copies) given world)
  enters = owes_entered (crate_enters (result_laid s one) names.result place refl refl refl mean.result stands.handed.result)

pub entries_owe : EntriesOwe
entries_owe s one tree names copies units steps mean images place args given c_world world stands = enters s one tree names copies mean units steps images place args given c_world world stands
