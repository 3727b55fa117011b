-- Declarations that are reached, whose objects C makes anew: with no bit set, for which nothing is written, or with bits that are zero, for which zero bytes are (ISO C99, 6.2.4p5 and 6.7.8).
use Rattle.std.proofs.lemmas.Bool.Decides.{nat_tests}
use Rattle.std.proofs.Common.{◌≡◌, ◌∙◌, ℕ, Bool, true, false, ◌||◌, ◌==◌, if◌then◌else◌, List, [], ◌∷◌, ◌++◌, map, length, replicate, Option, Some, IfSome, Result, Ok, Err, refl, sym, ap, subst, arith}
use Rattle.cr_runs.specs.Runs.{came}
use Rattle.cr_world.specs.Held.{with_blocks}
use Rattle.cr_world.specs.World.{World, blocks_of, with_held, with_memory}
use Rattle.cx_core.specs.Trees.{CTy, CPuts, CObject}
use Rattle.cx_core.specs.Typing.{CHome}
use Rattle.cx_mean.specs.Accesses.{sized}
use Rattle.cx_mean.specs.Initialisers.{first_cells, CCleared, cleared_block, object_cleared}
use Rattle.cx_mean.specs.Settings.{extent_in}
use Rattle.cr_base.specs.declared.layout.Laid.{Laid}
use Rattle.rs_mean.specs.Lookups.{Home}
use Rattle.cx_mean.specs.Operands.{needed, stuck, Slot, Frame as CFrame, slot_of}
use Rattle.cx_typed_runs.proofs.MovesCleared.{Surely, IsClearedOf, object_made}
use Rattle.cx_typed_runs.proofs.Owned.{object_number, shapes_owned}
use Rattle.cx_typed_work.specs.Scenes.{IsAlive}
use Rattle.build_flow_lives.specs.Standing.{Calling, own_slots, Standing, stage_of}
use Rattle.build_flow_moves.specs.Parts.{RunsTo, objects_in, Cleared, ClearDone}
use Rattle.build_flow_nodes.specs.Parts.{cleared_where, leaves_bits, leaves_bits_of}
use Rattle.lift_calls.specs.Frames.{home_in as place_home}
use Rattle.lift_calls.specs.Programs.{Setting, setting_in}
use Rattle.lift_does.proofs.Nodes.{and_then_is}
use Rattle.lift_does.specs.Here.{Here}
use Rattle.lift_stands.specs.Keeps.{KeepsOthers}
use Rattle.lift_stands.specs.Stands.{image_of, PlaceBelow}
use Rattle.lift_stands.specs.Worlds.{HeldStands, WorldsStand}
use Rattle.lift_stands_lives.proofs.Begun.{worlds_held}
use Rattle.lift_stands_lives.specs.LawsStored.{StoreLeaves}
use Rattle.lift_stands_values.proofs.Literals.{slot_begins, zeros_leave, nothing_left}
use Rattle.lift_stands_values.specs.Literals.{ClearedAlone}
use Rattle.lift_forms.specs.Places.{Kept}
use Rattle.mem_bytes.specs.Access.{after_fill}
use Rattle.mem_bytes.specs.declared.cell.Cell.{Cell}
use Rattle.mem_bytes.specs.declared.fault.Fault.{Fault}
use Rattle.mem_bytes.specs.declared.value.Ptr.{Ptr}
use Rattle.mem_bytes.specs.Memory.{Block, Blocks, live_block, size_of, unset_cell}
use Rattle.rs_mean.specs.Run.{normal, run_stmts}
use Rattle.rs_mean.specs.World.{pure}
use Rattle.rs_text.specs.Tree.{stmts}
use Rattle.build_flow_parts.specs.Bodies.{IsDeclared, NothingLeft, IsZeroed}
use Rattle.build_flow_parts.specs.Means.{home_in, PartsMean, ZeroMeans}
use Rattle.build_flow_parts.proofs.After.{stands_behind}
use Rattle.build_flow_parts.proofs.Leaves.{first_unset}
use Rattle.build_flow_parts.proofs.Objects.{ItsLocal, its_local}
use Rattle.build_flow_parts.proofs.Puts.{needed_is}
use Rattle.build_flow_parts.proofs.Values.{here_of}
use Rattle.build_flow_parts.proofs.Zeros.{all_zeroed, fill_is, becomes_zero}

-- an object that is found among the first slots
found_in_front : (front back : CFrame) (number : ℕ) (at : Ptr) → slot_of front number ≡ Some at → slot_of (front ++ back) number ≡ Some at
found_in_front [] back number at is = absurd cc
found_in_front (slot ∷ front) back number at is = by (slot.object == number) (λ found. found_in_front front back number at found) is
  where
    by : (same : Bool) → (slot_of front number ≡ Some at → slot_of (front ++ back) number ≡ Some at) → (if same then Some (record { block = slot.block; offset = 0 }) else slot_of front number) ≡ Some at →
        (if same then Some (record { block = slot.block; offset = 0 }) else slot_of (front ++ back) number) ≡ Some at
    by true others found = found
    by false others found = others found

-- the object that C made anew
record MadeAnew (s : Setting) (frame : CFrame) (blocks : Blocks) (object : ℕ) (puts : Option CPuts) (made : CCleared) : Type 0 where
  at : Ptr
  at_is : slot_of frame object ≡ Some at
  block : Block
  live : live_block blocks at.block ≡ Some block
  size : made.size ≡ size_of block
  given : List Cell
  given_is : first_cells (setting_in s) (size_of block) puts ≡ Ok given
  many : length given ≡ size_of block

made_anew : (s : Setting) (frame : CFrame) (blocks : Blocks) (object : ℕ) (puts : Option CPuts) (made : CCleared) → object_cleared (setting_in s) frame object puts blocks ≡ Ok made → MadeAnew s frame blocks object puts made
made_anew s frame blocks object puts made e =
    let slot = and_then_is (needed (slot_of frame object)) _ made e in
    let live = and_then_is (needed (live_block blocks slot.0.block)) (cleared_block (setting_in s) puts blocks slot.0) made slot.2 in
    let given = and_then_is (first_cells (setting_in s) (size_of live.0) puts) _ made live.2 in
    let held = and_then_is (sized (size_of live.0) given.0) _ made given.2 in
    record {
      at = slot.0;
      at_is = needed_is (slot_of frame object) slot.0 slot.1;
      block = live.0;
      live = needed_is (live_block blocks slot.0.block) live.0 live.1;
      size = ap (λ (found : Result CCleared _). size_in found) (sym held.2);
      given = given.0;
      given_is = given.1;
      many = as_many (size_of live.0) given.0 held.0 (length given.0 == size_of live.0) refl held.1;
    }
  where
    as_many : (size : ℕ) (list held : List Cell) (test : Bool) → (length list == size) ≡ test → (if test then Ok list else Err stuck) ≡ Ok held → length list ≡ size
    as_many size list held true is found = grind (arith, nat_tests, is)
    as_many size list held false is found = absurd cc

    size_in : {E : Type 0} → Result CCleared E → ℕ
    size_in (Ok one) = one.size
    size_in (Err why) = 0

module _ (a : Calling) (units steps : ℕ) (mean : PartsMean a.s a.names a.of units steps) (started : WorldsStand a.images a.c_before a.before) (params_are : map (λ (slot : Slot). slot.object) a.params ≡ a.one.params)
    (scope : List ℕ) (object : ℕ) (puts : Option CPuts) (declared : IsDeclared a units steps scope object puts) where
  abbrev home : CHome
  home = home_in a.s a.one (scope ++ a.one.params)

  nothing_runs : (world : World) (k : ℕ) → run_stmts a.frame (stmts []) world k ≡ came normal world k
  unfolding pure
  nothing_runs world k = refl

  none_cleared : (world : World) (is : Bool) → is ≡ false → RunsTo a.frame (cleared_where is a.of object) world world
  none_cleared world true is = absurd cc
  none_cleared world false is = record { runs = nothing_runs world }

  neither : (one other : Bool) → one ≡ false → other ≡ false → (one || other) ≡ false
  neither false other is also = also
  neither true other is also = absurd cc

  module _ (slots : CFrame) (c_world world : World) (known_are : objects_in slots ≡ scope) (here : Standing a slots c_world world) (made : CCleared)
      (e : object_cleared (setting_in a.s) slots object puts (blocks_of c_world) ≡ Ok made) where
    abbrev all_slots : CFrame
    all_slots = own_slots a slots ++ a.s.statics

    begins : Here a.s home a.names here.later (own_slots a slots) a.frame c_world world
    begins = here_of a units steps mean started params_are scope slots c_world world known_are here

    anew : MadeAnew a.s slots (blocks_of c_world) object puts made
    anew = made_anew a.s slots (blocks_of c_world) object puts made e

    number_is : declared.one.object ≡ object
    number_is = object_number object a.s.program.objects declared.one declared.object_is

    at_all : slot_of all_slots object ≡ Some anew.at
    at_all = found_in_front (own_slots a slots) a.s.statics object anew.at (found_in_front slots a.params object anew.at anew.at_is)

    alive_all : IsAlive a.s.program all_slots (blocks_of c_world) declared.one
    alive_all = subst (λ (found : Option CObject). IfSome found (IsAlive a.s.program all_slots (blocks_of c_world))) declared.object_is (begins.typed.scene.alive.in_scope object declared.among)

    same_at : alive_all.at ≡ anew.at
    same_at = let there : slot_of all_slots object ≡ Some alive_all.at = ap (slot_of all_slots) (sym number_is) ∙ alive_all.at_is in let one = at_all in cc

    alive : IsAlive a.s.program slots (blocks_of c_world) declared.one
    alive = record {
      at = alive_all.at;
      at_is = ap (slot_of slots) number_is ∙ anew.at_is ∙ ap Some (sym same_at);
      laid = alive_all.laid;
      laid_is = alive_all.laid_is;
      block = alive_all.block;
      live = alive_all.live;
      size = alive_all.size;
      align = alive_all.align;
    }

    same_block : alive_all.block ≡ anew.block
    same_block =
        let there : live_block (blocks_of c_world) anew.at.block ≡ Some alive_all.block = ap (λ (at : Ptr). live_block (blocks_of c_world) at.block) (sym same_at) ∙ alive_all.live in
        let one = anew.live in cc

    size_is : alive_all.laid.size ≡ made.size
    size_is = sym alive_all.size ∙ ap size_of same_block ∙ sym anew.size

    typed_there : IsClearedOf a.s.program (blocks_of c_world) made.blocks
    typed_there =
        subst (Surely (λ (one : CCleared). IsClearedOf a.s.program (blocks_of c_world) one.blocks)) (ap (λ (number : ℕ). object_cleared (setting_in a.s) slots number puts (blocks_of c_world)) number_is ∙ e)
        (object_made home slots (blocks_of c_world) declared.one puts mean.linked.types begins.typed.scene.memory alive declared.typed)

    -- ---- nothing is written

    module _ (left : NothingLeft a units steps scope object puts) where
      type_same : a.of.type_of_object object ≡ declared.one.type
      type_same =
          let ones : Some left.declared.one ≡ Some declared.one = sym left.declared.object_is ∙ declared.object_is in
          let one_same : left.declared.one ≡ declared.one = cc (ones) in
          left.type_is ∙ ap (λ (one : CObject). one.type) one_same

      no_bytes : here.later.in_bytes ≡ false
      no_bytes = here.inside.program.bytes ∙ sym (mean.means home refl).bits ∙ left.no_bits

      unset : first_cells (setting_in a.s) made.size puts ≡ Ok (replicate made.size unset_cell)
      unset =
          let means = mean.means home refl in
          first_unset a.s a.of.names home means.sizes made.size puts declared.one.type anew.given (sym means.bits ∙ left.no_bits) declared.typed (means.sizes declared.one.type alive_all.laid alive_all.laid_is ∙ size_is)
          (subst (λ (type : CTy). leaves_bits_of a.of.names type puts ≡ false) type_same left.leaves) (subst (λ (size : ℕ). first_cells (setting_in a.s) size puts ≡ Ok anew.given) (sym anew.size) anew.given_is) (anew.many ∙ sym anew.size)

      alone : ClearedAlone here.later c_world.held world.held made.blocks
      alone =
          let agrees = here.inside.frames.objects object anew.at at_all in
          let place : PlaceBelow here.later anew.at (record { block = agrees.home.block; offset = 0 }) = record { block = agrees.image; offset = sym (slot_begins slots object anew.at anew.at_is) } in
          nothing_left (setting_in a.s) slots object puts here.later c_world.held world.held anew.at (record { block = agrees.home.block; offset = 0 }) made here.inside.worlds.held anew.at_is place e
          no_bytes unset

      cleared_so : Cleared (stage_of a units steps) slots (cleared_where (a.of.names.has_bits || leaves_bits a.of object puts) a.of object) (with_memory made.blocks c_world) world
      cleared_so = record {
        after = world;
        runs = none_cleared world (a.of.names.has_bits || leaves_bits a.of object puts) (neither a.of.names.has_bits (leaves_bits a.of object puts) left.no_bits left.leaves);
        here =
            stands_behind a started mean.apart slots c_world world here here.later (λ _. false) 0 0 (λ block owns. absurd cc) (with_memory made.blocks c_world) world
            (alone.keeps (length (blocks_of world)) (λ _. false))
            (worlds_held here.later here.later c_world world (with_blocks made.blocks c_world.held) world.held here.inside.worlds alone.stands)
            (record { memory = typed_there.memory; owned = shapes_owned a.s.program c_world.held (with_blocks made.blocks c_world.held) all_slots refl typed_there.shapes here.inside.scope.owned });
      }

    -- ---- or the crate makes it zero

    module _ (left : IsZeroed a units steps scope object puts) where
      abbrev means : ZeroMeans a.s a.names a.of object
      means = left.zero

      abbrev its : ItsLocal a object means.object world
      its = its_local a units steps mean object means.object slots c_world world here

      abbrev beyond : Blocks
      beyond = all_zeroed (blocks_of world) its.local.block its.lives.block means.object.laid.size

      abbrev zero_world : World
      zero_world = with_held (with_blocks beyond world.held) world

      -- its local stands for C's block
      image_is : image_of here.later anew.at.block ≡ Some its.local.block
      image_is =
          let agrees = here.inside.frames.objects object anew.at at_all in
          let kept : Some agrees.kept ≡ Some means.object.kept = sym agrees.kept_is ∙ means.object.kept_is in
          let kept_same : agrees.kept ≡ means.object.kept = cc (kept) in
          let homes : Some agrees.home ≡ Some its.home = sym agrees.is_home.home_is ∙ ap (λ (one : Kept). place_home a.frame one.place) kept_same ∙ its.is_home.home_is in
          let home_same : agrees.home ≡ its.home = cc (homes) in
          agrees.image ∙ ap (λ (one : Home). Some one.block) (home_same ∙ sym its.home_is)

      place : PlaceBelow here.later anew.at (record { block = its.local.block; offset = 0 })
      place = record { block = image_is; offset = sym (slot_begins slots object anew.at anew.at_is) }

      laid_size : means.object.laid.size ≡ made.size
      laid_size =
          let ones : Some means.object.one ≡ Some declared.one = sym means.object.object_is ∙ declared.object_is in
          let one_same : means.object.one ≡ declared.one = cc (ones) in
          let laids : Some means.object.laid ≡ Some alive_all.laid = sym means.object.laid_is ∙ ap (λ (one : CObject). extent_in (setting_in a.s) one.type) one_same ∙ alive_all.laid_is in
          let laid_same : means.object.laid ≡ alive_all.laid = cc (laids) in
          ap (λ (laid : Laid). laid.size) laid_same ∙ size_is

      zero_size : size_of its.lives.block ≡ means.object.laid.size
      zero_size = its.lives.size ∙ ap (λ (laid : Laid). laid.size) its.laid_same

      filled : after_fill (blocks_of world) (record { block = its.local.block; offset = 0 }) 0 made.size ≡ Ok beyond
      filled =
          subst (λ (n : ℕ). after_fill (blocks_of world) (record { block = its.local.block; offset = 0 }) 0 n ≡ Ok beyond) laid_size
          (fill_is (blocks_of world) its.local.block its.lives.block means.object.laid.size its.lives.live (omega (arith, zero_size)))

      zeros_are : StoreLeaves here.later c_world.held world.held made.blocks (after_fill (blocks_of world) (record { block = its.local.block; offset = 0 }) 0 made.size)
      zeros_are = zeros_leave (setting_in a.s) slots object puts here.later c_world.held world.held anew.at (record { block = its.local.block; offset = 0 }) made here.inside.worlds.held anew.at_is place e

      beyond_is : zeros_are.beyond ≡ beyond
      beyond_is = as_blocks (after_fill (blocks_of world) (record { block = its.local.block; offset = 0 }) 0 made.size) zeros_are.beyond beyond zeros_are.done filled
        where
          as_blocks : (found : Result Blocks Fault) (one other : Blocks) → found ≡ Ok one → found ≡ Ok other → one ≡ other
          as_blocks found one other is also = let both = sym is ∙ also in cc (both)

      zero_written : (is : Bool) → is ≡ true → (k : ℕ) → run_stmts a.frame (stmts (cleared_where is a.of object)) world k ≡ came normal zero_world k
      zero_written true is k = (becomes_zero a units steps mean started params_are object means slots c_world world here).runs k
      zero_written false is k = absurd cc

      zero_so : Cleared (stage_of a units steps) slots (cleared_where (a.of.names.has_bits || leaves_bits a.of object puts) a.of object) (with_memory made.blocks c_world) world
      zero_so = record {
        after = zero_world;
        runs = record { runs = zero_written (a.of.names.has_bits || leaves_bits a.of object puts) left.written };
        here =
            stands_behind a started mean.apart slots c_world world here here.later (λ _. false) 0 0 (λ block owns. absurd cc) (with_memory made.blocks c_world) zero_world
            (subst (λ (m : Blocks). KeepsOthers (length (blocks_of world)) (λ _. false) here.later here.later c_world.held (with_blocks made.blocks c_world.held) world.held (with_blocks m world.held)) beyond_is
            (zeros_are.keeps (length (blocks_of world)) (λ _. false)))
            (worlds_held here.later here.later c_world world (with_blocks made.blocks c_world.held) (with_blocks beyond world.held) here.inside.worlds
            (subst (λ (m : Blocks). HeldStands here.later (with_blocks made.blocks c_world.held) (with_blocks m world.held)) beyond_is zeros_are.stands))
            (record { memory = typed_there.memory; owned = shapes_owned a.s.program c_world.held (with_blocks made.blocks c_world.held) all_slots refl typed_there.shapes here.inside.scope.owned });
      }

  pub nothing_cleared : NothingLeft a units steps scope object puts → ClearDone (stage_of a units steps) scope object puts
  nothing_cleared left slots c_world world made known_are here e = cleared_so slots c_world world known_are here made e left

  pub zero_cleared : IsZeroed a units steps scope object puts → ClearDone (stage_of a units steps) scope object puts
  zero_cleared left slots c_world world made known_are here e = zero_so slots c_world world known_are here made e left
