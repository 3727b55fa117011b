-- A compound literal is reached: C makes its object anew, and where bits of it stay zero zero bytes are written for that (ISO C99, 6.5.2.5 and 6.7.8p21).
use Rattle.std.proofs.Common.{◌≡◌, ◌⊎◌, inl, inr, ℕ, ◌*◌, ◌<◌, ◌≤◌, ◌==◌, ◌||◌, Bool, true, false, List, [], ◌∷◌, length, replicate, Option, Some, Result, Ok, Err, if◌then◌else◌, refl, sym, ap, subst, ◌∙◌, arith}
use Rattle.std.proofs.lemmas.Bool.Decides.{nat_tests}
use Rattle.cr_base.specs.declared.layout.Laid.{Laid}
use Rattle.cr_runs.specs.Runs.{came}
use Rattle.cr_world.specs.Held.{with_blocks}
use Rattle.cr_world.specs.World.{World, blocks_of, with_memory}
use Rattle.cx_core.specs.BitFields.{has_bit_fields}
use Rattle.cx_core.specs.Layouts.{layouts_of}
use Rattle.cx_core.specs.Trees.{CTy, CPuts, CObject, CProgram}
use Rattle.cx_core.specs.Typing.{ArePuts}
use Rattle.cx_mean.specs.Accesses.{sized}
use Rattle.cx_mean.specs.Initialisers.{first_cells, CCleared, cleared_block, object_cleared}
use Rattle.cx_mean.specs.Operands.{needed, stuck, slot_of}
use Rattle.cx_mean.specs.Settings.{setting_of, extent_in}
use Rattle.cx_typed_leftmost.proofs.Worlds.{typed_stepped}
use Rattle.cx_typed_leftmost.specs.Laws.{IsTypedAt}
use Rattle.cx_typed_runs.proofs.MovesCleared.{Surely, IsClearedOf, object_made}
use Rattle.cx_typed_sizes.proofs.Bytes.{complete_has_byte}
use Rattle.cx_typed_values.specs.Values.{most_bytes}
use Rattle.cx_typed_work.proofs.Puts.{IsLiteralAlive}
use Rattle.cx_typed_work.specs.Scenes.{IsAlive}
use Rattle.lift_calls.specs.Frames.{home_in}
use Rattle.lift_calls.specs.Programs.{setting_in}
use Rattle.lift_does.proofs.Alignments.{extent_align}
use Rattle.lift_does.proofs.Around.{Around, scope, At, Reached, runs}
use Rattle.lift_does.proofs.LiteralLeaves.{are_plain, first_unset}
use Rattle.lift_does.proofs.LiteralZeros.{with_cells_at, fill_zero, world_with, zeroed_runs, has_kind, scalar_zeroed}
use Rattle.lift_does.proofs.Nodes.{and_then_is}
use Rattle.lift_does.proofs.Places.{scalar_based}
use Rattle.lift_does.proofs.PutsStores.{object_placed, needed_is}
use Rattle.lift_does.proofs.Reaching.{at_after}
use Rattle.lift_does.proofs.Temporaries.{scalar_laid}
use Rattle.cx_typed_work.proofs.Rows.{extent_whole}
use Rattle.lift_exprs.specs.Names.{kept_or, type_in}
use Rattle.lift_exprs.specs.Objects.{object_at, zeroed, zeroed_bytes, leave_bits, is_zeroed, zeroed_where}
use Rattle.lift_forms.proofs.SameTypes.{type_is}
use Rattle.lift_forms.specs.Given.{address_of, pointed}
use Rattle.lift_forms.specs.Operators.{zero_of}
use Rattle.lift_forms.specs.Places.{Kept, object_place}
use Rattle.lift_forms_laws.proofs.Constants.{addresses}
use Rattle.lift_forms_laws.proofs.Runs.{pure_is, cast_gives}
use Rattle.lift_forms_laws.specs.Gives.{GivesAt, GivesPlace}
use Rattle.lift_stands.proofs.Cells.{length_below}
use Rattle.lift_stands.proofs.Loads.{BlockThere, block_there}
use Rattle.lift_stands.specs.Keeps.{KeepsOthers}
use Rattle.lift_stands.specs.Stands.{Images, PlaceBelow}
use Rattle.lift_stands.specs.Worlds.{HeldStands, WorldsStand}
use Rattle.lift_stands_lives.proofs.Begun.{worlds_held}
use Rattle.lift_stands_values.proofs.Literals.{zeros_leave, nothing_left}
use Rattle.mem_bytes.specs.Access.{after_fill}
use Rattle.mem_bytes.specs.Memory.{Block, Blocks, live_block, size_of, byte_cell}
use Rattle.mem_bytes.specs.declared.cell.Cell.{Cell}
use Rattle.mem_bytes.specs.declared.fault.Fault.{Fault}
use Rattle.mem_bytes.specs.declared.value.Ptr.{Ptr}
use Rattle.mem_bytes.specs.declared.value.Value.TheVariants.{Object}
use Rattle.rs_mean.specs.Calls.{spot}
use Rattle.rs_mean.specs.Lookups.{Home}
use Rattle.rs_mean.specs.Run.{normal, is_base}
use Rattle.rs_mean.specs.Scalars.{is_scalar, same_type}
use Rattle.rs_text.specs.Tree.{Pointer, Place as RustPlace, Local, Static, Deref, Field, Cast, Stmt, Assign}

-- ---- what C has made

-- the block of the object that C made anew
record IsMade (setting : _) (blocks : Blocks) (at : Ptr) (puts : CPuts) (made : CCleared) : Type 0 where
  block : Block
  live : live_block blocks at.block ≡ Some block
  size : made.size ≡ size_of block
  given : List Cell
  given_is : first_cells setting (size_of block) (Some puts) ≡ Ok given
  many : length given ≡ size_of block

is_made : (setting : _) (frame : _) (blocks : Blocks) (number : ℕ) (puts : CPuts) (at : Ptr) (made : CCleared) → slot_of frame number ≡ Some at → object_cleared setting frame number (Some puts) blocks ≡ Ok made → IsMade setting blocks at puts made
is_made setting frame blocks number puts at made there e =
    let slot = and_then_is (needed (slot_of frame number)) _ made e in
    let slots : Some slot.0 ≡ Some at = sym (needed_is (slot_of frame number) slot.0 slot.1) ∙ there in
    let same : slot.0 ≡ at = cc (slots) in
    let live = and_then_is (needed (live_block blocks slot.0.block)) (cleared_block setting (Some puts) blocks slot.0) made slot.2 in
    let given = and_then_is (first_cells setting (size_of live.0) (Some puts)) _ made live.2 in
    let held = and_then_is (sized (size_of live.0) given.0) _ made given.2 in
    record {
      block = live.0;
      live = ap (λ (p : Ptr). live_block blocks p.block) (sym same) ∙ needed_is (live_block blocks slot.0.block) live.0 live.1;
      size = ap size_in (sym held.2);
      given = given.0;
      given_is = given.1;
      many = as_many (size_of live.0) given.0 held.0 (length given.0 == size_of live.0) refl held.1;
    }
  where
    as_many : (size : ℕ) (list held : List Cell) (test : Bool) → (length list == size) ≡ test → (if test then Ok list else Err stuck) ≡ Ok held → length list ≡ size
    as_many size list held true is found = grind (arith, nat_tests, is)
    as_many size list held false is found = cc (found)

    size_in : {E : Type 0} → Result CCleared E → ℕ
    size_in (Ok one) = one.size
    size_in (Err why) = 0

-- ---- the address of an object, in any memory

module _ (x : Around) where
  place_anywhere : (world : World) (p : RustPlace) (home : Home) → home_in x.frame p ≡ Some home → GivesPlace x.frame world p (spot home.ty (Object (record { block = home.block; offset = 0 })))
  place_anywhere world (Local name) home e = record { runs = λ units. rw (e) (pure_is (spot home.ty (Object (record { block = home.block; offset = 0 }))) world units) }
  place_anywhere world (Static m name) home e = record { runs = λ units. rw (e) (pure_is (spot home.ty (Object (record { block = home.block; offset = 0 }))) world units) }
  place_anywhere world (Deref e) home same = cc (same)
  place_anywhere world (Field whole_of f) home same = cc (same)

  -- its object has a block in the crate, and its address is given in every memory
  record HasAddress (images : Images) (type : CTy) (number : ℕ) (at : Ptr) : Type 0 where
    block : ℕ
    below : PlaceBelow images at (record { block = block; offset = 0 })
    gives : (world : World) → GivesAt x.frame world (address_of (object_at x.names type number)) (Pointer (type_in x.names type)) (Object (record { block = block; offset = 0 }))

  has_address : (images : Images) (c_world world : World) (type : CTy) (number : ℕ) (at : Ptr) → At x images c_world world → slot_of (scope x) number ≡ Some at → at.offset ≡ 0 → HasAddress images type number at
  has_address images c_world world type number at here there begins =
      let agrees = here.frames.objects number at there in
      record {
        block = agrees.home.block;
        below = record { block = agrees.image; offset = sym begins };
        gives = λ w.
            subst (λ (kept : Option Kept). GivesAt x.frame w (address_of (object_place (kept_or kept) (type_in x.names type))) (Pointer (type_in x.names type)) (Object (record { block = agrees.home.block; offset = 0 }))) (sym (x.means.objects number agrees.kept agrees.kept_is))
            (by w agrees.kept agrees.home (agrees.is_home.ty_is) (place_anywhere w agrees.kept.place agrees.home agrees.is_home.home_is) (same_type agrees.kept.ty (type_in x.names type)) refl);
      }
    where
      by : (w : World) (kept : Kept) (home : Home) → home.ty ≡ kept.ty → GivesPlace x.frame w kept.place (spot home.ty (Object (record { block = home.block; offset = 0 }))) → (test : Bool) → same_type kept.ty (type_in x.names type) ≡ test →
          GivesAt x.frame w (address_of (if test then kept.place else pointed (Cast (address_of kept.place) (Pointer (type_in x.names type))))) (Pointer (type_in x.names type)) (Object (record { block = home.block; offset = 0 }))
      by w kept home ty_is gives true same = addresses x.frame w (type_in x.names type) kept.place (spot home.ty (Object (record { block = home.block; offset = 0 }))) gives (ty_is ∙ type_is kept.ty (type_in x.names type) same)
      by w kept home ty_is gives false same =
          cast_gives x.frame w (address_of kept.place) (Pointer kept.ty) (Pointer (type_in x.names type)) (Object (record { block = home.block; offset = 0 })) (Object (record { block = home.block; offset = 0 }))
          (addresses x.frame w kept.ty kept.place (spot home.ty (Object (record { block = home.block; offset = 0 }))) gives ty_is) refl

  -- ---- both have cleared

  -- statements have come to their end where C has made an object anew, and both stand there
  pub record ClearedBoth (images : Images) (c_world world : World) (list : List Stmt) (made : Blocks) : Type 0 where
    pub after : World
    pub comes : (units : ℕ) → runs x list world units ≡ came normal after units
    pub worlds : WorldsStand images (with_memory made c_world) after
    pub keeps : KeepsOthers (length (blocks_of world)) (λ _. false) images images c_world.held (with_blocks made c_world.held) world.held after.held

  module _ (images : Images) (c_world world : World) (type : CTy) (number : ℕ) (puts : CPuts) (made : CCleared) (here : At x images c_world world) (lives : IsLiteralAlive x.home (scope x) (blocks_of c_world) type number)
      (e : object_cleared (setting_in x.s) (scope x) number (Some puts) (blocks_of c_world) ≡ Ok made) where
    abbrev at : Ptr
    at = lives.alive.at

    abbrev laid : Laid
    laid = lives.alive.laid

    anew : IsMade (setting_in x.s) (blocks_of c_world) at puts made
    anew = is_made (setting_in x.s) (scope x) (blocks_of c_world) number puts at made lives.at_is e

    made_size : made.size ≡ laid.size
    made_size =
        let blocks : Some anew.block ≡ Some lives.alive.block = sym anew.live ∙ lives.alive.live in
        let same : anew.block ≡ lives.alive.block = cc (blocks) in
        anew.size ∙ ap size_of same ∙ lives.alive.size

    extent_there : extent_in (setting_in x.s) type ≡ Some laid
    extent_there = ap (λ (program : CProgram). extent_in (setting_of program) type) (sym x.means.program) ∙ lives.laid_is

    size_is : x.names.size_of type ≡ laid.size
    size_is = x.means.sizes type laid extent_there

    -- ---- zero bytes are written

    address : HasAddress images type number at
    address = has_address images c_world world type number at here lives.at_is lives.begins

    beside : BlockThere images (blocks_of world) (record { block = address.block; offset = 0 }) lives.alive.block
    beside = block_there images (blocks_of c_world) (blocks_of world) at (record { block = address.block; offset = 0 }) lives.alive.block here.worlds.held.memories address.below lives.alive.live

    block_size : size_of beside.other ≡ laid.size
    block_size = length_below images lives.alive.block.cells beside.other.cells beside.below.cells ∙ lives.alive.size

    aligned : laid.align ≤ beside.other.align
    aligned = let less = beside.below.align in let same = lives.alive.align in omega (arith, less, same)

    abbrev zeros_there : Blocks
    zeros_there = with_cells_at (blocks_of world) address.block beside.other (replicate laid.size (byte_cell 0))

    scalar_runs : is_scalar (type_in x.names type) ≡ true → (units : ℕ) → runs x (Assign (object_at x.names type number) (zero_of (type_in x.names type)) ∷ []) world units ≡ came normal (world_with x world zeros_there) units
    scalar_runs scalar units =
        let one = type_in x.names type in
        let kind = has_kind one scalar in
        let has = scalar_laid x.s.modules one laid kind.0 kind.1 (x.means.laid type laid extent_there) in
        let object = object_placed x images c_world world type number here lives in
        let blocks : Some object.to.block ≡ Some address.block = sym object.below.block ∙ address.below.block in
        let block : object.to.block ≡ address.block = cc (blocks) in
        let offset : object.to.offset ≡ 0 = object.below.offset ∙ lives.begins in
        let same : object.to ≡ record { block = address.block; offset = 0 } = ap (λ (b : ℕ). record { block = b; offset = object.to.offset }) block ∙ ap (λ (o : ℕ). record { block = address.block; offset = o }) offset in
        let enough : laid.size ≤ beside.other.align = let first = has.size in let second = has.align in omega (arith, first, second, aligned) in
        scalar_zeroed x world (object_at x.names type number) one object.placed.spot address.block beside.other laid.size scalar kind.0 kind.1 (sym has.size) object.placed.gives object.placed.ty_is (object.placed.at_is ∙ ap Object same)
        (either_true object.placed.spot.is_based (is_base x.frame.modules (blocks_of world) one object.placed.spot.at) object.placed.based (scalar_based x (blocks_of world) one kind.0 object.placed.spot.at kind.1)) beside.live block_size enough units
      where
        either_true : (b c : Bool) → (b ≡ true) ⊎ (b ≡ c) → c ≡ true → b ≡ true
        either_true b c (inl is) other = is
        either_true b c (inr is) other = is ∙ other

    bytes_runs : (units : ℕ) → runs x (zeroed_bytes (address_of (object_at x.names type number)) (x.names.size_of type)) world units ≡ came normal (world_with x world zeros_there) units
    bytes_runs units =
        let types = here.typed.scene.linked.types in
        let some : 0 < laid.size = complete_has_byte x.home.program.types type laid types lives.laid_is in
        let some_align : 0 < laid.align = extent_align x.home.program.types type laid types (extent_whole (layouts_of x.home.program.types) type laid lives.laid_is) in
        let most : laid.size ≤ most_bytes = let sizes = here.typed.scene.memory.objects.sizes at.block lives.alive.block lives.alive.live in let size = lives.alive.size in omega (arith, sizes, size) in
        subst (λ (n : ℕ). runs x (zeroed_bytes (address_of (object_at x.names type number)) n) world units ≡ came normal (world_with x world zeros_there) units) (sym size_is)
        (zeroed_runs x world (address_of (object_at x.names type number)) (type_in x.names type) address.block beside.other laid.size address.gives beside.live block_size (omega (arith, some_align, aligned)) some most units)

    zeroed_comes : (units : ℕ) → runs x (zeroed x.names type (object_at x.names type number)) world units ≡ came normal (world_with x world zeros_there) units
    zeroed_comes units = by (is_scalar (type_in x.names type)) refl
      where
        by : (scalar : Bool) → is_scalar (type_in x.names type) ≡ scalar →
            runs x (if scalar then Assign (object_at x.names type number) (zero_of (type_in x.names type)) ∷ [] else zeroed_bytes (address_of (object_at x.names type number)) (x.names.size_of type)) world units ≡ came normal (world_with x world zeros_there) units
        by true scalar = scalar_runs scalar units
        by false scalar = bytes_runs units

    zeros_both : ClearedBoth images c_world world (zeroed x.names type (object_at x.names type number)) made.blocks
    zeros_both =
        let leaves = zeros_leave (setting_in x.s) (scope x) number (Some puts) images c_world.held world.held at (record { block = address.block; offset = 0 }) made here.worlds.held lives.at_is address.below e in
        let filled : after_fill (blocks_of world) (record { block = address.block; offset = 0 }) 0 made.size ≡ Ok zeros_there =
        ap (λ (n : ℕ). after_fill (blocks_of world) (record { block = address.block; offset = 0 }) 0 n) made_size ∙ fill_zero (blocks_of world) address.block beside.other beside.live laid.size block_size in
        let same = as_blocks (after_fill (blocks_of world) (record { block = address.block; offset = 0 }) 0 made.size) leaves.beyond zeros_there leaves.done filled in
        record {
          after = world_with x world zeros_there;
          comes = zeroed_comes;
          worlds = worlds_held images images c_world world (with_blocks made.blocks c_world.held) (with_blocks zeros_there world.held) here.worlds
              (subst (λ (m : Blocks). HeldStands images (with_blocks made.blocks c_world.held) (with_blocks m world.held)) same leaves.stands);
          keeps = subst (λ (m : Blocks). KeepsOthers (length (blocks_of world)) (λ _. false) images images c_world.held (with_blocks made.blocks c_world.held) world.held (with_blocks m world.held)) same
              (leaves.keeps (length (blocks_of world)) (λ _. false));
        }
      where
        as_blocks : (found : Result Blocks Fault) (one other : Blocks) → found ≡ Ok one → found ≡ Ok other → one ≡ other
        as_blocks found one other is also = let both = sym is ∙ also in cc (both)

    -- ---- or nothing is

    nothing_both : ArePuts x.home type puts → x.names.has_bits ≡ false → leave_bits x.names puts 0 (8 * x.names.size_of type) ≡ false → ClearedBoth images c_world world [] made.blocks
    nothing_both are no_bits leaves =
        let none : has_bit_fields x.home.program.types ≡ false = ap (λ (program : CProgram). has_bit_fields program.types) x.means.program ∙ sym x.means.bits ∙ no_bits in
        let no_bytes : images.in_bytes ≡ false = here.program.bytes ∙ sym x.means.bits ∙ no_bits in
        let size : made.size ≡ x.names.size_of type = made_size ∙ sym size_is in
        let unset = first_unset x.s x.names x.means.sizes made.size puts anew.given (are_plain x.home type puts none are) (subst (λ (n : ℕ). leave_bits x.names puts 0 (8 * n) ≡ false) (sym size) leaves)
        (subst (λ (n : ℕ). first_cells (setting_in x.s) n (Some puts) ≡ Ok anew.given) (sym anew.size) anew.given_is) (anew.many ∙ sym anew.size) in
        let alone = nothing_left (setting_in x.s) (scope x) number (Some puts) images c_world.held world.held at (record { block = address.block; offset = 0 }) made here.worlds.held lives.at_is address.below e no_bytes unset in
        record {
          after = world;
          comes = λ units. pure_is normal world units;
          worlds = worlds_held images images c_world world (with_blocks made.blocks c_world.held) world.held here.worlds alone.stands;
          keeps = alone.keeps (length (blocks_of world)) (λ _. false);
        }

    pub literal_clears : ArePuts x.home type puts → ClearedBoth images c_world world (zeroed_where (is_zeroed x.names type puts) x.names type (object_at x.names type number)) made.blocks
    literal_clears are = by x.names.has_bits (leave_bits x.names puts 0 (8 * x.names.size_of type)) refl refl
      where
        by : (bits leaves : Bool) → x.names.has_bits ≡ bits → leave_bits x.names puts 0 (8 * x.names.size_of type) ≡ leaves →
            ClearedBoth images c_world world (if (bits || leaves) then zeroed x.names type (object_at x.names type number) else []) made.blocks
        by true leaves has left = zeros_both
        by false true has left = zeros_both
        by false false has left = nothing_both are has left

    -- what C has then is typed
    pub cleared_typed : ArePuts x.home type puts → IsTypedAt x.home (scope x) (with_memory made.blocks c_world)
    cleared_typed are =
        let one : CObject = record lives.one { object = number; type = type } in
        let own : IsAlive x.home.program (scope x) (blocks_of c_world) one = record {
          at = at;
          at_is = lives.at_is;
          laid = laid;
          laid_is = lives.laid_is;
          block = lives.alive.block;
          live = lives.alive.live;
          size = lives.alive.size;
          align = lives.alive.align;
        } in
        let stored : object_cleared (setting_of x.home.program) (scope x) number (Some puts) (blocks_of c_world) ≡ Ok made = ap (λ (program : CProgram). object_cleared (setting_of program) (scope x) number (Some puts) (blocks_of c_world)) x.means.program ∙ e in
        let good = subst (Surely (λ (c : CCleared). IsClearedOf x.home.program (blocks_of c_world) c.blocks)) stored
        (object_made x.home (scope x) (blocks_of c_world) one (Some puts) here.typed.scene.linked.types here.typed.scene.memory own are) in
        typed_stepped x.home (scope x) c_world made.blocks good.shapes good.memory here.typed

    pub cleared_reached : (from : ℕ) (are : ArePuts x.home type puts) → Reached x from from images images c_world world (with_memory made.blocks c_world) (literal_clears are).after
    cleared_reached from are =
        let cleared = literal_clears are in
        record {
          own = λ _. false;
          are_own = λ block is. cc (is);
          keeps = cleared.keeps;
          at = at_after x images images (λ _. false) c_world world (with_memory made.blocks c_world) cleared.after here cleared.keeps cleared.worlds (cleared_typed are);
        }
