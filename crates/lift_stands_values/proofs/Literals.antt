-- Objects that C makes anew.
use Rattle.std.proofs.Common.{◌≡◌, ℕ, ◌+◌, ◌==◌, Bool, true, false, if◌then◌else◌, List, [], ◌∷◌, ◌++◌, length, drop, replicate, All, Option, Some, slice_set, Result, Ok, sym, ap, ◌∙◌, subst, arith}
use Rattle.std.proofs.lemmas.Bool.{eqb-true}
use Rattle.std.proofs.lemmas.List.{append-nil, drop_all, length-replicate}
use Rattle.std.proofs.lemmas.List.Elements.{All-replicate}
use Rattle.cr_world.specs.Held.{Held}
use Rattle.cx_core.specs.Trees.{CPuts}
use Rattle.cx_mean.specs.Accesses.{sized}
use Rattle.cx_mean.specs.Initialisers.{CCleared, first_cells, cleared_block, object_cleared}
use Rattle.cx_mean.specs.Operands.{CWhy, needed, Frame, slot_of}
use Rattle.cx_mean.specs.Settings.{CSetting}
use Rattle.lift_stands.specs.LawsStores.{StandsAfter}
use Rattle.lift_stands.specs.Stands.{Images, PlaceBelow, CellsBelow, BlockBelow, StandsFor}
use Rattle.lift_stands.specs.Worlds.{HeldStands}
use Rattle.lift_stands.proofs.Cells.{length_below}
use Rattle.lift_stands.proofs.Loads.{block_there}
use Rattle.lift_stands.proofs.Stores.{set_stands}
use Rattle.lift_stands_accesses.proofs.Results.{where_true}
use Rattle.lift_stands_lives.specs.LawsStored.{StoreLeaves}
use Rattle.lift_stands_lives.specs.Rooms.{HasRoom}
use Rattle.lift_stands_lives.proofs.HeldLives.{held_changed}
use Rattle.lift_stands_lives.proofs.Pushed.{written_lives}
use Rattle.lift_stands_lives.proofs.Rooms.{room_below}
use Rattle.lift_stands_lives.proofs.Steps.{stores_keep}
use Rattle.lift_stands_lives.proofs.Stored.{leaves}
use Rattle.lift_stands_values.specs.Literals.{ClearedAlone}
use Rattle.lift_stands_values.proofs.Results.{needed_ok}
use Rattle.lift_stands_values.proofs.Zeros.{all_below, all_held, first_zeros}
use Rattle.mem_bytes.specs.Access.{and_then, block_with_fill, live_read, after_fill}
use Rattle.mem_bytes.specs.Laws.{IsHeld, Writes}
use Rattle.mem_bytes.specs.Memory.{Block, Blocks, live_block, size_of, unset_cell, byte_cell, with_part}
use Rattle.mem_bytes.specs.declared.cell.Cell.{Cell}
use Rattle.mem_bytes.specs.declared.value.Ptr.{Ptr}
use Rattle.mem_bytes.proofs.Reached.{and_then_ok, part_inside}
use Rattle.mem_bytes.proofs.Slots.{set_live}
use Rattle.mem_bytes.proofs.Written.{fill_writes}

-- ---- in C

-- an object in scope begins where its block does
pub slot_begins : (frame : Frame) (number : ℕ) (at : Ptr) → slot_of frame number ≡ Some at → at.offset ≡ 0
slot_begins [] number at e = cc
slot_begins (slot ∷ others) number at e = by_test (slot.object == number) (slot_begins others number at) e
  where
    by_test : (test : Bool) → (slot_of others number ≡ Some at → at.offset ≡ 0) → (if test then Some (record { block = slot.block; offset = 0 }) else slot_of others number) ≡ Some at → at.offset ≡ 0
    by_test true rest f =
        let same : record { block = slot.block; offset = 0 } ≡ at = cc in
        ap (λ p. p.offset) (sym same)
    by_test false rest f = rest f

-- so many cells in the place of a whole block's
whole_part : (block : Block) (cells : List Cell) → length cells ≡ size_of block → with_part block 0 cells ≡ record block { cells = cells }
whole_part block cells many =
    let none : drop (0 + length cells) block.cells ≡ [] = drop_all (0 + length cells) block.cells (omega (arith, many)) in
    ap (λ (rest : List Cell). record block { cells = cells ++ rest }) none ∙ ap (λ (all : List Cell). record block { cells = all }) (append-nil cells)

-- what clearing an object makes of its block
record Cleared (setting : CSetting) (puts : Option CPuts) (memory : Blocks) (at : Ptr) (one : CCleared) : Type 0 where
  block : Block
  live : live_block memory at.block ≡ Some block
  cells : List Cell
  first : first_cells setting (size_of block) puts ≡ Ok cells
  many : length cells ≡ size_of block
  size : one.size ≡ size_of block
  made : one.blocks ≡ slice_set memory at.block (Some (record block { cells = cells }))

cleared : (setting : CSetting) (frame : Frame) (number : ℕ) (puts : Option CPuts) (memory : Blocks) (at : Ptr) (one : CCleared) → slot_of frame number ≡ Some at → object_cleared setting frame number puts memory ≡ Ok one → Cleared setting puts memory at one
cleared setting frame number puts memory at one slot e =
    let found : and_then (needed (live_block memory at.block)) (cleared_block setting puts memory at) ≡ Ok one = ap (λ s. and_then (needed s) (λ p. and_then (needed (live_block memory p.block)) (cleared_block setting puts memory p))) (sym slot) ∙ e in
    let block = and_then_ok (needed (live_block memory at.block)) (cleared_block setting puts memory at) one found in
    let last : List Cell → Result CCleared CWhy = λ held. Ok (record { at = at; size = size_of block.0; blocks = slice_set memory at.block (Some (record block.0 { cells = held })) }) in
    let given = and_then_ok (first_cells setting (size_of block.0) puts) (λ cells. and_then (sized (size_of block.0) cells) last) one block.2 in
    let held = and_then_ok (sized (size_of block.0) given.0) last one given.2 in
    let sizes = where_true (length given.0 == size_of block.0) (Ok given.0) held.0 held.1 in
    let same : given.0 ≡ held.0 = cc (sizes.1) in
    let is : record { at = at; size = size_of block.0; blocks = slice_set memory at.block (Some (record block.0 { cells = held.0 })) } ≡ one = cc (held.2) in
    record {
      block = block.0;
      live = needed_ok (live_block memory at.block) block.0 block.1;
      cells = given.0;
      first = given.1;
      many = eqb-true (length given.0) (size_of block.0) sizes.0;
      size = ap (λ c. c.size) (sym is);
      made = ap (λ c. c.blocks) (sym is) ∙ ap (λ (cells : List Cell). slice_set memory at.block (Some (record block.0 { cells = cells }))) (sym same);
    }

module _ (setting : CSetting) (frame : Frame) (number : ℕ) (puts : Option CPuts) (images : Images) (held other : Held) (at to : Ptr) (one : CCleared) (stands : HeldStands images held other) (slot : slot_of frame number ≡ Some at) (place : PlaceBelow images at to) (e : object_cleared setting frame number puts held.blocks ≡ Ok one) where
  begins : at.offset ≡ 0
  begins = slot_begins frame number at slot

  -- it is written whole
  all_written : Cleared setting puts held.blocks at one → Writes held.blocks at one.size one.blocks
  all_written made =
      let whole : record made.block { cells = made.cells } ≡ with_part made.block at.offset made.cells = sym (ap (λ n. with_part made.block n made.cells) begins ∙ whole_part made.block made.cells made.many) in
      record {
        block = made.block;
        cells = made.cells;
        live = made.live;
        many = made.many ∙ sym made.size;
        within = omega (arith, begins, made.size);
        made = made.made ∙ ap (λ (b : Block). slice_set held.blocks at.block (Some b)) whole;
      }

  -- ---- and zeros in the crate

  zeros_stand : (made : Cleared setting puts held.blocks at one) → StandsAfter images one.blocks (after_fill other.blocks to 0 one.size)
  zeros_stand made =
      let size = one.size in
      let zeros = replicate size (byte_cell 0) in
      let beside = block_there images held.blocks other.blocks at to made.block stands.memories place made.live in
      let next : Block = with_part beside.other to.offset zeros in
      let there : to.offset ≡ 0 = place.offset ∙ begins in
      let as_many : size_of beside.other ≡ size = length_below images made.block.cells beside.other.cells beside.below.cells ∙ sym made.size in
      let is : next ≡ record beside.other { cells = zeros } = ap (λ n. with_part beside.other n zeros) there ∙ whole_part beside.other zeros (length-replicate size (byte_cell 0) ∙ sym as_many) in
      let are = first_zeros setting (size_of made.block) puts made.cells made.first in
      let many : length made.cells ≡ size = made.many ∙ sym made.size in
      let cells : CellsBelow images made.cells zeros = subst (λ n. CellsBelow images made.cells (replicate n (byte_cell 0))) many (all_below images made.cells are) in
      let below : BlockBelow images (record made.block { cells = made.cells }) next = subst (BlockBelow images (record made.block { cells = made.cells })) (sym is) (record { align = beside.below.align; aligned = beside.below.aligned; cells = cells }) in
      let zeros_held : All IsHeld next.cells = subst (λ (b : Block). All IsHeld b.cells) (sym is) (All-replicate IsHeld size (byte_cell 0) (omega arith, omega arith)) in
      let both = set_stands images held.blocks other.blocks at.block to.block made.block (record made.block { cells = made.cells }) beside.other next stands.memories made.live place.block beside.live below (all_held made.cells are) zeros_held in
      record {
        other = slice_set other.blocks to.block (Some next);
        done =
            ap (λ one. and_then (live_read one (λ block. block_with_fill block to.offset 0 size)) (λ block. Ok (slice_set other.blocks to.block (Some block)))) beside.live
            ∙ ap (λ r. and_then (and_then r (λ _. Ok next)) (λ block. Ok (slice_set other.blocks to.block (Some block)))) (part_inside beside.other to.offset size (omega (arith, there, as_many)));
        stands = subst (λ m. StandsFor images m (slice_set other.blocks to.block (Some next))) (sym made.made) both;
      }

  pub zeros_leave : StoreLeaves images held other one.blocks (after_fill other.blocks to 0 one.size)
  zeros_leave =
      let made = cleared setting frame number puts held.blocks at one slot e in
      leaves images held other one.blocks at to stands place one.size one.size (after_fill other.blocks to 0 one.size) (zeros_stand made) (all_written made)
      (λ beyond f. fill_writes other.blocks beyond to 0 one.size f)

  -- ---- or nothing, where no bit is set

  pub nothing_left : images.in_bytes ≡ false → first_cells setting one.size puts ≡ Ok (replicate one.size unset_cell) → ClearedAlone images held other one.blocks
  nothing_left no_bits first =
      let made = cleared setting frame number puts held.blocks at one slot e in
      let beside = block_there images held.blocks other.blocks at to made.block stands.memories place made.live in
      let again : first_cells setting one.size puts ≡ Ok made.cells = ap (λ n. first_cells setting n puts) made.size ∙ made.first in
      let is : replicate one.size unset_cell ≡ made.cells = cc in
      let room : HasRoom images.in_bytes one.size made.block.align beside.other = record {
        same_size = length_below images made.block.cells beside.other.cells beside.below.cells ∙ sym made.size;
        enough_align = beside.below.align;
        aligned = beside.below.aligned;
        bytes = λ bits. let no : true ≡ false = sym bits ∙ no_bits in cc;
      } in
      let below : BlockBelow images (record made.block { cells = made.cells }) beside.other = subst (λ (c : List Cell). BlockBelow images (record made.block { cells = c }) beside.other) is (room_below images one.size made.block.align beside.other room) in
      let are = first_zeros setting (size_of made.block) puts made.cells made.first in
      let both = set_stands images held.blocks other.blocks at.block to.block made.block (record made.block { cells = made.cells }) beside.other beside.other stands.memories made.live place.block beside.live below (all_held made.cells are) (stands.memories.others_held to.block beside.other beside.live) in
      let same : slice_set other.blocks to.block (Some beside.other) ≡ other.blocks = set_live other.blocks to.block beside.other beside.live in
      let memories : StandsFor images one.blocks other.blocks = subst (λ m. StandsFor images m other.blocks) (sym made.made) (subst (StandsFor images (slice_set held.blocks at.block (Some (record made.block { cells = made.cells })))) same both) in
      let writes = all_written made in
      record {
        stands = held_changed images held other one.blocks other.blocks stands memories (λ one_listed f living. written_lives held.blocks one.blocks at one.size writes one_listed living) (omega arith);
        keeps = λ base own. stores_keep base own images held other stands.memories.mapped at one.size one.blocks writes;
      }
