-- Loads, stores and new blocks keep that one memory stands for another.
use Rattle.std.proofs.Common.{◌≡◌, ◌≢◌, ℕ, zero, suc, ◌+◌, ◌%◌, Bool, true, false, cond, nat_le, ◌==◌, ◌&&◌, List, [], ◌∷◌, ◌++◌, length, take, drop, map, slice_get, slice_set, Option, Some, None, Result, Ok, Err, refl, sym, ap, subst, ◌∙◌, ◌⊎◌, inl, inr, ℤ, arith}
use Rattle.std.specs.List.{list_all}
use Rattle.std.proofs.lemmas.Bool.{eqb-true, leb-true, le-leb}
use Rattle.std.proofs.lemmas.Bool.Decides.{eqb_tells}
use Rattle.std.proofs.lemmas.List.{length-set}
use Rattle.cr_base.specs.declared.scalar.Scalar.{Scalar}
use Rattle.cr_base.specs.declared.scalar.Scalar.TheVariants.{Whole}
use Rattle.mem_bytes.specs.declared.cell.Cell.{Cell}
use Rattle.mem_bytes.specs.declared.cell.Cell.TheVariants.{Bits, PtrByte}
use Rattle.mem_bytes.specs.declared.fault.Fault.{Fault}
use Rattle.mem_bytes.specs.declared.fault.Fault.TheVariants.{Unset, Misaligned, MixedPointer}
use Rattle.mem_bytes.specs.declared.value.Ptr.{Ptr}
use Rattle.mem_bytes.specs.declared.value.Value.{Value}
use Rattle.mem_bytes.specs.declared.value.Value.TheVariants.{Whole as Number}
use Rattle.mem_bytes.specs.Access.{and_then, part_of, is_aligned, scalar_part_of, live_read, block_value, block_with_value, value_at, after_put}
use Rattle.mem_bytes.specs.Coding.{scalar_size, cells_of, value_of, is_set, is_bits, number_value, bytes_of, bits_of}
use Rattle.cr_base.specs.Scalar.{modulus, residue}
use Rattle.mem_bytes.specs.Memory.{Block, Blocks, live_block, size_of, byte_cell, with_part}
use Rattle.mem_bytes.proofs.Reached.{and_then_ok, part_ok, part_inside, scalar_part_ok, changed}
use Rattle.mem_bytes.proofs.Slots.{live-set_same, live-set_other, live_within}
use Rattle.straight_lift.specs.StandsFor.{Images, BitsBelow, CellsBelow, BlockBelow, HasImage, StandsFor}

-- two options of values that are one
some_equal : {A : Type 0} (a b : A) → Some a ≡ Some b → a ≡ b
some_equal a b e = cc

-- two tests that hold together
both_true : (a b : Bool) → (a && b) ≡ true → (a ≡ true) × (b ≡ true)
both_true true true e = (refl, refl)
both_true true false e = cc
both_true false b e = cc

true_both : (a b : Bool) → a ≡ true → b ≡ true → (a && b) ≡ true
true_both true true e f = refl
true_both true false e f = cc
true_both false b e f = cc

-- ---- cells

pub below_take : (images : Images) (count : ℕ) (cells others : List Cell) → CellsBelow images cells others → CellsBelow images (take count cells) (take count others)
below_take images zero cells others below = tt
below_take images (suc count) [] [] below = tt
below_take images (suc count) (cell ∷ cells) (other ∷ others) below = (below.0, below_take images count cells others below.1)
below_take images (suc count) [] (other ∷ others) below = below
below_take images (suc count) (cell ∷ cells) [] below = below

pub below_drop : (images : Images) (count : ℕ) (cells others : List Cell) → CellsBelow images cells others → CellsBelow images (drop count cells) (drop count others)
below_drop images zero cells others below = below
below_drop images (suc count) [] [] below = tt
below_drop images (suc count) (cell ∷ cells) (other ∷ others) below = below_drop images count cells others below.1
below_drop images (suc count) [] (other ∷ others) below = elim below [ ]
below_drop images (suc count) (cell ∷ cells) [] below = elim below [ ]

pub below_append : (images : Images) (cells others more rest : List Cell) → CellsBelow images cells others → CellsBelow images more rest → CellsBelow images (cells ++ more) (others ++ rest)
below_append images [] [] more rest below behind = behind
below_append images (cell ∷ cells) (other ∷ others) more rest below behind = (below.0, below_append images cells others more rest below.1 behind)
below_append images [] (other ∷ others) more rest below behind = elim below [ ]
below_append images (cell ∷ cells) [] more rest below behind = elim below [ ]

pub below_length : (images : Images) (cells others : List Cell) → CellsBelow images cells others → length others ≡ length cells
below_length images [] [] below = refl
below_length images (cell ∷ cells) (other ∷ others) below = ap suc (below_length images cells others below.1)
below_length images [] (other ∷ others) below = elim below [ ]
below_length images (cell ∷ cells) [] below = elim below [ ]

-- bits stand for themselves
bits_below : (value set : ℕ) → BitsBelow value set (Bits value set)
bits_below value set = record { whole = λ all. ap (Bits value) all; each = λ k less one. (one, refl) }

-- cells that hold no pointer's byte stand for themselves
pub below_itself : (images : Images) (cells : List Cell) → list_all is_bits cells ≡ true → CellsBelow images cells cells
below_itself images [] bits = tt
below_itself images (Bits value set ∷ cells) bits = (bits_below value set, below_itself images cells bits)
below_itself images (PtrByte of index ∷ cells) bits = cc

-- cells all of whose bits are set, and that hold no pointer's byte, are equal to those that stand for them
pub below_equal : (images : Images) (cells others : List Cell) → list_all is_set cells ≡ true → list_all is_bits cells ≡ true → CellsBelow images cells others → others ≡ cells
below_equal images [] [] set bits below = refl
below_equal images [] (other ∷ others) set bits below = elim below [ ]
below_equal images (cell ∷ cells) [] set bits below = elim below [ ]
below_equal images (PtrByte of index ∷ cells) (other ∷ others) set bits below = cc
below_equal images (Bits value all ∷ cells) (other ∷ others) set bits below =
    let tests = both_true (all == 255) (list_all is_set cells) set in
    let e : all ≡ 255 = eqb-true all 255 tests.0 in
    ap (λ cell. cell ∷ others) (below.0.whole e ∙ ap (Bits value) (sym e)) ∙ ap (λ list. Bits value all ∷ list) (below_equal images cells others tests.1 bits below.1)

-- ---- one block

-- a step that read a live block
pub record Read {A : Type 0} (slot : Option Block) (step : Block → Result A Fault) (value : A) : Type 0 where
  pub block : Block
  pub live : slot ≡ Some block
  pub stepped : step block ≡ Ok value

pub read_from : {A : Type 0} (slot : Option Block) (step : Block → Result A Fault) (value : A) → live_read slot step ≡ Ok value → Read slot step value
read_from None step value e = cc
read_from (Some block) step value e = record { block = block; live = refl; stepped = e }

module _ (images : Images) (block other : Block) (below : BlockBelow images block other) where
  -- the two blocks have one size
  same_size : size_of other ≡ size_of block
  same_size = below_length images block.cells other.cells below.cells

  -- a scalar that may stand at an offset of the one may stand there in the other
  aligned_too : (scalar : Scalar) (offset : ℕ) → is_aligned scalar block offset ≡ true → is_aligned scalar other offset ≡ true
  aligned_too scalar offset aligned =
      let tests = both_true (offset % scalar_size scalar == 0) (nat_le (scalar_size scalar) block.align) aligned in
      true_both (offset % scalar_size scalar == 0) (nat_le (scalar_size scalar) other.align) tests.0 (le-leb (scalar_size scalar) other.align (omega (arith, leb-true (scalar_size scalar) block.align tests.1, below.align)))

  -- a scalar's cells in the one, and those beside them
  part_below : (scalar : Scalar) (offset : ℕ) (cells : List Cell) → scalar_part_of block offset scalar ≡ Ok cells →
      (others : List Cell) × (scalar_part_of other offset scalar ≡ Ok others) × CellsBelow images cells others
  part_below scalar offset cells e =
      let reached = scalar_part_ok block offset scalar cells e in
      let inside = part_ok block offset (scalar_size scalar) cells reached.0 in
      let others = take (scalar_size scalar) (drop offset other.cells) in
      let beside : part_of other offset (scalar_size scalar) ≡ Ok others = part_inside other offset (scalar_size scalar) (omega (arith, inside.0, same_size)) in (
        others,
        ap (λ part. and_then part (λ held. cond (is_aligned scalar other offset) (Ok held) (Err Misaligned))) beside ∙ ap (λ fits. cond fits (Ok others) (Err Misaligned)) (aligned_too scalar offset reached.1),
        subst (λ list. CellsBelow images list others) (sym inside.1) (below_take images (scalar_size scalar) (drop offset block.cells) (drop offset other.cells) (below_drop images offset block.cells other.cells below.cells)),
      )

-- ---- one block in place of another

module _ (images : Images) (memory crate_memory : Blocks) (stands : StandsFor images memory crate_memory) where
  -- a live block and its image are replaced by blocks of which one stands for the other
  pub replaced : (number image : ℕ) (block new other crate_new : Block) → live_block memory number ≡ Some block → slice_get images.blocks number ≡ Some image → live_block crate_memory image ≡ Some other →
      BlockBelow images new crate_new → StandsFor images (slice_set memory number (Some new)) (slice_set crate_memory image (Some crate_new))
  replaced number image block new other crate_new live mapped crate_live below = record { mapped = stands.mapped ∙ sym (length-set memory number (Some new)); blocks = blocks; apart = apart }
    where
      -- a block that is live afterwards was live before
      before : (one : ℕ) (first : Block) → live_block (slice_set memory number (Some new)) one ≡ Some first → (was : Block) × (live_block memory one ≡ Some was)
      before one first e = by_case (eqb_tells number one)
        where
          by_case : (((number == one) ≡ true) × (number ≡ one)) ⊎ (((number == one) ≡ false) × (number ≢ one)) → (was : Block) × (live_block memory one ≡ Some was)
          by_case (inl (_, same)) = (block, ap (live_block memory) (sym same) ∙ live)
          by_case (inr (_, other)) = (first, sym (live-set_other memory number one (Some new) other) ∙ e)

      apart : (one two shared : ℕ) (first second : Block) → live_block (slice_set memory number (Some new)) one ≡ Some first → live_block (slice_set memory number (Some new)) two ≡ Some second →
          slice_get images.blocks one ≡ Some shared → slice_get images.blocks two ≡ Some shared → one ≡ two
      apart one two shared first second e f =
          let was = before one first e in
          let were = before two second f in
          stands.apart one two shared was.0 were.0 was.1 were.1

      blocks : (one : ℕ) (first : Block) → live_block (slice_set memory number (Some new)) one ≡ Some first → HasImage images (slice_set crate_memory image (Some crate_new)) one first
      blocks one first e = by_case (eqb_tells number one)
        where
          by_case : (((number == one) ≡ true) × (number ≡ one)) ⊎ (((number == one) ≡ false) × (number ≢ one)) → HasImage images (slice_set crate_memory image (Some crate_new)) one first
          by_case (inl (_, same)) =
              let first_new : new ≡ first = some_equal new first (sym (live-set_same memory number new (live_within memory number block live)) ∙ ap (live_block (slice_set memory number (Some new))) same ∙ e) in
              record {
                image = image;
                other = crate_new;
                mapped = ap (slice_get images.blocks) (sym same) ∙ mapped;
                live = live-set_same crate_memory image crate_new (live_within crate_memory image other crate_live);
                below = subst (λ b. BlockBelow images b crate_new) first_new below;
              }
          by_case (inr (_, different)) =
              let was : live_block memory one ≡ Some first = sym (live-set_other memory number one (Some new) different) ∙ e in
              let found = stands.blocks one first was in
              record {
                image = found.image;
                other = found.other;
                mapped = found.mapped;
                live = live-set_other crate_memory image found.image (Some crate_new) (λ same. different (stands.apart number one image block first live was mapped (found.mapped ∙ ap Some (sym same)))) ∙ found.live;
                below = found.below;
              }

  -- the crate's memory may change wherever it is the image of no live block
  pub frame_stands : (crate_after : Blocks) → ((image : ℕ) (number : ℕ) (block other : Block) → live_block memory number ≡ Some block → slice_get images.blocks number ≡ Some image → live_block crate_memory image ≡ Some other → live_block crate_after image ≡ Some other) →
      StandsFor images memory crate_after
  frame_stands crate_after stays = record {
    mapped = stands.mapped;
    blocks = λ number block live.
        let found = stands.blocks number block live in
        record { image = found.image; other = found.other; mapped = found.mapped; live = stays found.image number block found.other live found.mapped found.live; below = found.below };
    apart = stands.apart;
  }

-- a number's cells are set, and none is a pointer's byte
module _ (width : ℕ) (signed : Bool) where
  abbrev whole : Scalar
  whole = Whole width signed

  whole_from : (cells : List Cell) (value : Value) (set bits : Bool) → cond set (cond bits (number_value whole (bits_of cells)) (Err MixedPointer)) (Err Unset) ≡ Ok value → (set ≡ true) × (bits ≡ true)
  whole_from cells value true true e = (refl, refl)
  whole_from cells value true false e = cc
  whole_from cells value false bits e = cc

  pub whole_set : (cells : List Cell) (value : Value) → value_of whole cells ≡ Ok value → (list_all is_set cells ≡ true) × (list_all is_bits cells ≡ true)
  whole_set cells value e = whole_from cells value (list_all is_set cells) (list_all is_bits cells) e

  -- a number that the one block holds, the other holds
  block_value_below : (images : Images) (block other : Block) → BlockBelow images block other → (offset : ℕ) (value : Value) → block_value block offset whole ≡ Ok value → block_value other offset whole ≡ Ok value
  block_value_below images block other below offset value e =
      let parts = and_then_ok (scalar_part_of block offset whole) (value_of whole) value e in
      let beside = part_below images block other below whole offset parts.0 parts.1 in
      let held = whole_set parts.0 value parts.2 in
      ap (λ part. and_then part (value_of whole)) (beside.1 ∙ ap Ok (below_equal images parts.0 beside.0 held.0 held.1 beside.2)) ∙ parts.2

  -- ---- loads

  -- a number that is loaded in the program's memory is loaded from its image
  pub load_stands : (images : Images) (memory crate_memory : Blocks) → StandsFor images memory crate_memory →
      (at : Ptr) (image : ℕ) → slice_get images.blocks at.block ≡ Some image → (value : Value) →
      value_at memory at whole ≡ Ok value → value_at crate_memory (record { block = image; offset = at.offset }) whole ≡ Ok value
  load_stands images memory crate_memory stands at image mapped value e =
      let step : Block → Result Value Fault = λ block. block_value block at.offset whole in
      let read = read_from (live_block memory at.block) step value e in
      let found = stands.blocks at.block read.block read.live in
      let same : found.image ≡ image = some_equal found.image image (sym found.mapped ∙ mapped) in
      ap (λ slot. live_read slot step) (ap (live_block crate_memory) (sym same) ∙ found.live) ∙ block_value_below images read.block found.other found.below at.offset value read.stepped

  -- ---- stores

  -- the cells of a number hold no pointer's byte
  bytes_are_bits : (bytes : List ℕ) → list_all is_bits (map byte_cell bytes) ≡ true
  bytes_are_bits [] = refl
  bytes_are_bits (byte ∷ bytes) = bytes_are_bits bytes

  -- a block with other cells, beside one with cells that stand for them
  with_part_below : (images : Images) (block other : Block) → BlockBelow images block other → (offset : ℕ) (cells : List Cell) → list_all is_bits cells ≡ true → BlockBelow images (with_part block offset cells) (with_part other offset cells)
  with_part_below images block other below offset cells bits = record {
    align = below.align;
    cells = below_append images (take offset block.cells ++ cells) (take offset other.cells ++ cells) (drop (offset + length cells) block.cells) (drop (offset + length cells) other.cells)
        (below_append images (take offset block.cells) (take offset other.cells) cells cells (below_take images offset block.cells other.cells below.cells) (below_itself images cells bits))
        (below_drop images (offset + length cells) block.cells other.cells below.cells);
  }

  -- a number is stored in the program's memory and in its image
  pub put_stands : (images : Images) (memory after crate_memory : Blocks) → StandsFor images memory crate_memory →
      (at : Ptr) (image : ℕ) → slice_get images.blocks at.block ≡ Some image → (n : ℤ) →
      after_put memory at whole (Number n) ≡ Ok after →
      (crate_after : Blocks) × (after_put crate_memory (record { block = image; offset = at.offset }) whole (Number n) ≡ Ok crate_after) × StandsFor images after crate_after
  put_stands images memory after crate_memory stands at image mapped n e =
      let cells = cells_of whole (Number n) in
      let bits : list_all is_bits cells ≡ true = bytes_are_bits (bytes_of (scalar_size whole) (residue n (modulus whole))) in
      let step : Block → Result Block Fault = λ block. block_with_value block at.offset whole (Number n) in
      let change = changed memory after at.block step e in
      let parts = and_then_ok (scalar_part_of change.block at.offset whole) (λ _. Ok (with_part change.block at.offset cells)) change.new change.stepped in
      let new : with_part change.block at.offset cells ≡ change.new = cc (parts.2) in
      let found = stands.blocks at.block change.block change.live in
      let same : found.image ≡ image = some_equal found.image image (sym found.mapped ∙ mapped) in
      let live : live_block crate_memory image ≡ Some found.other = ap (live_block crate_memory) (sym same) ∙ found.live in
      let beside = part_below images change.block found.other found.below whole at.offset parts.0 parts.1 in
      let crate_new = with_part found.other at.offset cells in
      let crate_after = slice_set crate_memory image (Some crate_new) in
      let stored : after_put crate_memory (record { block = image; offset = at.offset }) whole (Number n) ≡ Ok crate_after =
      ap (λ slot. and_then (live_read slot step) (λ block. Ok (slice_set crate_memory image (Some block)))) live
      ∙ ap (λ part. and_then (and_then part (λ _. Ok crate_new)) (λ block. Ok (slice_set crate_memory image (Some block)))) beside.1 in
      let below : BlockBelow images change.new crate_new = subst (λ block. BlockBelow images block crate_new) new (with_part_below images change.block found.other found.below at.offset cells bits) in
      (crate_after, stored, subst (λ m. StandsFor images m crate_after) (sym change.made) (replaced images memory crate_memory stands at.block image change.block change.new found.other crate_new change.live mapped live below))
