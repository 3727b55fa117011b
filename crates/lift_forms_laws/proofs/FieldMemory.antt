-- Bytes that stand at a place of a memory, and a bit-field that is put in them.
use Rattle.std.proofs.Common.{◌≡◌, ℕ, suc, ◌+◌, ◌-◌, ◌*◌, ◌%◌, ◌^◌, ◌<◌, ◌≤◌, pos, List, [], ◌∷◌, ◌++◌, map, length, take, drop, slice_set, get_or, drop-cons, All, Some, Result, Ok, Err, refl, sym, ap, ◌∙◌, subst, arith, rules}
use Rattle.std.proofs.Math.Nat.{mod-eq_of_lt}
use Rattle.std.proofs.lemmas.Bool.{cond-true}
use Rattle.std.proofs.lemmas.List.{length-take-le, length-map, places, same_lists, set-set, set_split, take-map, drop-map, map-set, map-append}
use Rattle.std.proofs.lemmas.List.Elements.{All-take, All-drop}
use Rattle.mem_bytes.specs.declared.cell.Cell.{Cell}
use Rattle.mem_bytes.specs.declared.fault.Fault.{Fault}
use Rattle.mem_bytes.specs.declared.value.Ptr.{Ptr}
use Rattle.mem_bytes.specs.declared.value.Value.TheVariants.{Whole as Number}
use Rattle.mem_bytes.specs.Access.{and_then, part_of, live_read, after_put, block_with_field, after_put_bits}
use Rattle.mem_bytes.specs.Bits.{bytes_touched, with_field, bit_cells, with_field_in}
use Rattle.mem_bytes.specs.Coding.{bits_of, set_of, bytes_of, number_of}
use Rattle.mem_bytes.specs.Laws.{behind}
use Rattle.mem_bytes.specs.Memory.{Block, Blocks, live_block, size_of, byte_cell, with_part}
use Rattle.mem_bytes.proofs.Coded.{length-bytes_of}
use Rattle.mem_bytes.proofs.Fields.{with_field_below}
use Rattle.mem_bytes.proofs.Reached.{part_inside, part_ok, length_part, size_of-with_part, written_part}
use Rattle.mem_bytes.proofs.Slots.{live-set_same, live_within, set_live}
use Rattle.mem_bytes_bits.specs.Laws.{HoldsBytes, after_put_bytes, byte_scalar, with_field_bytes}
use Rattle.mem_bytes_bits.proofs.ByBytes.{all_bits, bits_back, all_set, set_cells, stays_set, field_stored}
use Rattle.lift_forms_laws.proofs.FieldBytes.{field_in_first}

-- ---- cells and bytes

abbrev pub byte_cells : List ℕ → List Cell
byte_cells bytes = map byte_cell bytes

cells_within : (cells : List Cell) (offset count k many : ℕ) → k + many ≤ count → take many (drop (offset + k) cells) ≡ take many (drop k (take count (drop offset cells)))
cells_within cells offset count k many less = same_lists _ _ (search (rules, places)) (λ i d l. grind (arith, places))

byte_cells_within : (bytes : List ℕ) (k many : ℕ) → take many (drop k (byte_cells bytes)) ≡ byte_cells (take many (drop k bytes))
byte_cells_within bytes k many = ap (take many) (drop-map byte_cell k bytes) ∙ take-map byte_cell many (drop k bytes)

-- cells of a part before the others of a longer one
rest_stays : (cells first part : List Cell) (offset count : ℕ) → offset + count ≤ length cells → length first ≤ count → part ≡ take count (drop offset cells) →
    take offset cells ++ (first ++ drop (length first) part) ++ drop (offset + count) cells ≡ take offset cells ++ first ++ drop (offset + length first) cells
rest_stays cells first part offset count inside less is = same_lists _ _ (search (rules, places)) (λ i d l. grind (arith, places))

-- a part put in its own place
part_back : (cells part : List Cell) (offset count : ℕ) → offset + count ≤ length cells → part ≡ take count (drop offset cells) → take offset cells ++ part ++ drop (offset + length part) cells ≡ cells
part_back cells part offset count inside is = same_lists _ _ (search (rules, places)) (λ i d l. grind (arith, places))

one_put : (cells part : List Cell) (offset k : ℕ) (cell : Cell) → offset + length part ≤ length cells → k < length part →
    take (offset + k) (take offset cells ++ part ++ drop (offset + length part) cells) ++ (cell ∷ []) ++ drop (offset + k + 1) (take offset cells ++ part ++ drop (offset + length part) cells)
    ≡ take offset cells ++ (take k part ++ cell ∷ drop (suc k) part) ++ drop (offset + length (take k part ++ cell ∷ drop (suc k) part)) cells
one_put cells part offset k cell inside less = same_lists _ _ (search (rules, places)) (λ i d l. grind (arith, places))

-- a cell of a part that is put by itself
one_in_part : (cells part : List Cell) (offset k : ℕ) (cell : Cell) → offset + length part ≤ length cells → k < length part →
    take (offset + k) (take offset cells ++ part ++ drop (offset + length part) cells) ++ (cell ∷ []) ++ drop (offset + k + 1) (take offset cells ++ part ++ drop (offset + length part) cells)
    ≡ take offset cells ++ slice_set part k cell ++ drop (offset + length (slice_set part k cell)) cells
one_in_part cells part offset k cell inside less =
    one_put cells part offset k cell inside less ∙ ap (λ l. take offset cells ++ l ++ drop (offset + length l) cells) (sym (set_split part k cell less))

-- ---- memories

-- a memory in which other bytes stand in a block from an offset on
abbrev pub with_bytes : Blocks → Ptr → Block → List ℕ → Blocks
with_bytes memory at block bytes = slice_set memory at.block (Some (with_part block at.offset (byte_cells bytes)))

same_block : (memory : Blocks) (number : ℕ) (one other : Block) → live_block memory number ≡ Some one → live_block memory number ≡ Some other → one ≡ other
same_block memory number one other e f = cc (sym e ∙ f)

-- a step that nothing follows
alone : (found : Result Blocks Fault) (after : Blocks) → and_then found (λ next. Ok next) ≡ Ok after → found ≡ Ok after
alone (Ok memory) after e = e
alone (Err why) after e = cc

module _ (memory : Blocks) (at : Ptr) (count : ℕ) (bytes : List ℕ) (holds : HoldsBytes memory at count bytes) where
  pub part_is : part_of holds.block at.offset count ≡ Ok (byte_cells bytes)
  part_is = ap (λ slot. live_read slot (λ b. part_of b at.offset count)) (sym holds.live) ∙ holds.found

  pub inside : at.offset + count ≤ size_of holds.block
  inside = (part_ok holds.block at.offset count (byte_cells bytes) part_is).0

  pub cells_are : byte_cells bytes ≡ take count (drop at.offset holds.block.cells)
  cells_are = (part_ok holds.block at.offset count (byte_cells bytes) part_is).1

  pub many : length bytes ≡ count
  many = sym (length-map bytes byte_cell) ∙ length_part holds.block at.offset count (byte_cells bytes) part_is

  -- some of them
  pub holds_within : (k more : ℕ) → k + more ≤ count → HoldsBytes memory (behind at k) more (take more (drop k bytes))
  holds_within k more less =
      let i = inside in
      let cells : take more (drop (at.offset + k) holds.block.cells) ≡ byte_cells (take more (drop k bytes)) =
      cells_within holds.block.cells at.offset count k more less ∙ ap (λ l. take more (drop k l)) (sym cells_are) ∙ byte_cells_within bytes k more in
      record {
        block = holds.block;
        live = holds.live;
        aligned = holds.aligned;
        are_bytes = All-take (λ b. b < 256) more (drop k bytes) (All-drop (λ b. b < 256) k bytes holds.are_bytes);
        found = ap (λ slot. live_read slot (λ b. part_of b (at.offset + k) more)) holds.live ∙ part_inside holds.block (at.offset + k) more (omega (arith, i, less)) ∙ ap Ok cells;
      }

  -- other bytes in their place
  pub holds_other : (other : List ℕ) → All (λ byte. byte < 256) other → length other ≡ count → HoldsBytes (with_bytes memory at holds.block other) at count other
  holds_other other are long =
      let fits : at.offset + length (byte_cells other) ≤ size_of holds.block = let i = inside in let l = length-map other byte_cell in omega (arith, i, l, long) in
      let new = with_part holds.block at.offset (byte_cells other) in
      let size : at.offset + length (byte_cells other) ≤ size_of new = let z = size_of-with_part holds.block at.offset (byte_cells other) fits in omega (arith, z, fits) in
      let counts : length (byte_cells other) ≡ count = length-map other byte_cell ∙ long in
      record {
        block = new;
        live = live-set_same memory at.block new (live_within memory at.block holds.block holds.live);
        aligned = holds.aligned;
        are_bytes = are;
        found = ap (λ slot. live_read slot (λ b. part_of b at.offset count)) (live-set_same memory at.block new (live_within memory at.block holds.block holds.live))
            ∙ ap (part_of new at.offset) (sym counts) ∙ part_inside new at.offset (length (byte_cells other)) size ∙ ap Ok (written_part holds.block at.offset (byte_cells other) fits);
      }

  pub same_bytes : with_bytes memory at holds.block bytes ≡ memory
  same_bytes =
      let i = inside in
      let long = many in
      let cells : with_part holds.block at.offset (byte_cells bytes) ≡ holds.block = ap (λ list. record holds.block { cells = list }) (part_back holds.block.cells (byte_cells bytes) at.offset count i cells_are) in
      ap (λ b. slice_set memory at.block (Some b)) cells ∙ set_live memory at.block holds.block holds.live

  -- a bit-field that is put in them
  put_touched : (bit width field : ℕ) → bytes_touched bit width ≡ count → after_put_bits memory at bit width field ≡ Ok (with_bytes memory at holds.block (with_field_bytes bit width field bytes))
  put_touched bit width field touches =
      let cells = byte_cells bytes in
      let long = many in
      let ones = 2 ^ width - 1 in
      let number = with_field bit width field (number_of bytes) in
      let wide : bit + width ≤ 8 * length bytes = omega (arith, long, touches) in
      let new : with_field_in bit width field cells ≡ Ok (byte_cells (with_field_bytes bit width field bytes)) =
      cond-true _ _ _ (all_bits bytes)
      ∙ ap Ok
      (ap (λ n. bit_cells n (with_field bit width field (bits_of cells)) (with_field bit width ones (set_of cells))) (length-map bytes byte_cell)
      ∙ ap (λ n. bit_cells (length bytes) (with_field bit width field n) (with_field bit width ones (set_of cells))) (bits_back bytes)
      ∙ ap (λ n. bit_cells (length bytes) number n) (stays_set (8 * length bytes) bit width (set_of cells) wide (all_set bytes))
      ∙ set_cells (length bytes) number (set_of cells) (all_set bytes)) in
      let part : part_of holds.block at.offset (bytes_touched bit width) ≡ Ok cells = ap (part_of holds.block at.offset) touches ∙ part_is in
      ap (λ slot. and_then (live_read slot (λ block. block_with_field block at.offset bit width field)) (λ block. Ok (slice_set memory at.block (Some block)))) holds.live
      ∙ ap (λ r. and_then (and_then r (λ list. and_then (with_field_in bit width field list) (λ put. Ok (with_part holds.block at.offset put)))) (λ block. Ok (slice_set memory at.block (Some block)))) part
      ∙ ap (λ r. and_then (and_then r (λ put. Ok (with_part holds.block at.offset put))) (λ block. Ok (slice_set memory at.block (Some block)))) new

-- a bit-field that touches some of them
module _ (memory : Blocks) (at : Ptr) (count : ℕ) (bytes : List ℕ) (holds : HoldsBytes memory at count bytes) (bit width field : ℕ) (fits : bit + width ≤ 8 * count) (small : field < 2 ^ width) where
  abbrev touched : ℕ
  touched = bytes_touched bit width

  abbrev first : List ℕ
  first = take touched bytes

  abbrev made : List ℕ
  made = bytes_of touched (with_field bit width field (number_of first))

  abbrev whole : List ℕ
  whole = bytes_of count (with_field bit width field (number_of bytes))

  touched_less : touched ≤ count
  touched_less = omega (arith, fits)

  first_holds : HoldsBytes memory at touched first
  first_holds =
      let less = touched_less in
      subst (λ n. HoldsBytes memory (record at { offset = n }) touched first) (let same : at.offset + 0 ≡ at.offset = omega arith in same) (holds_within memory at count bytes holds 0 touched (omega (arith, less)))

  first_many : length first ≡ touched
  first_many = let less = touched_less in let long = many memory at count bytes holds in length-take-le touched bytes (omega (arith, less, long))

  made_many : length (byte_cells made) ≡ touched
  made_many = length-map made byte_cell ∙ length-bytes_of touched (with_field bit width field (number_of first))

  whole_many : length (byte_cells whole) ≡ count
  whole_many = length-map whole byte_cell ∙ length-bytes_of count (with_field bit width field (number_of bytes))

  whole_is : byte_cells whole ≡ byte_cells made ++ drop (length (byte_cells made)) (byte_cells bytes)
  whole_is =
      let less = touched_less in
      let long = many memory at count bytes holds in
      ap (λ c. byte_cells (bytes_of c (with_field bit width field (number_of bytes)))) (sym long)
      ∙ ap byte_cells (field_in_first touched bit width field bytes holds.are_bytes (omega (arith, less, long)) (omega arith) small)
      ∙ map-append byte_cell made (drop touched bytes)
      ∙ ap (λ l. byte_cells made ++ l) (sym (drop-map byte_cell touched bytes) ∙ ap (λ n. drop n (byte_cells bytes)) (sym made_many))

  blocks_same : with_part holds.block at.offset (byte_cells made) ≡ with_part holds.block at.offset (byte_cells whole)
  blocks_same =
      let less = touched_less in
      let many_made = made_many in
      let cells = holds.block.cells in
      ap (λ l. record holds.block { cells = l })
      (sym (rest_stays cells (byte_cells made) (byte_cells bytes) at.offset count (inside memory at count bytes holds) (omega (arith, many_made, less)) (cells_are memory at count bytes holds))
      ∙ ap (λ l. take at.offset cells ++ l ++ drop (at.offset + count) cells) (sym whole_is)
      ∙ ap (λ n. take at.offset cells ++ byte_cells whole ++ drop (at.offset + n) cells) (sym whole_many))

  pub field_put : after_put_bits memory at bit width field ≡ Ok (with_bytes memory at holds.block whole)
  field_put =
      put_touched memory at touched first first_holds bit width field refl
      ∙ ap (λ b. Ok (slice_set memory at.block (Some (with_part b at.offset (byte_cells (bytes_of (length first) (with_field bit width field (number_of first)))))))) (same_block memory at.block first_holds.block holds.block first_holds.live holds.live)
      ∙ ap (λ n. Ok (with_bytes memory at holds.block (bytes_of n (with_field bit width field (number_of first))))) first_many
      ∙ ap (λ b. Ok (slice_set memory at.block (Some b))) blocks_same

-- a byte that is put by itself
module _ (memory : Blocks) (at : Ptr) (count : ℕ) (bytes : List ℕ) (holds : HoldsBytes memory at count bytes) (other : List ℕ) (are : All (λ byte. byte < 256) other) (long : length other ≡ count)
    (k bit width field : ℕ) (less : k < count) (some : 0 < width) (fits : bit + width ≤ 8) (small : field < 2 ^ width) where
  abbrev now : Blocks
  now = with_bytes memory at holds.block other

  abbrev block_now : Block
  block_now = with_part holds.block at.offset (byte_cells other)

  abbrev old : ℕ
  old = get_or other k 0

  abbrev new : ℕ
  new = with_field bit width field old

  touches_one : bytes_touched bit width ≡ 1
  touches_one = omega (arith, some, fits)

  new_below : new < 256
  new_below = with_field_below 8 bit width field old fits small (are k 0 (omega (arith, less, long)))

  holds_one : HoldsBytes now (behind at k) 1 (old ∷ [])
  holds_one =
      subst (λ l. HoldsBytes now (behind at k) 1 l) (ap (take 1) (drop-cons other k 0 (omega (arith, less, long))))
      (holds_within now at count other (holds_other memory at count bytes holds other are long) k 1 (omega (arith, less)))

  bytes_new : with_field_bytes bit width field (old ∷ []) ≡ new ∷ []
  bytes_new =
      let alone : old + 256 * 0 ≡ old = omega arith in
      let below = new_below in
      ap (λ n. with_field bit width field n % 256 ∷ []) alone ∙ ap (λ n. n ∷ []) (mod-eq_of_lt below)

  -- in the block and in the memory
  block_is : with_part block_now (at.offset + k) (byte_cell new ∷ []) ≡ with_part holds.block at.offset (byte_cells (slice_set other k new))
  block_is =
      let i = inside memory at count bytes holds in
      let l = length-map other byte_cell in
      ap (λ cells. record holds.block { cells = cells })
      (one_in_part holds.block.cells (byte_cells other) at.offset k (byte_cell new) (omega (arith, i, l, long)) (omega (arith, less, l, long))
      ∙ ap (λ part. take at.offset holds.block.cells ++ part ++ drop (at.offset + length part) holds.block.cells) (sym (map-set byte_cell other k new)))

  put_is : after_put_bits now (behind at k) bit width field ≡ Ok (with_bytes memory at holds.block (slice_set other k new))
  put_is =
      put_touched now (behind at k) 1 (old ∷ []) holds_one bit width field touches_one
      ∙ ap (λ l. Ok (slice_set now at.block (Some (with_part holds_one.block (at.offset + k) (byte_cells l))))) bytes_new
      ∙ ap (λ b. Ok (slice_set now at.block (Some (with_part b (at.offset + k) (byte_cell new ∷ [])))))
      (same_block now at.block holds_one.block block_now holds_one.live (live-set_same memory at.block block_now (live_within memory at.block holds.block holds.live)))
      ∙ ap (λ b. Ok (slice_set now at.block (Some b))) block_is
      ∙ ap Ok (set-set memory at.block (Some block_now) (Some (with_part holds.block at.offset (byte_cells (slice_set other k new)))))

  pub byte_put : after_put now (behind at k) byte_scalar (Number (pos new)) ≡ Ok (with_bytes memory at holds.block (slice_set other k new))
  byte_put =
      let after = with_bytes memory at holds.block (slice_set other k new) in
      let stored = field_stored now after (behind at k) bit width field (old ∷ []) (subst (λ n. HoldsBytes now (behind at k) n (old ∷ [])) (sym touches_one) holds_one) small put_is in
      alone (after_put now (behind at k) byte_scalar (Number (pos new))) after (ap (after_put_bytes now (behind at k)) (sym bytes_new) ∙ stored)
