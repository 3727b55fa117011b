-- A bit-field whose bytes have all their bits set goes by bytes.
use Rattle.std.proofs.Common.{◌≡◌, ◌∙◌, ℕ, zero, suc, ◌+◌, ◌-◌, ◌*◌, ◌/◌, ◌%◌, ◌^◌, ◌<◌, ◌≤◌, ◌==◌, ◌&&◌, nat_le, pos, Bool, true, false, cond, List, [], ◌∷◌, map, length, take, drop, slice_set, slice_index_or, Option, Some, None, Result, Ok, Err, All, refl, sym, ap, subst, arith, rules}
use Rattle.std.specs.List.{list_all}
use Rattle.std.proofs.Math.Nat.{mod-eq_of_lt, mul-add-mod_self_right}
use Rattle.std.proofs.lemmas.Bool.Decides.{nat_tests}
use Rattle.std.proofs.lemmas.List.{places, same_lists, set-set, length-map}
use Rattle.std.proofs.lemmas.List.Elements.{All-head, All-tail}
use Rattle.std.proofs.lemmas.Nat.{pow_pos, pow-add, shr_split}
use Rattle.mem_bytes.specs.declared.cell.Cell.{Cell}
use Rattle.mem_bytes.specs.declared.cell.Cell.TheVariants.{Bits}
use Rattle.mem_bytes.specs.declared.fault.Fault.{Fault}
use Rattle.mem_bytes.specs.declared.fault.Fault.TheVariants.{Misaligned, Unset, MixedPointer}
use Rattle.mem_bytes.specs.declared.value.Ptr.{Ptr}
use Rattle.mem_bytes.specs.declared.value.Value.TheVariants.{Whole as Number}
use Rattle.mem_bytes.specs.Access.{and_then, part_of, part_at, is_aligned, scalar_part_of, block_value, block_with_value, live_read, value_at, after_put, field_at, after_put_bits}
use Rattle.mem_bytes.specs.Bits.{bytes_touched, field_of, with_field, bit_cells, field_in}
use Rattle.mem_bytes.specs.Coding.{is_bits, bits_of, set_of, bytes_of, number_of, cells_of, value_of}
use Rattle.mem_bytes.specs.Laws.{behind}
use Rattle.mem_bytes.specs.Memory.{Block, Blocks, live_block, size_of, unset_cell, byte_cell, with_part}
use Rattle.mem_bytes.proofs.Coded.{length-bytes_of}
use Rattle.mem_bytes.proofs.Reached.{part_inside, length_part, part_ok, size_of-with_part}
use Rattle.mem_bytes.proofs.Slots.{live-set_same, live_within, set_live}
use Rattle.mem_bytes.proofs.Written.{BitsPut, bits_put}
use Rattle.mem_bytes_bits.specs.Laws.{HoldsBytes, after_put_bytes, byte_scalar, with_field_bytes}

-- ---- cells of bytes

pub all_bits : (bytes : List ℕ) → list_all is_bits (map byte_cell bytes) ≡ true
all_bits [] = refl
all_bits (byte ∷ others) = all_bits others

pub bits_back : (bytes : List ℕ) → bits_of (map byte_cell bytes) ≡ number_of bytes
bits_back [] = refl
bits_back (byte ∷ others) = ap (λ n. byte + 256 * n) (bits_back others)

next_power : (k : ℕ) → 2 ^ (8 * suc k) ≡ 256 * 2 ^ (8 * k)
next_power k =
    let more : 8 * suc k ≡ 8 + 8 * k = omega arith in
    ap (λ e. 2 ^ e) more ∙ pow-add 2 8 (8 * k)

-- all bits of them are set
pub all_set : (bytes : List ℕ) → set_of (map byte_cell bytes) + 1 ≡ 2 ^ (8 * length bytes)
all_set [] = refl
all_set (byte ∷ others) =
    let rest : set_of (map byte_cell others) + 1 ≡ 2 ^ (8 * length others) = all_set others in
    let power : 2 ^ (8 * suc (length others)) ≡ 256 * 2 ^ (8 * length others) = next_power (length others) in
    omega (arith, rest, power)

pub set_cells : (count bits set : ℕ) → set + 1 ≡ 2 ^ (8 * count) → bit_cells count bits set ≡ map byte_cell (bytes_of count bits)
set_cells zero bits set is = refl
set_cells (suc count) bits set is =
    let power : 2 ^ (8 * suc count) ≡ 256 * 2 ^ (8 * count) = next_power count in
    let low : set % 256 ≡ 255 = omega (arith, is, power) in
    let high : set / 256 + 1 ≡ 2 ^ (8 * count) = omega (arith, is, power) in
    ap (λ s. Bits (bits % 256) s ∷ bit_cells count (bits / 256) (set / 256)) low
    ∙ ap (λ cells. byte_cell (bits % 256) ∷ cells) (set_cells count (bits / 256) (set / 256) high)

-- ---- a number all of whose bits are set

one_less : (n p : ℕ) → 0 < n → n * p ≡ (n - 1) * p + p
one_less n p some =
    let again : n ≡ (n - 1) + 1 = omega (arith, some) in
    ap (λ m. m * p) again ∙ omega arith

low_set : (k j all : ℕ) → j ≤ k → all + 1 ≡ 2 ^ k → all % 2 ^ j + 1 ≡ 2 ^ j
low_set k j all less is =
    let power : 2 ^ k ≡ 2 ^ (k - j) * 2 ^ j = ap (λ n. 2 ^ n) (omega (arith, less)) ∙ pow-add 2 (k - j) j in
    let some : 0 < 2 ^ j = pow_pos j in
    let parts : 2 ^ (k - j) * 2 ^ j ≡ (2 ^ (k - j) - 1) * 2 ^ j + 2 ^ j = one_less (2 ^ (k - j)) (2 ^ j) (pow_pos (k - j)) in
    let split : all ≡ (2 ^ (k - j) - 1) * 2 ^ j + (2 ^ j - 1) = omega (arith, is, power, parts, some) in
    let left : all % 2 ^ j ≡ 2 ^ j - 1 = ap (λ n. n % 2 ^ j) split ∙ mul-add-mod_self_right (2 ^ (k - j) - 1) (2 ^ j) (2 ^ j - 1) ∙ mod-eq_of_lt (omega (arith, some)) in
    omega (arith, left, some)

with_field_parts : (bit width field n : ℕ) → with_field bit width field n ≡ n / 2 ^ (bit + width) * 2 ^ (bit + width) + (field * 2 ^ bit + n % 2 ^ bit)
with_field_parts bit width field n = omega arith

-- it stays so where a field of set bits is put
pub stays_set : (k bit width all : ℕ) → bit + width ≤ k → all + 1 ≡ 2 ^ k → with_field bit width (2 ^ width - 1) all ≡ all
stays_set k bit width all less is =
    let some : 0 < 2 ^ width = pow_pos width in
    let power : 2 ^ (bit + width) ≡ 2 ^ bit * 2 ^ width = pow-add 2 bit width in
    let swap : 2 ^ bit * 2 ^ width ≡ 2 ^ width * 2 ^ bit = omega arith in
    let parts : 2 ^ width * 2 ^ bit ≡ (2 ^ width - 1) * 2 ^ bit + 2 ^ bit = one_less (2 ^ width) (2 ^ bit) some in
    let below : all % 2 ^ bit + 1 ≡ 2 ^ bit = low_set k bit all (omega (arith, less)) is in
    let field : all % 2 ^ (bit + width) + 1 ≡ 2 ^ (bit + width) = low_set k (bit + width) all less is in
    let same : (2 ^ width - 1) * 2 ^ bit + all % 2 ^ bit ≡ all % 2 ^ (bit + width) = omega (arith, power, swap, parts, below, field) in
    with_field_parts bit width (2 ^ width - 1) all ∙ ap (λ n. all / 2 ^ (bit + width) * 2 ^ (bit + width) + n) same ∙ shr_split all (bit + width)

-- ---- loads

part_held : (memory : Blocks) (at : Ptr) (count : ℕ) (block : Block) (cells : List Cell) → live_block memory at.block ≡ Some block → part_at memory at count ≡ Ok cells → part_of block at.offset count ≡ Ok cells
part_held memory at count block cells live found = sym (ap (λ slot. live_read slot (λ b. part_of b at.offset count)) live) ∙ found

in_field : (set bits : Bool) (n field : ℕ) → cond set (cond bits (Ok n) (Err MixedPointer)) (Err Unset) ≡ Ok field → field ≡ n
in_field true true n field is = cc
in_field true false n field is = cc
in_field false bits n field is = cc

pub field_loaded : (memory : Blocks) (at : Ptr) (bit width field : ℕ) (bytes : List ℕ) → HoldsBytes memory at (bytes_touched bit width) bytes → field_at memory at bit width ≡ Ok field →
    field ≡ field_of bit width (number_of bytes)
field_loaded memory at bit width field bytes holds is =
    let cells = map byte_cell bytes in
    let part : part_of holds.block at.offset (bytes_touched bit width) ≡ Ok cells = part_held memory at (bytes_touched bit width) holds.block cells holds.live holds.found in
    let found : field_at memory at bit width ≡ field_in bit width cells =
    ap (λ slot. live_read slot (λ b. and_then (part_of b at.offset (bytes_touched bit width)) (field_in bit width))) holds.live ∙ ap (λ one. and_then one (field_in bit width)) part in
    in_field (field_of bit width (set_of cells) == 2 ^ width - 1) (list_all is_bits cells) (field_of bit width (bits_of cells)) field (sym found ∙ is)
    ∙ ap (field_of bit width) (bits_back bytes)

-- the cell at a place of a part
one_from : (xs : List Cell) (place : ℕ) (d : Cell) → place < length xs → take 1 (drop place xs) ≡ slice_index_or xs place d ∷ []
one_from [] place d less = absurd (omega (arith, less))
one_from (x ∷ xs) zero d less = refl
one_from (x ∷ xs) (suc place) d less = one_from xs place d (omega (arith, less))

cell_of_part : (xs : List Cell) (offset count place : ℕ) (d : Cell) → place < count → offset + count ≤ length xs → slice_index_or xs (offset + place) d ≡ slice_index_or (take count (drop offset xs)) place d
cell_of_part xs offset count place d p q = grind (arith, places)

one_of_part : (xs : List Cell) (offset count place : ℕ) → place < count → offset + count ≤ length xs →
    take 1 (drop (offset + place) xs) ≡ slice_index_or (take count (drop offset xs)) place unset_cell ∷ []
one_of_part xs offset count place p q =
    one_from xs (offset + place) unset_cell (omega (arith, p, q)) ∙ ap (λ cell. cell ∷ []) (cell_of_part xs offset count place unset_cell p q)

byte_at : (bytes : List ℕ) (place : ℕ) → place < length bytes → slice_index_or (map byte_cell bytes) place unset_cell ≡ byte_cell (slice_index_or bytes place 0)
byte_at [] place less = absurd (omega (arith, less))
byte_at (byte ∷ others) zero less = refl
byte_at (byte ∷ others) (suc place) less = byte_at others place (omega (arith, less))

is_byte : (bytes : List ℕ) (place : ℕ) → All (λ byte. byte < 256) bytes → place < length bytes → slice_index_or bytes place 0 < 256
is_byte [] place are less = absurd (omega (arith, less))
is_byte (byte ∷ others) zero are less = All-head (λ b. b < 256) byte others are
is_byte (byte ∷ others) (suc place) are less = is_byte others place (All-tail (λ b. b < 256) byte others are) (omega (arith, less))

none_left : (offset : ℕ) → (offset % 1 == 0) ≡ true
none_left offset = search (rules, arith)

one_below : (align : ℕ) → 0 < align → nat_le 1 align ≡ true
one_below align some = grind (arith, nat_tests, some)

aligned_byte : (offset : ℕ) (block : Block) → 0 < block.align → is_aligned byte_scalar block offset ≡ true
aligned_byte offset block some = ap (λ test. test && nat_le 1 block.align) (none_left offset) ∙ one_below block.align some

-- the cell of a byte that may be accessed
scalar_part : (block : Block) (offset : ℕ) → 0 < block.align → offset + 1 ≤ size_of block → scalar_part_of block offset byte_scalar ≡ Ok (take 1 (drop offset block.cells))
scalar_part block offset some inside =
    ap (λ found. and_then found (λ cells. cond (is_aligned byte_scalar block offset) (Ok cells) (Err Misaligned))) (part_inside block offset 1 inside)
    ∙ ap (λ test. cond test (Ok (take 1 (drop offset block.cells))) (Err Misaligned)) (aligned_byte offset block some)

byte_value : (byte : ℕ) → byte < 256 → value_of byte_scalar (byte_cell byte ∷ []) ≡ Ok (Number (pos byte))
byte_value byte less =
    let whole : byte + 256 * 0 ≡ byte = omega arith in
    ap (λ n. Ok (Number (pos n))) (ap (λ n. n % 256) whole ∙ mod-eq_of_lt less)

pub byte_loaded : (memory : Blocks) (at : Ptr) (count place : ℕ) (bytes : List ℕ) → HoldsBytes memory at count bytes → place < count →
    value_at memory (behind at place) byte_scalar ≡ Ok (Number (pos (slice_index_or bytes place 0)))
byte_loaded memory at count place bytes holds less =
    let block = holds.block in
    let cells = map byte_cell bytes in
    let part : part_of block at.offset count ≡ Ok cells = part_held memory at count block cells holds.live holds.found in
    let held = part_ok block at.offset count cells part in
    let many : length bytes ≡ count = sym (length-map bytes byte_cell) ∙ length_part block at.offset count cells part in
    let here : take 1 (drop (at.offset + place) block.cells) ≡ byte_cell (slice_index_or bytes place 0) ∷ [] =
    one_of_part block.cells at.offset count place less held.0
    ∙ ap (λ list. slice_index_or list place unset_cell ∷ []) (sym held.1)
    ∙ ap (λ cell. cell ∷ []) (byte_at bytes place (omega (arith, less, many))) in
    ap (λ slot. live_read slot (λ b. block_value b (at.offset + place) byte_scalar)) holds.live
    ∙ ap (λ found. and_then found (value_of byte_scalar)) (scalar_part block (at.offset + place) holds.aligned (omega (arith, less, held.0)) ∙ ap Ok here)
    ∙ byte_value (slice_index_or bytes place 0) (is_byte bytes place holds.are_bytes (omega (arith, less, many)))

-- ---- stores

byte_cells_of : (byte : ℕ) → byte < 256 → map byte_cell (bytes_of 1 (byte % 256)) ≡ byte_cell byte ∷ []
byte_cells_of byte less = ap (λ n. byte_cell n ∷ []) (ap (λ n. n % 256) (mod-eq_of_lt less) ∙ mod-eq_of_lt less)

byte_stored : (block : Block) (offset byte : ℕ) → byte < 256 → 0 < block.align → offset + 1 ≤ size_of block →
    block_with_value block offset byte_scalar (Number (pos byte)) ≡ Ok (with_part block offset (byte_cell byte ∷ []))
byte_stored block offset byte less some inside =
    ap (λ found. and_then found (λ _. Ok (with_part block offset (cells_of byte_scalar (Number (pos byte)))))) (scalar_part block offset some inside)
    ∙ ap (λ cells. Ok (with_part block offset cells)) (byte_cells_of byte less)

no_part : (block : Block) (offset : ℕ) → offset ≤ size_of block → with_part block offset [] ≡ block
no_part block offset p = ap (λ cells. record block { cells = cells }) (same_lists _ _ (search (rules, places)) (λ k d l. grind (arith, places)))

more_part : (block : Block) (offset : ℕ) (first : Cell) (others : List Cell) → offset + suc (length others) ≤ size_of block → with_part (with_part block offset (first ∷ [])) (offset + 1) others ≡ with_part block offset (first ∷ others)
more_part block offset first others p = ap (λ cells. record block { cells = cells }) (same_lists _ _ (search (rules, places)) (λ k d l. grind (arith, places)))

puts_to : (memory : Blocks) (at : Ptr) (count n : ℕ) (block : Block) → live_block memory at.block ≡ Some block → 0 < block.align → at.offset + count ≤ size_of block →
    after_put_bytes memory at (bytes_of count n) ≡ Ok (slice_set memory at.block (Some (with_part block at.offset (map byte_cell (bytes_of count n)))))
puts_to memory at zero n block live some inside =
    ap Ok (sym (ap (λ b. slice_set memory at.block (Some b)) (no_part block at.offset (omega (arith, inside))) ∙ set_live memory at.block block live))
puts_to memory at (suc count) n block live some inside =
    let byte = n % 256 in
    let others = bytes_of count (n / 256) in
    let one = with_part block at.offset (byte_cell byte ∷ []) in
    let next = slice_set memory at.block (Some one) in
    let small : byte < 256 = omega arith in
    let put : after_put memory at byte_scalar (Number (pos byte)) ≡ Ok next =
    ap (λ slot. and_then (live_read slot (λ b. block_with_value b at.offset byte_scalar (Number (pos byte)))) (λ b. Ok (slice_set memory at.block (Some b)))) live
    ∙ ap (λ found. and_then found (λ b. Ok (slice_set memory at.block (Some b)))) (byte_stored block at.offset byte small some (omega (arith, inside))) in
    let there : live_block next at.block ≡ Some one = live-set_same memory at.block one (live_within memory at.block block live) in
    let long : length (map byte_cell others) ≡ count = length-map others byte_cell ∙ length-bytes_of count (n / 256) in
    ap (λ found. and_then found (λ m. after_put_bytes m (behind at 1) others)) put
    ∙ puts_to next (behind at 1) count (n / 256) one there some (omega (arith, inside, size_of-with_part block at.offset (byte_cell byte ∷ []) (omega (arith, inside))))
    ∙ ap Ok (set-set memory at.block (Some one) (Some (with_part one (at.offset + 1) (map byte_cell others)))
    ∙ ap (λ b. slice_set memory at.block (Some b)) (more_part block at.offset (byte_cell byte) (map byte_cell others) (omega (arith, inside, long))))

pub touched : (bit width : ℕ) → bit + width ≤ 8 * bytes_touched bit width
touched bit width = omega arith

pub field_stored : (memory after : Blocks) (at : Ptr) (bit width field : ℕ) (bytes : List ℕ) → HoldsBytes memory at (bytes_touched bit width) bytes → field < 2 ^ width →
    after_put_bits memory at bit width field ≡ Ok after → after_put_bytes memory at (with_field_bytes bit width field bytes) ≡ Ok after
field_stored memory after at bit width field bytes holds less is =
    let count = bytes_touched bit width in
    let cells = map byte_cell bytes in
    let put : BitsPut memory after at bit width field = bits_put memory after at bit width field is in
    let same : holds.block ≡ put.block = cc (sym holds.live ∙ put.live) in
    let part : part_of put.block at.offset count ≡ Ok cells = part_held memory at count put.block cells put.live holds.found in
    let cells_are : put.cells ≡ cells = cc (sym put.part ∙ part) in
    let many : length bytes ≡ count = sym (length-map bytes byte_cell) ∙ length_part put.block at.offset count cells part in
    let wide : bit + width ≤ 8 * length bytes = omega (arith, many, touched bit width) in
    let set : with_field bit width (2 ^ width - 1) (set_of cells) ≡ set_of cells = stays_set (8 * length bytes) bit width (set_of cells) wide (all_set bytes) in
    let number = with_field bit width field (number_of bytes) in
    let new : put.new ≡ map byte_cell (bytes_of (length bytes) number) =
    put.written.made
    ∙ ap (λ list. bit_cells (length list) (with_field bit width field (bits_of list)) (with_field bit width (2 ^ width - 1) (set_of list))) cells_are
    ∙ ap (λ n. bit_cells n (with_field bit width field (bits_of cells)) (with_field bit width (2 ^ width - 1) (set_of cells))) (length-map bytes byte_cell)
    ∙ ap (λ n. bit_cells (length bytes) (with_field bit width field n) (with_field bit width (2 ^ width - 1) (set_of cells))) (bits_back bytes)
    ∙ ap (λ n. bit_cells (length bytes) number n) set
    ∙ set_cells (length bytes) number (set_of cells) (all_set bytes) in
    let inside : at.offset + length bytes ≤ size_of put.block = omega (arith, many, (part_ok put.block at.offset count cells part).0) in
    puts_to memory at (length bytes) number put.block put.live (subst (λ (b : Block). 0 < b.align) same holds.aligned) inside
    ∙ ap Ok (sym (put.made ∙ ap (λ list. slice_set memory at.block (Some (with_part put.block at.offset list))) new))
