-- What initialisers do to objects that aren't static (ISO C99, 6.2.4p5, 6.5.2.5 and 6.7.8): where a declaration or a compound
-- literal is reached, the bits that no put covers become 0 and the others unset, and then the puts are stored.
use Rattle.std.specs.Prelude.{ℕ, zero, suc, ◌+◌, List, ◌++◌, length, take, drop, replicate, Option, Some, None, Result, Ok, slice_set}
use Rattle.cr_base.specs.declared.layout.Spot.{Spot}
use Rattle.cx_core.specs.Trees.{CTy, CPut, put, CPuts, no_puts, more_puts}
use Rattle.cx_mean.specs.Accesses.{CStored, sized, stored}
use Rattle.cx_mean.specs.Operands.{CWhy, needed, CValue, designates, designates_bits, Frame, slot_of, COperand}
use Rattle.cx_mean.specs.Settings.{CSetting, extent_in}
use Rattle.mem_bytes.specs.Access.{and_then}
use Rattle.mem_bytes.specs.Bits.{bytes_touched, with_field, bit_cells}
use Rattle.mem_bytes.specs.Coding.{bits_of, set_of}
use Rattle.mem_bytes.specs.declared.cell.Cell.{Cell}
use Rattle.mem_bytes.specs.declared.value.Ptr.{Ptr}
use Rattle.mem_bytes.specs.declared.value.Value.TheVariants.{Object as Pointer}
use Rattle.mem_bytes.specs.Memory.{Block, Blocks, live_block, size_of, unset_cell, byte_cell}

-- ---- parts of objects

-- the place of a part of an object: a bit-field has a width
abbrev pub part_with : Ptr → (bit width : ℕ) → CValue
part_with at bit zero = designates (Pointer at)
part_with at bit (suc n) = designates_bits at bit (suc n)

abbrev pub part_place : Ptr → Spot → CValue
part_place at spot = part_with (record { block = at.block; offset = at.offset + spot.byte }) spot.bit spot.width

-- ---- bits that no put covers

-- cells with others from an offset on
abbrev pub with_cells : ℕ → List Cell → List Cell → List Cell
with_cells offset new held = take offset held ++ new ++ drop (offset + length new) held

-- cells of bits with a bit-field unset
abbrev pub field_unset : (bit width : ℕ) → List Cell → List Cell
field_unset bit width part = bit_cells (length part) (bits_of part) (with_field bit width 0 (set_of part))

abbrev pub unset_by : Spot → (size : ℕ) → (width : ℕ) → List Cell → List Cell
unset_by spot size zero held = with_cells spot.byte (replicate size unset_cell) held
unset_by spot size (suc n) held =
    with_cells spot.byte (field_unset spot.bit (suc n) (take (bytes_touched spot.bit (suc n)) (drop spot.byte held))) held

-- the bits that a put covers become unset
abbrev pub unset_put : CSetting → CPut → List Cell → Result (List Cell) CWhy
unset_put setting (put spot type value) held =
    and_then (needed (extent_in setting type)) (λ laid. Ok (unset_by spot laid.size spot.width held))

abbrev pub unset_puts : CSetting → CPuts → List Cell → Result (List Cell) CWhy
unset_puts setting no_puts held = Ok held
unset_puts setting (more_puts first others) held =
    and_then (unset_put setting first held) (λ after. unset_puts setting others after)

-- the cells of an object of so many bytes before its puts: all unset where there is no initialiser
abbrev pub first_cells : CSetting → ℕ → Option CPuts → Result (List Cell) CWhy
first_cells setting size None = Ok (replicate size unset_cell)
first_cells setting size (Some puts) = unset_puts setting puts (replicate size (byte_cell 0))

-- ---- objects

-- an object that was made anew, as many bytes as before: its place, its size, and the memory after that
pub record CCleared : Type 0 where
  pub at : Ptr
  pub size : ℕ
  pub blocks : Blocks

abbrev pub cleared_block : CSetting → Option CPuts → Blocks → Ptr → Block → Result CCleared CWhy
cleared_block setting puts blocks at block =
    and_then (first_cells setting (size_of block) puts) (λ given.
    and_then (sized (size_of block) given) (λ held.
    Ok (record { at = at; size = size_of block; blocks = slice_set blocks at.block (Some (record block { cells = held })) })))

-- the object with a number, once its declaration, or its compound literal, is reached
abbrev pub object_cleared : CSetting → Frame → ℕ → Option CPuts → Blocks → Result CCleared CWhy
object_cleared setting frame number puts blocks =
    and_then (needed (slot_of frame number)) (λ at.
    and_then (needed (live_block blocks at.block)) (cleared_block setting puts blocks at))

-- the store of a put in an object; its own access is seen against the marks of its value
abbrev pub put_stored : CSetting → Frame → Blocks → (object : ℕ) → Spot → CTy → COperand → Result CStored CWhy
put_stored setting frame blocks number spot type operand =
    and_then (needed (slot_of frame number)) (λ at.
    stored setting frame blocks type (part_place at spot) operand.value operand.marks)
