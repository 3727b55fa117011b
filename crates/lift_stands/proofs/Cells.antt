-- Lists of cells that are below others, part by part.
use Rattle.std.proofs.Common.{◌≡◌, ℕ, zero, suc, ◌+◌, ◌<◌, List, [], ◌∷◌, ◌++◌, map, length, take, drop, replicate, slice_index_or, refl, sym, ap, subst, arith}
use Rattle.mem_bytes.specs.declared.cell.Cell.{Cell}
use Rattle.mem_bytes.specs.declared.cell.Cell.TheVariants.{PtrByte}
use Rattle.cr_base.specs.Scalar.{modulus, residue}
use Rattle.cr_base.specs.declared.scalar.Scalar.{Scalar}
use Rattle.mem_bytes.specs.declared.value.Value.{Value}
use Rattle.mem_bytes.specs.declared.value.Value.TheVariants.{Object, Code}
use Rattle.mem_bytes.specs.Coding.{scalar_size, bytes_of, cells_of}
use Rattle.mem_bytes.specs.Memory.{byte_cell}
use Rattle.lift_stands.specs.Stands.{Images, ValueBelow, CellBelow, CellsBelow}

pub length_below : (images : Images) (list others : List Cell) → CellsBelow images list others → length others ≡ length list
length_below images [] [] below = refl
length_below images [] (other ∷ others) below = absurd below
length_below images (cell ∷ cells) [] below = absurd below
length_below images (cell ∷ cells) (other ∷ others) below = ap suc (length_below images cells others below.1)

pub take_below : (images : Images) (count : ℕ) (list others : List Cell) → CellsBelow images list others → CellsBelow images (take count list) (take count others)
take_below images zero list others below = tt
take_below images (suc count) [] [] below = tt
take_below images (suc count) [] (other ∷ others) below = absurd below
take_below images (suc count) (cell ∷ cells) [] below = absurd below
take_below images (suc count) (cell ∷ cells) (other ∷ others) below = (below.0, take_below images count cells others below.1)

pub drop_below : (images : Images) (count : ℕ) (list others : List Cell) → CellsBelow images list others → CellsBelow images (drop count list) (drop count others)
drop_below images zero list others below = below
drop_below images (suc count) [] [] below = tt
drop_below images (suc count) [] (other ∷ others) below = absurd below
drop_below images (suc count) (cell ∷ cells) [] below = absurd below
drop_below images (suc count) (cell ∷ cells) (other ∷ others) below = drop_below images count cells others below.1

pub append_below : (images : Images) (list others more rest : List Cell) → CellsBelow images list others → CellsBelow images more rest → CellsBelow images (list ++ more) (others ++ rest)
append_below images [] [] more rest below last = last
append_below images [] (other ∷ others) more rest below last = absurd below
append_below images (cell ∷ cells) [] more rest below last = absurd below
append_below images (cell ∷ cells) (other ∷ others) more rest below last = (below.0, append_below images cells others more rest below.1 last)

pub part_below : (images : Images) (offset : ℕ) (list others new rest : List Cell) → CellsBelow images list others → CellsBelow images new rest → CellsBelow images (take offset list ++ new ++ drop (offset + length new) list) (take offset others ++ rest ++ drop (offset + length rest) others)
part_below images offset list others new rest below part =
    let first = append_below images (take offset list) (take offset others) new rest (take_below images offset list others below) part in
    let last : CellsBelow images (drop (offset + length new) list) (drop (offset + length rest) others) =
    subst (λ n. CellsBelow images (drop (offset + length new) list) (drop (offset + n) others)) (sym (length_below images new rest part)) (drop_below images (offset + length new) list others below) in
    append_below images (take offset list ++ new) (take offset others ++ rest) (drop (offset + length new) list) (drop (offset + length rest) others) first last

-- a byte all of whose bits are set is below itself
pub byte_below : (images : Images) (number : ℕ) → CellBelow images (byte_cell number) (byte_cell number)
byte_below images number = record { whole = λ e. refl; each = λ k p e. (e, refl); bytes = λ e. (number, refl) }

pub bytes_below : (images : Images) (numbers : List ℕ) → CellsBelow images (map byte_cell numbers) (map byte_cell numbers)
bytes_below images [] = tt
bytes_below images (number ∷ numbers) = (byte_below images number, bytes_below images numbers)

pub fill_below : (images : Images) (count byte : ℕ) → CellsBelow images (replicate count (byte_cell byte)) (replicate count (byte_cell byte))
fill_below images zero byte = tt
fill_below images (suc count) byte = (byte_below images byte, fill_below images count byte)

indexes_below : (images : Images) (one other : Value) (indexes : List ℕ) → ValueBelow images one other → CellsBelow images (map (λ index. PtrByte one index) indexes) (map (λ index. PtrByte other index) indexes)
indexes_below images one other [] below = tt
indexes_below images one other (index ∷ indexes) below = ((below, refl), indexes_below images one other indexes below)

-- the cells of a value are below those of what stands for it
pub cells_of_below : (images : Images) (scalar : Scalar) (one other : Value) → ValueBelow images one other → CellsBelow images (cells_of scalar one) (cells_of scalar other)
cells_of_below images scalar one other (ValueBelow.same_number number) = bytes_below images (bytes_of (scalar_size scalar) (residue number (modulus scalar)))
cells_of_below images scalar one other ValueBelow.both_null = fill_below images 8 0
cells_of_below images scalar one other (ValueBelow.to_image at to below) =
    indexes_below images (Object at) (Object to) (0 ∷ 1 ∷ 2 ∷ 3 ∷ 4 ∷ 5 ∷ 6 ∷ 7 ∷ []) (ValueBelow.to_image at to below)
cells_of_below images scalar one other (ValueBelow.to_function number image e) =
    indexes_below images (Code number) (Code image) (0 ∷ 1 ∷ 2 ∷ 3 ∷ 4 ∷ 5 ∷ 6 ∷ 7 ∷ []) (ValueBelow.to_function number image e)

-- one cell of them
pub cell_of_below : (images : Images) (offset : ℕ) (list others : List Cell) (cell other : Cell) → CellsBelow images list others → offset < length list → CellBelow images (slice_index_or list offset cell) (slice_index_or others offset other)
cell_of_below images offset [] others cell other below p = absurd (omega arith)
cell_of_below images offset (first ∷ cells) [] cell other below p = absurd below
cell_of_below images zero (first ∷ cells) (second ∷ others) cell other below p = below.0
cell_of_below images (suc offset) (first ∷ cells) (second ∷ others) cell other below p = cell_of_below images offset cells others cell other below.1 (omega arith)
