-- What a new object is below.
use Rattle.std.proofs.Common.{◌≡◌, ℕ, zero, suc, ◌<◌, ◌≤◌, Bool, true, false, List, [], ◌∷◌, All, length, replicate, refl, arith}
use Rattle.std.proofs.lemmas.List.Elements.{All-head, All-tail}
use Rattle.std.proofs.lemmas.Nat.Bits.{bit_at-zero}
use Rattle.cr_world.specs.Held.{fresh_block}
use Rattle.mem_bytes.specs.declared.cell.Cell.{Cell}
use Rattle.mem_bytes.specs.Laws.{IsHeld}
use Rattle.mem_bytes.specs.Memory.{Block, unset_cell, byte_cell, new_block}
use Rattle.std.proofs.lemmas.List.Elements.{All-replicate}
use Rattle.lift_stands.specs.Stands.{Images, Extends, bit_of, IsByte, CellBelow, CellsBelow, BlockBelow}
use Rattle.lift_stands.proofs.Cells.{fill_below}
use Rattle.lift_stands.proofs.Images.{cells_stay}
use Rattle.lift_stands_lives.specs.Rooms.{HasRoom, IsZeroEnough}

no_bit : (k : ℕ) → bit_of k 0 ≡ 1 → ⊥
no_bit k e =
    let none : bit_of k 0 ≡ 0 = bit_at-zero k in
    cc

unset_below : (images : Images) (cell : Cell) → (images.in_bytes ≡ true → IsByte cell) → CellBelow images unset_cell cell
unset_below images cell bytes = record { whole = λ e. cc; each = λ k p e. absurd (no_bit k e); bytes = bytes }

unset_cells : (images : Images) (size : ℕ) (cells : List Cell) → length cells ≡ size → (images.in_bytes ≡ true → All IsByte cells) → CellsBelow images (replicate size unset_cell) cells
unset_cells images zero [] many bytes = tt
unset_cells images zero (cell ∷ cells) many bytes = absurd (omega (arith, many))
unset_cells images (suc size) [] many bytes = absurd (omega (arith, many))
unset_cells images (suc size) (cell ∷ cells) many bytes = (
  unset_below images cell (λ is. All-head IsByte cell cells (bytes is)),
  unset_cells images size cells (omega (arith, many)) (λ is. All-tail IsByte cell cells (bytes is)),
)

pub room_below : (images : Images) (size align : ℕ) (other : Block) → HasRoom images.in_bytes size align other → BlockBelow images (new_block size align) other
room_below images size align other room = record {
  align = room.enough_align;
  aligned = room.aligned;
  cells = unset_cells images size other.cells room.same_size room.bytes;
}

unset_fill : (images : Images) (size : ℕ) → CellsBelow images (replicate size unset_cell) (replicate size (byte_cell 0))
unset_fill images zero = tt
unset_fill images (suc size) = (unset_below images (byte_cell 0) (λ is. (0, refl)), unset_fill images size)

unset_unset : (images : Images) (size : ℕ) → (images.in_bytes ≡ true → false ≡ true) → CellsBelow images (replicate size unset_cell) (replicate size unset_cell)
unset_unset images zero none = tt
unset_unset images (suc size) none =
    (unset_below images unset_cell (λ is. let no : false ≡ true = none is in cc), unset_unset images size none)

pub fresh_below : (images : Images) (size align more : ℕ) (is_zero other_zero : Bool) → align ≤ more → 0 < more → IsZeroEnough images.in_bytes is_zero other_zero → BlockBelow images (fresh_block is_zero size align) (fresh_block other_zero size more)
fresh_below images size align more true true p q enough = record { align = p; aligned = q; cells = fill_below images size 0 }
fresh_below images size align more true false p q enough = let no : false ≡ true = enough.zero refl in cc
fresh_below images size align more false true p q enough = record { align = p; aligned = q; cells = unset_fill images size }
fresh_below images size align more false false p q enough = record { align = p; aligned = q; cells = unset_unset images size enough.bytes }

-- what a fresh block holds
pub fresh_held : (is_zero : Bool) (size align : ℕ) → All IsHeld (fresh_block is_zero size align).cells
fresh_held true size align = All-replicate IsHeld size (byte_cell 0) (omega arith, omega arith)
fresh_held false size align = All-replicate IsHeld size unset_cell (omega arith, omega arith)

pub block_stays : (images later : Images) (block other : Block) → Extends images later → BlockBelow images block other → BlockBelow later block other
block_stays images later block other more below = record {
  align = below.align;
  aligned = below.aligned;
  cells = cells_stay images later block.cells other.cells more below.cells;
}
