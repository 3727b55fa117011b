-- Each cell that is written is one that memory may hold.
use Rattle.std.proofs.Common.{◌≡◌, ℕ, All, List, ◌++◌, replicate, sym, subst}
use Rattle.std.proofs.lemmas.List.Elements.{All-weaker, All-append, All-replicate}
use Rattle.mem_bytes.specs.declared.cell.Cell.{Cell}
use Rattle.mem_bytes.specs.declared.cell.Cell.TheVariants.{Bits, PtrByte}
use Rattle.mem_bytes.specs.Bits.{bit_cells}
use Rattle.mem_bytes.specs.Calls.{IsCell}
use Rattle.mem_bytes.specs.Laws.{IsHeld}
use Rattle.mem_bytes.specs.Memory.{unset_cell}
use Rattle.mem_bytes.proofs.Windows.{bytes_all}

pub cell_of_held : (cell : Cell) → IsHeld cell → IsCell cell
cell_of_held (Bits value set) held = tt
cell_of_held (PtrByte of index) held = held

-- cells of bits, and unset ones behind them
pub bit_cells_are : (many bits set : ℕ) (found : List Cell) (count : ℕ) → found ≡ bit_cells many bits set ++ replicate count unset_cell → All IsCell found
bit_cells_are many bits set found count e =
    let held : All IsCell (bit_cells many bits set) = All-weaker IsHeld IsCell cell_of_held (bit_cells many bits set) (bytes_all many bits set) in
    subst (All IsCell) (sym e) (All-append IsCell (bit_cells many bits set) (replicate count unset_cell) held (All-replicate IsCell count unset_cell tt))
