-- Cells as they are packed.
use Rattle.std.specs.Prelude.{◌≡◌, ℕ, ◌+◌, ◌%◌, ◌^◌, ◌-◌, List, ◌++◌, length, map, take, drop, replicate, Result, Ok}
use Rattle.std.specs.Vec.{vec_capacity}
use Rattle.std.specs.declared.vec.Vec.{Vec}
use Rattle.std.specs.Int.{w64, from_le_bytes}
use Rattle.mem_bytes.specs.declared.cell.Cell.{Cell}
use Rattle.mem_bytes.specs.declared.cell.Cell.TheVariants.{Bits, PtrByte}
use Rattle.mem_bytes.specs.declared.value.Value.TheVariants.{Object, Code}
use Rattle.mem_bytes.specs.declared.fault.Fault.{Fault}
use Rattle.mem_bytes.specs.Access.{and_then}
use Rattle.mem_bytes.specs.Bits.{bytes_touched, with_field_in}
use Rattle.mem_bytes.specs.Memory.{unset_cell}
use Rattle.mem_region.specs.declared.packed.Kind.{Kind}
use Rattle.mem_region.specs.declared.packed.Kind.TheVariants.{Bits as BitsKind, Object as ObjectKind, Code as CodeKind}
use Rattle.mem_region.specs.declared.packed.Packed.{Packed}

-- the cell of a kind, with the two numbers and the byte that are held
abbrev pub cell_with : Kind → ℕ → ℕ → ℕ → Cell
cell_with BitsKind first second byte = Bits byte (first % 256)
cell_with ObjectKind first second byte =
    PtrByte (Object (record { block = first; offset = second })) (byte % 8)
cell_with CodeKind first second byte = PtrByte (Code (first % 2 ^ 32)) (byte % 8)

-- the cell that is held
abbrev pub cell_of : Packed → Cell
cell_of packed =
    cell_with packed.kind (from_le_bytes w64 packed.first) (from_le_bytes w64 packed.second) packed.byte

-- cells were written over those from a place on, in a list that keeps its room
pub record Wrote {A : Type 0} (old : Vec Packed A) (start : ℕ) (part : List Cell) (new : Vec Packed A) : Type 0 where
  pub cells : map cell_of new.items
      ≡ take start (map cell_of old.items) ++ part ++ drop (start + length part) (map cell_of old.items)
  pub room : vec_capacity new ≡ vec_capacity old

-- the cells that a bit-field at a place touches, after a number was stored in it; unset ones stand behind them
abbrev pub field_stored : List Packed → ℕ → ℕ → ℕ → ℕ → Result (List Cell) Fault
field_stored held start bit width field =
    and_then (with_field_in bit width field (take (bytes_touched bit width) (drop start (map cell_of held)))) (λ new.
    Ok (new ++ replicate (8 - bytes_touched bit width) unset_cell))
