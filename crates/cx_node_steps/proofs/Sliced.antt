-- Parts of lists.
use Rattle.std.proofs.Common.{◌≡◌, ℕ, List, take, take_all, length, arith}
use Rattle.mem_bytes.specs.declared.cell.Cell.{Cell}

pub whole_part : (part : List Cell) (count : ℕ) → length part ≡ count → take count part ≡ part
whole_part part count is = take_all count part (omega (arith, is))
