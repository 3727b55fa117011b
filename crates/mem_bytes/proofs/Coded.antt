-- Values and their cells.
use Rattle.std.proofs.Common.{◌≡◌, ℕ, zero, suc, ◌/◌, length, Ok, refl, ap, arith}
use Rattle.std.proofs.lemmas.Grind.{common_steps}
use Rattle.cr_base.specs.declared.scalar.Scalar.{Scalar}
use Rattle.mem_bytes.specs.declared.value.Value.{Value}
use Rattle.mem_bytes.specs.Coding.{IsScalar, IsValueOf, scalar_size, bytes_of, cells_of, value_of}

-- the cells of a value mean that value
pub value_of-cells_of : (scalar : Scalar) (value : Value) → IsScalar scalar → IsValueOf scalar value → value_of scalar (cells_of scalar value) ≡ Ok value
value_of-cells_of scalar value p q = grind (arith, common_steps)

pub length-bytes_of : (count n : ℕ) → length (bytes_of count n) ≡ count
length-bytes_of zero n = refl
length-bytes_of (suc count) n = ap suc (length-bytes_of count (n / 256))

-- a value has as many cells as its scalar has bytes
pub length-cells_of : (scalar : Scalar) (value : Value) → IsScalar scalar → IsValueOf scalar value → length (cells_of scalar value) ≡ scalar_size scalar
length-cells_of scalar value p q = grind (arith, common_steps, length-bytes_of)
