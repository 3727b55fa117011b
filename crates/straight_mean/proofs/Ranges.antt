-- Values of type `int`: what memory holds, what a reduction gives, and what an operator gives.
use Rattle.std.proofs.Common.{◌≡◌, ℕ, ◌+◌, ◌<◌, ◌≤◌, Bool, true, false, cond, nat_lt, if◌then◌else◌, ℤ, pos, negsuc, ◌-ℤ◌, ◌≤ℤ◌, ◌<ℤ◌, neg_ℤ, List, Option, Some, None, Result, Ok, Err, refl, arith}
use Rattle.std.specs.List.{list_all}
use Rattle.std.proofs.lemmas.Bool.Decides.{nat_tests}
use Rattle.std.proofs.lemmas.Int.{ints}
use Rattle.std.proofs.Math.Nat.{mod-lt}
use Rattle.cr_base.specs.Scalar.{IsInRange, residue, wrapped}
use Rattle.cr_base.specs.declared.scalar.Scalar.TheVariants.{Whole}
use Rattle.straight_mean.specs.Sound.{IsInt}
use Rattle.mem_bytes.specs.Access.{and_then, scalar_part_of, block_value, live_read, value_at}
use Rattle.mem_bytes.specs.Coding.{value_of, meaning_of, is_set, is_bits, bits_of}
use Rattle.mem_bytes.specs.Memory.{Block, Blocks, live_block}
use Rattle.mem_bytes.specs.declared.cell.Cell.{Cell}
use Rattle.mem_bytes.specs.declared.fault.Fault.{Fault}
use Rattle.mem_bytes.specs.declared.fault.Fault.TheVariants.{Unset, MixedPointer}
use Rattle.mem_bytes.specs.declared.value.Ptr.{Ptr}
use Rattle.mem_bytes.specs.declared.value.Value.TheVariants.{Whole as Number}

-- ---- reductions

residue_below : (value : ℤ) (m : ℕ) → 0 < m → residue value m < m
residue_below (pos n) m some = mod-lt n some
residue_below (negsuc n) m some = omega (arith, mod-lt n some)

from_half_within : (half r : ℕ) → r < half + half → (test : Bool) → nat_lt r half ≡ test →
    (neg_ℤ (pos half) ≤ℤ cond test (pos r) (pos r -ℤ pos (half + half))) × (cond test (pos r) (pos r -ℤ pos (half + half)) <ℤ pos half)
from_half_within half r below true is =
    let low : r < half = grind (arith, nat_tests) in
    (omega (arith, ints), omega (arith, ints))
from_half_within half r below false is =
    let high : half ≤ r = grind (arith, nat_tests) in
    (omega (arith, ints), omega (arith, ints))

-- a number reduced to `int` is one
pub wrapped_in_range : (value : ℤ) → IsInRange (Whole 32 true) (wrapped (Whole 32 true) value)
wrapped_in_range value =
    from_half_within 2147483648 (residue value 4294967296) (residue_below value 4294967296 (omega arith)) (nat_lt (residue value 4294967296) 2147483648) refl

-- ---- what memory holds

-- what a result gives, where it is no fault
abbrev pub AllOk : {A E : Type 0} → (A → Type 0) → Result A E → Type 0
AllOk P (Ok value) = P value
AllOk P (Err error) = Unit {0}

ok_and : {A B E : Type 0} (P : B → Type 0) (first : Result A E) (next : A → Result B E) → ((value : A) → AllOk P (next value)) → AllOk P (and_then first next)
ok_and P (Ok value) next all = all value
ok_and P (Err error) next all = tt

ok_if : {A E : Type 0} (P : A → Type 0) (test : Bool) (first second : Result A E) → AllOk P first → AllOk P second → AllOk P (if test then first else second)
ok_if P true first second one other = one
ok_if P false first second one other = other

ok_live : {A : Type 0} (P : A → Type 0) (found : Option Block) (step : Block → Result A Fault) → ((block : Block) → AllOk P (step block)) → AllOk P (live_read found step)
ok_live P None step all = tt
ok_live P (Some block) step all = all block

int_in_cells : (cells : List Cell) → AllOk IsInt (value_of (Whole 32 true) cells)
int_in_cells cells =
    ok_if IsInt (list_all is_set cells) (meaning_of (Whole 32 true) cells) (Err Unset)
    (ok_if IsInt (list_all is_bits cells) (Ok (Number (wrapped (Whole 32 true) (pos (bits_of cells))))) (Err MixedPointer)
    (record { number = wrapped (Whole 32 true) (pos (bits_of cells)); is = refl; in_range = wrapped_in_range (pos (bits_of cells)) })
    tt)
    tt

-- a value that is loaded from an `int` is one
pub loaded_is_int : (memory : Blocks) (at : Ptr) → AllOk IsInt (value_at memory at (Whole 32 true))
loaded_is_int memory at =
    ok_live IsInt (live_block memory at.block) (λ block. block_value block at.offset (Whole 32 true))
    (λ block. ok_and IsInt (scalar_part_of block at.offset (Whole 32 true)) (value_of (Whole 32 true)) int_in_cells)
