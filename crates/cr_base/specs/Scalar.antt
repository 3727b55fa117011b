-- The scalar types, their ranges, and conversion to them (ISO C99, 6.2.5, 6.2.6.2, 6.3.1.2 and 6.3.1.3).
use Rattle.std.specs.Prelude.{ℕ, zero, suc, ◌+◌, ◌-◌, ◌%◌, ◌^◌, Bool, true, false, IsTrue, ◌==◌, ◌||◌, nat_lt, if◌then◌else◌, ℤ, pos, negsuc, neg_ℤ, ◌≤ℤ◌, ◌<ℤ◌, ◌-ℤ◌}
use Rattle.cr_base.specs.declared.scalar.Scalar.{Scalar}
use Rattle.cr_base.specs.declared.scalar.Scalar.TheVariants.{Truth, Whole, Object, Code}

-- a width that an integer type other than `_Bool` has in this profile, in bits
abbrev pub is_width : ℕ → Bool
is_width width = width == 8 || width == 16 || width == 32 || width == 64

-- an integer type other than `_Bool`
abbrev pub IsWhole : Scalar → Type 0
IsWhole (Whole width signed) = IsTrue (is_width width)
IsWhole Truth = ⊥
IsWhole Object = ⊥
IsWhole Code = ⊥

-- an integer type, `_Bool` too
abbrev pub IsInteger : Scalar → Type 0
IsInteger (Whole width signed) = IsTrue (is_width width)
IsInteger Truth = Unit {0}
IsInteger Object = ⊥
IsInteger Code = ⊥

-- how many values the type's bits tell apart (6.2.6.2)
abbrev pub modulus : Scalar → ℕ
modulus (Whole width signed) = 2 ^ width
modulus Truth = 2
modulus Object = 0
modulus Code = 0

-- the least value of an integer type (6.2.6.2: two's complement)
abbrev pub least : Scalar → ℤ
least (Whole width true) = neg_ℤ (pos (2 ^ (width - 1)))
least (Whole width false) = pos 0
least Truth = pos 0
least Object = pos 0
least Code = pos 0

-- the first number above the values of an integer type
abbrev pub above : Scalar → ℤ
above (Whole width true) = pos (2 ^ (width - 1))
above (Whole width false) = pos (2 ^ width)
above Truth = pos 2
above Object = pos 0
above Code = pos 0

-- a value of an integer type
abbrev pub IsInRange : Scalar → ℤ → Type 0
IsInRange scalar value = (least scalar ≤ℤ value) × (value <ℤ above scalar)

-- what is left of a number after division by m, rounded down: from 0 to m - 1
abbrev pub residue : ℤ → ℕ → ℕ
residue (pos n) m = n % m
residue (negsuc n) m = m - 1 - n % m

-- the number from -half to half - 1 that leaves the residue r of 2 * half
abbrev pub from_half : ℕ → ℕ → ℤ
from_half half r = if nat_lt r half then pos r else pos r -ℤ pos (half + half)

-- a number reduced modulo 2^width into the range of the type (6.3.1.3; where the target is signed,
-- the choice that the standard leaves is this profile's)
abbrev pub wrapped : Scalar → ℤ → ℤ
wrapped (Whole width true) value = from_half (2 ^ (width - 1)) (residue value (2 ^ (width - 1) + 2 ^ (width - 1)))
wrapped (Whole width false) value = pos (residue value (2 ^ width))
wrapped Truth value = value
wrapped Object value = value
wrapped Code value = value

-- a number converted to `_Bool` (6.3.1.2)
abbrev pub truth_of : ℤ → ℤ
truth_of (pos zero) = pos 0
truth_of (pos (suc n)) = pos 1
truth_of (negsuc n) = pos 1

-- a number converted to an integer type (6.3.1.2, 6.3.1.3)
abbrev pub converted : Scalar → ℤ → ℤ
converted Truth value = truth_of value
converted (Whole width signed) value = wrapped (Whole width signed) value
converted Object value = value
converted Code value = value
