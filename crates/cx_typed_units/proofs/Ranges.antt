-- Values of `case` labels, converted to the type of their `switch` (ISO C99, 6.8.4.2p5).
use Rattle.std.proofs.Common.{◌≡◌, ℕ, ◌+◌, ◌<◌, ◌≤◌, Bool, true, false, cond, nat_lt, ℤ, pos, ◌-ℤ◌, ◌≤ℤ◌, ◌<ℤ◌, neg_ℤ, List, Option, None, Some, is_none, option_and_then, refl, arith}
use Rattle.std.specs.Prelude.{IfSome}
use Rattle.std.specs.List.{list_any}
use Rattle.std.specs.Ordering.{int_eq}
use Rattle.std.proofs.lemmas.Bool.Decides.{nat_tests}
use Rattle.std.proofs.lemmas.Int.{ints}
use Rattle.cr_base.proofs.Residues.{residue_below}
use Rattle.cr_base.specs.Scalar.{IsInRange, residue, converted}
use Rattle.cx_core.specs.declared.ty.Basic.{Basic}
use Rattle.cx_core.specs.declared.ty.Basic.TheVariants.{Truth, Char, SignedChar, UnsignedChar, Short, UnsignedShort, Int, Unsigned, Long, UnsignedLong, LongLong, UnsignedLongLong}
use Rattle.cx_core.specs.Conversions.{scalar_of, scalar_of_basic, is_promoted_basic, IsPromoted}
use Rattle.cx_core.specs.Trees.{CTy, ty, void, basic, enum_type, pointer, array, record_type, function, form_of_type, CTypes}
use Rattle.cx_rules.specs.Operands.{COperand, value_of, constant_of}
use Rattle.cx_rules.specs.Rules.{case_value, converted_case, not_case, not_constant, value_is}
use Rattle.cx_rules.specs.UnitWalk.{case_number}

from_half_within : (half r : ℕ) → r < half + half → (test : Bool) → nat_lt r half ≡ test →
    (neg_ℤ (pos half) ≤ℤ cond test (pos r) (pos r -ℤ pos (half + half))) × (cond test (pos r) (pos r -ℤ pos (half + half)) <ℤ pos half)
from_half_within half r below true is =
    let low : r < half = grind (arith, nat_tests) in
    (omega (arith, ints), omega (arith, ints))
from_half_within half r below false is =
    let high : half ≤ r = grind (arith, nat_tests) in
    (omega (arith, ints), omega (arith, ints))

signed_within : (half : ℕ) (value : ℤ) → 0 < half →
    (neg_ℤ (pos half) ≤ℤ cond (nat_lt (residue value (half + half)) half) (pos (residue value (half + half))) (pos (residue value (half + half)) -ℤ pos (half + half)))
    × (cond (nat_lt (residue value (half + half)) half) (pos (residue value (half + half))) (pos (residue value (half + half)) -ℤ pos (half + half)) <ℤ pos half)
signed_within half value some = from_half_within half (residue value (half + half)) (residue_below value (half + half) (omega (arith, some))) (nat_lt (residue value (half + half)) half) refl

unsigned_within : (most : ℕ) (value : ℤ) → 0 < most → (pos 0 ≤ℤ pos (residue value most)) × (pos (residue value most) <ℤ pos most)
unsigned_within most value some = let h : residue value most < most = residue_below value most some in (omega (arith, ints), omega (arith, ints, h))

converted_in : (which : Basic) (value : ℤ) → is_promoted_basic which ≡ true → IsInRange (scalar_of_basic which) (converted (scalar_of_basic which) value)
converted_in Truth value is = absurd cc
converted_in Char value is = absurd cc
converted_in SignedChar value is = absurd cc
converted_in UnsignedChar value is = absurd cc
converted_in Short value is = absurd cc
converted_in UnsignedShort value is = absurd cc
converted_in Int value is = signed_within 2147483648 value (omega arith)
converted_in Unsigned value is = unsigned_within 4294967296 value (omega arith)
converted_in Long value is = signed_within 9223372036854775808 value (omega arith)
converted_in UnsignedLong value is = unsigned_within 18446744073709551616 value (omega arith)
converted_in LongLong value is = signed_within 9223372036854775808 value (omega arith)
converted_in UnsignedLongLong value is = unsigned_within 18446744073709551616 value (omega arith)

-- ---- labels of a `switch`

-- the value of a label that breaks no rule: it is of the type, and no label before it has it
pub record IsCaseValue (types : CTypes) (type : CTy) (before : List ℤ) (value : ℤ) : Type 0 where
  pub in_range : IfSome (scalar_of types (form_of_type type)) (λ scalar. IsInRange scalar value)
  pub fresh : list_any (int_eq value) before ≡ false

value_by : (types now : CTypes) (which : Basic) (is_const : Bool) (before : List ℤ) (found : Option ℤ) → is_promoted_basic which ≡ true → is_none found ≡ false
    → value_is (λ one. list_any (int_eq one) before) (option_and_then (converted_case (Some (scalar_of_basic which))) found) ≡ false
    → IsCaseValue now (ty (basic which) is_const) before (case_number (option_and_then (converted_case (Some (scalar_of_basic which))) found))
value_by types now which is_const before None high some fresh = absurd cc
value_by types now which is_const before (Some value) high some fresh = record { in_range = converted_in which value high; fresh = fresh }

pub case_is : (types now : CTypes) (type : CTy) (value : COperand) (before : List ℤ) → IsPromoted type → not_constant types value ≡ false → not_case types (Some type) value before ≡ false
    → IsCaseValue now type before (case_number (case_value types type value))
case_is types now (ty (basic which) is_const) value before promoted some fresh = value_by types now which is_const before (constant_of types (value_of value)) promoted.0 some fresh
case_is types now (ty void is_const) value before promoted some fresh = absurd (let h : false ≡ true = promoted.0 in cc)
case_is types now (ty (enum_type number) is_const) value before promoted some fresh = absurd (let h : false ≡ true = promoted.0 in cc)
case_is types now (ty (pointer to) is_const) value before promoted some fresh = absurd (let h : false ≡ true = promoted.0 in cc)
case_is types now (ty (array element length) is_const) value before promoted some fresh = absurd (let h : false ≡ true = promoted.0 in cc)
case_is types now (ty (record_type number) is_const) value before promoted some fresh = absurd (let h : false ≡ true = promoted.0 in cc)
case_is types now (ty (function result params variadic) is_const) value before promoted some fresh = absurd (let h : false ≡ true = promoted.0 in cc)
