-- Constants are typed (ISO C99, 6.4.4, 6.5.3.4, 6.7.2.2).
use Rattle.std.proofs.Common.{◌≡◌, ℕ, ◌<◌, ◌-◌, ◌^◌, nat_le, ℤ, pos, neg_ℤ, ◌≤ℤ◌, int_le, Bool, true, false, ◌&&◌, if◌then◌else◌, Option, None, Some, option_map, refl, sym, subst, arith}
use Rattle.std.specs.Option.{option_and_then}
use Rattle.std.proofs.lemmas.Bool.Decides.{nat_tests}
use Rattle.std.proofs.lemmas.Int.{ints}
use Rattle.cr_base.specs.Layout.{most_bytes}
use Rattle.cr_base.specs.Scalar.{IsInRange}
use Rattle.cr_base.specs.declared.layout.Laid.{Laid}
use Rattle.cr_base.specs.declared.scalar.Scalar.TheVariants.{Whole}
use Rattle.cx_core.specs.Conversions.{scalar_of_basic}
use Rattle.cx_core.specs.declared.ty.Basic.{Basic}
use Rattle.cx_core.specs.declared.ty.Basic.TheVariants as basics
use Rattle.cx_core.specs.Layouts.{within_most, layouts_of, whole_extent}
use Rattle.cx_core.specs.Trees.{CTy, ty, basic, expr, whole}
use Rattle.cx_lex.specs.declared.token.Ty0.{Ty0}
use Rattle.cx_lex.specs.declared.token.Ty0.TheVariants as ty0
use Rattle.cx_lex.specs.Numbers.{above}
use Rattle.cx_rules.specs.Meanings.{number_meaning, size_meaning}
use Rattle.cx_rules.specs.Operands.{a_value}
use Rattle.cx_rules.specs.Types.{size_type, size_of}
use Rattle.cx_typed.proofs.Promoted.{not_not}
use Rattle.cx_typed.proofs.Same.{both}
use Rattle.cx_typed.specs.Constants.{int_scalar, IsTypedConstant, ConstantsAreTyped}
use Rattle.cx_typed.specs.Nodes.{CStanding}

abbrev size_number : Option ℕ → ℕ
size_number None = 0
size_number (Some size) = size

size_is : (found : Option ℕ) → elim found as (λ _. ℤ) [ None ↦ pos 0 | Some size ↦ pos size ] ≡ pos (size_number found)
size_is None = refl
size_is (Some size) = refl

signed_at : (bits value : ℕ) → value < 2 ^ (bits - 1) → IsInRange (Whole bits true) (pos value)
signed_at bits value is = (from_least (2 ^ (bits - 1)), grind (arith, ints))
  where
    from_least : (n : ℕ) → neg_ℤ (pos n) ≤ℤ pos value
    from_least n = grind (arith, ints)

unsigned_at : (bits value : ℕ) → value < 2 ^ bits → IsInRange (Whole bits false) (pos value)
unsigned_at bits value is = (grind (arith, ints), grind (arith, ints))

int_by : (value : ℤ) → (int_le (neg_ℤ (pos 2147483648)) value && int_le value (pos 2147483647)) ≡ true → IsInRange int_scalar value
int_by value is =
    let parts : (int_le (neg_ℤ (pos 2147483648)) value ≡ true) × (int_le value (pos 2147483647) ≡ true) = both is in
    (grind (arith, ints, parts.0), grind (arith, ints, parts.1))

-- no object is larger than a number of the type of `sizeof` can say
size_by : (found : Option Laid) → size_number (option_map (λ laid. laid.size) (option_and_then within_most found)) < 2 ^ 64
size_by None = grind (arith, nat_tests)
size_by (Some laid) = size_within laid (nat_le laid.size most_bytes) refl
  where
    size_within : (laid : Laid) (small : Bool) → nat_le laid.size most_bytes ≡ small
        → size_number (option_map (λ one. one.size) (if small then Some laid else None)) < 2 ^ 64
    size_within laid true is = grind (arith, nat_tests, is)
    size_within laid false is = grind (arith, nat_tests)

module _ (s : CStanding) where
  basic_constant : (which : Basic) (value : ℤ) → IsInRange (scalar_of_basic which) value → IsTypedConstant s (a_value (expr (ty (basic which) false) s.at (whole value)))
  basic_constant which value is = record {
    known = record { known = record { type_in = tt; settled = tt }; plain = refl; form = tt };
    typed = λ home. (tt, record { plain = refl; integer = refl; in_range = is });
  }

  number_typed : (value : ℕ) (type : Ty0) → value < above type → IsTypedConstant s (number_meaning s.at value type)
  number_typed value ty0.Int is = basic_constant basics.Int (pos value) (signed_at 32 value is)
  number_typed value ty0.Unsigned is = basic_constant basics.Unsigned (pos value) (unsigned_at 32 value is)
  number_typed value ty0.Long is = basic_constant basics.Long (pos value) (signed_at 64 value is)
  number_typed value ty0.UnsignedLong is = basic_constant basics.UnsignedLong (pos value) (unsigned_at 64 value is)
  number_typed value ty0.LongLong is = basic_constant basics.LongLong (pos value) (signed_at 64 value is)
  number_typed value ty0.UnsignedLongLong is = basic_constant basics.UnsignedLongLong (pos value) (unsigned_at 64 value is)

  size_typed : (type : CTy) → IsTypedConstant s (size_meaning s.at s.types type)
  size_typed type =
      subst (λ value. IsTypedConstant s (a_value (expr size_type s.at (whole value)))) (sym (size_is (size_of s.types type)))
      (basic_constant basics.UnsignedLong (pos (size_number (size_of s.types type))) (unsigned_at 64 (size_number (size_of s.types type)) (size_by (whole_extent (layouts_of s.types) type))))

  pub constants : ConstantsAreTyped s
  constants = record {
    number = number_typed;
    int = λ value is. basic_constant basics.Int value is;
    enumerator = λ name written value unbroken. int_by value (not_not unbroken.k23);
    size = size_typed;
  }
