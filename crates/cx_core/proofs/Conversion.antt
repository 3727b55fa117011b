-- The laws of the arithmetic conversions, by all their cases.
use Rattle.std.proofs.Common.{◌≡◌, ℕ, Bool, true, false, Option, None, refl, if◌then◌else◌}
use Rattle.cx_core.specs.declared.ty.Basic.{Basic}
use Rattle.cx_core.specs.declared.ty.Basic.TheVariants.{Truth, Char, SignedChar, UnsignedChar, Short, UnsignedShort, Int, Unsigned, Long, UnsignedLong, LongLong, UnsignedLongLong}
use Rattle.cx_core.specs.Conversions.{promoted_basic, common_basic, is_promoted_basic}
use Rattle.cx_core.specs.Tables.{promotion_table, common_table}

int_or_unsigned : (b : Bool) → is_promoted_basic (if b then Int else Unsigned) ≡ true
int_or_unsigned true = refl
int_or_unsigned false = refl

pub promoted_is_promoted : (which : Basic) (bits : Option ℕ) → is_promoted_basic (promoted_basic which bits) ≡ true
promoted_is_promoted Long bits = refl
promoted_is_promoted UnsignedLong bits = refl
promoted_is_promoted LongLong bits = refl
promoted_is_promoted UnsignedLongLong bits = refl
promoted_is_promoted _ bits = int_or_unsigned _

pub promotion_tabulated : (which : Basic) → promoted_basic which None ≡ promotion_table which
promotion_tabulated Truth = refl
promotion_tabulated _ = refl

pub common_tabulated : (first second : Basic) → is_promoted_basic first ≡ true → is_promoted_basic second ≡ true → common_basic first second ≡ common_table first second
common_tabulated Truth second first_is second_is = absurd cc
common_tabulated Char second first_is second_is = absurd cc
common_tabulated SignedChar second first_is second_is = absurd cc
common_tabulated UnsignedChar second first_is second_is = absurd cc
common_tabulated Short second first_is second_is = absurd cc
common_tabulated UnsignedShort second first_is second_is = absurd cc
common_tabulated Int Truth first_is second_is = absurd cc
common_tabulated Int Char first_is second_is = absurd cc
common_tabulated Int SignedChar first_is second_is = absurd cc
common_tabulated Int UnsignedChar first_is second_is = absurd cc
common_tabulated Int Short first_is second_is = absurd cc
common_tabulated Int UnsignedShort first_is second_is = absurd cc
common_tabulated Int _ first_is second_is = refl
common_tabulated Unsigned Truth first_is second_is = absurd cc
common_tabulated Unsigned Char first_is second_is = absurd cc
common_tabulated Unsigned SignedChar first_is second_is = absurd cc
common_tabulated Unsigned UnsignedChar first_is second_is = absurd cc
common_tabulated Unsigned Short first_is second_is = absurd cc
common_tabulated Unsigned UnsignedShort first_is second_is = absurd cc
common_tabulated Unsigned _ first_is second_is = refl
common_tabulated Long Truth first_is second_is = absurd cc
common_tabulated Long Char first_is second_is = absurd cc
common_tabulated Long SignedChar first_is second_is = absurd cc
common_tabulated Long UnsignedChar first_is second_is = absurd cc
common_tabulated Long Short first_is second_is = absurd cc
common_tabulated Long UnsignedShort first_is second_is = absurd cc
common_tabulated Long _ first_is second_is = refl
common_tabulated UnsignedLong Truth first_is second_is = absurd cc
common_tabulated UnsignedLong Char first_is second_is = absurd cc
common_tabulated UnsignedLong SignedChar first_is second_is = absurd cc
common_tabulated UnsignedLong UnsignedChar first_is second_is = absurd cc
common_tabulated UnsignedLong Short first_is second_is = absurd cc
common_tabulated UnsignedLong UnsignedShort first_is second_is = absurd cc
common_tabulated UnsignedLong _ first_is second_is = refl
common_tabulated LongLong Truth first_is second_is = absurd cc
common_tabulated LongLong Char first_is second_is = absurd cc
common_tabulated LongLong SignedChar first_is second_is = absurd cc
common_tabulated LongLong UnsignedChar first_is second_is = absurd cc
common_tabulated LongLong Short first_is second_is = absurd cc
common_tabulated LongLong UnsignedShort first_is second_is = absurd cc
common_tabulated LongLong _ first_is second_is = refl
common_tabulated UnsignedLongLong Truth first_is second_is = absurd cc
common_tabulated UnsignedLongLong Char first_is second_is = absurd cc
common_tabulated UnsignedLongLong SignedChar first_is second_is = absurd cc
common_tabulated UnsignedLongLong UnsignedChar first_is second_is = absurd cc
common_tabulated UnsignedLongLong Short first_is second_is = absurd cc
common_tabulated UnsignedLongLong UnsignedShort first_is second_is = absurd cc
common_tabulated UnsignedLongLong _ first_is second_is = refl

pub common_promoted : (first second : Basic) → is_promoted_basic first ≡ true → is_promoted_basic second ≡ true → is_promoted_basic (common_basic first second) ≡ true
common_promoted Truth second first_is second_is = absurd cc
common_promoted Char second first_is second_is = absurd cc
common_promoted SignedChar second first_is second_is = absurd cc
common_promoted UnsignedChar second first_is second_is = absurd cc
common_promoted Short second first_is second_is = absurd cc
common_promoted UnsignedShort second first_is second_is = absurd cc
common_promoted Int Truth first_is second_is = absurd cc
common_promoted Int Char first_is second_is = absurd cc
common_promoted Int SignedChar first_is second_is = absurd cc
common_promoted Int UnsignedChar first_is second_is = absurd cc
common_promoted Int Short first_is second_is = absurd cc
common_promoted Int UnsignedShort first_is second_is = absurd cc
common_promoted Int _ first_is second_is = refl
common_promoted Unsigned Truth first_is second_is = absurd cc
common_promoted Unsigned Char first_is second_is = absurd cc
common_promoted Unsigned SignedChar first_is second_is = absurd cc
common_promoted Unsigned UnsignedChar first_is second_is = absurd cc
common_promoted Unsigned Short first_is second_is = absurd cc
common_promoted Unsigned UnsignedShort first_is second_is = absurd cc
common_promoted Unsigned _ first_is second_is = refl
common_promoted Long Truth first_is second_is = absurd cc
common_promoted Long Char first_is second_is = absurd cc
common_promoted Long SignedChar first_is second_is = absurd cc
common_promoted Long UnsignedChar first_is second_is = absurd cc
common_promoted Long Short first_is second_is = absurd cc
common_promoted Long UnsignedShort first_is second_is = absurd cc
common_promoted Long _ first_is second_is = refl
common_promoted UnsignedLong Truth first_is second_is = absurd cc
common_promoted UnsignedLong Char first_is second_is = absurd cc
common_promoted UnsignedLong SignedChar first_is second_is = absurd cc
common_promoted UnsignedLong UnsignedChar first_is second_is = absurd cc
common_promoted UnsignedLong Short first_is second_is = absurd cc
common_promoted UnsignedLong UnsignedShort first_is second_is = absurd cc
common_promoted UnsignedLong _ first_is second_is = refl
common_promoted LongLong Truth first_is second_is = absurd cc
common_promoted LongLong Char first_is second_is = absurd cc
common_promoted LongLong SignedChar first_is second_is = absurd cc
common_promoted LongLong UnsignedChar first_is second_is = absurd cc
common_promoted LongLong Short first_is second_is = absurd cc
common_promoted LongLong UnsignedShort first_is second_is = absurd cc
common_promoted LongLong _ first_is second_is = refl
common_promoted UnsignedLongLong Truth first_is second_is = absurd cc
common_promoted UnsignedLongLong Char first_is second_is = absurd cc
common_promoted UnsignedLongLong SignedChar first_is second_is = absurd cc
common_promoted UnsignedLongLong UnsignedChar first_is second_is = absurd cc
common_promoted UnsignedLongLong Short first_is second_is = absurd cc
common_promoted UnsignedLongLong UnsignedShort first_is second_is = absurd cc
common_promoted UnsignedLongLong _ first_is second_is = refl
