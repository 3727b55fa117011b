-- The integer promotions and the usual arithmetic conversions as tables (ISO C99, 6.3.1.1 and 6.3.1.8), where `int` has 32 bits
-- and `long` and `long long` have 64.
use Rattle.cx_core.specs.declared.ty.Basic.{Basic}
use Rattle.cx_core.specs.declared.ty.Basic.TheVariants.{Truth, Char, SignedChar, UnsignedChar, Short, UnsignedShort, Int, Unsigned, Long, UnsignedLong, LongLong, UnsignedLongLong}

-- the promoted type of a value that is no bit-field
abbrev pub promotion_table : Basic → Basic
promotion_table Truth = Int
promotion_table Char = Int
promotion_table SignedChar = Int
promotion_table UnsignedChar = Int
promotion_table Short = Int
promotion_table UnsignedShort = Int
promotion_table Int = Int
promotion_table Unsigned = Unsigned
promotion_table Long = Long
promotion_table UnsignedLong = UnsignedLong
promotion_table LongLong = LongLong
promotion_table UnsignedLongLong = UnsignedLongLong

-- the common type of two values of promoted types; the first type where one isn't promoted
abbrev pub common_table : Basic → Basic → Basic
common_table Int Int = Int
common_table Int Unsigned = Unsigned
common_table Int Long = Long
common_table Int UnsignedLong = UnsignedLong
common_table Int LongLong = LongLong
common_table Int UnsignedLongLong = UnsignedLongLong
common_table Unsigned Int = Unsigned
common_table Unsigned Unsigned = Unsigned
common_table Unsigned Long = Long
common_table Unsigned UnsignedLong = UnsignedLong
common_table Unsigned LongLong = LongLong
common_table Unsigned UnsignedLongLong = UnsignedLongLong
common_table Long Int = Long
common_table Long Unsigned = Long
common_table Long Long = Long
common_table Long UnsignedLong = UnsignedLong
common_table Long LongLong = LongLong
common_table Long UnsignedLongLong = UnsignedLongLong
common_table UnsignedLong Int = UnsignedLong
common_table UnsignedLong Unsigned = UnsignedLong
common_table UnsignedLong Long = UnsignedLong
common_table UnsignedLong UnsignedLong = UnsignedLong
common_table UnsignedLong LongLong = UnsignedLongLong
common_table UnsignedLong UnsignedLongLong = UnsignedLongLong
common_table LongLong Int = LongLong
common_table LongLong Unsigned = LongLong
common_table LongLong Long = LongLong
common_table LongLong UnsignedLong = UnsignedLongLong
common_table LongLong LongLong = LongLong
common_table LongLong UnsignedLongLong = UnsignedLongLong
common_table UnsignedLongLong Int = UnsignedLongLong
common_table UnsignedLongLong Unsigned = UnsignedLongLong
common_table UnsignedLongLong Long = UnsignedLongLong
common_table UnsignedLongLong UnsignedLong = UnsignedLongLong
common_table UnsignedLongLong LongLong = UnsignedLongLong
common_table UnsignedLongLong UnsignedLongLong = UnsignedLongLong
common_table first _ = first
