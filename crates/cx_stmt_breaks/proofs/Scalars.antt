-- Basic types are integer types of the profile.
use Rattle.std.proofs.Common.{refl}
use Rattle.cr_base.specs.Scalar.{IsInteger}
use Rattle.cx_core.specs.Conversions.{scalar_of_basic}
use Rattle.cx_core.specs.declared.ty.Basic.{Basic}
use Rattle.cx_core.specs.declared.ty.Basic.TheVariants.{Truth, Char, SignedChar, UnsignedChar, Short, UnsignedShort, Int, Unsigned, Long, UnsignedLong, LongLong, UnsignedLongLong}

pub basic_is_integer : (which : Basic) → IsInteger (scalar_of_basic which)
basic_is_integer Truth = tt
basic_is_integer Char = refl
basic_is_integer SignedChar = refl
basic_is_integer UnsignedChar = refl
basic_is_integer Short = refl
basic_is_integer UnsignedShort = refl
basic_is_integer Int = refl
basic_is_integer Unsigned = refl
basic_is_integer Long = refl
basic_is_integer UnsignedLong = refl
basic_is_integer LongLong = refl
basic_is_integer UnsignedLongLong = refl
