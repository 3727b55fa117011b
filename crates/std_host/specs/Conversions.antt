-- The conversions of `printf` that the host knows, and what they print (ISO C99, 7.19.6.1).
use Rattle.std.specs.Prelude.{ℕ, ◌^◌, ◌==◌, ◌||◌, Bool, true, false, if◌then◌else◌, ℤ, List, [], ◌∷◌, Option, None, Some}
use Rattle.std.specs.Fmt.{decimal, signed_decimal, digits}
use Rattle.cr_base.specs.Scalar.{residue, wrapped}
use Rattle.cr_base.specs.declared.scalar.Scalar.{Scalar}
use Rattle.cr_base.specs.declared.scalar.Scalar.TheVariants.{Truth, Whole as Integer, Object, Code}
use Rattle.ext_calls.specs.declared.call.Arg.{Arg}
use Rattle.ext_calls.specs.declared.call.Arg.TheVariants.{Whole, Text as TextArg}
use Rattle.std_host.specs.declared.conversion.Conversion.{Conversion}
use Rattle.std_host.specs.declared.conversion.Conversion.TheVariants.{Number, Byte, Text}
use Rattle.std_host.specs.declared.conversion.Length.{Length}
use Rattle.std_host.specs.declared.conversion.Length.TheVariants.{Plain, Long}
use Rattle.std_host.specs.declared.conversion.Style.{Style}
use Rattle.std_host.specs.declared.conversion.Style.TheVariants.{Signed, Unsigned, Hexadecimal}

-- ---- which conversion a letter asks for

-- behind `%`: 99 is `c`, 100 is `d`, 105 is `i`, 115 is `s`, 117 is `u` and 120 is `x`
abbrev pub plain_conversion : ℕ → Option Conversion
plain_conversion letter =
    if letter == 100 || letter == 105 then Some (Number Signed Plain) else
    (if letter == 117 then Some (Number Unsigned Plain) else
    (if letter == 120 then Some (Number Hexadecimal Plain) else
    (if letter == 99 then Some Byte else
    (if letter == 115 then Some Text else None))))

-- behind `%l`
abbrev pub long_conversion : ℕ → Option Conversion
long_conversion letter =
    if letter == 100 then Some (Number Signed Long) else
    (if letter == 117 then Some (Number Unsigned Long) else
    (if letter == 120 then Some (Number Hexadecimal Long) else None))

-- ---- what a conversion prints

-- how many bits the argument of a conversion has: those of `int`, or behind `l` those of `long`
abbrev pub bits_of : Length → ℕ
bits_of Plain = 32
bits_of Long = 64

-- a number with so many bits in one of the three styles: reduced into the range of the type with that many bits, with a sign or
-- without one, in decimal or in lower-case hexadecimal, with no zero in front
abbrev pub number_text : Style → ℕ → ℤ → List ℕ
number_text Signed bits value = signed_decimal (wrapped (Integer bits true) value)
number_text Unsigned bits value = decimal (residue value (2 ^ bits))
number_text Hexadecimal bits value = digits 16 false (residue value (2 ^ bits))

-- an argument has an integer type of so many bits, with a sign or without one
abbrev pub is_of_bits : ℕ → Scalar → Bool
is_of_bits bits (Integer width signed) = width == bits
is_of_bits bits Truth = false
is_of_bits bits Object = false
is_of_bits bits Code = false

-- what a conversion prints of an argument, or none where the argument isn't of its kind
abbrev pub shown : Conversion → Arg → Option (List ℕ)
shown (Number style length) (Whole scalar value) =
    if is_of_bits (bits_of length) scalar then Some (number_text style (bits_of length) value) else None
shown (Number style length) (TextArg text) = None
shown Byte (Whole scalar value) = if is_of_bits 32 scalar then Some (residue value 256 ∷ []) else None
shown Byte (TextArg text) = None
shown Text (Whole scalar value) = None
shown Text (TextArg text) = Some text
