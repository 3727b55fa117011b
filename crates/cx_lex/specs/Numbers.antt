-- Numbers (ISO C99, 6.4.8), integer constants (6.4.4.1) and floating constants (6.4.4.2).
use Rattle.std.specs.Prelude.{ℕ, zero, suc, ◌+◌, ◌-◌, ◌^◌, Bool, true, false, ◌&&◌, ◌||◌, ◌==◌, nat_lt, if◌then◌else◌, List, [], ◌∷◌, length, take, drop, slice_index, find, Option, Some, None, is_some, Result, Ok, Err}
use Rattle.std.specs.List.{prefix_len}
use Rattle.std.specs.Char.{is_ascii_digit, is_ascii_hexdigit}
use Rattle.cr_base.specs.declared.rule.Rule.{Rule}
use Rattle.cr_base.specs.declared.rule.Rule.TheVariants.{X4, X5, X6}
use Rattle.cx_lex.specs.declared.token.Ty0.{Ty0}
use Rattle.cx_lex.specs.declared.token.Ty0.TheVariants.{Int, Unsigned, Long, UnsignedLong, LongLong, UnsignedLongLong}
use Rattle.cx_lex.specs.declared.token.TokenKind.{TokenKind}
use Rattle.cx_lex.specs.declared.token.TokenKind.TheVariants.{Number}
use Rattle.cx_lex.specs.Bytes.{dot, plus, minus, zero_digit, is_letter, is_word_byte, is_octal, number_of}

-- ---- numbers (6.4.8)

-- e, E, p or P
abbrev pub is_exponent_letter : ℕ → Bool
is_exponent_letter b = is_letter 69 b || is_letter 80 b

abbrev pub is_sign : ℕ → Bool
is_sign b = b == plus || b == minus

-- a number goes on with the byte behind the previous one
abbrev pub continues_number : ℕ → ℕ → Bool
continues_number previous b = (is_word_byte b || b == dot) || (is_sign b && is_exponent_letter previous)

-- a number goes on with each of the bytes
abbrev pub goes_on_number : ℕ → List ℕ → Bool
goes_on_number previous [] = true
goes_on_number previous (b ∷ rest) = continues_number previous b && goes_on_number b rest

-- a digit, or a point and a digit
abbrev pub begins_number : List ℕ → Bool
begins_number bytes = is_ascii_digit (slice_index bytes 0) || (slice_index bytes 0 == dot && is_ascii_digit (slice_index bytes 1))

-- begins with a digit, or a point and a digit, and goes on with digits, letters, `_`, points, and signs directly behind e E p P
abbrev pub is_number : List ℕ → Bool
is_number front = begins_number front && goes_on_number 0 front

-- ---- integer constants (6.4.4.1)

abbrev pub is_hexadecimal : List ℕ → Bool
is_hexadecimal text = slice_index text 0 == zero_digit && is_letter 88 (slice_index text 1)

-- 16 behind `0x`, 8 from `0` on, and else 10
abbrev pub base_of : List ℕ → ℕ
base_of text = if is_hexadecimal text then 16 else (if slice_index text 0 == zero_digit then 8 else 10)

abbrev pub is_digit_in : ℕ → ℕ → Bool
is_digit_in base b = if base == 16 then is_ascii_hexdigit b else (if base == 8 then is_octal b else is_ascii_digit b)

-- what is behind the prefix `0x`, where there is one
abbrev pub behind_prefix : List ℕ → List ℕ
behind_prefix text = if is_hexadecimal text then drop 2 text else text

-- how many digits of the base follow
abbrev pub count_of_digits : List ℕ → ℕ
count_of_digits text = prefix_len (is_digit_in (base_of text)) (behind_prefix text)

abbrev pub digits_of : List ℕ → List ℕ
digits_of text = take (count_of_digits text) (behind_prefix text)

abbrev pub suffix_text : List ℕ → List ℕ
suffix_text text = drop (count_of_digits text) (behind_prefix text)

-- what a suffix says: whether it has a `u`, and how many `l`
pub record Suffix : Type 0 where
  pub unsigned : Bool
  pub longs : ℕ

-- long-suffix: l L; long-long-suffix: ll LL
abbrev pub longs_of : List ℕ → Option ℕ
longs_of [] = Some 0
longs_of (a ∷ []) = if is_letter 76 a then Some 1 else None
longs_of (a ∷ b ∷ []) = if is_letter 76 a && a == b then Some 2 else None
longs_of (a ∷ b ∷ c ∷ rest) = None

abbrev pub with_longs : Bool → Option ℕ → Option Suffix
with_longs unsigned None = None
with_longs unsigned (Some longs) = Some (record { unsigned = unsigned; longs = longs })

-- integer-suffix, which may be empty: a `u` or `U` stands before or behind the `l`s
abbrev pub suffix_of : List ℕ → Option Suffix
suffix_of text =
    if is_letter 85 (slice_index text 0) then with_longs true (longs_of (drop 1 text))
    else (if is_letter 85 (slice_index text (length text - 1)) then with_longs true (longs_of (take (length text - 1) text))
    else with_longs false (longs_of text))

-- an integer constant: digits, and a suffix
abbrev pub is_integer : List ℕ → Bool
is_integer text = nat_lt 0 (length (digits_of text)) && is_some (suffix_of (suffix_text text))

-- the first number above the values of a type (6.2.5, 6.2.6.2; LP64)
abbrev pub above : Ty0 → ℕ
above Int = 2 ^ 31
above Unsigned = 2 ^ 32
above Long = 2 ^ 63
above UnsignedLong = 2 ^ 64
above LongLong = 2 ^ 63
above UnsignedLongLong = 2 ^ 64

-- the list of types of a constant (6.4.4.1p5), by whether it is decimal, whether it has a `u`, and how many `l`
abbrev pub types_of : Bool → Bool → ℕ → List Ty0
types_of true false zero = Int ∷ Long ∷ LongLong ∷ []
types_of true false (suc zero) = Long ∷ LongLong ∷ []
types_of true false (suc (suc n)) = LongLong ∷ []
types_of false false zero = Int ∷ Unsigned ∷ Long ∷ UnsignedLong ∷ LongLong ∷ UnsignedLongLong ∷ []
types_of false false (suc zero) = Long ∷ UnsignedLong ∷ LongLong ∷ UnsignedLongLong ∷ []
types_of false false (suc (suc n)) = LongLong ∷ UnsignedLongLong ∷ []
types_of decimal true zero = Unsigned ∷ UnsignedLong ∷ UnsignedLongLong ∷ []
types_of decimal true (suc zero) = UnsignedLong ∷ UnsignedLongLong ∷ []
types_of decimal true (suc (suc n)) = UnsignedLongLong ∷ []

-- the value of an integer constant
abbrev pub value_of : List ℕ → ℕ
value_of text = number_of (base_of text) (digits_of text)

-- the first type of the list of a constant that holds its value
abbrev pub type_for : Bool → Option Suffix → ℕ → Option Ty0
type_for decimal None value = None
type_for decimal (Some suffix) value = find (λ ty. nat_lt value (above ty)) (types_of decimal suffix.unsigned suffix.longs)

abbrev pub type_of : List ℕ → Option Ty0
type_of text = type_for (base_of text == 10) (suffix_of (suffix_text text)) (value_of text)

-- ---- floating constants (6.4.4.2)

-- floating-suffix, which may be empty: f l F L
abbrev pub is_floating_suffix : List ℕ → Bool
is_floating_suffix [] = true
is_floating_suffix (a ∷ []) = is_letter 70 a || is_letter 76 a
is_floating_suffix (a ∷ b ∷ rest) = false

-- what is behind a sign, where there is one
abbrev pub behind_sign : List ℕ → List ℕ
behind_sign bytes = if is_sign (slice_index bytes 0) then drop 1 bytes else bytes

-- behind the letter of an exponent: a sign or none, digits, and a suffix
abbrev pub is_exponent_tail : List ℕ → Bool
is_exponent_tail bytes =
    nat_lt 0 (prefix_len is_ascii_digit (behind_sign bytes))
    && is_floating_suffix (drop (prefix_len is_ascii_digit (behind_sign bytes)) (behind_sign bytes))

-- Behind the digits and the point of a constant: an exponent, whose letter is `letter` or 32 above it, and a suffix; or
-- a suffix alone, where `optional` says that the exponent may be left out.
abbrev pub is_floating_tail : ℕ → Bool → List ℕ → Bool
is_floating_tail letter optional bytes =
    if is_letter letter (slice_index bytes 0) then is_exponent_tail (drop 1 bytes) else optional && is_floating_suffix bytes

-- Digits of a class with at most one point before, between or behind them, and the tail. Without a point there is an exponent.
abbrev pub is_floating_with : (ℕ → Bool) → ℕ → Bool → List ℕ → Bool
is_floating_with is_digit letter optional bytes =
    let whole = prefix_len is_digit bytes in
    let behind = drop whole bytes in
    let fraction = prefix_len is_digit (drop 1 behind) in
    if slice_index behind 0 == dot
    then nat_lt 0 (whole + fraction) && is_floating_tail letter optional (drop fraction (drop 1 behind))
    else nat_lt 0 whole && is_floating_tail letter false behind

-- decimal-floating-constant, or hexadecimal-floating-constant, which always has an exponent
abbrev pub is_floating : List ℕ → Bool
is_floating text =
    if is_hexadecimal text then is_floating_with (is_digit_in 16) 80 false (drop 2 text)
    else is_floating_with (is_digit_in 10) 69 true text

-- ---- the token of a number

abbrev pub typed : ℕ → Option Ty0 → Result (ℕ × Ty0) Rule
typed value None = Err X6
typed value (Some ty) = Ok (value, ty)

-- The value and the type of a number that is an integer constant. X6 is broken by one that no type of its list holds, X5
-- by a floating constant, X4 by a number that is neither.
abbrev pub number_from : List ℕ → Result (ℕ × Ty0) Rule
number_from text =
    if is_integer text then typed (value_of text) (type_of text)
    else (if is_floating text then Err X5 else Err X4)

abbrev pub whole_number : Result (ℕ × Ty0) Rule → Option TokenKind
whole_number (Ok (value, ty)) = Some (Number value ty)
whole_number (Err rule) = None

-- the token of the bytes of an integer constant
abbrev pub number_token : List ℕ → Option TokenKind
number_token front = if is_number front then whole_number (number_from front) else None
