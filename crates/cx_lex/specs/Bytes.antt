-- Bytes of a C unit and their classes (ISO C99, 5.2.1).
use Rattle.std.specs.Prelude.{ℕ, ◌-◌, ◌*◌, ◌+◌, Bool, ◌||◌, ◌&&◌, ◌==◌, nat_le, if◌then◌else◌, List, fold}
use Rattle.std.specs.Char.{is_ascii_digit, is_ascii_alphabetic}

abbrev pub tab : ℕ
tab = 9

abbrev pub newline : ℕ
newline = 10

abbrev pub blank : ℕ
blank = 32

abbrev pub double_quote : ℕ
double_quote = 34

abbrev pub hash : ℕ
hash = 35

abbrev pub percent : ℕ
percent = 37

abbrev pub apostrophe : ℕ
apostrophe = 39

abbrev pub star : ℕ
star = 42

abbrev pub plus : ℕ
plus = 43

abbrev pub minus : ℕ
minus = 45

abbrev pub dot : ℕ
dot = 46

abbrev pub slash : ℕ
slash = 47

abbrev pub zero_digit : ℕ
zero_digit = 48

abbrev pub colon : ℕ
colon = 58

abbrev pub backslash : ℕ
backslash = 92

abbrev pub underscore : ℕ
underscore = 95

-- a byte of an upper or of a lower letter; `upper` is the letter's upper byte, and its lower one is 32 above
abbrev pub is_letter : ℕ → ℕ → Bool
is_letter upper b = b == upper || b == upper + 32

-- white space of one byte (6.4p3): tab, newline, vertical tab, form feed, carriage return and blank
abbrev pub is_white : ℕ → Bool
is_white b = b == blank || (nat_le 9 b && nat_le b 13)

-- what may stand before and between the parts of a linemarker
abbrev pub is_margin : ℕ → Bool
is_margin b = b == blank || b == tab

-- nondigit (6.4.2.1)
abbrev pub is_nondigit : ℕ → Bool
is_nondigit b = is_ascii_alphabetic b || b == underscore

-- a byte that an identifier goes on with (6.4.2.1)
abbrev pub is_word_byte : ℕ → Bool
is_word_byte b = is_ascii_digit b || is_nondigit b

-- octal-digit (6.4.4.1)
abbrev pub is_octal : ℕ → Bool
is_octal b = nat_le 48 b && nat_le b 55

-- the value of a hexadecimal digit (6.4.4.1)
abbrev pub digit_value : ℕ → ℕ
digit_value b = if nat_le 97 b then b - 87 else (if nat_le 65 b then b - 55 else b - 48)

-- the number that digits write in a base (6.4.4.1)
abbrev pub number_of : ℕ → List ℕ → ℕ
number_of base digits = fold (λ number digit. number * base + digit_value digit) 0 digits
