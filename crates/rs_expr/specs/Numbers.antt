-- Literals of integers: the digits, and the type as a suffix.
use Rattle.std.specs.Prelude.{ℕ, zero, suc, ◌+◌, ◌-◌, ◌*◌, ◌^◌, ℤ, pos, negsuc, nat_lt, codes, List, [], ◌∷◌, take, drop, if◌then◌else◌}
use Rattle.std.specs.List.{fold, prefix_len}
use Rattle.rs_expr.specs.Reading.{Reader, read_of}
use Rattle.rs_expr.specs.Signs.{entry_of, sign_at, text_at}
use Rattle.rs_expr.specs.declared.sign.Sign.{Sign}
use Rattle.rs_expr.specs.declared.sign.Sign.TheVariants.{Minus}
use Rattle.rs_text.specs.Names.{is_digit}
use Rattle.rs_text.specs.declared.integer.IntegerTy.{IntegerTy}
use Rattle.rs_text.specs.declared.integer.IntegerTy.TheVariants.{I8, I16, I32, I64, U8, U16, U32, U64, Isize, Usize}

-- the number that digits write
abbrev pub number_of : List ℕ → ℕ
number_of digits = fold (λ number digit. number * 10 + (digit - 48)) 0 digits

abbrev pub digits_of : List ℕ → List ℕ
digits_of word = take (prefix_len is_digit word) word

abbrev pub suffix_of : List ℕ → List ℕ
suffix_of word = drop (prefix_len is_digit word) word

-- a number below a bound, or 0
abbrev pub limited : ℕ → ℕ → ℕ
limited bound number = if nat_lt number bound then number else 0

unfoldable pub integer_words : List (List ℕ × IntegerTy)
integer_words =
    (codes "i8", I8) ∷ (codes "i16", I16) ∷ (codes "i32", I32) ∷ (codes "i64", I64) ∷ (codes "u8", U8) ∷ (codes "u16", U16)
    ∷ (codes "u32", U32) ∷ (codes "u64", U64) ∷ (codes "isize", Isize) ∷ (codes "usize", Usize) ∷ []

-- the integer type of a word
abbrev pub integer_of : List ℕ → IntegerTy
integer_of word = entry_of integer_words word I32

-- a number of 64 bits, which a word writes
abbrev pub size_of : List ℕ → ℕ
size_of word = limited (2 ^ 64) (number_of (digits_of word))

-- the number of a literal without its sign
abbrev pub value_of : List ℕ → ℕ
value_of word = limited (2 ^ 127) (number_of (digits_of word))

abbrev pub negated : ℕ → ℤ
negated zero = pos zero
negated (suc n) = negsuc n

abbrev pub literal_by : Sign → Reader (ℤ × IntegerTy)
literal_by Minus tokens =
    read_of (negated (value_of (text_at (drop 1 tokens))), integer_of (suffix_of (text_at (drop 1 tokens)))) (drop 2 tokens)
literal_by _ tokens = read_of (pos (value_of (text_at tokens)), integer_of (suffix_of (text_at tokens))) (drop 1 tokens)

-- a literal, with the sign before it
unfoldable pub literal : Reader (ℤ × IntegerTy)
literal tokens = literal_by (sign_at tokens) tokens
