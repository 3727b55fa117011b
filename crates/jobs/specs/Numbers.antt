-- Numbers that stand in words.
use Rattle.std.specs.Prelude.{ℕ, Bool, ◌&&◌, nat_le, nat_lt, ◌==◌, List, [], ◌∷◌, length, Option, Some, None, if◌then◌else◌}
use Rattle.std.specs.List.{list_all}
use Rattle.std.specs.Str.Parse.{digits_value}

-- the byte of an ASCII digit
abbrev pub is_digit : ℕ → Bool
is_digit byte = nat_le 48 byte && nat_le byte 57

-- a word of at least one ASCII digit and at most so many, and of nothing else
abbrev pub is_number : (most : ℕ) → List ℕ → Bool
is_number most word = nat_lt 0 (length word) && nat_le (length word) most && list_all is_digit word

-- the number that such a word writes in decimal
abbrev pub number_of : (most : ℕ) → List ℕ → Option ℕ
number_of most word = if is_number most word then Some (digits_value 10 word) else None

-- a number, where it lies between two bounds, both of them taken
abbrev pub within : (least greatest : ℕ) → Option ℕ → Option ℕ
within least greatest None = None
within least greatest (Some number) =
    if nat_le least number && nat_le number greatest then Some number else None

-- ---- numbers with a comma between two

abbrev pub put_before : ℕ → List (List ℕ) → List (List ℕ)
put_before byte [] = (byte ∷ []) ∷ []
put_before byte (first ∷ others) = (byte ∷ first) ∷ others

abbrev part_more : ℕ → List (List ℕ) → List (List ℕ)
part_more byte parts = if byte == 44 then [] ∷ parts else put_before byte parts

-- what stands between the commas of a word; a word without a comma is one part
abbrev pub parts_of : List ℕ → List (List ℕ)
parts_of [] = [] ∷ []
parts_of (byte ∷ bytes) = part_more byte (parts_of bytes)

abbrev pub number_and : Option ℕ → Option (List ℕ) → Option (List ℕ)
number_and None others = None
number_and (Some number) None = None
number_and (Some number) (Some others) = Some (number ∷ others)

-- the numbers of words, where each is one of at most so many digits
abbrev pub numbers_of : (most : ℕ) → List (List ℕ) → Option (List ℕ)
numbers_of most [] = Some []
numbers_of most (word ∷ words) = number_and (number_of most word) (numbers_of most words)

-- numbers, where there are at most so many
abbrev pub at_most : (most : ℕ) → Option (List ℕ) → Option (List ℕ)
at_most most None = None
at_most most (Some numbers) = if nat_le (length numbers) most then Some numbers else None
