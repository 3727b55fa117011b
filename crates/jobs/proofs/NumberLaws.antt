-- What the readers of numbers need: the parts of a word between its commas, and that short numerals are small.
use Rattle.std.proofs.Common.{◌≡◌, ◌∙◌, ◌<◌, ◌≤◌, ◌+◌, ◌^◌, ◌==◌, ◌&&◌, not, if◌then◌else◌, ℕ, Bool, cond, true, false, refl, sym, ap, ap₂, arith, List, [], ◌∷◌, ◌++◌, length, length-drop, ◌-◌, take, drop, Option, Some, None, append-nil, append_assoc, suc, subst, true≢false, rules, tests, nat_le, nat_lt}
use Rattle.std.proofs.lemmas.Bool.Decides.{nat_tests}
use Rattle.std.specs.List.{position_or_len, before_first, after_first, list_all}
use Rattle.std.specs.Option.{option_map}
use Rattle.std.specs.Char.{digit_value}
use Rattle.std.specs.Str.Parse.{AllDigits, IsNumeral, digits_value, without_leading_plus}
use Rattle.std.proofs.lemmas.Str.{digit_value_digit}
use Rattle.std.proofs.lemmas.Str.Parse.{digits_value_short, numerals_by_value, tells_digits}
use Rattle.jobs.specs.Numbers.{is_digit, is_number, number_of, parts_of, numbers_of, number_and, put_before, at_most}

abbrev is_comma : ℕ → Bool
is_comma byte = byte == 44

one_more : (byte : ℕ) (bytes : List ℕ) (place : ℕ) (parts : List (List ℕ)) (b : Bool) → cond (not b) (1 + place) 0 ≡ suc (length bytes)
    → (place ≡ length bytes → parts ≡ bytes ∷ []) → (if b then [] ∷ parts else put_before byte parts) ≡ (byte ∷ bytes) ∷ []
one_more byte bytes place parts true e later = absurd (omega arith)
one_more byte bytes place parts false e later = ap (put_before byte) (later (omega arith))

-- a word without a comma is one part
pub one_part : (word : List ℕ) → position_or_len is_comma word ≡ length word → parts_of word ≡ word ∷ []
one_part [] none = refl
one_part (byte ∷ bytes) none = one_more byte bytes (position_or_len is_comma bytes) (parts_of bytes) (byte == 44) none (one_part bytes)

first_more : (byte : ℕ) (bytes : List ℕ) (place : ℕ) (b : Bool) → cond (not b) (1 + place) 0 < suc (length bytes)
    → (place < length bytes → parts_of bytes ≡ take place bytes ∷ parts_of (drop (place + 1) bytes))
    → (if b then [] ∷ parts_of bytes else put_before byte (parts_of bytes))
    ≡ take (cond (not b) (1 + place) 0) (byte ∷ bytes) ∷ parts_of (drop (cond (not b) (1 + place) 0 + 1) (byte ∷ bytes))
first_more byte bytes place true some later = refl
first_more byte bytes place false some later =
    let one : 1 + place ≡ suc place = omega arith in
    let two : 1 + place + 1 ≡ suc (place + 1) = omega arith in
    ap (put_before byte) (later (omega arith))
    ∙ sym (ap₂ (λ (k j : ℕ). take k (byte ∷ bytes) ∷ parts_of (drop j (byte ∷ bytes))) one two)

-- the first part of another stands before its first comma
pub first_part : (word : List ℕ) → position_or_len is_comma word < length word
    → parts_of word ≡ before_first is_comma word ∷ parts_of (after_first is_comma word)
first_part [] some = absurd (omega arith)
first_part (byte ∷ bytes) some = first_more byte bytes (position_or_len is_comma bytes) (byte == 44) some (first_part bytes)

and_true : (a b : Bool) → (a && b) ≡ true → (a ≡ true) × (b ≡ true)
and_true true b e = (refl, e)
and_true false b e = absurd (true≢false (sym e))

-- the bounds of a digit's byte
digit_range : (byte : ℕ) → is_digit byte ≡ true → (48 ≤ byte) × (byte ≤ 57)
digit_range byte is =
    let both = and_true (nat_le 48 byte) (nat_le byte 57) is in
    let least : 48 ≤ byte = search (rules, tests, both.0) in
    let greatest : byte ≤ 57 = search (rules, tests, both.1) in
    (least, greatest)

digit : (byte : ℕ) → is_digit byte ≡ true → digit_value byte < 10
digit byte is =
    let range = digit_range byte is in
    let same = digit_value_digit byte (range.0, range.1) in
    omega (arith, same, range.1)

-- the digits of a word are those of a numeral
pub all_digits : (bytes : List ℕ) → list_all is_digit bytes ≡ true → AllDigits 10 bytes
all_digits [] all = tt
all_digits (byte ∷ bytes) all =
    let both = and_true (is_digit byte) (list_all is_digit bytes) all in
    (digit byte both.0, all_digits bytes both.1)

-- a word that begins with a digit has no plus in front
no_plus : (byte : ℕ) (bytes : List ℕ) → is_digit byte ≡ true → without_leading_plus (byte ∷ bytes) ≡ byte ∷ bytes
no_plus byte bytes is =
    let range = digit_range byte is in
    let differs : (byte == 43) ≡ false = grind (arith, nat_tests) in
    ap (λ b. drop (cond b 1 0) (byte ∷ bytes)) differs

-- a numeral of at most nineteen digits has a value of 64 bits
small : (word : List ℕ) → length word ≤ 19 → list_all is_digit word ≡ true → digits_value 10 word < 2 ^ 64
small word short all =
    let below = digits_value_short (numerals_by_value (AllDigits 10) tells_digits) word 19 (all_digits word all) short in
    omega (arith, below)

read_more : (byte : ℕ) (bytes : List ℕ) → length (byte ∷ bytes) ≤ 19 → list_all is_digit (byte ∷ bytes) ≡ true
    → (without_leading_plus (byte ∷ bytes) ≡ byte ∷ bytes) × (IsNumeral 10 (byte ∷ bytes) × (digits_value 10 (byte ∷ bytes) < 2 ^ 64))
read_more byte bytes short all =
    let both = and_true (is_digit byte) (list_all is_digit bytes) all in
    let some : 0 < length (byte ∷ bytes) = omega arith in
    (no_plus byte bytes both.0, ((some, all_digits (byte ∷ bytes) all), small (byte ∷ bytes) short all))

-- `parse` reads what is such a word
pub record Reads (word : List ℕ) : Type 0 where
  pub same : without_leading_plus word ≡ word
  pub numeral : IsNumeral 10 (without_leading_plus word) × (digits_value 10 (without_leading_plus word) < 2 ^ 64)

pub reads : (most : ℕ) (word : List ℕ) → most ≤ 19 → is_number most word ≡ true → Reads word
reads most [] bound is = absurd (true≢false (sym is))
reads most (byte ∷ bytes) bound is =
    let outer = and_true (nat_lt 0 (length (byte ∷ bytes)) && nat_le (length (byte ∷ bytes)) most) (list_all is_digit (byte ∷ bytes)) is in
    let inner = and_true (nat_lt 0 (length (byte ∷ bytes))) (nat_le (length (byte ∷ bytes)) most) outer.0 in
    let short : length (byte ∷ bytes) ≤ most = search (rules, tests, inner.1) in
    let more = read_more byte bytes (omega (arith, short, bound)) outer.1 in
    record {
      same = more.0;
      numeral = subst (λ (digits : List ℕ). IsNumeral 10 digits × (digits_value 10 digits < 2 ^ 64)) (sym more.0) more.1;
    }

-- one of at most nine digits has a value of 32 bits
smaller : (word : List ℕ) → length word ≤ 9 → list_all is_digit word ≡ true → digits_value 10 word < 2 ^ 32
smaller word short all =
    let below = digits_value_short (numerals_by_value (AllDigits 10) tells_digits) word 9 (all_digits word all) short in
    omega (arith, below)

-- `parse` reads such a word into 32 bits
pub record ReadsShort (word : List ℕ) : Type 0 where
  pub numeral : IsNumeral 10 (without_leading_plus word) × (digits_value 10 (without_leading_plus word) < 2 ^ 32)

pub reads_short : (most : ℕ) (word : List ℕ) → most ≤ 9 → is_number most word ≡ true → ReadsShort word
reads_short most word bound is =
    let read = reads most word (omega (arith, bound)) is in
    let outer = and_true (nat_lt 0 (length word) && nat_le (length word) most) (list_all is_digit word) is in
    let inner = and_true (nat_lt 0 (length word)) (nat_le (length word) most) outer.0 in
    let short : length word ≤ most = search (rules, tests, inner.1) in
    record {
      numeral = (read.numeral.0, subst (λ (digits : List ℕ). digits_value 10 digits < 2 ^ 32) (sym read.same) (smaller word (omega (arith, short, bound)) outer.1));
    }

-- ---- numbers with a comma between two

-- numbers that were read, and those of the rest
abbrev pub joined : List ℕ → Option (List ℕ) → Option (List ℕ)
joined numbers rest = option_map (λ more. numbers ++ more) rest

pub joined_more : (numbers : List ℕ) (number : ℕ) (rest : Option (List ℕ))
    → joined numbers (number_and (Some number) rest) ≡ joined (numbers ++ number ∷ []) rest
joined_more numbers number None = refl
joined_more numbers number (Some more) = ap Some (sym (append_assoc numbers (number ∷ []) more))

pub joined_stops : (numbers : List ℕ) (rest : Option (List ℕ)) → joined numbers (number_and None rest) ≡ None
joined_stops numbers rest = refl

-- at a comma: the numbers that are left begin with that of the first part
pub at_comma : (digits : ℕ) (numbers : List ℕ) (word left first rest : List ℕ)
    → numbers_of digits (parts_of word) ≡ joined numbers (numbers_of digits (parts_of left))
    → (position_or_len is_comma left < length left) × (first ≡ before_first is_comma left) × (rest ≡ after_first is_comma left)
    → numbers_of digits (parts_of word) ≡ joined numbers (number_and (number_of digits first) (numbers_of digits (parts_of rest)))
at_comma digits numbers word left first rest same split =
    same ∙ ap (λ parts. joined numbers (numbers_of digits parts)) (first_part left split.0)
    ∙ ap (λ part. joined numbers (number_and (number_of digits part) (numbers_of digits (parts_of (after_first is_comma left))))) (sym split.1)
    ∙ ap (λ more. joined numbers (number_and (number_of digits first) (numbers_of digits (parts_of more)))) (sym split.2)

-- where no comma is left: one part is left
pub at_last : (digits : ℕ) (numbers : List ℕ) (word left : List ℕ)
    → numbers_of digits (parts_of word) ≡ joined numbers (numbers_of digits (parts_of left))
    → position_or_len is_comma left ≡ length left
    → numbers_of digits (parts_of word) ≡ joined numbers (number_and (number_of digits left) (Some []))
at_last digits numbers word left same none =
    same ∙ ap (λ parts. joined numbers (numbers_of digits parts)) (one_part left none)

-- a part that is a number
pub takes_number : (digits : ℕ) (numbers : List ℕ) (number : ℕ) (part : List ℕ) (all rest : Option (List ℕ))
    → all ≡ joined numbers (number_and (number_of digits part) rest) → Some number ≡ number_of digits part → all ≡ joined (numbers ++ number ∷ []) rest
takes_number digits numbers number part all rest same is =
    same ∙ ap (λ found. joined numbers (number_and found rest)) (sym is) ∙ joined_more numbers number rest

-- a part that is none
pub takes_none : (digits : ℕ) (numbers : List ℕ) (part : List ℕ) (all rest : Option (List ℕ))
    → all ≡ joined numbers (number_and (number_of digits part) rest) → None ≡ number_of digits part → all ≡ None
takes_none digits numbers part all rest same is =
    same ∙ ap (λ found. joined numbers (number_and found rest)) (sym is)

-- what stands behind a comma is shorter
pub shorter : (left rest : List ℕ) → position_or_len is_comma left < length left → rest ≡ after_first is_comma left → length rest < length left
shorter left rest some is =
    let long : length (after_first is_comma left) ≡ length left - (position_or_len is_comma left + 1) = length-drop (position_or_len is_comma left + 1) left in
    let same = ap length is in
    omega (arith, long, same, some)

-- nothing is left
pub nothing_more : (all : Option (List ℕ)) (numbers : List ℕ) (number : ℕ) → all ≡ joined (numbers ++ number ∷ []) (Some []) → all ≡ Some (numbers ++ number ∷ [])
nothing_more all numbers number same = same ∙ ap Some (append-nil (numbers ++ number ∷ []))

pub too_many : (most : ℕ) (all : Option (List ℕ)) (numbers : List ℕ) → all ≡ Some numbers → most < length numbers → None ≡ at_most most all
too_many most all numbers same many =
    let above : nat_le (length numbers) most ≡ false = grind (arith, nat_tests) in
    sym (ap (at_most most) same ∙ ap (λ (b : Bool). if b then Some numbers else None) above)

pub few_enough : (most : ℕ) (all : Option (List ℕ)) (numbers : List ℕ) → all ≡ Some numbers → length numbers ≤ most → Some numbers ≡ at_most most all
few_enough most all numbers same few =
    let within : nat_le (length numbers) most ≡ true = grind (arith, nat_tests) in
    sym (ap (at_most most) same ∙ ap (λ (b : Bool). if b then Some numbers else None) within)
