-- The names of modules are UTF-8.
use Rattle.std.proofs.Common.{◌≡◌, ◌<◌, ℕ, Bool, true, false, true≢false, not, ◌&&◌, List, [], ◌∷◌, length, get_or, suc, zero, refl, sym, subst, arith}
use Rattle.std.proofs.lemmas.Bool.Decides.{nat_tests}
use Rattle.std.proofs.lemmas.Str.{IsUtf8-from_ascii}
use Rattle.std.proofs.lemmas.Str.Ascii.{IsAscii-nil, IsAscii-cons}
use Rattle.std.specs.List.{list_all}
use Rattle.std.specs.Str.{IsAscii, IsUtf8}
use Rattle.rs_text.specs.Names.{is_digit, is_module_name, is_plain_identifier, is_word, is_word_byte}
use Rattle.rs_text.specs.Valid.{all_differ, valid_count, valid_names}

first_of : (a b : Bool) → (a && b) ≡ true → a ≡ true
first_of true b e = refl
first_of false b e = absurd (true≢false (sym e))

second_of : (a b : Bool) → (a && b) ≡ true → b ≡ true
second_of true b e = e
second_of false b e = absurd (true≢false (sym e))

word_byte : (byte : ℕ) → is_word_byte byte ≡ true → byte < 128
word_byte byte h = grind (arith, nat_tests, h)

word_bytes : (bytes : List ℕ) → list_all is_word_byte bytes ≡ true → IsAscii bytes
word_bytes [] h = IsAscii-nil
word_bytes (byte ∷ bytes) h =
    IsAscii-cons byte bytes (word_byte byte (first_of (is_word_byte byte) (list_all is_word_byte bytes) h)) (word_bytes bytes (second_of (is_word_byte byte) (list_all is_word_byte bytes) h))

words : (name : List ℕ) → is_word name ≡ true → IsUtf8 name
words [] h = absurd (true≢false (sym h))
words (first ∷ rest) h = IsUtf8-from_ascii (first ∷ rest) (word_bytes (first ∷ rest) (second_of (not (is_digit first)) (list_all is_word_byte (first ∷ rest)) h))

module_name : (name : List ℕ) → is_module_name name ≡ true → IsUtf8 name
module_name name h =
    let plain = first_of (is_plain_identifier name) _ h in
    words name (first_of (is_word name) _ (first_of _ _ plain))

named_at : (names : List (List ℕ)) (k : ℕ) (d : List ℕ) → list_all is_module_name names ≡ true → k < length names → IsUtf8 (get_or names k d)
named_at [] k d h within = absurd (no_less k within)
  where
    no_less : (n : ℕ) → n < 0 → ⊥
    no_less n below = omega (arith, below)
named_at (name ∷ names) zero d h within = module_name name (first_of (is_module_name name) (list_all is_module_name names) h)
named_at (name ∷ names) (suc k) d h within = named_at names k d (second_of (is_module_name name) (list_all is_module_name names) h) (less k (length names) within)
  where
    less : (n m : ℕ) → suc n < suc m → n < m
    less n m below = omega (arith, below)

-- the name of a module is UTF-8
pub names_utf8 : (names : List (List ℕ)) (k : ℕ) (name d : List ℕ) → valid_names names ≡ true → k < length names → name ≡ get_or names k d → IsUtf8 name
names_utf8 names k name d h within is =
    subst IsUtf8 (sym is) (named_at names k d (second_of (valid_count (length names)) (list_all is_module_name names) (first_of _ (all_differ names) h)) within)
