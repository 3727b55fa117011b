-- The longest front that is an identifier, or a number.
use Rattle.std.proofs.Common.{◌≡◌, ℕ, zero, suc, ◌+◌, ◌==◌, Bool, true, false, ◌&&◌, ◌||◌, cond, List, [], ◌∷◌, take, get_or, refl, sym, ap, ◌∙◌, one-add}
use Rattle.std.specs.List.{prefix_len}
use Rattle.std.specs.Char.{is_ascii_digit}
use Rattle.std.proofs.lemmas.Bool.{or_left, or_from, or_parts, and_left, and_right}
use Rattle.cx_lex.specs.Bytes.{dot, is_nondigit, is_word_byte}
use Rattle.cx_lex.specs.Fronts.{longest, or_first}
use Rattle.cx_lex.specs.Numbers.{continues_number, goes_on_number, begins_number, is_number}
use Rattle.cx_lex.specs.Mirror.{run_size}
use Rattle.cx_lex.specs.Tokens.{word_size, number_size}
use Rattle.cx_lex.proofs.FrontLemmas.{longest-none, longest-run, or_first-run, or_first-if}

-- ---- identifiers

cond_word : (nondigit digit : Bool) (n : ℕ) → cond nondigit (1 + n) 0 ≡ cond nondigit (cond (digit || nondigit) (1 + n) 0) 0
cond_word false digit n = refl
cond_word true true n = refl
cond_word true false n = refl

pub word_size-is : (b : ℕ) (rest : List ℕ) → word_size (b ∷ rest) ≡ cond (is_nondigit b) (prefix_len is_word_byte (b ∷ rest)) 0
word_size-is b rest =
    ap (or_first (is_nondigit b && true)) (longest-run is_word_byte (is_nondigit b) rest)
    ∙ or_first-if (is_nondigit b) (prefix_len is_word_byte rest)
    ∙ cond_word (is_nondigit b) (is_ascii_digit b) (prefix_len is_word_byte rest)

-- ---- numbers

-- the longest front with which a number goes on, behind a test of what stands before
longest-goes_on : (previous : ℕ) (before : Bool) (bytes : List ℕ)
    → longest (λ front behind. before && goes_on_number previous front) bytes ≡ cond before (run_size previous bytes) 0
longest-goes_on previous true [] = refl
longest-goes_on previous false [] = refl
longest-goes_on previous true (b ∷ rest) =
    ap (or_first (continues_number previous b && true)) (longest-goes_on b (continues_number previous b) rest)
    ∙ or_first-if (continues_number previous b) (run_size b rest)
longest-goes_on previous false (b ∷ rest) = ap (or_first false) (longest-goes_on previous false rest)

-- a number goes on with a digit, and with a point
pub continues-digit : (previous b : ℕ) → is_ascii_digit b ≡ true → continues_number previous b ≡ true
continues-digit previous b digit = or_left _ _ (or_left _ _ (or_left _ _ digit))

one_more : (continues : Bool) (n : ℕ) → continues ≡ true → suc n ≡ cond continues (1 + n) 0
one_more continues n is = sym (one-add n) ∙ ap (λ (c : Bool). cond c (1 + n) 0) (sym is)

-- a number that begins with a digit
digit_front : (b : ℕ) (front : List ℕ) → is_ascii_digit b ≡ true → is_number (b ∷ front) ≡ (true && goes_on_number b front)
digit_front b front digit = λ i. or_left (is_ascii_digit b) (b == dot && is_ascii_digit (get_or front 0 0)) digit i && (continues-digit 0 b digit i && goes_on_number b front)

pub number-digit : (b : ℕ) (rest : List ℕ) → is_ascii_digit b ≡ true → number_size (b ∷ rest) ≡ run_size 0 (b ∷ rest)
number-digit b rest digit =
    (λ i. or_first (digit_front b [] digit i) (longest (λ front behind. digit_front b front digit i) rest))
    ∙ ap (or_first true) (longest-goes_on b true rest) ∙ or_first-run (run_size b rest)
    ∙ one_more (continues_number 0 b) (run_size b rest) (continues-digit 0 b digit)

-- a number that begins with a point and a digit
point_front : (c : ℕ) (front : List ℕ) → is_ascii_digit c ≡ true → is_number (46 ∷ c ∷ front) ≡ (true && goes_on_number c front)
point_front c front digit = λ i. digit i && (continues-digit 46 c digit i && goes_on_number c front)

pub number-point : (c : ℕ) (rest : List ℕ) → is_ascii_digit c ≡ true → number_size (46 ∷ c ∷ rest) ≡ run_size 0 (46 ∷ c ∷ rest)
number-point c rest digit =
    ap (or_first false) (
    (λ i. or_first (point_front c [] digit i) (longest (λ front behind. point_front c front digit i) rest))
    ∙ ap (or_first true) (longest-goes_on c true rest) ∙ or_first-run (run_size c rest)
    )
    ∙ one_more true (suc (run_size c rest)) refl
    ∙ ap (λ (n : ℕ). 1 + n) (one_more (continues_number 46 c) (run_size c rest) (continues-digit 46 c digit))

-- no number
pub begins-front : (b n : ℕ) (rest : List ℕ) → begins_number (b ∷ rest) ≡ false → begins_number (b ∷ take n rest) ≡ false
begins-front b zero rest other = or_from _ _ (or_parts _ _ other).0 (and_right (b == dot) false refl)
begins-front b (suc n) [] other = other
begins-front b (suc n) (c ∷ rest) other = other

pub number-none : (b : ℕ) (rest : List ℕ) → begins_number (b ∷ rest) ≡ false → number_size (b ∷ rest) ≡ 0
number-none b rest other =
    longest-none (λ front behind. is_number front) (b ∷ rest) (λ n lt. and_left (begins_number (b ∷ take n rest)) (goes_on_number 0 (b ∷ take n rest)) (begins-front b n rest other))
