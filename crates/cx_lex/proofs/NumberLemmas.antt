-- The value of digits grows with each digit, and no type holds a value from 2^64 on.
use Rattle.std.proofs.Common.{◌≡◌, ℕ, ◌+◌, ◌*◌, ◌≤◌, ◌<◌, ◌^◌, ◌==◌, Bool, true, false, cond, nat_lt, Option, Some, None, is_some, Result, Err, List, [], ◌∷◌, length, fold, find, get_or, refl, sym, ap, ◌∙◌, arith}
use Rattle.std.proofs.Math.Nat.{mul-le-mul_left}
use Rattle.std.proofs.lemmas.Bool.{cond-true, cond-false, and_left, and_right, and_from, lt-ltb, le-ltb}
use Rattle.cr_base.specs.declared.rule.Rule.{Rule}
use Rattle.cr_base.specs.declared.rule.Rule.TheVariants.{X4, X5, X6}
use Rattle.cx_lex.specs.declared.token.Ty0.{Ty0}
use Rattle.cx_lex.specs.declared.token.Ty0.TheVariants.{Int, Unsigned, Long, UnsignedLong, LongLong, UnsignedLongLong}
use Rattle.cx_lex.specs.Bytes.{digit_value}
use Rattle.cx_lex.specs.Numbers.{digits_of, suffix_text, Suffix, suffix_of, base_of, value_of, types_of, type_of, type_for, above, typed, is_integer, is_floating, number_from}
use Rattle.cx_lex.specs.Mirror.{other_rule}

abbrev next : ℕ → ℕ → ℕ → ℕ
next base number digit = number * base + digit_value digit

-- digits that follow make a number no smaller
number_grows : (base n : ℕ) (digits : List ℕ) → 1 ≤ base → n ≤ fold (λ number digit. number * base + digit_value digit) n digits
number_grows base n [] h = omega arith
number_grows base n (d ∷ ds) h = omega (arith, mul-le-mul_left n h, number_grows base (n * base + digit_value d) ds h)

-- a number that is over a limit with its next digit is over it with all of them
pub number_over : (base n limit : ℕ) (digits : List ℕ) → 1 ≤ base → 1 ≤ length digits → limit ≤ n * base + digit_value (get_or digits 0 0)
    → limit ≤ fold (λ number digit. number * base + digit_value digit) n digits
number_over base n limit [] h some over = absurd (omega arith)
number_over base n limit (d ∷ ds) h some over = omega (arith, number_grows base (n * base + digit_value d) ds h)

-- ---- the value and the type of a number

err_if : (b : Bool) → ◌≡◌ {A = Result (ℕ × Ty0) Rule} (cond b (Err X5) (Err X4)) (Err (cond b X5 X4))
err_if true = refl
err_if false = refl

-- a number that is no integer constant
other_number : (text : List ℕ) → is_integer text ≡ false → number_from text ≡ Err (other_rule text)
other_number text other = cond-false (is_integer text) (typed (value_of text) (type_of text)) (cond (is_floating text) (Err X5) (Err X4)) other ∙ err_if (is_floating text)

-- without digits, or without a suffix of the grammar, a number is no integer constant
pub number_from-no_digits : (text : List ℕ) → length (digits_of text) ≡ 0 → number_from text ≡ Err (other_rule text)
number_from-no_digits text none =
    other_number text (and_left (nat_lt 0 (length (digits_of text))) (is_some (suffix_of (suffix_text text))) (le-ltb 0 (length (digits_of text)) (omega (arith, none))))

pub number_from-no_suffix : (text : List ℕ) → suffix_of (suffix_text text) ≡ None → number_from text ≡ Err (other_rule text)
number_from-no_suffix text none =
    other_number text (and_right (nat_lt 0 (length (digits_of text))) (is_some (suffix_of (suffix_text text))) (ap is_some none))

-- the first type of a list that holds a value
abbrev holder : List ℕ → Suffix → Option Ty0
holder text suffix = find (λ ty. nat_lt (value_of text) (above ty)) (types_of (base_of text == 10) suffix.unsigned suffix.longs)

-- with both it is what the list of types says
pub number_from-integer : (text : List ℕ) (suffix : Suffix) → 0 < length (digits_of text) → suffix_of (suffix_text text) ≡ Some suffix
    → number_from text ≡ typed (value_of text) (holder text suffix)
number_from-integer text suffix some is =
    cond-true (is_integer text) (typed (value_of text) (type_of text)) (cond (is_floating text) (Err X5) (Err X4))
    (and_from (nat_lt 0 (length (digits_of text))) (is_some (suffix_of (suffix_text text))) (lt-ltb 0 (length (digits_of text)) some) (ap is_some is))
    ∙ ap (λ o. typed (value_of text) (type_for (base_of text == 10) o (value_of text))) is

-- no type holds a value from 2^64 on
holds_not : (value : ℕ) (ty : Ty0) → 2 ^ 64 ≤ value → nat_lt value (above ty) ≡ false
holds_not value Int large = le-ltb value (2 ^ 31) (omega arith)
holds_not value Unsigned large = le-ltb value (2 ^ 32) (omega arith)
holds_not value Long large = le-ltb value (2 ^ 63) (omega arith)
holds_not value UnsignedLong large = le-ltb value (2 ^ 64) (omega arith)
holds_not value LongLong large = le-ltb value (2 ^ 63) (omega arith)
holds_not value UnsignedLongLong large = le-ltb value (2 ^ 64) (omega arith)

none_holds : (value : ℕ) (tys : List Ty0) → 2 ^ 64 ≤ value → find (λ ty. nat_lt value (above ty)) tys ≡ None
none_holds value [] large = refl
none_holds value (ty ∷ tys) large = cond-false (nat_lt value (above ty)) (Some ty) (find (λ ty. nat_lt value (above ty)) tys) (holds_not value ty large) ∙ none_holds value tys large

pub number_from-large : (text : List ℕ) (suffix : Suffix) → 0 < length (digits_of text) → suffix_of (suffix_text text) ≡ Some suffix
    → 2 ^ 64 ≤ value_of text → number_from text ≡ Err X6
number_from-large text suffix some is large =
    number_from-integer text suffix some is ∙ ap (typed (value_of text)) (none_holds (value_of text) (types_of (base_of text == 10) suffix.unsigned suffix.longs) large)

-- the same, with what the code has computed
pub number_from-found : (text : List ℕ) (suffix : Suffix) → 0 < length (digits_of text) → suffix_of (suffix_text text) ≡ Some suffix
    → (value base : ℕ) (tys : List Ty0) → value ≡ value_of text → base ≡ base_of text → tys ≡ types_of (base == 10) suffix.unsigned suffix.longs
    → typed value (find (λ ty. nat_lt value (above ty)) tys) ≡ number_from text
number_from-found text suffix some is value base tys e_value e_base e_tys =
    let e = e_tys ∙ ap (λ b. types_of (b == 10) suffix.unsigned suffix.longs) e_base in
    (λ i. typed (e_value i) (find (λ ty. nat_lt (e_value i) (above ty)) (e i))) ∙ sym (number_from-integer text suffix some is)
