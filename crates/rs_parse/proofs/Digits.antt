-- Decimal digits, and the number that they write.
use Rattle.std.proofs.Common.{◌≡◌, ℕ, suc, ◌+◌, ◌-◌, ◌*◌, ◌/◌, ◌%◌, ◌^◌, ◌≤◌, ◌<◌, Bool, true, false, nat_lt, if◌then◌else◌, List, [], ◌∷◌, ◌++◌, take, drop, length, refl, sym, ap, ◌∙◌, arith, append-nil}
use Rattle.std.specs.Fmt.{decimal}
use Rattle.std.specs.List.{fold, list_all, prefix_len}
use Rattle.std.proofs.lemmas.Bool.{cond-true, and_parts, and_from}
use Rattle.std.proofs.lemmas.Bool.Decides.{nat_tests}
use Rattle.std.proofs.lemmas.Fmt.{decimal_by_steps_wide}
use Rattle.rs_expr.specs.Numbers.{number_of, digits_of, suffix_of, limited, integer_words, integer_of, size_of, value_of}
use Rattle.rs_expr.specs.Signs.{begins_with_digit}
use Rattle.rs_text.specs.Names.{is_digit}
use Rattle.rs_text.specs.Valid.{is_length}
use Rattle.rs_text.specs.Words.{integer_word}
use Rattle.rs_text.specs.declared.integer.IntegerTy.{IntegerTy}
use Rattle.rs_text.specs.declared.integer.IntegerTy.TheVariants.{I8, I16, I32, I64, U8, U16, U32, U64, Isize, Usize}

pub record IsWritten (n : ℕ) (digits : List ℕ) : Type 0 where
  pub all : list_all is_digit digits ≡ true
  pub number : number_of digits ≡ n
  pub first : begins_with_digit digits ≡ true

all_append : (xs ys : List ℕ) → list_all is_digit xs ≡ true → list_all is_digit ys ≡ true → list_all is_digit (xs ++ ys) ≡ true
all_append [] ys a b = b
all_append (x ∷ xs) ys a b =
    let parts = and_parts (is_digit x) (list_all is_digit xs) a in and_from (is_digit x) (list_all is_digit (xs ++ ys)) parts.0 (all_append xs ys parts.1 b)

number_append : (n : ℕ) (xs : List ℕ) (d : ℕ) →
    fold (λ number digit. number * 10 + (digit - 48)) n (xs ++ d ∷ []) ≡ fold (λ number digit. number * 10 + (digit - 48)) n xs * 10 + (d - 48)
number_append n [] d = refl
number_append n (x ∷ xs) d = number_append (n * 10 + (x - 48)) xs d

first_append : (xs ys : List ℕ) → begins_with_digit xs ≡ true → begins_with_digit (xs ++ ys) ≡ true
first_append [] ys h = cc
first_append (x ∷ xs) ys h = h

glyph : (k : ℕ) → k < 10 → is_digit (48 + k) ≡ true
glyph k h = grind (arith, nat_tests, h)

one_digit : (n : ℕ) → n < 10 → IsWritten n ((48 + n) ∷ [])
one_digit n h = record { all = and_from (is_digit (48 + n)) true (glyph n h) refl; number = omega arith; first = glyph n h }

more_digits : (n : ℕ) (digits : List ℕ) → 10 ≤ n → IsWritten (n / 10) digits → IsWritten n (digits ++ ((48 + n % 10) ∷ []))
more_digits n digits h written =
    let below : n % 10 < 10 = omega arith in
    let sum : (n / 10) * 10 + (48 + n % 10 - 48) ≡ n = omega arith in
    record {
      all = all_append digits ((48 + n % 10) ∷ []) written.all (and_from (is_digit (48 + n % 10)) true (glyph (n % 10) below) refl);
      number = number_append 0 digits (48 + n % 10) ∙ ap (λ k. k * 10 + (48 + n % 10 - 48)) written.number ∙ sum;
      first = first_append digits ((48 + n % 10) ∷ []) written.first;
    }

pub written : (n : ℕ) → n < 10 ^ 64 → IsWritten n (decimal n)
written n h = decimal_by_steps_wide IsWritten one_digit more_digits n h

-- ---- a number and what stands behind it

prefix_all : (xs ys : List ℕ) → list_all is_digit xs ≡ true → begins_with_digit ys ≡ false → prefix_len is_digit (xs ++ ys) ≡ length xs
prefix_all [] [] a b = refl
prefix_all [] (y ∷ ys) a b = ap (λ (t : Bool). if t then 1 + prefix_len is_digit ys else 0) b
prefix_all (x ∷ xs) ys a b =
    let parts = and_parts (is_digit x) (list_all is_digit xs) a in
    let e : 1 + length xs ≡ suc (length xs) = omega arith in
    ap (λ (t : Bool). if t then 1 + prefix_len is_digit (xs ++ ys) else 0) parts.0 ∙ ap (λ n. 1 + n) (prefix_all xs ys parts.1 b) ∙ e

take_all : (xs ys : List ℕ) → take (length xs) (xs ++ ys) ≡ xs
take_all [] ys = refl
take_all (x ∷ xs) ys = ap (λ l. x ∷ l) (take_all xs ys)

drop_all : (xs ys : List ℕ) → drop (length xs) (xs ++ ys) ≡ ys
drop_all [] ys = refl
drop_all (x ∷ xs) ys = drop_all xs ys

pub digits_are : (xs ys : List ℕ) → list_all is_digit xs ≡ true → begins_with_digit ys ≡ false → digits_of (xs ++ ys) ≡ xs
digits_are xs ys a b = ap (λ n. take n (xs ++ ys)) (prefix_all xs ys a b) ∙ take_all xs ys

pub suffix_is : (xs ys : List ℕ) → list_all is_digit xs ≡ true → begins_with_digit ys ≡ false → suffix_of (xs ++ ys) ≡ ys
suffix_is xs ys a b = ap (λ n. drop n (xs ++ ys)) (prefix_all xs ys a b) ∙ drop_all xs ys

pub within_limit : (bound n : ℕ) → nat_lt n bound ≡ true → limited bound n ≡ n
within_limit bound n h = cond-true (nat_lt n bound) n 0 h

wide : (bound n : ℕ) → bound ≤ 10 ^ 64 → nat_lt n bound ≡ true → n < 10 ^ 64
wide bound n le h = let l : n < bound = grind (arith, nat_tests, h) in omega (arith, l, le)

pub size_is : (n : ℕ) → is_length n ≡ true → size_of (decimal n) ≡ n
size_is n h =
    let w = written n (wide (2 ^ 64) n (omega arith) h) in
    ap (λ (l : List ℕ). limited (2 ^ 64) (number_of l)) (ap digits_of (sym (append-nil (decimal n))) ∙ digits_are (decimal n) [] w.all refl)
    ∙ ap (limited (2 ^ 64)) w.number ∙ within_limit (2 ^ 64) n h

suffix_starts : (ty : IntegerTy) → begins_with_digit (integer_word ty) ≡ false
suffix_starts I8 = refl
suffix_starts I16 = refl
suffix_starts I32 = refl
suffix_starts I64 = refl
suffix_starts U8 = refl
suffix_starts U16 = refl
suffix_starts U32 = refl
suffix_starts U64 = refl
suffix_starts Isize = refl
suffix_starts Usize = refl

integer_is : (ty : IntegerTy) → integer_of (integer_word ty) ≡ ty
unfolding integer_words
integer_is I8 = refl
integer_is I16 = refl
integer_is I32 = refl
integer_is I64 = refl
integer_is U8 = refl
integer_is U16 = refl
integer_is U32 = refl
integer_is U64 = refl
integer_is Isize = refl
integer_is Usize = refl

-- the word of a literal without its sign
pub record IsLiteralWord (n : ℕ) (ty : IntegerTy) (word : List ℕ) : Type 0 where
  pub value : value_of word ≡ n
  pub suffix : integer_of (suffix_of word) ≡ ty
  pub first : begins_with_digit word ≡ true

pub literal_word : (n : ℕ) (ty : IntegerTy) → nat_lt n (2 ^ 127) ≡ true → IsLiteralWord n ty (decimal n ++ integer_word ty)
literal_word n ty h =
    let w = written n (wide (2 ^ 127) n (omega arith) h) in
    record {
      value = ap (λ (l : List ℕ). limited (2 ^ 127) (number_of l)) (digits_are (decimal n) (integer_word ty) w.all (suffix_starts ty))
          ∙ ap (limited (2 ^ 127)) w.number ∙ within_limit (2 ^ 127) n h;
      suffix = ap integer_of (suffix_is (decimal n) (integer_word ty) w.all (suffix_starts ty)) ∙ integer_is ty;
      first = first_append (decimal n) (integer_word ty) w.first;
    }
