-- The constants of tokens fit their types (ISO C99, 6.4.4.1p5, 6.4.4.4p10).
use Rattle.std.proofs.Common.{◌≡◌, ℕ, ◌+◌, ◌<◌, ◌==◌, nat_lt, pos, ◌-ℤ◌, Bool, true, false, if◌then◌else◌, List, [], ◌∷◌, take, drop, slice_index, Option, None, Some, option_map, Ok, Err, All, refl, subst, arith}
use Rattle.std.proofs.lemmas.Bool.Decides.{nat_tests}
use Rattle.std.proofs.lemmas.Int.{ints}
use Rattle.std.proofs.lemmas.List.Elements.{All-nil, All-cons, All-head, All-take, All-drop}
use Rattle.std.specs.Prelude.{find}
use Rattle.cr_base.specs.Scalar.{IsInRange}
use Rattle.cr_base.specs.declared.rule.Rule.TheVariants.{X2, X3, X4, X5, X7}
use Rattle.cx_lex.proofs.SpellLemmas.{spell_longest}
use Rattle.cx_lex.specs.declared.token.Keyword.{Keyword}
use Rattle.cx_lex.specs.declared.token.Punct.{Punct}
use Rattle.cx_lex.specs.declared.token.Token.{Token}
use Rattle.cx_lex.specs.declared.token.TokenKind.{TokenKind}
use Rattle.cx_lex.specs.declared.token.TokenKind.TheVariants.{Number, Letter, Text, Mark}
use Rattle.cx_lex.specs.declared.token.Ty0.{Ty0}
use Rattle.cx_lex.specs.Bytes.{apostrophe, backslash, double_quote, newline}
use Rattle.cx_lex.specs.Escapes.{Valued, escape_at}
use Rattle.cx_lex.specs.Literals.{Item, closes, breaks, member, is_universal, escape_item, item_at, letter_item, letter_from, letter_of, signed_of, whole_letter, Read, text_from, text_of, whole_text}
use Rattle.cx_lex.specs.Marks.{marks, mark_of}
use Rattle.cx_lex.specs.Numbers.{Suffix, above, is_floating, is_integer, is_number, number_from, number_token, type_for, type_of, typed, types_of, value_of, whole_number}
use Rattle.cx_lex.specs.Tokens.{SpellsFrom, at_end, behind_space, behind_token, or_else, token_of}
use Rattle.cx_lex.specs.Words.{entry_of, is_identifier, key_or_word, keywords, word_of}
use Rattle.cx_typed.specs.Constants.{int_scalar, IsFitKind, IsByte, SpelledConstantsFit}

fits_some : (one kind : TokenKind) → IsFitKind one → Some one ≡ Some kind → IsFitKind kind
fits_some one kind held is =
    let e : one ≡ kind = cc in
    subst IsFitKind e held

-- ---- numbers

found_by : {X : Type 0} (p : X → Bool) (first x : X) (behind : Option X) → (behind ≡ Some x → p x ≡ true) → (test : Bool) → p first ≡ test
    → (if test then Some first else behind) ≡ Some x → p x ≡ true
found_by p first x behind later true e is =
    let same : first ≡ x = cc in
    subst (λ y. p y ≡ true) same e
found_by p first x behind later false e is = later is

found_passes : {X : Type 0} (p : X → Bool) (xs : List X) (x : X) → find p xs ≡ Some x → p x ≡ true
found_passes p [] x is = absurd cc
found_passes p (first ∷ others) x is = found_by p first x (find p others) (found_passes p others x) (p first) refl is

type_fits : (decimal : Bool) (suffix : Option Suffix) (value : ℕ) (type : Ty0) → type_for decimal suffix value ≡ Some type → value < above type
type_fits decimal None value type is = absurd cc
type_fits decimal (Some suffix) value type is =
    let below : nat_lt value (above type) ≡ true = found_passes (λ one. nat_lt value (above one)) (types_of decimal suffix.unsigned suffix.longs) type is in
    grind (arith, nat_tests, below)

typed_fits : (value : ℕ) (found : Option Ty0) → ((type : Ty0) → found ≡ Some type → value < above type) → (kind : TokenKind) → whole_number (typed value found) ≡ Some kind → IsFitKind kind
typed_fits value None fits kind is = absurd cc
typed_fits value (Some type) fits kind is = fits_some (Number value type) kind (fits type refl) is

whole_fits : (front : List ℕ) (kind : TokenKind) (test floating : Bool)
    → whole_number (if test then typed (value_of front) (type_of front) else (if floating then Err X5 else Err X4)) ≡ Some kind → IsFitKind kind
whole_fits front kind true floating is = typed_fits (value_of front) (type_of front) (type_fits _ _ (value_of front)) kind is
whole_fits front kind false true is = absurd cc
whole_fits front kind false false is = absurd cc

number_by : (front : List ℕ) (kind : TokenKind) (test : Bool) → (if test then whole_number (number_from front) else None) ≡ Some kind → IsFitKind kind
number_by front kind true is = whole_fits front kind (is_integer front) (is_floating front) is
number_by front kind false is = absurd cc

-- ---- character constants

escape_fits : (found : Option Valued) (size value : ℕ) → escape_item found ≡ member size value → value < 256
escape_fits None size value is = absurd cc
escape_fits (Some escape) size value is = above_by (nat_lt 255 escape.value) refl is
  where
    above_by : (test : Bool) → nat_lt 255 escape.value ≡ test → (if test then breaks X3 else member (1 + escape.size) escape.value) ≡ member size value → value < 256
    above_by true e same = absurd cc
    above_by false e same =
        let h : escape.value ≡ value = cc in
        subst (λ n. n < 256) h (grind (arith, nat_tests, e))

member_by : (ends lines escapes universal : Bool) (found : Option Valued) (b size value : ℕ) → b < 256
    → (if ends then closes else (if lines then breaks X2 else (if escapes then (if universal then breaks X7 else escape_item found) else member 1 b))) ≡ member size value → value < 256
member_by true lines escapes universal found b size value byte is = absurd cc
member_by false true escapes universal found b size value byte is = absurd cc
member_by false false true true found b size value byte is = absurd cc
member_by false false true false found b size value byte is = escape_fits found size value is
member_by false false false universal found b size value byte is =
    let h : b ≡ value = cc in
    subst (λ n. n < 256) h byte

item_fits : (bytes : List ℕ) (size value : ℕ) → All IsByte bytes → item_at apostrophe bytes ≡ member size value → value < 256
item_fits [] size value all is = absurd cc
item_fits (b ∷ rest) size value all is =
    member_by (b == apostrophe) (b == newline) (b == backslash) (is_universal (slice_index rest 0)) (escape_at rest) b size value (All-head IsByte b rest all) is

-- a byte as a signed `char` is of type `int`
signed_by : (value : ℕ) (low : Bool) → nat_lt value 128 ≡ low → value < 256 → IsInRange int_scalar (if low then pos value else pos value -ℤ pos 256)
signed_by value true e byte = (grind (arith, ints, nat_tests), grind (arith, ints, nat_tests))
signed_by value false e byte = (grind (arith, ints, nat_tests), grind (arith, ints, nat_tests))

letter_whole : (value : ℕ) (behind : List ℕ) (kind : TokenKind) → value < 256 → whole_letter (Ok (value, behind)) ≡ Some kind → IsFitKind kind
letter_whole value [] kind byte is = fits_some (Letter (signed_of value)) kind (signed_by value (nat_lt value 128) refl byte) is
letter_whole value (b ∷ rest) kind byte is = absurd cc

item_whole : (bytes : List ℕ) (item : Item) (kind : TokenKind) → ((size value : ℕ) → item ≡ member size value → value < 256) → whole_letter (letter_item item bytes) ≡ Some kind → IsFitKind kind
item_whole bytes closes kind byte is = absurd cc
item_whole bytes (breaks rule) kind byte is = absurd cc
item_whole bytes (member size value) kind byte is = closed_by (slice_index bytes size == apostrophe) is
  where
    closed_by : (closed : Bool) → whole_letter (if closed then Ok (value, drop (size + 1) bytes) else Err X2) ≡ Some kind → IsFitKind kind
    closed_by true same = letter_whole value (drop (size + 1) bytes) kind (byte size value refl) same
    closed_by false same = absurd cc

letter_by : (front : List ℕ) (kind : TokenKind) (test : Bool) → All IsByte front → (if test then whole_letter (letter_from (drop 1 front)) else None) ≡ Some kind → IsFitKind kind
letter_by front kind true all is = item_whole (drop 1 front) (item_at apostrophe (drop 1 front)) kind (λ size value. item_fits (drop 1 front) size value (All-drop IsByte 1 front all)) is
letter_by front kind false all is = absurd cc

-- ---- what holds no number

word_fits : (front : List ℕ) (kind : TokenKind) (test : Bool) (found : Option Keyword) → (if test then Some (key_or_word front found) else None) ≡ Some kind → IsFitKind kind
word_fits front kind true None is = fits_some (key_or_word front None) kind tt is
word_fits front kind true (Some one) is = fits_some (key_or_word front (Some one)) kind tt is
word_fits front kind false found is = absurd cc

text_fits : (kind : TokenKind) (test : Bool) (read : Read) → (if test then whole_text read else None) ≡ Some kind → IsFitKind kind
text_fits kind true (Ok (values, [])) is = fits_some (Text values) kind tt is
text_fits kind true (Ok (values, b ∷ rest)) is = absurd cc
text_fits kind true (Err rule) is = absurd cc
text_fits kind false read is = absurd cc

mark_fits : (kind : TokenKind) (found : Option Punct) → option_map Mark found ≡ Some kind → IsFitKind kind
mark_fits kind None is = absurd cc
mark_fits kind (Some one) is = fits_some (Mark one) kind tt is

-- ---- tokens

either_is : (kind : TokenKind) (one other : Option TokenKind) → (one ≡ Some kind → IsFitKind kind) → (other ≡ Some kind → IsFitKind kind) → or_else one other ≡ Some kind → IsFitKind kind
either_is kind None other first second is = second is
either_is kind (Some one) other first second is = first is

token_fits : (front : List ℕ) (kind : TokenKind) → All IsByte front → token_of front ≡ Some kind → IsFitKind kind
token_fits front kind all is =
    either_is kind (word_of front) _ (word_fits front kind (is_identifier front) (entry_of keywords front))
    (either_is kind (number_token front) _ (number_by front kind (is_number front))
    (either_is kind (letter_of front) _ (letter_by front kind (slice_index front 0 == apostrophe) all)
    (either_is kind (text_of front) (mark_of front) (text_fits kind (slice_index front 0 == double_quote) (text_from 0 (drop 1 front))) (mark_fits kind (entry_of marks front))))) is

spelled_fit : (before bytes : List ℕ) (tokens : List Token) → All IsByte bytes → SpellsFrom before bytes tokens → All (λ one. IsFitKind one.kind) tokens
spelled_fit before bytes tokens all at_end = All-nil _
spelled_fit before bytes tokens all (behind_space size is behind) = spelled_fit _ (drop size bytes) tokens (All-drop IsByte size bytes all) behind
spelled_fit before bytes (first ∷ others) all (behind_token size kind is behind) =
    All-cons (λ one. IsFitKind one.kind) first others (token_fits (take size bytes) kind (All-take IsByte size bytes all) (spell_longest _ bytes size kind is).here)
    (spelled_fit _ (drop size bytes) others (All-drop IsByte size bytes all) behind)

pub spelled_constants : SpelledConstantsFit
spelled_constants bytes tokens all spelled = spelled_fit [] bytes tokens all spelled
