-- The object of a string literal holds its bytes and a zero behind them (ISO C99, 6.4.5p5).
use Rattle.std.proofs.Common.{arith, ◌≡◌, ℕ, suc, ◌+◌, ◌%◌, ◌==◌, ◌&&◌, pos, Bool, true, if◌then◌else◌, List, [], ◌∷◌, ◌++◌, map, length, Option, None, Some, option_map, refl, sym, ap, ◌∙◌, append_assoc}
use Rattle.std.proofs.lemmas.Bool.Decides.{nat_tests}
use Rattle.std.specs.Option.{option_and_then}
use Rattle.cr_base.proofs.Residues.{residue_wrapped}
use Rattle.cr_base.specs.declared.refusal.Place.{Place as TextPlace}
use Rattle.cx_core.specs.Texts.{byte_in, stored_byte, followed, bytes_from, before_zero, text_of_puts, HoldText}
use Rattle.cx_core.specs.Trees.{CTypes}
use Rattle.cx_core.specs.Views.{puts_of}
use Rattle.cx_rules.proofs.TextPuts.{text_puts_are}
use Rattle.cx_rules.specs.Initial.{joined_bytes, text_puts, text_type}
use Rattle.cx_rules.specs.Texts.{byte_expr, byte_put, byte_puts}

abbrev pub EndsWithZero : List ℕ → Type 0
EndsWithZero bytes = (front : List ℕ) × (bytes ≡ front ++ 0 ∷ [])

pub joined_ended : (parts : List (List ℕ)) → EndsWithZero (joined_bytes parts)
joined_ended [] = ([], refl)
joined_ended (part ∷ parts) =
    let inner = joined_ended parts in
    (part ++ inner.0, ap (λ rest. part ++ rest) inner.1 ∙ sym (append_assoc part inner.0 (0 ∷ [])))

-- ---- what is stored

abbrev as_byte : ℕ → ℕ
as_byte byte = byte % 256

byte_is : (at : TextPlace) (byte : ℕ) → byte_in (byte_expr at byte) ≡ Some (as_byte byte)
byte_is at byte = ap (λ n. Some n) (residue_wrapped 8 (pos byte) refl)

itself : (index : ℕ) → (index == index) ≡ true
itself index = grind (arith, nat_tests)

stored_is : (at : TextPlace) (index byte : ℕ) → stored_byte index (byte_put at index byte) ≡ Some (as_byte byte)
stored_is at index byte =
    ap (λ (same : Bool). if same && true then byte_in (byte_expr at byte) else None) (itself index) ∙ byte_is at byte

all_stored : (at : TextPlace) (index : ℕ) (bytes : List ℕ) → bytes_from index (puts_of (byte_puts at index bytes)) ≡ Some (map as_byte bytes)
all_stored at index [] = refl
all_stored at index (byte ∷ bytes) =
    let next : index + 1 ≡ suc index = omega arith in
    ap (λ first. followed first (bytes_from (suc index) (puts_of (byte_puts at (index + 1) bytes)))) (stored_is at index byte)
    ∙ ap (λ n. option_map (λ others. as_byte byte ∷ others) (bytes_from (suc index) (puts_of (byte_puts at n bytes)))) next
    ∙ ap (option_map (λ others. as_byte byte ∷ others)) (all_stored at (suc index) bytes)

before_is : (front : List ℕ) → before_zero (front ++ 0 ∷ []) ≡ Some front
before_is [] = refl
before_is (byte ∷ []) = refl
before_is (byte ∷ next ∷ others) = ap (option_map (λ rest. byte ∷ rest)) (before_is (next ∷ others))

bytes_before : (front : List ℕ) → map as_byte (front ++ 0 ∷ []) ≡ map as_byte front ++ 0 ∷ []
bytes_before [] = refl
bytes_before (byte ∷ others) = ap (λ rest. as_byte byte ∷ rest) (bytes_before others)

count_is : (front : List ℕ) → length (front ++ 0 ∷ []) ≡ suc (length (map as_byte front))
count_is [] = refl
count_is (byte ∷ others) = ap suc (count_is others)

pub text_held : (types : CTypes) (at : TextPlace) (bytes : List ℕ) → EndsWithZero bytes → HoldText (text_type bytes) (text_puts types at bytes)
text_held types at bytes ended = record {
  text = map as_byte ended.0;
  stored =
      ap text_of_puts (text_puts_are types at bytes)
      ∙ ap (option_and_then before_zero) (all_stored at 0 bytes)
      ∙ ap (λ all. before_zero (map as_byte all)) ended.1
      ∙ ap before_zero (bytes_before ended.0)
      ∙ before_is (map as_byte ended.0);
  length_is = ap length ended.1 ∙ count_is ended.0;
}
