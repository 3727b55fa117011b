-- What is stored in the object of a string literal is its bytes, one behind another.
use Rattle.std.proofs.Common.{arith, ◌≡◌, refl, ap, ◌∙◌, ℕ, ◌+◌, ◌*◌, ◌<◌, ◌==◌, true, false, List, [], ◌∷◌, length, Some, nat_lt}
use Rattle.std.proofs.lemmas.Bool.Decides.{nat_tests}
use Rattle.cr_base.specs.declared.refusal.Place.{Place as TextPlace}
use Rattle.cx_core.specs.Trees.{CTy, ty, array, CTypes, more_puts}
use Rattle.cx_core.specs.ValidTypes.{part_at}
use Rattle.cx_core.specs.Views as view
use Rattle.cx_rules.specs.Initial.{CStored, char_type, byte_value, whole_of, text_type, text_puts, bytes_from, kept_by, kept, put_in_order, in_order, puts_from, puts_of}
use Rattle.cx_rules.specs.Texts.{byte_put, byte_puts}

module _ (types : CTypes) (at : TextPlace) (count : ℕ) where
  abbrev holder : CTy
  holder = ty (array char_type (Some count)) false

  abbrev one_stored : ℕ → ℕ → CStored
  one_stored index byte = record { path = index ∷ []; type = char_type; value = byte_value types at char_type byte }

  abbrev all_stored : ℕ → List ℕ → List CStored
  all_stored index [] = []
  all_stored index (byte ∷ bytes) = one_stored index byte ∷ all_stored (index + 1) bytes

  within : (index : ℕ) (byte : ℕ) (bytes : List ℕ) → index + length (byte ∷ bytes) ≡ count → nat_lt index count ≡ true
  within index byte bytes e = grind (arith, nat_tests)

  -- each byte has its element
  from_is : (index : ℕ) (bytes : List ℕ) → index + length bytes ≡ count →
      bytes_from types at (whole_of holder) char_type (Some count) index bytes ≡ all_stored index bytes
  from_is index [] e = refl
  from_is index (byte ∷ bytes) e =
      rw (within index byte bytes e) (ap (λ others. one_stored index byte ∷ others) (from_is (index + 1) bytes (omega arith)))

  -- no later one takes it away
  kept_one : (index byte from : ℕ) (bytes : List ℕ) → index < from → kept_by types holder (all_stored from bytes) (one_stored index byte) ≡ true
  kept_one index byte from [] e = refl
  kept_one index byte from (other ∷ bytes) e =
      let apart : (from == index) ≡ false = grind (arith, nat_tests) in rw apart (kept_one index byte (from + 1) bytes (omega arith))

  kept_all : (index : ℕ) (bytes : List ℕ) → kept types holder (all_stored index bytes) ≡ all_stored index bytes
  kept_all index [] = refl
  kept_all index (byte ∷ bytes) =
      rw (kept_one index byte (index + 1) bytes (omega arith)) (ap (λ others. one_stored index byte ∷ others) (kept_all (index + 1) bytes))

  in_front : (index byte : ℕ) (bytes : List ℕ) →
      put_in_order (one_stored index byte) (all_stored (index + 1) bytes) ≡ one_stored index byte ∷ all_stored (index + 1) bytes
  in_front index byte [] = refl
  in_front index byte (other ∷ bytes) =
      let apart : (index + 1 == index) ≡ false = grind (arith, nat_tests) in
      let later : nat_lt (index + 1) index ≡ false = grind (arith, nat_tests) in
      rw apart (rw later refl)

  ordered : (index : ℕ) (bytes : List ℕ) → in_order (all_stored index bytes) ≡ all_stored index bytes
  ordered index [] = refl
  ordered index (byte ∷ bytes) = ap (put_in_order (one_stored index byte)) (ordered (index + 1) bytes) ∙ in_front index byte bytes

  part_is : (index : ℕ) → nat_lt index count ≡ true → part_at types (index ∷ []) holder ≡ Some (record { spot = record { byte = index; bit = 0; width = 0 }; type = char_type })
  part_is index inside =
      let same : index * 1 + 0 ≡ index = omega arith in
      rw inside (ap (λ byte. Some (record { spot = record { byte = byte; bit = 0; width = 0 }; type = char_type })) same)

  puts_are : (index : ℕ) (bytes : List ℕ) → index + length bytes ≡ count → puts_from types holder (all_stored index bytes) ≡ view.puts_of (byte_puts at index bytes)
  puts_are index [] e = refl
  puts_are index (byte ∷ bytes) e =
      rw (part_is index (within index byte bytes e)) (ap (more_puts (byte_put at index byte)) (puts_are (index + 1) bytes (omega arith)))

pub text_puts_are : (types : CTypes) (at : TextPlace) (bytes : List ℕ) → text_puts types at bytes ≡ view.puts_of (byte_puts at 0 bytes)
unfolding puts_of
text_puts_are types at bytes =
    ap (λ stored. puts_from types (text_type bytes) (in_order (kept types (text_type bytes) stored))) (from_is types at (length bytes) 0 bytes (omega arith))
    ∙ ap (λ stored. puts_from types (text_type bytes) (in_order stored)) (kept_all types at (length bytes) 0 bytes)
    ∙ ap (puts_from types (text_type bytes)) (ordered types at (length bytes) 0 bytes)
    ∙ puts_are types at (length bytes) 0 bytes (omega arith)
