-- The text that the object of a string literal holds (ISO C99, 6.4.5p5): its initialiser stores a byte in each element of an array of
-- `char`, in order, and a zero in the last.
use Rattle.std.specs.Prelude.{◌≡◌, ℕ, suc, ◌==◌, ◌&&◌, Bool, true, false, if◌then◌else◌, ℤ, List, [], ◌∷◌, length, Option, Some, None, option_map}
use Rattle.std.specs.Option.{option_and_then}
use Rattle.cr_base.specs.declared.layout.Spot.{Spot}
use Rattle.cr_base.specs.Scalar.{residue}
use Rattle.cx_core.specs.declared.ty.Basic.{Basic}
use Rattle.cx_core.specs.declared.ty.Basic.TheVariants.{Char}
use Rattle.cx_core.specs.Trees.{CTy, CTyForm, basic, array, form_of_type, CExpr, expr, CForm, whole, CPut, put, CPuts, no_puts, more_puts}

abbrev is_char_basic : Basic → Bool
is_char_basic Char = true
is_char_basic _ = false

abbrev pub is_char_form : CTyForm → Bool
is_char_form (basic which) = is_char_basic which
is_char_form _ = false

-- the whole byte of an element with a number, where elements have one byte
abbrev pub is_element : ℕ → Spot → Bool
is_element index spot = spot.byte == index && (spot.bit == 0 && spot.width == 0)

-- the byte by which a value of `char` is represented (6.2.6.2)
abbrev byte_of : ℤ → ℕ
byte_of value = residue value 256

abbrev pub byte_in_form : CForm → Option ℕ
byte_in_form (whole value) = Some (byte_of value)
byte_in_form _ = None

abbrev pub byte_in : CExpr → Option ℕ
byte_in (expr type place form) = byte_in_form form

-- the byte that a put stores in the element with a number
abbrev pub stored_byte : ℕ → CPut → Option ℕ
stored_byte index (put spot type value) = if is_char_form (form_of_type type) && is_element index spot then byte_in value else None

abbrev pub followed : Option ℕ → Option (List ℕ) → Option (List ℕ)
followed None bytes = None
followed (Some byte) bytes = option_map (λ others. byte ∷ others) bytes

-- the bytes from the element with a number on
abbrev pub bytes_from : ℕ → CPuts → Option (List ℕ)
bytes_from index no_puts = Some []
bytes_from index (more_puts first others) = followed (stored_byte index first) (bytes_from (suc index) others)

-- the bytes in front of the last, which is zero
abbrev pub before_zero : List ℕ → Option (List ℕ)
before_zero [] = None
before_zero (byte ∷ []) = if byte == 0 then Some [] else None
before_zero (byte ∷ next ∷ others) = option_map (λ rest. byte ∷ rest) (before_zero (next ∷ others))

-- the text that puts store, without the zero at its end
abbrev pub text_of_puts : CPuts → Option (List ℕ)
text_of_puts puts = option_and_then before_zero (bytes_from 0 puts)

abbrev pub IsOneLonger : List ℕ → CTyForm → Type 0
IsOneLonger text (array element (Some count)) = count ≡ suc (length text)
IsOneLonger text _ = ⊥

-- puts store a text in an array that has room for it and the zero, and no more
pub record HoldText (type : CTy) (puts : CPuts) : Type 0 where
  pub text : List ℕ
  pub stored : text_of_puts puts ≡ Some text
  pub length_is : IsOneLonger text (form_of_type type)
