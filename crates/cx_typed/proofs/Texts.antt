-- What a string literal stores, and its object (ISO C99, 6.4.5, 6.7.8p14).
use Rattle.std.proofs.Common.{◌≡◌, ℕ, ◌+◌, ◌%◌, ◌<◌, nat_lt, pos, ◌-ℤ◌, Bool, true, false, if◌then◌else◌, List, [], ◌∷◌, ◌++◌, length, Option, None, Some, refl, sym, ap, ◌∙◌, subst, arith}
use Rattle.std.proofs.lemmas.Bool.Decides.{nat_tests}
use Rattle.std.proofs.lemmas.Int.{ints}
use Rattle.cr_base.specs.declared.refusal.Place.{Place as TextPlace}
use Rattle.cr_base.specs.declared.scalar.Scalar.TheVariants.{Whole}
use Rattle.cr_base.specs.Scalar.{IsInRange, wrapped}
use Rattle.cx_core.specs.declared.ty.Basic.TheVariants.{Truth, Char, SignedChar, UnsignedChar, Short, UnsignedShort, Int, Unsigned, Long, UnsignedLong, LongLong, UnsignedLongLong}
use Rattle.cx_core.specs.Linked.{IsTypedObject, home_of}
use Rattle.cx_core.specs.Trees.{CTy, ty, void, basic, enum_type, pointer, array, record_type, function, form_of_type, CTypes}
use Rattle.cx_core.specs.Typing.{CHome}
use Rattle.cx_core.specs.Layouts.{elements, bytes as laid_bytes}
use Rattle.cx_core.specs.ValidTypes.{IsTypeIn, IsResultForm}
use Rattle.cx_rules.specs.Initial.{CAt, whole_of, CStored, type_by, part_type, char_type, byte_value, bytes_from, text_type, has_element}
use Rattle.cx_rules.specs.Nodes.{literal_node}
use Rattle.cx_rules.specs.Pieces.{at_line, made_text, with_text}
use Rattle.cx_rules.specs.Scope.{CScope}
use Rattle.cx_rules.specs.Types.{is_character_form, exceeds}
use Rattle.cx_typed.proofs.Names.{text_fits}
use Rattle.cx_typed.proofs.Promoted.{neither}
use Rattle.cx_typed.proofs.Puts.{whole_bits, in_place, are_puts, constant_puts}
use Rattle.cx_typed.proofs.NamedPaths.{named_behind}
use Rattle.cx_typed.proofs.Numbered.{only_last}
use Rattle.cx_typed.proofs.Sorted.{each_more}
use Rattle.cx_typed.proofs.TextHeld.{EndsWithZero, text_held}
use Rattle.cx_typed.specs.Initialised.{is_named_by, IsStored, IsTypedStored, EachStored}
use Rattle.cx_typed.specs.Sound.{AreSound}
use Rattle.cx_typed.specs.Scopes.{object_made, AreTypedLiterals, IsWellMade}
use Rattle.cx_typed.specs.Unbroken.{IsUnbroken}

-- ---- paths

pub type_behind : (types : CTypes) (found : Option CTy) (front behind : List ℕ) → type_by types found (front ++ behind) ≡ type_by types (type_by types found front) behind
type_behind types None [] behind = refl
type_behind types None (index ∷ front) behind = none_behind behind
  where
    none_behind : (path : List ℕ) → None ≡ type_by types None path
    none_behind [] = refl
    none_behind (index ∷ path) = refl
type_behind types (Some type) [] behind = refl
type_behind types (Some type) (index ∷ front) behind = type_behind types (part_type types type index) front behind

-- ---- bytes

signed_range : (rest : ℕ) (test : Bool) → nat_lt rest 128 ≡ test → rest < 256 → IsInRange (Whole 8 true) (if test then pos rest else pos rest -ℤ pos 256)
signed_range rest true e less = (grind (arith, ints, nat_tests, e), grind (arith, ints, nat_tests, e))
signed_range rest false e less = (grind (arith, ints, nat_tests, e, less), grind (arith, ints, nat_tests, e, less))

rest_less : (byte : ℕ) → byte % 256 < 256
rest_less byte = omega arith

signed_byte : (byte : ℕ) → IsInRange (Whole 8 true) (wrapped (Whole 8 true) (pos byte))
signed_byte byte = signed_range (byte % 256) (nat_lt (byte % 256) 128) refl (rest_less byte)

unsigned_range : (rest : ℕ) → rest < 256 → IsInRange (Whole 8 false) (pos rest)
unsigned_range rest less = (grind (arith, ints, less), grind (arith, ints, less))

unsigned_byte : (byte : ℕ) → IsInRange (Whole 8 false) (wrapped (Whole 8 false) (pos byte))
unsigned_byte byte = unsigned_range (byte % 256) (rest_less byte)

-- a byte is a constant of each character type
module _ (types : CTypes) (at : TextPlace) (home : CHome) (path : List ℕ) (is_static : Bool) where
  byte_typed : (element : CTy) (byte : ℕ) → is_character_form (form_of_type element) ≡ true → IsTypedStored home is_static (record { path = path; type = element; value = byte_value types at element byte })
  byte_typed (ty (basic Char) is_const) byte is = record {
    typed = (tt, record { plain = refl; integer = refl; in_range = signed_byte byte });
    type_is = refl;
    constant = λ static. tt;
    outside = λ static. (tt, record { plain = refl; integer = refl; in_range = signed_byte byte });
  }
  byte_typed (ty (basic SignedChar) is_const) byte is = record {
    typed = (tt, record { plain = refl; integer = refl; in_range = signed_byte byte });
    type_is = refl;
    constant = λ static. tt;
    outside = λ static. (tt, record { plain = refl; integer = refl; in_range = signed_byte byte });
  }
  byte_typed (ty (basic UnsignedChar) is_const) byte is = record {
    typed = (tt, record { plain = refl; integer = refl; in_range = unsigned_byte byte });
    type_is = refl;
    constant = λ static. tt;
    outside = λ static. (tt, record { plain = refl; integer = refl; in_range = unsigned_byte byte });
  }
  byte_typed (ty (basic Truth) is_const) byte is = absurd cc
  byte_typed (ty (basic Short) is_const) byte is = absurd cc
  byte_typed (ty (basic UnsignedShort) is_const) byte is = absurd cc
  byte_typed (ty (basic Int) is_const) byte is = absurd cc
  byte_typed (ty (basic Unsigned) is_const) byte is = absurd cc
  byte_typed (ty (basic Long) is_const) byte is = absurd cc
  byte_typed (ty (basic UnsignedLong) is_const) byte is = absurd cc
  byte_typed (ty (basic LongLong) is_const) byte is = absurd cc
  byte_typed (ty (basic UnsignedLongLong) is_const) byte is = absurd cc
  byte_typed (ty void is_const) byte is = absurd cc
  byte_typed (ty (enum_type number) is_const) byte is = absurd cc
  byte_typed (ty (pointer to) is_const) byte is = absurd cc
  byte_typed (ty (array element length) is_const) byte is = absurd cc
  byte_typed (ty (record_type number) is_const) byte is = absurd cc
  byte_typed (ty (function result params variadic) is_const) byte is = absurd cc

-- ---- all bytes of an array

character_result : (element : CTy) → is_character_form (form_of_type element) ≡ true → IsResultForm (form_of_type element)
character_result (ty (basic which) is_const) is = tt
character_result (ty void is_const) is = tt
character_result (ty (enum_type number) is_const) is = tt
character_result (ty (pointer to) is_const) is = tt
character_result (ty (record_type number) is_const) is = tt
character_result (ty (array element length) is_const) is = absurd cc
character_result (ty (function result params variadic) is_const) is = absurd cc

module _ (types : CTypes) (at : TextPlace) (where_is : CAt) (element : CTy) (length_is : Option ℕ) (is_character : is_character_form (form_of_type element) ≡ true) where
  abbrev byte_at : ℕ → ℕ → CStored
  byte_at index byte = record { path = where_is.path ++ index ∷ []; type = element; value = byte_value types at element byte }

  if_stored : (P : CStored → Type 0) (test : Bool) (one : CStored) (others : List CStored) → (test ≡ true → P one) → EachStored P others → EachStored P (if test then one ∷ others else [])
  if_stored P true one others held more = (held refl, more)
  if_stored P false one others held more = tt

  module _ (whole : CTy) (is_const : Bool) (part : type_by types (Some whole) where_is.path ≡ Some (ty (array element length_is) is_const)) (named : is_named_by types (Some whole) where_is.path ≡ true) where
    element_is : (index : ℕ) → has_element types element length_is index ≡ true → type_by types (Some whole) (where_is.path ++ index ∷ []) ≡ Some element
    element_is index is =
        type_behind types (Some whole) where_is.path (index ∷ []) ∙ ap (λ found. type_by types found (index ∷ [])) part ∙ by_test (has_element types element length_is index) is
      where
        by_test : (test : Bool) → test ≡ true → type_by types (if test then Some element else None) [] ≡ Some element
        by_test true e = refl
        by_test false e = absurd cc

    -- an element needs no name
    element_named : (index : ℕ) → is_named_by types (Some whole) (where_is.path ++ index ∷ []) ≡ true
    element_named index = named_behind types (Some whole) where_is.path (index ∷ []) named (ap (λ found. is_named_by types found (index ∷ [])) part)

    pub bytes_parts : (bytes : List ℕ) (index : ℕ) → EachStored (IsStored types whole) (bytes_from types at where_is element length_is index bytes)
    bytes_parts [] index = tt
    bytes_parts (byte ∷ bytes) index =
        if_stored (IsStored types whole) (has_element types element length_is index) (byte_at index byte) (bytes_from types at where_is element length_is (index + 1) bytes)
        (λ is. record { part = element_is index is; named = element_named index; no_array = character_result element is_character }) (bytes_parts bytes (index + 1))

  pub bytes_typed : (home : CHome) (is_static : Bool) (bytes : List ℕ) (index : ℕ) → EachStored (IsTypedStored home is_static) (bytes_from types at where_is element length_is index bytes)
  bytes_typed home is_static [] index = tt
  bytes_typed home is_static (byte ∷ bytes) index =
      if_stored (IsTypedStored home is_static) (has_element types element length_is index) (byte_at index byte) (bytes_from types at where_is element length_is (index + 1) bytes)
      (λ is. byte_typed types at home (where_is.path ++ index ∷ []) is_static element byte is_character) (bytes_typed home is_static bytes (index + 1))

-- ---- string literals

text_complete : (count : ℕ) → 0 < count → exceeds (elements count (Some (laid_bytes 1))) ≡ false → (types : CTypes) (unit : ℕ) → IsTypeIn types unit (ty (array char_type (Some count)) false)
text_complete count some fits types unit = (tt, record { plain = refl; complete = refl; length = (some, text_fits count some fits) })

pub text_made : (opens : List ℕ) (scope : CScope) (line : ℕ) (bytes : List ℕ) → AreSound opens scope.types scope.unit → 0 < length bytes → EndsWithZero bytes
    → IsUnbroken scope scope.types (literal_node (text_type bytes)) → AreTypedLiterals opens scope (with_text line bytes scope)
text_made opens scope line bytes sound some ended unbroken = record {
  well = λ number one from is. subst (IsWellMade scope.types) (sym (only_last scope.literals (made_text scope line bytes) number one from is)) (record { complete = λ none. absurd cc; no_text = λ none. absurd cc });
  typed = λ home serves number one from is.
      subst (λ made. IsTypedObject home.program home.mentions (object_made home.unit made)) (sym (only_last scope.literals (made_text scope line bytes) number one from is)) (record {
        type_in = text_complete (length bytes) some fits home.program.types home.unit;
        object = tt;
        named = λ linked. absurd cc;
        text = λ is_text. record { unnamed = refl; no_linkage = refl; static = refl; array = refl; holds = text_held scope.types (at_line scope line) bytes ended };
        static = record {
          complete = text_fits (length bytes) some fits;
          typed = (
            are_puts scope.types (text_type bytes) stored opens (home_of home.program home.mentions home.unit) serves.grows parts
                (each_more (IsTypedStored home true) _ stored (λ one held. (held.outside refl, held.type_is)) (values home)),
            in_place scope.types (text_type bytes) stored (whole_bits opens scope.types scope.unit sound) parts,
          );
          constant = constant_puts scope.types (text_type bytes) stored home.program (each_more (IsTypedStored home true) _ stored (λ one held. held.constant refl) (values home));
        };
      });
}
  where
    fits : exceeds (elements (length bytes) (Some (laid_bytes 1))) ≡ false
    fits = (neither unbroken.m3).0

    stored : List CStored
    stored = bytes_from scope.types (at_line scope line) (whole_of (text_type bytes)) char_type (Some (length bytes)) 0 bytes

    parts : EachStored (IsStored scope.types (text_type bytes)) stored
    parts = bytes_parts scope.types (at_line scope line) (whole_of (text_type bytes)) char_type (Some (length bytes)) refl (text_type bytes) false refl refl bytes 0

    values : (home : CHome) → EachStored (IsTypedStored home true) stored
    values home = bytes_typed scope.types (at_line scope line) (whole_of (text_type bytes)) char_type (Some (length bytes)) refl home true bytes 0
