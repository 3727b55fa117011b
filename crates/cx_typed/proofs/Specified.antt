-- The type that specifiers give is known (ISO C99, 6.7.2, 6.7.3).
use Rattle.std.proofs.Common.{◌≡◌, ℕ, ◌<◌, ◌+◌, ◌==◌, Bool, true, false, ◌&&◌, not, if◌then◌else◌, List, [], ◌∷◌, length, Option, None, Some, option_map, is_some, refl, ap, ◌∙◌}
use Rattle.std.specs.Prelude.{IfSome}
use Rattle.std.specs.Option.{option_and_then}
use Rattle.cx_core.specs.declared.ty.Basic.{Basic}
use Rattle.cx_core.specs.declared.ty.Basic.TheVariants as basics
use Rattle.cx_core.specs.Layouts.{CLayouts, array_extent, layouts_of, whole_extent, within_most}
use Rattle.cx_core.specs.Trees.{CTy, ty, CTyForm, void, basic, enum_type, pointer, array, record_type, function, CTypes}
use Rattle.cx_core.specs.ValidTypes.{IsComplete}
use Rattle.cx_lex.specs.declared.token.Keyword.{Keyword}
use Rattle.cx_lex.specs.declared.token.Keyword.TheVariants as keyword
use Rattle.cx_rules.specs.Shapes.{count_of, at_most_once, one_sign, one_size, is_unsigned, sign_count, integer_count, by_sign, char_form, alone_form, alone_count, integer_form, sized_form, form_of_words, unqualified_of, or_int, specs_type}
use Rattle.cx_rules.specs.Types.{qualified}
use Rattle.cx_typed.specs.Operands.{IsKnownType}
use Rattle.cx_typed.specs.Specified.{SpecifiedTypesAreKnown}
use Rattle.cx_typed.specs.Specifiers.{AreKnownTypes}

-- ---- words

abbrev IsWordForm : CTyForm → Type 0
IsWordForm void = Unit {0}
IsWordForm (basic which) = Unit {0}
IsWordForm _ = ⊥

abbrev IsWord : Option CTyForm → Type 0
IsWord None = Unit {0}
IsWord (Some form) = IsWordForm form

either_form : (test : Bool) (one other : CTyForm) → IsWordForm one → IsWordForm other → IsWordForm (if test then one else other)
either_form true one other held fails = held
either_form false one other held fails = fails

either_word : (test : Bool) (one other : Option CTyForm) → IsWord one → IsWord other → IsWord (if test then one else other)
either_word true one other held fails = held
either_word false one other held fails = fails

by_sign_is : (words : List Keyword) (signed unsigned : Basic) → IsWordForm (by_sign words signed unsigned)
by_sign_is words signed unsigned = either_form (is_unsigned words) (basic unsigned) (basic signed) tt tt

char_is : (words : List Keyword) → IsWordForm (char_form words)
char_is words =
    either_form (count_of keyword.Signed words == 1) (basic basics.SignedChar) (if is_unsigned words then basic basics.UnsignedChar else basic basics.Char) tt
    (either_form (is_unsigned words) (basic basics.UnsignedChar) (basic basics.Char) tt tt)

alone_by : (is_char fine long is_void : Bool) (form : CTyForm) → IsWordForm form
    → IsWord (if is_char then (if fine then Some form else None) else (if long then None else (if is_void then Some void else Some (basic basics.Truth))))
alone_by true true long is_void form held = held
alone_by true false long is_void form held = tt
alone_by false fine true is_void form held = tt
alone_by false fine false true form held = tt
alone_by false fine false false form held = tt

alone_is : (words : List Keyword) → IsWord (alone_form words)
alone_is words =
    alone_by (count_of keyword.Char words == 1) (one_sign words && (length words == 1 + sign_count words)) (not (length words == 1)) (count_of keyword.Void words == 1) (char_form words) (char_is words)

integer_by : (short long longer : Bool) (one two three four : CTyForm) → IsWordForm one → IsWordForm two → IsWordForm three → IsWordForm four
    → IsWordForm (if short then one else (if long then two else (if longer then three else four)))
integer_by true long longer one two three four a b c d = a
integer_by false true longer one two three four a b c d = b
integer_by false false true one two three four a b c d = c
integer_by false false false one two three four a b c d = d

integer_is_word : (words : List Keyword) → IsWordForm (integer_form words)
integer_is_word words =
    integer_by (count_of keyword.Short words == 1) (count_of keyword.Long words == 1) (count_of keyword.Long words == 2)
    (by_sign words basics.Short basics.UnsignedShort) (by_sign words basics.Long basics.UnsignedLong) (by_sign words basics.LongLong basics.UnsignedLongLong) (by_sign words basics.Int basics.Unsigned)
    (by_sign_is words basics.Short basics.UnsignedShort) (by_sign_is words basics.Long basics.UnsignedLong) (by_sign_is words basics.LongLong basics.UnsignedLongLong) (by_sign_is words basics.Int basics.Unsigned)

sized_is : (words : List Keyword) → IsWord (sized_form words)
sized_is words =
    either_word (one_sign words && (one_size words && (at_most_once keyword.Int words && (length words == integer_count words)))) (Some (integer_form words)) None (integer_is_word words) tt

words_are : (words : List Keyword) → IsWord (form_of_words words)
words_are [] = tt
words_are (word ∷ words) = either_word (alone_count (word ∷ words) == 0) (sized_form (word ∷ words)) (alone_form (word ∷ words)) (sized_is (word ∷ words)) (alone_is (word ∷ words))

-- ---- `const` (6.7.3p8)

-- it changes no size
qualified_extent : (layouts : CLayouts) (type : CTy) → whole_extent layouts (qualified true type) ≡ whole_extent layouts type
qualified_extent layouts (ty (array element length) is_const) = ap (array_extent length) (qualified_extent layouts element)
qualified_extent layouts (ty void is_const) = refl
qualified_extent layouts (ty (basic which) is_const) = refl
qualified_extent layouts (ty (enum_type number) is_const) = refl
qualified_extent layouts (ty (pointer to) is_const) = refl
qualified_extent layouts (ty (record_type number) is_const) = refl
qualified_extent layouts (ty (function result params variadic) is_const) = refl

module _ (opens : List ℕ) (types : CTypes) (unit : ℕ) where
  element_complete : (element : CTy) → IsComplete types element → IsComplete types (qualified true element)
  element_complete element held = ap (λ found. is_some (option_and_then within_most found)) (qualified_extent (layouts_of types) element) ∙ held

  length_complete : (element : CTy) (length : Option ℕ) → IfSome length (λ count. (0 < count) × IsComplete types (ty (array element length) false))
      → IfSome length (λ count. (0 < count) × IsComplete types (ty (array (qualified true element) length) false))
  length_complete element None held = tt
  length_complete element (Some count) held =
      (held.0, ap (λ found. is_some (option_and_then within_most (array_extent (Some count) found))) (qualified_extent (layouts_of types) element) ∙ held.1)

  const_known : (type : CTy) → IsKnownType opens types unit type → IsKnownType opens types unit (qualified true type)
  const_known (ty (array element length) is_const) known =
      let inner = const_known element (record { type_in = known.type_in.0; settled = known.settled }) in
      record {
        type_in = (
          inner.type_in,
          record {
            plain = known.type_in.1.plain;
            complete = element_complete element known.type_in.1.complete;
            length = length_complete element length known.type_in.1.length;
          },
        );
        settled = inner.settled;
      }
  const_known (ty void is_const) known = record { type_in = tt; settled = tt }
  const_known (ty (basic which) is_const) known = record { type_in = tt; settled = tt }
  const_known (ty (enum_type number) is_const) known = record { type_in = known.type_in; settled = known.settled }
  const_known (ty (pointer to) is_const) known = record { type_in = known.type_in; settled = known.settled }
  const_known (ty (record_type number) is_const) known = record { type_in = known.type_in; settled = known.settled }
  const_known (ty (function result params variadic) is_const) known = known

  qualified_known : (is_const : Bool) (type : CTy) → IsKnownType opens types unit type → IsKnownType opens types unit (qualified is_const type)
  qualified_known true type known = const_known type known
  qualified_known false type known = known

  -- ---- all specifiers

  word_known : (form : CTyForm) → IsWordForm form → IsKnownType opens types unit (ty form false)
  word_known void is = record { type_in = tt; settled = tt }
  word_known (basic which) is = record { type_in = tt; settled = tt }
  word_known form is = absurd is

  words_known : (is_const : Bool) (found : Option CTyForm) → IsWord found → IsKnownType opens types unit (or_int (option_map (qualified is_const) (option_map (λ form. ty form false) found)))
  words_known is_const None is = record { type_in = tt; settled = tt }
  words_known is_const (Some form) is = qualified_known is_const (ty form false) (word_known form is)

  specified_by : (is_const : Bool) (named : List CTy) (words : List Keyword) → AreKnownTypes opens types unit named
      → IsKnownType opens types unit (or_int (option_map (qualified is_const) (unqualified_of named words)))
  specified_by is_const [] words held = words_known is_const (form_of_words words) (words_are words)
  specified_by is_const (type ∷ []) [] held = qualified_known is_const type held.0
  specified_by is_const (type ∷ []) (word ∷ words) held = record { type_in = tt; settled = tt }
  specified_by is_const (type ∷ other ∷ others) words held = record { type_in = tt; settled = tt }

pub specified : SpecifiedTypesAreKnown
unfolding specs_type
specified opens types unit specs held = specified_by opens types unit specs.is_const specs.types specs.words held
