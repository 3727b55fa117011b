-- The functions that the profile takes from outside (ISO C99, 7.20.3, 7.20.4, 7.21), and the type of `main` (5.1.2.2.1).
use Rattle.std.specs.Prelude.{◌&&◌, ◌||◌, not, Bool, true, false, List, [], ◌∷◌, Option, Some, None, ℕ}
use Rattle.std.specs.List.{list_all}
use Rattle.cx_core.specs.declared.ty.Basic.TheVariants as basics
use Rattle.cx_core.specs.Externals.{CSignature, CKnown, known_as, params_in, const_text}
use Rattle.cx_core.specs.Trees.{CTy, CTyForm, void, basic, pointer, function, CParams, unlisted, listed, no_types, more_types, form_of_type, unqualified, CTypes}
use Rattle.cx_rules.specs.Types.{is_integer, same_type, same_form, is_character_form}

-- ---- functions from outside (7.20.3, 7.20.4, 7.21)

abbrev pub same_lists : List CTy → List CTy → Bool
same_lists [] [] = true
same_lists (first ∷ firsts) (second ∷ seconds) = same_type first second && same_lists firsts seconds
same_lists _ _ = false

abbrev pub has_signature : CSignature → CTyForm → Bool
has_signature signature (function result params variadic) =
    same_type (unqualified result) signature.result && (same_lists (params_in params) signature.params && not variadic)
has_signature signature _ = false

abbrev pub is_void_form : CTyForm → Bool
is_void_form void = true
is_void_form _ = false

abbrev pub is_opaque : CTypes → CTyForm → Bool
is_opaque types (function result params variadic) =
    (is_void_form (form_of_type result) || is_integer types result)
    && list_all (λ type. same_form (form_of_type type) const_text || is_integer types type) (params_in params)
is_opaque types _ = false

abbrev pub has_type_of : CTypes → CTyForm → Option CKnown → Bool
has_type_of types form (Some one) = has_signature one.signature form
has_type_of types form None = is_opaque types form

-- the type of an external function: that of the known function of its name, or else an opaque one
unfoldable pub is_external_type : CTypes → List ℕ → CTyForm → Bool
is_external_type types name form = has_type_of types form (known_as name)

-- an argument behind those that parameters take: an integer, as it is promoted, or a pointer to a character type
abbrev pub is_text_form : CTyForm → Bool
is_text_form (pointer to) = is_character_form (form_of_type to)
is_text_form _ = false

abbrev pub is_opaque_trailing : CTypes → CTy → Bool
is_opaque_trailing types type = is_integer types type || is_text_form (form_of_type type)

-- ---- `main` (5.1.2.2.1)

abbrev pub takes_nothing : CParams → Bool
takes_nothing unlisted = true
takes_nothing (listed no_types) = true
takes_nothing (listed (more_types first others)) = false

abbrev pub is_main_form : CTyForm → Bool
is_main_form (function result params variadic) = same_form (form_of_type result) (basic basics.Int) && takes_nothing params
is_main_form _ = false
