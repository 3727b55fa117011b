-- A function from outside that the tests let pass is one of the profile, and so is a call of it (ISO C99, 6.5.2.2, 7.20.3, 7.20.4, 7.21).
use Rattle.std.proofs.Common.{◌≡◌, ℕ, Bool, true, false, not, ◌||◌, List, [], ◌∷◌, map, All, Option, None, Some, is_some, refl, ap, ◌∙◌, ◌⊎◌, inl, inr}
use Rattle.std.specs.List.{list_all, list_any}
use Rattle.std.proofs.lemmas.Bool.{or_cases}
use Rattle.std.proofs.lemmas.List.Elements.{All-nil, All-cons}
use Rattle.cx_core.specs.declared.ty.Basic.{Basic}
use Rattle.cx_core.specs.declared.ty.Basic.TheVariants.{Char, SignedChar, UnsignedChar}
use Rattle.cx_core.specs.Conversions.{basic_of, IsPromoted}
use Rattle.cx_core.specs.Externals.{CSignature, CKnown, HasSignature, IsOpaque, IsOpaqueParam, IsOpaqueResult, IsOpaqueTrailing, IsCharacterForm, IsExternalType, known_as, params_in, const_text}
use Rattle.cx_core.specs.Trees.{CTy, ty, CTyForm, void, basic, enum_type, pointer, array, record_type, function, unlisted, listed, CTys, no_types, more_types, form_of_type, unqualified, expr, CExprs, no_exprs, more_exprs, type_of, CTypes}
use Rattle.cx_core.specs.Typing.{IsTrailing, AreArguments, IsCallOf, trailing_types, trailing_of}
use Rattle.cx_core.specs.ValidTypes.{IsObjectForm}
use Rattle.cx_externals.specs.Functions.{same_lists, has_signature, is_void_form, is_opaque, has_type_of, is_external_type, is_text_form, is_opaque_trailing}
use Rattle.cx_renumber.specs.Numbers.{CNumbers, type_there, types_there, form_there, exprs_there}
use Rattle.cx_rules.specs.Types.{is_integer, same_form, is_character_form}
use Rattle.cx_typed.proofs.Same.{type_is}
use Rattle.cx_typed_links.proofs.Compatible.{both}

-- ---- types

denied_true : (b : Bool) → not b ≡ true → b ≡ false
denied_true true is = absurd cc
denied_true false is = refl

lists_are : (ones others : List CTy) → same_lists ones others ≡ true → ones ≡ others
lists_are [] [] is = refl
lists_are [] (other ∷ others) is = absurd cc
lists_are (one ∷ ones) [] is = absurd cc
lists_are (one ∷ ones) (other ∷ others) is =
    ap (λ first. first ∷ ones) (type_is one other (both is).0) ∙ ap (λ later. other ∷ later) (lists_are ones others (both is).1)

signed : (signature : CSignature) (form : CTyForm) → has_signature signature form ≡ true → HasSignature signature form
signed signature (function result params variadic) is =
    (type_is (unqualified result) signature.result (both is).0, lists_are (params_in params) signature.params (both (both is).1).0, denied_true variadic (both (both is).1).1)
signed signature void is = absurd cc
signed signature (basic which) is = absurd cc
signed signature (enum_type number) is = absurd cc
signed signature (pointer to) is = absurd cc
signed signature (array element length) is = absurd cc
signed signature (record_type number) is = absurd cc

void_is : (form : CTyForm) → is_void_form form ≡ true → form ≡ void
void_is void is = refl
void_is (basic which) is = absurd cc
void_is (enum_type number) is = absurd cc
void_is (pointer to) is = absurd cc
void_is (array element length) is = absurd cc
void_is (record_type number) is = absurd cc
void_is (function result params variadic) is = absurd cc

form_is : (one other : CTyForm) → same_form one other ≡ true → one ≡ other
form_is one other is = ap form_of_type (type_is (ty one false) (ty other false) is)

module _ (types : CTypes) where
  result_is : (result : CTy) → (is_void_form (form_of_type result) || is_integer types result) ≡ true → IsOpaqueResult types result
  result_is result is = by (or_cases (is_void_form (form_of_type result)) (is_integer types result) is) where
    by : (is_void_form (form_of_type result) ≡ true) ⊎ (is_integer types result ≡ true) → IsOpaqueResult types result
    by (inl nothing) = inl (void_is (form_of_type result) nothing)
    by (inr integer) = inr integer

  param_is : (param : CTy) → (same_form (form_of_type param) const_text || is_integer types param) ≡ true → IsOpaqueParam types param
  param_is param is = by (or_cases (same_form (form_of_type param) const_text) (is_integer types param) is) where
    by : (same_form (form_of_type param) const_text ≡ true) ⊎ (is_integer types param ≡ true) → IsOpaqueParam types param
    by (inl text) = inl (form_is (form_of_type param) const_text text)
    by (inr integer) = inr integer

  params_are : (params : List CTy) → list_all (λ type. same_form (form_of_type type) const_text || is_integer types type) params ≡ true → All (IsOpaqueParam types) params
  params_are [] is = All-nil (IsOpaqueParam types)
  params_are (first ∷ others) is = All-cons (IsOpaqueParam types) first others (param_is first (both is).0) (params_are others (both is).1)

  opaque_is : (form : CTyForm) → is_opaque types form ≡ true → IsOpaque types form
  opaque_is (function result params variadic) is = (result_is result (both is).0, params_are (params_in params) (both is).1)
  opaque_is void is = absurd cc
  opaque_is (basic which) is = absurd cc
  opaque_is (enum_type number) is = absurd cc
  opaque_is (pointer to) is = absurd cc
  opaque_is (array element length) is = absurd cc
  opaque_is (record_type number) is = absurd cc

  abbrev IsTypeAs : CTyForm → Option CKnown → Type 0
  IsTypeAs form (Some one) = HasSignature one.signature form
  IsTypeAs form None = IsOpaque types form

  typed_as : (form : CTyForm) (found : Option CKnown) → has_type_of types form found ≡ true → IsTypeAs form found
  typed_as form (Some one) is = signed one.signature form is
  typed_as form None is = opaque_is form is

  pub external_type : (name : List ℕ) (form : CTyForm) → is_external_type types name form ≡ true → IsExternalType types name form
  unfolding is_external_type
  external_type name form is = typed_as form (known_as name) is

  -- ---- arguments behind those that parameters take

  character_is : (form : CTyForm) → is_character_form form ≡ true → IsCharacterForm form
  character_is (basic Char) is = tt
  character_is (basic SignedChar) is = tt
  character_is (basic UnsignedChar) is = tt
  character_is form is = absurd cc

  abbrev IsTextAs : CTyForm → Type 0
  IsTextAs (pointer to) = IsCharacterForm (form_of_type to)
  IsTextAs _ = ⊥

  text_is : (form : CTyForm) → is_text_form form ≡ true → IsTextAs form
  text_is (pointer to) is = character_is (form_of_type to) is
  text_is void is = absurd cc
  text_is (basic which) is = absurd cc
  text_is (enum_type number) is = absurd cc
  text_is (array element length) is = absurd cc
  text_is (record_type number) is = absurd cc
  text_is (function result params variadic) is = absurd cc

  abbrev IsTrailingTo : CTy → Option Basic → Type 0
  IsTrailingTo type (Some which) = IsPromoted type
  IsTrailingTo type None = IsObjectForm (form_of_type type)

  promoted_by : (type : CTy) (found : Option Basic) → is_some found ≡ true → IsTrailingTo type found → IsPromoted type
  promoted_by type None is held = absurd cc
  promoted_by type (Some which) is held = held

  trailing_is : (type : CTy) → IsTrailing types type → is_opaque_trailing types type ≡ true → IsOpaqueTrailing type
  trailing_is type held is = by (or_cases (is_integer types type) (is_text_form (form_of_type type)) is) where
    by : (is_integer types type ≡ true) ⊎ (is_text_form (form_of_type type) ≡ true) → IsOpaqueTrailing type
    by (inl integer) = inl (promoted_by type (basic_of types (form_of_type type)) integer held)
    by (inr text) = inr (text_is (form_of_type type) text)

  neither : (first later : Bool) → (not first || later) ≡ false → (first ≡ true) × (later ≡ false)
  neither true later is = (refl, is)
  neither false later is = absurd cc

  arguments_trail : (params : CTys) (variadic : Bool) (args : CExprs) → AreArguments types params variadic args
      → list_any (λ type. not (is_opaque_trailing types type)) (trailing_types params args) ≡ false → All IsOpaqueTrailing (trailing_types params args)
  arguments_trail no_types variadic no_exprs held none = All-nil IsOpaqueTrailing
  arguments_trail no_types variadic (more_exprs first others) held none =
      let parts = neither (is_opaque_trailing types (type_of first)) (list_any (λ type. not (is_opaque_trailing types type)) (trailing_types no_types others)) none in
      All-cons IsOpaqueTrailing (type_of first) (trailing_types no_types others)
      (trailing_is (type_of first) held.1 parts.0) (arguments_trail no_types variadic others held.2 parts.1)
  arguments_trail (more_types param params) variadic no_exprs held none = absurd held
  arguments_trail (more_types param params) variadic (more_exprs first others) held none = arguments_trail params variadic others held.1 none

  pub call_trails : (type : CTy) (args : CExprs) (form : CTyForm) → IsCallOf types type args form
      → list_any (λ other. not (is_opaque_trailing types other)) (trailing_of form args) ≡ false → All IsOpaqueTrailing (trailing_of form args)
  call_trails type args (function result (listed params) variadic) held none = arguments_trail params variadic args held.2 none
  call_trails type args (function result unlisted variadic) held none = All-nil IsOpaqueTrailing
  call_trails type args form held none = absurd held

-- ---- the same arguments in the program

module _ (numbers : CNumbers) where
  types_trail_there : (params : CTys) (args : CExprs)
      → trailing_types (types_there numbers.before params) (exprs_there numbers args) ≡ map (type_there numbers.before) (trailing_types params args)
  types_trail_there no_types no_exprs = refl
  types_trail_there no_types (more_exprs (expr type place form) others) =
      ap (λ types. type_there numbers.before type ∷ types) (types_trail_there no_types others)
  types_trail_there (more_types param params) no_exprs = refl
  types_trail_there (more_types param params) (more_exprs first others) = types_trail_there params others

  pub trail_there : (form : CTyForm) (args : CExprs)
      → trailing_of (form_there numbers.before form) (exprs_there numbers args) ≡ map (type_there numbers.before) (trailing_of form args)
  trail_there (function result (listed params) variadic) args = types_trail_there params args
  trail_there (function result unlisted variadic) args = refl
  trail_there void args = refl
  trail_there (basic which) args = refl
  trail_there (enum_type number) args = refl
  trail_there (pointer to) args = refl
  trail_there (array element length) args = refl
  trail_there (record_type number) args = refl
