-- What specifiers and declarators say (ISO C99, 6.7.1 to 6.7.5).
use Rattle.std.specs.Prelude.{ℕ, ◌+◌, ◌==◌, nat_le, Bool, true, false, not, ◌&&◌, ◌||◌, if◌then◌else◌, List, [], ◌∷◌, ◌++◌, length, count_by, Option, None, Some, option_map}
use Rattle.std.specs.List.{list_any}
use denote.Enum.Bare.{sameb}
use Rattle.cx_core.specs.Trees.{CTy, ty, CTyForm, void, basic, pointer, array, function, CParams, unlisted, listed, CTys, no_types, more_types, CTypes}
use Rattle.cx_core.specs.declared.ty.Basic.{Basic}
use Rattle.cx_core.specs.declared.ty.Basic.TheVariants as basics
use Rattle.cx_lex.specs.contracts.token.Keyword.{the_type as keyword_type}
use Rattle.cx_lex.specs.declared.token.Keyword.{Keyword}
use Rattle.cx_lex.specs.declared.token.Keyword.TheVariants as keyword
use Rattle.cx_rules.specs.Scope.{CDeclared}
use Rattle.cx_rules.specs.Types.{is_array, is_function, is_incomplete, int_type, qualified}

-- ---- specifiers

unfoldable pub same_key : Keyword → Keyword → Bool
same_key = sameb keyword_type

-- the specifiers of a declaration, a parameter or a type name
pub record CSpecs : Type 0 where
  -- the type specifiers that are keywords, and the types that the others name, in text order
  pub words : List Keyword
  pub types : List CTy
  -- the storage class specifiers, in text order
  pub storage : List Keyword
  pub is_const : Bool
  pub is_restrict : Bool
  pub is_inline : Bool

abbrev pub no_specs_yet : CSpecs
no_specs_yet = record { words = []; types = []; storage = []; is_const = false; is_restrict = false; is_inline = false }

-- one more keyword
abbrev pub with_key : Keyword → CSpecs → CSpecs
with_key keyword.Const specs = record specs { is_const = true }
with_key keyword.Restrict specs = record specs { is_restrict = true }
with_key keyword.Inline specs = record specs { is_inline = true }
with_key keyword.Typedef specs = record specs { storage = specs.storage ++ keyword.Typedef ∷ [] }
with_key keyword.Extern specs = record specs { storage = specs.storage ++ keyword.Extern ∷ [] }
with_key keyword.Static specs = record specs { storage = specs.storage ++ keyword.Static ∷ [] }
with_key keyword.Auto specs = record specs { storage = specs.storage ++ keyword.Auto ∷ [] }
with_key keyword.Register specs = record specs { storage = specs.storage ++ keyword.Register ∷ [] }
with_key word specs = record specs { words = specs.words ++ word ∷ [] }

abbrev pub with_type : CTy → CSpecs → CSpecs
with_type type specs = record specs { types = specs.types ++ type ∷ [] }

abbrev pub has_storage : Keyword → CSpecs → Bool
has_storage word specs = list_any (same_key word) specs.storage

-- ---- type specifiers that are keywords (6.7.2p2)

abbrev pub count_of : Keyword → List Keyword → ℕ
count_of word words = count_by (same_key word) words

-- all but these many words are of this kind
abbrev pub at_most_once : Keyword → List Keyword → Bool
at_most_once word words = nat_le (count_of word words) 1

-- a sign, or none
abbrev pub one_sign : List Keyword → Bool
one_sign words = nat_le (count_of keyword.Signed words + count_of keyword.Unsigned words) 1

abbrev pub is_unsigned : List Keyword → Bool
is_unsigned words = not (count_of keyword.Unsigned words == 0)

abbrev pub by_sign : List Keyword → (signed unsigned : Basic) → CTyForm
by_sign words signed unsigned = if is_unsigned words then basic unsigned else basic signed

-- `char`, by itself or with a sign
abbrev pub char_form : List Keyword → CTyForm
char_form words =
    if count_of keyword.Signed words == 1 then basic basics.SignedChar
    else if is_unsigned words then basic basics.UnsignedChar
    else basic basics.Char

-- how many of the words are `void`, `_Bool` or `char`, which stand with a sign at most
abbrev pub alone_count : List Keyword → ℕ
alone_count words = count_of keyword.Void words + (count_of keyword.Bool words + count_of keyword.Char words)

abbrev pub sign_count : List Keyword → ℕ
sign_count words = count_of keyword.Signed words + count_of keyword.Unsigned words

abbrev pub alone_form : List Keyword → Option CTyForm
alone_form words =
    if count_of keyword.Char words == 1
    then (if one_sign words && (length words == 1 + sign_count words) then Some (char_form words) else None)
    else if not (length words == 1) then None
    else if count_of keyword.Void words == 1 then Some void
    else Some (basic basics.Truth)

-- `short`, `long` and `long long`, with `int` or without
abbrev pub integer_form : List Keyword → CTyForm
integer_form words =
    if count_of keyword.Short words == 1 then by_sign words basics.Short basics.UnsignedShort
    else if count_of keyword.Long words == 1 then by_sign words basics.Long basics.UnsignedLong
    else if count_of keyword.Long words == 2 then by_sign words basics.LongLong basics.UnsignedLongLong
    else by_sign words basics.Int basics.Unsigned

-- one of `short`, `long` and `long long`
abbrev pub one_size : List Keyword → Bool
one_size words =
    (at_most_once keyword.Short words && (count_of keyword.Long words == 0))
    || (nat_le (count_of keyword.Long words) 2 && (count_of keyword.Short words == 0))

-- all words are of the integer types
abbrev pub integer_count : List Keyword → ℕ
integer_count words = sign_count words + (count_of keyword.Short words + (count_of keyword.Long words + count_of keyword.Int words))

abbrev pub sized_form : List Keyword → Option CTyForm
sized_form words =
    if one_sign words && (one_size words && (at_most_once keyword.Int words && (length words == integer_count words)))
    then Some (integer_form words) else None

abbrev pub form_of_words : List Keyword → Option CTyForm
form_of_words [] = None
form_of_words (word ∷ words) = if alone_count (word ∷ words) == 0 then sized_form (word ∷ words) else alone_form (word ∷ words)

-- the type of type specifiers: keywords of the list in 6.7.2p2, or one other specifier by itself
abbrev pub unqualified_of : List CTy → List Keyword → Option CTy
unqualified_of [] words = option_map (λ form. ty form false) (form_of_words words)
unqualified_of (type ∷ []) [] = Some type
unqualified_of types words = None

unfoldable pub specs_type : CSpecs → Option CTy
specs_type specs = option_map (qualified specs.is_const) (unqualified_of specs.types specs.words)

abbrev pub or_int : Option CTy → CTy
or_int None = int_type
or_int (Some type) = type

-- the type that specifiers give
abbrev pub base_type : CSpecs → CTy
base_type specs = or_int (specs_type specs)

-- ---- declarators (6.7.5)

-- a parameter: its type is adjusted (6.7.5.3p7, p8), and its object has a number
pub record CParam : Type 0 where
  pub name : Option (List ℕ)
  pub object : ℕ
  pub type : CTy
  pub is_register : Bool

-- one step from a type to a type that is derived from it (6.2.5p20)
pub data CStep : Type 0 where
  to_pointer : (is_const : Bool) → (is_restrict : Bool) → CStep
  to_array : (length : Option ℕ) → CStep
  -- a function with these parameters, or without parameter list, and what its parameters declare, the newest first
  to_function : (params : Option (List CParam)) → (variadic : Bool) → (within : List CDeclared) → CStep

-- a declarator: the identifier that it declares, and the steps from the type of its specifiers to that of the identifier
pub record CShape : Type 0 where
  pub name : Option (List ℕ)
  pub steps : List CStep

abbrev pub no_shape : CShape
no_shape = record { name = None; steps = [] }

-- a declarator that derives in front of the steps of another
abbrev pub step_before : CStep → CShape → CShape
step_before step shape = record shape { steps = step ∷ shape.steps }

abbrev pub param_types : List CParam → CTys
param_types [] = no_types
param_types (param ∷ params) = more_types param.type (param_types params)

abbrev pub params_of : Option (List CParam) → CParams
params_of None = unlisted
params_of (Some params) = listed (param_types params)

abbrev pub step_on : CTy → CStep → CTy
step_on type (to_pointer is_const is_restrict) = ty (pointer type) is_const
step_on type (to_array length) = ty (array type length) false
step_on type (to_function params variadic within) = ty (function type (params_of params) variadic) false

-- the type that steps lead to
abbrev pub derived : CTy → List CStep → CTy
derived type [] = type
derived type (step ∷ steps) = derived (step_on type step) steps

-- ---- steps that no type has

-- some step isn't allowed from the type in front of it
abbrev pub some_step : (CTy → CStep → Bool) → CTy → List CStep → Bool
some_step test type [] = false
some_step test type (step ∷ steps) = test type step || some_step test (step_on type step) steps

-- an array of elements of incomplete type (6.7.5.2p1)
abbrev pub of_incomplete : CTypes → CTy → CStep → Bool
of_incomplete types type (to_array length) = is_incomplete types type
of_incomplete types type _ = false

abbrev pub has_incomplete_elements : CTypes → CTy → List CStep → Bool
has_incomplete_elements types type steps = some_step (of_incomplete types) type steps

-- a function that gives an array or a function (6.7.5.3p1), or an array of functions (6.7.5.2p1)
abbrev pub of_function : CTy → CStep → Bool
of_function type (to_array length) = is_function type
of_function type (to_function params variadic within) = is_function type || is_array type
of_function type (to_pointer is_const is_restrict) = false

abbrev pub has_function_fault : CTy → List CStep → Bool
has_function_fault type steps = some_step of_function type steps

-- `restrict` on a pointer to a function (6.7.3p2)
abbrev pub restricts_function : CTy → CStep → Bool
restricts_function type (to_pointer is_const is_restrict) = is_restrict && is_function type
restricts_function type _ = false

abbrev pub has_restrict_fault : CTy → List CStep → Bool
has_restrict_fault type steps = some_step restricts_function type steps

-- the last step, by which a declarator is that of a function where it is one (6.9.1p2)
abbrev pub last_step : List CStep → Option CStep
last_step [] = None
last_step (step ∷ []) = Some step
last_step (step ∷ next ∷ steps) = last_step (next ∷ steps)

-- ---- parameters

-- an array becomes a pointer to its element, and a function a pointer to it (6.7.5.3p7, p8)
abbrev pub adjusted : CTy → CTy
adjusted (ty (array element length) is_const) = ty (pointer element) false
adjusted (ty (function result params variadic) is_const) = ty (pointer (ty (function result params variadic) is_const)) false
adjusted type = type
