-- External functions of the profile: those whose meaning is known, with their types (ISO C99, 7.20.3, 7.20.4 and 7.21), and
-- opaque ones. A type without parameter list counts here as one without parameters.
use Rattle.std.specs.Prelude.{◌≡◌, ◌⊎◌, ℕ, true, false, List, [], ◌∷◌, map, Option, None, Some, codes, All}
use Rattle.std.specs.List.{find}
use Rattle.std.specs.Str.{bytes_eq}
use Rattle.cx_core.specs.declared.ty.Basic.TheVariants.{Char, SignedChar, UnsignedChar, Int, UnsignedLong}
use Rattle.cx_core.specs.Conversions.{IsIntegerType, IsPromoted}
use Rattle.cx_core.specs.Trees.{CTy, ty, CTyForm, void, basic, pointer, function, CParams, unlisted, listed, types_in, form_of_type, unqualified, CTypes}

-- a function type without qualifiers of its result and its parameters
pub record CSignature : Type 0 where
  pub result : CTy
  pub params : List CTy

-- a function whose meaning is known
pub record CKnown : Type 0 where
  pub name : List ℕ
  pub signature : CSignature

abbrev no_value : CTy
no_value = ty void false

abbrev int_value : CTy
int_value = ty (basic Int) false

abbrev size_value : CTy
size_value = ty (basic UnsignedLong) false

abbrev to_bytes : CTy
to_bytes = ty (pointer (ty void false)) false

abbrev to_const_bytes : CTy
to_const_bytes = ty (pointer (ty void true)) false

abbrev known : List ℕ → CTy → List CTy → CKnown
known name result params = record { name = name; signature = record { result = result; params = params } }

-- the functions whose meaning is known
unfoldable pub known_functions : List CKnown
known_functions =
    known (codes "malloc") to_bytes (size_value ∷ [])
    ∷ known (codes "calloc") to_bytes (size_value ∷ size_value ∷ [])
    ∷ known (codes "free") no_value (to_bytes ∷ [])
    ∷ known (codes "memcpy") to_bytes (to_bytes ∷ to_const_bytes ∷ size_value ∷ [])
    ∷ known (codes "memmove") to_bytes (to_bytes ∷ to_const_bytes ∷ size_value ∷ [])
    ∷ known (codes "memset") to_bytes (to_bytes ∷ int_value ∷ size_value ∷ [])
    ∷ known (codes "exit") no_value (int_value ∷ [])
    ∷ known (codes "abort") no_value []
    ∷ []

abbrev pub params_in : CParams → List CTy
params_in unlisted = []
params_in (listed types) = map unqualified (types_in types)

-- a function type has this signature, and no further arguments
abbrev pub HasSignature : CSignature → CTyForm → Type 0
HasSignature signature (function result params variadic) =
    (unqualified result ≡ signature.result) × (params_in params ≡ signature.params) × (variadic ≡ false)
HasSignature signature _ = ⊥

-- the known function with a name
abbrev pub known_as : List ℕ → Option CKnown
known_as name = find (λ one. bytes_eq name one.name) known_functions

-- ---- opaque functions: what they do isn't known

-- the result of an opaque function: an integer, or none
abbrev pub IsOpaqueResult : CTypes → CTy → Type 0
IsOpaqueResult types type = (form_of_type type ≡ void) ⊎ IsIntegerType types type

-- a pointer to a text that isn't written to
abbrev pub const_text : CTyForm
const_text = pointer (ty (basic Char) true)

-- a parameter of an opaque function: an integer, or a `const char *`
abbrev pub IsOpaqueParam : CTypes → CTy → Type 0
IsOpaqueParam types type = (form_of_type type ≡ const_text) ⊎ IsIntegerType types type

-- an opaque function type; further arguments may follow
abbrev pub IsOpaque : CTypes → CTyForm → Type 0
IsOpaque types (function result params variadic) = IsOpaqueResult types result × All (IsOpaqueParam types) (params_in params)
IsOpaque types _ = ⊥

-- a character type (6.2.5p15)
abbrev pub IsCharacterForm : CTyForm → Type 0
IsCharacterForm (basic Char) = Unit {0}
IsCharacterForm (basic SignedChar) = Unit {0}
IsCharacterForm (basic UnsignedChar) = Unit {0}
IsCharacterForm _ = ⊥

abbrev IsTextForm : CTyForm → Type 0
IsTextForm (pointer to) = IsCharacterForm (form_of_type to)
IsTextForm _ = ⊥

-- an argument of an opaque function behind those that parameters take: an integer or a pointer to a character type, after the
-- default promotions (6.5.2.2p6)
abbrev pub IsOpaqueTrailing : CTy → Type 0
IsOpaqueTrailing type = IsPromoted type ⊎ IsTextForm (form_of_type type)

-- ---- the functions of the profile that no unit defines

abbrev IsAs : CTypes → CTyForm → Option CKnown → Type 0
IsAs types form (Some one) = HasSignature one.signature form
IsAs types form None = IsOpaque types form

-- the type of an external function: that of the known function of its name, or else an opaque one
abbrev pub IsExternalType : CTypes → List ℕ → CTyForm → Type 0
IsExternalType types name form = IsAs types form (known_as name)
