-- Types as the checks see them (ISO C99, 6.2.5, 6.2.7, 6.7.3).
use Rattle.std.specs.Prelude.{ℕ, Bool, true, false, not, ◌&&◌, ◌||◌, ◌==◌, nat_le, [], Option, None, Some, option_map, is_some}
use Rattle.std.specs.Bool.{beq}
use Rattle.cr_base.specs.Layout.{most_bytes}
use Rattle.cr_base.specs.declared.layout.Laid.{Laid}
use Rattle.cx_core.specs.declared.ty.Basic.{Basic}
use Rattle.cx_core.specs.declared.ty.Basic.TheVariants.{Char, SignedChar, UnsignedChar, Int, UnsignedLong, Long, Truth}
use Rattle.cx_core.specs.Compatible.{agree, in_pairs}
use Rattle.cx_core.specs.Conversions.{same_basic, basic_of, scalar_of}
use Rattle.cx_core.specs.Layouts.{CLayouts, layouts_of, whole_extent, whole_extent_of, extent}
use Rattle.cx_core.specs.Trees.{CTy, ty, CTyForm, void, basic, enum_type, pointer, array, record_type, function, CParams, unlisted, listed, CTys, no_types, more_types, form_of_type, is_const_type, unqualified, CTypes}

-- ---- types that have names here

abbrev pub int_type : CTy
int_type = ty (basic Int) false

-- the type of `sizeof` (6.5.3.4p4), and of a difference of pointers (6.5.6p9): the choices of the profile
abbrev pub size_type : CTy
size_type = ty (basic UnsignedLong) false

abbrev pub difference_type : CTy
difference_type = ty (basic Long) false

abbrev pub void_type : CTy
void_type = ty void false

abbrev pub void_pointer_type : CTy
void_pointer_type = ty (pointer void_type) false

abbrev pub truth_type : CTy
truth_type = ty (basic Truth) false

-- ---- forms

abbrev pub is_void_form : CTyForm → Bool
is_void_form void = true
is_void_form _ = false

abbrev pub is_array_form : CTyForm → Bool
is_array_form (array element length) = true
is_array_form _ = false

abbrev pub is_function_form : CTyForm → Bool
is_function_form (function result params variadic) = true
is_function_form _ = false

abbrev pub is_void : CTy → Bool
is_void type = is_void_form (form_of_type type)

abbrev pub is_array : CTy → Bool
is_array type = is_array_form (form_of_type type)

abbrev pub is_function : CTy → Bool
is_function type = is_function_form (form_of_type type)

-- what a pointer type points to (6.2.5p20)
abbrev pub target_of_form : CTyForm → Option CTy
target_of_form (pointer to) = Some to
target_of_form _ = None

abbrev pub target_of : CTy → Option CTy
target_of type = target_of_form (form_of_type type)

abbrev pub is_pointer : CTy → Bool
is_pointer type = is_some (target_of type)

-- the number of a structure or union type
abbrev pub record_of_form : CTyForm → Option ℕ
record_of_form (record_type number) = Some number
record_of_form _ = None

abbrev pub record_of : CTy → Option ℕ
record_of type = record_of_form (form_of_type type)

-- an array of characters, which a string literal may initialise (6.7.8p14)
abbrev pub is_character : Basic → Bool
is_character Char = true
is_character SignedChar = true
is_character UnsignedChar = true
is_character _ = false

abbrev pub is_character_form : CTyForm → Bool
is_character_form (basic which) = is_character which
is_character_form _ = false

abbrev pub is_character_array : CTyForm → Bool
is_character_array (array element length) = is_character_form (form_of_type element)
is_character_array _ = false

-- ---- kinds of types (6.2.5p17 to p21)

abbrev pub is_integer : CTypes → CTy → Bool
is_integer types type = is_some (basic_of types (form_of_type type))

abbrev pub is_scalar : CTypes → CTy → Bool
is_scalar types type = is_some (scalar_of types (form_of_type type))

-- ---- sizes (6.2.5p1, 6.5.3.4)

-- it has a size, however large that is
abbrev pub has_size : CTypes → CTy → Bool
has_size types type = is_some (whole_extent (layouts_of types) type)

-- an object type whose objects aren't too large
abbrev pub is_complete : CTypes → CTy → Bool
is_complete types type = is_some (extent (layouts_of types) type)

abbrev pub size_of : CTypes → CTy → Option ℕ
size_of types type = option_map (λ laid. laid.size) (extent (layouts_of types) type)

-- incomplete types (6.2.5p1), `void` among them
abbrev pub is_incomplete : CTypes → CTy → Bool
is_incomplete types type = not (is_function type) && not (has_size types type)

-- a pointer to a complete object type (6.5.6p2)
abbrev pub target_is_complete : CTypes → Option CTy → Bool
target_is_complete types None = false
target_is_complete types (Some to) = is_complete types to

abbrev pub is_element_pointer : CTypes → CTy → Bool
is_element_pointer types type = target_is_complete types (target_of type)

-- a pointer to a function, and one to an object type or an incomplete one
abbrev pub target_is_function : Option CTy → Bool
target_is_function None = false
target_is_function (Some to) = is_function to

abbrev pub is_function_pointer : CTy → Bool
is_function_pointer type = target_is_function (target_of type)

abbrev pub target_is_object : Option CTy → Bool
target_is_object None = false
target_is_object (Some to) = not (is_function to)

abbrev pub is_object_pointer : CTy → Bool
is_object_pointer type = target_is_object (target_of type)

abbrev pub target_is_void : Option CTy → Bool
target_is_void None = false
target_is_void (Some to) = is_void to

abbrev pub is_void_pointer : CTy → Bool
is_void_pointer type = target_is_void (target_of type)

-- ---- too large (a choice of the profile)

abbrev pub exceeds : Option Laid → Bool
exceeds None = false
exceeds (Some laid) = not (nat_le laid.size most_bytes)

abbrev mutual
  -- a type has more bytes than an object of the profile may have, or one from which it is derived has (6.2.5p20)
  pub too_large : CLayouts → CTy → Bool
  too_large layouts (ty form is_const) = exceeds (whole_extent_of layouts form) || derived_too_large layouts form

  pub derived_too_large : CLayouts → CTyForm → Bool
  derived_too_large layouts void = false
  derived_too_large layouts (basic which) = false
  derived_too_large layouts (enum_type number) = false
  derived_too_large layouts (pointer to) = too_large layouts to
  derived_too_large layouts (array element length) = too_large layouts element
  derived_too_large layouts (record_type number) = false
  derived_too_large layouts (function result params variadic) = too_large layouts result

abbrev pub is_too_large : CTypes → CTy → Bool
is_too_large types type = too_large (layouts_of types) type

-- ---- the same type

abbrev pub same_length : Option ℕ → Option ℕ → Bool
same_length None None = true
same_length (Some first) (Some second) = first == second
same_length _ _ = false

abbrev mutual
  pub same_type : CTy → CTy → Bool
  same_type (ty first first_const) (ty second second_const) = beq first_const second_const && same_form first second

  pub same_form : CTyForm → CTyForm → Bool
  same_form void void = true
  same_form (basic first) (basic second) = same_basic first second
  same_form (enum_type first) (enum_type second) = first == second
  same_form (pointer first) (pointer second) = same_type first second
  same_form (array first first_length) (array second second_length) = same_length first_length second_length && same_type first second
  same_form (record_type first) (record_type second) = first == second
  same_form (function first first_params first_more) (function second second_params second_more) =
      beq first_more second_more && (same_type first second && same_params first_params second_params)
  same_form _ _ = false

  pub same_params : CParams → CParams → Bool
  same_params unlisted unlisted = true
  same_params (listed first) (listed second) = same_types first second
  same_params _ _ = false

  pub same_types : CTys → CTys → Bool
  same_types no_types no_types = true
  same_types (more_types first firsts) (more_types second seconds) = same_type first second && same_types firsts seconds
  same_types _ _ = false

-- ---- compatible types of one unit (6.2.7)

-- two records of one unit are compatible only where they are the same
abbrev pub compatible : CTypes → CTy → CTy → Bool
compatible types first second = agree types (in_pairs []) first second

-- the unqualified versions of two types are compatible
abbrev pub alike : CTypes → CTy → CTy → Bool
alike types first second = compatible types (unqualified first) (unqualified second)

-- two types that pointers point to, where both do
abbrev pub both_targets : (CTy → CTy → Bool) → Option CTy → Option CTy → Bool
both_targets test (Some first) (Some second) = test first second
both_targets test (Some first) None = false
both_targets test None second = false

-- pointers to qualified or unqualified versions of compatible types
abbrev pub point_alike : CTypes → CTy → CTy → Bool
point_alike types first second = both_targets (alike types) (target_of first) (target_of second)

-- what the first points to has all qualifiers of what the second points to (6.5.16.1p1)
abbrev pub keeps_const : CTy → CTy → Bool
keeps_const first second = is_const_type first || not (is_const_type second)

abbrev pub keeps_qualifiers : CTy → CTy → Bool
keeps_qualifiers first second = both_targets keeps_const (target_of first) (target_of second)

-- ---- composite types (6.2.7p3)

abbrev pub known_length : Option ℕ → Option ℕ → Option ℕ
known_length None second = second
known_length (Some first) second = Some first

abbrev mutual
  -- the composite type of two compatible types, with the qualifiers of the first
  pub composite : CTy → CTy → CTy
  composite (ty first first_const) (ty second second_const) = ty (composite_form first second) first_const

  -- of an enumerated type and the integer type that it is compatible with (6.7.2.2p4), the enumerated type says more
  pub composite_form : CTyForm → CTyForm → CTyForm
  composite_form (basic which) (enum_type number) = enum_type number
  composite_form (pointer first) (pointer second) = pointer (composite first second)
  composite_form (array first first_length) (array second second_length) = array (composite first second) (known_length first_length second_length)
  composite_form (function first first_params first_more) (function second second_params second_more) =
      function (composite first second) (composite_params first_params second_params) (first_more || second_more)
  composite_form first _ = first

  pub composite_params : CParams → CParams → CParams
  composite_params unlisted unlisted = unlisted
  composite_params unlisted (listed second) = listed second
  composite_params (listed first) unlisted = listed first
  composite_params (listed first) (listed second) = listed (composite_types first second)

  pub composite_types : CTys → CTys → CTys
  composite_types (more_types first firsts) (more_types second seconds) = more_types (composite first second) (composite_types firsts seconds)
  composite_types first _ = first

-- ---- definitions of functions (6.9.1)

-- an empty list in a declarator that is part of a definition says that the function has no parameters (6.7.5.3p14), so its type goes with no
-- list of parameters (6.7.5.3p15)
abbrev pub defined_params : CParams → CParams
defined_params unlisted = listed no_types
defined_params (listed params) = listed params

abbrev pub defined_form : CTyForm → CTyForm
defined_form (function result params variadic) = function result (defined_params params) variadic
defined_form form = form

-- the type of a function that is defined, by the one that its declarator says
abbrev pub defined_type : CTy → CTy
defined_type (ty form is_const) = ty (defined_form form) is_const

-- ---- qualifiers (6.7.3)

-- a type with `const` added: an array passes it on to its elements (6.7.3p8); it does nothing to a function type
abbrev pub qualified : Bool → CTy → CTy
qualified false type = type
qualified true (ty (array element length) is_const) = ty (array (qualified true element) length) is_const
qualified true (ty (function result params variadic) is_const) = ty (function result params variadic) is_const
qualified true (ty form is_const) = ty form true
