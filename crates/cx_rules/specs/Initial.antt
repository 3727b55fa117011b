-- What an initialiser stores (ISO C99, 6.7.8). A part of an object is known by its path: the numbers of elements and members that lead
-- to it, each in the one before.
use Rattle.std.specs.Prelude.{ℕ, zero, suc, ◌+◌, ◌/◌, ◌^◌, ◌==◌, nat_lt, nat_le, max, ℤ, pos, negsuc, Bool, true, false, not, ◌&&◌, ◌||◌, if◌then◌else◌, List, [], ◌∷◌, ◌++◌, length, Option, None, Some, option_map, is_some, bytes_eq, slice_get}
use Rattle.std.specs.Option.{option_and_then, option_flatten}
use Rattle.cr_base.specs.Scalar.{wrapped}
use Rattle.cr_base.specs.declared.refusal.Place.{Place as TextPlace}
use Rattle.cr_base.specs.declared.scalar.Scalar.{Scalar}
use Rattle.cx_core.specs.Conversions.{scalar_of}
use Rattle.cx_core.specs.Layouts.{completed_count}
use Rattle.cx_core.specs.Trees.{CTy, ty, CTyForm, basic, array, record_type, form_of_type, unqualified, CTypes, CMember, CRecord, CExpr, expr, CForm, whole, null, object, code, deref, member, address, convert, binary, put, CPuts, no_puts, more_puts}
use Rattle.cx_core.specs.ValidTypes.{CPart, part_at}
use Rattle.cx_core.specs.declared.expr.Op2.TheVariants as op2
use Rattle.cx_core.specs.declared.ty.Basic.TheVariants as basics
use Rattle.cx_rules.specs.Operands.{constant_of}
use Rattle.cx_rules.specs.Types.{is_array, is_pointer, is_character_array, record_of, compatible, size_of}

-- ---- what stands in an object

abbrev pub members_of : Option CRecord → List CMember
members_of None = []
members_of (Some one) = one.members

abbrev pub is_union_of : Option CRecord → Bool
is_union_of None = false
is_union_of (Some one) = one.is_union

abbrev pub record_at : CTypes → ℕ → Option CRecord
record_at types number = option_flatten (slice_get types.records number)

-- how many elements of a size an array without length may have: none ends past 2^63 bytes (a choice of the profile)
abbrev pub most_elements : Option ℕ → ℕ
most_elements None = 0
most_elements (Some zero) = 0
most_elements (Some (suc n)) = 2 ^ 63 / suc n

abbrev pub has_element : CTypes → CTy → Option ℕ → ℕ → Bool
has_element types element None index = nat_lt index (most_elements (size_of types element))
has_element types element (Some length) index = nat_lt index length

-- the type of the element or the member with a number
abbrev pub part_type : CTypes → CTy → ℕ → Option CTy
part_type types (ty (array element length) is_const) index = if has_element types element length index then Some element else None
part_type types (ty (record_type number) is_const) index = option_map (λ one. one.type) (slice_get (members_of (record_at types number)) index)
part_type types (ty form is_const) index = None

-- the number of the first named member, counted from a number on
abbrev pub first_named : ℕ → List CMember → Option ℕ
first_named from [] = None
first_named from (one ∷ others) = if is_some one.name then Some from else first_named (from + 1) others

abbrev pub behind : ℕ → List CMember → List CMember
behind zero members = members
behind (suc n) [] = []
behind (suc n) (one ∷ others) = behind n others

-- the first part of an array, a structure or a union (6.7.8p17)
abbrev pub first_part : CTypes → CTy → Option ℕ
first_part types (ty (array element length) is_const) = if has_element types element length 0 then Some 0 else None
first_part types (ty (record_type number) is_const) = first_named 0 (members_of (record_at types number))
first_part types (ty form is_const) = None

-- the part behind one; of a union only the first is initialised in turn
abbrev pub next_part : CTypes → CTy → ℕ → Option ℕ
next_part types (ty (array element length) is_const) index = if has_element types element length (index + 1) then Some (index + 1) else None
next_part types (ty (record_type number) is_const) index =
    if is_union_of (record_at types number) then None else first_named (index + 1) (behind (index + 1) (members_of (record_at types number)))
next_part types (ty form is_const) index = None

abbrev pub one_step : Option ℕ → Option (List ℕ)
one_step index = option_map (λ one. one ∷ []) index

abbrev pub later_or : Option (List ℕ) → Option (List ℕ) → Option (List ℕ)
later_or None other = other
later_or (Some path) other = Some path

abbrev pub following_in : CTypes → Option CTy → List ℕ → Option (List ℕ)
following_in types None path = None
following_in types (Some type) [] = None
following_in types (Some type) (index ∷ path) =
    later_or (option_map (λ rest. index ∷ rest) (following_in types (part_type types type index) path)) (one_step (next_part types type index))

-- what comes next behind a part of an object of a type, in the order of 6.7.8p17
abbrev pub following : CTypes → CTy → List ℕ → Option (List ℕ)
following types type path = following_in types (Some type) path

-- ---- where a value lands (6.7.8p13, p14, p20)

-- what is given
pub data CKind : Type 0 where
  of_text : CKind
  of_type : CTy → CKind

abbrev pub is_aggregate : CTyForm → Bool
is_aggregate (array element length) = true
is_aggregate (record_type number) = true
is_aggregate _ = false

-- a string literal initialises an array of characters, and a structure or union a whole one of its type
abbrev pub stays : CTypes → CKind → CTy → Bool
stays types of_text type = is_character_array (form_of_type type)
stays types (of_type given) type = is_some (record_of type) && compatible types (unqualified type) (unqualified given)

abbrev pub down : Bool → Option (List ℕ) → Option (List ℕ)
down true path = Some []
down false path = path

abbrev pub lands_in : (ℕ → Option (List ℕ)) → CTypes → CKind → CTy → Option (List ℕ)
lands_in of_record types kind (ty (array element length) is_const) =
    down (stays types kind (ty (array element length) is_const)) (option_map (λ path. 0 ∷ path) (lands_in of_record types kind element))
lands_in of_record types kind (ty (record_type number) is_const) =
    down (stays types kind (ty (record_type number) is_const)) (of_record number)
lands_in of_record types kind (ty form is_const) = Some []

abbrev pub in_member : (CTy → Option (List ℕ)) → ℕ → Option CMember → Option (List ℕ)
in_member lands index None = None
in_member lands index (Some one) = option_map (λ path. index ∷ path) (lands one.type)

abbrev pub in_first : (CTy → Option (List ℕ)) → List CMember → Option ℕ → Option (List ℕ)
in_first lands members None = None
in_first lands members (Some index) = in_member lands index (slice_get members index)

-- records hold each other at most so deep
abbrev pub record_lands : CTypes → CKind → ℕ → ℕ → Option (List ℕ)
record_lands types kind zero number = None
record_lands types kind (suc depth) number =
    in_first (lands_in (record_lands types kind depth) types kind) (members_of (record_at types number)) (first_named 0 (members_of (record_at types number)))

-- the first part of an object of a type that a value is for: the object itself, or the first scalar in it
unfoldable pub landing : CTypes → CKind → CTy → Option (List ℕ)
landing types kind type = lands_in (record_lands types kind (completed_count types.records)) types kind type

-- ---- places in the object that is being initialised

-- a part by its path from the object that a list in braces is for, and its type
pub record CAt : Type 0 where
  pub path : List ℕ
  pub type : CTy

abbrev pub whole_of : CTy → CAt
whole_of type = record { path = []; type = type }

abbrev pub type_by : CTypes → Option CTy → List ℕ → Option CTy
type_by types None path = None
type_by types (Some type) [] = Some type
type_by types (Some type) (index ∷ path) = type_by types (part_type types type index) path

abbrev pub at_path : CTypes → CTy → List ℕ → Option CAt
at_path types type path = option_map (λ found. record { path = path; type = found }) (type_by types (Some type) path)

-- a part of a part
abbrev pub at_within : CTypes → CAt → List ℕ → Option CAt
at_within types at path = option_map (λ found. record { path = at.path ++ path; type = found }) (type_by types (Some at.type) path)

-- where the first value of a list in braces stands: a scalar takes it itself (6.7.8p11)
abbrev pub first_path : CTypes → CTy → Option (List ℕ)
first_path types type = if is_aggregate (form_of_type type) then one_step (first_part types type) else Some []

abbrev pub first_at : CTypes → CTy → Option CAt
first_at types type = option_and_then (at_path types type) (first_path types type)

-- where the next value stands behind a part of the object
abbrev pub next_at : CTypes → CTy → CAt → Option CAt
next_at types type at = option_and_then (at_path types type) (following types type at.path)

-- where a value lands that is given for a part
abbrev pub landed_at : CTypes → CKind → CAt → Option CAt
landed_at types kind at = option_and_then (at_within types at) (landing types kind at.type)

-- ---- designators (6.7.8p6, p7)

abbrev pub index_in : CTypes → CAt → ℤ → Option CAt
index_in types at (pos index) = if is_array at.type then at_within types at (index ∷ []) else None
index_in types at (negsuc n) = None

abbrev pub element_at : CTypes → Option CAt → Option ℤ → Option CAt
element_at types None index = None
element_at types (Some at) None = None
element_at types (Some at) (Some index) = index_in types at index

abbrev pub is_called : List ℕ → Option (List ℕ) → Bool
is_called name None = false
is_called name (Some other) = bytes_eq other name

abbrev pub called_from : ℕ → List ℕ → List CMember → Option ℕ
called_from from name [] = None
called_from from name (one ∷ others) = if is_called name one.name then Some from else called_from (from + 1) name others

abbrev pub members_by : CTypes → Option ℕ → List CMember
members_by types None = []
members_by types (Some number) = members_of (record_at types number)

abbrev pub member_at : CTypes → Option CAt → List ℕ → Option CAt
member_at types None name = None
member_at types (Some at) name = option_and_then (λ index. at_within types at (index ∷ [])) (called_from 0 name (members_by types (record_of at.type)))

-- ---- what is stored, and what is stored over it (6.7.8p19)

pub record CStored : Type 0 where
  pub path : List ℕ
  pub type : CTy
  pub value : CExpr

abbrev pub is_union_type : CTypes → CTy → Bool
is_union_type types (ty (record_type number) is_const) = is_union_of (record_at types number)
is_union_type types (ty form is_const) = false

-- a later value takes an earlier one away: it is stored in the whole part in which the earlier one was, or in another member of a
-- union of which the earlier one was in a member
abbrev pub takes_away : CTypes → Option CTy → (later earlier : List ℕ) → Bool
takes_away types None later earlier = false
takes_away types (Some type) [] earlier = true
takes_away types (Some type) (index ∷ later) [] = false
takes_away types (Some type) (index ∷ later) (other ∷ earlier) =
    if index == other then takes_away types (part_type types type index) later earlier else is_union_type types type

abbrev pub kept_by : CTypes → CTy → List CStored → CStored → Bool
kept_by types type [] one = true
kept_by types type (later ∷ others) one = not (takes_away types (Some type) later.path one.path) && kept_by types type others one

abbrev pub kept : CTypes → CTy → List CStored → List CStored
kept types type [] = []
kept types type (one ∷ others) = if kept_by types type others one then one ∷ kept types type others else kept types type others

-- by their places; a whole part stands before what is stored in it
abbrev pub comes_before : List ℕ → List ℕ → Bool
comes_before [] other = true
comes_before (index ∷ path) [] = false
comes_before (index ∷ path) (other ∷ others) = if index == other then comes_before path others else nat_lt index other

abbrev pub put_in_order : CStored → List CStored → List CStored
put_in_order one [] = one ∷ []
put_in_order one (first ∷ others) = if comes_before first.path one.path then first ∷ put_in_order one others else one ∷ first ∷ others

abbrev pub in_order : List CStored → List CStored
in_order [] = []
in_order (one ∷ others) = put_in_order one (in_order others)

-- ---- the whole

-- the numbers of elements that are stored in, one more than the greatest
abbrev pub least_length : List CStored → ℕ
least_length [] = 0
least_length (one ∷ others) = elim one.path as (λ _. ℕ) [ [] ↦ least_length others | index ∷ path ↦ max (index + 1) (least_length others) ]

-- an array without length gets the least that holds all (6.7.8p22)
abbrev pub completed_type : CTy → List CStored → CTy
completed_type (ty (array element None) is_const) stored = ty (array element (Some (least_length stored))) is_const
completed_type type stored = type

abbrev pub put_at : CStored → Option CPart → CPuts → CPuts
put_at one None others = others
put_at one (Some part) others = more_puts (put part.spot part.type one.value) others

abbrev pub puts_from : CTypes → CTy → List CStored → CPuts
puts_from types type [] = no_puts
puts_from types type (one ∷ others) = put_at one (part_at types one.path type) (puts_from types type others)

-- the puts of an initialiser for an object of a type, in the order of their places
unfoldable pub puts_of : CTypes → CTy → List CStored → CPuts
puts_of types type stored = puts_from types (completed_type type stored) (in_order (kept types type stored))

-- ---- string literals (6.7.8p14)

abbrev pub char_type : CTy
char_type = ty (basic basics.Char) false

-- a byte as a value of a character type
abbrev pub as_scalar : Option Scalar → ℕ → ℤ
as_scalar None byte = pos byte
as_scalar (Some kind) byte = wrapped kind (pos byte)

abbrev pub byte_value : CTypes → TextPlace → CTy → ℕ → CExpr
byte_value types at type byte = expr (unqualified type) at (whole (as_scalar (scalar_of types (form_of_type type)) byte))

abbrev pub bytes_from : CTypes → TextPlace → CAt → CTy → Option ℕ → ℕ → List ℕ → List CStored
bytes_from types at where_is element length index [] = []
bytes_from types at where_is element length index (byte ∷ bytes) =
    if has_element types element length index
    then record { path = where_is.path ++ index ∷ []; type = element; value = byte_value types at element byte } ∷ bytes_from types at where_is element length (index + 1) bytes
    else []

abbrev pub text_in : CTypes → TextPlace → CAt → List ℕ → CTyForm → List CStored
text_in types at where_is bytes (array element length) = bytes_from types at where_is element length 0 bytes
text_in types at where_is bytes _ = []

-- what a string literal stores in an array of characters; its bytes have the zero byte at their end
abbrev pub text_stored : CTypes → TextPlace → CAt → List ℕ → List CStored
text_stored types at where_is bytes = text_in types at where_is bytes (form_of_type where_is.type)

abbrev pub fits_length : ℕ → Option ℕ → Bool
fits_length count None = true
fits_length count (Some length) = nat_le count (length + 1)

abbrev pub text_fits_in : ℕ → CTyForm → Bool
text_fits_in count (array element length) = fits_length count length
text_fits_in count _ = false

-- it isn't longer than the array without the zero byte
abbrev pub text_fits : CAt → List ℕ → Bool
text_fits where_is bytes = text_fits_in (length bytes) (form_of_type where_is.type)

-- the bytes of adjacent string literals with one zero byte (6.4.5p5)
abbrev pub joined_bytes : List (List ℕ) → List ℕ
joined_bytes [] = 0 ∷ []
joined_bytes (part ∷ parts) = part ++ joined_bytes parts

-- the type of a string literal
abbrev pub text_type : List ℕ → CTy
text_type bytes = ty (array char_type (Some (length bytes))) false

-- what is stored in its object before the program begins
abbrev pub text_puts : CTypes → TextPlace → List ℕ → CPuts
text_puts types at bytes = puts_of types (text_type bytes) (text_stored types at (whole_of (text_type bytes)) bytes)

-- ---- constants in initialisers of static objects (6.6p7 to p9)

module _ (types : CTypes) (statics : ℕ → Bool) where
  abbrev mutual
    -- an integer constant, or a pointer: null, an address constant, or one of these plus or minus an integer constant
    pub is_initial : CExpr → Bool
    is_initial (expr type place form) = is_some (constant_of types (expr type place form)) || (is_pointer type && is_initial_form form)

    pub is_initial_form : CForm → Bool
    is_initial_form null = true
    is_initial_form (code number) = true
    is_initial_form (address of) = is_fixed of
    is_initial_form (convert value) = is_initial_pointer value
    is_initial_form (binary op2.Add left right) = is_initial left && is_initial right
    is_initial_form (binary op2.Subtract left right) = is_initial left && is_initial right
    is_initial_form _ = false

    -- a pointer that is converted
    pub is_initial_pointer : CExpr → Bool
    is_initial_pointer (expr type place form) = is_pointer type && is_initial_form form

    -- an lvalue with a constant address
    pub is_fixed : CExpr → Bool
    is_fixed (expr type place form) = is_fixed_form form

    pub is_fixed_form : CForm → Bool
    is_fixed_form (object number) = statics number
    is_fixed_form (deref from) = is_initial from
    is_fixed_form (member of spot) = is_fixed of
    is_fixed_form _ = false
