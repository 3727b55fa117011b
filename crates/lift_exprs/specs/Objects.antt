-- The objects that initialisers and compound literals fill (ISO C99, 6.5.2.5, 6.7.8): where their values are stored, and how an object becomes zero.
use Rattle.std.specs.Prelude.{ℕ, zero, suc, ◌+◌, ◌-◌, ◌*◌, ◌/◌, ◌%◌, ◌==◌, ◌&&◌, ◌||◌, nat_lt, nat_le, min, max, Bool, if◌then◌else◌, pos, List, [], ◌∷◌, Option, Some, None}
use Rattle.cr_base.specs.declared.layout.Spot.{Spot}
use Rattle.cx_core.specs.Trees.{CTy, ty, CTyForm, void, basic, enum_type, pointer, array, record_type, function, put, CPuts, no_puts, more_puts}
use Rattle.lift_exprs.specs.Names.{Names, kept_or, type_in, field_in}
use Rattle.lift_exprs.specs.Stores.{Target, a_field, whole_target, stored_value, stores}
use Rattle.lift_exprs.specs.Written.{Written, then_does, as_bytes}
use Rattle.lift_forms.specs.Given.{nothing, address_of}
use Rattle.lift_forms.specs.Operators.{zero_of}
use Rattle.lift_forms.specs.Places.{object_place}
use Rattle.rs_mean.specs.Scalars.{is_scalar, same_type}
use Rattle.rs_text.specs.Tree.{Ty, Pointer, Place, Deref, Field, Expr, Literal, Offset, Cast, Stmt, Assign, CopyBytes}
use Rattle.rs_text.specs.declared.integer.IntegerTy.TheVariants.{U8, Isize, Usize}

-- an object by its number, as what has a type here
abbrev pub object_at : Names → CTy → ℕ → Place
object_at names type number = object_place (kept_or (names.objects number)) (type_in names type)

-- ---- parts

-- so many bytes behind the begin of a place
abbrev pub behind : (byte : ℕ) → Place → Expr
behind byte p = if byte == 0 then address_of p else Offset (as_bytes (address_of p)) (Literal (pos byte) Isize)

abbrev pub part_by_bytes : (byte : ℕ) → Place → Ty → Place
part_by_bytes byte p part = Deref (Cast (behind byte p) (Pointer part))

-- an element of an array
abbrev pub element_place : (index : ℕ) → Place → Ty → Place
element_place index p element =
    let first = Cast (address_of p) (Pointer element) in
    Deref (if index == 0 then first else Offset first (Literal (pos index) Isize))

abbrev pub member_or_bytes : Option (List ℕ) → (byte : ℕ) → Place → Ty → Place
member_or_bytes None byte p part = part_by_bytes byte p part
member_or_bytes (Some field) byte p part = Field p field

abbrev mutual
  -- the part of an object of a type that begins at a byte: the object itself, a member, an element of an array or a part of one; what lies deeper is found by its byte
  pub part_place : Names → CTy → Place → (byte : ℕ) → Ty → Place
  part_place names (ty form is_const) p byte part =
      if byte == 0 && same_type (type_in names (ty form is_const)) part then p else part_in_form names form (ty form is_const) p byte part

  pub part_in_form : Names → CTyForm → (whole : CTy) → Place → (byte : ℕ) → Ty → Place
  part_in_form names (array element length) whole p byte part =
      if names.size_of element == 0 then part_by_bytes byte p part
      else part_place names element (element_place (byte / names.size_of element) p (type_in names element)) (byte % names.size_of element) part
  part_in_form names (record_type number) whole p byte part = member_or_bytes (field_in names whole byte part) byte p part
  part_in_form names void whole p byte part = part_by_bytes byte p part
  part_in_form names (basic which) whole p byte part = part_by_bytes byte p part
  part_in_form names (enum_type number) whole p byte part = part_by_bytes byte p part
  part_in_form names (pointer to) whole p byte part = part_by_bytes byte p part
  part_in_form names (function result params variadic) whole p byte part = part_by_bytes byte p part

-- a part that isn't the whole object
abbrev pub part_inside : Names → CTy → Place → (byte : ℕ) → Ty → Place
part_inside names (ty form is_const) p byte part = part_in_form names form (ty form is_const) p byte part

-- a part of an element of an array
abbrev pub part_of_element : Names → (element : CTy) → Place → (byte : ℕ) → Ty → Place
part_of_element names element p byte part =
    if names.size_of element == 0 then part_by_bytes byte p part
    else part_place names element (element_place (byte / names.size_of element) p (type_in names element)) (byte % names.size_of element) part

-- where a value of a type is stored that stands at a spot of an object
abbrev pub part_target : Names → (object : CTy) → Place → Spot → CTy → Target
part_target names object p spot type =
    if nat_lt 0 spot.width then a_field (address_of p) spot (type_in names type)
    else whole_target names type (part_place names object p spot.byte (type_in names type))

-- a value behind its statements is stored there
abbrev pub put_in : Names → (object : CTy) → Place → Spot → CTy → Written → Written
put_in names object p spot type one =
    let target = part_target names object p spot type in
    then_does (stores target (stored_value target one.given)) nothing one

-- ---- zero bytes

-- twice as many bytes are zero with each statement, up to all of them; objects have at most 2 to the 24 bytes
abbrev pub most_doublings : ℕ
most_doublings = 24

abbrev pub doubled : (address : Expr) → (size done left : ℕ) → List Stmt
doubled address size done zero = []
doubled address size done (suc left) =
    if nat_le size done then []
    else CopyBytes (as_bytes address) (Offset (as_bytes address) (Literal (pos done) Isize)) (Literal (pos (min done (size - done))) Usize)
    ∷ doubled address size (done + done) left

-- an object of so many bytes becomes zero, the bytes between its members too
abbrev pub zeroed_bytes : (address : Expr) → (size : ℕ) → List Stmt
zeroed_bytes address size = Assign (Deref (as_bytes address)) (Literal (pos 0) U8) ∷ doubled address size 1 most_doublings

abbrev pub zeroed : Names → CTy → Place → List Stmt
zeroed names type p =
    if is_scalar (type_in names type) then Assign p (zero_of (type_in names type)) ∷ [] else zeroed_bytes (address_of p) (names.size_of type)

-- ---- bits that no value covers

-- the first bit behind a part
abbrev pub bit_behind : Names → Spot → CTy → ℕ
bit_behind names spot type =
    if nat_lt 0 spot.width then 8 * spot.byte + spot.bit + spot.width else 8 * (spot.byte + names.size_of type)

-- all bits below one are covered: whether values, which stand in the order of their places, leave one free up to another
abbrev pub leave_bits : Names → CPuts → (covered all : ℕ) → Bool
leave_bits names no_puts covered all = nat_lt covered all
leave_bits names (more_puts (put spot type value) others) covered all =
    nat_lt covered (8 * spot.byte + spot.bit) || leave_bits names others (max covered (bit_behind names spot type)) all

-- an object is made zero before it gets values that leave bits of it: they are zero in C (6.7.8p21); in a program with a bit-field member any object is, since a bit-field is stored
-- by reading its bytes first
abbrev pub is_zeroed : Names → CTy → CPuts → Bool
is_zeroed names type puts = names.has_bits || leave_bits names puts 0 (8 * names.size_of type)

abbrev pub zeroed_where : Bool → Names → CTy → Place → List Stmt
zeroed_where is_it names type p = if is_it then zeroed names type p else []
