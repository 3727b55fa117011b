-- The types of `op=`, `++` and `--`: what they compute in, and the conversions there and back (ISO C99, 6.5.2.4, 6.5.3.1, 6.5.16.2).
use Rattle.std.proofs.Common.{◌≡◌, ◌⊎◌, inl, inr, ℕ, nat_le, Bool, true, false, if◌then◌else◌, option_map, slice_get, Option, Some, None, IsSome, refl, sym, ap, subst}
use Rattle.cr_base.specs.declared.scalar.Scalar.TheVariants.{Truth}
use Rattle.cx_core.specs.Conversions.{basic_of, basic_of_enum, precision, promoted_basic, is_promoted_basic, promoted, common_type, IsIntegerType, IsScalarType, IsPromoted}
use Rattle.cx_core.specs.declared.expr.Op2.{Op2}
use Rattle.cx_core.specs.declared.expr.Op2.TheVariants.{Multiply, Divide, Remainder, Add, Subtract, ShiftLeft, ShiftRight, Less, Greater, LessOrEqual, GreaterOrEqual, Equal, NotEqual, BitAnd, BitXor, BitOr}
use Rattle.cx_core.specs.declared.ty.Basic.{Basic}
use Rattle.cx_core.specs.declared.ty.Basic.TheVariants as basics
use Rattle.cx_core.specs.Trees.{CTy, ty, void, basic, enum_type, pointer, array, record_type, function, form_of_type, unqualified, CTypes}
use Rattle.cx_core.specs.Typing.{IsPointer, IsElementPointer, AreJoined, IsComputedIn, IsConversion, IsMoved, IsShift, IsBinaryOf}
use Rattle.cx_core.specs.ValidTypes.{IsTypeIn}
use Rattle.cx_typed_work.proofs.Operators.{integer_is_scalar, pointer_is_scalar}

-- ---- what is computed in

-- a pointer is moved in its own type
pub record IsPointerIn (types : CTypes) (target computes : CTy) : Type 0 where
  pub target_is : IsPointer (unqualified target)
  pub same : computes ≡ unqualified target
  pub elements : IsElementPointer types computes

-- an integer is computed with in a promoted type
pub record IsNumberIn (types : CTypes) (target computes : CTy) : Type 0 where
  pub target_is : IsIntegerType types target
  pub promoted_is : IsPromoted computes

abbrev pub IsRun : CTypes → CTy → CTy → Type 0
IsRun types target computes = IsNumberIn types target computes ⊎ IsPointerIn types target computes

-- only an integer has a promoted type that is an integer's
joined_integer : (types : CTypes) (target computes : CTy) (width : Option ℕ) → IsPromoted computes → common_type (promoted types target width) computes ≡ computes → IsIntegerType types target
joined_integer types (ty (basic which) is_const) computes width is common = refl
joined_integer types (ty (enum_type number) is_const) (ty (basic which) also) width is common = by (slice_get types.enums number) refl
  where
    by : (found : Option Bool) → slice_get types.enums number ≡ found → IsSome (option_map basic_of_enum (slice_get types.enums number))
    by None e = cc (common, e)
    by (Some is_int) e = subst (λ f. IsSome (option_map basic_of_enum f)) (sym e) refl
joined_integer types (ty (enum_type number) is_const) (ty void also) width is common = cc (is.0)
joined_integer types (ty (enum_type number) is_const) (ty (enum_type other) also) width is common = cc (is.0)
joined_integer types (ty (enum_type number) is_const) (ty (pointer to) also) width is common = cc (is.0)
joined_integer types (ty (enum_type number) is_const) (ty (array element length) also) width is common = cc (is.0)
joined_integer types (ty (enum_type number) is_const) (ty (record_type other) also) width is common = cc (is.0)
joined_integer types (ty (enum_type number) is_const) (ty (function result params variadic) also) width is common = cc (is.0)
joined_integer types (ty void is_const) (ty form also) width is common = cc (is.0, common)
joined_integer types (ty (pointer to) is_const) (ty form also) width is common = cc (is.0, common)
joined_integer types (ty (array element length) is_const) (ty form also) width is common = cc (is.0, common)
joined_integer types (ty (record_type number) is_const) (ty form also) width is common = cc (is.0, common)
joined_integer types (ty (function result params variadic) is_const) (ty form also) width is common = cc (is.0, common)

shifted_integer : (types : CTypes) (target computes : CTy) (width : Option ℕ) → IsPromoted computes → promoted types target width ≡ computes → IsIntegerType types target
shifted_integer types (ty (basic which) is_const) computes width is same = refl
shifted_integer types (ty (enum_type number) is_const) (ty (basic which) also) width is same = by (slice_get types.enums number) refl
  where
    by : (found : Option Bool) → slice_get types.enums number ≡ found → IsSome (option_map basic_of_enum (slice_get types.enums number))
    by None e = cc (same, e)
    by (Some is_int) e = subst (λ f. IsSome (option_map basic_of_enum f)) (sym e) refl
shifted_integer types (ty (enum_type number) is_const) (ty void also) width is same = cc (is.0)
shifted_integer types (ty (enum_type number) is_const) (ty (enum_type other) also) width is same = cc (is.0)
shifted_integer types (ty (enum_type number) is_const) (ty (pointer to) also) width is same = cc (is.0)
shifted_integer types (ty (enum_type number) is_const) (ty (array element length) also) width is same = cc (is.0)
shifted_integer types (ty (enum_type number) is_const) (ty (record_type other) also) width is same = cc (is.0)
shifted_integer types (ty (enum_type number) is_const) (ty (function result params variadic) also) width is same = cc (is.0)
shifted_integer types (ty void is_const) (ty form also) width is same = cc (is.0, same)
shifted_integer types (ty (pointer to) is_const) (ty form also) width is same = cc (is.0, same)
shifted_integer types (ty (array element length) is_const) (ty form also) width is same = cc (is.0, same)
shifted_integer types (ty (record_type number) is_const) (ty form also) width is same = cc (is.0, same)
shifted_integer types (ty (function result params variadic) is_const) (ty form also) width is same = cc (is.0, same)

abbrev promoted_enum : ℕ → Option ℕ → Option Bool → CTy
promoted_enum number width found = elim (option_map basic_of_enum found) as (λ _. CTy) [ None ↦ ty (enum_type number) false | Some which ↦ ty (basic (promoted_basic which width)) false ]

-- only a pointer has a promoted type that is a pointer's
moved_pointer : (types : CTypes) (target computes : CTy) (width : Option ℕ) → IsElementPointer types (promoted types target width) → computes ≡ promoted types target width → IsPointerIn types target computes
moved_pointer types (ty (pointer to) is_const) computes width is same = record { target_is = refl; same = same; elements = subst (IsElementPointer types) (sym same) is }
moved_pointer types (ty void is_const) computes width is same = absurd is
moved_pointer types (ty (basic which) is_const) computes width is same = absurd is
moved_pointer types (ty (enum_type number) is_const) computes width is same = by (slice_get types.enums number) refl
  where
    by : (found : Option Bool) → slice_get types.enums number ≡ found → IsPointerIn types (ty (enum_type number) is_const) computes
    by None e = absurd (subst (λ f. IsElementPointer types (promoted_enum number width f)) e is)
    by (Some is_int) e = absurd (subst (λ f. IsElementPointer types (promoted_enum number width f)) e is)
moved_pointer types (ty (array element length) is_const) computes width is same = absurd is
moved_pointer types (ty (record_type number) is_const) computes width is same = absurd is
moved_pointer types (ty (function result params variadic) is_const) computes width is same = absurd is

joined_run : (types : CTypes) (target computes value : CTy) (width : Option ℕ) → AreJoined computes (promoted types target width) value → IsRun types target computes
joined_run types target computes value width is = inl (record { target_is = joined_integer types target computes width is.promoted is.common; promoted_is = is.promoted })

moved_run : (types : CTypes) (target computes value : CTy) (width : Option ℕ) → AreJoined computes (promoted types target width) value ⊎ IsMoved types computes (promoted types target width) value → IsRun types target computes
moved_run types target computes value width (inl is) = joined_run types target computes value width is
moved_run types target computes value width (inr is) = inr (moved_pointer types target computes width is.elements is.type_is)

shift_run : (types : CTypes) (target computes value : CTy) (width : Option ℕ) → IsShift computes (promoted types target width) value → IsRun types target computes
shift_run types target computes value width is = inl (record { target_is = shifted_integer types target computes width is.promoted is.left_is; promoted_is = is.promoted })

pub assigned_run : (types : CTypes) (op : Op2) (target computes value : CTy) (width : Option ℕ) → IsComputedIn types op computes (promoted types target width) value → IsRun types target computes
assigned_run types Multiply target computes value width is = joined_run types target computes value width is
assigned_run types Divide target computes value width is = joined_run types target computes value width is
assigned_run types Remainder target computes value width is = joined_run types target computes value width is
assigned_run types Add target computes value width is = moved_run types target computes value width is
assigned_run types Subtract target computes value width is = moved_run types target computes value width is
assigned_run types ShiftLeft target computes value width is = shift_run types target computes value width is
assigned_run types ShiftRight target computes value width is = shift_run types target computes value width is
assigned_run types BitAnd target computes value width is = joined_run types target computes value width is
assigned_run types BitXor target computes value width is = joined_run types target computes value width is
assigned_run types BitOr target computes value width is = joined_run types target computes value width is
assigned_run types Less target computes value width is = absurd is
assigned_run types Greater target computes value width is = absurd is
assigned_run types LessOrEqual target computes value width is = absurd is
assigned_run types GreaterOrEqual target computes value width is = absurd is
assigned_run types Equal target computes value width is = absurd is
assigned_run types NotEqual target computes value width is = absurd is

-- ---- the operator itself, once its left operand is converted

joined_binary : (types : CTypes) (computes from value : CTy) → AreJoined computes from value → IsBinaryOf types Multiply computes computes value
joined_binary types computes from value is = record { promoted = is.promoted; left_is = refl; right_is = is.value_is }

moved_binary : (types : CTypes) (computes from value : CTy) → AreJoined computes from value ⊎ IsMoved types computes from value → IsBinaryOf types Add computes computes value
moved_binary types computes from value (inl is) = inl (joined_binary types computes from value is)
moved_binary types computes from value (inr is) = inr (inl (record { elements = subst (IsElementPointer types) (sym is.type_is) is.elements; integer = is.integer; type_is = refl }))

moved_down : (types : CTypes) (computes from value : CTy) → AreJoined computes from value ⊎ IsMoved types computes from value → IsBinaryOf types Subtract computes computes value
moved_down types computes from value (inl is) = inl (joined_binary types computes from value is)
moved_down types computes from value (inr is) = inr (inl (record { elements = subst (IsElementPointer types) (sym is.type_is) is.elements; integer = is.integer; type_is = refl }))

shift_binary : (types : CTypes) (computes from value : CTy) → IsShift computes from value → IsBinaryOf types ShiftLeft computes computes value
shift_binary types computes from value is = record { promoted = is.promoted; left_is = refl; right_promoted = is.right_promoted }

pub assigned_binary : (types : CTypes) (op : Op2) (computes from value : CTy) → IsComputedIn types op computes from value → IsBinaryOf types op computes computes value
assigned_binary types Multiply computes from value is = joined_binary types computes from value is
assigned_binary types Divide computes from value is = joined_binary types computes from value is
assigned_binary types Remainder computes from value is = joined_binary types computes from value is
assigned_binary types Add computes from value is = moved_binary types computes from value is
assigned_binary types Subtract computes from value is = moved_down types computes from value is
assigned_binary types ShiftLeft computes from value is = shift_binary types computes from value is
assigned_binary types ShiftRight computes from value is = shift_binary types computes from value is
assigned_binary types BitAnd computes from value is = joined_binary types computes from value is
assigned_binary types BitXor computes from value is = joined_binary types computes from value is
assigned_binary types BitOr computes from value is = joined_binary types computes from value is
assigned_binary types Less computes from value is = absurd is
assigned_binary types Greater computes from value is = absurd is
assigned_binary types LessOrEqual computes from value is = absurd is
assigned_binary types GreaterOrEqual computes from value is = absurd is
assigned_binary types Equal computes from value is = absurd is
assigned_binary types NotEqual computes from value is = absurd is

-- ---- conversions there and back

to_basic : (types : CTypes) (from : CTy) (which : Basic) → IsIntegerType types from → IsConversion types from (ty (basic which) false)
to_basic types from basics.Truth is = record { plain = refl; allowed = integer_is_scalar types from is }
to_basic types from basics.Char is = record { plain = refl; allowed = is }
to_basic types from basics.SignedChar is = record { plain = refl; allowed = is }
to_basic types from basics.UnsignedChar is = record { plain = refl; allowed = is }
to_basic types from basics.Short is = record { plain = refl; allowed = is }
to_basic types from basics.UnsignedShort is = record { plain = refl; allowed = is }
to_basic types from basics.Int is = record { plain = refl; allowed = is }
to_basic types from basics.Unsigned is = record { plain = refl; allowed = is }
to_basic types from basics.Long is = record { plain = refl; allowed = is }
to_basic types from basics.UnsignedLong is = record { plain = refl; allowed = is }
to_basic types from basics.LongLong is = record { plain = refl; allowed = is }
to_basic types from basics.UnsignedLongLong is = record { plain = refl; allowed = is }

-- a promoted type is a basic one
pub record IsBasicType (type : CTy) : Type 0 where
  pub which : Basic
  pub same : type ≡ ty (basic which) false

pub promoted_basic_type : (type : CTy) → IsPromoted type → IsBasicType type
promoted_basic_type (ty (basic which) is_const) is = record { which = which; same = ap (ty (basic which)) is.1 }
promoted_basic_type (ty void is_const) is = cc (is.0)
promoted_basic_type (ty (enum_type number) is_const) is = cc (is.0)
promoted_basic_type (ty (pointer to) is_const) is = cc (is.0)
promoted_basic_type (ty (array element length) is_const) is = cc (is.0)
promoted_basic_type (ty (record_type number) is_const) is = cc (is.0)
promoted_basic_type (ty (function result params variadic) is_const) is = cc (is.0)

promoted_integer : (types : CTypes) (type : CTy) → IsPromoted type → IsIntegerType types type
promoted_integer types type is = let one = promoted_basic_type type is in subst (IsIntegerType types) (sym one.same) refl

to_integer : (types : CTypes) (from target : CTy) → IsIntegerType types from → IsIntegerType types target → IsConversion types from (unqualified target)
to_integer types from (ty (basic which) is_const) is target_is = to_basic types from which is
to_integer types from (ty (enum_type number) is_const) is target_is = record { plain = refl; allowed = is }
to_integer types from (ty void is_const) is target_is = cc (target_is)
to_integer types from (ty (pointer to) is_const) is target_is = cc (target_is)
to_integer types from (ty (array element length) is_const) is target_is = cc (target_is)
to_integer types from (ty (record_type number) is_const) is target_is = cc (target_is)
to_integer types from (ty (function result params variadic) is_const) is target_is = cc (target_is)

to_itself : (types : CTypes) (target : CTy) → IsPointer (unqualified target) → IsConversion types (unqualified target) (unqualified target)
to_itself types (ty (pointer to) is_const) is = record { plain = refl; allowed = (refl, refl) }
to_itself types (ty void is_const) is = absurd is
to_itself types (ty (basic which) is_const) is = absurd is
to_itself types (ty (enum_type number) is_const) is = absurd is
to_itself types (ty (array element length) is_const) is = absurd is
to_itself types (ty (record_type number) is_const) is = absurd is
to_itself types (ty (function result params variadic) is_const) is = absurd is

plain_integer : (types : CTypes) (type : CTy) → IsIntegerType types type → IsIntegerType types (unqualified type)
plain_integer types (ty form is_const) is = is

pub to_computes : (types : CTypes) (target computes : CTy) → IsRun types target computes → IsConversion types (unqualified target) computes
to_computes types target computes (inl is) =
    let one = promoted_basic_type computes is.promoted_is in
    subst (IsConversion types (unqualified target)) (sym one.same) (to_basic types (unqualified target) one.which (plain_integer types target is.target_is))
to_computes types target computes (inr is) = subst (IsConversion types (unqualified target)) (sym is.same) (to_itself types target is.target_is)

pub to_target : (types : CTypes) (target computes : CTy) → IsRun types target computes → IsConversion types computes (unqualified target)
to_target types target computes (inl is) = to_integer types computes target (promoted_integer types computes is.promoted_is) is.target_is
to_target types target computes (inr is) = subst (λ t. IsConversion types t (unqualified target)) (sym is.same) (to_itself types target is.target_is)

-- ---- the types stand in the unit, and are scalar

plain_pointer_in : (types : CTypes) (unit : ℕ) (target : CTy) → IsPointer (unqualified target) → IsTypeIn types unit target → IsTypeIn types unit (unqualified target)
plain_pointer_in types unit (ty (pointer to) is_const) is there = there
plain_pointer_in types unit (ty void is_const) is there = absurd is
plain_pointer_in types unit (ty (basic which) is_const) is there = absurd is
plain_pointer_in types unit (ty (enum_type number) is_const) is there = absurd is
plain_pointer_in types unit (ty (array element length) is_const) is there = absurd is
plain_pointer_in types unit (ty (record_type number) is_const) is there = absurd is
plain_pointer_in types unit (ty (function result params variadic) is_const) is there = absurd is

pub computes_in : (types : CTypes) (unit : ℕ) (target computes : CTy) → IsRun types target computes → IsTypeIn types unit target → IsTypeIn types unit computes
computes_in types unit target computes (inl is) there = let one = promoted_basic_type computes is.promoted_is in subst (IsTypeIn types unit) (sym one.same) tt
computes_in types unit target computes (inr is) there = subst (IsTypeIn types unit) (sym is.same) (plain_pointer_in types unit target is.target_is there)

pub target_scalar : (types : CTypes) (target computes : CTy) → IsRun types target computes → IsScalarType types (unqualified target)
target_scalar types target computes (inl is) = integer_is_scalar types (unqualified target) (plain_integer types target is.target_is)
target_scalar types target computes (inr is) = pointer_is_scalar types (unqualified target) is.target_is

-- ---- `++` and `--` compute in the promoted type (6.5.2.4p2, 6.5.3.1p2)

int_or_unsigned : (test : Bool) → is_promoted_basic (if test then basics.Int else basics.Unsigned) ≡ true
int_or_unsigned true = refl
int_or_unsigned false = refl

basic_promoted : (which : Basic) (width : Option ℕ) → is_promoted_basic (promoted_basic which width) ≡ true
basic_promoted basics.Truth width = int_or_unsigned (nat_le (precision basics.Truth width) (precision basics.Int None))
basic_promoted basics.Char width = int_or_unsigned (nat_le (precision basics.Char width) (precision basics.Int None))
basic_promoted basics.SignedChar width = int_or_unsigned (nat_le (precision basics.SignedChar width) (precision basics.Int None))
basic_promoted basics.UnsignedChar width = int_or_unsigned (nat_le (precision basics.UnsignedChar width) (precision basics.Int None))
basic_promoted basics.Short width = int_or_unsigned (nat_le (precision basics.Short width) (precision basics.Int None))
basic_promoted basics.UnsignedShort width = int_or_unsigned (nat_le (precision basics.UnsignedShort width) (precision basics.Int None))
basic_promoted basics.Int width = int_or_unsigned (nat_le (precision basics.Int width) (precision basics.Int None))
basic_promoted basics.Unsigned width = int_or_unsigned (nat_le (precision basics.Unsigned width) (precision basics.Int None))
basic_promoted basics.Long width = refl
basic_promoted basics.UnsignedLong width = refl
basic_promoted basics.LongLong width = refl
basic_promoted basics.UnsignedLongLong width = refl

integer_promoted : (types : CTypes) (target : CTy) (width : Option ℕ) (found : Option Basic) → basic_of types (form_of_type target) ≡ found → IsSome found → IsPromoted (promoted types target width)
integer_promoted types target width None e some = cc
integer_promoted types target width (Some which) e some =
    subst (λ f. IsPromoted (elim f as (λ _. CTy) [ None ↦ unqualified target | Some one ↦ ty (basic (promoted_basic one width)) false ])) (sym e) (basic_promoted which width, refl)

pub stepped_run : (types : CTypes) (target : CTy) (width : Option ℕ) → IsIntegerType types (unqualified target) ⊎ IsElementPointer types (unqualified target) → IsRun types target (promoted types target width)
stepped_run types (ty form is_const) width (inl is) = inl (record { target_is = is; promoted_is = integer_promoted types (ty form is_const) width (basic_of types form) refl is })
stepped_run types (ty (pointer to) is_const) width (inr is) = inr (record { target_is = refl; same = refl; elements = is })
stepped_run types (ty void is_const) width (inr is) = absurd is
stepped_run types (ty (basic which) is_const) width (inr is) = absurd is
stepped_run types (ty (enum_type number) is_const) width (inr is) = absurd is
stepped_run types (ty (array element length) is_const) width (inr is) = absurd is
stepped_run types (ty (record_type number) is_const) width (inr is) = absurd is
stepped_run types (ty (function result params variadic) is_const) width (inr is) = absurd is
