-- Members of values of structures and unions (ISO C99, 6.5.2.3p3): what a member gives is a value of its type.
use Rattle.std.proofs.Common.{◌≡◌, inl, inr, ℕ, zero, suc, ◌+◌, ◌*◌, ◌^◌, ◌-◌, ◌<◌, ◌≤◌, ◌==◌, nat_le, Bool, true, false, true≢false, if◌then◌else◌, IsTrue, All, List, [], ◌∷◌, length, take, drop, slice_get, option_map, Option, Some, None, Result, Ok, Err, refl, sym, ap, subst, ◌∙◌, arith}
use Rattle.std.proofs.Math.Nat.{mod-lt}
use Rattle.std.proofs.lemmas.Bool.Decides.{nat_tests}
use Rattle.std.proofs.lemmas.List.{length-take-le, length-drop}
use Rattle.std.proofs.lemmas.List.Elements.{All-take, All-drop}
use Rattle.std.proofs.lemmas.Nat.{pow_pos}
use Rattle.std.specs.List.{list_all}
use Rattle.cr_base.specs.declared.layout.Spot.{Spot}
use Rattle.cr_base.specs.declared.refusal.Place.{Place}
use Rattle.cr_base.specs.declared.scalar.Scalar.{Scalar}
use Rattle.cx_core.specs.Conversions.{scalar_of, scalar_of_basic, scalar_of_pointer, basic_of_enum}
use Rattle.cx_core.specs.declared.ty.Basic.{Basic}
use Rattle.cx_core.specs.declared.ty.Basic.TheVariants as basics
use Rattle.cx_core.specs.Layouts.{CLayouts, bytes, whole_extent, layouts_of}
use Rattle.cx_core.specs.Trees.{CTy, ty, void, basic, enum_type, pointer, array, record_type, function, form_of_type, is_const_type, unqualified, CTypes, CProgram, CExpr, expr, member, type_of}
use Rattle.cx_core.specs.Typing.{CHome, IsTyped}
use Rattle.cx_core.specs.ValidTypes.{IsTypeIn, IsComplete, IsResultForm, AreTypes, with_const}
use Rattle.cx_mean.proofs.KeptNodes.{IfGiven, given_where}
use Rattle.cx_mean.specs.Accesses.{CKind, of_scalar, of_record, kind_of, is_field_place, field_value}
use Rattle.cx_mean.specs.Marks.{Marks}
use Rattle.cx_mean.specs.Nodes.{value_part, member_of_kind, member_bits, member_with, member_value, node_done}
use Rattle.cx_mean.specs.Operands.{stuck, needed, accessed, CValue, scalar, cells, names, designates, designates_bits, missing, COperand, Frame, united_operands}
use Rattle.cx_mean.specs.Settings.{setting_of}
use Rattle.mem_bytes.specs.Access.{and_then}
use Rattle.mem_bytes.specs.Bits.{bytes_touched, field_of, field_in}
use Rattle.mem_bytes.specs.Coding.{scalar_size, is_bits, bits_of, set_of, value_of}
use Rattle.mem_bytes.specs.declared.cell.Cell.{Cell}
use Rattle.mem_bytes.specs.declared.fault.Fault.{Fault}
use Rattle.mem_bytes.specs.declared.fault.Fault.TheVariants.{Unset, MixedPointer}
use Rattle.mem_bytes.specs.declared.value.Ptr.{Ptr}
use Rattle.mem_bytes.specs.Memory.{Blocks}
use Rattle.cx_typed_values.specs.Outcomes.{Comes}
use Rattle.cx_typed_work.proofs.Accesses.{IsScalarAccess, IsRecordAccess, IsAccess, access_of, kind_comes}
use Rattle.cx_typed_work.proofs.Bits.{field_means, in_field_place}
use Rattle.cx_typed_work.proofs.Fields.{holder_is_record, member_in}
use Rattle.cx_typed_work.proofs.Given.{value_given}
use Rattle.cx_typed_work.proofs.Inside.{IsFieldInside, IsInside, member_inside}
use Rattle.cx_typed_work.proofs.Loads.{IsKindValue, cells_mean, AreRecordCells}
use Rattle.cx_typed_work.proofs.Nodes.{IsDoneOf, gives_comes, operands_united}
use Rattle.cx_typed_work.proofs.Outcomes.{comes_and, comes_as}
use Rattle.cx_typed_work.proofs.Rows.{extent_whole, some_same}
use Rattle.cx_typed_work.specs.Operands.{IsScalarIn, IsRecordOf, IsValueOfType, IsGiven, IsGivenBy, IsOperandOf}
use Rattle.cx_typed_work.specs.Scenes.{IsTypedCell, IsScene}

-- ---- types of members

-- the type of a member's value is that of the member without qualifiers
value_type : (is_const : Bool) (type : CTy) → IsResultForm (form_of_type (with_const is_const type)) → unqualified (with_const is_const type) ≡ unqualified type
value_type false type is = refl
value_type true (ty void is_const) is = refl
value_type true (ty (basic which) is_const) is = refl
value_type true (ty (enum_type number) is_const) is = refl
value_type true (ty (pointer to) is_const) is = refl
value_type true (ty (array element length) is_const) is = absurd is
value_type true (ty (record_type number) is_const) is = refl
value_type true (ty (function result params variadic) is_const) is = absurd is

value_form : (is_const : Bool) (type : CTy) → IsResultForm (form_of_type (with_const is_const type)) → IsResultForm (form_of_type (unqualified type))
value_form false (ty form is_const) is = is
value_form true (ty void is_const) is = tt
value_form true (ty (basic which) is_const) is = tt
value_form true (ty (enum_type number) is_const) is = tt
value_form true (ty (pointer to) is_const) is = tt
value_form true (ty (array element length) is_const) is = absurd is
value_form true (ty (record_type number) is_const) is = tt
value_form true (ty (function result params variadic) is_const) is = absurd is

plain_complete : (types : CTypes) (type : CTy) → IsComplete types type → IsComplete types (unqualified type)
plain_complete types (ty form is_const) is = is

plain_inside : (types : CTypes) (size : ℕ) (type : CTy) (byte bit width : ℕ) → IsInside types size type byte bit width → IsInside types size (unqualified type) byte bit width
plain_inside types size (ty form is_const) byte bit width is =
    record {
      begins = is.begins;
      ends = is.ends;
      of_bits = λ some.
          let held = is.of_bits some in
          record { field = record { kind = held.field.kind; kind_is = held.field.kind_is; fits = held.field.fits; narrow = held.field.narrow }; low = held.low; ends = held.ends };
    }

pub access_by : (program : CProgram) (unit : ℕ) (type : CTy) → AreTypes program.types → IsTypeIn program.types unit type → IsComplete program.types type → IsResultForm (form_of_type type) → IsAccess program type
access_by program unit (ty form is_const) types type_in complete result = access_of program unit form is_const types type_in complete result

-- ---- sizes of scalars

basic_size : (which : Basic) (layouts : CLayouts) (is_const : Bool) → whole_extent layouts (ty (basic which) is_const) ≡ Some (bytes (scalar_size (scalar_of_basic which)))
basic_size basics.Truth layouts is_const = refl
basic_size basics.Char layouts is_const = refl
basic_size basics.SignedChar layouts is_const = refl
basic_size basics.UnsignedChar layouts is_const = refl
basic_size basics.Short layouts is_const = refl
basic_size basics.UnsignedShort layouts is_const = refl
basic_size basics.Int layouts is_const = refl
basic_size basics.Unsigned layouts is_const = refl
basic_size basics.Long layouts is_const = refl
basic_size basics.UnsignedLong layouts is_const = refl
basic_size basics.LongLong layouts is_const = refl
basic_size basics.UnsignedLongLong layouts is_const = refl

pointer_size : (to : CTy) → scalar_size (scalar_of_pointer to) ≡ 8
pointer_size (ty void is_const) = refl
pointer_size (ty (basic which) is_const) = refl
pointer_size (ty (enum_type number) is_const) = refl
pointer_size (ty (pointer to) is_const) = refl
pointer_size (ty (array element length) is_const) = refl
pointer_size (ty (record_type number) is_const) = refl
pointer_size (ty (function result params variadic) is_const) = refl

enum_size : (found : Option Bool) (kind : Scalar) → option_map (λ is_int. scalar_of_basic (basic_of_enum is_int)) found ≡ Some kind → scalar_size kind ≡ 4
enum_size None kind is = absurd cc
enum_size (Some true) kind is = sym (ap scalar_size (some_same _ kind is))
enum_size (Some false) kind is = sym (ap scalar_size (some_same _ kind is))

-- a scalar has as many bytes as its type
pub scalar_sized : (types : CTypes) (layouts : CLayouts) (type : CTy) (kind : Scalar) → scalar_of types (form_of_type type) ≡ Some kind → whole_extent layouts type ≡ Some (bytes (scalar_size kind))
scalar_sized types layouts (ty (basic which) is_const) kind is = basic_size which layouts is_const ∙ ap (λ k. Some (bytes (scalar_size k))) (some_same _ kind is)
scalar_sized types layouts (ty (enum_type number) is_const) kind is = sym (ap (λ n. Some (bytes n)) (enum_size (slice_get types.enums number) kind is))
scalar_sized types layouts (ty (pointer to) is_const) kind is = sym (ap (λ n. Some (bytes n)) (pointer_size to)) ∙ ap (λ k. Some (bytes (scalar_size k))) (some_same _ kind is)
scalar_sized types layouts (ty void is_const) kind is = absurd cc
scalar_sized types layouts (ty (array element length) is_const) kind is = absurd cc
scalar_sized types layouts (ty (record_type number) is_const) kind is = absurd cc
scalar_sized types layouts (ty (function result params variadic) is_const) kind is = absurd cc

-- ---- cells of a part

length_cells : (held : List Cell) (offset count : ℕ) → offset + count ≤ length held → length (take count (drop offset held)) ≡ count
length_cells held offset count inside = length-take-le count (drop offset held) (omega (arith, length-drop offset held, inside))

part_by : (program : CProgram) (held : List Cell) (offset count : ℕ) (test : Bool) → nat_le (offset + count) (length held) ≡ test → offset + count ≤ length held → All (IsTypedCell program) held
    → Comes (AreRecordCells program count) (if test then Ok (take count (drop offset held)) else Err stuck)
part_by program held offset count true e inside are =
    record { all = length_cells held offset count inside; typed = All-take (IsTypedCell program) count (drop offset held) (All-drop (IsTypedCell program) offset held are) }
part_by program held offset count false e inside are = absurd (true≢false (sym (nat_le_holds (offset + count) (length held) inside) ∙ e))
  where
    nat_le_holds : (n m : ℕ) → n ≤ m → nat_le n m ≡ true
    nat_le_holds n m is = grind (arith, nat_tests)

-- the cells of a part that lies inside
part_comes : (program : CProgram) (held : List Cell) (offset count : ℕ) → offset + count ≤ length held → All (IsTypedCell program) held → Comes (AreRecordCells program count) (value_part held offset count)
part_comes program held offset count inside are = part_by program held offset count (nat_le (offset + count) (length held)) refl inside are

accessed_comes : {A : Type 0} (P : A → Type 0) (found : Result A Fault) → IfGiven P found → Comes P (accessed found)
accessed_comes P (Ok value) is = is
accessed_comes P (Err fault) is = tt

-- ---- what a member gives

-- a member of a value: where it stands in its cells
record IsValueMember (program : CProgram) (type : CTy) (spot : Spot) (held : List Cell) : Type 0 where
  inside : IsInside program.types (length held) type spot.byte spot.bit spot.width
  access : IsAccess program type
  typed : All (IsTypedCell program) held

-- a member that is a scalar
scalar_member : (program : CProgram) (type : CTy) (spot : Spot) (held : List Cell) (from : Option Ptr) (one : IsScalarAccess program type) → spot.width ≡ 0 → IsValueMember program type spot held
    → Comes (IsValueOfType program type) (member_of_kind spot.byte held from (of_scalar one.kind))
scalar_member program type spot held from one zero_is is =
    let fits : spot.byte + scalar_size one.kind ≤ length held = is.inside.ends zero_is (bytes (scalar_size one.kind)) (scalar_sized program.types (layouts_of program.types) type one.kind one.kind_is) in
    comes_and (AreRecordCells program (scalar_size one.kind)) (IsValueOfType program type) (value_part held spot.byte (scalar_size one.kind)) _ (part_comes program held spot.byte (scalar_size one.kind) fits is.typed) (λ part are.
    comes_and (IsKindValue program one.kind) (IsValueOfType program type) (accessed (value_of one.kind part)) _ (accessed_comes (IsKindValue program one.kind) _ (cells_mean program one.kind part one.is_scalar are.typed)) (λ value good.
    record { kind = one.kind; kind_is = one.kind_is; of_kind = good.of_kind; leads = good.leads }))

-- a member that is a structure or union
record_member : (program : CProgram) (type : CTy) (spot : Spot) (held : List Cell) (from : Option Ptr) (one : IsRecordAccess program type) → spot.width ≡ 0 → IsValueMember program type spot held
    → Comes (IsValueOfType program type) (member_of_kind spot.byte held from (of_record one.laid))
record_member program type spot held from one zero_is is =
    let fits : spot.byte + one.laid.size ≤ length held = is.inside.ends zero_is one.laid (extent_whole (layouts_of program.types) type one.laid one.laid_is) in
    comes_and (AreRecordCells program one.laid.size) (IsValueOfType program type) (value_part held spot.byte one.laid.size) _ (part_comes program held spot.byte one.laid.size fits is.typed) (λ part are.
    record { is_record = one.is_record; laid = one.laid; laid_is = one.laid_is; all = are.all; typed = are.typed })

kind_member : (program : CProgram) (type : CTy) (spot : Spot) (held : List Cell) (from : Option Ptr) (kind : CKind) → kind_of (setting_of program) type ≡ Ok kind → IsAccess program type → spot.width ≡ 0 → IsValueMember program type spot held
    → Comes (IsValueOfType program type) (member_of_kind spot.byte held from kind)
kind_member program type spot held from kind e (inl one) zero_is is =
    let same : of_scalar one.kind ≡ kind = cc (one.access, e) in
    subst (λ k. Comes (IsValueOfType program type) (member_of_kind spot.byte held from k)) same (scalar_member program type spot held from one zero_is is)
kind_member program type spot held from kind e (inr one) zero_is is =
    let same : of_record one.laid ≡ kind = cc (one.access, e) in
    subst (λ k. Comes (IsValueOfType program type) (member_of_kind spot.byte held from k)) same (record_member program type spot held from one zero_is is)

field_below : (bit width : ℕ) (part : List Cell) → IfGiven (λ n. n < 2 ^ width) (field_in bit width part)
field_below bit width part =
    given_where (λ n. n < 2 ^ width) (field_of bit width (set_of part) == 2 ^ width - 1) (if list_all is_bits part then Ok (field_of bit width (bits_of part)) else Err MixedPointer) Unset (λ _.
    given_where (λ n. n < 2 ^ width) (list_all is_bits part) (Ok (field_of bit width (bits_of part))) MixedPointer (λ _. mod-lt _ (pow_pos width)))

pub field_place_is : (bit width : ℕ) → bit < 8 → 0 < width → width ≤ 32 → IsTrue (is_field_place bit width)
field_place_is bit width low some narrow = grind (arith, nat_tests)

pub bytes_inside : (byte bit width size : ℕ) → 8 * byte + bit + width ≤ 8 * size → byte + bytes_touched bit width ≤ size
bytes_inside byte bit width size ends = omega (arith, ends)

-- a member that is a bit-field
bits_member : (program : CProgram) (type : CTy) (spot : Spot) (width : ℕ) (held : List Cell) → 0 < width → (one : IsFieldInside program.types (length held) type spot.byte spot.bit width) → All (IsTypedCell program) held
    → Comes (IsValueOfType program type) (member_bits spot width held one.field.kind)
bits_member program type spot width held some one are =
    in_field_place (IsValueOfType program type) spot.bit width _ (field_place_is spot.bit width one.low some one.field.narrow)
    (comes_and (AreRecordCells program (bytes_touched spot.bit width)) (IsValueOfType program type) (value_part held spot.byte (bytes_touched spot.bit width)) _
    (part_comes program held spot.byte (bytes_touched spot.bit width) (bytes_inside spot.byte spot.bit width (length held) one.ends) are) (λ part _.
    comes_and (λ n. n < 2 ^ width) (IsValueOfType program type) (accessed (field_in spot.bit width part)) _ (accessed_comes (λ n. n < 2 ^ width) _ (field_below spot.bit width part)) (λ bits below.
    comes_and (IsScalarIn program type) (IsValueOfType program type) (field_value one.field.kind width bits) _ (field_means program type width bits one.field below) (λ value fits. fits))))

member_by : (program : CProgram) (type : CTy) (spot : Spot) (held : List Cell) (from : Option Ptr) (width : ℕ) → spot.width ≡ width → IsValueMember program type spot held
    → Comes (IsValueOfType program type) (member_with (setting_of program) type spot width held from)
member_by program type spot held from zero e is =
    comes_and (λ kind. kind_of (setting_of program) type ≡ Ok kind) (IsValueOfType program type) (kind_of (setting_of program) type) (member_of_kind spot.byte held from) (kind_comes program type is.access) (λ kind k.
    kind_member program type spot held from kind k is.access e is)
member_by program type spot held from (suc n) e is =
    let one : IsFieldInside program.types (length held) type spot.byte spot.bit (suc n) =
    subst (IsFieldInside program.types (length held) type spot.byte spot.bit) e (is.inside.of_bits (λ none. absurd (omega (arith, e, none)))) in
    subst (λ found. Comes (IsValueOfType program type) (and_then (needed found) (member_bits spot (suc n) held))) (sym one.field.kind_is)
    (bits_member program type spot (suc n) held (omega arith) one is.typed)

-- ---- members of typed values

value_member : (home : CHome) (type : CTy) (place : Place) (of : CExpr) (spot : Spot) (held : List Cell) → AreTypes home.program.types → IsTyped home (expr type place (member of spot)) → IsRecordOf home.program (type_of of) held
    → IsValueMember home.program type spot held
value_member home type place of spot held types is one =
    let value = is.1.1 in
    let part = value.member in
    let result : IsResultForm (form_of_type (with_const (is_const_type (type_of of)) part.one.type)) = subst (λ (t : CTy). IsResultForm (form_of_type t)) part.type_is value.no_array in
    let same : unqualified part.one.type ≡ type =
    sym (value_type (is_const_type (type_of of)) part.one.type result) ∙ sym (ap unqualified part.type_is) ∙ sym value.type_is in
    let inside = member_inside home.program.types (type_of of) part.index part.one spot one.laid types part.member_is part.named part.spot_is (extent_whole (layouts_of home.program.types) (type_of of) one.laid one.laid_is) in
    let complete = plain_complete home.program.types part.one.type (member_in home.program.types (form_of_type (type_of of)) part.index part.one types part.member_is).1.complete in
    record {
      inside = subst (λ (t : CTy). IsInside home.program.types (length held) t spot.byte spot.bit spot.width) same
          (subst (λ n. IsInside home.program.types n (unqualified part.one.type) spot.byte spot.bit spot.width) (sym one.all) (plain_inside home.program.types one.laid.size part.one.type spot.byte spot.bit spot.width inside));
      access = access_by home.program home.unit type types is.0 (subst (IsComplete home.program.types) same complete)
          (subst (λ (t : CTy). IsResultForm (form_of_type t)) same (value_form (is_const_type (type_of of)) part.one.type result));
      typed = one.typed;
    }

holder_no_scalar : (home : CHome) (type : CTy) (place : Place) (of : CExpr) (spot : Spot) (kind : Scalar) → IsTyped home (expr type place (member of spot)) → scalar_of home.program.types (form_of_type (type_of of)) ≡ Some kind → ⊥
holder_no_scalar home type place of spot kind is kind_is =
    let part = is.1.1.member in
    holder_is_record home.program.types (form_of_type (type_of of)) part.index part.one kind part.member_is kind_is

typed_member : (home : CHome) (frame : Frame) (blocks : Blocks) (type : CTy) (place : Place) (of : CExpr) (spot : Spot) (value : CValue) → AreTypes home.program.types → IsTyped home (expr type place (member of spot)) → IsGiven home.program of value
    → Comes (IsGivenBy home (expr type place (member of spot))) (member_value (setting_of home.program) frame blocks type (type_of of) spot value)
typed_member home frame blocks type place of spot (cells held from) types is (inl one) =
    comes_as (IsValueOfType home.program type) (IsGivenBy home (expr type place (member of spot))) _
    (member_by home.program type spot held from spot.width refl (value_member home type place of spot held types is one)) (λ value good. inr (is, inl good))
typed_member home frame blocks type place of spot (cells held from) types is (inr lacks) = absurd lacks.1
typed_member home frame blocks type place of spot missing types is one = tt
typed_member home frame blocks type place of spot (scalar value) types is (inl one) = absurd (holder_no_scalar home type place of spot one.kind is one.kind_is)
typed_member home frame blocks type place of spot (scalar value) types is (inr lacks) = absurd lacks.1
typed_member home frame blocks type place of spot (names number) types is (inl one) = absurd one
typed_member home frame blocks type place of spot (names number) types is (inr lacks) = absurd lacks.1
typed_member home frame blocks type place of spot (designates to) types is (inl one) = absurd one
typed_member home frame blocks type place of spot (designates to) types is (inr lacks) = absurd lacks.1
typed_member home frame blocks type place of spot (designates_bits at bit width) types is (inl one) = absurd one
typed_member home frame blocks type place of spot (designates_bits at bit width) types is (inr lacks) = absurd lacks.1

-- ---- the node

pub member_value_done : (home : CHome) (frame : Frame) (blocks : Blocks) (type : CTy) (place : Place) (of : CExpr) (spot : Spot) (one : COperand) → IsScene home frame blocks → IsTyped home (expr type place (member of spot)) → IsOperandOf home of one
    → Comes (IsDoneOf home (expr type place (member of spot)) blocks) (node_done (setting_of home.program) type (member of spot) frame blocks (one ∷ []))
member_value_done home frame blocks type place of spot one scene is given =
    let node = expr type place (member of spot) in
    comes_and (λ (_ : Marks). Unit {0}) (IsDoneOf home node blocks) (united_operands (one ∷ [])) _ (operands_united (one ∷ [])) (λ marks _.
    gives_comes home node marks blocks (member_value (setting_of home.program) frame blocks type (type_of of) spot one.value) scene.memory
    (typed_member home frame blocks type place of spot one.value scene.linked.types is (value_given home of one.value is.1.0 given.given)))
