-- Loads and stores of objects (ISO C99, 6.3.2.1p2, 6.5.16.1 and 6.7.2.1p9). That an access is inside its object is found out
-- first, then whether it conflicts with what its operands wrote still, then what it finds.
use Rattle.std.specs.Prelude.{ℕ, ◌^◌, Bool, ◌&&◌, not, ◌==◌, nat_lt, nat_le, if◌then◌else◌, pos, List, length, Option, Some, None, Result, Ok, Err}
use Rattle.cr_base.specs.declared.layout.Laid.{Laid}
use Rattle.cr_base.specs.declared.rule.URule.TheVariants.{U6, U14, U16}
use Rattle.cr_base.specs.declared.scalar.Scalar.{Scalar}
use Rattle.cr_base.specs.declared.scalar.Scalar.TheVariants.{Truth, Whole, Object, Code}
use Rattle.cr_base.specs.Scalar.{residue, wrapped}
use Rattle.cx_core.specs.Trees.{CTy, CTyForm, void, basic, enum_type, pointer, array, record_type, function, form_of_type}
use Rattle.cr_world.specs.Known.{bytes_overlap}
use Rattle.mem_bytes.specs.Pointers.{is_same_place}
use Rattle.cx_mean.specs.Marks.{Marks, bits_of_bytes, bits_of_field, with_read, with_write}
use Rattle.cx_mean.specs.Operands.{CWhy, breaks, stuck, needed, accessed, CValue, scalar, cells, names, designates, designates_bits, missing, Frame, place_in, sequenced_after}
use Rattle.cx_mean.specs.Settings.{CSetting, scalar_in_type, extent_in}
use Rattle.cx_mean.specs.Values.{value_of_kind, number_in}
use Rattle.mem_bytes.specs.Access.{and_then, part_at, value_at, after_put, field_at, after_put_bits, record_at, after_put_record}
use Rattle.mem_bytes.specs.Bits.{bytes_touched}
use Rattle.mem_bytes.specs.Coding.{scalar_size}
use Rattle.mem_bytes.specs.declared.cell.Cell.{Cell}
use Rattle.mem_bytes.specs.declared.value.Ptr.{Ptr}
use Rattle.mem_bytes.specs.declared.value.Value.{Value}
use Rattle.mem_bytes.specs.declared.value.Value.TheVariants.{Whole as Number, Null, Object as Pointer, Code as Function}
use Rattle.mem_bytes.specs.Memory.{Blocks}

-- ---- objects

-- what is loaded or stored in one access: a scalar, or a structure or union of a size and an alignment
pub data CKind : Type 0 where
  of_scalar : Scalar → CKind
  of_record : Laid → CKind

abbrev pub scalar_kind : Option Scalar → Result CKind CWhy
scalar_kind None = Err stuck
scalar_kind (Some kind) = Ok (of_scalar kind)

abbrev pub record_kind : Option Laid → Result CKind CWhy
record_kind None = Err stuck
record_kind (Some laid) = Ok (of_record laid)

abbrev pub kind_by : CTyForm → Option Scalar → Option Laid → Result CKind CWhy
kind_by void kind laid = Err stuck
kind_by (basic which) kind laid = scalar_kind kind
kind_by (enum_type number) kind laid = scalar_kind kind
kind_by (pointer to) kind laid = scalar_kind kind
kind_by (array element length) kind laid = Err stuck
kind_by (record_type number) kind laid = record_kind laid
kind_by (function result params variadic) kind laid = Err stuck

abbrev pub kind_of : CSetting → CTy → Result CKind CWhy
kind_of setting type = kind_by (form_of_type type) (scalar_in_type setting type) (extent_in setting type)

-- the place of an access: not through null (6.5.3.2p4)
abbrev pub object_at : Value → Result Ptr CWhy
object_at (Pointer at) = Ok at
object_at Null = Err (breaks U6)
object_at (Number number) = Err stuck
object_at (Function number) = Err stuck

-- the value that a bit-field of a declared type has, by its bits (6.7.2.1p9)
abbrev pub field_value : Scalar → (width : ℕ) → ℕ → Result Value CWhy
field_value Truth width bits = Ok (Number (pos bits))
field_value (Whole size signed) width bits = Ok (Number (wrapped (Whole width signed) (pos bits)))
field_value Object width bits = Err stuck
field_value Code width bits = Err stuck

-- the bit at which a bit-field begins in its first byte, and its width, are those of the profile; no other stands in a typed
-- program
abbrev pub is_field_place : (bit width : ℕ) → Bool
is_field_place bit width = nat_lt bit 8 && nat_le 1 width && nat_le width 32

abbrev pub at_field_place : {A : Type 0} → (bit width : ℕ) → Result A CWhy → Result A CWhy
at_field_place bit width outcome = if is_field_place bit width then outcome else Err stuck

-- ---- loads

-- a value that was loaded, and the marks with what was read
pub record CLoaded : Type 0 where
  pub value : CValue
  pub marks : Marks

abbrev pub loaded_scalar : Blocks → Ptr → Marks → Scalar → Result CLoaded CWhy
loaded_scalar blocks at marks kind =
    and_then (accessed (part_at blocks at (scalar_size kind))) (λ _.
    and_then (sequenced_after marks (bits_of_bytes at (scalar_size kind))) (λ range.
    and_then (accessed (value_at blocks at kind)) (λ value.
    Ok (record { value = scalar value; marks = with_read range marks }))))

abbrev pub loaded_record : Blocks → Ptr → Marks → Laid → Result CLoaded CWhy
loaded_record blocks at marks laid =
    and_then (accessed (part_at blocks at laid.size)) (λ _.
    and_then (sequenced_after marks (bits_of_bytes at laid.size)) (λ range.
    and_then (accessed (record_at blocks at laid.size laid.align)) (λ held.
    Ok (record { value = cells held (Some at); marks = with_read range marks }))))

abbrev pub loaded_kind : Blocks → Ptr → Marks → CKind → Result CLoaded CWhy
loaded_kind blocks at marks (of_scalar kind) = loaded_scalar blocks at marks kind
loaded_kind blocks at marks (of_record laid) = loaded_record blocks at marks laid

abbrev pub loaded_bits : Blocks → Ptr → (bit width : ℕ) → Marks → Scalar → Result CLoaded CWhy
loaded_bits blocks at bit width marks kind =
    at_field_place bit width
    (and_then (accessed (part_at blocks at (bytes_touched bit width))) (λ _.
    and_then (sequenced_after marks (bits_of_field at bit width)) (λ range.
    and_then (accessed (field_at blocks at bit width)) (λ bits.
    and_then (field_value kind width bits) (λ value.
    Ok (record { value = scalar value; marks = with_read range marks }))))))

abbrev pub loaded_from : CSetting → Blocks → CTy → Marks → Result Value CWhy → Result CLoaded CWhy
loaded_from setting blocks type marks place =
    and_then (kind_of setting type) (λ kind.
    and_then place (λ to.
    and_then (object_at to) (λ at. loaded_kind blocks at marks kind)))

-- the value of a type that the object holds which an lvalue designates (6.3.2.1p2)
abbrev pub loaded : CSetting → Frame → Blocks → CTy → CValue → Marks → Result CLoaded CWhy
loaded setting frame blocks type (designates_bits at bit width) marks =
    and_then (needed (scalar_in_type setting type)) (loaded_bits blocks at bit width marks)
loaded setting frame blocks type place marks = loaded_from setting blocks type marks (place_in frame place)

-- ---- stores

-- what a store gives (6.5.16p3), the marks with what was written, and the memory after it
pub record CStored : Type 0 where
  pub value : CValue
  pub marks : Marks
  pub blocks : Blocks

abbrev pub stored_scalar : Blocks → Ptr → Marks → CValue → Scalar → Result CStored CWhy
stored_scalar blocks at marks new kind =
    and_then (value_of_kind kind new) (λ value.
    and_then (accessed (part_at blocks at (scalar_size kind))) (λ _.
    and_then (sequenced_after marks (bits_of_bytes at (scalar_size kind))) (λ range.
    and_then (accessed (after_put blocks at kind value)) (λ after.
    Ok (record { value = scalar value; marks = with_write range marks; blocks = after })))))

-- the cells of a structure or union of so many bytes; U14 where there is no value
abbrev pub sized : ℕ → List Cell → Result (List Cell) CWhy
sized size held = if length held == size then Ok held else Err stuck

abbrev pub cells_in : ℕ → CValue → Result (List Cell) CWhy
cells_in size (cells held from) = sized size held
cells_in size missing = Err (breaks U14)
cells_in size (scalar value) = Err stuck
cells_in size (names number) = Err stuck
cells_in size (designates to) = Err stuck
cells_in size (designates_bits at bit width) = Err stuck

abbrev pub source_of : CValue → Option Ptr
source_of (cells held from) = from
source_of missing = None
source_of (scalar value) = None
source_of (names number) = None
source_of (designates to) = None
source_of (designates_bits at bit width) = None

-- two places of so many bytes overlap inexactly
abbrev pub is_inexact : ℕ → Ptr → Ptr → Bool
is_inexact size first second = bytes_overlap first second size && not (is_same_place first second)

-- an object that is read and one that is written don't overlap inexactly (6.5.16.1p3)
abbrev pub exact_or_apart : ℕ → Ptr → Option Ptr → Result Ptr CWhy
exact_or_apart size at None = Ok at
exact_or_apart size at (Some from) = if is_inexact size at from then Err (breaks U16) else Ok at

abbrev pub stored_record : Blocks → Ptr → Marks → CValue → Laid → Result CStored CWhy
stored_record blocks at marks new laid =
    and_then (cells_in laid.size new) (λ held.
    and_then (accessed (part_at blocks at laid.size)) (λ _.
    and_then (sequenced_after marks (bits_of_bytes at laid.size)) (λ range.
    and_then (accessed (record_at blocks at laid.size laid.align)) (λ _.
    and_then (exact_or_apart laid.size at (source_of new)) (λ _.
    and_then (accessed (after_put_record blocks at laid.align held)) (λ after.
    Ok (record { value = cells held None; marks = with_write range marks; blocks = after })))))))

abbrev pub stored_kind : Blocks → Ptr → Marks → CValue → CKind → Result CStored CWhy
stored_kind blocks at marks new (of_scalar kind) = stored_scalar blocks at marks new kind
stored_kind blocks at marks new (of_record laid) = stored_record blocks at marks new laid

-- a bit-field holds as many low bits of the number as it has; what it then holds is the value of the assignment
abbrev pub stored_bits : Blocks → Ptr → (bit width : ℕ) → Marks → CValue → Scalar → Result CStored CWhy
stored_bits blocks at bit width marks new kind =
    at_field_place bit width
    (and_then (value_of_kind kind new) (λ one.
    and_then (number_in one) (λ number.
    and_then (accessed (part_at blocks at (bytes_touched bit width))) (λ _.
    and_then (sequenced_after marks (bits_of_field at bit width)) (λ range.
    and_then (accessed (after_put_bits blocks at bit width (residue number (2 ^ width)))) (λ after.
    and_then (field_value kind width (residue number (2 ^ width))) (λ value.
    Ok (record { value = scalar value; marks = with_write range marks; blocks = after }))))))))

abbrev pub stored_to : CSetting → Blocks → CTy → CValue → Marks → Result Value CWhy → Result CStored CWhy
stored_to setting blocks type new marks place =
    and_then (kind_of setting type) (λ kind.
    and_then place (λ to.
    and_then (object_at to) (λ at. stored_kind blocks at marks new kind)))

-- a value of a type is stored in the object that an lvalue designates (6.5.16.1p2)
abbrev pub stored : CSetting → Frame → Blocks → CTy → CValue → CValue → Marks → Result CStored CWhy
stored setting frame blocks type (designates_bits at bit width) new marks =
    and_then (needed (scalar_in_type setting type)) (stored_bits blocks at bit width marks new)
stored setting frame blocks type place new marks = stored_to setting blocks type new marks (place_in frame place)
