-- What is stored of typed values leaves a typed memory.
use Rattle.std.proofs.Common.{◌≡◌, ◌⊎◌, inl, inr, ℕ, ◌+◌, ◌<◌, ◌≤◌, ◌==◌, Bool, true, false, ◌&&◌, if◌then◌else◌, ℤ, int_le, int_lt, ◌≤ℤ◌, ◌<ℤ◌, All, List, [], ◌∷◌, length, slice_set, Option, Some, None, Result, Ok, Err, refl, sym, ap, subst, ◌∙◌, true≢false, arith, rules, tests}
use Rattle.std.proofs.lemmas.Bool.{eqb-true}
use Rattle.std.proofs.lemmas.Bool.Decides.{nat_tests}
use Rattle.cr_base.specs.Scalar.{IsInRange, least, above}
use Rattle.cr_base.specs.declared.layout.Laid.{Laid}
use Rattle.cr_base.specs.declared.rule.URule.TheVariants.{U1, U14, U16}
use Rattle.cr_base.specs.declared.scalar.Scalar.{Scalar}
use Rattle.cr_base.specs.declared.scalar.Scalar.TheVariants.{Truth, Whole, Object, Code}
use Rattle.cx_core.specs.Conversions.{scalar_of}
use Rattle.cx_core.specs.Trees.{CTy, CTyForm, void, basic, enum_type, pointer, array, record_type, function, form_of_type, CTypes, CProgram}
use Rattle.cx_mean.specs.Accesses.{CKind, of_scalar, of_record, kind_of, object_at, CStored, stored_scalar, sized, cells_in, source_of, is_inexact, exact_or_apart, stored_record, stored_kind, stored_to}
use Rattle.cx_mean.specs.Marks.{Marks, Range, bits_of_bytes, with_write}
use Rattle.cx_mean.specs.Operands.{CWhy, breaks, stuck, accessed, sequenced_after, CValue, scalar, cells, names, designates, designates_bits, missing, scalar_value}
use Rattle.cx_mean.specs.Settings.{setting_of, extent_in}
use Rattle.cx_mean.specs.Values.{is_of_kind, value_of_kind}
use Rattle.cx_numbers.specs.Numbers.{represents}
use Rattle.mem_bytes.proofs.Coded.{length-cells_of}
use Rattle.mem_bytes.proofs.Reached.{and_then_ok, changed, part_ok, scalar_part_ok}
use Rattle.mem_bytes.specs.Access.{and_then, part_of, scalar_part_of, part_at, after_put, is_record_aligned, record_part_of, block_with_record, record_at, after_put_record}
use Rattle.mem_bytes.specs.Coding.{IsScalar, IsValueOf, scalar_size, cells_of}
use Rattle.mem_bytes.specs.declared.cell.Cell.{Cell}
use Rattle.mem_bytes.specs.declared.fault.Fault.{Fault}
use Rattle.mem_bytes.specs.declared.fault.Fault.TheVariants.{Misaligned}
use Rattle.mem_bytes.specs.declared.value.Ptr.{Ptr}
use Rattle.mem_bytes.specs.declared.value.Value.{Value}
use Rattle.mem_bytes.specs.declared.value.Value.TheVariants.{Whole as Number, Null, Object as Pointer, Code as Function}
use Rattle.mem_bytes.specs.Laws.{Writes}
use Rattle.mem_bytes.specs.Memory.{Block, Blocks, with_part}
use Rattle.cx_typed_values.specs.Outcomes.{Comes}
use Rattle.cx_typed_work.proofs.Accesses.{IsScalarAccess, IsRecordAccess, IsAccess, sequenced_comes, object_comes, kind_comes}
use Rattle.cx_typed_work.proofs.Memories.{typed_value, written_typed, written_shapes}
use Rattle.cx_typed_work.proofs.Outcomes.{comes_and, comes_else, comes_accessed}
use Rattle.cx_typed_work.specs.Operands.{IsValueOfType, IsMissing, IsObjectPointer, IsRecordForm, IsRecordOf}
use Rattle.cx_typed_work.specs.Scenes.{IsLeading, IsTypedCell, IsTypedMemory, AreSameShapes}

-- ---- what is stored

-- a store gives the value that it stored, and leaves a typed memory with the same live blocks
pub record IsStoredOf (program : CProgram) (type : CTy) (before : Blocks) (one : CStored) : Type 0 where
  pub given : IsValueOfType program type one.value
  pub memory : IsTypedMemory program one.blocks
  pub shapes : AreSameShapes before one.blocks

-- a value of a type, or none
abbrev pub IsStorable : CProgram → CTy → CValue → Type 0
IsStorable program type value = IsValueOfType program type value ⊎ IsMissing value

both_true : (one other : Bool) → one ≡ true → other ≡ true → (one && other) ≡ true
both_true true true a b = refl
both_true true false a b = cc
both_true false other a b = cc

represented : (kind : Scalar) (number : ℤ) → IsInRange kind number → represents kind number ≡ true
represented kind number inside =
    both_true (int_le (least kind) number) (int_lt number (above kind)) (search (rules, tests)) (search (rules, tests))

of_kind : (kind : Scalar) (value : Value) → IsValueOf kind value → is_of_kind kind value ≡ true
of_kind Truth (Number number) is = represented Truth number is
of_kind (Whole width signed) (Number number) is = represented (Whole width signed) number is
of_kind Object Null is = refl
of_kind Object (Pointer at) is = refl
of_kind Code Null is = refl
of_kind Code (Function number) is = refl
of_kind Truth Null is = absurd is
of_kind Truth (Pointer at) is = absurd is
of_kind Truth (Function number) is = absurd is
of_kind (Whole width signed) Null is = absurd is
of_kind (Whole width signed) (Pointer at) is = absurd is
of_kind (Whole width signed) (Function number) is = absurd is
of_kind Object (Number number) is = absurd is
of_kind Object (Function number) is = absurd is
of_kind Code (Number number) is = absurd is
of_kind Code (Pointer at) is = absurd is

-- a value to be stored in a scalar
pub record IsNewValue (program : CProgram) (kind : Scalar) (value : Value) : Type 0 where
  pub of_kind : IsValueOf kind value
  pub leads : IsLeading program value

tested_kind : (program : CProgram) (kind : Scalar) (value : Value) (test : Bool) → is_of_kind kind value ≡ test → IsNewValue program kind value → Comes (IsNewValue program kind) (if test then Ok value else Err stuck)
tested_kind program kind value true e is = is
tested_kind program kind value false e is = absurd (true≢false (sym (of_kind kind value is.of_kind) ∙ e))

pub record_no_scalar : (types : CTypes) (form : CTyForm) (kind : Scalar) → IsRecordForm form → scalar_of types form ≡ Some kind → ⊥
record_no_scalar types (record_type number) kind is e = cc
record_no_scalar types void kind is e = is
record_no_scalar types (basic which) kind is e = is
record_no_scalar types (enum_type number) kind is e = is
record_no_scalar types (pointer to) kind is e = is
record_no_scalar types (array element length) kind is e = is
record_no_scalar types (function result params variadic) kind is e = is

pub new_scalar : (program : CProgram) (type : CTy) (kind : Scalar) (new : CValue) → scalar_of program.types (form_of_type type) ≡ Some kind → IsStorable program type new → Comes (IsNewValue program kind) (value_of_kind kind new)
new_scalar program type kind (scalar value) e (inl is) =
    let same : is.kind ≡ kind = cc (is.kind_is, e) in
    tested_kind program kind value (is_of_kind kind value) refl (record { of_kind = subst (λ k. IsValueOf k value) same is.of_kind; leads = is.leads })
new_scalar program type kind (scalar value) e (inr is) = absurd is
new_scalar program type kind (cells held from) e (inl is) = absurd (record_no_scalar program.types (form_of_type type) kind is.is_record e)
new_scalar program type kind (cells held from) e (inr is) = absurd is
new_scalar program type kind missing e (inl is) = absurd is
new_scalar program type kind missing e (inr is) = tt
new_scalar program type kind (names number) e (inl is) = absurd is
new_scalar program type kind (names number) e (inr is) = absurd is
new_scalar program type kind (designates to) e (inl is) = absurd is
new_scalar program type kind (designates to) e (inr is) = absurd is
new_scalar program type kind (designates_bits at bit width) e (inl is) = absurd is
new_scalar program type kind (designates_bits at bit width) e (inr is) = absurd is

-- ---- scalars

-- the write of a scalar is one of the cells of its value
scalar_writes : (memory after : Blocks) (at : Ptr) (kind : Scalar) (value : Value) → IsScalar kind → IsValueOf kind value → after_put memory at kind value ≡ Ok after
    → (writes : Writes memory at (scalar_size kind) after) × (writes.cells ≡ cells_of kind value)
scalar_writes memory after at kind value p q e =
    let held = cells_of kind value in
    let change = changed memory after at.block (λ block. and_then (scalar_part_of block at.offset kind) (λ _. Ok (with_part block at.offset held))) e in
    let parts = and_then_ok (scalar_part_of change.block at.offset kind) (λ _. Ok (with_part change.block at.offset held)) change.new change.stepped in
    let reached = scalar_part_ok change.block at.offset kind parts.0 parts.1 in
    let inside = part_ok change.block at.offset (scalar_size kind) parts.0 reached.0 in
    let new : change.new ≡ with_part change.block at.offset held = cc (parts.2) in (
      record {
        block = change.block;
        cells = held;
        live = change.live;
        many = length-cells_of kind value p q;
        within = inside.0;
        made = change.made ∙ ap (λ (block : Block). slice_set memory at.block (Some block)) new;
      },
      refl,
    )

scalar_stored : (program : CProgram) (type : CTy) (blocks : Blocks) (at : Ptr) (marks : Marks) (new : CValue) (one : IsScalarAccess program type) → IsTypedMemory program blocks → IsStorable program type new
    → Comes (IsStoredOf program type blocks) (stored_scalar blocks at marks new one.kind)
scalar_stored program type blocks at marks new one memory is =
    comes_and (IsNewValue program one.kind) (IsStoredOf program type blocks) (value_of_kind one.kind new) _ (new_scalar program type one.kind new one.kind_is is) (λ value fits.
    comes_and (λ _. Unit {0}) (IsStoredOf program type blocks) (accessed (part_at blocks at (scalar_size one.kind))) _ (comes_accessed (λ _. Unit {0}) _ (λ _ _. tt)) (λ _ _.
    comes_and (λ _. Unit {0}) (IsStoredOf program type blocks) (sequenced_after marks (bits_of_bytes at (scalar_size one.kind))) _ (sequenced_comes marks _) (λ range _.
    comes_and (λ after. after_put blocks at one.kind value ≡ Ok after) (IsStoredOf program type blocks) (accessed (after_put blocks at one.kind value)) _ (comes_accessed (λ after. after_put blocks at one.kind value ≡ Ok after) _ (λ after e. e)) (λ after made.
    let writes = scalar_writes blocks after at one.kind value one.is_scalar fits.of_kind made in
    record {
      given = record { kind = one.kind; kind_is = one.kind_is; of_kind = fits.of_kind; leads = fits.leads };
      memory = written_typed program blocks after at (scalar_size one.kind) writes.0 memory (subst (All (IsTypedCell program)) (sym writes.1) (typed_value program one.kind value fits.leads));
      shapes = written_shapes blocks after at (scalar_size one.kind) writes.0;
    }))))

-- ---- structures and unions

-- the cells of a value of a structure or union
pub record AreNewCells (program : CProgram) (size : ℕ) (held : List Cell) : Type 0 where
  all : length held ≡ size
  typed : All (IsTypedCell program) held

sized_cells : (program : CProgram) (size : ℕ) (held : List Cell) (test : Bool) → (length held == size) ≡ test → AreNewCells program size held → Comes (AreNewCells program size) (if test then Ok held else Err stuck)
sized_cells program size held true e is = is
sized_cells program size held false e is = absurd (true≢false (sym (ap (λ n. n == size) is.all ∙ same_number size) ∙ e))
  where
    same_number : (n : ℕ) → (n == n) ≡ true
    same_number n = grind (arith, nat_tests)

new_cells : (program : CProgram) (type : CTy) (laid : Laid) (new : CValue) → extent_in (setting_of program) type ≡ Some laid → IsRecordForm (form_of_type type) → IsStorable program type new
    → Comes (AreNewCells program laid.size) (cells_in laid.size new)
new_cells program type laid (cells held from) e record_is (inl is) =
    let same : is.laid ≡ laid = cc (is.laid_is, e) in
    sized_cells program laid.size held (length held == laid.size) refl (record { all = is.all ∙ ap (λ one. one.size) same; typed = is.typed })
new_cells program type laid (cells held from) e record_is (inr is) = absurd is
new_cells program type laid (scalar value) e record_is (inl is) = absurd (record_no_scalar program.types (form_of_type type) is.kind record_is is.kind_is)
new_cells program type laid (scalar value) e record_is (inr is) = absurd is
new_cells program type laid missing e record_is (inl is) = absurd is
new_cells program type laid missing e record_is (inr is) = tt
new_cells program type laid (names number) e record_is (inl is) = absurd is
new_cells program type laid (names number) e record_is (inr is) = absurd is
new_cells program type laid (designates to) e record_is (inl is) = absurd is
new_cells program type laid (designates to) e record_is (inr is) = absurd is
new_cells program type laid (designates_bits at bit width) e record_is (inl is) = absurd is
new_cells program type laid (designates_bits at bit width) e record_is (inr is) = absurd is

exact_comes : (size : ℕ) (at : Ptr) (from : Option Ptr) → Comes (λ (_ : Ptr). Unit {0}) (exact_or_apart size at from)
exact_comes size at None = tt
exact_comes size at (Some from) = comes_else (λ (_ : Ptr). Unit {0}) (is_inexact size at from) U16 at tt

-- the write of a structure or union is one of its cells
record_writes : (blocks after : Blocks) (at : Ptr) (align : ℕ) (held : List Cell) → after_put_record blocks at align held ≡ Ok after → (writes : Writes blocks at (length held) after) × (writes.cells ≡ held)
record_writes blocks after at align held made =
    let change = changed blocks after at.block (λ block. block_with_record block at.offset align held) made in
    let parts = and_then_ok (record_part_of change.block at.offset (length held) align) (λ _. Ok (with_part change.block at.offset held)) change.new change.stepped in
    let part = and_then_ok (part_of change.block at.offset (length held)) (λ found. if is_record_aligned align change.block at.offset then Ok found else Err Misaligned) parts.0 parts.1 in
    let new : change.new ≡ with_part change.block at.offset held = cc (parts.2) in (
      record {
        block = change.block;
        cells = held;
        live = change.live;
        many = refl;
        within = (part_ok change.block at.offset (length held) part.0 part.1).0;
        made = change.made ∙ ap (λ (block : Block). slice_set blocks at.block (Some block)) new;
      },
      refl,
    )

record_stored : (program : CProgram) (type : CTy) (blocks : Blocks) (at : Ptr) (marks : Marks) (new : CValue) (one : IsRecordAccess program type) → IsTypedMemory program blocks → IsStorable program type new
    → Comes (IsStoredOf program type blocks) (stored_record blocks at marks new one.laid)
record_stored program type blocks at marks new one memory is =
    comes_and (AreNewCells program one.laid.size) (IsStoredOf program type blocks) (cells_in one.laid.size new) _ (new_cells program type one.laid new one.laid_is one.is_record is) (λ held fits.
    comes_and (λ _. Unit {0}) (IsStoredOf program type blocks) (accessed (part_at blocks at one.laid.size)) _ (comes_accessed (λ _. Unit {0}) _ (λ _ _. tt)) (λ _ _.
    comes_and (λ _. Unit {0}) (IsStoredOf program type blocks) (sequenced_after marks (bits_of_bytes at one.laid.size)) _ (sequenced_comes marks _) (λ range _.
    comes_and (λ _. Unit {0}) (IsStoredOf program type blocks) (accessed (record_at blocks at one.laid.size one.laid.align)) _ (comes_accessed (λ _. Unit {0}) _ (λ _ _. tt)) (λ _ _.
    comes_and (λ _. Unit {0}) (IsStoredOf program type blocks) (exact_or_apart one.laid.size at (source_of new)) _ (exact_comes one.laid.size at (source_of new)) (λ _ _.
    comes_and (λ after. after_put_record blocks at one.laid.align held ≡ Ok after) (IsStoredOf program type blocks) (accessed (after_put_record blocks at one.laid.align held)) _ (comes_accessed (λ after. after_put_record blocks at one.laid.align held ≡ Ok after) _ (λ after e. e)) (λ after made.
    let writes = record_writes blocks after at one.laid.align held made in
    record {
      given = record { is_record = one.is_record; laid = one.laid; laid_is = one.laid_is; all = fits.all; typed = fits.typed };
      memory = written_typed program blocks after at (length held) writes.0 memory (subst (All (IsTypedCell program)) (sym writes.1) fits.typed);
      shapes = written_shapes blocks after at (length held) writes.0;
    }))))))

-- ---- any of them

kind_stored : (program : CProgram) (type : CTy) (blocks : Blocks) (at : Ptr) (marks : Marks) (new : CValue) (kind : CKind) → kind_of (setting_of program) type ≡ Ok kind → IsAccess program type → IsTypedMemory program blocks → IsStorable program type new
    → Comes (IsStoredOf program type blocks) (stored_kind blocks at marks new kind)
kind_stored program type blocks at marks new kind e (inl one) memory is =
    let same : of_scalar one.kind ≡ kind = cc (one.access, e) in
    subst (λ k. Comes (IsStoredOf program type blocks) (stored_kind blocks at marks new k)) same (scalar_stored program type blocks at marks new one memory is)
kind_stored program type blocks at marks new kind e (inr one) memory is =
    let same : of_record one.laid ≡ kind = cc (one.access, e) in
    subst (λ k. Comes (IsStoredOf program type blocks) (stored_kind blocks at marks new k)) same (record_stored program type blocks at marks new one memory is)

-- a store in an object that isn't a bit-field
pub store_comes : (program : CProgram) (type : CTy) (blocks : Blocks) (new : CValue) (marks : Marks) (place : Result Value CWhy) → IsAccess program type → IsTypedMemory program blocks → IsStorable program type new → Comes IsObjectPointer place
    → Comes (IsStoredOf program type blocks) (stored_to (setting_of program) blocks type new marks place)
store_comes program type blocks new marks place access memory is there =
    comes_and (λ kind. kind_of (setting_of program) type ≡ Ok kind) (IsStoredOf program type blocks) (kind_of (setting_of program) type) _ (kind_comes program type access) (λ kind e.
    comes_and IsObjectPointer (IsStoredOf program type blocks) place _ there (λ to fits.
    comes_and (λ _. Unit {0}) (IsStoredOf program type blocks) (object_at to) _ (object_comes to fits) (λ at _. kind_stored program type blocks at marks new kind e access memory is)))
