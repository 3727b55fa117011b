-- What isn't among the writes of a node's operands and of its own stays behind its step.
use Rattle.std.proofs.Common.{◌≡◌, ℕ, zero, suc, ◌+◌, ◌^◌, ◌<◌, Bool, true, false, ◌&&◌, ◌==◌, nat_lt, nat_le, if◌then◌else◌, ℤ, pos, negsuc, int_le, int_lt, All, List, [], ◌∷◌, length, take, drop, slice_get, slice_set, option_map, Option, Some, None, Result, Ok, Err, refl, sym, ap, subst, ◌∙◌, arith, rules}
use Rattle.std.proofs.Math.Nat.{mod-lt}
use Rattle.std.proofs.lemmas.Bool.{and_parts, eqb-true, leb-true, ltb-true}
use Rattle.std.proofs.lemmas.Int.{ints}
use Rattle.std.proofs.lemmas.List.Elements.{All-take, All-drop}
use Rattle.std.proofs.lemmas.Nat.{pow_pos}
use Rattle.cr_base.specs.declared.layout.Laid.{Laid}
use Rattle.cr_base.specs.declared.layout.Spot.{Spot}
use Rattle.cr_base.specs.declared.rule.URule.TheVariants.{U1, U11}
use Rattle.cr_base.specs.declared.scalar.Scalar.{Scalar}
use Rattle.cr_base.specs.declared.scalar.Scalar.TheVariants.{Truth, Whole, Object, Code}
use Rattle.cr_base.specs.Scalar.{IsInRange, residue, least, above}
use Rattle.cx_core.specs.Conversions.{scalar_of, scalar_of_basic, basic_of_enum, scalar_of_pointer}
use Rattle.cx_core.specs.declared.ty.Basic.{Basic}
use Rattle.cx_core.specs.declared.ty.Basic.TheVariants as basics
use Rattle.cx_core.specs.Trees.{CTy, ty, CTyForm, void, basic, enum_type, pointer, array, record_type, function, form_of_type, CTypes}
use Rattle.cx_mean.specs.Accesses.{CKind, of_scalar, of_record, scalar_kind, record_kind, kind_by, kind_of, object_at, is_field_place, at_field_place, field_value, CLoaded, loaded_kind, loaded_from, loaded, CStored, sized, cells_in, exact_or_apart, source_of, stored_bits, stored_kind, stored_to, stored}
use Rattle.cx_mean.specs.Initialisers.{part_with}
use Rattle.cx_mean.specs.Marks.{Marks, Range, any_overlap, bits_of_bytes, bits_of_field, with_write}
use Rattle.cx_mean.specs.Nodes.{pointed_to, aligned_place, member_of_place, value_part, member_of_kind, member_bits, member_with, member_value}
use Rattle.cx_numbers.specs.Numbers.{represents}
use Rattle.cx_mean.specs.Operands.{CWhy, breaks, stuck, needed, accessed, by_pointers, CValue, scalar, cells, names, designates, designates_bits, missing, sequenced_after, Frame, place_in, scalar_value}
use Rattle.cx_mean.specs.Settings.{CSetting, scalar_in_type, extent_in, types_in_setting}
use Rattle.cx_mean.specs.Unwritten.{KeepsBeside}
use Rattle.cx_mean.specs.Values.{is_of_kind, value_of_kind, number_in, converted_value, converted_scalar, to_scalar}
use Rattle.cx_mean.proofs.Kept.{Covers, avoids_first, keeps_after, keeps_write, keeps_field, held_written}
use Rattle.mem_bytes.proofs.Held.{held_later}
use Rattle.mem_bytes.proofs.Written.{put_writes}
use Rattle.mem_bytes.proofs.Reached.{and_then_ok, changed, part_ok}
use Rattle.mem_bytes.specs.Access.{and_then, part_of, part_at, live_read, value_at, after_put, field_at, after_put_bits, is_record_aligned, record_part_of, block_with_record, record_at, after_put_record}
use Rattle.mem_bytes.specs.Bits.{bytes_touched, field_in}
use Rattle.mem_bytes.specs.Pointers.{place_moved}
use Rattle.mem_bytes.specs.Calls.{IsFieldPlace}
use Rattle.mem_bytes.specs.Coding.{IsScalar, IsValueOf, scalar_size, value_of}
use Rattle.mem_bytes.specs.declared.cell.Cell.{Cell}
use Rattle.mem_bytes.specs.declared.fault.Fault.{Fault}
use Rattle.mem_bytes.specs.declared.fault.Fault.TheVariants.{Outside, Misaligned}
use Rattle.mem_bytes.specs.declared.value.Ptr.{Ptr}
use Rattle.mem_bytes.specs.declared.value.Value.{Value}
use Rattle.mem_bytes.specs.declared.value.Value.TheVariants.{Whole as Number, Null, Object as Pointer, Code as Function}
use Rattle.mem_bytes.specs.Laws.{Writes, IsHeld, HoldsCells, Later}
use Rattle.mem_bytes.specs.Memory.{Block, Blocks, live_block, size_of, with_part}

-- ---- outcomes of parts of a step

-- what a part of a step gives has a property
abbrev pub IfGiven : {A E : Type 0} → (A → Type 0) → Result A E → Type 0
IfGiven P (Ok value) = P value
IfGiven P (Err why) = Unit {0}

pub given_and : {A B E : Type 0} (P : A → Type 0) (Q : B → Type 0) (first : Result A E) (next : A → Result B E) →
    IfGiven P first → ((value : A) → P value → IfGiven Q (next value)) → IfGiven Q (and_then first next)
given_and P Q (Ok value) next one all = all value one
given_and P Q (Err why) next one all = tt

-- a part of which nothing has to be known
pub given_then : {A B E : Type 0} (Q : B → Type 0) (first : Result A E) (next : A → Result B E) →
    ((value : A) → IfGiven Q (next value)) → IfGiven Q (and_then first next)
given_then Q (Ok value) next all = all value
given_then Q (Err why) next all = tt

pub given_else : {A E : Type 0} (P : A → Type 0) (test : Bool) (why : E) (value : A) → P value → IfGiven P (if test then Err why else Ok value)
given_else P true why value is = tt
given_else P false why value is = is

pub given_where : {A E : Type 0} (P : A → Type 0) (test : Bool) (outcome : Result A E) (why : E) → (test ≡ true → IfGiven P outcome) → IfGiven P (if test then outcome else Err why)
given_where P true outcome why all = all refl
given_where P false outcome why all = tt

-- what an access gives
given_access : {A : Type 0} (outcome : Result A Fault) → IfGiven (λ (value : A). outcome ≡ Ok value) (accessed outcome)
given_access (Ok value) = refl
given_access (Err fault) = tt

-- ---- kinds of values

basic_is_scalar : (which : Basic) → IsScalar (scalar_of_basic which)
basic_is_scalar basics.Truth = tt
basic_is_scalar basics.Char = refl
basic_is_scalar basics.SignedChar = refl
basic_is_scalar basics.UnsignedChar = refl
basic_is_scalar basics.Short = refl
basic_is_scalar basics.UnsignedShort = refl
basic_is_scalar basics.Int = refl
basic_is_scalar basics.Unsigned = refl
basic_is_scalar basics.Long = refl
basic_is_scalar basics.UnsignedLong = refl
basic_is_scalar basics.LongLong = refl
basic_is_scalar basics.UnsignedLongLong = refl

pointer_is_scalar : (to : CTy) → IsScalar (scalar_of_pointer to)
pointer_is_scalar (ty (function result params variadic) is_const) = tt
pointer_is_scalar (ty _ is_const) = tt

-- what a scalar type is, where it is one
abbrev IfKind : Option Scalar → Type 0
IfKind None = Unit {0}
IfKind (Some kind) = IsScalar kind

enum_is_scalar : (found : Option Bool) → IfKind (option_map (λ is_int. scalar_of_basic (basic_of_enum is_int)) found)
enum_is_scalar None = tt
enum_is_scalar (Some true) = refl
enum_is_scalar (Some false) = refl

form_is_scalar : (types : CTypes) (form : CTyForm) → IfKind (scalar_of types form)
form_is_scalar types void = tt
form_is_scalar types (basic which) = basic_is_scalar which
form_is_scalar types (enum_type number) = enum_is_scalar (slice_get types.enums number)
form_is_scalar types (pointer to) = pointer_is_scalar to
form_is_scalar types (array element length) = tt
form_is_scalar types (record_type number) = tt
form_is_scalar types (function result params variadic) = tt

needed_scalar : (found : Option Scalar) → IfKind found → IfGiven IsScalar (needed found)
needed_scalar None is = tt
needed_scalar (Some kind) is = is

-- the number is in the range of a kind that represents it
in_range : (kind : Scalar) (number : ℤ) → represents kind number ≡ true → IsInRange kind number
in_range kind number is =
    let both = and_parts (int_le (least kind) number) (int_lt number (above kind)) is in
    (search (rules, ints), search (rules, ints))

kind_value : (kind : Scalar) (value : Value) → is_of_kind kind value ≡ true → IsValueOf kind value
kind_value Truth (Number number) is = in_range Truth number is
kind_value (Whole width signed) (Number number) is = in_range (Whole width signed) number is
kind_value Object Null is = tt
kind_value Object (Pointer at) is = tt
kind_value Code Null is = tt
kind_value Code (Function number) is = tt
kind_value Truth Null is = cc
kind_value Truth (Pointer at) is = cc
kind_value Truth (Function number) is = cc
kind_value (Whole width signed) Null is = cc
kind_value (Whole width signed) (Pointer at) is = cc
kind_value (Whole width signed) (Function number) is = cc
kind_value Object (Number number) is = cc
kind_value Object (Function number) is = cc
kind_value Code (Number number) is = cc
kind_value Code (Pointer at) is = cc

given_kind : (kind : Scalar) (value : CValue) → IfGiven (λ (one : Value). is_of_kind kind one ≡ true) (value_of_kind kind value)
given_kind kind value =
    given_then (λ (one : Value). is_of_kind kind one ≡ true) (scalar_value value) _ (λ one.
    given_where (λ (given : Value). is_of_kind kind given ≡ true) (is_of_kind kind one) (Ok one) stuck (λ is. is))

given_sequenced : (marks : Marks) (range : Range) → IfGiven (λ (found : Range). found ≡ range) (sequenced_after marks range)
given_sequenced marks range = given_else (λ (found : Range). found ≡ range) (any_overlap marks.still (range ∷ [])) (breaks U1) range refl

-- ---- bit-fields

field_place : (bit width : ℕ) → is_field_place bit width ≡ true → IsFieldPlace bit width
field_place bit width is =
    let others = and_parts (nat_lt bit 8 && nat_le 1 width) (nat_le width 32) is in
    let first = and_parts (nat_lt bit 8) (nat_le 1 width) others.0 in
    record {
      bit_in_byte = ltb-true bit 8 first.0;
      not_empty = leb-true 1 width first.1;
      not_too_wide = leb-true width 32 others.1;
    }

given_field : {A : Type 0} (P : A → Type 0) (bit width : ℕ) (outcome : Result A CWhy) → (IsFieldPlace bit width → IfGiven P outcome) → IfGiven P (at_field_place bit width outcome)
given_field P bit width outcome all =
    given_where P (is_field_place bit width) outcome stuck (λ is. all (field_place bit width is))

residue_below : (value : ℤ) (m : ℕ) → 0 < m → residue value m < m
residue_below (pos n) m some = mod-lt n some
residue_below (negsuc n) m some = omega (arith, mod-lt n some)

-- ---- what a step keeps

-- the cells of a value of a structure or union are those that a machine holds
abbrev pub IsHeldValue : CValue → Type 0
IsHeldValue (cells held from) = All IsHeld held
IsHeldValue (scalar value) = Unit {0}
IsHeldValue (names number) = Unit {0}
IsHeldValue (designates to) = Unit {0}
IsHeldValue (designates_bits at bit width) = Unit {0}
IsHeldValue missing = Unit {0}

-- what is so behind a piece of an evaluation that began in an earlier memory, when some ranges had been written
pub record KeptSince (base : List Range) (before : Blocks) (value : CValue) (marks : Marks) (after : Blocks) : Type 0 where
  pub stays : KeepsBeside marks.writes before after
  pub covers : Covers marks.writes base
  pub held : HoldsCells after
  pub value_held : IsHeldValue value

-- the same before it gives a value
pub record Kept (base : List Range) (before : Blocks) (marks : Marks) (now : Blocks) : Type 0 where
  pub stays : KeepsBeside marks.writes before now
  pub covers : Covers marks.writes base
  pub held : HoldsCells now

-- ---- loads

abbrev Loaded : List Range → Blocks → Blocks → CLoaded → Type 0
Loaded base before now one = KeptSince base before one.value one.marks now

-- cells of a memory that holds such are such
part_held : (block : Block) (offset size align : ℕ) → All IsHeld block.cells → IfGiven (All IsHeld) (record_part_of block offset size align)
part_held block offset size align held =
    given_and (All IsHeld) (All IsHeld) (part_of block offset size) (λ found. if is_record_aligned align block offset then Ok found else Err Misaligned)
    (given_where (All IsHeld) (nat_le (offset + size) (size_of block)) (Ok (take size (drop offset block.cells))) Outside
    (λ is. All-take IsHeld size (drop offset block.cells) (All-drop IsHeld offset block.cells held)))
    (λ found are. given_where (All IsHeld) (is_record_aligned align block offset) (Ok found) Misaligned (λ is. are))

slot_held : (slot : Option Block) (offset size align : ℕ) → ((block : Block) → slot ≡ Some block → All IsHeld block.cells) → IfGiven (All IsHeld) (accessed (live_read slot (λ block. record_part_of block offset size align)))
slot_held None offset size align held = tt
slot_held (Some block) offset size align held = access_held (record_part_of block offset size align) (part_held block offset size align (held block refl))
  where
    access_held : (outcome : Result (List Cell) Fault) → IfGiven (All IsHeld) outcome → IfGiven (All IsHeld) (accessed outcome)
    access_held (Ok found) are = are
    access_held (Err fault) are = tt

record_held : (blocks : Blocks) (at : Ptr) (size align : ℕ) → HoldsCells blocks → IfGiven (All IsHeld) (accessed (record_at blocks at size align))
record_held blocks at size align held = slot_held (live_block blocks at.block) at.offset size align (λ block live. held at.block block live)

kind_loaded : (base : List Range) (before blocks : Blocks) (at : Ptr) (marks : Marks) (kind : CKind) → Kept base before marks blocks → IfGiven (Loaded base before blocks) (loaded_kind blocks at marks kind)
kind_loaded base before blocks at marks (of_scalar kind) kept =
    given_then (Loaded base before blocks) (accessed (part_at blocks at (scalar_size kind))) _ (λ _.
    given_then (Loaded base before blocks) (sequenced_after marks (bits_of_bytes at (scalar_size kind))) _ (λ range.
    given_then (Loaded base before blocks) (accessed (value_at blocks at kind)) _ (λ value.
    record { stays = kept.stays; covers = kept.covers; held = kept.held; value_held = tt })))
kind_loaded base before blocks at marks (of_record laid) kept =
    given_then (Loaded base before blocks) (accessed (part_at blocks at laid.size)) _ (λ _.
    given_then (Loaded base before blocks) (sequenced_after marks (bits_of_bytes at laid.size)) _ (λ range.
    given_and (All IsHeld) (Loaded base before blocks) (accessed (record_at blocks at laid.size laid.align)) _ (record_held blocks at laid.size laid.align kept.held) (λ found are.
    record { stays = kept.stays; covers = kept.covers; held = kept.held; value_held = are })))

from_loaded : (setting : CSetting) (base : List Range) (before blocks : Blocks) (type : CTy) (marks : Marks) (place : Result Value CWhy) → Kept base before marks blocks → IfGiven (Loaded base before blocks) (loaded_from setting blocks type marks place)
from_loaded setting base before blocks type marks place kept =
    given_then (Loaded base before blocks) (kind_of setting type) _ (λ kind.
    given_then (Loaded base before blocks) place _ (λ to.
    given_then (Loaded base before blocks) (object_at to) _ (λ at. kind_loaded base before blocks at marks kind kept)))

pub load_keeps : (setting : CSetting) (frame : Frame) (base : List Range) (before blocks : Blocks) (type : CTy) (place : CValue) (marks : Marks) → Kept base before marks blocks →
    IfGiven (Loaded base before blocks) (loaded setting frame blocks type place marks)
load_keeps setting frame base before blocks type (designates_bits at bit width) marks kept =
    given_then (Loaded base before blocks) (needed (scalar_in_type setting type)) _ (λ kind.
    given_field (Loaded base before blocks) bit width _ (λ _.
    given_then (Loaded base before blocks) (accessed (part_at blocks at (bytes_touched bit width))) _ (λ _.
    given_then (Loaded base before blocks) (sequenced_after marks (bits_of_field at bit width)) _ (λ range.
    given_then (Loaded base before blocks) (accessed (field_at blocks at bit width)) _ (λ bits.
    given_then (Loaded base before blocks) (field_value kind width bits) _ (λ value.
    record { stays = kept.stays; covers = kept.covers; held = kept.held; value_held = tt }))))))
load_keeps setting frame base before blocks type (scalar value) marks kept = from_loaded setting base before blocks type marks (place_in frame (scalar value)) kept
load_keeps setting frame base before blocks type (cells held from) marks kept = from_loaded setting base before blocks type marks (place_in frame (cells held from)) kept
load_keeps setting frame base before blocks type (names number) marks kept = from_loaded setting base before blocks type marks (place_in frame (names number)) kept
load_keeps setting frame base before blocks type (designates to) marks kept = from_loaded setting base before blocks type marks (place_in frame (designates to)) kept
load_keeps setting frame base before blocks type missing marks kept = from_loaded setting base before blocks type marks (place_in frame missing) kept

-- ---- stores

abbrev Stored : List Range → Blocks → CStored → Type 0
Stored base before one = KeptSince base before one.value one.marks one.blocks

-- a write of a range behind what was kept
then_written : (base : List Range) (before now after : Blocks) (marks : Marks) (range bits : Range) (value : CValue) → Kept base before marks now → range ≡ bits → KeepsBeside (bits ∷ []) now after → HoldsCells after → IsHeldValue value →
    KeptSince base before value (with_write range marks) after
then_written base before now after marks range bits value kept here stays held is = record {
  stays = keeps_after marks.writes (range ∷ []) before now after kept.stays (subst (λ (one : Range). KeepsBeside (one ∷ []) now after) (sym here) stays);
  covers = λ other avoids. kept.covers other (avoids_first marks.writes (range ∷ []) other avoids);
  held = held;
  value_held = is;
}

scalar_stored : (base : List Range) (before blocks : Blocks) (at : Ptr) (marks : Marks) (new : CValue) (kind : Scalar) → IsScalar kind → Kept base before marks blocks → IfGiven (Stored base before) (stored_kind blocks at marks new (of_scalar kind))
scalar_stored base before blocks at marks new kind is_scalar kept =
    given_and (λ (value : Value). is_of_kind kind value ≡ true) (Stored base before) (value_of_kind kind new) _ (given_kind kind new) (λ value is.
    given_then (Stored base before) (accessed (part_at blocks at (scalar_size kind))) _ (λ _.
    given_and (λ (range : Range). range ≡ bits_of_bytes at (scalar_size kind)) (Stored base before) (sequenced_after marks (bits_of_bytes at (scalar_size kind))) _ (given_sequenced marks (bits_of_bytes at (scalar_size kind))) (λ range here.
    given_and (λ (after : Blocks). after_put blocks at kind value ≡ Ok after) (Stored base before) (accessed (after_put blocks at kind value)) _ (given_access (after_put blocks at kind value)) (λ after made.
    then_written base before blocks after marks range (bits_of_bytes at (scalar_size kind)) (scalar value) kept here
    (keeps_write blocks after at (scalar_size kind) (put_writes blocks after at kind value is_scalar (kind_value kind value is) made))
    (held_later blocks after kept.held (Later.put at kind value Later.now is_scalar (kind_value kind value is) made))
    tt))))

-- cells of a size
pub given_sized : (size : ℕ) (held : List Cell) → All IsHeld held → IfGiven (λ (found : List Cell). All IsHeld found × (length found ≡ size)) (sized size held)
given_sized size held are = given_where (λ (found : List Cell). All IsHeld found × (length found ≡ size)) (length held == size) (Ok held) stuck (λ is. (are, eqb-true (length held) size is))

given_cells : (size : ℕ) (value : CValue) → IsHeldValue value → IfGiven (λ (found : List Cell). All IsHeld found × (length found ≡ size)) (cells_in size value)
given_cells size (cells held from) are = given_sized size held are
given_cells size missing are = tt
given_cells size (scalar value) are = tt
given_cells size (names number) are = tt
given_cells size (designates to) are = tt
given_cells size (designates_bits at bit width) are = tt

-- the write of a structure or union is one of its cells
record_writes : (blocks after : Blocks) (at : Ptr) (align : ℕ) (held : List Cell) → after_put_record blocks at align held ≡ Ok after → (writes : Writes blocks at (length held) after) × (writes.cells ≡ held)
record_writes blocks after at align held made =
    let change = changed blocks after at.block (λ block. block_with_record block at.offset align held) made in
    let parts = and_then_ok (record_part_of change.block at.offset (length held) align) (λ _. Ok (with_part change.block at.offset held)) change.new change.stepped in
    let part = and_then_ok (part_of change.block at.offset (length held)) (λ found. if is_record_aligned align change.block at.offset then Ok found else Err Misaligned) parts.0 parts.1 in
    let new : change.new ≡ with_part change.block at.offset held = cc (parts.2) in (
      record {
        block = change.block;
        cells = held;
        live = change.live;
        many = refl;
        within = (part_ok change.block at.offset (length held) part.0 part.1).0;
        made = change.made ∙ ap (λ (block : Block). slice_set blocks at.block (Some block)) new;
      },
      refl,
    )

record_written : (blocks after : Blocks) (at : Ptr) (align : ℕ) (held : List Cell) → HoldsCells blocks → All IsHeld held → after_put_record blocks at align held ≡ Ok after → HoldsCells after
record_written blocks after at align held before are made =
    let writes = record_writes blocks after at align held made in
    held_written blocks after at (length held) writes.0 before (subst (All IsHeld) (sym writes.1) are)

record_stored : (base : List Range) (before blocks : Blocks) (at : Ptr) (marks : Marks) (new : CValue) (laid : Laid) → IsHeldValue new → Kept base before marks blocks → IfGiven (Stored base before) (stored_kind blocks at marks new (of_record laid))
record_stored base before blocks at marks new laid is kept =
    given_and (λ (found : List Cell). All IsHeld found × (length found ≡ laid.size)) (Stored base before) (cells_in laid.size new) _ (given_cells laid.size new is) (λ held are.
    given_then (Stored base before) (accessed (part_at blocks at laid.size)) _ (λ _.
    given_and (λ (range : Range). range ≡ bits_of_bytes at laid.size) (Stored base before) (sequenced_after marks (bits_of_bytes at laid.size)) _ (given_sequenced marks (bits_of_bytes at laid.size)) (λ range here.
    given_then (Stored base before) (accessed (record_at blocks at laid.size laid.align)) _ (λ _.
    given_then (Stored base before) (exact_or_apart laid.size at (source_of new)) _ (λ _.
    given_and (λ (after : Blocks). after_put_record blocks at laid.align held ≡ Ok after) (Stored base before) (accessed (after_put_record blocks at laid.align held)) _ (given_access (after_put_record blocks at laid.align held)) (λ after made.
    then_written base before blocks after marks range (bits_of_bytes at laid.size) (cells held None) kept here
    (keeps_write blocks after at laid.size (subst (λ (size : ℕ). Writes blocks at size after) are.1 (record_writes blocks after at laid.align held made).0))
    (record_written blocks after at laid.align held kept.held are.0 made)
    are.0))))))

bits_stored : (base : List Range) (before blocks : Blocks) (at : Ptr) (bit width : ℕ) (marks : Marks) (new : CValue) (kind : Scalar) → Kept base before marks blocks → IfGiven (Stored base before) (stored_bits blocks at bit width marks new kind)
bits_stored base before blocks at bit width marks new kind kept =
    given_field (Stored base before) bit width _ (λ place.
    given_then (Stored base before) (value_of_kind kind new) _ (λ one.
    given_then (Stored base before) (number_in one) _ (λ number.
    given_then (Stored base before) (accessed (part_at blocks at (bytes_touched bit width))) _ (λ _.
    given_and (λ (range : Range). range ≡ bits_of_field at bit width) (Stored base before) (sequenced_after marks (bits_of_field at bit width)) _ (given_sequenced marks (bits_of_field at bit width)) (λ range here.
    let bits = residue number (2 ^ width) in
    let below : bits < 2 ^ width = residue_below number (2 ^ width) (pow_pos width) in
    given_and (λ (after : Blocks). after_put_bits blocks at bit width bits ≡ Ok after) (Stored base before) (accessed (after_put_bits blocks at bit width bits)) _ (given_access (after_put_bits blocks at bit width bits)) (λ after made.
    given_then (Stored base before) (field_value kind width bits) _ (λ value.
    then_written base before blocks after marks range (bits_of_field at bit width) (scalar value) kept here
    (keeps_field blocks after at bit width bits kept.held place below made)
    (held_later blocks after kept.held (Later.put_bits at bit width bits Later.now place below made))
    tt)))))))

-- the kind of a type that isn't a structure or union is a scalar
abbrev IsKind : CKind → Type 0
IsKind (of_scalar kind) = IsScalar kind
IsKind (of_record laid) = Unit {0}

kind_stored : (base : List Range) (before blocks : Blocks) (at : Ptr) (marks : Marks) (new : CValue) (kind : CKind) → IsKind kind → IsHeldValue new → Kept base before marks blocks → IfGiven (Stored base before) (stored_kind blocks at marks new kind)
kind_stored base before blocks at marks new (of_scalar kind) is new_held kept = scalar_stored base before blocks at marks new kind is kept
kind_stored base before blocks at marks new (of_record laid) is new_held kept = record_stored base before blocks at marks new laid new_held kept

scalar_kind_is : (found : Option Scalar) → IfKind found → IfGiven IsKind (scalar_kind found)
scalar_kind_is None is = tt
scalar_kind_is (Some kind) is = is

record_kind_is : (found : Option Laid) → IfGiven IsKind (record_kind found)
record_kind_is None = tt
record_kind_is (Some laid) = tt

kind_by_is : (form : CTyForm) (found : Option Scalar) (laid : Option Laid) → IfKind found → IfGiven IsKind (kind_by form found laid)
kind_by_is void found laid is = tt
kind_by_is (basic which) found laid is = scalar_kind_is found is
kind_by_is (enum_type number) found laid is = scalar_kind_is found is
kind_by_is (pointer to) found laid is = scalar_kind_is found is
kind_by_is (array element length) found laid is = tt
kind_by_is (record_type number) found laid is = record_kind_is laid
kind_by_is (function result params variadic) found laid is = tt

from_stored : (setting : CSetting) (base : List Range) (before blocks : Blocks) (type : CTy) (new : CValue) (marks : Marks) (place : Result Value CWhy) → IsHeldValue new → Kept base before marks blocks → IfGiven (Stored base before) (stored_to setting blocks type new marks place)
from_stored setting base before blocks type new marks place is kept =
    given_and IsKind (Stored base before) (kind_of setting type) _ (kind_by_is (form_of_type type) (scalar_in_type setting type) (extent_in setting type) (form_is_scalar (types_in_setting setting) (form_of_type type))) (λ kind is_kind.
    given_then (Stored base before) place _ (λ to.
    given_then (Stored base before) (object_at to) _ (λ at. kind_stored base before blocks at marks new kind is_kind is kept)))

pub store_keeps : (setting : CSetting) (frame : Frame) (base : List Range) (before blocks : Blocks) (type : CTy) (place new : CValue) (marks : Marks) → IsHeldValue new → Kept base before marks blocks →
    IfGiven (Stored base before) (stored setting frame blocks type place new marks)
store_keeps setting frame base before blocks type (designates_bits at bit width) new marks is kept =
    given_then (Stored base before) (needed (scalar_in_type setting type)) _ (λ kind. bits_stored base before blocks at bit width marks new kind kept)
store_keeps setting frame base before blocks type (scalar value) new marks is kept = from_stored setting base before blocks type new marks (place_in frame (scalar value)) is kept
store_keeps setting frame base before blocks type (cells held from) new marks is kept = from_stored setting base before blocks type new marks (place_in frame (cells held from)) is kept
store_keeps setting frame base before blocks type (names number) new marks is kept = from_stored setting base before blocks type new marks (place_in frame (names number)) is kept
store_keeps setting frame base before blocks type (designates to) new marks is kept = from_stored setting base before blocks type new marks (place_in frame (designates to)) is kept
store_keeps setting frame base before blocks type missing new marks is kept = from_stored setting base before blocks type new marks (place_in frame missing) is kept

-- ---- values that are no loads

pub held_scalar : {E : Type 0} (outcome : Result Value E) → IfGiven IsHeldValue (and_then outcome (λ value. Ok (scalar value)))
held_scalar (Ok value) = tt
held_scalar (Err why) = tt

cells_of_part : (held : List Cell) (offset count : ℕ) → All IsHeld held → IfGiven (All IsHeld) (value_part held offset count)
cells_of_part held offset count are =
    given_where (All IsHeld) (nat_le (offset + count) (length held)) (Ok (take count (drop offset held))) stuck
    (λ is. All-take IsHeld count (drop offset held) (All-drop IsHeld offset held are))

member_kind_held : (byte : ℕ) (held : List Cell) (from : Option Ptr) (kind : CKind) → All IsHeld held → IfGiven IsHeldValue (member_of_kind byte held from kind)
member_kind_held byte held from (of_scalar kind) are =
    given_then IsHeldValue (value_part held byte (scalar_size kind)) _ (λ part. held_scalar (accessed (value_of kind part)))
member_kind_held byte held from (of_record laid) are =
    given_and (All IsHeld) IsHeldValue (value_part held byte laid.size) _ (cells_of_part held byte laid.size are) (λ part is. is)

member_bits_held : (spot : Spot) (width : ℕ) (held : List Cell) (kind : Scalar) → IfGiven IsHeldValue (member_bits spot width held kind)
member_bits_held spot width held kind =
    given_field IsHeldValue spot.bit width _ (λ _.
    given_then IsHeldValue (value_part held spot.byte (bytes_touched spot.bit width)) _ (λ part.
    given_then IsHeldValue (accessed (field_in spot.bit width part)) _ (λ bits. held_scalar (field_value kind width bits))))

member_with_held : (setting : CSetting) (type : CTy) (spot : Spot) (width : ℕ) (held : List Cell) (from : Option Ptr) → All IsHeld held → IfGiven IsHeldValue (member_with setting type spot width held from)
member_with_held setting type spot zero held from are =
    given_then IsHeldValue (kind_of setting type) _ (λ kind. member_kind_held spot.byte held from kind are)
member_with_held setting type spot (suc n) held from are =
    given_then IsHeldValue (needed (scalar_in_type setting type)) _ (λ kind. member_bits_held spot (suc n) held kind)

part_is_place : (at : Ptr) (bit width : ℕ) → IsHeldValue (part_with at bit width)
part_is_place at bit zero = tt
part_is_place at bit (suc n) = tt

member_place_held : (blocks : Blocks) (spot : Spot) (laid : Option Laid) (place : Result Value CWhy) → IfGiven IsHeldValue (member_of_place blocks spot laid place)
member_place_held blocks spot laid place =
    given_then IsHeldValue (needed laid) _ (λ one.
    given_then IsHeldValue place _ (λ to.
    given_then IsHeldValue (object_at to) _ (λ at.
    given_then IsHeldValue (by_pointers U11 (place_moved blocks at (pos spot.byte))) _ (λ new.
    given_then IsHeldValue (accessed (aligned_place blocks one.align at)) _ (λ _. part_is_place new spot.bit spot.width)))))

pub member_held : (setting : CSetting) (frame : Frame) (blocks : Blocks) (type holder : CTy) (spot : Spot) (value : CValue) → IsHeldValue value → IfGiven IsHeldValue (member_value setting frame blocks type holder spot value)
member_held setting frame blocks type holder spot (cells held from) are = member_with_held setting type spot spot.width held from are
member_held setting frame blocks type holder spot missing are = tt
member_held setting frame blocks type holder spot (scalar value) are = member_place_held blocks spot (extent_in setting holder) (place_in frame (scalar value))
member_held setting frame blocks type holder spot (names number) are = member_place_held blocks spot (extent_in setting holder) (place_in frame (names number))
member_held setting frame blocks type holder spot (designates to) are = member_place_held blocks spot (extent_in setting holder) (place_in frame (designates to))
member_held setting frame blocks type holder spot (designates_bits at bit width) are = member_place_held blocks spot (extent_in setting holder) (place_in frame (designates_bits at bit width))

pub pointed_held : (value : Value) → IfGiven IsHeldValue (pointed_to value)
pointed_held (Pointer at) = tt
pointed_held Null = tt
pointed_held (Number number) = tt
pointed_held (Function number) = tt

converted_scalar_held : (found : Option Scalar) (blocks : Blocks) (value : CValue) → IfGiven IsHeldValue (converted_scalar found blocks value)
converted_scalar_held None blocks value = tt
converted_scalar_held (Some kind) blocks value =
    given_then IsHeldValue (scalar_value value) _ (λ one. held_scalar (to_scalar kind blocks one))

pub converted_held : (setting : CSetting) (type : CTy) (blocks : Blocks) (value : CValue) → IfGiven IsHeldValue (converted_value setting type blocks value)
converted_held setting (ty void is_const) blocks value = tt
converted_held setting (ty (basic which) is_const) blocks value = converted_scalar_held (scalar_in_type setting (ty (basic which) is_const)) blocks value
converted_held setting (ty (enum_type number) is_const) blocks value = converted_scalar_held (scalar_in_type setting (ty (enum_type number) is_const)) blocks value
converted_held setting (ty (pointer to) is_const) blocks value = converted_scalar_held (scalar_in_type setting (ty (pointer to) is_const)) blocks value
converted_held setting (ty (array element length) is_const) blocks value = tt
converted_held setting (ty (record_type number) is_const) blocks value = tt
converted_held setting (ty (function result params variadic) is_const) blocks value = tt
