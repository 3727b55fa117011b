-- A store, and an initialiser that is reached, leave each object as large as it was.
use Rattle.std.proofs.Common.{◌≡◌, ℕ, ◌^◌, ◌==◌, true, map, List, length, Option, Some, None, Result, Ok, Err, refl, ap, ◌∙◌, arith, slice_set}
use Rattle.std.proofs.lemmas.Bool.{eqb-true}
use Rattle.std.proofs.lemmas.List.{length-map}
use Rattle.cr_base.specs.declared.layout.Laid.{Laid}
use Rattle.cr_base.specs.declared.layout.Spot.{Spot}
use Rattle.cr_base.specs.declared.scalar.Scalar.{Scalar}
use Rattle.cr_base.specs.declared.scalar.Scalar.TheVariants.{Truth, Whole, Object, Code}
use Rattle.cr_base.specs.Scalar.{modulus, residue}
use Rattle.cx_core.specs.Trees.{CTy, CPuts}
use Rattle.cx_mean.proofs.KeptNodes.{IfGiven, given_and, given_then, given_where}
use Rattle.cx_mean.specs.Accesses.{CKind, of_scalar, of_record, kind_of, object_at, is_field_place, field_value, CStored, sized, cells_in, exact_or_apart, source_of, stored_scalar, stored_record, stored_kind, stored_bits, stored_to, stored}
use Rattle.cx_mean.specs.Initialisers.{part_place, first_cells, CCleared, object_cleared, put_stored}
use Rattle.cx_mean.specs.Marks.{Marks, bits_of_bytes, bits_of_field}
use Rattle.cx_mean.specs.Operands.{CWhy, stuck, needed, accessed, CValue, scalar, cells, names, designates, designates_bits, missing, COperand, sequenced_after, Frame, slot_of, place_in, scalar_value}
use Rattle.cx_mean.specs.Settings.{CSetting, scalar_in_type}
use Rattle.cx_mean.specs.Values.{is_of_kind, value_of_kind, number_in}
use Rattle.mem_bytes.proofs.Coded.{length-bytes_of}
use Rattle.mem_bytes.proofs.Reached.{and_then_ok, changed, part_ok, scalar_part_ok}
use Rattle.mem_bytes.proofs.Written.{put_bits_writes, put_record_writes}
use Rattle.mem_bytes.specs.Access.{scalar_part_of, block_with_value, part_at, after_put, after_put_bits, record_at, after_put_record}
use Rattle.mem_bytes.specs.Bits.{bytes_touched}
use Rattle.mem_bytes.specs.Coding.{scalar_size, bytes_of, cells_of}
use Rattle.mem_bytes.specs.declared.cell.Cell.{Cell}
use Rattle.mem_bytes.specs.declared.fault.Fault.{Fault}
use Rattle.mem_bytes.specs.declared.value.Ptr.{Ptr}
use Rattle.mem_bytes.specs.declared.value.Value.{Value}
use Rattle.mem_bytes.specs.declared.value.Value.TheVariants.{Whole as Number, Null, Object as Pointer, Code as Function}
use Rattle.mem_bytes.specs.Memory.{Block, Blocks, live_block, size_of, byte_cell, with_part}
use Rattle.cx_mean_lives.proofs.Sizes.{sizes_changed, sizes_written}
use Rattle.cx_mean_lives.specs.Laws.{SameSizes}

-- ---- outcomes

given_access : {A : Type 0} (outcome : Result A Fault) → IfGiven (λ (value : A). outcome ≡ Ok value) (accessed outcome)
given_access (Ok value) = refl
given_access (Err fault) = tt

given_kind : (kind : Scalar) (value : CValue) → IfGiven (λ (one : Value). is_of_kind kind one ≡ true) (value_of_kind kind value)
given_kind kind value =
    given_then (λ (one : Value). is_of_kind kind one ≡ true) (scalar_value value) _ (λ one.
    given_where (λ (given : Value). is_of_kind kind given ≡ true) (is_of_kind kind one) (Ok one) stuck (λ is. is))

live_given : (slot : Option Block) → IfGiven (λ (block : Block). slot ≡ Some block) (needed slot)
live_given None = tt
live_given (Some block) = refl

-- ---- a value of a scalar

number_cells : (count n : ℕ) → length (map byte_cell (bytes_of count n)) ≡ count
number_cells count n = length-map (bytes_of count n) byte_cell ∙ length-bytes_of count n

-- it has as many cells as the scalar has bytes
value_cells : (kind : Scalar) (value : Value) → is_of_kind kind value ≡ true → length (cells_of kind value) ≡ scalar_size kind
value_cells Truth (Number n) is = number_cells 1 (residue n (modulus Truth))
value_cells (Whole width signed) (Number n) is = number_cells (scalar_size (Whole width signed)) (residue n (modulus (Whole width signed)))
value_cells Object Null is = refl
value_cells Object (Pointer at) is = refl
value_cells Code Null is = refl
value_cells Code (Function number) is = refl
value_cells kind value is = cc

put_sizes : (memory after : Blocks) (at : Ptr) (kind : Scalar) (value : Value) → is_of_kind kind value ≡ true → after_put memory at kind value ≡ Ok after → SameSizes memory after
put_sizes memory after at kind value is e =
    let held = cells_of kind value in
    let change = changed memory after at.block (λ block. block_with_value block at.offset kind value) e in
    let parts = and_then_ok (scalar_part_of change.block at.offset kind) (λ _. Ok (with_part change.block at.offset held)) change.new change.stepped in
    let reached = scalar_part_ok change.block at.offset kind parts.0 parts.1 in
    let inside = part_ok change.block at.offset (scalar_size kind) parts.0 reached.0 in
    let new : change.new ≡ with_part change.block at.offset held = cc (parts.2) in
    sizes_written memory after at (length held)
    (record {
      block = change.block;
      cells = held;
      live = change.live;
      many = refl;
      within = omega (arith, value_cells kind value is, inside.0);
      made = change.made ∙ ap (λ (block : Block). slice_set memory at.block (Some block)) new;
    })

-- ---- stores

abbrev pub StoreSizes : Blocks → CStored → Type 0
StoreSizes blocks one = SameSizes blocks one.blocks

scalar_sizes : (blocks : Blocks) (at : Ptr) (marks : Marks) (new : CValue) (kind : Scalar) → IfGiven (StoreSizes blocks) (stored_scalar blocks at marks new kind)
scalar_sizes blocks at marks new kind =
    given_and (λ (value : Value). is_of_kind kind value ≡ true) (StoreSizes blocks) (value_of_kind kind new) _ (given_kind kind new) (λ value is.
    given_then (StoreSizes blocks) (accessed (part_at blocks at (scalar_size kind))) _ (λ _.
    given_then (StoreSizes blocks) (sequenced_after marks (bits_of_bytes at (scalar_size kind))) _ (λ range.
    given_and (λ (after : Blocks). after_put blocks at kind value ≡ Ok after) (StoreSizes blocks) (accessed (after_put blocks at kind value)) _ (given_access (after_put blocks at kind value))
    (λ after made. put_sizes blocks after at kind value is made))))

record_sizes : (blocks : Blocks) (at : Ptr) (marks : Marks) (new : CValue) (laid : Laid) → IfGiven (StoreSizes blocks) (stored_record blocks at marks new laid)
record_sizes blocks at marks new laid =
    given_then (StoreSizes blocks) (cells_in laid.size new) _ (λ held.
    given_then (StoreSizes blocks) (accessed (part_at blocks at laid.size)) _ (λ _.
    given_then (StoreSizes blocks) (sequenced_after marks (bits_of_bytes at laid.size)) _ (λ range.
    given_then (StoreSizes blocks) (accessed (record_at blocks at laid.size laid.align)) _ (λ _.
    given_then (StoreSizes blocks) (exact_or_apart laid.size at (source_of new)) _ (λ _.
    given_and (λ (after : Blocks). after_put_record blocks at laid.align held ≡ Ok after) (StoreSizes blocks) (accessed (after_put_record blocks at laid.align held)) _
    (given_access (after_put_record blocks at laid.align held))
    (λ after made. sizes_written blocks after at (length held) (put_record_writes blocks after at laid.align held made)))))))

bits_sizes : (blocks : Blocks) (at : Ptr) (bit width : ℕ) (marks : Marks) (new : CValue) (kind : Scalar) → IfGiven (StoreSizes blocks) (stored_bits blocks at bit width marks new kind)
bits_sizes blocks at bit width marks new kind =
    given_where (StoreSizes blocks) (is_field_place bit width) _ stuck (λ is.
    given_then (StoreSizes blocks) (value_of_kind kind new) _ (λ one.
    given_then (StoreSizes blocks) (number_in one) _ (λ number.
    given_then (StoreSizes blocks) (accessed (part_at blocks at (bytes_touched bit width))) _ (λ _.
    given_then (StoreSizes blocks) (sequenced_after marks (bits_of_field at bit width)) _ (λ range.
    let field = residue number (2 ^ width) in
    given_and (λ (after : Blocks). after_put_bits blocks at bit width field ≡ Ok after) (StoreSizes blocks) (accessed (after_put_bits blocks at bit width field)) _
    (given_access (after_put_bits blocks at bit width field)) (λ after made.
    given_then (StoreSizes blocks) (field_value kind width field) _ (λ value.
    sizes_written blocks after at (bytes_touched bit width) (put_bits_writes blocks after at bit width field made))))))))

kind_sizes : (blocks : Blocks) (at : Ptr) (marks : Marks) (new : CValue) (kind : CKind) → IfGiven (StoreSizes blocks) (stored_kind blocks at marks new kind)
kind_sizes blocks at marks new (of_scalar kind) = scalar_sizes blocks at marks new kind
kind_sizes blocks at marks new (of_record laid) = record_sizes blocks at marks new laid

to_sizes : (setting : CSetting) (blocks : Blocks) (type : CTy) (new : CValue) (marks : Marks) (place : Result Value CWhy) → IfGiven (StoreSizes blocks) (stored_to setting blocks type new marks place)
to_sizes setting blocks type new marks place =
    given_then (StoreSizes blocks) (kind_of setting type) _ (λ kind.
    given_then (StoreSizes blocks) place _ (λ to.
    given_then (StoreSizes blocks) (object_at to) _ (λ at. kind_sizes blocks at marks new kind)))

pub store_sizes : (setting : CSetting) (frame : Frame) (blocks : Blocks) (type : CTy) (place new : CValue) (marks : Marks) → IfGiven (StoreSizes blocks) (stored setting frame blocks type place new marks)
store_sizes setting frame blocks type (designates_bits at bit width) new marks =
    given_then (StoreSizes blocks) (needed (scalar_in_type setting type)) _ (λ kind. bits_sizes blocks at bit width marks new kind)
store_sizes setting frame blocks type (scalar value) new marks = to_sizes setting blocks type new marks (place_in frame (scalar value))
store_sizes setting frame blocks type (cells held from) new marks = to_sizes setting blocks type new marks (place_in frame (cells held from))
store_sizes setting frame blocks type (names number) new marks = to_sizes setting blocks type new marks (place_in frame (names number))
store_sizes setting frame blocks type (designates to) new marks = to_sizes setting blocks type new marks (place_in frame (designates to))
store_sizes setting frame blocks type missing new marks = to_sizes setting blocks type new marks (place_in frame missing)

-- ---- initialisers

pub put_stored_sizes : (setting : CSetting) (frame : Frame) (blocks : Blocks) (number : ℕ) (spot : Spot) (type : CTy) (operand : COperand) → IfGiven (StoreSizes blocks) (put_stored setting frame blocks number spot type operand)
put_stored_sizes setting frame blocks number spot type operand =
    given_then (StoreSizes blocks) (needed (slot_of frame number)) _ (λ at. store_sizes setting frame blocks type (part_place at spot) operand.value operand.marks)

-- an object that is made anew has as many cells as before
abbrev pub ClearSizes : Blocks → CCleared → Type 0
ClearSizes blocks one = SameSizes blocks one.blocks

pub clear_sizes : (setting : CSetting) (frame : Frame) (number : ℕ) (puts : Option CPuts) (blocks : Blocks) → IfGiven (ClearSizes blocks) (object_cleared setting frame number puts blocks)
clear_sizes setting frame number puts blocks =
    given_then (ClearSizes blocks) (needed (slot_of frame number)) _ (λ at.
    given_and (λ (block : Block). live_block blocks at.block ≡ Some block) (ClearSizes blocks) (needed (live_block blocks at.block)) _ (live_given (live_block blocks at.block)) (λ block live.
    given_then (ClearSizes blocks) (first_cells setting (size_of block) puts) _ (λ given.
    given_and (λ (held : List Cell). length held ≡ size_of block) (ClearSizes blocks) (sized (size_of block) given) _
    (given_where (λ (held : List Cell). length held ≡ size_of block) (length given == size_of block) (Ok given) stuck (λ is. eqb-true (length given) (size_of block) is))
    (λ held many. sizes_changed blocks at.block block (record block { cells = held }) live many))))
