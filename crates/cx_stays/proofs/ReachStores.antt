-- Stores under a set of blocks: one through a pointer into the set of a value that leads into it leaves the other blocks as they were.
use Rattle.std.proofs.Common.{◌≡◌, ℕ, zero, suc, ◌+◌, ◌^◌, ◌==◌, Bool, true, All, List, ◌++◌, length, take, drop, replicate, Option, Some, None, Result, Ok, subst}
use Rattle.std.proofs.lemmas.List.Elements.{All-append, All-take, All-drop, All-replicate}
use Rattle.cr_base.specs.declared.layout.Laid.{Laid}
use Rattle.cr_base.specs.declared.layout.Spot.{Spot}
use Rattle.cr_base.specs.declared.scalar.Scalar.{Scalar}
use Rattle.cr_base.specs.Scalar.{residue}
use Rattle.cx_core.specs.Trees.{CTy, put, CPuts, no_puts, more_puts}
use Rattle.cx_mean.proofs.KeptNodes.{IfGiven, given_and, given_then, given_where}
use Rattle.cx_mean.specs.Accesses.{CKind, of_scalar, of_record, kind_of, object_at, is_field_place, field_value, CStored, sized, cells_in, source_of, exact_or_apart, stored_scalar, stored_record, stored_kind, stored_bits, stored_to, stored}
use Rattle.cx_mean.specs.Initialisers.{part_place, with_cells, field_unset, unset_by, unset_put, unset_puts, first_cells, CCleared, object_cleared, put_stored}
use Rattle.cx_mean.specs.Marks.{Marks, bits_of_bytes, bits_of_field}
use Rattle.cx_mean.specs.Operands.{CWhy, stuck, needed, accessed, CValue, scalar, cells, names, designates, designates_bits, missing, COperand, Frame, slot_of, place_in, sequenced_after}
use Rattle.cx_mean.specs.Settings.{CSetting, scalar_in_type, extent_in}
use Rattle.cx_mean.specs.Values.{value_of_kind, number_in}
use Rattle.mem_bytes.specs.Access.{part_at, after_put, after_put_bits, record_at, after_put_record}
use Rattle.mem_bytes.specs.Bits.{bytes_touched}
use Rattle.mem_bytes.specs.Coding.{scalar_size}
use Rattle.mem_bytes.specs.declared.cell.Cell.{Cell}
use Rattle.mem_bytes.specs.declared.value.Ptr.{Ptr}
use Rattle.mem_bytes.specs.declared.value.Value.{Value}
use Rattle.mem_bytes.specs.Memory.{Block, Blocks, live_block, size_of, unset_cell, byte_cell}
use Rattle.cx_stays.proofs.ReachMemory.{Left, left_set, bits_lead, put_left, put_record_left, put_bits_left}
use Rattle.cx_stays.proofs.ReachValues.{given_accessed, field_value_leads, kind_leads, part_is_place, object_leads, place_leads}
use Rattle.cx_stays.specs.Reach.{LeadsWithin, CellLeadsWithin, IsPlaceWithin, GivesWithin, IsClosedIn}

-- what a store gives leads within a set, and it left the other blocks as they were
abbrev pub StoreGives : (ℕ → Bool) → (ℕ → Type 0) → Blocks → CStored → Type 0
StoreGives reached Named blocks one = GivesWithin reached Named one.value × Left reached blocks one.blocks

-- an object that was made anew
abbrev pub ClearLeft : (ℕ → Bool) → Blocks → CCleared → Type 0
ClearLeft reached blocks one = (reached one.at.block ≡ true) × Left reached blocks one.blocks

module _ (reached : ℕ → Bool) where
  -- ---- first cells

  bits_unset : (bit width : ℕ) (part : List Cell) → All (CellLeadsWithin reached) (field_unset bit width part)
  bits_unset bit width part = bits_lead reached (length part) _ _

  cells_with : (offset : ℕ) (new held : List Cell) → All (CellLeadsWithin reached) new → All (CellLeadsWithin reached) held → All (CellLeadsWithin reached) (with_cells offset new held)
  cells_with offset new held are others =
      All-append (CellLeadsWithin reached) (take offset held ++ new) (drop (offset + length new) held)
      (All-append (CellLeadsWithin reached) (take offset held) new (All-take (CellLeadsWithin reached) offset held others) are)
      (All-drop (CellLeadsWithin reached) (offset + length new) held others)

  unset_leads : (spot : Spot) (size width : ℕ) (held : List Cell) → All (CellLeadsWithin reached) held → All (CellLeadsWithin reached) (unset_by spot size width held)
  unset_leads spot size zero held are = cells_with spot.byte (replicate size unset_cell) held (All-replicate (CellLeadsWithin reached) size unset_cell tt) are
  unset_leads spot size (suc n) held are = cells_with spot.byte _ held (bits_unset spot.bit (suc n) _) are

  puts_lead : (setting : CSetting) (puts : CPuts) (held : List Cell) → All (CellLeadsWithin reached) held → IfGiven (All (CellLeadsWithin reached)) (unset_puts setting puts held)
  puts_lead setting no_puts held are = are
  puts_lead setting (more_puts (put spot type value) others) held are =
      given_and (All (CellLeadsWithin reached)) (All (CellLeadsWithin reached)) (unset_put setting (put spot type value) held) _
      (given_then (All (CellLeadsWithin reached)) (needed (extent_in setting type)) _ (λ laid. unset_leads spot laid.size spot.width held are))
      (λ after after_are. puts_lead setting others after after_are)

  first_lead : (setting : CSetting) (size : ℕ) (puts : Option CPuts) → IfGiven (All (CellLeadsWithin reached)) (first_cells setting size puts)
  first_lead setting size None = All-replicate (CellLeadsWithin reached) size unset_cell tt
  first_lead setting size (Some puts) = puts_lead setting puts (replicate size (byte_cell 0)) (All-replicate (CellLeadsWithin reached) size (byte_cell 0) tt)

  sized_leads : (size : ℕ) (held : List Cell) → All (CellLeadsWithin reached) held → IfGiven (All (CellLeadsWithin reached)) (sized size held)
  sized_leads size held are = given_where (All (CellLeadsWithin reached)) (length held == size) (Ok held) stuck (λ _. are)

  module _ (Named : ℕ → Type 0) where
    -- ---- stores

    store_scalar_left : (blocks : Blocks) (at : Ptr) (marks : Marks) (new : CValue) (kind : Scalar) → reached at.block ≡ true → GivesWithin reached Named new → IsClosedIn reached blocks
        → IfGiven (StoreGives reached Named blocks) (stored_scalar blocks at marks new kind)
    store_scalar_left blocks at marks new kind within gives closed =
        given_and (LeadsWithin reached) (StoreGives reached Named blocks) (value_of_kind kind new) _ (kind_leads reached Named kind new gives) (λ value leads.
        given_then (StoreGives reached Named blocks) (accessed (part_at blocks at (scalar_size kind))) _ (λ _.
        given_then (StoreGives reached Named blocks) (sequenced_after marks (bits_of_bytes at (scalar_size kind))) _ (λ range.
        given_and (Left reached blocks) (StoreGives reached Named blocks) (accessed (after_put blocks at kind value)) _
        (given_accessed (Left reached blocks) (after_put blocks at kind value) (put_left reached blocks at kind value within leads closed)) (λ after left. (leads, left)))))

    cells_give : (size : ℕ) (new : CValue) → GivesWithin reached Named new → IfGiven (All (CellLeadsWithin reached)) (cells_in size new)
    cells_give size (cells held from) gives = sized_leads size held gives.0
    cells_give size missing gives = tt
    cells_give size (scalar value) gives = tt
    cells_give size (names number) gives = tt
    cells_give size (designates to) gives = tt
    cells_give size (designates_bits at bit width) gives = tt

    store_record_left : (blocks : Blocks) (at : Ptr) (marks : Marks) (new : CValue) (laid : Laid) → reached at.block ≡ true → GivesWithin reached Named new → IsClosedIn reached blocks
        → IfGiven (StoreGives reached Named blocks) (stored_record blocks at marks new laid)
    store_record_left blocks at marks new laid within gives closed =
        given_and (All (CellLeadsWithin reached)) (StoreGives reached Named blocks) (cells_in laid.size new) _ (cells_give laid.size new gives) (λ held are.
        given_then (StoreGives reached Named blocks) (accessed (part_at blocks at laid.size)) _ (λ _.
        given_then (StoreGives reached Named blocks) (sequenced_after marks (bits_of_bytes at laid.size)) _ (λ range.
        given_then (StoreGives reached Named blocks) (accessed (record_at blocks at laid.size laid.align)) _ (λ _.
        given_then (StoreGives reached Named blocks) (exact_or_apart laid.size at (source_of new)) _ (λ _.
        given_and (Left reached blocks) (StoreGives reached Named blocks) (accessed (after_put_record blocks at laid.align held)) _
        (given_accessed (Left reached blocks) (after_put_record blocks at laid.align held) (put_record_left reached blocks at laid.align held within are closed)) (λ after left. ((are, tt), left)))))))

    store_bits_left : (blocks : Blocks) (at : Ptr) (bit width : ℕ) (marks : Marks) (new : CValue) (kind : Scalar) → reached at.block ≡ true → IsClosedIn reached blocks
        → IfGiven (StoreGives reached Named blocks) (stored_bits blocks at bit width marks new kind)
    store_bits_left blocks at bit width marks new kind within closed =
        given_where (StoreGives reached Named blocks) (is_field_place bit width) _ stuck (λ _.
        given_then (StoreGives reached Named blocks) (value_of_kind kind new) _ (λ one.
        given_then (StoreGives reached Named blocks) (number_in one) _ (λ number.
        given_then (StoreGives reached Named blocks) (accessed (part_at blocks at (bytes_touched bit width))) _ (λ _.
        given_then (StoreGives reached Named blocks) (sequenced_after marks (bits_of_field at bit width)) _ (λ range.
        let field = residue number (2 ^ width) in
        given_and (Left reached blocks) (StoreGives reached Named blocks) (accessed (after_put_bits blocks at bit width field)) _
        (given_accessed (Left reached blocks) (after_put_bits blocks at bit width field) (put_bits_left reached blocks at bit width field within closed)) (λ after left.
        given_and (LeadsWithin reached) (StoreGives reached Named blocks) (field_value kind width field) _ (field_value_leads reached kind width field) (λ value leads. (leads, left))))))))

    store_kind_left : (blocks : Blocks) (at : Ptr) (marks : Marks) (new : CValue) (kind : CKind) → reached at.block ≡ true → GivesWithin reached Named new → IsClosedIn reached blocks
        → IfGiven (StoreGives reached Named blocks) (stored_kind blocks at marks new kind)
    store_kind_left blocks at marks new (of_scalar kind) within gives closed = store_scalar_left blocks at marks new kind within gives closed
    store_kind_left blocks at marks new (of_record laid) within gives closed = store_record_left blocks at marks new laid within gives closed

    store_to_left : (setting : CSetting) (blocks : Blocks) (type : CTy) (new : CValue) (marks : Marks) (place : Result Value CWhy) → IfGiven (LeadsWithin reached) place → GivesWithin reached Named new → IsClosedIn reached blocks
        → IfGiven (StoreGives reached Named blocks) (stored_to setting blocks type new marks place)
    store_to_left setting blocks type new marks place leads gives closed =
        given_then (StoreGives reached Named blocks) (kind_of setting type) _ (λ kind.
        given_and (LeadsWithin reached) (StoreGives reached Named blocks) place _ leads (λ to to_leads.
        given_and (λ (at : Ptr). reached at.block ≡ true) (StoreGives reached Named blocks) (object_at to) _ (object_leads reached Named to to_leads) (λ at within. store_kind_left blocks at marks new kind within gives closed)))

    module _ (frame : Frame) (live : (number : ℕ) → Named number → IsPlaceWithin reached (slot_of frame number)) where
      pub store_left : (setting : CSetting) (blocks : Blocks) (type : CTy) (place new : CValue) (marks : Marks) → GivesWithin reached Named place → GivesWithin reached Named new → IsClosedIn reached blocks
          → IfGiven (StoreGives reached Named blocks) (stored setting frame blocks type place new marks)
      store_left setting blocks type (designates_bits at bit width) new marks within gives closed =
          given_then (StoreGives reached Named blocks) (needed (scalar_in_type setting type)) _ (λ kind. store_bits_left blocks at bit width marks new kind within closed)
      store_left setting blocks type (scalar value) new marks is gives closed = store_to_left setting blocks type new marks (place_in frame (scalar value)) (place_leads reached Named frame live (scalar value) is) gives closed
      store_left setting blocks type (cells held from) new marks is gives closed = store_to_left setting blocks type new marks (place_in frame (cells held from)) (place_leads reached Named frame live (cells held from) is) gives closed
      store_left setting blocks type (names number) new marks is gives closed = store_to_left setting blocks type new marks (place_in frame (names number)) (place_leads reached Named frame live (names number) is) gives closed
      store_left setting blocks type (designates to) new marks is gives closed = store_to_left setting blocks type new marks (place_in frame (designates to)) (place_leads reached Named frame live (designates to) is) gives closed
      store_left setting blocks type missing new marks is gives closed = store_to_left setting blocks type new marks (place_in frame missing) (place_leads reached Named frame live missing is) gives closed

      -- ---- initialisers

      slot_given : (found : Option Ptr) → IsPlaceWithin reached found → IfGiven (λ (at : Ptr). reached at.block ≡ true) (needed found)
      slot_given None within = tt
      slot_given (Some at) within = within

      pub put_stored_left : (setting : CSetting) (blocks : Blocks) (number : ℕ) (spot : Spot) (type : CTy) (operand : COperand) → Named number → GivesWithin reached Named operand.value → IsClosedIn reached blocks
          → IfGiven (StoreGives reached Named blocks) (put_stored setting frame blocks number spot type operand)
      put_stored_left setting blocks number spot type operand is gives closed =
          given_and (λ (at : Ptr). reached at.block ≡ true) (StoreGives reached Named blocks) (needed (slot_of frame number)) _ (slot_given (slot_of frame number) (live number is))
          (λ at within. store_left setting blocks type (part_place at spot) operand.value operand.marks (part_is_place reached Named _ spot.bit spot.width within) gives closed)

      pub clear_left : (setting : CSetting) (number : ℕ) (puts : Option CPuts) (blocks : Blocks) → Named number → IsClosedIn reached blocks → IfGiven (ClearLeft reached blocks) (object_cleared setting frame number puts blocks)
      clear_left setting number puts blocks is closed =
          given_and (λ (at : Ptr). reached at.block ≡ true) (ClearLeft reached blocks) (needed (slot_of frame number)) _ (slot_given (slot_of frame number) (live number is)) (λ at within.
          given_then (ClearLeft reached blocks) (needed (live_block blocks at.block)) _ (λ block.
          given_and (All (CellLeadsWithin reached)) (ClearLeft reached blocks) (first_cells setting (size_of block) puts) _ (first_lead setting (size_of block) puts) (λ given given_are.
          given_and (All (CellLeadsWithin reached)) (ClearLeft reached blocks) (sized (size_of block) given) _ (sized_leads (size_of block) given given_are) (λ held are. (
            within,
            left_set reached blocks at.block (Some (record block { cells = held })) within
                (λ one same. let one_is : record block { cells = held } ≡ one = cc (same) in subst (λ (it : Block). All (CellLeadsWithin reached) it.cells) one_is are) closed,
          )))))
