-- Stores in objects.
use Rattle.std.proofs.Common.{◌≡◌, ℕ, zero, suc, ◌^◌, ◌<◌, ◌==◌, true, ℤ, pos, List, length, Option, None, Result, Ok, sym, ap, ◌∙◌, subst}
use Rattle.std.proofs.lemmas.Bool.{eqb-true}
use Rattle.std.proofs.lemmas.Nat.{pow_pos}
use Rattle.cr_base.proofs.Residues.{residue_below}
use Rattle.cr_base.specs.Scalar.{residue}
use Rattle.cr_base.specs.declared.layout.Laid.{Laid}
use Rattle.cr_base.specs.declared.scalar.Scalar.{Scalar}
use Rattle.cr_world.specs.Held.{Held, with_blocks}
use Rattle.cr_world.specs.Known.{accessed_as}
use Rattle.cx_mean.specs.Accesses.{is_field_place, field_value, sized, exact_or_apart, CStored, stored_scalar, stored_record, stored_bits}
use Rattle.cx_mean.specs.Marks.{Marks, Range, bits_of_bytes, bits_of_field, with_write}
use Rattle.cx_mean.specs.Operands.{CWhy, scalar, cells, accessed, sequenced_after}
use Rattle.cx_mean.specs.Values.{is_of_kind, value_of_kind, number_in}
use Rattle.mem_bytes.specs.declared.cell.Cell.{Cell}
use Rattle.mem_bytes.specs.declared.fault.Fault.{Fault}
use Rattle.mem_bytes.specs.declared.value.Ptr.{Ptr}
use Rattle.mem_bytes.specs.declared.value.Value.{Value}
use Rattle.mem_bytes.specs.declared.value.Value.TheVariants.{Whole, Object}
use Rattle.mem_bytes.specs.Access.{and_then, part_at, record_at, after_put, after_put_record, after_put_bits, after_copy}
use Rattle.mem_bytes.specs.Bits.{bytes_touched}
use Rattle.mem_bytes.specs.Coding.{IsScalar, scalar_size}
use Rattle.mem_bytes.specs.Memory.{Blocks}
use Rattle.mem_bytes.proofs.Reached.{and_then_ok}
use Rattle.rs_mean.specs.Calls.{on_base, copies_as, copy_of}
use Rattle.rs_mean.specs.World.{or_cause, cause_of}
use Rattle.lift_stands.specs.Stands.{Images, PlaceBelow, ValueBelow, PlaceHolds}
use Rattle.lift_stands.specs.Worlds.{HeldStands}
use Rattle.lift_stands_accesses.specs.Objects.{LeftStanding, ScalarStored, RecordStored, FieldStored}
use Rattle.lift_stands_accesses.proofs.Results.{accessed_ok, where_true, kind_value}
use Rattle.lift_stands_bits.specs.Laws.{FieldLeaves}
use Rattle.lift_stands_bits.proofs.Fields.{field_leaves}
use Rattle.lift_stands_lives.specs.LawsStored.{StoreLeaves}
use Rattle.lift_stands_lives.proofs.Copied.{record_copied}
use Rattle.lift_stands_lives.proofs.Stored.{value_leaves}

-- where the memory after a store is another name of it
standing : (images : Images) (held other : Held) (after last : Blocks) (stored : Result Blocks Fault) (leaves : StoreLeaves images held other after stored) → after ≡ last → LeftStanding images held other last leaves.beyond
standing images held other after last stored leaves same =
    subst (λ m. LeftStanding images held other m leaves.beyond) same (record { stands = leaves.stands; keeps = leaves.keeps })

-- a copy of bytes is that of the memory
copied_bytes : (other : Held) (source to : Ptr) (count : ℕ) (beyond : Blocks) → after_copy other.blocks source to count ≡ Ok beyond → copy_of (Object source) (Object to) (Whole (pos count)) other ≡ Ok (record { value = tt; held = with_blocks beyond other })
copied_bytes other source to zero beyond e =
    let same : other.blocks ≡ beyond = cc in
    ap (λ m. Ok (record { value = tt; held = with_blocks m other })) same
copied_bytes other source to (suc n) beyond e = ap (λ r. copies_as (accessed_as (Object to) other r)) e

module _ (images : Images) (held other : Held) (at to : Ptr) (marks : Marks) (one : CStored) (stands : HeldStands images held other) (place : PlaceBelow images at to) where
  pub scalar_stored : (kind : Scalar) (value given : Value) → IsScalar kind → ValueBelow images value given → stored_scalar held.blocks at marks (scalar value) kind ≡ Ok one → ScalarStored images held other to kind value given one
  scalar_stored kind value given is_scalar below e =
      let size = scalar_size kind in
      let last : Value → Range → Blocks → Result CStored CWhy = λ new range after. Ok (record { value = scalar new; marks = with_write range marks; blocks = after }) in
      let first = and_then_ok (value_of_kind kind (scalar value)) (λ new. and_then (accessed (part_at held.blocks at size)) (λ _. and_then (sequenced_after marks (bits_of_bytes at size)) (λ range. and_then (accessed (after_put held.blocks at kind new)) (last new range)))) one e in
      let kinds = where_true (is_of_kind kind value) (Ok value) first.0 first.1 in
      let new : value ≡ first.0 = cc (kinds.1) in
      let second = and_then_ok (accessed (part_at held.blocks at size)) (λ _. and_then (sequenced_after marks (bits_of_bytes at size)) (λ range. and_then (accessed (after_put held.blocks at kind first.0)) (last first.0 range))) one first.2 in
      let third = and_then_ok (sequenced_after marks (bits_of_bytes at size)) (λ range. and_then (accessed (after_put held.blocks at kind first.0)) (last first.0 range)) one second.2 in
      let fourth = and_then_ok (accessed (after_put held.blocks at kind first.0)) (last first.0 third.0) one third.2 in
      let same : record { value = scalar first.0; marks = with_write third.0 marks; blocks = fourth.0 } ≡ one = cc (fourth.2) in
      let put : after_put held.blocks at kind value ≡ Ok fourth.0 = ap (after_put held.blocks at kind) new ∙ accessed_ok (after_put held.blocks at kind first.0) fourth.0 fourth.1 in
      let leaves = value_leaves images held other fourth.0 at to stands place kind value given is_scalar (kind_value kind value kinds.0) below put in
      record {
        is = sym (ap (λ s. s.value) same) ∙ ap scalar (sym new);
        beyond = leaves.beyond;
        done = ap (λ r. or_cause cause_of (on_base true r)) leaves.done;
        left = standing images held other fourth.0 one.blocks (after_put other.blocks to kind given) leaves (ap (λ s. s.blocks) same);
      }

  pub record_stored : (source : Ptr) (laid : Laid) (room : ℕ) (list : List Cell) (from : Option Ptr) → PlaceHolds images other.blocks room (Object source) list → stored_record held.blocks at marks (cells list from) laid ≡ Ok one → RecordStored images held other to source laid list one
  record_stored source laid room list from holds e =
      let last : List Cell → Range → Blocks → Result CStored CWhy = λ new range after. Ok (record { value = cells new None; marks = with_write range marks; blocks = after }) in
      let ended : List Cell → Range → Result CStored CWhy = λ new range. and_then (accessed (record_at held.blocks at laid.size laid.align)) (λ _. and_then (exact_or_apart laid.size at from) (λ _. and_then (accessed (after_put_record held.blocks at laid.align new)) (last new range))) in
      let first = and_then_ok (sized laid.size list) (λ new. and_then (accessed (part_at held.blocks at laid.size)) (λ _. and_then (sequenced_after marks (bits_of_bytes at laid.size)) (ended new))) one e in
      let sizes = where_true (length list == laid.size) (Ok list) first.0 first.1 in
      let new : list ≡ first.0 = cc (sizes.1) in
      let second = and_then_ok (accessed (part_at held.blocks at laid.size)) (λ _. and_then (sequenced_after marks (bits_of_bytes at laid.size)) (ended first.0)) one first.2 in
      let third = and_then_ok (sequenced_after marks (bits_of_bytes at laid.size)) (ended first.0) one second.2 in
      let fourth = and_then_ok (accessed (record_at held.blocks at laid.size laid.align)) (λ _. and_then (exact_or_apart laid.size at from) (λ _. and_then (accessed (after_put_record held.blocks at laid.align first.0)) (last first.0 third.0))) one third.2 in
      let fifth = and_then_ok (exact_or_apart laid.size at from) (λ _. and_then (accessed (after_put_record held.blocks at laid.align first.0)) (last first.0 third.0)) one fourth.2 in
      let sixth = and_then_ok (accessed (after_put_record held.blocks at laid.align first.0)) (last first.0 third.0) one fifth.2 in
      let same : record { value = cells first.0 None; marks = with_write third.0 marks; blocks = sixth.0 } ≡ one = cc (sixth.2) in
      let put : after_put_record held.blocks at laid.align list ≡ Ok sixth.0 = ap (after_put_record held.blocks at laid.align) new ∙ accessed_ok (after_put_record held.blocks at laid.align first.0) sixth.0 sixth.1 in
      let leaves = record_copied images held other sixth.0 at to source laid.align room list stands place holds put in
      let many : length list ≡ laid.size = eqb-true (length list) laid.size sizes.0 in
      record {
        is = sym (ap (λ s. s.value) same) ∙ ap (λ l. cells l None) (sym new);
        beyond = leaves.beyond;
        done = ap (λ n. copy_of (Object source) (Object to) (Whole (pos n)) other) (sym many) ∙ copied_bytes other source to (length list) leaves.beyond leaves.done;
        left = standing images held other sixth.0 one.blocks (after_copy other.blocks source to (length list)) leaves (ap (λ s. s.blocks) same);
      }

  pub bits_stored : (bit width : ℕ) (kind : Scalar) (number : ℤ) → images.in_bytes ≡ true → stored_bits held.blocks at bit width marks (scalar (Whole number)) kind ≡ Ok one → FieldStored images held other to bit width kind number one
  bits_stored bit width kind number in_bytes e =
      let count = bytes_touched bit width in
      let low : ℤ → ℕ = λ n. residue n (2 ^ width) in
      let last : ℤ → Range → Blocks → Value → Result CStored CWhy = λ n range after value. Ok (record { value = scalar value; marks = with_write range marks; blocks = after }) in
      let puts : ℤ → Range → Result CStored CWhy = λ n range. and_then (accessed (after_put_bits held.blocks at bit width (low n))) (λ after. and_then (field_value kind width (low n)) (last n range after)) in
      let ends : ℤ → Result CStored CWhy = λ n. and_then (accessed (part_at held.blocks at count)) (λ _. and_then (sequenced_after marks (bits_of_field at bit width)) (puts n)) in
      let outer = where_true (is_field_place bit width) (and_then (value_of_kind kind (scalar (Whole number))) (λ new. and_then (number_in new) ends)) one e in
      let first = and_then_ok (value_of_kind kind (scalar (Whole number))) (λ new. and_then (number_in new) ends) one outer.1 in
      let kinds = where_true (is_of_kind kind (Whole number)) (Ok (Whole number)) first.0 first.1 in
      let new : Whole number ≡ first.0 = cc (kinds.1) in
      let ended : ends number ≡ Ok one = ap (λ v. and_then (number_in v) ends) new ∙ first.2 in
      let second = and_then_ok (accessed (part_at held.blocks at count)) (λ _. and_then (sequenced_after marks (bits_of_field at bit width)) (puts number)) one ended in
      let third = and_then_ok (sequenced_after marks (bits_of_field at bit width)) (puts number) one second.2 in
      let fourth = and_then_ok (accessed (after_put_bits held.blocks at bit width (low number))) (λ after. and_then (field_value kind width (low number)) (last number third.0 after)) one third.2 in
      let fifth = and_then_ok (field_value kind width (low number)) (last number third.0 fourth.0) one fourth.2 in
      let same : record { value = scalar fifth.0; marks = with_write third.0 marks; blocks = fourth.0 } ≡ one = cc (fifth.2) in
      let put = accessed_ok (after_put_bits held.blocks at bit width (low number)) fourth.0 fourth.1 in
      let small : low number < 2 ^ width = residue_below number (2 ^ width) (pow_pos width) in
      let leaves = field_leaves images held other fourth.0 at to bit width (low number) in_bytes stands place small put in
      record {
        value = fifth.0;
        means = fifth.1;
        is = sym (ap (λ s. s.value) same);
        bytes = subst (λ m. FieldLeaves images held other m to bit width (low number)) (ap (λ s. s.blocks) same) leaves;
      }
