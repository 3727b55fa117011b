-- What isn't among ranges stays: for no ranges, for those of two pieces one after another, and for a write.
use Rattle.std.proofs.Common.{◌≡◌, ◌≢◌, ⊎_elim, inl, inr, ℕ, ◌+◌, ◌*◌, ◌^◌, ◌<◌, ◌≤◌, Bool, true, false, ◌&&◌, ◌||◌, ◌==◌, nat_lt, All, List, [], ◌∷◌, ◌++◌, length, take, drop, Some, Ok, refl, sym, ap, subst, ◌∙◌, arith}
use Rattle.std.proofs.lemmas.Bool.{cases_eq}
use Rattle.std.proofs.lemmas.Bool.Decides.{nat_tests}
use Rattle.std.proofs.lemmas.List.Elements.{All-append, All-take, All-drop}
use Rattle.std.proofs.lemmas.List.Folds.{list_any-append}
use Rattle.std.specs.List.{list_any}
use Rattle.cx_mean.specs.Marks.{Range, overlap, any_overlap, bits_of_bytes, bits_of_field}
use Rattle.cx_mean.specs.Unwritten.{Avoids, KeepsBeside}
use Rattle.mem_bytes.proofs.Beside.{bits_stay}
use Rattle.mem_bytes.proofs.Slots.{live-set_same, live-set_other, live_within}
use Rattle.mem_bytes.proofs.Written.{put_bits_writes, cells_stay, values_stay, fields_stay, records_stay}
use Rattle.mem_bytes.specs.Access.{after_put_bits}
use Rattle.mem_bytes.specs.Bits.{bytes_touched}
use Rattle.mem_bytes.specs.Calls.{IsFieldPlace}
use Rattle.mem_bytes.specs.Coding.{scalar_size}
use Rattle.mem_bytes.specs.declared.value.Ptr.{Ptr}
use Rattle.mem_bytes.specs.Laws.{Writes, AreApart, AreFieldsApart, IsHeld, HoldsCells}
use Rattle.mem_bytes.specs.Memory.{Block, Blocks, live_block, with_part}

-- ---- ranges

neither_first : (one other : Bool) → (one || other) ≡ false → one ≡ false
neither_first true other is = absurd (cc)
neither_first false other is = refl

neither_second : (one other : Bool) → (one || other) ≡ false → other ≡ false
neither_second true other is = absurd (cc)
neither_second false other is = is

abbrev meets : Range → Range → Bool
meets range one = list_any (overlap one) (range ∷ [])

pub avoids_first : (first second : List Range) (range : Range) → Avoids (first ++ second) range → Avoids first range
avoids_first first second range is =
    neither_first (any_overlap first (range ∷ [])) (any_overlap second (range ∷ []))
    (sym (list_any-append (meets range) first second) ∙ is)

pub avoids_second : (first second : List Range) (range : Range) → Avoids (first ++ second) range → Avoids second range
avoids_second first second range is =
    neither_second (any_overlap first (range ∷ [])) (any_overlap second (range ∷ []))
    (sym (list_any-append (meets range) first second) ∙ is)

-- what avoids some ranges avoids others
abbrev pub Covers : List Range → List Range → Type 0
Covers large small = (range : Range) → Avoids large range → Avoids small range

only_one : (test : Bool) → (test || false) ≡ false → test ≡ false
only_one true is = absurd (cc)
only_one false is = refl

-- one range and another don't overlap
alone : (one other : Range) → Avoids (one ∷ []) other → overlap one other ≡ false
alone one other is = only_one (overlap one other) (only_one (meets other one) is)

-- ---- memories

pub keeps_same : (memory : Blocks) → KeepsBeside [] memory memory
keeps_same memory = record {
  cells = λ at count is. refl;
  values = λ at kind is. refl;
  records = λ at size align is. refl;
  fields = λ at bit width place is. refl;
}

pub keeps_after : (first second : List Range) (before middle after : Blocks) → KeepsBeside first before middle → KeepsBeside second middle after →
    KeepsBeside (first ++ second) before after
keeps_after first second before middle after one other = record {
  cells = λ at count is.
      other.cells at count (avoids_second first second (bits_of_bytes at count) is)
      ∙ one.cells at count (avoids_first first second (bits_of_bytes at count) is);
  values = λ at kind is.
      other.values at kind (avoids_second first second (bits_of_bytes at (scalar_size kind)) is)
      ∙ one.values at kind (avoids_first first second (bits_of_bytes at (scalar_size kind)) is);
  records = λ at size align is.
      other.records at size align (avoids_second first second (bits_of_bytes at size) is)
      ∙ one.records at size align (avoids_first first second (bits_of_bytes at size) is);
  fields = λ at bit width place is.
      other.fields at bit width place (avoids_second first second (bits_of_field at bit width) is)
      ∙ one.fields at bit width place (avoids_first first second (bits_of_field at bit width) is);
}

-- ---- places whose bits don't meet

apart_by : (at other : Ptr) (count many : ℕ) (block from below : Bool) →
    (at.block == other.block) ≡ block → nat_lt (8 * at.offset) (8 * other.offset + 8 * many) ≡ from → nat_lt (8 * other.offset) (8 * at.offset + 8 * count) ≡ below →
    (block && from && below) ≡ false → AreApart at count other many
apart_by at other count many false from below same one two is = inl (grind (arith, nat_tests))
apart_by at other count many true false below same one two is = inr (inr (grind (arith, nat_tests)))
apart_by at other count many true true false same one two is = inr (inl (grind (arith, nat_tests)))
apart_by at other count many true true true same one two is = absurd (cc)

apart_bytes : (at other : Ptr) (count many : ℕ) → Avoids (bits_of_bytes at count ∷ []) (bits_of_bytes other many) → AreApart at count other many
apart_bytes at other count many is =
    apart_by at other count many (at.block == other.block) (nat_lt (8 * at.offset) (8 * other.offset + 8 * many)) (nat_lt (8 * other.offset) (8 * at.offset + 8 * count))
    refl refl refl (alone (bits_of_bytes at count) (bits_of_bytes other many) is)

-- not less, by a test
not_below : (a b : ℕ) → nat_lt a b ≡ false → b ≤ a
not_below a b is = grind (arith, nat_tests)

not_same : (a b : ℕ) → (a == b) ≡ false → a ≢ b
not_same a b is = grind (arith, nat_tests)

field_by : (at other : Ptr) (count bit width : ℕ) → IsFieldPlace bit width → (block from below : Bool) →
    (at.block == other.block) ≡ block → nat_lt (8 * at.offset) (8 * other.offset + bit + width) ≡ from → nat_lt (8 * other.offset + bit) (8 * at.offset + 8 * count) ≡ below →
    (block && from && below) ≡ false → AreApart at count other (bytes_touched bit width)
field_by at other count bit width place false from below same one two is = inl (not_same at.block other.block same)
field_by at other count bit width place true false below same one two is = inr (inr (omega (arith, not_below (8 * at.offset) (8 * other.offset + bit + width) one)))
field_by at other count bit width place true true false same one two is = inr (inl (omega (arith, place.bit_in_byte, not_below (8 * other.offset + bit) (8 * at.offset + 8 * count) two)))
field_by at other count bit width place true true true same one two is = absurd (cc)

apart_field : (at other : Ptr) (count bit width : ℕ) → IsFieldPlace bit width → Avoids (bits_of_bytes at count ∷ []) (bits_of_field other bit width) → AreApart at count other (bytes_touched bit width)
apart_field at other count bit width place is =
    field_by at other count bit width place (at.block == other.block) (nat_lt (8 * at.offset) (8 * other.offset + bit + width)) (nat_lt (8 * other.offset + bit) (8 * at.offset + 8 * count))
    refl refl refl (alone (bits_of_bytes at count) (bits_of_field other bit width) is)

bytes_by : (at other : Ptr) (bit width many : ℕ) → IsFieldPlace bit width → (block from below : Bool) →
    (at.block == other.block) ≡ block → nat_lt (8 * at.offset + bit) (8 * other.offset + 8 * many) ≡ from → nat_lt (8 * other.offset) (8 * at.offset + bit + width) ≡ below →
    (block && from && below) ≡ false → AreApart at (bytes_touched bit width) other many
bytes_by at other bit width many place false from below same one two is = inl (not_same at.block other.block same)
bytes_by at other bit width many place true false below same one two is = inr (inr (omega (arith, place.bit_in_byte, not_below (8 * at.offset + bit) (8 * other.offset + 8 * many) one)))
bytes_by at other bit width many place true true false same one two is = inr (inl (omega (arith, not_below (8 * other.offset) (8 * at.offset + bit + width) two)))
bytes_by at other bit width many place true true true same one two is = absurd (cc)

apart_from_field : (at other : Ptr) (bit width many : ℕ) → IsFieldPlace bit width → Avoids (bits_of_field at bit width ∷ []) (bits_of_bytes other many) → AreApart at (bytes_touched bit width) other many
apart_from_field at other bit width many place is =
    bytes_by at other bit width many place (at.block == other.block) (nat_lt (8 * at.offset + bit) (8 * other.offset + 8 * many)) (nat_lt (8 * other.offset) (8 * at.offset + bit + width))
    refl refl refl (alone (bits_of_field at bit width) (bits_of_bytes other many) is)

fields_by : (at other : Ptr) (bit width place wide : ℕ) (block from below : Bool) →
    (at.block == other.block) ≡ block → nat_lt (8 * at.offset + bit) (8 * other.offset + place + wide) ≡ from → nat_lt (8 * other.offset + place) (8 * at.offset + bit + width) ≡ below →
    (block && from && below) ≡ false → AreFieldsApart at bit width other place wide
fields_by at other bit width place wide false from below same one two is = inl (not_same at.block other.block same)
fields_by at other bit width place wide true false below same one two is = inr (inr (not_below (8 * at.offset + bit) (8 * other.offset + place + wide) one))
fields_by at other bit width place wide true true false same one two is = inr (inl (not_below (8 * other.offset + place) (8 * at.offset + bit + width) two))
fields_by at other bit width place wide true true true same one two is = absurd (cc)

apart_fields : (at other : Ptr) (bit width place wide : ℕ) → Avoids (bits_of_field at bit width ∷ []) (bits_of_field other place wide) → AreFieldsApart at bit width other place wide
apart_fields at other bit width place wide is =
    fields_by at other bit width place wide (at.block == other.block) (nat_lt (8 * at.offset + bit) (8 * other.offset + place + wide)) (nat_lt (8 * other.offset + place) (8 * at.offset + bit + width))
    refl refl refl (alone (bits_of_field at bit width) (bits_of_field other place wide) is)

-- ---- writes

-- a write changes its own bits alone
pub keeps_write : (memory after : Blocks) (at : Ptr) (count : ℕ) → Writes memory at count after → KeepsBeside (bits_of_bytes at count ∷ []) memory after
keeps_write memory after at count writes = record {
  cells = λ other many is. cells_stay memory after at other count many writes (apart_bytes at other count many is);
  values = λ other kind is. values_stay memory after at other count kind writes (apart_bytes at other count (scalar_size kind) is);
  records = λ other size align is. records_stay memory after at other count size align writes (apart_bytes at other count size is);
  fields = λ other bit width place is. fields_stay memory after at other count bit width writes (apart_field at other count bit width place is);
}

-- a store in a bit-field too
pub keeps_field : (memory after : Blocks) (at : Ptr) (bit width field : ℕ) → HoldsCells memory → IsFieldPlace bit width → field < 2 ^ width →
    after_put_bits memory at bit width field ≡ Ok after → KeepsBeside (bits_of_field at bit width ∷ []) memory after
keeps_field memory after at bit width field held place fits stored =
    let writes = put_bits_writes memory after at bit width field stored in
    let touched = bytes_touched bit width in
    record {
      cells = λ other many is. cells_stay memory after at other touched many writes (apart_from_field at other bit width many place is);
      values = λ other kind is. values_stay memory after at other touched kind writes (apart_from_field at other bit width (scalar_size kind) place is);
      records = λ other size align is. records_stay memory after at other touched size align writes (apart_from_field at other bit width size place is);
      fields = λ other bit' width' place' is. bits_stay memory after at other bit width field bit' width' held place fits (apart_fields at other bit width bit' width' is) stored;
    }

-- each cell is one that a machine holds, where those that were written are
pub held_written : (memory after : Blocks) (at : Ptr) (count : ℕ) (writes : Writes memory at count after) → HoldsCells memory → All IsHeld writes.cells → HoldsCells after
held_written memory after at count writes held new number block live =
    ⊎_elim
    (λ (same : at.block ≡ number).
    let there : live_block after number ≡ Some (with_part writes.block at.offset writes.cells) = ap (live_block after) (sym same) ∙ ap (λ m. live_block m at.block) writes.made ∙ live-set_same memory at.block _ (live_within memory at.block writes.block writes.live) in
    let is : with_part writes.block at.offset writes.cells ≡ block = cc (there, live) in
    let old = held at.block writes.block writes.live in
    subst (λ (b : Block). All IsHeld b.cells) is
    (All-append IsHeld (take at.offset writes.block.cells ++ writes.cells) (drop (at.offset + length writes.cells) writes.block.cells)
    (All-append IsHeld (take at.offset writes.block.cells) writes.cells (All-take IsHeld at.offset writes.block.cells old) new)
    (All-drop IsHeld (at.offset + length writes.cells) writes.block.cells old)))
    (λ (away : at.block ≢ number).
    held number block (sym (live-set_other memory at.block number _ away) ∙ ap (λ m. live_block m number) (sym writes.made) ∙ live))
    (cases_eq at.block number)
