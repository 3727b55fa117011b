-- Members of values of structures and unions, which the crate holds at a place.
use Rattle.std.proofs.Common.{◌≡◌, ℕ, ◌+◌, ◌-◌, ◌≤◌, ◌%◌, ◌==◌, ◌&&◌, nat_le, true, List, take, drop, length, All, Option, Some, Result, Ok, Err, refl, sym, ap, ◌∙◌, subst, arith, cond}
use Rattle.std.proofs.Math.Nat.{dvd-add}
use Rattle.std.proofs.lemmas.Bool.{and_parts, and_from, leb-true, le-leb, eqb-true, eq-eqb, cond-true}
use Rattle.std.proofs.lemmas.List.{drop-take, take-take, drop-drop, length-take-le, length-drop}
use Rattle.std.proofs.lemmas.List.Elements.{All-take, All-drop}
use Rattle.std.proofs.lemmas.Nat.Gcd.{dvd_trans, dvd_of_mod-eq-zero, mod-eq-zero_of_dvd}
use Rattle.cr_base.specs.declared.layout.Laid.{Laid}
use Rattle.cr_base.specs.declared.scalar.Scalar.{Scalar}
use Rattle.cx_mean.specs.Accesses.{of_scalar, of_record}
use Rattle.cx_mean.specs.Nodes.{value_part, member_of_kind}
use Rattle.cx_mean.specs.Operands.{CWhy, stuck, CValue, scalar, cells, accessed}
use Rattle.lift_stands.specs.Stands.{Images, CellsBelow, PlaceHolds}
use Rattle.lift_stands.proofs.Cells.{take_below, drop_below}
use Rattle.lift_stands.proofs.Decoded.{value_alike}
use Rattle.lift_stands.proofs.Loads.{read_live}
use Rattle.lift_stands_accesses.proofs.Results.{accessed_ok}
use Rattle.lift_stands_lives.proofs.Copied.{part_found, one_place}
use Rattle.lift_stands_values.specs.Members.{FitsAt, MemberLoaded}
use Rattle.lift_stands_values.proofs.Results.{if_ok}
use Rattle.mem_bytes.specs.Access.{and_then, part_of, is_aligned, scalar_part_of, block_value, is_record_aligned, record_part_of, live_read}
use Rattle.mem_bytes.specs.Coding.{scalar_size, value_of}
use Rattle.mem_bytes.specs.Laws.{IsHeld, behind}
use Rattle.mem_bytes.specs.Memory.{Block, Blocks, live_block}
use Rattle.mem_bytes.specs.declared.cell.Cell.{Cell}
use Rattle.mem_bytes.specs.declared.fault.Fault.TheVariants.{Misaligned}
use Rattle.mem_bytes.specs.declared.value.Ptr.{Ptr}
use Rattle.mem_bytes.specs.declared.value.Value.{Value}
use Rattle.mem_bytes.specs.declared.value.Value.TheVariants.{Object}
use Rattle.mem_bytes.proofs.Reached.{and_then_ok, part_ok, part_inside}

-- a part of a part
part_in : {A : Type 0} (size byte many offset : ℕ) (list : List A) → byte + size ≤ many → take size (drop byte (take many (drop offset list))) ≡ take size (drop (offset + byte) list)
part_in size byte many offset list within =
    let room : many ≡ byte + (many - byte) = omega (arith, within) in
    let some : size ≤ many - byte = omega (arith, within) in
    let rest = drop offset list in
    ap (λ n. take size (drop byte (take n rest))) room
    ∙ ap (take size) (drop-take byte (many - byte) rest)
    ∙ take-take size (many - byte) (drop byte rest) some
    ∙ ap (take size) (drop-drop byte offset list)

-- what is aligned for the whole is so for a part
divides : (offset align byte size : ℕ) → offset % align ≡ 0 → FitsAt size align byte → (offset + byte) % size ≡ 0
divides offset align byte size e fits =
    let whole = dvd_trans size (dvd_of_mod-eq-zero size fits.at_begin) (dvd_of_mod-eq-zero align e) in
    mod-eq-zero_of_dvd size (dvd-add size whole (dvd_of_mod-eq-zero size fits.at_byte))

-- what the crate has of a part of a value
pub record PartThere (images : Images) (others : Blocks) (source : Ptr) (byte size fit : ℕ) (part : List Cell) : Type 0 where
  pub block : Block
  pub live : live_block others source.block ≡ Some block
  pub found : List Cell
  pub there : part_of block (source.offset + byte) size ≡ Ok found
  pub fits : ((source.offset + byte) % fit == 0 && nat_le fit block.align) ≡ true
  pub below : CellsBelow images part found
  pub held : All IsHeld part
  pub many : length part ≡ size

pub part_there : (images : Images) (others : Blocks) (align byte size fit : ℕ) (source : Ptr) (list part : List Cell) → PlaceHolds images others align (Object source) list → FitsAt fit align byte → value_part list byte size ≡ Ok part → PartThere images others source byte size fit part
part_there images others align byte size fit source list part holds fits e =
    let same : source ≡ holds.at = one_place source holds.at holds.value_is in
    let read = read_live (live_block others holds.at.block) (λ block. record_part_of block holds.at.offset (length list) align) holds.cells holds.found in
    let live : live_block others source.block ≡ Some read.0 = ap (λ p. live_block others p.block) same ∙ read.1 in
    let stepped : record_part_of read.0 source.offset (length list) align ≡ Ok holds.cells = ap (λ p. record_part_of read.0 p.offset (length list) align) same ∙ read.2 in
    let whole = and_then_ok (part_of read.0 source.offset (length list)) (λ held. cond (is_record_aligned align read.0 source.offset) (Ok held) (Err Misaligned)) holds.cells stepped in
    let aligned = if_ok (is_record_aligned align read.0 source.offset) (Ok whole.0) Misaligned holds.cells whole.2 in
    let tests = and_parts (source.offset % align == 0) (nat_le align read.0.align) aligned.0 in
    let at_begin : source.offset % align ≡ 0 = eqb-true (source.offset % align) 0 tests.0 in
    let wide : align ≤ read.0.align = leb-true align read.0.align tests.1 in
    let inside = part_ok read.0 source.offset (length list) holds.cells (part_found read.0 source.offset (length list) align holds.cells stepped) in
    let taken = if_ok (nat_le (byte + size) (length list)) (Ok (take size (drop byte list))) stuck part e in
    let within : byte + size ≤ length list = leb-true (byte + size) (length list) taken.0 in
    let is : take size (drop byte list) ≡ part = cc (taken.1) in
    let found = take size (drop (source.offset + byte) read.0.cells) in
    let cells_there : take size (drop byte holds.cells) ≡ found = ap (λ c. take size (drop byte c)) inside.1 ∙ part_in size byte (length list) source.offset read.0.cells within in
    let first : CellsBelow images (take size (drop byte list)) (take size (drop byte holds.cells)) = take_below images size (drop byte list) (drop byte holds.cells) (drop_below images byte list holds.cells holds.below) in
    record {
      block = read.0;
      live = live;
      found = found;
      there = part_inside read.0 (source.offset + byte) size (omega (arith, inside.0, within));
      fits = and_from ((source.offset + byte) % fit == 0) (nat_le fit read.0.align) (eq-eqb ((source.offset + byte) % fit) 0 (divides source.offset align byte fit at_begin fits)) (le-leb fit read.0.align (omega (arith, wide, fits.within)));
      below = subst (λ c. CellsBelow images c found) is (subst (CellsBelow images (take size (drop byte list))) cells_there first);
      held = subst (All IsHeld) is (All-take IsHeld size (drop byte list) (All-drop IsHeld byte list holds.held));
      many = ap length (sym is) ∙ length-take-le size (drop byte list) (omega (arith, within, length-drop byte list));
    }

pub scalar_member : (images : Images) (others : Blocks) (align byte : ℕ) (source : Ptr) (list : List Cell) (from : Option Ptr) (kind : Scalar) (value : CValue) → PlaceHolds images others align (Object source) list → FitsAt (scalar_size kind) align byte → member_of_kind byte list from (of_scalar kind) ≡ Ok value → MemberLoaded images others (behind source byte) kind value
scalar_member images others align byte source list from kind value holds fits e =
    let size = scalar_size kind in
    let next : Value → Result CValue CWhy = λ one. Ok (scalar one) in
    let first = and_then_ok (value_part list byte size) (λ part. and_then (accessed (value_of kind part)) next) value e in
    let second = and_then_ok (accessed (value_of kind first.0)) next value first.2 in
    let there = part_there images others align byte size size source list first.0 holds fits first.1 in
    let found = value_alike images kind first.0 there.found second.0 there.below (accessed_ok (value_of kind first.0) second.0 second.1) in
    let same : scalar second.0 ≡ value = cc (second.2) in
    let part : scalar_part_of there.block (source.offset + byte) kind ≡ Ok there.found = ap (λ r. and_then r (λ held. cond (is_aligned kind there.block (source.offset + byte)) (Ok held) (Err Misaligned))) there.there ∙ cond-true _ _ _ there.fits in
    record {
      one = second.0;
      is = sym same;
      given = found.0;
      done = ap (λ slot. live_read slot (λ block. block_value block (source.offset + byte) kind)) there.live ∙ ap (λ r. and_then r (value_of kind)) part ∙ found.1;
      below = found.2;
    }

pub record_member : (images : Images) (others : Blocks) (align byte : ℕ) (source : Ptr) (list part : List Cell) (from to : Option Ptr) (laid : Laid) → PlaceHolds images others align (Object source) list → FitsAt laid.align align byte → member_of_kind byte list from (of_record laid) ≡ Ok (cells part to) → PlaceHolds images others laid.align (Object (behind source byte)) part
record_member images others align byte source list part from to laid holds fits e =
    let first = and_then_ok (value_part list byte laid.size) _ (cells part to) e in
    let is : first.0 ≡ part = cc (first.2) in
    let there = part_there images others align byte laid.size laid.align source list part holds fits (first.1 ∙ ap Ok is) in
    let size = length part in
    let found : part_of there.block (source.offset + byte) size ≡ Ok there.found = ap (part_of there.block (source.offset + byte)) there.many ∙ there.there in
    record {
      at = behind source byte;
      value_is = refl;
      cells = there.found;
      found =
          ap (λ slot. live_read slot (λ block. record_part_of block (source.offset + byte) size laid.align)) there.live
          ∙ ap (λ r. and_then r (λ held. cond (is_record_aligned laid.align there.block (source.offset + byte)) (Ok held) (Err Misaligned))) found
          ∙ cond-true _ _ _ there.fits;
      held = there.held;
      below = there.below;
    }
