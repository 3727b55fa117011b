-- Stores at places of the crate that stand for places of C.
use Rattle.std.proofs.Common.{◌≡◌, ◌≢◌, ℕ, zero, suc, ◌<◌, All, List, [], ◌∷◌, length, drop, replicate, slice_set, Option, Some, None, Result, Ok, refl, sym, ap, ◌∙◌, subst, ⊎_elim, arith}
use Rattle.std.proofs.lemmas.Bool.{cases_eq, cond-false, ne_eqb}
use Rattle.std.proofs.lemmas.List.{length-set}
use Rattle.std.proofs.lemmas.List.Elements.{All-nil, All-cons, All-replicate, All-take, All-drop}
use Rattle.cr_base.specs.declared.scalar.Scalar.{Scalar}
use Rattle.mem_bytes.specs.declared.cell.Cell.{Cell}
use Rattle.mem_bytes.specs.declared.fault.Fault.{Fault}
use Rattle.mem_bytes.specs.declared.value.Ptr.{Ptr}
use Rattle.mem_bytes.specs.declared.value.Value.{Value}
use Rattle.mem_bytes.specs.Access.{and_then, part_of, scalar_part_of, record_part_of, block_with_value, block_with_cell, block_with_fill, block_with_record, block_with_copy, live_read, live_change, copied_between, after_put, after_put_cell, after_put_record, after_fill, after_copy}
use Rattle.mem_bytes.specs.Coding.{cells_of}
use Rattle.mem_bytes.specs.Laws.{IsHeld}
use Rattle.mem_bytes.specs.Memory.{Block, Blocks, live_block, byte_cell, with_part}
use Rattle.mem_bytes.proofs.Held.{held_value, held_part, held_set}
use Rattle.mem_bytes.proofs.Reached.{and_then_ok, changed, part_ok}
use Rattle.mem_bytes.proofs.Slots.{live-set_other, live-set_same, live_within}
use Rattle.lift_stands.specs.LawsStores.{StandsAfter}
use Rattle.lift_stands.specs.Stands.{Images, image_of, PlaceBelow, ValueBelow, CellBelow, CellsBelow, BlockBelow, HasImage, Lives, StandsFor}
use Rattle.lift_stands.proofs.Cells.{length_below, part_below, fill_below, cells_of_below}
use Rattle.lift_stands.proofs.Loads.{block_there, part_there, scalar_part_there, record_part_there}

-- ---- one block changes on both sides

module _ (images : Images) (memory others : Blocks) (number image : ℕ) (block new other next : Block) (stands : StandsFor images memory others) (live : live_block memory number ≡ Some block) (entry : image_of images number ≡ Some image) (there : live_block others image ≡ Some other) (below : BlockBelow images new next) where
  lived_before : (one : ℕ) → Lives (slice_set memory number (Some new)) one → Lives memory one
  lived_before one living =
      ⊎_elim
      (λ (same : number ≡ one). (block, subst (λ n. live_block memory n ≡ Some block) same live))
      (λ (apart : number ≢ one). (living.0, sym (live-set_other memory number one (Some new) apart) ∙ living.1))
      (cases_eq number one)

  image_of_changed : (one : ℕ) (held : Block) → live_block (slice_set memory number (Some new)) one ≡ Some held → HasImage images (slice_set others image (Some next)) one held
  image_of_changed one held e =
      ⊎_elim
      (λ (same : number ≡ one).
      let now : live_block (slice_set memory number (Some new)) one ≡ Some new = subst (λ n. live_block (slice_set memory number (Some new)) n ≡ Some new) same (live-set_same memory number new (live_within memory number block live)) in
      let is : new ≡ held = cc in
      record {
        image = image;
        entry = subst (λ n. image_of images n ≡ Some image) same entry;
        other = next;
        live = live-set_same others image next (live_within others image other there);
        below = subst (λ b. BlockBelow images b next) is below;
      })
      (λ (apart : number ≢ one).
      let was : live_block memory one ≡ Some held = sym (live-set_other memory number one (Some new) apart) ∙ e in
      let has = stands.blocks one held was in
      let away : image ≢ has.image = λ (same : image ≡ has.image). apart (stands.apart number one image (block, live) (held, was) entry (has.entry ∙ ap Some (sym same))) in
      record {
        image = has.image;
        entry = has.entry;
        other = has.other;
        live = live-set_other others image has.image (Some next) away ∙ has.live;
        below = has.below;
      })
      (cases_eq number one)

  pub set_stands : All IsHeld new.cells → All IsHeld next.cells → StandsFor images (slice_set memory number (Some new)) (slice_set others image (Some next))
  set_stands held others_held = record {
    mapped = stands.mapped ∙ sym (length-set memory number (Some new));
    blocks = image_of_changed;
    apart = λ first second one living lives e f. stands.apart first second one (lived_before first living) (lived_before second lives) e f;
    made = λ one place e. omega (arith, stands.made one place e, length-set others image (Some next));
    functions = stands.functions;
    held = held_set memory number new stands.held held;
    others_held = held_set others image next stands.others_held others_held;
  }

-- what a step makes of the block of the crate beside the one of C
pub record StepsTo (images : Images) (new : Block) (step : Result Block Fault) : Type 0 where
  pub next : Block
  pub done : step ≡ Ok next
  pub below : BlockBelow images new next
  pub held : All IsHeld new.cells
  pub others_held : All IsHeld next.cells

pub change_stands : (images : Images) (memory after others : Blocks) (at to : Ptr) (step other_step : Block → Result Block Fault) → StandsFor images memory others → PlaceBelow images at to → ((block new other : Block) → BlockBelow images block other → All IsHeld block.cells → All IsHeld other.cells → step block ≡ Ok new → StepsTo images new (other_step other)) → live_change memory at.block step ≡ Ok after → StandsAfter images after (live_change others to.block other_step)
change_stands images memory after others at to step other_step stands place steps e =
    let change = changed memory after at.block step e in
    let there = block_there images memory others at to change.block stands place change.live in
    let next = steps change.block change.new there.other there.below (stands.held at.block change.block change.live) (stands.others_held to.block there.other there.live) change.stepped in
    let both = set_stands images memory others at.block to.block change.block change.new there.other next.next stands change.live place.block there.live next.below next.held next.others_held in
    record {
      other = slice_set others to.block (Some next.next);
      done =
          ap (λ slot. and_then (live_read slot other_step) (λ block. Ok (slice_set others to.block (Some block)))) there.live
          ∙ ap (λ r. and_then r (λ block. Ok (slice_set others to.block (Some block)))) next.done;
      stands = subst (λ m. StandsFor images m (slice_set others to.block (Some next.next))) (sym change.made) both;
    }

-- cells that are written into both blocks
module _ (images : Images) (block new other : Block) (below : BlockBelow images block other) (held : All IsHeld block.cells) (others_held : All IsHeld other.cells) (offset there : ℕ) (same : there ≡ offset) (cells given : List Cell) (over : CellsBelow images cells given) (cells_held : All IsHeld cells) (given_held : All IsHeld given) where
  written : BlockBelow images (with_part block offset cells) (with_part other offset given)
  written = record { align = below.align; aligned = below.aligned; cells = part_below images offset block.cells other.cells cells given below.cells over }

  pub part_steps : (step : Result Block Fault) → with_part block offset cells ≡ new → step ≡ Ok (with_part other there given) → StepsTo images new step
  part_steps step made done = record {
    next = with_part other offset given;
    done = done ∙ ap (λ n. Ok (with_part other n given)) same;
    below = subst (λ b. BlockBelow images b (with_part other offset given)) made written;
    held = subst (λ b. All IsHeld b.cells) made (held_part block offset cells held cells_held);
    others_held = held_part other offset given others_held given_held;
  }

-- the cells of a part are held where those of its block are
held_of_part : (block : Block) (offset count : ℕ) (cells : List Cell) → All IsHeld block.cells → part_of block offset count ≡ Ok cells → All IsHeld cells
held_of_part block offset count cells held e =
    subst (All IsHeld) (sym (part_ok block offset count cells e).1) (All-take IsHeld count (drop offset block.cells) (All-drop IsHeld offset block.cells held))

-- ---- stores

module _ (images : Images) (memory after others : Blocks) (at to : Ptr) where
  pub store_value : (scalar : Scalar) (value other : Value) → StandsFor images memory others → PlaceBelow images at to → ValueBelow images value other → after_put memory at scalar value ≡ Ok after → StandsAfter images after (after_put others to scalar other)
  store_value scalar value other stands place below e =
      change_stands images memory after others at to (λ block. block_with_value block at.offset scalar value) (λ block. block_with_value block to.offset scalar other) stands place (λ block new beside under held others_held f.
      let parts = and_then_ok (scalar_part_of block at.offset scalar) (λ _. Ok (with_part block at.offset (cells_of scalar value))) new f in
      let part = scalar_part_there images block beside under at.offset to.offset place.offset scalar parts.0 parts.1 in
      let made : with_part block at.offset (cells_of scalar value) ≡ new = cc (parts.2) in
      part_steps images block new beside under held others_held at.offset to.offset place.offset (cells_of scalar value) (cells_of scalar other) (cells_of_below images scalar value other below) (held_value scalar value) (held_value scalar other) (block_with_value beside to.offset scalar other) made (ap (λ r. and_then r (λ _. Ok (with_part beside to.offset (cells_of scalar other)))) part.1)) e

  pub store_one : (cell other : Cell) → StandsFor images memory others → PlaceBelow images at to → CellBelow images cell other → IsHeld cell → IsHeld other → after_put_cell memory at cell ≡ Ok after → StandsAfter images after (after_put_cell others to other)
  store_one cell other stands place below is_held other_held e =
      change_stands images memory after others at to (λ block. block_with_cell block at.offset cell) (λ block. block_with_cell block to.offset other) stands place (λ block new beside under held others_held f.
      let parts = and_then_ok (part_of block at.offset 1) (λ _. Ok (with_part block at.offset (cell ∷ []))) new f in
      let part = part_there images block beside under at.offset to.offset place.offset 1 parts.0 parts.1 in
      let made : with_part block at.offset (cell ∷ []) ≡ new = cc (parts.2) in
      part_steps images block new beside under held others_held at.offset to.offset place.offset (cell ∷ []) (other ∷ []) (below, tt) (All-cons IsHeld cell [] is_held (All-nil IsHeld)) (All-cons IsHeld other [] other_held (All-nil IsHeld)) (block_with_cell beside to.offset other) made (ap (λ r. and_then r (λ _. Ok (with_part beside to.offset (other ∷ [])))) part.1)) e

  pub store_record : (align : ℕ) (cells other : List Cell) → StandsFor images memory others → PlaceBelow images at to → CellsBelow images cells other → All IsHeld cells → All IsHeld other → after_put_record memory at align cells ≡ Ok after → StandsAfter images after (after_put_record others to align other)
  store_record align cells other stands place below are_held other_held e =
      change_stands images memory after others at to (λ block. block_with_record block at.offset align cells) (λ block. block_with_record block to.offset align other) stands place (λ block new beside under held others_held f.
      let parts = and_then_ok (record_part_of block at.offset (length cells) align) (λ _. Ok (with_part block at.offset cells)) new f in
      let part = record_part_there images block beside under at.offset to.offset place.offset (length cells) align parts.0 parts.1 in
      let made : with_part block at.offset cells ≡ new = cc (parts.2) in
      let many : length other ≡ length cells = length_below images cells other below in
      part_steps images block new beside under held others_held at.offset to.offset place.offset cells other below are_held other_held (block_with_record beside to.offset align other) made (ap (λ r. and_then r (λ _. Ok (with_part beside to.offset other))) (ap (λ n. record_part_of beside to.offset n align) many ∙ part.1))) e

  pub store_fill : (byte count : ℕ) → StandsFor images memory others → PlaceBelow images at to → byte < 256 → after_fill memory at byte count ≡ Ok after → StandsAfter images after (after_fill others to byte count)
  store_fill byte count stands place small e =
      let filled : All IsHeld (replicate count (byte_cell byte)) = All-replicate IsHeld count (byte_cell byte) (small, omega arith) in
      change_stands images memory after others at to (λ block. block_with_fill block at.offset byte count) (λ block. block_with_fill block to.offset byte count) stands place (λ block new beside under held others_held f.
      let parts = and_then_ok (part_of block at.offset count) (λ _. Ok (with_part block at.offset (replicate count (byte_cell byte)))) new f in
      let part = part_there images block beside under at.offset to.offset place.offset count parts.0 parts.1 in
      let made : with_part block at.offset (replicate count (byte_cell byte)) ≡ new = cc (parts.2) in
      part_steps images block new beside under held others_held at.offset to.offset place.offset (replicate count (byte_cell byte)) (replicate count (byte_cell byte)) (fill_below images count byte) filled filled (block_with_fill beside to.offset byte count) made (ap (λ r. and_then r (λ _. Ok (with_part beside to.offset (replicate count (byte_cell byte))))) part.1)) e

  copied_stand : (from source : Ptr) (count : ℕ) (slot target : Option Block) → StandsFor images memory others → PlaceBelow images from source → PlaceBelow images at to → live_block memory from.block ≡ slot → live_block memory at.block ≡ target → copied_between memory from at count slot target ≡ Ok after → StandsAfter images after (copied_between others source to count (live_block others source.block) (live_block others to.block))
  copied_stand from source count None None stands behind place live there e = cc
  copied_stand from source count None (Some t) stands behind place live there e = cc
  copied_stand from source count (Some s) None stands behind place live there e = cc
  copied_stand from source count (Some s) (Some t) stands behind place live there e =
      let made = and_then_ok (block_with_copy t at.offset s from.offset count) (λ block. Ok (slice_set memory at.block (Some block))) after e in
      let result : slice_set memory at.block (Some made.0) ≡ after = cc (made.2) in
      let read = and_then_ok (part_of s from.offset count) (λ cells. and_then (part_of t at.offset count) (λ _. Ok (with_part t at.offset cells))) made.0 made.1 in
      let room = and_then_ok (part_of t at.offset count) (λ _. Ok (with_part t at.offset read.0)) made.0 read.2 in
      let block : with_part t at.offset read.0 ≡ made.0 = cc (room.2) in
      let first = block_there images memory others from source s stands behind live in
      let next = block_there images memory others at to t stands place there in
      let cells = part_there images s first.other first.below from.offset source.offset behind.offset count read.0 read.1 in
      let other_room = part_there images t next.other next.below at.offset to.offset place.offset count room.0 room.1 in
      let read_held = held_of_part s from.offset count read.0 (stands.held from.block s live) read.1 in
      let cells_held = held_of_part first.other source.offset count cells.0 (stands.others_held source.block first.other first.live) cells.1 in
      let steps =
      part_steps images t made.0 next.other next.below (stands.held at.block t there) (stands.others_held to.block next.other next.live) at.offset to.offset place.offset read.0 cells.0 cells.2 read_held cells_held (block_with_copy next.other to.offset first.other source.offset count) block
      (ap (λ r. and_then r (λ c. and_then (part_of next.other to.offset count) (λ _. Ok (with_part next.other to.offset c)))) cells.1 ∙ ap (λ r. and_then r (λ _. Ok (with_part next.other to.offset cells.0))) other_room.1) in
      let both = set_stands images memory others at.block to.block t made.0 next.other steps.next stands there place.block next.live steps.below steps.held steps.others_held in
      record {
        other = slice_set others to.block (Some steps.next);
        done =
            ap (λ one. copied_between others source to count one (live_block others to.block)) first.live
            ∙ ap (λ one. copied_between others source to count (Some first.other) one) next.live
            ∙ ap (λ r. and_then r (λ b. Ok (slice_set others to.block (Some b)))) steps.done;
        stands = subst (λ m. StandsFor images m (slice_set others to.block (Some steps.next))) result both;
      }

  pub store_copy : (from source : Ptr) (count : ℕ) → StandsFor images memory others → PlaceBelow images from source → PlaceBelow images at to → after_copy memory from at count ≡ Ok after → StandsAfter images after (after_copy others source to count)
  store_copy from source zero stands behind place e =
      let same : memory ≡ after = cc in
      record { other = others; done = refl; stands = subst (λ m. StandsFor images m others) same stands }
  store_copy from source (suc count) stands behind place e =
      let some = ne_eqb (suc count) 0 (λ none. omega arith) in
      let both = copied_stand from source (suc count) (live_block memory from.block) (live_block memory at.block) stands behind place refl refl (sym (cond-false _ _ _ some) ∙ e) in
      record { other = both.other; done = cond-false _ _ _ some ∙ both.done; stands = both.stands }
