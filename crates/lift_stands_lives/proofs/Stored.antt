-- Stores, for what programs hold.
use Rattle.std.proofs.Common.{◌≡◌, ◌≢◌, ℕ, zero, suc, ◌<◌, List, length, All, Some, Result, Ok, refl, sym, ap, ◌∙◌, subst, arith}
use Rattle.cr_base.specs.declared.scalar.Scalar.{Scalar}
use Rattle.cr_base.specs.declared.scalar.Scalar.TheVariants.{Object as Address, Code as Function}
use Rattle.cr_world.specs.Held.{Held, with_blocks}
use Rattle.mem_bytes.specs.declared.cell.Cell.{Cell}
use Rattle.mem_bytes.specs.declared.fault.Fault.{Fault}
use Rattle.mem_bytes.specs.declared.value.Ptr.{Ptr}
use Rattle.mem_bytes.specs.declared.value.Value.{Value}
use Rattle.mem_bytes.specs.declared.value.Value.TheVariants.{Whole, Null, Object, Code}
use Rattle.mem_bytes.specs.Access.{after_put, after_put_record, after_put_cell, after_fill, after_copy}
use Rattle.mem_bytes.specs.Coding.{IsScalar, IsValueOf, scalar_size}
use Rattle.mem_bytes.specs.Laws.{IsHeld, HoldsCells, Writes}
use Rattle.mem_bytes.specs.Memory.{Blocks, live_block}
use Rattle.mem_bytes.proofs.Slots.{live-set_other}
use Rattle.mem_bytes.proofs.Written.{put_writes, put_cell_writes, put_record_writes, fill_writes, copy_writes}
use Rattle.lift_stands.specs.LawsStores.{StandsAfter}
use Rattle.lift_stands.specs.Stands.{Images, PlaceBelow, ValueBelow, CellBelow, CellsBelow, IsVacant}
use Rattle.lift_stands.specs.Worlds.{HeldStands}
use Rattle.lift_stands.proofs.Forms.{number_below, null_below, object_below, function_below}
use Rattle.lift_stands.proofs.Kept.{nothing_keeps}
use Rattle.lift_stands.proofs.Stores.{store_value, store_one, store_record, store_fill, store_copy}
use Rattle.lift_stands_lives.specs.LawsStored.{StoreLeaves}
use Rattle.lift_stands_lives.proofs.HeldLives.{held_changed, held_aside}
use Rattle.lift_stands_lives.proofs.Pushed.{written_many, written_lives}
use Rattle.lift_stands_lives.proofs.Steps.{both_store_keep}

-- what stands for a value of a scalar type is one
value_given : (images : Images) (scalar : Scalar) (value given : Value) → ValueBelow images value given → IsValueOf scalar value → IsValueOf scalar given
value_given images scalar (Whole number) given below is = subst (IsValueOf scalar) (sym (number_below images number given below)) is
value_given images scalar Null given below is = subst (IsValueOf scalar) (sym (null_below images given below)) is
value_given images scalar (Object at) given below is =
    let to = object_below images at given below in
    subst (IsValueOf scalar) (sym to.1) (object_value scalar at to.0 is)
  where
    object_value : (scalar : Scalar) (at to : Ptr) → IsValueOf scalar (Object at) → IsValueOf scalar (Object to)
    object_value Address at to is = is
    object_value scalar at to is = absurd is
value_given images scalar (Code number) given below is =
    let image = function_below images number given below in
    subst (IsValueOf scalar) (sym image.1) (code_value scalar number image.0 is)
  where
    code_value : (scalar : Scalar) (number image : ℕ) → IsValueOf scalar (Code number) → IsValueOf scalar (Code image)
    code_value Function number image is = is
    code_value scalar number image is = absurd is

module _ (images : Images) (held other : Held) (after : Blocks) (at to : Ptr) (stands : HeldStands images held other) (place : PlaceBelow images at to) where
  -- both write at their places
  pub leaves : (count many : ℕ) (stored : Result Blocks Fault) → StandsAfter images after stored → Writes held.blocks at count after → ((beyond : Blocks) → stored ≡ Ok beyond → Writes other.blocks to many beyond) → StoreLeaves images held other after stored
  leaves count many stored done writes others_write =
      let written = others_write done.other done.done in
      record {
        beyond = done.other;
        done = done.done;
        stands = held_changed images held other after done.other stands done.stands (λ number e living. written_lives held.blocks after at count writes number living) (omega (arith, written_many other.blocks done.other to many written));
        keeps = λ base own. both_store_keep base own images held other stands.memories.mapped at to count many after done.other writes written place;
      }

  pub value_leaves : (scalar : Scalar) (value given : Value) → IsScalar scalar → IsValueOf scalar value → ValueBelow images value given → after_put held.blocks at scalar value ≡ Ok after → StoreLeaves images held other after (after_put other.blocks to scalar given)
  value_leaves scalar value given is_scalar is_value below e =
      leaves (scalar_size scalar) (scalar_size scalar) (after_put other.blocks to scalar given) (store_value images held.blocks after other.blocks at to scalar value given stands.memories place below e) (put_writes held.blocks after at scalar value is_scalar is_value e)
      (λ beyond f. put_writes other.blocks beyond to scalar given is_scalar (value_given images scalar value given below is_value) f)

  pub one_leaves : (cell given : Cell) → IsHeld cell → IsHeld given → CellBelow images cell given → after_put_cell held.blocks at cell ≡ Ok after → StoreLeaves images held other after (after_put_cell other.blocks to given)
  one_leaves cell given is_held given_held below e =
      leaves 1 1 (after_put_cell other.blocks to given) (store_one images held.blocks after other.blocks at to cell given stands.memories place below is_held given_held e) (put_cell_writes held.blocks after at cell e) (λ beyond f. put_cell_writes other.blocks beyond to given f)

  pub record_leaves : (align : ℕ) (cells given : List Cell) → All IsHeld cells → All IsHeld given → CellsBelow images cells given → after_put_record held.blocks at align cells ≡ Ok after → StoreLeaves images held other after (after_put_record other.blocks to align given)
  record_leaves align cells given are_held given_held below e =
      leaves (length cells) (length given) (after_put_record other.blocks to align given) (store_record images held.blocks after other.blocks at to align cells given stands.memories place below are_held given_held e) (put_record_writes held.blocks after at align cells e) (λ beyond f. put_record_writes other.blocks beyond to align given f)

  pub fill_leaves : (byte count : ℕ) → byte < 256 → after_fill held.blocks at byte count ≡ Ok after → StoreLeaves images held other after (after_fill other.blocks to byte count)
  fill_leaves byte count small e =
      leaves count count (after_fill other.blocks to byte count) (store_fill images held.blocks after other.blocks at to byte count stands.memories place small e) (fill_writes held.blocks after at byte count e) (λ beyond f. fill_writes other.blocks beyond to byte count f)

  pub copy_leaves : (from source : Ptr) (count : ℕ) → PlaceBelow images from source → after_copy held.blocks from at count ≡ Ok after → StoreLeaves images held other after (after_copy other.blocks source to count)
  copy_leaves from source zero behind e =
      let same : held.blocks ≡ after = cc in
      subst (λ m. StoreLeaves images held other m (Ok other.blocks)) same (record {
        beyond = other.blocks;
        done = refl;
        stands = stands;
        keeps = λ base own. nothing_keeps base own images held other stands.memories.mapped;
      })
  copy_leaves from source (suc n) behind e =
      leaves (suc n) (suc n) (after_copy other.blocks source to (suc n)) (store_copy images held.blocks after other.blocks at to from source (suc n) stands.memories behind place e) (copy_writes held.blocks after from at (suc n) (omega arith) e) (λ beyond f. copy_writes other.blocks beyond source to (suc n) (omega arith) f)

pub written_aside : (images : Images) (held other : Held) (at : Ptr) (count : ℕ) (beyond : Blocks) → HeldStands images held other → IsVacant images held.blocks at.block → Writes other.blocks at count beyond → HoldsCells beyond → HeldStands images held (with_blocks beyond other)
written_aside images held other at count beyond stands free writes holds =
    held_aside images held other beyond stands (record {
      same = λ number image living e.
          let away : at.block ≢ image = λ (same : at.block ≡ image). free number living (e ∙ ap Some (sym same)) in
          ap (λ m. live_block m image) writes.made ∙ live-set_other other.blocks at.block image _ away;
      grows = omega (arith, written_many other.blocks beyond at count writes);
      held = holds;
    })
