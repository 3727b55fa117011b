-- What a change of memory leaves: the lives of blocks, and cells that a machine holds.
use Rattle.std.proofs.Common.{◌≡◌, ℕ, zero, suc, ◌<◌, Bool, true, false, ℤ, pos, negsuc, All, [], ◌∷◌, ◌++◌, Option, Some, None, Ok, slice_set, subst, arith}
use Rattle.std.proofs.Math.Nat.{mod-lt}
use Rattle.std.proofs.lemmas.List.Elements.{All-replicate}
use Rattle.cr_base.specs.Scalar.{residue}
use Rattle.cr_world.specs.Held.{fresh_block}
use Rattle.mem_bytes.proofs.Held.{held_later}
use Rattle.mem_bytes.proofs.Written.{copy_writes, fill_writes}
use Rattle.mem_bytes.specs.Access.{after_copy, after_fill}
use Rattle.mem_bytes.specs.declared.value.Ptr.{Ptr}
use Rattle.mem_bytes.specs.Laws.{IsHeld, HoldsCells, Later}
use Rattle.mem_bytes.specs.Memory.{Block, Blocks, byte_cell, unset_cell}
use Rattle.cx_stays.proofs.Lives.{lives_same, lives_written, lives_killed, lives_made}
use Rattle.cx_stays.specs.Stays.{LivesAgree}

pub record Leaves (before after : Blocks) : Type 0 where
  pub lives : LivesAgree before after
  pub held : HoldsCells before → HoldsCells after

pub leaves_same : (memory : Blocks) → Leaves memory memory
leaves_same memory = record { lives = lives_same memory; held = λ held. held }

-- ---- a block in a place

-- another block stands in a place, or none does
pub held_set : (memory : Blocks) (number : ℕ) (place : Option Block) → ((block : Block) → place ≡ Some block → All IsHeld block.cells) → HoldsCells memory → HoldsCells (slice_set memory number place)
held_set [] number place are held other block live = cc (live)
held_set (first ∷ others) zero place are held zero block live = are block live
held_set (first ∷ others) zero place are held (suc other) block live = held (suc other) block live
held_set (first ∷ others) (suc number) place are held zero block live = held zero block live
held_set (first ∷ others) (suc number) place are held (suc other) block live = held_set others number place are (λ n. held (suc n)) other block live

pub held_killed : (memory : Blocks) (number : ℕ) → HoldsCells memory → HoldsCells (slice_set memory number None)
held_killed memory number held = held_set memory number None (λ block none. cc (none)) held

pub leaves_killed : (memory : Blocks) (number : ℕ) → Leaves memory (slice_set memory number None)
leaves_killed memory number = record { lives = lives_killed memory number; held = held_killed memory number }

-- ---- a block is made

fresh_held : (is_zero : Bool) (size align : ℕ) → All IsHeld (fresh_block is_zero size align).cells
fresh_held true size align = All-replicate IsHeld size (byte_cell 0) (omega arith, omega arith)
fresh_held false size align = All-replicate IsHeld size unset_cell (omega arith, omega arith)

held_made : (memory : Blocks) (new : Block) → All IsHeld new.cells → HoldsCells memory → HoldsCells (memory ++ Some new ∷ [])
held_made [] new is held zero block live = let same : new ≡ block = cc (live) in subst (λ (one : Block). All IsHeld one.cells) same is
held_made [] new is held (suc number) block live = cc
held_made (first ∷ others) new is held zero block live = held zero block live
held_made (first ∷ others) new is held (suc number) block live = held_made others new is (λ n. held (suc n)) number block live

pub leaves_made : (memory : Blocks) (is_zero : Bool) (size align : ℕ) → Leaves memory (memory ++ Some (fresh_block is_zero size align) ∷ [])
leaves_made memory is_zero size align = record {
  lives = lives_made memory (Some (fresh_block is_zero size align));
  held = λ held. held_made memory (fresh_block is_zero size align) (fresh_held is_zero size align) held;
}

-- ---- cells are copied or filled

pub leaves_copied : (memory after : Blocks) (from to : Ptr) (count : ℕ) → 0 < count → after_copy memory from to count ≡ Ok after → Leaves memory after
leaves_copied memory after from to count some e = record {
  lives = lives_written memory after to count (copy_writes memory after from to count some e);
  held = λ held. held_later memory after held (Later.copy from to count Later.now e);
}

residue_below : (value : ℤ) (m : ℕ) → 0 < m → residue value m < m
residue_below (pos n) m some = mod-lt n some
residue_below (negsuc n) m some = omega (arith, mod-lt n some)

pub leaves_filled : (memory after : Blocks) (at : Ptr) (byte : ℤ) (count : ℕ) → after_fill memory at (residue byte 256) count ≡ Ok after → Leaves memory after
leaves_filled memory after at byte count e = record {
  lives = lives_written memory after at count (fill_writes memory after at (residue byte 256) count e);
  held = λ held. held_later memory after held (Later.fill at (residue byte 256) count Later.now (residue_below byte 256 (omega arith)) e);
}
