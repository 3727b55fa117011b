-- Worked memories and cells: what stands for what, and what doesn't. Where a part of the relation is named, the example shows what goes wrong without it.
use Rattle.std.proofs.Common.{◌≡◌, ℕ, zero, suc, ◌<◌, pos, Bool, true, false, All, List, [], ◌∷◌, replicate, Some, None, Ok, Err, refl, sym, ◌∙◌, subst, arith, map}
use Rattle.std.proofs.lemmas.List.Elements.{All-replicate}
use Rattle.std.proofs.lemmas.Nat.Bits.{bit_at-zero}
use Rattle.cr_base.specs.declared.scalar.Scalar.TheVariants.{Whole, Object as Address}
use Rattle.cr_world.specs.Held.{Held, not_allocated}
use Rattle.cr_world.specs.Known.{frees, fills, effect, gives, gives_nothing, fails}
use Rattle.mem_bytes.specs.declared.cell.Cell.TheVariants.{Bits, PtrByte}
use Rattle.mem_bytes.specs.declared.fault.Fault.TheVariants.{Dead, Misaligned, MixedPointer}
use Rattle.mem_bytes.specs.declared.value.Ptr.{Ptr}
use Rattle.mem_bytes.specs.declared.value.Value.TheVariants.{Whole as Number, Null, Object, Code}
use Rattle.mem_bytes.specs.Access.{value_at, field_at, after_put, after_copy}
use Rattle.mem_bytes.specs.Coding.{is_same_pointer, pointer_bytes}
use Rattle.mem_bytes.specs.Laws.{IsHeld, HoldsCells, after_put_cells}
use Rattle.mem_bytes.specs.Memory.{Block, Blocks, live_block, byte_cell, unset_cell}
use Rattle.lift_stands.specs.Keeps.{KeepsOthers}
use Rattle.lift_stands.specs.Stands.{Images, image_of, Extends, PlaceBelow, ValueBelow, bit_of, CellBelow, CellsBelow, BlockBelow, HasImage, Lives, StandsFor, IsNoImage, IsVacant}
use Rattle.lift_stands.specs.Worlds.{HeapStands}
use Rattle.lift_stands.proofs.Cells.{fill_below, cells_of_below}

-- block 0 of C is block 2 of the crate, and block 1 is block 0
abbrev here : Bool → Images
here in_bytes = record { blocks = 2 ∷ 0 ∷ []; functions = λ number. None; in_bytes = in_bytes }

abbrev at : ℕ → ℕ → Ptr
at block offset = record { block = block; offset = offset }

abbrev bytes_of_seven : ℕ → Block
bytes_of_seven align = record { align = align; cells = replicate 4 (byte_cell 7) }

one_entry : (first second : ℕ) → Some first ≡ Some second → first ≡ second
one_entry first second e = cc

-- ---- cells

no_bit : (k : ℕ) → bit_of k 0 ≡ 1 → ⊥
no_bit k e =
    let none : bit_of k 0 ≡ 0 = bit_at-zero k in
    cc

-- a bit that isn't set is below any, so an object of C of which nothing was stored yet is below what a local of the crate had
unset_below_byte : CellBelow (here false) unset_cell (Bits 77 255)
unset_below_byte = record { whole = λ e. cc; each = λ k p e. absurd (no_bit k e); bytes = λ e. cc }

-- but not where the program has a bit-field: then a byte of the crate has all its bits set
unset_not_below_unset : CellBelow (here true) unset_cell unset_cell → ⊥
unset_not_below_unset below =
    let byte = below.bytes refl in
    let same : unset_cell ≡ Bits byte.0 255 = byte.1 in
    cc

-- the eight bytes of a pointer to block 0 are below those of the pointer to its image
pointer_below : CellsBelow (here false) (pointer_bytes (Object (at 0 5))) (pointer_bytes (Object (at 2 5)))
pointer_below = cells_of_below (here false) Address (Object (at 0 5)) (Object (at 2 5)) (ValueBelow.to_image (at 0 5) (at 2 5) (record { block = refl; offset = refl }))

no_pointer_below_itself : PlaceBelow (here false) (at 0 5) (at 0 5) → ⊥
no_pointer_below_itself below = omega (arith, one_entry 2 0 below.block)

-- ---- memories

-- four bytes that are an array of `char` in C are an `i32` of the crate
more_aligned : BlockBelow (here false) (bytes_of_seven 1) (bytes_of_seven 4)
more_aligned = record { align = omega arith; aligned = omega arith; cells = fill_below (here false) 4 7 }

-- block 0 lives, and block 1 has died
abbrev in_c : Blocks
in_c = Some (bytes_of_seven 1) ∷ None ∷ []

abbrev in_crate : Blocks
in_crate = None ∷ None ∷ Some (bytes_of_seven 4) ∷ []

worked_blocks : (number : ℕ) (block : Block) → live_block in_c number ≡ Some block → HasImage (here false) in_crate number block
worked_blocks zero block live =
    let same : bytes_of_seven 1 ≡ block = cc in
    record { image = 2; entry = refl; other = bytes_of_seven 4; live = refl; below = subst (λ b. BlockBelow (here false) b (bytes_of_seven 4)) same more_aligned }
worked_blocks (suc zero) block live = cc
worked_blocks (suc (suc number)) block live = cc

only_first : (number : ℕ) → Lives in_c number → number ≡ 0
only_first zero living = refl
only_first (suc zero) living = let dead : None ≡ Some living.0 = living.1 in cc
only_first (suc (suc number)) living = let dead : None ≡ Some living.0 = living.1 in cc

worked_made : (number image : ℕ) → image_of (here false) number ≡ Some image → image < 3
worked_made zero image e = let same : 2 ≡ image = cc in subst (λ n. n < 3) same (omega arith)
worked_made (suc zero) image e = let same : 0 ≡ image = cc in subst (λ n. n < 3) same (omega arith)
worked_made (suc (suc number)) image e = cc

sevens_held : All IsHeld (replicate 4 (byte_cell 7))
sevens_held = All-replicate IsHeld 4 (byte_cell 7) (omega arith, omega arith)

worked_held : HoldsCells in_c
worked_held zero block live = let same : bytes_of_seven 1 ≡ block = cc in subst (λ b. All IsHeld b.cells) same sevens_held
worked_held (suc zero) block live = cc
worked_held (suc (suc number)) block live = cc

worked_others_held : HoldsCells in_crate
worked_others_held zero block live = cc
worked_others_held (suc zero) block live = cc
worked_others_held (suc (suc zero)) block live = let same : bytes_of_seven 4 ≡ block = cc in subst (λ b. All IsHeld b.cells) same sevens_held
worked_others_held (suc (suc (suc number))) block live = cc

worked_memories : StandsFor (here false) in_c in_crate
worked_memories = record {
  mapped = refl;
  blocks = worked_blocks;
  apart = λ first second image one two e f. only_first first one ∙ sym (only_first second two);
  made = worked_made;
  functions = λ first second image e f. cc;
  held = worked_held;
  others_held = worked_others_held;
}

-- two live blocks have two images: else a store to one would be one to the other
no_shared_image : StandsFor (record { blocks = 0 ∷ 0 ∷ []; functions = λ number. None; in_bytes = false }) (Some (bytes_of_seven 1) ∷ Some (bytes_of_seven 1) ∷ []) (Some (bytes_of_seven 1) ∷ []) → ⊥
no_shared_image stands =
    let same = stands.apart 0 1 0 (bytes_of_seven 1, refl) (bytes_of_seven 1, refl) refl refl in
    omega (arith, same)

-- a block keeps its image when it has died: the bytes of a pointer to it are those of one pointer
image_stays : Extends (here false) (record { blocks = 3 ∷ 0 ∷ []; functions = λ number. None; in_bytes = false }) → ⊥
image_stays more = omega (arith, one_entry 3 2 (more.blocks 0 2 refl))

-- two functions have two images: else `f == g` were true in the crate alone
no_shared_function : StandsFor (record { blocks = []; functions = λ number. Some 7; in_bytes = false }) [] [] → ⊥
no_shared_function stands =
    let same = stands.functions 0 1 7 refl refl in
    omega (arith, same)

functions_differ : is_same_pointer (Code 0) (Code 1) ≡ false
functions_differ = refl

one_image_is_equal : is_same_pointer (Code 7) (Code 7) ≡ true
one_image_is_equal = refl

-- cells that no machine holds: the bit-field of the second byte isn't that byte
field_of_no_bytes : field_at (Some (record { align = 1; cells = Bits 256 255 ∷ Bits 0 255 ∷ [] }) ∷ []) (at 0 0) 8 8 ≡ Ok 1
field_of_no_bytes = refl

byte_beside_field : value_at (Some (record { align = 1; cells = Bits 256 255 ∷ Bits 0 255 ∷ [] }) ∷ []) (at 0 1) (Whole 8 false) ≡ Ok (Number (pos 0))
byte_beside_field = refl

-- an alignment of 0: a bit-field is loaded, and its byte isn't
field_of_no_alignment : field_at (Some (bytes_of_seven 0) ∷ []) (at 0 0) 0 8 ≡ Ok 7
field_of_no_alignment = refl

byte_of_no_alignment : value_at (Some (bytes_of_seven 0) ∷ []) (at 0 0) (Whole 8 false) ≡ Err Misaligned
byte_of_no_alignment = refl

-- ---- allocated blocks

abbrev held_as : Blocks → List ℕ → Held
held_as blocks heap = record { blocks = blocks; heap = heap }

-- an image that isn't listed: C may free its block, and the crate may not
unlisted_image : HeapStands (here false) (held_as in_c (0 ∷ [])) (held_as in_crate []) → ⊥
unlisted_image heaps =
    let image = heaps.given 0 refl in
    let listed : false ≡ true = image.listed in
    cc

freed_in_c : effect frees (Object (at 0 0) ∷ []) (held_as in_c (0 ∷ [])) ≡ gives_nothing (held_as (None ∷ None ∷ []) [])
freed_in_c = refl

not_freed_in_crate : effect frees (Object (at 2 0) ∷ []) (held_as in_crate []) ≡ fails not_allocated
not_freed_in_crate = refl

null_is_freed : effect frees (Null ∷ []) (held_as in_crate []) ≡ gives_nothing (held_as in_crate [])
null_is_freed = refl

no_bytes_are_set : effect fills (Object (at 2 4) ∷ Number (pos 9) ∷ Number (pos 0) ∷ []) (held_as in_crate []) ≡ gives (Object (at 2 4)) (held_as in_crate [])
no_bytes_are_set = refl

-- ---- what isn't a piece's own

-- `for (..) { { int x = 1; } g(); }`: while `g` runs, the local of `x` is the image of a block that has died. It is no image of a live one ..
abbrev of_x : Images
of_x = record { blocks = 1 ∷ []; functions = λ number. None; in_bytes = false }

abbrev with_local : Blocks
with_local = None ∷ Some (bytes_of_seven 4) ∷ []

local_is_vacant : IsVacant of_x (None ∷ []) 1
local_is_vacant zero living e = let dead : None ≡ Some living.0 = living.1 in cc
local_is_vacant (suc number) living e = let dead : None ≡ Some living.0 = living.1 in cc

-- .. and it is an image, so that to keep only what is no image wouldn't keep it ..
local_is_image : IsNoImage of_x 1 → ⊥
local_is_image none = none 0 refl

-- .. but the next turn stores in it
store_in_no_local : after_put (None ∷ None ∷ []) (at 1 0) (Whole 32 true) (Number (pos 1)) ≡ Err Dead
store_in_no_local = refl

vacant_local_stays : KeepsOthers 2 (λ number. false) of_x of_x (held_as (None ∷ []) []) (held_as (None ∷ []) []) (held_as with_local []) (held_as (None ∷ None ∷ []) []) → ⊥
vacant_local_stays keeps =
    let same : None ≡ Some (bytes_of_seven 4) = keeps.vacant 1 (omega arith) local_is_vacant refl in
    cc

-- a piece that ends the life of `x` doesn't end its local's
room_of_local_stays : KeepsOthers 2 (λ number. false) of_x of_x (held_as (Some (bytes_of_seven 4) ∷ []) []) (held_as (None ∷ []) []) (held_as with_local []) (held_as (None ∷ None ∷ []) []) → ⊥
room_of_local_stays keeps =
    let on = keeps.rooms 1 (bytes_of_seven 4) (omega arith) refl refl in
    let gone : None ≡ Some on.block = on.live in
    cc

-- no block that C makes meanwhile is in a room that was there
new_block_is_elsewhere : KeepsOthers 2 (λ number. false) of_x (record { blocks = 1 ∷ 1 ∷ []; functions = λ number. None; in_bytes = false }) (held_as (None ∷ []) []) (held_as (None ∷ Some (bytes_of_seven 4) ∷ []) []) (held_as with_local []) (held_as with_local []) → ⊥
new_block_is_elsewhere keeps = let late = keeps.past 1 1 (omega arith) refl in omega (arith, late)

-- and none that has died lives again there
dead_stays_dead : KeepsOthers 2 (λ number. false) of_x of_x (held_as (None ∷ []) []) (held_as (Some (bytes_of_seven 4) ∷ []) []) (held_as with_local []) (held_as with_local []) → ⊥
dead_stays_dead keeps =
    let gone : Some (bytes_of_seven 4) ≡ None = keeps.dead 0 (omega arith) refl in
    cc

-- ---- copies

-- a pointer whose eight bytes are copied one by one is the same pointer, in C and in the crate
abbrev eight_bytes : Block
eight_bytes = record { align = 8; cells = replicate 8 (byte_cell 0) }

abbrev pointer_block : Ptr → Block
pointer_block to = record { align = 8; cells = pointer_bytes (Object to) }

copied_in_c : after_put_cells (Some eight_bytes ∷ []) (at 0 0) (pointer_bytes (Object (at 0 5))) ≡ Ok (Some (pointer_block (at 0 5)) ∷ [])
copied_in_c = refl

copied_in_crate : value_at (Some (pointer_block (at 2 5)) ∷ []) (at 0 0) Address ≡ Ok (Object (at 2 5))
copied_in_crate = refl

-- one byte of another pointer among them is no pointer
mixed_in_crate : value_at (Some (record { align = 8; cells = PtrByte (Object (at 1 5)) 0 ∷ map (λ index. PtrByte (Object (at 2 5)) index) (1 ∷ 2 ∷ 3 ∷ 4 ∷ 5 ∷ 6 ∷ 7 ∷ []) }) ∷ []) (at 0 0) Address ≡ Err MixedPointer
mixed_in_crate = refl

-- a structure that is copied to itself, and one to a place that it overlaps
abbrev counted : Block
counted = record { align = 4; cells = map byte_cell (1 ∷ 2 ∷ 3 ∷ 4 ∷ []) }

copied_to_itself : after_copy (Some counted ∷ []) (at 0 0) (at 0 0) 4 ≡ Ok (Some counted ∷ [])
copied_to_itself = refl

copied_over_itself : after_copy (Some counted ∷ []) (at 0 0) (at 0 1) 3 ≡ Ok (Some (record { align = 4; cells = map byte_cell (1 ∷ 1 ∷ 2 ∷ 3 ∷ []) }) ∷ [])
copied_over_itself = refl

-- unset cells are copied as they are, and what stands for them goes with them
unset_copied : after_copy (Some (record { align = 1; cells = unset_cell ∷ byte_cell 3 ∷ [] }) ∷ []) (at 0 0) (at 0 1) 1 ≡ Ok (Some (record { align = 1; cells = unset_cell ∷ unset_cell ∷ [] }) ∷ [])
unset_copied = refl
