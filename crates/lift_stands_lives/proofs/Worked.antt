-- Worked lives: what begins and dies, and what is wrong with the steps that no law has.
use Rattle.std.proofs.Common.{◌≡◌, ℕ, ◌≤◌, pos, Bool, true, false, All, List, [], ◌∷◌, map, replicate, Option, Some, None, Ok, refl, ap, arith, Result, sym, subst}
use Rattle.std.proofs.lemmas.List.Elements.{All-replicate, All-head}
use Rattle.cr_base.specs.declared.scalar.Scalar.TheVariants.{Whole}
use Rattle.cr_world.specs.Held.{Held, fresh_block}
use Rattle.cr_world.specs.World.{World, open_ended, object_begun}
use Rattle.mem_bytes.specs.declared.cell.Cell.{Cell}
use Rattle.mem_bytes.specs.declared.cell.Cell.TheVariants.{Bits, PtrByte}
use Rattle.mem_bytes.specs.declared.fault.Fault.{Fault}
use Rattle.mem_bytes.specs.declared.value.Ptr.{Ptr}
use Rattle.mem_bytes.specs.declared.value.Value.TheVariants.{Whole as Number, Object}
use Rattle.mem_bytes.specs.Access.{value_at, after_put, after_fill, after_put_record, after_copy, record_at}
use Rattle.mem_bytes.specs.Laws.{IsHeld, Writes}
use Rattle.mem_bytes.specs.Memory.{Block, Blocks, unset_cell, byte_cell, new_block}
use Rattle.mem_bytes.specs.Coding.{IsValueOf, pointer_bytes}
use Rattle.lift_stands.specs.Keeps.{KeepsOthers}
use Rattle.lift_stands.specs.Stands.{Images, BlockBelow, IsByte, StandsFor, IsVacant, ValueBelow, PlaceHolds, CellsBelow, bit_of}
use Rattle.lift_stands.specs.Worlds.{HeapStands, HeldStands}
use Rattle.lift_stands_lives.specs.LawsVacant.{LeavesVacant}
use Rattle.lift_stands_lives.specs.LawsStored.{StoreLeaves}
use Rattle.lift_stands_lives.proofs.Stored.{value_leaves}
use Rattle.lift_stands_lives.proofs.Copied.{one_place}
use Rattle.lift_stands_lives.specs.Rooms.{HasRoom, IsZeroEnough, KeepsImages, MayChange}
use Rattle.lift_stands_lives.proofs.HeldLives.{held_freed, held_allocated}
use Rattle.lift_stands_lives.proofs.Lives.{onto, both, beside, dies, both_die}
use Rattle.lift_stands_lives.proofs.Rooms.{room_below, fresh_held}
use Rattle.lift_stands_lives.proofs.Steps.{both_store_keep}
use Rattle.lift_stands_lives.proofs.Vacant.{vacant_left}

abbrev at : ℕ → ℕ → Ptr
at block offset = record { block = block; offset = offset }

abbrev imaged : Bool → List ℕ → Images
imaged in_bytes blocks = record { blocks = blocks; functions = λ number. None; in_bytes = in_bytes }

abbrev sevens : Block
sevens = record { align = 4; cells = replicate 4 (byte_cell 7) }

sevens_held : All IsHeld (replicate 4 (byte_cell 7))
sevens_held = All-replicate IsHeld 4 (byte_cell 7) (omega arith, omega arith)

-- ---- rooms

-- an `int` whose bits are unset is below four bytes of a local that hold what the last turn of a loop left there
room_of_sevens : HasRoom false 4 4 sevens
room_of_sevens = record { same_size = refl; enough_align = omega arith; aligned = omega arith; bytes = λ e. cc }

new_below_sevens : BlockBelow (imaged false []) (new_block 4 4) sevens
new_below_sevens = room_below (imaged false []) 4 4 sevens room_of_sevens

-- where the program has a bit-field member the room has bytes alone
no_room_of_unset : HasRoom true 1 1 (new_block 1 1) → ⊥
no_room_of_unset room =
    let byte = All-head IsByte unset_cell [] (room.bytes refl) in
    let same : unset_cell ≡ Bits byte.0 255 = byte.1 in
    cc

-- and `malloc` of C is `calloc` of the crate
unset_isnt_enough : IsZeroEnough true false false → ⊥
unset_isnt_enough enough = let no : false ≡ true = enough.bytes refl in cc

zero_is_enough : IsZeroEnough true false true
zero_is_enough = record { zero = λ e. refl; bytes = λ e. refl }

-- ---- lives

no_memory : (in_bytes : Bool) → StandsFor (imaged in_bytes []) [] []
no_memory in_bytes = record {
  mapped = refl;
  blocks = λ number block live. cc;
  apart = λ first second image one two e f. cc;
  made = λ number image e. cc;
  functions = λ first second image e f. cc;
  held = λ number block live. cc;
  others_held = λ number block live. cc;
}

-- an object of C begins, and a local with it
begun : StandsFor (imaged false (0 ∷ [])) (Some (new_block 4 4) ∷ []) (Some sevens ∷ [])
begun = both (imaged false []) [] [] (new_block 4 4) sevens (no_memory false) new_below_sevens (fresh_held false 4 4) sevens_held

-- `for (..) { int x; .. }`: it dies, while the local lives on, and the next `x` begins on that local
ended : StandsFor (imaged false (0 ∷ [])) (None ∷ []) (Some sevens ∷ [])
ended = dies (imaged false (0 ∷ [])) (Some (new_block 4 4) ∷ []) (Some sevens ∷ []) 0 begun

local_is_vacant : IsVacant (imaged false (0 ∷ [])) (None ∷ []) 0
local_is_vacant = vacant_left (imaged false (0 ∷ [])) (Some (new_block 4 4) ∷ []) (Some sevens ∷ []) 0 0 begun (new_block 4 4, refl) refl

entered_again : StandsFor (imaged false (0 ∷ 0 ∷ [])) (None ∷ Some (new_block 4 4) ∷ []) (Some sevens ∷ [])
entered_again =
    onto (imaged false (0 ∷ [])) (None ∷ []) (Some sevens ∷ []) 0 (new_block 4 4) sevens ended
    (record { vacant = local_is_vacant; live = refl }) (room_below (imaged false (0 ∷ [])) 4 4 sevens room_of_sevens) (fresh_held false 4 4)

-- a block of the crate that stands for nothing begins beside it, and dies with no harm
with_another : StandsFor (imaged false (0 ∷ [])) (Some (new_block 4 4) ∷ []) (Some sevens ∷ Some sevens ∷ [])
with_another = beside (imaged false (0 ∷ [])) (Some (new_block 4 4) ∷ []) (Some sevens ∷ []) sevens begun sevens_held

both_gone : StandsFor (imaged false (0 ∷ [])) (None ∷ []) (None ∷ [])
both_gone = both_die (imaged false (0 ∷ [])) (Some (new_block 4 4) ∷ []) (Some sevens ∷ []) 0 0 begun (new_block 4 4, refl) refl

-- the crate alone may not let what stands for a live block die: C still loads from it
image_lives : KeepsImages (imaged false (0 ∷ [])) (Some sevens ∷ []) (Some sevens ∷ []) (None ∷ []) → ⊥
image_lives keeps =
    let same : None ≡ Some sevens = keeps.same 0 0 (sevens, refl) refl in
    cc

loaded_in_c : value_at (Some sevens ∷ []) (at 0 0) (Whole 32 true) ≡ Ok (Number (pos 117901063))
loaded_in_c = refl

-- ---- vacancy

-- a local isn't vacant while its object lives
used_isnt_vacant : IsVacant (imaged false (0 ∷ [])) (Some sevens ∷ []) 0 → ⊥
used_isnt_vacant free = free 0 (sevens, refl) refl

-- a block of C that begins meanwhile takes its image elsewhere
taken_meanwhile : LeavesVacant (imaged false (0 ∷ [])) (imaged false (0 ∷ 0 ∷ [])) (None ∷ []) (None ∷ Some sevens ∷ []) 0 → ⊥
taken_meanwhile leaves = leaves.past 1 (omega arith) (sevens, refl) refl

-- and what has died doesn't live again
alive_again : LeavesVacant (imaged false (0 ∷ [])) (imaged false (0 ∷ [])) (None ∷ []) (Some sevens ∷ []) 0 → ⊥
alive_again leaves =
    let living = leaves.dead 0 (omega arith) (sevens, refl) in
    let dead : None ≡ Some living.0 = living.1 in
    cc

-- ---- allocated blocks

abbrev held_as : Blocks → List ℕ → Held
held_as blocks heap = record { blocks = blocks; heap = heap }

no_held : HeldStands (imaged true []) (held_as [] []) (held_as [] [])
no_held = record { memories = no_memory true; heaps = record { given = λ number e. cc; lives = tt; made = λ number e. cc } }

-- `malloc(2)` of a program with a bit-field member, which is `calloc(1, 2)` of its crate
given_by_both : HeldStands (imaged true (0 ∷ [])) (held_as (Some (new_block 2 16) ∷ []) (0 ∷ [])) (held_as (Some (fresh_block true 2 16) ∷ []) (0 ∷ []))
given_by_both = held_allocated (imaged true []) (held_as [] []) (held_as [] []) false true 2 no_held zero_is_enough

freed_by_both : HeldStands (imaged true (0 ∷ [])) (held_as (None ∷ []) []) (held_as (None ∷ []) [])
freed_by_both =
    held_freed (imaged true (0 ∷ [])) (held_as (Some (new_block 2 16) ∷ []) (0 ∷ [])) (held_as (Some (fresh_block true 2 16) ∷ []) (0 ∷ [])) 0 0 given_by_both refl refl

-- a listed block of C that dies as a local does would leave a list of what doesn't live
listed_lives_on : HeapStands (imaged true (0 ∷ [])) (held_as (None ∷ []) (0 ∷ [])) (held_as (Some sevens ∷ []) (0 ∷ [])) → ⊥
listed_lives_on heaps =
    let living = heaps.lives.0 in
    let dead : None ≡ Some living.0 = living.1 in
    cc

-- ---- worlds

abbrev world_of : Blocks → World
world_of blocks = record { held = held_as blocks []; made = []; answers = []; terms = open_ended }

begun_in_c : object_begun {F = Fault} false 2 2 (world_of (Some sevens ∷ [])) ≡ Ok (record { value = at 1 0; world = world_of (Some sevens ∷ Some (new_block 2 2) ∷ []) })
begun_in_c = refl

begun_in_crate : object_begun {F = Fault} true 2 2 (world_of []) ≡ Ok (record { value = at 0 0; world = world_of (Some (fresh_block true 2 2) ∷ []) })
begun_in_crate = refl

-- ---- single steps

abbrev align_of : Option Block → ℕ
align_of None = 0
align_of (Some block) = block.align

-- a caller's block 0, which stood for nothing, is written: only where it is the piece's own
foreign_is_kept : KeepsOthers 1 (λ number. false) (imaged false []) (imaged false []) (held_as [] []) (held_as [] []) (held_as (Some sevens ∷ []) []) (held_as (Some (fresh_block true 4 8) ∷ []) []) → ⊥
foreign_is_kept keeps =
    let same : Some (fresh_block true 4 8) ≡ Some sevens = keeps.vacant 0 (omega arith) (λ number living e. cc) refl in
    let aligns : 8 ≡ 4 = ap align_of same in
    omega (arith, aligns)

own_may_change : MayChange 1 (λ number. true) (imaged false []) [] 0
own_may_change p free = refl

foreign_may_not : MayChange 1 (λ number. false) (imaged false []) [] 0 → ⊥
foreign_may_not may = let no : false ≡ true = may (omega arith) (λ number living e. cc) in cc

-- a static object is written through its image, which is block 0, by a function that was entered when the crate had made one block
abbrev written : Blocks
written = Some (record { align = 4; cells = byte_cell 9 ∷ byte_cell 7 ∷ byte_cell 7 ∷ byte_cell 7 ∷ [] }) ∷ []

nine_is_written : Writes (Some sevens ∷ []) (at 0 0) 1 written
nine_is_written = record { block = sevens; cells = byte_cell 9 ∷ []; live = refl; many = refl; within = omega arith; made = refl }

static_is_written : KeepsOthers 1 (λ number. false) (imaged false (0 ∷ [])) (imaged false (0 ∷ [])) (held_as (Some sevens ∷ []) []) (held_as written []) (held_as (Some sevens ∷ []) []) (held_as written [])
static_is_written =
    both_store_keep 1 (λ number. false) (imaged false (0 ∷ [])) (held_as (Some sevens ∷ []) []) (held_as (Some sevens ∷ []) []) refl (at 0 0) (at 0 0) 1 1 written written nine_is_written nine_is_written (record { block = refl; offset = refl })

-- a piece that begins a block of C on a room of its caller takes what isn't its own
onto_a_callers_room : KeepsOthers 1 (λ number. false) (imaged false []) (imaged false (0 ∷ [])) (held_as [] []) (held_as (Some (new_block 4 4) ∷ []) []) (held_as (Some sevens ∷ []) []) (held_as (Some sevens ∷ []) []) → ⊥
onto_a_callers_room keeps = let late : 1 ≤ 0 = keeps.past 0 0 (omega arith) refl in omega (arith, late)

-- ---- stores

-- a local that held a pointer when its object died is no room for the next one where the program has a bit-field member ..
abbrev pointer_local : Block
pointer_local = record { align = 8; cells = pointer_bytes (Object (at 0 0)) }

no_room_of_pointer : HasRoom true 8 8 pointer_local → ⊥
no_room_of_pointer room =
    let others : List Cell = map (λ index. PtrByte (Object (at 0 0)) index) (1 ∷ 2 ∷ 3 ∷ 4 ∷ 5 ∷ 6 ∷ 7 ∷ []) in
    let byte : IsByte (PtrByte (Object (at 0 0)) 0) = All-head IsByte (PtrByte (Object (at 0 0)) 0) others (room.bytes refl) in
    let same : PtrByte (Object (at 0 0)) 0 ≡ Bits byte.0 255 = byte.1 in
    cc

-- .. until it gets zero bytes, while it is vacant
zeroed : after_fill (Some pointer_local ∷ []) (at 0 0) 0 8 ≡ Ok (Some (fresh_block true 8 8) ∷ [])
zeroed = refl

room_of_zeros : HasRoom true 8 8 (fresh_block true 8 8)
room_of_zeros = record {
  same_size = refl;
  enough_align = omega arith;
  aligned = omega arith;
  bytes = λ e. All-replicate IsByte 8 (byte_cell 0) (0, refl);
}

-- `x = 9` in an object of which no bit was set, and in its local
abbrev nine : Block
nine = record { align = 4; cells = byte_cell 9 ∷ byte_cell 0 ∷ byte_cell 0 ∷ byte_cell 0 ∷ [] }

stored_in_crate : after_put (Some sevens ∷ []) (at 0 0) (Whole 32 true) (Number (pos 9)) ≡ Ok (Some nine ∷ [])
stored_in_crate = refl

begun_held : HeldStands (imaged false (0 ∷ [])) (held_as (Some (new_block 4 4) ∷ []) []) (held_as (Some sevens ∷ []) [])
begun_held = record { memories = begun; heaps = record { given = λ number e. cc; lives = tt; made = λ number e. cc } }

nine_leaves : StoreLeaves (imaged false (0 ∷ [])) (held_as (Some (new_block 4 4) ∷ []) []) (held_as (Some sevens ∷ []) []) (Some nine ∷ []) (after_put (Some sevens ∷ []) (at 0 0) (Whole 32 true) (Number (pos 9)))
nine_leaves =
    value_leaves (imaged false (0 ∷ [])) (held_as (Some (new_block 4 4) ∷ []) []) (held_as (Some sevens ∷ []) []) (Some nine ∷ []) (at 0 0) (at 0 0) begun_held (record { block = refl; offset = refl }) (Whole 32 true) (Number (pos 9)) (Number (pos 9)) refl nine_in_range (ValueBelow.same_number (pos 9)) refl
  where
    nine_in_range : IsValueOf (Whole 32 true) (Number (pos 9))
    nine_in_range = (omega arith, omega arith)

-- a structure of three bytes that is stored one byte behind where it was read: C stores the cells that it read, the crate copies them
abbrev one_to_four : List ℕ → Block
one_to_four numbers = record { align = 1; cells = map byte_cell numbers }

record_in_c : after_put_record (Some (one_to_four (1 ∷ 2 ∷ 3 ∷ 4 ∷ [])) ∷ []) (at 0 1) 1 (map byte_cell (1 ∷ 2 ∷ 3 ∷ [])) ≡ Ok (Some (one_to_four (1 ∷ 1 ∷ 2 ∷ 3 ∷ [])) ∷ [])
record_in_c = refl

record_in_crate : after_copy (Some (one_to_four (1 ∷ 2 ∷ 3 ∷ 4 ∷ [])) ∷ []) (at 0 0) (at 0 1) 3 ≡ Ok (Some (one_to_four (1 ∷ 1 ∷ 2 ∷ 3 ∷ [])) ∷ [])
record_in_crate = refl

abbrev found_as : List Cell → Result (List Cell) Fault
found_as cells = Ok cells

-- a place whose bytes are others holds no such structure
holds_no_other : PlaceHolds (imaged false (0 ∷ [])) (Some (one_to_four (1 ∷ 2 ∷ [])) ∷ []) 1 (Object (at 0 0)) (byte_cell 2 ∷ []) → ⊥
holds_no_other holds =
    let here : at 0 0 ≡ holds.at = one_place (at 0 0) holds.at holds.value_is in
    let found : record_at (Some (one_to_four (1 ∷ 2 ∷ [])) ∷ []) (at 0 0) 1 1 ≡ Ok holds.cells = subst (λ p. record_at (Some (one_to_four (1 ∷ 2 ∷ [])) ∷ []) p 1 1 ≡ Ok holds.cells) (sym here) holds.found in
    let cells : byte_cell 1 ∷ [] ≡ holds.cells = one_list (byte_cell 1 ∷ []) holds.cells found in
    let below : CellsBelow (imaged false (0 ∷ [])) (byte_cell 2 ∷ []) (byte_cell 1 ∷ []) = subst (CellsBelow (imaged false (0 ∷ [])) (byte_cell 2 ∷ [])) (sym cells) holds.below in
    let bit : 1 ≡ 0 = (below.0.each 0 (omega arith) is_bit).1 in
    omega (arith, bit)
  where
    one_list : (first second : List Cell) → found_as first ≡ found_as second → first ≡ second
    one_list first second e = cc

    is_bit : bit_of 0 255 ≡ 1
    is_bit = refl
