-- Worked calls of external functions, in C and in the crate, and what is wrong with those that no law has.
use Rattle.std.proofs.Common.{◌≡◌, ℕ, ◌+◌, pos, negsuc, true, false, List, [], ◌∷◌, map, Option, Some, None, Ok, Err, refl, codes}
use Rattle.cr_base.specs.Layout.{most_bytes}
use Rattle.cr_world.specs.Held.{Held, access, through_null, overlapping, fresh_block}
use Rattle.cr_world.specs.Known.{allocates, frees, copies, fills, exits, gives, gives_nothing, ends_program, wants_block, fails, effect}
use Rattle.cr_world.specs.Texts.{text_in}
use Rattle.cr_world.specs.World.{World, open_ended, trail_of, granted, answered}
use Rattle.ext_calls.specs.declared.call.Call.{Call}
use Rattle.mem_bytes.specs.declared.cell.Cell.TheVariants.{Bits}
use Rattle.mem_bytes.specs.declared.fault.Fault.{Fault}
use Rattle.mem_bytes.specs.declared.fault.Fault.TheVariants.{Dead, Unset}
use Rattle.mem_bytes.specs.declared.value.Value.{Value}
use Rattle.mem_bytes.specs.declared.value.Value.TheVariants.{Whole, Null, Object}
use Rattle.mem_bytes.specs.Memory.{Block, Blocks, unset_cell, byte_cell}
use Rattle.lift_stands.specs.Stands.{Images}
use Rattle.lift_stands.specs.Worlds.{WorldsStand}
use Rattle.lift_stands_known.specs.Effects.{EffectStands}

abbrev to : ℕ → ℕ → Value
to block offset = Object (record { block = block; offset = offset })

abbrev count : ℕ → Value
count n = Whole (pos n)

abbrev held_as : Blocks → List ℕ → Held
held_as blocks heap = record { blocks = blocks; heap = heap }

abbrev bytes : List ℕ → Option Block
bytes numbers = Some (record { align = 4; cells = map byte_cell numbers })

-- block 0 of C is block 1 of the crate
abbrev images : Images
images = record { blocks = 1 ∷ []; functions = λ number. None; in_bytes = false }

-- ---- the same effect

set_in_c : effect fills (to 0 1 ∷ Whole (negsuc 0) ∷ count 2 ∷ []) (held_as (bytes (1 ∷ 2 ∷ 3 ∷ []) ∷ []) []) ≡ gives (to 0 1) (held_as (bytes (1 ∷ 255 ∷ 255 ∷ []) ∷ []) [])
set_in_c = refl

set_in_crate : effect fills (to 1 1 ∷ Whole (negsuc 0) ∷ count 2 ∷ []) (held_as (None ∷ bytes (1 ∷ 2 ∷ 3 ∷ []) ∷ []) []) ≡ gives (to 1 1) (held_as (None ∷ bytes (1 ∷ 255 ∷ 255 ∷ []) ∷ []) [])
set_in_crate = refl

-- bytes that overlap are moved alike, and copied in neither
moved_in_c : effect (copies true) (to 0 1 ∷ to 0 0 ∷ count 2 ∷ []) (held_as (bytes (1 ∷ 2 ∷ 3 ∷ []) ∷ []) []) ≡ gives (to 0 1) (held_as (bytes (1 ∷ 1 ∷ 2 ∷ []) ∷ []) [])
moved_in_c = refl

moved_in_crate : effect (copies true) (to 1 1 ∷ to 1 0 ∷ count 2 ∷ []) (held_as (None ∷ bytes (1 ∷ 2 ∷ 3 ∷ []) ∷ []) []) ≡ gives (to 1 1) (held_as (None ∷ bytes (1 ∷ 1 ∷ 2 ∷ []) ∷ []) [])
moved_in_crate = refl

copied_in_c : effect (copies false) (to 0 1 ∷ to 0 0 ∷ count 2 ∷ []) (held_as (bytes (1 ∷ 2 ∷ 3 ∷ []) ∷ []) []) ≡ fails overlapping
copied_in_c = refl

-- two live blocks of C with one image: their bytes don't overlap in C, and do in the crate
apart_in_c : effect (copies false) (to 1 0 ∷ to 0 0 ∷ count 1 ∷ []) (held_as (bytes (1 ∷ []) ∷ bytes (2 ∷ []) ∷ []) []) ≡ gives (to 1 0) (held_as (bytes (1 ∷ []) ∷ bytes (1 ∷ []) ∷ []) [])
apart_in_c = refl

one_in_crate : effect (copies false) (to 0 0 ∷ to 0 0 ∷ count 1 ∷ []) (held_as (bytes (1 ∷ []) ∷ []) []) ≡ fails overlapping
one_in_crate = refl

-- a copy of no bytes gives even a pointer to what has died, and sets nothing; `memset` of none needs a live place
nothing_copied : effect (copies false) (to 0 0 ∷ Null ∷ count 0 ∷ []) (held_as (None ∷ []) []) ≡ gives (to 0 0) (held_as (None ∷ []) [])
nothing_copied = refl

nothing_set : effect fills (to 0 0 ∷ Whole (pos 9) ∷ count 0 ∷ []) (held_as (None ∷ []) []) ≡ fails (access Dead)
nothing_set = refl

null_freed : effect frees (Null ∷ []) (held_as [] []) ≡ gives_nothing (held_as [] [])
null_freed = refl

ends_alike : effect exits (Whole (pos 3) ∷ []) (held_as [] []) ≡ ends_program (pos 3)
ends_alike = refl

-- what has no meaning in C stands for anything, and nothing else does
not_another_status : (held other : Held) → EffectStands images held other false (ends_program (pos 3)) (ends_program (pos 4)) → ⊥
not_another_status held other stands = cc

not_another_kind : (held other : Held) → EffectStands images held other false (ends_program (pos 3)) (fails through_null) → ⊥
not_another_kind held other stands = cc

not_unset : (held other : Held) → EffectStands images held other true (wants_block false 4) (wants_block false 4) → ⊥
not_unset held other stands = cc

-- ---- `calloc(1, n)` for `malloc(n)`

wanted_in_c : effect (allocates false) (count 12 ∷ []) (held_as [] []) ≡ wants_block false 12
wanted_in_c = refl

wanted_in_crate : effect (allocates true) (count 1 ∷ count 12 ∷ []) (held_as [] []) ≡ wants_block true 12
wanted_in_crate = refl

-- null at a size that no object has, and no answer is taken in either
too_large_in_c : effect (allocates false) (count (most_bytes + 1) ∷ []) (held_as [] []) ≡ gives Null (held_as [] [])
too_large_in_c = refl

too_large_in_crate : effect (allocates true) (count 1 ∷ count (most_bytes + 1) ∷ []) (held_as [] []) ≡ gives Null (held_as [] [])
too_large_in_crate = refl

-- `calloc(n, 1)` would do as well, and `calloc(n, n)` wouldn't
not_the_square : EffectStands images (held_as [] []) (held_as [] []) true (wants_block false 12) (effect (allocates true) (count 12 ∷ count 12 ∷ []) (held_as [] [])) → ⊥
not_the_square stands = cc

-- ---- answers

abbrev world_of : Blocks → World
world_of blocks = record { held = held_as blocks []; made = []; answers = pos 0 ∷ pos 5 ∷ []; terms = open_ended }

-- an answer of 0 is null in both, and any other a block, whose bytes the crate may have as 0
refused_alike : granted {F = Fault} false 4 (world_of []) ≡ Ok (record { value = Null; world = record { held = held_as [] []; made = []; answers = pos 5 ∷ []; terms = open_ended } })
refused_alike = refl

given_in_crate : granted {F = Fault} true 4 (record { held = held_as (bytes (7 ∷ []) ∷ []) []; made = []; answers = pos 5 ∷ []; terms = open_ended }) ≡ Ok (record { value = to 1 0; world = record { held = held_as (bytes (7 ∷ []) ∷ Some (fresh_block true 4 16) ∷ []) (1 ∷ []); made = []; answers = []; terms = open_ended } })
given_in_crate = refl

abbrev shows : Call
shows = record { name = codes "show"; args = [] }

answered_at_end : answered {F = Fault} shows (record { held = held_as [] []; made = []; answers = []; terms = open_ended }) ≡ Ok (record { value = pos 0; world = record { held = held_as [] []; made = record { call = shows; answer = pos 0 } ∷ []; answers = []; terms = open_ended } })
answered_at_end = refl

-- a run that was seen over a store is on other terms: what the store refuses is told by all of its blocks, and the crate has others
refused_by_store : (world : World) → WorldsStand images (record world { terms = trail_of None }) (world_of []) → ⊥
refused_by_store world stands = let terms_are : trail_of None ≡ open_ended = stands.terms in cc

-- ---- texts

-- bytes that C has set are the crate's, so the text is one, whatever stands behind it
alike : text_in (byte_cell 104 ∷ byte_cell 105 ∷ byte_cell 0 ∷ Bits 7 255 ∷ []) ≡ text_in (byte_cell 104 ∷ byte_cell 105 ∷ byte_cell 0 ∷ unset_cell ∷ [])
alike = refl

-- but not the other way round: where C's text has no end, since its last byte is unset, the crate's may have one
no_end_in_c : text_in (byte_cell 104 ∷ unset_cell ∷ []) ≡ Err Unset
no_end_in_c = refl

end_in_crate : text_in (byte_cell 104 ∷ byte_cell 0 ∷ []) ≡ Ok (104 ∷ [])
end_in_crate = refl
