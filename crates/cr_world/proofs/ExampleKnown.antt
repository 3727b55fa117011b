-- Worked examples of what the known functions do (ISO C99, 7.20.3, 7.20.4 and 7.21).
use Rattle.std.proofs.Common.{◌≡◌, ℕ, pos, negsuc, true, false, List, [], ◌∷◌, map, Some, None, refl, codes}
use Rattle.mem_bytes.specs.declared.cell.Cell.TheVariants.{Bits}
use Rattle.mem_bytes.specs.declared.fault.Fault.TheVariants.{Dead, Outside}
use Rattle.mem_bytes.specs.declared.value.Value.{Value}
use Rattle.mem_bytes.specs.declared.value.Value.TheVariants.{Whole, Null, Object, Code}
use Rattle.mem_bytes.specs.Memory.{Block, byte_cell}
use Rattle.cr_world.specs.Held.{Held, access, through_null, not_allocated, overlapping, wrong_kind}
use Rattle.cr_world.specs.Known.{allocates, frees, copies, fills, exits, aborts, known, known_table, known_named, no_value, int_value, size_value, to_bytes, to_const_bytes, gives, gives_nothing, ends_program, wants_block, fails, effect, allocated}

-- a dead block, one of eight bytes that `malloc` gave, and a static one of four
abbrev block_of : List ℕ → Block
block_of bytes = record { align = 4; cells = map byte_cell bytes }

abbrev held_as : List ℕ → List ℕ → Held
held_as eight four = record {
  blocks = None ∷ Some (block_of eight) ∷ Some (block_of four) ∷ [];
  heap = 1 ∷ [];
}

abbrev held : Held
held = held_as (1 ∷ 2 ∷ 3 ∷ 4 ∷ 5 ∷ 6 ∷ 7 ∷ 8 ∷ []) (9 ∷ 10 ∷ 11 ∷ 12 ∷ [])

abbrev to : ℕ → ℕ → Value
to block offset = Object (record { block = block; offset = offset })

abbrev count : ℕ → Value
count n = Whole (pos n)

-- ---- the table

malloc_named : known_named (codes "malloc") ≡ Some (known (codes "malloc") (allocates false) to_bytes (size_value ∷ []))
unfolding known_table
malloc_named = refl

calloc_named : known_named (codes "calloc") ≡ Some (known (codes "calloc") (allocates true) to_bytes (size_value ∷ size_value ∷ []))
unfolding known_table
calloc_named = refl

free_named : known_named (codes "free") ≡ Some (known (codes "free") frees no_value (to_bytes ∷ []))
unfolding known_table
free_named = refl

memcpy_named : known_named (codes "memcpy") ≡ Some (known (codes "memcpy") (copies false) to_bytes (to_bytes ∷ to_const_bytes ∷ size_value ∷ []))
unfolding known_table
memcpy_named = refl

memmove_named : known_named (codes "memmove") ≡ Some (known (codes "memmove") (copies true) to_bytes (to_bytes ∷ to_const_bytes ∷ size_value ∷ []))
unfolding known_table
memmove_named = refl

memset_named : known_named (codes "memset") ≡ Some (known (codes "memset") fills to_bytes (to_bytes ∷ int_value ∷ size_value ∷ []))
unfolding known_table
memset_named = refl

exit_named : known_named (codes "exit") ≡ Some (known (codes "exit") exits no_value (int_value ∷ []))
unfolding known_table
exit_named = refl

abort_named : known_named (codes "abort") ≡ Some (known (codes "abort") aborts no_value [])
unfolding known_table
abort_named = refl

putchar_unknown : known_named (codes "putchar") ≡ None
unfolding known_table
putchar_unknown = refl

realloc_unknown : known_named (codes "realloc") ≡ None
unfolding known_table
realloc_unknown = refl

-- ---- malloc and calloc

unset_wanted : effect (allocates false) (count 8 ∷ []) held ≡ wants_block false 8
unset_wanted = refl

nothing_wanted : effect (allocates false) (count 0 ∷ []) held ≡ wants_block false 0
nothing_wanted = refl

zeroed_wanted : effect (allocates true) (count 3 ∷ count 4 ∷ []) held ≡ wants_block true 12
zeroed_wanted = refl

largest_wanted : effect (allocates false) (count 16777216 ∷ []) held ≡ wants_block false 16777216
largest_wanted = refl

-- a larger one isn't given, and no answer is taken
too_large : effect (allocates false) (count 16777217 ∷ []) held ≡ gives Null held
too_large = refl

-- the product isn't taken modulo 2^64
product_too_large : effect (allocates true) (count 4294967296 ∷ count 4294967296 ∷ []) held ≡ gives Null held
product_too_large = refl

size_no_number : effect (allocates false) (Null ∷ []) held ≡ fails wrong_kind
size_no_number = refl

size_negative : effect (allocates false) (Whole (negsuc 0) ∷ []) held ≡ fails wrong_kind
size_negative = refl

size_missing : effect (allocates false) [] held ≡ fails wrong_kind
size_missing = refl

-- what is given is a new block, which is allocated, aligned for every type
block_given : allocated true false 2 (record { blocks = None ∷ []; heap = [] }) ≡ record { value = to 1 0; held = record { blocks = None ∷ Some (record { align = 16; cells = Bits 0 0 ∷ Bits 0 0 ∷ [] }) ∷ []; heap = 1 ∷ [] } }
block_given = refl

zero_block_given : allocated true true 2 (record { blocks = []; heap = [] }) ≡ record { value = to 0 0; held = record { blocks = Some (record { align = 16; cells = byte_cell 0 ∷ byte_cell 0 ∷ [] }) ∷ []; heap = 0 ∷ [] } }
zero_block_given = refl

null_given : allocated false true 2 held ≡ record { value = Null; held = held }
null_given = refl

-- ---- free

freed_block : effect frees (to 1 0 ∷ []) held ≡ gives_nothing (record { blocks = None ∷ None ∷ Some (block_of (9 ∷ 10 ∷ 11 ∷ 12 ∷ [])) ∷ []; heap = [] })
freed_block = refl

freed_twice : effect frees (to 1 0 ∷ []) (record { blocks = None ∷ None ∷ []; heap = [] }) ≡ fails not_allocated
freed_twice = refl

freed_null : effect frees (Null ∷ []) held ≡ gives_nothing held
freed_null = refl

freed_inside : effect frees (to 1 1 ∷ []) held ≡ fails not_allocated
freed_inside = refl

freed_static : effect frees (to 2 0 ∷ []) held ≡ fails not_allocated
freed_static = refl

freed_dead : effect frees (to 0 0 ∷ []) held ≡ fails not_allocated
freed_dead = refl

freed_code : effect frees (Code 1 ∷ []) held ≡ fails wrong_kind
freed_code = refl

freed_number : effect frees (count 1 ∷ []) held ≡ fails wrong_kind
freed_number = refl

-- of several allocated blocks just the one that is freed isn't allocated any more
freed_one : effect frees (to 1 0 ∷ []) (record { blocks = Some (block_of []) ∷ Some (block_of []) ∷ Some (block_of []) ∷ []; heap = 2 ∷ 1 ∷ 0 ∷ [] }) ≡ gives_nothing (record { blocks = Some (block_of []) ∷ None ∷ Some (block_of []) ∷ []; heap = 2 ∷ 0 ∷ [] })
freed_one = refl

-- ---- memcpy

copied_apart : effect (copies false) (to 1 0 ∷ to 2 0 ∷ count 4 ∷ []) held ≡ gives (to 1 0) (held_as (9 ∷ 10 ∷ 11 ∷ 12 ∷ 5 ∷ 6 ∷ 7 ∷ 8 ∷ []) (9 ∷ 10 ∷ 11 ∷ 12 ∷ []))
copied_apart = refl

-- places in one object that touch don't overlap
copied_beside : effect (copies false) (to 1 0 ∷ to 1 4 ∷ count 4 ∷ []) held ≡ gives (to 1 0) (held_as (5 ∷ 6 ∷ 7 ∷ 8 ∷ 5 ∷ 6 ∷ 7 ∷ 8 ∷ []) (9 ∷ 10 ∷ 11 ∷ 12 ∷ []))
copied_beside = refl

copied_over : effect (copies false) (to 1 0 ∷ to 1 3 ∷ count 4 ∷ []) held ≡ fails overlapping
copied_over = refl

copied_back_over : effect (copies false) (to 1 3 ∷ to 1 0 ∷ count 4 ∷ []) held ≡ fails overlapping
copied_back_over = refl

copied_to_itself : effect (copies false) (to 1 0 ∷ to 1 0 ∷ count 4 ∷ []) held ≡ fails overlapping
copied_to_itself = refl

copied_past_end : effect (copies false) (to 1 0 ∷ to 2 1 ∷ count 4 ∷ []) held ≡ fails (access Outside)
copied_past_end = refl

copied_to_past_end : effect (copies false) (to 2 1 ∷ to 1 0 ∷ count 4 ∷ []) held ≡ fails (access Outside)
copied_to_past_end = refl

-- what leaves its object is found before an overlap
outside_before_overlap : effect (copies false) (to 1 2 ∷ to 1 0 ∷ count 8 ∷ []) held ≡ fails (access Outside)
outside_before_overlap = refl

copied_to_dead : effect (copies false) (to 0 0 ∷ to 1 0 ∷ count 1 ∷ []) held ≡ fails (access Dead)
copied_to_dead = refl

copied_from_dead : effect (copies false) (to 1 0 ∷ to 0 0 ∷ count 1 ∷ []) held ≡ fails (access Dead)
copied_from_dead = refl

copied_from_null : effect (copies false) (to 1 0 ∷ Null ∷ count 1 ∷ []) held ≡ fails through_null
copied_from_null = refl

copied_to_null : effect (copies false) (Null ∷ to 1 0 ∷ count 1 ∷ []) held ≡ fails through_null
copied_to_null = refl

null_to_null : effect (copies false) (Null ∷ Null ∷ count 1 ∷ []) held ≡ fails through_null
null_to_null = refl

-- a dead object is found before a null pointer
dead_and_null : effect (copies false) (to 0 0 ∷ Null ∷ count 1 ∷ []) held ≡ fails (access Dead)
dead_and_null = refl

null_and_dead : effect (copies false) (Null ∷ to 0 0 ∷ count 1 ∷ []) held ≡ fails (access Dead)
null_and_dead = refl

copied_code : effect (copies false) (Code 1 ∷ to 1 0 ∷ count 1 ∷ []) held ≡ fails wrong_kind
copied_code = refl

-- a copy of nothing looks at nothing
nothing_copied : effect (copies false) (to 0 9 ∷ Null ∷ count 0 ∷ []) held ≡ gives (to 0 9) held
nothing_copied = refl

-- ---- memmove

moved_over : effect (copies true) (to 1 2 ∷ to 1 0 ∷ count 4 ∷ []) held ≡ gives (to 1 2) (held_as (1 ∷ 2 ∷ 1 ∷ 2 ∷ 3 ∷ 4 ∷ 7 ∷ 8 ∷ []) (9 ∷ 10 ∷ 11 ∷ 12 ∷ []))
moved_over = refl

moved_to_itself : effect (copies true) (to 1 0 ∷ to 1 0 ∷ count 8 ∷ []) held ≡ gives (to 1 0) held
moved_to_itself = refl

moved_past_end : effect (copies true) (to 1 2 ∷ to 1 0 ∷ count 8 ∷ []) held ≡ fails (access Outside)
moved_past_end = refl

moved_dead : effect (copies true) (to 1 0 ∷ to 0 0 ∷ count 1 ∷ []) held ≡ fails (access Dead)
moved_dead = refl

moved_null : effect (copies true) (Null ∷ to 1 0 ∷ count 1 ∷ []) held ≡ fails through_null
moved_null = refl

nothing_moved : effect (copies true) (Null ∷ Null ∷ count 0 ∷ []) held ≡ gives Null held
nothing_moved = refl

-- ---- memset

filled : effect fills (to 2 1 ∷ count 7 ∷ count 2 ∷ []) held ≡ gives (to 2 1) (held_as (1 ∷ 2 ∷ 3 ∷ 4 ∷ 5 ∷ 6 ∷ 7 ∷ 8 ∷ []) (9 ∷ 7 ∷ 7 ∷ 12 ∷ []))
filled = refl

-- the value is converted to `unsigned char`
filled_wrapped : effect fills (to 2 0 ∷ count 258 ∷ count 1 ∷ []) held ≡ gives (to 2 0) (held_as (1 ∷ 2 ∷ 3 ∷ 4 ∷ 5 ∷ 6 ∷ 7 ∷ 8 ∷ []) (2 ∷ 10 ∷ 11 ∷ 12 ∷ []))
filled_wrapped = refl

filled_negative : effect fills (to 2 3 ∷ Whole (negsuc 0) ∷ count 1 ∷ []) held ≡ gives (to 2 3) (held_as (1 ∷ 2 ∷ 3 ∷ 4 ∷ 5 ∷ 6 ∷ 7 ∷ 8 ∷ []) (9 ∷ 10 ∷ 11 ∷ 255 ∷ []))
filled_negative = refl

filled_past_end : effect fills (to 2 3 ∷ count 0 ∷ count 2 ∷ []) held ≡ fails (access Outside)
filled_past_end = refl

filled_dead : effect fills (to 0 0 ∷ count 0 ∷ count 1 ∷ []) held ≡ fails (access Dead)
filled_dead = refl

filled_null : effect fills (Null ∷ count 0 ∷ count 1 ∷ []) held ≡ fails through_null
filled_null = refl

filled_code : effect fills (Code 1 ∷ count 0 ∷ count 1 ∷ []) held ≡ fails wrong_kind
filled_code = refl

nothing_filled : effect fills (to 2 4 ∷ count 0 ∷ count 0 ∷ []) held ≡ gives (to 2 4) held
nothing_filled = refl

-- the place has to live, for no bytes too
nothing_filled_dead : effect fills (to 0 0 ∷ count 0 ∷ count 0 ∷ []) held ≡ fails (access Dead)
nothing_filled_dead = refl

nothing_filled_null : effect fills (Null ∷ count 0 ∷ count 0 ∷ []) held ≡ fails through_null
nothing_filled_null = refl

-- ---- exit and abort

exited : effect exits (Whole (negsuc 4) ∷ []) held ≡ ends_program (negsuc 4)
exited = refl

exit_by_null : effect exits (Null ∷ []) held ≡ fails wrong_kind
exit_by_null = refl

aborted : effect aborts [] held ≡ ends_program (pos 134)
aborted = refl

aborted_by : effect aborts (count 1 ∷ []) held ≡ fails wrong_kind
aborted_by = refl
