-- A worked example: the blocks that a run makes, with their sizes and alignments (ISO C99, 6.2.4, 6.7.2.1 and 7.20.3).
use Rattle.std.proofs.Common.{◌≡◌, ℕ, pos, false, List, [], ◌∷◌, map, Option, Some, None, option_map, codes, refl}
use Rattle.cr_base.specs.declared.layout.Laid.{Laid}
use Rattle.cr_world.specs.Known.{known_table}
use Rattle.cr_world.specs.World.{blocks_of, open_ended}
use Rattle.cx_core.specs.Layouts.{layouts_of}
use Rattle.cx_core.specs.Trees.{CProgram}
use Rattle.cx_mean.proofs.Programs.{char_t, long_t, size_t, to_void, array_of, record_t, named_member, one_record, n, number_as, calls_as, decl_to, give, static, local, main_fun, program_of, silent}
use Rattle.mem_bytes.specs.Memory.{Block, Blocks, size_of}
use Rattle.cx_typed_runs.specs.Blocks.{run_after}

-- char x1[3]; struct s { long a; char b; } x2; int main(void) { void *x3 = malloc(5); return 0; }
abbrev the_program : CProgram
the_program = program_of (one_record false (named_member (codes "a") long_t ∷ named_member (codes "b") char_t ∷ []))
    (static 1 (array_of 3 char_t) [] ∷ static 2 (record_t 0) [] ∷ local 3 to_void ∷ [])
    (main_fun (3 ∷ []) (decl_to 3 (calls_as to_void 103 (number_as size_t (pos 5) ∷ [])) ∷ give (n 0) ∷ []) ∷ [])

-- the size and the alignment of each block that was made, and none where it has died
abbrev shapes : Blocks → List (Option Laid)
shapes blocks = map (option_map (λ (block : Block). record { size = size_of block; align = block.align })) blocks

abbrev shapes_after : ℕ → List (Option Laid)
shapes_after steps = shapes (blocks_of (run_after the_program [] open_ended silent steps).world)

abbrev bytes : ℕ → ℕ → Option Laid
bytes size align = Some (record { size = size; align = align })

-- each of the first two steps makes a block, so no bound below the number of steps is one for all runs
two_statics : shapes_after 2 ≡ bytes 3 1 ∷ bytes 16 8 ∷ []
unfolding layouts_of known_table
two_statics = refl

-- the pointer dies where `main` returns, and what was allocated lives on
at_the_end : shapes_after 30 ≡ bytes 3 1 ∷ bytes 16 8 ∷ None ∷ bytes 5 16 ∷ []
unfolding layouts_of known_table
at_the_end = refl
