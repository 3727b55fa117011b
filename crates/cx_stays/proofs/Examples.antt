-- Worked examples: expressions whose calls are quiet, and others (ISO C99, 6.5.2.2, 7.20.3, 7.20.4 and 7.21).
use Rattle.std.proofs.Common.{◌≡◌, pos, true, false, [], ◌∷◌, Option, Some, refl, codes}
use Rattle.cr_base.specs.declared.scalar.Scalar.TheVariants.{Whole}
use Rattle.cr_world.specs.Known.{known_table}
use Rattle.cr_world.specs.World.{World, first_world, open_ended, with_memory}
use Rattle.cx_core.specs.Layouts.{layouts_of}
use Rattle.cx_core.specs.Trees.{CExpr, CProgram}
use Rattle.cx_mean.proofs.Programs.{int_t, size_t, void_t, to_void, taking, n, number_as, val, val_as, var, set, sequence, fun_pointer, calls, calls_as, calls_by, give, with_locals, local, putchar}
use Rattle.cx_mean.specs.Marks.{Range}
use Rattle.cx_mean.specs.Operands.{scalar, COperand, Frame}
use Rattle.cx_mean.specs.Settings.{setting_of}
use Rattle.cx_mean.specs.Work.{finished, begun}
use Rattle.ext_calls.specs.declared.call.Arg.TheVariants.{Whole as WholeArg}
use Rattle.mem_bytes.specs.declared.value.Value.TheVariants.{Whole as Number}
use Rattle.mem_bytes.specs.Memory.{Block, byte_cell, unset_cell}
use Rattle.cx_stays.specs.Stays.{calls_only_quiet, EvaluatesIn}

-- int main(void) { int x; void *p; return 0; }
abbrev the_program : CProgram
the_program = with_locals (local 2 int_t ∷ local 3 to_void ∷ []) (2 ∷ 3 ∷ []) (give (n 0) ∷ [])

-- x = putchar(65), a function whose effect isn't known
answered_quietly : calls_only_quiet the_program (set (var 2) (putchar (n 65))) ≡ true
unfolding known_table
answered_quietly = refl

-- malloc(8), x = 1
allocates_quietly : calls_only_quiet the_program (sequence (calls_as to_void 103 (number_as size_t (pos 8) ∷ [])) (set (var 2) (n 1))) ≡ true
unfolding known_table
allocates_quietly = refl

-- exit(x), and abort()
exits_quietly : calls_only_quiet the_program (calls_as void_t 109 (val 2 ∷ [])) ≡ true
unfolding known_table
exits_quietly = refl

aborts_quietly : calls_only_quiet the_program (calls_as void_t 110 []) ≡ true
unfolding known_table
aborts_quietly = refl

-- memset(p, 0, 4) stores in an object, also beside a call that is quiet
fills_not_quietly : calls_only_quiet the_program (sequence (putchar (n 65)) (calls_as to_void 108 (val_as to_void 3 ∷ n 0 ∷ number_as size_t (pos 4) ∷ []))) ≡ false
unfolding known_table
fills_not_quietly = refl

-- free(p) ends the life of an object
frees_not_quietly : calls_only_quiet the_program (calls_as void_t 105 (val_as to_void 3 ∷ [])) ≡ false
unfolding known_table
frees_not_quietly = refl

-- a function that a unit defines, and one that is called through a pointer, aren't taken for quiet
own_not_quietly : calls_only_quiet the_program (calls 0 []) ≡ false
own_not_quietly = refl

pointed_not_quietly : calls_only_quiet the_program (calls_by int_t (fun_pointer (taking int_t (int_t ∷ [])) 100) (n 65 ∷ [])) ≡ false
pointed_not_quietly = refl

-- ---- an evaluation

-- x = putchar(65), where x lives in the first of two blocks, and the outside answers 66
abbrev answer_stored : CExpr
answer_stored = set (var 2) (putchar (n 65))

abbrev frame : Frame
frame = record { object = 2; block = 0 } ∷ []

abbrev other_block : Option Block
other_block = Some (record { align = 1; cells = byte_cell 7 ∷ [] })

abbrev before : World
before = with_memory (Some (record { align = 4; cells = unset_cell ∷ unset_cell ∷ unset_cell ∷ unset_cell ∷ [] }) ∷ other_block ∷ []) (first_world open_ended (record { answers = pos 66 ∷ [] }))

abbrev after : World
after = record {
  held = record { blocks = Some (record { align = 4; cells = byte_cell 66 ∷ byte_cell 0 ∷ byte_cell 0 ∷ byte_cell 0 ∷ [] }) ∷ other_block ∷ []; heap = [] };
  made = record { call = record { name = codes "putchar"; args = WholeArg (Whole 32 true) (pos 65) ∷ [] }; answer = pos 66 } ∷ [];
  answers = [];
  terms = open_ended;
}

abbrev bits_of_x : Range
bits_of_x = record { block = 0; from = 0; to = 32 }

abbrev value_of_x : COperand
value_of_x = record { type = int_t; value = scalar (Number (pos 66)); marks = record { reads = []; writes = bits_of_x ∷ []; still = bits_of_x ∷ [] } }

-- the call is answered, and then its value is stored
evaluated : EvaluatesIn (setting_of the_program) frame (begun answer_stored) before (finished value_of_x) after
unfolding known_table layouts_of
evaluated = EvaluatesIn.and_then_at 0 (EvaluatesIn.and_then_called 0 EvaluatesIn.not_yet refl refl refl) refl
