-- Worked examples of texts (ISO C99, 7.1.1p1).
use Rattle.std.proofs.Common.{◌≡◌, ℕ, pos, List, [], ◌∷◌, Some, None, Ok, Err, refl}
use Rattle.mem_bytes.specs.declared.cell.Cell.{Cell}
use Rattle.mem_bytes.specs.declared.cell.Cell.TheVariants.{Bits, PtrByte}
use Rattle.mem_bytes.specs.declared.fault.Fault.TheVariants.{Dead, Outside, Unset, MixedPointer}
use Rattle.mem_bytes.specs.declared.value.Value.{Value}
use Rattle.mem_bytes.specs.declared.value.Value.TheVariants.{Whole, Null, Object, Code}
use Rattle.mem_bytes.specs.Memory.{Block, Blocks, byte_cell}
use Rattle.cr_world.specs.Held.{access, through_null, wrong_kind}
use Rattle.cr_world.specs.Texts.{text_of}

abbrev block_of : List Cell → Block
block_of cells = record { align = 1; cells = cells }

-- a dead block; "hi" with a byte behind its end; "ab" that has no zero byte; one whose second byte is unset; one whose zero byte
-- has an unset bit; and one with a pointer's byte
abbrev memory : Blocks
memory =
    None
    ∷ Some (block_of (byte_cell 104 ∷ byte_cell 105 ∷ byte_cell 0 ∷ byte_cell 33 ∷ []))
    ∷ Some (block_of (byte_cell 97 ∷ byte_cell 98 ∷ []))
    ∷ Some (block_of (byte_cell 97 ∷ Bits 98 254 ∷ byte_cell 0 ∷ []))
    ∷ Some (block_of (byte_cell 97 ∷ Bits 0 127 ∷ []))
    ∷ Some (block_of (byte_cell 97 ∷ PtrByte (Code 1) 0 ∷ byte_cell 0 ∷ []))
    ∷ []

abbrev to : ℕ → ℕ → Value
to block offset = Object (record { block = block; offset = offset })

whole_text : text_of memory (to 1 0) ≡ Ok (104 ∷ 105 ∷ [])
whole_text = refl

text_from_inside : text_of memory (to 1 1) ≡ Ok (105 ∷ [])
text_from_inside = refl

empty_text : text_of memory (to 1 2) ≡ Ok []
empty_text = refl

behind_the_zero : text_of memory (to 1 3) ≡ Err (access Outside)
behind_the_zero = refl

no_zero_byte : text_of memory (to 2 0) ≡ Err (access Outside)
no_zero_byte = refl

past_the_end : text_of memory (to 1 4) ≡ Err (access Outside)
past_the_end = refl

byte_unset : text_of memory (to 3 0) ≡ Err (access Unset)
byte_unset = refl

zero_byte_unset : text_of memory (to 4 0) ≡ Err (access Unset)
zero_byte_unset = refl

pointer_in_text : text_of memory (to 5 0) ≡ Err (access MixedPointer)
pointer_in_text = refl

dead_text : text_of memory (to 0 0) ≡ Err (access Dead)
dead_text = refl

null_text : text_of memory Null ≡ Err through_null
null_text = refl

code_text : text_of memory (Code 1) ≡ Err wrong_kind
code_text = refl

number_text : text_of memory (Whole (pos 104)) ≡ Err wrong_kind
number_text = refl
