-- Texts: the bytes at a pointer up to the first zero byte (ISO C99, 7.1.1p1).
use Rattle.std.specs.Prelude.{ℕ, zero, suc, ◌==◌, if◌then◌else◌, List, [], ◌∷◌, drop, Result, Ok, Err}
use Rattle.mem_bytes.specs.declared.cell.Cell.{Cell}
use Rattle.mem_bytes.specs.declared.cell.Cell.TheVariants.{Bits, PtrByte}
use Rattle.mem_bytes.specs.declared.fault.Fault.{Fault}
use Rattle.mem_bytes.specs.declared.fault.Fault.TheVariants.{Outside, Unset, MixedPointer}
use Rattle.mem_bytes.specs.declared.value.Ptr.{Ptr}
use Rattle.mem_bytes.specs.declared.value.Value.{Value}
use Rattle.mem_bytes.specs.declared.value.Value.TheVariants.{Whole, Null, Object, Code}
use Rattle.mem_bytes.specs.Access.{and_then, live_read}
use Rattle.mem_bytes.specs.Memory.{Blocks, live_block}
use Rattle.cr_world.specs.Held.{HeldFault, access, through_null, wrong_kind}

-- a byte of a text, before what follows it; the zero byte ends the text
abbrev pub text_from : ℕ → Result (List ℕ) Fault → Result (List ℕ) Fault
text_from zero others = Ok []
text_from (suc n) others = and_then others (λ bytes. Ok (suc n ∷ bytes))

-- the text that cells begin with: each byte up to the zero byte has all its bits set and isn't a pointer's, and the
-- zero byte is among them
abbrev pub text_in : List Cell → Result (List ℕ) Fault
text_in [] = Err Outside
text_in (Bits value set ∷ cells) = if set == 255 then text_from value (text_in cells) else Err Unset
text_in (PtrByte of index ∷ cells) = Err MixedPointer

-- the text at a place
abbrev pub text_at : Blocks → Ptr → Result (List ℕ) Fault
text_at blocks at = live_read (live_block blocks at.block) (λ block. text_in (drop at.offset block.cells))

abbrev pub found : Result (List ℕ) Fault → Result (List ℕ) HeldFault
found (Ok text) = Ok text
found (Err fault) = Err (access fault)

-- the text at a pointer
abbrev pub text_of : Blocks → Value → Result (List ℕ) HeldFault
text_of blocks (Object at) = found (text_at blocks at)
text_of blocks Null = Err through_null
text_of blocks (Whole number) = Err wrong_kind
text_of blocks (Code number) = Err wrong_kind
