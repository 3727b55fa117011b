use Rattle.std.proofs.Common.{◌≡◌, ◌++◌, Ok}
use Rattle.cr_world.specs.Texts.{text_at}
use Rattle.cx_mean.specs.Operands.{accessed}
use Rattle.mem_bytes.specs.Access.{and_then}
use Rattle.cx_outside.proofs.texts.text_from.Given as goal

-- the bytes so far, and then the text from the offset on, are the text
abbrev pub invariant-loop-offset : goal.invariant-loop-offset
invariant-loop-offset g l = and_then (accessed (text_at (g.S.Store.memory l.store) (record { block = l.at.block; offset = l.offset }))) (λ others. Ok (l.bytes.items ++ others))
    ≡ accessed (text_at (g.S.Store.memory l.store) l.at)
