use Rattle.std.proofs.Common.{◌≡◌, ◌++◌, Ok}
use Rattle.cr_world.specs.Texts.{text_at}
use Rattle.rs_mean.specs.World.{cause_of, or_cause, then_try}
use Rattle.rs_machine.proofs.events.text_from.Given as goal

-- the bytes so far, and then the text from the offset on, are the text
abbrev pub invariant-loop-offset : goal.invariant-loop-offset
invariant-loop-offset g l = then_try (or_cause cause_of (text_at (g.S.Store.memory l.store) (record { block = l.at.block; offset = l.offset }))) (λ others. Ok (l.bytes.items ++ others))
    ≡ or_cause cause_of (text_at (g.S.Store.memory l.store) l.at)
